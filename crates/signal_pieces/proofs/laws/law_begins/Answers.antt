use Rattle.signal_pieces.proofs.Sides.{turns_begin}
use Rattle.signal_pieces.proofs.laws.law_begins.Goals as goal

pub returns : goal.returns
returns c = turns_begin
