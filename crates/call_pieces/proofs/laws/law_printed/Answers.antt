use Rattle.call_pieces.proofs.Printed.{bytes_served}
use Rattle.call_pieces.proofs.laws.law_printed.Goals as goal

pub returns : goal.returns
returns c = bytes_served
