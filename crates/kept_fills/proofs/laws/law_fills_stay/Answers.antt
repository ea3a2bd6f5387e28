use Rattle.kept_fills.proofs.Staying.{fills_stay}
use Rattle.kept_fills.proofs.laws.law_fills_stay.Goals as goal

pub returns : goal.returns
returns c = fills_stay
