use Rattle.guest_gen.proofs.Whole.{assembles}
use Rattle.guest_gen.proofs.laws.law_assembles.Goals as goal

pub returns : goal.returns
returns c = assembles
