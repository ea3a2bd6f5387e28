use Rattle.run_laws.proofs.Headline.{sections_are_apart}
use Rattle.run_laws.proofs.laws.law_sections_apart.Goals as goal

pub returns : goal.returns
returns c = sections_are_apart
