use Rattle.walk_laws.proofs.Loaded.{reads_are_of_ram}
use Rattle.walk_laws.proofs.laws.law_walk_loads.Goals as goal

pub returns : goal.returns
returns c = reads_are_of_ram
