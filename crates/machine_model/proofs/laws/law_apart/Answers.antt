use Rattle.machine_model.proofs.Uniform.{harts_are_parts, walks_stay_allowed}
use Rattle.machine_model.proofs.Owned.{own_is_own}
use Rattle.machine_model.proofs.Reading.{found_is_allowed}
use Rattle.machine_model.proofs.laws.law_apart.Goals as goal

pub returns-clause-parts : goal.returns-clause-parts
returns-clause-parts c = harts_are_parts

pub returns-clause-own : goal.returns-clause-own
returns-clause-own c = own_is_own

pub returns-clause-walks : goal.returns-clause-walks
returns-clause-walks c = walks_stay_allowed

pub returns-clause-found : goal.returns-clause-found
returns-clause-found c = found_is_allowed
