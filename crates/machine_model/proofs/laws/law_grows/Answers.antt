use Rattle.machine_model.proofs.Grows.{counts_grow, output_grows, reason_stays, memory_is_stored}
use Rattle.machine_model.proofs.Fits.{output_fits}
use Rattle.machine_model.proofs.laws.law_grows.Goals as goal

pub returns-clause-counts : goal.returns-clause-counts
returns-clause-counts c = counts_grow

pub returns-clause-output : goal.returns-clause-output
returns-clause-output c = output_grows

pub returns-clause-reason : goal.returns-clause-reason
returns-clause-reason c = reason_stays

pub returns-clause-memory : goal.returns-clause-memory
returns-clause-memory c = memory_is_stored

pub returns-clause-fits : goal.returns-clause-fits
returns-clause-fits c = output_fits
