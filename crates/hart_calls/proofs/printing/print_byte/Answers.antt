use Rattle.hart_calls.specs.Called.{found_full, put}
use Rattle.hart_calls.proofs.printing.print_byte.Goals as goal

pub returns-in-Ok : goal.returns-in-Ok
returns-in-Ok g c = put c.in-Ok.ensures.put

pub returns-in-Err : goal.returns-in-Err
returns-in-Err g c = found_full _ _ _ c.in-Err.ensures.full c.set_stop.ensures.set
