use Rattle.guest_devices.specs.Output.{full}
use Rattle.guest_devices.proofs.device.print.Goals as goal

pub returns-in-Err-clause-printed : goal.returns-in-Err-clause-printed
returns-in-Err-clause-printed g c = full _ _ c.in-Err.ensures.full c.set_stop.ensures.set
