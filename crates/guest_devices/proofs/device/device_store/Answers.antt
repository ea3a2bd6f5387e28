use Rattle.std.proofs.Common.{Some, refl, sym, ap, ◌∙◌}
use Rattle.guest_devices.specs.Stores.{puts_byte, ends, ignores, outside}
use Rattle.guest_devices.proofs.Goes.{device_goes}
use Rattle.guest_devices.proofs.device.device_store.Goals as goal

pub returns-in-None-clause-stored : goal.returns-in-None-clause-stored
returns-in-None-clause-stored g c = outside (sym c.device_stored.ensures ∙ c.in-None.is) refl

pub returns-in-Some-Ignored-clause-stored : goal.returns-in-Some-Ignored-clause-stored
returns-in-Some-Ignored-clause-stored g c = ignores (sym c.device_stored.ensures ∙ c.in-Some-Ignored.is ∙ ap Some c.in-Some-Ignored.field-0-is) refl

pub returns-in-Some-PutsByte-clause-stored : goal.returns-in-Some-PutsByte-clause-stored
returns-in-Some-PutsByte-clause-stored g c = puts_byte _ (sym c.device_stored.ensures ∙ c.in-Some-PutsByte.is ∙ ap Some c.in-Some-PutsByte.field-0-is) c.print.ensures.printed

pub returns-in-Some-PutsByte-clause-goes : goal.returns-in-Some-PutsByte-clause-goes
returns-in-Some-PutsByte-clause-goes g c = device_goes c.args.pa c.args.width c.args.value _ _ (puts_byte _ (sym c.device_stored.ensures ∙ c.in-Some-PutsByte.is ∙ ap Some c.in-Some-PutsByte.field-0-is) c.print.ensures.printed)

pub returns-in-Some-Ends-clause-stored : goal.returns-in-Some-Ends-clause-stored
returns-in-Some-Ends-clause-stored g c = ends _ _ (sym c.device_stored.ensures ∙ c.in-Some-Ends.is ∙ ap Some c.in-Some-Ends.field-0-is) c.set_stop.ensures.set

pub returns-in-Some-Ends-clause-goes : goal.returns-in-Some-Ends-clause-goes
returns-in-Some-Ends-clause-goes g c = device_goes c.args.pa c.args.width c.args.value _ _ (ends _ _ (sym c.device_stored.ensures ∙ c.in-Some-Ends.is ∙ ap Some c.in-Some-Ends.field-0-is) c.set_stop.ensures.set)
