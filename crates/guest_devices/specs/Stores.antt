-- Stores on the UART and the finisher.
use Rattle.std.specs.Prelude.{◌≡◌, ℕ, Option, Some, None}
use Rattle.step_laws.specs.Map.{Word, Stop, Cons, Console}
use Rattle.machine_model.specs.declared.reason.Reason.{Reason}
use Rattle.machine_model.specs.declared.device.DeviceStore.{DeviceStore}
use Rattle.machine_model.specs.Device.{device_stored}
use Rattle.guest_ram.specs.Ports.{Shown}
use Rattle.guest_devices.specs.Output.{HasPrinted, HasSetStop}

-- what stores on devices touch
abbrev pub IsOfDevices : Word → Type 0
IsOfDevices Stop = Unit {0}
IsOfDevices Cons = Unit {0}
IsOfDevices (Console i) = Unit {0}
IsOfDevices _ = ⊥

-- what a store did, by what the reference machine's devices make of it: a byte goes to the console, the machine ends, nothing happens, or
-- there is no such register
pub data HasStoredOn (pa width value : ℕ) : Option (Unit {0}) → (p q : Shown) → Type 0 where
  puts_byte : {p q : Shown} (byte : ℕ) → device_stored pa width value ≡ Some (DeviceStore.PutsByte byte) → HasPrinted byte p q → HasStoredOn pa width value (Some tt) p q
  ends : {p q : Shown} (reason stands : Reason) → device_stored pa width value ≡ Some (DeviceStore.Ends reason) → HasSetStop reason stands p q → HasStoredOn pa width value (Some tt) p q
  ignores : {p q : Shown} → device_stored pa width value ≡ Some DeviceStore.Ignored → q ≡ p → HasStoredOn pa width value (Some tt) p q
  outside : {p q : Shown} → device_stored pa width value ≡ None → q ≡ p → HasStoredOn pa width value None p q
