-- The UART and the finisher.
use Rattle.std.specs.Prelude.{ℕ, ◌/◌, ◌%◌, ◌^◌, Bool, ◌&&◌, ◌==◌, nat_le, if◌then◌else◌, Option, Some, None}
use Rattle.machine_model.specs.declared.reason.Reason.{Reason}
use Rattle.machine_model.specs.declared.device.DeviceStore.{DeviceStore}

abbrev pub is_uart : ℕ → ℕ → Bool
is_uart pa width = nat_le 0x10000000 pa && nat_le pa 0x10000007 && (width == 1)

abbrev pub is_finisher : ℕ → ℕ → Bool
is_finisher pa width = (pa == 0x100000) && (width == 4)

-- the value of a load, where there is one
abbrev pub device_value : ℕ → ℕ → Option ℕ
device_value pa width =
    if is_uart pa width then Some (if pa == 0x10000005 then 0x60 else 0) else
    if is_finisher pa width then Some 0 else None

-- low 16 bits 0x5555: pass; 0x3333: fail with bits 31 to 16; else no effect
abbrev pub finished : ℕ → DeviceStore
finished value =
    if value % 2 ^ 16 == 0x5555 then DeviceStore.Ends Reason.Pass else
    if value % 2 ^ 16 == 0x3333 then DeviceStore.Ends (Reason.Fail (value / 2 ^ 16 % 2 ^ 16)) else DeviceStore.Ignored

-- what a store on a device does, where there is one
abbrev pub device_stored : ℕ → ℕ → ℕ → Option DeviceStore
device_stored pa width value =
    if is_uart pa width then Some (if pa == 0x10000000 then DeviceStore.PutsByte (value % 256) else DeviceStore.Ignored) else
    if is_finisher pa width then Some (finished value) else None
