-- How far the parts of a store on a device go.
use Rattle.std.proofs.Common.{◌≡◌, ℕ, Option, sym, subst, arith}
use Rattle.step_laws.specs.Map.{Stop, Cons, Console}
use Rattle.guest_ram.specs.Ports.{Shown, GoesBy}
use Rattle.guest_ram.proofs.Moves.{goes_made, goes_then, goes_at_most, goes_none}
use Rattle.guest_devices.specs.Output.{HasPrinted, put, full}
use Rattle.guest_devices.specs.Stores.{HasStoredOn, IsOfDevices, puts_byte, ends, ignores, outside}

printed_goes : (byte : ℕ) (p q : Shown) → HasPrinted byte p q → GoesBy 2 IsOfDevices p q
printed_goes byte p q (put x) = goes_then 1 1 IsOfDevices p x.mid q (goes_made IsOfDevices _ _ Cons _ _ _ x.draws tt) (goes_made IsOfDevices _ _ (Console x.place) _ _ _ x.stores tt)
printed_goes byte p q (full {mid} place stands x y) = goes_then 1 1 IsOfDevices p mid q (goes_made IsOfDevices _ _ Cons _ _ _ x.draws tt) (goes_made IsOfDevices _ _ Stop _ _ _ y.exchanges tt)

still_goes : (p q : Shown) → q ≡ p → GoesBy 2 IsOfDevices p q
still_goes p q same = subst (GoesBy 2 IsOfDevices p) (sym same) (goes_at_most 0 2 IsOfDevices p p (omega arith) (goes_none IsOfDevices p))

pub device_goes : (pa width value : ℕ) (p q : Shown) {result : Option (Unit {0})} → HasStoredOn pa width value result p q → GoesBy 2 IsOfDevices p q
device_goes pa width value p q (puts_byte byte is x) = printed_goes byte p q x
device_goes pa width value p q (ends reason stands is x) = goes_at_most 1 2 IsOfDevices p q (omega arith) (goes_made IsOfDevices _ _ Stop _ _ _ x.exchanges tt)
device_goes pa width value p q (ignores is same) = still_goes p q same
device_goes pa width value p q (outside is same) = still_goes p q same
