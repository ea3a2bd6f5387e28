-- The parts of an access, one behind another.
use Rattle.std.proofs.Common.{◌≡◌, ℕ, ◌+◌, ◌%◌, ◌≤◌, Bool, Result, arith, sym, subst}
use Rattle.rv64_priv.specs.declared.state.Kind.{Kind}
use Rattle.rv64_priv.specs.declared.state.Regime.{Regime}
use Rattle.rv64_exec.specs.declared.needs.AmoOp.{AmoOp}
use Rattle.step_laws.specs.declared.steps.WordOp.{WordOp}
use Rattle.step_laws.specs.declared.steps.WordOp.TheVariants.{Load, Store, Exchange}
use Rattle.machine_model.specs.Memory.{replaced}
use Rattle.step_laws.specs.Tables.{held_lock}
use Rattle.guest_ram.specs.Areas.{IsOfRam}
use Rattle.guest_ram.specs.Ports.{Shown, GoesBy, IsActing, StandsAs}
use Rattle.guest_ram.proofs.Moves.{goes_then, goes_at_most, goes_within, goes_none}
use Rattle.tlb_entry.specs.declared.books.Book.{Book}
use Rattle.tlb_fill.specs.Stepping.{IsOfFill}
use Rattle.guest_devices.specs.Stores.{IsOfDevices}
use Rattle.guest_access.specs.declared.outcomes.Got.{Got}
use Rattle.guest_access.specs.declared.reaching.Place.{Place}
use Rattle.guest_access.specs.Atomics as amo
use Rattle.guest_access.specs.Atomics.{HasExchangedFor, HasOperatedOn}
use Rattle.guest_access.specs.Storing.{HasExchanged, HasStoredIn, HasStoredOver, lost, part, whole}
use Rattle.guest_access.specs.Reaching.{CanAccess, GoesOn, HasReached}
use Rattle.guest_access.specs.Stepping.{HasStepped}
use Rattle.guest_access.specs.Touching.{IsOfAccess}
use Rattle.guest_access.proofs.Areas.{devices_access, devices_off, fill_access, ram_access, ram_off}
use Rattle.guest_access.proofs.Fills.{on_aside, on_none, on_then}
use Rattle.guest_access.proofs.Keeping.{can_stepped, goes_stepped}
use Rattle.guest_access.proofs.Reached.{can_device}

-- by at most so many steps, with the book and what the hart may do
pub record Runs (n : ℕ) (p q : Shown) (b b' : Book) (r : Regime) : Type 0 where
  pub goes_on : GoesOn p q b b' r
  pub access : CanAccess b' q
  pub goes : GoesBy n IsOfAccess p q

-- its pages were translated
pub record Arrives (p m : Shown) (b b' : Book) (r : Regime) (kind : Kind) (va width : ℕ) (section : Bool) (x : Result Place Got) : Type 0 where
  pub reached : HasReached p m b b' r kind va width section x
  pub runs : Runs 30 p m b b' r

pub arrives : (p m : Shown) (b b' : Book) (r' r : Regime) (kind : Kind) (va width : ℕ) (section : Bool) (x' x : Result Place Got) → r' ≡ r → x' ≡ x → HasReached p m b b' r' kind va width section x'
    → GoesOn p m b b' r' → CanAccess b' m → GoesBy 30 IsOfFill p m → Arrives p m b b' r kind va width section x
arrives p m b b' r' r kind va width section x' x e is reached on access goes = record {
  reached = subst (HasReached p m b b' r kind va width section) is (subst (λ (y : Regime). HasReached p m b b' y kind va width section x') e reached);
  runs = record { goes_on = subst (GoesOn p m b b') e on; access = access; goes = goes_within 30 IsOfFill IsOfAccess p m fill_access goes };
}

pub runs_none : (b : Book) (r : Regime) (p : Shown) → CanAccess b p → Runs 0 p p b b r
runs_none b r p k = record { goes_on = on_none b r p; access = k; goes = goes_none IsOfAccess p }

pub runs_step : (n : ℕ) (p m q : Shown) (b b' : Book) (r : Regime) (op : WordOp) (pa arg answer : ℕ) → Runs n p m b b' r → HasStepped op pa arg answer m q → Runs (n + 1) p q b b' r
runs_step n p m q b b' r op pa arg answer k s = let goes = goes_stepped op pa arg answer m q s in record {
  goes_on = on_then p m q b b' b' r k.goes_on (on_aside 1 IsOfRam b' r m q ram_off goes);
  access = can_stepped op pa arg answer b' m q s k.access;
  goes = goes_then n 1 IsOfAccess p m q k.goes (goes_within 1 IsOfRam IsOfAccess m q ram_access goes);
}

pub runs_device : (n : ℕ) (p m q : Shown) (b b' : Book) (r : Regime) → Runs n p m b b' r → GoesBy 2 IsOfDevices m q → StandsAs m q → held_lock q.own.steps ≡ held_lock m.own.steps → IsActing q → Runs (n + 2) p q b b' r
runs_device n p m q b b' r k goes stands held acting = record {
  goes_on = on_then p m q b b' b' r k.goes_on (on_aside 2 IsOfDevices b' r m q devices_off goes);
  access = can_device 2 b' m q goes stands held acting k.access;
  goes = goes_then n 2 IsOfAccess p m q k.goes (goes_within 2 IsOfDevices IsOfAccess m q devices_access goes);
}

pub runs_still : (n : ℕ) (p m q : Shown) (b b' : Book) (r : Regime) → Runs n p m b b' r → q ≡ m → Runs n p q b b' r
runs_still n p m q b b' r k e = subst (λ (y : Shown). Runs n p y b b' r) (sym e) k

pub runs_most : (m n : ℕ) (p q : Shown) (b b' : Book) (r : Regime) → m ≤ n → Runs m p q b b' r → GoesBy n IsOfAccess p q
runs_most m n p q b b' r le k = goes_at_most m n IsOfAccess p q le k.goes

pub runs_weaken : (m n : ℕ) (p q : Shown) (b b' : Book) (r : Regime) → m ≤ n → Runs m p q b b' r → Runs n p q b b' r
runs_weaken m n p q b b' r le k = record { goes_on = k.goes_on; access = k.access; goes = goes_at_most m n IsOfAccess p q le k.goes }

pub runs_placed : (n : ℕ) (p m : Shown) (b b' : Book) (r : Regime) → GoesOn p m b b' r → CanAccess b' m → GoesBy n IsOfFill p m → Runs n p m b b' r
runs_placed n p m b b' r on access goes = record { goes_on = on; access = access; goes = goes_within n IsOfFill IsOfAccess p m fill_access goes }

pub runs_exchanged : (n : ℕ) (p m q : Shown) (b b' : Book) (r : Regime) (pa seen new found : ℕ) → Runs n p m b b' r → HasExchanged pa seen new found m q → Runs (n + 2) p q b b' r
runs_exchanged n p m q b b' r pa seen new found k x = runs_weaken (n + 1 + 1) (n + 2) p q b b' r (omega arith)
    (runs_step (n + 1) p x.mid q b b' r (Exchange seen) pa new found (runs_step n p m x.mid b b' r Load pa 0 seen k x.loads) x.exchanges)

pub runs_stored_in : (n : ℕ) (p m q : Shown) (b b' : Book) (r : Regime) (pa width value : ℕ) (got : Got) → Runs n p m b b' r → HasStoredIn pa width value m q got → Runs (n + 2) p q b b' r
runs_stored_in n p m q b b' r pa width value got k (whole w s e) = runs_weaken (n + 1) (n + 2) p q b b' r (omega arith) (runs_step n p m q b b' r Store pa value 0 k s)
runs_stored_in n p m q b b' r pa width value got k (part {seen} {found} w x same e) = runs_exchanged n p m q b b' r pa seen (replaced seen (pa % 8) width value) found k x
runs_stored_in n p m q b b' r pa width value got k (lost {seen} {found} w x other e) = runs_exchanged n p m q b b' r pa seen (replaced seen (pa % 8) width value) found k x

pub runs_stored_over : (n : ℕ) (p m q : Shown) (b b' : Book) (r : Regime) (first second width value : ℕ) → Runs n p m b b' r → HasStoredOver first second width value m q → Runs (n + 4) p q b b' r
runs_stored_over n p m q b b' r first second width value k x = runs_weaken (n + 1 + 1 + 1 + 1) (n + 4) p q b b' r (omega arith)
    (runs_step (n + 1 + 1 + 1) p x.three q b b' r Store second _ 0
    (runs_step (n + 1 + 1) p x.two x.three b b' r Store first _ 0 (runs_step (n + 1) p x.one x.two b b' r Load second 0 x.high (runs_step n p m x.one b b' r Load first 0 x.low k x.loads_first) x.loads_second) x.stores_first)
    x.stores_second)

runs_exchanged_for : (n : ℕ) (p m q : Shown) (b b' : Book) (r : Regime) (op : AmoOp) (pa value : ℕ) (wide : Bool) (got : Got) → Runs n p m b b' r → HasExchangedFor op pa wide value m q got → Runs (n + 2) p q b b' r
runs_exchanged_for n p m q b b' r op pa value wide got k (amo.done {seen} {found} x same e) = runs_exchanged n p m q b b' r pa seen (amo.new_word op pa wide value seen) found k x
runs_exchanged_for n p m q b b' r op pa value wide got k (amo.lost {seen} {found} x other e) = runs_exchanged n p m q b b' r pa seen (amo.new_word op pa wide value seen) found k x

pub runs_operated : (n : ℕ) (p m q : Shown) (b b' : Book) (r : Regime) (op : AmoOp) (pa value : ℕ) (wide : Bool) (got : Got) → Runs n p m b b' r → HasOperatedOn op pa wide value m q got → Runs (n + 2) p q b b' r
runs_operated n p m q b b' r op pa value wide got k (amo.whole {by} {old} w is s e) = runs_weaken (n + 1) (n + 2) p q b b' r (omega arith) (runs_step n p m q b b' r by pa value old k s)
runs_operated n p m q b b' r op pa value wide got k (amo.exchanged w x) = runs_exchanged_for n p m q b b' r op pa value wide got k x
