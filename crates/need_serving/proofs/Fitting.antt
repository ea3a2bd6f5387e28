-- An access answers as its need wants it.
use Rattle.std.proofs.Common.{◌≡◌, ℕ, ◌+◌, ◌%◌, Bool, true, false, refl, sym, subst, inl, inr}
use Rattle.std.specs.Prelude.{Option, Some, None, Result, Ok, Err, nat_le, if◌then◌else◌}
use Rattle.rv64_priv.specs.Csr.{regime}
use Rattle.rv64_priv.specs.State.{Arch}
use Rattle.rv64_priv.specs.Trap.{access_fault}
use Rattle.rv64_priv.specs.declared.state.Kind.{Kind}
use Rattle.rv64_priv.specs.declared.state.Regime.{Regime}
use Rattle.rv64_exec.specs.declared.needs.AmoOp.{AmoOp}
use Rattle.rv64_exec.specs.declared.needs.Need.{Need}
use Rattle.machine_model.specs.Access.{crosses_page, second_va}
use Rattle.machine_model.specs.Device.{device_value}
use Rattle.guest_ram.specs.Ports.{Shown}
use Rattle.tlb_entry.specs.declared.books.Book.{Book}
use Rattle.tlb_fill.specs.declared.translation.Translated.{Translated}
use Rattle.tlb_fill.specs.declared.translation.Translated.TheVariants as gives
use Rattle.guest_access.specs.Accessing.{HasAccessed, IsOfMemory}
use Rattle.guest_access.specs.Atomics.{HasExchangedFor, HasOperatedOn, HasPlaced, at_none, done, exchanged, faults, in_ram, is_busy, lost as lost_for, on_none, on_word, whole as whole_by, with_hold, without_hold}
use Rattle.guest_access.specs.Atomics as atomics
use Rattle.guest_access.specs.Loading as loading
use Rattle.guest_access.specs.Loading.{gives_register}
use Rattle.guest_access.specs.Reaching.{HasReached, by_one, by_two, first_reached, second_reached}
use Rattle.guest_access.specs.Storing as storing
use Rattle.guest_access.specs.Storing.{HasStoredIn, gives_stored}
use Rattle.guest_access.specs.declared.outcomes.Got.{Got}
use Rattle.guest_access.specs.declared.outcomes.Got.TheVariants as gets
use Rattle.guest_access.specs.declared.reaching.Place.{Place}
use Rattle.guest_access.specs.declared.reaching.Place.TheVariants as at
use Rattle.need_serving.specs.Ends.{FitsNeed, end_of_access}

abbrev IsNoAnswer : Got → Type 0
IsNoAnswer (gets.Done answer) = ⊥
IsNoAnswer got = Unit {0}

abbrev IsErrNoAnswer : {A : Type 0} → Result A Got → Type 0
IsErrNoAnswer (Ok x) = Unit {0}
IsErrNoAnswer (Err got) = IsNoAnswer got

-- where an access doesn't arrive there is no answer
within_none : (pa : ℕ) (b s : Bool) → IsErrNoAnswer {A = Place} (if b then Ok (at.Word pa) else if s then Ok (at.Words pa (pa + 8)) else Err gets.NeedsSection)
within_none pa true s = tt
within_none pa false true = tt
within_none pa false false = tt

device_none : (kind : Kind) (va pa : ℕ) (b : Bool) → IsErrNoAnswer {A = Place} (if b then Err (gets.Fault (access_fault kind) va) else Ok (at.Device pa))
device_none kind va pa true = tt
device_none kind va pa false = tt

first_none : (kind : Kind) (va width : ℕ) (section : Bool) (found : Translated) → IsErrNoAnswer (first_reached kind va width section found)
first_none kind va width section (gives.Ram pa) = within_none pa (nat_le (pa % 8 + width) 8) section
first_none kind va width section (gives.Device pa) = device_none kind va pa (crosses_page va width)
first_none kind va width section (gives.Fault cause tval) = tt
first_none kind va width section (gives.Busy busy) = tt

words_none : (first second : ℕ) (s : Bool) → IsErrNoAnswer {A = Place} (if s then Ok (at.Words first second) else Err gets.NeedsSection)
words_none first second true = tt
words_none first second false = tt

second_none : (kind : Kind) (next first : ℕ) (section : Bool) (found : Translated) → IsErrNoAnswer (second_reached kind next first section found)
second_none kind next first section (gives.Ram second) = words_none first second section
second_none kind next first section (gives.Device pa) = tt
second_none kind next first section (gives.Fault cause tval) = tt
second_none kind next first section (gives.Busy busy) = tt

reached_none : (p q : Shown) (b b' : Book) (r : Regime) (kind : Kind) (va width : ℕ) (section : Bool) (result : Result Place Got) → HasReached p q b b' r kind va width section result → IsErrNoAnswer result
reached_none p q b b' r kind va width section result (by_one found t over e) = subst IsErrNoAnswer (sym e) (first_none kind va width section found)
reached_none p q b b' r kind va width section result (by_two mid between found first t over x) = subst IsErrNoAnswer (sym x.result_is) (second_none kind (second_va va) first section x.found)

placed_none : (p q : Shown) (b b' : Book) (r : Regime) (kind : Kind) (va : ℕ) (wide : Bool) (result : Result ℕ Got) → HasPlaced p q b b' r kind va wide result → IsErrNoAnswer result
placed_none p q b b' r kind va wide result (at_none x same book) = tt
placed_none p q b b' r kind va wide result (in_ram x t) = tt
placed_none p q b b' r kind va wide result (atomics.on_device x t) = tt
placed_none p q b b' r kind va wide result (faults x t) = tt
placed_none p q b b' r kind va wide result (is_busy x t) = tt

none_fits : (need : Need) (got : Got) → IsOfMemory need → IsNoAnswer got → FitsNeed need (end_of_access got)
none_fits need (gets.Done answer) of none = absurd none
none_fits (Need.Load va width sign) (gets.Fault cause tval) of none = inl tt
none_fits (Need.Store va width value) (gets.Fault cause tval) of none = inl tt
none_fits (Need.Amo va op wide value) (gets.Fault cause tval) of none = inl tt
none_fits (Need.Lr va wide) (gets.Fault cause tval) of none = inl tt
none_fits (Need.Sc va wide value) (gets.Fault cause tval) of none = inl tt
none_fits Need.Nothing (gets.Fault cause tval) of none = absurd of
none_fits (Need.Ipi op) (gets.Fault cause tval) of none = absurd of
none_fits (Need.Flush what) (gets.Fault cause tval) of none = absurd of
none_fits Need.Sbi (gets.Fault cause tval) of none = absurd of
none_fits (Need.Trap c t) (gets.Fault cause tval) of none = absurd of
none_fits need (gets.Lost word seen found) of none = tt
none_fits need gets.NeedsSection of none = tt
none_fits need (gets.Busy busy) of none = tt

arrived : (need : Need) (got other : Got) → got ≡ other → FitsNeed need (end_of_access other) → FitsNeed need (end_of_access got)
arrived need got other e k = subst (λ (x : Got). FitsNeed need (end_of_access x)) (sym e) k

register_fits : (va width : ℕ) (sign : Bool) (x : Option ℕ) → FitsNeed (Need.Load va width sign) (end_of_access (gives_register va width sign x))
register_fits va width sign (Some value) = inr (_, refl)
register_fits va width sign None = inl tt

stored_fits : (va width value : ℕ) (x : Option (Unit {0})) → FitsNeed (Need.Store va width value) (end_of_access (gives_stored va x))
stored_fits va width value (Some stored) = inr refl
stored_fits va width value None = inl tt

module _ (p q : Shown) (b b' : Book) (r : Regime) where
  load_fits : (va width : ℕ) (sign section : Bool) (got : Got) → loading.HasLoaded p q b b' r va width sign section got → FitsNeed (Need.Load va width sign) (end_of_access got)
  load_fits va width sign section got (loading.in_word reach load e) = arrived (Need.Load va width sign) got _ e (inr (_, refl))
  load_fits va width sign section got (loading.over_words reach low high e) = arrived (Need.Load va width sign) got _ e (inr (_, refl))
  load_fits va width sign section got (loading.on_device {pa} reach e) = arrived (Need.Load va width sign) got _ e (register_fits va width sign (device_value pa width))
  load_fits va width sign section got (loading.unreached reach) = none_fits (Need.Load va width sign) got tt (reached_none p q b b' r Kind.Load va width section (Err got) reach)

  in_fits : (va pa width value : ℕ) (mid : Shown) (got : Got) → HasStoredIn pa width value mid q got → FitsNeed (Need.Store va width value) (end_of_access got)
  in_fits va pa width value mid got (storing.whole eight x e) = arrived (Need.Store va width value) got _ e (inr refl)
  in_fits va pa width value mid got (storing.part less x same e) = arrived (Need.Store va width value) got _ e (inr refl)
  in_fits va pa width value mid got (storing.lost less x other e) = arrived (Need.Store va width value) got _ e tt

  store_fits : (va width value : ℕ) (section : Bool) (got : Got) → storing.HasStored p q b b' r va width value section got → FitsNeed (Need.Store va width value) (end_of_access got)
  store_fits va width value section got (storing.in_word {mid} {pa} reach x) = in_fits va pa width value mid got x
  store_fits va width value section got (storing.over_words reach x e) = arrived (Need.Store va width value) got _ e (inr refl)
  store_fits va width value section got (storing.on_device {done = stored} reach x e) = arrived (Need.Store va width value) got _ e (stored_fits va width value stored)
  store_fits va width value section got (storing.unreached reach) = none_fits (Need.Store va width value) got tt (reached_none p q b b' r Kind.Store va width section (Err got) reach)

  exchange_fits : (va : ℕ) (op : AmoOp) (pa : ℕ) (wide : Bool) (value : ℕ) (mid : Shown) (got : Got) → HasExchangedFor op pa wide value mid q got → FitsNeed (Need.Amo va op wide value) (end_of_access got)
  exchange_fits va op pa wide value mid got (done x same e) = arrived (Need.Amo va op wide value) got _ e (inr (_, refl))
  exchange_fits va op pa wide value mid got (lost_for x other e) = arrived (Need.Amo va op wide value) got _ e tt

  operated_fits : (va : ℕ) (op : AmoOp) (pa : ℕ) (wide : Bool) (value : ℕ) (mid : Shown) (got : Got) → HasOperatedOn op pa wide value mid q got → FitsNeed (Need.Amo va op wide value) (end_of_access got)
  operated_fits va op pa wide value mid got (whole_by is by x e) = arrived (Need.Amo va op wide value) got _ e (inr (_, refl))
  operated_fits va op pa wide value mid got (exchanged none x) = exchange_fits va op pa wide value mid got x

  amo_fits : (va : ℕ) (op : AmoOp) (wide : Bool) (value : ℕ) (got : Got) → atomics.HasOperatedAt p q b b' r va op wide value got → FitsNeed (Need.Amo va op wide value) (end_of_access got)
  amo_fits va op wide value got (on_word {mid} {pa} place x) = operated_fits va op pa wide value mid got x
  amo_fits va op wide value got (on_none place) = none_fits (Need.Amo va op wide value) got tt (placed_none p q b b' r Kind.Store va wide (Err got) place)

  lr_fits : (va : ℕ) (wide : Bool) (got : Got) → atomics.HasReserved p q b b' r va wide got → FitsNeed (Need.Lr va wide) (end_of_access got)
  lr_fits va wide got (on_word place x e) = arrived (Need.Lr va wide) got _ e (inr (_, _, refl))
  lr_fits va wide got (on_none place) = none_fits (Need.Lr va wide) got tt (placed_none p q b b' r Kind.Load va wide (Err got) place)

  sc_fits : (a : Arch) (va : ℕ) (wide : Bool) (value : ℕ) (got : Got) → atomics.HasConditional p q b b' r va a.hold wide value got → FitsNeed (Need.Sc va wide value) (end_of_access got)
  sc_fits a va wide value got (with_hold place held x e) = arrived (Need.Sc va wide value) got _ e (inr (_, refl))
  sc_fits a va wide value got (without_hold place held e) = arrived (Need.Sc va wide value) got _ e (inr (_, refl))
  sc_fits a va wide value got (on_none place) = none_fits (Need.Sc va wide value) got tt (placed_none p q b b' r Kind.Store va wide (Err got) place)

pub access_fits : (p q : Shown) (b b' : Book) (a : Arch) (section : Bool) (need : Need) (got : Got) → IsOfMemory need → HasAccessed p q b b' a section need got → FitsNeed need (end_of_access got)
access_fits p q b b' a section (Need.Load va width sign) got of x = load_fits p q b b' (regime a) va width sign section got x
access_fits p q b b' a section (Need.Store va width value) got of x = store_fits p q b b' (regime a) va width value section got x
access_fits p q b b' a section (Need.Amo va op wide value) got of x = amo_fits p q b b' (regime a) va op wide value got x
access_fits p q b b' a section (Need.Lr va wide) got of x = lr_fits p q b b' (regime a) va wide got x
access_fits p q b b' a section (Need.Sc va wide value) got of x = sc_fits p q b b' (regime a) a va wide value got x
access_fits p q b b' a section need got of x = absurd of
