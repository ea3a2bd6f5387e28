-- Laws of accesses: what the steps that an access made are to its hart's log.
use Rattle.rv64_priv.specs.declared.state.Regime.{Regime}
use Rattle.std.specs.Prelude.{◌≡◌, ℕ, ◌<◌, ◌^◌, Bool, true, IsTrue, IsSome, ◌∷◌}
use Rattle.rv64_priv.specs.State.{Arch}
use Rattle.rv64_priv.specs.Csr.{regime}
use Rattle.rv64_exec.specs.Widths.{is_width}
use Rattle.rv64_exec.specs.declared.needs.Need.{Need}
use Rattle.step_laws.specs.Sections.{IsInSection}
use Rattle.guest_ram.specs.Ports.{Shown, layout_of}
use Rattle.tlb_entry.specs.declared.books.Book.{Book}
use Rattle.guest_access.specs.declared.outcomes.Got.{Got}
use Rattle.rv64_exec.specs.declared.needs.AmoOp.{AmoOp}
use Rattle.guest_access.specs.Atomics.{HasConditional, HasOperatedAt, HasReserved}
use Rattle.guest_access.specs.Loading.{HasLoaded}
use Rattle.guest_access.specs.Storing.{HasStored}
use Rattle.turn_pieces.specs.Draws.{may_draw}
use Rattle.machine_model.specs.Event.{GiveUp}
use Rattle.machine_model.specs.Own.{Own}
use Rattle.machine_model.specs.State.{Setup}
use Rattle.rv64_priv.specs.declared.state.Kind.{Kind}
use Rattle.kept_fills.specs.Beside.{IsBeside}
use Rattle.tlb_fill.specs.declared.translation.Translated.{Translated}
use Rattle.guest_access.specs.Reaching.{CanAccess, Translates}
use Rattle.turn_pieces.specs.Log.{Log, did}
use Rattle.turn_pieces.specs.Right.{IsRight}
use Rattle.access_pieces.specs.Serving.{MayGiveUp, Rests, Serves, Tells, given_up}
use Rattle.access_pieces.specs.Translating.{Led}

-- a translation is in each log that told of the port before
abbrev pub TranslationsLead : Type 0
TranslationsLead = (p q : Shown) (b b' : Book) (c : Arch) (kind : Kind) (va : ℕ) (t : Translated) → IsBeside b p → Translates p q b b' (regime c) kind va t
    → (o : Own) (u : Setup) (a : ℕ) (l : Log) → Tells o p b (regime c) u a l → Led o p q b' c kind va t u a l

-- where an instruction may be given up, the event that says so may stand, and behind it nothing waits that didn't wait before
abbrev pub GiveUpsStand : Type 0
GiveUpsStand = (others : ℕ → Bool) (o : Own) (q : Shown) (b : Book) (r : Regime) (u : Setup) (a : ℕ) (l : Log) → IsSome o.held → a < u.layout.harts → (x : MayGiveUp others o q b r u a l)
    → IsRight u a l (GiveUp a x.walks) × Rests others (given_up o) q b r u a (did (GiveUp a x.walks) ∷ l)

-- the hart is in its section where the access was told so
abbrev pub IsTold : (section : Bool) → Shown → Type 0
IsTold section p = section ≡ true → IsInSection (layout_of p) p.own.actor p.own.steps

-- a load is served by its steps
abbrev pub LoadsServe : Type 0
LoadsServe = (p q : Shown) (b b' : Book) (c : Arch) (va width : ℕ) (sign section : Bool) (got : Got) → IsTrue (is_width width) → CanAccess b p → IsTold section p
    → HasLoaded p q b b' (regime c) va width sign section got → Serves p q b b' c (Need.Load va width sign) got

-- a load-reserved, and a store-conditional, is served by its steps
abbrev pub ReservesServe : Type 0
ReservesServe = (p q : Shown) (b b' : Book) (c : Arch) (va : ℕ) (wide : Bool) (got : Got) → CanAccess b p → HasReserved p q b b' (regime c) va wide got → Serves p q b b' c (Need.Lr va wide) got

abbrev pub ConditionalsServe : Type 0
ConditionalsServe = (p q : Shown) (b b' : Book) (c : Arch) (va : ℕ) (wide : Bool) (value : ℕ) (got : Got) → CanAccess b p → HasConditional p q b b' (regime c) va c.hold wide value got
    → Serves p q b b' c (Need.Sc va wide value) got

-- an atomic operation with this operand
abbrev pub AmosServe : Type 0
AmosServe = (p q : Shown) (b b' : Book) (c : Arch) (va : ℕ) (op : AmoOp) (wide : Bool) (value : ℕ) (got : Got) → value < 2 ^ 64 → CanAccess b p → HasOperatedAt p q b b' (regime c) va op wide value got
    → Serves p q b b' c (Need.Amo va op wide value) got

-- a store of this value, of a hart that has drawn no console place beyond the last since it looked at STOP
abbrev pub StoresServe : Type 0
StoresServe = (p q : Shown) (b b' : Book) (c : Arch) (va width value : ℕ) (section : Bool) (got : Got) → IsTrue (is_width width) → value < 2 ^ 64 → CanAccess b p → IsTold section p → may_draw p.own.steps ≡ true
    → HasStored p q b b' (regime c) va width value section got → Serves p q b b' c (Need.Store va width value) got
