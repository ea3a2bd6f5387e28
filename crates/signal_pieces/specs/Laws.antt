-- Laws of the steps around a turn's work: what they are to their hart's log.
use Rattle.std.specs.Prelude.{◌≡◌, ℕ, ◌<◌, Bool, true, false}
use Rattle.rv64_priv.specs.State.{Arch}
use Rattle.rv64_priv.specs.Csr.{regime}
use Rattle.rv64_priv.specs.Trap.{software_interrupt, trapped}
use Rattle.rv64_priv.specs.declared.state.Regime.{Regime}
use Rattle.step_laws.specs.declared.steps.WordOp.TheVariants.{Load}
use Rattle.step_laws.specs.Map.{Ipi, Stop}
use Rattle.machine_model.specs.Change.{begun_arch}
use Rattle.machine_model.specs.Lawful.{is_pending}
use Rattle.machine_model.specs.Own.{Own}
use Rattle.machine_model.specs.Run.{is_due}
use Rattle.machine_model.specs.State.{Setup}
use Rattle.machine_model.specs.declared.reason.Reason.{Reason}
use Rattle.guest_ram.specs.Ports.{GoesBy, IsActing, Made, Shown, layout_of}
use Rattle.guest_devices.specs.Output.{HasSetStop}
use Rattle.tlb_entry.specs.declared.books.Book.{Book}
use Rattle.kept_fills.specs.Beside.{IsBeside}
use Rattle.hart_signals.specs.declared.starts.Start.{Start}
use Rattle.hart_signals.specs.Signals.{HasSignedOff}
use Rattle.hart_signals.specs.Starts.{HasBegun, HasFoundHeld, HasFoundStopped}
use Rattle.turn_pieces.specs.Grows.{Grows}
use Rattle.turn_pieces.specs.Log.{Log, events_of}
use Rattle.access_pieces.specs.Serving.{Rests, Settles}
use Rattle.table_pieces.specs.Flushing.{IsNotDue}
use Rattle.fence_pieces.specs.Asking.{HasPassed}
use Rattle.fetch_pieces.specs.Fetching.{MayFetch}
use Rattle.signal_pieces.specs.Signalling.{ComesTo, IsBegun, IsBetween, IsFree, IsOfSides}

-- a turn's look at STOP, whatever it found
abbrev pub TurnsBegin : Type 0
TurnsBegin = (p q : Shown) (b : Book) (r : Regime) (found : ℕ) → Made p q Stop Load 0 found → (o : Own) (u : Setup) (a : ℕ) (l : Log) → IsBetween o p b r u a l → IsBegun found o p q b r u a l

-- steps on RUN, PEND and KICK
abbrev pub SidesPass : Type 0
SidesPass = (most : ℕ) (p q : Shown) (b : Book) (r : Regime) → IsBeside b p → IsActing q → GoesBy most IsOfSides p q
    → (others : ℕ → Bool) (o : Own) (u : Setup) (a : ℕ) (l : Log) → Rests others o p b r u a l → IsNotDue o u a l → IsBeside b q × HasPassed others o p q b r u a l

-- the last step
abbrev pub EndsPass : Type 0
EndsPass = (p q : Shown) (b : Book) (r : Regime) → HasSignedOff p q → (others : ℕ → Bool) (o : Own) (u : Setup) (a : ℕ) (l : Log) → Rests others o p b r u a l → IsNotDue o u a l → HasPassed others o p q b r u a l

-- a look at IPI that found an interrupt which the hart takes
abbrev pub InterruptsStand : Type 0
InterruptsStand = (p q : Shown) (b : Book) (c : Arch) (found : ℕ) → Made p q Ipi Load 0 found → p.own.actor < (layout_of p).harts → is_pending c p.own.actor found ≡ true
    → (others : ℕ → Bool) (o : Own) (u : Setup) (a : ℕ) (l : Log) → IsFree o c → Rests others o p b (regime c) u a l → IsNotDue o u a l
    → ComesTo others (record o { arch = trapped c software_interrupt 0 }) q b (regime (trapped c software_interrupt 0)) u a l

-- and one that found none
abbrev pub LooksLetFetch : Type 0
LooksLetFetch = (p q : Shown) (b : Book) (c : Arch) (found : ℕ) → (m : Made p q Ipi Load 0 found) → is_pending c p.own.actor found ≡ false
    → (others : ℕ → Bool) (o : Own) (u : Setup) (a : ℕ) (l : Log) → IsFree o c → Rests others o p b (regime c) u a l → IsNotDue o u a l
    → (late : Log) × Grows u a l late × MayFetch others o q b c u a late

-- a stopped hart that begins
abbrev pub StartsStand : Type 0
StartsStand = (start : Start) (p q : Shown) (b b' : Book) (r later : Regime) → IsBeside b p → HasBegun start p q b b' → (others : ℕ → Bool) (o : Own) (u : Setup) (a : ℕ) (l : Log) → Rests others o p b r u a l → IsNotDue o u a l
    → ComesTo others (record o { arch = begun_arch a start.at start.opaque; runs = true }) q b' later u a l

-- one that wasn't called, and one whose lock was held
abbrev pub StoppedPass : Type 0
StoppedPass = (p q : Shown) (b b' : Book) (r : Regime) → HasFoundStopped p q b b' → (others : ℕ → Bool) (o : Own) (u : Setup) (a : ℕ) (l : Log) → Rests others o p b r u a l → IsNotDue o u a l → HasPassed others o p q b' r u a l

abbrev pub HeldStartsPass : Type 0
HeldStartsPass = (holder : ℕ) (p q : Shown) (b b' : Book) (r : Regime) → HasFoundHeld holder p q b b' → (others : ℕ → Bool) (o : Own) (u : Setup) (a : ℕ) (l : Log) → Rests others o p b r u a l → IsNotDue o u a l → HasPassed others o p q b' r u a l

-- a hart that is to stop at its limit
abbrev pub LimitsStand : Type 0
LimitsStand = (stands : Reason) (p q : Shown) (b : Book) (r : Regime) → HasSetStop (Reason.Limit p.own.actor) stands p q → p.own.actor < (layout_of p).harts
    → (others : ℕ → Bool) (o : Own) (u : Setup) (a : ℕ) (l : Log) → Settles others o p b r u a l → is_due u.limit (events_of l) a o.count ≡ true → ComesTo others o q b r u a l
