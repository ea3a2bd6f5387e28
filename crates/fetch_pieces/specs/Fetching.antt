-- What a fetch comes to in its hart's log of steps and events. Lists are newest first.
use Rattle.std.specs.Prelude.{◌≡◌, ℕ, ◌+◌, ◌==◌, Bool, true, false, List, [], ◌∷◌, ◌++◌, Some, None}
use Rattle.rv64_decode.specs.Encoding.{Decodes}
use Rattle.rv64_priv.specs.Csr.{regime}
use Rattle.rv64_priv.specs.State.{Arch}
use Rattle.rv64_priv.specs.Trap.{trapped}
use Rattle.rv64_priv.specs.Walk.{Walked}
use Rattle.rv64_priv.specs.declared.state.Regime.{Regime}
use Rattle.rv64_exec.specs.Code.{Code, no_code}
use Rattle.step_laws.specs.declared.steps.Step.{Step}
use Rattle.step_laws.specs.Words.{ipi_word}
use Rattle.machine_model.specs.Access.{Faults}
use Rattle.machine_model.specs.Event.{Fetch}
use Rattle.machine_model.specs.Lawful.{is_pending}
use Rattle.machine_model.specs.Own.{Own, own_fetched}
use Rattle.machine_model.specs.Run.{is_due, is_of}
use Rattle.machine_model.specs.State.{Setup}
use Rattle.walk_laws.specs.WalkLoads.{found}
use Rattle.guest_ram.specs.Ports.{Shown}
use Rattle.tlb_entry.specs.declared.books.Book.{Book}
use Rattle.turn_pieces.specs.Grows.{Grows}
use Rattle.turn_pieces.specs.Log.{HasStood, Log, did, events_of}
use Rattle.turn_pieces.specs.Writers.{quietly}
use Rattle.access_pieces.specs.Serving.{Rests}
use Rattle.table_pieces.specs.Flushing.{IsNotDue}
use Rattle.code_fetch.specs.declared.fetching.Fetched.{Fetched}
use Rattle.code_fetch.specs.declared.fetching.Fetched.TheVariants as comes

-- IPI was loaded since the hart's last event, and showed no interrupt that it takes
pub record IsUnasked (a : ℕ) (c : Arch) (l : Log) : Type 0 where
  pub ipi : ℕ
  pub loaded : HasStood (is_of a) (found ipi_word ipi ∷ []) l
  pub quiet : is_pending c a ipi ≡ false

-- the log tells of the port and rests, and its hart runs, holds no word, isn't to stop at its limit, and was found with no interrupt that it takes
pub record MayFetch (others : ℕ → Bool) (o : Own) (p : Shown) (b : Book) (c : Arch) (u : Setup) (a : ℕ) (l : Log) : Type 0 where
  pub rests : Rests others o p b (regime c) u a l
  pub not_due : IsNotDue o u a l
  pub arch_is : o.arch ≡ c
  pub runs : o.runs ≡ true
  pub holds_none : o.held ≡ None
  pub unasked : IsUnasked a c l

-- The log goes on by the fetch's steps alone, and then by its event with this code, to one that tells of the port behind, with the hart as it
-- is then; and whether that is to stop at its limit
pub record IsFetchedIn (others : ℕ → Bool) (code : Code) (later : Own) (stops : Bool) (p q : Shown) (b' : Book) (r : Regime) (u : Setup) (a : ℕ) (l : Log) : Type 0 where
  pub added : List Step
  pub steps_are : q.own.steps ≡ added ++ p.own.steps
  pub walk : Walked
  pub grows : Grows u a l (did (Fetch a walk code) ∷ quietly added l)
  pub rests : Rests others later q b' r u a (did (Fetch a walk code) ∷ quietly added l)
  pub due_is : is_due u.limit (events_of (did (Fetch a walk code) ∷ quietly added l)) a later.count ≡ stops

-- it goes on by the steps alone, and the hart may fetch as before
pub record HasWaited (others : ℕ → Bool) (o : Own) (p q : Shown) (b' : Book) (c : Arch) (u : Setup) (a : ℕ) (l : Log) : Type 0 where
  pub added : List Step
  pub steps_are : q.own.steps ≡ added ++ p.own.steps
  pub grows : Grows u a l (quietly added l)
  pub may : MayFetch others o q b' c u a (quietly added l)

-- A word is held, with whatever it decodes as; behind a fault the hart has trapped, and is to stop where that brought its count to the limit;
-- and at a held lock it waits
abbrev pub IsLogged : Fetched → (others : ℕ → Bool) → Own → (p q : Shown) → Book → Arch → Setup → ℕ → Log → Type 0
IsLogged (comes.Word word) others o p q b' c u a l =
    (code : Code) → code.word ≡ word → Decodes code.word code.instr → IsFetchedIn others code (record o { held = Some code }) false p q b' (regime c) u a l
IsLogged (comes.Fault cause tval) others o p q b' c u a l =
    IsFetchedIn others no_code (own_fetched no_code o (Faults cause tval)) (o.count + 1 == u.limit) p q b' (regime (trapped c cause tval)) u a l
IsLogged (comes.Busy busy) others o p q b' c u a l = HasWaited others o p q b' c u a l
