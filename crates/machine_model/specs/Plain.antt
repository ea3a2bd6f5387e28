-- The one run of an order in which every moment is now.
use Rattle.std.specs.Prelude.{◌≡◌, IsSome, ℕ, ◌&&◌, ◌==◌, if◌then◌else◌, List, [], ◌∷◌, ◌++◌, map, Option, Some, None, is_some}
use Rattle.rv64_priv.specs.Flush.{Full}
use Rattle.rv64_exec.specs.Code.{Code}
use Rattle.machine_model.specs.declared.reason.Reason.{Reason}
use Rattle.machine_model.specs.Event.{Event, Interrupt, Flushes, Start, Stop}
use Rattle.machine_model.specs.declared.mode.Mode.{Mode}
use Rattle.machine_model.specs.declared.mode.Mode.TheVariants.{Started, Halted, Pending}
use Rattle.machine_model.specs.State.{Setup, State, hart, all_halted}
use Rattle.machine_model.specs.Perform.{surroundings}
use Rattle.machine_model.specs.Walks.{need}
use Rattle.machine_model.specs.Change.{state_after}
use Rattle.machine_model.specs.Run.{state_of, counts, leaves, is_leaf_end}
use Rattle.machine_model.specs.Now.{IsNext, is_pending_now, fetch_end, fetch_now, exec_now}
use Rattle.machine_model.specs.Lawful.{Flushing, flushing}

-- the flushes that its instruction needs
abbrev pub flush_events : Option Flushing → List Event
flush_events None = []
flush_events (Some f) = map (λ t. Flushes t f.what) f.harts

-- an event of the hart, and the stops that are due behind it: of all harts, and before these that of the limit
abbrev pub stops_behind : Setup → (h : ℕ) → Event → State → List Event
stops_behind u h e s =
    (if counts e && ((hart s h).count == u.limit) then Stop h (Reason.Limit h) ∷ [] else [])
    ++ (if leaves e && all_halted s then Stop h Reason.AllStopped ∷ [] else [])

abbrev pub with_stops : Setup → State → (h : ℕ) → Event → List Event
with_stops u s h e = stops_behind u h e (state_after e s) ++ e ∷ []

-- the Exec of a hart that holds a word, with its flushes and stops
unfoldable pub executing : Setup → State → (h : ℕ) → List Event
executing u s h = with_stops u s h (exec_now u s h) ++ flush_events (flushing (surroundings u s) h (hart s h).arch (need s h))

-- the Fetch of a hart, and the Exec behind it where that finds a leaf
unfoldable pub instruction : Setup → State → (h : ℕ) → Code → List Event
instruction u s h code =
    if is_leaf_end (fetch_end u s h)
    then executing u (state_after (fetch_now u s h code) s) h ++ fetch_now u s h code ∷ []
    else with_stops u s h (fetch_now u s h code)

-- a turn of a running hart
abbrev pub running_turn : Setup → State → (h : ℕ) → Code → List Event
running_turn u s h code = if is_pending_now u s h then Interrupt h ∷ [] else instruction u s h code

abbrev pub turn_in : Setup → State → (h : ℕ) → Code → Mode → List Event
turn_in u s h code Halted = []
turn_in u s h code Pending = Start h (hart s h).start (hart s h).opaque ∷ Flushes h Full ∷ []
turn_in u s h code Started = running_turn u s h code

-- The events of one turn, newest first, where the next word of the hart decodes so; none after the first reason.
unfoldable pub plain_turn : Setup → State → (h : ℕ) → Code → List Event
plain_turn u s h code = if is_some s.reason then [] else turn_in u s h code (hart s h).mode

-- the state behind more events
abbrev pub states_after : List Event → State → State
states_after [] s = s
states_after (e ∷ es) s = state_after e (states_after es s)

abbrev pub after_turn : Setup → (h : ℕ) → Code → State → State
after_turn u h code s = states_after (plain_turn u s h code) s

-- The plain run of an order, each element of which is the hart whose turn it is, the last turn first. Each turn is what
-- the word says that it fetches; none is taken after the first reason.
pub data IsPlainRun (u : Setup) : List ℕ → List Event → Type 0 where
  none : IsPlainRun u [] []
  turn : {order : List ℕ} {run : List Event} → (h : ℕ) (code : Code) → (state_of u run).reason ≡ None → IsNext u (state_of u run) h code
      → IsPlainRun u order run → IsPlainRun u (h ∷ order) (plain_turn u (state_of u run) h code ++ run)
  over : {order : List ℕ} {run : List Event} → (h : ℕ) → IsSome (state_of u run).reason → IsPlainRun u order run → IsPlainRun u (h ∷ order) run
