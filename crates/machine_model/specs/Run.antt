-- Runs, newest first: the state that one leaves, and what stood in it.
use Rattle.std.specs.Prelude.{ℕ, ◌+◌, Bool, true, false, not, ◌&&◌, ◌==◌, nat_le, if◌then◌else◌, List, [], ◌∷◌, Option, Some, None}
use Rattle.rv64_priv.specs.Flush.{Flush, Full, Pages, covers}
use Rattle.rv64_priv.specs.Walk.{Walked, Leaf}
use Rattle.machine_model.specs.declared.reason.Reason.{Reason}
use Rattle.machine_model.specs.Memory.{Memory}
use Rattle.machine_model.specs.Event.{Event, Starting, Fetch, Exec, Flushes, Stop, SnapBegin, actor_of, did_of}
use Rattle.machine_model.specs.State.{Setup, State, memory, initial}
use Rattle.machine_model.specs.Change.{state_after}

abbrev pub state_of : Setup → List Event → State
state_of u [] = initial u
state_of u (e ∷ run) = state_after e (state_of u run)

-- memory at a moment
abbrev pub memory_at : Setup → List Event → Memory
memory_at u moment = memory u (state_of u moment)

-- tests of events
abbrev pub is_of : ℕ → Event → Bool
is_of h e = actor_of e == h

abbrev pub fetches : ℕ → Event → Bool
fetches h (Fetch g walk code) = g == h
fetches h _ = false

abbrev pub is_target : ℕ → Option Starting → Bool
is_target h None = false
is_target h (Some g) = g.target == h

-- an accepted start of the hart
abbrev pub starts_hart : ℕ → Event → Bool
starts_hart h e = is_target h (did_of e).starts

-- a flush that is full or names what another names
abbrev pub includes : Flush → Flush → Bool
includes Full other = true
includes (Pages page count) Full = false
includes (Pages page count) (Pages page' count') = nat_le page page' && nat_le (page' + count') (page + count)

-- a flush of the hart of all this
abbrev pub flushes : ℕ → Flush → Event → Bool
flushes h what (Flushes g made) = (g == h) && includes made what
flushes h what _ = false

-- what ends the time in which a fetch was uninterrupted: each event of the hart
abbrev pub ends_quiet : ℕ → Event → Bool
ends_quiet h e = is_of h e

-- a flush of the hart that covers the leaf
abbrev pub covers_leaf : ℕ → (va level : ℕ) → Event → Bool
covers_leaf h va level (Flushes g what) = (g == h) && covers what va level
covers_leaf h va level _ = false

-- what ends the time from which a walk with this end may be: for a fault, each event of the hart
abbrev pub renews : ℕ → (va : ℕ) → Walked → Event → Bool
renews h va (Leaf pte page level) e = covers_leaf h va level e
renews h va _ e = is_of h e

-- an actor's last event
abbrev pub last_of : ℕ → List Event → Option Event
last_of h [] = None
last_of h (e ∷ run) = if is_of h e then Some e else last_of h run

abbrev pub passes : (Event → Bool) → Option Event → Bool
passes test None = false
passes test (Some e) = test e

abbrev pub is_leaf_end : Walked → Bool
is_leaf_end (Leaf pte page level) = true
is_leaf_end _ = false

-- an event after which its hart may be at the limit: one that counts an instruction, or the stop of all behind one
abbrev pub counts : Event → Bool
counts (Fetch h walk code) = not (is_leaf_end walk)
counts (Exec h walk second did) = true
counts (Stop by Reason.AllStopped) = true
counts _ = false

-- an Exec that stopped its hart
abbrev pub leaves : Event → Bool
leaves e = (did_of e).stops

abbrev pub says_all_stopped : Event → Bool
says_all_stopped (Stop by Reason.AllStopped) = true
says_all_stopped _ = false

abbrev pub is_snap_begin : Event → Bool
is_snap_begin SnapBegin = true
is_snap_begin _ = false

-- the hart's next event is to be the stop at its limit
abbrev pub is_due : (limit : ℕ) → List Event → (h count : ℕ) → Bool
is_due limit run h count = passes counts (last_of h run) && (count == limit)
