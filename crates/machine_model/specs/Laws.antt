-- Laws of runs.
use Rattle.std.specs.Prelude.{◌≡◌, ℕ, suc, ◌≤◌, ◌<◌, ◌&&◌, not, IsTrue, if◌then◌else◌, List, [], ◌∷◌, ◌++◌, length, option_to_list, Option, Some, None}
use Rattle.std.specs.Prelude.{◌==◌}
use Rattle.std.specs.List.{list_all}
use Rattle.rv64_priv.specs.declared.state.Kind.{Kind}
use Rattle.rv64_priv.specs.Csr.{regime}
use Rattle.rv64_priv.specs.Walk.{Walked, walk_of}
use Rattle.rv64_priv.specs.Reads.{answering, FindsFor}
use Rattle.step_laws.specs.Map.{console_places}
use Rattle.machine_model.specs.declared.reason.Reason.{Reason}
use Rattle.machine_model.specs.Memory.{StoreEntry, written}
use Rattle.machine_model.specs.Past.{Since}
use Rattle.machine_model.specs.Event.{Event, Starting, did_of, entry_stored}
use Rattle.machine_model.specs.State.{Setup, Hart, initial, hart, memory}
use Rattle.machine_model.specs.Change.{part_next, has_part, awaited}
use Rattle.machine_model.specs.Walks.{levels_of}
use Rattle.machine_model.specs.Run.{state_of, memory_at, is_of, renews}
use Rattle.machine_model.specs.Lawful.{IsRun, IsSettled, IsAllowed}
use Rattle.machine_model.specs.Plain.{IsPlainRun}
use Rattle.machine_model.specs.Own.{own, own_of}

-- the plain run of an order is a run, and it is settled
abbrev pub PlainRunsAreRuns : Type 0
PlainRunsAreRuns = (u : Setup) (order : List ℕ) (run : List Event) → IsPlainRun u order run → IsRun u run

abbrev pub PlainRunsAreSettled : Type 0
PlainRunsAreSettled = (u : Setup) (order : List ℕ) (run : List Event) → IsPlainRun u order run → IsSettled u run

-- no hart's count falls
abbrev pub CountsGrow : Type 0
CountsGrow = (u : Setup) (more run : List Event) (h : ℕ) → (hart (state_of u run) h).count ≤ (hart (state_of u (more ++ run)) h).count

-- what was printed stays in front of what is printed
abbrev pub OutputGrows : Type 0
OutputGrows = (u : Setup) (more run : List Event) → (bytes : List ℕ) × ((state_of u (more ++ run)).output ≡ (state_of u run).output ++ bytes)

-- a run prints at most as much as the console takes
abbrev pub OutputFits : Type 0
OutputFits = (u : Setup) (run : List Event) → IsRun u run → length (state_of u run).output ≤ console_places

-- the first reason stays
abbrev pub ReasonStays : Type 0
ReasonStays = (u : Setup) (more run : List Event) (reason : Reason) → (state_of u run).reason ≡ Some reason → (state_of u (more ++ run)).reason ≡ Some reason

-- memory is the image with the entries of the run's events written
abbrev pub all_entries : List Event → List StoreEntry
all_entries [] = []
all_entries (e ∷ run) = option_to_list (entry_stored e) ++ all_entries run

abbrev pub MemoryIsStored : Type 0
MemoryIsStored = (u : Setup) (run : List Event) (word : ℕ) → memory u (state_of u run) word ≡ written u.image (all_entries run) word

-- each hart is what its own events and the starts of it make of it
abbrev pub started_by : ℕ → Option Starting → Hart → Hart
started_by h None t = t
started_by h (Some g) t = if g.target == h then awaited g t else t

abbrev pub hart_next : ℕ → Event → Hart → Hart
hart_next h e t = started_by h (did_of e).starts (if has_part e && is_of h e then part_next e t else t)

abbrev pub part_of : Setup → ℕ → List Event → Hart
part_of u h [] = hart (initial u) h
part_of u h (e ∷ run) = hart_next h e (part_of u h run)

abbrev pub HartsAreParts : Type 0
HartsAreParts = (u : Setup) (run : List Event) (h : ℕ) → h < length (initial u).harts → hart (state_of u run) h ≡ part_of u h run

-- what a hart's own events alone change is what they make of it, in every list of events
abbrev pub OwnIsOwn : Type 0
OwnIsOwn = (u : Setup) (run : List Event) (h : ℕ) → h < length (initial u).harts → own (hart (state_of u run) h) ≡ own_of h run (own (hart (initial u) h))

-- a walk that is allowed stays so over all events of other actors
abbrev pub WalksStayAllowed : Type 0
WalksStayAllowed = (u : Setup) (h : ℕ) (kind : Kind) (va : ℕ) (end : Walked) (more run : List Event) → IsTrue (list_all (λ e. not (is_of h e)) more)
    → IsAllowed u run h kind va end → IsAllowed u (more ++ run) h kind va end

-- the end of a walk by the words that were found at moments in order, none before a renewal, is allowed
abbrev pub FoundIsAllowed : Type 0
FoundIsAllowed = (u : Setup) (run : List Event) (h : ℕ) (kind : Kind) (va : ℕ) (a : ℕ → ℕ) (moment : ℕ → List Event) (end : Walked)
    → walk_of u.layout.pages (regime (hart (state_of u run) h).arch) kind (answering a) va ≡ end
    → FindsFor u.layout.pages (regime (hart (state_of u run) h).arch) va (levels_of (λ level. memory_at u (moment level))) a
    → ((level : ℕ) → Since (renews h va end) (moment (suc level)) (moment level)) → Since (renews h va end) (moment 0) run
    → IsAllowed u run h kind va end
