-- What the headline's parts say of one run, in its own words.
use Rattle.std.specs.Prelude.{◌≡◌, ◌≢◌, ◌≤◌, ◌<◌, ◌/◌, ◌⊎◌, ◌==◌, ℕ, true, if◌then◌else◌, IsTrue, List, [], ◌∷◌, ◌++◌, length, Some}
use Rattle.std.specs.List.{list_any}
use mathlib.Core.Option.{some}
use lib.ListN.{get_elem?}
use Rattle.rv64_priv.specs.declared.state.Kind.{Kind}
use Rattle.rv64_priv.specs.Flush.{covers}
use Rattle.rv64_priv.specs.Walk.{Walked, Leaf}
use Rattle.step_laws.specs.declared.words.Layout.{Layout}
use Rattle.step_laws.specs.declared.steps.Record.{Record}
use Rattle.step_laws.specs.declared.steps.Step.{Step}
use Rattle.step_laws.specs.Words.{monitor, loader}
use Rattle.step_laws.specs.Map.{Ram, name_of}
use Rattle.step_laws.specs.Steps.{own_steps}
use Rattle.step_laws.specs.Past.{Each}
use Rattle.step_laws.specs.Layout.{IsInLimits}
use Rattle.step_laws.specs.Sections.{IsInSection}
use Rattle.step_laws.specs.SectionLaws.{IsRelease, IsTouched}
use Rattle.step_laws.specs.Discipline.{IsActor, Writes}
use Rattle.step_laws.specs.Joined.{IsJoined}
use Rattle.step_laws.specs.SnapshotLaws.{IsMarked}
use Rattle.machine_model.specs.Event.{Event, Outcome, Exec, SnapEnd}
use Rattle.machine_model.specs.State.{Setup, hart}
use Rattle.machine_model.specs.Own.{own}
use Rattle.machine_model.specs.Script.{script_results}
use Rattle.machine_model.specs.Run.{state_of, fetches}
use Rattle.machine_model.specs.Walks.{need}
use Rattle.machine_model.specs.Perform.{surroundings}
use Rattle.machine_model.specs.Lawful.{Flushing, flushing, IsRun, IsAllowed}
use Rattle.turn_pieces.specs.Log.{Item, made, did, Log, events_of}
use Rattle.turn_pieces.specs.Kept.{own_part}
use Rattle.run_laws.specs.Read.{IsRead}
use Rattle.run_laws.specs.RunLaws.{AreTurned}

-- the run as it was at the hart's last Fetch
abbrev pub at_fetch : ℕ → List Event → List Event
at_fetch h [] = []
at_fetch h (e ∷ run) = if fetches h e then e ∷ run else at_fetch h run

-- Where an instruction that asks for flushes has executed, as a remote fence has, each hart that it names translates no address that it
-- covers by an older walk: all reads of such a walk are of moments at or behind that instruction's Fetch.
abbrev pub FencesLeaveNone : Type 0
FencesLeaveNone = (u : Setup) (newer older : List Event) (h : ℕ) (walk second : Walked) (did : Outcome) (asked : Flushing) → IsRun u (newer ++ Exec h walk second did ∷ older)
    → flushing (surroundings u (state_of u older)) h (hart (state_of u older) h).arch (need (state_of u older) h) ≡ Some asked
    → (t : ℕ) → IsTrue (list_any (λ named. named == t) asked.harts) → (kind : Kind) (va pte address level : ℕ) → covers asked.what va level ≡ true
    → (allowed : IsAllowed u (newer ++ Exec h walk second did ∷ older) t kind va (Leaf pte address level))
    → (read : ℕ) → length (at_fetch h older) ≤ length (allowed.moment read)

-- from where an actor is in section up to its release no step of another is on RAM, IPI, CONS or a console place
abbrev pub SectionsAreApart : Type 0
SectionsAreApart = (layout : Layout) (words : List ℕ) (records : List Record) (a : ℕ) (later before : List Step) → IsInLimits layout → (j : IsJoined layout words records) → IsActor layout a
    → j.steps ≡ later ++ before → IsInSection layout a (own_steps a before) → Each (λ s. IsRelease a s → ⊥) later
    → Each (λ s. s.actor ≢ a → IsTouched (name_of s.word) → ⊥) later

-- a hart's registers and count at the end, and whether it runs, are those that its own log leaves
abbrev pub HartsAreTheirLogs : Type 0
HartsAreTheirLogs = (u : Setup) (steps : List Step) (records : List Record) (logs : ℕ → Log) (run : List Event) → IsInLimits u.layout → IsRead steps records logs run
    → (k : ℕ) (r : Record) → get_elem? records k ≡ some r → r.actor < u.layout.harts → own (hart (state_of u run) r.actor) ≡ own_part u r.actor (logs r.actor)

-- what the script came to is what the monitor's own log says, in its order
abbrev pub ScriptIsTheMonitors : Type 0
ScriptIsTheMonitors = (steps : List Step) (records : List Record) (logs : ℕ → Log) (run : List Event) → IsRead steps records logs run
    → (k : ℕ) (r : Record) → get_elem? records k ≡ some r → r.actor ≡ monitor → script_results run ≡ script_results (events_of (logs monitor))

-- a finished snapshot lists the page
abbrev pub Lists : (page : ℕ) → Item → Type 0
Lists page (did (SnapEnd pages)) = IsTrue (list_any (λ listed. listed == page) pages)
Lists page _ = ⊥

abbrev pub HasSnapshot : (page : ℕ) → Log → Type 0
HasSnapshot page [] = ⊥
HasSnapshot page (x ∷ l) = Lists page x ⊎ HasSnapshot page l

-- the page of RAM to which a step stores is marked at the end, or taken by the running snapshot, or a snapshot lists it that finished
-- behind the step
abbrev pub StoredPagesAreKept : Type 0
StoredPagesAreKept = (u : Setup) (words : List ℕ) (records : List Record) (turns : ℕ → ℕ) (logs : ℕ → Log) (run : List Event) → IsInLimits u.layout → (j : IsJoined u.layout words records)
    → AreTurned u records turns logs → (read : IsRead j.steps records logs run) → (k : ℕ) (r : Record) → get_elem? records k ≡ some r → r.actor ≡ monitor
    → (newer older : Log) (s : Step) (i : ℕ) → read.all ≡ newer ++ made s ∷ older → s.actor ≢ loader → name_of s.word ≡ Ram i → Writes s.op
    → IsMarked u.layout (i / 512) j.steps ⊎ HasSnapshot (i / 512) newer
