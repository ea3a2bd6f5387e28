-- What a hart finds and does where every moment is now.
use Rattle.std.specs.Prelude.{◌≡◌, ℕ, Bool, not, ◌&&◌, MatchBool, if◌then◌else◌, Option, Some, None}
use Rattle.rv64_priv.specs.declared.state.Kind.{Kind}
use Rattle.rv64_priv.specs.Walk.{Walked}
use Rattle.rv64_exec.specs.Code.{Code, no_code}
use Rattle.step_laws.specs.Words.{ipi_word}
use Rattle.machine_model.specs.Event.{Event, Fetch, Exec}
use Rattle.machine_model.specs.State.{Setup, State, hart, memory, is_started}
use Rattle.machine_model.specs.Access.{crosses_page, second_va}
use Rattle.machine_model.specs.Perform.{surroundings, perform}
use Rattle.machine_model.specs.Walks.{Wanted, walked, need, access_of}
use Rattle.machine_model.specs.Lawful.{IsCode, is_pending}

-- the end of a walk of hart h whose every read is made now
abbrev pub walked_now : Setup → State → (h : ℕ) → Kind → (va : ℕ) → Walked
walked_now u s h kind va = walked u.layout.pages (hart s h).arch kind va (λ level. memory u s)

-- the ends now of the walks of an access; where there is none they don't matter
abbrev pub no_walk : Walked
no_walk = Walked.PageFault

abbrev pub first_now : Setup → State → (h : ℕ) → Option Wanted → Walked
first_now u s h None = no_walk
first_now u s h (Some w) = walked_now u s h w.kind w.va

abbrev pub second_now : Setup → State → (h : ℕ) → Option Wanted → Walked
second_now u s h None = no_walk
second_now u s h (Some w) = if crosses_page w.va w.width then walked_now u s h w.kind (second_va w.va) else no_walk

-- the walk of the next fetch, and the Fetch
abbrev pub fetch_end : Setup → State → (h : ℕ) → Walked
fetch_end u s h = walked_now u s h Kind.Fetch (hart s h).arch.pc

abbrev pub fetch_now : Setup → State → (h : ℕ) → Code → Event
fetch_now u s h code = Fetch h (fetch_end u s h) code

-- the Exec of the word that the hart holds
unfoldable pub exec_now : Setup → State → (h : ℕ) → Event
exec_now u s h =
    let first = first_now u s h (access_of (need s h)) in
    let second = second_now u s h (access_of (need s h)) in
    Exec h first second (perform (surroundings u s) h (hart s h).arch first second (need s h))

-- an enabled interrupt of the hart is pending
abbrev pub is_pending_now : Setup → State → (h : ℕ) → Bool
is_pending_now u s h = is_pending (hart s h).arch h (memory u s ipi_word)

-- the hart's turn fetches a word: it runs, and takes no interrupt
abbrev pub fetches_now : Setup → State → (h : ℕ) → Bool
fetches_now u s h = is_started (hart s h).mode && not (is_pending_now u s h)

-- the code of the word that the hart's turn fetches; none where it fetches none
abbrev pub IsNext : Setup → State → (h : ℕ) → Code → Type 0
IsNext u s h code = MatchBool (fetches_now u s h) (IsCode (memory u s) (hart s h).arch.pc (fetch_end u s h) code) (code ≡ no_code)
