-- How a step moves on what a record says of its actor: the facts of which logs are folds.
use Rattle.std.specs.Prelude.{◌≡◌, ℕ, ◌-◌, ◌==◌, ◌&&◌, ◌||◌, if◌then◌else◌, Bool, true, false, List, [], ◌∷◌, ◌++◌, drop, Option, Some, None}
use Rattle.step_laws.specs.declared.steps.Step.{Step}
use Rattle.step_laws.specs.declared.steps.WordOp.{WordOp}
use Rattle.step_laws.specs.declared.steps.WordOp.TheVariants.{Load, Store, Add}
use Rattle.step_laws.specs.Map.{Word, Pend, Live, Run, Cons, Hsm, Console, same, name_of}
use Rattle.step_laws.specs.Discipline.{minus_one}
use Rattle.step_laws.specs.Harts.{Taking, idle}
use Rattle.machine_model.specs.Event.{Event}
use Rattle.machine_model.specs.State.{Command}
use Rattle.machine_model.specs.Change.{ends_line}

-- what is left of the script
abbrev pub script_of : List Command → List Event → List Command
script_of script [] = script
script_of script (e ∷ run) = if ends_line e then drop 1 (script_of script run) else script_of script run

-- what the word held as it was loaded in this section, with no store of the reference machine placed since
abbrev pub known_word_next : (at : ℕ) → Word → WordOp → (word answer : ℕ) → Option ℕ → Option ℕ
known_word_next at Pend Load word answer k = k
known_word_next at Pend _ word answer k = None
known_word_next at (Run b) _ word answer k = None
known_word_next at _ Load word answer k = if at == word then Some answer else k
known_word_next at _ _ word answer k = k

-- whether there are any
abbrev pub are_some : List ℕ → Bool
are_some [] = false
are_some (b ∷ bs) = true

-- the console places drawn for an event that is not there yet, the last first
abbrev pub drawn_next : Word → WordOp → (answer : ℕ) → List ℕ → List ℕ
drawn_next Cons Add answer ds = answer ∷ ds
drawn_next _ _ answer ds = ds

-- the bytes stored for it, in order
abbrev pub stored_next : Word → WordOp → (arg : ℕ) → List ℕ → List ℕ → List ℕ
stored_next w op arg [] bs = []
stored_next (Console i) Store arg (d ∷ ds) bs = bs ++ (arg - 256) ∷ []
stored_next w op arg (d ∷ ds) bs = bs

-- a byte whose event is placed and that still has to be stored in its place
pub record Unstored : Type 0 where
  pub place : ℕ
  pub byte : ℕ

abbrev pub unstored_next : Word → WordOp → (answer : ℕ) → List ℕ → Option Unstored → Option Unstored
unstored_next Cons Add answer (b ∷ []) k = Some (record { place = answer; byte = b })
unstored_next (Console i) Store answer bs k = None
unstored_next _ _ answer bs k = k

-- since the actor's hart was found pending it loaded this in the word
abbrev pub handed_on_next : ℕ → Word → Word → WordOp → (answer : ℕ) → Option ℕ → Option ℕ
handed_on_next a w (Hsm t) Store answer k = if a == t then None else k
handed_on_next a w v Load answer k = if same w v then Some answer else k
handed_on_next a w _ _ answer k = k

abbrev pub is_waiting : Taking → Bool
is_waiting idle = false
is_waiting _ = true

-- and since then it flushed everything
abbrev pub flushed_all_next : ℕ → Word → WordOp → Bool → Bool → Bool
flushed_all_next a (Hsm t) Store made b = if a == t then false else b || made
flushed_all_next a _ _ made b = b || made

-- since its hart stopped it took the last one from LIVE
abbrev pub was_last_next : ℕ → Word → WordOp → (arg answer : ℕ) → Bool → Bool
was_last_next a (Hsm t) Store arg answer b = if a == t then false else b
was_last_next a Live Add arg answer b = (arg == minus_one) && (answer == 1)
was_last_next a _ _ arg answer b = b

abbrev pub was_last : ℕ → List Step → Bool
was_last a [] = false
was_last a (s ∷ r) = was_last_next a (name_of s.word) s.op s.arg s.answer (was_last a r)

-- a hart that has stopped says so
abbrev pub IsUncount : Word → WordOp → (arg : ℕ) → Type 0
IsUncount Live Add arg = arg ≡ minus_one
IsUncount _ _ arg = ⊥
