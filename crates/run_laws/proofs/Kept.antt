-- What a placed record says of its actor: one fact a fold.
use Rattle.std.specs.Prelude.{ℕ, ◌&&◌, ◌||◌, if◌then◌else◌, Bool, false, List, [], ◌∷◌, ◌++◌, Option, None, is_some}
use Rattle.std.specs.List.{list_any}
use Rattle.rv64_priv.specs.Flush.{Full}
use Rattle.step_laws.specs.declared.steps.WordOp.{WordOp}
use Rattle.step_laws.specs.declared.steps.WordOp.TheVariants.{Store}
use Rattle.step_laws.specs.Map.{Word, Ram, name_of}
use Rattle.step_laws.specs.Harts.{taking}
use Rattle.machine_model.specs.Event.{Event, did_of}
use Rattle.machine_model.specs.State.{Setup, hart, initial}
use Rattle.machine_model.specs.Own.{Own, own}
use Rattle.machine_model.specs.Own.{own_of}
use Rattle.machine_model.specs.Run.{flushes}
use Rattle.run_laws.proofs.Placed.{Placed, steps, run_of, has_entry}
use Rattle.turn_pieces.specs.Folds.{Unstored, drawn_next, flushed_all_next, handed_on_next, known_word_next, is_waiting, are_some, stored_next, unstored_next}

-- the actor's own part of the reference machine's state
abbrev pub part_at : Setup → ℕ → List Placed → Own
part_at u a p = own_of a (run_of p) (own (hart (initial u) a))

-- a crossing store of which the first word is stored, and no event yet placed
pub data Half : Type 0 where
  whole : Half
  part : (word value : ℕ) → Half

abbrev pub half_next : WordOp → Word → (word arg : ℕ) → Half → Half
half_next Store (Ram i) word arg k = part word arg
half_next _ _ word arg k = k

abbrev pub half : List Placed → Half
half [] = whole
half (t ∷ r) = if has_entry t.events then whole else half_next t.step.op (name_of t.step.word) t.step.word t.step.arg (half r)

abbrev pub held_at : (at : ℕ) → List Placed → Option ℕ
held_at at [] = None
held_at at (t ∷ r) = if has_entry t.events then None else known_word_next at (name_of t.step.word) t.step.op t.step.word t.step.answer (held_at at r)

abbrev pub has_bytes : List Event → Bool
has_bytes [] = false
has_bytes (e ∷ es) = is_some (did_of e).reason || (are_some (did_of e).bytes || has_bytes es)

abbrev pub drawn : List Placed → List ℕ
drawn [] = []
drawn (t ∷ r) = if has_bytes t.events then [] else drawn_next (name_of t.step.word) t.step.op t.step.answer (drawn r)

-- the bytes stored for an event that isn't placed yet, in order
abbrev pub stored_bytes : List Placed → List ℕ
stored_bytes [] = []
stored_bytes (t ∷ r) = if has_bytes t.events then [] else stored_next (name_of t.step.word) t.step.op t.step.arg (drawn r) (stored_bytes r)

abbrev pub bytes_of : List Event → List ℕ
bytes_of [] = []
bytes_of (e ∷ es) = bytes_of es ++ (did_of e).bytes

abbrev pub unstored : List Placed → Option Unstored
unstored [] = None
unstored (t ∷ r) = unstored_next (name_of t.step.word) t.step.op t.step.answer (bytes_of t.events) (unstored r)

abbrev pub handed_word : ℕ → Word → List Placed → Option ℕ
handed_word a w [] = None
handed_word a w (t ∷ r) = handed_on_next a w (name_of t.step.word) t.step.op t.step.answer (handed_word a w r)

-- since then it flushed everything
abbrev pub flushed_waiting : ℕ → List Placed → Bool
flushed_waiting a [] = false
flushed_waiting a (t ∷ r) =
    flushed_all_next a (name_of t.step.word) t.step.op (is_waiting (taking a (steps r)) && list_any (flushes a Full) t.events) (flushed_waiting a r)
