-- What a record of placed steps says in the words of logs.
use Rattle.std.specs.Prelude.{ℕ, List, [], ◌∷◌}
use Rattle.step_laws.specs.declared.steps.Step.{Step}
use Rattle.step_laws.specs.declared.steps.WordOp.{WordOp}
use Rattle.step_laws.specs.Map.{Word}
use Rattle.turn_pieces.specs.Folds.{drawn_next, stored_next, unstored_next}
use Rattle.turn_pieces.specs.Owed.{Owed, stores, joins, Books}
use Rattle.run_laws.proofs.Placed.{Placed, steps, run_of}
use Rattle.run_laws.proofs.Kept.{Half, whole, part, drawn, stored_bytes, unstored}

-- the half of a crossing store that stands open
abbrev pub half_of : Owed → Half
half_of (stores n v) = part n v
half_of (joins m v n x) = part n x
half_of _ = whole

-- what placed steps say
abbrev pub books_at : List Placed → Books
books_at r = record { steps = steps r; events = run_of r; places = drawn r; bytes = stored_bytes r; unstored = unstored r }

-- what is told behind a step, before its event
abbrev pub after : List Placed → Step → Word → WordOp → (arg answer : ℕ) → Books
after r s w op arg answer = record {
  steps = s ∷ steps r;
  events = run_of r;
  places = drawn_next w op answer (drawn r);
  bytes = stored_next w op arg (drawn r) (stored_bytes r);
  unstored = unstored_next w op answer [] (unstored r);
}
