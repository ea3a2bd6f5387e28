-- A fact of a record that each step moves on: by the word, the operation, the argument and the answer. Records are newest first.
use Rattle.std.specs.Prelude.{ℕ, List, [], ◌∷◌}
use Rattle.step_laws.specs.declared.steps.WordOp.{WordOp}
use Rattle.step_laws.specs.declared.steps.Step.{Step}
use Rattle.step_laws.specs.Map.{Word, name_of}

abbrev pub fold_steps : {A : Type 0} → (Word → WordOp → ℕ → ℕ → A → A) → A → List Step → A
fold_steps next first [] = first
fold_steps next first (s ∷ r) = next (name_of s.word) s.op s.arg s.answer (fold_steps next first r)
