-- The law of precision: a page that a snapshot took was marked by a hart since the take before, and the hart's turn ended before the snapshot.
use Rattle.std.specs.Prelude.{◌≡◌, ℕ, ◌/◌, ◌<◌, Bool, true, false, List, ◌∷◌}
use Rattle.step_laws.specs.declared.words.Layout.{Layout}
use Rattle.step_laws.specs.declared.steps.Step.{Step}
use Rattle.step_laws.specs.declared.steps.WordOp.TheVariants.{Load, Swap, Or}
use Rattle.step_laws.specs.Map.{Stop, Dirty, name_of, monitor}
use Rattle.step_laws.specs.Steps.{own_steps}
use Rattle.step_laws.specs.Marks.{is_set, is_taken}
use Rattle.step_laws.specs.SnapshotLaws.{IsSnapEnd}
use Rattle.step_laws.specs.Histories.{IsHistory}

-- a's mark of the page
abbrev pub IsMarkBy : (a page : ℕ) → Step → Type 0
IsMarkBy a p x = (x.actor ≡ a) × (name_of x.word ≡ Dirty (p / 64)) × (x.op ≡ Or) × (is_set x.arg p ≡ true)

-- a take of the page's word, and one that took the page
abbrev pub IsTakeAt : (page : ℕ) → Step → Type 0
IsTakeAt p x = (x.actor ≡ monitor) × (name_of x.word ≡ Dirty (p / 64)) × (x.op ≡ Swap)

abbrev pub IsTakeOf : (page : ℕ) → Step → Type 0
IsTakeOf p x = IsTakeAt p x × (is_set x.answer p ≡ true)

-- the beginning of a's next turn
abbrev pub IsTurn : ℕ → Step → Type 0
IsTurn a x = (x.actor ≡ a) × (name_of x.word ≡ Stop) × (x.op ≡ Load)

-- there is a mark of the page by a, since which its word was taken once, by a take that took the page, or not at all, and a's turn
-- has ended, where it is so said
pub data MarkTrace (a p : ℕ) : (was_taken has_ended : Bool) → List Step → Type 0 where
  marked : {x : Step} {xs : List Step} → IsMarkBy a p x → MarkTrace a p false false (x ∷ xs)
  took : {x : Step} {xs : List Step} {e : Bool} → IsTakeOf p x → MarkTrace a p false e xs → MarkTrace a p true e (x ∷ xs)
  ended : {x : Step} {xs : List Step} {t e : Bool} → IsTurn a x → MarkTrace a p t e xs → MarkTrace a p t true (x ∷ xs)
  passed : {x : Step} {xs : List Step} {t e : Bool} → (IsTakeAt p x → ⊥) → MarkTrace a p t e xs → MarkTrace a p t e (x ∷ xs)

-- a page that a snapshot took was marked by a hart after the take before of its word, and before the snapshot's last load this hart
-- began another turn
abbrev pub PrecisionLaw : Type 0
PrecisionLaw = (layout : Layout) (runs : ℕ → Bool) (h : List Step) (x : Step) (p : ℕ) → IsHistory layout runs (x ∷ h) → IsSnapEnd layout x h → is_taken p (own_steps monitor h) ≡ true
    → (a : ℕ) × (a < layout.harts) × MarkTrace a p true true (x ∷ h)
