-- The law of snapshots: a page that is stored to is marked, or taken by the running snapshot, or was taken by one that finished after the store.
use Rattle.std.specs.Prelude.{◌≡◌, ◌≢◌, ℕ, zero, suc, ◌/◌, ◌%◌, ◌<◌, ◌≤◌, ◌⊎◌, Bool, true, List, [], ◌∷◌, ◌++◌}
use Rattle.step_laws.specs.declared.words.Layout.{Layout}
use Rattle.step_laws.specs.declared.map.TlbField.TheVariants.{Write, Page}
use Rattle.step_laws.specs.declared.steps.Step.{Step}
use Rattle.step_laws.specs.declared.steps.WordOp.TheVariants.{Load}
use Rattle.step_laws.specs.Map.{Word, Place, Dirty, Tlb, Ram, name_of, monitor, loader}
use Rattle.step_laws.specs.WordValues.{word_value}
use Rattle.step_laws.specs.Steps.{own_steps}
use Rattle.step_laws.specs.Marks.{Stage, swapping, passing, draining, awaiting, is_set, is_page, stage, is_taken, last_place, is_armed}
use Rattle.step_laws.specs.Discipline.{Writes}
use Rattle.step_laws.specs.Histories.{IsHistory, IsBegun}

-- the running snapshot hasn't passed h
abbrev pub IsUnpassed : ℕ → Stage → Type 0
IsUnpassed h (swapping zero) = ⊥
IsUnpassed h (swapping (suc i)) = Unit {0}
IsUnpassed h (passing k) = k ≤ h
IsUnpassed h _ = ⊥

-- h hasn't acked the running snapshot's drain: it isn't posted, or what is in its place isn't 0 and it isn't awaited
abbrev pub IsUnacked : (here h : ℕ) → Stage → Type 0
IsUnacked n h (swapping zero) = ⊥
IsUnacked n h (swapping (suc i)) = Unit {0}
IsUnacked n h (passing k) = Unit {0}
IsUnacked n h (draining k) = (k ≤ h) ⊎ (n ≢ 0)
IsUnacked n h (awaiting k) = (k ≤ h) × (n ≢ 0)

-- the page's bit is set, or it is taken by the running snapshot, of which more is said. n is the page's dirty word
abbrev pub IsOn : (n page : ℕ) → (was_taken : Bool) → Type 0 → Type 0
IsOn n p b More = (is_set n p ≡ true) ⊎ ((b ≡ true) × More)

abbrev pub IsFine : Layout → (Word → ℕ) → List Step → (h page : ℕ) → Type 0
IsFine layout words m h p = IsOn (words (Dirty (p / 64))) p (is_taken p m) (IsUnpassed h (stage layout m))

abbrev pub IsSafe : Layout → (Word → ℕ) → List Step → (h page : ℕ) → Type 0
IsSafe layout words m h p = IsOn (words (Dirty (p / 64))) p (is_taken p m) (IsUnacked (words (Place h monitor (last_place h m))) h (stage layout m))

-- the page's bit is set, or the running snapshot has taken it
abbrev pub IsMarked : Layout → (page : ℕ) → List Step → Type 0
IsMarked layout p hs = IsOn (word_value (Dirty (p / 64)) hs) p (is_taken p (own_steps monitor hs)) (stage layout (own_steps monitor hs) ≢ swapping 0)

-- the page of a valid WRITE word with bit 1 clear, and a page that a hart is armed for, is marked
abbrev pub MarkFacts : Type 0
MarkFacts = (layout : Layout) (runs : ℕ → Bool) (hs : List Step) (h j p : ℕ) → IsHistory layout runs hs → IsBegun layout runs hs → h < layout.harts → p < layout.pages
    → (is_page p (word_value (Tlb h j Page) hs) ≡ true → word_value (Tlb h j Write) hs % 4 ≡ 0 → IsFine layout (λ w. word_value w hs) (own_steps monitor hs) h p)
    × (is_armed h p (own_steps h hs) ≡ true → IsSafe layout (λ w. word_value w hs) (own_steps monitor hs) h p)

-- the load that finishes a snapshot: the monitor's, it answers 0, and none is running after it
abbrev pub IsSnapEnd : Layout → Step → List Step → Type 0
IsSnapEnd layout x h = (x.actor ≡ monitor) × (x.op ≡ Load) × (x.answer ≡ 0) × (stage layout (own_steps monitor h) ≢ swapping 0) × (stage layout (x ∷ own_steps monitor h) ≡ swapping 0)

-- in the steps since the history base a snapshot finished that had taken the page
abbrev pub IsSnapped : Layout → (page : ℕ) → (base since : List Step) → Type 0
IsSnapped layout p base [] = ⊥
IsSnapped layout p base (x ∷ xs) = (IsSnapEnd layout x (xs ++ base) × (is_taken p (own_steps monitor (xs ++ base)) ≡ true)) ⊎ IsSnapped layout p base xs

-- the same from any moment at which a hart is armed for a page: so of both pages of a store over two, from its second step on
abbrev pub ArmedLaw : Type 0
ArmedLaw = (layout : Layout) (runs : ℕ → Bool) (later base : List Step) (h p : ℕ) → IsHistory layout runs (later ++ base) → IsBegun layout runs base → h < layout.harts → p < layout.pages
    → is_armed h p (own_steps h base) ≡ true → IsMarked layout p (later ++ base) ⊎ IsSnapped layout p base later

-- at each moment after a step that may write a page of RAM, this is marked, or was taken by a snapshot that finished after the step
abbrev pub SnapshotLaw : Type 0
SnapshotLaw = (layout : Layout) (runs : ℕ → Bool) (later before : List Step) (s : Step) (i : ℕ) → IsHistory layout runs (later ++ (s ∷ before)) → s.actor ≢ loader
    → name_of s.word ≡ Ram i → Writes s.op
    → IsMarked layout (i / 512) (later ++ (s ∷ before)) ⊎ IsSnapped layout (i / 512) (s ∷ before) later
