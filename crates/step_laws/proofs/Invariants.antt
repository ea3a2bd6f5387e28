-- What holds of words and records at each moment, for the inductions of the laws. words is the value of each word, own the record of each
-- actor but the loader.
use Rattle.std.specs.Prelude.{◌≡◌, ◌≢◌, ℕ, zero, suc, ◌+◌, ◌/◌, ◌%◌, ◌^◌, ◌<◌, ◌≤◌, ◌==◌, ◌⊎◌, Bool, true, false, Some, List, if◌then◌else◌}
use Rattle.step_laws.specs.declared.words.Layout.{Layout}
use Rattle.step_laws.specs.declared.map.TlbField.{TlbField}
use Rattle.step_laws.specs.declared.map.TlbField.TheVariants.{Write, Page}
use Rattle.step_laws.specs.declared.steps.Step.{Step}
use Rattle.step_laws.specs.declared.steps.WordOp.{WordOp}
use Rattle.step_laws.specs.declared.steps.WordOp.TheVariants.{Load, Exchange}
use Rattle.step_laws.specs.Words.{monitor}
use Rattle.step_laws.specs.Map.{Word, Pend, Run, Lock, Size, Place, Dirty, Tlb}
use Rattle.step_laws.specs.Folds.{fold_steps}
use Rattle.step_laws.specs.Fields.{IsSize, invalid_bit}
use Rattle.step_laws.specs.Sections.{inside, phase, is_claimant}
use Rattle.step_laws.specs.SectionLaws.{run_value}
use Rattle.step_laws.specs.Tables.{held_lock, table_word, size_of, is_clear_due, is_compare, is_victim}
use Rattle.step_laws.specs.TableLaws.{IsLastField, IsFresh}
use Rattle.step_laws.specs.Places.{last_load, posts, acked_requests}
use Rattle.step_laws.specs.RequestLaws.{IsRing}
use Rattle.step_laws.specs.Output.{has_touched}
use Rattle.step_laws.specs.Marks.{is_set, is_page, stage, swapping, is_taken, last_place, is_known_dirty, is_armed, seen_size, is_ored}
use Rattle.step_laws.specs.SnapshotLaws.{IsFine, IsSafe, IsUnacked}
use Rattle.step_laws.specs.PrecisionLaws.{MarkTrace}

abbrev pub is_cleared_next : ℕ → Word → WordOp → ℕ → ℕ → Bool → Bool
is_cleared_next b (Run x) Load arg zero c = if b == x then true else c
is_cleared_next b Pend (Exchange e) arg zero c = false
is_cleared_next b _ _ _ _ c = c

-- whether RUN of b was loaded as 0 since the claim
abbrev pub is_cleared : ℕ → List Step → Bool
is_cleared b r = fold_steps (is_cleared_next b) false r

-- what the words of sections are, and that whom a claimant found outside doesn't come inside
pub record Sections (words : Word → ℕ) (own : ℕ → List Step) : Type 0 where
  pub run : (b : ℕ) → words (Run b) ≡ run_value (phase (own b))
  pub pend : (b : ℕ) → is_claimant (own b) ≡ true → words Pend ≡ b + 1
  pub named : (b : ℕ) → words Pend ≡ b + 1 → is_claimant (own b) ≡ true
  pub clear : (a b : ℕ) → a ≢ b → is_claimant (own a) ≡ true → is_cleared b (own a) ≡ true → phase (own b) ≢ inside

pub record Tables (layout : Layout) (words : Word → ℕ) (own : ℕ → List Step) : Type 0 where
  pub holds : (a h : ℕ) → held_lock (own a) ≡ suc h → words (Lock h) ≡ a + 1
  pub holder : (a h : ℕ) → words (Lock h) ≡ a + 1 → held_lock (own a) ≡ suc h
  pub bounded : (b j : ℕ) (f : TlbField) → b < layout.harts → words (Tlb b j f) < 2 ^ 64
  pub last : (b j : ℕ) (f : TlbField) → b < layout.harts → IsLastField f (table_word (Tlb b j f) (own b)) (words (Tlb b j f))
  pub size : (b : ℕ) → b < layout.harts → words (Size b) ≡ size_of b (own b)
  pub sizes : (b : ℕ) → IsSize (size_of b (own b))
  -- a slot at or above SIZE is invalid, or a store of SIZE still asks for it, or nobody stored there
  pub swept : (b j : ℕ) (f : TlbField) → is_compare f ≡ true → is_victim j ≡ false → size_of b (own b) ≤ j
      → (invalid_bit (table_word (Tlb b j f) (own b)) ≡ 1) ⊎ (is_clear_due b j f (own b) ≡ true) ⊎ IsFresh b j f (own b)
  -- and outside the own lock section no store of SIZE asks for anything
  pub calm : (b j : ℕ) (f : TlbField) → is_compare f ≡ true → held_lock (own b) ≢ suc b → is_clear_due b j f (own b) ≡ false

pub record Places (words : Word → ℕ) (own : ℕ → List Step) : Type 0 where
  -- what the target loaded last in a place stands there, where it isn't 0
  pub asks : (t s k q : ℕ) → t ≢ s → q ≢ 0 → last_load (Place t s k) (own t) ≡ Some q → words (Place t s k) ≡ q
  -- and what the source loaded as 0 last is 0
  pub frees : (t s k : ℕ) → t ≢ s → last_load (Place t s k) (own s) ≡ Some 0 → words (Place t s k) ≡ 0
  pub rings : (t s : ℕ) → t ≢ s → IsRing words t s (posts t s (own s)) (acked_requests t s (own t))

pub record Marks (layout : Layout) (words : Word → ℕ) (own : ℕ → List Step) : Type 0 where
  -- what the monitor did in its lock section of h
  pub ors : (h j : ℕ) → h < layout.harts → held_lock (own monitor) ≡ suc h → is_ored h j (own monitor) ≡ true → words (Tlb h j Write) / 2 % 2 ≡ 1
  pub sized : (h n : ℕ) → h < layout.harts → held_lock (own monitor) ≡ suc h → seen_size h (own monitor) ≡ Some n → size_of h (own h) ≡ n
  -- a slot whose WRITE word was never stored is of no page of RAM
  pub blank : (h j : ℕ) → IsFresh h j Write (own h) → (table_word (Tlb h j Write) (own h) ≡ 0) × (table_word (Tlb h j Page) (own h) ≡ 0)
  -- each WRITE word for a page with bits 0 and 1 clear
  pub valid : (h j p : ℕ) → h < layout.harts → p < layout.pages → is_page p (table_word (Tlb h j Page) (own h)) ≡ true → words (Tlb h j Write) % 4 ≡ 0 → IsFine layout words (own monitor) h p
  -- each such word loaded in the open lock section, and each mark made in it
  pub bases : (h p : ℕ) → h < layout.harts → p < layout.pages → held_lock (own h) ≡ suc h → is_known_dirty h p (own h) ≡ true → IsFine layout words (own monitor) h p
  pub arms : (h p : ℕ) → h < layout.harts → p < layout.pages → is_armed h p (own h) ≡ true → IsSafe layout words (own monitor) h p

abbrev pub IsTraced : Layout → (ℕ → List Step) → (page : ℕ) → Bool → (ℕ → Type 0) → List Step → Type 0
IsTraced layout own p t More h = (a : ℕ) × (e : Bool) × (a < layout.harts) × MarkTrace a p t e h × (e ≡ false → (has_touched (own a) ≡ true) × More a)

abbrev pub HasUnacked : Layout → (Word → ℕ) → List Step → ℕ → Type 0
HasUnacked layout words m a = IsUnacked (words (Place a monitor (last_place a m))) a (stage layout m)

pub record Traces (layout : Layout) (h : List Step) (words : Word → ℕ) (own : ℕ → List Step) : Type 0 where
  pub sets : (p : ℕ) → is_set (words (Dirty (p / 64))) p ≡ true → IsTraced layout own p false (λ a. Unit {0}) h
  pub takes : (p : ℕ) → is_taken p (own monitor) ≡ true → IsTraced layout own p true (HasUnacked layout words (own monitor)) h
  pub ordered : (p i : ℕ) → stage layout (own monitor) ≡ swapping (suc i) → is_taken p (own monitor) ≡ true → p / 64 < suc i
