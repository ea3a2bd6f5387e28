-- The law of fences: requests go round in rings of eight places, and what a target served is a prefix of what a source posted.
use Rattle.std.specs.Prelude.{◌≡◌, ◌≢◌, ℕ, ◌+◌, ◌<◌, ◌≤◌, ◌⊎◌, ◌==◌, Bool, Some, List, [], ◌∷◌, ◌++◌, length, if◌then◌else◌}
use Rattle.step_laws.specs.declared.words.Layout.{Layout}
use Rattle.step_laws.specs.declared.steps.Step.{Step}
use Rattle.step_laws.specs.declared.steps.WordOp.TheVariants.{Load, Store}
use Rattle.step_laws.specs.Map.{Word, Place, name_of}
use Rattle.step_laws.specs.WordValues.{word_value}
use Rattle.step_laws.specs.Steps.{own_steps}
use Rattle.step_laws.specs.Past.{Earlier, Anything}
use Rattle.step_laws.specs.Places.{last_load, posts, acked_requests, ring_place}
use Rattle.step_laws.specs.Tables.{IsClean}
use Rattle.step_laws.specs.Discipline.{IsActor, IsFetch, IsUnlock, IsDrain}
use Rattle.step_laws.specs.Histories.{IsHistory, IsBegun}

-- the element of a list with this number, the oldest, which is the last, being number 0
abbrev pub nth_oldest : List ℕ → ℕ → ℕ
nth_oldest [] n = 0
nth_oldest (x ∷ xs) n = if n == length xs then x else nth_oldest xs n

-- what the places of a pair hold, from what its source posted and its target acked
pub record IsRing (words : Word → ℕ) (t s : ℕ) (posted acked : List ℕ) : Type 0 where
  pub low : length acked ≤ length posted
  pub high : length posted ≤ length acked + 8
  -- what was acked is what was posted, in order
  pub order : (n : ℕ) → n < length acked → nth_oldest acked n ≡ nth_oldest posted n
  pub asked : (n : ℕ) → n < length posted → nth_oldest posted n ≢ 0
  -- what was posted and not acked stands in its place
  pub waits : (n : ℕ) → length acked ≤ n → n < length posted → words (Place t s (ring_place n)) ≡ nth_oldest posted n
  -- and the other places are free
  pub free : (n : ℕ) → length posted ≤ n → n < length acked + 8 → words (Place t s (ring_place n)) ≡ 0

-- the rings at each moment, and that what a target acked of a source is a prefix of what that posted
abbrev pub RingFacts : Type 0
RingFacts = (layout : Layout) (runs : ℕ → Bool) (h : List Step) (t s : ℕ) → IsHistory layout runs h → IsBegun layout runs h → IsActor layout t → IsActor layout s → t ≢ s
    → IsRing (λ w. word_value w h) t s (posts t s (own_steps s h)) (acked_requests t s (own_steps t h))
    × ((waiting : List ℕ) × (posts t s (own_steps s h) ≡ waiting ++ acked_requests t s (own_steps t h)) × (length waiting ≤ 8))

-- s posts the request q at t
abbrev pub IsPost : (t s k q : ℕ) → Step → Type 0
IsPost t s k q x = (x.actor ≡ s) × (name_of x.word ≡ Place t s k) × (x.op ≡ Store) × (x.arg ≡ q)

-- s loads the place as 0
abbrev pub IsFreed : (t s k : ℕ) → Step → Type 0
IsFreed t s k x = (x.actor ≡ s) × (name_of x.word ≡ Place t s k) × (x.op ≡ Load) × (x.answer ≡ 0)

abbrev pub IsAck : (t s k : ℕ) → Step → Type 0
IsAck t s k x = (x.actor ≡ t) × (name_of x.word ≡ Place t s k) × (x.op ≡ Store) × (x.arg ≡ 0)

-- a place's stores are posts over 0 and acks over a request, and so alternate
abbrev pub AlternateLaw : Type 0
AlternateLaw = (layout : Layout) (runs : ℕ → Bool) (h : List Step) (x : Step) (t s k : ℕ) → IsHistory layout runs (x ∷ h) → t ≢ s → name_of x.word ≡ Place t s k → x.op ≢ Load
    → ((q : ℕ) × IsPost t s k q x × (q ≢ 0) × (word_value (Place t s k) h ≡ 0)) ⊎ (IsAck t s k x × (word_value (Place t s k) h ≢ 0))

-- the target's load of the request
abbrev pub IsTaken : (t s k q : ℕ) → Step → Type 0
IsTaken t s k q x = IsFetch (Place t s k) q x × (x.actor ≡ t)

-- the request was loaded by the target and then served, in the steps since the history base: a drain at once, a flush by a lock section
-- of the target at whose end its table has no valid entry on a page that it names
abbrev pub IsDone : (t s k q : ℕ) → (base since : List Step) → Type 0
IsDone t s k q base since = (IsDrain q × Earlier (IsTaken t s k q) Anything since)
    ⊎ Earlier (λ x. IsUnlock t x × (x.actor ≡ t)) (λ xs. IsClean t q (own_steps t (xs ++ base)) × Earlier (IsTaken t s k q) Anything xs) since

-- an ack of this request, before it its service, and before that its load
abbrev pub IsAcked : (t s k q : ℕ) → (base since : List Step) → Type 0
IsAcked t s k q base since = Earlier (IsAck t s k) (λ xs. (last_load (Place t s k) (own_steps t (xs ++ base)) ≡ Some q) × IsDone t s k q base xs) since

-- where a source posted a request and later loaded 0 there, the target's load, its service and its ack stand between
abbrev pub FenceLaw : Type 0
FenceLaw = (layout : Layout) (runs : ℕ → Bool) (later between before : List Step) (p z : Step) (t s k q : ℕ)
    → IsHistory layout runs (later ++ (z ∷ (between ++ (p ∷ before)))) → t < layout.harts → t ≢ s
    → IsPost t s k q p → IsFreed t s k z → IsAcked t s k q (p ∷ before) between
