-- Dirty marks and snapshots: what a hart's record says of the pages that it may write, and the monitor's of the running snapshot.
use Rattle.std.specs.Prelude.{◌≡◌, ℕ, zero, suc, ◌+◌, ◌/◌, ◌%◌, ◌^◌, ◌<◌, ◌==◌, ◌⊎◌, ◌&&◌, Bool, true, false, Option, Some, None, List, [], ◌∷◌, if◌then◌else◌}
use Rattle.step_laws.specs.declared.words.Layout.{Layout}
use Rattle.step_laws.specs.declared.map.TlbField.TheVariants.{Write, Page}
use Rattle.step_laws.specs.declared.steps.Step.{Step}
use Rattle.step_laws.specs.declared.steps.WordOp.{WordOp}
use Rattle.step_laws.specs.declared.steps.WordOp.TheVariants.{Load, Store, Swap, Or}
use Rattle.step_laws.specs.Map.{Word, Stop, Lock, Size, Place, Dirty, Tlb, name_of, same, same_field}
use Rattle.step_laws.specs.Fields.{request_kind}
use Rattle.step_laws.specs.Folds.{fold_steps}
use Rattle.step_laws.specs.Tables.{table_word, is_victim}
use Rattle.step_laws.specs.Sections.{MayTouch}

-- the page's bit in a dirty word
abbrev pub is_set : (n page : ℕ) → Bool
is_set n p = n / 2 ^ (p % 64) % 2 == 1

-- an or of this word with this argument marks the page
abbrev pub is_mark : (page i arg : ℕ) → Bool
is_mark p i arg = (i == p / 64) && is_set arg p

-- a PAGE word is the address of this page of RAM
abbrev pub is_page : (page n : ℕ) → Bool
is_page p n = n / 4096 == 2 ^ 31 / 4096 + p

-- a WRITE word is valid and its page dirty: bits 0 and 1 are clear
abbrev pub is_clear : ℕ → Bool
is_clear n = n % 4 == 0

abbrev pub is_known_dirty_next : (a page : ℕ) → (ℕ → ℕ) → Word → WordOp → (arg answer : ℕ) → Bool → Bool
is_known_dirty_next a p at (Lock h) op arg answer b = false
is_known_dirty_next a p at (Dirty i) Or arg answer b = if is_mark p i arg then true else b
is_known_dirty_next a p at (Tlb h j f) Load arg answer b = if same_field f Write && (is_page p (at j) && is_clear answer) then true else b
is_known_dirty_next a p at _ _ _ _ b = b

-- since the hart's last step on a lock it marked the page, or loaded a WRITE word of a slot for it with bits 0 and 1 clear
abbrev pub is_known_dirty : (a page : ℕ) → List Step → Bool
is_known_dirty a p [] = false
is_known_dirty a p (s ∷ r) = is_known_dirty_next a p (λ j. table_word (Tlb a j Page) r) (name_of s.word) s.op s.arg s.answer (is_known_dirty a p r)

abbrev pub is_armed_next : (a page : ℕ) → (ℕ → ℕ) → Word → WordOp → (arg answer : ℕ) → Bool → Bool
is_armed_next a p at Stop Load arg answer b = false
is_armed_next a p at (Place t s k) Store arg answer b = if t == a then false else b
is_armed_next a p at (Dirty i) Or arg answer b = if is_mark p i arg then true else b
is_armed_next a p at (Tlb h j f) Load arg answer b = if same_field f Write && (is_page p (at j) && is_clear answer) then true else b
is_armed_next a p at _ _ _ _ b = b

-- the same since the turn's beginning and since the hart's last ack
abbrev pub is_armed : (a page : ℕ) → List Step → Bool
is_armed a p [] = false
is_armed a p (s ∷ r) = is_armed_next a p (λ j. table_word (Tlb a j Page) r) (name_of s.word) s.op s.arg s.answer (is_armed a p r)

-- what a step that may write RAM word i needs: that of a hart which is inside or in section, and armed for its page
abbrev pub MayWrite : Layout → (a i : ℕ) → List Step → Type 0
MayWrite layout a i r = MayTouch layout a r × (a < layout.harts) × (is_armed a (i / 512) r ≡ true)

-- what leaving bits 0 and 1 of the WRITE word of slot j clear needs: where the slot is for a page of RAM, that this was marked in this
-- lock section, or such a word was loaded for it
abbrev pub MayClear : Layout → (a j : ℕ) → List Step → Type 0
MayClear layout a j r = (p : ℕ) → p < layout.pages → is_page p (table_word (Tlb a j Page) r) ≡ true → is_known_dirty a p r ≡ true

-- where the monitor stands with a snapshot, and which word or hart is next. At swapping 0 none is running
pub data Stage : Type 0 where
  swapping : ℕ → Stage
  passing : ℕ → Stage
  draining : ℕ → Stage
  awaiting : ℕ → Stage

abbrev pub dirty_words : Layout → ℕ
dirty_words layout = (layout.pages + 63) / 64

abbrev pub last_place_next : ℕ → Word → WordOp → ℕ → ℕ → ℕ → ℕ
last_place_next t (Place u s k) Store arg answer n = if t == u then k else n
last_place_next t _ _ _ _ n = n

-- of the monitor's record: the place of its last post at t
abbrev pub last_place : ℕ → List Step → ℕ
last_place t r = fold_steps (last_place_next t) 0 r

abbrev pub stage_next : Layout → (ℕ → ℕ) → Word → WordOp → (arg answer : ℕ) → Stage → Stage
stage_next layout place (Dirty i) Swap arg answer (swapping k) = if i == k then (if suc k == dirty_words layout then passing 0 else swapping (suc k)) else swapping k
stage_next layout place (Lock h) Store arg answer (passing k) = if h == k then (if suc k == layout.harts then draining 0 else passing (suc k)) else passing k
stage_next layout place (Place t s n) Store arg answer (draining k) = if (t == k) && (request_kind arg == 3) then (if suc k == layout.harts then awaiting 0 else draining (suc k)) else draining k
stage_next layout place (Place t s n) Load arg zero (awaiting k) = if (t == k) && (n == place k) then (if suc k == layout.harts then swapping 0 else awaiting (suc k)) else awaiting k
stage_next layout place _ _ _ _ g = g

abbrev pub stage : Layout → List Step → Stage
stage layout [] = swapping 0
stage layout (s ∷ r) = stage_next layout (λ t. last_place t r) (name_of s.word) s.op s.arg s.answer (stage layout r)

abbrev pub is_taken_next : ℕ → Word → WordOp → ℕ → ℕ → Bool → Bool
is_taken_next p (Dirty i) Swap arg answer b = if (i == p / 64) && is_set answer p then true else if i == 0 then false else b
is_taken_next p _ _ _ _ b = b

-- the running snapshot, or where none is running the last one, has taken the page: a swap of its word answered its bit
abbrev pub is_taken : ℕ → List Step → Bool
is_taken p r = fold_steps (is_taken_next p) false r

abbrev pub seen_size_next : ℕ → Word → WordOp → ℕ → ℕ → Option ℕ → Option ℕ
seen_size_next h (Lock x) op arg answer o = None
seen_size_next h (Size x) Load arg answer o = if h == x then Some answer else o
seen_size_next h _ _ _ _ o = o

-- SIZE of h as the monitor loaded it since its last step on a lock
abbrev pub seen_size : ℕ → List Step → Option ℕ
seen_size h r = fold_steps (seen_size_next h) None r

abbrev pub is_ored_next : (h j : ℕ) → Word → WordOp → ℕ → ℕ → Bool → Bool
is_ored_next h j (Lock x) op arg answer b = false
is_ored_next h j (Tlb x k f) Or arg answer b = if same (Tlb h j Write) (Tlb x k f) then true else b
is_ored_next h j _ _ _ _ b = b

-- whether it ored bit 1 into the WRITE word of slot j of h since then
abbrev pub is_ored : (h j : ℕ) → List Step → Bool
is_ored h j r = fold_steps (is_ored_next h j) false r

-- in this lock section bit 1 was ored into every WRITE word of h below SIZE and of the victims
abbrev pub IsSwept : ℕ → List Step → Type 0
IsSwept h r = (n : ℕ) × (seen_size h r ≡ Some n) × ((j : ℕ) → (j < n) ⊎ (is_victim j ≡ true) → is_ored h j r ≡ true)
