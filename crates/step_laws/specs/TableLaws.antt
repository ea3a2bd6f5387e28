-- The law of locks and tables.
use Rattle.std.specs.Prelude.{◌≡◌, ◌≢◌, ℕ, suc, ◌+◌, ◌/◌, ◌%◌, ◌<◌, ◌≤◌, ◌⊎◌, ◌↔◌, Bool, true, false, List}
use Rattle.step_laws.specs.declared.words.Layout.{Layout}
use Rattle.step_laws.specs.declared.map.TlbField.{TlbField}
use Rattle.step_laws.specs.declared.map.TlbField.TheVariants.{Write}
use Rattle.step_laws.specs.declared.steps.Step.{Step}
use Rattle.step_laws.specs.declared.steps.WordOp.TheVariants.{Store, Exchange}
use Rattle.step_laws.specs.Past.{Since, Anything, Each}
use Rattle.step_laws.specs.Map.{Word, Lock, Size, Tlb, name_of}
use Rattle.step_laws.specs.WordValues.{word_value}
use Rattle.step_laws.specs.Steps.{own_steps}
use Rattle.step_laws.specs.Fields.{IsSize, invalid_bit}
use Rattle.step_laws.specs.Tables.{held_lock, table_word, size_of, is_compare, is_victim, boot_entry, table_boot}
use Rattle.step_laws.specs.Loader.{is_stored}
use Rattle.step_laws.specs.Discipline.{IsActor}
use Rattle.step_laws.specs.Histories.{IsHistory, IsBegun}

-- a word of a table is what its hart stored there last, or the loader, but for bit 1 of a WRITE word
abbrev pub IsLastField : TlbField → (last found : ℕ) → Type 0
IsLastField Write last found = (found / 4 ≡ last / 4) × (found % 2 ≡ last % 2)
IsLastField _ last found = found ≡ last

-- the words of a hart's TLB
abbrev pub IsOwnTable : ℕ → Word → Type 0
IsOwnTable a (Tlb h j f) = h ≡ a
IsOwnTable a (Size h) = h ≡ a
IsOwnTable a _ = ⊥

-- a word of the own TLB is what was stored there last, but that the monitor may have set bit 1 of a WRITE word
abbrev pub IsLastStored : Word → (last found : ℕ) → Type 0
IsLastStored (Tlb h j f) last found = IsLastField f last found
IsLastStored _ last found = found ≡ last

-- neither the hart nor the loader ever stored there
abbrev pub IsFresh : (b j : ℕ) → TlbField → List Step → Type 0
IsFresh b j f r = (is_stored (Tlb b j f) r ≡ false) × (boot_entry j f ≡ 0)

-- LOCK names the holder
abbrev pub LockFacts : Type 0
LockFacts = (layout : Layout) (runs : ℕ → Bool) (hs : List Step) (a h : ℕ) → IsHistory layout runs hs → IsBegun layout runs hs → IsActor layout a
    → (held_lock (own_steps a hs) ≡ suc h) ↔ (word_value (Lock h) hs ≡ a + 1)

-- the words of a table are its hart's
abbrev pub TableFacts : Type 0
TableFacts = (layout : Layout) (runs : ℕ → Bool) (hs : List Step) (b j : ℕ) (f : TlbField) → IsHistory layout runs hs → IsBegun layout runs hs → b < layout.harts
    → IsLastField f (table_word (Tlb b j f) (own_steps b hs)) (word_value (Tlb b j f) hs) × (word_value (Size b) hs ≡ size_of b (own_steps b hs)) × IsSize (word_value (Size b) hs)

-- the hart's store in a word of its TLB
abbrev pub IsTableStore : ℕ → Word → Step → Type 0
IsTableStore b w s = (s.actor ≡ b) × (name_of s.word ≡ w) × (s.op ≡ Store)

-- a word of a table is what its hart's last store left there
abbrev pub StoreLaw : Type 0
StoreLaw = (layout : Layout) (runs : ℕ → Bool) (hs : List Step) (b v : ℕ) (w : Word) → IsHistory layout runs hs → IsBegun layout runs hs → b < layout.harts → IsOwnTable b w
    → Since (λ s. IsTableStore b w s → ⊥) (λ s. IsTableStore b w s × (s.arg ≡ v)) Anything hs → IsLastStored w v (word_value w hs)

-- and the loader's where the hart stored nothing there
abbrev pub BootLaw : Type 0
BootLaw = (layout : Layout) (runs : ℕ → Bool) (hs : List Step) (b : ℕ) (w : Word) → IsHistory layout runs hs → IsBegun layout runs hs → b < layout.harts → IsOwnTable b w
    → Each (λ s. IsTableStore b w s → ⊥) hs → IsLastStored w (table_boot w) (word_value w hs)

-- outside its lock sections a hart's main slots at or above SIZE are invalid, or were never stored
abbrev pub SlotFacts : Type 0
SlotFacts = (layout : Layout) (runs : ℕ → Bool) (hs : List Step) (b j : ℕ) (f : TlbField) → IsHistory layout runs hs → IsBegun layout runs hs → b < layout.harts
    → is_compare f ≡ true → is_victim j ≡ false → word_value (Lock b) hs ≢ b + 1 → word_value (Size b) hs ≤ j → (invalid_bit (word_value (Tlb b j f) hs) ≡ 1) ⊎ IsFresh b j f (own_steps b hs)

-- a's exchange that takes the lock of h, and its store that frees it
abbrev pub IsLocking : (a h : ℕ) → Step → Type 0
IsLocking a h s = (s.actor ≡ a) × (name_of s.word ≡ Lock h) × (s.op ≡ Exchange 0) × (s.answer ≡ 0)

abbrev pub IsFreeing : (a h : ℕ) → Step → Type 0
IsFreeing a h s = (s.actor ≡ a) × (name_of s.word ≡ Lock h) × (s.op ≡ Store)

-- LOCK of h is a + 1 exactly from where a takes it to where a frees it
abbrev pub LockLaw : Type 0
LockLaw = (layout : Layout) (runs : ℕ → Bool) (hs : List Step) (a h : ℕ) → IsActor layout a → IsHistory layout runs hs → IsBegun layout runs hs
    → (word_value (Lock h) hs ≡ a + 1) ↔ Since (λ s. IsFreeing a h s → ⊥) (IsLocking a h) Anything hs
