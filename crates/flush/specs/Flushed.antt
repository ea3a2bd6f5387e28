-- What flushes leave of a hart's TLB (RISC-V Privileged Architecture, "Supervisor Memory-Management Fence Instruction"). Lists are newest
-- first.
use Rattle.std.specs.Prelude.{◌≡◌, ◌⊎◌, ℕ, ◌+◌, ◌*◌, ◌/◌, ◌<◌, ◌≤◌, Bool, true, false, if◌then◌else◌, List, [], ◌∷◌, ◌++◌}
use Rattle.rv64_priv.specs.declared.state.Kind.{Kind}
use Rattle.rv64_priv.specs.declared.state.Regime.{Regime}
use Rattle.rv64_priv.specs.Flush.{Flush, Full, Pages, covers}
use Rattle.step_laws.specs.declared.map.TlbField.{TlbField}
use Rattle.step_laws.specs.declared.map.TlbField.TheVariants.{Page}
use Rattle.step_laws.specs.declared.steps.Step.{Step}
use Rattle.step_laws.specs.Fields.{invalid_bit, request_kind, request_count, request_page}
use Rattle.step_laws.specs.Map.{Tlb}
use Rattle.step_laws.specs.Tables.{IsClean, is_compare, is_swept, size_of, table_word}
use Rattle.guest_ram.specs.Ports.{Shown, layout_of}
use Rattle.walk_laws.specs.KeptWalks.{Item, flushed, made_all}
use Rattle.tlb_entry.specs.declared.books.Book.{Book}
use Rattle.tlb_entry.specs.Compare.{field_of}
use Rattle.tlb_entry.specs.Kept.{kept}
use Rattle.tlb_lock.specs.Locking.{HasFoundHolder, HasFreed}
use Rattle.kept_fills.specs.Fills.{Fill, GoesWithFills, IsAmong, IsOf}

-- a record with its flushes, behind the steps of one more
abbrev pub behind_flush : Flush → (added : List Step) → List Item → List Item
behind_flush what added items = flushed what ∷ (made_all added ++ items)

-- no valid entry is of a fill whose leaf the flush covers, at the leaf's level
abbrev pub HasNoneCovered : Flush → Shown → Regime → List Fill → Type 0
HasNoneCovered what q r fills = (slot : ℕ) (kind : Kind) (f : Fill) → slot < size_of q.own.actor q.own.steps → invalid_bit (kept q.own.actor slot (field_of kind) q.own.steps) ≡ 0
    → IsAmong f fills → IsOf (layout_of q).pages r kind f (kept q.own.actor slot (field_of kind) q.own.steps) (table_word (Tlb q.own.actor slot Page) q.own.steps) → covers what f.va f.level ≡ false

-- the word of a slot is as it was
abbrev pub IsLeft : Shown → Shown → (slot : ℕ) → TlbField → Type 0
IsLeft p q slot field = table_word (Tlb q.own.actor slot field) q.own.steps ≡ table_word (Tlb p.own.actor slot field) p.own.steps

-- the last step freed the hart's lock
abbrev pub HasEnded : (hart : ℕ) → Shown → Type 0
HasEnded hart q = (before : Shown) × HasFreed hart before q

-- the request names nothing but these pages
abbrev pub IsForPages : (request first count : ℕ) → Type 0
IsForPages request first count = (request_kind request ≡ 2) × (first ≤ request_page request) × (request_page request + request_count request ≤ first + count)

-- The whole table was flushed: 1 stands in each compare word of the main slots, as many as there were and as there are, and of the victims;
-- other words stand as they stood. The book is a new one's. Whatever fills it went with, there are none now, under any regime
pub record HasFlushedAll (p q : Shown) (b b' : Book) : Type 0 where
  pub invalid : (slot : ℕ) (field : TlbField) → is_compare field ≡ true → is_swept b.size 64 slot ≡ true → table_word (Tlb q.own.actor slot field) q.own.steps ≡ 1
  pub others : (slot : ℕ) (field : TlbField) → (is_compare field ≡ false) ⊎ (is_swept b.size 64 slot ≡ false) → IsLeft p q slot field
  pub book : b' ≡ record { hart = b.hart; size = 64; used = 0; large = false }
  pub goes : (added : List Step) (r later : Regime) (items : List Item) (fills : List Fill) → q.own.steps ≡ added ++ p.own.steps → GoesWithFills p b r items fills
      → GoesWithFills q b' later (behind_flush Full added items) []
  pub none : (r : Regime) (fills : List Fill) → HasNoneCovered Full q r fills
  pub clean : (request : ℕ) → IsClean q.own.actor request q.own.steps
  pub ended : HasEnded b.hart q

abbrev pub IsWithin : (first count number : ℕ) → Type 0
IsWithin first count number = (first ≤ number) × (number < first + count)

-- Pages were flushed: each compare word stands as it stood, or is 1 and was for one of them; the others stand as they stood, and so does
-- the book. Whatever fills the book went with, it goes with them still, and none of a valid entry is covered
pub record HasFlushedPages (p q : Shown) (b b' : Book) (first count : ℕ) : Type 0 where
  pub words : (slot : ℕ) (field : TlbField) → IsLeft p q slot field
      ⊎ ((is_compare field ≡ true) × (table_word (Tlb q.own.actor slot field) q.own.steps ≡ 1) × IsWithin first count (table_word (Tlb p.own.actor slot field) p.own.steps / 4096))
  pub book : b' ≡ b
  pub goes : (added : List Step) (r : Regime) (items : List Item) (fills : List Fill) → q.own.steps ≡ added ++ p.own.steps → GoesWithFills p b r items fills
      → GoesWithFills q b' r (behind_flush (Pages first count) added items) fills
  pub none : (r : Regime) (items : List Item) (fills : List Fill) → GoesWithFills p b r items fills → HasNoneCovered (Pages first count) q r fills
  pub clean : (r : Regime) (items : List Item) (fills : List Fill) (request : ℕ) → GoesWithFills p b r items fills → IsForPages request first count → IsClean q.own.actor request q.own.steps
  pub ended : HasEnded b.hart q

-- a flush of pages is made full exactly where a leaf of 2 MiB or 1 GiB was entered
abbrev pub HasFlushed : (large : Bool) → (p q : Shown) (b b' : Book) (first count : ℕ) → Type 0
HasFlushed true p q b b' first count = HasFlushedAll p q b b'
HasFlushed false p q b b' first count = HasFlushedPages p q b b' first count

-- how many steps a full flush makes at most: the lock, SIZE, three words of each slot and of the eight victims, the lock
abbrev pub full_steps : (size : ℕ) → ℕ
full_steps size = 3 * size + 27

-- a flush of pages loads three words for each at most, and makes each invalid at most once
abbrev pub page_steps : (large : Bool) → (size count : ℕ) → ℕ
page_steps large size count = if large then full_steps size else 6 * count + 2

-- the lock was found held, by one exchange, and nothing else was done
pub record HasBeenBusy (holder : ℕ) (p q : Shown) (b b' : Book) : Type 0 where
  pub found : HasFoundHolder b.hart holder p q
  pub book : b' ≡ b
