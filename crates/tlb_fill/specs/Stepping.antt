-- Which steps a translation by a TLB makes. Lists are newest first.
use Rattle.std.specs.Prelude.{◌≡◌, ◌⊎◌, ℕ, ◌+◌, ◌-◌, ◌*◌, ◌/◌, ◌%◌, ◌^◌, ◌<◌, ◌==◌, ◌||◌, Bool, true, false, not, if◌then◌else◌}
use Rattle.rv64_priv.specs.declared.state.Kind.{Kind}
use Rattle.rv64_priv.specs.declared.state.Kind.TheVariants.{Fetch, Load, Store}
use Rattle.rv64_priv.specs.declared.state.Regime.{Regime}
use Rattle.rv64_priv.specs.Trap.{access_fault, page_fault}
use Rattle.rv64_priv.specs.Walk.{Walked, Leaf, AccessFault, PageFault, is_device}
use Rattle.step_laws.specs.declared.map.TlbField.TheVariants as fields
use Rattle.step_laws.specs.declared.steps.WordOp.TheVariants as ops
use Rattle.step_laws.specs.Map.{Word, Lock, Size, Dirty, Tlb, Ram}
use Rattle.step_laws.specs.Marks.{is_armed, is_page}
use Rattle.guest_ram.specs.Ports.{Shown, Made, layout_of}
use Rattle.tlb_entry.specs.declared.books.Book.{Book}
use Rattle.tlb_entry.specs.declared.books.Hit.{Hit}
use Rattle.tlb_entry.specs.declared.entries.Entry.{Entry}
use Rattle.tlb_entry.specs.Filled.{entry_word, word_for}
use Rattle.tlb_entry.specs.Compare.{field_of}
use Rattle.tlb_entry.specs.Kept.{kept_word}
use Rattle.tlb_lock.specs.Locking.{HasFoundHolder, HasFreed, HasTaken}
use Rattle.tlb_table.specs.Changes.{HasPut}
use Rattle.tlb_table.specs.Lookups.{HasHit, HasMissed, slot}
use Rattle.dirty_bitmap.specs.DirtyBits.{HasMarked}
use Rattle.sv39_walk.specs.Walking.{HasWalked}
use Rattle.tlb_fill.specs.declared.translation.Translated.{Translated}
use Rattle.tlb_fill.specs.declared.translation.Translated.TheVariants as gives

-- dirty bits alone
abbrev pub IsOfMarks : Word → Type 0
IsOfMarks (Dirty i) = Unit {0}
IsOfMarks _ = ⊥

-- what a hit touches: words of TLBs with their locks, and dirty bits
abbrev pub IsOfHit : Word → Type 0
IsOfHit (Lock h) = Unit {0}
IsOfHit (Size h) = Unit {0}
IsOfHit (Tlb h j f) = Unit {0}
IsOfHit (Dirty i) = Unit {0}
IsOfHit _ = ⊥

-- a miss touches RAM besides
abbrev pub IsOfFill : Word → Type 0
IsOfFill (Ram i) = Unit {0}
IsOfFill w = IsOfHit w

-- the page of RAM at this address was marked; where there is none, as at a device's, nothing was done
pub data HasMarkedAt (address : ℕ) (p q : Shown) : Type 0 where
  marks : (page : ℕ) → page < (layout_of p).pages → is_page page address ≡ true → HasMarked p q page → HasMarkedAt address p q
  elsewhere : ((page : ℕ) → page < (layout_of p).pages → is_page page address ≡ true → ⊥) → q ≡ p → HasMarkedAt address p q

-- a store's mark
abbrev pub HasMarkedFor : Kind → (address : ℕ) → Shown → Shown → Type 0
HasMarkedFor Store address p q = HasMarkedAt address p q
HasMarkedFor Load address p q = q ≡ p
HasMarkedFor Fetch address p q = q ≡ p

-- where it is a page of RAM, the hart may store there
abbrev pub IsArmedAt : (address : ℕ) → Shown → Type 0
IsArmedAt address p = (page : ℕ) → page < (layout_of p).pages → is_page page address ≡ true → is_armed p.own.actor page p.own.steps ≡ true

-- a store that hits a word with bit 1 set
abbrev pub waits : Kind → (not_dirty : Bool) → Bool
waits Store not_dirty = not_dirty
waits Load not_dirty = false
waits Fetch not_dirty = false

-- the physical address: the page's, with the offset of the virtual one
abbrev pub place_in : (page va : ℕ) → ℕ
place_in page va = page / 4096 * 4096 + va % 4096

abbrev pub answer : (device : Bool) → (page va : ℕ) → Translated
answer device page va = if device then gives.Device (place_in page va) else gives.Ram (place_in page va)

-- in one section of the lock the page was marked, and then bit 1 of the slot's WRITE word cleared
pub record HasSettled (slot address : ℕ) (p q : Shown) : Type 0 where
  pub locked : Shown
  pub marked : Shown
  pub clear : Shown
  pub found : ℕ
  pub takes : HasTaken p.own.actor p locked
  pub marks : HasMarkedAt address locked marked
  pub clears : Made marked clear (Tlb p.own.actor slot fields.Write) ops.And (2 ^ 64 - 3) found
  pub frees : HasFreed p.own.actor clear q

-- what is made of a hit
pub data IsServed (p q : Shown) (va : ℕ) (kind : Kind) (found : Hit) (result : Translated) : Type 0 where
  at_once : waits kind found.not_dirty ≡ false → q ≡ p → result ≡ answer found.device found.page va → IsServed p q va kind found result
  settled : waits kind found.not_dirty ≡ true → HasSettled found.slot found.page p q → result ≡ answer found.device found.page va → IsServed p q va kind found result
  barred : (holder : ℕ) → waits kind found.not_dirty ≡ true → HasFoundHolder p.own.actor holder p q → result ≡ gives.Busy (record { holder = holder }) → IsServed p q va kind found result

-- the entry of a leaf; for a store to RAM its WRITE word says that the page is dirty
pub record Fits (e : Entry) (r : Regime) (va : ℕ) (kind : Kind) (pte page : ℕ) : Type 0 where
  pub words : (other : Kind) → kept_word (field_of other) (entry_word e (field_of other)) ≡ kept_word (field_of other) (word_for pte va (is_device page) r other)
  pub page_is : e.page ≡ page
  pub dirty : e.write % 4 ≡ 0 → (kind ≡ Store) ⊎ (is_device page ≡ true)
  pub clean : kind ≡ Store → e.write / 2 % 2 ≡ 0

-- in one section of the lock the page was marked for a store, and then the entry put into the main slot of the address
pub record HasPutLeaf (p q : Shown) (size : ℕ) (r : Regime) (va : ℕ) (kind : Kind) (pte page : ℕ) : Type 0 where
  pub locked : Shown
  pub marked : Shown
  pub filled : Shown
  pub entry : Entry
  pub takes : HasTaken p.own.actor p locked
  pub marks : HasMarkedFor kind page locked marked
  pub fits : Fits entry r va kind pte page
  pub puts : HasPut (slot va size) entry marked filled
  pub frees : HasFreed p.own.actor filled q

-- what is made of a leaf: the book takes note of a leaf above level 0
pub data IsEntered (p q : Shown) (b b' : Book) (r : Regime) (va : ℕ) (kind : Kind) (pte page level : ℕ) (result : Translated) : Type 0 where
  entered : HasPutLeaf p q b.size r va kind pte page → b'.large ≡ (not (level == 0) || b.large) → result ≡ answer (is_device page) page va → IsEntered p q b b' r va kind pte page level result
  kept_out : (holder : ℕ) → HasFoundHolder p.own.actor holder p q → b' ≡ b → result ≡ gives.Busy (record { holder = holder }) → IsEntered p q b b' r va kind pte page level result

-- a walk's end that is a fault, and its cause (RISC-V Privileged Architecture, "Supervisor Cause Register")
abbrev pub IsCause : Kind → Walked → (cause : ℕ) → Type 0
IsCause kind (Leaf pte page level) cause = ⊥
IsCause kind PageFault cause = cause ≡ page_fault kind
IsCause kind AccessFault cause = cause ≡ access_fault kind

-- what is made of a miss
pub data IsWalkedFor (p q : Shown) (b b' : Book) (r : Regime) (va : ℕ) (kind : Kind) (result : Translated) : Type 0 where
  faulted : (end : Walked) (cause : ℕ) → HasWalked r kind va p q end → IsCause kind end cause → b' ≡ b → result ≡ gives.Fault cause va → IsWalkedFor p q b b' r va kind result
  reached : (between : Shown) (pte page level : ℕ) → HasWalked r kind va p between (Leaf pte page level) → IsEntered between q b b' r va kind pte page level result → IsWalkedFor p q b b' r va kind result

-- The steps of a translation: the lookup, and behind a hit what a store's mark asks, behind a miss the walk and the entry's put
pub data HasTranslated (p q : Shown) (b b' : Book) (r : Regime) (va : ℕ) (kind : Kind) (result : Translated) : Type 0 where
  hits : (between : Shown) (found : Hit) → HasHit p between (slot va b.size) va r.user kind found → IsServed between q va kind found result → b' ≡ b → HasTranslated p q b b' r va kind result
  misses : (between : Shown) → HasMissed p between (slot va b.size) va r.user kind → IsWalkedFor between q b b' r va kind result → HasTranslated p q b b' r va kind result
