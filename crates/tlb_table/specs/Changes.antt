-- Changes of slots of a hart's own TLB: which steps they are.
use Rattle.std.specs.Prelude.{◌≡◌, ◌<◌, ℕ, true, false}
use Rattle.step_laws.specs.declared.map.TlbField.{TlbField}
use Rattle.step_laws.specs.declared.map.TlbField.TheVariants.{Read, Write, Code, Page}
use Rattle.step_laws.specs.declared.steps.WordOp.TheVariants.{Load, Store}
use Rattle.step_laws.specs.Map.{Tlb, number_of}
use Rattle.step_laws.specs.Marks.{is_known_dirty, is_page}
use Rattle.step_laws.specs.Tables.{is_clear_due, is_compare}
use Rattle.guest_ram.specs.Ports.{Shown, after_step, layout_of}
use Rattle.tlb_entry.specs.declared.entries.Entry.{Entry}

-- a word of a slot of the own table was loaded, stored
abbrev pub loaded : Shown → (slot : ℕ) → TlbField → (found : ℕ) → Shown
loaded p j f found = after_step p (number_of (Tlb p.own.actor j f)) Load 0 found

abbrev pub stored : Shown → (slot : ℕ) → TlbField → (value : ℕ) → Shown
stored p j f value = after_step p (number_of (Tlb p.own.actor j f)) Store value 0

-- the three compare words were loaded
pub record HasLooked (slot : ℕ) (p q : Shown) : Type 0 where
  pub read : ℕ
  pub write : ℕ
  pub code : ℕ
  pub steps : q ≡ loaded (loaded (loaded p slot Read read) slot Write write) slot Code code

-- the slot was made invalid for stores, and then its words stored, WRITE the last
abbrev pub HasFilled : (slot : ℕ) → Entry → Shown → Shown → Type 0
HasFilled j e p q = q ≡ stored (stored (stored (stored (stored p j Write 1) j Page e.page) j Read e.read) j Code e.code) j Write e.write

-- an entry was put: the slot's compare words were loaded, to see whether it was free, and its words stored
pub record HasPut (slot : ℕ) (e : Entry) (p q : Shown) : Type 0 where
  pub between : Shown
  pub looked : HasLooked slot p between
  pub filled : HasFilled slot e between q

-- 1 was stored in the three compare words
abbrev pub HasCleared : (slot : ℕ) → Shown → Shown → Type 0
HasCleared j p q = q ≡ stored (stored (stored p j Read 1) j Write 1) j Code 1

-- where this is the address of a page of RAM, the hart has marked that page in this section of its lock, or found it dirty there
abbrev pub IsKnownIn : (address : ℕ) → Shown → Type 0
IsKnownIn address p = (page : ℕ) → page < (layout_of p).pages → is_page page address ≡ true → is_known_dirty p.own.actor page p.own.steps ≡ true

-- a word that wasn't to be cleared before a section of the lock ends isn't now
abbrev pub OwesNoMore : Shown → Shown → Type 0
OwesNoMore p q = (slot : ℕ) (field : TlbField) → is_compare field ≡ true → is_clear_due p.own.actor slot field p.own.steps ≡ false → is_clear_due q.own.actor slot field q.own.steps ≡ false
