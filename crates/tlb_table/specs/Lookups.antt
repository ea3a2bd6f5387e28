-- Lookups of a hart's own TLB: which words were loaded, and what they say.
use Rattle.std.specs.Prelude.{◌≡◌, ℕ, ◌/◌, ◌%◌, Bool, true, false, Option, Some, None}
use Rattle.rv64_priv.specs.declared.state.Kind.{Kind}
use Rattle.step_laws.specs.declared.map.TlbField.{TlbField}
use Rattle.step_laws.specs.declared.map.TlbField.TheVariants.{Page}
use Rattle.step_laws.specs.declared.steps.WordOp.TheVariants.{Load}
use Rattle.step_laws.specs.Map.{Tlb}
use Rattle.step_laws.specs.TableLaws.{IsLastField}
use Rattle.step_laws.specs.Marks.{is_known_dirty}
use Rattle.step_laws.specs.Tables.{held_lock, is_clear_due, size_of, table_word}
use Rattle.guest_ram.specs.Ports.{Shown, Made}
use Rattle.tlb_entry.specs.declared.books.Hit.{Hit}
use Rattle.tlb_entry.specs.Kept.{used_of}
use Rattle.tlb_entry.specs.Compare.{field_of, hit, is_for_device, is_not_dirty}

-- the main slot of an address: its page's number modulo the number of main slots
abbrev pub slot : (va size : ℕ) → ℕ
slot va size = va / 4096 % size

-- the compare word of the slot was loaded for this kind of access: it is the last one stored, but that the monitor may have set bit 1
pub record HasCompared (p q : Shown) (slot : ℕ) (kind : Kind) (compare : ℕ) : Type 0 where
  pub made : Made p q (Tlb p.own.actor slot (field_of kind)) Load 0 compare
  pub last : IsLastField (field_of kind) (table_word (Tlb p.own.actor slot (field_of kind)) p.own.steps) compare

-- it doesn't hit
pub record HasMissed (p q : Shown) (slot va : ℕ) (user : Bool) (kind : Kind) : Type 0 where
  pub compare : ℕ
  pub compared : HasCompared p q slot kind compare
  pub misses : hit compare va user ≡ false

-- it hits, and PAGE was loaded
pub record HasHit (p q : Shown) (slot va : ℕ) (user : Bool) (kind : Kind) (found : Hit) : Type 0 where
  pub compare : ℕ
  pub between : Shown
  pub compared : HasCompared p between slot kind compare
  pub hits : hit compare va user ≡ true
  pub loaded : Made between q (Tlb between.own.actor slot Page) Load 0 found.page
  pub page : found.page ≡ table_word (Tlb p.own.actor slot Page) p.own.steps
  pub slot_is : found.slot ≡ slot
  pub not_dirty : found.not_dirty ≡ is_not_dirty compare
  pub device : found.device ≡ is_for_device compare

abbrev pub HasProbed : (p q : Shown) (slot va : ℕ) (user : Bool) → Kind → Option Hit → Type 0
HasProbed p q slot va user kind None = HasMissed p q slot va user kind
HasProbed p q slot va user kind (Some found) = HasHit p q slot va user kind found

-- A lookup leaves what the record says of the own table and its lock as it was, and no page that was known to be dirty is so no more
pub record IsAlike (p q : Shown) : Type 0 where
  pub machine : q.machine ≡ p.machine
  pub actor : q.own.actor ≡ p.own.actor
  pub words : (slot : ℕ) (field : TlbField) → table_word (Tlb q.own.actor slot field) q.own.steps ≡ table_word (Tlb p.own.actor slot field) p.own.steps
  pub size : size_of q.own.actor q.own.steps ≡ size_of p.own.actor p.own.steps
  pub used : used_of q.own.actor q.own.steps ≡ used_of p.own.actor p.own.steps
  pub held : held_lock q.own.steps ≡ held_lock p.own.steps
  pub due : (slot : ℕ) (field : TlbField) → is_clear_due q.own.actor slot field q.own.steps ≡ is_clear_due p.own.actor slot field p.own.steps
  pub known : (page : ℕ) → is_known_dirty p.own.actor page p.own.steps ≡ true → is_known_dirty q.own.actor page q.own.steps ≡ true
