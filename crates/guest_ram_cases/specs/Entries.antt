-- The steps on locks and on a hart's table.
use Rattle.std.specs.Prelude.{◌≡◌, ◌≢◌, ◌<◌, ℕ, suc, ◌+◌, ◌-◌, ◌^◌, true, false}
use Rattle.step_laws.specs.declared.map.TlbField.{TlbField}
use Rattle.step_laws.specs.declared.map.TlbField.TheVariants.{Read, Write, Code, Page}
use Rattle.step_laws.specs.declared.steps.WordOp.TheVariants.{Load, Store, And, Exchange}
use Rattle.step_laws.specs.Map.{Lock, Size, Tlb, number_of}
use Rattle.step_laws.specs.Tables.{held_lock, is_compare, is_clear_due, size_of}
use Rattle.guest_ram.specs.Ports.{Shown, IsActing, after_step}
use Rattle.guest_ram_cases.specs.declared.filling.Entry.{Entry}

-- LOCK of the hart was exchanged from 0 for the actor's number and 1
abbrev pub HasLocked : Shown → (hart : ℕ) → Shown → Type 0
HasLocked p h q = q ≡ after_step p (number_of (Lock h)) (Exchange 0) (p.own.actor + 1) 0

-- another holds it
abbrev pub HasFoundLock : Shown → (hart found : ℕ) → Shown → Type 0
HasFoundLock p h found q = (found ≢ 0) × (q ≡ after_step p (number_of (Lock h)) (Exchange 0) (p.own.actor + 1) found)

abbrev pub HasUnlocked : Shown → (hart : ℕ) → Shown → Type 0
HasUnlocked p h q = q ≡ after_step p (number_of (Lock h)) Store 0 0

-- the actor holds the lock of its own table
abbrev pub IsHolding : Shown → Type 0
IsHolding p = held_lock p.own.steps ≡ suc p.own.actor

-- no store of SIZE asks for anything any more
abbrev pub IsPaid : Shown → Type 0
IsPaid p = (j : ℕ) (f : TlbField) → is_compare f ≡ true → is_clear_due p.own.actor j f p.own.steps ≡ false

-- none of a slot
abbrev pub IsPaidFor : (slot : ℕ) → Shown → Type 0
IsPaidFor j p = (f : TlbField) → is_compare f ≡ true → is_clear_due p.own.actor j f p.own.steps ≡ false

-- what wasn't asked for isn't asked for now
abbrev pub KeepsPaid : Shown → Shown → Type 0
KeepsPaid p q = (j : ℕ) (f : TlbField) → is_compare f ≡ true → is_clear_due p.own.actor j f p.own.steps ≡ false → is_clear_due q.own.actor j f q.own.steps ≡ false

-- the size is the same, and no more is asked for
pub record KeepsTable (p q : Shown) : Type 0 where
  pub size : size_of q.own.actor q.own.steps ≡ size_of p.own.actor p.own.steps
  pub paid : KeepsPaid p q

-- the hart of this number holds the lock of its own table
pub record IsOwning (p : Shown) (own : ℕ) : Type 0 where
  pub acting : IsActing p
  pub own_is : own ≡ p.own.actor
  pub hart : p.own.actor < p.machine.layout.harts
  pub held : IsHolding p

-- a word of a slot of the own table was stored
abbrev pub slot_stored : Shown → (slot : ℕ) → TlbField → ℕ → Shown
slot_stored p j f value = after_step p (number_of (Tlb p.own.actor j f)) Store value 0

-- the slot was made invalid for writes, and then its words stored, WRITE the last
abbrev pub HasFilled : Shown → (slot : ℕ) → Entry → Shown → Type 0
HasFilled p j e q = q ≡ slot_stored (slot_stored (slot_stored (slot_stored (slot_stored p j Write 1) j Page e.page) j Read e.read) j Code e.code) j Write e.write

-- the slot's compare words were made invalid
abbrev pub HasEmptied : Shown → (slot : ℕ) → Shown → Type 0
HasEmptied p j q = q ≡ slot_stored (slot_stored (slot_stored p j Read 1) j Write 1) j Code 1

-- bit 1 of a WRITE word was cleared: the page is dirty
abbrev pub HasDirtied : Shown → (slot : ℕ) → Shown → Type 0
HasDirtied p j q = (found : ℕ) × (q ≡ after_step p (number_of (Tlb p.own.actor j Write)) And (2 ^ 64 - 3) found)

-- SIZE of the own table was loaded
abbrev pub size_loaded : Shown → (found : ℕ) → Shown
size_loaded p found = after_step p (number_of (Size p.own.actor)) Load 0 found

-- a word of a slot of the own table was loaded
abbrev pub slot_loaded : Shown → (slot : ℕ) → TlbField → (found : ℕ) → Shown
slot_loaded p j f found = after_step p (number_of (Tlb p.own.actor j f)) Load 0 found
