-- The lock of a hart's TLB: 0, or its holder's number and 1.
use Rattle.std.specs.Prelude.{◌≡◌, ◌≢◌, ◌⊎◌, ℕ, suc, ◌+◌, true, false}
use Rattle.step_laws.specs.declared.map.TlbField.{TlbField}
use Rattle.step_laws.specs.declared.steps.WordOp.TheVariants.{Store, Exchange}
use Rattle.step_laws.specs.Map.{Lock, monitor}
use Rattle.step_laws.specs.Marks.{IsSwept, passing, stage}
use Rattle.step_laws.specs.Tables.{held_lock, is_clear_due, is_compare}
use Rattle.guest_ram.specs.Ports.{Shown, Made, layout_of}

-- who may take it: its hart, and the monitor where its snapshot has come to that hart
abbrev pub MayTake : (hart : ℕ) → Shown → Type 0
MayTake h p = (p.own.actor ≡ h) ⊎ ((p.own.actor ≡ monitor) × (stage (layout_of p) p.own.steps ≡ passing h))

-- the actor holds it
abbrev pub IsHolder : (hart : ℕ) → Shown → Type 0
IsHolder h p = held_lock p.own.steps ≡ suc h

-- When it may be freed: its hart owes no more words to clear for a size that it stored, and the monitor has set bit 1 of every WRITE word
abbrev pub MayFree : (hart : ℕ) → Shown → Type 0
MayFree h p = ((p.own.actor ≡ h) × ((slot : ℕ) (field : TlbField) → is_compare field ≡ true → is_clear_due p.own.actor slot field p.own.steps ≡ false))
    ⊎ ((p.own.actor ≢ h) × IsSwept h p.own.steps)

-- one exchange from 0 found it free
abbrev pub HasTaken : (hart : ℕ) → Shown → Shown → Type 0
HasTaken h p q = Made p q (Lock h) (Exchange 0) (p.own.actor + 1) 0

-- one exchange from 0 found a holder
abbrev pub HasFoundHolder : (hart holder : ℕ) → Shown → Shown → Type 0
HasFoundHolder h holder p q = (holder ≢ 0) × Made p q (Lock h) (Exchange 0) (p.own.actor + 1) holder

abbrev pub HasFreed : (hart : ℕ) → Shown → Shown → Type 0
HasFreed h p q = Made p q (Lock h) Store 0 0
