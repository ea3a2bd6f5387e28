-- What callers of a translation rely on. Lists are newest first.
use Rattle.std.specs.Prelude.{◌≡◌, ℕ, Bool, true, false, List, ◌++◌}
use Rattle.rv64_priv.specs.declared.state.Kind.{Kind}
use Rattle.rv64_priv.specs.declared.state.Kind.TheVariants.{Store}
use Rattle.rv64_priv.specs.declared.state.Regime.{Regime}
use Rattle.rv64_priv.specs.Walk.{Walked, is_device}
use Rattle.step_laws.specs.declared.steps.Step.{Step}
use Rattle.guest_ram.specs.Ports.{Shown, layout_of}
use Rattle.walk_laws.specs.WalkLoads.{IsWalked}
use Rattle.walk_laws.specs.KeptWalks.{Item, IsKept, made_all}
use Rattle.tlb_entry.specs.declared.books.Book.{Book}
use Rattle.tlb_entry.specs.Compare.{field_of, hit}
use Rattle.tlb_entry.specs.Kept.{kept}
use Rattle.tlb_table.specs.Lookups.{slot}
use Rattle.kept_fills.specs.Fills.{Fill, GoesWithFills, HasSameTable}
use Rattle.tlb_fill.specs.Stepping.{IsCause, IsArmedAt, place_in}
use Rattle.tlb_fill.specs.declared.translation.Translated.{Translated}
use Rattle.tlb_fill.specs.declared.translation.Translated.TheVariants as gives

-- a kept walk gives this physical address, in RAM or on a device
pub record IsLeafAt (pages : ℕ) (r : Regime) (kind : Kind) (va : ℕ) (device : Bool) (at : ℕ) (items : List Item) : Type 0 where
  pub pte : ℕ
  pub address : ℕ
  pub level : ℕ
  pub kept : IsKept pages r kind va pte address level items
  pub device_is : is_device address ≡ device
  pub at_is : at ≡ place_in address va

-- the fault that a walk by loads of these steps gave, with the address as its value
pub record IsFaultOf (pages : ℕ) (r : Regime) (kind : Kind) (va cause tval : ℕ) (added : List Step) : Type 0 where
  pub end : Walked
  pub walked : IsWalked pages r kind va end added
  pub cause_is : IsCause kind end cause
  pub tval_is : tval ≡ va

-- The answer is allowed: an address is that of a walk whose words were loaded since the last flush that covers its leaf; a fault is that of
-- a walk whose words this call loaded
abbrev pub IsAllowed : (pages : ℕ) → Regime → Kind → (va : ℕ) → Translated → (added : List Step) → List Item → Type 0
IsAllowed pages r kind va (gives.Ram at) added items = IsLeafAt pages r kind va false at (made_all added ++ items)
IsAllowed pages r kind va (gives.Device at) added items = IsLeafAt pages r kind va true at (made_all added ++ items)
IsAllowed pages r kind va (gives.Fault cause tval) added items = IsFaultOf pages r kind va cause tval added
IsAllowed pages r kind va (gives.Busy busy) added items = Unit {0}

-- with these steps and further fills the book goes, and the answer is allowed
pub record AnswersAllowed (p q : Shown) (b' : Book) (r : Regime) (va : ℕ) (kind : Kind) (result : Translated) (items : List Item) (fills : List Fill) : Type 0 where
  pub added : List Step
  pub steps_are : q.own.steps ≡ added ++ p.own.steps
  pub more : List Fill
  pub goes : GoesWithFills q b' r (made_all added ++ items) (more ++ fills)
  pub allowed : IsAllowed (layout_of p).pages r kind va result added items

-- the table as the hart's own stores left it hits
abbrev pub HitsKept : Shown → (size : ℕ) → Regime → (va : ℕ) → Kind → Type 0
HitsKept p size r va kind = hit (kept p.own.actor (slot va size) (field_of kind) p.own.steps) va r.user ≡ true

-- behind an answer the table hits
abbrev pub HitsNow : Shown → (size : ℕ) → Regime → (va : ℕ) → Kind → Translated → Type 0
HitsNow q size r va kind (gives.Ram at) = HitsKept q size r va kind
HitsNow q size r va kind (gives.Device at) = HitsKept q size r va kind
HitsNow q size r va kind (gives.Fault cause tval) = Unit {0}
HitsNow q size r va kind (gives.Busy busy) = Unit {0}

-- behind a fault, and where the lock was held, the table and the book are as they were
abbrev pub LeavesAll : Shown → Shown → Book → Book → Translated → Type 0
LeavesAll p q b b' (gives.Ram at) = Unit {0}
LeavesAll p q b b' (gives.Device at) = Unit {0}
LeavesAll p q b b' (gives.Fault cause tval) = HasSameTable p q × (b' ≡ b)
LeavesAll p q b b' (gives.Busy busy) = HasSameTable p q × (b' ≡ b)

-- a store's answer in RAM lets the hart store there
abbrev pub ArmsFor : Kind → Shown → Translated → Type 0
ArmsFor kind q (gives.Ram at) = kind ≡ Store → IsArmedAt at q
ArmsFor kind q (gives.Device at) = Unit {0}
ArmsFor kind q (gives.Fault cause tval) = Unit {0}
ArmsFor kind q (gives.Busy busy) = Unit {0}
