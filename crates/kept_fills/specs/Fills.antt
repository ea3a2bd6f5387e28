-- Which walks the entries of a hart's TLB are of (an address-translation cache as the RISC-V Privileged Architecture allows one in
-- "Virtual Address Translation Process"), and how long they may stay ("Supervisor Memory-Management Fence Instruction"). Lists are newest
-- first.
use Rattle.std.specs.Prelude.{◌≡◌, ◌⊎◌, ℕ, ◌/◌, ◌%◌, ◌<◌, ◌==◌, ◌||◌, Bool, true, false, not, List, [], ◌∷◌, ◌++◌}
use Rattle.rv64_priv.specs.declared.state.Kind.{Kind}
use Rattle.rv64_priv.specs.declared.state.Regime.{Regime}
use Rattle.rv64_priv.specs.Walk.{walk_of, Leaf, is_device}
use Rattle.rv64_priv.specs.Reads.{answering}
use Rattle.step_laws.specs.declared.map.TlbField.{TlbField}
use Rattle.step_laws.specs.declared.map.TlbField.TheVariants.{Page}
use Rattle.step_laws.specs.declared.steps.Step.{Step}
use Rattle.step_laws.specs.Fields.{invalid_bit}
use Rattle.step_laws.specs.Map.{Tlb}
use Rattle.step_laws.specs.Tables.{is_compare, is_victim, size_of, table_word}
use Rattle.guest_ram.specs.Ports.{Shown, layout_of}
use Rattle.walk_laws.specs.WalkLoads.{AreLoaded, reads_of}
use Rattle.walk_laws.specs.KeptWalks.{Item, made, flushed, HasStood, made_all}
use Rattle.tlb_entry.specs.declared.books.Book.{Book}
use Rattle.tlb_entry.specs.Compare.{compare_word, field_of}
use Rattle.tlb_entry.specs.Kept.{kept}

-- An entry was put for an address in a mode: the words that the walk found by level, and the leaf that it gave, with the address of the
-- physical page and the level
pub record Fill : Type 0 where
  pub va : ℕ
  pub user : Bool
  pub finds : ℕ → ℕ
  pub pte : ℕ
  pub address : ℕ
  pub level : ℕ

-- the regime in one mode or the other
abbrev pub in_mode : Regime → (user : Bool) → Regime
in_mode r u = record { satp = r.satp; user = u; sum = r.sum; mxr = r.mxr }

abbrev pub IsAmong : Fill → List Fill → Type 0
IsAmong f [] = ⊥
IsAmong f (g ∷ fills) = (f ≡ g) ⊎ IsAmong f fills

-- one of the leaves is of 2 MiB or 1 GiB
abbrev pub has_large : List Fill → Bool
has_large [] = false
has_large (f ∷ fills) = not (f.level == 0) || has_large fills

-- the walk of the fill ends at its leaf for this kind of access
abbrev pub Ends : (pages : ℕ) → Regime → Kind → Fill → Type 0
Ends pages r kind f = walk_of pages (in_mode r f.user) kind (answering f.finds) f.va ≡ Leaf f.pte f.address f.level

-- the record shows the walk of the fill
pub record IsWalkOf (pages : ℕ) (r : Regime) (f : Fill) (steps : List Step) : Type 0 where
  pub kind : Kind
  pub ends : Ends pages r kind f
  pub loaded : AreLoaded (reads_of pages (in_mode r f.user) f.va f.finds) steps

-- a compare word, but for bit 1 of a WRITE word, and its slot's PAGE are those of the fill, whose walk ends so for this kind too
pub record IsOf (pages : ℕ) (r : Regime) (kind : Kind) (f : Fill) (compare page : ℕ) : Type 0 where
  pub key : compare ≡ compare_word f.va false (is_device f.address) f.user
  pub page_is : page ≡ f.address
  pub ends : Ends pages r kind f

-- a word of a slot is of one of the fills, whose loads have stood: none of the flushes since the first of them covers its leaf
pub record IsBacked (p : Shown) (r : Regime) (items : List Item) (fills : List Fill) (slot : ℕ) (kind : Kind) : Type 0 where
  pub fill : Fill
  pub among : IsAmong fill fills
  pub slot_is : fill.va / 4096 % size_of p.own.actor p.own.steps ≡ slot
  pub is_of : IsOf (layout_of p).pages r kind fill (kept p.own.actor slot (field_of kind) p.own.steps) (table_word (Tlb p.own.actor slot Page) p.own.steps)
  pub stood : HasStood fill.va fill.level (reads_of (layout_of p).pages (in_mode r fill.user) fill.va fill.finds) items

abbrev pub steps_of : List Item → List Step
steps_of [] = []
steps_of (made s ∷ items) = s ∷ steps_of items
steps_of (flushed what ∷ items) = steps_of items

-- A hart's book and record go with these fills since its last full flush, under a regime with this satp, SUM and MXR. The items are the
-- record's steps with the flushes that they made. Each fill is of a walk of the record; the book says whether one is large; each valid
-- entry of a main slot is of one of them, and no victim is valid
pub record GoesWithFills (p : Shown) (b : Book) (r : Regime) (items : List Item) (fills : List Fill) : Type 0 where
  pub steps_are : steps_of items ≡ p.own.steps
  pub large : b.large ≡ has_large fills
  pub walked : (f : Fill) → IsAmong f fills → IsWalkOf (layout_of p).pages r f p.own.steps
  pub backed : (slot : ℕ) (kind : Kind) → slot < size_of p.own.actor p.own.steps → invalid_bit (kept p.own.actor slot (field_of kind) p.own.steps) ≡ 0 → IsBacked p r items fills slot kind
  pub victims : (slot : ℕ) (field : TlbField) → is_victim slot ≡ true → is_compare field ≡ true → invalid_bit (table_word (Tlb p.own.actor slot field) p.own.steps) ≡ 1

-- what is shown has the same table, of the same hart
pub record HasSameTable (p q : Shown) : Type 0 where
  pub machine : q.machine ≡ p.machine
  pub actor : q.own.actor ≡ p.own.actor
  pub size : size_of q.own.actor q.own.steps ≡ size_of p.own.actor p.own.steps
  pub words : (slot : ℕ) (field : TlbField) → table_word (Tlb q.own.actor slot field) q.own.steps ≡ table_word (Tlb p.own.actor slot field) p.own.steps

abbrev pub NewBookGoes : Type 0
NewBookGoes = (p : Shown) (b : Book) (r : Regime) → p.own.steps ≡ [] → b.large ≡ false → GoesWithFills p b r [] []

abbrev pub FillsStay : Type 0
FillsStay = (p q : Shown) (b : Book) (r : Regime) (items : List Item) (fills : List Fill) (added : List Step) → q.own.steps ≡ added ++ p.own.steps → HasSameTable p q
    → GoesWithFills p b r items fills → GoesWithFills q b r (made_all added ++ items) fills
