-- Words that the proofs of translations need alone: what an answer leaves of the table.
use Rattle.std.specs.Prelude.{◌≡◌, ◌≢◌, ℕ, ◌==◌, ◌||◌, not, List}
use Rattle.rv64_priv.specs.declared.state.Kind.{Kind}
use Rattle.rv64_priv.specs.declared.state.Regime.{Regime}
use Rattle.rv64_priv.specs.Walk.{is_device}
use Rattle.step_laws.specs.declared.map.TlbField.{TlbField}
use Rattle.step_laws.specs.declared.map.TlbField.TheVariants.{Page}
use Rattle.step_laws.specs.Map.{Tlb}
use Rattle.step_laws.specs.Tables.{size_of, table_word}
use Rattle.guest_ram.specs.Ports.{Shown}
use Rattle.tlb_entry.specs.declared.books.Book.{Book}
use Rattle.tlb_entry.specs.Compare.{field_of}
use Rattle.tlb_entry.specs.Filled.{word_for}
use Rattle.tlb_entry.specs.Kept.{kept, kept_word}
use Rattle.tlb_table.specs.Lookups.{slot}
use Rattle.walk_laws.specs.KeptWalks.{Item}
use Rattle.kept_fills.specs.Fills.{Fill, GoesWithFills, HasSameTable}
use Rattle.tlb_fill.specs.Answered.{AnswersAllowed, HitsNow, LeavesAll}
use Rattle.tlb_fill.specs.Stepping.{IsArmedAt}
use Rattle.tlb_fill.specs.declared.translation.Translated.{Translated}
use Rattle.tlb_fill.specs.declared.translation.Translated.TheVariants as gives

-- an answered page may be stored to
abbrev pub ArmsAt : (address : ℕ) → Shown → Translated → Type 0
ArmsAt address q (gives.Ram at) = IsArmedAt address q
ArmsAt address q (gives.Device at) = IsArmedAt address q
ArmsAt address q (gives.Fault cause tval) = Unit {0}
ArmsAt address q (gives.Busy busy) = Unit {0}

-- the entry of a leaf stands in one slot, and the others are as they were
pub record HasEntry (p q : Shown) (at : ℕ) (r : Regime) (va pte page : ℕ) : Type 0 where
  pub machine : q.machine ≡ p.machine
  pub actor : q.own.actor ≡ p.own.actor
  pub size : size_of q.own.actor q.own.steps ≡ size_of p.own.actor p.own.steps
  pub words : (kind : Kind) → kept q.own.actor at (field_of kind) q.own.steps ≡ kept_word (field_of kind) (word_for pte va (is_device page) r kind)
  pub page_is : table_word (Tlb q.own.actor at Page) q.own.steps ≡ page
  pub others : (other : ℕ) (field : TlbField) → other ≢ at → table_word (Tlb q.own.actor other field) q.own.steps ≡ table_word (Tlb p.own.actor other field) p.own.steps

-- what a leaf's answer changes
abbrev pub Changes : (p q : Shown) (b b' : Book) → Regime → (va pte page level : ℕ) → Translated → Type 0
Changes p q b b' r va pte page level (gives.Ram at) = HasEntry p q (slot va b.size) r va pte page × (b'.large ≡ (not (level == 0) || b.large))
Changes p q b b' r va pte page level (gives.Device at) = HasEntry p q (slot va b.size) r va pte page × (b'.large ≡ (not (level == 0) || b.large))
Changes p q b b' r va pte page level (gives.Fault cause tval) = ⊥
Changes p q b b' r va pte page level (gives.Busy busy) = HasSameTable p q × (b' ≡ b)

-- what a miss comes to, whatever fills the book went with
pub record Fills (p q : Shown) (b b' : Book) (r : Regime) (va : ℕ) (kind : Kind) (result : Translated) : Type 0 where
  pub allowed : (items : List Item) (fills : List Fill) → GoesWithFills p b r items fills → AnswersAllowed p q b' r va kind result items fills
  pub hits_now : HitsNow q b.size r va kind result
  pub leaves : LeavesAll p q b b' result
  pub others : (other : ℕ) (field : TlbField) → other ≢ slot va b.size → table_word (Tlb q.own.actor other field) q.own.steps ≡ table_word (Tlb p.own.actor other field) p.own.steps
