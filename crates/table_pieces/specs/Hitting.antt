-- The steps of a translation by whether the hart's own table hits.
use Rattle.std.specs.Prelude.{◌≡◌, ℕ, false}
use Rattle.rv64_priv.specs.declared.state.Kind.{Kind}
use Rattle.rv64_priv.specs.declared.state.Regime.{Regime}
use Rattle.step_laws.specs.declared.map.TlbField.TheVariants.{Page}
use Rattle.step_laws.specs.declared.steps.WordOp.TheVariants.{Load}
use Rattle.step_laws.specs.Map.{Tlb}
use Rattle.step_laws.specs.Tables.{table_word}
use Rattle.guest_ram.specs.Ports.{Shown, Made, GoesBy}
use Rattle.tlb_entry.specs.declared.books.Book.{Book}
use Rattle.tlb_entry.specs.Compare.{field_of, is_for_device, is_not_dirty}
use Rattle.tlb_table.specs.Lookups.{slot}
use Rattle.tlb_fill.specs.Stepping.{IsOfHit, IsWalkedFor, answer, waits}
use Rattle.tlb_fill.specs.declared.translation.Translated.{Translated}

-- The slot's compare word for this kind and its PAGE are loaded. Unless a store finds bit 1 set that is all, and the answer is made of the two
-- words; no step is on RAM, and the book stays
pub record HasHitTable (p q : Shown) (b b' : Book) (va : ℕ) (kind : Kind) (t : Translated) : Type 0 where
  pub compare : ℕ
  pub page : ℕ
  pub between : Shown
  pub looked : Shown
  pub compares : Made p between (Tlb p.own.actor (slot va b.size) (field_of kind)) Load 0 compare
  pub loads : Made between looked (Tlb p.own.actor (slot va b.size) Page) Load 0 page
  pub page_is : page ≡ table_word (Tlb p.own.actor (slot va b.size) Page) p.own.steps
  pub at_once : waits kind (is_not_dirty compare) ≡ false → (q ≡ looked) × (t ≡ answer (is_for_device compare) page va)
  pub goes : GoesBy 6 IsOfHit p q
  pub book : b' ≡ b

-- the compare word alone is loaded, and then the pages are walked
pub record HasMissedTable (p q : Shown) (b b' : Book) (r : Regime) (va : ℕ) (kind : Kind) (t : Translated) : Type 0 where
  pub compare : ℕ
  pub looked : Shown
  pub compares : Made p looked (Tlb p.own.actor (slot va b.size) (field_of kind)) Load 0 compare
  pub walks : IsWalkedFor looked q b b' r va kind t
