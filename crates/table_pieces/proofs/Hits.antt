-- Accesses whose pages are all in the hart's table.
use Rattle.std.proofs.Common.{◌≡◌, ℕ, true≢false, refl, sym, ap, subst, ◌∙◌, arith}
use Rattle.rv64_priv.specs.declared.state.Kind.{Kind}
use Rattle.rv64_priv.specs.declared.state.Regime.{Regime}
use Rattle.step_laws.specs.declared.map.TlbField.TheVariants.{Page}
use Rattle.step_laws.specs.declared.steps.WordOp.TheVariants.{Load}
use Rattle.step_laws.specs.Map.{Tlb}
use Rattle.step_laws.specs.Tables.{table_word}
use Rattle.machine_model.specs.Access.{second_va}
use Rattle.guest_ram.specs.Ports.{Shown, GoesBy}
use Rattle.guest_ram.proofs.Moves.{goes_at_most, goes_none, goes_then}
use Rattle.tlb_entry.specs.declared.books.Book.{Book}
use Rattle.tlb_entry.specs.Compare.{field_of, hit}
use Rattle.tlb_entry.specs.Kept.{kept_word}
use Rattle.tlb_table.specs.Lookups.{slot}
use Rattle.kept_fills.specs.Fills.{HasSameTable}
use Rattle.tlb_fill.specs.Answered.{HitsKept}
use Rattle.tlb_fill.specs.Stepping.{HasTranslated, IsOfHit, hits, misses}
use Rattle.tlb_fill.specs.declared.translation.Translated.{Translated}
use Rattle.tlb_fill.proofs.Marking.{same_none, same_then}
use Rattle.guest_access.specs.Atomics.{at_none, faults, in_ram, is_busy, on_device}
use Rattle.guest_access.specs.Reaching.{Translates, by_one, by_two}
use Rattle.access_pieces.proofs.Sections.{some_crosses}
use Rattle.table_pieces.specs.Laws.{AccessesHit, AtomicsHit}
use Rattle.table_pieces.proofs.Behind.{same_served, same_step}
use Rattle.table_pieces.proofs.Kept.{hits_are_loads, last_hits}

-- a translation of an address for which the table hits
pub record IsByHit (p q : Shown) (b b' : Book) : Type 0 where
  pub goes : GoesBy 6 IsOfHit p q
  pub same : HasSameTable p q
  pub book : b' ≡ b

same_hit : (p q : Shown) (b b' : Book) (r : Regime) (va : ℕ) (kind : Kind) (t : Translated) → HitsKept p b.size r va kind → HasTranslated p q b b' r va kind t → HasSameTable p q
same_hit p q b b' r va kind t kept (hits m found x y same) =
    same_then p m q (same_then p x.between m (same_step p x.between (Tlb p.own.actor (slot va b.size) (field_of kind)) Load 0 x.compare x.compared.made (λ j f n. refl) (λ n. refl))
    (same_step x.between m (Tlb x.between.own.actor (slot va b.size) Page) Load 0 found.page x.loaded (λ j f n. refl) (λ n. refl))) (same_served m q va kind found t y)
same_hit p q b b' r va kind t kept (misses m x y) =
    absurd (true≢false (sym kept ∙ sym (last_hits (field_of kind) (table_word (Tlb p.own.actor (slot va b.size) (field_of kind)) p.own.steps) x.compare va r.user x.compared.last) ∙ x.misses))

by_hit : (p q : Shown) (b b' : Book) (r : Regime) (va : ℕ) (kind : Kind) (t : Translated) → HitsKept p b.size r va kind → HasTranslated p q b b' r va kind t → IsByHit p q b b'
by_hit p q b b' r va kind t kept x = let h = hits_are_loads p q b b' r va kind t kept x in record { goes = h.goes; same = same_hit p q b b' r va kind t kept x; book = h.book }

-- and it hits behind it for what it hit before
still_hits : (p q : Shown) (b b' : Book) (r : Regime) (va : ℕ) (kind : Kind) → IsByHit p q b b' → HitsKept p b.size r va kind → HitsKept q b'.size r va kind
still_hits p q b b' r va kind h kept = ap (λ (x : Book). hit (kept_word (field_of kind) (table_word (Tlb q.own.actor (slot va x.size) (field_of kind)) q.own.steps)) va r.user) h.book
    ∙ ap (λ n. hit (kept_word (field_of kind) n) va r.user) (h.same.words (slot va b.size) (field_of kind)) ∙ kept

pub accesses_hit : AccessesHit
accesses_hit p q b b' r kind va width section x (by_one t call none is) kept second =
    let h = by_hit p q b b' r va kind t kept call.made in (goes_at_most 6 12 IsOfHit p q (omega arith) h.goes, h.same, h.book)
accesses_hit p q b b' r kind va width section x (by_two mid between t first call some y) kept second =
    let one = by_hit p mid b between r va kind t kept call.made in
    let two = by_hit mid q between b' r (second_va va) kind y.found (still_hits p mid b between r (second_va va) kind one (second (some_crosses va width first t some))) y.translates.made in
    (goes_then 6 6 IsOfHit p mid q one.goes two.goes, same_then p mid q one.same two.same, two.book ∙ one.book)

atomic_hit : (p q : Shown) (b b' : Book) (r : Regime) (va : ℕ) (kind : Kind) (t : Translated) → HitsKept p b.size r va kind → Translates p q b b' r kind va t → GoesBy 6 IsOfHit p q × HasSameTable p q × (b' ≡ b)
atomic_hit p q b b' r va kind t kept call = let h = by_hit p q b b' r va kind t kept call.made in (h.goes, h.same, h.book)

pub atomics_hit : AtomicsHit
atomics_hit p q b b' r kind va wide x (at_none is same book) kept = (subst (GoesBy 6 IsOfHit p) (sym same) (goes_at_most 0 6 IsOfHit p p (omega arith) (goes_none IsOfHit p)), subst (HasSameTable p) (sym same) (same_none p), book)
atomics_hit p q b b' r kind va wide x (in_ram {pa} is call) kept = atomic_hit p q b b' r va kind _ kept call
atomics_hit p q b b' r kind va wide x (on_device {pa} is call) kept = atomic_hit p q b b' r va kind _ kept call
atomics_hit p q b b' r kind va wide x (faults {cause} {tval} is call) kept = atomic_hit p q b b' r va kind _ kept call
atomics_hit p q b b' r kind va wide x (is_busy {busy} is call) kept = atomic_hit p q b b' r va kind _ kept call
