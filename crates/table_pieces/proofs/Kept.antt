-- A translation's steps by what is kept of its table.
use Rattle.std.proofs.Common.{◌≡◌, ℕ, ◌+◌, ◌*◌, ◌/◌, ◌%◌, ◌^◌, Bool, false, true≢false, sym, ap, subst, ◌∙◌, arith}
use Rattle.std.specs.Prelude.{◌-◌, ◌==◌, ◌&&◌, if◌then◌else◌}
use Rattle.rv64_priv.specs.declared.state.Kind.{Kind}
use Rattle.step_laws.specs.declared.map.TlbField.{TlbField}
use Rattle.step_laws.specs.declared.map.TlbField.TheVariants.{Read, Write, Code, Page}
use Rattle.step_laws.specs.declared.steps.WordOp.TheVariants.{And, Exchange, Load, Or, Store}
use Rattle.step_laws.specs.Fields.{compare_page, invalid_bit, user_bit}
use Rattle.step_laws.specs.Map.{Dirty, Lock, Tlb}
use Rattle.step_laws.specs.TableLaws.{IsLastField}
use Rattle.step_laws.specs.Tables.{table_word}
use Rattle.guest_ram.specs.Ports.{Shown, Made, GoesBy}
use Rattle.guest_ram.proofs.Moves.{goes_at_most, goes_made, goes_none, goes_then}
use Rattle.tlb_entry.specs.declared.books.Hit.{Hit}
use Rattle.tlb_entry.specs.Compare.{field_of, hit}
use Rattle.tlb_entry.specs.Kept.{kept_word}
use Rattle.tlb_table.specs.Lookups.{slot}
use Rattle.tlb_fill.specs.Stepping.{HasMarkedAt, HasSettled, IsOfHit, IsServed, answer, waits, at_once, barred, elsewhere, hits, marks, misses, settled}
use Rattle.tlb_fill.specs.declared.translation.Translated.{Translated}
use Rattle.table_pieces.specs.Laws.{HitsAreLoads, MissesWalk}

-- a word that the monitor may have marked hits as what is kept of it
pub last_hits : (f : TlbField) (last found va : ℕ) (user : Bool) → IsLastField f last found → hit found va user ≡ hit (kept_word f last) va user
last_hits Read last found va user e = ap (λ n. hit n va user) e
last_hits Code last found va user e = ap (λ n. hit n va user) e
last_hits Page last found va user e = ap (λ n. hit n va user) e
last_hits Write last found va user e =
    let x = e.0 in let y = e.1 in
    let valid : invalid_bit found ≡ invalid_bit (kept_word Write last) = same_valid last found y in
    let page : compare_page found ≡ compare_page (kept_word Write last) = same_page last found x in
    let mode : user_bit found ≡ user_bit (kept_word Write last) = same_mode last found x in
    (λ i. (valid i == 0) && ((page i == compare_page va) && (mode i == (if user then 1 else 0))))
  where
    same_valid : (last found : ℕ) → found % 2 ≡ last % 2 → found % 2 ≡ (last / 4 * 4 + last % 2) % 2
    same_valid last found e = omega (arith, e)

    same_page : (last found : ℕ) → found / 4 ≡ last / 4 → found / 2 ^ 12 * 2 ^ 12 ≡ (last / 4 * 4 + last % 2) / 2 ^ 12 * 2 ^ 12
    same_page last found e = omega (arith, e)

    same_mode : (last found : ℕ) → found / 4 ≡ last / 4 → found / 8 % 2 ≡ (last / 4 * 4 + last % 2) / 8 % 2
    same_mode last found e = omega (arith, e)

-- the steps behind the two loads
marked_goes : (address : ℕ) (p q : Shown) → HasMarkedAt address p q → GoesBy 1 IsOfHit p q
marked_goes address p q (marks page less is m) = goes_made IsOfHit p q (Dirty (page / 64)) Or (2 ^ (page % 64)) m.0 m.1 tt
marked_goes address p q (elsewhere none e) = subst (GoesBy 1 IsOfHit p) (sym e) (goes_at_most 0 1 IsOfHit p p (omega arith) (goes_none IsOfHit p))

settled_goes : (j address : ℕ) (p q : Shown) → HasSettled j address p q → GoesBy 4 IsOfHit p q
settled_goes j address p q x = goes_then 3 1 IsOfHit p x.clear q (goes_then 2 1 IsOfHit p x.marked x.clear (goes_then 1 1 IsOfHit p x.locked x.marked
    (goes_made IsOfHit p x.locked (Lock p.own.actor) (Exchange 0) (p.own.actor + 1) 0 x.takes tt) (marked_goes address x.locked x.marked x.marks))
    (goes_made IsOfHit x.marked x.clear (Tlb p.own.actor j Write) And (2 ^ 64 - 3) x.found x.clears tt)) (goes_made IsOfHit x.clear q (Lock p.own.actor) Store 0 0 x.frees tt)

served_goes : (p q : Shown) (va : ℕ) (kind : Kind) (found : Hit) (t : Translated) → IsServed p q va kind found t → GoesBy 4 IsOfHit p q
served_goes p q va kind found t (at_once w e is) = subst (GoesBy 4 IsOfHit p) (sym e) (goes_at_most 0 4 IsOfHit p p (omega arith) (goes_none IsOfHit p))
served_goes p q va kind found t (settled w x is) = settled_goes found.slot found.page p q x
served_goes p q va kind found t (barred holder w x is) = goes_at_most 1 4 IsOfHit p q (omega arith) (goes_made IsOfHit p q (Lock p.own.actor) (Exchange 0) (p.own.actor + 1) holder x.1 tt)

served_at_once : (p q : Shown) (va : ℕ) (kind : Kind) (found : Hit) (t : Translated) → IsServed p q va kind found t → waits kind found.not_dirty ≡ false → (q ≡ p) × (t ≡ answer found.device found.page va)
served_at_once p q va kind found t (at_once w e is) k = (e, is)
served_at_once p q va kind found t (settled w x is) k = absurd (true≢false (sym w ∙ k))
served_at_once p q va kind found t (barred holder w x is) k = absurd (true≢false (sym w ∙ k))

pub hits_are_loads : HitsAreLoads
hits_are_loads p q b b' r va kind t kept (hits m found x y same) =
    let first = x.compared.made in
    let actor : x.between.own.actor ≡ p.own.actor = ap (λ (z : Shown). z.own.actor) first.step in
    let second : Made x.between m (Tlb p.own.actor (slot va b.size) Page) Load 0 found.page = subst (λ n. Made x.between m (Tlb n (slot va b.size) Page) Load 0 found.page) actor x.loaded in record {
      compare = x.compare;
      page = found.page;
      between = x.between;
      looked = m;
      compares = first;
      loads = second;
      page_is = x.page;
      at_once = λ free. let z = served_at_once m q va kind found t y (ap (waits kind) x.not_dirty ∙ free) in (z.0, z.1 ∙ ap (λ d. answer d found.page va) x.device);
      goes = goes_then 2 4 IsOfHit p m q (goes_then 1 1 IsOfHit p x.between m (goes_made IsOfHit p x.between (Tlb p.own.actor (slot va b.size) (field_of kind)) Load 0 x.compare first tt)
          (goes_made IsOfHit x.between m (Tlb p.own.actor (slot va b.size) Page) Load 0 found.page second tt)) (served_goes m q va kind found t y);
      book = same;
    }
hits_are_loads p q b b' r va kind t kept (misses m x y) =
    absurd (true≢false (sym kept ∙ sym (last_hits (field_of kind) (table_word (Tlb p.own.actor (slot va b.size) (field_of kind)) p.own.steps) x.compare va r.user x.compared.last) ∙ x.misses))

pub misses_walk : MissesWalk
misses_walk p q b b' r va kind t kept (hits m found x y same) =
    absurd (true≢false (sym x.hits ∙ last_hits (field_of kind) (table_word (Tlb p.own.actor (slot va b.size) (field_of kind)) p.own.steps) x.compare va r.user x.compared.last ∙ kept))
misses_walk p q b b' r va kind t kept (misses m x y) = record { compare = x.compare; looked = m; compares = x.compared.made; walks = y }
