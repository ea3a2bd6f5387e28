-- A translation by its parts: what a hit arms, and what a miss comes to behind the lookup.
use Rattle.std.proofs.Common.{◌≡◌, ℕ, ◌+◌, ◌*◌, ◌/◌, ◌%◌, ◌^◌, Bool, true, false, List, ◌++◌, sym, ap, subst, ◌∙◌, append_assoc, arith}
use Rattle.std.specs.Prelude.{◌==◌, ◌&&◌, if◌then◌else◌}
use Rattle.std.proofs.lemmas.Bool.{and_parts, and_from, eqb-true, eq-eqb}
use Rattle.rv64_priv.specs.declared.state.Kind.{Kind}
use Rattle.rv64_priv.specs.declared.state.Kind.TheVariants as kinds
use Rattle.rv64_priv.specs.declared.state.Regime.{Regime}
use Rattle.step_laws.specs.declared.map.TlbField.TheVariants.{Write, Page}
use Rattle.step_laws.specs.declared.steps.Step.{Step}
use Rattle.step_laws.specs.declared.steps.WordOp.TheVariants.{Load}
use Rattle.step_laws.specs.Fields.{invalid_bit, compare_page, user_bit}
use Rattle.step_laws.specs.Map.{Word, Lock, Size, Tlb}
use Rattle.step_laws.specs.Marks.{is_armed, is_clear, is_page}
use Rattle.step_laws.specs.Tables.{table_word}
use Rattle.guest_ram.specs.Areas.{IsAside, IsOfTable}
use Rattle.guest_ram.specs.Ports.{Shown, Machine}
use Rattle.guest_ram.proofs.Moves.{armed_adds, armed_keeps}
use Rattle.walk_laws.specs.WalkLoads.{reads_of}
use Rattle.walk_laws.specs.KeptWalks.{Item, made_all}
use Rattle.tlb_entry.specs.declared.books.Book.{Book}
use Rattle.tlb_entry.specs.declared.books.Hit.{Hit}
use Rattle.tlb_entry.specs.Compare.{hit}
use Rattle.tlb_table.specs.Lookups.{HasHit}
use Rattle.kept_fills.specs.Fills.{Fill, GoesWithFills, HasSameTable}
use Rattle.kept_fills.proofs.Staying.{fills_stay}
use Rattle.tlb_fill.specs.Answered.{AnswersAllowed, ArmsFor, IsAllowed, IsLeafAt, LeavesAll}
use Rattle.tlb_fill.specs.Outcomes.{ArmsAt, Fills}
use Rattle.tlb_fill.specs.Stepping.{answer, place_in, waits, IsArmedAt, IsServed, at_once, barred, settled}
use Rattle.tlb_fill.specs.declared.translation.Translated.{Translated}
use Rattle.tlb_fill.specs.declared.translation.Translated.TheVariants as gives
use Rattle.tlb_fill.proofs.Allowed.{loaded_before, made_append}
use Rattle.tlb_fill.proofs.Marking.{same_then}

pub table_aside : (w : Word) → IsOfTable w → IsAside w
table_aside (Lock h) t = tt
table_aside (Size h) t = tt
table_aside (Tlb h j f) t = tt
table_aside w t = absurd t

clear_word : (n va : ℕ) (user : Bool) → hit n va user ≡ true → (n / 2 % 2 == 1) ≡ false → is_clear n ≡ true
clear_word n va user h d = let v : n % 2 ≡ 0 = eqb-true (invalid_bit n) 0 (and_parts (invalid_bit n == 0) ((compare_page n == compare_page va) && (user_bit n == (if user then 1 else 0))) h).0 in
    let x : n / 2 % 2 ≡ 0 = grind (arith, d) in eq-eqb (n % 4) 0 (omega (arith, v, x))

-- a load of a WRITE word that is valid with bit 1 clear
armed_load : (p m : Shown) (slot va : ℕ) (user : Bool) (found : Hit) → HasHit p m slot va user kinds.Store found → found.not_dirty ≡ false → IsArmedAt found.page m
armed_load p m slot va user found h clean n less is = armed_keeps h.between m h.loaded.word 0 found.page n Load (Tlb h.between.own.actor slot Page) h.loaded.step h.loaded.name tt
    (subst (λ a. is_armed a n h.between.own.steps ≡ true) (ap (λ (x : Shown). x.own.actor) (sym h.compared.made.step)) first)
  where
    test : (is_page n (table_word (Tlb p.own.actor slot Page) p.own.steps) && is_clear h.compare) ≡ true
    test = and_from (is_page n (table_word (Tlb p.own.actor slot Page) p.own.steps)) (is_clear h.compare) (ap (is_page n) (sym h.page) ∙ is) (clear_word h.compare va user h.hits (sym h.not_dirty ∙ clean))

    first : is_armed p.own.actor n h.between.own.steps ≡ true
    first = armed_adds p h.between h.compared.made.word 0 h.compare n Load (Tlb p.own.actor slot Write) h.compared.made.step h.compared.made.name
        ∙ ap (λ (t : Bool). if t then true else is_armed p.own.actor n p.own.steps) test

armed_place : (q : Shown) (page va : ℕ) → IsArmedAt page q → IsArmedAt (place_in page va) q
armed_place q page va a n less is = a n less (ap (λ k. k == 2 ^ 31 / 4096 + n) (same page va) ∙ is)
  where
    same : (page va : ℕ) → page / 4096 ≡ (page / 4096 * 4096 + va % 4096) / 4096
    same page va = omega arith

arms_placed : (q : Shown) (kind : Kind) (d : Bool) (page va : ℕ) → (kind ≡ kinds.Store → IsArmedAt page q) → ArmsFor kind q (answer d page va)
arms_placed q kind true page va a = tt
arms_placed q kind false page va a = λ store. armed_place q page va (a store)

armed_of : (q : Shown) (d : Bool) (page va : ℕ) → ArmsAt page q (answer d page va) → IsArmedAt page q
armed_of q true page va a = a
armed_of q false page va a = a

pub hit_arms : (p m q : Shown) (slot va : ℕ) (user : Bool) (kind : Kind) (found : Hit) (result : Translated) → HasHit p m slot va user kind found → IsServed m q va kind found result
    → (waits kind found.not_dirty ≡ true → ArmsAt found.page q result) → ArmsFor kind q result
hit_arms p m q slot va user kind found result h (at_once w e is) armed = subst (ArmsFor kind q) (sym is) (arms_placed q kind found.device found.page va (λ store. subst (IsArmedAt found.page) (sym e)
    (armed_load p m slot va user found (subst (λ (k : Kind). HasHit p m slot va user k found) store h) (subst (λ (k : Kind). waits k found.not_dirty ≡ false) store w))))
hit_arms p m q slot va user kind found result h (settled w s is) armed = subst (ArmsFor kind q) (sym is) (arms_placed q kind found.device found.page va (λ store. armed_of q found.device found.page va (subst (ArmsAt found.page q) is (armed w))))
hit_arms p m q slot va user kind found result h (barred holder w f is) armed = subst (ArmsFor kind q) (sym is) tt

-- behind the lookup
allowed_behind : (pages : ℕ) (r : Regime) (kind : Kind) (va : ℕ) (result : Translated) (a c : List Step) (items : List Item) → IsAllowed pages r kind va result a (made_all c ++ items) → IsAllowed pages r kind va result (a ++ c) items
allowed_behind pages r kind va (gives.Ram at) a c items x = subst (IsLeafAt pages r kind va false at) (sym (made_append a c items)) x
allowed_behind pages r kind va (gives.Device at) a c items x = subst (IsLeafAt pages r kind va true at) (sym (made_append a c items)) x
allowed_behind pages r kind va (gives.Fault cause tval) a c items x = record {
  end = x.end;
  walked = record { finds = x.walked.finds; is_end = x.walked.is_end; loaded = loaded_before (reads_of pages r va x.walked.finds) a c x.walked.loaded };
  cause_is = x.cause_is;
  tval_is = x.tval_is;
}
allowed_behind pages r kind va (gives.Busy busy) a c items x = tt

pub miss_allowed : (p m q : Shown) (b b' : Book) (r : Regime) (va : ℕ) (kind : Kind) (result : Translated) (added : List Step) → m.own.steps ≡ added ++ p.own.steps → HasSameTable p m → Fills m q b b' r va kind result
    → (items : List Item) (fills : List Fill) → GoesWithFills p b r items fills → AnswersAllowed p q b' r va kind result items fills
miss_allowed p m q b b' r va kind result added steps same f items fills g =
    let x = f.allowed (made_all added ++ items) fills (fills_stay p m b r items fills added steps same g) in record {
      added = x.added ++ added;
      steps_are = x.steps_are ∙ ap (λ l. x.added ++ l) steps ∙ sym (append_assoc x.added added p.own.steps);
      more = x.more;
      goes = subst (λ (l : List Item). GoesWithFills q b' r l (x.more ++ fills)) (sym (made_append x.added added items)) x.goes;
      allowed = allowed_behind p.machine.layout.pages r kind va result x.added added items (subst (λ (y : Machine). IsAllowed y.layout.pages r kind va result x.added (made_all added ++ items)) same.machine x.allowed);
    }

pub miss_leaves : (p m q : Shown) (b b' : Book) (result : Translated) → HasSameTable p m → LeavesAll m q b b' result → LeavesAll p q b b' result
miss_leaves p m q b b' (gives.Ram at) s x = tt
miss_leaves p m q b b' (gives.Device at) s x = tt
miss_leaves p m q b b' (gives.Fault cause tval) s x = (same_then p m q s x.0, x.1)
miss_leaves p m q b b' (gives.Busy busy) s x = (same_then p m q s x.0, x.1)
