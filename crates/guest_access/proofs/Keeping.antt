-- What a step on RAM keeps of its actor.
use Rattle.std.proofs.Common.{Ok, ◌%◌, ◌≡◌, ℕ, ◌+◌, ◌*◌, ◌<◌, ◌≤◌, ◌^◌, refl, sym, ap, subst, ◌∙◌, arith}
use Rattle.std.specs.Prelude.{◌-◌, ◌/◌}
use Rattle.step_laws.specs.declared.steps.WordOp.{WordOp}
use Rattle.step_laws.specs.declared.steps.WordOp.TheVariants.{Load}
use Rattle.step_laws.specs.Discipline.{Writes}
use Rattle.step_laws.specs.Map.{Ram, name_of}
use Rattle.step_laws.specs.Sections.{MayTouch}
use Rattle.step_laws.specs.Words.{most_pages, ram_word}
use Rattle.guest_ram.specs.Areas.{IsOfRam}
use Rattle.guest_ram.specs.Ports.{Shown, Adds, May, IsActing, GoesBy}
use Rattle.guest_ram.proofs.AreaLemmas.{inner_aside, ram_inner}
use Rattle.guest_ram.proofs.MaySteps.{may_read_ram, may_write_ram}
use Rattle.guest_ram.proofs.Moves.{acting_adds, armed_keeps, goes_step, stands_goes, touch_stands}
use Rattle.tlb_entry.specs.declared.books.Book.{Book}
use Rattle.tlb_fill.specs.Stepping.{IsArmedAt}
use Rattle.tlb_fill.proofs.Marking.{beside_walk, is_number}
use Rattle.guest_access.specs.declared.reaching.Place.{Place}
use Rattle.guest_access.specs.declared.reaching.Place.TheVariants as at
use Rattle.guest_access.specs.Reaching.{AreArmed, AreIn, CanAccess}
use Rattle.guest_access.specs.Stepping.{HasStepped, IsIn, MayLoadAt, MayStoreAt}

pub goes_stepped : (op : WordOp) (pa arg answer : ℕ) (p q : Shown) → HasStepped op pa arg answer p q → GoesBy 1 IsOfRam p q
goes_stepped op pa arg answer p q s = goes_step IsOfRam p q (ram_word pa) arg answer op (Ram ((pa - 2 ^ 31) / 8)) s.step s.may s.name tt

acting_stepped : (op : WordOp) (pa arg answer : ℕ) (p q : Shown) → HasStepped op pa arg answer p q → IsActing p → IsActing q
acting_stepped op pa arg answer p q s a = acting_adds p q (ram_word pa) arg answer op (Ram ((pa - 2 ^ 31) / 8)) s.step s.name (λ _. refl) a

touch_stepped : (op : WordOp) (pa arg answer : ℕ) (p q : Shown) → HasStepped op pa arg answer p q → MayTouch p.machine.layout p.own.actor p.own.steps → MayTouch q.machine.layout q.own.actor q.own.steps
touch_stepped op pa arg answer p q s t = let goes = goes_stepped op pa arg answer p q s in touch_stands 1 IsOfRam p q goes (stands_goes 1 IsOfRam p q (λ w x. inner_aside w (ram_inner w x)) goes) t

in_stepped : (op : WordOp) (pa arg answer x : ℕ) (p q : Shown) → HasStepped op pa arg answer p q → IsIn x p → IsIn x q
in_stepped op pa arg answer x p q s i = subst (IsIn x) (sym s.step) (record { above = i.above; below = i.below })

armed_stepped : (op : WordOp) (pa arg answer x : ℕ) (p q : Shown) → HasStepped op pa arg answer p q → IsArmedAt x p → IsArmedAt x q
armed_stepped op pa arg answer x p q s a page less is = armed_keeps p q (ram_word pa) arg answer page op (Ram ((pa - 2 ^ 31) / 8)) s.step s.name tt
    (a page (subst (λ (y : Shown). page < y.machine.layout.pages) s.step less) is)

pub load_stepped : (op : WordOp) (pa arg answer x : ℕ) (p q : Shown) → HasStepped op pa arg answer p q → MayLoadAt x p → MayLoadAt x q
load_stepped op pa arg answer x p q s m = record { acting = acting_stepped op pa arg answer p q s m.acting; touch = touch_stepped op pa arg answer p q s m.touch; there = in_stepped op pa arg answer x p q s m.there }

pub store_stepped : (op : WordOp) (pa arg answer x : ℕ) (p q : Shown) → HasStepped op pa arg answer p q → MayStoreAt x p → MayStoreAt x q
store_stepped op pa arg answer x p q s m = record {
  may_load = load_stepped op pa arg answer x p q s m.may_load;
  hart = subst (λ (y : Shown). y.own.actor < y.machine.layout.harts) (sym s.step) m.hart;
  armed = armed_stepped op pa arg answer x p q s m.armed;
}

pub can_stepped : (op : WordOp) (pa arg answer : ℕ) (b : Book) (p q : Shown) → HasStepped op pa arg answer p q → CanAccess b p → CanAccess b q
can_stepped op pa arg answer b p q s k = record {
  beside = beside_walk b 1 p q k.beside (goes_stepped op pa arg answer p q s) (acting_stepped op pa arg answer p q s k.beside.acting);
  touch = touch_stepped op pa arg answer p q s k.touch;
}

pub can_load : (b : Book) (pa : ℕ) (p : Shown) → CanAccess b p → IsIn pa p → MayLoadAt pa p
can_load b pa p k i = record { acting = k.beside.acting; touch = k.touch; there = i }

pub can_store : (b : Book) (pa : ℕ) (p : Shown) → CanAccess b p → IsIn pa p → IsArmedAt pa p → MayStoreAt pa p
can_store b pa p k i armed = record { may_load = can_load b pa p k i; hart = k.beside.hart; armed = armed }

-- a load and a write are permitted
pub may_load_at : (pa word : ℕ) (p : Shown) → name_of word ≡ Ram ((pa - 2 ^ 31) / 8) → MayLoadAt pa p → May p word Load 0
may_load_at pa word p e m = may_read_ram p word ((pa - 2 ^ 31) / 8) e m.acting m.touch

pub may_write_at : (op : WordOp) (pa word arg : ℕ) (p : Shown) → Writes op → name_of word ≡ Ram ((pa - 2 ^ 31) / 8) → MayStoreAt pa p → May p word op arg
may_write_at op pa word arg p writes e m = let low = m.may_load.there.above in let high = m.may_load.there.below in
    may_write_ram p word ((pa - 2 ^ 31) / 8) arg op e m.may_load.acting writes (
      m.may_load.touch,
      m.hart,
      m.armed ((pa - 2 ^ 31) / 8 / 512) (page_below pa p.machine.layout.pages low high) (is_number ((pa - 2 ^ 31) / 8 / 512) pa (page_above pa low) (page_is pa low)),
    )
  where
    page_below : (pa pages : ℕ) → 2 ^ 31 ≤ pa → pa < 2 ^ 31 + 4096 * pages → (pa - 2 ^ 31) / 8 / 512 < pages
    page_below pa pages low high = omega (arith, low, high)

    page_above : (pa : ℕ) → 2 ^ 31 ≤ pa → 524288 ≤ pa / 4096
    page_above pa low = omega (arith, low)

    page_is : (pa : ℕ) → 2 ^ 31 ≤ pa → (pa - 2 ^ 31) / 8 / 512 ≡ pa / 4096 - 524288
    page_is pa low = omega (arith, low)

-- a step on the word, by its number
pub stepped : (op : WordOp) (pa word arg answer : ℕ) (p q : Shown) → word ≡ ram_word pa → name_of word ≡ Ram ((pa - 2 ^ 31) / 8) → Adds p q word op arg answer → May p word op arg → answer < 2 ^ 64 → HasStepped op pa arg answer p q
stepped op pa word arg answer p q is e made may small = record {
  step = subst (λ n. Adds p q n op arg answer) is made;
  name = ap name_of (sym is) ∙ e;
  may = subst (λ n. May p n op arg) is may;
  small = small;
}

-- an address in RAM has a word there
pub word_below : (pa : ℕ) (p : Shown) → IsActing p → IsIn pa p → pa < 2 ^ 31 + 4096 * most_pages
word_below pa p acting i = let few : p.machine.layout.pages ≤ 4096 = acting.limits.pages in let high = i.below in omega (arith, few, high)

-- what a store may touch where its access leads to a word of RAM, or to two
pub record MayWord (pa width : ℕ) (m : Shown) : Type 0 where
  pub within : pa % 8 + width ≤ 8
  pub may : MayStoreAt pa m

pub may_word : (pa width : ℕ) (f : Place) (m : Shown) (b : Book) → f ≡ at.Word pa → CanAccess b m → AreIn width (Ok f) m → AreArmed (Ok f) m → MayWord pa width m
may_word pa width f m b e k there armed = by (subst (λ (x : Place). AreIn width (Ok x) m) e there) (subst (λ (x : Place). AreArmed (Ok x) m) e armed)
  where
    by : IsIn pa m × (pa % 8 + width ≤ 8) → IsArmedAt pa m → MayWord pa width m
    by x a = record { within = x.1; may = can_store b pa m k x.0 a }

pub record MayWords (first second width : ℕ) (m : Shown) : Type 0 where
  pub over : 8 < first % 8 + width
  pub may_first : MayStoreAt first m
  pub may_second : MayStoreAt second m

pub may_words : (first second width : ℕ) (f : Place) (m : Shown) (b : Book) → f ≡ at.Words first second → CanAccess b m → AreIn width (Ok f) m → AreArmed (Ok f) m → MayWords first second width m
may_words first second width f m b e k there armed = by (subst (λ (x : Place). AreIn width (Ok x) m) e there) (subst (λ (x : Place). AreArmed (Ok x) m) e armed)
  where
    by : IsIn first m × IsIn second m × (8 < first % 8 + width) → IsArmedAt first m × IsArmedAt second m → MayWords first second width m
    by x a = record { over = x.2; may_first = can_store b first m k x.0 a.0; may_second = can_store b second m k x.1 a.1 }
