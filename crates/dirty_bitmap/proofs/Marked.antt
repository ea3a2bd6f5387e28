-- What marks and takes do to the record.
use Rattle.std.proofs.Common.{◌≡◌, ℕ, ◌*◌, ◌/◌, ◌%◌, ◌^◌, ◌<◌, Bool, true, refl, ap, ◌∙◌, arith}
use Rattle.std.specs.Prelude.{◌==◌, if◌then◌else◌}
use Rattle.std.proofs.lemmas.Bool.{eq-eqb, and_from}
use Rattle.std.proofs.lemmas.Nat.{pow_pos}
use Rattle.std.proofs.Math.Nat.{div_self, mod-lt}
use Rattle.std.proofs.Math.Pow.{pow-lt}
use Rattle.step_laws.specs.declared.map.TlbField.{TlbField}
use Rattle.step_laws.specs.declared.map.TlbField.TheVariants.{Page}
use Rattle.step_laws.specs.declared.steps.WordOp.TheVariants.{Or, Swap}
use Rattle.step_laws.specs.Map.{Dirty, Tlb, name_of}
use Rattle.step_laws.specs.Tables.{is_clear_due, is_clear_due_next, size_of, table_boot, table_next, table_word}
use Rattle.step_laws.specs.Marks.{swapping, is_armed, is_armed_next, is_known_dirty, is_known_dirty_next, is_mark, is_set, dirty_words, last_place, stage, stage_next}
use Rattle.guest_ram.specs.Ports.{Shown, Adds, May, IsActing}
use Rattle.guest_ram.proofs.MaySteps.{may_mark}
use Rattle.guest_ram.proofs.Moves.{fold_adds}
use Rattle.dirty_bitmap.specs.DirtyBits.{stage_after_take}

pub page_few : (p : Shown) (page : ℕ) → IsActing p → page < p.machine.layout.pages → page < 4096
page_few p page a l = let x = a.limits.pages in omega (arith, x, l)

pub index_few : (p : Shown) (index : ℕ) → IsActing p → index < dirty_words p.machine.layout → index < 64
index_few p index a l = let x = a.limits.pages in omega (arith, x, l)

pub may_mark_page : (p : Shown) (word page arg : ℕ) → name_of word ≡ Dirty (page / 64) → IsActing p → p.own.actor < p.machine.layout.harts → page < p.machine.layout.pages → arg ≡ 2 ^ (page % 64) → May p word Or arg
may_mark_page p word page arg e acting l few is = may_mark p word (page / 64) page arg e acting l few refl is

pub page_bit : (page : ℕ) → 1 * 2 ^ (page % 64) % 18446744073709551616 ≡ 2 ^ (page % 64)
page_bit page = let l : 2 ^ (page % 64) < 2 ^ 64 = pow-lt (mod-lt page (omega arith)) in omega (arith, l)

marks_it : (page arg : ℕ) → arg ≡ 2 ^ (page % 64) → is_mark page (page / 64) arg ≡ true
marks_it page arg e = and_from (page / 64 == page / 64) (is_set arg page) (eq-eqb (page / 64) (page / 64) refl)
    (eq-eqb (arg / 2 ^ (page % 64) % 2) 1 (ap (λ n. n / 2 ^ (page % 64) % 2) e ∙ ap (λ n. n % 2) (div_self (pow_pos (page % 64)))))

module _ (p q : Shown) (word page arg answer : ℕ) (made : Adds p q word Or arg answer) (e : name_of word ≡ Dirty (page / 64)) where
  pub armed_marked : arg ≡ 2 ^ (page % 64) → is_armed q.own.actor page q.own.steps ≡ true
  armed_marked is = ap (λ (x : Shown). is_armed x.own.actor page x.own.steps) made
      ∙ ap (λ v. is_armed_next p.own.actor page (λ j. table_word (Tlb p.own.actor j Page) p.own.steps) v Or arg answer (is_armed p.own.actor page p.own.steps)) e
      ∙ ap (λ (t : Bool). if t then true else is_armed p.own.actor page p.own.steps) (marks_it page arg is)

  pub known_marked : arg ≡ 2 ^ (page % 64) → is_known_dirty q.own.actor page q.own.steps ≡ true
  known_marked is = ap (λ (x : Shown). is_known_dirty x.own.actor page x.own.steps) made
      ∙ ap (λ v. is_known_dirty_next p.own.actor page (λ j. table_word (Tlb p.own.actor j Page) p.own.steps) v Or arg answer (is_known_dirty p.own.actor page p.own.steps)) e
      ∙ ap (λ (t : Bool). if t then true else is_known_dirty p.own.actor page p.own.steps) (marks_it page arg is)

  pub mark_due : (j : ℕ) (f : TlbField) → is_clear_due q.own.actor j f q.own.steps ≡ is_clear_due p.own.actor j f p.own.steps
  mark_due j f = ap (λ (x : Shown). is_clear_due x.own.actor j f x.own.steps) made
      ∙ ap (λ v. is_clear_due_next p.own.actor j f v Or arg (size_of p.own.actor p.own.steps) (is_clear_due p.own.actor j f p.own.steps)) e

  pub mark_word : (j : ℕ) (f : TlbField) → table_word (Tlb q.own.actor j f) q.own.steps ≡ table_word (Tlb p.own.actor j f) p.own.steps
  mark_word j f = ap (λ (x : Shown). table_word (Tlb x.own.actor j f) q.own.steps) made ∙ fold_adds (table_next (Tlb p.own.actor j f)) (table_boot (Tlb p.own.actor j f)) p q word arg answer Or (Dirty (page / 64)) made e

-- the stage behind a take
pub stage_taken : (p q : Shown) (word index answer : ℕ) → Adds p q word Swap 0 answer → name_of word ≡ Dirty index → stage p.machine.layout p.own.steps ≡ swapping index
    → stage q.machine.layout q.own.steps ≡ stage_after_take p.machine.layout index
stage_taken p q word index answer made e at = ap (λ (x : Shown). stage x.machine.layout x.own.steps) made
    ∙ ap (λ v. stage_next p.machine.layout (λ t. last_place t p.own.steps) v Swap 0 answer (stage p.machine.layout p.own.steps)) e
    ∙ ap (λ g. stage_next p.machine.layout (λ t. last_place t p.own.steps) (Dirty index) Swap 0 answer g) at
    ∙ ap (λ (t : Bool). if t then stage_after_take p.machine.layout index else swapping index) (eq-eqb index index refl)
