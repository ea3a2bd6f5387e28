-- What a mark does to the record.
use Rattle.std.proofs.Common.{◌≡◌, ℕ, suc, ◌+◌, ◌-◌, sym, subst, ◌*◌, ◌/◌, ◌%◌, ◌^◌, ◌<◌, Bool, true, refl, ap, ◌∙◌, arith}
use Rattle.std.specs.Prelude.{◌==◌, if◌then◌else◌}
use Rattle.std.proofs.lemmas.Bool.{eq-eqb, eqb-true, and_from}
use Rattle.std.proofs.lemmas.Nat.{pow_pos}
use Rattle.std.proofs.Math.Nat.{div_self, mod-lt}
use Rattle.std.proofs.Math.Pow.{pow-lt}
use Rattle.step_laws.specs.declared.map.TlbField.{TlbField}
use Rattle.step_laws.specs.declared.map.TlbField.TheVariants.{Page, Write}
use Rattle.step_laws.specs.declared.steps.WordOp.TheVariants.{And, Or}
use Rattle.step_laws.specs.Map.{Dirty, Tlb, name_of}
use Rattle.step_laws.specs.Tables.{is_clear_due, is_clear_due_next, size_of, table_boot, table_next, table_word}
use Rattle.step_laws.specs.Marks.{is_armed, is_armed_next, is_known_dirty, is_known_dirty_next, is_mark, is_page, is_set}
use Rattle.guest_ram.specs.Ports.{Shown, Adds, May, IsActing}
use Rattle.guest_ram.proofs.MaySteps.{may_clear_clean, may_mark}
use Rattle.guest_ram.proofs.Moves.{fold_adds, lock_adds}
use Rattle.guest_ram_cases.specs.Entries.{IsHolding, IsPaid}

pub page_few : (p : Shown) (page : ℕ) → IsActing p → page < p.machine.layout.pages → page < 4096
page_few p page a l = let x = a.limits.pages in omega (arith, x, l)

pub may_mark_page : (p : Shown) (word page arg : ℕ) → name_of word ≡ Dirty (page / 64) → IsActing p → p.own.actor < p.machine.layout.harts → page < p.machine.layout.pages → arg ≡ 2 ^ (page % 64) → May p word Or arg
may_mark_page p word page arg e acting l few is = may_mark p word (page / 64) page arg e acting l few refl is

marks_it : (page arg : ℕ) → arg ≡ 2 ^ (page % 64) → is_mark page (page / 64) arg ≡ true
marks_it page arg e = and_from (page / 64 == page / 64) (is_set arg page) (eq-eqb (page / 64) (page / 64) refl)
    (eq-eqb (arg / 2 ^ (page % 64) % 2) 1 (ap (λ n. n / 2 ^ (page % 64) % 2) e ∙ ap (λ n. n % 2) (div_self (pow_pos (page % 64)))))

pub armed_marked : (p q : Shown) (word page arg answer : ℕ) → Adds p q word Or arg answer → name_of word ≡ Dirty (page / 64) → arg ≡ 2 ^ (page % 64) → is_armed q.own.actor page q.own.steps ≡ true
armed_marked p q word page arg answer made e is = let mine : q.own.actor ≡ p.own.actor = ap (λ (x : Shown). x.own.actor) made in
    ap (λ a. is_armed a page q.own.steps) mine ∙ ap (λ (x : Shown). is_armed p.own.actor page x.own.steps) made
    ∙ ap (λ v. is_armed_next p.own.actor page (λ j. table_word (Tlb p.own.actor j Page) p.own.steps) v Or arg answer (is_armed p.own.actor page p.own.steps)) e
    ∙ ap (λ (t : Bool). if t then true else is_armed p.own.actor page p.own.steps) (marks_it page arg is)

pub page_bit : (page : ℕ) → 1 * 2 ^ (page % 64) % 18446744073709551616 ≡ 2 ^ (page % 64)
page_bit page = let l : 2 ^ (page % 64) < 2 ^ 64 = pow-lt (mod-lt page (omega arith)) in omega (arith, l)

pub known_marked : (p q : Shown) (word page arg answer : ℕ) → Adds p q word Or arg answer → name_of word ≡ Dirty (page / 64) → arg ≡ 2 ^ (page % 64) → is_known_dirty q.own.actor page q.own.steps ≡ true
known_marked p q word page arg answer made e is = let mine : q.own.actor ≡ p.own.actor = ap (λ (x : Shown). x.own.actor) made in
    ap (λ a. is_known_dirty a page q.own.steps) mine ∙ ap (λ (x : Shown). is_known_dirty p.own.actor page x.own.steps) made
    ∙ ap (λ v. is_known_dirty_next p.own.actor page (λ j. table_word (Tlb p.own.actor j Page) p.own.steps) v Or arg answer (is_known_dirty p.own.actor page p.own.steps)) e
    ∙ ap (λ (t : Bool). if t then true else is_known_dirty p.own.actor page p.own.steps) (marks_it page arg is)

-- a PAGE word is the address of one page at most
one_page : (p q n : ℕ) → is_page p n ≡ true → is_page q n ≡ true → p ≡ q
one_page p q n a b = let x : n / 4096 ≡ 2 ^ 31 / 4096 + p = eqb-true (n / 4096) (2 ^ 31 / 4096 + p) a in let y : n / 4096 ≡ 2 ^ 31 / 4096 + q = eqb-true (n / 4096) (2 ^ 31 / 4096 + q) b in omega (arith, x, y)

-- a hart behind a mark, in its lock section
module _ (p q : Shown) (word page arg answer i : ℕ) (made : Adds p q word Or arg answer) (e : name_of word ≡ Dirty i) where
  pub mark_holds : IsHolding p → IsHolding q
  mark_holds held = lock_adds p q word arg answer Or (Dirty i) made e ∙ held ∙ ap (λ (x : Shown). suc x.own.actor) (sym made)

  pub mark_paid : IsPaid p → IsPaid q
  mark_paid paid j f compare = ap (λ (x : Shown). is_clear_due x.own.actor j f q.own.steps) made ∙ ap (λ (x : Shown). is_clear_due p.own.actor j f x.own.steps) made
      ∙ ap (λ v. is_clear_due_next p.own.actor j f v Or arg (size_of p.own.actor p.own.steps) (is_clear_due p.own.actor j f p.own.steps)) e ∙ paid j f compare

  pub mark_word : (j : ℕ) (f : TlbField) → table_word (Tlb q.own.actor j f) q.own.steps ≡ table_word (Tlb p.own.actor j f) p.own.steps
  mark_word j f = ap (λ (x : Shown). table_word (Tlb x.own.actor j f) q.own.steps) made ∙ fold_adds (table_next (Tlb p.own.actor j f)) (table_boot (Tlb p.own.actor j f)) p q word arg answer Or (Dirty i) made e

-- bit 1 of a WRITE word is cleared
module _ (p q : Shown) (word slot arg answer a : ℕ) (made : Adds p q word And arg answer) (e : name_of word ≡ Tlb a slot Write) where
  pub clear_holds : IsHolding p → IsHolding q
  clear_holds held = lock_adds p q word arg answer And (Tlb a slot Write) made e ∙ held ∙ ap (λ (x : Shown). suc x.own.actor) (sym made)

  pub clear_paid : IsPaid p → IsPaid q
  clear_paid paid j f compare = ap (λ (x : Shown). is_clear_due x.own.actor j f q.own.steps) made ∙ ap (λ (x : Shown). is_clear_due p.own.actor j f x.own.steps) made
      ∙ ap (λ v. is_clear_due_next p.own.actor j f v And arg (size_of p.own.actor p.own.steps) (is_clear_due p.own.actor j f p.own.steps)) e ∙ paid j f compare

pub may_clear_slot : (p : Shown) (word slot page a : ℕ) → name_of word ≡ Tlb a slot Write → a ≡ p.own.actor → IsActing p → IsHolding p → is_page page (table_word (Tlb p.own.actor slot Page) p.own.steps) ≡ true → is_known_dirty p.own.actor page p.own.steps ≡ true
    → May p word And (2 ^ 64 - 3)
may_clear_slot p word slot page a e is acting held there known = may_clear_clean p word slot (e ∙ ap (λ x. Tlb x slot Write) is) acting held
    (λ other l at. subst (λ n. is_known_dirty p.own.actor n p.own.steps ≡ true) (one_page page other (table_word (Tlb p.own.actor slot Page) p.own.steps) there at) known)
