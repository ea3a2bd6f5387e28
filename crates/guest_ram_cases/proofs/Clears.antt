-- What making slots invalid pays for.
use Rattle.std.proofs.Common.{◌≡◌, ◌≢◌, ℕ, suc, ◌+◌, ◌<◌, ◌≤◌, Bool, true, false, refl, sym, ap, subst, ◌∙◌, inl, inr, ⊎_elim, arith}
use Rattle.std.specs.Prelude.{◌⊎◌, ◌==◌, ◌&&◌, ◌||◌, nat_lt, nat_le, if◌then◌else◌}
use Rattle.std.proofs.lemmas.Bool.{cases_eq, cases_Bool, le-ltb, ltb-true, eq-eqb}
use Rattle.step_laws.specs.declared.map.TlbField.{TlbField}
use Rattle.step_laws.specs.declared.map.TlbField.TheVariants.{Read, Write, Code, Page}
use Rattle.step_laws.specs.declared.steps.WordOp.TheVariants.{Store}
use Rattle.step_laws.specs.Map.{Size, Tlb, name_of, same, same_field}
use Rattle.step_laws.specs.Tables.{is_clear_due, is_clear_due_next, is_compare, is_swept, is_victim, size_of, table_next, table_boot}
use Rattle.step_laws.proofs.Named.{same_refl}
use Rattle.guest_ram.specs.Ports.{Shown, Adds, May}
use Rattle.guest_ram.proofs.MaySteps.{may_put_compare, may_put_size}
use Rattle.guest_ram.proofs.Moves.{acting_adds, lock_adds, fold_adds}
use Rattle.guest_ram_cases.specs.Entries.{IsOwning, IsPaid, IsPaidFor, KeepsPaid}

pub may_empty : (p : Shown) (word own slot : ℕ) (f : TlbField) → IsOwning p own → is_compare f ≡ true → name_of word ≡ Tlb own slot f → May p word Store 1
may_empty p word own slot f s compare e = may_put_compare p word slot 1 f (e ∙ ap (λ a. Tlb a slot f) s.own_is) s.acting s.held compare (inr refl) (λ _ z. absurd (omega (arith, z)))

module _ (p q : Shown) (word own slot : ℕ) (f : TlbField) (s : IsOwning p own) (made : Adds p q word Store 1 0) (e : name_of word ≡ Tlb own slot f) where
  pub owns_on : IsOwning q own
  owns_on = record {
    acting = acting_adds p q word 1 0 Store (Tlb own slot f) made e (λ _. refl) s.acting;
    own_is = s.own_is ∙ ap (λ (x : Shown). x.own.actor) (sym made);
    hart = subst (λ (x : Shown). x.own.actor < x.machine.layout.harts) (sym made) s.hart;
    held = lock_adds p q word 1 0 Store (Tlb own slot f) made e ∙ s.held ∙ ap (λ (x : Shown). suc x.own.actor) (sym made);
  }

  due_after : (j : ℕ) (g : TlbField) → is_clear_due q.own.actor j g q.own.steps ≡ is_clear_due_next p.own.actor j g (Tlb own slot f) Store 1 (size_of p.own.actor p.own.steps) (is_clear_due p.own.actor j g p.own.steps)
  due_after j g = ap (λ (x : Shown). is_clear_due x.own.actor j g q.own.steps) made ∙ ap (λ (x : Shown). is_clear_due p.own.actor j g x.own.steps) made
      ∙ ap (λ v. is_clear_due_next p.own.actor j g v Store 1 (size_of p.own.actor p.own.steps) (is_clear_due p.own.actor j g p.own.steps)) e

  pub keeps_paid : KeepsPaid p q
  keeps_paid j g compare paid = due_after j g ∙ by ((own == p.own.actor) && ((j == slot) && same_field g f))
    where
      by : (t : Bool) → (if t then false else is_clear_due p.own.actor j g p.own.steps) ≡ false
      by true = refl
      by false = paid

  pub pays : is_clear_due q.own.actor slot f q.own.steps ≡ false
  pays = due_after slot f ∙ ap (λ (t : Bool). if t then false else is_clear_due p.own.actor slot f p.own.steps) (ap (λ a. same (Tlb a slot f) (Tlb p.own.actor slot f)) s.own_is ∙ same_refl (Tlb p.own.actor slot f))

  pub size_still : size_of q.own.actor q.own.steps ≡ size_of p.own.actor p.own.steps
  size_still = ap (λ (x : Shown). size_of x.own.actor q.own.steps) made ∙ fold_adds (table_next (Size p.own.actor)) (table_boot (Size p.own.actor)) p q word 1 0 Store (Tlb own slot f) made e

pub pays_all : (p0 p1 p2 p3 : Shown) (slot : ℕ) → KeepsPaid p1 p2 → KeepsPaid p2 p3 → is_clear_due p1.own.actor slot Read p1.own.steps ≡ false → is_clear_due p2.own.actor slot Write p2.own.steps ≡ false
    → is_clear_due p3.own.actor slot Code p3.own.steps ≡ false → IsPaidFor slot p3
pays_all p0 p1 p2 p3 slot a b r w c Read compare = b slot Read compare (a slot Read compare r)
pays_all p0 p1 p2 p3 slot a b r w c Write compare = b slot Write compare w
pays_all p0 p1 p2 p3 slot a b r w c Code compare = c
pays_all p0 p1 p2 p3 slot a b r w c Page compare = absurd (cc)

-- all is paid for below a slot, and from 128 on but for the victims
pub record IsClearing (p : Shown) (own to : ℕ) : Type 0 where
  pub owning : IsOwning p own
  pub size : size_of p.own.actor p.own.steps ≡ 128
  pub paid : (j : ℕ) (f : TlbField) → is_compare f ≡ true → (j < to) ⊎ ((128 ≤ j) × (is_victim j ≡ false)) → is_clear_due p.own.actor j f p.own.steps ≡ false

unswept : (j : ℕ) → 128 ≤ j → is_victim j ≡ false → is_swept 64 128 j ≡ false
unswept j l v = ap (λ (t : Bool). t || (nat_lt j 128 || is_victim j)) (le-ltb j 64 (omega arith)) ∙ ap (λ (t : Bool). t || is_victim j) (le-ltb j 128 l) ∙ v

module _ (p q : Shown) (word own : ℕ) (s : IsOwning p own) (paid : IsPaid p) (size : size_of p.own.actor p.own.steps ≡ 64) (e : name_of word ≡ Size own) where
  pub may_double : May p word Store 128
  may_double = may_put_size p word 128 (e ∙ ap (λ a. Size a) s.own_is) s.acting s.held (inr (inl refl))

  pub clears_first : Adds p q word Store 128 0 → IsClearing q own 0
  clears_first made = record {
    owning = record {
      acting = acting_adds p q word 128 0 Store (Size own) made e (λ _. refl) s.acting;
      own_is = s.own_is ∙ ap (λ (x : Shown). x.own.actor) (sym made);
      hart = subst (λ (x : Shown). x.own.actor < x.machine.layout.harts) (sym made) s.hart;
      held = lock_adds p q word 128 0 Store (Size own) made e ∙ s.held ∙ ap (λ (x : Shown). suc x.own.actor) (sym made);
    };
    size = ap (λ (x : Shown). size_of x.own.actor q.own.steps) made ∙ fold_adds (table_next (Size p.own.actor)) (table_boot (Size p.own.actor)) p q word 128 0 Store (Size own) made e
        ∙ ap (λ (t : Bool). if t then 128 else size_of p.own.actor p.own.steps) (eq-eqb p.own.actor own (sym s.own_is));
    paid = λ j f compare off. ⊎_elim (λ (x : j < 0). absurd (omega arith))
        (λ (x : (128 ≤ j) × (is_victim j ≡ false)). ap (λ (x : Shown). is_clear_due x.own.actor j f q.own.steps) made ∙ ap (λ (x : Shown). is_clear_due p.own.actor j f x.own.steps) made
        ∙ ap (λ v. is_clear_due_next p.own.actor j f v Store 128 (size_of p.own.actor p.own.steps) (is_clear_due p.own.actor j f p.own.steps)) e
        ∙ ap (λ (t : Bool). if t then is_swept (size_of p.own.actor p.own.steps) 128 j || is_clear_due p.own.actor j f p.own.steps else is_clear_due p.own.actor j f p.own.steps) (eq-eqb own p.own.actor s.own_is)
        ∙ ap (λ n. is_swept n 128 j || is_clear_due p.own.actor j f p.own.steps) size ∙ ap (λ (t : Bool). t || is_clear_due p.own.actor j f p.own.steps) (unswept j x.0 x.1) ∙ paid j f compare) off;
  }

pub clears_more : (p q : Shown) (own to : ℕ) → IsClearing p own to → IsOwning q own → size_of q.own.actor q.own.steps ≡ size_of p.own.actor p.own.steps → IsPaidFor to q → KeepsPaid p q → IsClearing q own (to + 1)
clears_more p q own to s owning same here keeps = record {
  owning = owning;
  size = same ∙ s.size;
  paid = λ j f compare off. ⊎_elim
      (λ (is : j ≡ to). subst (λ k. is_clear_due q.own.actor k f q.own.steps ≡ false) (sym is) (here f compare))
      (λ (ne : j ≢ to). keeps j f compare (s.paid j f compare (⊎_elim (λ (x : j < to + 1). inl (let y : j < to = omega arith in y)) (λ (x : (128 ≤ j) × (is_victim j ≡ false)). inr x) off))) (cases_eq j to);
}

-- the slots from 128 to the victims need nothing
pub clears_on : (p : Shown) (own to : ℕ) → 128 ≤ to → IsClearing p own to → IsClearing p own 1024
clears_on p own to l s = record {
  owning = s.owning;
  size = s.size;
  paid = λ j f compare off. ⊎_elim
      (λ (x : j < 1024). ⊎_elim (λ (y : j < 128). s.paid j f compare (inl (omega arith)))
      (λ (y : 128 ≤ j). s.paid j f compare (inr (y, ap (λ (t : Bool). t && nat_lt j 1032) (gt_leb j x)))) (split_at j))
      (λ (x : (128 ≤ j) × (is_victim j ≡ false)). s.paid j f compare (inr x)) off;
}
  where
    gt_leb : (j : ℕ) → j < 1024 → nat_le 1024 j ≡ false
    gt_leb j l = grind (arith, l)

    split_at : (j : ℕ) → (j < 128) ⊎ (128 ≤ j)
    split_at j = ⊎_elim (λ (x : nat_lt j 128 ≡ true). inl (ltb-true j 128 x)) (λ (x : nat_lt j 128 ≡ false). inr (let y : 128 ≤ j = grind (arith, x) in y)) (cases_Bool (nat_lt j 128))

pub clears_all : (p : Shown) (own to : ℕ) → 1032 ≤ to → IsClearing p own to → IsPaid p
clears_all p own to l s j f compare = ⊎_elim (λ (x : j < 1032). s.paid j f compare (inl (omega arith)))
    (λ (x : 1032 ≤ j). s.paid j f compare (inr (omega arith, and_false (nat_le 1024 j) (le-ltb j 1032 x)))) (split_at j)
  where
    split_at : (j : ℕ) → (j < 1032) ⊎ (1032 ≤ j)
    split_at j = ⊎_elim (λ (x : nat_lt j 1032 ≡ true). inl (ltb-true j 1032 x)) (λ (x : nat_lt j 1032 ≡ false). inr (let y : 1032 ≤ j = grind (arith, x) in y)) (cases_Bool (nat_lt j 1032))

    and_false : (t : Bool) → nat_lt j 1032 ≡ false → (t && nat_lt j 1032) ≡ false
    and_false true e = e
    and_false false e = refl
