-- What steps on the own lock and table do to the record.
use Rattle.std.proofs.Common.{◌≡◌, ◌≢◌, ℕ, suc, ◌%◌, ◌<◌, Bool, true, false, true≢false, refl, sym, ap, subst, ◌∙◌, inl}
use Rattle.std.specs.Prelude.{◌⊎◌, ◌==◌, ◌&&◌, if◌then◌else◌}
use Rattle.step_laws.specs.declared.map.TlbField.{TlbField}
use Rattle.step_laws.specs.declared.map.TlbField.TheVariants.{Write, Page}
use Rattle.step_laws.specs.declared.steps.WordOp.TheVariants.{Store, Exchange}
use Rattle.step_laws.specs.Fields.{invalid_bit}
use Rattle.step_laws.specs.Map.{Lock, Size, Tlb, name_of, same_field}
use Rattle.step_laws.specs.Tables.{held_lock, held_lock_next, is_clear_due, is_clear_due_next, is_compare, is_victim, size_of, table_word, table_next, table_boot}
use Rattle.step_laws.specs.Discipline.{IsInUse}
use Rattle.step_laws.proofs.Named.{same_refl}
use Rattle.guest_ram.specs.Ports.{Shown, Adds, May, IsActing}
use Rattle.guest_ram.proofs.MaySteps.{may_put_compare, may_put_page}
use Rattle.guest_ram.proofs.Moves.{acting_adds, lock_adds, fold_adds}
use Rattle.guest_ram_cases.specs.Entries.{IsHolding, IsPaid, KeepsTable}

pub lock_taken : (p q : Shown) (word arg answer h : ℕ) → Adds p q word (Exchange 0) arg answer → name_of word ≡ Lock h → h ≡ p.own.actor → answer ≡ 0 → held_lock q.own.steps ≡ suc q.own.actor
lock_taken p q word arg answer h made e is zero = lock_adds p q word arg answer (Exchange 0) (Lock h) made e ∙ go answer zero ∙ ap suc is ∙ ap (λ (x : Shown). suc x.own.actor) (sym made)
  where
    go : (n : ℕ) → n ≡ 0 → held_lock_next (Lock h) (Exchange 0) arg n (held_lock p.own.steps) ≡ suc h
    go n z = subst (λ m. held_lock_next (Lock h) (Exchange 0) arg m (held_lock p.own.steps) ≡ suc h) (sym z) refl

-- a step on a lock leaves the table as it is
pub lock_keeps : (p q : Shown) (word arg answer h : ℕ) → Adds p q word (Exchange 0) arg answer → name_of word ≡ Lock h → KeepsTable p q
lock_keeps p q word arg answer h made e = record {
  size = ap (λ (x : Shown). size_of x.own.actor q.own.steps) made ∙ fold_adds (table_next (Size p.own.actor)) (table_boot (Size p.own.actor)) p q word arg answer (Exchange 0) (Lock h) made e;
  paid = λ j f compare paid. ap (λ (x : Shown). is_clear_due x.own.actor j f q.own.steps) made ∙ ap (λ (x : Shown). is_clear_due p.own.actor j f x.own.steps) made
      ∙ ap (λ v. is_clear_due_next p.own.actor j f v (Exchange 0) arg (size_of p.own.actor p.own.steps) (is_clear_due p.own.actor j f p.own.steps)) e ∙ paid;
}

-- a hart that holds the lock of its own table, at a slot that is in use
pub record IsFilling (p : Shown) (own slot : ℕ) : Type 0 where
  pub acting : IsActing p
  pub own_is : own ≡ p.own.actor
  pub hart : p.own.actor < p.machine.layout.harts
  pub held : IsHolding p
  pub used : IsInUse p.own.actor slot p.own.steps

module _ (p q : Shown) (word own slot arg : ℕ) (f : TlbField) (s : IsFilling p own slot) (made : Adds p q word Store arg 0) (e : name_of word ≡ Tlb own slot f) where
  pub fills_on : IsFilling q own slot
  fills_on = record {
    acting = acting_adds p q word arg 0 Store (Tlb own slot f) made e (λ _. refl) s.acting;
    own_is = s.own_is ∙ ap (λ (x : Shown). x.own.actor) (sym made);
    hart = subst (λ (x : Shown). x.own.actor < x.machine.layout.harts) (sym made) s.hart;
    held = lock_adds p q word arg 0 Store (Tlb own slot f) made e ∙ s.held ∙ ap (λ (x : Shown). suc x.own.actor) (sym made);
    used = subst (λ (x : Shown). (slot < size_of x.own.actor q.own.steps) ⊎ (is_victim slot ≡ true)) (sym made)
        (subst (λ n. (slot < n) ⊎ (is_victim slot ≡ true)) (sym (fold_adds (table_next (Size p.own.actor)) (table_boot (Size p.own.actor)) p q word arg 0 Store (Tlb own slot f) made e)) s.used);
  }

  -- the size stays
  pub size_on : size_of q.own.actor q.own.steps ≡ size_of p.own.actor p.own.steps
  size_on = ap (λ (x : Shown). size_of x.own.actor q.own.steps) made ∙ fold_adds (table_next (Size p.own.actor)) (table_boot (Size p.own.actor)) p q word arg 0 Store (Tlb own slot f) made e

  -- the word is what was stored
  pub filled_word : table_word (Tlb q.own.actor slot f) q.own.steps ≡ arg
  filled_word = ap (λ (x : Shown). table_word (Tlb x.own.actor slot f) q.own.steps) made
      ∙ fold_adds (table_next (Tlb p.own.actor slot f)) (table_boot (Tlb p.own.actor slot f)) p q word arg 0 Store (Tlb p.own.actor slot f) made (e ∙ ap (λ a. Tlb a slot f) s.own_is)
      ∙ ap (λ (t : Bool). if t then arg else table_word (Tlb p.own.actor slot f) p.own.steps) (same_refl (Tlb p.own.actor slot f))

  -- PAGE stays where another word of the slot is stored
  pub page_still : same_field Page f ≡ false → table_word (Tlb q.own.actor slot Page) q.own.steps ≡ table_word (Tlb p.own.actor slot Page) p.own.steps
  page_still other = ap (λ (x : Shown). table_word (Tlb x.own.actor slot Page) q.own.steps) made
      ∙ fold_adds (table_next (Tlb p.own.actor slot Page)) (table_boot (Tlb p.own.actor slot Page)) p q word arg 0 Store (Tlb own slot f) made e
      ∙ by (p.own.actor == own) (slot == slot) (same_field Page f) other
    where
      by : (t u v : Bool) → v ≡ false → (if t && (u && v) then arg else table_word (Tlb p.own.actor slot Page) p.own.steps) ≡ table_word (Tlb p.own.actor slot Page) p.own.steps
      by true true false n = refl
      by true false v n = refl
      by false u v n = refl
      by true true true n = absurd (true≢false n)

  due_still : (j : ℕ) (g : TlbField) (b : Bool) → b ≡ false → is_clear_due_next p.own.actor j g (Tlb own slot f) Store arg (size_of p.own.actor p.own.steps) b ≡ false
  due_still j g b e = by ((own == p.own.actor) && ((j == slot) && same_field g f)) (arg == 1)
    where
      by : (t u : Bool) → (if t then (if u then false else b) else b) ≡ false
      by true true = refl
      by true false = e
      by false u = e

  -- nothing more is asked for
  pub paid_on : IsPaid p → IsPaid q
  paid_on paid j g compare = ap (λ (x : Shown). is_clear_due x.own.actor j g q.own.steps) made ∙ ap (λ (x : Shown). is_clear_due p.own.actor j g x.own.steps) made
      ∙ ap (λ v. is_clear_due_next p.own.actor j g v Store arg (size_of p.own.actor p.own.steps) (is_clear_due p.own.actor j g p.own.steps)) e
      ∙ due_still j g (is_clear_due p.own.actor j g p.own.steps) (paid j g compare)

module _ (p : Shown) (word own slot arg : ℕ) (s : IsFilling p own slot) where
  own_named : (f : TlbField) → name_of word ≡ Tlb own slot f → name_of word ≡ Tlb p.own.actor slot f
  own_named f e = e ∙ ap (λ a. Tlb a slot f) s.own_is

  pub may_fill : (f : TlbField) → is_compare f ≡ true → (f ≡ Write → arg % 4 ≢ 0) → name_of word ≡ Tlb own slot f → May p word Store arg
  may_fill f compare marked e = may_put_compare p word slot arg f (own_named f e) s.acting s.held compare (inl s.used) (λ is zero. absurd (marked is zero))

  pub may_fill_page : table_word (Tlb p.own.actor slot Write) p.own.steps ≡ 1 → name_of word ≡ Tlb own slot Page → May p word Store arg
  may_fill_page invalid e = may_put_page p word slot arg (own_named Page e) s.acting s.held s.used (ap invalid_bit invalid)
