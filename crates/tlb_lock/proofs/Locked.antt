-- What steps on a lock do to the record.
use Rattle.std.proofs.Common.{◌≡◌, ℕ, suc, ◌+◌, ◌<◌, ◌≤◌, sym, ap, subst, ◌∙◌, arith, inl, inr}
use Rattle.step_laws.specs.declared.map.TlbField.{TlbField}
use Rattle.step_laws.specs.declared.steps.WordOp.{WordOp}
use Rattle.step_laws.specs.declared.steps.WordOp.TheVariants.{Store, Exchange}
use Rattle.step_laws.specs.Words.{monitor}
use Rattle.step_laws.specs.Map.{Lock, Size, Tlb, name_of}
use Rattle.step_laws.specs.Tables.{held_lock, is_clear_due, is_clear_due_next, size_of, table_word, table_next, table_boot}
use Rattle.guest_ram.specs.Ports.{Shown, Adds, May, IsActing}
use Rattle.guest_ram.proofs.MaySteps.{may_lock_own, may_lock_other, may_unlock_own, may_unlock_other}
use Rattle.guest_ram.proofs.Moves.{fold_adds}
use Rattle.tlb_lock.specs.Locking.{MayTake, MayFree, IsHolder}

pub hart_few : (p : Shown) (hart : ℕ) → IsActing p → hart < p.machine.layout.harts → hart ≤ monitor
hart_few p hart a l = let x = a.limits.harts in omega (arith, x, l)

pub may_take : (p : Shown) (word arg h : ℕ) → name_of word ≡ Lock h → arg ≡ p.own.actor + 1 → IsActing p → h < p.machine.layout.harts → held_lock p.own.steps ≡ 0 → MayTake h p → May p word (Exchange 0) arg
may_take p word arg h e is acting less free (inl own) = may_lock_own p word arg (e ∙ ap (λ n. Lock n) (sym own)) is acting (subst (λ n. n < p.machine.layout.harts) (sym own) less) free
may_take p word arg h e is acting less free (inr other) = may_lock_other p word arg h e is acting other.0 less free other.1

pub may_free : (p : Shown) (word h : ℕ) → name_of word ≡ Lock h → IsActing p → IsHolder h p → MayFree h p → May p word Store 0
may_free p word h e acting held (inl own) = may_unlock_own p word (e ∙ ap (λ n. Lock n) (sym own.0)) acting (held ∙ ap suc (sym own.0)) own.1
may_free p word h e acting held (inr other) = may_unlock_other p word h e acting held (λ is. other.0 (sym is)) other.1

-- no step on a lock moves the table
module _ (p q : Shown) (word arg answer h : ℕ) (op : WordOp) (made : Adds p q word op arg answer) (e : name_of word ≡ Lock h) where
  pub lock_word : (j : ℕ) (f : TlbField) → table_word (Tlb q.own.actor j f) q.own.steps ≡ table_word (Tlb p.own.actor j f) p.own.steps
  lock_word j f = ap (λ (x : Shown). table_word (Tlb x.own.actor j f) q.own.steps) made ∙ fold_adds (table_next (Tlb p.own.actor j f)) (table_boot (Tlb p.own.actor j f)) p q word arg answer op (Lock h) made e

  pub lock_size : size_of q.own.actor q.own.steps ≡ size_of p.own.actor p.own.steps
  lock_size = ap (λ (x : Shown). size_of x.own.actor q.own.steps) made ∙ fold_adds (table_next (Size p.own.actor)) (table_boot (Size p.own.actor)) p q word arg answer op (Lock h) made e

  pub lock_due : (j : ℕ) (f : TlbField) → is_clear_due q.own.actor j f q.own.steps ≡ is_clear_due p.own.actor j f p.own.steps
  lock_due j f = ap (λ (x : Shown). is_clear_due x.own.actor j f x.own.steps) made
      ∙ ap (λ v. is_clear_due_next p.own.actor j f v op arg (size_of p.own.actor p.own.steps) (is_clear_due p.own.actor j f p.own.steps)) e
