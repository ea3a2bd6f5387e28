-- What no step apart from requests changes of a target.
use Rattle.std.proofs.Common.{◌≡◌, ℕ, ◌<◌, Bool, true, false, List, [], ◌∷◌, ◌++◌, refl, sym, ap, subst, ◌∙◌}
use Rattle.std.specs.Prelude.{◌⊎◌}
use Rattle.step_laws.specs.declared.map.TlbField.{TlbField}
use Rattle.step_laws.specs.declared.steps.Step.{Step}
use Rattle.step_laws.specs.declared.steps.WordOp.{WordOp}
use Rattle.step_laws.specs.Fields.{invalid_bit}
use Rattle.step_laws.specs.Map.{Word, Lock, Size, Place, Tlb, name_of}
use Rattle.step_laws.specs.Output.{has_touched}
use Rattle.step_laws.specs.Places.{acked_requests, acked_requests_next}
use Rattle.step_laws.specs.Tables.{held_lock_next, is_clear_due, is_clear_due_next, is_victim, size_of, table_boot, table_next, table_word}
use Rattle.guest_ram.specs.Areas.{IsApart}
use Rattle.guest_ram.specs.Ports.{Shown, IsActing, AreAllowed, GoesBy}
use Rattle.guest_ram.proofs.Moves.{fold_goes, actor_goes}
use Rattle.guest_ram_cases.specs.Requests.{IsServing}

lock_apart : (w : Word) (op : WordOp) (arg answer x : ℕ) → IsApart w → held_lock_next w op arg answer x ≡ x
lock_apart (Lock h) op arg answer x off = absurd off
lock_apart w op arg answer x off = refl

slot_apart : (h j : ℕ) (f : TlbField) (w : Word) (op : WordOp) (arg answer x : ℕ) → IsApart w → table_next (Tlb h j f) w op arg answer x ≡ x
slot_apart h j f (Tlb i k g) op arg answer x off = absurd off
slot_apart h j f w op arg answer x off = refl

size_apart : (h : ℕ) (w : Word) (op : WordOp) (arg answer x : ℕ) → IsApart w → table_next (Size h) w op arg answer x ≡ x
size_apart h (Size i) op arg answer x off = absurd off
size_apart h w op arg answer x off = refl

due_apart : (a j : ℕ) (f : TlbField) (w : Word) (op : WordOp) (arg size : ℕ) (b : Bool) → IsApart w → is_clear_due_next a j f w op arg size b ≡ b
due_apart a j f (Size h) op arg size b off = absurd off
due_apart a j f (Tlb h k g) op arg size b off = absurd off
due_apart a j f w op arg size b off = refl

acked_apart : (t s : ℕ) (w : Word) (op : WordOp) (r : List Step) (xs : List ℕ) → IsApart w → acked_requests_next t s w op r xs ≡ xs
acked_apart t s (Place u v k) op r xs off = absurd off
acked_apart t s w op r xs off = refl

due_behind : (p : Shown) (a j : ℕ) (f : TlbField) (added r : List Step) → AreAllowed IsApart p added → is_clear_due a j f (added ++ r) ≡ is_clear_due a j f r
due_behind p a j f [] r all = refl
due_behind p a j f (s ∷ added) r all = due_apart a j f (name_of s.word) s.op s.arg (size_of a (added ++ r)) (is_clear_due a j f (added ++ r)) all.0.0 ∙ due_behind p a j f added r all.1

acked_behind : (p : Shown) (t s : ℕ) (added r : List Step) → AreAllowed IsApart p added → acked_requests t s (added ++ r) ≡ acked_requests t s r
acked_behind p t s [] r all = refl
acked_behind p t s (x ∷ added) r all = acked_apart t s (name_of x.word) x.op (added ++ r) (acked_requests t s (added ++ r)) all.0.0 ∙ acked_behind p t s added r all.1

module _ (n : ℕ) (p q : Shown) (g : GoesBy n IsApart p q) where
  same_actor : q.own.actor ≡ p.own.actor
  same_actor = actor_goes n IsApart p q g

  pub acked_goes : (s : ℕ) → acked_requests q.own.actor s q.own.steps ≡ acked_requests p.own.actor s p.own.steps
  acked_goes s = ap (λ (x : Shown). acked_requests x.own.actor s x.own.steps) g.grown ∙ acked_behind p p.own.actor s g.added p.own.steps g.allowed

  -- a target still is one
  pub serving_goes : (s : ℕ) → IsServing p s → IsActing q → has_touched q.own.steps ≡ false → IsServing q s
  serving_goes s i acting untouched = record {
    acting = acting;
    hart = subst (λ (x : Shown). x.own.actor < x.machine.layout.harts) (sym g.grown) i.hart;
    other = λ x. i.other (x ∙ same_actor);
    untouched = untouched;
    table = record {
      free = fold_goes held_lock_next 0 n IsApart p q lock_apart g ∙ i.table.free;
      paid = λ j f compare. ap (λ (x : Shown). is_clear_due x.own.actor j f x.own.steps) g.grown ∙ due_behind p p.own.actor j f g.added p.own.steps g.allowed ∙ i.table.paid j f compare;
      empty = λ j f compare used. ap (λ a. invalid_bit (table_word (Tlb a j f) q.own.steps)) same_actor
          ∙ ap invalid_bit (fold_goes (table_next (Tlb p.own.actor j f)) (table_boot (Tlb p.own.actor j f)) n IsApart p q (slot_apart p.own.actor j f) g)
          ∙ i.table.empty j f compare (subst (λ m. (j < m) ⊎ (is_victim j ≡ true)) (ap (λ a. size_of a q.own.steps) same_actor
          ∙ fold_goes (table_next (Size p.own.actor)) (table_boot (Size p.own.actor)) n IsApart p q (size_apart p.own.actor) g) used);
    };
  }
