-- A hart that keeps to the discipline owes no words to clear where it doesn't hold its own lock.
use Rattle.std.proofs.Common.{◌≡◌, ◌≢◌, ℕ, suc, Bool, true, false, List, [], ◌∷◌, refl, sym, ◌∙◌, arith}
use Rattle.step_laws.specs.declared.map.TlbField.{TlbField}
use Rattle.step_laws.specs.declared.steps.Step.{Step}
use Rattle.step_laws.specs.declared.steps.WordOp.{WordOp}
use Rattle.step_laws.specs.declared.words.Layout.{Layout}
use Rattle.step_laws.specs.Discipline.{ActorMay, IsDisciplined, IsPermitted, by_actor, by_loader, clear_clean, lock_other, lock_own, put_compare, put_page, put_size, unlock}
use Rattle.step_laws.specs.Map.{Word, loader, name_of}
use Rattle.step_laws.specs.Tables.{held_lock, held_lock_next, is_clear_due, is_clear_due_next, is_compare, size_of}
use Rattle.step_laws.proofs.Named.{by_test}
use Rattle.table_pieces.specs.Laws.{DisciplineClears}

abbrev Clears : (a : ℕ) → List Step → Type 0
Clears a r = (j : ℕ) (f : TlbField) → is_compare f ≡ true → is_clear_due a j f r ≡ false

not_one : (n : ℕ) → 0 ≢ suc n
not_one n e = cc

module _ (layout : Layout) (a : ℕ) (runs : Bool) (r : List Step) (before : held_lock r ≢ suc a → Clears a r) where
  step_clears : (w : Word) (op : WordOp) (arg answer : ℕ) → ActorMay layout a runs r w op arg → held_lock_next w op arg answer (held_lock r) ≢ suc a
      → (j : ℕ) (f : TlbField) → is_compare f ≡ true → is_clear_due_next a j f w op arg (size_of a r) (is_clear_due a j f r) ≡ false
  step_clears w op arg answer (put_compare held compare used clear) out j f c = absurd (out held)
  step_clears w op arg answer (put_page held used invalid) out j f c = absurd (out held)
  step_clears w op arg answer (put_size held sized) out j f c = absurd (out held)
  step_clears w op arg answer (clear_clean held clear) out j f c = absurd (out held)
  step_clears w op arg answer (lock_own free hart) out j f c = before (λ e. not_one a (sym free ∙ e)) j f c
  step_clears w op arg answer (lock_other free monitor hart at) out j f c = before (λ e. not_one a (sym free ∙ e)) j f c
  step_clears w op arg answer (unlock {h} held own other) out j f c = by_test h a (λ _. is_clear_due a j f r ≡ false) (λ is. own is j f c)
      (λ ne. before (λ e. ne (let same : suc h ≡ suc a = sym held ∙ e in omega (arith, same))) j f c)
  step_clears w op arg answer k out j f c = before out j f c

record_clears : (layout : Layout) (a : ℕ) (runs : Bool) (r : List Step) → a ≢ loader → IsDisciplined layout a runs r → held_lock r ≢ suc a → Clears a r
record_clears layout a runs [] ne d out j f c = refl
record_clears layout a runs (s ∷ r) ne d out j f c = by (record_clears layout a runs r ne d.1) d.0
  where
    by : (held_lock r ≢ suc a → Clears a r) → IsPermitted layout a runs r (name_of s.word) s.op s.arg → is_clear_due a j f (s ∷ r) ≡ false
    by before (by_loader is k) = absurd (ne is)
    by before (by_actor acts going k) = step_clears layout a runs r before (name_of s.word) s.op s.arg s.answer k out j f c

pub discipline_clears : DisciplineClears
discipline_clears p hart limits d free = record_clears p.machine.layout p.own.actor p.own.runs p.own.steps (λ e. let few = limits.harts in omega (arith, few, hart, e)) d (λ e. not_one p.own.actor (sym free ∙ e))
