-- An answer has the form that its need asks for.
use Rattle.std.proofs.Common.{inl, inr, ◌≡◌, refl, ℕ, Bool, rules, sym, ◌∙◌, subst}
use Rattle.std.specs.Prelude.{◌⊎◌, Result, Ok, Err}
use Rattle.rv64_priv.specs.declared.state.Hold.{Hold}
use Rattle.rv64_exec.specs.declared.needs.Need.{Need}
use Rattle.rv64_exec.specs.declared.needs.Answer.{Answer}
use Rattle.rv64_exec.specs.Finish.{Answers, IsFault}
use Rattle.ref_machine.specs.declared.translation.Fault.{Fault}
use Rattle.ref_machine.specs.declared.atomics.Reserved.{Reserved}
use Rattle.ref_machine.specs.Given.{load_answer, reserve_answer, conditional_answer}
use Rattle.ref_machine.proofs.step.serve.Goals as goal
use Rattle.ref_machine.proofs.step.serve.Goals.{in-Load, in-Store+in-Ok, in-Store+in-Err, in-Amo, in-Lr, in-Sc, in-Ipi, in-Trap, in-Nothing}

formed : (n m : Need) (x y : Answer) → n ≡ m → x ≡ y → Answers m y → Answers n x
formed n m x y e f k = subst (λ n. Answers n x) (sym e) (subst (Answers m) (sym f) k)

loaded : (r : Result ℕ Fault) → IsFault (load_answer r) ⊎ ((v : ℕ) × (load_answer r ≡ Answer.Value v))
loaded (Ok v) = inr (v, refl)
loaded (Err fault) = inl tt

reserved : (r : Result Reserved Fault) → IsFault (reserve_answer r) ⊎ ((v : ℕ) × (h : Hold) × (reserve_answer r ≡ Answer.LrValue v h))
reserved (Ok x) = inr (x.value, x.hold, refl)
reserved (Err fault) = inl tt

conditional : (r : Result Bool Fault) → IsFault (conditional_answer r) ⊎ ((b : Bool) × (conditional_answer r ≡ Answer.Sc b))
conditional (Ok b) = inr (b, refl)
conditional (Err fault) = inl tt

pub finish_served-requires-clause-form : goal.finish_served-requires-clause-form
finish_served-requires-clause-form c =
    let need = sym c.requires.need in
    elim c.match-need.branch [
      | in-Load w ↦ formed _ _ _ _ (need ∙ w.in-Load.is) (w.answer-is ∙ w.value_answer-answer.ensures) (loaded _)
      | in-Store+in-Ok w ↦ search rules
      | in-Store+in-Err w ↦ search rules
      | in-Amo w ↦ formed _ _ _ _ (need ∙ w.in-Amo.is) (w.answer-is ∙ w.value_answer-answer-in-Amo.ensures) (loaded _)
      | in-Lr w ↦ formed _ _ _ _ (need ∙ w.in-Lr.is) (w.answer-is ∙ w.reserve_answer-answer.ensures) (reserved _)
      | in-Sc w ↦ formed _ _ _ _ (need ∙ w.in-Sc.is) (w.answer-is ∙ w.conditional_answer-answer.ensures) (conditional _)
      | in-Ipi w ↦ search rules
      | in-Trap w ↦ search rules
      | in-Nothing w ↦ search rules
    ]
