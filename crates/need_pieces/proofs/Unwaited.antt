-- Over steps on other words than dirty ones no page begins to wait for a store, whatever events stand among them.
use Rattle.std.proofs.Common.{◌≡◌, ℕ, true, false, List, [], ◌∷◌, ◌++◌, refl, sym, ap, subst, ◌∙◌}
use Rattle.step_laws.specs.declared.steps.Step.{Step}
use Rattle.step_laws.specs.Map.{Word, name_of}
use Rattle.machine_model.specs.State.{Setup}
use Rattle.guest_ram.specs.Ports.{Shown, AreAllowed, GoesBy}
use Rattle.turn_pieces.specs.Grows.{Grows, stays, makes, does}
use Rattle.turn_pieces.specs.Log.{Log, steps_of}
use Rattle.turn_pieces.specs.Marks.{is_awaited}
use Rattle.turn_pieces.proofs.Unmarked.{is_other, unmarked_did, unmarked_step}
use Rattle.std.proofs.lemmas.List.{append_cancel_right}

-- the steps of a log that grew, behind those of the log before
abbrev pub added_steps : (u : Setup) (a : ℕ) (l : Log) {late : Log} → Grows u a l late → List Step
added_steps u a l stays = []
added_steps u a l (makes s g m) = s ∷ added_steps u a l g
added_steps u a l (does e g r) = added_steps u a l g

pub added_are : (u : Setup) (a : ℕ) (l : Log) {late : Log} (g : Grows u a l late) → steps_of late ≡ added_steps u a l g ++ steps_of l
added_are u a l stays = refl
added_are u a l (makes s g m) = ap (λ r. s ∷ r) (added_are u a l g)
added_are u a l (does e g r) = added_are u a l g

abbrev AreOther : List Step → Type 0
AreOther [] = Unit {0}
AreOther (s ∷ r) = (is_other (name_of s.word) ≡ true) × AreOther r

unwaited : (u : Setup) (a page : ℕ) (l : Log) {late : Log} (g : Grows u a l late) → AreOther (added_steps u a l g) → is_awaited u a page l ≡ false → is_awaited u a page late ≡ false
unwaited u a page l stays off e = e
unwaited u a page l (makes {m} s g k) off e = unmarked_step u a page m s off.0 ∙ unwaited u a page l g off.1 e
unwaited u a page l (does {m} d g k) off e = unmarked_did u a page m d (unwaited u a page l g off e)

are_other : (A : Word → Type 0) (p : Shown) (r : List Step) → ((w : Word) → A w → is_other w ≡ true) → AreAllowed A p r → AreOther r
are_other A p [] other all = tt
are_other A p (s ∷ r) other all = (other (name_of s.word) all.0.0, are_other A p r other all.1)

-- over a call
pub unwaited_goes : (A : Word → Type 0) (n : ℕ) (p q : Shown) (u : Setup) (a page : ℕ) (l late : Log) → ((w : Word) → A w → is_other w ≡ true) → GoesBy n A p q → steps_of l ≡ p.own.steps → steps_of late ≡ q.own.steps
    → Grows u a l late → is_awaited u a page l ≡ false → is_awaited u a page late ≡ false
unwaited_goes A n p q u a page l late other goes before behind g e =
    let same : added_steps u a l g ≡ goes.added = append_cancel_right (added_steps u a l g) goes.added (steps_of l)
    (sym (added_are u a l g) ∙ behind ∙ ap (λ (y : Shown). y.own.steps) goes.grown ∙ ap (λ r. goes.added ++ r) (sym before)) in
    unwaited u a page l g (subst AreOther (sym same) (are_other A p goes.added other goes.allowed)) e
