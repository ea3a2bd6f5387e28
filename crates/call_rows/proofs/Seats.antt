-- A further seat is of an actor that doesn't run yet.
use Rattle.std.proofs.Common.{◌≡◌, ℕ, ◌≤◌, false, List, [], ◌∷◌, sym, ap, subst, ◌∙◌, inl, inr, arith}
use Rattle.std.specs.Prelude.{◌||◌}
use Rattle.std.proofs.lemmas.Bool.{ne_eqb}
use Rattle.step_laws.specs.Discipline.{IsActor}
use Rattle.step_laws.specs.Joined.{is_listed, runs_after}
use Rattle.step_laws.specs.declared.words.Layout.{Layout}
use Rattle.guest_ram.specs.Ports.{Machine, Shown}
use Rattle.guest_ram_cases.specs.Tours.{IsSplit}
use Rattle.guest_ram_cases.proofs.LoaderRuns.{IsLoaded, runs_other, runs_monitor}
use Rattle.call_rows.specs.Opened.{AreOthersStopped}

pub second_stopped : (p : Shown) (a : ℕ) → 1 ≤ a → IsActor p.machine.layout a → IsLoaded p → runs_after p.machine.layout p.own.steps a ≡ false
second_stopped p a some (inl less) l = runs_other p a some less l
second_stopped p a some (inr e) l = ap (runs_after p.machine.layout p.own.steps) e ∙ runs_monitor p l

pub second_new : (m : Machine) (p : Shown) (a : ℕ) → 1 ≤ a → IsSplit m p (0 ∷ []) [] → is_listed a p.splits ≡ false
second_new m p a some s = ap (is_listed a) s.splits ∙ ap (λ t. t || false) (ne_eqb a 0 (λ e. omega (arith, e, some)))

pub actor_there : (m : Machine) (layout : Layout) (p : Shown) (a : ℕ) (off back : List ℕ) → IsSplit m p off back → m.layout ≡ layout → IsActor layout a → IsActor p.machine.layout a
actor_there m layout p a off back s e is = subst (λ (l : Layout). IsActor l a) (sym (ap (λ (x : Machine). x.layout) s.machine ∙ e)) is

pub others_stopped : (layout : Layout) (p q : Shown) → p.machine.layout ≡ layout → q ≡ p → IsLoaded p → AreOthersStopped layout q.own.steps
others_stopped layout p q is e l = subst (λ (x : Layout). AreOthersStopped x q.own.steps) is
    (subst (λ (x : Shown). AreOthersStopped p.machine.layout x.own.steps) (sym e) (λ h some less. runs_other p h some less l))
