-- A hart inside that is armed for the first pages.
use Rattle.std.proofs.Common.{◌≡◌, ◌≢◌, ℕ, ◌+◌, ◌/◌, ◌<◌, true, refl, sym, subst, ◌∙◌, inl, ⊎_elim, arith}
use Rattle.std.proofs.lemmas.Bool.{cases_eq}
use Rattle.step_laws.specs.declared.steps.WordOp.TheVariants.{Store}
use Rattle.step_laws.specs.Map.{Ram, name_of}
use Rattle.step_laws.specs.Marks.{is_armed}
use Rattle.step_laws.specs.Sections.{phase, inside}
use Rattle.guest_ram.specs.Areas.{IsOfRam}
use Rattle.guest_ram.specs.Ports.{Shown, May, Adds, GoesBy, IsActing}
use Rattle.guest_ram.proofs.AreaLemmas.{ram_steady, ram_inner, inner_aside}
use Rattle.guest_ram.proofs.MaySteps.{may_write_ram}
use Rattle.guest_ram.proofs.Moves.{acting_adds, phase_adds, armed_keeps, armed_goes, stands_goes}

abbrev pub AreArmed : ℕ → Shown → Type 0
AreArmed pages p = (k : ℕ) → k < pages → is_armed p.own.actor k p.own.steps ≡ true

pub record IsStoring (pages : ℕ) (p : Shown) : Type 0 where
  pub acting : IsActing p
  pub hart : p.own.actor < p.machine.layout.harts
  pub inside : phase p.own.steps ≡ inside
  pub armed : AreArmed pages p

pub more_marked : (page : ℕ) (p q : Shown) → IsStoring page p → GoesBy 1 IsOfRam p q → is_armed q.own.actor page q.own.steps ≡ true → IsActing q → IsStoring (page + 1) q
more_marked page p q s goes here acting = record {
  acting = acting;
  hart = subst (λ (x : Shown). x.own.actor < x.machine.layout.harts) (sym goes.grown) s.hart;
  inside = (stands_goes 1 IsOfRam p q (λ w x. inner_aside w (ram_inner w x)) goes).phase ∙ s.inside;
  armed = λ k less. ⊎_elim (λ (is : k ≡ page). subst (λ n. is_armed q.own.actor n q.own.steps ≡ true) (sym is) here)
      (λ (ne : k ≢ page). armed_goes 1 IsOfRam p q k ram_steady goes (s.armed k (omega arith))) (cases_eq k page);
}

pub may_store : (p : Shown) (word index arg : ℕ) → IsStoring 8 p → name_of word ≡ Ram index → index < 4096 → May p word Store arg
may_store p word index arg s e less = may_write_ram p word index arg Store e s.acting tt (inl s.inside, s.hart, s.armed (index / 512) (omega arith))

pub stored_more : (p q : Shown) (word index arg answer : ℕ) → IsStoring 8 p → Adds p q word Store arg answer → name_of word ≡ Ram index → IsStoring 8 q
stored_more p q word index arg answer s made e = record {
  acting = acting_adds p q word arg answer Store (Ram index) made e (λ _. refl) s.acting;
  hart = subst (λ (x : Shown). x.own.actor < x.machine.layout.harts) (sym made) s.hart;
  inside = phase_adds p q word arg answer Store (Ram index) made e ∙ s.inside;
  armed = λ k less. armed_keeps p q word arg answer k Store (Ram index) made e tt (s.armed k less);
}
