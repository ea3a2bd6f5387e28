-- Steps that leave their actor in section.
use Rattle.std.proofs.Common.{◌≡◌, ℕ, Bool, List, ◌∷◌, refl, ◌∙◌}
use Rattle.step_laws.specs.declared.words.Layout.{Layout}
use Rattle.step_laws.specs.declared.steps.Step.{Step}
use Rattle.step_laws.specs.declared.steps.WordOp.{WordOp}
use Rattle.step_laws.specs.declared.steps.WordOp.TheVariants.{Load}
use Rattle.step_laws.specs.Map.{Word, Pend, Run, name_of}
use Rattle.step_laws.specs.Sections.{is_claimant, is_claimant_next, pass, pass_next, IsInSection}
use Rattle.machine_model.specs.State.{Setup}

-- steps that move no section
abbrev pub Plain : Word → WordOp → Type 0
Plain (Run b) op = ⊥
Plain Pend Load = Unit {0}
Plain Pend op = ⊥
Plain w op = Unit {0}

plain_claims : (w : Word) (op : WordOp) (arg answer : ℕ) (b : Bool) → Plain w op → is_claimant_next w op arg answer b ≡ b
plain_claims (Run x) op arg answer b p = absurd p
plain_claims Pend Load arg answer b p = refl
plain_claims Pend op arg answer b p = absurd p
plain_claims w op arg answer b p = refl

plain_pass : (l : Layout) (a : ℕ) (w : Word) (op : WordOp) (arg answer n : ℕ) → Plain w op → pass_next l a w op arg answer n ≡ n
plain_pass l a (Run x) op arg answer n p = absurd p
plain_pass l a Pend Load arg answer n p = refl
plain_pass l a Pend op arg answer n p = absurd p
plain_pass l a w op arg answer n p = refl

pub plain_section : (u : Setup) (a : ℕ) (s : Step) (r : List Step) → Plain (name_of s.word) s.op → IsInSection u.layout a r → IsInSection u.layout a (s ∷ r)
plain_section u a s r p k = (
  plain_claims (name_of s.word) s.op s.arg s.answer (is_claimant r) p ∙ k.0,
  plain_pass u.layout a (name_of s.word) s.op s.arg s.answer (pass u.layout a r) p ∙ k.1,
)
