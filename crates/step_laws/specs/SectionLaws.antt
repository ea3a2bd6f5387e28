-- The law of sections: who is inside or in section is alone there, and the words say who that is.
use Rattle.std.specs.Prelude.{◌≡◌, ◌≢◌, ℕ, ◌+◌, Bool, true, ◌↔◌, List, ◌++◌}
use Rattle.step_laws.specs.declared.words.Layout.{Layout}
use Rattle.step_laws.specs.declared.steps.Step.{Step}
use Rattle.step_laws.specs.declared.steps.WordOp.TheVariants.{Store, Exchange}
use Rattle.step_laws.specs.Map.{Word, Pend, Run, Ram, Ipi, Cons, Console, name_of}
use Rattle.step_laws.specs.WordValues.{word_value}
use Rattle.step_laws.specs.Steps.{own_steps}
use Rattle.step_laws.specs.Past.{Each, Since, Anything}
use Rattle.step_laws.specs.Sections.{Phase, outside, phase, is_claimant, IsInSection, MayTouch}
use Rattle.step_laws.specs.Discipline.{IsActor}
use Rattle.step_laws.specs.Histories.{IsHistory, IsBegun}

-- what only who is inside or in section touches
abbrev pub IsTouched : Word → Type 0
IsTouched (Ram i) = Unit {0}
IsTouched Ipi = Unit {0}
IsTouched Cons = Unit {0}
IsTouched (Console i) = Unit {0}
IsTouched _ = ⊥

abbrev pub run_value : Phase → ℕ
run_value outside = 0
run_value _ = 1

-- the words of sections at each moment, and that who is inside or in section is alone there with whom it found outside
abbrev pub SectionFacts : Type 0
SectionFacts = (layout : Layout) (runs : ℕ → Bool) (h : List Step) → IsHistory layout runs h → IsBegun layout runs h
    → ((a : ℕ) → IsActor layout a → word_value (Run a) h ≡ run_value (phase (own_steps a h)))
    × ((a : ℕ) → IsActor layout a → (is_claimant (own_steps a h) ≡ true) ↔ (word_value Pend h ≡ a + 1))
    × ((a b : ℕ) → IsActor layout a → IsActor layout b → a ≢ b → IsInSection layout a (own_steps a h) → MayTouch layout b (own_steps b h) → ⊥)

-- a's stores of 1 and of 0 in its RUN
abbrev pub IsRaise : ℕ → Step → Type 0
IsRaise a s = (s.actor ≡ a) × (name_of s.word ≡ Run a) × (s.op ≡ Store) × (s.arg ≡ 1)

abbrev pub IsLower : ℕ → Step → Type 0
IsLower a s = (s.actor ≡ a) × (name_of s.word ≡ Run a) × (s.op ≡ Store) × (s.arg ≡ 0)

-- a's store of 0 in PEND
abbrev pub IsRelease : ℕ → Step → Type 0
IsRelease a s = (s.actor ≡ a) × (name_of s.word ≡ Pend) × (s.op ≡ Store)

-- a's claim of PEND
abbrev pub IsClaim : ℕ → Step → Type 0
IsClaim a s = (s.actor ≡ a) × (name_of s.word ≡ Pend) × (s.op ≡ Exchange 0) × (s.answer ≡ 0)

-- RUN of a is 1 exactly from a's store of 1 to its store of 0
abbrev pub RunLaw : Type 0
RunLaw = (layout : Layout) (runs : ℕ → Bool) (hs : List Step) (a : ℕ) → IsActor layout a → IsHistory layout runs hs → IsBegun layout runs hs
    → (word_value (Run a) hs ≡ 1) ↔ Since (λ s. IsLower a s → ⊥) (IsRaise a) Anything hs

-- PEND is a + 1 exactly from a's claim to its release
abbrev pub PendLaw : Type 0
PendLaw = (layout : Layout) (runs : ℕ → Bool) (hs : List Step) (a : ℕ) → IsActor layout a → IsHistory layout runs hs → IsBegun layout runs hs
    → (word_value Pend hs ≡ a + 1) ↔ Since (λ s. IsRelease a s → ⊥) (IsClaim a) Anything hs

-- from where an actor is in section up to its release no step of another is on RAM, IPI, CONS or a console place
abbrev pub SectionLaw : Type 0
SectionLaw = (layout : Layout) (runs : ℕ → Bool) (later before : List Step) (a : ℕ)
    → IsActor layout a → IsHistory layout runs (later ++ before) → IsInSection layout a (own_steps a before)
    → Each (λ s. IsRelease a s → ⊥) later
    → Each (λ s. s.actor ≢ a → IsTouched (name_of s.word) → ⊥) later
