-- The laws of the console and of STOP.
use Rattle.std.specs.Prelude.{◌≡◌, ◌≢◌, ℕ, ◌<◌, ◌^◌, Bool, true, List, ◌∷◌, ◌++◌, length}
use Rattle.step_laws.specs.declared.words.Layout.{Layout}
use Rattle.step_laws.specs.declared.steps.Step.{Step}
use Rattle.step_laws.specs.declared.steps.WordOp.TheVariants.{Add}
use Rattle.step_laws.specs.Map.{Cons, Stop, name_of}
use Rattle.step_laws.specs.WordValues.{word_value}
use Rattle.step_laws.specs.Steps.{own_steps}
use Rattle.step_laws.specs.Output.{has_set_stop}
use Rattle.step_laws.specs.Discipline.{IsActor}
use Rattle.step_laws.specs.Histories.{IsHistory, IsBegun}

-- the step draws a console place, the one that it is answered
abbrev pub IsDraw : Step → Type 0
IsDraw s = (name_of s.word ≡ Cons) × (s.op ≡ Add)

-- no two steps draw one place, in a history of fewer than 2^64 steps
abbrev pub DrawLaw : Type 0
DrawLaw = (layout : Layout) (runs : ℕ → Bool) (later between before : List Step) (s t : Step)
    → IsHistory layout runs (later ++ s ∷ (between ++ t ∷ before)) → length (between ++ t ∷ before) < 2 ^ 64
    → IsDraw s → IsDraw t → s.answer ≢ t.answer

-- once an actor has exchanged STOP for a reason, a reason stands there
abbrev pub EndLaw : Type 0
EndLaw = (layout : Layout) (runs : ℕ → Bool) (hs : List Step) (a : ℕ) → IsActor layout a → IsHistory layout runs hs → IsBegun layout runs hs
    → has_set_stop (own_steps a hs) ≡ true → word_value Stop hs ≢ 0
