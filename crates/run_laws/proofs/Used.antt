-- What the composition uses of the laws of steps, and of the pieces of targets; all of it is proved.
use Rattle.std.specs.Prelude.{◌≡◌, ◌≢◌, ◌⊎◌, ◌<◌, ◌≤◌, ℕ, zero, suc, Bool, List, [], ◌∷◌, ◌++◌, true, false}
use Rattle.step_laws.specs.declared.words.Layout.{Layout}
use Rattle.step_laws.specs.declared.steps.Step.{Step}
use Rattle.step_laws.specs.declared.steps.WordOp.{WordOp}
use Rattle.step_laws.specs.declared.steps.WordOp.TheVariants.{Store}
use Rattle.step_laws.specs.Map.{Word, Hsm, name_of, number_of}
use Rattle.step_laws.specs.Words.{loader}
use Rattle.step_laws.specs.Steps.{own_steps, value_at}
use Rattle.step_laws.specs.Sections.{IsInSection}
use Rattle.step_laws.specs.Harts.{Opening, closed, opened, placed as placing, handed, counted, opening, taking, is_owing}
use Rattle.step_laws.specs.Discipline.{IsActor}
use Rattle.step_laws.specs.Histories.{IsHistory, IsBegun as HasBegun}
use Rattle.step_laws.specs.SectionLaws.{IsTouched}
use Rattle.rv64_priv.specs.Flush.{Flush}
use Rattle.machine_model.specs.Event.{Event}
use Rattle.machine_model.specs.State.{Setup}
use Rattle.machine_model.specs.Lawful.{Flushed}
use Rattle.run_laws.proofs.Placed.{Placed, placed, run_of, mine}
use Rattle.turn_pieces.specs.Folds.{was_last, is_waiting}
use Rattle.run_laws.proofs.Fits.{AskedFor}
use Rattle.run_laws.proofs.Accounts.{AreQuiet}
use Rattle.run_laws.proofs.Pieces.{Told}
use Rattle.turn_pieces.specs.Folds.{IsUncount}
use Rattle.run_laws.proofs.Beginning.{history}

-- the words that are touched only inside or in section
abbrev pub IsGuarded : Word → Type 0
IsGuarded w = IsTouched w

-- where an actor is in section, the next step of another is on none of these words
abbrev pub SectionLaw : Type 0
SectionLaw = (layout : Layout) (runs : ℕ → Bool) (h : List Step) (s : Step) (a : ℕ) → layout.harts ≤ 8 → IsHistory layout runs (s ∷ h) → IsActor layout a → IsActor layout s.actor
    → IsInSection layout a (own_steps a h) → s.actor ≢ a → IsGuarded (name_of s.word) → ⊥

-- the actor is making a start of this hart
abbrev pub IsOpening : ℕ → Opening → Type 0
IsOpening t (opened x) = x ≡ t
IsOpening t (placing x) = x ≡ t
IsOpening t (handed x) = x ≡ t
IsOpening t (counted x) = x ≡ t
IsOpening t closed = ⊥

-- a hart stops
abbrev pub IsHalt : Word → WordOp → (arg : ℕ) → Type 0
IsHalt (Hsm t) Store (suc zero) = Unit {0}
IsHalt _ _ _ = ⊥

abbrev pub NoneSince : ℕ → List Step → Type 0
NoneSince a [] = ⊥
NoneSince a (s ∷ h) = ((s.actor ≡ a) × IsUncount (name_of s.word) s.op s.arg × (s.answer ≡ 1)) ⊎ ((IsHalt (name_of s.word) s.op s.arg → ⊥) × NoneSince a h)

-- a hart's HSM is 3 while a start of it is made, by one actor alone, and 2 where it found it pending
pub record StopLaw : Type 0 where
  pub opens : (layout : Layout) (runs : ℕ → Bool) (h : List Step) (a t : ℕ) → layout.harts ≤ 8 → IsHistory layout runs h → HasBegun layout runs h → IsActor layout a
      → IsOpening t (opening (own_steps a h)) → value_at (number_of (Hsm t)) h ≡ 3
  pub alone : (layout : Layout) (runs : ℕ → Bool) (h : List Step) (a b t : ℕ) → layout.harts ≤ 8 → IsHistory layout runs h → HasBegun layout runs h → IsActor layout a → IsActor layout b
      → IsOpening t (opening (own_steps a h)) → IsOpening t (opening (own_steps b h)) → a ≡ b
  pub waits : (layout : Layout) (runs : ℕ → Bool) (h : List Step) (a : ℕ) → layout.harts ≤ 8 → IsHistory layout runs h → HasBegun layout runs h → a < layout.harts
      → is_waiting (taking a (own_steps a h)) ≡ true → value_at (number_of (Hsm a)) h ≡ 2
  -- who took the last one from LIVE finds all stopped
  pub lasts : (layout : Layout) (runs : ℕ → Bool) (h : List Step) (a k : ℕ) → layout.harts ≤ 8 → IsHistory layout runs h → HasBegun layout runs h → IsActor layout a → k < layout.harts
      → was_last a (own_steps a h) ≡ true → value_at (number_of (Hsm k)) h ≡ 1
  -- where all are stopped, and all have said so in LIVE, one was the last, and nobody has stopped since
  pub leaves : (layout : Layout) (runs : ℕ → Bool) (h : List Step) → layout.harts ≤ 8 → IsHistory layout runs h → HasBegun layout runs h → ((k : ℕ) → k < layout.harts → value_at (number_of (Hsm k)) h ≡ 1)
      → ((a : ℕ) → a < layout.harts → is_owing a (own_steps a h) ≡ false) → (a : ℕ) × (a ≢ loader) × (was_last a (own_steps a h) ≡ true) × NoneSince a h

-- Where the actor of a step asked another hart for a flush, and
-- found the place free again, that hart has flushed this since the actor's Fetch
pub record FenceLaw (u : Setup) (boot : List Step) (runs : ℕ → Bool) : Type 0 where
  pub fences : (t : Placed) (ts : List Placed) → IsHistory u.layout runs (history boot (t ∷ ts)) → Told u (t ∷ ts) → t.step.actor ≢ loader → (es : List Event) → AreQuiet es
      → (h : ℕ) (what : Flush) → h ≢ t.step.actor → AskedFor t.step.actor h what (placed t.step es ∷ mine t.step.actor ts) → Flushed (es ++ run_of ts) t.step.actor h what
