-- What an actor's own record says of its own part holds of the run of all.
use Rattle.std.proofs.Common.{◌≡◌, ◌≢◌, ℕ, ◌<◌, ◌<◌, Bool, List, [], ◌∷◌, ◌++◌, Option, Some, refl, sym, ap, ◌∙◌, ne_eqb, length, drop}
use Rattle.std.specs.Prelude.{◌==◌, if◌then◌else◌}
use Rattle.step_laws.specs.declared.steps.Step.{Step}
use Rattle.step_laws.specs.Words.{monitor}
use Rattle.step_laws.proofs.Named.{by_test}
use Rattle.machine_model.specs.Event.{Event, Await, SnapEnd, Dump, actor_of}
use Rattle.machine_model.specs.State.{Setup, Command, hart, initial}
use Rattle.machine_model.specs.Own.{Own, own}
use Rattle.machine_model.specs.Own.{own_next}
use Rattle.machine_model.specs.Change.{ends_line}
use Rattle.machine_model.specs.Run.{state_of, last_of, is_of}
use Rattle.machine_model.specs.Own.{own_of}
use Rattle.machine_model.proofs.Owned.{own_is_own}
use Rattle.run_laws.proofs.Placed.{Placed, run_of, mine, By}
use Rattle.run_laws.proofs.Kept.{part_at}
use Rattle.turn_pieces.specs.Folds.{script_of}
use Rattle.run_laws.proofs.Fits.{AllFit}
use Rattle.run_laws.proofs.Pieces.{Told}

-- every event is of the actor of its step
abbrev pub Owned : List Placed → Type 0
Owned [] = Unit {0}
Owned (t ∷ ts) = By t.step.actor t.events × Owned ts

pub by_fit : (u : Setup) (a : ℕ) (s : Step) (r : List Placed) (es : List Event) → AllFit u a s r es → By a es
by_fit u a s r [] f = tt
by_fit u a s r (e ∷ es) f = (f.0, by_fit u a s r es f.2)

pub owned : (u : Setup) (ts : List Placed) → Told u ts → Owned ts
owned u [] d = tt
owned u (t ∷ ts) d = (by_fit u t.step.actor t.step (mine t.step.actor ts) t.events d.0.right.fit, owned u ts d.1)

-- a value that a run gives, event by event
module _ (B : Type 0) (a : ℕ) (g : List Event → B) (next : Event → B → B) (is : (e : Event) (run : List Event) → g (e ∷ run) ≡ next e (g run))
    (other : (e : Event) → actor_of e ≢ a → (b : B) → next e b ≡ b) where
  same_on : (es r q : List Event) → g r ≡ g q → g (es ++ r) ≡ g (es ++ q)
  same_on [] r q k = k
  same_on (e ∷ es) r q k = is e (es ++ r) ∙ (ap (next e) (same_on es r q k) ∙ sym (is e (es ++ q)))

  others_on : (c : ℕ) (es r : List Event) → a ≢ c → By c es → g (es ++ r) ≡ g r
  others_on c [] r ne b = refl
  others_on c (e ∷ es) r ne b = is e (es ++ r) ∙ (other e (λ k. ne (sym k ∙ b.0)) (g (es ++ r)) ∙ others_on c es r ne b.1)

  pub of_own : (ts : List Placed) → Owned ts → g (run_of (mine a ts)) ≡ g (run_of ts)
  of_own [] d = refl
  of_own (t ∷ ts) d = by_test a t.step.actor (λ v. g (run_of (if v then t ∷ mine a ts else mine a ts)) ≡ g (t.events ++ run_of ts))
      (λ _. same_on t.events (run_of (mine a ts)) (run_of ts) (of_own ts d.1))
      (λ ne. of_own ts d.1 ∙ sym (others_on t.step.actor t.events (run_of ts) ne d.0))

-- the own part
own_other : (a : ℕ) (e : Event) → actor_of e ≢ a → (o : Own) → (if actor_of e == a then own_next e o else o) ≡ o
own_other a e ne o = ap (λ (b : Bool). if b then own_next e o else o) (ne_eqb (actor_of e) a ne)

pub part_of_run : (u : Setup) (a : ℕ) (ts : List Placed) → Owned ts → a < length (initial u).harts → own (hart (state_of u (run_of ts)) a) ≡ part_at u a (mine a ts)
part_of_run u a ts d lt = own_is_own u (run_of ts) a lt
    ∙ sym (of_own Own a (λ run. own_of a run (own (hart (initial u) a))) (λ e o. if actor_of e == a then own_next e o else o) (λ e run. refl) (own_other a) ts d)

-- the last event
last_other : (a : ℕ) (e : Event) → actor_of e ≢ a → (o : Option Event) → (if is_of a e then Some e else o) ≡ o
last_other a e ne o = ap (λ (b : Bool). if b then Some e else o) (ne_eqb (actor_of e) a ne)

pub last_of_run : (a : ℕ) (ts : List Placed) → Owned ts → last_of a (run_of (mine a ts)) ≡ last_of a (run_of ts)
last_of_run a ts d = of_own (Option Event) a (last_of a) (λ e o. if is_of a e then Some e else o) (λ e run. refl) (last_other a) ts d

-- the script
line_other : (e : Event) → actor_of e ≢ monitor → (o : List Command) → (if ends_line e then drop 1 o else o) ≡ o
line_other (Await n) ne o = absurd (ne refl)
line_other (SnapEnd pages) ne o = absurd (ne refl)
line_other (Dump at bytes) ne o = absurd (ne refl)
line_other e ne o = refl

pub script_of_run : (script : List Command) (ts : List Placed) → Owned ts → script_of script (run_of (mine monitor ts)) ≡ script_of script (run_of ts)
script_of_run script ts d = of_own (List Command) monitor (script_of script) (λ e o. if ends_line e then drop 1 o else o) (λ e run. refl) line_other ts d

pub script_is : (u : Setup) (run : List Event) → (state_of u run).script ≡ script_of u.script run
script_is u [] = refl
script_is u (e ∷ run) = ap (λ o. if ends_line e then drop 1 o else o) (script_is u run)
