-- What the loader's record says of the machine as it begins.
use Rattle.std.proofs.Common.{◌≡◌, ◌≢◌, ℕ, zero, suc, ◌<◌, ◌-◌, Bool, true, false, List, ◌++◌, refl, sym, ap, ◌∙◌, arith, ne_eqb}
use Rattle.std.specs.Prelude.{◌==◌, if◌then◌else◌}
use Rattle.std.proofs.lemmas.List.{get_or-replicate}
use Rattle.step_laws.specs.declared.steps.Step.{Step}
use Rattle.step_laws.specs.Map.{Cons, Stop, Hsm, number_of}
use Rattle.step_laws.specs.Words.{loader}
use Rattle.step_laws.specs.WordValues.{word_value}
use Rattle.step_laws.specs.Steps.{own_steps, value_at}
use Rattle.step_laws.specs.Histories.{IsHistory}
use Rattle.step_laws.specs.Loader.{is_stored}
use Rattle.step_laws.proofs.Woven.{woven, woven_before, held_value, IsStart}
use Rattle.step_laws.proofs.Along.{start_of, silent_own, booted_word}
use Rattle.machine_model.specs.declared.mode.Mode.TheVariants.{Halted}
use Rattle.machine_model.specs.State.{Setup, initial, mode_of, new_hart}
use Rattle.turn_pieces.specs.Shared.{mode_named}
use Rattle.run_laws.proofs.Fits.{runs_first}
use Rattle.run_laws.proofs.Begun.{IsLoaded}
use Rattle.run_laws.proofs.Beginning.{IsBegun}

module _ (u : Setup) (boot h : List Step) (runs : ℕ → Bool) (i : IsHistory u.layout runs (h ++ boot)) (l : IsLoaded u runs boot) where
  start : IsStart u.layout runs (λ w. word_value w boot)
  start = start_of u.layout runs boot i.limits (woven_before u.layout runs h boot (woven u.layout runs (h ++ boot) i)) l.alone l.begun

  hsm : (k : ℕ) → k < u.layout.harts → value_at (number_of (Hsm k)) boot ≡ word_value (Hsm k) boot
  hsm k lt = let p = i.limits.harts in held_value (Hsm k) boot (omega (arith, p, lt))

  none_anyway : (t : Bool) → (let n : ℕ = 0 in (if t then n else n) ≡ n)
  none_anyway true = refl
  none_anyway false = refl

  first_mode : (k : ℕ) → k < u.layout.harts → mode_named (word_value (Hsm k) boot) ≡ mode_of (initial u) k
  first_mode zero lt = ap mode_named start.first
  first_mode (suc k) lt = ap mode_named (start.others (suc k) (omega arith) lt) ∙ sym (ap (λ t. t.mode) (get_or-replicate (u.layout.harts - 1) k (new_hart Halted 0) (new_hart Halted 0) (omega (arith, lt))))

  first_runs : (k : ℕ) → k < u.layout.harts → (word_value (Hsm k) boot == 0) ≡ runs_first k
  first_runs zero lt = ap (λ n. n == 0) start.first
  first_runs (suc k) lt = ap (λ n. n == 0) (start.others (suc k) (omega arith) lt) ∙ sym (ne_eqb (suc k) 0 (λ e. omega (arith, e)))

  never_two : (k : ℕ) → k < u.layout.harts → value_at (number_of (Hsm k)) boot ≢ 2
  never_two k lt e = let x = start.low k in let y : word_value (Hsm k) boot ≡ 2 = sym (hsm k lt) ∙ e in omega (arith, x, y)

  pub begun_of : IsBegun u boot
  begun_of = record {
    limits = i.limits;
    alone = l.alone;
    image = l.image;
    small = l.small;
    output = held_value Cons boot tt ∙ (booted_word u.layout runs boot i.limits.harts (woven_before u.layout runs h boot (woven u.layout runs (h ++ boot) i)) l.alone Cons tt ∙ none_anyway (is_stored Cons (own_steps loader boot)));
    reason = held_value Stop boot tt ∙ start.stop;
    booted = l.begun.booted;
    left = λ k lt. ap (λ r. word_value (Hsm k) r == 0) (silent_own boot l.alone) ∙ first_runs k lt;
    none_pending = never_two;
    modes = λ k lt. ap mode_named (hsm k lt) ∙ first_mode k lt;
  }

  pub ran_of : (k : ℕ) → k < u.layout.harts → runs k ≡ runs_first k
  ran_of k lt = start.ran k lt ∙ first_runs k lt
