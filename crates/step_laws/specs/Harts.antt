-- Hart states: what a record says of whether its hart runs, of a start that it makes, of a start of its own, and of LIVE.
use Rattle.std.specs.Prelude.{ℕ, zero, suc, ◌==◌, Bool, false, List, if◌then◌else◌}
use Rattle.step_laws.specs.declared.steps.Step.{Step}
use Rattle.step_laws.specs.declared.steps.WordOp.{WordOp}
use Rattle.step_laws.specs.declared.steps.WordOp.TheVariants.{Load, Store, Add, Exchange}
use Rattle.step_laws.specs.Map.{Word, Live, Hsm, Start, Opaque}
use Rattle.step_laws.specs.Folds.{fold_steps}

abbrev pub is_running_next : ℕ → Word → WordOp → ℕ → ℕ → Bool → Bool
is_running_next a (Hsm h) Store arg answer b = if h == a then arg == 0 else b
is_running_next a _ _ _ _ b = b

-- whether the hart a runs, from whether it runs at the beginning
abbrev pub is_running : ℕ → Bool → List Step → Bool
is_running a runs r = fold_steps (is_running_next a) runs r

-- a start of hart h that the actor makes: none, HSM exchanged, then START stored, then OPAQUE, then LIVE raised
pub data Opening : Type 0 where
  closed : Opening
  opened : (h : ℕ) → Opening
  placed : (h : ℕ) → Opening
  handed : (h : ℕ) → Opening
  counted : (h : ℕ) → Opening

abbrev pub counted_next : Opening → Opening
counted_next (handed h) = counted h
counted_next o = o

abbrev pub opening_next : Word → WordOp → ℕ → ℕ → Opening → Opening
opening_next (Hsm h) (Exchange e) arg (suc zero) o = opened h
opening_next (Hsm h) Store arg answer o = closed
opening_next (Start h) Store arg answer o = placed h
opening_next (Opaque h) Store arg answer o = handed h
opening_next Live Add (suc zero) answer o = counted_next o
opening_next _ _ _ _ o = o

abbrev pub opening : List Step → Opening
opening r = fold_steps opening_next closed r

-- the own start: not called, or HSM loaded as 2, then START loaded, then OPAQUE
pub data Taking : Type 0 where
  idle : Taking
  called : Taking
  with_start : Taking
  with_both : Taking

abbrev pub call_of : ℕ → Taking
call_of (suc (suc zero)) = called
call_of _ = idle

abbrev pub taking_next : ℕ → Word → WordOp → ℕ → ℕ → Taking → Taking
taking_next a (Hsm h) Load arg answer t = if h == a then call_of answer else t
taking_next a (Hsm h) Store arg answer t = if h == a then idle else t
taking_next a (Start h) Load arg answer t = if h == a then with_start else t
taking_next a (Opaque h) Load arg answer t = if h == a then with_both else t
taking_next a _ _ _ _ t = t

abbrev pub taking : ℕ → List Step → Taking
taking a r = fold_steps (taking_next a) idle r

abbrev pub is_owing_next : ℕ → Word → WordOp → ℕ → ℕ → Bool → Bool
is_owing_next a (Hsm h) Store arg answer b = if h == a then arg == 1 else b
is_owing_next a Live Add arg answer b = false
is_owing_next a _ _ _ _ b = b

-- whether the hart a stopped and has not yet taken itself from LIVE
abbrev pub is_owing : ℕ → List Step → Bool
is_owing a r = fold_steps (is_owing_next a) false r
