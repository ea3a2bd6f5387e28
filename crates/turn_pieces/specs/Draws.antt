-- Console places beyond the last: a turn that draws one draws no more and gives a reason to end, and a turn that finds a reason draws none.
use Rattle.std.specs.Prelude.{◌≡◌, ◌≢◌, ℕ, ◌==◌, ◌&&◌, nat_lt, if◌then◌else◌, Bool, true, false, List}
use Rattle.step_laws.specs.declared.steps.Step.{Step}
use Rattle.step_laws.specs.declared.steps.WordOp.{WordOp}
use Rattle.step_laws.specs.declared.steps.WordOp.TheVariants.{Load, Add, Exchange}
use Rattle.step_laws.specs.Map.{Word, Stop, Cons}
use Rattle.step_laws.specs.Folds.{fold_steps}
use Rattle.step_laws.specs.Words.{console_places}

-- no place beyond the last was drawn, one was, and since then STOP was exchanged
pub data Filled : Type 0 where
  within : Filled
  beyond : Filled
  ended : Filled

abbrev pub overflow : Filled → Filled
overflow within = beyond
overflow p = p

abbrev pub said : Filled → Filled
said beyond = ended
said p = p

abbrev pub filled_next : Word → WordOp → ℕ → ℕ → Filled → Filled
filled_next Cons Add arg answer p = if nat_lt answer console_places then p else overflow p
filled_next Stop (Exchange e) arg answer p = said p
filled_next _ _ _ _ p = p

abbrev pub filled : List Step → Filled
filled r = fold_steps filled_next within r

abbrev pub may_draw_next : Word → WordOp → ℕ → ℕ → Bool → Bool
may_draw_next Stop Load arg answer b = answer == 0
may_draw_next Cons Add arg answer b = b && nat_lt answer console_places
may_draw_next _ _ _ _ b = b

-- the turn found STOP as 0, and drew no place beyond the last
abbrev pub may_draw : List Step → Bool
may_draw r = fold_steps may_draw_next false r

-- of the record r and the step behind it
abbrev pub Drawing : List Step → Word → WordOp → Type 0
Drawing r Cons Add = may_draw r ≡ true
Drawing r Stop Load = filled r ≢ beyond
Drawing r _ _ = Unit {0}
