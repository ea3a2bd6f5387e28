-- What an actor's record says of its turn: the console places that it drew, whether it has touched RAM, and whether it ended. A turn begins
-- with a load of STOP.
use Rattle.std.specs.Prelude.{ℕ, ◌==◌, Bool, true, false, List, if◌then◌else◌}
use Rattle.step_laws.specs.declared.steps.Step.{Step}
use Rattle.step_laws.specs.declared.steps.WordOp.{WordOp}
use Rattle.step_laws.specs.declared.steps.WordOp.TheVariants.{Load, Store, Add, Exchange}
use Rattle.step_laws.specs.Map.{Word, Stop, Cons, Done, Dirty, Ram}
use Rattle.step_laws.specs.Folds.{fold_steps}

abbrev pub is_drawn_next : ℕ → Word → WordOp → ℕ → ℕ → Bool → Bool
is_drawn_next i Cons Add arg answer b = if i == answer then true else b
is_drawn_next i Stop Load arg answer b = false
is_drawn_next i _ _ _ _ b = b

-- whether the console place i was drawn in this turn.
abbrev pub is_drawn : ℕ → List Step → Bool
is_drawn i r = fold_steps (is_drawn_next i) false r

abbrev pub has_touched_next : Word → WordOp → ℕ → ℕ → Bool → Bool
has_touched_next (Ram i) op arg answer b = true
has_touched_next (Dirty i) op arg answer b = true
has_touched_next Stop Load arg answer b = false
has_touched_next _ _ _ _ b = b

-- whether this turn has made a step on RAM or on a dirty word
abbrev pub has_touched : List Step → Bool
has_touched r = fold_steps has_touched_next false r

abbrev pub is_finished_next : Word → WordOp → ℕ → ℕ → Bool → Bool
is_finished_next (Done a) Store arg answer b = true
is_finished_next _ _ _ _ b = b

-- whether the actor has stored in its DONE
abbrev pub is_finished : List Step → Bool
is_finished r = fold_steps is_finished_next false r

abbrev pub has_set_stop_next : Word → WordOp → ℕ → ℕ → Bool → Bool
has_set_stop_next Stop (Exchange e) arg answer b = true
has_set_stop_next _ _ _ _ b = b

-- whether the actor has exchanged STOP for a reason, so that the machine ends, for this reason or another's
abbrev pub has_set_stop : List Step → Bool
has_set_stop r = fold_steps has_set_stop_next false r
