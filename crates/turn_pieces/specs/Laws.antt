-- Laws of turns and of their parts.
use Rattle.std.specs.Prelude.{ℕ, []}
use Rattle.machine_model.specs.State.{Setup}
use Rattle.machine_model.specs.Own.{Own}
use Rattle.turn_pieces.specs.Log.{Log}
use Rattle.turn_pieces.specs.Grows.{Grows, Part, IsChain}
use Rattle.turn_pieces.specs.Writers.{Shown, Tells, QuietBy, Anywhere}

-- steps that need no event are a part of a turn: they leave the actor's part of the reference machine as it is
abbrev pub QuietIsPart : Type 0
QuietIsPart = (most : ℕ) (o : Own) (p q : Shown) → QuietBy Anywhere most p q → Part (Tells o p) (Tells o q)

-- each step of a chain of turns may be made, and each of its events is right
abbrev pub ChainsGrow : Type 0
ChainsGrow = (u : Setup) (a n : ℕ) (l : Log) → IsChain u a n l → Grows u a [] l
