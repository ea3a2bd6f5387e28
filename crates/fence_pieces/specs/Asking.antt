-- What the posts and polls of a fence come to in its hart's log. Lists are newest first.
use Rattle.std.specs.Prelude.{◌≡◌, ℕ, Bool, List, ◌++◌}
use Rattle.rv64_priv.specs.declared.state.Regime.{Regime}
use Rattle.step_laws.specs.declared.steps.Step.{Step}
use Rattle.machine_model.specs.Own.{Own}
use Rattle.machine_model.specs.State.{Setup}
use Rattle.guest_ram.specs.Ports.{Shown}
use Rattle.tlb_entry.specs.declared.books.Book.{Book}
use Rattle.turn_pieces.specs.Grows.{Grows}
use Rattle.turn_pieces.specs.Log.{Log}
use Rattle.turn_pieces.specs.Writers.{quietly}
use Rattle.access_pieces.specs.Serving.{Rests}
use Rattle.table_pieces.specs.Flushing.{IsNotDue}
use Rattle.fence_pieces.specs.Behind.{IsBehind}

-- the log goes on by steps alone, to one that tells of the port behind and rests, of a hart that isn't to stop at its limit
pub record HasPassed (others : ℕ → Bool) (o : Own) (p q : Shown) (b : Book) (r : Regime) (u : Setup) (a : ℕ) (l : Log) : Type 0 where
  pub added : List Step
  pub steps_are : q.own.steps ≡ added ++ p.own.steps
  pub grows : Grows u a l (quietly added l)
  pub behind : IsBehind a l (quietly added l)
  pub rests : Rests others o q b r u a (quietly added l)
  pub not_due : IsNotDue o u a (quietly added l)
