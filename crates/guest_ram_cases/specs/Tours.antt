-- Seats that calls are made at.
use Rattle.std.specs.Prelude.{◌≡◌, ℕ, Bool, true, List, [], map}
use Rattle.step_laws.specs.declared.steps.Record.{Record}
use Rattle.step_laws.specs.Map.{loader}
use Rattle.step_laws.specs.Loader.{has_split}
use Rattle.guest_ram.specs.Ports.{Machine, Shown, IsActing}
use Rattle.guest_ram.specs.Rule.{record_of}

-- an actor that has made no step yet
pub record IsFresh (p : Shown) : Type 0 where
  pub acting : IsActing p
  pub no_step : p.own.steps ≡ []

-- a seat of this machine that has made no step
abbrev pub fresh_seat : Machine → (actor : ℕ) → (runs : Bool) → Shown
fresh_seat m a runs = record { machine = m; origin = 0; own = record_of a runs []; joined = []; splits = [] }

-- the same actor's, of the same machine
pub record IsSameSeat (p q : Shown) : Type 0 where
  pub machine : q.machine ≡ p.machine
  pub actor : q.own.actor ≡ p.own.actor

-- a seat of this actor, of this machine
pub record IsSeatOf (m : Machine) (a : ℕ) (p : Shown) : Type 0 where
  pub machine : p.machine ≡ m
  pub actor : p.own.actor ≡ a

-- the loader of this machine, that has split these seats off, the last first, and joined those in their order
pub record IsSplit (m : Machine) (p : Shown) (off back : List ℕ) : Type 0 where
  pub machine : p.machine ≡ m
  pub actor : p.own.actor ≡ loader
  pub splits : p.splits ≡ off
  pub joined : map (λ (r : Record). r.actor) p.joined ≡ back

-- and has begun to split
pub record IsLeading (m : Machine) (p : Shown) (off : List ℕ) : Type 0 where
  pub split : IsSplit m p off []
  pub began : has_split p.own.steps ≡ true
