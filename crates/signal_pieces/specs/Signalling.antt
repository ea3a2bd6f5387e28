-- What the steps around a turn's work come to in its hart's log of steps and events. Lists are newest first.
use Rattle.std.specs.Prelude.{◌≡◌, ℕ, Bool, true, false, None, ◌∷◌}
use Rattle.rv64_priv.specs.State.{Arch}
use Rattle.rv64_priv.specs.declared.state.Regime.{Regime}
use Rattle.step_laws.specs.Map.{Word, Kick, Pend, Run}
use Rattle.step_laws.specs.declared.steps.Step.{Step}
use Rattle.machine_model.specs.Own.{Own}
use Rattle.machine_model.specs.State.{Setup}
use Rattle.guest_ram.specs.Ports.{Shown}
use Rattle.tlb_entry.specs.declared.books.Book.{Book}
use Rattle.turn_pieces.specs.Draws.{may_draw}
use Rattle.turn_pieces.specs.Grows.{Grows, LooksAtStop}
use Rattle.turn_pieces.specs.Log.{Log, made}
use Rattle.turn_pieces.specs.Marks.{is_awaited}
use Rattle.access_pieces.specs.Serving.{Rests, Settles, Tells}
use Rattle.table_pieces.specs.Flushing.{IsNotDue}

-- the words by which an actor enters, claims, and is called out
abbrev pub IsOfSides : Word → Type 0
IsOfSides Pend = Unit {0}
IsOfSides (Run a) = Unit {0}
IsOfSides (Kick h) = Unit {0}
IsOfSides _ = ⊥

-- no page waits for a store
abbrev pub nobody : ℕ → Bool
nobody page = false

-- between turns nothing is open in the log
pub record IsBetween (o : Own) (p : Shown) (b : Book) (r : Regime) (u : Setup) (a : ℕ) (l : Log) : Type 0 where
  pub tells : Tells o p b r u a l
  pub settled : (page : ℕ) → is_awaited u a page l ≡ false
  pub not_due : IsNotDue o u a l

-- a turn began with a look at STOP, and the log rests behind it
pub record IsBegun (found : ℕ) (o : Own) (p q : Shown) (b : Book) (r : Regime) (u : Setup) (a : ℕ) (l : Log) : Type 0 where
  pub look : Step
  pub steps_are : q.own.steps ≡ look ∷ p.own.steps
  pub looks : LooksAtStop look
  pub rests : Rests nobody o q b r u a (made look ∷ l)
  pub not_due : IsNotDue o u a (made look ∷ l)
  pub draws : found ≡ 0 → may_draw q.own.steps ≡ true

-- a hart that runs and holds no word
pub record IsFree (o : Own) (c : Arch) : Type 0 where
  pub arch_is : o.arch ≡ c
  pub runs : o.runs ≡ true
  pub holds_none : o.held ≡ None

-- the log goes on to one that tells of the port behind, of the hart as it is then, which isn't to stop at its limit
pub record ComesTo (others : ℕ → Bool) (later : Own) (q : Shown) (b' : Book) (r : Regime) (u : Setup) (a : ℕ) (l : Log) : Type 0 where
  pub late : Log
  pub grows : Grows u a l late
  pub settles : Settles others later q b' r u a late
  pub not_due : IsNotDue later u a late
