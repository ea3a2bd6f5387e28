-- The run that all records together give.
use Rattle.std.specs.Prelude.{◌+◌, ◌≡◌, ◌<◌, ℕ, Bool, List, ◌++◌, length, Some}
use Rattle.step_laws.specs.declared.steps.Step.{Step}
use Rattle.step_laws.specs.Map.{Cons, Stop, Console, Hsm, name_of, number_of}
use Rattle.step_laws.specs.Steps.{own_steps, value_at}
use Rattle.step_laws.specs.Histories.{IsHistory}
use Rattle.machine_model.specs.Event.{Event}
use Rattle.machine_model.specs.State.{Setup, memory, mode_of}
use Rattle.machine_model.specs.Run.{state_of}
use Rattle.machine_model.specs.Lawful.{IsRun, IsSettled}
use Rattle.run_laws.specs.Ended.{stop_number, IsFilled as Full, byte_at as byte}
use Rattle.run_laws.proofs.Placed.{Placed, steps}
use Rattle.turn_pieces.specs.Shared.{IsShared, mode_named}
use Rattle.run_laws.proofs.Pieces.{IsActing, Reads, Told}
use Rattle.run_laws.proofs.Begun.{IsLoaded}

-- one run that reads the history h, behind the loader's stores: its state at the end is what the words hold
pub record Composed (u : Setup) (boot h : List Step) (records : ℕ → List Placed) : Type 0 where
  pub run : List Event
  pub is_run : IsRun u run
  pub reads : Reads h records run
  pub told : Told u reads.all
  -- RAM and IPI
  pub memory_is : (x : ℕ) → IsShared (name_of x) → value_at x (h ++ boot) ≡ memory u (state_of u run) x
  pub modes_are : (k : ℕ) → k < u.layout.harts → mode_named (value_at (number_of (Hsm k)) (h ++ boot)) ≡ mode_of (state_of u run) k
  pub reason_is : value_at (number_of Stop) (h ++ boot) ≡ stop_number (state_of u run).reason
  pub output_is : Full (value_at (number_of Cons) (h ++ boot)) (length (state_of u run).output)
  -- each place of the output holds its byte
  pub console_is : (i b : ℕ) → byte (state_of u run).output i ≡ Some b → value_at (number_of (Console i)) (h ++ boot) ≡ b + 256
  -- every stop that is due has come
  pub settled : IsSettled u run

-- records that fit one history and are cut in turns give a run
abbrev pub Composition : Type 0
Composition = (u : Setup) (boot h : List Step) (runs : ℕ → Bool) (records : ℕ → List Placed)
    → IsLoaded u runs boot → IsHistory u.layout runs (h ++ boot)
    → ((a : ℕ) → steps (records a) ≡ own_steps a h) → ((a : ℕ) → IsActing u a (records a))
    → Composed u boot h records
