-- The words of a machine at its end, and the run of the reference machine that they are of.
use Rattle.std.specs.Prelude.{◌≡◌, ◌⊎◌, ◌<◌, ◌≤◌, ◌+◌, ℕ, zero, suc, List, [], ◌∷◌, length, Option, Some, None, slice_index}
use Rattle.step_laws.specs.Words.{console_places}
use Rattle.step_laws.specs.Map.{Cons, Stop, Console, Hsm, name_of, number_of}
use Rattle.step_laws.specs.Steps.{words_of}
use Rattle.machine_model.specs.declared.reason.Reason.{Reason}
use Rattle.machine_model.specs.Event.{Event}
use Rattle.machine_model.specs.State.{Setup, memory, mode_of}
use Rattle.machine_model.specs.Run.{state_of}
use Rattle.machine_model.specs.Lawful.{IsRun, IsSettled}
use Rattle.machine_model.specs.ReasonWords.{reason_word}
use Rattle.turn_pieces.specs.Shared.{IsShared, mode_named}

-- STOP holds the number of the first reason, and 0 where there is none
abbrev pub stop_number : Option Reason → ℕ
stop_number None = 0
stop_number (Some reason) = reason_word reason

-- the output is as long as places were drawn, up to the last place
abbrev pub IsFilled : (drawn printed : ℕ) → Type 0
IsFilled c o = ((c ≤ console_places) × (o ≡ c)) ⊎ ((console_places ≤ c) × (o ≡ console_places))

-- the byte at a place of a text
abbrev pub byte_at : List ℕ → ℕ → Option ℕ
byte_at [] i = None
byte_at (x ∷ xs) zero = Some x
byte_at (x ∷ xs) (suc i) = byte_at xs i

-- the words at the end are those of this run
pub record IsEnded (u : Setup) (words : List ℕ) (run : List Event) : Type 0 where
  pub is_run : IsRun u run
  -- every stop that is due has come
  pub settled : IsSettled u run
  -- RAM and IPI
  pub memory_is : (x : ℕ) → x < words_of u.layout → IsShared (name_of x) → slice_index words x ≡ memory u (state_of u run) x
  pub modes_are : (h : ℕ) → h < u.layout.harts → mode_named (slice_index words (number_of (Hsm h))) ≡ mode_of (state_of u run) h
  pub reason_is : slice_index words (number_of Stop) ≡ stop_number (state_of u run).reason
  pub output_is : IsFilled (slice_index words (number_of Cons)) (length (state_of u run).output)
  -- each place of the output holds its byte
  pub console_is : (i b : ℕ) → byte_at (state_of u run).output i ≡ Some b → slice_index words (number_of (Console i)) ≡ b + 256
