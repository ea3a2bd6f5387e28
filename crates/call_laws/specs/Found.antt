-- The reference machine is as a call found the words: memory, harts' states, and how many bytes the console still takes.
use Rattle.std.specs.Prelude.{◌≡◌, ℕ, ◌+◌, ◌<◌, ◌≤◌, Bool, false}
use Rattle.step_laws.specs.Words.{ipi_word, ram_word}
use Rattle.machine_model.specs.Memory.{Memory}
use Rattle.machine_model.specs.Perform.{Surroundings}
use Rattle.machine_model.specs.State.{is_halted}
use Rattle.guest_ram.specs.Ports.{Shown}
use Rattle.hart_calls.specs.declared.asking.Asked.{Asked}
use Rattle.hart_calls.specs.declared.outcomes.SbiEnd.{SbiEnd}
use Rattle.hart_calls.specs.Called.{HasDone, HasTried, HasWritten, HasWrittenByte, all_put, fills, found_full, is_own, needs_section, no_byte, put, refused, started}
use Rattle.hart_calls.specs.States.{mode_found}

-- the words of the first n bytes
abbrev pub IsFoundFrom : (m finds : Memory) → (from n : ℕ) → Type 0
IsFoundFrom m finds from n = (i : ℕ) → i < n → m (ram_word (from + i)) ≡ finds (ram_word (from + i))

module _ (w : Surroundings) (p q : Shown) where
  abbrev pub IsFoundTrying : (target at opaque : ℕ) (end : SbiEnd) → HasTried p q target at opaque end → Type 0
  IsFoundTrying target at opaque end (started other x) = w.modes target ≡ mode_found 1
  IsFoundTrying target at opaque end (refused found other ne x) = w.modes target ≡ mode_found found
  -- the own hart runs
  IsFoundTrying target at opaque end (is_own own same) = is_halted (w.modes target) ≡ false

  abbrev pub IsFoundWriting : (from count : ℕ) (end : SbiEnd) (section : Bool) → HasWritten p q from count end section → Type 0
  IsFoundWriting from count end section (no_byte none same) = Unit {0}
  -- the call is still to be made
  IsFoundWriting from count end section (needs_section some same) = ⊥
  IsFoundWriting from count end section (all_put finds some x) = IsFoundFrom w.memory finds from count × (count ≤ w.room)
  IsFoundWriting from count end section (fills finds mid stands x y) = IsFoundFrom w.memory finds from x.put × (w.room ≡ x.put)

  abbrev pub IsFoundByte : (byte : ℕ) (answer end : SbiEnd) → HasWrittenByte p q byte answer end → Type 0
  IsFoundByte byte answer end (put x) = 1 ≤ w.room
  IsFoundByte byte answer end (found_full place mid stands x y) = w.room ≡ 0

  abbrev pub IsFound : (section : Bool) (asked : Asked) (end : SbiEnd) → HasDone p q section asked end → Type 0
  IsFound section (Asked.Sends mask) end x = w.memory ipi_word ≡ x.1.0
  IsFound section (Asked.Starts target at opaque) end x = IsFoundTrying target at opaque end x
  IsFound section (Asked.TellsState target) end x = w.modes target ≡ mode_found x.0
  IsFound section (Asked.Prints from count) end x = IsFoundWriting from count end section x
  IsFound section (Asked.PrintsByte byte) end x = IsFoundByte byte _ end x
  IsFound section (Asked.PrintsOne byte) end x = IsFoundByte byte _ end x
  IsFound section asked end x = Unit {0}
