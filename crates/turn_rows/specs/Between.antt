-- A hart that may make its next turn.
use Rattle.std.specs.Prelude.{◌≡◌, Bool, false}
use Rattle.guest_ram.specs.Ports.{Shown}
use Rattle.hart_turn.specs.declared.hart.Hart.{Hart}
use Rattle.hart_turn.specs.Harts.{IsSettled}

-- it is between turns, or has ended with its machine
abbrev pub IsBetween : (has_ended : Bool) → Hart → Shown → Type 0
IsBetween ended h p = ended ≡ false → IsSettled h p
