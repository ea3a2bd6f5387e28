-- The hart is between turns, or has ended.
use Rattle.guest_ram.specs.Shown.{pass_shown}
use Rattle.turn_rows.specs.Between.{IsBetween}
use Rattle.turn_rows.proofs.races.count_right.Given as goal

abbrev pub invariant-loop-number : goal.invariant-loop-number
invariant-loop-number g l = record {
  between : IsBetween l.side.has_ended l.side.hart (pass_shown l.side.port.pass);
}
