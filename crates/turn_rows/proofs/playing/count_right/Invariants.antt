-- Each hart is between turns, or has ended.
use Rattle.guest_ram.specs.Shown.{pass_shown}
use Rattle.turn_rows.specs.Between.{IsBetween}
use Rattle.turn_rows.proofs.playing.count_right.Given as goal

abbrev pub invariant-loop-number : goal.invariant-loop-number
invariant-loop-number g l = record {
  first : IsBetween l.first.has_ended l.first.hart (pass_shown l.first.port.pass);
  second : IsBetween l.second.has_ended l.second.hart (pass_shown l.second.port.pass);
}
