-- The hart is between turns, or has ended.
use Rattle.guest_ram.specs.Shown.{pass_shown}
use Rattle.turn_rows.specs.Between.{IsBetween}
use Rattle.turn_rows.proofs.sides.Side.do_row.Given as goal

abbrev pub invariant-loop : goal.invariant-loop
invariant-loop g l = record {
  between : IsBetween l.self.has_ended l.self.hart (pass_shown l.self.port.pass);
}
