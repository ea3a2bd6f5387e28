-- The commands that were passed have so many, and those that are left the rest.
use Rattle.std.proofs.Common.{◌≡◌, ◌≤◌, ◌+◌, drop}
use Rattle.monitor.specs.Monitors.{dumps_in}
use Rattle.monitor.proofs.rooms.dumps_in.Given as goal

abbrev pub invariant-loop-command : goal.invariant-loop-command
invariant-loop-command l = record {
  sum : l.dumps + dumps_in (drop l.command-index l.commands) ≡ dumps_in l.commands;
  few : l.dumps ≤ l.command-index;
}
