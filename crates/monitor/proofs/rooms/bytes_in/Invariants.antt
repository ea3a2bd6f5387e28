-- The commands that were passed have so many, and those that are left the rest, unless they are more than can be told.
use Rattle.std.proofs.Common.{◌≡◌, ◌≤◌, ◌+◌, ◌^◌, drop}
use Rattle.std.specs.Prelude.{◌-◌, min}
use Rattle.monitor.specs.Monitors.{bytes_in}
use Rattle.monitor.proofs.rooms.bytes_in.Given as goal

abbrev pub invariant-loop-command : goal.invariant-loop-command
invariant-loop-command l = record {
  sum : min (l.bytes + bytes_in (drop l.command-index l.commands)) (2 ^ 64 - 1) ≡ min (bytes_in l.commands) (2 ^ 64 - 1);
  fits : l.bytes ≤ 2 ^ 64 - 1;
}
