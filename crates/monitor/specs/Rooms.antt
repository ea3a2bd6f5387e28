-- Room for what is left of a script.
use Rattle.std.specs.Prelude.{◌+◌, ◌≤◌, drop, vec_len, vec_capacity}
use Rattle.monitor.specs.declared.monitor.Monitor.TheInside.{Inside}
use Rattle.monitor.specs.Monitors.{bytes_in, dumps_in}

pub record HasRoom (m : Inside) : Type 0 where
  pub within : m.next ≤ vec_len m.commands
  pub outcomes : vec_len m.outcomes + dumps_in (drop m.next m.commands.items) ≤ vec_capacity m.outcomes
  pub bytes : vec_len m.bytes + bytes_in (drop m.next m.commands.items) ≤ vec_capacity m.bytes
