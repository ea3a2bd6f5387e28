use Rattle.std.proofs.Common.{◌≡◌, ◌+◌, List, ◌∷◌, drop, ap, ◌∙◌, arith}
use Rattle.monitor_script.specs.declared.scripts.Command.{Command}
use Rattle.monitor.specs.Monitors.{Monitor, bytes_in, dumps_in, monitor_of, past}
use Rattle.monitor.proofs.Going.{drop_next, fewer_bytes, fewer_dumps, there_next}
use Rattle.monitor.proofs.monitor.Monitor.go_past.Goals as goal

pub invariant_of-self : goal.invariant_of-self
invariant_of-self c =
    let m = c.self.inside in
    let rest = drop m.next m.commands.items in
    let same = drop_next m.next m.commands.items in
    let dumps = fewer_dumps rest in
    let bytes = fewer_bytes rest in
    let dumps_are : dumps_in (drop (m.next + 1) m.commands.items) ≡ dumps_in (drop 1 rest) = ap dumps_in same in
    let bytes_are : bytes_in (drop (m.next + 1) m.commands.items) ≡ bytes_in (drop 1 rest) = ap bytes_in same in
    let is : rest ≡ c.args.command ∷ drop 1 c.args.self.now.script = ap (λ (x : Monitor). x.script) c.self.view_is ∙ c.requires in
    let there = there_next m.next m.commands.items c.args.command (drop 1 c.args.self.now.script) is in
    let had = c.self.invariant in
    record {
      within = omega (arith, there, had.within);
      outcomes = omega (arith, dumps, dumps_are, had.outcomes);
      bytes = omega (arith, bytes, bytes_are, had.bytes);
    }

pub returns : goal.returns
returns c = ap (λ (x : List Command). record (monitor_of c.self.inside) { script = x }) (drop_next c.self.inside.next c.self.inside.commands.items) ∙ ap past c.self.view_is
