use Rattle.std.proofs.Common.{◌≡◌, ◌+◌, ◌++◌, List, [], ◌∷◌, drop, length, ap, ◌∙◌, arith}
use Rattle.machine_model.specs.Sbi.{bytes_from}
use Rattle.monitor_script.specs.declared.scripts.Command.{Command}
use Rattle.monitor_script.specs.declared.scripts.Command.TheVariants.{Dump}
use Rattle.monitor.specs.Monitors.{Monitor, bytes_in, dumps_in, monitor_of, past}
use Rattle.monitor.specs.Steps.{with_bytes}
use Rattle.monitor.specs.declared.monitor.Outcome.TheVariants.{Bytes}
use Rattle.monitor.proofs.Going.{drop_next, there_next}
use Rattle.monitor.proofs.monitor.Monitor.keep_bytes.Goals as goal

pub invariant_of-self : goal.invariant_of-self
invariant_of-self g c =
    let m = c.self.inside in
    let rest = drop m.next m.commands.items in
    let more = drop 1 c.args.self.now.script in
    let is : rest ≡ Dump c.args.at c.args.len ∷ more = ap (λ (x : Monitor). x.script) c.self.view_is ∙ c.requires.next in
    let behind : drop (m.next + 1) m.commands.items ≡ more = drop_next m.next m.commands.items ∙ ap (λ (x : List Command). drop 1 x) is in
    let dumps : dumps_in rest ≡ 1 + dumps_in more = ap dumps_in is in
    let bytes : bytes_in rest ≡ c.args.len + bytes_in more = ap bytes_in is in
    let dumps_behind : dumps_in (drop (m.next + 1) m.commands.items) ≡ dumps_in more = ap dumps_in behind in
    let bytes_behind : bytes_in (drop (m.next + 1) m.commands.items) ≡ bytes_in more = ap bytes_in behind in
    let there = there_next m.next m.commands.items (Dump c.args.at c.args.len) more is in
    let had = c.self.invariant in
    let outcomes_len = c.push_reserved.ensures.len in
    let outcomes_cap = c.push_reserved.ensures.capacity in
    let bytes_len = c.read_bytes.ensures.len in
    let bytes_cap = c.read_bytes.ensures.capacity in
    record {
      within = omega (arith, there, had.within);
      outcomes = omega (arith, dumps, dumps_behind, outcomes_len, outcomes_cap, had.outcomes);
      bytes = omega (arith, bytes, bytes_behind, bytes_len, bytes_cap, had.bytes);
    }

pub returns-clause-kept : goal.returns-clause-kept
returns-clause-kept g c =
    let m = c.self.inside in
    let x = c.read_bytes.ensures.read in
    let bs = bytes_from x.0 c.args.at c.args.len in
    let outcomes : c.push_reserved.new.self.items ≡ m.outcomes.items ++ Bytes c.args.at c.args.len (length m.bytes.items) ∷ []
    = c.push_reserved.ensures.items ∙ ap (λ n. m.outcomes.items ++ Bytes c.args.at c.args.len n ∷ []) (c.len-from.ensures ∙ m.bytes.ok.0) in (
      x.0,
      x.1,
      (λ j. record (monitor_of m) { script = drop_next m.next m.commands.items j; outcomes = outcomes j; bytes = x.2 j }) ∙ ap (λ (z : Monitor). past (with_bytes c.args.at c.args.len bs z)) c.self.view_is,
    )
