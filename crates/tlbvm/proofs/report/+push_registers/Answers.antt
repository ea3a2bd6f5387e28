-- The first register, and the others.
use Rattle.std.proofs.Common.{◌++◌, ◌-◌, List, ℕ, ap, sym, ◌∙◌, take, drop, length}
use Rattle.std.specs.Prelude.{codes, slice_index}
use Rattle.tlbvm.specs.Report.{hex, registers}
use Rattle.tlbvm.proofs.Reported.{appended, registers_at}
use Rattle.tlbvm.proofs.report.+push_registers.Goals as goal

pub returns-in-len1-up-clause-bytes : goal.returns-in-len1-up-clause-bytes
returns-in-len1-up-clause-bytes t c =
    let old = c.args.text.now.bytes in
    let values = c.args.values.now in
    let first = hex 16 (slice_index values 0) in
    let rest = registers (take (length values - 1) (drop 1 values)) in
    appended old (codes " " ++ first) rest c.push_hex.new.text.bytes c.push_registers.new.text.bytes
    (appended old (codes " ") first c.push_str.new.self.bytes c.push_hex.new.text.bytes c.push_str.ensures.bytes c.push_hex.ensures.bytes) c.push_registers.ensures.bytes
    ∙ ap (λ (x : List ℕ). old ++ x) (sym (registers_at values c.in-len1-up.len_at_least))
