-- The line, piece by piece.
use Rattle.std.proofs.Common.{◌++◌, List, ℕ, drop, ◌∙◌, ap}
use Rattle.std.specs.Prelude.{codes, decimal}
use Rattle.tlbvm.specs.Report.{hex, registers}
use Rattle.tlbvm.proofs.Reported.{appended}
use Rattle.tlbvm.proofs.report.push_hart.Goals as goal

pub returns-clause-bytes : goal.returns-clause-bytes
returns-clause-bytes c =
    let old = c.args.text.now.bytes in
    let a = codes "hart " in
    let h = decimal c.args.hart in
    let n = decimal c.args.count in
    let pc = hex 16 c.args.arch.now.pc in
    let x = registers (drop 1 c.args.arch.now.x) in
    let sp = codes " " in
    let t2 = appended old a h c.push_str.new.self.bytes c.push_str-2.new.self.bytes c.push_str.ensures.bytes (c.push_str-2.ensures.bytes ∙ ap (λ (y : List ℕ). c.push_str.new.self.bytes ++ y) c.format.ensures.text) in
    let t3 = appended old (a ++ h) sp c.push_str-2.new.self.bytes c.push_str-3.new.self.bytes t2 c.push_str-3.ensures.bytes in
    let t4 = appended old (a ++ h ++ sp) n c.push_str-3.new.self.bytes c.push_str-4.new.self.bytes t3 (c.push_str-4.ensures.bytes ∙ ap (λ (y : List ℕ). c.push_str-3.new.self.bytes ++ y) c.format-2.ensures.text) in
    let t5 = appended old (a ++ h ++ sp ++ n) sp c.push_str-4.new.self.bytes c.push_str-5.new.self.bytes t4 c.push_str-5.ensures.bytes in
    let t6 = appended old (a ++ h ++ sp ++ n ++ sp) pc c.push_str-5.new.self.bytes c.push_hex.new.text.bytes t5 (c.push_hex.ensures.bytes ∙ ap (λ n. c.push_str-5.new.self.bytes ++ hex 16 n) c.pc_of.ensures) in
    let t7 = appended old (a ++ h ++ sp ++ n ++ sp ++ pc) x c.push_hex.new.text.bytes c.push_registers.new.text.bytes t6 (c.push_registers.ensures.bytes ∙ ap (λ (y : List ℕ). c.push_hex.new.text.bytes ++ registers y) c.registers_of.ensures.value) in
    appended old (a ++ h ++ sp ++ n ++ sp ++ pc ++ x) (codes "\n") c.push_registers.new.text.bytes c.push_str-6.new.self.bytes t7 c.push_str-6.ensures.bytes
