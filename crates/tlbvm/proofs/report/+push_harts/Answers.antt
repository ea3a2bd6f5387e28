-- The hart's line, and the others.
use Rattle.std.proofs.Common.{◌++◌, ◌≡◌, ◌<◌, ◌+◌, List, ℕ, map, length, drop, ap, sym, ◌∙◌, arith, append-nil}
use Rattle.std.proofs.Math.Arith.{lt_of_le-ne}
use Rattle.rv64_priv.specs.State.{Arch}
use Rattle.ref_machine.specs.Slots.{slot_at}
use Rattle.ref_machine.specs.Shows.{resting}
use Rattle.tlbvm.specs.Report.{hart_line, hart_lines}
use Rattle.tlbvm.proofs.Reported.{appended, lines_at, lines_end}
use Rattle.tlbvm.proofs.report.+push_harts.Goals as goal

pub returns : goal.returns
returns t c =
    let old = c.args.text.now.bytes in
    let h = c.args.hart in
    let ts = c.args.machine.now.slots in
    let rest = hart_lines (h + 1) (drop (h + 1) (map resting ts)) in
    let slots = c.harts.ensures.slots in
    let harts = c.harts.ensures.harts in
    let more = c.if-hart-harts.false in
    let bound = c.requires.hart in
    let lt : h < length ts = lt_of_le-ne (omega (arith, bound, slots)) (λ e. more (e ∙ slots ∙ sym harts)) in
    let line : c.push_hart.new.text.bytes ≡ old ++ hart_line h (slot_at ts h).count (slot_at ts h).arch
    = c.push_hart.ensures.bytes
    ∙ ap (λ n. old ++ hart_line h n c.arch.result.now) c.count.ensures
    ∙ ap (λ (a : Arch). old ++ hart_line h (slot_at ts h).count a) c.arch.ensures in
    record {
      bytes = appended old (hart_line h (slot_at ts h).count (slot_at ts h).arch) rest c.push_hart.new.text.bytes c.push_harts.new.text.bytes line c.push_harts.ensures.bytes
          ∙ ap (λ (x : List ℕ). old ++ x) (sym (lines_at h ts lt));
    }

pub returns-then-hart-harts : goal.returns-then-hart-harts
returns-then-hart-harts t c =
    let ts = c.args.machine.now.slots in
    let slots = c.harts.ensures.slots in
    let harts = c.harts.ensures.harts in
    let all = c.if-hart-harts.true in
    record { bytes = sym (append-nil c.args.text.now.bytes) ∙ ap (λ (x : List ℕ). c.args.text.now.bytes ++ x) (sym (lines_end c.args.hart ts (omega (arith, all, harts, slots)))) }
