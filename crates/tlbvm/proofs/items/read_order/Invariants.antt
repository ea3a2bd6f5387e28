-- The lines that are left give the rest of the order's items.
use Rattle.std.proofs.Common.{◌≡◌, ◌≤◌, ◌+◌, length, vec_len}
use Rattle.text_lines.specs.Lines.{lines_of}
use Rattle.tlbvm.specs.Items.{order_of, items_from}
use Rattle.tlbvm.proofs.items.read_order.Given as goal

abbrev pub invariant-loop-line : goal.invariant-loop-line
invariant-loop-line l = record {
  left : order_of l.fn.text l.fn.harts ≡ items_from l.fn.harts (lines_of l.rest) (l.number + 1) l.items.items l.turns;
  numbered : l.number + length l.rest ≤ length l.fn.text;
  items_within : vec_len l.items ≤ 1000000;
  turns_within : l.turns ≤ 1000000000;
}

abbrev pub decreases-loop-line : goal.decreases-loop-line
decreases-loop-line l = length l.rest
