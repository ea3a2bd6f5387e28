use Rattle.std.proofs.Common.{◌≤◌, ◌+◌, ◌^◌, length}
use Rattle.std.specs.Prelude.{string_bytes}
use Rattle.rv_asm.proofs.Listed.{LeadsTo}
use Rattle.rv_asm.proofs.listing.push_lines.Given as goal

abbrev pub invariant-loop-left : goal.invariant-loop-left
invariant-loop-left l = record {
  in_file : l.at + l.left ≤ length l.file;
  low : 2 ^ 31 ≤ l.place;
  high : l.place + l.left ≤ 2 ^ 32;
  leads : LeadsTo l.file l.fn.at l.fn.len l.fn.place (string_bytes l.initial.text) l.at l.left l.place (string_bytes l.text);
}

abbrev pub decreases-loop-left : goal.decreases-loop-left
decreases-loop-left l = l.left
