-- The lines that are left give the rest of the script's commands.
use Rattle.std.proofs.Common.{◌≡◌, ◌≤◌, ◌+◌, length, vec_len, true}
use Rattle.std.specs.List.{list_all}
use Rattle.text_lines.specs.Lines.{lines_of}
use Rattle.monitor_script.specs.Scripts.{script_of, commands_from, is_possible}
use Rattle.monitor_script.proofs.scripts.read_script.Given as goal

abbrev pub invariant-loop-line : goal.invariant-loop-line
invariant-loop-line l = record {
  left : script_of l.fn.text l.fn.pages ≡ commands_from l.fn.pages (lines_of l.rest) (l.number + 1) l.commands.items;
  numbered : l.number + length l.rest ≤ length l.fn.text;
  few : vec_len l.commands ≤ 1000;
  possible : list_all (is_possible l.fn.pages) l.commands.items ≡ true;
}

abbrev pub decreases-loop-line : goal.decreases-loop-line
decreases-loop-line l = length l.rest
