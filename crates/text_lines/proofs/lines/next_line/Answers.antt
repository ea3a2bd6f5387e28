-- The line ends at the first line feed, or with the text.
use Rattle.std.proofs.Common.{◌≡◌, sym, ◌+◌, Some, rules}
use Rattle.std.specs.List.{position}
use Rattle.std.proofs.lemmas.List.{take_rest}
use Rattle.text_lines.specs.Lines.{is_feed}
use Rattle.text_lines.proofs.Firsts.{first_line, only_line}
use Rattle.text_lines.proofs.lines.next_line.Goals as goal

pub returns-in-Some-clause-first : goal.returns-in-Some-clause-first
returns-in-Some-clause-first c =
    let found : position is_feed c.args.text.now ≡ Some c.in-Some.end = sym c.in-Some.ensures in
    let line = first_line c.args.text.now c.in-Some.end found in
    rw (take_rest c.args.text.now (c.in-Some.end + 1), c.without_return.ensures) line

pub returns-in-None-clause-first : goal.returns-in-None-clause-first
returns-in-None-clause-first c = only_line c.args.text.now (search rules) (sym c.in-None.ensures)
