use Rattle.std.proofs.Common.{sym}
use Rattle.text_lines.specs.Lines.{is_blank}
use Rattle.asm_text.proofs.Places.{place_found, place_missing, place_within}
use Rattle.asm_text.proofs.lines.blank_place.Goals as goal

pub returns-in-Some-clause-place : goal.returns-in-Some-clause-place
returns-in-Some-clause-place c = place_found is_blank c.args.text.now c.in-Some.place (sym c.in-Some.ensures)

pub returns-in-None-clause-place : goal.returns-in-None-clause-place
returns-in-None-clause-place c = place_missing is_blank c.args.text.now (sym c.in-None.ensures)

pub returns-in-Some-clause-within : goal.returns-in-Some-clause-within
returns-in-Some-clause-within c = place_within is_blank c.args.text.now c.in-Some.place (sym c.in-Some.ensures)
