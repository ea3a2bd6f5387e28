-- The word begins at the first byte that is no blank, and ends at the next blank or with the line.
use Rattle.std.proofs.Common.{◌≡◌, sym, ◌∙◌, ap, Some, None, drop, not, arith}
use Rattle.std.specs.List.{position}
use Rattle.std.proofs.lemmas.List.{take_rest}
use Rattle.text_lines.specs.Lines.{is_blank}
use Rattle.text_lines.proofs.Firsts.{first_word, last_word, no_word}
use Rattle.text_lines.proofs.lines.next_word.Goals as goal

pub returns-in_err-start-clause-first : goal.returns-in_err-start-clause-first
returns-in_err-start-clause-first c = grind (arith, no_word)

pub returns-in-Some-clause-first : goal.returns-in-Some-clause-first
returns-in-Some-clause-first c =
    let rest = take_rest c.args.line.now c.in_ok-start.start in
    let begins : position (λ b. not (is_blank b)) c.args.line.now ≡ Some c.in_ok-start.start = sym c.in_ok-start.ensures in
    let ends : position is_blank (drop c.in_ok-start.start c.args.line.now) ≡ Some c.in-Some.end = sym (c.in-Some.ensures ∙ ap (position is_blank) rest) in
    rw (c.split_at.ensures.front, c.split_at.ensures.back, rest) (first_word c.args.line.now c.in_ok-start.start c.in-Some.end begins ends)

pub returns-in-None-clause-first : goal.returns-in-None-clause-first
returns-in-None-clause-first c =
    let rest = take_rest c.args.line.now c.in_ok-start.start in
    let begins : position (λ b. not (is_blank b)) c.args.line.now ≡ Some c.in_ok-start.start = sym c.in_ok-start.ensures in
    let ends : position is_blank (drop c.in_ok-start.start c.args.line.now) ≡ None = sym (c.in-None.ensures ∙ ap (position is_blank) rest) in
    rw rest (last_word c.args.line.now c.in_ok-start.start begins ends)
