use Rattle.std.proofs.Common.{◌≡◌, ℕ, ◌++◌, ap, subst, sym, ◌∙◌, arith}
use Rattle.std.specs.Prelude.{string_bytes}
use Rattle.rv64_decode.specs.Encoding.{Decodes}
use Rattle.rv_asm.specs.Listing.{word_line}
use Rattle.rv_asm.specs.Lists.{Lists}
use Rattle.rv_asm.proofs.Listed.{lists_word, lists_rest, lists_nothing}
use Rattle.rv_asm.proofs.listing.push_lines.Goals as goal

pub loop-left-preserved : goal.loop-left-preserved
loop-left-preserved c = record {
  in_file = omega arith;
  low = omega arith;
  high = omega arith;
  leads = λ new behind. c.loop-left.invariant.leads new
      (lists_word c.args.file.now c.loop-left.at c.loop-left.left c.loop-left.place c.decoded.result (string_bytes c.loop-left.text) (string_bytes c.push_line.new.text) new
      (subst (λ (w : ℕ). Decodes w c.decoded.result) c.word_at-word.ensures c.decoded.ensures)
      c.loop-left-test.true
      (c.in_ok-push_line.ensures ∙ ap (λ w. string_bytes c.loop-left.text ++ word_line c.loop-left.place w c.decoded.result) c.word_at-word.ensures)
      behind);
}

pub returns-in_ok-push_rest : goal.returns-in_ok-push_rest
returns-in_ok-push_rest c = c.loop-left.invariant.leads (string_bytes c.push_rest.new.text)
    (lists_rest c.args.file.now c.loop-left.at c.loop-left.left c.loop-left.place (string_bytes c.loop-left.text) (string_bytes c.push_rest.new.text)
    c.if-left-gt0.true c.loop-left-test.false c.in_ok-push_rest.ensures)

pub returns-else-left-gt0 : goal.returns-else-left-gt0
returns-else-left-gt0 c = c.loop-left.invariant.leads (string_bytes c.loop-left.text)
    (let none : c.loop-left.left ≡ 0 = omega arith in
    subst (λ (n : ℕ). Lists c.args.file.now c.loop-left.at n c.loop-left.place (string_bytes c.loop-left.text) (string_bytes c.loop-left.text)) (sym none)
    (lists_nothing c.args.file.now c.loop-left.at c.loop-left.place (string_bytes c.loop-left.text)))
