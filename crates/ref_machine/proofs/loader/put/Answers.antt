-- One word more; the words that the part doesn't reach are as those behind it leave them.
use Rattle.std.proofs.Common.{◌≡◌, ℕ, ◌⊎◌, inl, inr, ◌∷◌, sym, ◌∙◌, ◌≢◌, ◌+◌, ◌*◌, ◌^◌, ◌<◌, ◌≤◌, length, get_or, set, arith, below_more, get_or-set_same, get_or-set_other}
use Rattle.std.proofs.lemmas.Bool.{cases_lt}
use Rattle.std.proofs.lemmas.List.{length-set}
use Rattle.elf_load.specs.Contents.{contents_word}
use Rattle.image_words.proofs.Reached.{word_before, word_behind}
use Rattle.ref_machine.proofs.loader.put.Goals as goal

pub loop-i-init : goal.loop-i-init
loop-i-init c = record {
  done = λ k below inside. c.requires.rest.1 k inside ∙ sym (word_before c.args.file.now c.args.part.now c.args.rest.now (2 ^ 31 + 8 * k) (c.words_of-first.ensures.before k below));
  left = λ k from inside. c.requires.rest.1 k inside;
}

pub loop-i-preserved : goal.loop-i-preserved
loop-i-preserved c =
    let same_length : length (set c.loop-i.ram c.loop-i.i c.word_over.result) ≡ length c.loop-i.ram = length-set c.loop-i.ram c.loop-i.i c.word_over.result in
    record {
      done = below_more _ _
          (λ k below inside. let other : k ≢ c.loop-i.i = omega arith in get_or-set_other c.loop-i.ram c.loop-i.i k c.word_over.result 0 other ∙ c.loop-i.invariant.done k below (omega arith))
          (λ inside. get_or-set_same c.loop-i.ram c.loop-i.i c.word_over.result 0 (omega arith) ∙ c.word_over.ensures);
      left = λ k from inside.
          let other : k ≢ c.loop-i.i = omega arith in
          get_or-set_other c.loop-i.ram c.loop-i.i k c.word_over.result 0 other ∙ c.loop-i.invariant.left k (omega arith) (omega arith);
    }

pub returns : goal.returns
returns c = (c.loop-i.auto.ram, λ k inside. go k inside (cases_lt k c.loop-i.i))
  where
    go : (k : ℕ) → k < length c.args.ram.now → (k < c.loop-i.i) ⊎ (c.loop-i.i ≤ k) → get_or c.loop-i.ram k 0 ≡ contents_word c.args.file.now (c.args.part.now ∷ c.args.rest.now) (2 ^ 31 + 8 * k)
    go k inside (inl below) = c.loop-i.invariant.done k below (omega arith)
    go k inside (inr from) =
        c.loop-i.invariant.left k from (omega arith)
        ∙ sym (word_behind c.args.file.now c.args.part.now c.args.rest.now (2 ^ 31 + 8 * k) (c.words_of-first.ensures.behind k (omega arith) inside))
