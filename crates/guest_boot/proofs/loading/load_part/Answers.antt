-- One word more; the words that the part doesn't reach are as those behind it gave them.
use Rattle.std.proofs.Common.{◌≡◌, ⊎_elim, ◌∷◌, sym, ap, subst, ◌∙◌, ◌≢◌, ◌+◌, ◌-◌, ◌*◌, ◌^◌, ◌<◌, ◌≤◌, arith, refl}
use Rattle.std.proofs.lemmas.Bool.{cases_eq, cases_lt}
use Rattle.elf_load.specs.Contents.{contents_word}
use Rattle.image_words.proofs.Reached.{word_before, word_behind}
use Rattle.step_laws.specs.declared.words.Layout.{Layout}
use Rattle.step_laws.specs.Map.{Ram}
use Rattle.step_laws.specs.WordValues.{word_value}
use Rattle.guest_ram.specs.Ports.{GoesBy}
use Rattle.guest_ram.proofs.Moves.{booting_adds, goes_none, goes_step, goes_then, goes_at_most}
use Rattle.guest_boot.specs.Stored.{IsOfImage}
use Rattle.guest_boot.proofs.Storing.{layout_goes}
use Rattle.guest_boot.proofs.Valued.{ram_here, ram_there}
use Rattle.guest_boot.proofs.loading.load_part.Goals as goal

pub loop-index-init : goal.loop-index-init
loop-index-init g c = let words : 512 * c.layout-words.result.pages ≡ 512 * (g.P.Look.shows c.args.port.now).machine.layout.pages = ap (λ (l : Layout). 512 * l.pages) c.layout-words.ensures.layout in record {
  booting = c.requires.booting;
  words = words;
  from = omega arith;
  few = omega arith;
  done = λ k below inside. c.requires.rest.within k (subst (λ n. k < n) words inside) ∙ sym (word_before c.args.file.now c.args.part.now c.args.rest.now (2 ^ 31 + 8 * k) (c.words_of-first.ensures.before k below));
  left = λ k from inside. c.requires.rest.within k (subst (λ n. k < n) words inside);
  behind = λ k over. c.requires.rest.behind k (subst (λ n. n ≤ k) words over);
  goes = goes_at_most 0 _ IsOfImage _ _ (omega arith) (goes_none IsOfImage (g.P.Look.shows c.args.port.now));
}

pub loop-index-preserved : goal.loop-index-preserved
loop-index-preserved g c =
    let before = c.loop-index.invariant in
    let made = c.store.ensures in
    let name = c.ram_word_at.ensures.name in
    let n = c.loop-index.index in
    let goes : GoesBy 1 IsOfImage (g.P.Look.shows c.loop-index.port) (g.P.Look.shows c.store.new.self) = goes_step IsOfImage _ _ _ _ _ _ (Ram n) made.step made.allowed name tt in
    record {
      booting = booting_adds _ _ _ _ _ (Ram n) made.step name (λ _. refl) before.booting;
      words = before.words ∙ ap (λ (l : Layout). 512 * l.pages) (sym (layout_goes 1 IsOfImage _ _ goes));
      from = omega (arith, before.from);
      few = omega (arith, before.from, before.few, c.words_of-first.ensures.within);
      done = λ k below inside. ⊎_elim (λ (is : k ≡ n). subst (λ m. word_value (Ram m) (g.P.Look.shows c.store.new.self).own.steps ≡ contents_word c.args.file.now (c.args.part.now ∷ c.args.rest.now) (2 ^ 31 + 8 * m)) (sym is) (ram_here _ _ _ _ n made.step name ∙ c.word_over-value.ensures))
          (λ (ne : k ≢ n). ram_there _ _ _ _ k n made.step name ne ∙ before.done k (omega (arith, below, ne)) inside) (cases_eq k n);
      left = λ k from inside. let ne : k ≢ n = omega (arith, from) in ram_there _ _ _ _ k n made.step name ne ∙ before.left k (omega (arith, from)) inside;
      behind = λ k over. let ne : k ≢ n = omega (arith, over, c.words_of-first.ensures.within) in ram_there _ _ _ _ k n made.step name ne ∙ before.behind k over;
      goes = goes_at_most (n - c.words_of-first.result.0 + 1) _ IsOfImage _ _ (omega (arith, before.from)) (goes_then (n - c.words_of-first.result.0) 1 IsOfImage _ _ _ before.goes goes);
    }

pub returns-clause-loaded : goal.returns-clause-loaded
returns-clause-loaded g c = let at = c.loop-index.invariant in record {
  within = λ k inside. let less : k < 512 * c.layout-words.result.pages = subst (λ n. k < n) (sym at.words) inside in
      ⊎_elim (λ (below : k < c.loop-index.index). at.done k below less)
      (λ (from : c.loop-index.index ≤ k). at.left k from less ∙ sym (word_behind c.args.file.now c.args.part.now c.args.rest.now (2 ^ 31 + 8 * k) (c.words_of-first.ensures.behind k (omega (arith, from)) less)))
      (cases_lt k c.loop-index.index);
  behind = λ k over. at.behind k (subst (λ n. n ≤ k) (sym at.words) over);
}

pub returns-clause-goes : goal.returns-clause-goes
returns-clause-goes g c = let at = c.loop-index.invariant in let pages : c.layout-words.result.pages ≡ (g.P.Look.shows c.args.port.now).machine.layout.pages = ap (λ (l : Layout). l.pages) c.layout-words.ensures.layout in
    goes_at_most (c.loop-index.index - c.words_of-first.result.0) _ IsOfImage _ _ (omega (arith, at.few, pages)) at.goes
