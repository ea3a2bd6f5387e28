use Rattle.std.proofs.Common.{◌<◌, ◌+◌, ◌/◌, ◌∙◌, sym, ap, subst, arith}
use Rattle.step_laws.specs.declared.words.Layout.{Layout}
use Rattle.step_laws.specs.Marks.{dirty_words}
use Rattle.guest_ram.specs.Areas.{IsOfRam}
use Rattle.guest_ram.specs.Ports.{Shown}
use Rattle.guest_ram.proofs.Moves.{goes_step, goes_then, goes_none}
use Rattle.guest_ram_cases.proofs.Swept.{takes_first, may_take_word, takes_more}
use Rattle.guest_ram_cases.proofs.sweeping.take_words.Goals as goal

pub loop-index-init : goal.loop-index-init
loop-index-init g c = record {
  words_are = ap (λ (l : Layout). (l.pages + 63) / 64) c.layout.ensures.layout;
  stage = takes_first (g.P.Look.shows c.args.port.now) c.requires.stage;
  goes = goes_none IsOfRam _;
}

pub swap-requires-clause-may : goal.swap-requires-clause-may
swap-requires-clause-may g c = may_take_word (g.P.Look.shows c.loop-index.port) _ c.loop-index.index (subst (λ n. c.loop-index.index < n) c.loop-index.invariant.words_are (omega arith)) c.loop-index.invariant.stage c.dirty_word.ensures.name

pub loop-index-preserved : goal.loop-index-preserved
loop-index-preserved g c = record {
  words_are = c.loop-index.invariant.words_are ∙ ap (λ (x : Shown). dirty_words x.machine.layout) (sym c.swap.ensures.step);
  stage = takes_more (g.P.Look.shows c.loop-index.port) (g.P.Look.shows c.swap.new.self) _ c.loop-index.index _ (subst (λ n. c.loop-index.index < n) c.loop-index.invariant.words_are (omega arith)) c.loop-index.invariant.stage c.swap.ensures.step c.dirty_word.ensures.name;
  goes = goes_then c.loop-index.index 1 IsOfRam _ _ _ c.loop-index.invariant.goes (goes_step IsOfRam _ _ _ _ _ _ _ c.swap.ensures.step c.swap.ensures.allowed c.dirty_word.ensures.name tt);
}
