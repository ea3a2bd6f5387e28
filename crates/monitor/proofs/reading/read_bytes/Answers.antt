use Rattle.std.proofs.Common.{◌++◌, ◌∷◌, ◌∙◌, [], ap, refl, sym, subst, arith}
use Rattle.std.proofs.lemmas.List.{append-nil}
use Rattle.machine_model.specs.Memory.{Memory}
use Rattle.guest_ram.specs.Ports.{GoesBy}
use Rattle.guest_ram.proofs.Moves.{goes_none, goes_then}
use Rattle.hart_calls.specs.Printing.{MayPrint, begins_word}
use Rattle.monitor.specs.Reads.{most_loads, one_if}
use Rattle.monitor.specs.Steps.{IsRam}
use Rattle.monitor.proofs.Words.{loads_more, read_more}
use Rattle.monitor.proofs.reading.read_bytes.Goals as goal

pub loop-index-init : goal.loop-index-init
loop-index-init g c = record {
  read = (let none : Memory = λ n. 0 in (none, refl, λ some. absurd (some refl), sym (append-nil c.args.bytes.now.items)));
  many = omega arith;
  room = refl;
  may = c.requires.may;
  goes = goes_none IsRam (g.P.Look.shows c.args.port.now);
}

pub loop-index-preserved : goal.loop-index-preserved
loop-index-preserved g c =
    let i = c.loop-index.invariant in
    let n = c.loop-index.index in
    let from = c.args.from in
    let p = g.P.Look.shows c.args.port.now in
    let mid = g.P.Look.shows c.loop-index.port in
    let q = g.P.Look.shows c.word_at-word.new.port in
    let x = i.read in
    let y = read_more x.0 from n c.loop-index.word c.word_at-word.result p mid q c.requires.may.above x.1 x.2 c.word_at-word.ensures.kept c.args.bytes.now.items c.loop-index.bytes.items x.3 c.word_at-word.ensures.loaded in
    let len = c.push_reserved.ensures.len in
    record {
      read = (y.0, y.1, y.2, c.push_reserved.ensures.items ∙ ap (λ b. c.loop-index.bytes.items ++ b ∷ []) c.byte_of.ensures ∙ y.3);
      many = omega (arith, len, i.many);
      room = c.push_reserved.ensures.capacity ∙ i.room;
      may = subst (λ k. MayPrint from k q) c.from.ensures c.word_at-word.ensures.may;
      goes = subst (λ k. GoesBy k IsRam p q) (loads_more from n) (goes_then (most_loads from n) (one_if (begins_word from n)) IsRam p mid q i.goes c.word_at-word.ensures.goes);
    }
