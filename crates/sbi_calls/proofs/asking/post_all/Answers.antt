use Rattle.std.proofs.Common.{◌≡◌, ◌≢◌, ◌+◌, ◌*◌, ◌∙◌, ⊎_elim, sym, subst, arith}
use Rattle.std.specs.Prelude.{slice_index}
use Rattle.std.proofs.lemmas.Bool.{cases_eq}
use Rattle.guest_ram.proofs.Moves.{goes_at_most}
use Rattle.sbi_calls.specs.Fences.{IsOfAsks, IsTarget}
use Rattle.sbi_calls.specs.Spans.{pieces_of}
use Rattle.sbi_calls.proofs.Asks.{asks_then}
use Rattle.sbi_calls.proofs.Fenced.{target_back}
use Rattle.sbi_calls.proofs.asking.post_all.Goals as goal

pub post_at-requires-clause-fence : goal.post_at-requires-clause-fence
post_at-requires-clause-fence g c = (c.requires.fence.0, c.loop-hart.invariant.goes_on c.requires.fence.0 c.requires.fence.1)

pub returns-in-Some-clause-goes_on : goal.returns-in-Some-clause-goes_on
returns-in-Some-clause-goes_on g c = λ base f. c.post_at.ensures.goes_on base (c.loop-hart.invariant.goes_on base f)

pub returns-in-Some-clause-goes : goal.returns-in-Some-clause-goes
returns-in-Some-clause-goes g c = let p = g.P.Look.shows c.args.port.now in
    goes_at_most (27 * c.loop-hart.hart + 27) 216 (IsOfAsks p.own.actor) _ _ (omega (arith, c.layout-hart-end.ensures.limits.harts)) (asks_then (27 * c.loop-hart.hart) 27 p _ _ c.loop-hart.invariant.goes c.post_at.ensures.goes)

pub loop-hart-preserved : goal.loop-hart-preserved
loop-hart-preserved g c = let i = c.loop-hart.invariant in let made = c.post_at.ensures in let h = c.loop-hart.hart in let q = g.P.Look.shows c.post_at.new.port in record {
  goes_on = λ base f. made.goes_on base (i.goes_on base f);
  all = λ t l it. ⊎_elim (λ (e : t ≡ h). subst (λ u. slice_index c.post_at.new.fence.posted u ≡ pieces_of c.args.span.now) (sym e) (c.in-None.ensures.here (subst (λ u. IsTarget c.args.harts q u) e it)))
      (λ (ne : t ≢ h). made.others t ne ∙ i.all t (omega (arith, l, ne)) (target_back 27 (IsOfAsks (g.P.Look.shows c.loop-hart.port).own.actor) c.args.harts t _ q made.goes it)) (cases_eq t h);
  acked_is = made.acked ∙ i.acked_is;
  sent_is = made.sent;
  served = λ s k. made.served s (i.served s k);
  acting = made.acting;
  goes = goes_at_most (27 * h + 27) _ (IsOfAsks (g.P.Look.shows c.args.port.now).own.actor) _ _ (omega arith) (asks_then (27 * h) 27 (g.P.Look.shows c.args.port.now) _ _ i.goes made.goes);
}
