use Rattle.std.proofs.Common.{◌≡◌, ◌≢◌, ◌+◌, ◌*◌, ◌∙◌, ⊎_elim, ap, sym, subst, arith}
use Rattle.std.specs.Prelude.{slice_index}
use Rattle.std.proofs.lemmas.Bool.{cases_eq}
use Rattle.guest_ram.proofs.Moves.{goes_at_most}
use Rattle.sbi_calls.specs.Fences.{IsOfPolls, IsTarget}
use Rattle.sbi_calls.proofs.Asks.{polls_then}
use Rattle.sbi_calls.proofs.Fenced.{target_back}
use Rattle.sbi_calls.proofs.polling.poll_all.Goals as goal

pub poll_at-requires-clause-fence : goal.poll_at-requires-clause-fence
poll_at-requires-clause-fence g c = let f = c.requires.fence in (f.0, f.1, (f.2.0, c.loop-hart.invariant.goes_on f.0 f.2.0 f.2.1))

pub returns-in-Some-clause-goes_on : goal.returns-in-Some-clause-goes_on
returns-in-Some-clause-goes_on g c = λ span base f. c.poll_at.ensures.goes_on span base (c.loop-hart.invariant.goes_on span base f)

pub returns-in-Some-clause-goes : goal.returns-in-Some-clause-goes
returns-in-Some-clause-goes g c = let p = g.P.Look.shows c.args.port.now in
    goes_at_most (8 * c.loop-hart.hart + 8) 64 (IsOfPolls p.own.actor) _ _ (omega (arith, c.layout-hart-end.ensures.limits.harts)) (polls_then (8 * c.loop-hart.hart) 8 p _ _ c.loop-hart.invariant.goes c.poll_at.ensures.goes)

pub loop-hart-preserved : goal.loop-hart-preserved
loop-hart-preserved g c = let i = c.loop-hart.invariant in let made = c.poll_at.ensures in let h = c.loop-hart.hart in let q = g.P.Look.shows c.poll_at.new.port in record {
  goes_on = λ span base f. made.goes_on span base (i.goes_on span base f);
  all = λ t l it. ⊎_elim (λ (e : t ≡ h). subst (λ u. slice_index c.poll_at.new.fence.acked u ≡ slice_index c.args.fence.now.posted u) (sym e)
      (c.in-None.ensures.here (subst (λ u. IsTarget c.args.harts q u) e it) ∙ ap (λ xs. slice_index xs h) i.posted_is))
      (λ (ne : t ≢ h). made.others t ne ∙ i.all t (omega (arith, l, ne)) (target_back 8 (IsOfPolls (g.P.Look.shows c.loop-hart.port).own.actor) c.args.harts t _ q made.goes it)) (cases_eq t h);
  posted_is = made.posted ∙ i.posted_is;
  own = made.own ∙ i.own;
  sent_is = made.sent;
  served = λ s k. made.served s (i.served s k);
  acting = made.acting;
  goes = goes_at_most (8 * h + 8) _ (IsOfPolls (g.P.Look.shows c.args.port.now).own.actor) _ _ (omega arith) (polls_then (8 * h) 8 (g.P.Look.shows c.args.port.now) _ _ i.goes made.goes);
}
