use Rattle.std.proofs.Common.{◌+◌, refl, arith}
use Rattle.guest_ram.specs.Areas.{IsOfPlaces}
use Rattle.guest_ram.proofs.Moves.{goes_at_most}
use Rattle.sbi_calls.specs.Fences.{IsOfPolls}
use Rattle.sbi_calls.proofs.Asked.{at_goes, at_answered}
use Rattle.sbi_calls.proofs.Asks.{free_polls, polls_then, taken_polls}
use Rattle.sbi_calls.proofs.polling.poll_pieces.Goals as goal

pub returns-in-Err-clause-at : goal.returns-in-Err-clause-at
returns-in-Err-clause-at g c = λ span base i. at_goes 1 IsOfPlaces _ _ span _ c.args.target c.args.posted c.loop-number.number base c.poll_done.ensures.goes (c.loop-number.invariant.at span base i)

pub returns-in-Err-clause-goes : goal.returns-in-Err-clause-goes
returns-in-Err-clause-goes g c = let p = g.P.Look.shows c.args.port.now in
    goes_at_most (c.loop-number.number + 1) 8 (IsOfPolls p.own.actor) _ _ (omega (arith, c.requires.posted)) (polls_then c.loop-number.number 1 p _ _ c.loop-number.invariant.goes (taken_polls _ _ _ _ _ c.in-Err.ensures.refused))

pub loop-number-preserved : goal.loop-number-preserved
loop-number-preserved g c = let i = c.loop-number.invariant in record {
  at = λ span base a. at_answered span _ c.args.target c.args.posted c.loop-number.number base _ _ _ c.in-Ok.ensures.done refl (omega arith) (i.at span base a);
  low = omega (arith, i.low);
  sent_is = c.poll_done.ensures.sent c.args.sent.now i.sent_is;
  served = λ s k. c.poll_done.ensures.served s (i.served s k);
  acting = c.poll_done.ensures.acting;
  goes = polls_then c.loop-number.number 1 (g.P.Look.shows c.args.port.now) _ _ i.goes (free_polls _ _ _ _ c.in-Ok.ensures.done);
}
