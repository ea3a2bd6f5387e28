use Rattle.std.proofs.Common.{◌+◌, ◌∙◌, ap, length, arith}
use Rattle.guest_ram.specs.Areas.{IsOfPlaces}
use Rattle.guest_ram.proofs.Moves.{goes_none, goes_then, goes_at_most}
use Rattle.guest_ram_cases.proofs.Posts.{posting_on}
use Rattle.guest_ram_cases.proofs.exchanging.are_done.Goals as goal

pub loop-i-init : goal.loop-i-init
loop-i-init g c = record { posting = c.requires.posting; goes = goes_none IsOfPlaces _ }

pub loop-i-preserved : goal.loop-i-preserved
loop-i-preserved g c = let n = c.args.first + c.args.count in record {
  posting = posting_on 1 IsOfPlaces _ _ c.args.target n n c.poll_done.ensures.goes c.poll_done.ensures.acting (ap length c.poll_done.ensures.posted ∙ c.loop-i.invariant.posting.posted) c.loop-i.invariant.posting;
  goes = goes_then c.loop-i.i 1 IsOfPlaces _ _ _ c.loop-i.invariant.goes c.poll_done.ensures.goes;
}

pub returns-then-is_err-clause-posting : goal.returns-then-is_err-clause-posting
returns-then-is_err-clause-posting g c = let n = c.args.first + c.args.count in posting_on 1 IsOfPlaces _ _ c.args.target n n c.poll_done.ensures.goes c.poll_done.ensures.acting (ap length c.poll_done.ensures.posted ∙ c.loop-i.invariant.posting.posted) c.loop-i.invariant.posting

pub returns-then-is_err-clause-goes : goal.returns-then-is_err-clause-goes
returns-then-is_err-clause-goes g c = goes_at_most (c.loop-i.i + 1) c.args.count IsOfPlaces _ _ (omega arith) (goes_then c.loop-i.i 1 IsOfPlaces _ _ _ c.loop-i.invariant.goes c.poll_done.ensures.goes)
