use Rattle.std.proofs.Common.{rules, arith}
use Rattle.guest_ram.specs.Areas.{IsOfTable}
use Rattle.work_queue.proofs.Acked.{own_few}
use Rattle.sbi_calls.specs.Fences.{none}
use Rattle.sbi_calls.proofs.Fenced.{fence_flushed}
use Rattle.sbi_calls.proofs.fencing.flush_own.Goals as goal

pub returns-clause-goes_on : goal.returns-clause-goes_on
returns-clause-goes_on g c = λ sent base f. fence_flushed _ IsOfTable c.args.harts c.args.span.now sent c.args.fence.now base _ _ c.actor-own.result _ c.flush_pieces-flushed.ensures.goes (search rules)
    (let few = own_few (g.P.Look.shows c.args.port.now) c.requires.beside.acting c.requires.beside.hart in omega (arith, few, c.actor-own.ensures)) c.actor-own.ensures c.flush_pieces-flushed.ensures.most f

pub returns-then-not-names-clause-flushed : goal.returns-then-not-names-clause-flushed
returns-then-not-names-clause-flushed g c = none
