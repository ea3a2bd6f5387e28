use Rattle.std.proofs.Common.{◌+◌, arith, subst, sym}
use Rattle.rv64_exec.specs.declared.needs.Answer.{Answer}
use Rattle.rv64_exec.specs.declared.needs.Need.{Need}
use Rattle.need_serving.specs.declared.ends.NeedEnd.TheVariants as ends
use Rattle.flush.specs.Flushed.{full_steps}
use Rattle.guest_ram.proofs.Moves.{goes_at_most, goes_none}
use Rattle.need_serving.specs.Serving.{IsOfNeeds, IsServed}
use Rattle.need_serving.proofs.Answered.{flush_served, nothing_served, pending_served, trap_served}
use Rattle.need_serving.proofs.Remaining.{access_goes, call_goes, flush_goes, pending_goes}
use Rattle.need_serving.proofs.serving.serve_need.Goals as goal

pub returns-in-Nothing-clause-served : goal.returns-in-Nothing-clause-served
returns-in-Nothing-clause-served g c = subst (λ (need : Need). IsServed (g.P.Look.shows c.args.port.now) (g.P.Look.shows c.args.port.now) c.args.book.now c.args.book.now c.args.arch.now c.args.section need (ends.Done Answer.Nothing)) (sym c.in-Nothing.is) (nothing_served (g.P.Look.shows c.args.port.now) c.args.book.now c.args.arch.now c.args.section c.requires.access c.requires.fills c.requires.runner)

pub returns-in-Trap-clause-served : goal.returns-in-Trap-clause-served
returns-in-Trap-clause-served g c = subst (λ (need : Need). IsServed (g.P.Look.shows c.args.port.now) (g.P.Look.shows c.args.port.now) c.args.book.now c.args.book.now c.args.arch.now c.args.section need (ends.Done (Answer.Fault c.in-Trap.cause c.in-Trap.tval))) (sym c.in-Trap.is) (trap_served (g.P.Look.shows c.args.port.now) c.args.book.now c.args.arch.now c.args.section c.requires.access c.requires.fills c.requires.runner c.in-Trap.cause c.in-Trap.tval)

pub returns-in-Ipi-clause-served : goal.returns-in-Ipi-clause-served
returns-in-Ipi-clause-served g c = subst (λ (need : Need). IsServed (g.P.Look.shows c.args.port.now) (g.P.Look.shows c.use_pending.new.port) c.args.book.now c.args.book.now c.args.arch.now c.args.section need (ends.Done (Answer.Value c.use_pending.result))) (sym c.in-Ipi.is) (pending_served (g.P.Look.shows c.args.port.now) c.args.book.now c.args.arch.now c.args.section c.requires.access c.requires.fills c.requires.runner (g.P.Look.shows c.use_pending.new.port) c.in-Ipi.op c.use_pending.result c.use_pending.ensures.used c.use_pending.ensures.goes c.use_pending.ensures.acting)

pub returns-in-Flush-clause-served : goal.returns-in-Flush-clause-served
returns-in-Flush-clause-served g c = subst (λ (need : Need). IsServed (g.P.Look.shows c.args.port.now) (g.P.Look.shows c.flush_own.new.port) c.args.book.now c.flush_own.new.book c.args.arch.now c.args.section need c.flush_own.result) (sym c.in-Flush.is) (flush_served (g.P.Look.shows c.args.port.now) c.args.book.now c.args.arch.now c.args.section c.requires.access c.requires.fills c.requires.runner (g.P.Look.shows c.flush_own.new.port) c.flush_own.new.book (full_steps c.args.book.now.size + 8) c.in-Flush.what c.flush_own.result c.flush_own.ensures.flushed c.flush_own.ensures.goes c.flush_own.ensures.beside)

pub returns-in-Sbi-clause-served : goal.returns-in-Sbi-clause-served
returns-in-Sbi-clause-served g c = subst (λ (need : Need). IsServed (g.P.Look.shows c.args.port.now) (g.P.Look.shows c.serve_call.new.port) c.args.book.now c.args.book.now c.args.arch.now c.args.section need c.serve_call.result) (sym c.in-Sbi.is) c.serve_call.ensures.served

pub returns-in-Nothing-clause-goes : goal.returns-in-Nothing-clause-goes
returns-in-Nothing-clause-goes g c = goes_at_most 0 (full_steps c.args.book.now.size + 769) IsOfNeeds _ _ (omega arith) (goes_none IsOfNeeds (g.P.Look.shows c.args.port.now))

pub returns-in-Trap-clause-goes : goal.returns-in-Trap-clause-goes
returns-in-Trap-clause-goes g c = goes_at_most 0 (full_steps c.args.book.now.size + 769) IsOfNeeds _ _ (omega arith) (goes_none IsOfNeeds (g.P.Look.shows c.args.port.now))

pub returns-in-Ipi-clause-goes : goal.returns-in-Ipi-clause-goes
returns-in-Ipi-clause-goes g c = pending_goes (full_steps c.args.book.now.size + 769) (g.P.Look.shows c.args.port.now) (g.P.Look.shows c.use_pending.new.port) c.in-Ipi.op c.use_pending.result (omega arith) c.use_pending.ensures.used

pub returns-in-Flush-clause-goes : goal.returns-in-Flush-clause-goes
returns-in-Flush-clause-goes g c = flush_goes (full_steps c.args.book.now.size + 8) (full_steps c.args.book.now.size + 769) (g.P.Look.shows c.args.port.now) (g.P.Look.shows c.flush_own.new.port) (omega arith) c.flush_own.ensures.goes

pub returns-in-Sbi-clause-goes : goal.returns-in-Sbi-clause-goes
returns-in-Sbi-clause-goes g c = call_goes (full_steps c.args.book.now.size + 769) (g.P.Look.shows c.args.port.now) (g.P.Look.shows c.serve_call.new.port) (omega arith) c.serve_call.ensures.goes

pub returns-in-Load-clause-goes : goal.returns-in-Load-clause-goes
returns-in-Load-clause-goes g c = access_goes (full_steps c.args.book.now.size + 769) (g.P.Look.shows c.args.port.now) (g.P.Look.shows c.serve_access.new.port) (omega arith) c.serve_access.ensures.goes
