use Rattle.std.proofs.Common.{◌+◌, false, refl, sym, subst}
use Rattle.rv64_priv.specs.State.{Arch}
use Rattle.flush.specs.Flushed.{full_steps}
use Rattle.need_serving.specs.declared.ends.NeedEnd.TheVariants as ends
use Rattle.hart_turn.specs.Harts.{GoesWith}
use Rattle.hart_turn.specs.Executing.{ExecutesOn}
use Rattle.hart_turn.proofs.Executed.{busy_works, done_works, fence_works, lost_works, section_works, stop_works, with_done, with_still, with_stop}
use Rattle.hart_turn.proofs.executing.execute.Goals as goal

pub returns-in-Done-clause-with : goal.returns-in-Done-clause-with
returns-in-Done-clause-with g c = subst (λ (z : Arch). GoesWith (record c.args.hart.now { arch = z; book = c.serve_need.new.book }) (g.P.Look.shows c.serve_need.new.port)) (sym c.finish.ensures) (with_done c.args.hart.now c.args.instr.now c.plan_of-need.result c.is_made-section.result c.serve_need.new.book (g.P.Look.shows c.args.port.now) (g.P.Look.shows c.serve_need.new.port) c.requires.with c.plan_of-need.ensures.need c.requires.free c.in-Done.answer c.in-Done.ensures.served (full_steps c.args.hart.now.book.size + 769) c.serve_need.ensures.goes c.requires.below c.requires.runs)

pub returns-in-Done-clause-part : goal.returns-in-Done-clause-part
returns-in-Done-clause-part g c = subst (λ (z : Arch). ExecutesOn (ends.Done c.in-Done.answer) c.args.instr.now c.args.hart.now (record c.args.hart.now { arch = z; book = c.serve_need.new.book }) (g.P.Look.shows c.args.port.now) (g.P.Look.shows c.serve_need.new.port)) (sym c.finish.ensures) (done_works c.args.hart.now c.args.instr.now c.plan_of-need.result c.is_made-section.result c.serve_need.new.book (g.P.Look.shows c.args.port.now) (g.P.Look.shows c.serve_need.new.port) c.requires.with c.plan_of-need.ensures.need c.requires.free c.plan_of-need.ensures.form c.plan_of-need.ensures.register c.requires.touch c.is_made-section.ensures c.requires.alone c.requires.draws c.requires.runs c.in-Done.answer c.in-Done.ensures.served)

pub returns-in-Stopped-clause-with : goal.returns-in-Stopped-clause-with
returns-in-Stopped-clause-with g c = subst (λ (z : Arch). GoesWith (record c.args.hart.now { arch = z; runs = false; book = c.serve_need.new.book }) (g.P.Look.shows c.serve_need.new.port)) (sym c.finish-in-Stopped.ensures) (with_stop c.args.hart.now c.args.instr.now c.plan_of-need.result c.is_made-section.result c.serve_need.new.book (g.P.Look.shows c.args.port.now) (g.P.Look.shows c.serve_need.new.port) c.requires.with c.plan_of-need.ensures.need c.requires.free c.in-Stopped.ensures.served (full_steps c.args.hart.now.book.size + 769) c.serve_need.ensures.goes c.requires.below)

pub returns-in-Stopped-clause-part : goal.returns-in-Stopped-clause-part
returns-in-Stopped-clause-part g c = subst (λ (z : Arch). ExecutesOn ends.Stopped c.args.instr.now c.args.hart.now (record c.args.hart.now { arch = z; runs = false; book = c.serve_need.new.book }) (g.P.Look.shows c.args.port.now) (g.P.Look.shows c.serve_need.new.port)) (sym c.finish-in-Stopped.ensures) (stop_works c.args.hart.now c.args.instr.now c.plan_of-need.result c.is_made-section.result c.serve_need.new.book (g.P.Look.shows c.args.port.now) (g.P.Look.shows c.serve_need.new.port) c.requires.with c.plan_of-need.ensures.need c.requires.free c.plan_of-need.ensures.form c.plan_of-need.ensures.register c.requires.touch c.is_made-section.ensures c.requires.alone c.requires.draws c.requires.runs c.in-Stopped.ensures.served)

pub returns-in-Fence-clause-with : goal.returns-in-Fence-clause-with
returns-in-Fence-clause-with g c = with_still c.args.hart.now c.args.instr.now c.plan_of-need.result c.is_made-section.result c.serve_need.new.book (g.P.Look.shows c.args.port.now) (g.P.Look.shows c.serve_need.new.port) c.requires.with c.plan_of-need.ensures.need c.requires.free (ends.Fence c.in-Fence.harts c.in-Fence.span) c.in-Fence.ensures.served (full_steps c.args.hart.now.book.size + 769) c.serve_need.ensures.goes c.requires.below refl c.requires.runs

pub returns-in-Fence-clause-part : goal.returns-in-Fence-clause-part
returns-in-Fence-clause-part g c = fence_works c.args.hart.now c.args.instr.now c.plan_of-need.result c.is_made-section.result c.serve_need.new.book (g.P.Look.shows c.args.port.now) (g.P.Look.shows c.serve_need.new.port) c.requires.with c.plan_of-need.ensures.need c.requires.free c.in-Fence.harts c.in-Fence.span c.in-Fence.ensures.served

pub returns-in-Lost-clause-with : goal.returns-in-Lost-clause-with
returns-in-Lost-clause-with g c = with_still c.args.hart.now c.args.instr.now c.plan_of-need.result c.is_made-section.result c.serve_need.new.book (g.P.Look.shows c.args.port.now) (g.P.Look.shows c.serve_need.new.port) c.requires.with c.plan_of-need.ensures.need c.requires.free (ends.Lost c.in-Lost.word c.in-Lost.seen c.in-Lost.found) c.in-Lost.ensures.served (full_steps c.args.hart.now.book.size + 769) c.serve_need.ensures.goes c.requires.below refl c.requires.runs

pub returns-in-Lost-clause-part : goal.returns-in-Lost-clause-part
returns-in-Lost-clause-part g c = lost_works c.args.hart.now c.args.instr.now c.plan_of-need.result c.is_made-section.result c.serve_need.new.book (g.P.Look.shows c.args.port.now) (g.P.Look.shows c.serve_need.new.port) c.requires.with c.plan_of-need.ensures.need c.requires.free c.plan_of-need.ensures.form c.plan_of-need.ensures.register c.requires.touch c.is_made-section.ensures c.requires.alone c.requires.draws c.requires.runs c.in-Lost.word c.in-Lost.seen c.in-Lost.found c.in-Lost.ensures.served

pub returns-in-NeedsSection-clause-with : goal.returns-in-NeedsSection-clause-with
returns-in-NeedsSection-clause-with g c = with_still c.args.hart.now c.args.instr.now c.plan_of-need.result c.is_made-section.result c.serve_need.new.book (g.P.Look.shows c.args.port.now) (g.P.Look.shows c.serve_need.new.port) c.requires.with c.plan_of-need.ensures.need c.requires.free (ends.NeedsSection) c.in-NeedsSection.ensures.served (full_steps c.args.hart.now.book.size + 769) c.serve_need.ensures.goes c.requires.below refl c.requires.runs

pub returns-in-NeedsSection-clause-part : goal.returns-in-NeedsSection-clause-part
returns-in-NeedsSection-clause-part g c = section_works c.args.hart.now c.args.instr.now c.plan_of-need.result c.is_made-section.result c.serve_need.new.book (g.P.Look.shows c.args.port.now) (g.P.Look.shows c.serve_need.new.port) c.requires.with c.plan_of-need.ensures.need c.requires.free c.plan_of-need.ensures.form c.plan_of-need.ensures.register c.requires.touch c.is_made-section.ensures c.requires.alone c.requires.draws c.requires.runs c.in-NeedsSection.ensures.served

pub returns-in-Busy-clause-with : goal.returns-in-Busy-clause-with
returns-in-Busy-clause-with g c = with_still c.args.hart.now c.args.instr.now c.plan_of-need.result c.is_made-section.result c.serve_need.new.book (g.P.Look.shows c.args.port.now) (g.P.Look.shows c.serve_need.new.port) c.requires.with c.plan_of-need.ensures.need c.requires.free (ends.Busy c.in-Busy.busy) c.in-Busy.ensures.served (full_steps c.args.hart.now.book.size + 769) c.serve_need.ensures.goes c.requires.below refl c.requires.runs

pub returns-in-Busy-clause-part : goal.returns-in-Busy-clause-part
returns-in-Busy-clause-part g c = busy_works c.args.hart.now c.args.instr.now c.plan_of-need.result c.is_made-section.result c.serve_need.new.book (g.P.Look.shows c.args.port.now) (g.P.Look.shows c.serve_need.new.port) c.requires.with c.plan_of-need.ensures.need c.requires.free c.plan_of-need.ensures.form c.plan_of-need.ensures.register c.requires.touch c.is_made-section.ensures c.requires.alone c.requires.draws c.requires.runs c.in-Busy.busy c.in-Busy.ensures.served
