use Rattle.hart_turn.specs.Paths.{HasMadeOf, HasResumed, end_of}
use Rattle.hart_turn.specs.Fences.{new_fence}
use Rattle.hart_turn.specs.declared.hart.Hart.{Hart}
use Rattle.hart_turn.specs.declared.ends.TurnEnd.TheVariants as ends
use Rattle.need_serving.specs.declared.ends.NeedEnd.TheVariants as needs
use Rattle.code_fetch.specs.declared.fetching.Fetched.TheVariants as comes
use Rattle.hart_turn.specs.Paths as paths
use Rattle.std.proofs.Common.{refl, sym, subst}
use Rattle.hart_turn.specs.Executing.{HasEndedWord}
use Rattle.hart_turn.proofs.Instructed.{ended_done, ended_fence, ended_section, ended_stop, fence_runs}
use Rattle.hart_turn.proofs.Asked.{word_asked}
use Rattle.hart_turn.proofs.instructing.carry_out.Goals as goal

pub returns-in-Done-clause-ended : goal.returns-in-Done-clause-ended
returns-in-Done-clause-ended g c = ended_done c.args.word c.args.hart.now c.execute_word.new.hart c.count_up.new.hart (g.P.Look.shows c.args.port.now) (g.P.Look.shows c.execute_word.new.port) (g.P.Look.shows c.count_up.new.port) c.in-Done.answer c.in-Done.ensures.executed c.count_up.ensures.part

pub returns-in-Stopped-clause-ended : goal.returns-in-Stopped-clause-ended
returns-in-Stopped-clause-ended g c = ended_stop c.args.word c.args.hart.now c.execute_word.new.hart c.count_up-in-Stopped.new.hart (g.P.Look.shows c.args.port.now) (g.P.Look.shows c.execute_word.new.port) (g.P.Look.shows c.count_up-in-Stopped.new.port) c.in-Stopped.ensures.executed c.count_up-in-Stopped.ensures.part

pub returns-in-NeedsSection-clause-ended : goal.returns-in-NeedsSection-clause-ended
returns-in-NeedsSection-clause-ended g c = subst (λ z. HasEndedWord c.args.word c.args.hart.now z (g.P.Look.shows c.args.port.now) (g.P.Look.shows c.execute_word.new.port)) (sym c.want.ensures)
    (ended_section c.args.word c.args.hart.now c.execute_word.new.hart (g.P.Look.shows c.args.port.now) (g.P.Look.shows c.execute_word.new.port) c.in-NeedsSection.ensures.executed)

pub begin_fence-requires : goal.begin_fence-requires
begin_fence-requires g c = record { runs = fence_runs c.args.word c.args.hart.now c.execute_word.new.hart (g.P.Look.shows c.args.port.now) (g.P.Look.shows c.execute_word.new.port) c.in-Fence.harts c.in-Fence.span c.in-Fence.ensures.executed c.requires.runs }

pub resume-requires-clause-with : goal.resume-requires-clause-with
resume-requires-clause-with g c = c.begin_fence.ensures.with (g.P.Look.shows c.execute_word.new.port)
    (word_asked c.args.word c.in-Fence.harts c.in-Fence.span c.args.hart.now c.execute_word.new.hart (g.P.Look.shows c.args.port.now) (g.P.Look.shows c.execute_word.new.port) c.in-Fence.ensures.executed) c.execute_word.ensures.with

pub returns-in-Fence-clause-ended : goal.returns-in-Fence-clause-ended
returns-in-Fence-clause-ended g c = ended_fence c.args.word c.args.hart.now c.execute_word.new.hart (g.P.Look.shows c.args.port.now) (g.P.Look.shows c.execute_word.new.port) c.in-Fence.harts c.in-Fence.span c.in-Fence.ensures.executed
    c.begin_fence.new.hart c.resume.new.hart (g.P.Look.shows c.resume.new.port) (c.begin_fence.ensures.part (g.P.Look.shows c.execute_word.new.port)) c.resume.ensures.part

pub returns-in-Done-clause-path : goal.returns-in-Done-clause-path
returns-in-Done-clause-path g c = subst (λ e. HasMadeOf c.args.hart.now c.count_up.new.hart (g.P.Look.shows c.args.port.now) (g.P.Look.shows c.count_up.new.port) (comes.Word c.args.word) e) (sym c.end_of.ensures.end)
    (paths.executed c.args.word (needs.Done c.in-Done.answer) (end_of c.args.word c.in-Done.answer) c.execute_word.new.hart (g.P.Look.shows c.execute_word.new.port) c.in-Done.ensures.executed c.execute_word.ensures.goes c.execute_word.ensures.with (paths.done c.in-Done.answer c.count_up.ensures.counted c.count_up.ensures.goes))

pub returns-in-Stopped-clause-path : goal.returns-in-Stopped-clause-path
returns-in-Stopped-clause-path g c = paths.executed c.args.word needs.Stopped ends.Retired c.execute_word.new.hart (g.P.Look.shows c.execute_word.new.port) c.in-Stopped.ensures.executed c.execute_word.ensures.goes c.execute_word.ensures.with (paths.stopped c.count_up-in-Stopped.ensures.counted c.count_up-in-Stopped.ensures.goes)

pub returns-in-Fence-clause-path : goal.returns-in-Fence-clause-path
returns-in-Fence-clause-path g c = paths.executed c.args.word (needs.Fence c.in-Fence.harts c.in-Fence.span) c.resume.result c.execute_word.new.hart (g.P.Look.shows c.execute_word.new.port) c.in-Fence.ensures.executed c.execute_word.ensures.goes c.execute_word.ensures.with (paths.asked c.in-Fence.harts c.in-Fence.span c.resume.result
    (subst (λ (z : Hart). HasResumed c.in-Fence.harts c.in-Fence.span new_fence z c.resume.new.hart (g.P.Look.shows c.execute_word.new.port) (g.P.Look.shows c.resume.new.port) c.resume.result) c.begin_fence.ensures.begun c.resume.ensures.path))

pub returns-in-Lost-clause-path : goal.returns-in-Lost-clause-path
returns-in-Lost-clause-path g c = paths.executed c.args.word (needs.Lost c.in-Lost.word c.in-Lost.seen c.in-Lost.found) _ c.execute_word.new.hart (g.P.Look.shows c.execute_word.new.port) c.in-Lost.ensures.executed c.execute_word.ensures.goes c.execute_word.ensures.with (paths.lost c.in-Lost.word c.in-Lost.seen c.in-Lost.found refl refl)

pub returns-in-NeedsSection-clause-path : goal.returns-in-NeedsSection-clause-path
returns-in-NeedsSection-clause-path g c = paths.executed c.args.word needs.NeedsSection _ c.execute_word.new.hart (g.P.Look.shows c.execute_word.new.port) c.in-NeedsSection.ensures.executed c.execute_word.ensures.goes c.execute_word.ensures.with (paths.section c.want.ensures refl)

pub returns-in-Busy-clause-path : goal.returns-in-Busy-clause-path
returns-in-Busy-clause-path g c = paths.executed c.args.word (needs.Busy c.in-Busy.busy) _ c.execute_word.new.hart (g.P.Look.shows c.execute_word.new.port) c.in-Busy.ensures.executed c.execute_word.ensures.goes c.execute_word.ensures.with (paths.locked c.in-Busy.busy refl refl)
