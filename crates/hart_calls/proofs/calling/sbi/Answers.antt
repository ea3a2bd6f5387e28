use Rattle.std.proofs.Common.{subst}
use Rattle.step_laws.specs.declared.words.Layout.{Layout}
use Rattle.hart_calls.specs.Asked.{IsSound}
use Rattle.hart_calls.proofs.Framed.{acting, done_fence, held, sound_can, sound_guest, stands_as}
use Rattle.hart_calls.proofs.Going.{done_goes}
use Rattle.hart_calls.proofs.Stances.{done_stance, runner_stance}
use Rattle.hart_calls.proofs.calling.sbi.Goals as goal

pub returns-clause-goes : goal.returns-clause-goes
returns-clause-goes g c =
    done_goes c.layout.result (g.P.Look.shows c.args.port.now) (g.P.Look.shows c.perform.new.port) c.args.section c.asked_of.result c.perform.result (sound_can c.layout.result c.args.arch.now c.asked_of.result c.asked_of.ensures.sound) c.perform.ensures

pub returns-clause-stands : goal.returns-clause-stands
returns-clause-stands g c =
    stands_as 769 (g.P.Look.shows c.args.port.now) (g.P.Look.shows c.perform.new.port) (done_goes c.layout.result (g.P.Look.shows c.args.port.now) (g.P.Look.shows c.perform.new.port) c.args.section c.asked_of.result c.perform.result (sound_can c.layout.result c.args.arch.now c.asked_of.result c.asked_of.ensures.sound) c.perform.ensures)

pub returns-clause-held : goal.returns-clause-held
returns-clause-held g c =
    held 769 (g.P.Look.shows c.args.port.now) (g.P.Look.shows c.perform.new.port) (done_goes c.layout.result (g.P.Look.shows c.args.port.now) (g.P.Look.shows c.perform.new.port) c.args.section c.asked_of.result c.perform.result (sound_can c.layout.result c.args.arch.now c.asked_of.result c.asked_of.ensures.sound) c.perform.ensures)

pub returns-clause-acting : goal.returns-clause-acting
returns-clause-acting g c =
    acting 769 (g.P.Look.shows c.args.port.now) (g.P.Look.shows c.perform.new.port) (done_goes c.layout.result (g.P.Look.shows c.args.port.now) (g.P.Look.shows c.perform.new.port) c.args.section c.asked_of.result c.perform.result (sound_can c.layout.result c.args.arch.now c.asked_of.result c.asked_of.ensures.sound) c.perform.ensures) c.requires.runner.acting

pub returns-clause-runs : goal.returns-clause-runs
returns-clause-runs g c =
    let s = done_stance (g.P.Look.shows c.args.port.now) (g.P.Look.shows c.perform.new.port) c.args.section c.asked_of.result c.perform.result (sound_guest c.layout.result c.args.arch.now c.asked_of.result c.asked_of.ensures.sound) c.perform.ensures (runner_stance (g.P.Look.shows c.args.port.now) c.requires.runner) in s.running

pub returns-clause-paid : goal.returns-clause-paid
returns-clause-paid g c =
    let s = done_stance (g.P.Look.shows c.args.port.now) (g.P.Look.shows c.perform.new.port) c.args.section c.asked_of.result c.perform.result (sound_guest c.layout.result c.args.arch.now c.asked_of.result c.asked_of.ensures.sound) c.perform.ensures (runner_stance (g.P.Look.shows c.args.port.now) c.requires.runner) in s.owing

pub returns-clause-free : goal.returns-clause-free
returns-clause-free g c =
    let s = done_stance (g.P.Look.shows c.args.port.now) (g.P.Look.shows c.perform.new.port) c.args.section c.asked_of.result c.perform.result (sound_guest c.layout.result c.args.arch.now c.asked_of.result c.asked_of.ensures.sound) c.perform.ensures (runner_stance (g.P.Look.shows c.args.port.now) c.requires.runner) in s.start_is

pub returns-clause-fence : goal.returns-clause-fence
returns-clause-fence g c =
    let l : Layout = (g.P.Look.shows c.args.port.now).machine.layout in
    done_fence l c.args.arch.now (g.P.Look.shows c.args.port.now) (g.P.Look.shows c.perform.new.port) c.args.section c.asked_of.result c.perform.result (subst (λ (k : Layout). IsSound k c.args.arch.now c.asked_of.result) c.layout.ensures.layout c.asked_of.ensures.sound) c.perform.ensures
