use Rattle.std.proofs.Common.{◌≡◌, ℕ, sym, subst}
use Rattle.rv64_priv.specs.State.{Arch}
use Rattle.rv64_priv.specs.Trap.{trapped}
use Rattle.rv64_exec.specs.declared.needs.Answer.{Answer}
use Rattle.need_serving.specs.declared.ends.NeedEnd.TheVariants as ends
use Rattle.hart_turn.specs.declared.hart.Hart.{Hart}
use Rattle.hart_turn.specs.Harts.{GoesWith}
use Rattle.hart_turn.specs.Executing.{HasExecuted, with_decoded}
use Rattle.hart_turn.proofs.Executed.{executed_known, refused, with_unknown, with_words}
use Rattle.hart_turn.proofs.executing.execute_word.Goals as goal

pub returns-in-Some-clause-executed : goal.returns-in-Some-clause-executed
returns-in-Some-clause-executed g c = executed_known c.args.hart.now c.decode_next.new.hart c.execute.new.hart (g.P.Look.shows c.args.port.now) (g.P.Look.shows c.execute.new.port) c.args.word c.in-Some.instr c.execute.result c.decode_next.ensures.hart
    c.in-Some.ensures.decodes.decodes c.execute.ensures.hart c.execute.ensures.served c.execute.ensures.part

pub returns-in-None-clause-executed : goal.returns-in-None-clause-executed
returns-in-None-clause-executed g c =
    let p = g.P.Look.shows c.args.port.now in
    let h = c.args.hart.now in
    let h' = c.decode_next.new.hart in
    let word = c.args.word in
    subst (λ (n : ℕ). HasExecuted word (ends.Done (Answer.Fault 2 n)) h (record h' { arch = c.trap.new.arch }) p p) (sym c.from-tval.ensures)
    (subst (λ (z : Arch). HasExecuted word (ends.Done (Answer.Fault 2 word)) h (record h' { arch = z }) p p) (sym (subst (λ (n : ℕ). c.trap.new.arch ≡ trapped h'.arch 2 n) c.from-tval.ensures c.trap.ensures))
    (refused h h' p word c.decode_next.ensures.hart c.in-None.ensures.decodes.decodes c.requires.with c.requires.free c.requires.touch c.requires.alone c.requires.draws c.requires.runs))

pub returns-in-None-clause-with : goal.returns-in-None-clause-with
returns-in-None-clause-with g c =
    let p = g.P.Look.shows c.args.port.now in
    let h' = c.decode_next.new.hart in
    let k = with_decoded h'.decoded c.args.hart.now in
    subst (λ (z : Arch). GoesWith (record h' { arch = z }) p) (sym (subst (λ (n : ℕ). c.trap.new.arch ≡ trapped h'.arch 2 n) c.from-tval.ensures c.trap.ensures))
    (subst (λ (z : Hart). GoesWith (record z { arch = trapped z.arch 2 c.args.word }) p) (sym c.decode_next.ensures.hart) (with_unknown k p c.args.word (with_words c.args.hart.now h'.decoded p c.requires.with) c.requires.free))
