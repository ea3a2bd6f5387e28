-- A fetch that finds a word found RAM.
use Rattle.std.proofs.Common.{◌≡◌, sym, ◌∙◌, subst}
use Rattle.std.specs.Prelude.{MatchBool}
use Rattle.rv64_priv.specs.declared.state.Kind.{Kind}
use Rattle.machine_model.specs.Access.{spot_of}
use Rattle.ref_machine.specs.OneTurn.{IsFetched, interrupted, walk_end}
use Rattle.ref_machine.specs.Given.{done_of}
use Rattle.ref_machine.proofs.Stepping.{fetched_word}
use Rattle.ref_machine.proofs.step.step.Goals as goal

pub returns-in-Ok-clause-done : goal.returns-in-Ok-clause-done
returns-in-Ok-clause-done c =
    let h = c.args.hart in
    let t = c.args.slot.now in
    let b = c.args.shared.now in
    let d = done_of c.execute.result c.execute.new.slot c.execute.new.shared in
    let spot = spot_of Kind.Fetch t.arch.pc (walk_end t.arch b Kind.Fetch t.arch.pc) in
    subst (λ x. MatchBool x (d ≡ interrupted t b) (IsFetched h t b d spot)) (sym (sym c.is_interrupted.ensures ∙ c.if-is_interrupted.false))
    (fetched_word h t b d spot c.in-Ok.word c.in-Ok.ensures c.execute.ensures.done)
