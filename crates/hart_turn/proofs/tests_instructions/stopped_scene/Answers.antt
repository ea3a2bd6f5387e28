use Rattle.std.proofs.Common.{◌<◌, sym, subst, ◌∙◌, arith}
use Rattle.step_laws.specs.Layout.{IsInLimits}
use Rattle.step_laws.specs.declared.words.Layout.{Layout}
use Rattle.guest_ram.specs.Shown.{machine_of, pass_shown}
use Rattle.hart_turn.specs.declared.hart.Hart.{Hart}
use Rattle.hart_turn.specs.Harts.{GoesWith}
use Rattle.hart_turn.proofs.First.{first_goes}
use Rattle.hart_turn.proofs.tests_instructions.stopped_scene.Goals as goal

pub ask-served-requires-clause-with : goal.ask-served-requires-clause-with
ask-served-requires-clause-with c =
    let m = machine_of c.in_ok-table.field-0.table in
    let layout = c.in_ok-table.ensures.layout in
    let limits : IsInLimits m.layout = subst IsInLimits (sym layout) (record { some_hart = omega arith; harts = omega arith; some_pages = omega arith; pages = omega arith }) in
    let few : 1 < m.layout.harts = subst (λ (l : Layout). 1 < l.harts) (sym layout) (omega arith) in
    subst (λ (h : Hart). GoesWith h (pass_shown c.pass-pass.result)) (sym c.hart_with-hart.ensures)
    (first_goes m 1 5 c.registers.result (pass_shown c.pass-pass.result) (c.pass-pass.ensures ∙ c.in_ok-table.ensures.second) limits few (omega arith))
