use Rattle.std.proofs.Common.{◌<◌, sym, subst, ◌∙◌, arith}
use Rattle.step_laws.specs.Layout.{IsInLimits}
use Rattle.step_laws.specs.declared.words.Layout.{Layout}
use Rattle.guest_ram.specs.Shown.{machine_of, pass_shown}
use Rattle.turn_rows.proofs.Settled.{new_settled}
use Rattle.turn_rows.proofs.races.play_race.Goals as goal

pub run_beside-right-requires-clause-settled : goal.run_beside-right-requires-clause-settled
run_beside-right-requires-clause-settled c =
    let m = machine_of c.in_ok-table.field-0.table in
    let layout = c.in_ok-table.ensures.layout in
    let limits : IsInLimits m.layout = subst IsInLimits (sym layout) (record { some_hart = omega arith; harts = omega arith; some_pages = omega arith; pages = omega arith }) in
    let few : 0 < m.layout.harts = subst (λ (l : Layout). 0 < l.harts) (sym layout) (omega arith) in
    new_settled m 0 2147483648 c.args.plan.now.limit c.new-hart.result (pass_shown c.pass.result) c.new-hart.ensures (c.pass.ensures ∙ c.in_ok-table.ensures.first) limits few c.requires.limit
