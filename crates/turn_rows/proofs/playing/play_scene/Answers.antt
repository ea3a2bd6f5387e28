use Rattle.std.proofs.Common.{◌<◌, sym, subst, ◌∙◌, arith}
use Rattle.step_laws.specs.Layout.{IsInLimits}
use Rattle.step_laws.specs.declared.words.Layout.{Layout}
use Rattle.guest_ram.specs.Shown.{machine_of, pass_shown}
use Rattle.turn_rows.proofs.Settled.{new_settled}
use Rattle.turn_rows.proofs.playing.play_scene.Goals as goal

pub play-behind-requires-clause-first : goal.play-behind-requires-clause-first
play-behind-requires-clause-first c =
    let m = machine_of c.in_ok-table.field-0.table in
    let layout = c.in_ok-table.ensures.layout in
    let limits : IsInLimits m.layout = subst IsInLimits (sym layout) (record { some_hart = omega arith; harts = omega arith; some_pages = omega arith; pages = omega arith }) in
    let few : 0 < m.layout.harts = subst (λ (l : Layout). 0 < l.harts) (sym layout) (omega arith) in
    new_settled m 0 2147483648 c.args.scene.now.limit c.new.result (pass_shown c.pass.result) c.new.ensures (c.pass.ensures ∙ c.in_ok-table.ensures.first) limits few c.requires.limit

pub play-behind-requires-clause-second : goal.play-behind-requires-clause-second
play-behind-requires-clause-second c =
    let m = machine_of c.in_ok-table.field-0.table in
    let layout = c.in_ok-table.ensures.layout in
    let limits : IsInLimits m.layout = subst IsInLimits (sym layout) (record { some_hart = omega arith; harts = omega arith; some_pages = omega arith; pages = omega arith }) in
    let few : 1 < m.layout.harts = subst (λ (l : Layout). 1 < l.harts) (sym layout) (omega arith) in
    new_settled m 1 2147483648 c.args.scene.now.limit c.new-2.result (pass_shown c.pass-2.result) c.new-2.ensures (c.pass-2.ensures ∙ c.in_ok-table.ensures.second) limits few c.requires.limit
