use Rattle.std.proofs.Common.{◌<◌, sym, subst, ◌∙◌, arith}
use Rattle.step_laws.specs.Layout.{IsInLimits}
use Rattle.step_laws.specs.declared.words.Layout.{Layout}
use Rattle.guest_ram.specs.Shown.{machine_of, pass_shown}
use Rattle.hart_turn.specs.declared.hart.Hart.{Hart}
use Rattle.hart_turn.specs.Harts.{GoesWith}
use Rattle.hart_turn.proofs.First.{first_goes}
use Rattle.hart_turn.proofs.tests_instructions.scene.Goals as goal

pub play-end-requires : goal.play-end-requires
play-end-requires c =
    let m = machine_of c.in_ok-table.field-0.table in
    let layout = c.in_ok-table.ensures.layout in
    let limits : IsInLimits m.layout = subst IsInLimits (sym layout) (record { some_hart = omega arith; harts = omega arith; some_pages = omega arith; pages = omega arith }) in
    let few : 0 < m.layout.harts = subst (λ (l : Layout). 0 < l.harts) (sym layout) (omega arith) in
    record {
      with = subst (λ (h : Hart). GoesWith h (pass_shown c.pass-pass.result)) (sym c.hart_with-hart.ensures)
          (first_goes m 0 c.args.limit c.args.arch.now (pass_shown c.pass-pass.result) (c.pass-pass.ensures ∙ c.in_ok-table.ensures.first) limits few c.requires.limit);
    }
