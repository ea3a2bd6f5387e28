use Rattle.std.proofs.Common.{◌∙◌, refl, sym, subst, inl, arith}
use Rattle.std.specs.Prelude.{◌+◌, ◌<◌}
use Rattle.step_laws.specs.declared.steps.WordOp.TheVariants.{Add}
use Rattle.guest_ram.specs.Ports.{Shown}
use Rattle.guest_ram.specs.Areas.{IsOfRam}
use Rattle.guest_ram.proofs.MaySteps.{may_write_ram}
use Rattle.guest_ram.proofs.Moves.{acting_adds, phase_adds, armed_keeps, goes_step, goes_then, goes_none}
use Rattle.guest_ram_cases.proofs.Rows.{none_added, more_added}
use Rattle.guest_ram_cases.proofs.inside.add_to_row.Goals as goal

pub loop-i-init : goal.loop-i-init
loop-i-init g c = record {
  acting = c.requires.acting;
  hart = c.requires.hart;
  inside = c.requires.inside;
  armed = c.requires.armed;
  added = none_added _ c.args.from c.args.value;
  goes = goes_none IsOfRam _;
}

pub fetch_add-requires-clause-may : goal.fetch_add-requires-clause-may
fetch_add-requires-clause-may g c = let at = c.loop-i.invariant in
    may_write_ram _ _ (c.args.from + c.loop-i.i) _ Add c.ram_word_at.ensures.name at.acting tt (inl at.inside, at.hart, at.armed (c.args.from + c.loop-i.i) (omega arith) (omega arith))

pub loop-i-preserved : goal.loop-i-preserved
loop-i-preserved g c = let i = c.loop-i.i in let before = c.loop-i.invariant in let made = c.fetch_add.ensures.step in let name = c.ram_word_at.ensures.name in record {
  acting = acting_adds _ _ _ _ _ Add _ made name (λ _. refl) before.acting;
  hart = subst (λ (x : Shown). x.own.actor < x.machine.layout.harts) (sym made) before.hart;
  inside = phase_adds _ _ _ _ _ Add _ made name ∙ before.inside;
  armed = λ k least less. armed_keeps _ _ _ _ _ _ Add _ made name tt (before.armed k least less);
  added = more_added _ _ _ c.args.from i c.args.value _ _ before.added c.ram_word_at.ensures.number made;
  goes = goes_then i 1 IsOfRam _ _ _ before.goes (goes_step IsOfRam _ _ _ _ _ _ _ made c.fetch_add.ensures.allowed name tt);
}
