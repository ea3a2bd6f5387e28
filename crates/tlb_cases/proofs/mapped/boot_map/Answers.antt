use Rattle.std.proofs.Common.{◌≤◌, sym, subst}
use Rattle.guest_ram.specs.Areas.{IsOfRam}
use Rattle.guest_ram.specs.Ports.{Shown}
use Rattle.guest_ram.proofs.Moves.{goes_none, goes_then}
use Rattle.tlb_cases.proofs.mapped.boot_map.Goals as goal

pub loop-number-init : goal.loop-number-init
loop-number-init g c = record { booting = c.requires.booting; pages = c.requires.pages; goes = goes_none IsOfRam _ }

pub loop-number-preserved : goal.loop-number-preserved
loop-number-preserved g c = record {
  booting = c.boot_ram.ensures.booting;
  pages = subst (λ (x : Shown). 1024 ≤ x.machine.layout.pages) (sym c.boot_ram.ensures.goes.grown) c.loop-number.invariant.pages;
  goes = goes_then c.loop-number.number 1 IsOfRam _ _ _ c.loop-number.invariant.goes c.boot_ram.ensures.goes;
}
