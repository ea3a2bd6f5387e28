use Rattle.std.proofs.Common.{refl, ap, arith}
use Rattle.guest_ram.specs.Ports.{Shown}
use Rattle.guest_ram.specs.Areas.{IsOfRam}
use Rattle.guest_ram.proofs.Moves.{goes_then, goes_at_most, goes_within}
use Rattle.rv64_priv.specs.Walk.{PageFault, AccessFault}
use Rattle.tlb_fill.specs.Stepping.{faulted, reached, IsOfFill, IsOfHit}
use Rattle.tlb_fill.proofs.Allowed.{walked_fills, fault_fills}
use Rattle.tlb_fill.proofs.Marking.{beside_walk, same_goes, ram_aside, ram_fill, hit_fill}
use Rattle.tlb_fill.proofs.translation.fill.Goals as goal

pub enter-requires : goal.enter-requires
enter-requires g c = record { beside = beside_walk c.args.book.now 3 _ _ c.requires.beside c.in-Leaf.ensures.goes c.in-Leaf.ensures.acting }

pub returns-in-Leaf-clause-walked : goal.returns-in-Leaf-clause-walked
returns-in-Leaf-clause-walked g c = reached (g.P.Look.shows c.walk.new.port) c.in-Leaf.pte c.in-Leaf.page c.in-Leaf.level c.in-Leaf.ensures.walked c.enter.ensures.entered

pub returns-in-Leaf-clause-table : goal.returns-in-Leaf-clause-table
returns-in-Leaf-clause-table g c = walked_fills (g.P.Look.shows c.args.port.now) (g.P.Look.shows c.walk.new.port) (g.P.Look.shows c.enter.new.port) c.args.book.now c.enter.new.book c.args.regime.now c.args.va c.args.kind c.in-Leaf.pte c.in-Leaf.page c.in-Leaf.level _
    c.in-Leaf.ensures.shown (same_goes 3 IsOfRam _ _ ram_aside c.in-Leaf.ensures.goes) c.enter.ensures.goes.added (ap (λ (x : Shown). x.own.steps) c.enter.ensures.goes.grown) c.requires.beside.book.sized c.requires.beside.book.size
    c.enter.ensures.entered c.enter.ensures.changes

pub returns-in-Leaf-clause-goes : goal.returns-in-Leaf-clause-goes
returns-in-Leaf-clause-goes g c = goes_then 3 11 IsOfFill _ _ _ (goes_within 3 IsOfRam IsOfFill _ _ ram_fill c.in-Leaf.ensures.goes) (goes_within 11 IsOfHit IsOfFill _ _ hit_fill c.enter.ensures.goes)

pub returns-in-PageFault-clause-walked : goal.returns-in-PageFault-clause-walked
returns-in-PageFault-clause-walked g c = faulted PageFault _ c.in-PageFault.ensures.walked c.page_fault.ensures refl refl

pub returns-in-PageFault-clause-table : goal.returns-in-PageFault-clause-table
returns-in-PageFault-clause-table g c = fault_fills _ _ c.args.book.now c.args.regime.now c.args.va c.args.kind PageFault _ c.in-PageFault.ensures.shown (same_goes 3 IsOfRam _ _ ram_aside c.in-PageFault.ensures.goes) c.page_fault.ensures

pub returns-in-PageFault-clause-beside : goal.returns-in-PageFault-clause-beside
returns-in-PageFault-clause-beside g c = beside_walk c.args.book.now 3 _ _ c.requires.beside c.in-PageFault.ensures.goes c.in-PageFault.ensures.acting

pub returns-in-PageFault-clause-goes : goal.returns-in-PageFault-clause-goes
returns-in-PageFault-clause-goes g c = goes_at_most 3 14 IsOfFill _ _ (omega arith) (goes_within 3 IsOfRam IsOfFill _ _ ram_fill c.in-PageFault.ensures.goes)

pub returns-in-AccessFault-clause-walked : goal.returns-in-AccessFault-clause-walked
returns-in-AccessFault-clause-walked g c = faulted AccessFault _ c.in-AccessFault.ensures.walked c.access_fault.ensures refl refl

pub returns-in-AccessFault-clause-table : goal.returns-in-AccessFault-clause-table
returns-in-AccessFault-clause-table g c = fault_fills _ _ c.args.book.now c.args.regime.now c.args.va c.args.kind AccessFault _ c.in-AccessFault.ensures.shown (same_goes 3 IsOfRam _ _ ram_aside c.in-AccessFault.ensures.goes) c.access_fault.ensures

pub returns-in-AccessFault-clause-beside : goal.returns-in-AccessFault-clause-beside
returns-in-AccessFault-clause-beside g c = beside_walk c.args.book.now 3 _ _ c.requires.beside c.in-AccessFault.ensures.goes c.in-AccessFault.ensures.acting

pub returns-in-AccessFault-clause-goes : goal.returns-in-AccessFault-clause-goes
returns-in-AccessFault-clause-goes g c = goes_at_most 3 14 IsOfFill _ _ (omega arith) (goes_within 3 IsOfRam IsOfFill _ _ ram_fill c.in-AccessFault.ensures.goes)
