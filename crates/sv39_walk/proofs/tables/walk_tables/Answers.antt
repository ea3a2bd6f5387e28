use Rattle.std.proofs.Common.{arith}
use Rattle.guest_ram.specs.Areas.{IsOfRam}
use Rattle.guest_ram.proofs.AreaLemmas.{ram_inner, inner_aside}
use Rattle.guest_ram.proofs.Moves.{goes_at_most, goes_then, stands_goes}
use Rattle.sv39_walk.proofs.Composed.{step_ends, step_goes, bottom_ends}
use Rattle.sv39_walk.proofs.tables.walk_tables.Goals as goal

pub returns-in-End-clause-walked : goal.returns-in-End-clause-walked
returns-in-End-clause-walked g c = (step_ends _ _ _ 2 _ _ _ _ c.in-End.ensures.step)

pub returns-in-End-clause-goes : goal.returns-in-End-clause-goes
returns-in-End-clause-goes g c = (goes_at_most 1 3 IsOfRam _ _ (omega arith) c.in-End.ensures.goes)

pub returns-in-End-clause-stands : goal.returns-in-End-clause-stands
returns-in-End-clause-stands g c = stands_goes 3 IsOfRam _ _ (λ w x. inner_aside w (ram_inner w x)) (goes_at_most 1 3 IsOfRam _ _ (omega arith) c.in-End.ensures.goes)

pub returns-in-End-step-clause-walked : goal.returns-in-End-step-clause-walked
returns-in-End-step-clause-walked g c = (step_goes _ _ _ 2 _ c.in-Table.table _ _ _ _ c.in-Table.ensures.step (step_ends _ _ _ 1 _ _ _ _ c.in-End-step.ensures.step))

pub returns-in-End-step-clause-goes : goal.returns-in-End-step-clause-goes
returns-in-End-step-clause-goes g c = (goes_at_most 2 3 IsOfRam _ _ (omega arith) (goes_then 1 1 IsOfRam _ _ _ c.in-Table.ensures.goes c.in-End-step.ensures.goes))

pub returns-in-End-step-clause-stands : goal.returns-in-End-step-clause-stands
returns-in-End-step-clause-stands g c = stands_goes 3 IsOfRam _ _ (λ w x. inner_aside w (ram_inner w x)) (goes_at_most 2 3 IsOfRam _ _ (omega arith) (goes_then 1 1 IsOfRam _ _ _ c.in-Table.ensures.goes c.in-End-step.ensures.goes))

pub returns-in-End-step-2-clause-walked : goal.returns-in-End-step-2-clause-walked
returns-in-End-step-2-clause-walked g c = (step_goes _ _ _ 2 _ c.in-Table.table _ _ _ _ c.in-Table.ensures.step (step_goes _ _ _ 1 _ c.in-Table-step.table _ _ _ _ c.in-Table-step.ensures.step (step_ends _ _ _ 0 _ _ _ _ c.in-End-step-2.ensures.step)))

pub returns-in-End-step-2-clause-goes : goal.returns-in-End-step-2-clause-goes
returns-in-End-step-2-clause-goes g c = (goes_then 2 1 IsOfRam _ _ _ (goes_then 1 1 IsOfRam _ _ _ c.in-Table.ensures.goes c.in-Table-step.ensures.goes) c.in-End-step-2.ensures.goes)

pub returns-in-End-step-2-clause-stands : goal.returns-in-End-step-2-clause-stands
returns-in-End-step-2-clause-stands g c = stands_goes 3 IsOfRam _ _ (λ w x. inner_aside w (ram_inner w x)) (goes_then 2 1 IsOfRam _ _ _ (goes_then 1 1 IsOfRam _ _ _ c.in-Table.ensures.goes c.in-Table-step.ensures.goes) c.in-End-step-2.ensures.goes)

pub returns-in-Table-step-2-clause-walked : goal.returns-in-Table-step-2-clause-walked
returns-in-Table-step-2-clause-walked g c = (step_goes _ _ _ 2 _ c.in-Table.table _ _ _ _ c.in-Table.ensures.step (step_goes _ _ _ 1 _ c.in-Table-step.table _ _ _ _ c.in-Table-step.ensures.step (step_goes _ _ _ 0 _ c.in-Table-step-2.field-0 _ _ _ _ c.in-Table-step-2.ensures.step (bottom_ends _ _ _ _ _))))

pub returns-in-Table-step-2-clause-goes : goal.returns-in-Table-step-2-clause-goes
returns-in-Table-step-2-clause-goes g c = (goes_then 2 1 IsOfRam _ _ _ (goes_then 1 1 IsOfRam _ _ _ c.in-Table.ensures.goes c.in-Table-step.ensures.goes) c.in-Table-step-2.ensures.goes)

pub returns-in-Table-step-2-clause-stands : goal.returns-in-Table-step-2-clause-stands
returns-in-Table-step-2-clause-stands g c = stands_goes 3 IsOfRam _ _ (λ w x. inner_aside w (ram_inner w x)) (goes_then 2 1 IsOfRam _ _ _ (goes_then 1 1 IsOfRam _ _ _ c.in-Table.ensures.goes c.in-Table-step.ensures.goes) c.in-Table-step-2.ensures.goes)
