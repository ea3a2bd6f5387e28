use Rattle.std.proofs.Common.{refl}
use Rattle.step_laws.specs.declared.steps.WordOp.TheVariants.{Exchange}
use Rattle.step_laws.specs.Map.{Stop}
use Rattle.step_laws.specs.Output.{has_set_stop_next}
use Rattle.std.proofs.Common.{false}
use Rattle.guest_ram.proofs.MaySteps.{may_set_stop}
use Rattle.guest_ram.proofs.Moves.{acting_adds, fold_adds, found_there, goes_step, goes_then}
use Rattle.guest_ram.specs.Areas.{IsOfEnd}
use Rattle.guest_ram_cases.proofs.ending.end_machine.Goals as goal

pub returns-clause-ends : goal.returns-clause-ends
returns-clause-ends g c = let acting = acting_adds _ (g.P.Look.shows c.compare_exchange.new.self) _ _ _ (Exchange 0) Stop c.compare_exchange.ensures.step c.stop_word-stop.ensures.name (λ _. refl) c.requires.acting in
    (found_there (g.P.Look.shows c.compare_exchange.new.self) _ _ Stop acting c.load.ensures.known c.stop_word-stop.ensures.name).1
    (fold_adds has_set_stop_next false _ _ _ _ _ (Exchange 0) Stop c.compare_exchange.ensures.step c.stop_word-stop.ensures.name)

pub compare_exchange-requires-clause-may : goal.compare_exchange-requires-clause-may
compare_exchange-requires-clause-may g c = may_set_stop _ _ _ c.stop_word-stop.ensures.name c.requires.reason c.requires.acting

pub returns-clause-goes : goal.returns-clause-goes
returns-clause-goes g c = goes_then 1 1 IsOfEnd _ _ _ (goes_step IsOfEnd _ _ _ _ _ _ _ c.compare_exchange.ensures.step c.compare_exchange.ensures.allowed c.stop_word-stop.ensures.name tt)
    (goes_step IsOfEnd _ _ _ _ _ _ _ c.load.ensures.step c.load.ensures.allowed c.stop_word-stop.ensures.name tt)
