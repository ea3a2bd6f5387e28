use Rattle.std.specs.Prelude.{◌-◌, ◌/◌, ◌^◌}
use Rattle.step_laws.specs.declared.steps.WordOp.TheVariants.{Load}
use Rattle.step_laws.specs.Map.{Ram}
use Rattle.guest_ram.proofs.Moves.{goes_step}
use Rattle.hart_calls.proofs.Printed.{loaded, may_load, may_loaded}
use Rattle.monitor.specs.Steps.{IsRam}
use Rattle.monitor.proofs.reading.load_at.Goals as goal

pub load-requires-clause-may : goal.load-requires-clause-may
load-requires-clause-may g c = may_load c.args.pa c.ram_word.result _ c.ram_word.ensures.name c.requires

pub returns-clause-loaded : goal.returns-clause-loaded
returns-clause-loaded g c = λ finds e. loaded finds c.args.pa c.ram_word.result c.load.result _ _ c.ram_word.ensures.number c.ram_word.ensures.name c.load.ensures.step c.load.ensures.allowed e

pub returns-clause-may : goal.returns-clause-may
returns-clause-may g c = λ from count m. may_loaded from count c.args.pa c.ram_word.result c.load.result _ _ c.ram_word.ensures.name c.load.ensures.step c.load.ensures.allowed m

pub returns-clause-goes : goal.returns-clause-goes
returns-clause-goes g c = goes_step IsRam _ _ c.ram_word.result 0 c.load.result Load (Ram ((c.args.pa - 2 ^ 31) / 8)) c.load.ensures.step c.load.ensures.allowed c.ram_word.ensures.name tt
