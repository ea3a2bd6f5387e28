use Rattle.hart_calls.proofs.Printed.{loaded, may_load, may_loaded}
use Rattle.hart_calls.proofs.printing.load_at.Goals as goal

pub load-requires-clause-may : goal.load-requires-clause-may
load-requires-clause-may g c = may_load c.args.pa c.ram_word.result _ c.ram_word.ensures.name c.requires

pub returns-clause-loaded : goal.returns-clause-loaded
returns-clause-loaded g c = λ finds e. loaded finds c.args.pa c.ram_word.result c.load.result _ _ c.ram_word.ensures.number c.ram_word.ensures.name c.load.ensures.step c.load.ensures.allowed e

pub returns-clause-may : goal.returns-clause-may
returns-clause-may g c = λ from count m. may_loaded from count c.args.pa c.ram_word.result c.load.result _ _ c.ram_word.ensures.name c.load.ensures.step c.load.ensures.allowed m
