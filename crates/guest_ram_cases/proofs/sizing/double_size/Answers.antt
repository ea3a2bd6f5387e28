use Rattle.std.proofs.Common.{◌+◌, ◌*◌, ◌-◌, arith}
use Rattle.guest_ram.specs.Areas.{IsOfTable}
use Rattle.guest_ram.proofs.Moves.{goes_step, goes_then, goes_at_most}
use Rattle.guest_ram_cases.proofs.Clears.{may_double, clears_first, clears_more, clears_on, clears_all}
use Rattle.guest_ram_cases.proofs.sizing.double_size.Goals as goal

pub store-requires-clause-may : goal.store-requires-clause-may
store-requires-clause-may g c = may_double (g.P.Look.shows c.args.port.now) (g.P.Look.shows c.args.port.now) _ c.args.own c.requires.owning c.requires.paid c.requires.size c.size_word.ensures.name

pub loop-slot-init : goal.loop-slot-init
loop-slot-init g c = record {
  clearing = clears_first (g.P.Look.shows c.args.port.now) (g.P.Look.shows c.store.new.self) _ c.args.own c.requires.owning c.requires.paid c.requires.size c.size_word.ensures.name c.store.ensures.step;
  goes = goes_step IsOfTable _ _ _ _ _ _ _ c.store.ensures.step c.store.ensures.allowed c.size_word.ensures.name tt;
}

pub loop-slot-preserved : goal.loop-slot-preserved
loop-slot-preserved g c = let before = c.loop-slot.invariant in let made = c.empty.ensures in record {
  clearing = clears_more _ _ c.args.own c.loop-slot.slot before.clearing made.owning made.size made.paid made.others;
  goes = goes_at_most (1 + 3 * c.loop-slot.slot + 3) _ IsOfTable _ _ (omega arith) (goes_then (1 + 3 * c.loop-slot.slot) 3 IsOfTable _ _ _ before.goes made.goes);
}

pub loop-victim-init : goal.loop-victim-init
loop-victim-init g c = record { from = omega arith; clearing = clears_on _ c.args.own c.loop-slot.slot (omega arith) c.loop-slot.invariant.clearing; goes = goes_at_most (1 + 3 * c.loop-slot.slot) _ IsOfTable _ _ (omega arith) c.loop-slot.invariant.goes }

pub loop-victim-preserved : goal.loop-victim-preserved
loop-victim-preserved g c = let before = c.loop-victim.invariant in let made = c.empty-in-loop-victim.ensures in let v = c.loop-victim.victim in record {
  from = omega arith;
  clearing = clears_more _ _ c.args.own v before.clearing made.owning made.size made.paid made.others;
  goes = goes_at_most (385 + 3 * (v - 1024) + 3) _ IsOfTable _ _ (omega (arith, before.from)) (goes_then (385 + 3 * (v - 1024)) 3 IsOfTable _ _ _ before.goes made.goes);
}

pub returns-clause-paid : goal.returns-clause-paid
returns-clause-paid g c = clears_all _ c.args.own c.loop-victim.victim (omega arith) c.loop-victim.invariant.clearing
