use Rattle.std.proofs.Common.{◌≡◌, ◌+◌, ◌*◌, ◌-◌, arith}
use Rattle.guest_ram.specs.Areas.{IsOfTable}
use Rattle.guest_ram.proofs.Moves.{goes_none, goes_then, goes_at_most}
use Rattle.flush.proofs.Clears.{cleared_none, cleared_next, cleared_first_at, cleared_victim, cleared_last, clears_slot, inside_still}
use Rattle.flush.proofs.sweeps.clear_slots.Goals as goal

pub clear-requires-clause-acting : goal.clear-requires-clause-acting
clear-requires-clause-acting g c = c.loop-slot.invariant.inside.acting

pub clear-requires-clause-hart : goal.clear-requires-clause-hart
clear-requires-clause-hart g c = c.loop-slot.invariant.inside.hart

pub clear-requires-clause-book : goal.clear-requires-clause-book
clear-requires-clause-book g c = c.loop-slot.invariant.inside.book

pub clear-requires-clause-held : goal.clear-requires-clause-held
clear-requires-clause-held g c = c.loop-slot.invariant.inside.held

pub clear-requires-in-loop-victim-clause-acting : goal.clear-requires-in-loop-victim-clause-acting
clear-requires-in-loop-victim-clause-acting g c = c.loop-victim.invariant.inside.acting

pub clear-requires-in-loop-victim-clause-hart : goal.clear-requires-in-loop-victim-clause-hart
clear-requires-in-loop-victim-clause-hart g c = c.loop-victim.invariant.inside.hart

pub clear-requires-in-loop-victim-clause-book : goal.clear-requires-in-loop-victim-clause-book
clear-requires-in-loop-victim-clause-book g c = c.loop-victim.invariant.inside.book

pub clear-requires-in-loop-victim-clause-held : goal.clear-requires-in-loop-victim-clause-held
clear-requires-in-loop-victim-clause-held g c = c.loop-victim.invariant.inside.held

pub loop-slot-init : goal.loop-slot-init
loop-slot-init g c = record { cleared = cleared_none _; inside = c.requires.inside; goes = goes_none IsOfTable _ }

pub loop-slot-preserved : goal.loop-slot-preserved
loop-slot-preserved g c = let before = c.loop-slot.invariant in let made = c.clear.ensures in record {
  cleared = cleared_next _ _ _ c.loop-slot.slot before.cleared (clears_slot c.args.book.now _ _ c.loop-slot.slot before.inside made.goes made.book made.invalid made.page made.others made.owes made.pays);
  inside = record { acting = made.acting; hart = inside_still c.args.book.now 3 _ _ before.inside made.goes before.inside.hart; book = made.book; held = made.held };
  goes = goes_at_most (3 * c.loop-slot.slot + 3) _ IsOfTable _ _ (omega arith) (goes_then (3 * c.loop-slot.slot) 3 IsOfTable _ _ _ before.goes made.goes);
}

pub loop-victim-init : goal.loop-victim-init
loop-victim-init g c = let end : c.loop-slot.slot ≡ c.args.size = omega arith in record {
  from = omega arith;
  cleared = cleared_first_at _ _ c.loop-slot.slot c.args.size end c.loop-slot.invariant.cleared;
  inside = c.loop-slot.invariant.inside;
  goes = goes_at_most (3 * c.loop-slot.slot) _ IsOfTable _ _ (omega arith) c.loop-slot.invariant.goes;
}

pub loop-victim-preserved : goal.loop-victim-preserved
loop-victim-preserved g c = let before = c.loop-victim.invariant in let made = c.clear-in-loop-victim.ensures in let v = c.loop-victim.victim in record {
  from = omega arith;
  cleared = cleared_victim _ _ _ c.args.size v before.from before.cleared (clears_slot c.args.book.now _ _ v before.inside made.goes made.book made.invalid made.page made.others made.owes made.pays);
  inside = record { acting = made.acting; hart = inside_still c.args.book.now 3 _ _ before.inside made.goes before.inside.hart; book = made.book; held = made.held };
  goes = goes_at_most (3 * c.args.size + 3 * (v - 1024) + 3) _ IsOfTable _ _ (omega (arith, before.from)) (goes_then (3 * c.args.size + 3 * (v - 1024)) 3 IsOfTable _ _ _ before.goes made.goes);
}

pub returns-clause-cleared : goal.returns-clause-cleared
returns-clause-cleared g c = let end : c.loop-victim.victim ≡ 1032 = omega arith in cleared_last _ _ c.loop-victim.victim c.args.size end c.loop-victim.invariant.cleared

pub returns-clause-inside : goal.returns-clause-inside
returns-clause-inside g c = c.loop-victim.invariant.inside

pub returns-clause-goes : goal.returns-clause-goes
returns-clause-goes g c = goes_at_most (3 * c.args.size + 3 * (c.loop-victim.victim - 1024)) _ IsOfTable _ _ (omega arith) c.loop-victim.invariant.goes
