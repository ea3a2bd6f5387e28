use Rattle.std.proofs.Common.{◌+◌, ◌*◌, ◌-◌, arith, refl}
use Rattle.step_laws.specs.Map.{Size}
use Rattle.guest_ram.specs.Ports.{GoesBy}
use Rattle.guest_ram.proofs.Moves.{booting_adds, stored_adds, stored_goes, goes_step, goes_then, goes_at_most}
use Rattle.guest_boot.specs.Stored.{IsOfBoot, IsSlot}
use Rattle.guest_boot.proofs.Storing.{all_go, hart_goes, no_slots, slots_more}
use Rattle.guest_boot.proofs.words.boot_table.Goals as goal

pub loop-slot-init : goal.loop-slot-init
loop-slot-init g c = let made = c.store.ensures in let name = c.size_word.ensures.name in let goes : GoesBy 1 IsOfBoot (g.P.Look.shows c.args.port.now) (g.P.Look.shows c.store.new.self) = goes_step IsOfBoot _ _ _ _ _ _ (Size c.args.hart) made.step made.allowed name tt in record {
  booting = booting_adds _ _ _ _ _ (Size c.args.hart) made.step name (λ _. refl) c.requires.booting;
  hart = hart_goes 1 _ _ c.args.hart goes c.requires.hart;
  size = stored_adds _ _ _ _ _ (Size c.args.hart) made.step name;
  slots = no_slots c.args.hart 0 (g.P.Look.shows c.store.new.self).own.steps;
  goes = goes;
}

pub loop-slot-preserved : goal.loop-slot-preserved
loop-slot-preserved g c = let before = c.loop-slot.invariant in let made = c.clear_slot.ensures in let h = c.args.hart in let n = c.loop-slot.slot in record {
  booting = made.booting;
  hart = hart_goes 3 _ _ h made.goes before.hart;
  size = stored_goes 3 IsOfBoot _ _ (Size h) made.goes before.size;
  slots = slots_more 3 _ _ h 0 n made.goes before.slots made.stored;
  goes = goes_at_most (1 + 3 * n + 3) _ IsOfBoot _ _ (omega arith) (goes_then (1 + 3 * n) 3 IsOfBoot _ _ _ before.goes made.goes);
}

pub loop-victim-preserved : goal.loop-victim-preserved
loop-victim-preserved g c = let before = c.loop-victim.invariant in let made = c.clear_slot-in-loop-victim.ensures in let h = c.args.hart in let v = c.loop-victim.victim in record {
  booting = made.booting;
  hart = hart_goes 3 _ _ h made.goes before.hart;
  size = stored_goes 3 IsOfBoot _ _ (Size h) made.goes before.size;
  main = all_go 3 IsOfBoot (IsSlot h 0 64) _ _ made.goes before.main;
  from = omega (arith, before.from);
  slots = slots_more 3 _ _ h 1024 v made.goes before.slots made.stored;
  goes = goes_at_most (193 + 3 * (v - 1024) + 3) _ IsOfBoot _ _ (omega (arith, before.from)) (goes_then (193 + 3 * (v - 1024)) 3 IsOfBoot _ _ _ before.goes made.goes);
}
