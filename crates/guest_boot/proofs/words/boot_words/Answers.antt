use Rattle.std.proofs.Common.{ℕ, ◌<◌, ◌+◌, ◌*◌, ◌∙◌, sym, ap, subst, arith, refl}
use Rattle.step_laws.specs.declared.words.Layout.{Layout}
use Rattle.step_laws.specs.Map.{Live, Hsm, Size, Tlb}
use Rattle.guest_boot.specs.Stored.{IsOfBoot}
use Rattle.guest_ram.proofs.MaySteps.{may_boot_hsm}
use Rattle.guest_ram.specs.Ports.{GoesBy}
use Rattle.guest_ram.proofs.Moves.{booting_adds, stored_adds, stored_goes, goes_step, goes_then, goes_at_most}
use Rattle.guest_boot.proofs.Storing.{layout_goes, stopped_goes, stopped_more, booted_more}
use Rattle.guest_boot.proofs.words.boot_words.Goals as goal

pub loop-stopped-init : goal.loop-stopped-init
loop-stopped-init g c = let made = c.store.ensures in let name = c.live_word.ensures.name in let goes : GoesBy 1 IsOfBoot (g.P.Look.shows c.args.port.now) (g.P.Look.shows c.store.new.self) = goes_step IsOfBoot _ _ _ _ _ _ Live made.step made.allowed name tt in record {
  booting = booting_adds _ _ _ _ _ Live made.step name (λ _. refl) c.requires.booting;
  harts = ap (λ (l : Layout). l.harts) (c.layout-harts.ensures.layout ∙ sym (layout_goes 1 IsOfBoot _ _ goes));
  live = stored_adds _ _ _ _ _ Live made.step name;
  from = omega arith;
  stopped = λ h least less. absurd (omega arith);
  goes = goes;
}

pub store-requires-in-loop-stopped-clause-may : goal.store-requires-in-loop-stopped-clause-may
store-requires-in-loop-stopped-clause-may g c = let before = c.loop-stopped.invariant in
    may_boot_hsm _ _ c.loop-stopped.stopped c.hsm_word.ensures.name before.booting before.from (subst (λ n. c.loop-stopped.stopped < n) before.harts (omega arith))

pub loop-stopped-preserved : goal.loop-stopped-preserved
loop-stopped-preserved g c = let before = c.loop-stopped.invariant in let made = c.store-in-loop-stopped.ensures in let name = c.hsm_word.ensures.name in let n = c.loop-stopped.stopped in
    let goes : GoesBy 1 IsOfBoot (g.P.Look.shows c.loop-stopped.port) (g.P.Look.shows c.store-in-loop-stopped.new.self) = goes_step IsOfBoot _ _ _ _ _ _ (Hsm n) made.step made.allowed name tt in record {
      booting = booting_adds _ _ _ _ _ (Hsm n) made.step name (λ _. refl) before.booting;
      harts = before.harts ∙ ap (λ (l : Layout). l.harts) (sym (layout_goes 1 IsOfBoot _ _ goes));
      live = stored_goes 1 IsOfBoot _ _ Live goes before.live;
      from = omega arith;
      stopped = stopped_more 1 _ _ n goes before.stopped (stored_adds _ _ _ _ _ (Hsm n) made.step name);
      goes = goes_then n 1 IsOfBoot _ _ _ before.goes goes;
    }

pub loop-hart-preserved : goal.loop-hart-preserved
loop-hart-preserved g c = let before = c.loop-hart.invariant in let made = c.boot_table.ensures in let n = c.loop-hart.hart in record {
  booting = made.booting;
  harts = before.harts ∙ ap (λ (l : Layout). l.harts) (sym (layout_goes 217 IsOfBoot _ _ made.goes));
  live = stored_goes 217 IsOfBoot _ _ Live made.goes before.live;
  stopped = stopped_goes 217 _ _ c.layout-harts.result.harts made.goes before.stopped;
  booted = booted_more 217 _ _ n made.goes before.booted made.stored;
  goes = goes_at_most (8 + 217 * n + 217) _ IsOfBoot _ _ (omega arith) (goes_then (8 + 217 * n) 217 IsOfBoot _ _ _ before.goes made.goes);
}

pub returns-clause-booted : goal.returns-clause-booted
returns-clause-booted g c = let at = c.loop-hart.invariant in let all : (h : ℕ) → h < (g.P.Look.shows c.loop-hart.port).machine.layout.harts → h < c.loop-hart.hart = λ h less. omega (arith, at.harts, less) in record {
  live = at.live;
  states = λ h least less. at.stopped h least (subst (λ n. h < n) (sym at.harts) less);
  sizes = λ h less. at.booted h (all h less) (Size h) refl;
  slots = λ h j f less first field. at.booted h (all h less) (Tlb h j f) (refl, first, field);
}
