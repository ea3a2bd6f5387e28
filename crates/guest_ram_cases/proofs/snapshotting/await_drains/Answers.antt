use Rattle.std.proofs.Common.{◌≡◌, ◌+◌, ◌-◌, ◌<◌, ◌≤◌, ◌∙◌, sym, ap, subst, arith, rules}
use Rattle.std.specs.Prelude.{◌==◌, if◌then◌else◌}
use Rattle.step_laws.specs.declared.words.Layout.{Layout}
use Rattle.step_laws.specs.Marks.{swapping, awaiting}
use Rattle.guest_ram.specs.Areas.{IsOfPlaces}
use Rattle.guest_ram.specs.Ports.{Machine}
use Rattle.guest_ram_cases.specs.Sweeps.{IsAtStage, after_wait}
use Rattle.guest_ram.proofs.Moves.{goes_none, goes_then, goes_at_most, machine_goes}
use Rattle.guest_ram_cases.proofs.Snapshots.{comes_to, comes_back, comes_next}
use Rattle.guest_ram_cases.proofs.snapshotting.await_drains.Goals as goal

pub loop-hart-init : goal.loop-hart-init
loop-hart-init g c = let p = g.P.Look.shows c.args.port.now in record {
  from = omega arith;
  within = let e : c.layout-harts.result.harts ≡ p.machine.layout.harts = ap (λ (l : Layout). l.harts) c.layout-harts.ensures.layout in let l : c.args.first ≤ p.machine.layout.harts = c.requires.first in omega (arith, e, l);
  harts_are = ap (λ (l : Layout). l.harts) c.layout-harts.ensures.layout;
  stage = c.requires.stage;
  places = c.requires.places;
  goes = goes_at_most 0 (c.args.first - c.args.first) IsOfPlaces _ _ (omega arith) (goes_none IsOfPlaces _);
}

pub await_drain-requires-clause-stage : goal.await_drain-requires-clause-stage
await_drain-requires-clause-stage g c = comes_to (swapping 0) awaiting (g.P.Look.shows c.loop-hart.port) c.loop-hart.hart (subst (λ n. c.loop-hart.hart < n) c.loop-hart.invariant.harts_are (omega arith)) c.loop-hart.invariant.stage

pub await_drain-requires-clause-place : goal.await_drain-requires-clause-place
await_drain-requires-clause-place g c = sym (c.loop-hart.invariant.places c.loop-hart.hart)

pub loop-hart-preserved : goal.loop-hart-preserved
loop-hart-preserved g c = let i = c.loop-hart.invariant in let p = g.P.Look.shows c.loop-hart.port in let q = g.P.Look.shows c.await_drain.new.port in let h = c.loop-hart.hart in let m = machine_goes 1 IsOfPlaces p q c.await_drain.ensures.goes in
    let s : IsAtStage q (after_wait p h) = search rules in record {
      from = omega (arith, i.from);
      within = omega arith;
      harts_are = i.harts_are ∙ ap (λ (x : Machine). x.layout.harts) (sym m);
      stage = comes_next (swapping 0) awaiting p q h m s;
      places = c.await_drain.ensures.loaded i.places;
      goes = goes_at_most (h - c.args.first + 1) (h + 1 - c.args.first) IsOfPlaces _ _ (omega (arith, i.from)) (goes_then (h - c.args.first) 1 IsOfPlaces _ _ _ i.goes c.await_drain.ensures.goes);
    }

pub returns-then-is_err-clause-stage : goal.returns-then-is_err-clause-stage
returns-then-is_err-clause-stage g c = let i = c.loop-hart.invariant in let q = g.P.Look.shows c.await_drain.new.port in let h = c.loop-hart.hart in let m = machine_goes 1 IsOfPlaces (g.P.Look.shows c.loop-hart.port) q c.await_drain.ensures.goes in
    let s : IsAtStage q (awaiting h) = search rules in
    comes_back (swapping 0) awaiting q h (subst (λ n. h < n) (i.harts_are ∙ ap (λ (x : Machine). x.layout.harts) (sym m)) (omega arith)) s

pub returns-then-is_err-clause-places : goal.returns-then-is_err-clause-places
returns-then-is_err-clause-places g c = c.await_drain.ensures.loaded c.loop-hart.invariant.places

pub returns-then-is_err-clause-most : goal.returns-then-is_err-clause-most
returns-then-is_err-clause-most g c = let i = c.loop-hart.invariant in let m = machine_goes 1 IsOfPlaces (g.P.Look.shows c.loop-hart.port) (g.P.Look.shows c.await_drain.new.port) c.await_drain.ensures.goes in
    subst (λ n. c.loop-hart.hart ≤ n) (i.harts_are ∙ ap (λ (x : Machine). x.layout.harts) (sym m)) (omega arith)

pub returns-then-is_err-clause-goes : goal.returns-then-is_err-clause-goes
returns-then-is_err-clause-goes g c = let i = c.loop-hart.invariant in let few = i.stage.acting.limits.harts in let h = c.loop-hart.hart in goes_at_most (h - c.args.first + 1) 8 IsOfPlaces _ _ (omega (arith, few, i.harts_are))
    (goes_then (h - c.args.first) 1 IsOfPlaces _ _ _ i.goes c.await_drain.ensures.goes)

pub returns-clause-stage : goal.returns-clause-stage
returns-clause-stage g c = let p = g.P.Look.shows c.loop-hart.port in subst (λ n. IsAtStage p (if n == p.machine.layout.harts then swapping 0 else awaiting n)) (let e : c.loop-hart.hart ≡ c.layout-harts.result.harts = omega (arith, c.loop-hart.invariant.within) in e) c.loop-hart.invariant.stage

pub returns-clause-most : goal.returns-clause-most
returns-clause-most g c = let i = c.loop-hart.invariant in omega (arith, i.harts_are)

pub returns-clause-goes : goal.returns-clause-goes
returns-clause-goes g c = let i = c.loop-hart.invariant in let few = i.stage.acting.limits.harts in goes_at_most (c.loop-hart.hart - c.args.first) 8 IsOfPlaces _ _ (omega (arith, few, i.harts_are, i.within)) i.goes
