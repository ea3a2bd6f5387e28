use Rattle.std.proofs.Common.{◌≡◌, ◌+◌, ◌*◌, ◌<◌, ◌≤◌, ◌∙◌, sym, ap, subst, arith, rules}
use Rattle.step_laws.specs.declared.words.Layout.{Layout}
use Rattle.step_laws.specs.Marks.{passing, draining, awaiting}
use Rattle.guest_ram.specs.Areas.{AnyWord, IsOfPlaces, IsOfRam, IsOfTable}
use Rattle.guest_ram.specs.Ports.{Machine}
use Rattle.guest_ram_cases.specs.Sweeps.{IsAtStage, HasPlaced, after_pass, after_drain}
use Rattle.guest_ram.proofs.AreaLemmas.{any_word}
use Rattle.guest_ram.proofs.Moves.{goes_then, goes_at_most, goes_within, machine_goes}
use Rattle.guest_ram_cases.proofs.Snapshots.{comes_first, comes_to, comes_past, comes_next, no_post_ram, no_post_table, first_place_next, posted_more}
use Rattle.guest_ram_cases.proofs.snapshotting.begin_snapshot.Goals as goal

pub loop-hart-init : goal.loop-hart-init
loop-hart-init g c = let q = g.P.Look.shows c.take_words.new.port in record {
  harts_are = ap (λ (l : Layout). l.harts) c.layout-harts.ensures.layout;
  stage = comes_first (draining 0) passing q c.take_words.ensures.stage.acting.limits.some_hart c.take_words.ensures.stage;
  none = no_post_ram 64 _ q c.take_words.ensures.goes c.requires.none;
  goes = goes_within 64 IsOfRam AnyWord _ _ (any_word IsOfRam) c.take_words.ensures.goes;
}

pub sweep-requires-clause-stage : goal.sweep-requires-clause-stage
sweep-requires-clause-stage g c = comes_to (draining 0) passing (g.P.Look.shows c.loop-hart.port) c.loop-hart.hart (subst (λ n. c.loop-hart.hart < n) c.loop-hart.invariant.harts_are (omega arith)) c.loop-hart.invariant.stage

pub loop-hart-preserved : goal.loop-hart-preserved
loop-hart-preserved g c = let p = g.P.Look.shows c.loop-hart.port in let q = g.P.Look.shows c.sweep.new.port in let h = c.loop-hart.hart in let m = machine_goes 1035 IsOfTable p q c.sweep.ensures.goes in
    let s : IsAtStage q (after_pass p h) = search rules in record {
      harts_are = c.loop-hart.invariant.harts_are ∙ ap (λ (x : Machine). x.layout.harts) (sym m);
      stage = comes_next (draining 0) passing p q h m s;
      none = no_post_table 1035 p q c.sweep.ensures.goes c.loop-hart.invariant.none;
      goes = goes_at_most (64 + 1035 * h + 1035) (64 + 1035 * (h + 1)) AnyWord _ _ (omega arith) (goes_then (64 + 1035 * h) 1035 AnyWord _ _ _ c.loop-hart.invariant.goes (goes_within 1035 IsOfTable AnyWord _ _ (any_word IsOfTable) c.sweep.ensures.goes));
    }

pub returns-then-is_err-clause-goes : goal.returns-then-is_err-clause-goes
returns-then-is_err-clause-goes g c = let few = c.loop-hart.invariant.stage.acting.limits.harts in let h = c.loop-hart.hart in goes_at_most (64 + 1035 * h + 1035) 8360 AnyWord _ _ (let l : h < 8 = omega (arith, few, c.loop-hart.invariant.harts_are) in omega (arith, l))
    (goes_then (64 + 1035 * h) 1035 AnyWord _ _ _ c.loop-hart.invariant.goes (goes_within 1035 IsOfTable AnyWord _ _ (any_word IsOfTable) c.sweep.ensures.goes))

pub loop-target-init : goal.loop-target-init
loop-target-init g c = let p = g.P.Look.shows c.loop-hart.port in let i = c.loop-hart.invariant in let few = i.stage.acting.limits.harts in let end : c.loop-hart.hart ≡ p.machine.layout.harts = omega (arith, i.harts_are) in
    let s = comes_past (draining 0) passing p c.loop-hart.hart end i.stage in record {
      harts_are = i.harts_are;
      stage = comes_first (awaiting 0) draining p i.stage.acting.limits.some_hart s;
      none = record { posts_none = λ t _. i.none.posts_none t; no_last = i.none.no_last };
      goes = goes_at_most (64 + 1035 * c.loop-hart.hart) 8344 AnyWord _ _ (let l : c.loop-hart.hart ≤ 8 = omega (arith, end, few) in omega (arith, l)) i.goes;
    }

pub drain-requires-clause-stage : goal.drain-requires-clause-stage
drain-requires-clause-stage g c = comes_to (awaiting 0) draining (g.P.Look.shows c.loop-target.port) c.loop-target.target (subst (λ n. c.loop-target.target < n) c.loop-target.invariant.harts_are (omega arith)) c.loop-target.invariant.stage

pub drain-requires-clause-place : goal.drain-requires-clause-place
drain-requires-clause-place g c = first_place_next (g.P.Look.shows c.loop-target.port) c.loop-target.target c.loop-target.invariant.none

pub loop-target-preserved : goal.loop-target-preserved
loop-target-preserved g c = let p = g.P.Look.shows c.loop-target.port in let q = g.P.Look.shows c.drain.new.port in let h = c.loop-target.target in let m = machine_goes 2 IsOfPlaces p q c.drain.ensures.goes in
    let s : IsAtStage q (after_drain p h) = search rules in let w : HasPlaced p q h 0 = search rules in record {
      harts_are = c.loop-target.invariant.harts_are ∙ ap (λ (x : Machine). x.layout.harts) (sym m);
      stage = comes_next (awaiting 0) draining p q h m s;
      none = posted_more p q h w c.loop-target.invariant.none;
      goes = goes_at_most (8344 + 2 * h + 2) (8344 + 2 * (h + 1)) AnyWord _ _ (omega arith) (goes_then (8344 + 2 * h) 2 AnyWord _ _ _ c.loop-target.invariant.goes (goes_within 2 IsOfPlaces AnyWord _ _ (any_word IsOfPlaces) c.drain.ensures.goes));
    }

pub returns-then-is_err-2-clause-goes : goal.returns-then-is_err-2-clause-goes
returns-then-is_err-2-clause-goes g c = let few = c.loop-target.invariant.stage.acting.limits.harts in let h = c.loop-target.target in goes_at_most (8344 + 2 * h + 2) 8360 AnyWord _ _ (let l : h < 8 = omega (arith, few, c.loop-target.invariant.harts_are) in omega (arith, l))
    (goes_then (8344 + 2 * h) 2 AnyWord _ _ _ c.loop-target.invariant.goes (goes_within 2 IsOfPlaces AnyWord _ _ (any_word IsOfPlaces) c.drain.ensures.goes))

pub returns-clause-stage : goal.returns-clause-stage
returns-clause-stage g c = let p = g.P.Look.shows c.loop-target.port in λ _. comes_past (awaiting 0) draining p c.loop-target.target (omega (arith, c.loop-target.invariant.harts_are)) c.loop-target.invariant.stage

pub returns-clause-places : goal.returns-clause-places
returns-clause-places g c = λ _. c.loop-target.invariant.none.no_last

pub returns-clause-goes : goal.returns-clause-goes
returns-clause-goes g c = let few = c.loop-target.invariant.stage.acting.limits.harts in let h = c.loop-target.target in goes_at_most (8344 + 2 * h) 8360 AnyWord _ _ (let l : h ≤ 8 = omega (arith, few, c.loop-target.invariant.harts_are) in omega (arith, l)) c.loop-target.invariant.goes
