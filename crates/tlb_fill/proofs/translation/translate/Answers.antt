use Rattle.std.proofs.Common.{refl, sym, ap, arith}
use Rattle.step_laws.specs.declared.steps.WordOp.TheVariants.{Load}
use Rattle.guest_ram.specs.Areas.{IsOfTable}
use Rattle.guest_ram.specs.Ports.{Shown}
use Rattle.guest_ram.proofs.Moves.{goes_made, goes_then, goes_at_most, goes_within, stands_goes, touch_stands}
use Rattle.tlb_fill.specs.Stepping.{hits, misses, IsOfFill, IsOfHit}
use Rattle.tlb_fill.proofs.Allowed.{hit_answers}
use Rattle.tlb_fill.proofs.Marking.{same_alike, same_then, table_hit, hit_fill}
use Rattle.tlb_fill.proofs.Reached.{table_aside, hit_arms, miss_allowed, miss_leaves}
use Rattle.tlb_fill.proofs.translation.translate.Goals as goal

pub fill-requires-clause-may : goal.fill-requires-clause-may
fill-requires-clause-may g c = touch_stands 2 IsOfTable _ _ c.in-None.ensures.goes (stands_goes 2 IsOfTable _ _ table_aside c.in-None.ensures.goes) c.requires.may

pub returns-in-Some-clause-made : goal.returns-in-Some-clause-made
returns-in-Some-clause-made g c = hits (g.P.Look.shows c.probe.new.look) c.in-Some.hit c.in-Some.ensures.probed c.serve_hit.ensures.served refl

pub returns-in-Some-clause-allowed : goal.returns-in-Some-clause-allowed
returns-in-Some-clause-allowed g c = let all = goes_then 2 4 IsOfHit _ _ _ (goes_within 2 IsOfTable IsOfHit _ _ table_hit c.in-Some.ensures.goes) c.serve_hit.ensures.goes in
    λ items fills x. hit_answers (g.P.Look.shows c.args.port.now) (g.P.Look.shows c.probe.new.look) (g.P.Look.shows c.serve_hit.new.port) c.args.book.now c.args.regime.now c.args.va c.args.kind c.in-Some.hit c.serve_hit.result c.in-Some.ensures.probed
    (same_then _ _ _ (same_alike _ _ c.in-Some.ensures.alike) c.serve_hit.ensures.same) all.added (ap (λ (y : Shown). y.own.steps) all.grown) c.requires.beside.book.sized c.requires.beside.book.size
    (sym c.in-Some.ensures.kept) c.serve_hit.ensures.served items fills x

pub returns-in-Some-clause-hit_stays : goal.returns-in-Some-clause-hit_stays
returns-in-Some-clause-hit_stays g c = λ _. (
  same_then _ _ _ (same_alike _ _ c.in-Some.ensures.alike) c.serve_hit.ensures.same,
  refl,
  goes_then 2 4 IsOfHit _ _ _ (goes_within 2 IsOfTable IsOfHit _ _ table_hit c.in-Some.ensures.goes) c.serve_hit.ensures.goes,
)

pub returns-in-Some-clause-armed : goal.returns-in-Some-clause-armed
returns-in-Some-clause-armed g c = hit_arms (g.P.Look.shows c.args.port.now) (g.P.Look.shows c.probe.new.look) (g.P.Look.shows c.serve_hit.new.port) _ c.args.va _ c.args.kind c.in-Some.hit c.serve_hit.result c.in-Some.ensures.probed c.serve_hit.ensures.served c.serve_hit.ensures.armed

pub returns-in-Some-clause-goes : goal.returns-in-Some-clause-goes
returns-in-Some-clause-goes g c = goes_at_most 6 15 IsOfFill _ _ (omega arith) (goes_within 6 IsOfHit IsOfFill _ _ hit_fill
    (goes_then 2 4 IsOfHit _ _ _ (goes_within 2 IsOfTable IsOfHit _ _ table_hit c.in-Some.ensures.goes) c.serve_hit.ensures.goes))

pub returns-in-None-clause-made : goal.returns-in-None-clause-made
returns-in-None-clause-made g c = misses (g.P.Look.shows c.probe.new.look) c.in-None.ensures.probed c.fill.ensures.walked

pub returns-in-None-clause-allowed : goal.returns-in-None-clause-allowed
returns-in-None-clause-allowed g c = λ items fills x. miss_allowed (g.P.Look.shows c.args.port.now) (g.P.Look.shows c.probe.new.look) (g.P.Look.shows c.fill.new.port) c.args.book.now c.fill.new.book c.args.regime.now c.args.va c.args.kind c.fill.result
    c.in-None.ensures.goes.added (ap (λ (y : Shown). y.own.steps) c.in-None.ensures.goes.grown) (same_alike _ _ c.in-None.ensures.alike) c.fill.ensures.table items fills x

pub returns-in-None-clause-leaves : goal.returns-in-None-clause-leaves
returns-in-None-clause-leaves g c = miss_leaves (g.P.Look.shows c.args.port.now) (g.P.Look.shows c.probe.new.look) (g.P.Look.shows c.fill.new.port) c.args.book.now c.fill.new.book c.fill.result (same_alike _ _ c.in-None.ensures.alike) c.fill.ensures.table.leaves

pub returns-in-None-clause-goes : goal.returns-in-None-clause-goes
returns-in-None-clause-goes g c = goes_then 1 14 IsOfFill _ _ _ (goes_within 1 IsOfHit IsOfFill _ _ hit_fill (goes_within 1 IsOfTable IsOfHit _ _ table_hit (goes_made IsOfTable _ _ _ Load 0 _ c.in-None.ensures.probed.compared.made tt))) c.fill.ensures.goes
