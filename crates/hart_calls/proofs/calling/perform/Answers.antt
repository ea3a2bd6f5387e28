use Rattle.std.proofs.Common.{refl, sym, subst}
use Rattle.hart_calls.specs.Called.{HasDone, none_named, some_named}
use Rattle.hart_calls.specs.declared.asking.Asked.{Asked}
use Rattle.hart_calls.specs.declared.outcomes.SbiEnd.{SbiEnd}
use Rattle.hart_calls.proofs.calling.perform.Goals as goal

pub returns-then-harts-eq0 : goal.returns-then-harts-eq0
returns-then-harts-eq0 g c =
    let p = (g.P.Look.shows c.args.port.now) in
    subst (λ (asked : Asked). HasDone p p c.args.section asked c.success-then-harts-eq0.result) (sym c.in-Fences.is)
    (subst (λ (end : SbiEnd). HasDone p p c.args.section (Asked.Fences c.in-Fences.harts c.in-Fences.span) end) (sym c.success-then-harts-eq0.ensures) (none_named c.if-harts-eq0.true, refl))

pub returns-else-harts-eq0 : goal.returns-else-harts-eq0
returns-else-harts-eq0 g c =
    let p = (g.P.Look.shows c.args.port.now) in
    subst (λ (asked : Asked). HasDone p p c.args.section asked (SbiEnd.Fence c.in-Fences.harts c.in-Fences.span)) (sym c.in-Fences.is) (some_named c.if-harts-eq0.false, refl)
