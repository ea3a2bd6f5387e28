use Rattle.std.proofs.Common.{◌∙◌, sym, subst, arith}
use Rattle.tlb_fill.specs.Answered.{ArmsFor}
use Rattle.tlb_fill.specs.Stepping.{IsOfFill}
use Rattle.guest_ram.proofs.Moves.{goes_then, goes_at_most}
use Rattle.guest_access.specs.Reaching.{by_one, by_two}
use Rattle.guest_access.proofs.Arms.{goes_over, low_placed}
use Rattle.guest_access.proofs.Fills.{knows_on, on_then}
use Rattle.guest_access.proofs.Followed.{follows, first_follows_armed, first_follows_in}
use Rattle.guest_access.proofs.reaching.reach.Goals as goal

pub reach_second-requires-clause-over : goal.reach_second-requires-clause-over
reach_second-requires-clause-over g c = let f = follows _ _ _ _ _ _ _ _ c.requires.access c.requires.fills c.translate-found.ensures.made c.translate-found.ensures.allowed c.translate-found.ensures.armed c.translate-found.ensures.beside c.translate-found.ensures.goes in
    let o = goes_over _ _ _ _ _ c.requires.width (sym c.over_from.ensures ∙ c.in-Some.is) f.placed in
    o.over

pub reach_second-requires-clause-access : goal.reach_second-requires-clause-access
reach_second-requires-clause-access g c = let f = follows _ _ _ _ _ _ _ _ c.requires.access c.requires.fills c.translate-found.ensures.made c.translate-found.ensures.allowed c.translate-found.ensures.armed c.translate-found.ensures.beside c.translate-found.ensures.goes in
    f.access

pub reach_second-requires-clause-fills : goal.reach_second-requires-clause-fills
reach_second-requires-clause-fills g c = let f = follows _ _ _ _ _ _ _ _ c.requires.access c.requires.fills c.translate-found.ensures.made c.translate-found.ensures.allowed c.translate-found.ensures.armed c.translate-found.ensures.beside c.translate-found.ensures.goes in
    knows_on _ _ _ _ _ f.goes_on c.requires.fills

pub reach_second-requires-clause-there : goal.reach_second-requires-clause-there
reach_second-requires-clause-there g c = let f = follows _ _ _ _ _ _ _ _ c.requires.access c.requires.fills c.translate-found.ensures.made c.translate-found.ensures.allowed c.translate-found.ensures.armed c.translate-found.ensures.beside c.translate-found.ensures.goes in
    let o = goes_over _ _ _ _ _ c.requires.width (sym c.over_from.ensures ∙ c.in-Some.is) f.placed in
    o.there

pub reach_second-requires-clause-armed : goal.reach_second-requires-clause-armed
reach_second-requires-clause-armed g c = let f = follows _ _ _ _ _ _ _ _ c.requires.access c.requires.fills c.translate-found.ensures.made c.translate-found.ensures.allowed c.translate-found.ensures.armed c.translate-found.ensures.beside c.translate-found.ensures.goes in
    let o = goes_over _ _ _ _ _ c.requires.width (sym c.over_from.ensures ∙ c.in-Some.is) f.placed in
    subst (ArmsFor c.args.kind (g.P.Look.shows c.translate-found.new.port)) o.is f.arms

pub returns-in-Some-clause-reached : goal.returns-in-Some-clause-reached
returns-in-Some-clause-reached g c = let f = follows _ _ _ _ _ _ _ _ c.requires.access c.requires.fills c.translate-found.ensures.made c.translate-found.ensures.allowed c.translate-found.ensures.armed c.translate-found.ensures.beside c.translate-found.ensures.goes in
    by_two _ _ _ _ f.translates (sym c.over_from.ensures ∙ c.in-Some.is) c.reach_second.ensures.reached

pub returns-in-Some-clause-goes_on : goal.returns-in-Some-clause-goes_on
returns-in-Some-clause-goes_on g c = let f = follows _ _ _ _ _ _ _ _ c.requires.access c.requires.fills c.translate-found.ensures.made c.translate-found.ensures.allowed c.translate-found.ensures.armed c.translate-found.ensures.beside c.translate-found.ensures.goes in
    on_then _ _ _ _ _ _ _ f.goes_on c.reach_second.ensures.goes_on

pub returns-in-Some-clause-goes : goal.returns-in-Some-clause-goes
returns-in-Some-clause-goes g c = goes_then 15 15 IsOfFill _ _ _ c.translate-found.ensures.goes c.reach_second.ensures.goes

pub first_reached-requires-clause-low : goal.first_reached-requires-clause-low
first_reached-requires-clause-low g c = let f = follows _ _ _ _ _ _ _ _ c.requires.access c.requires.fills c.translate-found.ensures.made c.translate-found.ensures.allowed c.translate-found.ensures.armed c.translate-found.ensures.beside c.translate-found.ensures.goes in
    low_placed _ _ _ f.access.beside.acting f.placed

pub returns-in-None-clause-reached : goal.returns-in-None-clause-reached
returns-in-None-clause-reached g c = let f = follows _ _ _ _ _ _ _ _ c.requires.access c.requires.fills c.translate-found.ensures.made c.translate-found.ensures.allowed c.translate-found.ensures.armed c.translate-found.ensures.beside c.translate-found.ensures.goes in
    by_one _ f.translates (sym c.over_from.ensures ∙ c.in-None.is) c.first_reached.ensures

pub returns-in-None-clause-goes_on : goal.returns-in-None-clause-goes_on
returns-in-None-clause-goes_on g c = let f = follows _ _ _ _ _ _ _ _ c.requires.access c.requires.fills c.translate-found.ensures.made c.translate-found.ensures.allowed c.translate-found.ensures.armed c.translate-found.ensures.beside c.translate-found.ensures.goes in
    f.goes_on

pub returns-in-None-clause-there : goal.returns-in-None-clause-there
returns-in-None-clause-there g c = let f = follows _ _ _ _ _ _ _ _ c.requires.access c.requires.fills c.translate-found.ensures.made c.translate-found.ensures.allowed c.translate-found.ensures.armed c.translate-found.ensures.beside c.translate-found.ensures.goes in
    first_follows_in _ _ _ _ _ _ _ _ f c.args.width c.args.section _ c.requires.width (sym c.over_from.ensures ∙ c.in-None.is) c.first_reached.ensures

pub returns-in-None-clause-armed : goal.returns-in-None-clause-armed
returns-in-None-clause-armed g c = let f = follows _ _ _ _ _ _ _ _ c.requires.access c.requires.fills c.translate-found.ensures.made c.translate-found.ensures.allowed c.translate-found.ensures.armed c.translate-found.ensures.beside c.translate-found.ensures.goes in
    first_follows_armed _ _ _ _ _ _ _ _ f c.args.width c.args.section _ c.requires.width (sym c.over_from.ensures ∙ c.in-None.is) c.first_reached.ensures

pub returns-in-None-clause-access : goal.returns-in-None-clause-access
returns-in-None-clause-access g c = let f = follows _ _ _ _ _ _ _ _ c.requires.access c.requires.fills c.translate-found.ensures.made c.translate-found.ensures.allowed c.translate-found.ensures.armed c.translate-found.ensures.beside c.translate-found.ensures.goes in
    f.access

pub returns-in-None-clause-goes : goal.returns-in-None-clause-goes
returns-in-None-clause-goes g c = goes_at_most 15 30 IsOfFill _ _ (omega arith) c.translate-found.ensures.goes
