use Rattle.std.proofs.Common.{◌≡◌, ◌/◌, true, sym, subst, arith}
use Rattle.step_laws.specs.Marks.{is_armed}
use Rattle.guest_ram.specs.Areas.{IsApart, IsOfEnd, IsOfRam, IsOfSection}
use Rattle.guest_ram.proofs.AreaLemmas.{end_apart, ram_apart, section_apart, section_steady}
use Rattle.guest_ram.proofs.Moves.{armed_goes, goes_at_most, goes_then, goes_within}
use Rattle.guest_ram_cases.proofs.tracking.store_on_page.Goals as goal

pub returns-then-is_err-clause-goes : goal.returns-then-is_err-clause-goes
returns-then-is_err-clause-goes g c = goes_at_most 5 14 IsApart _ _ (omega arith) (goes_then 4 1 IsApart _ _ _ (goes_then 1 3 IsApart _ _ _ (goes_within 1 IsOfRam IsApart _ _ ram_apart c.mark.ensures.goes)
    (goes_within 3 IsOfSection IsApart _ _ section_apart c.enter.ensures.goes)) (goes_within 1 IsOfEnd IsApart _ _ end_apart c.begin_turn.ensures.goes))

pub add_to_row-requires-clause-armed : goal.add_to_row-requires-clause-armed
add_to_row-requires-clause-armed g c = λ i least less. let first : i / 512 ≡ 0 = omega (arith, less) in
    subst (λ n. is_armed (g.P.Look.shows c.enter.new.port).own.actor n (g.P.Look.shows c.enter.new.port).own.steps ≡ true) (sym first)
    (armed_goes 3 IsOfSection _ _ 0 section_steady c.enter.ensures.goes c.mark.ensures.armed)

pub returns-clause-goes : goal.returns-clause-goes
returns-clause-goes g c = goes_then 13 1 IsApart _ _ _ (goes_then 12 1 IsApart _ _ _ (goes_then 4 8 IsApart _ _ _ (goes_then 1 3 IsApart _ _ _ (goes_within 1 IsOfRam IsApart _ _ ram_apart c.mark.ensures.goes)
    (goes_within 3 IsOfSection IsApart _ _ section_apart c.enter.ensures.goes)) (goes_within 8 IsOfRam IsApart _ _ ram_apart c.add_to_row.ensures.goes))
    (goes_within 1 IsOfSection IsApart _ _ section_apart c.leave.ensures.goes)) (goes_within 1 IsOfEnd IsApart _ _ end_apart c.begin_turn-2.ensures.goes)
