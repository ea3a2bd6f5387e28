use Rattle.std.proofs.Common.{◌≡◌, ◌/◌, true, ◌∙◌, sym, subst, arith, rules}
use Rattle.step_laws.specs.Marks.{is_armed}
use Rattle.guest_ram.specs.Areas.{AnyWord, IsOfRam, IsOfOutput, IsOfSection}
use Rattle.guest_ram.proofs.AreaLemmas.{any_word, section_steady, inner_aside, ram_inner, output_inner}
use Rattle.guest_ram.proofs.Moves.{goes_then, goes_within, goes_at_most, armed_goes, stands_goes}
use Rattle.guest_ram_cases.proofs.threads.visit.Goals as goal

pub returns-then-is_err-clause-goes : goal.returns-then-is_err-clause-goes
returns-then-is_err-clause-goes g c = goes_at_most 4 15 AnyWord _ _ (omega arith)
    (goes_then 1 3 AnyWord _ _ _ (goes_within 1 IsOfRam AnyWord _ _ (any_word IsOfRam) c.mark.ensures.goes) (goes_within 3 IsOfSection AnyWord _ _ (any_word IsOfSection) c.enter.ensures.goes))

pub add_to_row-requires-clause-armed : goal.add_to_row-requires-clause-armed
add_to_row-requires-clause-armed g c = λ i least less. let first : i / 512 ≡ 0 = omega arith in
    subst (λ n. is_armed (g.P.Look.shows c.enter.new.port).own.actor n (g.P.Look.shows c.enter.new.port).own.steps ≡ true) (sym first)
    (armed_goes 3 IsOfSection _ _ 0 section_steady c.enter.ensures.goes c.mark.ensures.armed)

pub returns-clause-visited : goal.returns-clause-visited
returns-clause-visited g c = λ _. record {
  marked = g.P.Look.shows c.mark.new.port;
  entered = g.P.Look.shows c.enter.new.port;
  added = g.P.Look.shows c.add_to_row.new.port;
  printed = g.P.Look.shows c.put_byte-put.new.port;
  marks = c.mark.ensures.marked;
  enters = search rules;
  adds = c.add_to_row.ensures.added;
  prints = search rules;
  leaves = c.leave.ensures.step;
}

pub returns-clause-out : goal.returns-clause-out
returns-clause-out g c = (
  c.leave.ensures.left,
  c.leave.ensures.claimless ∙ (stands_goes 2 IsOfOutput _ _ (λ w x. inner_aside w (output_inner w x)) c.put_byte-put.ensures.goes).claim ∙ (stands_goes 8 IsOfRam _ _ (λ w x. inner_aside w (ram_inner w x)) c.add_to_row.ensures.goes).claim
      ∙ c.enter.ensures.claimless ∙ (stands_goes 1 IsOfRam _ _ (λ w x. inner_aside w (ram_inner w x)) c.mark.ensures.goes).claim ∙ c.requires.out.1,
)

pub returns-clause-goes : goal.returns-clause-goes
returns-clause-goes g c = goes_then 14 1 AnyWord _ _ _ (goes_then 12 2 AnyWord _ _ _ (goes_then 4 8 AnyWord _ _ _
    (goes_then 1 3 AnyWord _ _ _ (goes_within 1 IsOfRam AnyWord _ _ (any_word IsOfRam) c.mark.ensures.goes) (goes_within 3 IsOfSection AnyWord _ _ (any_word IsOfSection) c.enter.ensures.goes))
    (goes_within 8 IsOfRam AnyWord _ _ (any_word IsOfRam) c.add_to_row.ensures.goes))
    (goes_within 2 IsOfOutput AnyWord _ _ (any_word IsOfOutput) c.put_byte-put.ensures.goes)) (goes_within 1 IsOfSection AnyWord _ _ (any_word IsOfSection) c.leave.ensures.goes)
