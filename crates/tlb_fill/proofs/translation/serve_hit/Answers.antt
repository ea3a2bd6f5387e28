use Rattle.std.proofs.Common.{refl, sym, ◌∙◌}
use Rattle.tlb_fill.specs.Stepping.{barred}
use Rattle.tlb_fill.proofs.translation.serve_hit.Goals as goal

pub returns-in-Err-clause-served : goal.returns-in-Err-clause-served
returns-in-Err-clause-served g c = barred c.in-Err.busy.holder (sym c.waits.ensures ∙ c.if-not-waits.false) c.in-Err.ensures.busy refl
