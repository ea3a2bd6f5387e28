use Rattle.std.proofs.Common.{sym, ◌∙◌}
use Rattle.need_rows.proofs.Settled.{ready_served}
use Rattle.need_rows.proofs.needs.serve_row.Goals as goal

pub returns-clause-ready : goal.returns-clause-ready
returns-clause-ready g c runs = ready_served _ _ _ _ _ _ _ c.serve_need-end.ensures.served (sym c.goes_on.ensures ∙ runs)
