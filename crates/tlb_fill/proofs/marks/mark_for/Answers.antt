use Rattle.std.proofs.Common.{sym, subst}
use Rattle.rv64_priv.specs.declared.state.Kind.{Kind}
use Rattle.tlb_fill.specs.Stepping.{HasMarkedFor}
use Rattle.tlb_fill.proofs.marks.mark_for.Goals as goal

pub returns-in-Store-clause-marked : goal.returns-in-Store-clause-marked
returns-in-Store-clause-marked g c = subst (λ (k : Kind). HasMarkedFor k c.args.address (g.P.Look.shows c.args.port.now) (g.P.Look.shows c.mark_at.new.port)) (sym c.in-Store.is) c.mark_at.ensures.marked
