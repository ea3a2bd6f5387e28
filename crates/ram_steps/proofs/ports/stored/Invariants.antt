use Rattle.ram_steps.proofs.Marked.{IsStoring}
use Rattle.ram_steps.proofs.ports.stored.Given as goal

abbrev pub invariant-loop-page : goal.invariant-loop-page
invariant-loop-page g l = IsStoring l.page (g.P.Look.shows l.port)

abbrev pub invariant-loop-round : goal.invariant-loop-round
invariant-loop-round g l = IsStoring 8 (g.P.Look.shows l.port)

abbrev pub invariant-loop-index : goal.invariant-loop-index
invariant-loop-index g l = IsStoring 8 (g.P.Look.shows l.port)
