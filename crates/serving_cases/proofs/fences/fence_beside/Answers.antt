use Rattle.std.proofs.Common.{subst, sym, []}
use Rattle.tlb_entry.specs.Books.{GoesWith}
use Rattle.serving_cases.proofs.Fresh.{fresh_fencer, fresh_server}
use Rattle.serving_cases.proofs.fences.fence_beside.Goals as goal

pub go_on-begun-requires-clause-fencer : goal.go_on-begun-requires-clause-fencer
go_on-begun-requires-clause-fencer g c = fresh_fencer c.args.span.now c.new-book.result (g.P.Look.shows c.args.first.now) c.requires.first (subst (λ a. GoesWith c.new-book.result a []) (sym c.requires.source) c.new-book.ensures.goes) c.requires.source c.requires.two

pub serve_first-one-requires : goal.serve_first-one-requires
serve_first-one-requires g c = record { server = fresh_server c.new-other.result (g.Q.Look.shows c.args.second.now) c.requires.second (subst (λ a. GoesWith c.new-other.result a []) (sym c.requires.target) c.new-other.ensures.goes) c.new-other.ensures.large c.requires.target c.requires.other_two }
