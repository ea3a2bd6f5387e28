use Rattle.std.proofs.Common.{arith}
use Rattle.ram_steps.proofs.Marked.{more_marked, may_store, stored_more}
use Rattle.ram_steps.proofs.ports.stored.Goals as goal

pub loop-page-init : goal.loop-page-init
loop-page-init g c = record { acting = c.requires.acting; hart = c.requires.hart; inside = c.requires.inside; armed = λ k less. absurd (omega arith) }

pub loop-page-preserved : goal.loop-page-preserved
loop-page-preserved g c = more_marked c.loop-page.page _ _ c.loop-page.invariant c.mark.ensures.goes c.mark.ensures.armed c.mark.ensures.acting

pub store-requires-clause-may : goal.store-requires-clause-may
store-requires-clause-may g c = may_store _ _ c.loop-index.index _ c.loop-index.invariant c.ram_word_at.ensures.name (omega arith)

pub loop-index-preserved : goal.loop-index-preserved
loop-index-preserved g c = stored_more _ _ _ c.loop-index.index _ _ c.loop-index.invariant c.store.ensures.step c.ram_word_at.ensures.name
