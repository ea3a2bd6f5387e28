use Rattle.std.proofs.Common.{◌<◌, ◌∙◌, sym, subst}
use Rattle.guest_ram.specs.Ports.{Shown}
use Rattle.tlb_probes.proofs.ports.found.Goals as goal

pub loop-index-preserved : goal.loop-index-preserved
loop-index-preserved g c = let w = c.loop-index.invariant in let a = c.probe.ensures.alike in record {
  acting = c.probe.ensures.acting;
  hart = subst (λ (x : Shown). x.own.actor < x.machine.layout.harts) (sym c.probe.ensures.goes.grown) w.hart;
  book = c.probe.ensures.book;
  lock_is = a.held ∙ w.lock_is;
  paid = λ j f compare. a.due j f ∙ w.paid j f compare;
}
