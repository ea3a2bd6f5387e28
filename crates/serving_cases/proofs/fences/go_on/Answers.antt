use Rattle.std.proofs.Common.{◌<◌, sym, subst}
use Rattle.guest_ram.specs.Ports.{Shown}
use Rattle.serving_cases.proofs.fences.go_on.Goals as goal

pub returns-clause-fencer : goal.returns-clause-fencer
returns-clause-fencer g c = let before = c.requires.fencer in let made = c.fence_turn.ensures in record {
  beside = made.beside;
  sent_by = made.sent;
  fencing = (before.fencing.0, made.goes_on before.fencing.0 before.fencing.1);
  harts = λ t n. subst (λ (x : Shown). t < x.machine.layout.harts) (sym made.goes.grown) (before.harts t n);
}
