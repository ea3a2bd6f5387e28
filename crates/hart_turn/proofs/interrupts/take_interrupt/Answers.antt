use Rattle.std.proofs.Common.{true, sym, subst, ◌∙◌}
use Rattle.hart_turn.specs.Logs.{LooksOn}
use Rattle.hart_turn.proofs.Looks.{fetch_works, trap_works, with_arch, with_ipi}
use Rattle.rv64_priv.specs.Csr.{regime}
use Rattle.rv64_priv.specs.Trap.{software_interrupt}
use Rattle.fetch_pieces.specs.Regimes.{IsAlike}
use Rattle.fetch_pieces.proofs.Regimes.{trap_alike}
use Rattle.hart_turn.proofs.interrupts.take_interrupt.Goals as goal

pub returns-then-not-is_taken-clause-with : goal.returns-then-not-is_taken-clause-with
returns-then-not-is_taken-clause-with g c = with_ipi c.args.hart.now (g.P.Look.shows c.args.port.now) (g.P.Look.shows c.ipi-pending.new.port) c.ipi-pending.result c.ipi-pending.ensures.step c.requires.with c.ipi-pending.ensures.acting

pub returns-then-not-is_taken-clause-part : goal.returns-then-not-is_taken-clause-part
returns-then-not-is_taken-clause-part g c = fetch_works c.args.hart.now (g.P.Look.shows c.args.port.now) (g.P.Look.shows c.ipi-pending.new.port) c.ipi-pending.result c.ipi-pending.ensures.step c.requires.with c.requires.free c.requires.runs (sym c.is_taken.ensures ∙ c.if-not-is_taken.true)

pub returns-clause-with : goal.returns-clause-with
returns-clause-with g c = with_arch c.args.hart.now c.trap.new.arch (g.P.Look.shows c.ipi-pending.new.port) c.requires.free (subst (λ z. IsAlike (regime c.args.hart.now.arch) (regime z)) (sym c.trap.ensures) (trap_alike c.args.hart.now.arch software_interrupt 0)) (with_ipi c.args.hart.now (g.P.Look.shows c.args.port.now) (g.P.Look.shows c.ipi-pending.new.port) c.ipi-pending.result c.ipi-pending.ensures.step c.requires.with c.ipi-pending.ensures.acting)

pub returns-clause-part : goal.returns-clause-part
returns-clause-part g c = subst (λ z. LooksOn true c.args.hart.now (record c.args.hart.now { arch = z }) (g.P.Look.shows c.args.port.now) (g.P.Look.shows c.ipi-pending.new.port)) (sym c.trap.ensures) (trap_works c.args.hart.now (g.P.Look.shows c.args.port.now) (g.P.Look.shows c.ipi-pending.new.port) c.ipi-pending.result c.ipi-pending.ensures.step c.requires.with c.requires.free c.requires.runs (sym c.is_taken.ensures ∙ c.if-not-is_taken.false))
