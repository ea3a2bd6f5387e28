use Rattle.std.proofs.Common.{sym, ap, ◌∙◌}
use Rattle.guest_ram.proofs.Moves.{goes_then}
use Rattle.monitor.specs.Monitors.{Monitor}
use Rattle.signal_pieces.specs.Signalling.{IsOfSides}
use Rattle.monitor.specs.Steps as steps
use Rattle.monitor.proofs.Going.{on_err, on_ok}
use Rattle.monitor.proofs.sections.go_alone.Goals as goal

pub returns-in-Ok-clause-alone : goal.returns-in-Ok-clause-alone
returns-in-Ok-clause-alone g c = on_ok c.look_around-in-Ok.result (λ x. steps.claimed_then (g.P.Look.shows c.go_claim.new.port) (ap (λ (x : Monitor). x.claimed) (sym c.monitor.view_is) ∙ c.if-monitor.false) c.in-Ok.ensures.claimed x) c.look_around-in-Ok.ensures.alone

pub returns-in-Ok-clause-waits : goal.returns-in-Ok-clause-waits
returns-in-Ok-clause-waits g c = on_err c.look_around-in-Ok.result (λ seen x. steps.claimed_first (g.P.Look.shows c.go_claim.new.port) (ap (λ (x : Monitor). x.claimed) (sym c.monitor.view_is) ∙ c.if-monitor.false) c.in-Ok.ensures.made c.in-Ok.ensures.claimed x) c.look_around-in-Ok.ensures.waits

pub returns-in-Ok-clause-goes : goal.returns-in-Ok-clause-goes
returns-in-Ok-clause-goes g c = goes_then 9 9 IsOfSides _ _ _ c.go_claim.ensures.goes c.look_around-in-Ok.ensures.goes
