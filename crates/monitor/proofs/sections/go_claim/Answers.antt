use Rattle.std.proofs.Common.{true, sym, subst}
use Rattle.exclusive.specs.Claims.{IsOfClaims}
use Rattle.guest_ram.proofs.Moves.{goes_within}
use Rattle.monitor.specs.Monitors.{Monitor, with_claim}
use Rattle.signal_pieces.specs.Signalling.{IsOfSides}
use Rattle.monitor.specs.Steps.{GoesWith}
use Rattle.monitor.proofs.Areas.{claims_sides}
use Rattle.monitor.proofs.Going.{claimed_with}
use Rattle.monitor.proofs.sections.go_claim.Goals as goal

pub returns-in-Err-clause-goes : goal.returns-in-Err-clause-goes
returns-in-Err-clause-goes g c = goes_within 9 IsOfClaims IsOfSides _ _ claims_sides c.claim.ensures.goes

pub returns-in-Ok-clause-with : goal.returns-in-Ok-clause-with
returns-in-Ok-clause-with g c = subst (λ (z : Monitor). GoesWith (with_claim true z) (g.P.Look.shows c.claim.new.port)) (sym c.monitor.view_is)
    (claimed_with 9 IsOfClaims c.args.monitor.now (g.P.Look.shows c.args.port.now) (g.P.Look.shows c.claim.new.port) c.requires.with c.claim.ensures.goes c.claim.ensures.acting c.claim.ensures.out c.in-Ok.ensures.claimant c.requires.works c.requires.dumps)

pub returns-in-Ok-clause-goes : goal.returns-in-Ok-clause-goes
returns-in-Ok-clause-goes g c = goes_within 9 IsOfClaims IsOfSides _ _ claims_sides c.claim.ensures.goes
