use Rattle.std.proofs.Common.{sym, ap, ◌∙◌}
use Rattle.exclusive.specs.Claims.{IsOfClaims}
use Rattle.guest_ram.proofs.Moves.{goes_within}
use Rattle.signal_pieces.specs.Signalling.{IsOfSides}
use Rattle.hart_turn.specs.declared.hart.Claim.{Claim}
use Rattle.hart_turn.specs.Harts.{is_made}
use Rattle.hart_turn.proofs.Aside.{claims_sides}
use Rattle.hart_turn.proofs.Moving.{claims}
use Rattle.hart_turn.proofs.sections.go_claim.Goals as goal

pub returns-in-Err-clause-with : goal.returns-in-Err-clause-with
returns-in-Err-clause-with g c = (claims c.args.hart.now (g.P.Look.shows c.args.port.now) (g.P.Look.shows c.claim.new.port) c.requires.with c.args.hart.now.claim c.claim.ensures.goes c.claim.ensures.acting c.requires.outside c.claim.ensures.out
    (c.in-Err.ensures.claimless ∙ sym (ap is_made c.requires.wanted))).with

pub returns-in-Err-clause-part : goal.returns-in-Err-clause-part
returns-in-Err-clause-part g c = (claims c.args.hart.now (g.P.Look.shows c.args.port.now) (g.P.Look.shows c.claim.new.port) c.requires.with c.args.hart.now.claim c.claim.ensures.goes c.claim.ensures.acting c.requires.outside c.claim.ensures.out
    (c.in-Err.ensures.claimless ∙ sym (ap is_made c.requires.wanted))).works

pub returns-in-Err-clause-goes : goal.returns-in-Err-clause-goes
returns-in-Err-clause-goes g c = goes_within 9 IsOfClaims IsOfSides _ _ claims_sides c.claim.ensures.goes

pub returns-in-Ok-clause-with : goal.returns-in-Ok-clause-with
returns-in-Ok-clause-with g c = (claims c.args.hart.now (g.P.Look.shows c.args.port.now) (g.P.Look.shows c.claim.new.port) c.requires.with Claim.Made c.claim.ensures.goes c.claim.ensures.acting c.requires.outside c.claim.ensures.out c.in-Ok.ensures.claimant).with

pub returns-in-Ok-clause-part : goal.returns-in-Ok-clause-part
returns-in-Ok-clause-part g c = (claims c.args.hart.now (g.P.Look.shows c.args.port.now) (g.P.Look.shows c.claim.new.port) c.requires.with Claim.Made c.claim.ensures.goes c.claim.ensures.acting c.requires.outside c.claim.ensures.out c.in-Ok.ensures.claimant).works

pub returns-in-Ok-clause-goes : goal.returns-in-Ok-clause-goes
returns-in-Ok-clause-goes g c = goes_within 9 IsOfClaims IsOfSides _ _ claims_sides c.claim.ensures.goes
