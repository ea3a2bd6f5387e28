use Rattle.std.proofs.Common.{refl}
use Rattle.guest_ram.specs.Areas.{IsOfSection}
use Rattle.guest_ram.proofs.Moves.{goes_within}
use Rattle.signal_pieces.specs.Signalling.{IsOfSides}
use Rattle.hart_turn.specs.declared.hart.Claim.{Claim}
use Rattle.hart_turn.specs.Harts.{with_claim}
use Rattle.hart_turn.proofs.Aside.{section_sides}
use Rattle.hart_turn.proofs.Moving.{gave, restands}
use Rattle.hart_turn.proofs.leaving.give_back.Goals as goal

pub returns-then-not-is_made-clause-part : goal.returns-then-not-is_made-clause-part
returns-then-not-is_made-clause-part g c = restands c.args.hart.now (with_claim Claim.Unwanted c.args.hart.now) (g.P.Look.shows c.args.port.now) refl

pub returns-clause-with : goal.returns-clause-with
returns-clause-with g c = (gave c.args.hart.now (g.P.Look.shows c.args.port.now) (g.P.Look.shows c.release.new.port) c.requires.with c.release.ensures.goes c.release.ensures.acting c.release.ensures.phase c.release.ensures.claimless).with

pub returns-clause-part : goal.returns-clause-part
returns-clause-part g c = (gave c.args.hart.now (g.P.Look.shows c.args.port.now) (g.P.Look.shows c.release.new.port) c.requires.with c.release.ensures.goes c.release.ensures.acting c.release.ensures.phase c.release.ensures.claimless).ends

pub returns-clause-goes : goal.returns-clause-goes
returns-clause-goes g c = goes_within 1 IsOfSection IsOfSides _ _ section_sides c.release.ensures.goes
