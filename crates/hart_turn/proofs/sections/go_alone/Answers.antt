use Rattle.std.proofs.Common.{sym, ◌∙◌}
use Rattle.guest_ram.proofs.Moves.{goes_then}
use Rattle.signal_pieces.specs.Signalling.{IsOfSides}
use Rattle.turn_pieces.proofs.Writers.{part_then}
use Rattle.hart_turn.specs.Logs.{AtWork}
use Rattle.hart_turn.specs.Parts.{HasGoneAlone, HasToWait}
use Rattle.hart_turn.specs.Parts as parts
use Rattle.hart_turn.proofs.Moving.{on_err, on_ok, wants_it}
use Rattle.hart_turn.proofs.sections.go_alone.Goals as goal

pub returns-in-Ok-clause-alone : goal.returns-in-Ok-clause-alone
returns-in-Ok-clause-alone g c = on_ok c.look_around-in-Ok.result (λ x. parts.claimed_then (g.P.Look.shows c.go_claim.new.port) (wants_it c.args.hart.now.claim c.requires.wanted (sym c.is_made.ensures ∙ c.if-is_made.false)) c.in-Ok.ensures.claimed x) c.look_around-in-Ok.ensures.alone

pub returns-in-Ok-clause-waits : goal.returns-in-Ok-clause-waits
returns-in-Ok-clause-waits g c = on_err c.look_around-in-Ok.result (λ seen x. parts.claimed_first (g.P.Look.shows c.go_claim.new.port) (wants_it c.args.hart.now.claim c.requires.wanted (sym c.is_made.ensures ∙ c.if-is_made.false)) c.in-Ok.ensures.made c.in-Ok.ensures.claimed x) c.look_around-in-Ok.ensures.waits

pub returns-in-Ok-clause-part : goal.returns-in-Ok-clause-part
returns-in-Ok-clause-part g c = part_then (AtWork c.args.hart.now (g.P.Look.shows c.args.port.now)) (AtWork c.go_claim.new.hart (g.P.Look.shows c.go_claim.new.port)) (AtWork c.go_claim.new.hart (g.P.Look.shows c.look_around-in-Ok.new.port)) c.go_claim.ensures.part c.look_around-in-Ok.ensures.part

pub returns-in-Ok-clause-goes : goal.returns-in-Ok-clause-goes
returns-in-Ok-clause-goes g c = goes_then 9 9 IsOfSides _ _ _ c.go_claim.ensures.goes c.look_around-in-Ok.ensures.goes
