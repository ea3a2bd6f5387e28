use Rattle.std.proofs.Common.{◌*◌, refl, subst, arith}
use Rattle.step_laws.specs.declared.steps.WordOp.TheVariants.{Exchange}
use Rattle.step_laws.specs.Fields.{IsRequest}
use Rattle.step_laws.specs.Map.{Lock}
use Rattle.guest_ram.specs.Areas.{IsOfTable}
use Rattle.guest_ram.specs.Ports.{GoesBy}
use Rattle.guest_ram.proofs.Moves.{goes_made, goes_none, goes_at_most}
use Rattle.sbi_calls.specs.Fences.{HasFlushedPiece, none, more, piece_steps}
use Rattle.sbi_calls.proofs.Owns.{small, within_busy, within_more}
use Rattle.sbi_calls.proofs.flushing.flush_pieces.Goals as goal

pub loop-number-init : goal.loop-number-init
loop-number-init g c = record { flushed = none; within = small refl (goes_at_most 0 (386 * c.args.flushed) IsOfTable _ _ (omega arith) (goes_none IsOfTable _)); beside = c.requires.beside }

pub returns-in-Err-clause-goes : goal.returns-in-Err-clause-goes
returns-in-Err-clause-goes g c = within_busy c.args.book.now _ (g.P.Look.shows c.loop-number.port) (g.P.Look.shows c.flush_request.new.port) c.loop-number.book c.flush_request.new.book c.args.span.now c.loop-number.number
    (omega (arith, c.pieces-number-end.ensures.count)) (subst IsRequest c.piece.ensures.piece c.piece.ensures.request) (omega (arith, c.pieces-number-end.ensures.few)) c.loop-number.invariant.within
    (goes_made IsOfTable _ _ (Lock c.loop-number.book.hart) (Exchange 0) _ _ c.in-Err.ensures.busy.found.1 tt)

pub loop-number-preserved : goal.loop-number-preserved
loop-number-preserved g c = let i = c.loop-number.invariant in let p = g.P.Look.shows c.loop-number.port in let q = g.P.Look.shows c.flush_request.new.port in let b = c.loop-number.book in let d = c.flush_request.new.book in
    let made = subst (λ r. HasFlushedPiece r p q b d) c.piece.ensures.piece c.in-Ok.ensures.flushed in
    let goes = subst (λ r. GoesBy (piece_steps b.large b.size r) IsOfTable p q) c.piece.ensures.piece c.flush_request.ensures.goes in record {
      flushed = more i.flushed made goes c.flush_request.ensures.beside;
      within = within_more c.args.book.now _ p q b d c.args.span.now c.loop-number.number (omega (arith, c.pieces-number-end.ensures.count)) (subst IsRequest c.piece.ensures.piece c.piece.ensures.request) i.within made goes;
      beside = c.flush_request.ensures.beside;
    }
