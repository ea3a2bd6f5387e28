use Rattle.std.proofs.Common.{◌+◌, refl, sym, subst}
use Rattle.rv64_priv.specs.Csr.{regime}
use Rattle.rv64_priv.specs.State.{Arch}
use Rattle.flush.specs.Flushed.{full_steps}
use Rattle.turn_pieces.specs.Grows.{Part}
use Rattle.hart_turn.specs.Fences.{locked_out, unanswered}
use Rattle.hart_turn.specs.declared.hart.Call.{Call}
use Rattle.hart_turn.specs.Harts.{GoesWith, counted}
use Rattle.hart_turn.specs.Logs.{AtCount, AtWork}
use Rattle.hart_turn.proofs.Fenced.{held_knows, own_knows, with_later, with_success}
use Rattle.hart_turn.proofs.Fences.{done_works, held_works, waits_works}
use Rattle.hart_turn.proofs.fencing.go_on_with_fence.Goals as goal

pub returns-in-Waiting-clause-waits : goal.returns-in-Waiting-clause-waits
returns-in-Waiting-clause-waits g c = unanswered c.in-Waiting.seen c.fence_turn.new.fence (record { still = refl; goes_on = c.fence_turn.ensures.goes_on }) c.in-Waiting.ensures.own c.in-Waiting.ensures.waiting

pub returns-in-Busy-clause-waits : goal.returns-in-Busy-clause-waits
returns-in-Busy-clause-waits g c = locked_out c.in-Busy.busy c.fence_turn.new.fence (record { still = refl; goes_on = c.fence_turn.ensures.goes_on }) c.in-Busy.ensures.busy

pub returns-in-Waiting-clause-with : goal.returns-in-Waiting-clause-with
returns-in-Waiting-clause-with g c =
    let h = c.args.hart.now in
    let p = g.P.Look.shows c.args.port.now in
    let q = g.P.Look.shows c.fence_turn.new.port in
    with_later (full_steps h.book.size + 3369) h p q c.args.harts c.args.span c.args.fence c.fence_turn.ensures.goes c.requires.with c.requires.call c.fence_turn.new.book c.fence_turn.new.sent c.fence_turn.ensures.beside
    (own_knows c.args.span _ _ (regime h.arch) p q h.book c.fence_turn.new.book c.in-Waiting.ensures.own c.requires.with.fills) c.fence_turn.ensures.sent c.fence_turn.ensures.served c.fence_turn.new.fence c.fence_turn.ensures.goes_on

pub returns-in-Busy-clause-with : goal.returns-in-Busy-clause-with
returns-in-Busy-clause-with g c =
    let h = c.args.hart.now in
    let p = g.P.Look.shows c.args.port.now in
    let q = g.P.Look.shows c.fence_turn.new.port in
    with_later (full_steps h.book.size + 3369) h p q c.args.harts c.args.span c.args.fence c.fence_turn.ensures.goes c.requires.with c.requires.call c.fence_turn.new.book c.fence_turn.new.sent c.fence_turn.ensures.beside
    (held_knows c.args.span _ _ _ (regime h.arch) p q h.book c.fence_turn.new.book c.in-Busy.ensures.busy c.requires.with.fills) c.fence_turn.ensures.sent c.fence_turn.ensures.served c.fence_turn.new.fence c.fence_turn.ensures.goes_on

pub returns-in-Done-clause-with : goal.returns-in-Done-clause-with
returns-in-Done-clause-with g c =
    let h = c.args.hart.now in
    let p = g.P.Look.shows c.args.port.now in
    let q = g.P.Look.shows c.fence_turn.new.port in
    subst (λ (d : Arch). GoesWith (record h { arch = d; call = Call.Nothing; book = c.fence_turn.new.book; sent = c.fence_turn.new.sent }) q) (sym c.succeed.ensures)
    (with_success (full_steps h.book.size + 3369) h p q c.args.harts c.args.span c.args.fence c.fence_turn.ensures.goes c.requires.with c.requires.call c.fence_turn.new.book c.fence_turn.new.sent c.fence_turn.ensures.beside
    (own_knows c.args.span _ _ (regime h.arch) p q h.book c.fence_turn.new.book c.in-Done.ensures.own c.requires.with.fills) c.fence_turn.ensures.sent c.fence_turn.ensures.served)

pub returns-in-Waiting-clause-works : goal.returns-in-Waiting-clause-works
returns-in-Waiting-clause-works g c =
    let h = c.args.hart.now in
    waits_works (full_steps h.book.size + 3369) h (g.P.Look.shows c.args.port.now) (g.P.Look.shows c.fence_turn.new.port) c.args.harts c.args.span c.args.fence c.fence_turn.ensures.goes c.requires.with c.requires.call
    c.fence_turn.new.book c.fence_turn.new.sent c.fence_turn.new.fence c.in-Waiting.ensures.own c.fence_turn.ensures.goes_on

pub returns-in-Busy-clause-works : goal.returns-in-Busy-clause-works
returns-in-Busy-clause-works g c =
    let h = c.args.hart.now in
    held_works (full_steps h.book.size + 3369) h (g.P.Look.shows c.args.port.now) (g.P.Look.shows c.fence_turn.new.port) c.args.harts c.args.span c.args.fence c.fence_turn.ensures.goes c.requires.with c.requires.call
    c.fence_turn.new.book c.fence_turn.new.sent c.in-Busy.busy.holder c.fence_turn.new.fence c.in-Busy.ensures.busy c.fence_turn.ensures.goes_on

pub returns-in-Done-clause-part : goal.returns-in-Done-clause-part
returns-in-Done-clause-part g c =
    let h = c.args.hart.now in
    let p = g.P.Look.shows c.args.port.now in
    let q = g.P.Look.shows c.fence_turn.new.port in
    subst (λ (d : Arch). Part (AtWork h p) (AtCount (counted (record h { arch = d; call = Call.Nothing; book = c.fence_turn.new.book; sent = c.fence_turn.new.sent })) q)) (sym c.succeed.ensures)
    (done_works (full_steps h.book.size + 3369) h p q c.args.harts c.args.span c.args.fence c.fence_turn.ensures.goes c.requires.with c.requires.call c.fence_turn.new.book c.fence_turn.new.sent _ c.in-Done.ensures.own c.in-Done.ensures.own_done c.in-Done.ensures.done)
