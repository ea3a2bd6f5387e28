use Rattle.std.proofs.Common.{◌<◌, ◌∙◌, refl, ap, sym, subst, arith}
use Rattle.std.specs.Prelude.{slice_index}
use Rattle.guest_ram.specs.Areas.{IsOfTable}
use Rattle.guest_ram.specs.Ports.{Shown}
use Rattle.guest_ram.proofs.Moves.{goes_none, goes_at_most}
use Rattle.work_queue.proofs.Ringed.{sent_goes, served_goes}
use Rattle.sbi_calls.specs.Fences.{IsOfPolls, none}
use Rattle.sbi_calls.proofs.Asks.{places_of, posts_of}
use Rattle.sbi_calls.proofs.Fenced.{target_back}
use Rattle.sbi_calls.proofs.Turned.{answered_at, beside_places, beside_posts, flushed_as, goes_first, goes_held, goes_third, table_no_place}
use Rattle.sbi_calls.proofs.fencing.fence_turn.Goals as goal

pub returns-in-Some-clause-own : goal.returns-in-Some-clause-own
returns-in-Some-clause-own g c = let p = g.P.Look.shows c.args.port.now in record {
  asked = g.P.Look.shows c.post_all.new.port;
  served = g.P.Look.shows c.post_all.new.port;
  posts = c.post_all.ensures.goes;
  flushed = flushed_as c.args.span.now _ _ _ _ _ _ c.args.book.now c.args.book.now refl (ap (λ xs. slice_index xs p.own.actor) (sym c.post_all.ensures.acked)) none;
  polls = let a = (g.P.Look.shows c.post_all.new.port).own.actor in goes_at_most 0 64 (IsOfPolls a) _ _ (omega arith) (goes_none (IsOfPolls a) _);
}

pub returns-in-Some-clause-beside : goal.returns-in-Some-clause-beside
returns-in-Some-clause-beside g c = beside_posts c.args.book.now 216 _ _ c.requires.beside (posts_of 216 _ _ _ c.post_all.ensures.goes) c.post_all.ensures.acting

pub returns-in-Some-clause-goes : goal.returns-in-Some-clause-goes
returns-in-Some-clause-goes g c = goes_first c.args.book.now.size _ _ (posts_of 216 _ _ _ c.post_all.ensures.goes)

pub flush_own-requires-clause-beside : goal.flush_own-requires-clause-beside
flush_own-requires-clause-beside g c = beside_posts c.args.book.now 216 _ _ c.requires.beside (posts_of 216 _ _ _ c.post_all.ensures.goes) c.post_all.ensures.acting

pub returns-in-Some-flush_own-clause-goes_on : goal.returns-in-Some-flush_own-clause-goes_on
returns-in-Some-flush_own-clause-goes_on g c = λ base f. c.flush_own.ensures.goes_on c.post_all.new.sent base (c.post_all.ensures.goes_on base f)

pub returns-in-Some-flush_own-clause-sent : goal.returns-in-Some-flush_own-clause-sent
returns-in-Some-flush_own-clause-sent g c = sent_goes _ IsOfTable _ _ table_no_place c.flush_own.ensures.goes c.post_all.new.sent c.post_all.ensures.sent

pub returns-in-Some-flush_own-clause-served : goal.returns-in-Some-flush_own-clause-served
returns-in-Some-flush_own-clause-served g c = λ served k. served_goes _ IsOfTable _ _ table_no_place c.flush_own.ensures.goes served (c.post_all.ensures.served served k)

pub returns-in-Some-flush_own-clause-goes : goal.returns-in-Some-flush_own-clause-goes
returns-in-Some-flush_own-clause-goes g c = goes_held c.args.book.now.size _ _ _ (posts_of 216 _ _ _ c.post_all.ensures.goes) c.flush_own.ensures.goes

pub poll_all-requires-clause-sent : goal.poll_all-requires-clause-sent
poll_all-requires-clause-sent g c = sent_goes _ IsOfTable _ _ table_no_place c.flush_own.ensures.goes c.post_all.new.sent c.post_all.ensures.sent

pub poll_all-requires-clause-fence : goal.poll_all-requires-clause-fence
poll_all-requires-clause-fence g c = let f = c.requires.fence in (c.args.span.now, c.requires.span, (f.0, c.flush_own.ensures.goes_on c.post_all.new.sent f.0 (c.post_all.ensures.goes_on f.0 f.1)))

pub returns-in-None-poll_all-clause-goes_on : goal.returns-in-None-poll_all-clause-goes_on
returns-in-None-poll_all-clause-goes_on g c = λ base f. c.poll_all.ensures.goes_on c.args.span.now base (c.flush_own.ensures.goes_on c.post_all.new.sent base (c.post_all.ensures.goes_on base f))

pub returns-in-None-poll_all-clause-done : goal.returns-in-None-poll_all-clause-done
returns-in-None-poll_all-clause-done g c = let p = g.P.Look.shows c.args.port.now in let a = g.P.Look.shows c.post_all.new.port in let b = g.P.Look.shows c.flush_own.new.port in let q = g.P.Look.shows c.poll_all.new.port in
    λ base f t i. let l : t < p.machine.layout.harts = c.requires.harts t i.1 in
    let la : t < a.machine.layout.harts = subst (λ (x : Shown). t < x.machine.layout.harts) (sym c.post_all.ensures.goes.grown) l in
    let lb : t < b.machine.layout.harts = subst (λ (x : Shown). t < x.machine.layout.harts) (sym c.flush_own.ensures.goes.grown) la in
    let lq : t < q.machine.layout.harts = subst (λ (x : Shown). t < x.machine.layout.harts) (sym c.poll_all.ensures.goes.grown) lb in
    answered_at c.args.harts c.args.span.now c.post_all.new.sent c.poll_all.new.fence base t q
    (c.poll_all.ensures.goes_on c.args.span.now base (c.flush_own.ensures.goes_on c.post_all.new.sent base (c.post_all.ensures.goes_on base f))) i
    (c.in-None-poll_all.ensures.all t lq i ∙ ap (λ xs. slice_index xs t) c.flush_own.ensures.posted
    ∙ c.in-None.ensures.all t la (target_back _ IsOfTable c.args.harts t a b c.flush_own.ensures.goes (target_back 64 (IsOfPolls b.own.actor) c.args.harts t b q c.poll_all.ensures.goes i)))

pub returns-in-None-poll_all-clause-served : goal.returns-in-None-poll_all-clause-served
returns-in-None-poll_all-clause-served g c = λ served k. c.poll_all.ensures.served served (served_goes _ IsOfTable _ _ table_no_place c.flush_own.ensures.goes served (c.post_all.ensures.served served k))

pub returns-in-None-poll_all-clause-beside : goal.returns-in-None-poll_all-clause-beside
returns-in-None-poll_all-clause-beside g c = beside_places c.flush_own.new.book 64 _ _ c.flush_own.ensures.beside (places_of 64 _ _ _ c.poll_all.ensures.goes) c.poll_all.ensures.acting

pub returns-in-None-poll_all-clause-goes : goal.returns-in-None-poll_all-clause-goes
returns-in-None-poll_all-clause-goes g c = goes_third c.args.book.now.size _ _ _ _ (posts_of 216 _ _ _ c.post_all.ensures.goes) c.flush_own.ensures.goes (places_of 64 _ _ _ c.poll_all.ensures.goes)

pub returns-in-Some-poll_all-clause-goes_on : goal.returns-in-Some-poll_all-clause-goes_on
returns-in-Some-poll_all-clause-goes_on g c = λ base f. c.poll_all.ensures.goes_on c.args.span.now base (c.flush_own.ensures.goes_on c.post_all.new.sent base (c.post_all.ensures.goes_on base f))

pub returns-in-Some-poll_all-clause-served : goal.returns-in-Some-poll_all-clause-served
returns-in-Some-poll_all-clause-served g c = λ served k. c.poll_all.ensures.served served (served_goes _ IsOfTable _ _ table_no_place c.flush_own.ensures.goes served (c.post_all.ensures.served served k))

pub returns-in-Some-poll_all-clause-beside : goal.returns-in-Some-poll_all-clause-beside
returns-in-Some-poll_all-clause-beside g c = beside_places c.flush_own.new.book 64 _ _ c.flush_own.ensures.beside (places_of 64 _ _ _ c.poll_all.ensures.goes) c.poll_all.ensures.acting

pub returns-in-Some-poll_all-clause-goes : goal.returns-in-Some-poll_all-clause-goes
returns-in-Some-poll_all-clause-goes g c = goes_third c.args.book.now.size _ _ _ _ (posts_of 216 _ _ _ c.post_all.ensures.goes) c.flush_own.ensures.goes (places_of 64 _ _ _ c.poll_all.ensures.goes)
