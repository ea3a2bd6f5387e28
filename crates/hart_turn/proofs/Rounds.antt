-- Requests that a hart serves: what goes with it behind them.
use Rattle.std.proofs.Common.{◌≡◌, ℕ, ◌+◌, Bool, true, false, List, [], ◌∷◌, ◌++◌, refl, sym, ap, subst, ◌∙◌}
use Rattle.std.specs.Prelude.{IfErr, IfOk, Result, Ok, Err}
use Rattle.rv64_priv.specs.Csr.{regime}
use Rattle.rv64_priv.specs.Flush.{Full, Pages}
use Rattle.rv64_priv.specs.declared.state.Regime.{Regime}
use Rattle.step_laws.specs.declared.request.Request.{Request}
use Rattle.step_laws.specs.declared.request.Request.TheVariants.{FlushAll, FlushPages, Drain}
use Rattle.step_laws.specs.declared.steps.WordOp.{WordOp}
use Rattle.step_laws.specs.declared.steps.WordOp.TheVariants.{Exchange, Load, Store}
use Rattle.step_laws.specs.declared.steps.Step.{Step}
use Rattle.step_laws.specs.Map.{Word, Kick, Lock, Place, Size, Tlb}
use Rattle.step_laws.specs.Words.{monitor}
use Rattle.machine_model.specs.Event.{Event}
use Rattle.machine_model.specs.State.{Setup}
use Rattle.guest_ram.specs.Areas.{IsAside, IsOfService, IsOfTable}
use Rattle.guest_ram.specs.Ports.{GoesBy, Made, Shown}
use Rattle.guest_ram.proofs.Moves.{actor_goes, goes_made, goes_then, goes_within, stands_goes}
use Rattle.tlb_entry.specs.declared.books.Book.{Book}
use Rattle.tlb_lock.specs.declared.lock.Busy.{Busy}
use Rattle.kept_fills.specs.Beside.{IsBeside}
use Rattle.flush.specs.Flushed.{HasFlushed, HasFlushedAll, behind_flush, full_steps}
use Rattle.guest_access.specs.Reaching.{KnowsFills}
use Rattle.tlb_table.proofs.Aside.{IsOffTable}
use Rattle.signal_pieces.proofs.Single.{goes_one}
use Rattle.work_queue.specs.declared.rings.Served.{Served}
use Rattle.work_queue.specs.Rings.{IsSentBy, IsServedBy, next_ack}
use Rattle.request_serving.specs.Served.{HasFills, HasFlushedFor, HasGone, HasMoved, HasStopped, idle, more, nobody, none, one}
use Rattle.hart_signals.specs.Signals.{HasClearedKick}
use Rattle.hart_signals.proofs.Aside.{IsOffStates, opening_goes, owing_goes, running_goes}
use Rattle.turn_pieces.specs.Log.{Log, events_of}
use Rattle.serving_pieces.specs.Serving.{EndsWith, IsAtRest, flush_of_turn, flushes_of_round, with_flush}
use Rattle.serving_pieces.proofs.Rounds.{rounds_rest, stops_rest}
use Rattle.fence_pieces.specs.Behind.{AreNoFetches}
use Rattle.fence_pieces.proofs.Behind.{grown_is_behind}
use Rattle.signal_pieces.specs.Signalling.{nobody as no_page}
use Rattle.hart_turn.specs.declared.hart.Hart.{Hart}
use Rattle.hart_turn.specs.Harts.{GoesWith, own_of}
use Rattle.hart_turn.specs.Logs.{AtEnd, AtWork, WorksOn}
use Rattle.hart_turn.specs.Parts.{IsOfRequests}
use Rattle.hart_turn.proofs.Aside.{IsNoEnd, call_goes, fills_goes, stand_as, stop_goes}
use Rattle.hart_turn.proofs.Draws.{requests_neither}
use Rattle.hart_turn.proofs.Said.{said_goes}
use Rattle.hart_turn.proofs.Sides.{call_behind}

-- flushes are no fetches
none_append : (a : ℕ) (l m : List Event) → AreNoFetches a l → AreNoFetches a m → AreNoFetches a (l ++ m)
none_append a [] m x y = y
none_append a (e ∷ l) m x y = (x.0, none_append a l m x.1 y)

request_none : (request : Request) (large : Bool) (a : ℕ) → AreNoFetches a (events_of (with_flush request large a []))
request_none FlushAll large a = (refl, tt)
request_none (FlushPages page count) large a = (refl, tt)
request_none Drain large a = tt

turn_none : {source : ℕ} {s : Served} {p : Shown} {b : Book} {any : Bool} {t : Served} {q : Shown} {c : Book} {now : Bool} (x : HasMoved source s p b any t q c now) (a : ℕ) → AreNoFetches a (flush_of_turn x a)
turn_none (nobody absent) a = tt
turn_none (idle found) a = tt
turn_none {b = b} (one x) a = request_none x.request b.large a

round_none : {s : Served} {p : Shown} {b : Book} {n : ℕ} {t : Served} {q : Shown} {c : Book} {any : Bool} (x : HasGone s p b n t q c any) (a : ℕ) → AreNoFetches a (flushes_of_round x a)
round_none none a = tt
round_none (more before now) a = none_append a (flush_of_turn now a) (flushes_of_round before a) (turn_none now a) (round_none before a)

-- the entries of the table are of the fills that are left, of walks under the same regime
pub has_fills : (b : Book) (r : Regime) (p : Shown) → KnowsFills b r p → HasFills b p
has_fills b r p k = (r, k.items, k.fills, k.goes)

all_knows : (r : Regime) (p q : Shown) (b c : Book) (added : List Step) → q.own.steps ≡ added ++ p.own.steps → KnowsFills b r p → HasFlushedAll p q b c → KnowsFills c r q
all_knows r p q b c added steps k f = record { items = behind_flush Full added k.items; fills = []; goes = f.goes added r r k.items k.fills steps k.goes }

pub flushed_knows : (n : ℕ) (r : Regime) (p q : Shown) (b c : Book) (request : Request) → KnowsFills b r p → GoesBy n IsOfTable p q → HasFlushedFor request p q b c → KnowsFills c r q
flushed_knows n r p q b c FlushAll k goes f = all_knows r p q b c goes.added (ap (λ (x : Shown). x.own.steps) goes.grown) k f
flushed_knows n r p q b c (FlushPages page count) k goes f = by_large b.large f
  where
    by_large : (large : Bool) → HasFlushed large p q b c page count → KnowsFills c r q
    by_large true x = all_knows r p q b c goes.added (ap (λ (y : Shown). y.own.steps) goes.grown) k x
    by_large false x = record { items = behind_flush (Pages page count) goes.added k.items; fills = k.fills; goes = x.goes goes.added r k.items k.fills (ap (λ (y : Shown). y.own.steps) goes.grown) k.goes }
flushed_knows n r p q b c Drain k goes f = subst (λ (d : Book). KnowsFills d r q) (sym f.1) (subst (λ (x : Shown). KnowsFills b r x) (sym f.0) k)

place_knows : (b : Book) (r : Regime) (p q : Shown) (t s k : ℕ) (op : WordOp) (arg answer : ℕ) → Made p q (Place t s k) op arg answer → KnowsFills b r p → KnowsFills b r q
place_knows b r p q t s k op arg answer m x = fills_goes b r 1 (λ v. v ≡ Place t s k) p q (λ v e. subst IsOffTable (sym e) tt) (goes_one p q (Place t s k) op arg answer m) x

turn_knows : (r : Regime) (source : ℕ) (s : Served) (p : Shown) (b : Book) (any : Bool) (t : Served) (q : Shown) (c : Book) (now : Bool) → HasMoved source s p b any t q c now → KnowsFills b r p → KnowsFills c r q
turn_knows r source s p b any t q c now (nobody absent) k = k
turn_knows r source s p b any t q c now (idle m) k = place_knows b r p q p.own.actor source (next_ack s source) Load 0 0 m k
turn_knows r source s p b any t q c now (one x) k =
    let loaded = place_knows b r p x.loaded p.own.actor source (next_ack s source) Load 0 x.finds.word x.finds.finds k in
    let flushed = flushed_knows (full_steps b.size + 386) r x.loaded x.done.flushed b c x.request loaded x.done.goes x.done.flushes in
    place_knows c r x.done.flushed q x.done.flushed.own.actor source (next_ack s source) Store 0 0 x.done.acks flushed

round_knows : (r : Regime) (s : Served) (p : Shown) (b : Book) (n : ℕ) (t : Served) (q : Shown) (c : Book) (any : Bool) → HasGone s p b n t q c any → KnowsFills b r p → KnowsFills c r q
round_knows r s p b n t q c any none k = k
round_knows r s p b n t q c any (more {n = m} {t = t'} {q = q'} {c = c'} {any = any'} before now) k = turn_knows r m t' q' c' any' t q c any now (round_knows r s p b m t' q' c' any' before k)

stop_knows : (r : Regime) (s t : Served) (holder : ℕ) (p q : Shown) (b c : Book) → HasStopped s t holder p q b c → KnowsFills b r p → KnowsFills c r q
stop_knows r s t holder p q b c x k =
    let before = round_knows r s p b x.source t x.before x.book x.any x.gone k in
    let f = x.held in
    let loaded = place_knows x.book r x.before f.loaded x.before.own.actor x.source (next_ack t x.source) Load 0 f.finds.word f.finds.finds before in
    let m = f.busy.found.1 in
    let looked = fills_goes x.book r 1 (λ v. v ≡ Lock x.book.hart) f.loaded q (λ v e. subst IsOffTable (sym e) tt) (goes_one f.loaded q (Lock x.book.hart) (Exchange 0) (f.loaded.own.actor + 1) holder m) loaded in
    subst (λ (d : Book). KnowsFills d r q) (sym f.busy.book) looked

-- words of requests
service_aside : (w : Word) → IsOfService w → IsAside w
service_aside (Place t s k) x = tt
service_aside (Lock h) x = tt
service_aside (Size h) x = tt
service_aside (Tlb h j f) x = tt
service_aside w x = absurd x

service_states : (w : Word) → IsOfService w → IsOffStates w
service_states (Place t s k) x = tt
service_states (Lock h) x = tt
service_states (Size h) x = tt
service_states (Tlb h j f) x = tt
service_states w x = absurd x

service_no_end : (w : Word) → IsOfService w → IsNoEnd w
service_no_end (Place t s k) x = tt
service_no_end (Lock h) x = tt
service_no_end (Size h) x = tt
service_no_end (Tlb h j f) x = tt
service_no_end w x = absurd x

service_requests : (w : Word) → IsOfService w → IsOfRequests w
service_requests (Kick h) x = tt
service_requests w x = x

-- behind a round the hart goes with its port
module _ (n : ℕ) (h : Hart) (book : Book) (served : Served) (p q : Shown) (goes : GoesBy n IsOfService p q) (can : GoesWith h p) where
  pub with_round : IsBeside book q → KnowsFills book (regime h.arch) q → IsSentBy h.sent q → IsServedBy served q → GoesWith (record h { book = book; served = served }) q
  with_round beside fills sent serves = record {
    beside = beside;
    fills = fills;
    number = can.number ∙ sym (actor_goes n IsOfService p q goes);
    runs = running_goes n IsOfService p q service_states goes ∙ can.runs;
    free = opening_goes n IsOfService p q service_states goes ∙ can.free;
    paid = owing_goes n IsOfService p q service_states goes ∙ can.paid;
    stands = (let x = stand_as h p q can.stands (stands_goes n IsOfService p q service_aside goes) in record { phase_is = x.phase_is; claim_is = x.claim_is; quantum = x.quantum });
    sent = sent;
    served = serves;
    below = λ unsaid. can.below (sym (stop_goes n IsOfService p q service_no_end goes) ∙ unsaid);
    call = call_goes n IsOfService h.call h.sent h.arch p q goes can.call;
    stopped = can.stopped;
  }

  -- and with its log, which goes on by flushes alone
  by_flushes : (added : ℕ → List Event) → ((a : ℕ) → AreNoFetches a (added a)) → ((u : Setup) (a : ℕ) (l : Log) → AtWork h p u a l → (x : AtEnd h p u a l) → EndsWith (added a) no_page (own_of h x.held) q book (regime h.arch) u a l)
      → WorksOn h (record h { book = book; served = served }) p q
  by_flushes added fetchless ends u a l w =
      let x = w.ends in
      let y = ends u a l w x in record {
        late = y.late;
        grows = y.grows;
        holds = record {
          ends = record {
            limit_is = x.limit_is;
            held = x.held;
            settles = record { tells = y.rests.rests.tells; settled = y.rests.rests.settled };
            not_due = y.rests.not_due;
            said = said_goes n IsOfService p q u a l y.late (λ w s. requests_neither w (service_requests w s)) goes x.settles.tells.tells.stands.is y.rests.rests.tells.tells.stands.is y.grows x.said;
            call = call_behind n IsOfService h.call h.sent h.arch p q x.held a l y.late goes (grown_is_behind u a l y.late (added a) y.grows y.events_are (fetchless a)) x.call;
          };
          idle = y.rests.rests.idle;
        };
      }

  at_rest : (u : Setup) (a : ℕ) (l : Log) → AtWork h p u a l → (x : AtEnd h p u a l) → IsAtRest no_page (own_of h x.held) p h.book (regime h.arch) u a l
  at_rest u a l w x = record { rests = record { tells = x.settles.tells; idle = w.idle; settled = x.settles.settled }; not_due = x.not_due }

  pub round_works : (any : Bool) → HasGone h.served p h.book (monitor + 1) served q book any → WorksOn h (record h { book = book; served = served }) p q
  round_works any gone = by_flushes (λ a. flushes_of_round gone a) (λ a. round_none gone a)
      (λ u a l w x. rounds_rest (monitor + 1) h.served served p q h.book book any (regime h.arch) can.beside gone no_page (own_of h x.held) u a l (at_rest u a l w x))

  pub stop_works : (holder : ℕ) → HasStopped h.served served holder p q h.book book → WorksOn h (record h { book = book; served = served }) p q
  stop_works holder stopped = by_flushes (λ a. flushes_of_round stopped.gone a) (λ a. round_none stopped.gone a)
      (λ u a l w x. stops_rest h.served served holder p q h.book book (regime h.arch) can.beside stopped no_page (own_of h x.held) u a l (at_rest u a l w x))

  pub either_knows : (r : Result Bool Busy) → IfOk r (λ any. HasGone h.served p h.book (monitor + 1) served q book any) → IfErr r (λ busy. HasStopped h.served served busy.holder p q h.book book) → KnowsFills book (regime h.arch) q
  either_knows (Ok any) gone stopped = round_knows (regime h.arch) h.served p h.book (monitor + 1) served q book any gone can.fills
  either_knows (Err busy) gone stopped = stop_knows (regime h.arch) h.served served busy.holder p q h.book book stopped can.fills

  pub either_works : (r : Result Bool Busy) → IfOk r (λ any. HasGone h.served p h.book (monitor + 1) served q book any) → IfErr r (λ busy. HasStopped h.served served busy.holder p q h.book book) → WorksOn h (record h { book = book; served = served }) p q
  either_works (Ok any) gone stopped = round_works any gone
  either_works (Err busy) gone stopped = stop_works busy.holder stopped

pub requests_goes : (n : ℕ) (p m q : Shown) → HasClearedKick p m → GoesBy n IsOfService m q → GoesBy (1 + n) IsOfRequests p q
requests_goes n p m q clears goes = goes_then 1 n IsOfRequests p m q (goes_made IsOfRequests p m (Kick p.own.actor) Store 0 0 clears tt) (goes_within n IsOfService IsOfRequests m q service_requests goes)
