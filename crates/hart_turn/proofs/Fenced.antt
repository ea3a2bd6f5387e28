-- A fence in progress: the entries of its hart's table, and what goes with the hart behind a turn of it.
use Rattle.std.proofs.Common.{◌≡◌, ℕ, ◌+◌, false, List, refl, sym, subst, ◌∙◌}
use Rattle.rv64_priv.specs.Csr.{regime}
use Rattle.rv64_priv.specs.State.{Arch}
use Rattle.rv64_priv.specs.declared.state.Regime.{Regime}
use Rattle.step_laws.specs.declared.request.Request.{Request}
use Rattle.step_laws.specs.declared.request.Request.TheVariants.{FlushAll, FlushPages, Drain}
use Rattle.step_laws.specs.declared.steps.Step.{Step}
use Rattle.step_laws.specs.declared.steps.WordOp.TheVariants.{Exchange}
use Rattle.step_laws.specs.Map.{Word, Kick, Lock, Place, Size, Tlb}
use Rattle.guest_ram.specs.Areas.{IsAside, IsOfTable}
use Rattle.guest_ram.specs.Ports.{GoesBy, Shown, layout_of}
use Rattle.guest_ram.proofs.Moves.{actor_goes, stands_goes}
use Rattle.tlb_entry.specs.declared.books.Book.{Book}
use Rattle.kept_fills.specs.Beside.{IsBeside}
use Rattle.guest_access.specs.Reaching.{KnowsFills}
use Rattle.tlb_table.proofs.Aside.{IsOffTable}
use Rattle.signal_pieces.proofs.Single.{goes_one}
use Rattle.work_queue.specs.declared.rings.Sent.{Sent}
use Rattle.work_queue.specs.declared.rings.Served.{Served}
use Rattle.work_queue.specs.Rings.{IsSentBy, IsServedBy}
use Rattle.hart_calls.specs.Asked.{AreHarts, IsAsked}
use Rattle.hart_calls.specs.declared.asking.Asked.{Asked}
use Rattle.hart_calls.specs.declared.spans.Span.{Span}
use Rattle.hart_signals.proofs.Aside.{IsOffStates, opening_goes, owing_goes, running_goes}
use Rattle.sbi_calls.specs.declared.spans.Fence.{Fence}
use Rattle.sbi_calls.specs.Fences.{GoesWithFence, HasBeenHeld, HasFlushedOwn, HasFlushedPiece, HaveFlushed, IsOfAsks, IsOfFence, IsOfPolls, more, none, piece_steps}
use Rattle.sbi_calls.specs.Spans.{piece_of}
use Rattle.hart_turn.specs.declared.hart.Call.{Call}
use Rattle.hart_turn.specs.declared.hart.Hart.{Hart}
use Rattle.hart_turn.specs.Fences.{succeeded}
use Rattle.hart_turn.specs.Harts.{GoesWith, IsCallOf, IsFenceOf}
use Rattle.hart_turn.proofs.Aside.{IsNoEnd, fills_goes, stand_as, stop_goes}
use Rattle.hart_turn.proofs.Rounds.{flushed_knows}

-- words of posts and polls
asks_off : (a : ℕ) (w : Word) → IsOfAsks a w → IsOffTable w
asks_off a (Place t s k) x = tt
asks_off a (Kick h) x = tt
asks_off a w x = absurd x

polls_off : (a : ℕ) (w : Word) → IsOfPolls a w → IsOffTable w
polls_off a (Place t s k) x = tt
polls_off a w x = absurd x

-- the entries of the table are of the fills that are left
piece_knows : (n : ℕ) (r : Regime) (p q : Shown) (b c : Book) (request : Request) → KnowsFills b r p → GoesBy n IsOfTable p q → HasFlushedPiece request p q b c → KnowsFills c r q
piece_knows n r p q b c FlushAll k goes f = flushed_knows n r p q b c FlushAll k goes f
piece_knows n r p q b c (FlushPages page count) k goes f = flushed_knows n r p q b c (FlushPages page count) k goes f
piece_knows n r p q b c Drain k goes f = absurd f

pieces_know : (span : Span) (from : ℕ) (r : Regime) (p : Shown) (b : Book) (to : ℕ) (q : Shown) (c : Book) → HaveFlushed span from p b to q c → KnowsFills b r p → KnowsFills c r q
pieces_know span from r p b to q c none k = k
pieces_know span from r p b to q c (more {n = n} {q = q'} {c = c'} before now goes beside) k =
    piece_knows (piece_steps c'.large c'.size (piece_of span n)) r q' q c' c (piece_of span n) (pieces_know span from r p b n q' c' before k) goes now

pub own_knows : (span : Span) (from to : ℕ) (r : Regime) (p q : Shown) (b c : Book) → HasFlushedOwn span from to p q b c → KnowsFills b r p → KnowsFills c r q
own_knows span from to r p q b c x k =
    let asked = fills_goes b r 216 (IsOfAsks p.own.actor) p x.asked (λ w t. asks_off p.own.actor w t) x.posts k in
    fills_goes c r 64 (IsOfPolls x.served.own.actor) x.served q (λ w t. polls_off x.served.own.actor w t) x.polls (pieces_know span from r x.asked b to x.served c x.flushed asked)

pub held_knows : (span : Span) (from to holder : ℕ) (r : Regime) (p q : Shown) (b c : Book) → HasBeenHeld span from to holder p q b c → KnowsFills b r p → KnowsFills c r q
held_knows span from to holder r p q b c x k =
    let asked = fills_goes b r 216 (IsOfAsks p.own.actor) p x.asked (λ w t. asks_off p.own.actor w t) x.posts k in
    let y = x.busy in
    let flushed = pieces_know span from r x.asked b to y.between y.book y.flushed asked in
    let m = y.busy.found.1 in
    subst (λ (d : Book). KnowsFills d r q) (sym y.busy.book)
    (fills_goes y.book r 1 (λ v. v ≡ Lock y.book.hart) y.between q (λ v e. subst IsOffTable (sym e) tt) (goes_one y.between q (Lock y.book.hart) (Exchange 0) (y.between.own.actor + 1) holder m) flushed)

-- words of fences
fence_aside : (w : Word) → IsOfFence w → IsAside w
fence_aside (Place t s k) x = tt
fence_aside (Kick h) x = tt
fence_aside (Lock h) x = tt
fence_aside (Size h) x = tt
fence_aside (Tlb h j f) x = tt
fence_aside w x = absurd x

fence_states : (w : Word) → IsOfFence w → IsOffStates w
fence_states (Place t s k) x = tt
fence_states (Kick h) x = tt
fence_states (Lock h) x = tt
fence_states (Size h) x = tt
fence_states (Tlb h j f) x = tt
fence_states w x = absurd x

fence_no_end : (w : Word) → IsOfFence w → IsNoEnd w
fence_no_end (Place t s k) x = tt
fence_no_end (Kick h) x = tt
fence_no_end (Lock h) x = tt
fence_no_end (Size h) x = tt
fence_no_end (Tlb h j f) x = tt
fence_no_end w x = absurd x

-- what goes with a hart that has this fence in progress, behind a turn of it
module _ (n : ℕ) (h : Hart) (p q : Shown) (harts : ℕ) (span : Span) (fence : Fence) (goes : GoesBy n IsOfFence p q) (can : GoesWith h p) (is : h.call ≡ Call.Fence harts span fence) where
  pub fence_of : IsFenceOf harts span fence h.sent h.arch p
  fence_of = subst (λ (z : Call). IsCallOf z h.sent h.arch p) is can.call

  pub runs_on : h.runs ≡ false → Call.Fence harts span fence ≡ Call.Nothing
  runs_on e = sym is ∙ can.stopped e

  module _ (book : Book) (sent : Sent) (beside : IsBeside book q) (fills : KnowsFills book (regime h.arch) q) (sends : IsSentBy sent q) (serves : (served : Served) → IsServedBy served p → IsServedBy served q) where
    with_call : (c : Arch) (call : Call) → KnowsFills book (regime c) q → IsCallOf call sent c q → (h.runs ≡ false → call ≡ Call.Nothing) → GoesWith (record h { arch = c; call = call; book = book; sent = sent }) q
    with_call c call known calls stopped = record {
      beside = beside;
      fills = known;
      number = can.number ∙ sym (actor_goes n IsOfFence p q goes);
      runs = running_goes n IsOfFence p q fence_states goes ∙ can.runs;
      free = opening_goes n IsOfFence p q fence_states goes ∙ can.free;
      paid = owing_goes n IsOfFence p q fence_states goes ∙ can.paid;
      stands = (let x = stand_as h p q can.stands (stands_goes n IsOfFence p q fence_aside goes) in record { phase_is = x.phase_is; claim_is = x.claim_is; quantum = x.quantum });
      sent = sends;
      served = serves h.served can.served;
      below = λ unsaid. can.below (sym (stop_goes n IsOfFence p q fence_no_end goes) ∙ unsaid);
      call = calls;
      stopped = stopped;
    }

    -- it is in progress still
    pub with_later : (now : Fence) → ((base : List Step) → GoesWithFence harts span h.sent fence base p → GoesWithFence harts span sent now base q) → GoesWith (record h { call = Call.Fence harts span now; book = book; sent = sent }) q
    with_later now on = with_call h.arch (Call.Fence harts span now) fills (record {
      asked = subst (λ (y : Shown). IsAsked (layout_of y) h.arch (Asked.Fences harts span)) (sym goes.grown) fence_of.asked;
      are_harts = subst (λ (y : Shown). AreHarts (layout_of y).harts harts) (sym goes.grown) fence_of.are_harts;
      is_span = fence_of.is_span;
      fencing = (fence_of.fencing.0, on fence_of.fencing.0 fence_of.fencing.1);
    }) (λ e. absurd (let f : Call.Fence harts span fence ≡ Call.Nothing = runs_on e in cc))

    -- it is done
    pub with_success : GoesWith (record h { arch = succeeded h.arch; call = Call.Nothing; book = book; sent = sent }) q
    with_success = with_call (succeeded h.arch) Call.Nothing fills tt (λ e. refl)
