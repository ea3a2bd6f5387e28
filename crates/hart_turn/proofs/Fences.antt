-- A fence in progress in its hart's log: how it begins there, goes on, and is executed once it is done.
use Rattle.std.proofs.Common.{◌≡◌, ◌<◌, ℕ, ◌+◌, true, List, [], ◌∷◌, Some, None, refl, sym, ap, subst, ◌∙◌, arith, rules}
use Rattle.std.specs.Prelude.{◌==◌, ◌&&◌, Bool, IsSome, Option, pos, replicate, slice_index}
use Rattle.rv64_priv.specs.Csr.{regime}
use Rattle.rv64_priv.specs.State.{Arch}
use Rattle.rv64_exec.specs.Code.{Code}
use Rattle.rv64_exec.specs.declared.needs.Answer.{Answer}
use Rattle.rv64_exec.specs.declared.needs.Need.{Need}
use Rattle.step_laws.specs.declared.steps.Step.{Step}
use Rattle.machine_model.specs.Event.{Event, only}
use Rattle.machine_model.specs.Own.{Own, own_executed}
use Rattle.machine_model.specs.State.{Setup}
use Rattle.machine_model.specs.Walks.{need_held}
use Rattle.guest_ram.specs.Ports.{GoesBy, Shown, layout_of}
use Rattle.guest_ram.proofs.Moves.{actor_goes}
use Rattle.tlb_entry.specs.declared.books.Book.{Book}
use Rattle.work_queue.specs.declared.rings.Sent.{Sent}
use Rattle.hart_calls.specs.Asked.{IsAsked}
use Rattle.hart_calls.specs.declared.asking.Asked.{Asked}
use Rattle.hart_calls.specs.declared.spans.Span.{Span}
use Rattle.sbi_calls.specs.declared.spans.Fence.{Fence}
use Rattle.sbi_calls.specs.Fences.{GoesWithFence, HasBeenHeld, HasFlushedOwn, IsAnsweredAt, IsOfFence, IsTarget}
use Rattle.sbi_calls.specs.Spans.{is_named, pieces_of}
use Rattle.turn_pieces.specs.Grows.{Ends, Part}
use Rattle.turn_pieces.specs.Log.{Log, did, events_of, steps_of}
use Rattle.turn_pieces.proofs.Writers.{grows_then}
use Rattle.access_pieces.specs.Serving.{Rests, Settles, Wants}
use Rattle.fence_pieces.specs.Behind.{IsBehind}
use Rattle.fence_pieces.specs.Ending.{AreAllDone, executed}
use Rattle.fence_pieces.specs.Owning.{AreFlushedIn, AreFlushedUpTo, flushes_of}
use Rattle.fence_pieces.proofs.Behind.{behind_stays, quiet_behind}
use Rattle.fence_pieces.proofs.Ending.{fences_are_done}
use Rattle.fence_pieces.proofs.Turning.{turns_are_held, turns_are_made, turns_go_on}
use Rattle.signal_pieces.specs.Signalling.{nobody}
use Rattle.hart_turn.specs.declared.hart.Call.{Call}
use Rattle.hart_turn.specs.declared.hart.Hart.{Hart}
use Rattle.hart_turn.specs.Fences.{BeginsCall, new_fence, succeeded, with_fence}
use Rattle.hart_turn.specs.Harts.{GoesWith, counted, own_of}
use Rattle.hart_turn.specs.Logs.{AtCount, AtWork, IsCallIn, IsFenceIn, WorksOn}
use Rattle.hart_turn.proofs.Calls.{call_succeeds}
use Rattle.hart_turn.proofs.Fenced.{fence_of}
use Rattle.hart_turn.proofs.Moving.{not_both}
use Rattle.hart_turn.proofs.Draws.{fence_neither}
use Rattle.hart_turn.proofs.Said.{said_goes}

-- what its success makes of the hart
succeeds : (h : Hart) (held : Option Code) → need_held h.arch held ≡ Need.Sbi → own_executed (only (Answer.Pair (pos 0) 0)) (own_of h held) ≡ own_of (counted (record h { arch = succeeded h.arch })) None
unfolding own_executed
succeeds h held e = ap (λ (d : Arch). record { arch = d; held = None; count = h.count + 1; runs = h.runs }) (call_succeeds h.arch held e)

module _ (n : ℕ) (h : Hart) (p q : Shown) (harts : ℕ) (span : Span) (fence : Fence) (goes : GoesBy n IsOfFence p q) (can : GoesWith h p) (is : h.call ≡ Call.Fence harts span fence) where
  named_few : (t : ℕ) → is_named harts t ≡ true → t < 16
  named_few t set = let less : t < (layout_of p).harts = (fence_of n h p q harts span fence goes can is).are_harts t set in omega (arith, less, can.beside.acting.limits.harts)

  asked_later : IsAsked (layout_of q) h.arch (Asked.Fences harts span)
  asked_later = subst (λ (y : Shown). IsAsked (layout_of y) h.arch (Asked.Fences harts span)) (sym goes.grown) (fence_of n h p q harts span fence goes can is).asked

  module _ (u : Setup) (a : ℕ) (l : Log) (x : AtWork h p u a l) where
    own : a ≡ p.own.actor
    own = x.ends.settles.tells.tells.stands.actor

    own_later : q.own.actor ≡ a
    own_later = actor_goes n IsOfFence p q goes ∙ sym own

    rests : Rests nobody (own_of h x.ends.held) p h.book (regime h.arch) u a l
    rests = record { tells = x.ends.settles.tells; idle = x.idle; settled = x.ends.settles.settled }

    fenced_in : IsFenceIn harts span fence h.sent h.arch p x.ends.held a l
    fenced_in = subst (λ (z : Call). IsCallIn z h.sent h.arch p x.ends.held a l) is x.ends.call

    is_there : a < u.layout.harts
    is_there = subst (λ k. a < k.harts) (sym x.ends.settles.tells.tells.stands.layout) (subst (λ m. m < (layout_of p).harts) (sym own) can.beside.hart)

    wants : Wants (own_of h x.ends.held) h.arch Need.Sbi
    wants = record { arch_is = refl; holds = subst IsSome (sym fenced_in.holds) refl; need_is = fenced_in.need_is }

    module _ (book : Book) (sent : Sent) (to : ℕ) (added : List Event) (y : AreFlushedIn span (slice_index fence.acked p.own.actor) to added nobody (own_of h x.ends.held) q book (regime h.arch) u a l) where
      behind : IsBehind a fenced_in.base y.late
      behind = behind_stays a fenced_in.base l y.late fenced_in.behind y.behind

      flushed_on : AreFlushedUpTo to span a a (events_of y.late)
      flushed_on = turns_go_on span (slice_index fence.acked p.own.actor) to a l y.late y.behind (subst (λ m. AreFlushedUpTo (slice_index fence.acked m) span a a (events_of l)) own fenced_in.flushed) y.flushed

      -- it goes on
      goes_on : (now : Fence) → to ≡ slice_index now.acked p.own.actor → ((base : List Step) → GoesWithFence harts span h.sent fence base p → GoesWithFence harts span sent now base q)
          → Ends u a l (AtWork (record h { call = Call.Fence harts span now; book = book; sent = sent }) q u a)
      goes_on now same on = record {
        late = y.late;
        grows = y.grows;
        holds = record {
          ends = record {
            limit_is = x.ends.limit_is;
            held = x.ends.held;
            settles = record { tells = y.rests.tells; settled = y.rests.settled };
            not_due = y.not_due;
            said = said_goes n IsOfFence p q u a l y.late fence_neither goes x.ends.settles.tells.tells.stands.is y.rests.tells.tells.stands.is y.grows x.ends.said;
            call = record {
              code = fenced_in.code;
              holds = fenced_in.holds;
              need_is = fenced_in.need_is;
              base = fenced_in.base;
              behind = behind;
              goes = on (steps_of fenced_in.base) fenced_in.goes;
              flushed = subst (λ m. AreFlushedUpTo m span a a (events_of y.late)) (same ∙ ap (λ m. slice_index now.acked m) (sym own)) flushed_on;
            };
          };
          idle = y.rests.idle;
        };
      }

      -- all that it names is done
      module _ (own_done : is_named harts p.own.actor ≡ true → to ≡ pieces_of span) (others_done : (base : List Step) → GoesWithFence harts span h.sent fence base p → (t : ℕ) → IsTarget harts q t → IsAnsweredAt span t base q) where
        all_done : AreAllDone harts span q a fenced_in.base y.late
        all_done = λ t set. (
          λ same. subst (λ m. AreFlushedUpTo m span a a (events_of y.late)) (own_done (ap (λ m. is_named harts m) (sym own ∙ sym same) ∙ set)) flushed_on,
          λ other. others_done (steps_of fenced_in.base) fenced_in.goes t (named_few t set, set, λ e. other (e ∙ own_later)),
        )

        done : Ends u a l (AtCount (counted (record h { arch = succeeded h.arch; call = Call.Nothing; book = book; sent = sent })) q u a)
        done =
            let k = fences_are_done nobody (own_of h x.ends.held) q book (regime h.arch) h.arch harts span u a fenced_in.base y.late y.rests is_there wants asked_later behind all_done in record {
              late = did (executed a) ∷ y.late;
              grows = grows_then u a l y.late y.grows k.grows;
              holds = record {
                limit_is = x.ends.limit_is;
                settles = subst (λ (o : Own). Settles nobody o q book (regime h.arch) u a (did (executed a) ∷ y.late)) (succeeds h x.ends.held fenced_in.need_is) k.settles;
                due_is = ap (λ (b : Bool). b && (h.count + 1 == u.limit)) k.counts;
                free = refl;
                said = said_goes n IsOfFence p q u a l (did (executed a) ∷ y.late) fence_neither goes x.ends.settles.tells.tells.stands.is y.rests.tells.tells.stands.is (grows_then u a l y.late y.grows k.grows) x.ends.said;
              };
            }

  -- as parts of a turn
  module _ (book : Book) (sent : Sent) where
    pub waits_works : (now : Fence) → HasFlushedOwn span (slice_index fence.acked p.own.actor) (slice_index now.acked p.own.actor) p q h.book book → ((base : List Step) → GoesWithFence harts span h.sent fence base p → GoesWithFence harts span sent now base q)
        → WorksOn h (record h { call = Call.Fence harts span now; book = book; sent = sent }) p q
    waits_works now z on u a l x =
        let to = slice_index now.acked p.own.actor in
        goes_on u a l x book sent to (flushes_of z.flushed a) (turns_are_made span (slice_index fence.acked p.own.actor) to p q h.book book (regime h.arch) can.beside z nobody (own_of h x.ends.held) u a l (rests u a l x) x.ends.not_due).1 now refl on

    pub held_works : (holder : ℕ) (now : Fence) → HasBeenHeld span (slice_index fence.acked p.own.actor) (slice_index now.acked p.own.actor) holder p q h.book book → ((base : List Step) → GoesWithFence harts span h.sent fence base p → GoesWithFence harts span sent now base q)
        → WorksOn h (record h { call = Call.Fence harts span now; book = book; sent = sent }) p q
    held_works holder now z on u a l x =
        let to = slice_index now.acked p.own.actor in
        goes_on u a l x book sent to (flushes_of z.busy.flushed a) (turns_are_held span (slice_index fence.acked p.own.actor) to holder p q h.book book (regime h.arch) can.beside z nobody (own_of h x.ends.held) u a l (rests u a l x) x.ends.not_due) now refl on

    pub done_works : (to : ℕ) → HasFlushedOwn span (slice_index fence.acked p.own.actor) to p q h.book book → (is_named harts p.own.actor ≡ true → to ≡ pieces_of span)
        → ((base : List Step) → GoesWithFence harts span h.sent fence base p → (t : ℕ) → IsTarget harts q t → IsAnsweredAt span t base q)
        → Part (AtWork h p) (AtCount (counted (record h { arch = succeeded h.arch; call = Call.Nothing; book = book; sent = sent })) q)
    done_works to z own_done others_done u a l x =
        done u a l x book sent to (flushes_of z.flushed a) (turns_are_made span (slice_index fence.acked p.own.actor) to p q h.book book (regime h.arch) can.beside z nobody (own_of h x.ends.held) u a l (rests u a l x) x.ends.not_due).1 own_done others_done

-- a fence of which nothing is done begins in the log as it is
zeros : (i : ℕ) → slice_index (replicate 16 0) i ≡ 0
zeros i = search rules

begins_at : (harts : ℕ) (span : Span) (sent : Sent) (p : Shown) → GoesWithFence harts span sent new_fence p.own.steps p
begins_at harts span sent p = record {
  at = λ t i. record {
    since = [];
    is = refl;
    most = omega (arith, zeros t);
    few = omega (arith, zeros t);
    asked = λ j less. absurd (omega (arith, less, zeros t));
    answered = λ j less. absurd (omega (arith, less, zeros t));
  };
  own = omega (arith, zeros p.own.actor);
}

module _ (h : Hart) (harts : ℕ) (span : Span) (p : Shown) where
  pub fence_begins : BeginsCall h (with_fence harts span new_fence h) p
  fence_begins code asks u a l x = record {
    ends = record {
      limit_is = x.limit_is;
      held = Some code;
      settles = record { tells = x.rests.tells; settled = x.rests.settled };
      not_due = x.not_due;
      said = x.said;
      call = record {
        code = code;
        holds = refl;
        need_is = asks;
        base = l;
        behind = quiet_behind a [] l;
        goes = subst (λ (steps : List Step). GoesWithFence harts span h.sent new_fence steps p) (sym x.rests.tells.tells.stands.is) (begins_at harts span h.sent p);
        flushed = λ i less. absurd (omega (arith, less, zeros a));
      };
    };
    idle = x.rests.idle;
  }

  pub with_begun : h.runs ≡ true → IsAsked (layout_of p) h.arch (Asked.Fences harts span) → GoesWith h p → GoesWith (with_fence harts span new_fence h) p
  with_begun running asked can = record {
    beside = can.beside;
    fills = can.fills;
    number = can.number;
    runs = can.runs;
    free = can.free;
    paid = can.paid;
    stands = record { phase_is = can.stands.phase_is; claim_is = can.stands.claim_is; quantum = can.stands.quantum };
    sent = can.sent;
    served = can.served;
    below = can.below;
    call = record { asked = asked; are_harts = asked.sound.1; is_span = asked.sound.2; fencing = (p.own.steps, begins_at harts span h.sent p) };
    stopped = λ e. absurd (not_both h.runs e running);
  }
