-- Turns of sources, one behind another, in their hart's log.
use Rattle.std.proofs.Common.{◌≡◌, ℕ, Bool, List, [], ◌∷◌, ◌++◌, refl, sym, ap, ◌∙◌, append_assoc}
use Rattle.rv64_priv.specs.declared.state.Regime.{Regime}
use Rattle.step_laws.specs.declared.request.Request.{Request}
use Rattle.step_laws.specs.declared.request.Request.TheVariants.{FlushAll, FlushPages, Drain}
use Rattle.step_laws.specs.declared.steps.Step.{Step}
use Rattle.step_laws.specs.declared.steps.WordOp.TheVariants.{Load, Store}
use Rattle.machine_model.specs.Event.{Event}
use Rattle.machine_model.specs.Own.{Own}
use Rattle.machine_model.specs.State.{Setup}
use Rattle.guest_ram.specs.Ports.{Shown}
use Rattle.tlb_entry.specs.declared.books.Book.{Book}
use Rattle.kept_fills.specs.Beside.{IsBeside}
use Rattle.work_queue.specs.declared.rings.Served.{Served}
use Rattle.work_queue.specs.Rings.{next_ack}
use Rattle.turn_pieces.specs.Grows.{stays}
use Rattle.turn_pieces.specs.Log.{Log, events_of, made}
use Rattle.turn_pieces.specs.Writers.{quietly}
use Rattle.turn_pieces.proofs.Writers.{grows_then}
use Rattle.request_serving.specs.Served.{HasGone, HasMoved, idle, more, nobody, none, one}
use Rattle.serving_pieces.specs.Laws.{RoundsRest, StopsRest}
use Rattle.serving_pieces.specs.Serving.{EndsWith, IsAtRest, flush_of_turn, flushes_of_round, with_flush}
use Rattle.serving_pieces.proofs.Answering.{beside_place, requests_are_served}
use Rattle.serving_pieces.proofs.Stepping.{held_rests, idle_rests}

quiet_events : (r : List Step) (l : Log) → events_of (quietly r l) ≡ events_of l
quiet_events [] l = refl
quiet_events (s ∷ r) l = quiet_events r l

-- the flush of a request is the event that its log has more
flush_events : (request : Request) (large : Bool) (a : ℕ) (l : Log) → events_of (with_flush request large a l) ≡ events_of (with_flush request large a []) ++ events_of l
flush_events FlushAll large a l = refl
flush_events (FlushPages page count) large a l = refl
flush_events Drain large a l = refl

-- the hart is beside its table behind it, and each log goes on with these events more
record Passes (added : ℕ → List Event) (p q : Shown) (b c : Book) : Type 0 where
  beside : IsBeside c q
  ends : (r : Regime) (others : ℕ → Bool) (o : Own) (u : Setup) (a : ℕ) (l : Log) → IsAtRest others o p b r u a l → EndsWith (added a) others o q c r u a l

moves : (n : ℕ) (s : Served) (p : Shown) (b : Book) (any : Bool) (t : Served) (q : Shown) (c : Book) (now : Bool) → IsBeside b p → (x : HasMoved n s p b any t q c now)
    → Passes (λ a. flush_of_turn x a) p q b c
moves n s p b any t q c now can (nobody absent) = record { beside = can; ends = λ r others o u a l rest. record { late = l; grows = stays; events_are = refl; rests = rest } }
moves n s p b any t q c now can (idle m) = record {
  beside = beside_place b p q p.own.actor n (next_ack s n) Load 0 0 m can;
  ends = λ r others o u a l rest. let y = idle_rests n (next_ack s n) p q b r m others o u a l rest in record { late = quietly y.added l; grows = y.grows; events_are = quiet_events y.added l; rests = y.rests };
}
moves n s p b any t q c now can (one x) = record {
  beside = beside_place c x.done.flushed q x.done.flushed.own.actor n (next_ack s n) Store 0 0 x.done.acks x.done.beside;
  ends = λ r others o u a l rest.
      let y = requests_are_served n s t p q b c r can x others o u a l rest in
      let m = quietly y.added (made y.load ∷ l) in record {
        late = made y.ack ∷ with_flush x.request b.large a m;
        grows = y.grows;
        events_are = flush_events x.request b.large a m ∙ ap (λ (z : List Event). events_of (with_flush x.request b.large a []) ++ z) (quiet_events y.added (made y.load ∷ l));
        rests = y.rests;
      };
}

rounds : (s : Served) (p : Shown) (b : Book) (n : ℕ) (t : Served) (q : Shown) (c : Book) (any : Bool) → IsBeside b p → (x : HasGone s p b n t q c any) → Passes (λ a. flushes_of_round x a) p q b c
rounds s p b n t q c any can none = record { beside = can; ends = λ r others o u a l rest. record { late = l; grows = stays; events_are = refl; rests = rest } }
rounds s p b n t q c any can (more {n = n'} {t = t'} {q = q'} {c = c'} {any = any'} before now) =
    let y = rounds s p b n' t' q' c' any' can before in
    let z = moves n' t' q' c' any' t q c any y.beside now in record {
      beside = z.beside;
      ends = λ r others o u a l rest.
          let e = y.ends r others o u a l rest in
          let f = z.ends r others o u a e.late e.rests in record {
            late = f.late;
            grows = grows_then u a l e.late e.grows f.grows;
            events_are = f.events_are ∙ ap (λ (v : List Event). flush_of_turn now a ++ v) e.events_are ∙ sym (append_assoc (flush_of_turn now a) (flushes_of_round before a) (events_of l));
            rests = f.rests;
          };
    }

pub rounds_rest : RoundsRest
rounds_rest n s t p q b c any r can x others o u a l rest = (rounds s p b n t q c any can x).ends r others o u a l rest

pub stops_rest : StopsRest
stops_rest s t holder p q b c r can x others o u a l rest =
    let e = (rounds s p b x.source t x.before x.book x.any can x.gone).ends r others o u a l rest in
    let f = held_rests x.source (next_ack t x.source) holder x.before q x.book c r x.held others o u a e.late e.rests in record {
      late = quietly f.added e.late;
      grows = grows_then u a l e.late e.grows f.grows;
      events_are = quiet_events f.added e.late ∙ e.events_are;
      rests = f.rests;
    }
