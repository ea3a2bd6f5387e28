-- Flushes that an instruction asks for: each stands where its lock is freed, and the execution behind it.
use Rattle.std.proofs.Common.{◌≡◌, ℕ, ◌+◌, ◌<◌, Bool, true, false, [], ◌∷◌, Some, refl, sym, subst, le-leb, arith}
use Rattle.std.proofs.lemmas.Bool.{and_from}
use Rattle.std.specs.Prelude.{nat_le}
use Rattle.rv64_priv.specs.Flush.{Flush, Full, Pages}
use Rattle.rv64_priv.specs.State.{Arch}
use Rattle.rv64_priv.specs.Csr.{regime}
use Rattle.rv64_priv.specs.declared.state.Regime.{Regime}
use Rattle.rv64_priv.specs.Walk.{PageFault}
use Rattle.rv64_exec.specs.declared.needs.Answer.{Answer}
use Rattle.rv64_exec.specs.declared.needs.FlushOf.{FlushOf}
use Rattle.rv64_exec.specs.declared.needs.Need.{Need}
use Rattle.machine_model.specs.Event.{Flushes, only}
use Rattle.machine_model.specs.Lawful.{Flushed, flush_named, flushing}
use Rattle.machine_model.specs.Own.{Own, own_executed}
use Rattle.machine_model.specs.Perform.{Surroundings, perform}
use Rattle.machine_model.specs.Run.{includes}
use Rattle.machine_model.specs.State.{Setup}
use Rattle.guest_ram.specs.Ports.{Shown}
use Rattle.tlb_entry.specs.declared.books.Book.{Book}
use Rattle.kept_fills.specs.Beside.{IsBeside}
use Rattle.turn_pieces.specs.Grows.{Ends}
use Rattle.turn_pieces.specs.Log.{Log, did, events_of}
use Rattle.turn_pieces.specs.Right.{AreFenced, MayBe}
use Rattle.turn_pieces.specs.Writers.{quietly}
use Rattle.turn_pieces.proofs.Writers.{ends_then}
use Rattle.access_pieces.specs.Serving.{Counted, MayGiveUp, Rests, Wants}
use Rattle.table_pieces.specs.Flushing.{IsNotDue, IsPlaced, flush_made}
use Rattle.table_pieces.proofs.Placing.{busy_rests, full_is_placed, pages_are_placed}
use Rattle.flush.specs.Flushed.{full_steps}
use Rattle.need_serving.specs.declared.ends.NeedEnd.{NeedEnd}
use Rattle.need_serving.specs.declared.ends.NeedEnd.TheVariants as ends
use Rattle.need_serving.specs.Ends.{MayHaveAfter}
use Rattle.need_serving.specs.Serving.{HasFlushedOne, flushes, held}
use Rattle.need_pieces.specs.Serving.{IsServedIn}
use Rattle.need_pieces.proofs.Alone.{stands_at_rest}

flushes_own : (w : Surroundings) (a : ℕ) (c : Arch) (what : FlushOf) → flushing w a c (Need.Flush what) ≡ Some (record { harts = a ∷ []; what = flush_named what })
unfolding flushing
flushes_own w a c what = refl

does_flush : (w : Surroundings) (a : ℕ) (c : Arch) (what : FlushOf) → only Answer.Nothing ≡ perform w a c PageFault PageFault (Need.Flush what)
unfolding perform
does_flush w a c what = refl

-- the own flush stands since the fetch, and nobody else is asked
fenced : (a : ℕ) (k : Log) (what : FlushOf) → Flushed (events_of k) a a (flush_named what) → (w : Surroundings) (c : Arch) → AreFenced a k (flushing w a c (Need.Flush what))
fenced a k what f w c = subst (AreFenced a k) (sym (flushes_own w a c what)) ((λ e. f, λ ne. absurd (ne refl)), tt)

module _ (others : ℕ → Bool) (o : Own) (p q : Shown) (b b' : Book) (later : Regime) (c : Arch) (u : Setup) (a : ℕ) (l : Log) where
  behind : (what : FlushOf) (made_as : Flush) → includes made_as (flush_named what) ≡ true → IsPlaced others o p q b' later made_as u a l → a < u.layout.harts → Wants o c (Need.Flush what)
      → Ends u a l (Counted others (own_executed (only Answer.Nothing) o) q b' later u a)
  behind what made_as asks x hart wants = let k = did (Flushes a made_as) ∷ quietly x.added l in
      ends_then u a l k (Counted others (own_executed (only Answer.Nothing) o) q b' later u a) x.grows
      (stands_at_rest others o q b' later u a k c (Need.Flush what) Answer.Nothing x.rests hart wants refl (fenced_at what made_as asks x) (λ w m. does_flush w a c what))
    where
      fenced_at : (what : FlushOf) (made_as : Flush) → includes made_as (flush_named what) ≡ true → (x : IsPlaced others o p q b' later made_as u a l) → (w : Surroundings) → MayBe u a (did (Flushes a made_as) ∷ quietly x.added l) w → AreFenced a (did (Flushes a made_as) ∷ quietly x.added l) (flushing w a c (Need.Flush what))
      fenced_at what made_as asks x w m = fenced a (did (Flushes a made_as) ∷ quietly x.added l) what (x.flushes (flush_named what) asks) w c

includes_page : (large : Bool) (page : ℕ) → includes (flush_made large page 1) (Pages page 1) ≡ true
includes_page true page = refl
includes_page false page = and_from (nat_le page page) (nat_le (page + 1) (page + 1)) (le-leb page page (omega arith)) (le-leb (page + 1) (page + 1) (omega arith))

pub flush_served : (others : ℕ → Bool) (o : Own) (p q : Shown) (b b' : Book) (c : Arch) (what : FlushOf) (end : NeedEnd) (later : Regime) (u : Setup) (a : ℕ) (l : Log) → IsBeside b p → HasFlushedOne p q b b' what end → MayHaveAfter (Need.Flush what) end (regime c) later
    → Wants o c (Need.Flush what) → Rests others o p b (regime c) u a l → IsNotDue o u a l → a < u.layout.harts → Ends u a l (IsServedIn others o end q b' later u a)
flush_served others o p q b b' c FlushOf.All end later u a l can (flushes f goes) any wants x still hart =
    behind others o p q b b' later c u a l FlushOf.All Full refl (full_is_placed p q b b' (regime c) later (full_steps b.size + 8) can f goes others o u a l x still) hart wants
flush_served others o p q b b' c (FlushOf.Page page) end later u a l can (flushes f goes) same wants x still hart =
    behind others o p q b b' later c u a l (FlushOf.Page page) (flush_made b.large page 1) (includes_page b.large page)
    (subst (λ (r : Regime). IsPlaced others o p q b' r (flush_made b.large page 1) u a l) (sym same) (pages_are_placed p q b b' (regime c) page 1 (full_steps b.size + 8) can f goes others o u a l x still)) hart wants
flush_served others o p q b b' c what end later u a l can (held busy f) same wants x still hart =
    let k = busy_rests p q b b' (regime c) busy.holder can f others o u a l x in record {
      late = k.late;
      grows = k.grows;
      holds = subst (λ (r : Regime). MayGiveUp others o q b' r u a k.late) (sym (stays what same)) (record { tells = k.holds.tells; idle = k.holds.idle; walks = []; shown = tt; settled = λ page free out. k.holds.settled page free });
    }
  where
    stays : (w : FlushOf) → MayHaveAfter (Need.Flush w) (ends.Busy busy) (regime c) later → later ≡ regime c
    stays FlushOf.All e = e
    stays (FlushOf.Page page) e = e
