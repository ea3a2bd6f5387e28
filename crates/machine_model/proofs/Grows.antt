-- What never falls or changes along a run.
use Rattle.std.proofs.Common.{◌≡◌, refl, ℕ, zero, suc, ◌≤◌, ◌++◌, List, [], ◌∷◌, Some, None, Option, true, false, Bool, arith, ap, sym, ◌∙◌, subst, option_to_list}
use Rattle.std.specs.Prelude.{slice_set, if◌then◌else◌}
use Rattle.rv64_priv.specs.declared.state.Kind.{Kind}
use Rattle.machine_model.specs.declared.reason.Reason.{Reason}
use Rattle.machine_model.specs.Memory.{written}
use Rattle.machine_model.specs.Event.{Event, Outcome, Fetch, Exec, GiveUp, Interrupt, Flushes, Start, Stop, Await, SnapBegin, SnapEnd, Dump, actor_of, did_of, entry_stored}
use Rattle.machine_model.specs.State.{Setup, State, Hart, nth, hart}
use Rattle.machine_model.specs.Access.{Spot, AtRam, AtDevice, Faults, spot_of}
use Rattle.machine_model.specs.Change.{state_after, part_next, has_part, executed, fetched, first_reason, printed}
use Rattle.machine_model.specs.Run.{state_of}
use Rattle.machine_model.specs.Laws.{PlainRunsAreRuns, PlainRunsAreSettled, CountsGrow, OutputGrows, ReasonStays, MemoryIsStored, all_entries}
use Rattle.rv64_exec.specs.Code.{Code}
use Rattle.machine_model.proofs.Harts.{start_keeps}
use Rattle.machine_model.proofs.Plainly.{plain_good, settled_good}

pub plain_runs : PlainRunsAreRuns
plain_runs u order run p = (plain_good u order run p).is_run

pub plain_settled : PlainRunsAreSettled
plain_settled u order run p = settled_good u run (plain_good u order run p)

-- counts
fetched_count : (code : Code) (t : Hart) (s : Spot) → t.count ≤ (fetched code t s).count
fetched_count code t (AtRam pa) = omega arith
fetched_count code t (AtDevice pa) = omega arith
fetched_count code t (Faults cause tval) = omega arith

executed_count : (o : Outcome) (t : Hart) → t.count ≤ (executed o t).count
unfolding executed
executed_count o t = omega arith

part_count : (e : Event) (t : Hart) → t.count ≤ (part_next e t).count
part_count (Fetch h walk code) t = fetched_count code t (spot_of Kind.Fetch t.arch.pc walk)
part_count (Exec h walk second did) t = executed_count did t
part_count (GiveUp h walks) t = omega arith
part_count (Interrupt h) t = omega arith
part_count (Flushes h what) t = omega arith
part_count (Start h at opaque) t = omega arith
part_count (Stop by reason) t = omega arith
part_count (Await n) t = omega arith
part_count SnapBegin t = omega arith
part_count (SnapEnd pages) t = omega arith
part_count (Dump at bytes) t = omega arith

set_count : (w : Hart → Hart) → ((t : Hart) → t.count ≤ (w t).count) → (hs : List Hart) (i h : ℕ) → (nth hs h).count ≤ (nth (slice_set hs i (w (nth hs i))) h).count
set_count w k [] i h = omega arith
set_count w k (t ∷ hs) zero zero = k t
set_count w k (t ∷ hs) zero (suc h) = omega arith
set_count w k (t ∷ hs) (suc i) zero = omega arith
set_count w k (t ∷ hs) (suc i) (suc h) = set_count w k hs i h

event_count : (e : Event) (s : State) (h : ℕ) → (hart s h).count ≤ (hart (state_after e s) h).count
event_count e s h = subst (λ n. (hart s h).count ≤ n) (sym (start_keeps (λ t. t.count) (λ g t. refl) (if has_part e then slice_set s.harts (actor_of e) (part_next e (nth s.harts (actor_of e))) else s.harts) (did_of e).starts h)) (go (has_part e))
  where
    go : (b : Bool) → (hart s h).count ≤ (nth (if b then slice_set s.harts (actor_of e) (part_next e (nth s.harts (actor_of e))) else s.harts) h).count
    go true = set_count (part_next e) (part_count e) s.harts (actor_of e) h
    go false = omega arith

pub counts_grow : CountsGrow
counts_grow u [] run h = omega arith
counts_grow u (e ∷ more) run h = let i = counts_grow u more run h in let j = event_count e (state_of u (more ++ run)) h in omega (arith, i, j)

-- output
nil : (xs : List ℕ) → xs ++ [] ≡ xs
nil [] = refl
nil (x ∷ xs) = ap (λ ys. x ∷ ys) (nil xs)

assoc : (a b c : List ℕ) → (a ++ b) ++ c ≡ a ++ (b ++ c)
assoc [] b c = refl
assoc (x ∷ a) b c = ap (λ xs. x ∷ xs) (assoc a b c)

printed_more : (output bytes : List ℕ) → printed output bytes ≡ output ++ bytes
printed_more output [] = sym (nil output)
printed_more output (b ∷ bs) = refl

pub output_grows : OutputGrows
output_grows u [] run = ([], sym (nil (state_of u run).output))
output_grows u (e ∷ more) run =
    let i = output_grows u more run in (
      i.0 ++ (did_of e).bytes,
      printed_more (state_of u (more ++ run)).output (did_of e).bytes ∙ ap (λ xs. xs ++ (did_of e).bytes) i.1 ∙ assoc (state_of u run).output i.0 (did_of e).bytes,
    )

-- the reason
first_stays : (r : Reason) (old new : Option Reason) → old ≡ Some r → first_reason old new ≡ Some r
first_stays r old None k = k
first_stays r None (Some n) k = cc
first_stays r (Some o) (Some n) k = k

pub reason_stays : ReasonStays
reason_stays u [] run r k = k
reason_stays u (e ∷ more) run r k = first_stays r (state_of u (more ++ run)).reason (did_of e).reason (reason_stays u more run r k)

-- memory
pub entries_stored : (u : Setup) (run : List Event) → (state_of u run).entries ≡ all_entries run
entries_stored u [] = refl
entries_stored u (e ∷ run) = ap (λ es. option_to_list (entry_stored e) ++ es) (entries_stored u run)

pub memory_is_stored : MemoryIsStored
memory_is_stored u run word = ap (λ es. written u.image es word) (entries_stored u run)
