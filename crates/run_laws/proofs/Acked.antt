-- Where a log shows the flush of a request, its placed steps show it.
use Rattle.std.proofs.Common.{◌≡◌, ℕ, Bool, true, false, List, [], ◌∷◌, refl, sym, ap, subst, ◌∙◌, inl, inr}
use Rattle.std.specs.Prelude.{◌||◌, IsTrue}
use Rattle.std.specs.List.{list_any}
use Rattle.step_laws.specs.declared.steps.WordOp.{WordOp}
use Rattle.step_laws.specs.declared.steps.WordOp.TheVariants.{Store}
use Rattle.step_laws.specs.Map.{Word, Place}
use Rattle.step_laws.specs.Past.{Since, here, past, Anything}
use Rattle.step_laws.specs.Places.{last_load}
use Rattle.step_laws.specs.Discipline.{IsAway, IsFetch}
use Rattle.machine_model.specs.Event.{Event}
use Rattle.machine_model.specs.Run.{flushes}
use Rattle.turn_pieces.specs.Log.{made, did, Log}
use Rattle.turn_pieces.specs.Requests.{flush_of, HasFetched, HasFlushed, Acks as LogAcks}
use Rattle.run_laws.proofs.Placed.{Placed, with_event, placed_of}
use Rattle.run_laws.proofs.Acks.{IsFlushed, Acks}
use Rattle.run_laws.proofs.Same.{same_steps, AtTop, same_top}

abbrev Fetched : Word → (q : ℕ) → List Placed → Type 0
Fetched w q r = Since (λ (y : Placed). IsAway w y.step) (λ y. IsFetch w q y.step) Anything r

-- what an ack needs
fetched_with : (w : Word) (q : ℕ) (e : Event) (r : List Placed) → Fetched w q r → Fetched w q (with_event e r)
fetched_with w q e [] k = k
fetched_with w q e (y ∷ r) (here k t) = here k t
fetched_with w q e (y ∷ r) (past k t) = past k t

same_fetched : (w : Word) (q : ℕ) (l : Log) → HasFetched w q l → Fetched w q (placed_of l)
same_fetched w q [] k = absurd k
same_fetched w q (made s ∷ l) (inl k) = here k tt
same_fetched w q (made s ∷ l) (inr k) = past k.0 (same_fetched w q l k.1)
same_fetched w q (did e ∷ l) k = fetched_with w q e (placed_of l) (same_fetched w q l k)

any_head : (b c : Bool) → b ≡ true → (b || c) ≡ true
any_head true c k = refl
any_head false c k = absurd (cc)

any_tail : (b c : Bool) → c ≡ true → (b || c) ≡ true
any_tail true c k = refl
any_tail false c k = k

flushed_with : (t : ℕ) (w : Word) (q : ℕ) (e : Event) (r : List Placed) → IsFlushed t w q r → IsFlushed t w q (with_event e r)
flushed_with t w q e [] k = k
flushed_with t w q e (y ∷ r) (here k f) = here (any_tail (flushes t (flush_of q) e) (list_any (flushes t (flush_of q)) y.events) k.0, k.1) f
flushed_with t w q e (y ∷ r) (past k f) = past k f

-- a flush at the last step, which is elsewhere
flushed_here : (t : ℕ) (w : Word) (q : ℕ) (e : Event) (r : List Placed) → IsTrue (flushes t (flush_of q) e) → AtTop (IsAway w) r → Fetched w q r → IsFlushed t w q (with_event e r)
flushed_here t w q e [] f k x = absurd k
flushed_here t w q e (y ∷ r) f k (here x z) = absurd (k x.0)
flushed_here t w q e (y ∷ r) f k (past x z) = here (any_head (flushes t (flush_of q) e) (list_any (flushes t (flush_of q)) y.events) f, k) z

pub same_hasflushed : (t : ℕ) (w : Word) (q : ℕ) (l : Log) → HasFlushed t w q l → IsFlushed t w q (placed_of l)
same_hasflushed t w q [] k = absurd k
same_hasflushed t w q (made s ∷ l) k = past k.0 (same_hasflushed t w q l k.1)
same_hasflushed t w q (did e ∷ l) (inl k) = flushed_here t w q e (placed_of l) k.0 (subst (λ A. A) (sym (same_top (IsAway w) l)) k.1) (same_fetched w q l k.2)
same_hasflushed t w q (did e ∷ l) (inr k) = flushed_with t w q e (placed_of l) (same_hasflushed t w q l k)

pub same_acks : (a : ℕ) (l : Log) (w : Word) (op : WordOp) → LogAcks a l w op → Acks a (placed_of l) w op
same_acks a l (Place t s k) Store f = λ e q loaded drain. same_hasflushed t (Place t s k) q l (f e q (ap (last_load (Place t s k)) (sym (same_steps l)) ∙ loaded) drain)
same_acks a l w op f = tt
