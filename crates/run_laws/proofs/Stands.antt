-- Loads in a record are reads of the reference machine's memory.
use Rattle.std.proofs.Common.{◌≡◌, ◌≢◌, ◌⊎◌, ℕ, Bool, false, List, [], ◌∷◌, ◌++◌, refl, sym, ap, subst, ◌∙◌, inl, inr, ne_eqb}
use Rattle.step_laws.specs.declared.steps.Step.{Step}
use Rattle.step_laws.specs.declared.steps.WordOp.{WordOp}
use Rattle.step_laws.specs.declared.steps.WordOp.TheVariants.{Store}
use Rattle.step_laws.specs.Map.{Word, name_of}
use Rattle.step_laws.specs.Words.{loader}
use Rattle.step_laws.specs.Steps.{own_steps, value_at, answer_of}
use Rattle.step_laws.specs.Discipline.{IsActor}
use Rattle.step_laws.specs.Histories.{IsHistory}
use Rattle.run_laws.proofs.Stepping.{woven}
use Rattle.rv64_priv.specs.Walk.{Walked}
use Rattle.machine_model.specs.Past.{now, HasSince, this, before}
use Rattle.machine_model.specs.Event.{Event, actor_of}
use Rattle.machine_model.specs.State.{Setup}
use Rattle.machine_model.specs.Run.{is_of, renews}
use Rattle.machine_model.proofs.Uniform.{Passing, renews_other}
use Rattle.run_laws.proofs.Placed.{Placed, placed, run_of, mine, By, Stood}
use Rattle.walk_laws.specs.WalkLoads.{Found, Loads}
use Rattle.run_laws.proofs.Kept.{half, whole}
use Rattle.turn_pieces.specs.Shared.{IsShared}
use Rattle.run_laws.proofs.Beginning.{IsBegun, history}
use Rattle.run_laws.proofs.Weave.{by_mine}
use Rattle.run_laws.proofs.Pieces.{Told, Right, IsIdleStep}
use Rattle.run_laws.proofs.Shared.{Way, rests, one, first, second, way_of}
use Rattle.run_laws.proofs.Agree.{agrees_of, settled, ram_actor, history_tail, mem}
use Rattle.run_laws.proofs.Own.{Owned, owned}
use Rattle.run_laws.proofs.Walks.{Chain, chain_more, passing, AreShared}

pub whole_of : {u : Setup} {r : List Placed} {a n : ℕ} {w : Word} {op : WordOp} {arg answer : ℕ} {es : List Event} → Way u r a n w op arg answer es → op ≢ Store → half r ≡ whole
whole_of (rests hw f q) ne = hw
whole_of (one hw s k q) ne = hw
whole_of (first j hw x o none k) ne = hw
whole_of (second m v j hp x o k q) ne = absurd (ne o)

pub answer_old : (op : WordOp) (old answer : ℕ) → op ≢ Store → answer ≡ answer_of op old → answer ≡ old
answer_old Store old answer ne e = absurd (ne refl)
answer_old op old answer ne e = e

pub others_pass : (a c : ℕ) (stop : Event → Bool) (es : List Event) → ((e : Event) → actor_of e ≢ a → stop e ≡ false) → a ≢ c → By c es → Passing stop es
others_pass a c stop [] f ne b = tt
others_pass a c stop (e ∷ es) f ne b = (f e (λ k. ne (sym k ∙ b.0)), others_pass a c stop es f ne b.1)

pub not_of : (a : ℕ) (e : Event) → actor_of e ≢ a → is_of a e ≡ false
not_of a e ne = ne_eqb (actor_of e) a ne

pub not_renews : (a va : ℕ) (end : Walked) (e : Event) → actor_of e ≢ a → renews a va end e ≡ false
not_renews a va end e ne = renews_other a va end e (not_of a e ne)

-- what was done since in an actor's own events was done since in all
pub has_since_more : (stop test : Event → Bool) (es r q : List Event) → (HasSince stop test r → HasSince stop test q) → HasSince stop test (es ++ r) → HasSince stop test (es ++ q)
has_since_more stop test [] r q f k = f k
has_since_more stop test (e ∷ es) r q f (this t) = this t
has_since_more stop test (e ∷ es) r q f (before n k) = before n (has_since_more stop test es r q f k)

has_since_others : (stop test : Event → Bool) (es r : List Event) → Passing stop es → HasSince stop test r → HasSince stop test (es ++ r)
has_since_others stop test [] r p k = k
has_since_others stop test (e ∷ es) r p k = before p.0 (has_since_others stop test es r p.1 k)

no_since : {A : Type 0} (stop test : Event → Bool) → HasSince stop test [] → A
no_since stop test k = elim k [ ]

pub has_since_mine : (a : ℕ) (stop test : Event → Bool) → ((e : Event) → actor_of e ≢ a → stop e ≡ false) → (ts : List Placed) → Owned ts
    → HasSince stop test (run_of (mine a ts)) → HasSince stop test (run_of ts)
has_since_mine a stop test f [] d = λ k. k
has_since_mine a stop test f (t ∷ ts) d = by_mine (λ b r. b ≡ a → HasSince stop test (run_of r) → HasSince stop test (t.events ++ run_of ts)) a t ts
    (λ e k. has_since_more stop test t.events (run_of (mine t.step.actor ts)) (run_of ts) (λ j. has_since_mine a stop test f ts d.1 (subst (λ b. HasSince stop test (run_of (mine b ts))) e j)) k)
    (λ ne e k. has_since_others stop test t.events (run_of ts) (others_pass a t.step.actor stop t.events f ne d.0) (has_since_mine a stop test f ts d.1 k))
    refl

module _ (u : Setup) (boot : List Step) (runs : ℕ → Bool) (begun : IsBegun u boot) where
  -- a step on a shared word is an actor's
  pub acts_of : (t : Placed) (ts : List Placed) → IsHistory u.layout runs (history boot (t ∷ ts)) → Right u t.step.actor (mine t.step.actor ts) t → IsShared (name_of t.step.word) → IsActor u.layout t.step.actor
  acts_of t ts h d s = go d.who
    where
      go : (t.step.actor ≢ loader) ⊎ IsIdleStep t → IsActor u.layout t.step.actor
      go (inl ne) = ram_actor u boot runs begun t.step.word t.step.actor (own_steps t.step.actor (history boot ts)) t.step.op t.step.arg ne (woven u.layout runs (history boot (t ∷ ts)) h).0.permitted
      go (inr i) = absurd (subst IsShared i.0 s)

  -- what a step on a shared word answered, but for a plain store, was in memory
  pub answered_now : (t : Placed) (ts : List Placed) → IsHistory u.layout runs (history boot (t ∷ ts)) → Told u (t ∷ ts) → IsShared (name_of t.step.word) → t.step.op ≢ Store
      → mem u ts t.step.word ≡ t.step.answer
  answered_now t ts h d s ne =
      sym (settled u boot runs begun t.step.actor t.step.word t.step.op t.step.arg t.step.answer ts h
      (agrees_of u boot runs begun ts (history_tail u runs t.step (history boot ts) h) d.1) (acts_of t ts h d.0) s (whole_of (way_of d.0.right.accounts) ne) t.step.word s)
      ∙ sym (answer_old t.step.op (value_at t.step.word (history boot ts)) t.step.answer ne (woven u.layout runs (history boot (t ∷ ts)) h).0.answered)

  loaded_now : (t : Placed) (ts : List Placed) → IsHistory u.layout runs (history boot (t ∷ ts)) → Told u (t ∷ ts) → (x : Found) → IsShared (name_of x.word) → Loads x t.step
      → mem u ts x.word ≡ x.value
  loaded_now t ts h d x s l = ap (mem u ts) (sym l.0) ∙ (answered_now t ts h d (subst (λ y. IsShared (name_of y)) (sym l.0) s) (λ e. cc (l.1, e)) ∙ l.2)

  -- a step's loads, with the events below one at it
  pub stood_head : (t : Placed) (ts : List Placed) → IsHistory u.layout runs (history boot (t ∷ ts)) → Told u (t ∷ ts) → (es : List Event) (stop : Event → Bool) (xs : List Found) → AreShared xs
      → ((ys : List Found) → AreShared ys → Stood stop ys (mine t.step.actor ts) → Chain u stop ys (run_of ts))
      → Stood stop xs (placed t.step es ∷ mine t.step.actor ts) → Chain u stop xs (es ++ run_of ts)
  stood_head t ts h d es stop [] s ih k = tt
  stood_head t ts h d es stop (x ∷ xs) s ih k = chain_more u stop (x ∷ xs) es (run_of ts) (passing stop es k.0) (go k.1)
    where
      go : (Loads x t.step × Stood stop xs (mine t.step.actor ts)) ⊎ Stood stop (x ∷ xs) (mine t.step.actor ts) → Chain u stop (x ∷ xs) (run_of ts)
      go (inl l) = (run_of ts, now, loaded_now t ts h d x s.0 l.0, ih xs s.1 l.1)
      go (inr q) = ih (x ∷ xs) s q

  pub stood_chain : (ts : List Placed) → IsHistory u.layout runs (history boot ts) → Told u ts → (a : ℕ) (stop : Event → Bool) → ((e : Event) → actor_of e ≢ a → stop e ≡ false)
      → (xs : List Found) → AreShared xs → Stood stop xs (mine a ts) → Chain u stop xs (run_of ts)
  stood_chain ts h d a stop f [] s k = tt
  stood_chain [] h d a stop f (x ∷ xs) s k = absurd k
  stood_chain (t ∷ ts) h d a stop f (x ∷ xs) s k = by_mine (λ b r. b ≡ a → Stood stop (x ∷ xs) r → Chain u stop (x ∷ xs) (t.events ++ run_of ts)) a t ts
      (λ e j. stood_head t ts h d t.events stop (x ∷ xs) s
      (λ ys sy q. stood_chain ts (history_tail u runs t.step (history boot ts) h) d.1 a stop f ys sy (subst (λ b. Stood stop ys (mine b ts)) e q)) j)
      (λ ne e j. chain_more u stop (x ∷ xs) t.events (run_of ts) (others_pass a t.step.actor stop t.events f ne (owned u (t ∷ ts) d).0)
      (stood_chain ts (history_tail u runs t.step (history boot ts) h) d.1 a stop f (x ∷ xs) s j))
      refl k

  -- what stands in the actor's record up to this step, of which the events es are placed
  pub stands : (t : Placed) (ts : List Placed) → IsHistory u.layout runs (history boot (t ∷ ts)) → Told u (t ∷ ts) → (es : List Event) (stop : Event → Bool)
      → ((e : Event) → actor_of e ≢ t.step.actor → stop e ≡ false) → (xs : List Found) → AreShared xs
      → Stood stop xs (placed t.step es ∷ mine t.step.actor ts) → Chain u stop xs (es ++ run_of ts)
  stands t ts h d es stop f xs s k = stood_head t ts h d es stop xs s (λ ys sy q. stood_chain ts (history_tail u runs t.step (history boot ts) h) d.1 t.step.actor stop f ys sy q) k
