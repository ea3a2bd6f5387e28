-- How far a fence has come at a target, behind steps of each kind.
use Rattle.std.proofs.Common.{◌≡◌, ◌≢◌, ℕ, ◌+◌, ◌%◌, ◌<◌, List, [], ◌∷◌, ◌++◌, length, refl, sym, ap, subst, ◌∙◌, arith, inl, inr, ⊎_elim, append_assoc}
use Rattle.std.specs.Prelude.{◌⊎◌}
use Rattle.std.proofs.lemmas.List.{get_or-set_other}
use Rattle.step_laws.specs.declared.request.Request.{Request}
use Rattle.step_laws.specs.declared.steps.Step.{Step}
use Rattle.step_laws.specs.declared.steps.WordOp.{WordOp}
use Rattle.step_laws.specs.declared.steps.WordOp.TheVariants.{Load, Store}
use Rattle.step_laws.specs.Map.{Word, Kick, Place}
use Rattle.step_laws.specs.Past.{Anything, Earlier, at_head, further}
use Rattle.step_laws.proofs.Named.{by_test}
use Rattle.guest_ram.specs.Plays.{step_of}
use Rattle.guest_ram.specs.Ports.{Shown, Made, GoesBy}
use Rattle.work_queue.specs.declared.rings.Sent.{Sent}
use Rattle.work_queue.specs.Posts.{HasPosted}
use Rattle.work_queue.specs.Rings.{IsSentBy, next_post, sent_on}
use Rattle.work_queue.proofs.Ringed.{posted_more}
use Rattle.hart_calls.specs.declared.spans.Span.{Span}
use Rattle.sbi_calls.specs.Fences.{HasAnswered, HasAsked, IsFenceAt, place_of}
use Rattle.sbi_calls.specs.Spans.{piece_of, pieces_of}

earlier_more : {A : Type 0} (P : A → Type 0) (Q : List A → Type 0) (more xs : List A) → Earlier P Q xs → Earlier P Q (more ++ xs)
earlier_more P Q [] xs e = e
earlier_more P Q (x ∷ more) xs e = further (earlier_more P Q more xs e)

earlier_behind : {A : Type 0} (P : A → Type 0) (xs more : List A) → Earlier P Anything xs → Earlier P Anything (xs ++ more)
earlier_behind P [] more x' = elim x' [ ]
earlier_behind P (x ∷ xs) more (at_head e a) = at_head e tt
earlier_behind P (x ∷ xs) more (further e) = further (earlier_behind P xs more e)

steps_made : (p q : Shown) (w : Word) (op : WordOp) (arg answer : ℕ) (m : Made p q w op arg answer) → q.own.steps ≡ step_of p.own.actor m.word op arg answer ∷ p.own.steps
steps_made p q w op arg answer m = ap (λ (x : Shown). x.own.steps) m.step

actor_made : (p q : Shown) (w : Word) (op : WordOp) (arg answer : ℕ) (m : Made p q w op arg answer) → q.own.actor ≡ p.own.actor
actor_made p q w op arg answer m = ap (λ (x : Shown). x.own.actor) m.step

-- behind a call it stands where it stood
pub at_goes : (n : ℕ) (A : Word → Type 0) (p q : Shown) (span : Span) (next t posted acked : ℕ) (base : List Step) → GoesBy n A p q → IsFenceAt span next t posted acked base p → IsFenceAt span next t posted acked base q
at_goes n A p q span next t posted acked base goes i = subst (λ (x : Shown). IsFenceAt span next t posted acked base x) (sym goes.grown) (record {
  since = goes.added ++ i.since;
  is = ap (λ r. goes.added ++ r) i.is ∙ sym (append_assoc goes.added i.since base);
  most = i.most;
  few = i.few;
  asked = λ m l. earlier_more _ _ goes.added i.since (i.asked m l);
  answered = λ m l. earlier_more _ _ goes.added i.since (i.answered m l);
})

below_next : (i n : ℕ) → i < n + 1 → (i < n) ⊎ (i ≡ n)
below_next i n l = by_test i n (λ _. (i < n) ⊎ (i ≡ n)) (λ e. inr e) (λ ne. inl (omega arith))

same_place : (next posted i : ℕ) → next < 8 → posted < 8 → i < posted → place_of next posted i ≡ place_of ((next + 1) % 8) (posted + 1) i
same_place next posted i a b c = omega arith

last_place : (next posted : ℕ) → next < 8 → posted < 8 → next ≡ place_of ((next + 1) % 8) (posted + 1) posted
last_place next posted a b = omega arith

-- one piece more was posted
module _ (span : Span) (t k posted acked : ℕ) (base : List Step) (p q : Shown) (few : k < 8) (l : posted < 8) (h : HasPosted (piece_of span posted) t k p q) where
  added : List Step
  added = step_of h.stored.own.actor h.kicks.word Store 1 0 ∷ step_of h.found.own.actor h.stores.word Store h.word 0 ∷ step_of p.own.actor h.finds.word Load 0 0 ∷ []

  grown : q.own.steps ≡ added ++ p.own.steps
  unfolding added
  grown = steps_made h.stored q (Kick t) Store 1 0 h.kicks ∙ ap (λ r. step_of h.stored.own.actor h.kicks.word Store 1 0 ∷ r) (steps_made h.found h.stored (Place t h.found.own.actor k) Store h.word 0 named_found
      ∙ ap (λ r. step_of h.found.own.actor h.stores.word Store h.word 0 ∷ r) (steps_made p h.found (Place t p.own.actor k) Load 0 0 h.finds))
    where
      named_found : Made h.found h.stored (Place t h.found.own.actor k) Store h.word 0
      named_found = subst (λ a. Made h.found h.stored (Place t a k) Store h.word 0) (sym (actor_made p h.found (Place t p.own.actor k) Load 0 0 h.finds)) h.stores

  same : q.own.actor ≡ p.own.actor
  same = actor_made h.stored q (Kick t) Store 1 0 h.kicks ∙ ap (λ (x : Shown). x.own.actor) h.stores.step ∙ actor_made p h.found (Place t p.own.actor k) Load 0 0 h.finds

  here : HasAsked q.own.actor t k (piece_of span posted) added
  unfolding added
  here = further (at_head (h.stores.name ∙ ap (λ a. Place t a k) (sym same), refl, h.is_word) tt)

  asked_more : (i : ℕ) (since : List Step) → HasAsked p.own.actor t (place_of k posted i) (piece_of span i) since → i < posted → HasAsked q.own.actor t (place_of ((k + 1) % 8) (posted + 1) i) (piece_of span i) (added ++ since)
  asked_more i since e c = subst (λ a. HasAsked a t (place_of ((k + 1) % 8) (posted + 1) i) (piece_of span i) (added ++ since)) (sym same)
      (subst (λ n. HasAsked p.own.actor t n (piece_of span i) (added ++ since)) (same_place k posted i few l c) (earlier_more _ _ added since e))

  asked_next : (i : ℕ) (since : List Step) → ((m : ℕ) → m < posted → HasAsked p.own.actor t (place_of k posted m) (piece_of span m) since) → i < posted + 1 → HasAsked q.own.actor t (place_of ((k + 1) % 8) (posted + 1) i) (piece_of span i) (added ++ since)
  asked_next i since old c = ⊎_elim (λ (b : i < posted). asked_more i since (old i b) b) last (below_next i posted c)
    where
      last : i ≡ posted → HasAsked q.own.actor t (place_of ((k + 1) % 8) (posted + 1) i) (piece_of span i) (added ++ since)
      last e = subst (λ n. HasAsked q.own.actor t (place_of ((k + 1) % 8) (posted + 1) n) (piece_of span n) (added ++ since)) (sym e)
          (subst (λ n. HasAsked q.own.actor t n (piece_of span posted) (added ++ since)) (last_place k posted few l) (earlier_behind _ added since here))

  answered_more : (i : ℕ) (since : List Step) → HasAnswered p.own.actor t (place_of k posted i) (piece_of span i) since → i < posted → HasAnswered q.own.actor t (place_of ((k + 1) % 8) (posted + 1) i) (piece_of span i) (added ++ since)
  answered_more i since e c = subst (λ a. HasAnswered a t (place_of ((k + 1) % 8) (posted + 1) i) (piece_of span i) (added ++ since)) (sym same)
      (subst (λ n. HasAnswered p.own.actor t n (piece_of span i) (added ++ since)) (same_place k posted i few l c) (earlier_more _ _ added since e))

  pub at_posted : posted < pieces_of span → IsFenceAt span k t posted acked base p → IsFenceAt span ((k + 1) % 8) t (posted + 1) acked base q
  at_posted more i = record {
    since = added ++ i.since;
    is = grown ∙ ap (λ r. added ++ r) i.is ∙ sym (append_assoc added i.since base);
    most = omega (arith, more);
    few = omega (arith, i.few);
    asked = λ m c. asked_next m i.since i.asked c;
    answered = λ m c. answered_more m i.since (i.answered m c) (omega (arith, i.few, c));
  }

-- a place was loaded as 0 behind its post
pub at_answered : (span : Span) (next t posted acked : ℕ) (base : List Step) (p q : Shown) (k : ℕ) → Made p q (Place t p.own.actor k) Load 0 0 → k ≡ place_of next posted acked → acked < posted
    → IsFenceAt span next t posted acked base p → IsFenceAt span next t posted (acked + 1) base q
at_answered span next t posted acked base p q k m at l i = subst (λ (x : Shown). IsFenceAt span next t posted (acked + 1) base x) (sym m.step) (record {
  since = polled ∷ i.since;
  is = ap (λ r. polled ∷ r) i.is;
  most = i.most;
  few = omega (arith, l);
  asked = λ n c. further (i.asked n c);
  answered = λ n c. ⊎_elim (λ (b : n < acked). further (i.answered n b)) (λ (e : n ≡ acked). subst (λ j. HasAnswered p.own.actor t (place_of next posted j) (piece_of span j) (polled ∷ i.since)) (sym e)
      (at_head (m.name ∙ ap (λ j. Place t p.own.actor j) at, refl, refl) (i.asked acked l))) (below_next n acked c);
})
  where
    polled : Step
    polled = step_of p.own.actor m.word Load 0 0

moved_here : (sent now : Sent) (request : Request) (t k : ℕ) (p q : Shown) → t < 16 → IsSentBy sent p → IsSentBy now q → HasPosted request t k p q → next_post now t ≡ (next_post sent t + 1) % 8
moved_here sent now request t k p q few before behind h = behind t few ∙ ap (λ xs. length xs % 8) (posted_more request t k p q h) ∙ omega (arith, before t few)

moved_else : (sent : Sent) (t u : ℕ) → u ≢ t → next_post (sent_on sent t) u ≡ next_post sent u
moved_else sent t u ne = get_or-set_other sent.next t u ((next_post sent t + 1) % 8) 0 ne

-- a post goes on with the ring as well
pub at_sent : (span : Span) (sent now : Sent) (request : Request) (t k posted acked : ℕ) (base : List Step) (p q : Shown) → t < 16 → IsSentBy sent p → IsSentBy now q → next_post sent t < 8 → posted < 8 → posted < pieces_of span
    → request ≡ piece_of span posted → k ≡ next_post sent t → HasPosted request t k p q
    → IsFenceAt span (next_post sent t) t posted acked base p → IsFenceAt span (next_post now t) t (posted + 1) acked base q
at_sent span sent now request t k posted acked base p q few before behind low l more is at h i = subst (λ n. IsFenceAt span n t (posted + 1) acked base q) (sym (moved_here sent now request t k p q few before behind h))
    (at_posted span t (next_post sent t) posted acked base p q low l (subst (λ n. HasPosted (piece_of span posted) t n p q) at (subst (λ r. HasPosted r t k p q) is h)) more i)

pub sent_else : (sent now : Sent) (t u : ℕ) → now ≡ sent_on sent t → u ≢ t → next_post now u ≡ next_post sent u
sent_else sent now t u moved ne = ap (λ s. next_post s u) moved ∙ moved_else sent t u ne
