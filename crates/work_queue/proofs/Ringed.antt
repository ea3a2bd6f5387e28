-- What steps on places and KICK do to the rings that a record shows.
use Rattle.std.proofs.Common.{◌≡◌, ◌≢◌, ℕ, ◌+◌, ◌%◌, ◌<◌, Bool, true, false, List, [], ◌∷◌, ◌++◌, length, refl, sym, ap, subst, ◌∙◌, arith, ⊎_elim}
use Rattle.std.specs.Prelude.{◌==◌, ◌&&◌, if◌then◌else◌}
use Rattle.std.proofs.lemmas.Bool.{eq-eqb, ne_eqb, cases_eq}
use Rattle.std.proofs.lemmas.List.{get_or-set_same, get_or-set_other}
use Rattle.step_laws.specs.declared.request.Request.{Request}
use Rattle.step_laws.specs.declared.steps.Step.{Step}
use Rattle.step_laws.specs.declared.steps.WordOp.{WordOp}
use Rattle.step_laws.specs.declared.steps.WordOp.TheVariants.{Load, Store}
use Rattle.step_laws.specs.Map.{Word, Kick, Place, name_of}
use Rattle.step_laws.specs.Places.{acked_requests, acked_requests_next, answer_or_zero, last_load, posts, posts_next}
use Rattle.guest_ram.specs.Ports.{Shown, Adds, Made, May, AreAllowed, GoesBy}
use Rattle.guest_ram.proofs.Moves.{fold_adds, fold_goes}
use Rattle.work_queue.specs.declared.rings.Sent.{Sent}
use Rattle.work_queue.specs.declared.rings.Served.{Served}
use Rattle.work_queue.specs.Posts.{HasPosted}
use Rattle.work_queue.specs.Rings.{IsSentBy, IsServedBy, next_post, next_ack, sent_on, served_on}

-- a step on a place whose source or target is the actor, by its number as the body has it
pub made_sent : (p q : Shown) (word t a k arg answer : ℕ) (op : WordOp) → name_of word ≡ Place t a k → a ≡ p.own.actor → Adds p q word op arg answer → May p word op arg → Made p q (Place t p.own.actor k) op arg answer
made_sent p q word t a k arg answer op e is step may = record { word = word; name = e ∙ ap (λ x. Place t x k) is; step = step; may = may }

pub made_own : (p q : Shown) (word a s k arg answer : ℕ) (op : WordOp) → name_of word ≡ Place a s k → a ≡ p.own.actor → Adds p q word op arg answer → May p word op arg → Made p q (Place p.own.actor s k) op arg answer
made_own p q word a s k arg answer op e is step may = record { word = word; name = e ∙ ap (λ x. Place x s k) is; step = step; may = may }

-- and by what it answered
pub made_as : (p q : Shown) (w : Word) (op : WordOp) (arg answer n : ℕ) → answer ≡ n → Made p q w op arg answer → Made p q w op arg n
made_as p q w op arg answer n e m = subst (λ x. Made p q w op arg x) e m

module _ (p q : Shown) (w : Word) (op : WordOp) (arg answer : ℕ) (m : Made p q w op arg answer) where
  pub actor_made : q.own.actor ≡ p.own.actor
  actor_made = ap (λ (x : Shown). x.own.actor) m.step

  posts_made : (t : ℕ) → posts t q.own.actor q.own.steps ≡ posts_next t p.own.actor w op arg answer (posts t p.own.actor p.own.steps)
  posts_made t = ap (λ a. posts t a q.own.steps) actor_made ∙ fold_adds (posts_next t p.own.actor) [] p q m.word arg answer op w m.step m.name

  acks_made : (s : ℕ) → acked_requests q.own.actor s q.own.steps ≡ acked_requests_next p.own.actor s w op p.own.steps (acked_requests p.own.actor s p.own.steps)
  acks_made s = ap (λ a. acked_requests a s q.own.steps) actor_made ∙ ap (λ (x : Shown). acked_requests p.own.actor s x.own.steps) m.step
      ∙ ap (λ v. acked_requests_next p.own.actor s v op p.own.steps (acked_requests p.own.actor s p.own.steps)) m.name

abbrev ring_of : List ℕ → ℕ
ring_of xs = length xs % 8

-- a load of a place leaves both
module _ (p q : Shown) (t s k answer : ℕ) (m : Made p q (Place t s k) Load 0 answer) where
  pub sent_loads : (sent : Sent) → IsSentBy sent p → IsSentBy sent q
  sent_loads sent before u l = before u l ∙ ap ring_of (sym (posts_made p q (Place t s k) Load 0 answer m u))

  pub served_loads : (served : Served) → IsServedBy served p → IsServedBy served q
  served_loads served before u l = before u l ∙ ap ring_of (sym (acks_made p q (Place t s k) Load 0 answer m u))

-- and so does a call
module _ (p q : Shown) (h arg answer : ℕ) (op : WordOp) (m : Made p q (Kick h) op arg answer) where
  pub sent_kicks : (sent : Sent) → IsSentBy sent p → IsSentBy sent q
  sent_kicks sent before u l = before u l ∙ ap ring_of (sym (posts_made p q (Kick h) op arg answer m u))

  pub served_kicks : (served : Served) → IsServedBy served p → IsServedBy served q
  served_kicks served before u l = before u l ∙ ap ring_of (sym (acks_made p q (Kick h) op arg answer m u))

next_ring : (n : ℕ) → (n % 8 + 1) % 8 ≡ (n + 1) % 8
next_ring n = omega arith

one_more : (x : ℕ) (xs : List ℕ) → (length xs + 1) % 8 ≡ ring_of (x ∷ xs)
one_more x xs = let e : length xs + 1 ≡ length (x ∷ xs) = omega arith in ap (λ n. n % 8) e

-- a post at a target moves that ring on, and no other
module _ (p q : Shown) (t k arg : ℕ) (m : Made p q (Place t p.own.actor k) Store arg 0) where
  posted_here : posts t q.own.actor q.own.steps ≡ arg ∷ posts t p.own.actor p.own.steps
  posted_here = posts_made p q (Place t p.own.actor k) Store arg 0 m t ∙ ap (λ (b : Bool). if b && (p.own.actor == p.own.actor) then arg ∷ posts t p.own.actor p.own.steps else posts t p.own.actor p.own.steps) (eq-eqb t t refl)
      ∙ ap (λ (b : Bool). if b then arg ∷ posts t p.own.actor p.own.steps else posts t p.own.actor p.own.steps) (eq-eqb p.own.actor p.own.actor refl)

  posted_else : (u : ℕ) → u ≢ t → posts u q.own.actor q.own.steps ≡ posts u p.own.actor p.own.steps
  posted_else u ne = posts_made p q (Place t p.own.actor k) Store arg 0 m u ∙ ap (λ (b : Bool). if b && (p.own.actor == p.own.actor) then arg ∷ posts u p.own.actor p.own.steps else posts u p.own.actor p.own.steps) (ne_eqb u t ne)

  pub sent_posts : (sent : Sent) → length sent.next ≡ 16 → t < 16 → IsSentBy sent p → IsSentBy (sent_on sent t) q
  sent_posts sent wide few before u l = ⊎_elim (λ (e : u ≡ t). subst (λ v. next_post (sent_on sent t) v ≡ ring_of (posts v q.own.actor q.own.steps)) (sym e) here) other (cases_eq u t)
    where
      here : next_post (sent_on sent t) t ≡ ring_of (posts t q.own.actor q.own.steps)
      here = get_or-set_same sent.next t ((next_post sent t + 1) % 8) 0 (omega (arith, wide)) ∙ ap (λ n. (n + 1) % 8) (before t few) ∙ next_ring (length (posts t p.own.actor p.own.steps))
          ∙ one_more arg (posts t p.own.actor p.own.steps) ∙ ap ring_of (sym posted_here)

      other : u ≢ t → next_post (sent_on sent t) u ≡ ring_of (posts u q.own.actor q.own.steps)
      other ne = get_or-set_other sent.next t u ((next_post sent t + 1) % 8) 0 ne ∙ before u l ∙ ap ring_of (sym (posted_else u ne))

  pub served_posts : (served : Served) → t ≢ p.own.actor → IsServedBy served p → IsServedBy served q
  served_posts served ne before s l = before s l ∙ ap ring_of (sym (acks_made p q (Place t p.own.actor k) Store arg 0 m s
      ∙ ap (λ (b : Bool). if b && (s == p.own.actor) then answer_or_zero (last_load (Place t p.own.actor k) p.own.steps) ∷ acked_requests p.own.actor s p.own.steps else acked_requests p.own.actor s p.own.steps) (ne_eqb p.own.actor t (λ e. ne (sym e)))))

-- a post as a whole
pub posted_more : (request : Request) (t k : ℕ) (p q : Shown) (h : HasPosted request t k p q) → posts t q.own.actor q.own.steps ≡ h.word ∷ posts t p.own.actor p.own.steps
posted_more request t k p q h = posts_made h.stored q (Kick t) Store 1 0 h.kicks t
    ∙ posted_here h.found h.stored t k h.word (subst (λ a. Made h.found h.stored (Place t a k) Store h.word 0) (sym (actor_made p h.found (Place t p.own.actor k) Load 0 0 h.finds)) h.stores)
    ∙ ap (λ xs. h.word ∷ xs) (posts_made p h.found (Place t p.own.actor k) Load 0 0 h.finds t)

-- an ack of a source moves that ring on, and no other
module _ (p q : Shown) (s k : ℕ) (m : Made p q (Place p.own.actor s k) Store 0 0) where
  abbrev acked : ℕ
  acked = answer_or_zero (last_load (Place p.own.actor s k) p.own.steps)

  acked_here : acked_requests q.own.actor s q.own.steps ≡ acked ∷ acked_requests p.own.actor s p.own.steps
  acked_here = acks_made p q (Place p.own.actor s k) Store 0 0 m s ∙ ap (λ (b : Bool). if b && (s == s) then acked ∷ acked_requests p.own.actor s p.own.steps else acked_requests p.own.actor s p.own.steps) (eq-eqb p.own.actor p.own.actor refl)
      ∙ ap (λ (b : Bool). if b then acked ∷ acked_requests p.own.actor s p.own.steps else acked_requests p.own.actor s p.own.steps) (eq-eqb s s refl)

  neither : (b : Bool) (u : ℕ) → u ≢ s → (if b && (u == s) then acked ∷ acked_requests p.own.actor u p.own.steps else acked_requests p.own.actor u p.own.steps) ≡ acked_requests p.own.actor u p.own.steps
  neither true u ne = ap (λ (c : Bool). if c then acked ∷ acked_requests p.own.actor u p.own.steps else acked_requests p.own.actor u p.own.steps) (ne_eqb u s ne)
  neither false u ne = refl

  acked_else : (u : ℕ) → u ≢ s → acked_requests q.own.actor u q.own.steps ≡ acked_requests p.own.actor u p.own.steps
  acked_else u ne = acks_made p q (Place p.own.actor s k) Store 0 0 m u ∙ neither (p.own.actor == p.own.actor) u ne

  pub served_acks : (served : Served) → length served.next ≡ 17 → s < 17 → IsServedBy served p → IsServedBy (served_on served s) q
  served_acks served wide few before u l = ⊎_elim (λ (e : u ≡ s). subst (λ v. next_ack (served_on served s) v ≡ ring_of (acked_requests q.own.actor v q.own.steps)) (sym e) here) other (cases_eq u s)
    where
      here : next_ack (served_on served s) s ≡ ring_of (acked_requests q.own.actor s q.own.steps)
      here = get_or-set_same served.next s ((next_ack served s + 1) % 8) 0 (omega (arith, wide)) ∙ ap (λ n. (n + 1) % 8) (before s few) ∙ next_ring (length (acked_requests p.own.actor s p.own.steps))
          ∙ one_more acked (acked_requests p.own.actor s p.own.steps) ∙ ap ring_of (sym acked_here)

      other : u ≢ s → next_ack (served_on served s) u ≡ ring_of (acked_requests q.own.actor u q.own.steps)
      other ne = get_or-set_other served.next s u ((next_ack served s + 1) % 8) 0 ne ∙ before u l ∙ ap ring_of (sym (acked_else u ne))

  unposted : (b : Bool) (u : ℕ) → p.own.actor ≢ s → (if b && (p.own.actor == s) then 0 ∷ posts u p.own.actor p.own.steps else posts u p.own.actor p.own.steps) ≡ posts u p.own.actor p.own.steps
  unposted true u ne = ap (λ (c : Bool). if c then 0 ∷ posts u p.own.actor p.own.steps else posts u p.own.actor p.own.steps) (ne_eqb p.own.actor s ne)
  unposted false u ne = refl

  pub sent_acks : (sent : Sent) → s ≢ p.own.actor → IsSentBy sent p → IsSentBy sent q
  sent_acks sent ne before u l = before u l ∙ ap ring_of (sym (posts_made p q (Place p.own.actor s k) Store 0 0 m u ∙ unposted (u == p.own.actor) u (λ e. ne (sym e))))

-- every word but the places
abbrev pub IsNoPlace : Word → Type 0
IsNoPlace (Place t s k) = ⊥
IsNoPlace _ = Unit {0}

posts_aside : (t a : ℕ) (w : Word) (op : WordOp) (arg answer : ℕ) (xs : List ℕ) → IsNoPlace w → posts_next t a w op arg answer xs ≡ xs
posts_aside t a (Place u v k) op arg answer xs off = absurd off
posts_aside t a w op arg answer xs off = refl

acks_aside : (t s : ℕ) (w : Word) (op : WordOp) (r : List Step) (xs : List ℕ) → IsNoPlace w → acked_requests_next t s w op r xs ≡ xs
acks_aside t s (Place u v k) op r xs off = absurd off
acks_aside t s w op r xs off = refl

acks_behind : (A : Word → Type 0) (p : Shown) (t s : ℕ) (added r : List Step) → ((w : Word) → A w → IsNoPlace w) → AreAllowed A p added → acked_requests t s (added ++ r) ≡ acked_requests t s r
acks_behind A p t s [] r aside all = refl
acks_behind A p t s (x ∷ added) r aside all = acks_aside t s (name_of x.word) x.op (added ++ r) (acked_requests t s (added ++ r)) (aside (name_of x.word) all.0.0) ∙ acks_behind A p t s added r aside all.1

-- a call that is on no place leaves both
module _ (n : ℕ) (A : Word → Type 0) (p q : Shown) (aside : (w : Word) → A w → IsNoPlace w) (goes : GoesBy n A p q) where
  same : q.own.actor ≡ p.own.actor
  same = ap (λ (x : Shown). x.own.actor) goes.grown

  pub sent_goes : (sent : Sent) → IsSentBy sent p → IsSentBy sent q
  sent_goes sent before u l = before u l ∙ ap ring_of (sym (ap (λ a. posts u a q.own.steps) same
      ∙ fold_goes (posts_next u p.own.actor) [] n A p q (λ w op arg answer xs t. posts_aside u p.own.actor w op arg answer xs (aside w t)) goes))

  pub served_goes : (served : Served) → IsServedBy served p → IsServedBy served q
  served_goes served before u l = before u l ∙ ap ring_of (sym (ap (λ (x : Shown). acked_requests x.own.actor u x.own.steps) goes.grown ∙ acks_behind A p p.own.actor u goes.added p.own.steps aside goes.allowed))
