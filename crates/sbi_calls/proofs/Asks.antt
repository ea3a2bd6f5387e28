-- Posts and polls are on the source's own places, and on KICK.
use Rattle.std.proofs.Common.{ℕ, ◌+◌, refl, ap, subst}
use Rattle.step_laws.specs.declared.request.Request.{Request}
use Rattle.step_laws.specs.declared.steps.WordOp.TheVariants.{Load, Store}
use Rattle.step_laws.specs.Map.{Word, Kick, Place}
use Rattle.guest_ram.specs.declared.port.Seen.{Seen}
use Rattle.guest_ram.specs.Areas.{IsOfPlaces}
use Rattle.guest_ram.specs.Ports.{Shown, GoesBy}
use Rattle.guest_ram.proofs.Moves.{goes_made, goes_then, goes_within}
use Rattle.work_queue.specs.Posts.{HasFoundFree, HasFoundTaken, HasPosted, IsOfPosts}
use Rattle.sbi_calls.specs.Fences.{IsOfAsks, IsOfPolls}

-- one more, by the same source
pub asks_then : (m n : ℕ) (p q r : Shown) → GoesBy m (IsOfAsks p.own.actor) p q → GoesBy n (IsOfAsks q.own.actor) q r → GoesBy (m + n) (IsOfAsks p.own.actor) p r
asks_then m n p q r x y = goes_then m n (IsOfAsks p.own.actor) p q r x (subst (λ a. GoesBy n (IsOfAsks a) q r) (ap (λ (s : Shown). s.own.actor) x.grown) y)

pub polls_then : (m n : ℕ) (p q r : Shown) → GoesBy m (IsOfPolls p.own.actor) p q → GoesBy n (IsOfPolls q.own.actor) q r → GoesBy (m + n) (IsOfPolls p.own.actor) p r
polls_then m n p q r x y = goes_then m n (IsOfPolls p.own.actor) p q r x (subst (λ a. GoesBy n (IsOfPolls a) q r) (ap (λ (s : Shown). s.own.actor) x.grown) y)

-- a post, or a place that was found taken
pub posted_asks : (request : Request) (t k : ℕ) (p q : Shown) → HasPosted request t k p q → GoesBy 3 (IsOfAsks p.own.actor) p q
posted_asks request t k p q x = let a = p.own.actor in
    goes_then 2 1 (IsOfAsks a) p x.stored q (goes_then 1 1 (IsOfAsks a) p x.found x.stored (goes_made (IsOfAsks a) p x.found (Place t a k) Load 0 0 x.finds refl) (goes_made (IsOfAsks a) x.found x.stored (Place t a k) Store x.word 0 x.stores refl))
    (goes_made (IsOfAsks a) x.stored q (Kick t) Store 1 0 x.kicks tt)

pub taken_asks : (seen : Seen) (t k : ℕ) (p q : Shown) → HasFoundTaken seen t k p q → GoesBy 1 (IsOfAsks p.own.actor) p q
taken_asks seen t k p q x = goes_made (IsOfAsks p.own.actor) p q (Place t p.own.actor k) Load 0 seen.value x.finds refl

-- a poll
pub free_polls : (t k : ℕ) (p q : Shown) → HasFoundFree t k p q → GoesBy 1 (IsOfPolls p.own.actor) p q
free_polls t k p q x = goes_made (IsOfPolls p.own.actor) p q (Place t p.own.actor k) Load 0 0 x refl

pub taken_polls : (seen : Seen) (t k : ℕ) (p q : Shown) → HasFoundTaken seen t k p q → GoesBy 1 (IsOfPolls p.own.actor) p q
taken_polls seen t k p q x = goes_made (IsOfPolls p.own.actor) p q (Place t p.own.actor k) Load 0 seen.value x.finds refl

-- and so on places at all
asks_are_posts : (a : ℕ) (w : Word) → IsOfAsks a w → IsOfPosts w
asks_are_posts a (Place t s k) x = tt
asks_are_posts a (Kick h) x = tt
asks_are_posts a w x = absurd x

polls_are_places : (a : ℕ) (w : Word) → IsOfPolls a w → IsOfPlaces w
polls_are_places a (Place t s k) x = tt
polls_are_places a w x = absurd x

polls_are_asks : (a : ℕ) (w : Word) → IsOfPolls a w → IsOfAsks a w
polls_are_asks a (Place t s k) x = x
polls_are_asks a w x = absurd x

pub posts_of : (n a : ℕ) (p q : Shown) → GoesBy n (IsOfAsks a) p q → GoesBy n IsOfPosts p q
posts_of n a p q x = goes_within n (IsOfAsks a) IsOfPosts p q (λ w t. asks_are_posts a w t) x

pub places_of : (n a : ℕ) (p q : Shown) → GoesBy n (IsOfPolls a) p q → GoesBy n IsOfPlaces p q
places_of n a p q x = goes_within n (IsOfPolls a) IsOfPlaces p q (λ w t. polls_are_places a w t) x

pub asks_of : (n a : ℕ) (p q : Shown) → GoesBy n (IsOfPolls a) p q → GoesBy n (IsOfAsks a) p q
asks_of n a p q x = goes_within n (IsOfPolls a) (IsOfAsks a) p q (λ w t. polls_are_asks a w t) x
