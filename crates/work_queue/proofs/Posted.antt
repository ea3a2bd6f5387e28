-- Which steps a source may make on its places.
use Rattle.std.proofs.Common.{◌≡◌, ◌≢◌, ℕ, ◌%◌, ◌<◌, Bool, List, [], length, refl, sym, ap, subst, ◌∙◌, arith}
use Rattle.std.specs.Prelude.{Some, None, if◌then◌else◌}
use Rattle.step_laws.specs.declared.steps.WordOp.TheVariants.{Load, Store}
use Rattle.step_laws.specs.Fields.{IsRequestWord}
use Rattle.step_laws.specs.Map.{Word, Place, name_of}
use Rattle.step_laws.specs.Places.{last_load, last_load_next, post_place, posts, posts_next}
use Rattle.step_laws.proofs.Named.{same_refl}
use Rattle.guest_ram.specs.Areas.{IsOfPlaces}
use Rattle.guest_ram.specs.Ports.{Shown, Adds, May, IsActing}
use Rattle.guest_ram.proofs.Moves.{acting_adds, fold_adds}
use Rattle.guest_ram.proofs.MaySteps.{may_poll, may_post}
use Rattle.work_queue.specs.declared.rings.Sent.{Sent}
use Rattle.work_queue.specs.Posts.{IsOfPosts}
use Rattle.work_queue.specs.Rings.{IsSentBy, next_post}

pub target_few : (p : Shown) (t : ℕ) → IsActing p → t < p.machine.layout.harts → t < 8
target_few p t a l = let x = a.limits.harts in omega (arith, x, l)

pub place_few : (p : Shown) (sent : Sent) (t : ℕ) → IsSentBy sent p → t < 16 → next_post sent t < 8
place_few p sent t s l = let e : next_post sent t ≡ length (posts t p.own.actor p.own.steps) % 8 = s t l in omega (arith, e)

pub may_poll_place : (p : Shown) (word t a k : ℕ) → name_of word ≡ Place t a k → a ≡ p.own.actor → IsActing p → t ≢ p.own.actor → May p word Load 0
may_poll_place p word t a k e is acting ne = may_poll p word t k (e ∙ ap (λ x. Place t x k) is) acting ne

-- behind a load of the next place that answered 0
pub may_post_place : (p q : Shown) (word t a k answer arg : ℕ) → Adds p q word Load 0 answer → answer ≡ 0 → name_of word ≡ Place t a k → a ≡ p.own.actor → IsActing p → t ≢ p.own.actor → t < p.machine.layout.harts
    → k ≡ post_place t p.own.actor p.own.steps → IsRequestWord arg → May q word Store arg
may_post_place p q word t a k answer arg made z e is acting ne l at request =
    let mine : q.own.actor ≡ p.own.actor = ap (λ (x : Shown). x.own.actor) made in
    let n : name_of word ≡ Place t q.own.actor k = e ∙ ap (λ x. Place t x k) (is ∙ sym mine) in
    let same_posts : posts t q.own.actor q.own.steps ≡ posts t p.own.actor p.own.steps = ap (λ s. posts t s q.own.steps) mine ∙ fold_adds (posts_next t p.own.actor) [] p q word 0 answer Load (Place t a k) made e in
    may_post q word t k arg n (acting_adds p q word 0 answer Load (Place t a k) made e (λ b. refl) acting) (λ x. ne (x ∙ mine)) (subst (λ (x : Shown). t < x.machine.layout.harts) (sym made) l)
    (at ∙ ap (λ (xs : List ℕ). length xs % 8) (sym same_posts))
    request
    (fold_adds (last_load_next (Place t q.own.actor k)) None p q word 0 answer Load (Place t q.own.actor k) made n
    ∙ ap (λ (b : Bool). if b then Some answer else last_load (Place t q.own.actor k) p.own.steps) (same_refl (Place t q.own.actor k)) ∙ ap (λ x. Some x) z)

pub places_posts : (w : Word) → IsOfPlaces w → IsOfPosts w
places_posts (Place t s k) x = tt
places_posts w x = absurd x
