-- What a load of a place and a post do to the record.
use Rattle.std.proofs.Common.{◌≡◌, ◌≢◌, ℕ, ◌+◌, ◌<◌, ◌%◌, arith, Bool, true, List, [], ◌∷◌, length, refl, sym, ap, subst, ◌∙◌}
use Rattle.std.specs.Prelude.{◌==◌, ◌&&◌, Some, None, if◌then◌else◌}
use Rattle.std.proofs.lemmas.Bool.{eq-eqb}
use Rattle.step_laws.specs.declared.steps.WordOp.{WordOp}
use Rattle.step_laws.specs.declared.steps.WordOp.TheVariants.{Load, Store}
use Rattle.step_laws.specs.Fields.{IsRequestWord}
use Rattle.step_laws.specs.Map.{Word, Place, name_of}
use Rattle.step_laws.specs.Places.{posts, posts_next, post_place, last_load, last_load_next}
use Rattle.step_laws.proofs.Named.{same_refl}
use Rattle.guest_ram.specs.Ports.{Shown, Adds, May, IsActing, GoesBy}
use Rattle.guest_ram.proofs.Moves.{fold_adds, acting_adds}
use Rattle.guest_ram.proofs.MaySteps.{may_poll, may_post}
use Rattle.guest_ram_cases.specs.Requests.{IsPosting}

-- the word is by the actor's number as the body has it
named : (p : Shown) (word t a k : ℕ) → name_of word ≡ Place t a k → a ≡ p.own.actor → name_of word ≡ Place t p.own.actor k
named p word t a k e is = e ∙ ap (λ x. Place t x k) is

pub may_poll_place : (p : Shown) (word t a k : ℕ) → name_of word ≡ Place t a k → a ≡ p.own.actor → IsActing p → t ≢ p.own.actor → May p word Load 0
may_poll_place p word t a k e is acting ne = may_poll p word t k (named p word t a k e is) acting ne

pub acting_place : (p q : Shown) (word t a k answer : ℕ) → Adds p q word Load 0 answer → name_of word ≡ Place t a k → IsActing p → IsActing q
acting_place p q word t a k answer made e acting = acting_adds p q word 0 answer Load (Place t a k) made e (λ b. refl) acting

pub acting_posted : (p q : Shown) (word t a k arg : ℕ) → Adds p q word Store arg 0 → name_of word ≡ Place t a k → IsActing p → IsActing q
acting_posted p q word t a k arg made e acting = acting_adds p q word arg 0 Store (Place t a k) made e (λ b. refl) acting

same_actor : (p q : Shown) (word arg answer : ℕ) (op : WordOp) → Adds p q word op arg answer → q.own.actor ≡ p.own.actor
same_actor p q word arg answer op made = ap (λ (x : Shown). x.own.actor) made

-- a load of a place posts nothing
pub polled_posts : (p q : Shown) (word t a k answer u : ℕ) → Adds p q word Load 0 answer → name_of word ≡ Place t a k → posts u q.own.actor q.own.steps ≡ posts u p.own.actor p.own.steps
polled_posts p q word t a k answer u made e = ap (λ s. posts u s q.own.steps) (same_actor p q word 0 answer Load made) ∙ fold_adds (posts_next u p.own.actor) [] p q word 0 answer Load (Place t a k) made e

pub own_pair : (t s : ℕ) → ((t == t) && (s == s)) ≡ true
own_pair t s = ap (λ (b : Bool). b && (s == s)) (eq-eqb t t refl) ∙ eq-eqb s s refl

pub posted_posts : (p q : Shown) (word t a k arg : ℕ) → Adds p q word Store arg 0 → name_of word ≡ Place t a k → a ≡ p.own.actor → posts t q.own.actor q.own.steps ≡ arg ∷ posts t p.own.actor p.own.steps
posted_posts p q word t a k arg made e is = ap (λ s. posts t s q.own.steps) (same_actor p q word arg 0 Store made)
    ∙ fold_adds (posts_next t p.own.actor) [] p q word arg 0 Store (Place t p.own.actor k) made (named p word t a k e is)
    ∙ ap (λ (b : Bool). if b then arg ∷ posts t p.own.actor p.own.steps else posts t p.own.actor p.own.steps) (own_pair t p.own.actor)

-- after a load of the next place that answered 0 a post may be made there
pub may_post_place : (p q : Shown) (word t a k answer arg : ℕ) → Adds p q word Load 0 answer → answer ≡ 0 → name_of word ≡ Place t a k → a ≡ p.own.actor → IsActing p → t ≢ p.own.actor → t < p.machine.layout.harts
    → k ≡ post_place t p.own.actor p.own.steps → IsRequestWord arg → May q word Store arg
may_post_place p q word t a k answer arg made z e is acting ne l at request =
    let mine : q.own.actor ≡ p.own.actor = same_actor p q word 0 answer Load made in
    let n : name_of word ≡ Place t q.own.actor k = e ∙ ap (λ x. Place t x k) (is ∙ sym mine) in
    may_post q word t k arg n (acting_place p q word t a k answer made e acting) (λ x. ne (x ∙ mine)) (subst (λ (x : Shown). t < x.machine.layout.harts) (sym made) l)
    (at ∙ (let same_posts : posts t q.own.actor q.own.steps ≡ posts t p.own.actor p.own.steps = polled_posts p q word t a k answer t made e in ap (λ (xs : List ℕ). length xs % 8) (sym same_posts)))
    request
    (fold_adds (last_load_next (Place t q.own.actor k)) None p q word 0 answer Load (Place t q.own.actor k) made n
    ∙ ap (λ (b : Bool). if b then Some answer else last_load (Place t q.own.actor k) p.own.steps) (same_refl (Place t q.own.actor k)) ∙ ap (λ x. Some x) z)

-- a source behind a call, that has posted so many now
pub posting_on : (k : ℕ) (A : Word → Type 0) (p q : Shown) (t n m : ℕ) → GoesBy k A p q → IsActing q → length (posts t q.own.actor q.own.steps) ≡ m → IsPosting p t n → IsPosting q t m
posting_on k A p q t n m goes acting e i = record {
  acting = acting;
  hart = subst (λ (x : Shown). t < x.machine.layout.harts) (sym goes.grown) i.hart;
  other = λ x. i.other (x ∙ ap (λ (y : Shown). y.own.actor) goes.grown);
  posted = e;
}

pub one_more : (xs ys : List ℕ) (q n : ℕ) → ys ≡ q ∷ xs → length xs ≡ n → length ys ≡ n + 1
one_more xs ys q n e f = ap length e ∙ omega (arith, f)
