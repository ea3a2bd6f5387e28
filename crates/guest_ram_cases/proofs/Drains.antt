-- The monitor's posts and loads of places, and the stages of its snapshot.
use Rattle.std.proofs.Common.{◌≡◌, ◌≢◌, ℕ, zero, suc, ◌<◌, Bool, [], ◌∷◌, refl, ap, ◌∙◌, arith}
use Rattle.std.specs.Prelude.{◌==◌, ◌&&◌, if◌then◌else◌}
use Rattle.std.proofs.lemmas.Bool.{ne_eqb}
use Rattle.step_laws.specs.declared.steps.WordOp.{WordOp}
use Rattle.step_laws.specs.declared.steps.WordOp.TheVariants.{Load, Store}
use Rattle.step_laws.specs.Map.{Place, name_of}
use Rattle.step_laws.specs.Marks.{Stage, draining, awaiting, stage_next, last_place, last_place_next}
use Rattle.step_laws.specs.Places.{posts, posts_next, post_place}
use Rattle.guest_ram.specs.Ports.{Shown, Adds, May}
use Rattle.guest_ram.proofs.MaySteps.{may_poll}
use Rattle.guest_ram.proofs.Moves.{acting_adds, lock_adds, fold_adds}
use Rattle.guest_ram_cases.specs.Sweeps.{IsAtStage, HasPlaced, after_drain, after_wait}
use Rattle.guest_ram_cases.proofs.Acks.{drain_word}
use Rattle.guest_ram_cases.proofs.Posts.{may_post_place, own_pair, polled_posts}
use Rattle.guest_ram_cases.proofs.Swept.{stage_adds}

-- a hart isn't the monitor
pub other_hart : (p : Shown) (h : ℕ) (at : Stage) → IsAtStage p at → h < p.machine.layout.harts → h ≢ p.own.actor
other_hart p h at s l is = let few = s.acting.limits.harts in omega (arith, few, l, s.monitor_is, is)

-- a step on a place moves the stage as it says
module _ (p q : Shown) (word arg answer t u k : ℕ) (op : WordOp) (at : Stage) (s : IsAtStage p at) (made : Adds p q word op arg answer) (e : name_of word ≡ Place t u k) where
  staged : (to : Stage) → stage_next p.machine.layout (λ x. last_place x p.own.steps) (Place t u k) op arg answer at ≡ to → IsAtStage q to
  staged to is = record {
    acting = acting_adds p q word arg answer op (Place t u k) made e (λ _. refl) s.acting;
    monitor_is = ap (λ (x : Shown). x.own.actor) made ∙ s.monitor_is;
    free = lock_adds p q word arg answer op (Place t u k) made e ∙ s.free;
    stage_is = stage_adds p q word arg answer op (Place t u k) made e ∙ ap (λ g. stage_next p.machine.layout (λ x. last_place x p.own.steps) (Place t u k) op arg answer g) s.stage_is ∙ is;
  }

-- a drain at the next hart
module _ (p q : Shown) (word h u k answer : ℕ) (s : IsAtStage p (draining h)) (l : h < p.machine.layout.harts) (made : Adds p q word Load 0 answer) (e : name_of word ≡ Place h u k) (is : u ≡ p.own.actor) where
  pub drains_not : IsAtStage q (draining h)
  drains_not = staged p q word 0 answer h u k Load (draining h) s made e (draining h) (go answer)
    where
      go : (n : ℕ) → stage_next p.machine.layout (λ x. last_place x p.own.steps) (Place h u k) Load 0 n (draining h) ≡ draining h
      go zero = refl
      go (suc n) = refl

  pub may_drain : answer ≡ 0 → k ≡ post_place h p.own.actor p.own.steps → May q word Store 3
  may_drain z at = may_post_place p q word h u k answer 3 made z e is s.acting (other_hart p h (draining h) s l) l at drain_word

  module _ (r : Shown) (posted : Adds q r word Store 3 0) where
    pub drains_next : IsAtStage r (after_drain p h)
    drains_next = staged q r word 3 0 h u k Store (draining h) drains_not posted e (after_drain p h)
        (ap (λ (x : Shown). stage_next x.machine.layout (λ y. last_place y q.own.steps) (Place h u k) Store 3 0 (draining h)) made
        ∙ ap (λ (t : Bool). if t then after_drain p h else draining h) (own_pair h 3))

    pub places_drain : HasPlaced p r h k
    places_drain = record {
      others = λ t ne. ap (λ (x : Shown). posts t x.own.actor r.own.steps) posted ∙ fold_adds (posts_next t q.own.actor) [] q r word 3 0 Store (Place h u k) posted e
          ∙ ap (λ (b : Bool). if b && (q.own.actor == u) then 3 ∷ posts t q.own.actor q.own.steps else posts t q.own.actor q.own.steps) (ne_eqb t h ne)
          ∙ polled_posts p q word h u k answer t made e;
      last = λ t. fold_adds (last_place_next t) 0 q r word 3 0 Store (Place h u k) posted e
          ∙ ap (λ n. if t == h then k else n) (fold_adds (last_place_next t) 0 p q word 0 answer Load (Place h u k) made e);
    }

-- a load that waits for a hart
module _ (p q : Shown) (word h u k answer : ℕ) (s : IsAtStage p (awaiting h)) (l : h < p.machine.layout.harts) (e : name_of word ≡ Place h u k) (is : u ≡ p.own.actor) where
  pub may_wait : May p word Load 0
  may_wait = may_poll p word h k (e ∙ ap (λ x. Place h x k) is) s.acting (other_hart p h (awaiting h) s l)

  pub waits_still : Adds p q word Load 0 answer → answer ≢ 0 → IsAtStage q (awaiting h)
  waits_still made ne = staged p q word 0 answer h u k Load (awaiting h) s made e (awaiting h) (go answer ne)
    where
      go : (n : ℕ) → n ≢ 0 → stage_next p.machine.layout (λ x. last_place x p.own.steps) (Place h u k) Load 0 n (awaiting h) ≡ awaiting h
      go zero ne = absurd (ne refl)
      go (suc n) ne = refl

  pub waits_next : Adds p q word Load 0 answer → answer ≡ 0 → k ≡ last_place h p.own.steps → IsAtStage q (after_wait p h)
  waits_next made z at = staged p q word 0 answer h u k Load (awaiting h) s made e (after_wait p h)
      (ap (λ n. stage_next p.machine.layout (λ x. last_place x p.own.steps) (Place h u k) Load 0 n (awaiting h)) z
      ∙ ap (λ n. if (h == h) && (n == last_place h p.own.steps) then after_wait p h else awaiting h) at
      ∙ ap (λ (t : Bool). if t then after_wait p h else awaiting h) (own_pair h (last_place h p.own.steps)))
