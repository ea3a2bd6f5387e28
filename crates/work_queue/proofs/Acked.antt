-- Which steps a target may make on its places, and what a load there shows.
use Rattle.std.proofs.Common.{◌≡◌, ◌≢◌, ℕ, ◌%◌, ◌<◌, ◌≤◌, Bool, false, length, refl, sym, ap, subst, ◌∙◌, arith, inl, ⊎_elim}
use Rattle.std.specs.Prelude.{Some, None, if◌then◌else◌}
use Rattle.step_laws.specs.declared.request.Request.{Request}
use Rattle.step_laws.specs.declared.request.Request.TheVariants.{Drain}
use Rattle.step_laws.specs.declared.steps.WordOp.{WordOp}
use Rattle.step_laws.specs.declared.steps.WordOp.TheVariants.{Load, Store}
use Rattle.step_laws.specs.Discipline.{IsActor, IsAway, IsFetch}
use Rattle.step_laws.specs.Fields.{IsRequestWord, IsWordOf}
use Rattle.step_laws.specs.Map.{Place, name_of}
use Rattle.step_laws.specs.Words.{monitor}
use Rattle.step_laws.specs.Output.{has_touched, has_touched_next}
use Rattle.step_laws.specs.Past.{Anything, Since, here}
use Rattle.step_laws.specs.Places.{ack_place, acked_requests, last_load, last_load_next}
use Rattle.step_laws.proofs.Named.{same_refl}
use Rattle.guest_ram.specs.Ports.{Shown, Made, May, IsActing, IsKnown}
use Rattle.guest_ram.proofs.Moves.{fold_adds, found_there}
use Rattle.guest_ram.proofs.MaySteps.{may_ack, may_fetch}
use Rattle.work_queue.specs.declared.rings.Served.{Served}
use Rattle.work_queue.specs.Acks.{IsLoaded, MayAck}
use Rattle.work_queue.specs.Rings.{IsServedBy, next_ack}

pub source_few : (p : Shown) (s : ℕ) → IsActing p → IsActor p.machine.layout s → s ≤ monitor
source_few p s a i = ⊎_elim (λ (l : s < p.machine.layout.harts). let x = a.limits.harts in omega (arith, x, l)) (λ (e : s ≡ monitor). omega (arith, e)) i

pub own_few : (p : Shown) → IsActing p → p.own.actor < p.machine.layout.harts → p.own.actor < 8
own_few p a l = let x = a.limits.harts in omega (arith, x, l)

pub ack_few : (p : Shown) (served : Served) (s : ℕ) → IsServedBy served p → s < 17 → next_ack served s < 8
ack_few p served s i l = let e : next_ack served s ≡ length (acked_requests p.own.actor s p.own.steps) % 8 = i s l in omega (arith, e)

pub may_fetch_place : (p : Shown) (word a s k : ℕ) → name_of word ≡ Place a s k → a ≡ p.own.actor → IsActing p → s ≢ p.own.actor → p.own.actor < p.machine.layout.harts → k ≡ ack_place p.own.actor s p.own.steps → has_touched p.own.steps ≡ false → May p word Load 0
may_fetch_place p word a s k e is acting ne l at calm = may_fetch p word s k (e ∙ ap (λ x. Place x s k) is) acting ne l at calm

pub may_ack_place : (p : Shown) (word a s k : ℕ) → name_of word ≡ Place a s k → a ≡ p.own.actor → IsActing p → s ≢ p.own.actor → p.own.actor < p.machine.layout.harts → k ≡ ack_place p.own.actor s p.own.steps → has_touched p.own.steps ≡ false → MayAck s k p → May p word Store 0
may_ack_place p word a s k e is acting ne l at calm m = may_ack p word s k m.word (e ∙ ap (λ x. Place x s k) is) acting ne l at calm m.is_word m.loaded m.served

-- no step on a place is on RAM
pub untouched_made : (p q : Shown) (t s k arg answer : ℕ) (op : WordOp) → Made p q (Place t s k) op arg answer → has_touched p.own.steps ≡ false → has_touched q.own.steps ≡ false
untouched_made p q t s k arg answer op m e = fold_adds has_touched_next false p q m.word arg answer op (Place t s k) m.step m.name ∙ e

-- what was loaded from the own place
module _ (p q : Shown) (s k answer : ℕ) (m : Made p q (Place p.own.actor s k) Load 0 answer) where
  same_actor : q.own.actor ≡ p.own.actor
  same_actor = ap (λ (x : Shown). x.own.actor) m.step

  loaded_as : last_load (Place q.own.actor s k) q.own.steps ≡ Some answer
  loaded_as = ap (λ a. last_load (Place a s k) q.own.steps) same_actor ∙ fold_adds (last_load_next (Place p.own.actor s k)) None p q m.word 0 answer Load (Place p.own.actor s k) m.step m.name
      ∙ ap (λ (t : Bool). if t then Some answer else last_load (Place p.own.actor s k) p.own.steps) (same_refl (Place p.own.actor s k))

  fetched_since : Since (IsAway (Place q.own.actor s k)) (IsFetch (Place q.own.actor s k) answer) Anything q.own.steps
  fetched_since = subst (λ (x : Shown). Since (IsAway (Place q.own.actor s k)) (IsFetch (Place q.own.actor s k) answer) Anything x.own.steps) (sym m.step)
      (here (m.name ∙ ap (λ a. Place a s k) (sym same_actor), refl, refl) tt)

  pub is_loaded : (request : Request) → IsWordOf request answer → IsLoaded request s k q
  is_loaded request of = record { word = answer; is_word = of; loaded = loaded_as; since = fetched_since }

-- what was found in a place is a request, where it isn't 0
pub found_request : (p : Shown) (word n a s k : ℕ) → IsActing p → IsKnown p word n → name_of word ≡ Place a s k → n ≢ 0 → IsRequestWord n
found_request p word n a s k acting known e some = ⊎_elim (λ (z : n ≡ 0). absurd (some z)) (λ (w : IsRequestWord n). w) (found_there p word n (Place a s k) acting known e)

-- a drain is served at once
pub drain_served : (p : Shown) (s k : ℕ) → IsLoaded Drain s k p → MayAck s k p
drain_served p s k l = record { word = l.word; is_word = (Drain, tt, l.is_word); loaded = l.loaded; served = inl (l.is_word.0, l.since) }
