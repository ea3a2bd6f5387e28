-- What a seat that has made no step may do, and whose seat it is behind calls.
use Rattle.std.proofs.Common.{◌≡◌, ◌≢◌, ℕ, ◌<◌, Bool, true, false, refl, sym, ap, subst, ◌∙◌, inl, inr}
use Rattle.std.specs.Prelude.{◌⊎◌, ◌||◌, nat_lt, if◌then◌else◌}
use Rattle.std.proofs.lemmas.Bool.{and_from, lt-ltb}
use Rattle.step_laws.specs.declared.map.TlbField.{TlbField}
use Rattle.step_laws.specs.Fields.{invalid_bit}
use Rattle.step_laws.specs.Tables.{boot_entry, is_compare, is_first_slot, is_victim}
use Rattle.step_laws.specs.Discipline.{IsActor}
use Rattle.step_laws.specs.Layout.{IsInLimits}
use Rattle.step_laws.specs.Map.{Word, monitor}
use Rattle.step_laws.specs.Marks.{swapping}
use Rattle.guest_ram.specs.Ports.{Machine, Shown, IsActing, GoesBy}
use Rattle.guest_ram_cases.specs.Requests.{IsPosting, IsServing}
use Rattle.guest_ram_cases.specs.States.{IsAtRest}
use Rattle.guest_ram_cases.specs.Sweeps.{HasNoPost, IsAtStage}
use Rattle.guest_ram_cases.specs.Tours.{IsSeatOf, fresh_seat}

-- the slots in use at the beginning are invalid
first_invalid : (j : ℕ) (f : TlbField) → is_compare f ≡ true → (j < 64) ⊎ (is_victim j ≡ true) → invalid_bit (boot_entry j f) ≡ 1
first_invalid j f compare used = ap (λ (t : Bool). invalid_bit (if t then 1 else 0)) (and_from (is_first_slot j) (is_compare f) (first used) compare)
  where
    first : (j < 64) ⊎ (is_victim j ≡ true) → is_first_slot j ≡ true
    first (inl l) = ap (λ (t : Bool). t || is_victim j) (lt-ltb j 64 l)
    first (inr v) = by (nat_lt j 64) (is_victim j) v
      where
        by : (x y : Bool) → y ≡ true → (x || y) ≡ true
        by true y e = refl
        by false y e = e

-- a seat of this machine
module _ (m : Machine) (p : Shown) (a : ℕ) (runs : Bool) (e : p ≡ fresh_seat m a runs) (limits : IsInLimits m.layout) (actor : IsActor m.layout a) where
  pub seated : IsSeatOf m a p
  seated = record { machine = ap (λ (x : Shown). x.machine) e; actor = ap (λ (x : Shown). x.own.actor) e }

  acts : IsActing (fresh_seat m a runs)
  acts = record { limits = limits; actor = actor; going = refl }

  pub posting_first : (t : ℕ) → t < m.layout.harts → t ≢ a → IsPosting p t 0
  posting_first t l ne = subst (λ x. IsPosting x t 0) (sym e) (record { acting = acts; hart = l; other = ne; posted = refl })

  pub serving_first : (s : ℕ) → a < m.layout.harts → s ≢ a → IsServing p s
  serving_first s l ne = subst (λ x. IsServing x s) (sym e) (record {
    acting = acts;
    hart = l;
    other = ne;
    untouched = refl;
    table = record { free = refl; paid = λ j f compare. refl; empty = λ j f compare used. first_invalid j f compare used };
  })

  pub rest_first : a < m.layout.harts → IsAtRest p runs
  rest_first l = subst (λ x. IsAtRest x runs) (sym e) (record { acting = acts; hart = l; running = refl; start_is = refl; owing = refl })

  pub stage_first : a ≡ monitor → IsAtStage p (swapping 0)
  stage_first is = subst (λ x. IsAtStage x (swapping 0)) (sym e) (record { acting = acts; monitor_is = is; free = refl; stage_is = refl })

  pub no_post_first : HasNoPost p
  no_post_first = subst HasNoPost (sym e) (record { posts_none = λ t. refl; no_last = λ t. refl })

pub seat_goes : (m : Machine) (a n : ℕ) (A : Word → Type 0) (p q : Shown) → GoesBy n A p q → IsSeatOf m a p → IsSeatOf m a q
seat_goes m a n A p q g s = record { machine = ap (λ (x : Shown). x.machine) g.grown ∙ s.machine; actor = ap (λ (x : Shown). x.own.actor) g.grown ∙ s.actor }

pub seat_same : (m : Machine) (a : ℕ) (p q : Shown) → q ≡ p → IsSeatOf m a p → IsSeatOf m a q
seat_same m a p q e s = record { machine = ap (λ (x : Shown). x.machine) e ∙ s.machine; actor = ap (λ (x : Shown). x.own.actor) e ∙ s.actor }
