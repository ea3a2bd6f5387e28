-- The loader while it splits seats off and joins them.
use Rattle.std.proofs.Common.{◌≡◌, ℕ, Bool, true, false, List, [], ◌∷◌, ◌++◌, map, refl, sym, ap, ◌∙◌}
use Rattle.std.specs.Prelude.{◌==◌, ◌||◌}
use Rattle.step_laws.specs.declared.steps.Record.{Record}
use Rattle.step_laws.specs.Map.{Zero, number_of, loader}
use Rattle.step_laws.specs.Joined.{is_listed}
use Rattle.step_laws.specs.declared.steps.WordOp.TheVariants.{Load}
use Rattle.step_laws.proofs.Numbered.{named_zero}
use Rattle.guest_ram.specs.Areas.{AnyWord}
use Rattle.guest_ram.specs.Ports.{Machine, Shown, May, GoesBy, IsBooting, after_split, after_join}
use Rattle.guest_ram.specs.Shown.{first_shown}
use Rattle.guest_ram_cases.specs.Tours.{IsSplit}
use Rattle.guest_ram.proofs.MaySteps.{may_split_more}
use Rattle.guest_ram.proofs.Moves.{split_began, join_began}

-- before its first split
pub booted_split : (m : Machine) (n : ℕ) (p q r : Shown) → p ≡ first_shown m → q ≡ p → GoesBy n AnyWord q r → IsBooting r → IsSplit m r [] []
booted_split m n p q r first same goes booting = let e : q ≡ first_shown m = same ∙ first in record {
  machine = ap (λ (x : Shown). x.machine) goes.grown ∙ ap (λ (x : Shown). x.machine) e;
  actor = booting.actor;
  splits = ap (λ (x : Shown). x.splits) goes.grown ∙ ap (λ (x : Shown). x.splits) e;
  joined = ap (λ (x : Shown). map (λ (r : Record). r.actor) x.joined) goes.grown ∙ ap (λ (x : Shown). map (λ (r : Record). r.actor) x.joined) e;
}

pub one_split : (m : Machine) (p q : Shown) (n a : ℕ) (off back : List ℕ) → IsSplit m p off back → q ≡ after_split p n a → IsSplit m q (a ∷ off) back
one_split m p q n a off back s e = record {
  machine = ap (λ (x : Shown). x.machine) e ∙ s.machine;
  actor = ap (λ (x : Shown). x.own.actor) e ∙ s.actor;
  splits = ap (λ (x : Shown). x.splits) e ∙ ap (λ xs. a ∷ xs) s.splits;
  joined = ap (λ (x : Shown). map (λ (r : Record). r.actor) x.joined) e ∙ s.joined;
}

map_end : (rs : List Record) (r : Record) → map (λ (x : Record). x.actor) (rs ++ r ∷ []) ≡ map (λ (x : Record). x.actor) rs ++ r.actor ∷ []
map_end [] r = refl
map_end (x ∷ rs) r = ap (λ xs. x.actor ∷ xs) (map_end rs r)

pub one_joined : (m : Machine) (p q : Shown) (n a : ℕ) (r : Record) (off back : List ℕ) → IsSplit m p off back → q ≡ after_join p n r → r.actor ≡ a → IsSplit m q off (back ++ a ∷ [])
one_joined m p q n a r off back s e is = record {
  machine = ap (λ (x : Shown). x.machine) e ∙ s.machine;
  actor = ap (λ (x : Shown). x.own.actor) e ∙ s.actor;
  splits = ap (λ (x : Shown). x.splits) e ∙ s.splits;
  joined = ap (λ (x : Shown). map (λ (r : Record). r.actor) x.joined) e ∙ map_end p.joined r ∙ (λ i. s.joined i ++ is i ∷ []);
}

-- a further load of the word that is always 0
pub may_split_again : (m : Machine) (p q : Shown) (n a : ℕ) (off back : List ℕ) → IsSplit m q off back → q ≡ after_split p n a → May q (number_of Zero) Load 0
may_split_again m p q n a off back s e = may_split_more q (number_of Zero) named_zero s.actor (split_began p q n a e)

pub may_join_again : (m : Machine) (p q : Shown) (n : ℕ) (r : Record) (off back : List ℕ) → IsSplit m q off back → q ≡ after_join p n r → May q (number_of Zero) Load 0
may_join_again m p q n r off back s e = may_split_more q (number_of Zero) named_zero s.actor (join_began p q n r e)

listed_all : (xs ys : List ℕ) → ((a : ℕ) → is_listed a xs ≡ true → is_listed a ys ≡ true) → (p : Shown) → p.splits ≡ xs → map (λ (r : Record). r.actor) p.joined ≡ ys
    → (a : ℕ) → is_listed a p.splits ≡ true → is_listed a (map (λ (r : Record). r.actor) p.joined) ≡ true
listed_all xs ys all p e f a l = ap (is_listed a) f ∙ all a (sym (ap (is_listed a) e) ∙ l)

turn_two : (x y : Bool) → (x || (y || false)) ≡ true → (y || (x || false)) ≡ true
turn_two true true e = refl
turn_two true false e = refl
turn_two false true e = refl
turn_two false false e = e

turn_three : (x y z : Bool) → (x || (y || (z || false))) ≡ true → (z || (y || (x || false))) ≡ true
turn_three x y true e = refl
turn_three x true false e = refl
turn_three x false false e = turn_two x false e

-- both seats are back
pub both_back : (m : Machine) (p q : Shown) (a b : ℕ) → IsSplit m p (b ∷ a ∷ []) (a ∷ b ∷ []) → q ≡ p → (x : ℕ) → is_listed x q.splits ≡ true → is_listed x (map (λ (r : Record). r.actor) q.joined) ≡ true
both_back m p q a b s e = listed_all (b ∷ a ∷ []) (a ∷ b ∷ []) (λ x. turn_two (x == b) (x == a)) q (ap (λ (x : Shown). x.splits) e ∙ s.splits) (ap (λ (x : Shown). map (λ (r : Record). r.actor) x.joined) e ∙ s.joined)

-- all three are
pub three_back : (m : Machine) (p q : Shown) (a b c : ℕ) → IsSplit m p (c ∷ b ∷ a ∷ []) (a ∷ b ∷ c ∷ []) → q ≡ p → (x : ℕ) → is_listed x q.splits ≡ true → is_listed x (map (λ (r : Record). r.actor) q.joined) ≡ true
three_back m p q a b c s e = listed_all (c ∷ b ∷ a ∷ []) (a ∷ b ∷ c ∷ []) (λ x. turn_three (x == c) (x == b) (x == a)) q (ap (λ (x : Shown). x.splits) e ∙ s.splits) (ap (λ (x : Shown). map (λ (r : Record). r.actor) x.joined) e ∙ s.joined)

pub actors_joined : (m : Machine) (p q : Shown) (off back : List ℕ) → IsSplit m p off back → q ≡ p → map (λ (r : Record). r.actor) (q.own ∷ q.joined) ≡ loader ∷ back
actors_joined m p q off back s e = ap (λ (x : Shown). map (λ (r : Record). r.actor) (x.own ∷ x.joined)) e ∙ (λ i. s.actor i ∷ s.joined i)

pub split_same : (m : Machine) (p q : Shown) (off back : List ℕ) → IsSplit m p off back → q ≡ p → IsSplit m q off back
split_same m p q off back s e = record {
  machine = ap (λ (x : Shown). x.machine) e ∙ s.machine;
  actor = ap (λ (x : Shown). x.own.actor) e ∙ s.actor;
  splits = ap (λ (x : Shown). x.splits) e ∙ s.splits;
  joined = ap (λ (x : Shown). map (λ (r : Record). r.actor) x.joined) e ∙ s.joined;
}
