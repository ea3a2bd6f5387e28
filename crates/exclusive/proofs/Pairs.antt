-- The other actors, one after another.
use Rattle.std.proofs.Common.{◌≡◌, ◌≢◌, ℕ, zero, suc, ◌+◌, ◌<◌, ◌≤◌, Bool, true, false, List, ◌∷◌, refl, sym, ap, subst, ◌∙◌, arith}
use Rattle.std.specs.Prelude.{◌==◌, ◌&&◌, ◌||◌, not, nat_lt, if◌then◌else◌}
use Rattle.std.proofs.lemmas.Bool.{lt-ltb, le-ltb, ne_eqb, eq-eqb}
use Rattle.step_laws.specs.declared.words.Layout.{Layout}
use Rattle.step_laws.specs.declared.steps.WordOp.{WordOp}
use Rattle.step_laws.specs.Map.{Word, monitor, actors, number_of}
use Rattle.step_laws.proofs.Named.{by_test}
use Rattle.guest_ram.specs.Ports.{Shown, Adds, after_step}
use Rattle.exclusive.specs.Others.{is_other, others_below, HasMadeAll}

pub hart_is_other : (layout : Layout) (a n : ℕ) → n < layout.harts → n ≢ a → is_other layout a n ≡ true
hart_is_other layout a n l ne = ap (λ t. not t && (nat_lt n layout.harts || (n == monitor))) (ne_eqb n a ne) ∙ ap (λ t. t || (n == monitor)) (lt-ltb n layout.harts l)

pub monitor_is_other : (layout : Layout) (a : ℕ) → a ≢ monitor → is_other layout a monitor ≡ true
monitor_is_other layout a ne = ap (λ t. not t && (nat_lt monitor layout.harts || (monitor == monitor))) (ne_eqb monitor a (λ e. ne (sym e))) ∙ last (nat_lt monitor layout.harts)
  where
    last : (t : Bool) → (t || (monitor == monitor)) ≡ true
    last true = refl
    last false = refl

own_no_other : (layout : Layout) (a n : ℕ) → n ≡ a → is_other layout a n ≡ false
own_no_other layout a n e = ap (λ t. not t && (nat_lt n layout.harts || (n == monitor))) (eq-eqb n a e)

none_is_other : (layout : Layout) (a n : ℕ) → layout.harts ≤ n → n < monitor → is_other layout a n ≡ false
none_is_other layout a n le l = by_test n a (λ t. (not t && (nat_lt n layout.harts || (n == monitor))) ≡ false) (λ _. refl)
    (λ _. ap (λ t. t || (n == monitor)) (le-ltb n layout.harts le) ∙ ne_eqb n monitor (λ e. omega (arith, e, l)))

with_other : (layout : Layout) (a n : ℕ) → is_other layout a n ≡ true → others_below layout a (suc n) ≡ n ∷ others_below layout a n
unfolding others_below
with_other layout a n e = ap (λ (t : Bool). if t then n ∷ others_below layout a n else others_below layout a n) e

without : (layout : Layout) (a n : ℕ) → is_other layout a n ≡ false → others_below layout a (suc n) ≡ others_below layout a n
unfolding others_below
without layout a n e = ap (λ (t : Bool). if t then n ∷ others_below layout a n else others_below layout a n) e

next_of : (layout : Layout) (a n : ℕ) → others_below layout a (n + 1) ≡ others_below layout a (suc n)
next_of layout a n = let e : n + 1 ≡ suc n = omega arith in ap (others_below layout a) e

-- there is none between the harts and the monitor
pub others_gap : (layout : Layout) (a n : ℕ) → layout.harts ≤ n → n ≤ monitor → others_below layout a n ≡ others_below layout a layout.harts
others_gap layout a zero le few = ap (others_below layout a) (let e : 0 ≡ layout.harts = omega arith in e)
others_gap layout a (suc n) le few = by_test (suc n) layout.harts (λ _. others_below layout a (suc n) ≡ others_below layout a layout.harts) (λ e. ap (others_below layout a) e)
    (λ ne. let more : layout.harts ≤ n = omega arith in without layout a n (none_is_other layout a n more (omega arith)) ∙ others_gap layout a n more (omega arith))

-- the monitor has no others above the harts
pub all_of_monitor : (layout : Layout) → layout.harts ≤ monitor → others_below layout monitor actors ≡ others_below layout monitor layout.harts
all_of_monitor layout few = without layout monitor monitor (own_no_other layout monitor monitor refl) ∙ others_gap layout monitor monitor few (omega arith)

-- a hart has the monitor
pub all_of_hart : (layout : Layout) (a : ℕ) → layout.harts ≤ monitor → a ≢ monitor → others_below layout a actors ≡ monitor ∷ others_below layout a layout.harts
all_of_hart layout a few ne = with_other layout a monitor (monitor_is_other layout a ne) ∙ ap (λ bs. monitor ∷ bs) (others_gap layout a monitor few (omega arith))

module _ (word : ℕ → Word) (op : WordOp) (arg : ℕ) where
  pub made_none : (p : Shown) (layout : Layout) (a : ℕ) → HasMadeAll word op arg (others_below layout a 0) p p
  unfolding others_below
  made_none p layout a = refl

  pub made_one : (p q r : Shown) (bs : List ℕ) (b w answer : ℕ) → HasMadeAll word op arg bs p q → Adds q r w op arg answer → w ≡ number_of (word b) → answer ≡ 0 → HasMadeAll word op arg (b ∷ bs) p r
  made_one p q r bs b w answer before made at z = made ∙ ap (λ n. after_step q n op arg answer) at ∙ ap (λ n. after_step q (number_of (word b)) op arg n) z ∙ ap (λ x. after_step x (number_of (word b)) op arg 0) before

  -- one more of the others
  pub made_next : (p q r : Shown) (layout : Layout) (a n w answer : ℕ) → HasMadeAll word op arg (others_below layout a n) p q → is_other layout a n ≡ true → Adds q r w op arg answer → w ≡ number_of (word n) → answer ≡ 0
      → HasMadeAll word op arg (others_below layout a (n + 1)) p r
  made_next p q r layout a n w answer before other made at z = subst (λ bs. HasMadeAll word op arg bs p r) (sym (next_of layout a n ∙ with_other layout a n other)) (made_one p q r (others_below layout a n) n w answer before made at z)

  -- the own number is passed over
  pub made_past : (p q : Shown) (layout : Layout) (a n : ℕ) → HasMadeAll word op arg (others_below layout a n) p q → n ≡ a → HasMadeAll word op arg (others_below layout a (n + 1)) p q
  made_past p q layout a n before own = subst (λ bs. HasMadeAll word op arg bs p q) (sym (next_of layout a n ∙ without layout a n (own_no_other layout a n own))) before
