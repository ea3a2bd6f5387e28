-- LIVE, kind by kind.
use Rattle.std.proofs.Common.{◌≡◌, ◌≢◌, ℕ, zero, suc, ◌+◌, ◌<◌, ◌≤◌, Bool, true, false, true≢false, List, refl, sym, ap, ◌∙◌, inl, inr, arith, ⊎_elim}
use Rattle.std.specs.Prelude.{◌==◌, ◌⊎◌, if◌then◌else◌}
use Rattle.std.proofs.lemmas.Bool.{cases_eq, cases_Bool, eqb-true, eq-eqb, ne_eqb}
use prog.Atomic.{either}
use Rattle.step_laws.specs.declared.words.Layout.{Layout}
use Rattle.step_laws.specs.declared.steps.Step.{Step}
use Rattle.step_laws.specs.declared.steps.WordOp.{WordOp}
use Rattle.step_laws.specs.declared.steps.WordOp.TheVariants.{Store, Exchange}
use Rattle.step_laws.specs.Map.{Word, Live, Hsm}
use Rattle.step_laws.specs.WordValues.{value_next}
use Rattle.step_laws.specs.Steps.{answer_of}
use Rattle.step_laws.specs.Harts.{is_running, Opening, closed, opened, placed, handed, counted, counted_next, opening, opening_next, idle, with_both, taking, is_owing, is_owing_next}
use Rattle.step_laws.specs.Discipline.{ActorMay, begin_start, set_start, set_opaque, add_live, end_start, take_start, stop, take_live}
use Rattle.step_laws.specs.HartLaws.{opens, open_bit, uncounted_bit, bit, unstopped_bit, total}
use Rattle.step_laws.proofs.Named.{by_test}
use Rattle.step_laws.proofs.States.{open_count}

-- sums
total_below : (f g : ℕ → ℕ) (n : ℕ) → ((h : ℕ) → h < n → g h ≡ f h) → total g n ≡ total f n
total_below f g zero same = refl
total_below f g (suc n) same = let a : total g n ≡ total f n = total_below f g n (λ h l. same h (omega arith)) in let b : g n ≡ f n = same n (omega arith) in omega (arith, a, b)

-- the sum changes by what one of them changes
total_at : (f g : ℕ → ℕ) (c n : ℕ) → ((h : ℕ) → h ≢ c → g h ≡ f h) → c < n → total g n + f c ≡ total f n + g c
total_at f g c zero same lt = absurd (omega arith)
total_at f g c (suc n) same lt = go (cases_eq n c) (total_at f g c n same)
  where
    go : (n ≡ c) ⊎ (n ≢ c) → (c < n → total g n + f c ≡ total f n + g c) → (g n + total g n) + f c ≡ (f n + total f n) + g c
    go (inl e) ih = let a : total g n ≡ total f n = total_below f g n (λ h l. same h (λ i. omega arith)) in let b : f n ≡ f c = ap f e in let d : g n ≡ g c = ap g e in omega (arith, a, b, d)
    go (inr ne) ih = let lt' : c < n = omega arith in let a : total g n + f c ≡ total f n + g c = ih lt' in let b : g n ≡ f n = same n ne in omega (arith, a, b)

pub total_le : (f g : ℕ → ℕ) (n : ℕ) → ((h : ℕ) → h < n → f h ≤ g h) → total f n ≤ total g n
total_le f g zero le = omega arith
total_le f g (suc n) le = let a : total f n ≤ total g n = total_le f g n (λ h l. le h (omega arith)) in let b : f n ≤ g n = le n (omega arith) in omega (arith, a, b)

pub total_sum : (f g : ℕ → ℕ) (n : ℕ) → total (λ h. f h + g h) n ≡ total f n + total g n
total_sum f g zero = refl
total_sum f g (suc n) = omega (arith, total_sum f g n)

pub total_few : (f : ℕ → ℕ) (n : ℕ) → ((h : ℕ) → f h ≤ 1) → total f n ≤ n
total_few f zero le = omega arith
total_few f (suc n) le = omega (arith, total_few f n le, le n)

pub total_one : (f : ℕ → ℕ) (n h : ℕ) → h < n → f h ≤ total f n
total_one f zero h l = absurd (omega arith)
total_one f (suc n) h l = go (cases_eq n h) (total_one f n h)
  where
    go : (n ≡ h) ⊎ (n ≢ h) → (h < n → f h ≤ total f n) → f h ≤ f n + total f n
    go (inl e) ih = let b : f n ≡ f h = ap f e in omega (arith, b)
    go (inr ne) ih = let a : f h ≤ total f n = ih (omega arith) in omega (arith, a)

pub total_none : (f : ℕ → ℕ) (n : ℕ) → ((h : ℕ) → h < n → f h ≡ 0) → total f n ≡ 0
total_none f zero e = refl
total_none f (suc n) e = omega (arith, total_none f n (λ h l. e h (omega arith)), e n (omega arith))

-- two sums that differ at c alone, where the old summand is this one and the new one that
pub record Sums (n c old new before now : ℕ) : Type 0 where
  pub changed : c < n → now + old ≡ before + new
  pub kept : new ≡ old → now ≡ before

pub sums_of : (f g : ℕ → ℕ) (c n : ℕ) → ((h : ℕ) → h ≢ c → g h ≡ f h) → Sums n c (f c) (g c) (total f n) (total g n)
sums_of f g c n same = record {
  changed = total_at f g c n same;
  kept = λ e. total_below f g n (λ h _. by_test h c (λ _. g h ≡ f h) (λ i. ap g i ∙ e ∙ sym (ap f i)) (λ ne. same h ne));
}

bit_of : (b : Bool) → b ≡ false → bit b ≡ 0
bit_of b e = ap bit e

not_open : (o : Opening) → open_bit o ≢ 1 → o ≡ closed
not_open closed k = refl
not_open (opened x) k = absurd (k refl)
not_open (placed x) k = absurd (k refl)
not_open (handed x) k = absurd (k refl)
not_open (counted x) k = absurd (k refl)

-- what a step of c leaves of the sums: A of harts with HSM 3, B of open starts, C of those that are to raise LIVE, D of harts that
-- aren't stopped, E of stops that are to take from LIVE
module _ (layout : Layout) (c : ℕ) (runs : Bool) (r : List Step) (words : Word → ℕ) (A A' B B' C C' D D' E E' : ℕ) where
  abbrev Hsms : Word → WordOp → ℕ → (ℕ → ℕ) → ℕ → ℕ → Type 0
  Hsms w op arg f before now = (x : ℕ) → ((h : ℕ) → h ≢ x → value_next (Hsm h) w op (words (Hsm h)) arg ≡ words (Hsm h))
      → Sums layout.harts x (f (words (Hsm x))) (f (value_next (Hsm x) w op (words (Hsm x)) arg)) before now

  pub record Counting (w : Word) (op : WordOp) (arg answer : ℕ) : Type 0 where
    pub threes : Hsms w op arg (λ n. bit (n == 3)) A A'
    pub opens_sum : Sums layout.harts c (open_bit (opening r)) (open_bit (opening_next w op arg answer (opening r))) B B'
    pub counts_sum : Sums layout.harts c (uncounted_bit (opening r)) (uncounted_bit (opening_next w op arg answer (opening r))) C C'
    pub unstopped : Hsms w op arg unstopped_bit D D'
    pub owing_sum : Sums layout.harts c (bit (is_owing c r)) (bit (is_owing_next c w op arg answer (is_owing c r))) E E'
    pub answered : answer ≡ answer_of op (words w)
    -- the facts before the step
    pub three : (h : ℕ) → opens (opening r) h ≡ true → (words (Hsm h) ≡ 3) × (h < layout.harts)
    pub opener : open_bit (opening r) ≡ 1 → (c < layout.harts) × (is_running c runs r ≡ true)
    pub owes : is_owing c r ≡ true → (c < layout.harts) × (is_running c runs r ≡ false)
    pub run : c < layout.harts → is_running c runs r ≡ (words (Hsm c) == 0)
    pub call : taking c r ≢ idle → words (Hsm c) ≡ 2
    pub starts : A ≡ B
    pub live : words Live + C ≡ D + E
    pub half : C + C ≤ D
    pub some : is_owing c r ≡ true → 1 ≤ E
    pub few : D + E < 100

  abbrev Counted : Word → WordOp → ℕ → Type 0
  Counted w op arg = (A' ≡ B') × (value_next Live w op (words Live) arg + C' ≡ D' + E')

  -- nothing changes
  flat : (w : Word) (op : WordOp) (arg answer : ℕ) → Counting w op arg answer → ((h : ℕ) → value_next (Hsm h) w op (words (Hsm h)) arg ≡ words (Hsm h))
      → open_bit (opening_next w op arg answer (opening r)) ≡ open_bit (opening r) → uncounted_bit (opening_next w op arg answer (opening r)) ≡ uncounted_bit (opening r)
      → bit (is_owing_next c w op arg answer (is_owing c r)) ≡ bit (is_owing c r) → value_next Live w op (words Live) arg ≡ words Live → Counted w op arg
  flat w op arg answer f same a b d e = (
    omega (arith, (f.threes 0 (λ h _. same h)).kept (ap (λ n. bit (n == 3)) (same 0)), f.opens_sum.kept a, f.starts),
    omega (arith, (f.unstopped 0 (λ h _. same h)).kept (ap unstopped_bit (same 0)), f.counts_sum.kept b, f.owing_sum.kept d, e, f.live),
  )

  off_hart : (h x n m : ℕ) → h ≢ x → (if h == x then m else n) ≡ n
  off_hart h x n m ne = by_test h x (λ t. (if t then m else n) ≡ n) (λ e. absurd (ne e)) (λ _. refl)

  on_hart : (x n m : ℕ) → (if x == x then m else n) ≡ m
  on_hart x n m = by_test x x (λ t. (if t then m else n) ≡ m) (λ _. refl) (λ ne. absurd (ne refl))

  pub counted_step : (w : Word) (op : WordOp) (arg answer : ℕ) → ActorMay layout c runs r w op arg → Counting w op arg answer → Counted w op arg
  counted_step w op arg answer (begin_start {h = x} p q o ne l) f = go answer f.answered f
    where
      n : ℕ
      n = words (Hsm x)

      idles : (y : ℕ) → y ≢ 1 → y ≡ n → (h : ℕ) → value_next (Hsm h) (Hsm x) (Exchange 1) (words (Hsm h)) 3 ≡ words (Hsm h)
      idles y ny e h = by_test h x (λ t. (if t then either (words (Hsm h) == 1) 3 (words (Hsm h)) else words (Hsm h)) ≡ words (Hsm h))
          (λ d. ap (λ t. either t 3 (words (Hsm h))) (ne_eqb (words (Hsm h)) 1 (λ i. ny (e ∙ ap (λ v. words (Hsm v)) (sym d) ∙ i)))) (λ _. refl)

      go : (y : ℕ) → y ≡ n → Counting (Hsm x) (Exchange 1) 3 y → Counted (Hsm x) (Exchange 1) 3
      go zero e f = flat (Hsm x) (Exchange 1) 3 zero f (idles zero (λ i. omega arith) e) refl refl refl refl
      go (suc zero) e f =
          let old : n ≡ 1 = sym e in
          let new : value_next (Hsm x) (Hsm x) (Exchange 1) n 3 ≡ 3 = on_hart x n (either (n == 1) 3 n) ∙ ap (λ m. either (m == 1) 3 m) old in
          let a : A' + bit (n == 3) ≡ A + bit (value_next (Hsm x) (Hsm x) (Exchange 1) n 3 == 3) = (f.threes x (λ h off. off_hart h x (words (Hsm h)) (either (words (Hsm h) == 1) 3 (words (Hsm h))) off)).changed l in
          let d : D' + unstopped_bit n ≡ D + unstopped_bit (value_next (Hsm x) (Hsm x) (Exchange 1) n 3) = (f.unstopped x (λ h off. off_hart h x (words (Hsm h)) (either (words (Hsm h) == 1) 3 (words (Hsm h))) off)).changed l in
          let a0 : bit (n == 3) ≡ 0 = ap (λ m. bit (m == 3)) old in
          let a1 : bit (value_next (Hsm x) (Hsm x) (Exchange 1) n 3 == 3) ≡ 1 = ap (λ m. bit (m == 3)) new in
          let d0 : unstopped_bit n ≡ 0 = ap unstopped_bit old in
          let d1 : unstopped_bit (value_next (Hsm x) (Hsm x) (Exchange 1) n 3) ≡ 1 = ap unstopped_bit new in
          let b : B' + open_bit (opening r) ≡ B + 1 = f.opens_sum.changed p in
          let b0 : open_bit (opening r) ≡ 0 = ap open_bit o in
          let k : C' + uncounted_bit (opening r) ≡ C + 1 = f.counts_sum.changed p in
          let k0 : uncounted_bit (opening r) ≡ 0 = ap uncounted_bit o in
          let g : E' ≡ E = f.owing_sum.kept refl in
          (omega (arith, a, a0, a1, b, b0, f.starts), omega (arith, d, d0, d1, k, k0, g, f.live))
      go (suc (suc y)) e f = flat (Hsm x) (Exchange 1) 3 (suc (suc y)) f (idles (suc (suc y)) (λ i. omega arith) e) refl refl refl refl
  counted_step w op arg answer (set_start o z) f = flat w op arg answer f (λ h. refl) (sym (ap open_bit o)) (sym (ap uncounted_bit o)) refl refl
  counted_step w op arg answer (set_opaque o) f = flat w op arg answer f (λ h. refl) (sym (ap open_bit o)) (sym (ap uncounted_bit o)) refl refl
  counted_step w op arg answer (add_live {h = x} o) f =
      let u = f.opener (ap open_bit o) in
      let free : is_owing c r ≡ false = ⊎_elim (λ (i : is_owing c r ≡ true). absurd (true≢false (sym u.1 ∙ (f.owes i).1))) (λ (i : is_owing c r ≡ false). i) (cases_Bool (is_owing c r)) in
      let a : A' ≡ A = (f.threes 0 (λ h _. refl)).kept refl in
      let d : D' ≡ D = (f.unstopped 0 (λ h _. refl)).kept refl in
      let b : B' ≡ B = f.opens_sum.kept (open_count (opening r)) in
      let k : C' + uncounted_bit (opening r) ≡ C + uncounted_bit (counted_next (opening r)) = f.counts_sum.changed u.0 in
      let k0 : uncounted_bit (opening r) ≡ 1 = ap uncounted_bit o in
      let k1 : uncounted_bit (counted_next (opening r)) ≡ 0 = ap (λ q. uncounted_bit (counted_next q)) o in
      let g : E' ≡ E = f.owing_sum.kept (sym (ap bit free)) in
      (omega (arith, a, b, f.starts), omega (arith, d, k, k0, k1, g, f.live, f.few))
  counted_step w op arg answer (take_live o) f =
      let u = f.owes o in
      let shut : opening r ≡ closed = not_open (opening r) (λ i. true≢false (sym (f.opener i).1 ∙ u.1)) in
      let a : A' ≡ A = (f.threes 0 (λ h _. refl)).kept refl in
      let d : D' ≡ D = (f.unstopped 0 (λ h _. refl)).kept refl in
      let b : B' ≡ B = f.opens_sum.kept refl in
      let k : C' ≡ C = f.counts_sum.kept refl in
      let g : E' + bit (is_owing c r) ≡ E + 0 = f.owing_sum.changed u.0 in
      let g0 : bit (is_owing c r) ≡ 1 = ap bit o in
      (omega (arith, a, b, f.starts), omega (arith, d, k, g, g0, f.live, f.few, f.half, f.some o))
  counted_step w op arg answer (end_start {h = x} o) f =
      let t = f.three x (ap (λ q. opens q x) o ∙ eq-eqb x x refl) in
      let u = f.opener (ap open_bit o) in
      let free : is_owing c r ≡ false = ⊎_elim (λ (i : is_owing c r ≡ true). absurd (true≢false (sym u.1 ∙ (f.owes i).1))) (λ (i : is_owing c r ≡ false). i) (cases_Bool (is_owing c r)) in
      let new : value_next (Hsm x) (Hsm x) Store (words (Hsm x)) 2 ≡ 2 = on_hart x (words (Hsm x)) 2 in
      let a : A' + bit (words (Hsm x) == 3) ≡ A + bit (value_next (Hsm x) (Hsm x) Store (words (Hsm x)) 2 == 3) = (f.threes x (λ h off. off_hart h x (words (Hsm h)) 2 off)).changed t.1 in
      let a0 : bit (words (Hsm x) == 3) ≡ 1 = ap (λ m. bit (m == 3)) t.0 in
      let a1 : bit (value_next (Hsm x) (Hsm x) Store (words (Hsm x)) 2 == 3) ≡ 0 = ap (λ m. bit (m == 3)) new in
      let d : D' ≡ D = (f.unstopped x (λ h off. off_hart h x (words (Hsm h)) 2 off)).kept (ap unstopped_bit new ∙ sym (ap unstopped_bit t.0)) in
      let b : B' + open_bit (opening r) ≡ B + 0 = f.opens_sum.changed u.0 in
      let b0 : open_bit (opening r) ≡ 1 = ap open_bit o in
      let k : C' ≡ C = f.counts_sum.kept (sym (ap uncounted_bit o)) in
      let g : E' ≡ E = f.owing_sum.kept (by_test x c (λ t. bit (if t then (2 == 1) else is_owing c r) ≡ bit (is_owing c r)) (λ _. sym (ap bit free)) (λ _. refl)) in
      (omega (arith, a, a0, a1, b, b0, f.starts), omega (arith, d, k, g, f.live))
  counted_step w op arg answer (take_start t p o) f =
      let two : words (Hsm c) ≡ 2 = f.call (λ i. apart (sym t ∙ i)) in
      let shut : opening r ≡ closed = not_open (opening r) (λ i. true≢false (sym (f.opener i).1 ∙ p)) in
      let new : value_next (Hsm c) (Hsm c) Store (words (Hsm c)) 0 ≡ 0 = on_hart c (words (Hsm c)) 0 in
      let a : A' ≡ A = (f.threes c (λ h off. off_hart h c (words (Hsm h)) 0 off)).kept (ap (λ m. bit (m == 3)) new ∙ sym (ap (λ m. bit (m == 3)) two)) in
      let d : D' ≡ D = (f.unstopped c (λ h off. off_hart h c (words (Hsm h)) 0 off)).kept (ap unstopped_bit new ∙ sym (ap unstopped_bit two)) in
      let b : B' ≡ B = f.opens_sum.kept (sym (ap open_bit shut)) in
      let k : C' ≡ C = f.counts_sum.kept (sym (ap uncounted_bit shut)) in
      let g : E' ≡ E = f.owing_sum.kept (by_test c c (λ t. bit (if t then (0 == 1) else is_owing c r) ≡ bit (is_owing c r)) (λ _. sym (ap bit o)) (λ _. refl)) in
      (omega (arith, a, b, f.starts), omega (arith, d, k, g, f.live))
    where
      apart : with_both ≡ idle → ⊥
      apart e = cc
  counted_step w op arg answer (stop l p o) f =
      let none : words (Hsm c) ≡ 0 = eqb-true (words (Hsm c)) 0 (sym (f.run l) ∙ p) in
      let free : is_owing c r ≡ false = ⊎_elim (λ (i : is_owing c r ≡ true). absurd (true≢false (sym p ∙ (f.owes i).1))) (λ (i : is_owing c r ≡ false). i) (cases_Bool (is_owing c r)) in
      let new : value_next (Hsm c) (Hsm c) Store (words (Hsm c)) 1 ≡ 1 = on_hart c (words (Hsm c)) 1 in
      let a : A' ≡ A = (f.threes c (λ h off. off_hart h c (words (Hsm h)) 1 off)).kept (ap (λ m. bit (m == 3)) new ∙ sym (ap (λ m. bit (m == 3)) none)) in
      let d : D' + unstopped_bit (words (Hsm c)) ≡ D + unstopped_bit (value_next (Hsm c) (Hsm c) Store (words (Hsm c)) 1) = (f.unstopped c (λ h off. off_hart h c (words (Hsm h)) 1 off)).changed l in
      let d0 : unstopped_bit (words (Hsm c)) ≡ 1 = ap unstopped_bit none in
      let d1 : unstopped_bit (value_next (Hsm c) (Hsm c) Store (words (Hsm c)) 1) ≡ 0 = ap unstopped_bit new in
      let b : B' ≡ B = f.opens_sum.kept (sym (ap open_bit o)) in
      let k : C' ≡ C = f.counts_sum.kept (sym (ap uncounted_bit o)) in
      let g : E' + bit (is_owing c r) ≡ E + bit (if c == c then (1 == 1) else is_owing c r) = f.owing_sum.changed l in
      let g0 : bit (is_owing c r) ≡ 0 = ap bit free in
      let g1 : bit (if c == c then (1 == 1) else is_owing c r) ≡ 1 = by_test c c (λ t. bit (if t then (1 == 1) else is_owing c r) ≡ 1) (λ _. refl) (λ ne. absurd (ne refl)) in
      (omega (arith, a, b, f.starts), omega (arith, d, d0, d1, k, g, g0, g1, f.live))
  counted_step w op arg answer m f = flat w op arg answer f (λ h. refl) refl refl refl refl
