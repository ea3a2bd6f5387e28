-- Turns that are left, behind those that were taken.
use Rattle.std.proofs.Common.{◌≡◌, refl, ℕ, zero, suc, ◌<◌, ◌≤◌, ◌+◌, ◌-◌, ◌++◌, List, [], ◌∷◌, length, take, drop, None, Bool, true, false, arith, ap, sym, ◌∙◌, subst}
use Rattle.std.specs.Prelude.{◌==◌, not, if◌then◌else◌, replicate, slice_index_or, IsSome}
use Rattle.std.proofs.lemmas.List.{append_assoc, replicate-append-replicate, append-nil, take_more, take-append-drop}
use Rattle.std.proofs.lemmas.List.Elements.{filter-append}
use Rattle.std.proofs.lemmas.Bool.{eqb-true}
use Rattle.ref_machine.specs.PlainState.{PlainState}
use Rattle.ref_machine.specs.Shows.{Turned}
use Rattle.ref_machine.specs.Ran.{Ran}
use Rattle.ref_machine.proofs.Runs.{ran_none, ran_turn, ran_over, ran_append}
use Rattle.tlbvm.specs.declared.items.Item.{Item}
use Rattle.tlbvm.specs.Turns.{hart_turns, harts_once, is_hart, item_turns, round, rounds, turns_of}

-- some list stands in front of another, and makes a third
pub record IsBehind (xs ys : List ℕ) : Type 0 where
  pub more : List ℕ
  pub is : more ++ xs ≡ ys

pub over_to : (xs ys : List ℕ) (p q : PlainState) → IsBehind xs ys → IsSome q.shared.reason → Ran xs p q → Ran ys p q
over_to xs ys p q b ended r = subst (λ t. Ran t p q) b.is (ran_over b.more xs p q ended r)

pub same_behind : (hart n m : ℕ) → n ≤ m → IsBehind (replicate n hart) (replicate m hart)
same_behind hart n m le = record { more = replicate (m - n) hart; is = replicate-append-replicate (m - n) n hart ∙ ap (λ k. replicate k hart) (let e : m - n + n ≡ m = omega (arith, le) in e) }

behind_more : (x : ℕ) (xs ys : List ℕ) → IsBehind xs ys → IsBehind xs (x ∷ ys)
behind_more x xs ys b = record { more = x ∷ b.more; is = ap (λ l. x ∷ l) b.is }

behind_append : (zs xs ys : List ℕ) → IsBehind xs ys → IsBehind xs (zs ++ ys)
behind_append zs xs ys b = record { more = zs ++ b.more; is = append_assoc zs b.more xs ∙ ap (λ l. zs ++ l) b.is }

behind_self : (xs : List ℕ) → IsBehind xs xs
behind_self xs = record { more = []; is = refl }

pub harts_behind : (n k : ℕ) → IsBehind (harts_once n) (harts_once (k + n))
harts_behind n zero = subst (λ m. IsBehind (harts_once n) (harts_once m)) (let e : n ≡ 0 + n = omega arith in e) (behind_self (harts_once n))
harts_behind n (suc k) = subst (λ m. IsBehind (harts_once n) (harts_once m)) (let e : suc (k + n) ≡ suc k + n = omega arith in e) (behind_more (k + n) (harts_once n) (harts_once (k + n)) (harts_behind n k))

-- THE TURNS OF HARTS

hart_append : (xs ys : List ℕ) → hart_turns (xs ++ ys) ≡ hart_turns xs ++ hart_turns ys
hart_append xs ys = filter-append is_hart xs ys

behind_harts : (xs ys : List ℕ) → IsBehind xs ys → IsBehind (hart_turns xs) (hart_turns ys)
behind_harts xs ys b = record { more = hart_turns b.more; is = sym (hart_append b.more xs) ∙ ap hart_turns b.is }

kept : (x : ℕ) (xs : List ℕ) → x < 8 → hart_turns (x ∷ xs) ≡ x ∷ hart_turns xs
kept x xs small = go (x == 8) refl
  where
    go : (b : Bool) → (x == 8) ≡ b → (if not b then x ∷ hart_turns xs else hart_turns xs) ≡ x ∷ hart_turns xs
    go false e = refl
    go true e = absurd (omega (arith, eqb-true x 8 e, small))

times_same : (n hart : ℕ) → hart < 8 → hart_turns (replicate n hart) ≡ replicate n hart
times_same zero hart small = refl
times_same (suc n) hart small = kept hart (replicate n hart) small ∙ ap (λ l. hart ∷ l) (times_same n hart small)

times_none : (n : ℕ) → hart_turns (replicate n 8) ≡ []
times_none zero = refl
times_none (suc n) = times_none n

harts_same : (n : ℕ) → n ≤ 8 → hart_turns (harts_once n) ≡ harts_once n
harts_same zero few = refl
harts_same (suc n) few = kept n (harts_once n) (omega (arith, few)) ∙ ap (λ l. n ∷ l) (harts_same n (omega (arith, few)))

pub item_times : (harts n hart : ℕ) (p q : PlainState) → hart < harts → harts ≤ 8 → Ran (replicate n hart) p q → Ran (hart_turns (replicate n hart)) p q
item_times harts n hart p q there few ran = subst (λ t. Ran t p q) (sym (times_same n hart (omega (arith, there, few)))) ran

pub item_monitor : (n : ℕ) (p : PlainState) → Ran (hart_turns (replicate n 8)) p p
item_monitor n p = subst (λ t. Ran t p p) (sym (times_none n)) (ran_none p)

pub rounds_behind : (harts n k : ℕ) → IsBehind (hart_turns (rounds harts n)) (hart_turns (rounds harts (k + n)))
rounds_behind harts n k = behind_harts (rounds harts n) (rounds harts (k + n)) (go k)
  where
    go : (j : ℕ) → IsBehind (rounds harts n) (rounds harts (j + n))
    go zero = subst (λ m. IsBehind (rounds harts n) (rounds harts m)) (let e : n ≡ 0 + n = omega arith in e) (behind_self (rounds harts n))
    go (suc j) = subst (λ m. IsBehind (rounds harts n) (rounds harts m)) (let e : suc (j + n) ≡ suc j + n = omega arith in e) (behind_append (round harts) (rounds harts n) (rounds harts (j + n)) (go j))

-- TURNS MORE

pub times_more : (n hart : ℕ) (p q r : PlainState) → q.shared.reason ≡ None → Ran (replicate n hart) p q → Turned hart q r → Ran (replicate (n + 1) hart) p r
times_more n hart p q r going ran t = subst (λ m. Ran (replicate m hart) p r) (let e : suc n ≡ n + 1 = omega arith in e) (ran_turn (replicate n hart) hart p q r going ran t)

pub harts_more : (n : ℕ) (p q r : PlainState) → Ran (harts_once n) p q → Ran (replicate 1 n) q r → Ran (harts_once (n + 1)) p r
harts_more n p q r ran more = subst (λ m. Ran (harts_once m) p r) (let e : suc n ≡ n + 1 = omega arith in e) (ran_append (replicate 1 n) (harts_once n) p q r ran more)

pub times_run : (n k m hart : ℕ) (p q r : PlainState) → k + n ≡ m → Ran (replicate n hart) p q → Ran (replicate k hart) q r → Ran (replicate m hart) p r
times_run n k m hart p q r e ran more =
    subst (λ l. Ran l p r) (replicate-append-replicate k n hart ∙ ap (λ j. replicate j hart) e) (ran_append (replicate k hart) (replicate n hart) p q r ran more)

pub rounds_more : (harts n : ℕ) → harts ≤ 8 → (p q r : PlainState) → Ran (hart_turns (rounds harts n)) p q → Ran (harts_once harts) q r → Ran (hart_turns (rounds harts (n + 1))) p r
rounds_more harts n few p q r ran more =
    let is : hart_turns (rounds harts (suc n)) ≡ harts_once harts ++ hart_turns (rounds harts n)
    = hart_append (harts_once harts) (rounds harts n) ∙ ap (λ l. l ++ hart_turns (rounds harts n)) (harts_same harts few) in
    subst (λ m. Ran (hart_turns (rounds harts m)) p r) (let e : suc n ≡ n + 1 = omega arith in e)
    (subst (λ t. Ran t p r) (sym is) (ran_append (harts_once harts) (hart_turns (rounds harts n)) p q r ran more))

-- ITEMS

turns_append : (harts : ℕ) (xs ys : List Item) → turns_of harts (xs ++ ys) ≡ turns_of harts ys ++ turns_of harts xs
turns_append harts [] ys = sym (append-nil (turns_of harts ys))
turns_append harts (x ∷ xs) ys = ap (λ l. l ++ item_turns harts x) (turns_append harts xs ys) ∙ append_assoc (turns_of harts ys) (turns_of harts xs) (item_turns harts x)

pub items_more : (harts i : ℕ) (items : List Item) (d : Item) (p q r : PlainState) → i < length items → Ran (hart_turns (turns_of harts (take i items))) p q
    → Ran (hart_turns (item_turns harts (slice_index_or items i d))) q r → Ran (hart_turns (turns_of harts (take (i + 1) items))) p r
items_more harts i items d p q r lt ran more =
    let item = slice_index_or items i d in
    let is : hart_turns (turns_of harts (take (i + 1) items)) ≡ hart_turns (item_turns harts item) ++ hart_turns (turns_of harts (take i items))
    = ap (λ l. hart_turns (turns_of harts l)) (take_more items i d lt) ∙ ap hart_turns (turns_append harts (take i items) (item ∷ []))
    ∙ hart_append (item_turns harts item) (turns_of harts (take i items)) in
    subst (λ t. Ran t p r) (sym is) (ran_append (hart_turns (item_turns harts item)) (hart_turns (turns_of harts (take i items))) p q r ran more)

pub items_behind : (harts n : ℕ) (items : List Item) → IsBehind (hart_turns (turns_of harts (take n items))) (hart_turns (turns_of harts items))
items_behind harts n items = behind_harts (turns_of harts (take n items)) (turns_of harts items) (record {
  more = turns_of harts (drop n items);
  is = sym (turns_append harts (take n items) (drop n items)) ∙ ap (turns_of harts) (take-append-drop n items);
})
