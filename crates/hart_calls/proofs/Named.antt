-- The harts that a mask names, bit by bit.
use Rattle.std.proofs.Common.{◌≡◌, refl, sym, ap, ◌∙◌, ℕ, zero, suc, ◌+◌, ◌-◌, ◌*◌, ◌%◌, ◌^◌, ◌<◌, ◌≤◌, true, false, ◌&&◌, List, [], ◌∷◌, ◌++◌, ◌⊎◌, inl, inr, arith, add-one}
use Rattle.std.specs.Prelude.{nat_lt, map, filter, Some, None, if◌then◌else◌, bit_or}
use Rattle.std.proofs.lemmas.Bool.{cases_Bool, cases_lt, eqb-true, lt-ltb, le-ltb, eq-eqb, ne_eqb, and_from, and_left, and_right}
use Rattle.std.proofs.lemmas.List.{append-nil, map_push}
use Rattle.std.proofs.lemmas.List.Elements.{filter-append}
use Rattle.std.proofs.lemmas.List.Folds.{list_all-append}
use Rattle.std.proofs.lemmas.Nat.{or_shifted, or_comm, pow_pos, one_shl}
use Rattle.std.proofs.lemmas.Nat.Bits.{bit_at_or, bit_at_ones_above, bit_at_set_other, bit_at-zero, same_from_bits}
use Rattle.std.proofs.Math.Nat.{pow-suc}
use Rattle.std.specs.Int.{bit_at, w64}
use Rattle.std.specs.Int.Bits.{or_zero_l, or_zero_r}
use Rattle.rv64_priv.specs.Bits.{is_set}
use Rattle.machine_model.specs.Sbi.{below, named, are_there, bits_of}
use Rattle.hart_calls.specs.Asked.{AreHarts, bits_if_there}

or_assoc : (a b c : ℕ) → bit_or (bit_or a b) c ≡ bit_or a (bit_or b c)
or_assoc a b c = same_from_bits _ _ (λ i. omega (arith, bit_at_or (bit_or a b) c i, bit_at_or a b i, bit_at_or a (bit_or b c) i, bit_at_or b c i))

bits_more : (hs : List ℕ) (h : ℕ) → bits_of (hs ++ h ∷ []) ≡ bit_or (bits_of hs) (2 ^ h)
bits_more [] h = or_zero_r (2 ^ h) ∙ sym (or_zero_l (2 ^ h))
bits_more (k ∷ ks) h = ap (bit_or (2 ^ k)) (bits_more ks h) ∙ sym (or_assoc (2 ^ k) (bits_of ks) (2 ^ h))

there_more : (harts : ℕ) (hs : List ℕ) (h : ℕ) → are_there harts hs ≡ true → h < harts → are_there harts (hs ++ h ∷ []) ≡ true
there_more harts hs h e inside = list_all-append (λ k. nat_lt k harts) hs (h ∷ []) ∙ and_from _ _ e (and_from _ _ (lt-ltb h harts inside) refl)

some_when : (harts : ℕ) (hs : List ℕ) → are_there harts hs ≡ true → bits_if_there harts hs ≡ Some (bits_of hs)
some_when harts hs t = ap (λ b. if b then Some (bits_of hs) else None) t

none_when : (harts : ℕ) (hs : List ℕ) → are_there harts hs ≡ false → bits_if_there harts hs ≡ None
none_when harts hs f = ap (λ b. if b then Some (bits_of hs) else None) f

-- one hart more
some_more : (harts : ℕ) (hs : List ℕ) (h bits : ℕ) → bits_if_there harts hs ≡ Some bits → h < harts → bits_if_there harts (hs ++ h ∷ []) ≡ Some (bit_or bits (2 ^ h))
some_more harts hs h bits e inside = go (cases_Bool (are_there harts hs))
  where
    go : (are_there harts hs ≡ true) ⊎ (are_there harts hs ≡ false) → bits_if_there harts (hs ++ h ∷ []) ≡ Some (bit_or bits (2 ^ h))
    go (inl t) =
        let known : bits_if_there harts hs ≡ Some (bits_of hs) = some_when harts hs t in
        let same : bits_of hs ≡ bits = cc in
        some_when harts (hs ++ h ∷ []) (there_more harts hs h t inside) ∙ ap Some (bits_more hs h ∙ ap (λ b. bit_or b (2 ^ h)) same)
    go (inr f) =
        let known : bits_if_there harts hs ≡ None = none_when harts hs f in
        absurd (cc)

-- the harts of a mask's lowest bits
pub part : (mask base n : ℕ) → List ℕ
part mask base n = map (λ i. base + i) (filter (λ i. is_set mask i) (below n))

part_set : (mask base n : ℕ) → is_set mask n ≡ true → part mask base (suc n) ≡ part mask base n ++ (base + n) ∷ []
unfolding part
part_set mask base n e =
    ap (map (λ i. base + i)) (filter-append (λ i. is_set mask i) (below n) (n ∷ []))
    ∙ ap (λ b. map (λ i. base + i) (filter (λ i. is_set mask i) (below n) ++ (if b then n ∷ [] else []))) e
    ∙ map_push (λ i. base + i) (filter (λ i. is_set mask i) (below n)) n

part_clear : (mask base n : ℕ) → is_set mask n ≡ false → part mask base (suc n) ≡ part mask base n
unfolding part
part_clear mask base n e =
    ap (map (λ i. base + i)) (filter-append (λ i. is_set mask i) (below n) (n ∷ []))
    ∙ ap (λ b. map (λ i. base + i) (filter (λ i. is_set mask i) (below n) ++ (if b then n ∷ [] else []))) e
    ∙ ap (map (λ i. base + i)) (append-nil (filter (λ i. is_set mask i) (below n)))

-- a hart that isn't there, among those of lower and higher bits
far_off : (harts mask base n k : ℕ) → k < n → is_set mask k ≡ true → harts ≤ base + k → are_there harts (part mask base n) ≡ false
far_off harts mask base zero k inside set far = absurd (omega arith)
far_off harts mask base (suc n) k inside set far = go (far_off harts mask base n k) (cases_Bool (is_set mask n)) (cases_lt k n)
  where
    last : is_set mask n ≡ true → are_there harts (part mask base (suc n)) ≡ (are_there harts (part mask base n) && (nat_lt (base + n) harts && true))
    last e = ap (are_there harts) (part_set mask base n e) ∙ list_all-append (λ h. nat_lt h harts) (part mask base n) ((base + n) ∷ [])

    go : (k < n → is_set mask k ≡ true → harts ≤ base + k → are_there harts (part mask base n) ≡ false) → (is_set mask n ≡ true) ⊎ (is_set mask n ≡ false) → (k < n) ⊎ (n ≤ k) → are_there harts (part mask base (suc n)) ≡ false
    go before (inl e) (inl lower) = last e ∙ and_left _ _ (before lower set far)
    go before (inr e) (inl lower) = ap (are_there harts) (part_clear mask base n e) ∙ before lower set far
    go before (inl e) (inr here) = last e ∙ and_right _ _ (and_left _ _ (le-ltb (base + n) harts (omega arith)))
    go before (inr e) (inr here) =
        let same : k ≡ n = omega arith in
        let other : is_set mask k ≡ false = ap (is_set mask) same ∙ e in
        absurd (cc)

pub missing : (harts mask base n k : ℕ) → k < n → is_set mask k ≡ true → harts ≤ base + k → bits_if_there harts (part mask base n) ≡ None
missing harts mask base n k inside set far = none_when harts (part mask base n) (far_off harts mask base n k inside set far)

-- all harts
all_there : (harts n : ℕ) → n ≤ harts → are_there harts (below n) ≡ true
all_there harts zero inside = refl
all_there harts (suc n) inside = there_more harts (below n) n (all_there harts n (omega arith)) (omega arith)

ones_more : (n : ℕ) → bit_or (2 ^ n - 1) (2 ^ n) ≡ 2 ^ suc n - 1
ones_more n =
    let positive = pow_pos n in
    let one : 1 * 2 ^ n ≡ 2 ^ n = omega arith in
    or_comm (2 ^ n - 1) (2 ^ n) ∙ ap (λ k. bit_or k (2 ^ n - 1)) (sym one) ∙ or_shifted 1 n (2 ^ n - 1) (omega arith) ∙ omega (arith, pow-suc 2 n)

all_bits : (n : ℕ) → bits_of (below n) ≡ 2 ^ n - 1
all_bits zero = refl
all_bits (suc n) = bits_more (below n) n ∙ ap (λ b. bit_or b (2 ^ n)) (all_bits n) ∙ ones_more n

all_named : (harts mask base : ℕ) → base ≡ 2 ^ 64 - 1 → bits_if_there harts (named harts mask base) ≡ Some (2 ^ harts - 1)
unfolding part
all_named harts mask base e =
    ap (λ b. bits_if_there harts (if b then below harts else part mask base 64)) (eq-eqb base (2 ^ 64 - 1) e)
    ∙ some_when harts (below harts) (all_there harts harts (omega arith)) ∙ ap Some (all_bits harts)

pub some_named : (harts mask base : ℕ) → (base ≡ 2 ^ 64 - 1 → ⊥) → bits_if_there harts (named harts mask base) ≡ bits_if_there harts (part mask base 64)
unfolding part
some_named harts mask base e = ap (λ b. bits_if_there harts (if b then below harts else part mask base 64)) (ne_eqb base (2 ^ 64 - 1) e)

pub none_yet : (harts mask base : ℕ) → bits_if_there harts (part mask base 0) ≡ Some 0
unfolding part
none_yet harts mask base = refl

-- a step of the loop over the bits
pub one_more : (harts mask base i hart bits now : ℕ) → harts ≤ 8 → bits_if_there harts (part mask base i) ≡ Some bits → is_set mask i ≡ true → hart ≡ base + i → hart < harts → now ≡ bit_or bits (1 * 2 ^ hart % 2 ^ 64)
    → bits_if_there harts (part mask base (i + 1)) ≡ Some now
one_more harts mask base i hart bits now few e set at inside is =
    let shifted : 1 * 2 ^ hart % 2 ^ 64 ≡ 2 ^ hart = one_shl hart 64 (omega arith) in
    ap (λ n. bits_if_there harts (part mask base n)) (add-one i)
    ∙ ap (bits_if_there harts) (part_set mask base i set)
    ∙ ap (λ h. bits_if_there harts (part mask base i ++ h ∷ [])) (sym at)
    ∙ some_more harts (part mask base i) hart bits e inside
    ∙ ap Some (sym (is ∙ ap (bit_or bits) shifted))

pub no_more : (harts mask base i bits now : ℕ) → bits_if_there harts (part mask base i) ≡ Some bits → is_set mask i ≡ false → now ≡ bits → bits_if_there harts (part mask base (i + 1)) ≡ Some now
no_more harts mask base i bits now e clear is =
    ap (λ n. bits_if_there harts (part mask base n)) (add-one i) ∙ ap (bits_if_there harts) (part_clear mask base i clear) ∙ e ∙ ap Some (sym is)

pub all_ones : (harts mask base : ℕ) → harts ≤ 8 → base ≡ 2 ^ 64 - 1 → Some (1 * 2 ^ harts % 2 ^ 64 - 1) ≡ bits_if_there harts (named harts mask base)
all_ones harts mask base few e = ap (λ k. Some (k - 1)) (one_shl harts 64 (omega arith)) ∙ sym (all_named harts mask base e)

-- no bit from this one on
abbrev pub NoneFrom : (harts bits : ℕ) → Type 0
NoneFrom harts bits = (t : ℕ) → harts ≤ t → bit_at bits t ≡ 0

pub none_from_zero : (harts : ℕ) → NoneFrom harts 0
none_from_zero harts t far = bit_at-zero t

pub one_from : (harts hart bits now : ℕ) → harts ≤ 8 → NoneFrom harts bits → hart < harts → now ≡ bit_or bits (1 * 2 ^ hart % 2 ^ 64) → NoneFrom harts now
one_from harts hart bits now few none inside is t far = ap (λ n. bit_at n t) is ∙ bit_at_set_other w64 bits hart (omega arith) t (λ e. omega (arith, e)) ∙ none t far

pub all_from : (harts : ℕ) → harts ≤ 8 → NoneFrom harts (1 * 2 ^ harts % 2 ^ 64 - 1)
all_from harts few t far = ap (λ n. bit_at (n - 1) t) (one_shl harts 64 (omega arith)) ∙ bit_at_ones_above harts t far

pub are_harts : (harts bits : ℕ) → NoneFrom harts bits → AreHarts harts bits
are_harts harts bits none t set = go (cases_lt t harts)
  where
    go : (t < harts) ⊎ (harts ≤ t) → t < harts
    go (inl less) = less
    go (inr far) =
        let one : bit_at bits t ≡ 1 = eqb-true (bit_at bits t) 1 set in
        let zero : bit_at bits t ≡ 0 = none t far in
        absurd (omega arith)
