-- Reasons and their words.
use Rattle.std.proofs.Common.{◌≡◌, refl, ℕ, ◌+◌, ◌*◌, ◌/◌, ◌%◌, ◌^◌, true, false, Bool, ◌&&◌, Option, Some, None, arith, ap, sym, ◌∙◌}
use Rattle.std.specs.Prelude.{◌==◌, nat_lt, if◌then◌else◌}
use Rattle.std.proofs.lemmas.Bool.{eq-eqb, ne_eqb, lt-ltb, eqb-true, and_parts}
use Rattle.step_laws.specs.Fields.{pass, fail, limit, output_full, all_stopped, stopped}
use Rattle.machine_model.specs.declared.reason.Reason.{Reason}
use Rattle.machine_model.specs.ReasonWords.{reason_word, ReasonsAreTold, WordsAreTold, ReasonsMayStand}

pub reasons_are_told : ReasonsAreTold
reasons_are_told Reason.Pass k = refl
reasons_are_told Reason.OutFull k = refl
reasons_are_told Reason.AllStopped k = refl
reasons_are_told Reason.Stopped k = refl
reasons_are_told (Reason.Fail code) k =
    let n = 2 + 2 ^ 8 * code in
    let kind : n % 2 ^ 8 ≡ 2 = omega arith in
    let above : n / 2 ^ 8 ≡ code = omega arith in
    rw (ne_eqb n 1 (λ e. omega (arith, e)), eq-eqb (n % 2 ^ 8) 2 kind, above, lt-ltb code (2 ^ 16) k) refl
reasons_are_told (Reason.Limit hart) k =
    let n = 3 + 2 ^ 8 * hart in
    let kind : n % 2 ^ 8 ≡ 3 = omega arith in
    let above : n / 2 ^ 8 ≡ hart = omega arith in
    rw (ne_eqb n 1 (λ e. omega (arith, e)), ne_eqb (n % 2 ^ 8) 2 (λ e. omega (arith, e, kind)), eq-eqb (n % 2 ^ 8) 3 kind, above, lt-ltb hart (2 ^ 8) k) refl

-- one kind after another
abbrev by_kinds : (n : ℕ) (one fails limited four five six : Bool) → Option Reason
by_kinds n one fails limited four five six =
    if one then Some Reason.Pass else
    if fails then Some (Reason.Fail (n / 2 ^ 8)) else
    if limited then Some (Reason.Limit (n / 2 ^ 8)) else
    if four then Some Reason.OutFull else
    if five then Some Reason.AllStopped else
    if six then Some Reason.Stopped else None

some_word : (n k : ℕ) (x reason : Reason) → Some x ≡ Some reason → reason_word x ≡ k → k ≡ n → reason_word reason ≡ n
some_word n k x reason e word same = sym (ap (λ (o : Option Reason). word_or n o) e) ∙ word ∙ same
  where
    word_or : ℕ → Option Reason → ℕ
    word_or d None = d
    word_or d (Some r) = reason_word r

by_word : (n : ℕ) (reason : Reason) (one fails limited four five six : Bool)
    → (one ≡ true → n ≡ 1) → (fails ≡ true → n % 2 ^ 8 ≡ 2) → (limited ≡ true → n % 2 ^ 8 ≡ 3) → (four ≡ true → n ≡ 4) → (five ≡ true → n ≡ 5) → (six ≡ true → n ≡ 6)
    → by_kinds n one fails limited four five six ≡ Some reason → reason_word reason ≡ n
by_word n reason true b c d e f p q r s t u k = some_word n 1 Reason.Pass reason k refl (sym (p refl))
by_word n reason false true c d e f p q r s t u k = let m = q refl in some_word n (2 + 2 ^ 8 * (n / 2 ^ 8)) (Reason.Fail (n / 2 ^ 8)) reason k refl (omega (arith, m))
by_word n reason false false true d e f p q r s t u k = let m = r refl in some_word n (3 + 2 ^ 8 * (n / 2 ^ 8)) (Reason.Limit (n / 2 ^ 8)) reason k refl (omega (arith, m))
by_word n reason false false false true e f p q r s t u k = some_word n 4 Reason.OutFull reason k refl (sym (s refl))
by_word n reason false false false false true f p q r s t u k = some_word n 5 Reason.AllStopped reason k refl (sym (t refl))
by_word n reason false false false false false true p q r s t u k = some_word n 6 Reason.Stopped reason k refl (sym (u refl))
by_word n reason false false false false false false p q r s t u k = cc

pub words_are_told : WordsAreTold
words_are_told n reason k =
    by_word n reason (n == 1) ((n % 2 ^ 8 == 2) && nat_lt (n / 2 ^ 8) (2 ^ 16)) ((n % 2 ^ 8 == 3) && nat_lt (n / 2 ^ 8) (2 ^ 8)) (n == 4) (n == 5) (n == 6)
    (eqb-true n 1)
    (λ e. eqb-true (n % 2 ^ 8) 2 (and_parts (n % 2 ^ 8 == 2) (nat_lt (n / 2 ^ 8) (2 ^ 16)) e).0)
    (λ e. eqb-true (n % 2 ^ 8) 3 (and_parts (n % 2 ^ 8 == 3) (nat_lt (n / 2 ^ 8) (2 ^ 8)) e).0)
    (eqb-true n 4) (eqb-true n 5) (eqb-true n 6) k

pub reasons_may_stand : ReasonsMayStand
reasons_may_stand layout Reason.Pass k = pass refl
reasons_may_stand layout (Reason.Fail code) k = fail code k refl
reasons_may_stand layout (Reason.Limit hart) k = limit hart k refl
reasons_may_stand layout Reason.OutFull k = output_full refl
reasons_may_stand layout Reason.AllStopped k = all_stopped refl
reasons_may_stand layout Reason.Stopped k = stopped refl
