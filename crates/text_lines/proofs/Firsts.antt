-- The first line of a text, and the first word of a line.
use Rattle.std.proofs.Common.{◌≡◌, refl, ap, subst, Some, None, ltb, sym, ◌∙◌, ℕ, suc, ◌+◌, ◌-◌, ◌<◌, ◌≤◌, Bool, true, false, not, ◌&&◌, ◌==◌, cond, List, [], ◌∷◌, length, take, drop, get_or, arith}
use Rattle.std.proofs.lemmas.Bool.{and_right, ltb-true, ltb-false, not-true}
use Rattle.std.proofs.lemmas.List.{take_all, drop_all, drop_more}
use Rattle.std.proofs.lemmas.List.Quantifiers.{position-Some}
use Rattle.std.specs.List.{position, position_or_len}
use Rattle.text_lines.specs.Lines.{lines_of, words_of, is_blank, is_feed, without_return, begins_with_feed, begins_with_word, before_first}

one_suc : (n : ℕ) → 1 + n ≡ suc n
one_suc n = omega arith

suc_one : (n : ℕ) → suc n - 1 ≡ n
suc_one n = omega arith

suc_plus : (n : ℕ) → suc n + 1 ≡ suc (n + 1)
suc_plus n = omega arith

place_here : (p : ℕ → Bool) (c : ℕ) (cs : List ℕ) → p c ≡ true → position_or_len p (c ∷ cs) ≡ 0
place_here p c cs e = rw e refl

place_later : (p : ℕ → Bool) (c : ℕ) (cs : List ℕ) → p c ≡ false → position_or_len p (c ∷ cs) ≡ suc (position_or_len p cs)
place_later p c cs e = rw e (one_suc (position_or_len p cs))

-- a carriage return is dropped at the end alone
return_later : (c d : ℕ) (cs : List ℕ) → without_return (c ∷ d ∷ cs) ≡ c ∷ without_return (d ∷ cs)
return_later c d cs = rw (suc_one (suc (length cs)), suc_one (length cs)) (ends (get_or (d ∷ cs) (length cs) 0 == 13))
  where
    ends : (b : Bool) → cond b (c ∷ take (length cs) (d ∷ cs)) (c ∷ d ∷ cs) ≡ c ∷ cond b (take (length cs) (d ∷ cs)) (d ∷ cs)
    ends true = refl
    ends false = refl

abbrev FirstLine : List ℕ → ℕ → Type 0
FirstLine cs n = lines_of cs ≡ without_return (take n cs) ∷ lines_of (drop (n + 1) cs)

feed_here : (c : ℕ) (cs : List ℕ) → is_feed c ≡ true → FirstLine (c ∷ cs) (position_or_len is_feed (c ∷ cs))
feed_here c cs e = rw e refl

feed_next : (c d : ℕ) (ds : List ℕ) → is_feed c ≡ false → is_feed d ≡ true → FirstLine (c ∷ d ∷ ds) 1
feed_next c d ds e f = rw (e, f) (by_return (c == 13))
  where
    by_return : (b : Bool) → cond (b && true) ([] ∷ lines_of ds) (before_first c ([] ∷ lines_of ds)) ≡ cond b [] (c ∷ []) ∷ lines_of ds
    by_return true = refl
    by_return false = refl

feed_later : (c : ℕ) (cs : List ℕ) (n : ℕ) → is_feed c ≡ false → begins_with_feed cs ≡ false
    → without_return (c ∷ take n cs) ≡ c ∷ without_return (take n cs) → FirstLine cs n → FirstLine (c ∷ cs) (suc n)
feed_later c cs n e f w k = rw (e, and_right (c == 13) (begins_with_feed cs) f, suc_plus n, k) (ap (λ l. l ∷ lines_of (drop (n + 1) cs)) (sym w))

first_later : (c d : ℕ) (ds : List ℕ) (n : ℕ) → is_feed c ≡ false → is_feed d ≡ false → FirstLine (d ∷ ds) (suc n) → FirstLine (c ∷ d ∷ ds) (suc (suc n))
first_later c d ds n e f k = feed_later c (d ∷ ds) (suc n) e f (return_later c d (take n ds)) k

feed_tail : (c : ℕ) (cs : List ℕ) → is_feed c ≡ false → (position_or_len is_feed cs < length cs)
    → FirstLine cs (position_or_len is_feed cs) → FirstLine (c ∷ cs) (suc (position_or_len is_feed cs))
feed_tail c [] e h k = absurd (omega arith)
feed_tail c (d ∷ ds) e h k = by_feed (is_feed d) refl k
  where
    by_feed : (b : Bool) → is_feed d ≡ b → FirstLine (d ∷ ds) (position_or_len is_feed (d ∷ ds)) → FirstLine (c ∷ d ∷ ds) (suc (position_or_len is_feed (d ∷ ds)))
    by_feed true f k = subst (λ n. FirstLine (c ∷ d ∷ ds) (suc n)) (sym (place_here is_feed d ds f)) (feed_next c d ds e f)
    by_feed false f k =
        let next = place_later is_feed d ds f in
        subst (λ n. FirstLine (c ∷ d ∷ ds) (suc n)) (sym next) (first_later c d ds (position_or_len is_feed ds) e f (subst (λ n. FirstLine (d ∷ ds) n) next k))

line_to_feed : (cs : List ℕ) → position_or_len is_feed cs < length cs → FirstLine cs (position_or_len is_feed cs)
line_to_feed [] h = absurd (omega arith)
line_to_feed (c ∷ cs) h = by_feed (is_feed c) refl (line_to_feed cs)
  where
    by_feed : (b : Bool) → is_feed c ≡ b → (position_or_len is_feed cs < length cs → FirstLine cs (position_or_len is_feed cs)) → FirstLine (c ∷ cs) (position_or_len is_feed (c ∷ cs))
    by_feed true e k = feed_here c cs e
    by_feed false e k =
        let next = place_later is_feed c cs e in
        let before : position_or_len is_feed cs < length cs = omega (arith, next, h) in
        subst (λ n. FirstLine (c ∷ cs) n) (sym next) (feed_tail c cs e before (k before))

no_feed : (c : ℕ) (cs : List ℕ) → is_feed c ≡ false → begins_with_feed cs ≡ false → lines_of cs ≡ cs ∷ [] → lines_of (c ∷ cs) ≡ (c ∷ cs) ∷ []
no_feed c cs e f k = rw (e, and_right (c == 13) (begins_with_feed cs) f, k) refl

line_to_end : (c : ℕ) (cs : List ℕ) → length (c ∷ cs) ≤ position_or_len is_feed (c ∷ cs) → lines_of (c ∷ cs) ≡ (c ∷ cs) ∷ []
line_to_end c [] h = by_feed (is_feed c) refl
  where
    by_feed : (b : Bool) → is_feed c ≡ b → lines_of (c ∷ []) ≡ (c ∷ []) ∷ []
    by_feed true e = absurd (omega (arith, h, place_here is_feed c [] e))
    by_feed false e = rw (e, and_right (c == 13) false refl) refl
line_to_end c (d ∷ ds) h = by_feed (is_feed c) refl (is_feed d) refl (line_to_end d ds)
  where
    by_feed : (b : Bool) → is_feed c ≡ b → (g : Bool) → is_feed d ≡ g → (length (d ∷ ds) ≤ position_or_len is_feed (d ∷ ds) → lines_of (d ∷ ds) ≡ (d ∷ ds) ∷ []) → lines_of (c ∷ d ∷ ds) ≡ (c ∷ d ∷ ds) ∷ []
    by_feed true e g f k = absurd (omega (arith, h, place_here is_feed c (d ∷ ds) e))
    by_feed false e true f k = absurd (omega (arith, h, place_later is_feed c (d ∷ ds) e, place_here is_feed d ds f))
    by_feed false e false f k = no_feed c (d ∷ ds) e f (k (omega (arith, h, place_later is_feed c (d ∷ ds) e)))

blanks_passed : (cs : List ℕ) → words_of cs ≡ words_of (drop (position_or_len (λ c. not (is_blank c)) cs) cs)
blanks_passed [] = refl
blanks_passed (c ∷ cs) = by_blank (is_blank c) refl (blanks_passed cs)
  where
    by_blank : (b : Bool) → is_blank c ≡ b → words_of cs ≡ words_of (drop (position_or_len (λ c. not (is_blank c)) cs) cs)
        → words_of (c ∷ cs) ≡ words_of (drop (position_or_len (λ c. not (is_blank c)) (c ∷ cs)) (c ∷ cs))
    by_blank true e k = rw e (rw (one_suc (position_or_len (λ c. not (is_blank c)) cs)) k)
    by_blank false e k = simp e

abbrev FirstWord : List ℕ → ℕ → Type 0
FirstWord cs n = words_of cs ≡ take n cs ∷ words_of (drop n cs)

word_later : (c : ℕ) (cs : List ℕ) (n : ℕ) → is_blank c ≡ false → begins_with_word cs ≡ true → FirstWord cs n → FirstWord (c ∷ cs) (suc n)
word_later c cs n e f k = rw (e, f, k) refl

word_next : (c d : ℕ) (ds : List ℕ) → is_blank c ≡ false → is_blank d ≡ true → FirstWord (c ∷ d ∷ ds) 1
word_next c d ds e f = simp (e, f)

word_to_blank : (c : ℕ) (cs : List ℕ) → is_blank c ≡ false → FirstWord (c ∷ cs) (position_or_len is_blank (c ∷ cs))
word_to_blank c [] e = rw e refl
word_to_blank c (d ∷ ds) e = subst (λ n. FirstWord (c ∷ d ∷ ds) n) (sym (place_later is_blank c (d ∷ ds) e)) (by_blank (is_blank d) refl (word_to_blank d ds))
  where
    by_blank : (b : Bool) → is_blank d ≡ b → (is_blank d ≡ false → FirstWord (d ∷ ds) (position_or_len is_blank (d ∷ ds)))
        → FirstWord (c ∷ d ∷ ds) (suc (position_or_len is_blank (d ∷ ds)))
    by_blank true f k = subst (λ n. FirstWord (c ∷ d ∷ ds) (suc n)) (sym (place_here is_blank d ds f)) (word_next c d ds e f)
    by_blank false f k = word_later c (d ∷ ds) (position_or_len is_blank (d ∷ ds)) e (ap (λ b. cond b false true) f) (k f)

-- what `position` says
place_is : (p : ℕ → Bool) (cs : List ℕ) (n : ℕ) → position p cs ≡ Some n → (position_or_len p cs ≡ n) × (n < length cs)
place_is p cs n e = by_length (ltb (position_or_len p cs) (length cs)) refl e
  where
    by_length : (b : Bool) → ltb (position_or_len p cs) (length cs) ≡ b → cond b (Some (position_or_len p cs)) None ≡ Some n → (position_or_len p cs ≡ n) × (n < length cs)
    by_length true f e = let same : position_or_len p cs ≡ n = cc in (same, subst (λ i. i < length cs) same (ltb-true (position_or_len p cs) (length cs) f))
    by_length false f e = absurd (none_some e)
      where
        none_some : None ≡ Some n → ⊥
        none_some e = cc

no_place : (p : ℕ → Bool) (cs : List ℕ) → position p cs ≡ None → length cs ≤ position_or_len p cs
no_place p cs e = by_length (ltb (position_or_len p cs) (length cs)) refl e
  where
    by_length : (b : Bool) → ltb (position_or_len p cs) (length cs) ≡ b → cond b (Some (position_or_len p cs)) None ≡ None → length cs ≤ position_or_len p cs
    by_length true f e = cc
    by_length false f e = ltb-false (position_or_len p cs) (length cs) f

pub first_line : (text : List ℕ) (n : ℕ) → position is_feed text ≡ Some n → FirstLine text n
first_line text n e =
    let place = place_is is_feed text n e in
    subst (λ i. FirstLine text i) place.0 (line_to_feed text (subst (λ i. i < length text) (sym place.0) place.1))

pub only_line : (text : List ℕ) → (length text ≡ 0 → ⊥) → position is_feed text ≡ None → lines_of text ≡ text ∷ []
only_line [] h e = absurd (h refl)
only_line (c ∷ cs) h e = line_to_end c cs (no_place is_feed (c ∷ cs) e)

pub no_word : (line : List ℕ) → position (λ c. not (is_blank c)) line ≡ None → words_of line ≡ []
no_word line e = blanks_passed line ∙ ap words_of (drop_all (position_or_len (λ c. not (is_blank c)) line) line (no_place (λ c. not (is_blank c)) line e))

-- the words from the first that is no blank on
words_on : (line : List ℕ) (i : ℕ) → position (λ c. not (is_blank c)) line ≡ Some i → words_of line ≡ words_of (drop i line)
words_on line i e = blanks_passed line ∙ ap (λ n. words_of (drop n line)) (place_is (λ c. not (is_blank c)) line i e).0

word_there : (line : List ℕ) (i : ℕ) → position (λ c. not (is_blank c)) line ≡ Some i → FirstWord (drop i line) (position_or_len is_blank (drop i line))
word_there line i e =
    let place = place_is (λ c. not (is_blank c)) line i e in
    let passes : not (is_blank (get_or line i 0)) ≡ true = (position-Some (λ c. not (is_blank c)) line i 0 e).1 in
    subst (λ cs. FirstWord cs (position_or_len is_blank cs)) (sym (drop_more line i 0 place.1))
    (word_to_blank (get_or line i 0) (drop (i + 1) line) (not-true (is_blank (get_or line i 0)) passes))

pub first_word : (line : List ℕ) (i n : ℕ) → position (λ c. not (is_blank c)) line ≡ Some i → position is_blank (drop i line) ≡ Some n
    → words_of line ≡ take n (drop i line) ∷ words_of (drop n (drop i line))
first_word line i n e f = words_on line i e ∙ subst (λ k. FirstWord (drop i line) k) (place_is is_blank (drop i line) n f).0 (word_there line i e)

pub last_word : (line : List ℕ) (i : ℕ) → position (λ c. not (is_blank c)) line ≡ Some i → position is_blank (drop i line) ≡ None
    → words_of line ≡ drop i line ∷ []
last_word line i e f =
    let over = no_place is_blank (drop i line) f in
    words_on line i e ∙ (word_there line i e
    ∙ (ap (λ word. word ∷ words_of (drop (position_or_len is_blank (drop i line)) (drop i line))) (take_all (position_or_len is_blank (drop i line)) (drop i line) over)
    ∙ ap (λ rest. drop i line ∷ words_of rest) (drop_all (position_or_len is_blank (drop i line)) (drop i line) over)))
