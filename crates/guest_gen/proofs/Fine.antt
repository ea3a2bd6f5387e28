-- Lines without a fault, some behind others.
use Rattle.std.proofs.Common.{◌≡◌, refl, ap, sym, subst, ◌∙◌, ℕ, suc, ◌+◌, ◌≤◌, Bool, true, false, List, [], ◌∷◌, ◌++◌, length, arith}
use Rattle.std.specs.Prelude.{None, Result, Ok, Err, nat_le}
use Rattle.std.proofs.lemmas.List.{append-nil, append_assoc}
use Rattle.asm_text.specs.declared.faults.Fault.{Fault}
use Rattle.asm_text.specs.Action.{Action, Line, line_of}
use Rattle.rv_asm.specs.Assembly.{Set, Bad, action_bytes, room_of, last_place, line_bytes, lines_bytes, bytes_then, set_by, sets_of, place_behind}

abbrev pub is_fine : Result (List ℕ) Bad → Bool
is_fine (Ok bytes) = true
is_fine (Err bad) = false

-- the place behind some lines
abbrev pub place_after : ℕ → List (List ℕ) → ℕ
place_after place [] = place
place_after place (line ∷ lines) = place_after (place_behind place (line_of line)) lines

both_fine : (count : ℕ) (found : Result (List ℕ) Fault) (later other : Result (List ℕ) Bad) → is_fine (bytes_then count found later) ≡ true
    → (is_fine later ≡ true → is_fine other ≡ true) → is_fine (bytes_then count found other) ≡ true
both_fine count (Err fault) later other e on = e
both_fine count (Ok bytes) (Err bad) other e on = cc
both_fine count (Ok bytes) (Ok more) (Ok others) e on = refl
both_fine count (Ok bytes) (Ok more) (Err bad) e on = on refl

pub fine_behind : (before sets : List Set) (place count : ℕ) (xs ys : List (List ℕ)) → is_fine (lines_bytes before sets place count xs) ≡ true
    → is_fine (lines_bytes (before ++ sets_of place xs) sets (place_after place xs) (count + length xs) ys) ≡ true → is_fine (lines_bytes before sets place count (xs ++ ys)) ≡ true
fine_behind before sets place count [] ys e f =
    let same : count + 0 ≡ count = omega arith in
    subst (λ n. is_fine (lines_bytes before sets place n ys) ≡ true) same (subst (λ b. is_fine (lines_bytes b sets place (count + 0) ys) ≡ true) (append-nil before) f)
fine_behind before sets place count (x ∷ xs) ys e f =
    let l = line_of x in
    let same : count + suc (length xs) ≡ count + 1 + length xs = omega arith in
    let here : is_fine (lines_bytes (before ++ set_by place l.label ++ sets_of (place_behind place l) xs) sets (place_after (place_behind place l) xs) (count + 1 + length xs) ys) ≡ true
    = subst (λ b. is_fine (lines_bytes b sets (place_after (place_behind place l) xs) (count + 1 + length xs) ys) ≡ true) (sym (append_assoc before (set_by place l.label) (sets_of (place_behind place l) xs)))
    (subst (λ n. is_fine (lines_bytes (before ++ sets_of place (x ∷ xs)) sets (place_after (place_behind place l) xs) n ys) ≡ true) same f) in
    both_fine count (line_bytes before sets place l) (lines_bytes (before ++ set_by place l.label) sets (place_behind place l) (count + 1) xs)
    (lines_bytes (before ++ set_by place l.label) sets (place_behind place l) (count + 1) (xs ++ ys)) e
    (λ g. fine_behind (before ++ set_by place l.label) sets (place_behind place l) (count + 1) xs ys g here)

pub sets_behind : (place : ℕ) (xs ys : List (List ℕ)) → sets_of place (xs ++ ys) ≡ sets_of place xs ++ sets_of (place_after place xs) ys
sets_behind place [] ys = refl
sets_behind place (x ∷ xs) ys =
    let l = line_of x in
    ap (λ s. set_by place l.label ++ s) (sets_behind (place_behind place l) xs ys) ∙ sym (append_assoc (set_by place l.label) (sets_of (place_behind place l) xs) (sets_of (place_after (place_behind place l) xs) ys))

pub place_behind_both : (place : ℕ) (xs ys : List (List ℕ)) → place_after place (xs ++ ys) ≡ place_after (place_after place xs) ys
place_behind_both place [] ys = refl
place_behind_both place (x ∷ xs) ys = place_behind_both (place_behind place (line_of x)) xs ys

-- a line without a label
abbrev pub unlabelled : Action → Line
unlabelled action = record { label = None; action = Ok action }

-- what such a line does at a place
pub record Does (sets : List Set) (place : ℕ) (line : List ℕ) (room : ℕ) : Type 0 where
  pub action : Action
  pub bytes : List ℕ
  pub says : line_of line ≡ unlabelled action
  pub gives : action_bytes sets place action ≡ Ok bytes
  pub takes : room_of place (Ok action) ≡ room
  pub within : place + room ≤ last_place

place_made : (place room : ℕ) (action : Action) → room_of place (Ok action) ≡ room → place + room ≤ last_place → place_behind place (unlabelled action) ≡ place + room
place_made place room action takes within = let ends : nat_le (place + room) last_place ≡ true = grind (arith, within) in rw (takes, ends) refl

pub place_then : (sets : List Set) (place : ℕ) (line : List ℕ) (room : ℕ) → Does sets place line room → place_behind place (line_of line) ≡ place + room
place_then sets place line room d = subst (λ l. place_behind place l ≡ place + room) (sym d.says) (place_made place room d.action d.takes d.within)

fine_made : (before sets : List Set) (place count room : ℕ) (action : Action) (bytes : List ℕ) (lines : List (List ℕ)) → action_bytes sets place action ≡ Ok bytes → room_of place (Ok action) ≡ room → place + room ≤ last_place
    → is_fine (lines_bytes before sets (place + room) (count + 1) lines) ≡ true
    → is_fine (bytes_then count (line_bytes before sets place (unlabelled action)) (lines_bytes (before ++ []) sets (place_behind place (unlabelled action)) (count + 1) lines)) ≡ true
fine_made before sets place count room action bytes lines gives takes within rest =
    let ends : nat_le (place + room) last_place ≡ true = grind (arith, within) in
    rw (takes, ends, gives, append-nil before) (go (lines_bytes before sets (place + room) (count + 1) lines) rest)
  where
    go : (later : Result (List ℕ) Bad) → is_fine later ≡ true → is_fine (bytes_then count (Ok bytes) later) ≡ true
    go (Ok more) e = refl
    go (Err bad) e = cc

pub fine_then : (before sets : List Set) (place count : ℕ) (line : List ℕ) (room : ℕ) (lines : List (List ℕ)) → Does sets place line room
    → is_fine (lines_bytes before sets (place + room) (count + 1) lines) ≡ true → is_fine (lines_bytes before sets place count (line ∷ lines)) ≡ true
fine_then before sets place count line room lines d rest =
    subst (λ l. is_fine (bytes_then count (line_bytes before sets place l) (lines_bytes (before ++ set_by place l.label) sets (place_behind place l) (count + 1) lines)) ≡ true) (sym d.says)
    (fine_made before sets place count room d.action d.bytes lines d.gives d.takes d.within rest)

pub sets_then : (sets : List Set) (place : ℕ) (line : List ℕ) (room : ℕ) (lines : List (List ℕ)) → Does sets place line room → sets_of place (line ∷ lines) ≡ sets_of (place + room) lines
sets_then sets place line room lines d =
    subst (λ l. set_by place l.label ++ sets_of (place_behind place l) lines ≡ sets_of (place + room) lines) (sym d.says)
    (ap (λ p. sets_of p lines) (place_made place room d.action d.takes d.within))
