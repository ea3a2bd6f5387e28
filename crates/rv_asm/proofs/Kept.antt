-- What the passes over a text keep.
use Rattle.std.proofs.Common.{◌≡◌, ◌≤◌, ◌<◌, ◌+◌, refl, ap, sym, subst, ◌∙◌, append_assoc, append-nil, arith, ℕ, Bool, true, false, List, [], ◌∷◌, ◌++◌, length}
use Rattle.std.specs.Prelude.{Option, Some, None, Result, Ok, Err, if◌then◌else◌, not}
use Rattle.asm_text.specs.declared.faults.Fault.{Fault}
use Rattle.asm_text.specs.Action.{Line, line_of, kind_of}
use Rattle.text_lines.specs.Lines.{lines_of}
use Rattle.rv_asm.specs.Assembly.{Bad, Set, bytes_then, ends_within, line_action, lower, first_place, image_of_text, is_set, last_place, lines_bytes, line_bytes, place_behind, set_by, sets_of}
use Rattle.rv_asm.specs.Found.{first_twice, or_later, refused_at, Adds, IsTwice, Refuses}
use Rattle.rv_asm.specs.declared.refused.Refused.{Refused}

-- what stands already, with what the lines behind it give
abbrev pub behind_all : List ℕ → Result (List ℕ) Bad → Result (List ℕ) Bad
behind_all done (Err bad) = Err bad
behind_all done (Ok more) = Ok (done ++ more)

-- THE FIRST PASS

pub record IsSet (text rest : List ℕ) (place number : ℕ) (twice : Option ℕ) (before : List Set) : Type 0 where
  pub sets : sets_of first_place (lines_of text) ≡ before ++ sets_of place (lines_of rest)
  pub again : first_twice [] first_place 1 (lines_of text) ≡ or_later twice (first_twice before place (number + 1) (lines_of rest))
  pub within : place ≤ last_place
  pub few : number + length rest ≤ length text

pub set_first : (text : List ℕ) → IsSet text text first_place 0 None []
set_first text = record { sets = refl; again = refl; within = omega arith; few = omega arith }

-- one line more, whose label was set before or not
pub set_next : (text rest behind bytes : List ℕ) (place number next : ℕ) (twice later : Option ℕ) (before : List Set) → IsSet text rest place number twice before → lines_of rest ≡ bytes ∷ lines_of behind → length behind < length rest
    → next ≡ place_behind place (line_of bytes) → next ≤ last_place → later ≡ or_later twice (if is_set before (line_of bytes).label then Some (number + 1) else None)
    → IsSet text behind next (number + 1) later (before ++ set_by place (line_of bytes).label)
set_next text rest behind bytes place number next twice later before i lines shorter at within is = record {
  sets = i.sets ∙ ap (λ ls. before ++ sets_of place ls) lines ∙ sym (append_assoc before (set_by place (line_of bytes).label) _) ∙ ap (λ n. (before ++ set_by place (line_of bytes).label) ++ sets_of n (lines_of behind)) (sym at);
  again = i.again ∙ ap (λ ls. or_later twice (first_twice before place (number + 1) ls)) lines ∙ by_twice twice (is_set before (line_of bytes).label) refl
      ∙ ap (λ n. or_later (or_later twice (if is_set before (line_of bytes).label then Some (number + 1) else None)) (first_twice (before ++ set_by place (line_of bytes).label) n (number + 1 + 1) (lines_of behind))) (sym at)
      ∙ ap (λ t. or_later t (first_twice (before ++ set_by place (line_of bytes).label) next (number + 1 + 1) (lines_of behind))) (sym is);
  within = within;
  few = omega (arith, i.few, shorter);
}
  where
    by_twice : (t : Option ℕ) (b : Bool) → is_set before (line_of bytes).label ≡ b
        → or_later t (first_twice before place (number + 1) (bytes ∷ lines_of behind)) ≡ or_later (or_later t (if is_set before (line_of bytes).label then Some (number + 1) else None)) (first_twice (before ++ set_by place (line_of bytes).label) (place_behind place (line_of bytes)) (number + 1 + 1) (lines_of behind))
    by_twice (Some n) b e = refl
    by_twice None true e = rw e refl
    by_twice None false e = rw e refl

-- the first pass at its end
pub set_last : (text rest : List ℕ) (place number : ℕ) (twice : Option ℕ) (before : List Set) → IsSet text rest place number twice before → lines_of rest ≡ [] → (sets_of first_place (lines_of text) ≡ before) × (twice ≡ first_twice [] first_place 1 (lines_of text))
set_last text rest place number twice before i none = (i.sets ∙ ap (λ ls. before ++ sets_of place ls) none ∙ append-nil before, sym (i.again ∙ ap (λ ls. or_later twice (first_twice before place (number + 1) ls)) none ∙ by_twice twice))
  where
    by_twice : (t : Option ℕ) → or_later t None ≡ t
    by_twice None = refl
    by_twice (Some n) = refl

-- THE SECOND PASS

-- a line that sets a label again comes at its number or later
twice_later : (before : List Set) (place number n : ℕ) (lines : List (List ℕ)) → first_twice before place number lines ≡ Some n → number ≤ n
twice_later before place number n [] e = cc
twice_later before place number n (bytes ∷ lines) e = by_set (is_set before (line_of bytes).label) refl (twice_later (before ++ set_by place (line_of bytes).label) (place_behind place (line_of bytes)) (number + 1) n lines) e
  where
    by_set : (b : Bool) → is_set before (line_of bytes).label ≡ b → (first_twice (before ++ set_by place (line_of bytes).label) (place_behind place (line_of bytes)) (number + 1) lines ≡ Some n → number + 1 ≤ n)
        → (if b then Some number else first_twice (before ++ set_by place (line_of bytes).label) (place_behind place (line_of bytes)) (number + 1) lines) ≡ Some n → number ≤ n
    by_set true f k e = let same : number ≡ n = cc in omega (arith, same)
    by_set false f k e = let h : number + 1 ≤ n = k e in omega (arith, h)

pub record IsMade (text rest : List ℕ) (place number : ℕ) (twice : Option ℕ) (before : List Set) (done : List ℕ) : Type 0 where
  pub bytes : image_of_text text ≡ behind_all done (lines_bytes before (sets_of first_place (lines_of text)) place (number + 1) (lines_of rest))
  pub again : twice ≡ first_twice before place (number + 1) (lines_of rest)
  pub within : place ≤ last_place
  pub few : number + length rest ≤ length text

pub made_first : (text : List ℕ) (twice : Option ℕ) → twice ≡ first_twice [] first_place 1 (lines_of text) → IsMade text text first_place 0 twice [] []
unfolding image_of_text
made_first text twice again = record { bytes = by_lines (lines_bytes [] (sets_of first_place (lines_of text)) first_place 1 (lines_of text)); again = again; within = omega arith; few = omega arith }
  where
    by_lines : (r : Result (List ℕ) Bad) → r ≡ behind_all [] r
    by_lines (Ok more) = refl
    by_lines (Err bad) = refl

-- the line is the first that sets a label again exactly where the first pass found it
pub is_twice : (before : List Set) (place number : ℕ) (twice : Option ℕ) (bytes : List ℕ) (lines : List (List ℕ)) → twice ≡ first_twice before place number (bytes ∷ lines) → IsTwice twice number (is_set before (line_of bytes).label)
is_twice before place number twice bytes lines e = by_set (is_set before (line_of bytes).label) refl
  where
    later : Option ℕ
    later = first_twice (before ++ set_by place (line_of bytes).label) (place_behind place (line_of bytes)) (number + 1) lines

    by_set : (b : Bool) → is_set before (line_of bytes).label ≡ b → IsTwice twice number b
    by_set true f = e ∙ by_true
      where
        by_true : first_twice before place number (bytes ∷ lines) ≡ Some number
        by_true = rw f refl
    by_set false f = λ t. let m : number + 1 ≤ number = twice_later (before ++ set_by place (line_of bytes).label) (place_behind place (line_of bytes)) (number + 1) number lines (sym by_false ∙ sym e ∙ t) in omega (arith, m)
      where
        by_false : first_twice before place number (bytes ∷ lines) ≡ later
        by_false = rw f refl

-- the same of a line that the code read
pub set_on : (text rest behind bytes : List ℕ) (place number next : ℕ) (twice later : Option ℕ) (before : List Set) (line : Line) (again : Bool) → line ≡ line_of bytes → IsSet text rest place number twice before → lines_of rest ≡ bytes ∷ lines_of behind → length behind < length rest
    → next ≡ place_behind place line → next ≤ last_place → again ≡ is_set before line.label → later ≡ or_later twice (if again then Some (number + 1) else None)
    → IsSet text behind next (number + 1) later (before ++ set_by place line.label)
set_on text rest behind bytes place number next twice later before line again e i lines shorter at within set is =
    subst (λ (l : Line). next ≡ place_behind place l → later ≡ or_later twice (if is_set before l.label then Some (number + 1) else None) → IsSet text behind next (number + 1) later (before ++ set_by place l.label)) (sym e)
    (λ at' is'. set_next text rest behind bytes place number next twice later before i lines shorter at' within is') at (is ∙ ap (λ (b : Bool). or_later twice (if b then Some (number + 1) else None)) set)

pub same_twice : (twice : Option ℕ) (number : ℕ) (a b : Bool) → IsTwice twice number a → IsTwice twice number b → a ≡ b
same_twice twice number true true x y = refl
same_twice twice number false false x y = refl
same_twice twice number true false x y = absurd (y x)
same_twice twice number false true x y = absurd (x y)

-- a line that gives bytes sets no label again
ok_not_set : (before sets : List Set) (place : ℕ) (line : Line) (bytes : List ℕ) → line_bytes before sets place line ≡ Ok bytes → is_set before line.label ≡ false
ok_not_set before sets place line bytes e = by_set (is_set before line.label) (not (ends_within place line)) (line_action sets place line.action) e
  where
    by_set : (b out : Bool) (found : Result (List ℕ) Fault) → lower out Fault.OutOfPlace (lower b Fault.LabelTwice found) ≡ Ok bytes → b ≡ false
    by_set false out found f = refl
    by_set true true (Ok bs) f = cc
    by_set true true (Err other) f = cc
    by_set true false (Ok bs) f = cc
    by_set true false (Err other) f = cc

behind_more : (done bytes : List ℕ) (number : ℕ) (more : Result (List ℕ) Bad) → behind_all done (bytes_then number (Ok bytes) more) ≡ behind_all (done ++ bytes) more
behind_more done bytes number (Ok more) = ap Ok (sym (append_assoc done bytes more))
behind_more done bytes number (Err bad) = refl

-- what the rest gives, by its first line
first_line : (text rest behind bytes : List ℕ) (place number : ℕ) (twice : Option ℕ) (before : List Set) (done : List ℕ) (line : Line) → line ≡ line_of bytes → IsMade text rest place number twice before done → lines_of rest ≡ bytes ∷ lines_of behind
    → image_of_text text ≡ behind_all done (bytes_then (number + 1) (line_bytes before (sets_of first_place (lines_of text)) place line)
    (lines_bytes (before ++ set_by place line.label) (sets_of first_place (lines_of text)) (place_behind place line) (number + 1 + 1) (lines_of behind)))
first_line text rest behind bytes place number twice before done line e i lines =
    subst (λ (l : Line). image_of_text text ≡ behind_all done (bytes_then (number + 1) (line_bytes before (sets_of first_place (lines_of text)) place l)
    (lines_bytes (before ++ set_by place l.label) (sets_of first_place (lines_of text)) (place_behind place l) (number + 1 + 1) (lines_of behind)))) (sym e)
    (i.bytes ∙ ap (λ ls. behind_all done (lines_bytes before (sets_of first_place (lines_of text)) place (number + 1) ls)) lines)

pub is_again : (text rest behind bytes : List ℕ) (place number : ℕ) (twice : Option ℕ) (before : List Set) (done : List ℕ) (line : Line) (again : Bool) → line ≡ line_of bytes → IsMade text rest place number twice before done → lines_of rest ≡ bytes ∷ lines_of behind
    → IsTwice twice (number + 1) again → again ≡ is_set before line.label
is_again text rest behind bytes place number twice before done line again e i lines t =
    subst (λ (l : Line). again ≡ is_set before l.label) (sym e) (same_twice twice (number + 1) again (is_set before (line_of bytes).label) t
    (is_twice before place (number + 1) twice bytes (lines_of behind) (i.again ∙ ap (λ ls. first_twice before place (number + 1) ls) lines)))

-- one line more that gives bytes
pub made_on : (text rest behind bytes : List ℕ) (place number next : ℕ) (twice : Option ℕ) (before : List Set) (done now : List ℕ) (line : Line) → line ≡ line_of bytes → IsMade text rest place number twice before done → lines_of rest ≡ bytes ∷ lines_of behind → length behind < length rest
    → next ≡ place_behind place line → next ≤ last_place → ((added : List ℕ) × (line_bytes before (sets_of first_place (lines_of text)) place line ≡ Ok added) × (now ≡ done ++ added)) → IsMade text behind next (number + 1) twice (before ++ set_by place line.label) now
made_on text rest behind bytes place number next twice before done now line e i lines shorter at within (added, ok, is) = record {
  bytes = first_line text rest behind bytes place number twice before done line e i lines
      ∙ ap (λ r. behind_all done (bytes_then (number + 1) r (rest_from (place_behind place line)))) ok ∙ behind_more done added (number + 1) (rest_from (place_behind place line))
      ∙ ap (λ d. behind_all d (rest_from (place_behind place line))) (sym is) ∙ ap (λ p. behind_all now (rest_from p)) (sym at);
  again = i.again ∙ ap (λ ls. first_twice before place (number + 1) ls) lines ∙ subst (λ (l : Line). is_set before l.label ≡ false → first_twice before place (number + 1) (bytes ∷ lines_of behind) ≡ first_twice (before ++ set_by place l.label) (place_behind place l) (number + 1 + 1) (lines_of behind)) (sym e)
      (λ f. rw f refl) (ok_not_set before (sets_of first_place (lines_of text)) place line added ok)
      ∙ ap (λ p. first_twice (before ++ set_by place line.label) p (number + 1 + 1) (lines_of behind)) (sym at);
  within = within;
  few = omega (arith, i.few, shorter);
}
  where
    rest_from : ℕ → Result (List ℕ) Bad
    rest_from p = lines_bytes (before ++ set_by place line.label) (sets_of first_place (lines_of text)) p (number + 1 + 1) (lines_of behind)

-- a line with a fault
pub made_faulty : (text rest behind bytes : List ℕ) (place number : ℕ) (twice : Option ℕ) (before : List Set) (done : List ℕ) (line : Line) (fault : Fault) → line ≡ line_of bytes → IsMade text rest place number twice before done → lines_of rest ≡ bytes ∷ lines_of behind
    → line_bytes before (sets_of first_place (lines_of text)) place line ≡ Err fault → image_of_text text ≡ Err (record { line = number + 1; kind = kind_of fault })
made_faulty text rest behind bytes place number twice before done line fault e i lines bad = first_line text rest behind bytes place number twice before done line e i lines
    ∙ ap (λ r. behind_all done (bytes_then (number + 1) r (lines_bytes (before ++ set_by place line.label) (sets_of first_place (lines_of text)) (place_behind place line) (number + 1 + 1) (lines_of behind)))) bad

pub made_last : (text rest : List ℕ) (place number : ℕ) (twice : Option ℕ) (before : List Set) (done : List ℕ) → IsMade text rest place number twice before done → lines_of rest ≡ [] → image_of_text text ≡ Ok done
made_last text rest place number twice before done i none = i.bytes ∙ ap (λ ls. behind_all done (lines_bytes before (sets_of first_place (lines_of text)) place (number + 1) ls)) none ∙ ap Ok (append-nil done)

pub made_refused : (text rest behind bytes : List ℕ) (place number : ℕ) (twice : Option ℕ) (before : List Set) (done now : List ℕ) (line : Line) (refused : Refused) → line ≡ line_of bytes → IsMade text rest place number twice before done → lines_of rest ≡ bytes ∷ lines_of behind
    → Adds (line_bytes before (sets_of first_place (lines_of text)) place line) done now (Err refused) → Refuses (image_of_text text) (refused_at (number + 1) refused)
made_refused text rest behind bytes place number twice before done now line (Refused.Faulty fault) e i lines bad = made_faulty text rest behind bytes place number twice before done line fault e i lines bad
made_refused text rest behind bytes place number twice before done now line Refused.NoMemory e i lines bad = tt
