-- A log and its placed steps say the same.
use Rattle.std.proofs.Common.{◌≡◌, ◌⊎◌, ℕ, Bool, true, false, List, [], ◌∷◌, Option, Some, None, refl, sym, ap, ◌∙◌, inl, inr, drop}
use Rattle.std.specs.Prelude.{◌==◌, ◌&&◌, ◌||◌, if◌then◌else◌, is_some, IsTrue}
use Rattle.std.specs.List.{list_any}
use Rattle.rv64_priv.specs.Flush.{Flush, Full, Pages}
use Rattle.step_laws.specs.declared.steps.Step.{Step}
use Rattle.step_laws.specs.declared.steps.WordOp.{WordOp}
use Rattle.step_laws.specs.declared.steps.WordOp.TheVariants.{Store}
use Rattle.step_laws.specs.Map.{Word, Hsm, name_of}
use Rattle.step_laws.specs.Harts.{taking}
use Rattle.machine_model.specs.Event.{Event, did_of, entry_stored}
use Rattle.machine_model.specs.Run.{flushes, fetches, says_all_stopped}
use Rattle.run_laws.proofs.Placed.{Placed, steps, Stood, has_entry}
use Rattle.walk_laws.specs.WalkLoads.{Found}
use Rattle.run_laws.proofs.Kept.{held_at, has_bytes, drawn, stored_bytes, handed_word, flushed_waiting}
use Rattle.turn_pieces.specs.Folds.{known_word_next, are_some, drawn_next, stored_next, handed_on_next, is_waiting, flushed_all_next}
use Rattle.run_laws.proofs.Fits.{Posted, Answered, AskedFor}
use Rattle.turn_pieces.specs.Folds.{IsUncount}
use Rattle.run_laws.proofs.Pieces.{Said}
use Rattle.turn_pieces.specs.Log.{made, did, Log, steps_of, before, AtLast, HasStood}
use Rattle.run_laws.proofs.Placed.{with_event, placed_of}
use Rattle.turn_pieces.specs.Kept.{known_word, ends_call, places, bytes, handed_on, still_waiting_next, is_still_waiting, has_flushed_all}
use Rattle.turn_pieces.specs.Requests.{HasPosted, HasAnswered, HasAsked}

-- steps
with_steps : (e : Event) (r : List Placed) → steps (with_event e r) ≡ steps r
with_steps e [] = refl
with_steps e (t ∷ r) = refl

pub same_steps : (l : Log) → steps (placed_of l) ≡ steps_of l
same_steps [] = refl
same_steps (made s ∷ l) = ap (λ r. s ∷ r) (same_steps l)
same_steps (did e ∷ l) = with_steps e (placed_of l) ∙ same_steps l

-- what was before the last step
with_drop : (e : Event) (r : List Placed) → drop 1 (with_event e r) ≡ drop 1 r
with_drop e [] = refl
with_drop e (t ∷ r) = refl

pub same_before : (l : Log) → placed_of (before l) ≡ drop 1 (placed_of l)
same_before [] = refl
same_before (made s ∷ l) = refl
same_before (did e ∷ l) = same_before l ∙ sym (with_drop e (placed_of l))

-- the last step
abbrev pub AtTop : (Step → Type 0) → List Placed → Type 0
AtTop P [] = ⊥
AtTop P (t ∷ r) = P t.step

with_top : (P : Step → Type 0) (e : Event) (r : List Placed) → AtTop P (with_event e r) ≡ AtTop P r
with_top P e [] = refl
with_top P e (t ∷ r) = refl

pub same_top : (P : Step → Type 0) (l : Log) → AtTop P (placed_of l) ≡ AtLast P l
same_top P [] = refl
same_top P (made s ∷ l) = refl
same_top P (did e ∷ l) = with_top P e (placed_of l) ∙ same_top P l

-- loads that stand
stood_with : (stop : Event → Bool) (xs : List Found) (e : Event) (r : List Placed) → stop e ≡ false → Stood stop xs r → Stood stop xs (with_event e r)
stood_with stop [] e r n k = tt
stood_with stop (x ∷ xs) e [] n k = absurd k
stood_with stop (x ∷ xs) e (t ∷ r) n k = ((n, k.0), k.1)

pub same_stood : (stop : Event → Bool) (xs : List Found) (l : Log) → HasStood stop xs l → Stood stop xs (placed_of l)
same_stood stop [] l k = tt
same_stood stop (x ∷ xs) [] k = absurd k
same_stood stop (x ∷ xs) (made s ∷ l) (inl k) = (tt, inl (k.0, same_stood stop xs l k.1))
same_stood stop (x ∷ xs) (made s ∷ l) (inr k) = (tt, inr (same_stood stop (x ∷ xs) l k))
same_stood stop (x ∷ xs) (did e ∷ l) k = stood_with stop (x ∷ xs) e (placed_of l) k.0 (same_stood stop (x ∷ xs) l k.1)

-- tests
either_test : {A : Type 0} (x y : Bool) (k d : A) → (if x || y then k else d) ≡ (if x then k else if y then k else d)
either_test true y k d = refl
either_test false y k d = refl

none_test : {A : Type 0} (x : Bool) (k : A) → k ≡ (if x then k else k)
none_test true k = refl
none_test false k = refl

or_assoc : (x y z : Bool) → (x || (y || z)) ≡ ((x || y) || z)
or_assoc true y z = refl
or_assoc false y z = refl

-- what was loaded in section
with_held : (at : ℕ) (e : Event) (r : List Placed) → held_at at (with_event e r) ≡ (if is_some (entry_stored e) then None else held_at at r)
with_held at e [] = none_test (is_some (entry_stored e)) None
with_held at e (t ∷ r) = either_test (is_some (entry_stored e)) (has_entry t.events) None (known_word_next at (name_of t.step.word) t.step.op t.step.word t.step.answer (held_at at r))

pub same_held : (at : ℕ) (l : Log) → held_at at (placed_of l) ≡ known_word at l
same_held at [] = refl
same_held at (made s ∷ l) = ap (known_word_next at (name_of s.word) s.op s.word s.answer) (same_held at l)
same_held at (did e ∷ l) = with_held at e (placed_of l) ∙ ap (λ k. if is_some (entry_stored e) then None else k) (same_held at l)

-- places and bytes
call_test : {A : Type 0} (x y z : Bool) (k d : A) → (if x || (y || z) then k else d) ≡ (if x || y then k else if z then k else d)
call_test true y z k d = refl
call_test false true z k d = refl
call_test false false z k d = refl

with_drawn : (e : Event) (r : List Placed) → drawn (with_event e r) ≡ (if ends_call e then [] else drawn r)
with_drawn e [] = none_test (ends_call e) []
with_drawn e (t ∷ r) = call_test (is_some (did_of e).reason) (are_some (did_of e).bytes) (has_bytes t.events) [] (drawn_next (name_of t.step.word) t.step.op t.step.answer (drawn r))

pub same_drawn : (l : Log) → drawn (placed_of l) ≡ places l
same_drawn [] = refl
same_drawn (made s ∷ l) = ap (drawn_next (name_of s.word) s.op s.answer) (same_drawn l)
same_drawn (did e ∷ l) = with_drawn e (placed_of l) ∙ ap (λ k. if ends_call e then [] else k) (same_drawn l)

with_bytes : (e : Event) (r : List Placed) → stored_bytes (with_event e r) ≡ (if ends_call e then [] else stored_bytes r)
with_bytes e [] = none_test (ends_call e) []
with_bytes e (t ∷ r) = call_test (is_some (did_of e).reason) (are_some (did_of e).bytes) (has_bytes t.events) []
    (stored_next (name_of t.step.word) t.step.op t.step.arg (drawn r) (stored_bytes r))

pub same_bytes : (l : Log) → stored_bytes (placed_of l) ≡ bytes l
same_bytes [] = refl
same_bytes (made s ∷ l) = λ i. stored_next (name_of s.word) s.op s.arg (same_drawn l i) (same_bytes l i)
same_bytes (did e ∷ l) = with_bytes e (placed_of l) ∙ ap (λ k. if ends_call e then [] else k) (same_bytes l)

-- what a start hands on
with_handed : (a : ℕ) (w : Word) (e : Event) (r : List Placed) → handed_word a w (with_event e r) ≡ handed_word a w r
with_handed a w e [] = refl
with_handed a w e (t ∷ r) = refl

pub same_handed : (a : ℕ) (w : Word) (l : Log) → handed_word a w (placed_of l) ≡ handed_on a w l
same_handed a w [] = refl
same_handed a w (made s ∷ l) = ap (handed_on_next a w (name_of s.word) s.op s.answer) (same_handed a w l)
same_handed a w (did e ∷ l) = with_handed a w e (placed_of l) ∙ same_handed a w l

-- flushes of a hart that waits
abbrev waits_top : ℕ → List Placed → Bool
waits_top a [] = false
waits_top a (t ∷ r) = still_waiting_next a (name_of t.step.word) t.step.op (is_waiting (taking a (steps r)))

with_waits : (a : ℕ) (e : Event) (r : List Placed) → waits_top a (with_event e r) ≡ waits_top a r
with_waits a e [] = refl
with_waits a e (t ∷ r) = refl

same_waits : (a : ℕ) (l : Log) → waits_top a (placed_of l) ≡ is_still_waiting a l
same_waits a [] = refl
same_waits a (made s ∷ l) = ap (λ r. still_waiting_next a (name_of s.word) s.op (is_waiting (taking a r))) (same_steps l)
same_waits a (did e ∷ l) = with_waits a e (placed_of l) ∙ same_waits a l

flush_bools : (b w f m : Bool) → (b || (w && (f || m))) ≡ ((b || (w && m)) || (w && f))
flush_bools true w f m = refl
flush_bools false false f m = refl
flush_bools false true true true = refl
flush_bools false true true false = refl
flush_bools false true false true = refl
flush_bools false true false false = refl

flush_own : (own b w f m : Bool) → (if own then false else (b || (w && (f || m)))) ≡ ((if own then false else (b || (w && m))) || ((if own then false else w) && f))
flush_own true b w f m = refl
flush_own false b w f m = flush_bools b w f m

flush_step : (a : ℕ) (w : Word) (op : WordOp) (wait f m b : Bool)
    → flushed_all_next a w op (wait && (f || m)) b ≡ (flushed_all_next a w op (wait && m) b || (still_waiting_next a w op wait && f))
flush_step a (Hsm t) Store wait f m b = flush_own (a == t) b wait f m
flush_step a w op wait f m b = flush_bools b wait f m

with_flushed : (a : ℕ) (e : Event) (r : List Placed) → flushed_waiting a (with_event e r) ≡ (flushed_waiting a r || (waits_top a r && flushes a Full e))
with_flushed a e [] = refl
with_flushed a e (t ∷ r) = flush_step a (name_of t.step.word) t.step.op (is_waiting (taking a (steps r))) (flushes a Full e) (list_any (flushes a Full) t.events) (flushed_waiting a r)

and_no : (x : Bool) → (x && false) ≡ false
and_no true = refl
and_no false = refl

pub same_flushed : (a : ℕ) (l : Log) → flushed_waiting a (placed_of l) ≡ has_flushed_all a l
same_flushed a [] = refl
same_flushed a (made s ∷ l) = λ i. flushed_all_next a (name_of s.word) s.op (and_no (is_waiting (taking a (steps (placed_of l)))) i) (same_flushed a l i)
same_flushed a (did e ∷ l) = with_flushed a e (placed_of l) ∙ (λ i. same_flushed a l i || (same_waits a l i && flushes a Full e))

-- requests
posted_with : (a t k : ℕ) (page : Option ℕ) (e : Event) (r : List Placed) → fetches a e ≡ false → Posted a t k page r → Posted a t k page (with_event e r)
posted_with a t k page e [] n x = x
posted_with a t k page e (y ∷ r) n x = ((n, x.0), x.1)

pub same_posted : (a t k : ℕ) (page : Option ℕ) (l : Log) → HasPosted a t k page l → Posted a t k page (placed_of l)
same_posted a t k page [] x = x
same_posted a t k page (made s ∷ l) (inl x) = (tt, inl x)
same_posted a t k page (made s ∷ l) (inr x) = (tt, inr (same_posted a t k page l x))
same_posted a t k page (did e ∷ l) x = posted_with a t k page e (placed_of l) x.0 (same_posted a t k page l x.1)

answered_with : (a t k : ℕ) (page : Option ℕ) (e : Event) (r : List Placed) → fetches a e ≡ false → Answered a t k page r → Answered a t k page (with_event e r)
answered_with a t k page e [] n x = x
answered_with a t k page e (y ∷ r) n x = ((n, x.0), x.1)

pub same_answered : (a t k : ℕ) (page : Option ℕ) (l : Log) → HasAnswered a t k page l → Answered a t k page (placed_of l)
same_answered a t k page [] x = x
same_answered a t k page (made s ∷ l) (inl x) = (tt, inl (x.0, x.1, x.2, same_posted a t k page l x.3))
same_answered a t k page (made s ∷ l) (inr x) = (tt, inr (same_answered a t k page l x))
same_answered a t k page (did e ∷ l) x = answered_with a t k page e (placed_of l) x.0 (same_answered a t k page l x.1)

pub same_asked : (a t : ℕ) (f : Flush) (l : Log) → HasAsked a t f l → AskedFor a t f (placed_of l)
same_asked a t Full l x = (x.0, same_answered a t x.0 None l x.1)
same_asked a t (Pages page count) l x = λ q le lt. ((x q le lt).0, same_answered a t (x q le lt).0 (Some q) l (x q le lt).1)

-- what was said
said_or : (b c : Bool) (A : Type 0) → IsTrue b ⊎ (IsTrue c ⊎ A) → IsTrue (b || c) ⊎ A
said_or true c A (inl x) = inl refl
said_or true c A (inr x) = inl refl
said_or false c A (inl x) = absurd (cc (x))
said_or false c A (inr x) = x

pub said_with : (e : Event) (r : List Placed) → IsTrue (says_all_stopped e) ⊎ Said r → (r ≡ [] → ⊥) → Said (with_event e r)
said_with e [] x ne = absurd (ne refl)
said_with e (t ∷ r) x ne = said_or (says_all_stopped e) (list_any says_all_stopped t.events) ((IsUncount (name_of t.step.word) t.step.op t.step.arg → ⊥) × Said r) x
