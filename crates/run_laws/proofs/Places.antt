-- The console places hold the output's bytes, but for one that its actor is about to store.
use Rattle.std.proofs.Common.{◌≡◌, ◌≢◌, ◌⊎◌, ℕ, zero, suc, ◌<◌, ◌≤◌, ◌+◌, ◌-◌, ◌^◌, Bool, true, false, List, [], ◌∷◌, ◌++◌, Option, Some, None, refl, sym, ap, subst, ◌∙◌, inl, inr, arith, eq-eqb, length}
use Rattle.std.specs.Prelude.{◌||◌, if◌then◌else◌, is_some}
use Rattle.std.proofs.lemmas.Bool.{cases_eq, cases_lt}
use Rattle.step_laws.specs.declared.steps.Step.{Step}
use Rattle.step_laws.specs.declared.steps.WordOp.{WordOp}
use Rattle.step_laws.specs.declared.steps.WordOp.TheVariants.{Load, Store, Add}
use Rattle.step_laws.specs.Map.{Word, Cons, Stop, Console, name_of, number_of, IsWord}
use Rattle.step_laws.specs.Words.{loader}
use Rattle.step_laws.specs.Steps.{value_at, new_of, answer_of}
use Rattle.step_laws.specs.Histories.{IsHistory}
use Rattle.run_laws.proofs.Used.{IsGuarded}
use Rattle.run_laws.proofs.Stepping.{woven}
use Rattle.step_laws.proofs.Named.{name_number, number_name, word_name}
use Rattle.machine_model.specs.declared.reason.Reason.{Reason}
use Rattle.machine_model.specs.Event.{Event, did_of}
use Rattle.machine_model.specs.State.{Setup}
use Rattle.machine_model.specs.Change.{printed}
use Rattle.step_laws.specs.Words.{console_places}
use Rattle.machine_model.specs.Run.{state_of}
use Rattle.run_laws.proofs.Placed.{Placed, run_of, mine}
use Rattle.turn_pieces.specs.Folds.{are_some, stored_next, Unstored, unstored_next}
use Rattle.run_laws.proofs.Kept.{has_bytes, drawn, stored_bytes, unstored, bytes_of}
use Rattle.turn_pieces.specs.Shared.{IsShared}
use Rattle.run_laws.proofs.Accounts.{AreQuiet, Accounts, calm, writes, writes_half, writes_rest, draws, fills, draws_none, draws_more, fills_more, fills_last, ends, takes, gives_start, gives_opaque, lets, begins_here, leaves_here}
use Rattle.turn_pieces.specs.Doing.{AreFollowing, IsCalm, IsCutShort, first_drawn}
use Rattle.turn_pieces.proofs.Following.{first_there, newest_at}
use Rattle.run_laws.proofs.Pieces.{Told, IsIdleStep}
use Rattle.run_laws.proofs.Beginning.{IsBegun, history}
use Rattle.run_laws.specs.Ended.{byte_at as byte}
use Rattle.run_laws.proofs.Weave.{by_mine, mine_here, mine_other}
use Rattle.run_laws.proofs.States.{output_quiet}
use Rattle.run_laws.proofs.Shared.{Still, value_still, value_other}
use Rattle.run_laws.proofs.Agree.{history_tail}
use Rattle.run_laws.proofs.Output.{NoBytes, Out, shut, open_by, out, cons, out_of, follow_of, quiet_bytes, no_bytes, drawn_same, drawn_more, drawn_none, bytes_same, no_first, some_same, cons_answer, lone}
use Rattle.run_laws.proofs.Filling.{cons_few}

-- texts
byte_low : (xs ys : List ℕ) (i b : ℕ) → byte xs i ≡ Some b → byte (xs ++ ys) i ≡ Some b
byte_low [] ys i b e = absurd (cc (e))
byte_low (x ∷ xs) ys zero b e = e
byte_low (x ∷ xs) ys (suc i) b e = byte_low xs ys i b e

byte_split : (xs ys : List ℕ) (i b : ℕ) → byte (xs ++ ys) i ≡ Some b → (byte xs i ≡ Some b) ⊎ ((j : ℕ) × (i ≡ length xs + j) × (byte ys j ≡ Some b))
byte_split [] ys i b e = inr (i, omega arith, e)
byte_split (x ∷ xs) ys zero b e = inl e
byte_split (x ∷ xs) ys (suc i) b e = elim (byte_split xs ys i b e) [ inl k ↦ inl k | inr k ↦ inr (k.0, (let z = k.1 in omega (arith, z)), k.2) ]

byte_lt : (xs : List ℕ) (i b : ℕ) → byte xs i ≡ Some b → i < length xs
byte_lt [] i b e = absurd (cc (e))
byte_lt (x ∷ xs) zero b e = omega arith
byte_lt (x ∷ xs) (suc i) b e = let k = byte_lt xs i b e in omega (arith, k)

byte_end : (xs : List ℕ) (x : ℕ) → byte (xs ++ x ∷ []) (length xs) ≡ Some x
byte_end [] x = refl
byte_end (y ∷ xs) x = byte_end xs x

byte_one : (x j b : ℕ) → byte (x ∷ []) j ≡ Some b → (j ≡ 0) × (b ≡ x)
byte_one x zero b e = (refl, cc (e))
byte_one x (suc j) b e = absurd (cc (e))

some_inj : (x y : ℕ) (o : Option ℕ) → o ≡ Some x → o ≡ Some y → x ≡ y
some_inj x y o e f = cc (e, f)

printed_low : (xs ys : List ℕ) (i b : ℕ) → byte xs i ≡ Some b → byte (printed xs ys) i ≡ Some b
printed_low xs [] i b e = e
printed_low xs (y ∷ ys) i b e = byte_low xs (y ∷ ys) i b e

printed_split : (xs ys : List ℕ) (i b : ℕ) → byte (printed xs ys) i ≡ Some b → (byte xs i ≡ Some b) ⊎ ((j : ℕ) × (i ≡ length xs + j) × (byte ys j ≡ Some b))
printed_split xs [] i b e = inl e
printed_split xs (y ∷ ys) i b e = byte_split xs (y ∷ ys) i b e

-- the ways of a step with regard to places
abbrev IsPlace : Word → Type 0
IsPlace (Console i) = Unit {0}
IsPlace _ = ⊥

pub data Stores (r : List Placed) (w : Word) (op : WordOp) (arg answer : ℕ) : List Event → Type 0 where
  idle : {es : List Event} → (IsPlace w → Still op answer) → (w ≡ Cons → Still op answer) → NoBytes es → Stores r w op arg answer es
  draw_one : {e : Event} {es : List Event} (b : ℕ) → w ≡ Cons → op ≡ Add → drawn r ≡ [] → answer < console_places → unstored r ≡ None → (did_of e).reason ≡ None → (did_of e).bytes ≡ b ∷ []
      → AreQuiet es → Stores r w op arg answer (e ∷ es)
  draw_more : {es : List Event} → w ≡ Cons → op ≡ Add → AreQuiet es → Stores r w op arg answer es
  fill_own : {es : List Event} (i b : ℕ) → w ≡ Console i → op ≡ Store → unstored r ≡ Some (record { place = i; byte = b }) → arg ≡ b + 256 → drawn r ≡ [] → AreQuiet es → Stores r w op arg answer es
  fill_more : {es : List Event} (i : ℕ) (ds : List ℕ) → w ≡ Console i → op ≡ Store → drawn r ≡ i ∷ ds → 256 ≤ arg → suc (length (stored_bytes r)) ≡ length (drawn r) → unstored r ≡ None → AreQuiet es
      → Stores r w op arg answer es
  fill_last : {e : Event} {es : List Event} (i : ℕ) (ds : List ℕ) → w ≡ Console i → op ≡ Store → drawn r ≡ i ∷ ds → 256 ≤ arg → suc (length (stored_bytes r)) ≡ length (drawn r) → unstored r ≡ None
      → (did_of e).reason ≡ None → (did_of e).bytes ≡ stored_bytes r ++ (arg - 256) ∷ [] → AreQuiet es → Stores r w op arg answer (e ∷ es)
  full : {e : Event} {es : List Event} (reason : Reason) → w ≡ Stop → (did_of e).reason ≡ Some reason → (did_of e).bytes ≡ stored_bytes r → (AreFollowing (drawn r) → IsCutShort (drawn r) (stored_bytes r)) → AreQuiet es
      → Stores r w op arg answer (e ∷ es)

calm_place : (w : Word) (op : WordOp) (answer : ℕ) → IsCalm w op answer → IsPlace w → Still op answer
calm_place (Console i) Load answer c s = tt
calm_place (Console i) op answer c s = absurd c
calm_place w op answer c s = absurd s

calm_draw : (w : Word) (op : WordOp) (answer : ℕ) → IsCalm w op answer → w ≡ Cons → Still op answer
calm_draw Cons Load answer c e = tt
calm_draw Cons op answer c e = absurd c
calm_draw w op answer c e = absurd (cc (e))

shared_place : (w : Word) → IsShared w → IsPlace w → ⊥
shared_place (Console i) s k = s
shared_place w s k = k

shared_draw : (w : Word) → IsShared w → w ≡ Cons → ⊥
shared_draw w s e = subst IsShared e s

stores_of : {u : Setup} {a : ℕ} {r : List Placed} {n : ℕ} {w : Word} {op : WordOp} {arg answer : ℕ} {es : List Event} → Accounts u a r n w op arg answer es → Stores r w op arg answer es
stores_of {w = w} {op = op} {answer = answer} {es = es} (calm h c k q) = idle (λ s. calm_place w op answer c s) (λ e. calm_draw w op answer c e) (quiet_bytes es q)
stores_of {w = w} (writes {es = es} h s o d b q) = idle (λ k. absurd (shared_place w s k)) (λ e. absurd (shared_draw w s e)) (d.reason_is, d.bytes_are, quiet_bytes es q)
stores_of (writes_half h k) = idle (λ s. absurd s) (λ e. absurd (cc (e))) tt
stores_of (writes_rest {es = es} m v h ne d b q) = idle (λ s. absurd s) (λ e. absurd (cc (e))) (d.reason_is, d.bytes_are, quiet_bytes es q)
stores_of (draws byte h p lt uu d b q) = draw_one byte refl refl p lt uu d.reason_is d.bytes_are q
stores_of (fills {i = i} byte h k g dd q) = fill_own i byte refl refl k g dd q
stores_of (draws_none h le q) = draw_more refl refl q
stores_of (draws_more h k q) = draw_more refl refl q
stores_of (fills_more {i = i} {ds = ds} h k p le zz uu q) = fill_more i ds refl refl p le zz uu q
stores_of (fills_last {i = i} {ds = ds} h k p le uu f z d b q) = fill_last i ds refl refl p le z uu d.reason_is d.bytes_are q
stores_of {r = r} (ends {reason = reason} bytes h d g f b q) = full reason refl d.reason_is (d.bytes_are ∙ g) (λ y. subst (IsCutShort (drawn r)) g (f y)) q
stores_of (takes {es = es} at opaque h d b q) = idle (λ s. absurd s) (λ e. absurd (cc (e))) (d.reason_is, d.bytes_are, quiet_bytes es q)
stores_of (gives_start {es = es} opaque h g q) = idle (λ s. absurd s) (λ e. absurd (cc (e))) (quiet_bytes es q)
stores_of (gives_opaque {es = es} at h g q) = idle (λ s. absurd s) (λ e. absurd (cc (e))) (quiet_bytes es q)
stores_of (lets {es = es} h q) = idle (λ s. absurd s) (λ e. absurd (cc (e))) (quiet_bytes es q)
stores_of (begins_here {es = es} h q) = idle (λ s. absurd s) (λ e. absurd (cc (e))) (refl, refl, quiet_bytes es q)
stores_of (leaves_here {es = es} h d b q) = idle (λ s. absurd s) (λ e. absurd (cc (e))) (d.reason_is, d.bytes_are, quiet_bytes es q)

-- the folds behind a step
no_bytes_of : (es : List Event) → NoBytes es → bytes_of es ≡ []
no_bytes_of [] q = refl
no_bytes_of (e ∷ es) q = λ i. no_bytes_of es q.2 i ++ q.1 i

unstored_still : (w : Word) (op : WordOp) (answer : ℕ) (k : Option Unstored) → (IsPlace w → Still op answer) → unstored_next w op answer [] k ≡ k
unstored_still (Console i) Store answer k f = absurd (f tt)
unstored_still Cons Add answer k f = refl
unstored_still w op answer k f = refl

stored_still : (w : Word) (op : WordOp) (arg answer d : ℕ) (ds bs : List ℕ) → (IsPlace w → Still op answer) → stored_next w op arg (d ∷ ds) bs ≡ bs
stored_still (Console i) Store arg answer d ds bs f = absurd (f tt)
stored_still w op arg answer d ds bs f = refl

abbrev pub text_of : Setup → List Placed → List ℕ
text_of u ts = (state_of u (run_of ts)).output

abbrev pub place : List Step → List Placed → ℕ → ℕ
place boot ts i = value_at (number_of (Console i)) (history boot ts)

abbrev pub owes : (i b : ℕ) → Option Unstored
owes i b = Some (record { place = i; byte = b })

pub record Placing (u : Setup) (boot : List Step) (ts : List Placed) : Type 0 where
  pub text : (i b : ℕ) → byte (text_of u ts) i ≡ Some b → (place boot ts i ≡ b + 256) ⊎ ((a : ℕ) × (unstored (mine a ts) ≡ owes i b))
  pub owed : (a i b : ℕ) → unstored (mine a ts) ≡ owes i b → byte (text_of u ts) i ≡ Some b
  pub kept : (a f : ℕ) → first_drawn (drawn (mine a ts)) ≡ Some f → f < console_places → (j b : ℕ) → byte (stored_bytes (mine a ts)) j ≡ Some b
      → (f + j < console_places) × (place boot ts (f + j) ≡ b + 256)

some_first : (ds : List ℕ) (f : ℕ) → first_drawn ds ≡ Some f → (d : ℕ) × (rest : List ℕ) × (ds ≡ d ∷ rest)
some_first [] f e = absurd (cc (e))
some_first (d ∷ ds) f e = (d, ds, refl)

place_of : Unstored → ℕ
place_of k = k.place

-- what is owed, compared
owed_same : (i b j c : ℕ) (o : Option Unstored) → o ≡ owes i b → o ≡ owes j c → (i ≡ j) × (b ≡ c)
owed_same i b j c o e f = (ap at_of (sym e ∙ f), ap byte_of (sym e ∙ f))
  where
    at_of : Option Unstored → ℕ
    at_of None = 0
    at_of (Some k) = k.place

    byte_of : Option Unstored → ℕ
    byte_of None = 0
    byte_of (Some k) = k.byte

module _ (u : Setup) (boot : List Step) (runs : ℕ → Bool) (begun : IsBegun u boot) where
  module _ (t : Placed) (ts : List Placed) (h : IsHistory u.layout runs (history boot (t ∷ ts))) (d : Told u (t ∷ ts)) (ok : Placing u boot ts) (o : Out u boot ts) (follow : AreFollowing (drawn (mine t.step.actor ts))) where
    abbrev c : ℕ
    c = t.step.actor

    abbrev r : List Placed
    r = mine t.step.actor ts

    an : t.step.answer ≡ answer_of t.step.op (value_at t.step.word (history boot ts))
    an = (woven u.layout runs (history boot (t ∷ ts)) h).0.answered

    out_fits : out u ts ≤ console_places
    out_fits = by o
      where
        by : Out u boot ts → out u ts ≤ console_places
        by (shut fl pend) = elim fl [ inl p ↦ let x = p.0 in let y = p.1 in omega (arith, x, y) | inr p ↦ let y = p.1 in omega (arith, y) ]
        by (open_by a i k) = let x = k.output in let y = k.free in omega (arith, x, y)

    within : (i b : ℕ) → byte (text_of u ts) i ≡ Some b → i < console_places
    within i b e = let x = byte_lt (text_of u ts) i b e in let y = out_fits in omega (arith, x, y)

    place_keeps : (i : ℕ) → i < console_places → (name_of t.step.word ≡ Console i → Still t.step.op t.step.answer) → place boot (t ∷ ts) i ≡ place boot ts i
    place_keeps i lt f = elim (cases_eq (number_of (Console i)) t.step.word) [
      | inl e ↦ value_still t.step.actor t.step.word t.step.op t.step.arg t.step.answer (number_of (Console i)) (history boot ts) an (f (ap name_of (sym e) ∙ name_number (Console i) lt))
      | inr away ↦ value_other t.step.actor t.step.word t.step.op t.step.arg t.step.answer (number_of (Console i)) (history boot ts) away
    ]

    place_set : (i : ℕ) → name_of t.step.word ≡ Console i → t.step.op ≡ Store → place boot (t ∷ ts) i ≡ t.step.arg
    place_set i w p = ap (λ (b : Bool). if b then new_of t.step.op (place boot ts i) t.step.arg else place boot ts i) (eq-eqb (number_of (Console i)) t.step.word (ap number_of (sym w) ∙ number_name t.step.word))
        ∙ ap (λ x. new_of x (place boot ts i) t.step.arg) p

    -- the actor's own folds, and the others'
    unstored_mine : unstored (t ∷ r) ≡ unstored r → (a : ℕ) → unstored (mine a (t ∷ ts)) ≡ unstored (mine a ts)
    unstored_mine e a = by_mine (λ x l. unstored l ≡ unstored (mine x ts)) a t ts e (λ away. refl)

    stored_rest : (x : ℕ) (ds : List ℕ) → has_bytes t.events ≡ false → drawn r ≡ x ∷ ds → (IsPlace (name_of t.step.word) → Still t.step.op t.step.answer) → stored_bytes (t ∷ r) ≡ stored_bytes r
    stored_rest x ds q e f = (λ i. if q i then [] else stored_next (name_of t.step.word) t.step.op t.step.arg (e i) (stored_bytes r))
        ∙ stored_still (name_of t.step.word) t.step.op t.step.arg t.step.answer x ds (stored_bytes r) f

    -- a step that stores in no place: the places stay, the text only grows
    no_place : (IsPlace (name_of t.step.word) → Still t.step.op t.step.answer) → (i : ℕ) → i < console_places → place boot (t ∷ ts) i ≡ place boot ts i
    no_place f i lt = place_keeps i lt (λ e. f (subst IsPlace (sym e) tt))

    idle_step : (IsPlace (name_of t.step.word) → Still t.step.op t.step.answer) → (name_of t.step.word ≡ Cons → Still t.step.op t.step.answer) → NoBytes t.events → Placing u boot (t ∷ ts)
    idle_step f g q = record {
      text = λ i b e. let e' = sym (ap (λ l. byte l i) text_is) ∙ e in elim (ok.text i b e') [
        | inl v ↦ inl (no_place f i (within i b e') ∙ v)
        | inr k ↦ inr (k.0, unstored_mine un k.0 ∙ k.1)
      ];
      owed = λ a i b e. ap (λ l. byte l i) text_is ∙ ok.owed a i b (sym (unstored_mine un a) ∙ e);
      kept = λ a k. by_mine (λ x l. first_drawn (drawn l) ≡ Some k → k < console_places → (j b : ℕ) → byte (stored_bytes l) j ≡ Some b → (k + j < console_places) × (place boot (t ∷ ts) (k + j) ≡ b + 256)) a t ts
          (λ e lt j b z. let e' = sym (ap first_drawn drawn_is) ∙ e in let s = some_first (drawn r) k e' in
          let i = ok.kept c k e' lt j b (sym (ap (λ l. byte l j) (stored_rest s.0 s.1 (no_bytes t.events q) s.2 f)) ∙ z) in (i.0, no_place f (k + j) i.0 ∙ i.1))
          (λ away e lt j b z. let i = ok.kept a k e lt j b z in (i.0, no_place f (k + j) i.0 ∙ i.1));
    }
      where
        text_is : text_of u (t ∷ ts) ≡ text_of u ts
        text_is = bytes_same u t.events (run_of ts) q

        un : unstored (t ∷ r) ≡ unstored r
        un = (λ i. unstored_next (name_of t.step.word) t.step.op t.step.answer (no_bytes_of t.events q i) (unstored r)) ∙ unstored_still (name_of t.step.word) t.step.op t.step.answer (unstored r) f

        drawn_is : drawn (t ∷ r) ≡ drawn r
        drawn_is = drawn_same t.step t.events r q g

    tail : IsHistory u.layout runs (history boot ts)
    tail = history_tail u runs t.step (history boot ts) h

    low_cons : cons boot ts < 2 ^ 63
    low_cons = cons_few u boot runs begun ts tail d.1

    -- the folds of other actors stay
    none_mine : drawn (t ∷ r) ≡ [] → (a k : ℕ) → first_drawn (drawn (mine a (t ∷ ts))) ≡ Some k → (a ≢ c) × (mine a (t ∷ ts) ≡ mine a ts)
    none_mine e a k z = elim (cases_eq a c) [
      | inl f ↦ no_first (drawn (t ∷ r)) k e (sym (ap (λ l. first_drawn (drawn l)) (ap (λ x. mine x (t ∷ ts)) f ∙ mine_here t ts)) ∙ z)
      | inr away ↦ (away, mine_other a t ts away)
    ]

    -- a step behind which its actor has drawn nothing: what is kept is the others'
    kept_others : drawn (t ∷ r) ≡ [] → ((a f : ℕ) → a ≢ c → first_drawn (drawn (mine a ts)) ≡ Some f → f < console_places → (j : ℕ) → f + j < console_places → place boot (t ∷ ts) (f + j) ≡ place boot ts (f + j))
        → (a f : ℕ) → first_drawn (drawn (mine a (t ∷ ts))) ≡ Some f → f < console_places → (j b : ℕ) → byte (stored_bytes (mine a (t ∷ ts))) j ≡ Some b
        → (f + j < console_places) × (place boot (t ∷ ts) (f + j) ≡ b + 256)
    kept_others e s a f k lt j b z = let m = none_mine e a f k in
        let k' = sym (ap (λ l. first_drawn (drawn l)) m.1) ∙ k in
        let i = ok.kept a f k' lt j b (sym (ap (λ l. byte (stored_bytes l) j) m.1) ∙ z) in (i.0, s a f m.0 k' lt j i.0 ∙ i.1)

    -- who has drawn a place that there is, is the one actor in section
    only : (a f : ℕ) → first_drawn (drawn (mine a ts)) ≡ Some f → f < console_places → (out u ts ≡ f) × (cons boot ts ≡ f + length (drawn (mine a ts))) × ((b j : ℕ) → b ≢ a → first_drawn (drawn (mine b ts)) ≡ Some j → ⊥)
    only a f k lt = by o
      where
        by : Out u boot ts → (out u ts ≡ f) × (cons boot ts ≡ f + length (drawn (mine a ts))) × ((b j : ℕ) → b ≢ a → first_drawn (drawn (mine b ts)) ≡ Some j → ⊥)
        by (shut fl pend) = let x = (pend a f k).0 in absurd (omega (arith, x, lt))
        by (open_by b i l) = elim (cases_eq b a) [
          | inl e ↦ (let same = some_same i f (first_drawn (drawn (mine a ts))) (sym (ap (λ x. first_drawn (drawn (mine x ts))) e) ∙ l.first) k in
              (l.output ∙ same, l.drew ∙ (λ j. same j + length (drawn (mine (e j) ts))), λ b' j away z. l.alone b' j (λ v. away (v ∙ e)) z))
          | inr away ↦ absurd (l.alone a f (λ z. away (sym z)) k)
        ]

    text_more : (e : Event) (es : List Event) (bs : List ℕ) → t.events ≡ e ∷ es → (did_of e).bytes ≡ bs → AreQuiet es → text_of u (t ∷ ts) ≡ printed (text_of u ts) bs
    text_more e es bs is b q = ap (λ l. (state_of u (l ++ run_of ts)).output) is ∙ (λ i. printed (output_quiet u es (run_of ts) q i) (b i))

    module _ (ne : c ≢ loader) where
      -- a byte is drawn with its event
      one_step : (e : Event) (es : List Event) (b : ℕ) → t.events ≡ e ∷ es → name_of t.step.word ≡ Cons → t.step.op ≡ Add → drawn r ≡ [] → t.step.answer < console_places → unstored r ≡ None → (did_of e).reason ≡ None
          → (did_of e).bytes ≡ b ∷ [] → AreQuiet es → Placing u boot (t ∷ ts)
      one_step e es b is w p none lt un n bs q = record {
        text = λ i b' z. elim (printed_split (text_of u ts) (b ∷ []) i b' (sym (ap (λ l. byte l i) more) ∙ z)) [
          | inl k ↦ elim (ok.text i b' k) [
            | inl v ↦ inl (stays i (within i b' k) ∙ v)
            | inr v ↦ inr (v.0, by_mine (λ x l. unstored (mine x ts) ≡ owes i b' → unstored l ≡ owes i b') v.0 t ts (λ y. absurd (cc (sym un ∙ y))) (λ away y. y) v.1)
          ]
          | inr k ↦ (let one = byte_one b k.0 b' k.2 in let at : t.step.answer ≡ i = (let x = k.1 in let y = one.0 in let v = is_out in omega (arith, x, y, v)) in
              inr (c, ap unstored (mine_here t ts) ∙ (now_owes ∙ (ap (λ x. owes x b) at ∙ ap (owes i) (sym one.1)))))
        ];
        owed = λ a i b'. by_mine (λ x l. unstored l ≡ owes i b' → byte (text_of u (t ∷ ts)) i ≡ Some b') a t ts
            (λ y. let s = owed_same t.step.answer b i b' (unstored (t ∷ r)) now_owes y in
            ap (λ l. byte l i) more ∙ (ap (byte (text_of u ts ++ b ∷ [])) (sym s.0 ∙ is_out) ∙ (byte_end (text_of u ts) b ∙ ap Some s.1)))
            (λ away y. ap (λ l. byte l i) more ∙ printed_low (text_of u ts) (b ∷ []) i b' (ok.owed a i b' y));
        kept = kept_others gone (λ a f away k l j m. stays (f + j) m);
      }
        where
          more : text_of u (t ∷ ts) ≡ printed (text_of u ts) (b ∷ [])
          more = text_more e es (b ∷ []) is bs q

          here : has_bytes t.events ≡ true
          here = ap has_bytes is ∙ (λ i. is_some (n i) || (are_some (bs i) || has_bytes es))

          gone : drawn (t ∷ r) ≡ []
          gone = drawn_none t r here

          stays : (i : ℕ) → i < console_places → place boot (t ∷ ts) i ≡ place boot ts i
          stays i l = place_keeps i l (λ z. absurd (cc (sym w ∙ z)))

          bytes_are : bytes_of t.events ≡ b ∷ []
          bytes_are = ap bytes_of is ∙ ((λ i. no_bytes_of es (quiet_bytes es q) i ++ (did_of e).bytes) ∙ bs)

          now_owes : unstored (t ∷ r) ≡ owes t.step.answer b
          now_owes = λ i. unstored_next (w i) (p i) t.step.answer (bytes_are i) (unstored r)

          is_out : t.step.answer ≡ length (text_of u ts)
          is_out = by o
            where
              by : Out u boot ts → t.step.answer ≡ length (text_of u ts)
              by (shut fl pend) = let x = cons_answer u boot runs begun t ts h low_cons w (λ z. cc (p, z)) in elim fl [
                | inl y ↦ let y1 = y.1 in omega (arith, x, y1)
                | inr y ↦ let y0 = y.0 in absurd (omega (arith, x, y0, lt))
              ]
              by (open_by a i k) = elim (cases_eq a c) [
                | inl f ↦ no_first (drawn r) i none (sym (ap (λ x. first_drawn (drawn (mine x ts))) f) ∙ k.first)
                | inr away ↦ absurd (lone u boot runs begun t ts h low_cons ne (subst IsGuarded (sym w) tt) a i k away)
              ]

      -- a place is drawn whose event comes later
      more_step : name_of t.step.word ≡ Cons → t.step.op ≡ Add → AreQuiet t.events → Placing u boot (t ∷ ts)
      more_step w p q = record {
        text = λ i b e. let e' = sym (ap (λ l. byte l i) text_is) ∙ e in elim (ok.text i b e') [ inl v ↦ inl (stays i (within i b e') ∙ v) | inr k ↦ inr (k.0, unstored_mine un k.0 ∙ k.1) ];
        owed = λ a i b e. ap (λ l. byte l i) text_is ∙ ok.owed a i b (sym (unstored_mine un a) ∙ e);
        kept = λ a k. by_mine (λ x l. first_drawn (drawn l) ≡ Some k → k < console_places → (j b : ℕ) → byte (stored_bytes l) j ≡ Some b → (k + j < console_places) × (place boot (t ∷ ts) (k + j) ≡ b + 256)) a t ts
            (λ e lt j b z. mine_kept (drawn r) refl k (sym (ap first_drawn drawn_is) ∙ e) lt j b z)
            (λ away e lt j b z. let i = ok.kept a k e lt j b z in (i.0, stays (k + j) i.0 ∙ i.1));
      }
        where
          text_is : text_of u (t ∷ ts) ≡ text_of u ts
          text_is = bytes_same u t.events (run_of ts) (quiet_bytes t.events q)

          stays : (i : ℕ) → i < console_places → place boot (t ∷ ts) i ≡ place boot ts i
          stays i l = place_keeps i l (λ z. absurd (cc (sym w ∙ z)))

          un : unstored (t ∷ r) ≡ unstored r
          un = λ i. unstored_next (w i) (p i) t.step.answer (no_bytes_of t.events (quiet_bytes t.events q) i) (unstored r)

          drawn_is : drawn (t ∷ r) ≡ t.step.answer ∷ drawn r
          drawn_is = drawn_more t.step t.events r (quiet_bytes t.events q) w p

          stored_is : (x : ℕ) (ds : List ℕ) → drawn r ≡ x ∷ ds → stored_bytes (t ∷ r) ≡ stored_bytes r
          stored_is x ds e = stored_rest x ds (no_bytes t.events (quiet_bytes t.events q)) e (λ s. absurd (subst IsPlace w s))

          stored_none : drawn r ≡ [] → stored_bytes (t ∷ r) ≡ []
          stored_none e = (λ i. if no_bytes t.events (quiet_bytes t.events q) i then [] else stored_next (name_of t.step.word) t.step.op t.step.arg (e i) (stored_bytes r))

          mine_kept : (ds : List ℕ) → drawn r ≡ ds → (k : ℕ) → first_drawn (t.step.answer ∷ drawn r) ≡ Some k → k < console_places → (j b : ℕ) → byte (stored_bytes (t ∷ r)) j ≡ Some b
              → (k + j < console_places) × (place boot (t ∷ ts) (k + j) ≡ b + 256)
          mine_kept [] e k f lt j b z = absurd (cc (ap (λ l. byte l j) (stored_none e), z))
          mine_kept (x ∷ ds) e k f lt j b z = let i = ok.kept c k (ap first_drawn e ∙ (sym (ap (λ l. first_drawn (t.step.answer ∷ l)) e) ∙ f)) lt j b (sym (ap (λ l. byte l j) (stored_is x ds e)) ∙ z) in (i.0, stays (k + j) i.0 ∙ i.1)

      -- the byte whose event is placed
      own_step : (i b : ℕ) → name_of t.step.word ≡ Console i → t.step.op ≡ Store → unstored r ≡ owes i b → t.step.arg ≡ b + 256 → drawn r ≡ [] → AreQuiet t.events → Placing u boot (t ∷ ts)
      own_step i b w p un ar none q = record {
        text = λ i' b' e. let e' = sym (ap (λ l. byte l i') text_is) ∙ e in elim (cases_eq i' i) [
          | inl same ↦ inl (ap (place boot (t ∷ ts)) same ∙ (place_set i w p ∙ (ar ∙ ap (λ x. x + 256) (some_inj b b' (byte (text_of u ts) i) mine_byte (ap (byte (text_of u ts)) (sym same) ∙ e')))))
          | inr away ↦ elim (ok.text i' b' e') [
            | inl v ↦ inl (stays i' (within i' b' e') away ∙ v)
            | inr v ↦ inr (v.0, by_mine (λ x l. unstored (mine x ts) ≡ owes i' b' → unstored l ≡ owes i' b') v.0 t ts (λ y. absurd (away (sym (owed_same i b i' b' (unstored r) un y).0))) (λ _ y. y) v.1)
          ]
        ];
        owed = λ a i' b'. by_mine (λ x l. unstored l ≡ owes i' b' → byte (text_of u (t ∷ ts)) i' ≡ Some b') a t ts (λ y. absurd (cc (sym now_none ∙ y))) (λ away y. ap (λ l. byte l i') text_is ∙ ok.owed a i' b' y);
        kept = kept_others gone (λ a f away k lt j m. stays (f + j) m (λ z. let x = (only a f k lt).0 in let y = byte_lt (text_of u ts) i b mine_byte in omega (arith, x, y, z)));
      }
        where
          text_is : text_of u (t ∷ ts) ≡ text_of u ts
          text_is = bytes_same u t.events (run_of ts) (quiet_bytes t.events q)

          mine_byte : byte (text_of u ts) i ≡ Some b
          mine_byte = ok.owed c i b un

          stays : (j : ℕ) → j < console_places → j ≢ i → place boot (t ∷ ts) j ≡ place boot ts j
          stays j l away = place_keeps j l (λ z. absurd (away (cc (sym w ∙ z))))

          now_none : unstored (t ∷ r) ≡ None
          now_none = λ j. unstored_next (w j) (p j) t.step.answer (bytes_of t.events) (unstored r)

          gone : drawn (t ∷ r) ≡ []
          gone = drawn_same t.step t.events r (quiet_bytes t.events q) (λ z. absurd (cc (sym w ∙ z))) ∙ none

      -- a byte of a call, in section
      module _ (i : ℕ) (ds : List ℕ) (w : name_of t.step.word ≡ Console i) (p : t.step.op ≡ Store) (dr : drawn r ≡ i ∷ ds) (le : 256 ≤ t.step.arg) (len : suc (length (stored_bytes r)) ≡ length (drawn r)) (un : unstored r ≡ None) where
        small : i < console_places
        small = subst IsWord w (word_name t.step.word)

        first_at : (f : ℕ) × (first_drawn (drawn r) ≡ Some f)
        first_at = let k = first_there i ds in (k.0, ap first_drawn dr ∙ k.1)

        abbrev g : ℕ
        g = first_at.0

        newest_is : i ≡ g + length ds
        newest_is = newest_at i g ds (subst AreFollowing dr follow) (sym (ap first_drawn dr) ∙ first_at.1)

        free : g < console_places
        free = elim (cases_lt g console_places) [ inl lt ↦ lt | inr z ↦ (let x = newest_is in let y = small in absurd (omega (arith, x, y, z))) ]

        at_end : i ≡ g + length (stored_bytes r)
        at_end = let x = newest_is in let y : suc (length (stored_bytes r)) ≡ suc (length ds) = len ∙ ap length dr in omega (arith, x, y)

        is_out : out u ts ≡ g
        is_out = (only c g first_at.1 free).0

        alone : (a j : ℕ) → a ≢ c → first_drawn (drawn (mine a ts)) ≡ Some j → ⊥
        alone = (only c g first_at.1 free).2

        stays : (j : ℕ) → j < console_places → j ≢ i → place boot (t ∷ ts) j ≡ place boot ts j
        stays j l away = place_keeps j l (λ z. absurd (away (cc (sym w ∙ z))))

        below : (j b : ℕ) → byte (text_of u ts) j ≡ Some b → place boot (t ∷ ts) j ≡ place boot ts j
        below j b e = stays j (within j b e) (λ z. let x = byte_lt (text_of u ts) j b e in let y = at_end in let v = is_out in omega (arith, x, y, v, z))

        now_none : unstored (t ∷ r) ≡ unstored r
        now_none = (λ j. unstored_next (w j) (p j) t.step.answer (bytes_of t.events) (unstored r)) ∙ sym un

        here : place boot (t ∷ ts) i ≡ (t.step.arg - 256) + 256
        here = place_set i w p ∙ omega (arith, le)

        -- the bytes of the call so far, with this one
        so_far : (j b : ℕ) → byte (stored_bytes r ++ (t.step.arg - 256) ∷ []) j ≡ Some b → (g + j < console_places) × (place boot (t ∷ ts) (g + j) ≡ b + 256)
        so_far j b e = elim (byte_split (stored_bytes r) ((t.step.arg - 256) ∷ []) j b e) [
          | inl k ↦ (let x = ok.kept c g first_at.1 free j b k in (x.0, stays (g + j) x.0 (λ z. let y = byte_lt (stored_bytes r) j b k in let v = at_end in omega (arith, y, v, z)) ∙ x.1))
          | inr k ↦ (let one = byte_one (t.step.arg - 256) k.0 b k.2 in let at : i ≡ g + j = (let x = k.1 in let y = one.0 in let v = at_end in omega (arith, x, y, v)) in
              (subst (λ y. y < console_places) at small, ap (place boot (t ∷ ts)) (sym at) ∙ (here ∙ ap (λ x. x + 256) (sym one.1))))
        ]

        more_fill : AreQuiet t.events → Placing u boot (t ∷ ts)
        more_fill q = record {
          text = λ j b e. let e' = sym (ap (λ l. byte l j) text_is) ∙ e in elim (ok.text j b e') [ inl v ↦ inl (below j b e' ∙ v) | inr k ↦ inr (k.0, unstored_mine now_none k.0 ∙ k.1) ];
          owed = λ a j b e. ap (λ l. byte l j) text_is ∙ ok.owed a j b (sym (unstored_mine now_none a) ∙ e);
          kept = λ a k. by_mine (λ x l. first_drawn (drawn l) ≡ Some k → k < console_places → (j b : ℕ) → byte (stored_bytes l) j ≡ Some b → (k + j < console_places) × (place boot (t ∷ ts) (k + j) ≡ b + 256)) a t ts
              (λ e lt j b z. subst (λ y. (y + j < console_places) × (place boot (t ∷ ts) (y + j) ≡ b + 256)) (some_same g k (first_drawn (drawn r)) first_at.1 (sym (ap first_drawn drawn_is) ∙ e))
              (so_far j b (sym (ap (λ l. byte l j) stored_is) ∙ z)))
              (λ away e lt j b z. absurd (alone a k away e));
        }
          where
            text_is : text_of u (t ∷ ts) ≡ text_of u ts
            text_is = bytes_same u t.events (run_of ts) (quiet_bytes t.events q)

            drawn_is : drawn (t ∷ r) ≡ drawn r
            drawn_is = drawn_same t.step t.events r (quiet_bytes t.events q) (λ z. absurd (cc (sym w ∙ z)))

            stored_is : stored_bytes (t ∷ r) ≡ stored_bytes r ++ (t.step.arg - 256) ∷ []
            stored_is = (λ j. if no_bytes t.events (quiet_bytes t.events q) j then [] else stored_next (w j) (p j) t.step.arg (dr j) (stored_bytes r))

        last_fill : (e : Event) (es : List Event) → t.events ≡ e ∷ es → (did_of e).reason ≡ None → (did_of e).bytes ≡ stored_bytes r ++ (t.step.arg - 256) ∷ [] → AreQuiet es → Placing u boot (t ∷ ts)
        last_fill e es is n bs q = record {
          text = λ j b z. elim (printed_split (text_of u ts) (stored_bytes r ++ (t.step.arg - 256) ∷ []) j b (sym (ap (λ l. byte l j) more) ∙ z)) [
            | inl k ↦ elim (ok.text j b k) [ inl v ↦ inl (below j b k ∙ v) | inr v ↦ inr (v.0, unstored_mine now_none v.0 ∙ v.1) ]
            | inr k ↦ inl (ap (place boot (t ∷ ts)) (k.1 ∙ ap (λ x. x + k.0) is_out) ∙ (so_far k.0 b k.2).1)
          ];
          owed = λ a j b z. ap (λ l. byte l j) more ∙ printed_low (text_of u ts) (stored_bytes r ++ (t.step.arg - 256) ∷ []) j b (ok.owed a j b (sym (unstored_mine now_none a) ∙ z));
          kept = kept_others gone (λ a k away z lt j m. absurd (alone a k away z));
        }
          where
            more : text_of u (t ∷ ts) ≡ printed (text_of u ts) (stored_bytes r ++ (t.step.arg - 256) ∷ [])
            more = text_more e es (stored_bytes r ++ (t.step.arg - 256) ∷ []) is bs q

            some : (xs : List ℕ) (x : ℕ) → are_some (xs ++ x ∷ []) ≡ true
            some [] x = refl
            some (y ∷ xs) x = refl

            gone : drawn (t ∷ r) ≡ []
            gone = drawn_none t r (ap has_bytes is ∙ ((λ j. is_some (n j) || (are_some (bs j) || has_bytes es)) ∙ ap (λ v. v || has_bytes es) (some (stored_bytes r) (t.step.arg - 256))))

      -- a reason, with the bytes for which there was room
      full_step : (e : Event) (es : List Event) (reason : Reason) → t.events ≡ e ∷ es → name_of t.step.word ≡ Stop → (did_of e).reason ≡ Some reason → (did_of e).bytes ≡ stored_bytes r → IsCutShort (drawn r) (stored_bytes r)
          → AreQuiet es → Placing u boot (t ∷ ts)
      full_step e es reason is w n bs fit q = record {
        text = λ j b z. elim (printed_split (text_of u ts) (stored_bytes r) j b (sym (ap (λ l. byte l j) more) ∙ z)) [
          | inl k ↦ elim (ok.text j b k) [ inl v ↦ inl (stays j (within j b k) ∙ v) | inr v ↦ inr (v.0, unstored_mine un v.0 ∙ v.1) ]
          | inr k ↦ inl (new_byte (drawn r) refl j k.0 b k.1 k.2)
        ];
        owed = λ a j b z. ap (λ l. byte l j) more ∙ printed_low (text_of u ts) (stored_bytes r) j b (ok.owed a j b (sym (unstored_mine un a) ∙ z));
        kept = kept_others gone (λ a k away z lt j m. stays (k + j) m);
      }
        where
          more : text_of u (t ∷ ts) ≡ printed (text_of u ts) (stored_bytes r)
          more = text_more e es (stored_bytes r) is bs q

          stays : (i : ℕ) → i < console_places → place boot (t ∷ ts) i ≡ place boot ts i
          stays i l = place_keeps i l (λ z. absurd (cc (sym w ∙ z)))

          un : unstored (t ∷ r) ≡ unstored r
          un = λ i. unstored_next (w i) t.step.op t.step.answer (bytes_of t.events) (unstored r)

          gone : drawn (t ∷ r) ≡ []
          gone = drawn_none t r (ap has_bytes is ∙ (λ j. is_some (n j) || (are_some (did_of e).bytes || has_bytes es)))

          new_byte : (l : List ℕ) → drawn r ≡ l → (i j b : ℕ) → i ≡ length (text_of u ts) + j → byte (stored_bytes r) j ≡ Some b → place boot (t ∷ ts) i ≡ b + 256
          new_byte [] e i j b at k = absurd (cc (ap (λ l. byte l j) (fit.none e), k))
          new_byte (x ∷ l) e i j b at k = let z = first_there x l in by_room z.0 (ap first_drawn e ∙ z.1)
            where
              by_room : (f : ℕ) → first_drawn (drawn r) ≡ Some f → place boot (t ∷ ts) i ≡ b + 256
              by_room f z = elim (cases_lt f console_places) [
                | inl lt ↦ (let v = ok.kept c f z lt j b k in let y : i ≡ f + j = at ∙ ap (λ x. x + j) (only c f z lt).0 in ap (place boot (t ∷ ts)) y ∙ (stays (f + j) v.0 ∙ v.1))
                | inr le ↦ (let v = (fit.some f z).0 in let y = byte_lt (stored_bytes r) j b k in absurd (omega (arith, v, y, le)))
              ]

      places_step : (es : List Event) → t.events ≡ es → Stores r (name_of t.step.word) t.step.op t.step.arg t.step.answer es → Placing u boot (t ∷ ts)
      places_step es is (idle f g q) = idle_step f g (subst NoBytes (sym is) q)
      places_step es is (draw_one {e = e} {es = es'} b w p none lt un n bs q) = one_step e es' b is w p none lt un n bs q
      places_step es is (draw_more w p q) = more_step w p (subst AreQuiet (sym is) q)
      places_step es is (fill_own i b w p un ar none q) = own_step i b w p un ar none (subst AreQuiet (sym is) q)
      places_step es is (fill_more i ds w p dr le len un q) = more_fill i ds w p dr le len un (subst AreQuiet (sym is) q)
      places_step es is (fill_last {e = e} {es = es'} i ds w p dr le len un n bs q) = last_fill i ds w p dr le len un e es' is n bs q
      places_step es is (full {e = e} {es = es'} reason w n bs fit q) = full_step e es' reason is w n bs (fit follow) q

  pub places_of : (ts : List Placed) → IsHistory u.layout runs (history boot ts) → Told u ts → Placing u boot ts
  places_of [] h d = record { text = λ i b e. absurd (cc (e)); owed = λ a i b e. absurd (cc (e)); kept = λ a f e lt j b z. absurd (cc (e)) }
  places_of (t ∷ ts) h d = go d.0.who (places_of ts past d.1)
    where
      past : IsHistory u.layout runs (history boot ts)
      past = history_tail u runs t.step (history boot ts) h

      printed : Out u boot ts
      printed = out_of u boot runs begun ts past d.1

      follow : AreFollowing (drawn (mine t.step.actor ts))
      follow = follow_of u boot runs begun ts past d.1 t.step.actor

      go : (t.step.actor ≢ loader) ⊎ IsIdleStep t → Placing u boot ts → Placing u boot (t ∷ ts)
      go (inl ne) ok = places_step t ts h d ok printed follow ne t.events refl (stores_of d.0.right.accounts)
      go (inr i) ok = idle_step t ts h d ok printed follow
          (λ s. absurd (subst IsPlace i.0 s)) (λ z. absurd (cc (sym i.0 ∙ z))) (subst NoBytes (sym i.2) tt)
