-- CONS and the output.
use Rattle.std.proofs.Common.{◌≡◌, ◌≢◌, ◌⊎◌, ℕ, suc, ◌<◌, ◌≤◌, ◌+◌, ◌-◌, ◌^◌, Bool, true, false, List, [], ◌∷◌, ◌++◌, Option, Some, None, refl, sym, ap, subst, ◌∙◌, inl, inr, arith, eq-eqb, length, length-append}
use Rattle.std.specs.Prelude.{◌||◌, if◌then◌else◌, is_some}
use Rattle.std.proofs.lemmas.Bool.{cases_eq, cases_lt}
use Rattle.step_laws.specs.declared.steps.Step.{Step}
use Rattle.step_laws.specs.declared.steps.WordOp.{WordOp}
use Rattle.step_laws.specs.declared.steps.WordOp.TheVariants.{Load, Store, Add}
use Rattle.step_laws.specs.Map.{Word, Pend, Run, Cons, Stop, Console, name_of, number_of}
use Rattle.step_laws.specs.Words.{loader}
use Rattle.step_laws.specs.Steps.{own_steps, value_at, new_of, answer_of}
use Rattle.step_laws.specs.Discipline.{IsActor, IsPermitted, by_loader, by_actor}
use Rattle.step_laws.specs.Sections.{IsInSection}
use Rattle.step_laws.specs.Histories.{IsHistory}
use Rattle.run_laws.proofs.Used.{IsGuarded}
use Rattle.run_laws.proofs.Stepping.{woven, section_law}
use Rattle.run_laws.proofs.Filling.{cons_few}
use Rattle.run_laws.proofs.Overflow.{drawn_within}
use Rattle.step_laws.proofs.Named.{name_number, number_name}
use Rattle.machine_model.specs.declared.reason.Reason.{Reason}
use Rattle.machine_model.specs.Event.{Event, did_of}
use Rattle.machine_model.specs.State.{Setup}
use Rattle.machine_model.specs.Change.{printed}
use Rattle.machine_model.specs.Perform.{room}
use Rattle.step_laws.specs.Words.{console_places}
use Rattle.machine_model.specs.Run.{state_of}
use Rattle.run_laws.proofs.Placed.{Placed, placed, steps, run_of, mine}
use Rattle.turn_pieces.specs.Folds.{are_some, drawn_next}
use Rattle.run_laws.proofs.Kept.{has_bytes, drawn, stored_bytes}
use Rattle.turn_pieces.specs.Shared.{IsShared}
use Rattle.run_laws.proofs.Fits.{FitsAwait}
use Rattle.run_laws.proofs.Accounts.{AreQuiet, IsSectional, Accounts, calm, writes, writes_half, writes_rest, draws, fills, draws_none, draws_more, fills_more, fills_last, ends, takes, gives_start, gives_opaque, lets, begins_here, leaves_here}
use Rattle.turn_pieces.specs.Doing.{AreFollowing, HasRoom, IsCalm, IsCutShort, first_drawn}
use Rattle.turn_pieces.proofs.Following.{first_there, newest_at}
use Rattle.run_laws.proofs.Beginning.{IsBegun, history}
use Rattle.run_laws.specs.Ended.{IsFilled as Full}
use Rattle.run_laws.proofs.Weave.{by_mine, mine_here, mine_other}
use Rattle.run_laws.proofs.Pieces.{Told, IsIdleStep}
use Rattle.run_laws.proofs.States.{output_quiet}
use Rattle.run_laws.proofs.Shared.{Still, value_still, value_other}
use Rattle.run_laws.proofs.Agree.{history_tail, own_history}
use Rattle.run_laws.proofs.Stands.{answer_old}
use Rattle.run_laws.proofs.Sees.{Plain, plain_section}

abbrev pub NoBytes : List Event → Type 0
NoBytes [] = Unit {0}
NoBytes (e ∷ es) = ((did_of e).reason ≡ None) × ((did_of e).bytes ≡ []) × NoBytes es

pub quiet_bytes : (es : List Event) → AreQuiet es → NoBytes es
quiet_bytes [] q = tt
quiet_bytes (e ∷ es) q = (q.0.does.reason_is, q.0.does.bytes_are, quiet_bytes es q.1)

pub no_bytes : (es : List Event) → NoBytes es → has_bytes es ≡ false
no_bytes [] q = refl
no_bytes (e ∷ es) q = λ i. is_some (q.0 i) || (are_some (q.1 i) || no_bytes es q.2 i)

-- the ways of a step with regard to the output
data Prints (u : Setup) (a : ℕ) (r : List Placed) (w : Word) (op : WordOp) (arg answer : ℕ) : List Event → Type 0 where
  same : {es : List Event} → (w ≡ Cons → Still op answer) → (IsSectional w → drawn r ≡ []) → NoBytes es → Prints u a r w op arg answer es
  one : {e : Event} {es : List Event} (byte : ℕ) → w ≡ Cons → op ≡ Add → arg ≡ 1 → drawn r ≡ [] → answer < console_places → (did_of e).reason ≡ None → (did_of e).bytes ≡ byte ∷ [] → AreQuiet es
      → Prints u a r w op arg answer (e ∷ es)
  more : {es : List Event} → w ≡ Cons → op ≡ Add → arg ≡ 1 → (console_places ≤ answer) ⊎ IsInSection u.layout a (steps r) → AreQuiet es → Prints u a r w op arg answer es
  all : {e : Event} {es : List Event} (i : ℕ) (bytes : List ℕ) → w ≡ Console i → (AreFollowing (drawn r) → HasRoom (drawn r))
      → (did_of e).reason ≡ None → (did_of e).bytes ≡ bytes → are_some bytes ≡ true → length bytes ≡ length (drawn r) → AreQuiet es → Prints u a r w op arg answer (e ∷ es)
  full : {e : Event} {es : List Event} (reason : Reason) (bytes : List ℕ) → w ≡ Stop → (did_of e).reason ≡ Some reason → (did_of e).bytes ≡ bytes → (AreFollowing (drawn r) → IsCutShort (drawn r) bytes) → AreQuiet es
      → Prints u a r w op arg answer (e ∷ es)

calm_cons : (w : Word) (op : WordOp) (answer : ℕ) → IsCalm w op answer → w ≡ Cons → Still op answer
calm_cons Cons Load answer c e = tt
calm_cons Cons op answer c e = absurd c
calm_cons w op answer c e = absurd (cc (e))

shared_cons : (w : Word) → IsShared w → w ≡ Cons → ⊥
shared_cons w s e = subst IsShared e s

shared_inside : (w : Word) → IsShared w → IsSectional w → ⊥
shared_inside (Run b) s k = s
shared_inside Pend s k = s
shared_inside w s k = k

some_end : (bs : List ℕ) (b : ℕ) → are_some (bs ++ b ∷ []) ≡ true
some_end [] b = refl
some_end (x ∷ bs) b = refl

prints_of : {u : Setup} {a : ℕ} {r : List Placed} {n : ℕ} {w : Word} {op : WordOp} {arg answer : ℕ} {es : List Event} → Accounts u a r n w op arg answer es → Prints u a r w op arg answer es
prints_of {w = w} {op = op} {answer = answer} {es = es} (calm h c k q) = same (λ e. calm_cons w op answer c e) k (quiet_bytes es q)
prints_of {w = w} (writes {es = es} h s o d b q) = same (λ e. absurd (shared_cons w s e)) (λ k. absurd (shared_inside w s k)) (d.reason_is, d.bytes_are, quiet_bytes es q)
prints_of (writes_half h k) = same (λ e. absurd (cc)) (λ s. absurd s) tt
prints_of (writes_rest {es = es} m v h ne d b q) = same (λ e. absurd (cc)) (λ s. absurd s) (d.reason_is, d.bytes_are, quiet_bytes es q)
prints_of (draws byte h p lt uu d b q) = one byte refl refl refl p lt d.reason_is d.bytes_are q
prints_of (fills {es = es} byte h k g dd q) = same (λ e. absurd (cc)) (λ s. absurd s) (quiet_bytes es q)
prints_of (draws_none h le q) = more refl refl refl (inl le) q
prints_of (draws_more h k q) = more refl refl refl (inr k) q
prints_of (fills_more {es = es} h k p le zz uu q) = same (λ e. absurd (cc)) (λ s. absurd s) (quiet_bytes es q)
prints_of {r = r} (fills_last {i = i} {arg = arg} h k p le uu f z d b q) =
    all i (stored_bytes r ++ (arg - 256) ∷ []) refl f d.reason_is d.bytes_are (some_end (stored_bytes r) (arg - 256))
    (length-append (stored_bytes r) ((arg - 256) ∷ []) ∙ (let one_more : length (stored_bytes r) + 1 ≡ suc (length (stored_bytes r)) = omega arith in one_more ∙ z)) q
prints_of (ends {reason = reason} bytes h d g f b q) = full reason bytes refl d.reason_is d.bytes_are f q
prints_of (takes {es = es} at opaque h d b q) = same (λ e. absurd (cc)) (λ s. absurd s) (d.reason_is, d.bytes_are, quiet_bytes es q)
prints_of (gives_start {es = es} opaque h g q) = same (λ e. absurd (cc)) (λ s. absurd s) (quiet_bytes es q)
prints_of (gives_opaque {es = es} at h g q) = same (λ e. absurd (cc)) (λ s. absurd s) (quiet_bytes es q)
prints_of (lets {es = es} h q) = same (λ e. absurd (cc)) (λ s. absurd s) (quiet_bytes es q)
prints_of (begins_here {es = es} h q) = same (λ e. absurd (cc)) (λ s. absurd s) (refl, refl, quiet_bytes es q)
prints_of (leaves_here {es = es} h d b q) = same (λ e. absurd (cc)) (λ s. absurd s) (d.reason_is, d.bytes_are, quiet_bytes es q)

-- the draws behind a step
drawn_still : (w : Word) (op : WordOp) (answer : ℕ) (ds : List ℕ) → (w ≡ Cons → Still op answer) → drawn_next w op answer ds ≡ ds
drawn_still Cons Add answer ds f = absurd (f refl)
drawn_still w op answer ds f = refl

pub drawn_same : (s : Step) (es : List Event) (r : List Placed) → NoBytes es → (name_of s.word ≡ Cons → Still s.op s.answer) → drawn (placed s es ∷ r) ≡ drawn r
drawn_same s es r q f = (λ i. if no_bytes es q i then [] else drawn_next (name_of s.word) s.op s.answer (drawn r)) ∙ drawn_still (name_of s.word) s.op s.answer (drawn r) f

pub drawn_more : (s : Step) (es : List Event) (r : List Placed) → NoBytes es → name_of s.word ≡ Cons → s.op ≡ Add → drawn (placed s es ∷ r) ≡ s.answer ∷ drawn r
drawn_more s es r q w o = λ i. if no_bytes es q i then [] else drawn_next (w i) (o i) s.answer (drawn r)

pub drawn_none : (t : Placed) (r : List Placed) → has_bytes t.events ≡ true → drawn (t ∷ r) ≡ []
drawn_none t r e = λ i. if e i then [] else drawn_next (name_of t.step.word) t.step.op t.step.answer (drawn r)

not_sectional : (w : Word) (op : WordOp) → (IsSectional w → ⊥) → Plain w op
not_sectional (Run b) op f = f tt
not_sectional Pend op f = absurd (f tt)
not_sectional w op f = tt

-- output and CONS
abbrev pub out : Setup → List Placed → ℕ
out u ts = length (state_of u (run_of ts)).output

abbrev pub cons : List Step → List Placed → ℕ
cons boot ts = value_at (number_of Cons) (history boot ts)

-- an actor in section has drawn places for an event that isn't placed yet
pub record Draws (u : Setup) (boot : List Step) (ts : List Placed) (a i : ℕ) : Type 0 where
  pub actor : IsActor u.layout a
  pub no_loader : a ≢ loader
  pub first : first_drawn (drawn (mine a ts)) ≡ Some i
  pub free : i < console_places
  pub section : IsInSection u.layout a (steps (mine a ts))
  pub output : out u ts ≡ i
  pub drew : cons boot ts ≡ i + length (drawn (mine a ts))
  pub alone : (b j : ℕ) → b ≢ a → first_drawn (drawn (mine b ts)) ≡ Some j → ⊥

pub data Out (u : Setup) (boot : List Step) (ts : List Placed) : Type 0 where
  shut : Full (cons boot ts) (out u ts) → ((a i : ℕ) → first_drawn (drawn (mine a ts)) ≡ Some i → (console_places ≤ i) × (console_places ≤ cons boot ts)) → Out u boot ts
  open_by : (a i : ℕ) → Draws u boot ts a i → Out u boot ts

-- and the places that each actor has drawn follow one another
record Printed (u : Setup) (boot : List Step) (ts : List Placed) : Type 0 where
  output : Out u boot ts
  follow : (a : ℕ) → AreFollowing (drawn (mine a ts))

printed_length : (old bytes : List ℕ) → length (printed old bytes) ≡ length old + length bytes
printed_length old [] = omega arith
printed_length old (b ∷ bs) = length-append old (b ∷ bs)

pub bytes_same : (u : Setup) (es run : List Event) → NoBytes es → (state_of u (es ++ run)).output ≡ (state_of u run).output
bytes_same u [] run q = refl
bytes_same u (e ∷ es) run q = ap (printed (state_of u (es ++ run)).output) q.1 ∙ bytes_same u es run q.2

cons_named : (n : ℕ) → name_of n ≡ Cons → number_of Cons ≡ n
cons_named n e = ap number_of (sym e) ∙ number_name n

first_more : (d i : ℕ) (ds : List ℕ) → first_drawn ds ≡ Some i → first_drawn (d ∷ ds) ≡ Some i
first_more d i [] e = absurd (cc (e))
first_more d i (x ∷ ds) e = e

first_some : (ds : List ℕ) (i : ℕ) → first_drawn ds ≡ Some i → 1 ≤ length ds
first_some [] i e = absurd (cc (e))
first_some (x ∷ ds) i e = omega arith

pub some_same : (p i : ℕ) (x : Option ℕ) → x ≡ Some p → x ≡ Some i → p ≡ i
some_same p i x e f = cc (e, f)

pub no_first : {A : Type 0} (ds : List ℕ) (i : ℕ) → ds ≡ [] → first_drawn ds ≡ Some i → A
no_first ds i e f = absurd (cc (ap first_drawn e, f))

module _ (u : Setup) (boot : List Step) (runs : ℕ → Bool) (begun : IsBegun u boot) where
  module _ (t : Placed) (ts : List Placed) (h : IsHistory u.layout runs (history boot (t ∷ ts))) (short : cons boot ts < 2 ^ 63) where
    abbrev c : ℕ
    c = t.step.actor

    abbrev r : List Placed
    r = mine t.step.actor ts

    an : t.step.answer ≡ answer_of t.step.op (value_at t.step.word (history boot ts))
    an = (woven u.layout runs (history boot (t ∷ ts)) h).0.answered

    cons_same : (name_of t.step.word ≡ Cons → Still t.step.op t.step.answer) → cons boot (t ∷ ts) ≡ cons boot ts
    cons_same f = elim (cases_eq (number_of Cons) t.step.word) [
      | inl e ↦ value_still t.step.actor t.step.word t.step.op t.step.arg t.step.answer (number_of Cons) (history boot ts) an (f (ap name_of (sym e) ∙ name_number Cons tt))
      | inr away ↦ value_other t.step.actor t.step.word t.step.op t.step.arg t.step.answer (number_of Cons) (history boot ts) away
    ]

    cons_added : name_of t.step.word ≡ Cons → t.step.op ≡ Add → t.step.arg ≡ 1 → cons boot (t ∷ ts) ≡ cons boot ts + 1
    cons_added w o ar = ap (λ (b : Bool). if b then new_of t.step.op (cons boot ts) t.step.arg else cons boot ts) (eq-eqb (number_of Cons) t.step.word (cons_named t.step.word w))
        ∙ ((λ i. new_of (o i) (cons boot ts) (ar i)) ∙ omega (arith, short))

    pub cons_answer : name_of t.step.word ≡ Cons → t.step.op ≢ Store → t.step.answer ≡ cons boot ts
    cons_answer w o = answer_old t.step.op (value_at t.step.word (history boot ts)) t.step.answer o an ∙ ap (λ x. value_at x (history boot ts)) (sym (cons_named t.step.word w))

    -- the records behind the step
    first_of : (a i : ℕ) → first_drawn (drawn (mine a (t ∷ ts))) ≡ Some i → ((a ≡ c) × (first_drawn (drawn (t ∷ r)) ≡ Some i)) ⊎ ((a ≢ c) × (first_drawn (drawn (mine a ts)) ≡ Some i))
    first_of a i k = elim (cases_eq a c) [
      | inl e ↦ inl (e, sym (ap (λ l. first_drawn (drawn l)) (ap (λ x. mine x (t ∷ ts)) e ∙ mine_here t ts)) ∙ k)
      | inr away ↦ inr (away, sym (ap (λ l. first_drawn (drawn l)) (mine_other a t ts away)) ∙ k)
    ]

    -- a place that is drawn follows those that the actor has drawn before
    follow_next : Out u boot ts → AreFollowing (drawn r) → (name_of t.step.word ≡ Cons → t.step.op ≡ Add → (x : ℕ) (ds : List ℕ) → drawn r ≡ x ∷ ds → x < console_places)
        → AreFollowing (drawn_next (name_of t.step.word) t.step.op t.step.answer (drawn r))
    follow_next o follow inside = by (name_of t.step.word) t.step.op (drawn r) refl refl refl
      where
        behind : name_of t.step.word ≡ Cons → t.step.op ≡ Add → (x : ℕ) (ds : List ℕ) → drawn r ≡ x ∷ ds → Out u boot ts → t.step.answer ≡ suc x
        behind w p x ds e = place
          where
            f : (f : ℕ) × (first_drawn (x ∷ ds) ≡ Some f)
            f = first_there x ds

            is_first : first_drawn (drawn r) ≡ Some f.0
            is_first = ap first_drawn e ∙ f.1

            at : x ≡ f.0 + length ds
            at = newest_at x f.0 ds (subst AreFollowing e follow) f.1

            place : Out u boot ts → t.step.answer ≡ suc x
            place (shut fl pend) = let le = (pend c f.0 is_first).0 in let lt = inside w p x ds e in absurd (omega (arith, le, lt, at))
            place (open_by a i k) = elim (cases_eq a c) [
              | inl g ↦ (let same = some_same i f.0 (first_drawn (drawn r)) (sym (ap (λ y. first_drawn (drawn (mine y ts))) g) ∙ k.first) is_first in
                  let drew : cons boot ts ≡ i + suc (length ds) = k.drew ∙ ap (λ y. i + length (drawn (mine y ts))) g ∙ ap (λ l. i + length l) e in
                  let now = cons_answer w (λ z. cc (p, z)) in omega (arith, same, drew, now, at))
              | inr away ↦ absurd (k.alone c f.0 (λ z. away (sym z)) is_first)
            ]

        by : (w : Word) (op : WordOp) (ds : List ℕ) → name_of t.step.word ≡ w → t.step.op ≡ op → drawn r ≡ ds → AreFollowing (drawn_next w op t.step.answer ds)
        by Cons Add [] w p e = tt
        by Cons Add (x ∷ ds) w p e = (behind w p x ds e o, subst AreFollowing e follow)
        by w op ds n p e = subst AreFollowing e follow

    out_same : NoBytes t.events → out u (t ∷ ts) ≡ out u ts
    out_same q = ap length (bytes_same u t.events (run_of ts) q)

    -- a step with no draw and no byte
    same_step : (name_of t.step.word ≡ Cons → Still t.step.op t.step.answer) → (IsSectional (name_of t.step.word) → drawn r ≡ []) → NoBytes t.events → Out u boot ts → Out u boot (t ∷ ts)
    same_step f g q (shut fl none) = shut (subst (λ n. Full n (out u (t ∷ ts))) (sym (cons_same f)) (subst (λ n. Full (cons boot ts) n) (sym (out_same q)) fl)) pending
      where
        pending : (a i : ℕ) → first_drawn (drawn (mine a (t ∷ ts))) ≡ Some i → (console_places ≤ i) × (console_places ≤ cons boot (t ∷ ts))
        pending a i k = elim (first_of a i k) [
          | inl p ↦ let x = none c i (sym (ap first_drawn (drawn_same t.step t.events r q f)) ∙ p.1) in (x.0, subst (λ n. console_places ≤ n) (sym (cons_same f)) x.1)
          | inr p ↦ let x = none a i p.1 in (x.0, subst (λ n. console_places ≤ n) (sym (cons_same f)) x.1)
        ]
    same_step f g q (open_by a i k) = open_by a i (record {
      actor = k.actor;
      no_loader = k.no_loader;
      first = ap first_drawn drawn_is ∙ k.first;
      free = k.free;
      section = section_is;
      output = out_same q ∙ k.output;
      drew = cons_same f ∙ (k.drew ∙ ap (λ ds. i + length ds) (sym drawn_is));
      alone = λ b j away l. elim (first_of b j l) [
        | inl p ↦ k.alone b j away (ap (λ x. first_drawn (drawn (mine x ts))) p.0 ∙ (sym (ap first_drawn (drawn_same t.step t.events r q f)) ∙ p.1))
        | inr p ↦ k.alone b j away p.1
      ];
    })
      where
        drawn_is : drawn (mine a (t ∷ ts)) ≡ drawn (mine a ts)
        drawn_is = by_mine (λ x l. drawn l ≡ drawn (mine x ts)) a t ts (drawn_same t.step t.events r q f) (λ away. refl)

        section_is : IsInSection u.layout a (steps (mine a (t ∷ ts)))
        section_is = by_mine (λ x l. IsInSection u.layout x (steps (mine x ts)) → first_drawn (drawn (mine x ts)) ≡ Some i → IsInSection u.layout x (steps l)) a t ts
            (λ s j. plain_section u c t.step (steps r) (not_sectional (name_of t.step.word) t.step.op (λ z. no_first (drawn r) i (g z) j)) s)
            (λ away s j. s) k.section k.first

    module _ (ne : t.step.actor ≢ loader) where
      actor : IsActor u.layout c
      actor = go (woven u.layout runs (history boot (t ∷ ts)) h).0.permitted
        where
          go : IsPermitted u.layout t.step.actor (runs t.step.actor) (own_steps t.step.actor (history boot ts)) (name_of t.step.word) t.step.op t.step.arg → IsActor u.layout t.step.actor
          go (by_loader e m) = absurd (ne e)
          go (by_actor k f m) = k

      -- nobody else is in section where the step is on a guarded word
      pub lone : IsGuarded (name_of t.step.word) → (a i : ℕ) → Draws u boot ts a i → a ≢ c → ⊥
      lone g a i k away = section_law u.layout runs (history boot ts) t.step a begun.limits.harts h k.actor actor
          (subst (IsInSection u.layout a) (sym (own_history boot a ts (begun.alone a k.no_loader))) k.section) (λ e. away (sym e)) g

      nobody : (a i : ℕ) → drawn (t ∷ r) ≡ [] → ((b j : ℕ) → b ≢ c → first_drawn (drawn (mine b ts)) ≡ Some j → ⊥) → first_drawn (drawn (mine a (t ∷ ts))) ≡ Some i → ⊥
      nobody a i e f k = elim (first_of a i k) [ inl p ↦ no_first (drawn (t ∷ r)) i e p.1 | inr p ↦ f a i p.0 p.1 ]

      out_more : (e : Event) (es : List Event) → t.events ≡ e ∷ es → AreQuiet es → out u (t ∷ ts) ≡ out u ts + length (did_of e).bytes
      out_more e es is q = ap (λ l. length (state_of u (l ++ run_of ts)).output) is
          ∙ (printed_length (state_of u (es ++ run_of ts)).output (did_of e).bytes ∙ ap (λ o. length o + length (did_of e).bytes) (output_quiet u es (run_of ts) q))

      has_here : (e : Event) (es : List Event) → t.events ≡ e ∷ es → (did_of e).reason ≡ None → are_some (did_of e).bytes ≡ true → has_bytes t.events ≡ true
      has_here e es is n b = ap has_bytes is ∙ (λ i. is_some (n i) || (b i || has_bytes es))

      has_reason : (e : Event) (es : List Event) (reason : Reason) → t.events ≡ e ∷ es → (did_of e).reason ≡ Some reason → has_bytes t.events ≡ true
      has_reason e es reason is n = ap has_bytes is ∙ (λ i. is_some (n i) || (are_some (did_of e).bytes || has_bytes es))

      -- one byte is drawn with its event
      one_step : (e : Event) (es : List Event) (byte : ℕ) → t.events ≡ e ∷ es → name_of t.step.word ≡ Cons → t.step.op ≡ Add → t.step.arg ≡ 1 → drawn r ≡ [] → t.step.answer < console_places
          → (did_of e).reason ≡ None → (did_of e).bytes ≡ byte ∷ [] → AreQuiet es → Out u boot ts → Out u boot (t ∷ ts)
      one_step e es byte is w o ar none lt n b q (open_by a i k) = elim (cases_eq a c) [
        | inl f ↦ no_first (drawn r) i none (sym (ap (λ x. first_drawn (drawn (mine x ts))) f) ∙ k.first)
        | inr away ↦ absurd (lone (subst IsGuarded (sym w) tt) a i k away)
      ]
      one_step e es byte is w o ar none lt n b q (shut fl pend) = shut full_now (λ a i k. absurd (nobody a i (drawn_none t r here) (λ x j away l. let z = (pend x j l).1 in omega (arith, z, lt, is_cons)) k))
        where
          here : has_bytes t.events ≡ true
          here = has_here e es is n (ap are_some b)

          is_cons : t.step.answer ≡ cons boot ts
          is_cons = cons_answer w (λ k. cc (o, k))

          full_now : Full (cons boot (t ∷ ts)) (out u (t ∷ ts))
          full_now = elim fl [
            | inl p ↦ let x = cons_added w o ar in let y = out_more e es is q ∙ ap (λ bs. out u ts + length bs) b in let z = p.1 in inl (omega (arith, x, lt, is_cons), omega (arith, x, y, z))
            | inr p ↦ let z = p.0 in absurd (omega (arith, z, lt, is_cons))
          ]

      -- a place is drawn whose event comes later, or never
      more_step : name_of t.step.word ≡ Cons → t.step.op ≡ Add → t.step.arg ≡ 1 → (console_places ≤ t.step.answer) ⊎ IsInSection u.layout c (steps r) → AreQuiet t.events → Out u boot ts → Out u boot (t ∷ ts)
      more_step w o ar why q (open_by a i k) = elim (cases_eq a c) [ inl f ↦ open_by c i (mine_open f) | inr away ↦ absurd (lone (subst IsGuarded (sym w) tt) a i k away) ]
        where
          mine_open : a ≡ c → Draws u boot (t ∷ ts) c i
          mine_open f =
              let first_r : first_drawn (drawn r) ≡ Some i = sym (ap (λ x. first_drawn (drawn (mine x ts))) f) ∙ k.first in
              let drawn_is : drawn (mine c (t ∷ ts)) ≡ t.step.answer ∷ drawn r = ap drawn (mine_here t ts) ∙ drawn_more t.step t.events r (quiet_bytes t.events q) w o in
              let x = cons_added w o ar in
              let y : cons boot ts ≡ i + length (drawn r) = k.drew ∙ ap (λ x. i + length (drawn (mine x ts))) f in record {
                actor = actor;
                no_loader = ne;
                first = ap first_drawn drawn_is ∙ first_more t.step.answer i (drawn r) first_r;
                free = k.free;
                section = subst (λ l. IsInSection u.layout c (steps l)) (sym (mine_here t ts))
                    (plain_section u c t.step (steps r) (subst (λ v. Plain v t.step.op) (sym w) tt) (subst (λ x. IsInSection u.layout x (steps (mine x ts))) f k.section));
                output = out_same (quiet_bytes t.events q) ∙ k.output;
                drew = subst (λ ds. cons boot (t ∷ ts) ≡ i + length ds) (sym drawn_is) (omega (arith, x, y));
                alone = λ b j away l. elim (first_of b j l) [ inl p ↦ absurd (away p.0) | inr p ↦ k.alone b j (λ z. away (z ∙ f)) p.1 ];
              }
      more_step w o ar why q (shut fl pend) = go (drawn r) refl
        where
          is_cons : t.step.answer ≡ cons boot ts
          is_cons = cons_answer w (λ k. cc (o, k))

          drawn_is : drawn (t ∷ r) ≡ t.step.answer ∷ drawn r
          drawn_is = drawn_more t.step t.events r (quiet_bytes t.events q) w o

          stays : console_places ≤ cons boot ts → (i : ℕ) → first_drawn (drawn (t ∷ r)) ≡ Some i → console_places ≤ i → Out u boot (t ∷ ts)
          stays le i f li = shut full_now pending
            where
              x : cons boot (t ∷ ts) ≡ cons boot ts + 1
              x = cons_added w o ar

              full_now : Full (cons boot (t ∷ ts)) (out u (t ∷ ts))
              full_now = elim fl [
                | inl p ↦ let y = out_same (quiet_bytes t.events q) in let z = p.0 in let v = p.1 in inr (omega (arith, le, x), omega (arith, y, z, v, le))
                | inr p ↦ let y = out_same (quiet_bytes t.events q) in let v = p.1 in inr (omega (arith, le, x), omega (arith, y, v))
              ]

              pending : (a j : ℕ) → first_drawn (drawn (mine a (t ∷ ts))) ≡ Some j → (console_places ≤ j) × (console_places ≤ cons boot (t ∷ ts))
              pending a j k = elim (first_of a j k) [
                | inl p ↦ let e = some_same j i (first_drawn (drawn (t ∷ r))) p.1 f in (omega (arith, e, li), omega (arith, le, x))
                | inr p ↦ ((pend a j p.1).0, omega (arith, le, x))
              ]

          go : (ds : List ℕ) → drawn r ≡ ds → Out u boot (t ∷ ts)
          go (d ∷ ds) e = old (first_drawn (drawn r)) refl
            where
              old : (k : Option ℕ) → first_drawn (drawn r) ≡ k → Out u boot (t ∷ ts)
              old None k = absurd (never d ds (sym (ap first_drawn e) ∙ k))
                where
                  never : (d : ℕ) (ds : List ℕ) → first_drawn (d ∷ ds) ≡ None → ⊥
                  never d [] z = cc
                  never d (x ∷ ds) z = never x ds z
              old (Some i) k = let p = pend c i k in stays p.1 i (ap first_drawn drawn_is ∙ first_more t.step.answer i (drawn r) k) p.0
          go [] e = elim why [
            | inl le ↦ stays (subst (λ n. console_places ≤ n) is_cons le) t.step.answer (ap first_drawn drawn_is ∙ ap (λ ds. first_drawn (t.step.answer ∷ ds)) e) le
            | inr s ↦ by_room s
          ]
            where
              by_room : IsInSection u.layout c (steps r) → Out u boot (t ∷ ts)
              by_room s = elim (cases_lt t.step.answer console_places) [
                | inr le ↦ stays (subst (λ n. console_places ≤ n) is_cons le) t.step.answer (ap first_drawn drawn_is ∙ ap (λ ds. first_drawn (t.step.answer ∷ ds)) e) le
                | inl lt ↦ open_by c t.step.answer (opened s lt)
              ]
                where
                  opened : IsInSection u.layout c (steps r) → t.step.answer < console_places → Draws u boot (t ∷ ts) c t.step.answer
                  opened s lt = let x = cons_added w o ar in let y = out_same (quiet_bytes t.events q) in record {
                    actor = actor;
                    no_loader = ne;
                    first = ap (λ l. first_drawn (drawn l)) (mine_here t ts) ∙ (ap first_drawn drawn_is ∙ ap (λ ds. first_drawn (t.step.answer ∷ ds)) e);
                    free = lt;
                    section = subst (λ l. IsInSection u.layout c (steps l)) (sym (mine_here t ts)) (plain_section u c t.step (steps r) (subst (λ v. Plain v t.step.op) (sym w) tt) s);
                    output = elim fl [ inl p ↦ let v = p.1 in omega (arith, y, v, is_cons) | inr p ↦ let v = p.0 in absurd (omega (arith, v, lt, is_cons)) ];
                    drew = subst (λ ds. cons boot (t ∷ ts) ≡ t.step.answer + length ds) (sym (ap drawn (mine_here t ts) ∙ (drawn_is ∙ ap (λ ds. t.step.answer ∷ ds) e))) (omega (arith, x, is_cons));
                    alone = λ b j away l. elim (first_of b j l) [ inl p ↦ absurd (away p.0) | inr p ↦ let z = (pend b j p.1).1 in absurd (omega (arith, z, lt, is_cons)) ];
                  }

      -- the last byte of a call is stored, with the event
      all_step : (e : Event) (es : List Event) (i : ℕ) (bytes : List ℕ) → t.events ≡ e ∷ es → name_of t.step.word ≡ Console i → HasRoom (drawn r)
          → (did_of e).reason ≡ None → (did_of e).bytes ≡ bytes → are_some bytes ≡ true → length bytes ≡ length (drawn r) → AreQuiet es → Out u boot ts → Out u boot (t ∷ ts)
      all_step e es i bytes is w fit n b s len q (shut fl pend) = let p = (pend c fit.first fit.first_is).0 in let z = first_some (drawn r) fit.first fit.first_is in let room = fit.fits in absurd (omega (arith, p, room, z))
      all_step e es i bytes is w fit n b s len q (open_by a j k) = elim (cases_eq a c) [ inl g ↦ done g | inr away ↦ absurd (lone (subst IsGuarded (sym w) tt) a j k away) ]
        where
          done : a ≡ c → Out u boot (t ∷ ts)
          done g =
              let here : has_bytes t.events ≡ true = has_here e es is n (ap are_some b ∙ s) in
              let same_first : j ≡ fit.first = some_same j fit.first (first_drawn (drawn r)) (sym (ap (λ x. first_drawn (drawn (mine x ts))) g) ∙ k.first) fit.first_is in
              let room = fit.fits in
              let x = cons_same (λ z. absurd (cc (w, z))) in
              let y = out_more e es is q ∙ ap (λ bs. out u ts + length bs) b in
              let v = k.output in
              let d : cons boot ts ≡ j + length (drawn r) = k.drew ∙ ap (λ x. j + length (drawn (mine x ts))) g in
              shut (inl (omega (arith, x, d, same_first, room), omega (arith, x, y, v, d, len)))
              (λ a' i' l. absurd (nobody a' i' (drawn_none t r here) (λ b' j' away l'. k.alone b' j' (λ z. away (z ∙ g)) l') l))

      -- a reason is given, with the bytes for which there was room
      full_step : (e : Event) (es : List Event) (reason : Reason) (bytes : List ℕ) → t.events ≡ e ∷ es → name_of t.step.word ≡ Stop → (did_of e).reason ≡ Some reason → (did_of e).bytes ≡ bytes
          → IsCutShort (drawn r) bytes → AreQuiet es → Out u boot ts → Out u boot (t ∷ ts)
      full_step e es reason bytes is w n b fit q o = go (first_drawn (drawn r)) refl o
        where
          here : has_bytes t.events ≡ true
          here = has_reason e es reason is n

          same_cons : cons boot (t ∷ ts) ≡ cons boot ts
          same_cons = cons_same (λ z. absurd (cc (w, z)))

          longer : out u (t ∷ ts) ≡ out u ts + length bytes
          longer = out_more e es is q ∙ ap (λ bs. out u ts + length bs) b

          no_draws : (ds : List ℕ) → first_drawn ds ≡ None → ds ≡ []
          no_draws [] k = refl
          no_draws (d ∷ ds) k = absurd (never d ds k)
            where
              never : (d : ℕ) (ds : List ℕ) → first_drawn (d ∷ ds) ≡ None → ⊥
              never d [] z = cc
              never d (x ∷ ds) z = never x ds z

          -- nothing was drawn
          calm_end : first_drawn (drawn r) ≡ None → out u (t ∷ ts) ≡ out u ts
          calm_end k = let v = ap length (fit.none (no_draws (drawn r) k)) in omega (arith, longer, v)

          go : (k : Option ℕ) → first_drawn (drawn r) ≡ k → Out u boot ts → Out u boot (t ∷ ts)
          go None k (shut fl pend) = shut (subst (λ x. Full x (out u (t ∷ ts))) (sym same_cons) (subst (λ x. Full (cons boot ts) x) (sym (calm_end k)) fl))
              (λ a i l. elim (first_of a i l) [ inl p ↦ no_first (drawn (t ∷ r)) i (drawn_none t r here) p.1 | inr p ↦ let x = pend a i p.1 in (x.0, subst (λ v. console_places ≤ v) (sym same_cons) x.1) ])
          go None k (open_by a i d) = elim (cases_eq a c) [
            | inl f ↦ absurd (cc (sym k ∙ (sym (ap (λ x. first_drawn (drawn (mine x ts))) f) ∙ d.first)))
            | inr away ↦ open_by a i (record {
              actor = d.actor;
              no_loader = d.no_loader;
              first = ap (λ l. first_drawn (drawn l)) (mine_other a t ts away) ∙ d.first;
              free = d.free;
              section = subst (λ l. IsInSection u.layout a (steps l)) (sym (mine_other a t ts away)) d.section;
              output = calm_end k ∙ d.output;
              drew = same_cons ∙ (d.drew ∙ ap (λ l. i + length (drawn l)) (sym (mine_other a t ts away)));
              alone = λ b' j off l. elim (first_of b' j l) [ inl p ↦ no_first (drawn (t ∷ r)) j (drawn_none t r here) p.1 | inr p ↦ d.alone b' j off p.1 ];
            })
          ]
          go (Some i) k (shut fl pend) = let p = pend c i k in let x = p.0 in let y = p.1 in let v = (fit.some i k).0 in shut
              (elim fl [ inl z ↦ let z0 = z.0 in let z1 = z.1 in inr (omega (arith, y, same_cons), omega (arith, longer, x, y, v, z0, z1)) | inr z ↦ let z1 = z.1 in inr (omega (arith, y, same_cons), omega (arith, longer, x, v, z1)) ])
              (λ a' i' l. elim (first_of a' i' l) [ inl m ↦ no_first (drawn (t ∷ r)) i' (drawn_none t r here) m.1 | inr m ↦ let x' = pend a' i' m.1 in (x'.0, subst (λ v. console_places ≤ v) (sym same_cons) x'.1) ])
          go (Some i) k (open_by a j d) = elim (cases_eq a c) [
            | inl f ↦ (let first_same = some_same j i (first_drawn (drawn r)) (sym (ap (λ x. first_drawn (drawn (mine x ts))) f) ∙ d.first) k in
                let v = (fit.some i k).0 in let m = (fit.some i k).1 in let o' = d.output in let lt = d.free in
                let dr : cons boot ts ≡ j + length (drawn r) = d.drew ∙ ap (λ x. j + length (drawn (mine x ts))) f in
                shut (inr (omega (arith, same_cons, dr, m, first_same), omega (arith, longer, v, o', lt, first_same)))
                (λ a' i' l. absurd (nobody a' i' (drawn_none t r here) (λ b' j' away l'. d.alone b' j' (λ z. away (z ∙ f)) l') l)))
            | inr away ↦ absurd (d.alone c i (λ z. away (sym z)) k)
          ]

      out_step : AreFollowing (drawn r) → (es : List Event) → t.events ≡ es → Prints u c r (name_of t.step.word) t.step.op t.step.arg t.step.answer es → Out u boot ts → Out u boot (t ∷ ts)
      out_step follow es is (same f g q) o = same_step f g (subst NoBytes (sym is) q) o
      out_step follow es is (one {e = e} {es = es'} byte w op ar none lt n b q) o = one_step e es' byte is w op ar none lt n b q o
      out_step follow es is (more w op ar why q) o = more_step w op ar why (subst AreQuiet (sym is) q) o
      out_step follow es is (all {e = e} {es = es'} i bytes w f n b s len q) o = all_step e es' i bytes is w (f follow) n b s len q o
      out_step follow es is (full {e = e} {es = es'} reason bytes w n b fl q) o = full_step e es' reason bytes is w n b (fl follow) q o

  -- the places that an actor has drawn behind the step, where its events print nothing
  followed : (t : Placed) (ts : List Placed) → IsHistory u.layout runs (history boot (t ∷ ts)) → Told u (t ∷ ts) → Printed u boot ts
      → AreFollowing (drawn_next (name_of t.step.word) t.step.op t.step.answer (drawn (mine t.step.actor ts)))
  followed t ts h d ok = follow_next t ts h few ok.output (ok.follow t.step.actor) (drawn_within u boot runs begun t ts h d)
    where
      few : cons boot ts < 2 ^ 63
      few = cons_few u boot runs begun ts (history_tail u runs t.step (history boot ts) h) d.1

  printed_next : (t : Placed) (ts : List Placed) → IsHistory u.layout runs (history boot (t ∷ ts)) → Told u (t ∷ ts) → Printed u boot ts → Printed u boot (t ∷ ts)
  printed_next t ts h d old = record {
    output = go d.0.who old.output;
    follow = λ a. by_mine (λ x l. AreFollowing (drawn l)) a t ts (mine_follow (has_bytes t.events)) (λ _. old.follow a);
  }
    where
      few : cons boot ts < 2 ^ 63
      few = cons_few u boot runs begun ts (history_tail u runs t.step (history boot ts) h) d.1

      go : (t.step.actor ≢ loader) ⊎ IsIdleStep t → Out u boot ts → Out u boot (t ∷ ts)
      go (inl ne) o = out_step t ts h few ne (old.follow t.step.actor) t.events refl (prints_of d.0.right.accounts) o
      go (inr i) o = same_step t ts h few (λ z. absurd (cc (i.0, z))) (λ s. absurd (subst IsSectional i.0 s)) (subst NoBytes (sym i.2) tt) o

      mine_follow : (v : Bool) → AreFollowing (if v then [] else drawn_next (name_of t.step.word) t.step.op t.step.answer (drawn (mine t.step.actor ts)))
      mine_follow true = tt
      mine_follow false = followed t ts h d old

  printed_of : (ts : List Placed) → IsHistory u.layout runs (history boot ts) → Told u ts → Printed u boot ts
  printed_of [] h d = let e = begun.output in record { output = shut (inl (omega (arith, e), sym e)) (λ a i k. absurd (cc (k))); follow = λ a. tt }
  printed_of (t ∷ ts) h d = printed_next t ts h d (printed_of ts (history_tail u runs t.step (history boot ts) h) d.1)

  -- the output is as long as CONS says, but for places drawn by the one actor in section
  pub out_of : (ts : List Placed) → IsHistory u.layout runs (history boot ts) → Told u ts → Out u boot ts
  out_of ts h d = (printed_of ts h d).output

  -- the places that an actor has drawn for an event that isn't placed yet follow one another
  pub follow_of : (ts : List Placed) → IsHistory u.layout runs (history boot ts) → Told u ts → (a : ℕ) → AreFollowing (drawn (mine a ts))
  follow_of ts h d a = (printed_of ts h d).follow a

  -- so those that a step's events see
  pub follow_now : (t : Placed) (ts : List Placed) → IsHistory u.layout runs (history boot (t ∷ ts)) → Told u (t ∷ ts) → (es : List Event) → AreQuiet es → AreFollowing (drawn (placed t.step es ∷ mine t.step.actor ts))
  follow_now t ts h d es q = subst (λ (b : Bool). AreFollowing (if b then [] else drawn_next (name_of t.step.word) t.step.op t.step.answer (drawn (mine t.step.actor ts)))) (sym (no_bytes es (quiet_bytes es q)))
      (followed t ts h d (printed_of ts (history_tail u runs t.step (history boot ts) h) d.1))

  -- the room that a step's events see
  pub room_of : (t : Placed) (ts : List Placed) → IsHistory u.layout runs (history boot (t ∷ ts)) → Told u (t ∷ ts) → t.step.actor ≢ loader → (es : List Event) → AreQuiet es
      → (i : ℕ) → first_drawn (drawn (placed t.step es ∷ mine t.step.actor ts)) ≡ Some i → room (state_of u (es ++ run_of ts)) ≡ console_places - i
  room_of t ts h d ne es q i k =
      ap (λ o. console_places - length o) (output_quiet u es (run_of ts) q) ∙ by_state (out_of ts (history_tail u runs t.step (history boot ts) h) d.1)
    where
      few : cons boot ts < 2 ^ 63
      few = cons_few u boot runs begun ts (history_tail u runs t.step (history boot ts) h) d.1

      drawn_is : drawn (placed t.step es ∷ mine t.step.actor ts) ≡ drawn_next (name_of t.step.word) t.step.op t.step.answer (drawn (mine t.step.actor ts))
      drawn_is = ap (λ (b : Bool). if b then [] else drawn_next (name_of t.step.word) t.step.op t.step.answer (drawn (mine t.step.actor ts))) (no_bytes es (quiet_bytes es q))

      old : Out u boot ts → first_drawn (drawn (mine t.step.actor ts)) ≡ Some i → console_places - out u ts ≡ console_places - i
      old (shut fl pend) j = let p = pend t.step.actor i j in let x = p.0 in let y = p.1 in elim fl [
        | inl z ↦ let z0 = z.0 in let z1 = z.1 in omega (arith, x, y, z0, z1)
        | inr z ↦ let z1 = z.1 in omega (arith, x, z1)
      ]
      old (open_by a j l) m = elim (cases_eq a t.step.actor) [
        | inl f ↦ let e = some_same j i (first_drawn (drawn (mine t.step.actor ts))) (sym (ap (λ x. first_drawn (drawn (mine x ts))) f) ∙ l.first) m in let o = l.output in omega (arith, e, o)
        | inr away ↦ absurd (l.alone t.step.actor i (λ z. away (sym z)) m)
      ]

      new : Out u boot ts → drawn (mine t.step.actor ts) ≡ [] → name_of t.step.word ≡ Cons → t.step.op ≡ Add → t.step.answer ≡ i → console_places - out u ts ≡ console_places - i
      new (shut fl pend) e w o an = let x = cons_answer t ts h few w (λ z. cc (o, z)) in elim fl [
        | inl z ↦ let z0 = z.0 in let z1 = z.1 in omega (arith, x, an, z0, z1)
        | inr z ↦ let z0 = z.0 in let z1 = z.1 in omega (arith, x, an, z0, z1)
      ]
      new (open_by a j l) e w o an = elim (cases_eq a t.step.actor) [
        | inl f ↦ no_first (drawn (mine t.step.actor ts)) j e (sym (ap (λ x. first_drawn (drawn (mine x ts))) f) ∙ l.first)
        | inr away ↦ absurd (lone t ts h few ne (subst IsGuarded (sym w) tt) a j l away)
      ]

      by_draw : Out u boot ts → (w : Word) (op : WordOp) (ds : List ℕ) → name_of t.step.word ≡ w → t.step.op ≡ op → drawn (mine t.step.actor ts) ≡ ds → first_drawn (drawn_next w op t.step.answer ds) ≡ Some i
          → console_places - out u ts ≡ console_places - i
      by_draw o Cons Add [] w p e j = new o e w p (cc (j))
      by_draw o Cons Add (x ∷ ds) w p e j = old o (ap first_drawn e ∙ j)
      by_draw o v op ds w p e j = old o (ap first_drawn e ∙ j)

      by_state : Out u boot ts → console_places - out u ts ≡ console_places - i
      by_state o = by_draw o (name_of t.step.word) t.step.op (drawn (mine t.step.actor ts)) refl refl refl (sym (ap first_drawn drawn_is) ∙ k)

  -- and the length that an Await finds
  pub await_of : (t : Placed) (ts : List Placed) → IsHistory u.layout runs (history boot (t ∷ ts)) → Told u (t ∷ ts) → t.step.actor ≢ loader → (es : List Event) → AreQuiet es
      → (count : ℕ) → FitsAwait u t.step (placed t.step es ∷ mine t.step.actor ts) count → count ≤ length (state_of u (es ++ run_of ts)).output
  await_of t ts h d ne es q count f =
      subst (λ o. count ≤ length o) (sym (output_quiet u es (run_of ts) q)) (by_state (out_of ts (history_tail u runs t.step (history boot ts) h) d.1))
    where
      few : cons boot ts < 2 ^ 63
      few = cons_few u boot runs begun ts (history_tail u runs t.step (history boot ts) h) d.1

      none : drawn (mine t.step.actor ts) ≡ []
      none = sym (drawn_same t.step es (mine t.step.actor ts) (quiet_bytes es q) (λ z. subst (λ p. Still p t.step.answer) (sym f.op) tt)) ∙ f.none_open

      by_state : Out u boot ts → count ≤ out u ts
      by_state (shut fl pend) = let x = cons_answer t ts h few f.word (λ z. cc (f.op, z)) in let y = f.enough in let v = f.room in elim fl [
        | inl z ↦ let z1 = z.1 in omega (arith, x, y, z1)
        | inr z ↦ let z1 = z.1 in omega (arith, v, z1)
      ]
      by_state (open_by a j l) = elim (cases_eq a t.step.actor) [
        | inl g ↦ no_first (drawn (mine t.step.actor ts)) j none (sym (ap (λ x. first_drawn (drawn (mine x ts))) g) ∙ l.first)
        | inr away ↦ absurd (lone t ts h few ne (subst IsGuarded (sym f.word) tt) a j l away)
      ]
