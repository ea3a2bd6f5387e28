-- The run that the records give.
use Rattle.std.proofs.Common.{None, ◌+◌, ◌≡◌, ◌≢◌, ◌⊎◌, ℕ, zero, suc, Bool, true, false, List, [], ◌∷◌, ◌++◌, Some, refl, sym, ap, subst, ◌∙◌, inl, inr, ◌<◌, ◌&&◌, length, arith}
use Rattle.std.specs.Prelude.{◌==◌, if◌then◌else◌, IsTrue}
use Rattle.std.specs.List.{list_all}
use Rattle.std.proofs.lemmas.Bool.{and_parts}
use Rattle.step_laws.specs.declared.steps.Step.{Step}
use Rattle.step_laws.specs.declared.steps.WordOp.{WordOp}
use Rattle.step_laws.specs.Map.{Word, Cons, Stop, Hsm, name_of, number_of, Console}
use Rattle.step_laws.specs.Words.{loader}
use Rattle.step_laws.specs.Steps.{own_steps, value_at}
use Rattle.step_laws.specs.Histories.{IsHistory}
use Rattle.step_laws.specs.Harts.{is_owing}
use Rattle.run_laws.proofs.Stepping.{stop_law}
use Rattle.run_laws.proofs.Booted.{begun_of, ran_of}
use Rattle.machine_model.specs.Event.{Event}
use Rattle.machine_model.specs.State.{Setup, Hart, nth, hart, initial, memory, mode_of, is_halted, all_halted}
use Rattle.machine_model.specs.Own.{own}
use Rattle.machine_model.specs.Past.{HasSince}
use Rattle.machine_model.specs.declared.mode.Mode.{Mode}
use Rattle.machine_model.specs.Run.{state_of, leaves, says_all_stopped, last_of, passes, counts, is_due}
use Rattle.machine_model.specs.Own.{own_of}
use Rattle.machine_model.proofs.Uniform.{run_length}
use Rattle.machine_model.specs.Lawful.{IsRun}
use Rattle.run_laws.proofs.Placed.{Placed, steps, run_of, mine}
use Rattle.run_laws.proofs.Fits.{AllFit, runs_first}
use Rattle.turn_pieces.specs.Shared.{mode_named}
use Rattle.run_laws.proofs.Accounts.{AreQuiet, Accounts, calm, writes, writes_half, writes_rest, draws, fills, draws_none, draws_more, fills_more, fills_last, ends, takes, gives_start, gives_opaque, lets, begins_here, leaves_here}
use Rattle.run_laws.proofs.Pieces.{IsActing, IsTurns, none, turn, looks, IsIdle, Said, Told, IsIdleStep}
use Rattle.run_laws.specs.Ended.{IsFilled as Full}
use Rattle.run_laws.proofs.Composition.{Composed, Composition}
use Rattle.run_laws.proofs.Kept.{part_at, half, whole, drawn, has_bytes, unstored, bytes_of}
use Rattle.turn_pieces.specs.Folds.{was_last, drawn_next, unstored_next}
use Rattle.turn_pieces.specs.Doing.{first_drawn}
use Rattle.run_laws.proofs.Modes.{modes_of}
use Rattle.run_laws.proofs.Reasons.{reason_of}
use Rattle.run_laws.proofs.Output.{Out, shut, open_by, out_of}
use Rattle.run_laws.proofs.Beginning.{IsBegun, history}
use Rattle.run_laws.proofs.Weave.{weave, told_of, turns_whole, idle_whole, behind}
use Rattle.run_laws.proofs.Agree.{Agree, agrees_of, history_tail, own_history}
use Rattle.run_laws.proofs.Own.{owned, by_fit, part_of_run, last_of_run}
use Rattle.run_laws.proofs.Places.{places_of, place, owes}
use Rattle.run_laws.proofs.Settled.{said_run, said_acting, left_acting}
use Rattle.run_laws.proofs.States.{harts_there}
use Rattle.run_laws.proofs.Lawful.{lawful}

-- below the last event of a step there are quiet ones
abbrev pub QuietTail : List Event → Type 0
QuietTail [] = Unit {0}
QuietTail (e ∷ es) = AreQuiet es

tail_of : (es : List Event) → AreQuiet es → QuietTail es
tail_of [] q = tt
tail_of (e ∷ es) q = q.1

pub quiet_tail : {u : Setup} {a : ℕ} {r : List Placed} {n : ℕ} {w : Word} {op : WordOp} {arg answer : ℕ} {es : List Event} → Accounts u a r n w op arg answer es → QuietTail es
quiet_tail {es = es} (calm h c x q) = tail_of es q
quiet_tail (writes h s o d b q) = q
quiet_tail (writes_half h k) = tt
quiet_tail (writes_rest m v h ne d b q) = q
quiet_tail (draws byte h p lt uu d b q) = q
quiet_tail {es = es} (fills byte h k g dd q) = tail_of es q
quiet_tail {es = es} (draws_none h le q) = tail_of es q
quiet_tail {es = es} (draws_more h k q) = tail_of es q
quiet_tail {es = es} (fills_more h k p le zz uu q) = tail_of es q
quiet_tail (fills_last h k p le uu f z d b q) = q
quiet_tail (ends bytes h d g f b q) = q
quiet_tail (takes at opaque h d b q) = q
quiet_tail {es = es} (gives_start opaque h g q) = tail_of es q
quiet_tail {es = es} (gives_opaque at h g q) = tail_of es q
quiet_tail {es = es} (lets h q) = tail_of es q
quiet_tail (begins_here h q) = q
quiet_tail (leaves_here h d b q) = q

acting_whole : {u : Setup} {a : ℕ} {r : List Placed} → IsActing u a r → half r ≡ whole
acting_whole (inl k) = turns_whole k.1
acting_whole {r = r} (inr k) = idle_whole r k

none_drawn : (r : List Placed) (i : ℕ) → drawn r ≡ [] → first_drawn (drawn r) ≡ Some i → ⊥
none_drawn r i e f = cc (ap first_drawn e, f)

drawn_look : (t : Placed) (r : List Placed) → (name_of t.step.word ≡ Cons → ⊥) → t.events ≡ [] → drawn (t ∷ r) ≡ drawn r
drawn_look t r w e = (λ i. if has_bytes (e i) then [] else drawn_next (name_of t.step.word) t.step.op t.step.answer (drawn r)) ∙ go (name_of t.step.word) t.step.op w
  where
    go : (w : Word) (op : WordOp) → (w ≡ Cons → ⊥) → drawn_next w op t.step.answer (drawn r) ≡ drawn r
    go Cons op f = absurd (f refl)
    go w op f = refl

idle_drawn : (r : List Placed) → IsIdle r → drawn r ≡ []
idle_drawn [] k = refl
idle_drawn (t ∷ r) k = drawn_look t r (λ z. cc (k.0, z)) k.2 ∙ idle_drawn r k.3

turns_drawn : {u : Setup} {a : ℕ} {r : List Placed} → IsTurns u a r → drawn r ≡ []
turns_drawn none = refl
turns_drawn (turn r ts old p) = p.all.places
turns_drawn (looks r t old n o e) = drawn_look t r (λ z. cc (n, z)) e ∙ turns_drawn old

acting_drawn : {u : Setup} {a : ℕ} {r : List Placed} → IsActing u a r → drawn r ≡ []
acting_drawn (inl k) = turns_drawn k.1
acting_drawn {r = r} (inr k) = idle_drawn r k

idle_stored : (r : List Placed) → IsIdle r → unstored r ≡ None
idle_stored [] k = refl
idle_stored (t ∷ r) k = (λ i. unstored_next (k.0 i) (k.1 i) t.step.answer (bytes_of t.events) (unstored r)) ∙ idle_stored r k.3

turns_stored : {u : Setup} {a : ℕ} {r : List Placed} → IsTurns u a r → unstored r ≡ None
turns_stored none = refl
turns_stored (turn r ts old p) = p.all.bytes
turns_stored (looks r t old n o e) = (λ i. unstored_next (n i) (o i) t.step.answer (bytes_of t.events) (unstored r)) ∙ turns_stored old

acting_stored : {u : Setup} {a : ℕ} {r : List Placed} → IsActing u a r → unstored r ≡ None
acting_stored (inl k) = turns_stored k.1
acting_stored {r = r} (inr k) = idle_stored r k

abbrev Due : Setup → ℕ → List Event → Type 0
Due u a run = is_due u.limit run a (own_of a run (own (hart (initial u) a))).count ≡ false

turns_due : {u : Setup} {a : ℕ} {r : List Placed} → IsTurns u a r → Due u a (run_of r)
turns_due none = refl
turns_due (turn r ts old p) = p.all.stops
turns_due {u} {a} (looks r t old n o e) = subst (λ es. Due u a (es ++ run_of r)) (sym e) (turns_due old)

idle_run : (r : List Placed) → IsIdle r → run_of r ≡ []
idle_run [] k = refl
idle_run (t ∷ r) k = ap (λ es. es ++ run_of r) k.2 ∙ idle_run r k.3

acting_due : {u : Setup} {a : ℕ} {r : List Placed} → IsActing u a r → Due u a (run_of r)
acting_due (inl k) = turns_due k.1
acting_due {u} {a} {r} (inr k) = subst (Due u a) (sym (idle_run r k)) refl

module _ (u : Setup) (boot : List Step) (runs : ℕ → Bool) (begun : IsBegun u boot) (ran : (k : ℕ) → k < u.layout.harts → runs k ≡ runs_first k) where
  quiet_run : (t : Placed) (ts : List Placed) → IsHistory u.layout runs (history boot (t ∷ ts)) → Told u (t ∷ ts) → t.step.actor ≢ loader → IsRun u (run_of ts)
      → (es : List Event) → AllFit u t.step.actor t.step (mine t.step.actor ts) es → QuietTail es → IsRun u (es ++ run_of ts)
  quiet_run t ts h d ne ih [] f q = ih
  quiet_run t ts h d ne ih (e ∷ es) f q = (
    lawful u boot runs begun ran t ts h d ne es q (by_fit u t.step.actor t.step (mine t.step.actor ts) es f.2) e f.0 f.1,
    quiet_run t ts h d ne ih es f.2 (tail_of es q),
  )

  pub is_run : (ts : List Placed) → IsHistory u.layout runs (history boot ts) → Told u ts → IsRun u (run_of ts)
  is_run [] h d = tt
  is_run (t ∷ ts) h d = go d.0.who (is_run ts (history_tail u runs t.step (history boot ts) h) d.1)
    where
      go : (t.step.actor ≢ loader) ⊎ IsIdleStep t → IsRun u (run_of ts) → IsRun u (t.events ++ run_of ts)
      go (inl ne) ih = quiet_run t ts h d ne ih t.events d.0.right.fit (quiet_tail d.0.right.accounts)
      go (inr i) ih = subst (λ es. IsRun u (es ++ run_of ts)) (sym i.2) ih

  -- nothing is left open at the end
  settled_run : (ts : List Placed) (h : List Step) (records : ℕ → List Placed) → steps ts ≡ h → ((a : ℕ) → mine a ts ≡ records a) → ((a : ℕ) → IsActing u a (records a))
      → IsHistory u.layout runs (history boot ts) → Told u ts → Composed u boot h records
  settled_run ts h records is kept acts j d = record {
    run = run_of ts;
    is_run = is_run ts j d;
    reads = record { all = ts; order = is; kept = kept; events = refl };
    told = d;
    memory_is = λ x sx. ap (λ l. value_at x (l ++ boot)) (sym is) ∙ by_agree x ((agrees_of u boot runs begun ts j d).agree x sx);
    modes_are = λ k lt. ap (λ l. mode_named (value_at (number_of (Hsm k)) (l ++ boot))) (sym is) ∙ sym (modes_of u boot runs begun ran ts j d k lt);
    reason_is = ap (λ l. value_at (number_of Stop) (l ++ boot)) (sym is) ∙ reason_of u boot runs begun ts j d;
    output_is = subst (λ l. Full (value_at (number_of Cons) (l ++ boot)) (length (state_of u (run_of ts)).output)) is (by_out (out_of u boot runs begun ts j d));
    console_is = λ i b e. ap (λ l. value_at (number_of (Console i)) (l ++ boot)) (sym is) ∙ by_place i b ((places_of u boot runs begun ts j d).text i b e);
    settled = record {
      limits = λ k lt. by_due k (subst (λ n. k < n) (run_length u (run_of ts)) lt);
      stopped = by_stopped;
    };
  }
    where
      by_agree : (x : ℕ) → Agree u boot x ts → value_at x (history boot ts) ≡ memory u (state_of u (run_of ts)) x
      by_agree x (inl e) = e
      by_agree x (inr k) = absurd (cc (acting_whole (acts k.0), ap half (kept k.0), k.2))

      by_place : (i b : ℕ) → (place boot ts i ≡ b + 256) ⊎ ((a : ℕ) × (unstored (mine a ts) ≡ owes i b)) → place boot ts i ≡ b + 256
      by_place i b (inl v) = v
      by_place i b (inr k) = absurd (cc (sym (acting_stored (acts k.0)) ∙ (sym (ap unstored (kept k.0)) ∙ k.1)))

      by_out : Out u boot ts → Full (value_at (number_of Cons) (history boot ts)) (length (state_of u (run_of ts)).output)
      by_out (shut fl pend) = fl
      by_out (open_by a i k) = absurd (none_drawn (records a) i (acting_drawn (acts a)) (sym (ap (λ l. first_drawn (drawn l)) (kept a)) ∙ k.first))

      by_due : (k : ℕ) → k < length (initial u).harts → is_due u.limit (run_of ts) k (hart (state_of u (run_of ts)) k).count ≡ false
      by_due k lt = sym (λ i. passes counts (last_is i) && ((part_is i).count == u.limit)) ∙ acting_due (acts k)
        where
          last_is : last_of k (run_of (records k)) ≡ last_of k (run_of ts)
          last_is = sym (ap (λ l. last_of k (run_of l)) (kept k)) ∙ last_of_run k ts (owned u ts d)

          part_is : part_at u k (records k) ≡ own (hart (state_of u (run_of ts)) k)
          part_is = sym (part_of_run u k ts (owned u ts d) lt ∙ ap (part_at u k) (kept k))

      by_stopped : IsTrue (all_halted (state_of u (run_of ts))) → HasSince leaves says_all_stopped (run_of ts)
      by_stopped e =
          let k = stop_law.leaves u.layout runs (history boot ts) begun.limits.harts j (behind u boot runs begun ran ts d) (λ k lt. one_of k lt (all_there (state_of u (run_of ts)).harts k e (lt_there k lt)))
          (λ a lt. ap (is_owing a) (own_history boot a ts (begun.alone a (λ z. no_loader a lt z))) ∙ (ap (λ l. is_owing a (steps l)) (kept a) ∙ left_acting (acts a))) in
          said_run u boot k.0 (begun.alone k.0 k.1) k.1 ts d k.3
          (subst Said (sym (kept k.0)) (said_acting (acts k.0) (sym (ap (λ l. was_last k.0 (steps l)) (kept k.0)) ∙ (sym (ap (was_last k.0) (own_history boot k.0 ts (begun.alone k.0 k.1))) ∙ k.2))))
        where
          lt_there : (k : ℕ) → k < u.layout.harts → k < length (state_of u (run_of ts)).harts
          lt_there k lt = subst (λ n. k < n) (sym (run_length u (run_of ts) ∙ harts_there u begun.limits.some_hart)) lt

          no_loader : (a : ℕ) → a < u.layout.harts → a ≡ loader → ⊥
          no_loader a lt z = let p = begun.limits.harts in omega (arith, lt, z, p)

          all_there : (hs : List Hart) (k : ℕ) → list_all (λ t. is_halted t.mode) hs ≡ true → k < length hs → is_halted (nth hs k).mode ≡ true
          all_there [] k e lt = absurd (omega (arith, lt))
          all_there (t ∷ hs) zero e lt = (and_parts (is_halted t.mode) (list_all (λ t. is_halted t.mode) hs) e).0
          all_there (t ∷ hs) (suc k) e lt = all_there hs k (and_parts (is_halted t.mode) (list_all (λ t. is_halted t.mode) hs) e).1 (omega (arith, lt))

          named_one : (n : ℕ) (m : Mode) → m ≡ mode_named n → is_halted m ≡ true → n ≡ 1
          named_one zero m e h = absurd (cc (ap is_halted e, h))
          named_one (suc zero) m e h = refl
          named_one (suc (suc n)) m e h = absurd (cc (ap is_halted e, h))

          one_of : (k : ℕ) → k < u.layout.harts → is_halted (nth (state_of u (run_of ts)).harts k).mode ≡ true → value_at (number_of (Hsm k)) (history boot ts) ≡ 1
          one_of k lt h = named_one (value_at (number_of (Hsm k)) (history boot ts)) (mode_of (state_of u (run_of ts)) k) (modes_of u boot runs begun ran ts j d k lt) h

  -- records that fit one history and are cut in turns give a run
  pub composed : (h : List Step) (records : ℕ → List Placed) → IsHistory u.layout runs (h ++ boot) → ((a : ℕ) → steps (records a) ≡ own_steps a h) → ((a : ℕ) → IsActing u a (records a))
      → Composed u boot h records
  composed h records i e acts =
      let w = weave h records e in
      settled_run w.0 h records w.1 w.2 acts (subst (λ x. IsHistory u.layout runs (x ++ boot)) (sym w.1) i) (told_of u w.0 records w.2 acts)

pub composition : Composition
composition u boot h runs records loaded i e acts =
    let begun : IsBegun u boot = begun_of u boot h runs i loaded in
    composed u boot runs begun (ran_of u boot h runs i loaded) h records i e acts
