-- HSM words are the harts' modes.
use Rattle.std.proofs.Common.{◌≡◌, ◌≢◌, ◌⊎◌, ℕ, ◌<◌, ◌≤◌, Bool, true, false, List, [], ◌∷◌, ◌++◌, Some, None, refl, sym, ap, subst, ◌∙◌, inl, inr, arith, eq-eqb, ne_eqb, length}
use Rattle.std.specs.Prelude.{◌==◌, if◌then◌else◌}
use Rattle.std.proofs.lemmas.Bool.{cases_eq}
use Rattle.step_laws.specs.declared.steps.Step.{Step}
use Rattle.step_laws.specs.declared.steps.WordOp.{WordOp}
use Rattle.step_laws.specs.declared.steps.WordOp.TheVariants.{Load, Store, Exchange}
use Rattle.step_laws.specs.Map.{Word, Hsm, name_of, number_of}
use Rattle.step_laws.specs.Words.{loader}
use Rattle.step_laws.specs.Steps.{own_steps, value_at, new_of, answer_of}
use Rattle.step_laws.specs.Harts.{opening}
use Rattle.step_laws.specs.Discipline.{IsActor, IsPermitted, by_loader, by_actor, ActorMay, end_start}
use Rattle.step_laws.specs.Histories.{IsHistory}
use Rattle.run_laws.proofs.Stepping.{woven, stop_law}
use Rattle.step_laws.proofs.Named.{name_number, number_name}
use Rattle.machine_model.specs.declared.mode.Mode.{Mode}
use Rattle.machine_model.specs.declared.mode.Mode.TheVariants.{Started, Halted, Pending}
use Rattle.machine_model.specs.Event.{Event, did_of, actor_of}
use Rattle.machine_model.specs.State.{Setup, mode_of, is_started}
use Rattle.machine_model.specs.Run.{state_of}
use Rattle.machine_model.proofs.Uniform.{run_length}
use Rattle.run_laws.proofs.Placed.{Placed, run_of, mine, By}
use Rattle.turn_pieces.specs.Shared.{IsShared, mode_named}
use Rattle.run_laws.proofs.Fits.{runs_first}
use Rattle.run_laws.proofs.Accounts.{AreQuiet, Accounts, calm, writes, writes_half, writes_rest, draws, fills, draws_none, draws_more, fills_more, fills_last, ends, takes, gives_start, gives_opaque, lets, begins_here, leaves_here}
use Rattle.turn_pieces.specs.Doing.{IsCalm, is_begin}
use Rattle.run_laws.proofs.Beginning.{IsBegun, history}
use Rattle.run_laws.proofs.Used.{IsOpening}
use Rattle.run_laws.proofs.Pieces.{Told, IsIdleStep}
use Rattle.run_laws.proofs.Weave.{behind}
use Rattle.run_laws.proofs.States.{mode_next, started_mode, mode_after, mode_none, modes_quiet, harts_there}
use Rattle.run_laws.proofs.Shared.{mk, Still, value_still, value_other}
use Rattle.run_laws.proofs.Agree.{history_tail}
use Rattle.run_laws.proofs.Own.{by_fit}
use Rattle.run_laws.proofs.Stands.{answer_old}

abbrev IsHsm : Word → Type 0
IsHsm (Hsm t) = Unit {0}
IsHsm _ = ⊥

-- the ways of a step with regard to harts' modes
pub data Turns (a : ℕ) (w : Word) (op : WordOp) (arg answer : ℕ) : List Event → Type 0 where
  keeps : {es : List Event} → (IsHsm w → Still op answer) → AreQuiet es → Turns a w op arg answer es
  moves : {e : Event} {es : List Event} → (IsHsm w → ⊥) → (did_of e).starts ≡ None → (did_of e).stops ≡ false → is_begin e ≡ false → AreQuiet es → Turns a w op arg answer (e ∷ es)
  opens : {e : Event} {es : List Event} (t at opaque : ℕ) → w ≡ Hsm t → op ≡ Exchange 1 → arg ≡ 3 → answer ≡ 1 → (did_of e).starts ≡ Some (record { target = t; at = at; opaque = opaque })
      → (did_of e).stops ≡ false → is_begin e ≡ false → AreQuiet es → Turns a w op arg answer (e ∷ es)
  hands : {es : List Event} (t : ℕ) → w ≡ Hsm t → op ≡ Store → arg ≡ 2 → AreQuiet es → Turns a w op arg answer es
  starts : {e : Event} {es : List Event} → w ≡ Hsm a → op ≡ Store → arg ≡ 0 → (did_of e).starts ≡ None → is_begin e ≡ true → AreQuiet es → Turns a w op arg answer (e ∷ es)
  stops : {e : Event} {es : List Event} → w ≡ Hsm a → op ≡ Store → arg ≡ 1 → (did_of e).starts ≡ None → (did_of e).stops ≡ true → is_begin e ≡ false → AreQuiet es → Turns a w op arg answer (e ∷ es)

calm_hsm : (w : Word) (op : WordOp) (answer : ℕ) → IsHsm w → IsCalm w op answer → Still op answer
calm_hsm (Hsm t) Load answer s c = tt
calm_hsm (Hsm t) (Exchange old) answer s c = c
calm_hsm (Hsm t) op answer s c = absurd c
calm_hsm w op answer s c = absurd s

pub turns_of : {u : Setup} {a : ℕ} {r : List Placed} {n : ℕ} {w : Word} {op : WordOp} {arg answer : ℕ} {es : List Event} → Accounts u a r n w op arg answer es → Turns a w op arg answer es
turns_of {w = w} {op = op} {answer = answer} (calm h c x q) = keeps (λ s. calm_hsm w op answer s c) q
turns_of {w = w} (writes h s o d b q) = moves (λ k. shared_not w s k) d.starts_is d.stops_is b q
  where
    shared_not : (w : Word) → IsShared w → IsHsm w → ⊥
    shared_not (Hsm t) s k = s
    shared_not w s k = k
turns_of (writes_half h k) = keeps (λ s. absurd s) tt
turns_of (writes_rest m v h ne d b q) = moves (λ s. s) d.starts_is d.stops_is b q
turns_of (draws byte h p lt uu d b q) = moves (λ s. s) d.starts_is d.stops_is b q
turns_of (fills byte h k g dd q) = keeps (λ s. absurd s) q
turns_of (draws_none h le q) = keeps (λ s. absurd s) q
turns_of (draws_more h k q) = keeps (λ s. absurd s) q
turns_of (fills_more h k p le zz uu q) = keeps (λ s. absurd s) q
turns_of (fills_last h k p le uu f z d b q) = moves (λ s. s) d.starts_is d.stops_is b q
turns_of (ends bytes h d g f b q) = moves (λ s. s) d.starts_is d.stops_is b q
turns_of (takes {t = t} at opaque h d b q) = opens t at opaque refl refl refl refl d.starts_is d.stops_is b q
turns_of (gives_start opaque h g q) = keeps (λ s. absurd s) q
turns_of (gives_opaque at h g q) = keeps (λ s. absurd s) q
turns_of (lets {t = t} h q) = hands t refl refl refl q
turns_of (begins_here h q) = starts refl refl refl refl refl q
turns_of (leaves_here h d b q) = stops refl refl refl d.starts_is d.stops_is b q

hsm_of : (n t : ℕ) → name_of n ≡ Hsm t → n ≡ number_of (Hsm t)
hsm_of n t e = sym (number_name n) ∙ ap number_of e

hsm_name : (n h : ℕ) → h ≤ 8 → number_of (Hsm h) ≡ n → name_of n ≡ Hsm h
hsm_name n h le e = ap name_of (sym e) ∙ name_number (Hsm h) le

hsm_same : (t h : ℕ) → number_of (Hsm h) ≡ number_of (Hsm t) → h ≡ t
hsm_same t h e = omega (arith, e)

if_true : {A : Type 0} (b : Bool) (x y : A) → b ≡ true → (if b then x else y) ≡ x
if_true b x y e = ap (λ (c : Bool). if c then x else y) e

if_false : {A : Type 0} (b : Bool) (x y : A) → b ≡ false → (if b then x else y) ≡ y
if_false b x y e = ap (λ (c : Bool). if c then x else y) e

abbrev pub ModesAgree : Setup → List Step → List Placed → Type 0
ModesAgree u boot ts = (h : ℕ) → h < u.layout.harts → mode_of (state_of u (run_of ts)) h ≡ mode_named (value_at (number_of (Hsm h)) (history boot ts))

module _ (u : Setup) (boot : List Step) (runs : ℕ → Bool) (begun : IsBegun u boot) (ran : (k : ℕ) → k < u.layout.harts → runs k ≡ runs_first k) where
  module _ (c n : ℕ) (op : WordOp) (arg answer : ℕ) (ts : List Placed) (hist : IsHistory u.layout runs (mk c n op arg answer ∷ history boot ts)) (ok : ModesAgree u boot ts) (h : ℕ) (lt : h < u.layout.harts) where
    answered : answer ≡ answer_of op (value_at n (history boot ts))
    answered = (woven u.layout runs (mk c n op arg answer ∷ history boot ts) hist).0.answered

    small : h ≤ 8
    small = let p = begun.limits.harts in omega (arith, lt, p)

    value_keeps : (IsHsm (name_of n) → Still op answer) → value_at (number_of (Hsm h)) (mk c n op arg answer ∷ history boot ts) ≡ value_at (number_of (Hsm h)) (history boot ts)
    value_keeps f = elim (cases_eq (number_of (Hsm h)) n) [
      | inl e ↦ value_still c n op arg answer (number_of (Hsm h)) (history boot ts) answered (f (subst IsHsm (sym (hsm_name n h small e)) tt))
      | inr away ↦ value_other c n op arg answer (number_of (Hsm h)) (history boot ts) away
    ]

    value_away : (t : ℕ) → name_of n ≡ Hsm t → h ≢ t → value_at (number_of (Hsm h)) (mk c n op arg answer ∷ history boot ts) ≡ value_at (number_of (Hsm h)) (history boot ts)
    value_away t w away = value_other c n op arg answer (number_of (Hsm h)) (history boot ts) (λ e. away (hsm_same t h (e ∙ hsm_of n t w)))

    value_set : (t : ℕ) → name_of n ≡ Hsm t → h ≡ t → value_at (number_of (Hsm h)) (mk c n op arg answer ∷ history boot ts) ≡ new_of op (value_at (number_of (Hsm h)) (history boot ts)) arg
    value_set t w e = if_true (number_of (Hsm h) == n) (new_of op (value_at (number_of (Hsm h)) (history boot ts)) arg) (value_at (number_of (Hsm h)) (history boot ts))
        (eq-eqb (number_of (Hsm h)) n (ap (λ y. number_of (Hsm y)) e ∙ sym (hsm_of n t w)))

    there : (run : List Event) → h < length (state_of u run).harts
    there run = subst (λ k. h < k) (sym (run_length u run ∙ harts_there u begun.limits.some_hart)) lt

    below : (es : List Event) → AreQuiet es → mode_of (state_of u (es ++ run_of ts)) h ≡ mode_of (state_of u (run_of ts)) h
    below es q = modes_quiet u es (run_of ts) h (subst (λ k. h < k) (sym (harts_there u begun.limits.some_hart)) lt) q

    -- an event by the actor c that starts no hart
    own_mode : (e : Event) (es : List Event) → actor_of e ≡ c → (did_of e).starts ≡ None → AreQuiet es → mode_of (state_of u (e ∷ (es ++ run_of ts))) h ≡ (if c == h then mode_next e (mode_of (state_of u (run_of ts)) h) else mode_of (state_of u (run_of ts)) h)
    own_mode e es a n q = mode_after e (state_of u (es ++ run_of ts)) h (there (es ++ run_of ts))
        ∙ (ap (λ o. started_mode o h (if actor_of e == h then mode_next e (mode_of (state_of u (es ++ run_of ts)) h) else mode_of (state_of u (es ++ run_of ts)) h)) n
        ∙ (λ i. if a i == h then mode_next e (below es q i) else below es q i))

    mode_set : (e : Event) (m k : Mode) (v : ℕ) → c ≡ h → mode_next e m ≡ mode_named v → (if c == h then mode_next e m else m) ≡ mode_named v
    mode_set e m k v is j = if_true (c == h) (mode_next e m) m (eq-eqb c h is) ∙ j

    modes_step : (es : List Event) → By c es → Turns c (name_of n) op arg answer es → (op ≡ Store → arg ≡ 2 → (t : ℕ) → name_of n ≡ Hsm t → value_at (number_of (Hsm t)) (history boot ts) ≡ 3)
        → mode_of (state_of u (es ++ run_of ts)) h ≡ mode_named (value_at (number_of (Hsm h)) (mk c n op arg answer ∷ history boot ts))
    modes_step es b (keeps f q) three = below es q ∙ (ok h lt ∙ ap mode_named (sym (value_keeps f)))
    modes_step es b (moves {e = e} {es = more} f s st g q) three =
        mode_none e (state_of u (more ++ run_of ts)) h (there (more ++ run_of ts)) s st g ∙ (below more q ∙ (ok h lt ∙ ap mode_named (sym (value_keeps (λ k. absurd (f k))))))
    modes_step es b (opens {e = e} {es = more} t at opaque w o ar an s st g q) three = elim (cases_eq h t) [ inl is ↦ taken_here is | inr away ↦ taken_other away ]
      where
        rest : mode_of (state_of u (e ∷ (more ++ run_of ts))) h ≡ (if t == h then (if is_started (mode_of (state_of u (run_of ts)) h) then Started else Pending) else mode_of (state_of u (run_of ts)) h)
        rest = mode_after e (state_of u (more ++ run_of ts)) h (there (more ++ run_of ts))
            ∙ ((λ i. started_mode (s i) h (keep (actor_of e == h) i)) ∙ ap (λ m. if t == h then (if is_started m then Started else Pending) else m) (below more q))
          where
            keep : (v : Bool) → (if v then mode_next e (mode_of (state_of u (more ++ run_of ts)) h) else mode_of (state_of u (more ++ run_of ts)) h) ≡ mode_of (state_of u (more ++ run_of ts)) h
            keep true = λ i. if g i then Started else (if st i then Halted else mode_of (state_of u (more ++ run_of ts)) h)
            keep false = refl

        taken_here : h ≡ t → mode_of (state_of u (e ∷ (more ++ run_of ts))) h ≡ mode_named (value_at (number_of (Hsm h)) (mk c n op arg answer ∷ history boot ts))
        taken_here is =
            let old : value_at (number_of (Hsm h)) (history boot ts) ≡ 1 = ap (λ y. value_at y (history boot ts)) (ap (λ y. number_of (Hsm y)) is ∙ sym (hsm_of n t w)) ∙ (sym (answered ∙ ap (λ p. answer_of p (value_at n (history boot ts))) o) ∙ an) in
            rest ∙ (if_true (t == h) (if is_started (mode_of (state_of u (run_of ts)) h) then Started else Pending) (mode_of (state_of u (run_of ts)) h) (eq-eqb t h (sym is))
            ∙ (ap (λ m. if is_started m then Started else Pending) (ok h lt ∙ ap mode_named old)
            ∙ ap mode_named (sym (value_set t w is ∙ ((λ i. new_of (o i) (old i) (ar i)))))))

        taken_other : h ≢ t → mode_of (state_of u (e ∷ (more ++ run_of ts))) h ≡ mode_named (value_at (number_of (Hsm h)) (mk c n op arg answer ∷ history boot ts))
        taken_other away = rest ∙ (if_false (t == h) (if is_started (mode_of (state_of u (run_of ts)) h) then Started else Pending) (mode_of (state_of u (run_of ts)) h) (ne_eqb t h (λ k. away (sym k)))
            ∙ (ok h lt ∙ ap mode_named (sym (value_away t w away))))
    modes_step es b (hands t w o ar q) three = elim (cases_eq h t) [
      | inl is ↦ below es q ∙ (ok h lt ∙ (ap mode_named (ap (λ y. value_at (number_of (Hsm y)) (history boot ts)) is ∙ three o ar t w)
          ∙ ap mode_named (sym (value_set t w is ∙ (λ i. new_of (o i) (value_at (number_of (Hsm h)) (history boot ts)) (ar i))))))
      | inr away ↦ below es q ∙ (ok h lt ∙ ap mode_named (sym (value_away t w away)))
    ]
    modes_step es b (starts {e = e} {es = more} w o ar s g q) three = own_mode e more b.0 s q ∙ elim (cases_eq h c) [
      | inl is ↦ mode_set e (mode_of (state_of u (run_of ts)) h) Started 0 (sym is) (ap (λ (v : Bool). if v then Started else (if (did_of e).stops then Halted else mode_of (state_of u (run_of ts)) h)) g)
          ∙ ap mode_named (sym (value_set c w is ∙ (λ i. new_of (o i) (value_at (number_of (Hsm h)) (history boot ts)) (ar i))))
      | inr away ↦ if_false (c == h) (mode_next e (mode_of (state_of u (run_of ts)) h)) (mode_of (state_of u (run_of ts)) h) (ne_eqb c h (λ k. away (sym k))) ∙ (ok h lt ∙ ap mode_named (sym (value_away c w away)))
    ]
    modes_step es b (stops {e = e} {es = more} w o ar s st g q) three = own_mode e more b.0 s q ∙ elim (cases_eq h c) [
      | inl is ↦ mode_set e (mode_of (state_of u (run_of ts)) h) Halted 1 (sym is) (λ i. if g i then Started else (if st i then Halted else mode_of (state_of u (run_of ts)) h))
          ∙ ap mode_named (sym (value_set c w is ∙ (λ i. new_of (o i) (value_at (number_of (Hsm h)) (history boot ts)) (ar i))))
      | inr away ↦ if_false (c == h) (mode_next e (mode_of (state_of u (run_of ts)) h)) (mode_of (state_of u (run_of ts)) h) (ne_eqb c h (λ k. away (sym k))) ∙ (ok h lt ∙ ap mode_named (sym (value_away c w away)))
    ]

  pub actor_of_step : (s : Step) (h : List Step) → IsHistory u.layout runs (s ∷ h) → s.actor ≢ loader → IsActor u.layout s.actor
  actor_of_step s h i ne = go (woven u.layout runs (s ∷ h) i).0.permitted
    where
      go : IsPermitted u.layout s.actor (runs s.actor) (own_steps s.actor h) (name_of s.word) s.op s.arg → IsActor u.layout s.actor
      go (by_loader e m) = absurd (ne e)
      go (by_actor k f m) = k

  let_of : (a : ℕ) (r : List Step) (w : Word) (op : WordOp) (arg t : ℕ) → ActorMay u.layout a (runs a) r w op arg → op ≡ Store → arg ≡ 2 → w ≡ Hsm t → IsOpening t (opening r)
  let_of a r w op arg t (end_start {h = x} p) o ar e = subst (IsOpening t) (sym p) (cc (e))
  let_of a r w op arg t k o ar e = absurd (cc (o, ar, e))

  pub modes_of : (ts : List Placed) → IsHistory u.layout runs (history boot ts) → Told u ts → ModesAgree u boot ts
  modes_of [] hist d h lt = sym (begun.modes h lt)
  modes_of (t ∷ ts) hist d h lt = go d.0.who (modes_of ts (history_tail u runs t.step (history boot ts) hist) d.1)
    where
      three : t.step.actor ≢ loader → t.step.op ≡ Store → t.step.arg ≡ 2 → (k : ℕ) → name_of t.step.word ≡ Hsm k → value_at (number_of (Hsm k)) (history boot ts) ≡ 3
      three ne o ar k w = stop_law.opens u.layout runs (history boot ts) t.step.actor k begun.limits.harts (history_tail u runs t.step (history boot ts) hist) (behind u boot runs begun ran ts d.1)
          (actor_of_step t.step (history boot ts) hist ne) (by (woven u.layout runs (history boot (t ∷ ts)) hist).0.permitted)
        where
          by : IsPermitted u.layout t.step.actor (runs t.step.actor) (own_steps t.step.actor (history boot ts)) (name_of t.step.word) t.step.op t.step.arg → IsOpening k (opening (own_steps t.step.actor (history boot ts)))
          by (by_loader e m) = absurd (ne e)
          by (by_actor j f m) = let_of t.step.actor (own_steps t.step.actor (history boot ts)) (name_of t.step.word) t.step.op t.step.arg k m o ar w

      go : (t.step.actor ≢ loader) ⊎ IsIdleStep t → ModesAgree u boot ts → mode_of (state_of u (t.events ++ run_of ts)) h ≡ mode_named (value_at (number_of (Hsm h)) (history boot (t ∷ ts)))
      go (inl ne) ok = modes_step t.step.actor t.step.word t.step.op t.step.arg t.step.answer ts hist ok h lt t.events
          (by_fit u t.step.actor t.step (mine t.step.actor ts) t.events d.0.right.fit) (turns_of d.0.right.accounts) (three ne)
      go (inr i) ok = modes_step t.step.actor t.step.word t.step.op t.step.arg t.step.answer ts hist ok h lt t.events
          (subst (By t.step.actor) (sym i.2) tt) (keeps (λ s. absurd (subst IsHsm i.0 s)) (subst AreQuiet (sym i.2) tt)) (λ o ar k w. absurd (cc (i.0, w)))

  -- what a step on HSM answered, but for a store, is its hart's mode
  pub mode_answered : (t : Placed) (ts : List Placed) → IsHistory u.layout runs (history boot (t ∷ ts)) → Told u (t ∷ ts) → (es : List Event) → AreQuiet es
      → (h : ℕ) → h < u.layout.harts → name_of t.step.word ≡ Hsm h → t.step.op ≢ Store → mode_of (state_of u (es ++ run_of ts)) h ≡ mode_named t.step.answer
  mode_answered t ts hist d es q h lt w o =
      modes_quiet u es (run_of ts) h (subst (λ k. h < k) (sym (harts_there u begun.limits.some_hart)) lt) q
      ∙ (modes_of ts (history_tail u runs t.step (history boot ts) hist) d.1 h lt
      ∙ ap mode_named (ap (λ y. value_at y (history boot ts)) (sym (hsm_of t.step.word h w)) ∙ sym (answer_old t.step.op (value_at t.step.word (history boot ts)) t.step.answer o (woven u.layout runs (history boot (t ∷ ts)) hist).0.answered)))
