-- A hart that found its start pending: what it loaded of it is what was given, and what it flushed it flushed since.
use Rattle.std.proofs.Common.{◌≡◌, ◌≢◌, ◌⊎◌, ℕ, ◌<◌, Bool, true, false, List, [], ◌∷◌, ◌++◌, Option, Some, None, refl, sym, ap, subst, ◌∙◌, inl, inr, eq-eqb, ne_eqb, length}
use Rattle.std.specs.Prelude.{◌&&◌, ◌||◌, if◌then◌else◌}
use Rattle.std.specs.List.{list_any}
use Rattle.std.proofs.lemmas.Bool.{cases_eq, and_parts}
use Rattle.rv64_priv.specs.Flush.{Full}
use Rattle.step_laws.specs.declared.words.Layout.{Layout}
use Rattle.step_laws.specs.declared.steps.Step.{Step}
use Rattle.step_laws.specs.declared.steps.WordOp.{WordOp}
use Rattle.step_laws.specs.declared.steps.WordOp.TheVariants.{Load, Store, Exchange}
use Rattle.step_laws.specs.Map.{Word, Hsm, Start, Opaque, name_of, number_of, same}
use Rattle.step_laws.specs.Words.{loader}
use Rattle.step_laws.specs.Steps.{own_steps, value_at, answer_of}
use Rattle.step_laws.specs.Harts.{idle, with_start, with_both, call_of, taking, taking_next}
use Rattle.step_laws.specs.Discipline.{IsPermitted, by_loader, by_actor, ActorMay, load_start, load_opaque, load_hsm, take_start, end_start, stop as halts}
use Rattle.step_laws.specs.Histories.{IsHistory}
use Rattle.run_laws.proofs.Stepping.{woven, stop_law}
use Rattle.step_laws.proofs.Named.{by_test, number_name, same_true}
use Rattle.machine_model.specs.Past.{HasSince, this, before}
use Rattle.machine_model.specs.Event.{Event, did_of}
use Rattle.machine_model.specs.State.{Setup, hart, initial}
use Rattle.machine_model.specs.Run.{state_of, starts_hart, is_target, flushes}
use Rattle.machine_model.proofs.Uniform.{Passing, has_more, run_length}
use Rattle.run_laws.proofs.Placed.{Placed, steps, run_of, mine}
use Rattle.run_laws.proofs.Kept.{handed_word, flushed_waiting}
use Rattle.turn_pieces.specs.Folds.{handed_on_next, is_waiting, flushed_all_next}
use Rattle.run_laws.proofs.Fits.{runs_first}
use Rattle.run_laws.proofs.Beginning.{IsBegun, history}
use Rattle.run_laws.proofs.Pieces.{Told, IsIdleStep}
use Rattle.run_laws.proofs.Weave.{behind}
use Rattle.run_laws.proofs.States.{gift, gift_next, gift_after, harts_there}
use Rattle.run_laws.proofs.Agree.{history_tail, own_history}
use Rattle.run_laws.proofs.Stands.{answer_old}
use Rattle.run_laws.proofs.Gifts.{NoStarts, gifts_none, Gives, keeps, counts, opens, first, second, hands, turns, gives_of, gifts_of, gift_at, value_of}

abbrev OwnStore : ℕ → Word → WordOp → Type 0
OwnStore c (Hsm t) Store = c ≡ t
OwnStore c _ _ = ⊥

-- what is known behind a step was known before, or the step loaded it
handed_split : (c : ℕ) (w x : Word) (op : WordOp) (answer v : ℕ) (k : Option ℕ) → handed_on_next c w x op answer k ≡ Some v
    → ((k ≡ Some v) × (OwnStore c x op → ⊥)) ⊎ ((op ≡ Load) × (x ≡ w) × (answer ≡ v))
handed_split c w (Hsm t) Store answer v k h = by_test c t (λ b. (if b then None else k) ≡ Some v → ((k ≡ Some v) × (c ≡ t → ⊥)) ⊎ ((Store ≡ Load) × (Hsm t ≡ w) × (answer ≡ v)))
    (λ e h. absurd (cc (h))) (λ ne h. inl (h, ne)) h
handed_split c w x Load answer v k h = go (same w x) refl h
  where
    no_store : (x : Word) → OwnStore c x Load → ⊥
    no_store (Hsm t) s = s
    no_store x s = s

    go : (b : Bool) → same w x ≡ b → (if b then Some answer else k) ≡ Some v → ((k ≡ Some v) × (OwnStore c x Load → ⊥)) ⊎ ((Load ≡ Load) × (x ≡ w) × (answer ≡ v))
    go true e h = inr (refl, sym (same_true w x e), cc (h))
    go false e h = inl (h, no_store x)
handed_split c w x op answer v k h = inl (h, λ s. s)

flushed_split : (c : ℕ) (x : Word) (op : WordOp) (made b : Bool) → flushed_all_next c x op made b ≡ true → ((b ≡ true) ⊎ (made ≡ true)) × (OwnStore c x op → ⊥)
flushed_split c (Hsm t) Store made b h = by_test c t (λ z. (if z then false else b || made) ≡ true → ((b ≡ true) ⊎ (made ≡ true)) × (c ≡ t → ⊥))
    (λ e h. absurd (cc (h))) (λ ne h. (either_true b made h, ne)) h
  where
    either_true : (b made : Bool) → (b || made) ≡ true → (b ≡ true) ⊎ (made ≡ true)
    either_true true made h = inl refl
    either_true false made h = inr h
flushed_split c x op made b h = (either_true b made h, λ s. s)
  where
    either_true : (b made : Bool) → (b || made) ≡ true → (b ≡ true) ⊎ (made ≡ true)
    either_true true made h = inl refl
    either_true false made h = inr h

-- a hart that waits goes on waiting until it stores in its HSM
waiting_stays : (l : Layout) (c : ℕ) (runs : Bool) (r : List Step) (w : Word) (op : WordOp) (arg answer : ℕ) → ActorMay l c runs r w op arg → is_waiting (taking c r) ≡ true → (OwnStore c w op → ⊥)
    → (w ≡ Hsm c → op ≡ Load → answer ≡ 2) → is_waiting (taking_next c w op arg answer (taking c r)) ≡ true
waiting_stays l c runs r w op arg answer (load_hsm {h = t}) e f g = by_test t c (λ b. is_waiting (if b then call_of answer else taking c r) ≡ true)
    (λ is. ap (λ n. is_waiting (call_of n)) (g (ap (λ x. Hsm x) is) refl)) (λ _. e)
waiting_stays l c runs r w op arg answer (take_start p q o) e f g = absurd (f refl)
waiting_stays l c runs r w op arg answer (halts p q s) e f g = absurd (f refl)
waiting_stays l c runs r w op arg answer (end_start {h = t} p) e f g = by_test t c (λ b. is_waiting (if b then idle else taking c r) ≡ true) (λ is. absurd (f (sym is))) (λ _. e)
waiting_stays l c runs r w op arg answer (load_start p) e f g = by_test c c (λ b. is_waiting (if b then with_start else taking c r) ≡ true) (λ _. refl) (λ _. e)
waiting_stays l c runs r w op arg answer (load_opaque p) e f g = by_test c c (λ b. is_waiting (if b then with_both else taking c r) ≡ true) (λ _. refl) (λ _. e)
waiting_stays l c runs r w op arg answer m e f g = e

may_load : (l : Layout) (c : ℕ) (runs : Bool) (r : List Step) (w : Word) (op : WordOp) (arg : ℕ) → ActorMay l c runs r w op arg → op ≡ Load → (w ≡ Start c) ⊎ (w ≡ Opaque c) → is_waiting (taking c r) ≡ true
may_load l c runs r w op arg (load_start p) o e = ap is_waiting p
may_load l c runs r w op arg (load_opaque p) o e = ap is_waiting p
may_load l c runs r w op arg m o (inl e) = absurd (cc (o, e))
may_load l c runs r w op arg m o (inr e) = absurd (cc (o, e))

-- an event that passes the test in a list without stops
pub any_since : (stop test : Event → Bool) (es run : List Event) → Passing stop es → list_any test es ≡ true → HasSince stop test (es ++ run)
any_since stop test [] run p k = absurd (cc (k))
any_since stop test (e ∷ es) run p k = go (test e) refl k (any_since stop test es run p.1)
  where
    go : (b : Bool) → test e ≡ b → (b || list_any test es) ≡ true → (list_any test es ≡ true → HasSince stop test (es ++ run)) → HasSince stop test (e ∷ (es ++ run))
    go true t k ih = this t
    go false t k ih = before p.0 (ih k)

pub passes_none : (k : ℕ) (es : List Event) → NoStarts es → Passing (starts_hart k) es
passes_none k [] q = tt
passes_none k (e ∷ es) q = (ap (is_target k) q.0, passes_none k es q.1)

-- of a hart that waits
pub record Waiting (u : Setup) (boot : List Step) (runs : ℕ → Bool) (ts : List Placed) (k : ℕ) : Type 0 where
  pub at : (v : ℕ) → handed_word k (Start k) (mine k ts) ≡ Some v → (is_waiting (taking k (steps (mine k ts))) ≡ true) × (v ≡ (gift_at u ts k).at)
  pub opaque : (v : ℕ) → handed_word k (Opaque k) (mine k ts) ≡ Some v → (is_waiting (taking k (steps (mine k ts))) ≡ true) × (v ≡ (gift_at u ts k).opaque)
  pub flushed : flushed_waiting k (mine k ts) ≡ true → (is_waiting (taking k (steps (mine k ts))) ≡ true) × HasSince (starts_hart k) (flushes k Full) (run_of ts)

module _ (u : Setup) (boot : List Step) (runs : ℕ → Bool) (begun : IsBegun u boot) (ran : (k : ℕ) → k < u.layout.harts → runs k ≡ runs_first k) (none_pending : (k : ℕ) → k < u.layout.harts → value_at (number_of (Hsm k)) boot ≢ 2) where
  pub two_of : (ts : List Placed) → IsHistory u.layout runs (history boot ts) → Told u ts → (k : ℕ) → k < u.layout.harts → k ≢ loader → is_waiting (taking k (steps (mine k ts))) ≡ true → value_of boot ts (Hsm k) ≡ 2
  two_of ts h d k lt ne e = stop_law.waits u.layout runs (history boot ts) k begun.limits.harts h (behind u boot runs begun ran ts d) lt (ap (λ r. is_waiting (taking k r)) (own_history boot k ts (begun.alone k ne)) ∙ e)

  module _ (t : Placed) (ts : List Placed) (h : IsHistory u.layout runs (history boot (t ∷ ts))) (d : Told u (t ∷ ts)) (k : ℕ) (lt : k < u.layout.harts) (nk : k ≢ loader) where
    tail : IsHistory u.layout runs (history boot ts)
    tail = history_tail u runs t.step (history boot ts) h

    an : t.step.answer ≡ answer_of t.step.op (value_at t.step.word (history boot ts))
    an = (woven u.layout runs (history boot (t ∷ ts)) h).0.answered

    there : k < length (initial u).harts
    there = subst (λ n. k < n) (sym (harts_there u begun.limits.some_hart)) lt

    abbrev Keeps : Type 0
    Keeps = (gift_at u (t ∷ ts) k ≡ gift_at u ts k) × Passing (starts_hart k) t.events

    no_starts : NoStarts t.events → Keeps
    no_starts q = (gifts_none u t.events (run_of ts) k there q, passes_none k t.events q)

    taken_other : (e : Event) (es : List Event) (g at opaque : ℕ) → t.events ≡ e ∷ es → g ≢ k → (did_of e).starts ≡ Some (record { target = g; at = at; opaque = opaque }) → NoStarts es → Keeps
    taken_other e es g at opaque is ne s q = (
      ap (λ l. gift (hart (state_of u (l ++ run_of ts)) k)) is
          ∙ (gift_after e (state_of u (es ++ run_of ts)) k (subst (λ n. k < n) (sym (run_length u (es ++ run_of ts))) there)
          ∙ (ap (λ x. gift_next x k (gift (hart (state_of u (es ++ run_of ts)) k))) s
          ∙ (ap (λ (b : Bool). if b then record { at = at; opaque = opaque } else gift (hart (state_of u (es ++ run_of ts)) k)) (ne_eqb g k ne)
          ∙ gifts_none u es (run_of ts) k there q))),
      subst (Passing (starts_hart k)) (sym is) (ap (is_target k) s ∙ ne_eqb g k ne, passes_none k es q),
    )

    not_taken : value_of boot ts (Hsm k) ≡ 2 → (g : ℕ) → name_of t.step.word ≡ Hsm g → t.step.op ≡ Exchange 1 → t.step.answer ≡ 1 → g ≢ k
    not_taken two g w o one z = cc (sym two ∙ (ap (λ x. value_at x (history boot ts)) (ap (λ x. number_of (Hsm x)) (sym z) ∙ (ap number_of (sym w) ∙ number_name t.step.word))
        ∙ (sym (an ∙ ap (λ p. answer_of p (value_at t.step.word (history boot ts))) o) ∙ one)))

    kept_way : (es : List Event) → t.events ≡ es → value_of boot ts (Hsm k) ≡ 2 → Gives t.step.actor (mine t.step.actor ts) (name_of t.step.word) t.step.op t.step.arg t.step.answer es → Keeps
    kept_way es is two (keeps f e q) = no_starts (subst NoStarts (sym is) q)
    kept_way es is two (counts g f p e q) = no_starts (subst NoStarts (sym is) q)
    kept_way es is two (opens {e = e} {es = more} g at opaque w o ar one s q) = taken_other e more g at opaque is (not_taken two g w o one) s q
    kept_way es is two (first g opaque w o last p q) = no_starts (subst NoStarts (sym is) q)
    kept_way es is two (second g at w o last p q) = no_starts (subst NoStarts (sym is) q)
    kept_way es is two (hands g w o ar p q) = no_starts (subst NoStarts (sym is) q)
    kept_way es is two (turns w o ar q) = no_starts (subst NoStarts (sym is) q)

    kept_here : value_of boot ts (Hsm k) ≡ 2 → Keeps
    kept_here two = go d.0.who (woven u.layout runs (history boot (t ∷ ts)) h).0.permitted
      where
        go : (t.step.actor ≢ loader) ⊎ IsIdleStep t → IsPermitted u.layout t.step.actor (runs t.step.actor) (own_steps t.step.actor (history boot ts)) (name_of t.step.word) t.step.op t.step.arg → Keeps
        go (inr i) p = no_starts (subst NoStarts (sym i.2) tt)
        go (inl ne) (by_loader e m) = absurd (ne e)
        go (inl ne) (by_actor a f m) = kept_way t.events refl two
            (gives_of (runs t.step.actor) (subst (λ l. ActorMay u.layout t.step.actor (runs t.step.actor) l (name_of t.step.word) t.step.op t.step.arg) (own_history boot t.step.actor ts (begun.alone t.step.actor ne)) m) d.0.right.accounts)

    -- the hart's own step
    module _ (own : k ≡ t.step.actor) (ok : Waiting u boot runs ts k) where
      may : ActorMay u.layout k (runs k) (steps (mine k ts)) (name_of t.step.word) t.step.op t.step.arg
      may = go (subst (λ a. IsPermitted u.layout a (runs a) (own_steps a (history boot ts)) (name_of t.step.word) t.step.op t.step.arg) (sym own) (woven u.layout runs (history boot (t ∷ ts)) h).0.permitted)
        where
          go : IsPermitted u.layout k (runs k) (own_steps k (history boot ts)) (name_of t.step.word) t.step.op t.step.arg → ActorMay u.layout k (runs k) (steps (mine k ts)) (name_of t.step.word) t.step.op t.step.arg
          go (by_loader e m) = absurd (nk e)
          go (by_actor a f m) = subst (λ l. ActorMay u.layout k (runs k) l (name_of t.step.word) t.step.op t.step.arg) (own_history boot k ts (begun.alone k nk)) m

      loaded_answer : (w : Word) → name_of t.step.word ≡ w → t.step.op ≡ Load → t.step.answer ≡ value_of boot ts w
      loaded_answer w e o = answer_old t.step.op (value_at t.step.word (history boot ts)) t.step.answer (λ z. cc (o, z)) an ∙ ap (λ x. value_at x (history boot ts)) (sym (ap number_of (sym e) ∙ number_name t.step.word))

      goes_on : is_waiting (taking k (steps (mine k ts))) ≡ true → (OwnStore k (name_of t.step.word) t.step.op → ⊥) → is_waiting (taking k (t.step ∷ steps (mine k ts))) ≡ true
      goes_on e f = waiting_stays u.layout k (runs k) (steps (mine k ts)) (name_of t.step.word) t.step.op t.step.arg t.step.answer may e f (λ w o. loaded_answer (Hsm k) w o ∙ two_of ts tail d.1 k lt nk e)

      load_no_store : (w : Word) (op : WordOp) → op ≡ Load → OwnStore k w op → ⊥
      load_no_store (Hsm x) Store e s = absurd (cc (e))
      load_no_store w op e s = s

      own_at : (v : ℕ) → handed_word k (Start k) (t ∷ mine k ts) ≡ Some v → (is_waiting (taking k (t.step ∷ steps (mine k ts))) ≡ true) × (v ≡ (gift_at u (t ∷ ts) k).at)
      own_at v e = go (handed_split k (Start k) (name_of t.step.word) t.step.op t.step.answer v (handed_word k (Start k) (mine k ts)) e)
        where
          go : ((handed_word k (Start k) (mine k ts) ≡ Some v) × (OwnStore k (name_of t.step.word) t.step.op → ⊥)) ⊎ ((t.step.op ≡ Load) × (name_of t.step.word ≡ Start k) × (t.step.answer ≡ v))
              → (is_waiting (taking k (t.step ∷ steps (mine k ts))) ≡ true) × (v ≡ (gift_at u (t ∷ ts) k).at)
          go (inl p) = let i = ok.at v p.0 in (goes_on i.0 p.1, i.1 ∙ ap (λ x. x.at) (sym (kept_here (two_of ts tail d.1 k lt nk i.0)).0))
          go (inr p) = let w = may_load u.layout k (runs k) (steps (mine k ts)) (name_of t.step.word) t.step.op t.step.arg may p.0 (inl p.1) in let two = two_of ts tail d.1 k lt nk w in (
            goes_on w (load_no_store (name_of t.step.word) t.step.op p.0),
            sym p.2 ∙ (loaded_answer (Start k) p.1 p.0 ∙ (((gifts_of u boot runs begun ran ts tail d.1 none_pending).pending k lt two).0 ∙ ap (λ x. x.at) (sym (kept_here two).0))),
          )

      own_opaque : (v : ℕ) → handed_word k (Opaque k) (t ∷ mine k ts) ≡ Some v → (is_waiting (taking k (t.step ∷ steps (mine k ts))) ≡ true) × (v ≡ (gift_at u (t ∷ ts) k).opaque)
      own_opaque v e = go (handed_split k (Opaque k) (name_of t.step.word) t.step.op t.step.answer v (handed_word k (Opaque k) (mine k ts)) e)
        where
          go : ((handed_word k (Opaque k) (mine k ts) ≡ Some v) × (OwnStore k (name_of t.step.word) t.step.op → ⊥)) ⊎ ((t.step.op ≡ Load) × (name_of t.step.word ≡ Opaque k) × (t.step.answer ≡ v))
              → (is_waiting (taking k (t.step ∷ steps (mine k ts))) ≡ true) × (v ≡ (gift_at u (t ∷ ts) k).opaque)
          go (inl p) = let i = ok.opaque v p.0 in (goes_on i.0 p.1, i.1 ∙ ap (λ x. x.opaque) (sym (kept_here (two_of ts tail d.1 k lt nk i.0)).0))
          go (inr p) = let w = may_load u.layout k (runs k) (steps (mine k ts)) (name_of t.step.word) t.step.op t.step.arg may p.0 (inr p.1) in let two = two_of ts tail d.1 k lt nk w in (
            goes_on w (load_no_store (name_of t.step.word) t.step.op p.0),
            sym p.2 ∙ (loaded_answer (Opaque k) p.1 p.0 ∙ (((gifts_of u boot runs begun ran ts tail d.1 none_pending).pending k lt two).1 ∙ ap (λ x. x.opaque) (sym (kept_here two).0))),
          )

      own_flushed : flushed_waiting k (t ∷ mine k ts) ≡ true → (is_waiting (taking k (t.step ∷ steps (mine k ts))) ≡ true) × HasSince (starts_hart k) (flushes k Full) (t.events ++ run_of ts)
      own_flushed e = let p = flushed_split k (name_of t.step.word) t.step.op (is_waiting (taking k (steps (mine k ts))) && list_any (flushes k Full) t.events) (flushed_waiting k (mine k ts)) e in go p.0 p.1
        where
          go : (flushed_waiting k (mine k ts) ≡ true) ⊎ ((is_waiting (taking k (steps (mine k ts))) && list_any (flushes k Full) t.events) ≡ true) → (OwnStore k (name_of t.step.word) t.step.op → ⊥)
              → (is_waiting (taking k (t.step ∷ steps (mine k ts))) ≡ true) × HasSince (starts_hart k) (flushes k Full) (t.events ++ run_of ts)
          go (inl b) f = let i = ok.flushed b in (goes_on i.0 f, has_more (starts_hart k) (flushes k Full) t.events (run_of ts) (kept_here (two_of ts tail d.1 k lt nk i.0)).1 i.1)
          go (inr b) f = let p = and_parts (is_waiting (taking k (steps (mine k ts)))) (list_any (flushes k Full) t.events) b in
              let w = p.0 in
              (goes_on w f, any_since (starts_hart k) (flushes k Full) t.events (run_of ts) (kept_here (two_of ts tail d.1 k lt nk w)).1 p.1)

    waiting_step : Waiting u boot runs ts k → Waiting u boot runs (t ∷ ts) k
    waiting_step ok = elim (cases_eq k t.step.actor) [ inl own ↦ mine_step own | inr away ↦ other_step away ]
      where
        here : k ≡ t.step.actor → mine k (t ∷ ts) ≡ t ∷ mine k ts
        here own = ap (λ (b : Bool). if b then t ∷ mine k ts else mine k ts) (eq-eqb k t.step.actor own)

        mine_step : k ≡ t.step.actor → Waiting u boot runs (t ∷ ts) k
        mine_step own = record {
          at = λ v e. subst (λ l. (is_waiting (taking k (steps l)) ≡ true) × (v ≡ (gift_at u (t ∷ ts) k).at)) (sym (here own)) (own_at own ok v (sym (ap (handed_word k (Start k)) (here own)) ∙ e));
          opaque = λ v e. subst (λ l. (is_waiting (taking k (steps l)) ≡ true) × (v ≡ (gift_at u (t ∷ ts) k).opaque)) (sym (here own)) (own_opaque own ok v (sym (ap (handed_word k (Opaque k)) (here own)) ∙ e));
          flushed = λ e. subst (λ l. (is_waiting (taking k (steps l)) ≡ true) × HasSince (starts_hart k) (flushes k Full) (t.events ++ run_of ts)) (sym (here own)) (own_flushed own ok (sym (ap (flushed_waiting k) (here own)) ∙ e));
        }

        other : k ≢ t.step.actor → mine k (t ∷ ts) ≡ mine k ts
        other away = ap (λ (b : Bool). if b then t ∷ mine k ts else mine k ts) (ne_eqb k t.step.actor away)

        other_step : k ≢ t.step.actor → Waiting u boot runs (t ∷ ts) k
        other_step away = record {
          at = λ v e. let i = ok.at v (sym (ap (handed_word k (Start k)) (other away)) ∙ e) in
              (ap (λ l. is_waiting (taking k (steps l))) (other away) ∙ i.0, i.1 ∙ ap (λ x. x.at) (sym (kept_here (two_of ts tail d.1 k lt nk i.0)).0));
          opaque = λ v e. let i = ok.opaque v (sym (ap (handed_word k (Opaque k)) (other away)) ∙ e) in
              (ap (λ l. is_waiting (taking k (steps l))) (other away) ∙ i.0, i.1 ∙ ap (λ x. x.opaque) (sym (kept_here (two_of ts tail d.1 k lt nk i.0)).0));
          flushed = λ e. let i = ok.flushed (sym (ap (flushed_waiting k) (other away)) ∙ e) in
              (ap (λ l. is_waiting (taking k (steps l))) (other away) ∙ i.0, has_more (starts_hart k) (flushes k Full) t.events (run_of ts) (kept_here (two_of ts tail d.1 k lt nk i.0)).1 i.1);
        }

  pub waiting_of : (ts : List Placed) → IsHistory u.layout runs (history boot ts) → Told u ts → (k : ℕ) → k < u.layout.harts → k ≢ loader → Waiting u boot runs ts k
  waiting_of [] h d k lt nk = record { at = λ v e. absurd (cc (e)); opaque = λ v e. absurd (cc (e)); flushed = λ e. absurd (cc (e)) }
  waiting_of (t ∷ ts) h d k lt nk = waiting_step t ts h d k lt nk (waiting_of ts (history_tail u runs t.step (history boot ts) h) d.1 k lt nk)
