-- Where all harts are stopped at the end, it was said behind the last stop.
use Rattle.std.proofs.Common.{◌≡◌, ◌≢◌, ◌⊎◌, ℕ, Bool, true, false, List, [], ◌∷◌, ◌++◌, refl, sym, ap, subst, ◌∙◌, inl, inr, eq-eqb, ne_eqb}
use Rattle.std.specs.Prelude.{if◌then◌else◌, IsTrue}
use Rattle.std.specs.List.{list_any}
use Rattle.std.proofs.lemmas.Bool.{cases_eq}
use Rattle.step_laws.specs.declared.steps.Step.{Step}
use Rattle.step_laws.specs.declared.steps.WordOp.{WordOp}
use Rattle.step_laws.specs.declared.steps.WordOp.TheVariants.{Load}
use Rattle.step_laws.specs.Map.{Word, Stop, Live, Hsm, name_of}
use Rattle.step_laws.specs.Words.{loader}
use Rattle.step_laws.specs.Steps.{own_steps}
use Rattle.step_laws.specs.Harts.{is_owing, is_owing_next}
use Rattle.machine_model.specs.Past.{HasSince}
use Rattle.machine_model.specs.Event.{Event}
use Rattle.machine_model.specs.State.{Setup}
use Rattle.machine_model.specs.Run.{leaves, says_all_stopped}
use Rattle.machine_model.proofs.Uniform.{Passing, has_more}
use Rattle.run_laws.proofs.Placed.{Placed, steps, run_of, mine}
use Rattle.turn_pieces.specs.Folds.{was_last, was_last_next}
use Rattle.run_laws.proofs.Accounts.{AreQuiet, Accounts, calm, writes, writes_half, writes_rest, draws, fills, draws_none, draws_more, fills_more, fills_last, ends, takes, gives_start, gives_opaque, lets, begins_here, leaves_here}
use Rattle.run_laws.proofs.Pieces.{IsTurns, none, turn, looks, IsIdle, IsActing, Said, Told}
use Rattle.turn_pieces.specs.Folds.{IsUncount}
use Rattle.run_laws.proofs.Beginning.{history}
use Rattle.run_laws.proofs.Used.{IsHalt, NoneSince}
use Rattle.run_laws.proofs.Waits.{any_since}

quiet_leaves : (es : List Event) → AreQuiet es → Passing leaves es
quiet_leaves [] q = tt
quiet_leaves (e ∷ es) q = (q.0.does.stops_is, quiet_leaves es q.1)

-- an Exec that stopped its hart stands at the store of 1 in its HSM alone
stays : {u : Setup} {a : ℕ} {r : List Placed} {n : ℕ} {w : Word} {op : WordOp} {arg answer : ℕ} {es : List Event} → Accounts u a r n w op arg answer es → (IsHalt w op arg → ⊥) → Passing leaves es
stays {es = es} (calm h c k q) f = quiet_leaves es q
stays (writes {es = es} h s o d b q) f = (d.stops_is, quiet_leaves es q)
stays (writes_half h k) f = tt
stays (writes_rest {es = es} m v h ne d b q) f = (d.stops_is, quiet_leaves es q)
stays (draws {es = es} byte h p lt uu d b q) f = (d.stops_is, quiet_leaves es q)
stays {es = es} (fills byte h k g dd q) f = quiet_leaves es q
stays {es = es} (draws_none h le q) f = quiet_leaves es q
stays {es = es} (draws_more h k q) f = quiet_leaves es q
stays {es = es} (fills_more h k p le zz uu q) f = quiet_leaves es q
stays (fills_last {es = es} h k p le uu y z d b q) f = (d.stops_is, quiet_leaves es q)
stays (ends {es = es} bytes h d g y b q) f = (d.stops_is, quiet_leaves es q)
stays (takes {es = es} at opaque h d b q) f = (d.stops_is, quiet_leaves es q)
stays {es = es} (gives_start opaque h g q) f = quiet_leaves es q
stays {es = es} (gives_opaque at h g q) f = quiet_leaves es q
stays {es = es} (lets h q) f = quiet_leaves es q
stays (begins_here {es = es} h q) f = (refl, quiet_leaves es q)
stays (leaves_here h d b q) f = absurd (f tt)

uncount_halt : (w : Word) (op : WordOp) (arg : ℕ) → IsUncount w op arg → IsHalt w op arg → ⊥
uncount_halt (Hsm t) op arg c h = c
uncount_halt Live op arg c h = h
uncount_halt w op arg c h = c

pub said_run : (u : Setup) (boot : List Step) (a : ℕ) → own_steps a boot ≡ [] → a ≢ loader → (ts : List Placed) → Told u ts → NoneSince a (history boot ts) → Said (mine a ts) → HasSince leaves says_all_stopped (run_of ts)
said_run u boot a alone nl [] d k s = absurd s
said_run u boot a alone nl (t ∷ ts) d k s = elim (cases_eq a t.step.actor) [ inl e ↦ here e (said_run u boot a alone nl ts d.1) | inr ne ↦ other ne (said_run u boot a alone nl ts d.1) ]
  where
    passing : (IsHalt (name_of t.step.word) t.step.op t.step.arg → ⊥) → Passing leaves t.events
    passing f = stays d.0.right.accounts f

    other : a ≢ t.step.actor → (NoneSince a (history boot ts) → Said (mine a ts) → HasSince leaves says_all_stopped (run_of ts)) → HasSince leaves says_all_stopped (t.events ++ run_of ts)
    other ne ih = go k
      where
        go : ((t.step.actor ≡ a) × IsUncount (name_of t.step.word) t.step.op t.step.arg × (t.step.answer ≡ 1)) ⊎ ((IsHalt (name_of t.step.word) t.step.op t.step.arg → ⊥) × NoneSince a (history boot ts)) → HasSince leaves says_all_stopped (t.events ++ run_of ts)
        go (inl p) = absurd (ne (sym p.0))
        go (inr p) = has_more leaves says_all_stopped t.events (run_of ts) (passing p.0)
            (ih p.1 (subst Said (ap (λ (b : Bool). if b then t ∷ mine a ts else mine a ts) (ne_eqb a t.step.actor ne)) s))

    here : a ≡ t.step.actor → (NoneSince a (history boot ts) → Said (mine a ts) → HasSince leaves says_all_stopped (run_of ts)) → HasSince leaves says_all_stopped (t.events ++ run_of ts)
    here e ih = go (subst Said (ap (λ (b : Bool). if b then t ∷ mine a ts else mine a ts) (eq-eqb a t.step.actor e)) s) k
      where
        go : IsTrue (list_any says_all_stopped t.events) ⊎ ((IsUncount (name_of t.step.word) t.step.op t.step.arg → ⊥) × Said (mine a ts))
            → ((t.step.actor ≡ a) × IsUncount (name_of t.step.word) t.step.op t.step.arg × (t.step.answer ≡ 1)) ⊎ ((IsHalt (name_of t.step.word) t.step.op t.step.arg → ⊥) × NoneSince a (history boot ts)) → HasSince leaves says_all_stopped (t.events ++ run_of ts)
        go (inl y) (inl p) = any_since leaves says_all_stopped t.events (run_of ts) (passing (uncount_halt (name_of t.step.word) t.step.op t.step.arg p.1)) y
        go (inl y) (inr p) = any_since leaves says_all_stopped t.events (run_of ts) (passing p.0) y
        go (inr y) (inl p) = absurd (y.0 p.1)
        go (inr y) (inr p) = has_more leaves says_all_stopped t.events (run_of ts) (passing p.0) (ih p.1 y.1)

was_look : (a : ℕ) (s : Step) (r : List Step) → name_of s.word ≡ Stop → s.op ≡ Load → was_last a (s ∷ r) ≡ was_last a r
was_look a s r w o = λ i. was_last_next a (w i) (o i) s.arg s.answer (was_last a r)

was_idle : (a : ℕ) (r : List Placed) → IsIdle r → was_last a (steps r) ≡ false
was_idle a [] k = refl
was_idle a (t ∷ r) k = (λ i. was_last_next a (k.0 i) (k.1 i) t.step.arg t.step.answer (was_last a (steps r))) ∙ was_idle a r k.3

said_turns : {u : Setup} {a : ℕ} {r : List Placed} → IsTurns u a r → was_last a (steps r) ≡ true → Said r
said_turns none e = absurd (cc (e))
said_turns (turn r ts old p) e = p.all.last e
said_turns {a = a} (looks r t old n o es) e = inr (λ c. subst (λ w. IsUncount w t.step.op t.step.arg) n c, said_turns old (sym (was_look a t.step (steps r) n o) ∙ e))

pub said_acting : {u : Setup} {a : ℕ} {r : List Placed} → IsActing u a r → was_last a (steps r) ≡ true → Said r
said_acting (inl k) e = said_turns k.1 e
said_acting {a = a} {r = r} (inr k) e = absurd (cc (sym (was_idle a r k) ∙ e))

left_turns : {u : Setup} {a : ℕ} {r : List Placed} → IsTurns u a r → is_owing a (steps r) ≡ false
left_turns none = refl
left_turns (turn r ts old p) = p.all.left
left_turns {a = a} (looks r t old n o es) = (λ i. is_owing_next a (n i) (o i) t.step.arg t.step.answer (is_owing a (steps r))) ∙ left_turns old

left_idle : (a : ℕ) (r : List Placed) → IsIdle r → is_owing a (steps r) ≡ false
left_idle a [] k = refl
left_idle a (t ∷ r) k = (λ i. is_owing_next a (k.0 i) (k.1 i) t.step.arg t.step.answer (is_owing a (steps r))) ∙ left_idle a r k.3

pub left_acting : {u : Setup} {a : ℕ} {r : List Placed} → IsActing u a r → is_owing a (steps r) ≡ false
left_acting (inl k) = left_turns k.1
left_acting {a = a} {r = r} (inr k) = left_idle a r k
