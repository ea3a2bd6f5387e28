-- Records with events, woven along one list of steps.
use Rattle.std.proofs.Common.{◌⊎◌, ◌<◌, ◌≡◌, ◌≢◌, ℕ, Bool, true, false, List, [], ◌∷◌, ◌++◌, refl, sym, ap, subst, ◌∙◌, inl, inr, eq-eqb, ne_eqb}
use Rattle.std.specs.Prelude.{◌==◌, if◌then◌else◌}
use Rattle.step_laws.specs.declared.steps.Step.{Step}
use Rattle.step_laws.specs.declared.steps.WordOp.TheVariants.{Load}
use Rattle.step_laws.specs.Map.{Zero, Stop, name_of}
use Rattle.step_laws.specs.Words.{loader}
use Rattle.step_laws.specs.Steps.{own_steps}
use Rattle.step_laws.proofs.Named.{by_test}
use Rattle.step_laws.proofs.Woven.{own_here, own_other}
use Rattle.machine_model.specs.State.{Setup}
use Rattle.run_laws.proofs.Placed.{Placed, steps, mine, has_entry}
use Rattle.run_laws.proofs.Kept.{half, half_next, whole}
use Rattle.run_laws.proofs.Accounts.{Accounts, calm}
use Rattle.run_laws.proofs.Fits.{AllFit, runs_first}
use Rattle.run_laws.proofs.Beginning.{IsBegun, history}
use Rattle.run_laws.proofs.Acks.{Acks}
use Rattle.turn_pieces.specs.Draws.{filled, filled_next, beyond, Drawing}
use Rattle.step_laws.specs.Histories.{IsBegun as HasBegun}
use Rattle.step_laws.proofs.Woven.{Begins, begins_more}
use Rattle.run_laws.proofs.Pieces.{IsPlaced, IsPart, IsTurns, none, turn, looks, IsIdle, IsActing, Right, Told, IsIdleStep}

pub by_mine : (P : ℕ → List Placed → Type 0) (b : ℕ) (t : Placed) (ts : List Placed)
    → P t.step.actor (t ∷ mine t.step.actor ts) → (b ≢ t.step.actor → P b (mine b ts)) → P b (mine b (t ∷ ts))
by_mine P b t ts here other = by_test b t.step.actor (λ v. P b (if v then t ∷ mine b ts else mine b ts))
    (λ e. subst (λ x. P x (t ∷ mine x ts)) (sym e) here) other

pub mine_here : (t : Placed) (ts : List Placed) → mine t.step.actor (t ∷ ts) ≡ t ∷ mine t.step.actor ts
mine_here t ts = ap (λ (v : Bool). if v then t ∷ mine t.step.actor ts else mine t.step.actor ts) (eq-eqb t.step.actor t.step.actor refl)

pub mine_other : (b : ℕ) (t : Placed) (ts : List Placed) → b ≢ t.step.actor → mine b (t ∷ ts) ≡ mine b ts
mine_other b t ts ne = ap (λ (v : Bool). if v then t ∷ mine b ts else mine b ts) (ne_eqb b t.step.actor ne)

pub steps_mine : (a : ℕ) (ts : List Placed) → steps (mine a ts) ≡ own_steps a (steps ts)
steps_mine a [] = refl
steps_mine a (t ∷ ts) = by_test a t.step.actor (λ v. steps (if v then t ∷ mine a ts else mine a ts) ≡ (if v then t.step ∷ own_steps a (steps ts) else own_steps a (steps ts)))
    (λ _. ap (λ r. t.step ∷ r) (steps_mine a ts)) (λ _. steps_mine a ts)

no_steps : (r : List Placed) → steps r ≡ [] → [] ≡ r
no_steps [] e = refl
no_steps (t ∷ r) e = absurd (cc)

abbrev pub Weaves : List Step → (ℕ → List Placed) → Type 0
Weaves h records = (ts : List Placed) × (steps ts ≡ h) × ((a : ℕ) → mine a ts ≡ records a)

pub weave : (h : List Step) (records : ℕ → List Placed) → ((a : ℕ) → steps (records a) ≡ own_steps a h) → Weaves h records
weave [] records e = ([], refl, λ a. no_steps (records a) (e a))
weave (s ∷ h) records e = go (records s.actor) refl (e s.actor ∙ own_here s h s.actor refl) (λ f g. weave h f g)
  where
    go : (r : List Placed) → records s.actor ≡ r → steps r ≡ s ∷ own_steps s.actor h
        → ((f : ℕ → List Placed) → ((a : ℕ) → steps (f a) ≡ own_steps a h) → Weaves h f) → Weaves (s ∷ h) records
    go [] k f ih = absurd (cc)
    go (t ∷ r) k f ih =
        let is : t.step ≡ s = cc in
        let rest : steps r ≡ own_steps s.actor h = cc in
        let w = ih (λ a. if a == s.actor then r else records a) (λ a. by_test a s.actor (λ v. steps (if v then r else records a) ≡ own_steps a h)
        (λ g. rest ∙ ap (λ x. own_steps x h) (sym g)) (λ ne. e a ∙ own_other s h a ne)) in (
          t ∷ w.0,
          cc (is, w.1),
          λ a. subst (λ (x : Step). (if a == x.actor then t ∷ mine a w.0 else mine a w.0) ≡ records a) (sym is)
              (subst (λ (m : List Placed). (if a == s.actor then t ∷ m else m) ≡ records a) (sym (w.2 a))
              (by_test a s.actor (λ v. (if v then t ∷ (if v then r else records a) else (if v then r else records a)) ≡ records a)
              (λ g. sym k ∙ ap records (sym g)) (λ _. refl))),
        )

abbrev pub Each : Setup → ℕ → List Placed → Type 0
Each u a [] = Unit {0}
Each u a (t ∷ r) = Right u a r t × Each u a r

each_more : (u : Setup) (a : ℕ) (r ts : List Placed) → a ≢ loader → Each u a r → IsPart u a r ts → Each u a (ts ++ r)
each_more u a r [] ne e p = e
each_more u a r (t ∷ ts) ne e p = (record { right = p.0; who = inl ne }, each_more u a r ts ne e p.1)

each_look : (u : Setup) (a : ℕ) (r : List Placed) (t : Placed) → half r ≡ whole → name_of t.step.word ≡ Stop → t.step.op ≡ Load → t.events ≡ [] → filled (steps r) ≢ beyond → IsPlaced u a r t.step t.events
each_look u a r t w n o e nf = record {
  draws = subst (λ x. Drawing (steps r) x t.step.op) (sym n) (subst (λ p. Drawing (steps r) Stop p) (sym o) nf);
  fit = subst (λ es. AllFit u a t.step r es) (sym e) tt;
  acks = subst (λ x. Acks a r x t.step.op) (sym n) tt;
  accounts = subst (λ x. Accounts u a r t.step.word x t.step.op t.step.arg t.step.answer t.events) (sym n)
      (subst (λ op. Accounts u a r t.step.word Stop op t.step.arg t.step.answer t.events) (sym o)
      (subst (λ es. Accounts u a r t.step.word Stop Load t.step.arg t.step.answer es) (sym e) (calm w tt (λ s. absurd s) tt)));
}

half_look : (t : Placed) (r : List Placed) → t.step.op ≡ Load → t.events ≡ [] → half (t ∷ r) ≡ half r
half_look t r o e = (λ i. if has_entry (e i) then whole else half_next (o i) (name_of t.step.word) t.step.word t.step.arg (half r))

pub turns_whole : {u : Setup} {a : ℕ} {r : List Placed} → IsTurns u a r → half r ≡ whole
turns_whole none = refl
turns_whole (turn r ts old p) = p.all.stores
turns_whole (looks r t old n o e) = half_look t r o e ∙ turns_whole old

turns_full : {u : Setup} {a : ℕ} {r : List Placed} → IsTurns u a r → filled (steps r) ≢ beyond
turns_full none = λ e. cc (e)
turns_full (turn r ts old p) = p.all.full
turns_full (looks r t old n o e) = λ b. turns_full old (sym (λ i. filled_next (n i) (o i) t.step.arg t.step.answer (filled (steps r))) ∙ b)

each_turns : {u : Setup} {a : ℕ} {r : List Placed} → a ≢ loader → IsTurns u a r → Each u a r
each_turns ne none = tt
each_turns {u} {a} ne (turn r ts old p) = each_more u a r ts ne (each_turns ne old) p.part
each_turns {u} {a} ne (looks r t old n o e) = (record { right = each_look u a r t (turns_whole old) n o e (turns_full old); who = inl ne }, each_turns ne old)

pub idle_whole : (r : List Placed) → IsIdle r → half r ≡ whole
idle_whole [] i = refl
idle_whole (t ∷ r) i = half_look t r i.1 i.2 ∙ idle_whole r i.3

each_idle : (u : Setup) (a : ℕ) (r : List Placed) → IsIdle r → Each u a r
each_idle u a [] i = tt
each_idle u a (t ∷ r) i = (
  record {
    right = record {
      fit = subst (λ es. AllFit u a t.step r es) (sym i.2) tt;
      acks = subst (λ x. Acks a r x t.step.op) (sym i.0) tt;
      draws = subst (λ x. Drawing (steps r) x t.step.op) (sym i.0) tt;
      accounts = subst (λ x. Accounts u a r t.step.word x t.step.op t.step.arg t.step.answer t.events) (sym i.0)
          (subst (λ es. Accounts u a r t.step.word Zero t.step.op t.step.arg t.step.answer es) (sym i.2) (calm (idle_whole r i.3) tt (λ s. absurd s) tt));
    };
    who = inr (i.0, i.1, i.2);
  },
  each_idle u a r i.3,
)

each_tail : (u : Setup) (a : ℕ) (v : Bool) (t : Placed) (r : List Placed) → Each u a (if v then t ∷ r else r) → Each u a r
each_tail u a true t r d = d.1
each_tail u a false t r d = d

told_each : (u : Setup) (ts : List Placed) → ((a : ℕ) → Each u a (mine a ts)) → Told u ts
told_each u [] d = tt
told_each u (t ∷ ts) d = (
  (subst (Each u t.step.actor) (mine_here t ts) (d t.step.actor)).0,
  told_each u ts (λ a. each_tail u a (a == t.step.actor) t (mine a ts) (d a)),
)

pub told_of : (u : Setup) (ts : List Placed) (records : ℕ → List Placed) → ((a : ℕ) → mine a ts ≡ records a) → ((a : ℕ) → IsActing u a (records a)) → Told u ts
told_of u ts records e d = told_each u ts (λ a. subst (Each u a) (sym (e a)) (go a (d a)))
  where
    go : (a : ℕ) → IsActing u a (records a) → Each u a (records a)
    go a (inl k) = each_turns k.0 k.1
    go a (inr k) = each_idle u a (records a) k

-- and the other way: what is told of all, of one
pub each_told : (u : Setup) (ts : List Placed) → Told u ts → (a : ℕ) → Each u a (mine a ts)
each_told u [] d a = tt
each_told u (t ∷ ts) d a = by_mine (λ a r. Each u a r) a t ts (d.0, each_told u ts d.1 t.step.actor) (λ _. each_told u ts d.1 a)

-- behind the loader's stores the machine has begun: the loader only loads there
begins_of : (u : Setup) (boot : List Step) (runs : ℕ → Bool) → Begins u.layout runs (own_steps loader boot) → (ts : List Placed) → Told u ts → Begins u.layout runs (own_steps loader (history boot ts))
begins_of u boot runs b [] d = b
begins_of u boot runs b (t ∷ ts) d = by_test loader t.step.actor (λ v. Begins u.layout runs (if v then t.step ∷ own_steps loader (history boot ts) else own_steps loader (history boot ts)))
    (λ e. go d.0.who (sym e) (begins_of u boot runs b ts d.1)) (λ _. begins_of u boot runs b ts d.1)
  where
    go : (t.step.actor ≢ loader) ⊎ IsIdleStep t → t.step.actor ≡ loader → Begins u.layout runs (own_steps loader (history boot ts)) → Begins u.layout runs (t.step ∷ own_steps loader (history boot ts))
    go (inl ne) e k = absurd (ne e)
    go (inr i) e k = begins_more u.layout runs t.step (own_steps loader (history boot ts)) i.0 i.1 k

pub behind : (u : Setup) (boot : List Step) (runs : ℕ → Bool) → IsBegun u boot → ((k : ℕ) → k < u.layout.harts → runs k ≡ runs_first k) → (ts : List Placed) → Told u ts → HasBegun u.layout runs (history boot ts)
behind u boot runs begun ran ts d = let k = begins_of u boot runs (begun.booted, λ a lt. ran a lt ∙ sym (begun.left a lt)) ts d in record { booted = k.0; ran = k.1 }
