-- The words that are memory hold the reference machine's memory, but for one whose crossing store is half made, by the actor in section.
use Rattle.std.proofs.Common.{◌≡◌, ◌≢◌, ◌⊎◌, ℕ, Bool, true, List, [], ◌∷◌, ◌++◌, Some, refl, sym, ap, subst, ◌∙◌, inl, inr, eq-eqb}
use Rattle.std.specs.Prelude.{◌==◌, if◌then◌else◌}
use Rattle.std.proofs.lemmas.Bool.{cases_eq}
use Rattle.step_laws.specs.declared.steps.Step.{Step}
use Rattle.step_laws.specs.declared.steps.WordOp.{WordOp}
use Rattle.step_laws.specs.declared.steps.WordOp.TheVariants.{Store}
use Rattle.step_laws.specs.Map.{Word, Zero, Ipi, Ram, name_of}
use Rattle.step_laws.specs.Words.{loader, actors}
use Rattle.step_laws.specs.Steps.{own_steps, value_at, new_of, answer_of}
use Rattle.step_laws.specs.Discipline.{IsActor, IsPermitted, by_loader, by_actor}
use Rattle.step_laws.specs.Sections.{IsInSection, is_claimant, is_claimant_next, pass, pass_next}
use Rattle.step_laws.specs.Histories.{IsHistory}
use Rattle.run_laws.proofs.Used.{IsGuarded}
use Rattle.run_laws.proofs.Stepping.{woven, section_law}
use Rattle.step_laws.proofs.Woven.{own_here, own_other, history_tail as tail_of}
use Rattle.step_laws.proofs.Named.{by_test}
use Rattle.machine_model.specs.Memory.{StoreEntry, write_of, with_entry, written}
use Rattle.machine_model.specs.Event.{Event, did_of}
use Rattle.machine_model.specs.State.{Setup, memory}
use Rattle.machine_model.specs.Run.{state_of}
use Rattle.run_laws.proofs.Placed.{Placed, placed, steps, run_of, mine}
use Rattle.run_laws.proofs.Kept.{whole, part, half, half_next}
use Rattle.turn_pieces.specs.Shared.{IsShared}
use Rattle.run_laws.proofs.Pieces.{Told, IsIdleStep}
use Rattle.run_laws.proofs.Beginning.{IsBegun, history}
use Rattle.run_laws.proofs.Weave.{by_mine, mine_here}
use Rattle.run_laws.proofs.States.{entries_none, entries_some}
use Rattle.run_laws.proofs.Shared.{mk, Still, NoEntry, Way, rests, one, first, second, way_of, half_after, half_entry, value_rests, new_answer}

pub history_tail : (u : Setup) (runs : ℕ → Bool) (s : Step) (h : List Step) → IsHistory u.layout runs (s ∷ h) → IsHistory u.layout runs h
history_tail u runs s h i = tail_of u.layout runs s h i

-- an actor's record behind the loader's stores
pub own_history : (boot : List Step) (a : ℕ) (ts : List Placed) → own_steps a boot ≡ [] → own_steps a (history boot ts) ≡ steps (mine a ts)
own_history boot a [] e = e
own_history boot a (t ∷ ts) e = by_test a t.step.actor (λ v. (if v then t.step ∷ own_steps a (history boot ts) else own_steps a (history boot ts)) ≡ steps (if v then t ∷ mine a ts else mine a ts))
    (λ _. ap (λ r. t.step ∷ r) (own_history boot a ts e)) (λ _. own_history boot a ts e)

abbrev pub mem : Setup → List Placed → ℕ → ℕ
mem u ts x = memory u (state_of u (run_of ts)) x

pub mem_quiet : (u : Setup) (es run : List Event) (x : ℕ) → NoEntry es → memory u (state_of u (es ++ run)) x ≡ memory u (state_of u run) x
mem_quiet u [] run x q = refl
mem_quiet u (e ∷ es) run x q = ap (λ n. written u.image n x) (entries_none e (state_of u (es ++ run)) q.0) ∙ mem_quiet u es run x q.1

pub mem_entry : (u : Setup) (e : Event) (es run : List Event) (n : StoreEntry) (x : ℕ) → (did_of e).entry ≡ Some n → NoEntry es
    → memory u (state_of u (e ∷ (es ++ run))) x ≡ with_entry (memory u (state_of u (es ++ run))) n x
mem_entry u e es run n x k q = ap (λ ns. written u.image ns x) (entries_some e (state_of u (es ++ run)) n k)

abbrev pub Agree : Setup → List Step → ℕ → List Placed → Type 0
Agree u boot x ts = (value_at x (history boot ts) ≡ mem u ts x) ⊎ ((a : ℕ) × (v : ℕ) × (half (mine a ts) ≡ part x v))

pub record Open (u : Setup) (boot : List Step) (a x v : ℕ) (ts : List Placed) : Type 0 where
  pub section : IsInSection u.layout a (own_steps a (history boot ts))
  pub actor : IsActor u.layout a
  pub value : value_at x (history boot ts) ≡ v
  pub shared : IsShared (name_of x)

pub record Agrees (u : Setup) (boot : List Step) (ts : List Placed) : Type 0 where
  pub agree : (x : ℕ) → IsShared (name_of x) → Agree u boot x ts
  pub opened : (a x v : ℕ) → half (mine a ts) ≡ part x v → Open u boot a x v ts

guarded : (w : Word) → IsShared w → IsGuarded w
guarded (Ram i) s = tt
guarded Ipi s = tt
guarded w s = absurd s

idle_half : {u : Setup} {r : List Placed} {a n : ℕ} {w : Word} {op : WordOp} {arg answer : ℕ} {es : List Event} → Way u r a n w op arg answer es → w ≡ Zero → half r ≡ whole
idle_half (rests hw f q) e = hw
idle_half (one hw s k q) e = hw
idle_half (first j hw x o none k) e = hw
idle_half (second m v j hp x o k q) e = absurd (cc (x, e))

module _ (u : Setup) (boot : List Step) (runs : ℕ → Bool) (begun : IsBegun u boot) where
  abbrev pl : (c n : ℕ) → WordOp → (arg answer : ℕ) → List Event → Placed
  pl c n op arg answer es = placed (mk c n op arg answer) es

  module _ (c n : ℕ) (op : WordOp) (arg answer : ℕ) (ts : List Placed) (h : IsHistory u.layout runs (mk c n op arg answer ∷ history boot ts)) (ok : Agrees u boot ts) (acts : IsShared (name_of n) → IsActor u.layout c) where
    pub answered : answer ≡ answer_of op (value_at n (history boot ts))
    answered = (woven u.layout runs (mk c n op arg answer ∷ history boot ts) h).0.answered

    -- nobody else has a crossing store open
    pub lone : IsShared (name_of n) → (a x v : ℕ) → half (mine a ts) ≡ part x v → a ≢ c → ⊥
    lone s a x v e ne = let o = ok.opened a x v e in
        section_law u.layout runs (history boot ts) (mk c n op arg answer) a begun.limits.harts h o.actor (acts s) o.section (λ k. ne (sym k)) (guarded (name_of n) s)

    pub settled : IsShared (name_of n) → half (mine c ts) ≡ whole → (x : ℕ) → IsShared (name_of x) → value_at x (history boot ts) ≡ mem u ts x
    settled s hw x sx = go (ok.agree x sx)
      where
        go : Agree u boot x ts → value_at x (history boot ts) ≡ mem u ts x
        go (inl e) = e
        go (inr k) = elim (cases_eq k.0 c) [ inl e ↦ absurd (cc (hw, k.2, ap (λ a. half (mine a ts)) e)) | inr ne ↦ absurd (lone s k.0 x k.1 k.2 ne) ]

    section_stays : (a : ℕ) (es : List Event) → a ≢ c → IsInSection u.layout a (own_steps a (history boot ts)) → IsInSection u.layout a (own_steps a (history boot (pl c n op arg answer es ∷ ts)))
    section_stays a es ne k = subst (IsInSection u.layout a) (sym (own_other (mk c n op arg answer) (history boot ts) a ne)) k

    rests_step : (es : List Event) → half (mine c ts) ≡ whole → (IsShared (name_of n) → Still op answer) → NoEntry es → Agrees u boot (pl c n op arg answer es ∷ ts)
    rests_step es hw f q = record {
      agree = λ x sx. go x sx (ok.agree x sx);
      opened = λ a x v. by_mine (λ a r. half r ≡ part x v → Open u boot a x v (pl c n op arg answer es ∷ ts)) a (pl c n op arg answer es) ts
          (λ e. absurd (cc (hw, half_after (mk c n op arg answer) es (mine c ts) q f, e)))
          (λ ne e. let o = ok.opened a x v e in record {
            section = section_stays a es ne o.section;
            actor = o.actor;
            value = value_rests c n op arg answer x (history boot ts) answered f o.shared ∙ o.value;
            shared = o.shared;
          });
    }
      where
        go : (x : ℕ) → IsShared (name_of x) → Agree u boot x ts → Agree u boot x (pl c n op arg answer es ∷ ts)
        go x sx (inl e) = inl (value_rests c n op arg answer x (history boot ts) answered f sx ∙ (e ∙ sym (mem_quiet u es (run_of ts) x q)))
        go x sx (inr k) = inr (
          k.0,
          k.1,
          by_mine (λ a r. half (mine a ts) ≡ part x k.1 → half r ≡ part x k.1) k.0 (pl c n op arg answer es) ts
              (λ e. half_after (mk c n op arg answer) es (mine c ts) q f ∙ e) (λ _ e. e) k.2,
        )

    -- no crossing store is open behind a step that ends one, or is none
    closed : (es : List Event) → IsShared (name_of n) → half (pl c n op arg answer es ∷ mine c ts) ≡ whole
        → (a x v : ℕ) → half (mine a (pl c n op arg answer es ∷ ts)) ≡ part x v → Open u boot a x v (pl c n op arg answer es ∷ ts)
    closed es s hw a x v = by_mine (λ a r. half r ≡ part x v → Open u boot a x v (pl c n op arg answer es ∷ ts)) a (pl c n op arg answer es) ts
        (λ e. absurd (cc (hw, e))) (λ ne e. absurd (lone s a x v e ne))

    one_step : (e : Event) (es : List Event) → half (mine c ts) ≡ whole → IsShared (name_of n) → (did_of e).entry ≡ Some (write_of n (new_of op answer arg) ∷ []) → NoEntry es
        → Agrees u boot (pl c n op arg answer (e ∷ es) ∷ ts)
    one_step e es hw s k q = record {
      agree = λ x sx. inl (value x sx ∙ sym (mem_entry u e es (run_of ts) (write_of n (new_of op answer arg) ∷ []) x k q));
      opened = closed (e ∷ es) s (half_entry (mk c n op arg answer) e es (mine c ts) (write_of n (new_of op answer arg) ∷ []) k);
    }
      where
        value : (x : ℕ) → IsShared (name_of x) → value_at x (history boot (pl c n op arg answer (e ∷ es) ∷ ts)) ≡ (if x == n then new_of op answer arg else memory u (state_of u (es ++ run_of ts)) x)
        value x sx = by_test x n (λ b. (if b then new_of op (value_at x (history boot ts)) arg else value_at x (history boot ts)) ≡ (if b then new_of op answer arg else memory u (state_of u (es ++ run_of ts)) x))
            (λ same. ap (λ y. new_of op (value_at y (history boot ts)) arg) same ∙ new_answer op (value_at n (history boot ts)) arg answer answered)
            (λ _. settled s hw x sx ∙ sym (mem_quiet u es (run_of ts) x q))

    -- the first word of a crossing store
    first_step : (i : ℕ) → half (mine c ts) ≡ whole → name_of n ≡ Ram i → op ≡ Store → IsInSection u.layout c (steps (mine c ts)) → c ≢ loader
        → Agrees u boot (pl c n op arg answer [] ∷ ts)
    first_step i hw w o k nl = record {
      agree = λ x sx. by_test x n (λ b. ((if b then new_of op (value_at x (history boot ts)) arg else value_at x (history boot ts)) ≡ mem u ts x) ⊎ ((a : ℕ) × (v : ℕ) × (half (mine a (pl c n op arg answer [] ∷ ts)) ≡ part x v)))
          (λ same. inr (c, arg, ap half (mine_here (pl c n op arg answer []) ts) ∙ is_part ∙ ap (λ y. part y arg) (sym same)))
          (λ _. inl (settled shared hw x sx));
      opened = λ a x v. by_mine (λ a r. half r ≡ part x v → Open u boot a x v (pl c n op arg answer [] ∷ ts)) a (pl c n op arg answer []) ts
          (λ e. let p : part n arg ≡ part x v = sym is_part ∙ e in let f : n ≡ x = cc (p) in let g : arg ≡ v = cc (p) in record {
            section = section_here;
            actor = acts shared;
            value = subst (λ y. value_at y (history boot (pl c n op arg answer [] ∷ ts)) ≡ v) f
                (ap (λ (b : Bool). if b then new_of op (value_at n (history boot ts)) arg else value_at n (history boot ts)) (eq-eqb n n refl)
                ∙ (ap (λ o. new_of o (value_at n (history boot ts)) arg) o ∙ g));
            shared = subst (λ y. IsShared (name_of y)) f shared;
          })
          (λ ne e. absurd (lone shared a x v e ne));
    }
      where
        shared : IsShared (name_of n)
        shared = subst IsShared (sym w) tt

        is_part : half (pl c n op arg answer [] ∷ mine c ts) ≡ part n arg
        is_part = λ j. half_next (o j) (w j) n arg (half (mine c ts))

        section_here : IsInSection u.layout c (own_steps c (history boot (pl c n op arg answer [] ∷ ts)))
        section_here = subst (IsInSection u.layout c) (sym (own_here (mk c n op arg answer) (history boot ts) c refl))
            (subst (λ r. IsInSection u.layout c (mk c n op arg answer ∷ r)) (sym (own_history boot c ts (begun.alone c nl)))
            (kept_section k))
          where
            kept_section : IsInSection u.layout c (steps (mine c ts)) → IsInSection u.layout c (mk c n op arg answer ∷ steps (mine c ts))
            kept_section k = (
              subst (λ x. is_claimant_next x op arg answer (is_claimant (steps (mine c ts))) ≡ true) (sym w) (subst (λ y. is_claimant_next (Ram i) y arg answer (is_claimant (steps (mine c ts))) ≡ true) (sym o) k.0),
              subst (λ x. pass_next u.layout c x op arg answer (pass u.layout c (steps (mine c ts))) ≡ actors) (sym w) k.1,
            )

    -- the second word, with the event
    second_step : (e : Event) (es : List Event) (m v i : ℕ) → half (mine c ts) ≡ part m v → name_of n ≡ Ram i → op ≡ Store
        → (did_of e).entry ≡ Some (write_of m v ∷ write_of n arg ∷ []) → NoEntry es → Agrees u boot (pl c n op arg answer (e ∷ es) ∷ ts)
    second_step e es m v i hp w o k q = record {
      agree = λ x sx. inl (value x sx ∙ sym (mem_entry u e es (run_of ts) (write_of m v ∷ write_of n arg ∷ []) x k q));
      opened = closed (e ∷ es) (subst IsShared (sym w) tt) (half_entry (mk c n op arg answer) e es (mine c ts) (write_of m v ∷ write_of n arg ∷ []) k);
    }
      where
        shared : IsShared (name_of n)
        shared = subst IsShared (sym w) tt

        other : (x : ℕ) → IsShared (name_of x) → x ≢ m → value_at x (history boot ts) ≡ mem u ts x
        other x sx ne = go (ok.agree x sx)
          where
            go : Agree u boot x ts → value_at x (history boot ts) ≡ mem u ts x
            go (inl f) = f
            go (inr l) = elim (cases_eq l.0 c) [ inl f ↦ absurd (ne (cc (hp, l.2, ap (λ a. half (mine a ts)) f))) | inr away ↦ absurd (lone shared l.0 x l.1 l.2 away) ]

        value : (x : ℕ) → IsShared (name_of x) → value_at x (history boot (pl c n op arg answer (e ∷ es) ∷ ts)) ≡ (if x == n then arg else (if x == m then v else memory u (state_of u (es ++ run_of ts)) x))
        value x sx = by_test x n (λ b. (if b then new_of op (value_at x (history boot ts)) arg else value_at x (history boot ts)) ≡ (if b then arg else (if x == m then v else memory u (state_of u (es ++ run_of ts)) x)))
            (λ _. ap (λ y. new_of y (value_at x (history boot ts)) arg) o)
            (λ _. by_test x m (λ b. value_at x (history boot ts) ≡ (if b then v else memory u (state_of u (es ++ run_of ts)) x))
            (λ same. ap (λ y. value_at y (history boot ts)) same ∙ (ok.opened c m v hp).value)
            (λ ne. other x sx ne ∙ sym (mem_quiet u es (run_of ts) x q)))

    agrees_step : (es : List Event) → c ≢ loader → Way u (mine c ts) c n (name_of n) op arg answer es → Agrees u boot (pl c n op arg answer es ∷ ts)
    agrees_step es nl (rests hw f q) = rests_step es hw f q
    agrees_step es nl (one {e = e} {es = more} hw s k q) = one_step e more hw s k q
    agrees_step es nl (first i hw w o none k) = subst (λ l. Agrees u boot (pl c n op arg answer l ∷ ts)) (sym none) (first_step i hw w o k nl)
    agrees_step es nl (second {e = e} {es = more} m v i hp w o k q) = second_step e more m v i hp w o k q

  pub ram_actor : (n : ℕ) (c : ℕ) (r : List Step) (op : WordOp) (arg : ℕ) → c ≢ loader → IsPermitted u.layout c (runs c) r (name_of n) op arg → IsActor u.layout c
  ram_actor n c r op arg ne (by_loader e m) = absurd (ne e)
  ram_actor n c r op arg ne (by_actor k f m) = k

  -- the words and memory agree all along
  pub agrees_of : (ts : List Placed) → IsHistory u.layout runs (history boot ts) → Told u ts → Agrees u boot ts
  agrees_of [] h d = record { agree = λ x sx. inl (begun.image x sx); opened = λ a x v e. absurd (cc) }
  agrees_of (t ∷ ts) h d = go d.0.who (agrees_of ts (history_tail u runs t.step (history boot ts) h) d.1)
    where
      go : (t.step.actor ≢ loader) ⊎ IsIdleStep t → Agrees u boot ts → Agrees u boot (t ∷ ts)
      go (inl ne) ok = agrees_step t.step.actor t.step.word t.step.op t.step.arg t.step.answer ts h ok
          (λ _. ram_actor t.step.word t.step.actor (own_steps t.step.actor (history boot ts)) t.step.op t.step.arg ne (woven u.layout runs (history boot (t ∷ ts)) h).0.permitted)
          t.events ne (way_of d.0.right.accounts)
      go (inr i) ok = rests_step t.step.actor t.step.word t.step.op t.step.arg t.step.answer ts h ok
          (λ s. absurd (subst IsShared i.0 s)) t.events (idle_half (way_of d.0.right.accounts) i.0) (λ s. absurd (subst IsShared i.0 s)) (subst NoEntry (sym i.2) tt)
