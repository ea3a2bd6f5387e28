-- Turns in a row.
use Rattle.std.proofs.Common.{inl, inr, ◌≡◌, refl, ℕ, ◌++◌, List, [], ◌∷◌, Option, Some, None, ap, sym, ◌∙◌, subst}
use Rattle.std.specs.Prelude.{◌⊎◌, IsSome}
use Rattle.std.proofs.lemmas.List.{append_assoc as list_assoc}
use Rattle.rv64_exec.specs.Code.{Code}
use Rattle.machine_model.specs.declared.reason.Reason.{Reason}
use Rattle.machine_model.specs.Event.{Event}
use Rattle.machine_model.specs.State.{Setup, State}
use Rattle.machine_model.specs.Change.{state_after}
use Rattle.machine_model.specs.Run.{state_of}
use Rattle.machine_model.specs.Now.{IsNext}
use Rattle.machine_model.specs.Plain.{IsPlainRun, none, turn, over, plain_turn, states_after}
use Rattle.ref_machine.specs.PlainState.{PlainState}
use Rattle.ref_machine.specs.Shows.{Shows, Turned}
use Rattle.ref_machine.specs.Ran.{IsOnly, Ran}

state_append : (u : Setup) (es run : List Event) → state_of u (es ++ run) ≡ states_after es (state_of u run)
state_append u [] run = refl
state_append u (e ∷ es) run = ap (state_after e) (state_append u es run)

append_assoc : (a b c : List Event) → (a ++ b) ++ c ≡ a ++ (b ++ c)
append_assoc [] b c = refl
append_assoc (x ∷ a) b c = ap (λ xs. x ∷ xs) (append_assoc a b c)

-- a plain run whose last turn is this hart's
record TurnTaken (u : Setup) (h : ℕ) (order : List ℕ) (run : List Event) : Type 0 where
  past : List Event
  code : Code
  going : (state_of u past).reason ≡ None
  next : IsNext u (state_of u past) h code
  plain : IsPlainRun u order past
  is_run : run ≡ plain_turn u (state_of u past) h code ++ past

record TurnOver (u : Setup) (order : List ℕ) (run : List Event) : Type 0 where
  ended : IsSome (state_of u run).reason
  plain : IsPlainRun u order run

last_turn : (u : Setup) (h : ℕ) (order : List ℕ) (run : List Event) → IsPlainRun u (h ∷ order) run → TurnTaken u h order run ⊎ TurnOver u order run
last_turn u h order _ (turn {run = past} _ code going next plain) = inl (record { past = past; code = code; going = going; next = next; plain = plain; is_run = refl })
last_turn u h order _ (over _ ended plain) = inr (record { ended = ended; plain = plain })

none_some : (o : Option Reason) → o ≡ None → IsSome o → ⊥
none_some None e some = cc
none_some (Some r) e some = cc

pub first_only : (u : Setup) → IsOnly u [] []
first_only u _ none = refl

pub ran_none : (p : PlainState) → Ran [] p p
ran_none p u order run plain k = record { more = []; plain = plain; shown = k; only = λ only. only }

-- one turn more, where the machine goes on
suc_only : (u : Setup) (h : ℕ) (order : List ℕ) (run : List Event) (q r : PlainState) (code : Code) → q.shared.reason ≡ None → Turned h q r → Shows u q (state_of u run) → IsNext u (state_of u run) h code
    → IsOnly u order run → IsOnly u (h ∷ order) (plain_turn u (state_of u run) h code ++ run)
suc_only u h order run q r code going t k next only other plain = by_last (last_turn u h order other plain)
  where
    by_last : TurnTaken u h order other ⊎ TurnOver u order other → other ≡ plain_turn u (state_of u run) h code ++ run
    by_last (inl l) =
        let same : l.past ≡ run = only l.past l.plain in
        let next' : IsNext u (state_of u run) h l.code = subst (λ x. IsNext u (state_of u x) h l.code) same l.next in
        l.is_run
        ∙ ap (λ x. plain_turn u (state_of u x) h l.code ++ x) same
        ∙ ap (λ c. plain_turn u (state_of u run) h c ++ run) (t.only u (state_of u run) k going l.code code next' next)
    by_last (inr l) =
        let same : other ≡ run = only other l.plain in
        let some : IsSome (state_of u run).reason = subst (λ x. IsSome (state_of u x).reason) same l.ended in
        absurd (none_some (state_of u run).reason (ap (λ (x : State). x.reason) k.state ∙ going) some)

pub ran_turn : (turns : List ℕ) (h : ℕ) (p q r : PlainState) → q.shared.reason ≡ None → Ran turns p q → Turned h q r → Ran (h ∷ turns) p r
ran_turn turns h p q r going before_it t u order run plain k =
    let b = before_it u order run plain k in
    let s = state_of u (b.more ++ run) in
    let code = t.code u s b.shown going in
    let es = plain_turn u s h code.0 in
    let goes : s.reason ≡ None = ap (λ (x : State). x.reason) b.shown.state ∙ going in
    record {
      more = es ++ b.more;
      plain = subst (λ l. IsPlainRun u (h ∷ (turns ++ order)) l) (sym (append_assoc es b.more run)) (turn h code.0 goes code.1 b.plain);
      shown = subst (λ l. Shows u r (state_of u l)) (sym (append_assoc es b.more run))
          (subst (λ x. Shows u r x) (sym (state_append u es (b.more ++ run))) (t.next u s b.shown code.0 code.1));
      only = λ only. subst (λ l. IsOnly u (h ∷ (turns ++ order)) l) (sym (append_assoc es b.more run))
          (suc_only u h (turns ++ order) (b.more ++ run) q r code.0 going t b.shown code.1 (b.only only));
    }

-- behind the first reason no turn is taken
over_only : (u : Setup) (h : ℕ) (order : List ℕ) (run : List Event) → IsSome (state_of u run).reason → IsOnly u order run → IsOnly u (h ∷ order) run
over_only u h order run ended only other plain = by_last (last_turn u h order other plain)
  where
    by_last : TurnTaken u h order other ⊎ TurnOver u order other → other ≡ run
    by_last (inl l) =
        let same : l.past ≡ run = only l.past l.plain in
        absurd (none_some (state_of u run).reason (subst (λ x. (state_of u x).reason ≡ None) same l.going) ended)
    by_last (inr l) = only other l.plain

over_one : (h : ℕ) (turns : List ℕ) (p q : PlainState) → IsSome q.shared.reason → Ran turns p q → Ran (h ∷ turns) p q
over_one h turns p q ended r u order run plain i =
    let b = r u order run plain i in
    let some : IsSome (state_of u (b.more ++ run)).reason = subst (λ (s : State). IsSome s.reason) (sym b.shown.state) ended in
    record {
      more = b.more;
      plain = over h some b.plain;
      shown = b.shown;
      only = λ only. over_only u h (turns ++ order) (b.more ++ run) some (b.only only);
    }

pub ran_over : (more turns : List ℕ) (p q : PlainState) → IsSome q.shared.reason → Ran turns p q → Ran (more ++ turns) p q
ran_over [] turns p q ended r = r
ran_over (h ∷ more) turns p q ended r = over_one h (more ++ turns) p q ended (ran_over more turns p q ended r)

-- and turns behind turns
pub ran_append : (more turns : List ℕ) (p q r : PlainState) → Ran turns p q → Ran more q r → Ran (more ++ turns) p r
ran_append more turns p q r first second u order run plain k =
    let a = first u order run plain k in
    let b = second u (turns ++ order) (a.more ++ run) a.plain a.shown in
    let events : (b.more ++ a.more) ++ run ≡ b.more ++ (a.more ++ run) = append_assoc b.more a.more run in
    let order_is : (more ++ turns) ++ order ≡ more ++ (turns ++ order) = list_assoc more turns order in
    record {
      more = b.more ++ a.more;
      plain = subst (λ l. IsPlainRun u ((more ++ turns) ++ order) l) (sym events) (subst (λ o. IsPlainRun u o (b.more ++ (a.more ++ run))) (sym order_is) b.plain);
      shown = subst (λ l. Shows u r (state_of u l)) (sym events) b.shown;
      only = λ only. subst (λ l. IsOnly u ((more ++ turns) ++ order) l) (sym events) (subst (λ o. IsOnly u o (b.more ++ (a.more ++ run))) (sym order_is) (b.only (a.only only)));
    }
