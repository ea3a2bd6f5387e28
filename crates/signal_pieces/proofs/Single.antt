-- One step off the table that needs no event, and one at which an event stands, in their hart's log.
use Rattle.std.proofs.Common.{◌≡◌, ℕ, Bool, true, false, List, [], ◌∷◌, ◌++◌, None, refl, sym, ap, subst, ◌∙◌, arith}
use Rattle.rv64_priv.specs.declared.state.Regime.{Regime}
use Rattle.step_laws.specs.declared.steps.Step.{Step}
use Rattle.step_laws.specs.declared.steps.WordOp.{WordOp}
use Rattle.step_laws.specs.Map.{Word}
use Rattle.machine_model.specs.Event.{Event, actor_of, did_of}
use Rattle.machine_model.specs.Own.{Own, own_next}
use Rattle.machine_model.specs.Run.{counts, is_due, last_of}
use Rattle.machine_model.specs.State.{Setup}
use Rattle.guest_ram.specs.Plays.{step_of}
use Rattle.guest_ram.specs.Ports.{GoesBy, Made, Shown}
use Rattle.tlb_entry.specs.declared.books.Book.{Book}
use Rattle.tlb_fill.proofs.Marking.{same_goes}
use Rattle.tlb_table.proofs.Aside.{IsOffTable}
use Rattle.kept_fills.proofs.Staying.{fills_stay}
use Rattle.turn_pieces.specs.Doing.{IsCalm}
use Rattle.turn_pieces.specs.Grows.{does, makes, stays}
use Rattle.turn_pieces.specs.Kept.{places}
use Rattle.turn_pieces.specs.KeptWalks.{flushes_in, with_flush}
use Rattle.walk_laws.specs.KeptWalks.{Item}
use Rattle.kept_fills.specs.Fills.{GoesWithFills}
use Rattle.turn_pieces.specs.Log.{Log, did, events_of, made}
use Rattle.turn_pieces.specs.Owed.{MayMake, Owed, PaysFor, books, owed, unstored, unstored_did}
use Rattle.turn_pieces.specs.Right.{IsFit}
use Rattle.turn_pieces.specs.Writers.{AreCalm, IsPlain}
use Rattle.turn_pieces.proofs.Accesses.{step_stands}
use Rattle.turn_pieces.proofs.Unmarked.{is_other, unmarked_did, unmarked_step}
use Rattle.turn_pieces.proofs.Writers.{not_due_behind, places_did, tells_did}
use Rattle.std.specs.Prelude.{Some, if◌then◌else◌}
use Rattle.std.proofs.lemmas.Bool.{eq-eqb}
use Rattle.access_pieces.specs.Serving.{Rests, Settles, view}
use Rattle.table_pieces.specs.Flushing.{IsNotDue}
use Rattle.fence_pieces.specs.Asking.{HasPassed}
use Rattle.fence_pieces.proofs.Behind.{quiet_behind}
use Rattle.fence_pieces.proofs.Quiet.{Passes, events_quietly, passes}
use Rattle.signal_pieces.specs.Signalling.{ComesTo}

abbrev pub step_at : (p : Shown) (word : ℕ) (op : WordOp) (arg answer : ℕ) → Step
step_at p word op arg answer = step_of p.own.actor word op arg answer

abbrev pub goes_one : (p q : Shown) (w : Word) (op : WordOp) (arg answer : ℕ) → Made p q w op arg answer → GoesBy 1 (λ v. v ≡ w) p q
goes_one p q w op arg answer m = record { added = step_at p m.word op arg answer ∷ []; few = omega arith; allowed = ((m.name, refl, m.may), tt); grown = m.step }

-- a step that needs no event
pub one_passes : (p q : Shown) (w : Word) (op : WordOp) (arg answer : ℕ) (m : Made p q w op arg answer) → IsOffTable w → is_other w ≡ true → IsCalm w op answer → ((n : ℕ) → IsPlain n w op)
    → (b : Book) (r : Regime) (others : ℕ → Bool) (o : Own) (u : Setup) (a : ℕ) (l : Log) → Rests others o p b r u a l → Passes (step_at p m.word op arg answer ∷ []) others o q b r u a l
one_passes p q w op arg answer m off unmarked calm plain b r others o u a l x =
    let all : AreCalm p.own.actor (step_at p m.word op arg answer ∷ []) = (subst (λ v. IsCalm v op answer) (sym m.name) calm, subst (λ v. IsPlain p.own.actor v op) (sym m.name) (plain p.own.actor), tt) in
    passes (λ v. v ≡ w) (λ v e. subst IsOffTable (sym e) off) (λ v e. ap is_other e ∙ unmarked) 1 p q b r (goes_one p q w op arg answer m) all others o u a l x

-- as a part of a turn
pub passed : (p q : Shown) (b : Book) (r : Regime) (added : List Step) (others : ℕ → Bool) (o : Own) (u : Setup) (a : ℕ) (l : Log) → q.own.steps ≡ added ++ p.own.steps → IsNotDue o u a l → Passes added others o q b r u a l → HasPassed others o p q b r u a l
passed p q b r added others o u a l steps still x = record {
  added = added;
  steps_are = steps;
  grows = x.grows;
  behind = quiet_behind a added l;
  rests = x.rests;
  not_due = ap (λ (run : List Event). is_due u.limit run a o.count) (events_quietly added l) ∙ still;
}

-- behind an event that counts no instruction no stop is due
pub uncounted : (u : Setup) (a : ℕ) (l : Log) (e : Event) (count : ℕ) → actor_of e ≡ a → counts e ≡ false → is_due u.limit (events_of (did e ∷ l)) a count ≡ false
uncounted u a l e count own uncounts = not_due_behind u.limit (e ∷ events_of l) a count e (ap (λ (b : Bool). if b then Some e else last_of a (events_of l)) (eq-eqb (actor_of e) a own)) uncounts

-- a step with the event that it owes
pub one_stands : (p q : Shown) (w : Word) (op : WordOp) (arg answer : ℕ) (m : Made p q w op arg answer) → IsOffTable w → is_other w ≡ true → (b : Book) (r : Regime) (others : ℕ → Bool) (o : Own) (u : Setup) (a : ℕ) (l : Log) (e : Event) (d : Owed)
    → Settles others o p b r u a l → MayMake u a l (step_at p m.word op arg answer) → owed (made (step_at p m.word op arg answer) ∷ l) ≡ d → places (made (step_at p m.word op arg answer) ∷ l) ≡ [] → unstored (made (step_at p m.word op arg answer) ∷ l) ≡ None
    → ((bs : List ℕ) → unstored_did d bs None ≡ None) → actor_of e ≡ a → IsFit u a (made (step_at p m.word op arg answer) ∷ l) e o → PaysFor a (books (made (step_at p m.word op arg answer) ∷ l)) d e → counts e ≡ false → ((items : List Item) → with_flush a e items ≡ items)
    → ComesTo others (own_next e o) q b r u a l
one_stands p q w op arg answer m off unmarked b r others o u a l e d x may due drawn left leaves own fit pays uncounts no_flush =
    let s = step_at p m.word op arg answer in
    let st = step_stands o (view p) (view q) u a l s (ap view m.step) x.tells.tells.stands in record {
      late = did e ∷ made s ∷ l;
      grows = does e (makes s stays may) (record { own = own; fit = subst (IsFit u a (made s ∷ l) e) (sym st.part_is) fit; pays = subst (λ z. PaysFor a (books (made s ∷ l)) z e) (sym due) pays });
      settles = record {
        tells = record {
          tells = tells_did o (view q) u a (made s ∷ l) e st own (places_did (made s ∷ l) e drawn) ((λ i. unstored_did (due i) (did_of e).bytes (left i)) ∙ leaves (did_of e).bytes);
          fills = x.tells.fills;
          goes = subst (λ (z : List Item). GoesWithFills q b r z x.tells.fills) (sym (no_flush (flushes_in a (made s ∷ l)))) (fills_stay p q b r (flushes_in a l) x.tells.fills (s ∷ []) (ap (λ (z : Shown). z.own.steps) m.step) (same_goes 1 (λ v. v ≡ w) p q (λ v y. subst IsOffTable (sym y) off) (goes_one p q w op arg answer m)) x.tells.goes);
        };
        settled = λ page free. unmarked_did u a page (made s ∷ l) e (unmarked_step u a page l s (ap is_other m.name ∙ unmarked) ∙ x.settled page free);
      };
      not_due = uncounted u a (made s ∷ l) e (own_next e o).count own uncounts;
    }
