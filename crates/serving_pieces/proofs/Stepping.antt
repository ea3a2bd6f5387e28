-- One step on a place or a lock, in its hart's log.
use Rattle.std.proofs.Common.{◌≡◌, ℕ, ◌+◌, Bool, List, [], ◌∷◌, refl, sym, ap, subst, ◌∙◌}
use Rattle.std.specs.Prelude.{Option}
use Rattle.rv64_priv.specs.declared.state.Regime.{Regime}
use Rattle.step_laws.specs.declared.steps.Step.{Step}
use Rattle.step_laws.specs.declared.steps.WordOp.{WordOp}
use Rattle.step_laws.specs.declared.steps.WordOp.TheVariants.{Load, Exchange}
use Rattle.step_laws.specs.Map.{Word, Lock, Place, Size, Tlb}
use Rattle.machine_model.specs.Own.{Own}
use Rattle.machine_model.specs.State.{Setup}
use Rattle.guest_ram.specs.Areas.{IsOfService}
use Rattle.guest_ram.specs.Plays.{step_of}
use Rattle.guest_ram.specs.Ports.{Shown, Made}
use Rattle.tlb_entry.specs.declared.books.Book.{Book}
use Rattle.kept_fills.specs.Fills.{HasSameTable}
use Rattle.kept_fills.proofs.Staying.{fills_stay}
use Rattle.turn_pieces.specs.Doing.{IsCalm}
use Rattle.turn_pieces.specs.Folds.{Unstored, drawn_next, unstored_next}
use Rattle.turn_pieces.specs.Grows.{Grows, IsClear}
use Rattle.turn_pieces.specs.Kept.{places}
use Rattle.turn_pieces.specs.KeptWalks.{flushes_in}
use Rattle.turn_pieces.specs.Log.{Log, made}
use Rattle.turn_pieces.specs.Marks.{awaited_next, is_awaited}
use Rattle.turn_pieces.specs.Owed.{Owed, nothing, owed, owes, unstored}
use Rattle.turn_pieces.specs.Writers.{AreCalm, IsPlain}
use Rattle.turn_pieces.proofs.Writers.{grows_then, quietly_grows}
use Rattle.table_pieces.proofs.Behind.{same_step}
use Rattle.serving_pieces.specs.Laws.{HeldRests, IdleRests}
use Rattle.serving_pieces.specs.Serving.{IsAtRest}

service_owes : (o : Owed) (k : Option Unstored) (w : Word) (op : WordOp) (n arg answer : ℕ) → IsOfService w → owes o k w op n arg answer ≡ nothing
service_owes o k (Place t s j) op n arg answer x = refl
service_owes o k (Lock h) op n arg answer x = refl
service_owes o k (Size h) op n arg answer x = refl
service_owes o k (Tlb h j f) op n arg answer x = refl
service_owes o k w op n arg answer x = absurd x

service_drawn : (w : Word) (op : WordOp) (answer : ℕ) (ds : List ℕ) → IsOfService w → drawn_next w op answer ds ≡ ds
service_drawn (Place t s j) op answer ds x = refl
service_drawn (Lock h) op answer ds x = refl
service_drawn (Size h) op answer ds x = refl
service_drawn (Tlb h j f) op answer ds x = refl
service_drawn w op answer ds x = absurd x

service_byte : (w : Word) (op : WordOp) (answer : ℕ) (k : Option Unstored) → IsOfService w → unstored_next w op answer [] k ≡ k
service_byte (Place t s j) op answer k x = refl
service_byte (Lock h) op answer k x = refl
service_byte (Size h) op answer k x = refl
service_byte (Tlb h j f) op answer k x = refl
service_byte w op answer k x = absurd x

service_marks : (page : ℕ) (w : Word) (op : WordOp) (arg : ℕ) (b : Bool) → IsOfService w → awaited_next page w op arg b ≡ b
service_marks page (Place t s j) op arg b x = refl
service_marks page (Lock h) op arg b x = refl
service_marks page (Size h) op arg b x = refl
service_marks page (Tlb h j f) op arg b x = refl
service_marks page w op arg b x = absurd x

abbrev pub step_made : (p q : Shown) (w : Word) (op : WordOp) (arg answer : ℕ) → Made p q w op arg answer → Step
step_made p q w op arg answer m = step_of p.own.actor m.word op arg answer

-- what the log tells behind a step that leaves the table
pub rests_behind : (p q : Shown) (w : Word) (op : WordOp) (arg answer : ℕ) (m : Made p q w op arg answer) → IsOfService w → HasSameTable p q
    → (others : ℕ → Bool) (o : Own) (b : Book) (r : Regime) (u : Setup) (a : ℕ) (l : Log) → IsAtRest others o p b r u a l → IsAtRest others o q b r u a (made (step_made p q w op arg answer m) ∷ l)
rests_behind p q w op arg answer m on same others o b r u a l x =
    let t = x.rests.tells.tells in
    let s = step_made p q w op arg answer m in
    let none : owed (made s ∷ l) ≡ nothing = ap (λ v. owes (owed l) (unstored l) v op m.word arg answer) m.name ∙ service_owes (owed l) (unstored l) w op m.word arg answer on in record {
      rests = record {
        tells = record {
          tells = record {
            stands = record {
              layout = t.stands.layout ∙ sym (ap (λ (y : Shown). y.machine.layout) m.step);
              actor = t.stands.actor ∙ sym (ap (λ (y : Shown). y.own.actor) m.step);
              is = ap (λ (y : List Step). s ∷ y) t.stands.is ∙ sym (ap (λ (y : Shown). y.own.steps) m.step);
              part_is = t.stands.part_is;
            };
            clear = subst IsClear (sym none) tt;
            none_drawn = ap (λ v. drawn_next v op answer (places l)) m.name ∙ service_drawn w op answer (places l) on ∙ t.none_drawn;
            none_left = ap (λ v. unstored_next v op answer [] (unstored l)) m.name ∙ service_byte w op answer (unstored l) on ∙ t.none_left;
          };
          fills = x.rests.tells.fills;
          goes = fills_stay p q b r (flushes_in a l) x.rests.tells.fills (s ∷ []) (ap (λ (y : Shown). y.own.steps) m.step) same x.rests.tells.goes;
        };
        idle = none;
        settled = λ page free. ap (λ v. awaited_next page v op arg (is_awaited u a page l)) m.name ∙ service_marks page w op arg (is_awaited u a page l) on ∙ x.rests.settled page free;
      };
      not_due = x.not_due;
    }

-- a step that needs no event may be made
calm_grows : (p q : Shown) (w : Word) (op : WordOp) (arg answer : ℕ) (m : Made p q w op arg answer) → IsCalm w op answer → ((a : ℕ) → IsPlain a w op)
    → (others : ℕ → Bool) (o : Own) (b : Book) (r : Regime) (u : Setup) (a : ℕ) (l : Log) → IsAtRest others o p b r u a l → Grows u a l (made (step_made p q w op arg answer m) ∷ l)
calm_grows p q w op arg answer m calm plain others o b r u a l x =
    let t = x.rests.tells.tells in
    let s = step_made p q w op arg answer m in
    let all : AreCalm a (s ∷ []) = (subst (λ v. IsCalm v op answer) (sym m.name) calm, subst (λ v. IsPlain a v op) (sym m.name) (plain a), tt) in quietly_grows u a (s ∷ []) l all t.clear t.none_drawn

pub place_same : (p q : Shown) (t s k : ℕ) (op : WordOp) (arg answer : ℕ) → Made p q (Place t s k) op arg answer → HasSameTable p q
place_same p q t s k op arg answer m = same_step p q (Place t s k) op arg answer m (λ j f n. refl) (λ n. refl)

-- a load of a place
module _ (p q : Shown) (t s k answer : ℕ) (m : Made p q (Place t s k) Load 0 answer) (others : ℕ → Bool) (o : Own) (b : Book) (r : Regime) (u : Setup) (a : ℕ) (l : Log) (x : IsAtRest others o p b r u a l) where
  pub load_grows : Grows u a l (made (step_made p q (Place t s k) Load 0 answer m) ∷ l)
  load_grows = calm_grows p q (Place t s k) Load 0 answer m tt (λ n. tt) others o b r u a l x

  pub load_rests : IsAtRest others o q b r u a (made (step_made p q (Place t s k) Load 0 answer m) ∷ l)
  load_rests = rests_behind p q (Place t s k) Load 0 answer m tt (place_same p q t s k Load 0 answer m) others o b r u a l x

pub idle_rests : IdleRests
idle_rests source place p q b r m others o u a l x = record {
  added = step_made p q (Place p.own.actor source place) Load 0 0 m ∷ [];
  steps_are = ap (λ (y : Shown). y.own.steps) m.step;
  grows = load_grows p q p.own.actor source place 0 m others o b r u a l x;
  rests = load_rests p q p.own.actor source place 0 m others o b r u a l x;
}

pub held_rests : HeldRests
held_rests source place holder p q b b' r f others o u a l x =
    let load = f.finds.finds in
    let first = step_made p f.loaded (Place p.own.actor source place) Load 0 f.finds.word load in
    let m = made first ∷ l in
    let y = load_rests p f.loaded p.own.actor source place f.finds.word load others o b r u a l x in
    let look = f.busy.found.1 in
    let own = f.loaded.own.actor in
    let second = step_made f.loaded q (Lock b.hart) (Exchange 0) (own + 1) holder look in
    let same : HasSameTable f.loaded q = same_step f.loaded q (Lock b.hart) (Exchange 0) (own + 1) holder look (λ j g n. refl) (λ n. refl) in record {
      added = second ∷ first ∷ [];
      steps_are = ap (λ (z : Shown). z.own.steps) look.step ∙ ap (λ (z : Shown). second ∷ z.own.steps) load.step;
      grows = grows_then u a l m (load_grows p f.loaded p.own.actor source place f.finds.word load others o b r u a l x)
          (calm_grows f.loaded q (Lock b.hart) (Exchange 0) (own + 1) holder look tt (λ n. tt) others o b r u a m y);
      rests = subst (λ (z : Book). IsAtRest others o q z r u a (made second ∷ m)) (sym f.busy.book)
          (rests_behind f.loaded q (Lock b.hart) (Exchange 0) (own + 1) holder look tt same others o b r u a m y);
    }
