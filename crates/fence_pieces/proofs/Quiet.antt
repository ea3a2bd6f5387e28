-- Steps off the table that need no event, in their hart's log.
use Rattle.std.proofs.Common.{◌≡◌, ◌≢◌, ℕ, ◌+◌, Bool, true, false, List, [], ◌∷◌, ◌++◌, refl, sym, ap, subst, ◌∙◌, arith}
use Rattle.rv64_priv.specs.declared.state.Regime.{Regime}
use Rattle.step_laws.specs.declared.steps.Step.{Step}
use Rattle.step_laws.specs.declared.steps.WordOp.TheVariants.{Exchange, Store}
use Rattle.step_laws.specs.Discipline.{ActorMay, IsPermitted, ack, by_actor, by_loader, post}
use Rattle.step_laws.specs.Map.{Word, Kick, Lock, Place, loader, name_of}
use Rattle.step_laws.specs.Output.{is_finished, is_finished_next}
use Rattle.step_laws.specs.declared.words.Layout.{Layout}
use Rattle.step_laws.specs.declared.steps.WordOp.{WordOp}
use Rattle.machine_model.specs.Event.{Event}
use Rattle.machine_model.specs.Run.{is_due}
use Rattle.machine_model.specs.Own.{Own}
use Rattle.machine_model.specs.State.{Setup}
use Rattle.guest_ram.specs.Plays.{step_of}
use Rattle.guest_ram.proofs.Moves.{acting_goes, actor_few, fold_goes}
use Rattle.guest_ram.specs.Ports.{Shown, AreAllowed, GoesBy}
use Rattle.walk_laws.specs.KeptWalks.{Item}
use Rattle.tlb_entry.specs.declared.books.Book.{Book}
use Rattle.tlb_fill.proofs.Marking.{same_goes}
use Rattle.tlb_table.proofs.Aside.{IsOffTable}
use Rattle.kept_fills.specs.Fills.{GoesWithFills}
use Rattle.kept_fills.proofs.Staying.{fills_stay}
use Rattle.flush.specs.Flushed.{HasBeenBusy}
use Rattle.sbi_calls.specs.Fences.{IsOfAsks}
use Rattle.sbi_calls.proofs.Asks.{posts_of}
use Rattle.sbi_calls.proofs.Turned.{beside_posts}
use Rattle.turn_pieces.specs.Doing.{IsCalm}
use Rattle.turn_pieces.specs.Grows.{Grows}
use Rattle.turn_pieces.specs.KeptWalks.{flushes_in}
use Rattle.turn_pieces.specs.Log.{Log, events_of}
use Rattle.turn_pieces.specs.Owed.{nothing, owed, unstored}
use Rattle.turn_pieces.specs.Writers.{AreCalm, AreOn, IsPlain, QuietBy, quietly}
use Rattle.turn_pieces.proofs.Unmarked.{is_other, unmarked_quietly}
use Rattle.turn_pieces.proofs.Writers.{calm_owes, quietly_grows, quietly_tells}
use Rattle.access_pieces.specs.Serving.{Rests, view}
use Rattle.access_pieces.proofs.Spots.{flushes_quietly}
use Rattle.fence_pieces.specs.Laws.{AsksRest}
use Rattle.fence_pieces.proofs.Behind.{quiet_behind}

pub events_quietly : (r : List Step) (l : Log) → events_of (quietly r l) ≡ events_of l
events_quietly [] l = refl
events_quietly (s ∷ r) l = events_quietly r l

owes_quietly : (a : ℕ) (r : List Step) (l : Log) → AreCalm a r → owed l ≡ nothing → owed (quietly r l) ≡ nothing
owes_quietly a [] l c k = k
owes_quietly a (s ∷ r) l c k = calm_owes a (owed (quietly r l)) (unstored (quietly r l)) (name_of s.word) s.op s.word s.arg s.answer c.0 c.1

-- the log goes on by them alone, and tells of the port behind
pub record Passes (added : List Step) (others : ℕ → Bool) (o : Own) (q : Shown) (b : Book) (r : Regime) (u : Setup) (a : ℕ) (l : Log) : Type 0 where
  pub grows : Grows u a l (quietly added l)
  pub rests : Rests others o q b r u a (quietly added l)

module _ (touch : Word → Type 0) (off : (w : Word) → touch w → IsOffTable w) (unmarked : (w : Word) → touch w → is_other w ≡ true) where
  all_on : (p : Shown) (r : List Step) → AreAllowed touch p r → AreOn touch r
  all_on p [] k = tt
  all_on p (s ∷ r) k = (k.0.0, all_on p r k.1)

  all_unmarked : (p : Shown) (r : List Step) → AreAllowed touch p r → AreOn (λ w. is_other w ≡ true) r
  all_unmarked p [] k = tt
  all_unmarked p (s ∷ r) k = (unmarked (name_of s.word) k.0.0, all_unmarked p r k.1)

  pub passes : (most : ℕ) (p q : Shown) (b : Book) (r : Regime) (goes : GoesBy most touch p q) → AreCalm p.own.actor goes.added → (others : ℕ → Bool) (o : Own) (u : Setup) (a : ℕ) (l : Log) → Rests others o p b r u a l
      → Passes goes.added others o q b r u a l
  passes most p q b r goes calm others o u a l x =
      let t = x.tells.tells in
      let own : AreCalm a goes.added = subst (λ n. AreCalm n goes.added) (sym t.stands.actor) calm in
      let quiet : QuietBy touch most (view p) (view q) = record { added = goes.added; few = goes.few; grown = ap view goes.grown; calm = calm; inner = all_on p goes.added goes.allowed } in record {
        grows = quietly_grows u a goes.added l own t.clear t.none_drawn;
        rests = record {
          tells = record {
            tells = quietly_tells touch most o (view p) (view q) u a l quiet t;
            fills = x.tells.fills;
            goes = subst (λ (y : List Item). GoesWithFills q b r y x.tells.fills) (sym (flushes_quietly a goes.added l))
                (fills_stay p q b r (flushes_in a l) x.tells.fills goes.added (ap (λ (y : Shown). y.own.steps) goes.grown) (same_goes most touch p q off goes) x.tells.goes);
          };
          idle = owes_quietly a goes.added l own x.idle;
          settled = λ page free. unmarked_quietly u a page goes.added l (all_unmarked p goes.added goes.allowed) ∙ x.settled page free;
        };
      }

-- a lock that was found held
abbrev IsOfLock : Word → Type 0
IsOfLock (Lock h) = Unit {0}
IsOfLock w = ⊥

lock_off : (w : Word) → IsOfLock w → IsOffTable w
lock_off (Lock h) t = tt
lock_off w t = absurd t

lock_unmarked : (w : Word) → IsOfLock w → is_other w ≡ true
lock_unmarked (Lock h) t = refl
lock_unmarked w t = absurd t

pub lock_passes : (holder : ℕ) (p q : Shown) (b c : Book) (r : Regime) → HasBeenBusy holder p q b c → (others : ℕ → Bool) (o : Own) (u : Setup) (a : ℕ) (l : Log) → Rests others o p b r u a l → (s : Step) × Passes (s ∷ []) others o q c r u a l
lock_passes holder p q b c r f others o u a l x =
    let m = f.found.1 in
    let s = step_of p.own.actor m.word (Exchange 0) (p.own.actor + 1) holder in
    let calm : AreCalm p.own.actor (s ∷ []) = (subst (λ v. IsCalm v (Exchange 0) holder) (sym m.name) tt, subst (λ v. IsPlain p.own.actor v (Exchange 0)) (sym m.name) tt, tt) in
    let goes : GoesBy 1 IsOfLock p q = record { added = s ∷ []; few = omega arith; allowed = ((subst IsOfLock (sym m.name) tt, refl, m.may), tt); grown = m.step } in
    (s, subst (λ (y : Book). Passes (s ∷ []) others o q y r u a l) (sym f.book) (passes IsOfLock lock_off lock_unmarked 1 p q b r goes calm others o u a l x))

-- POSTS AND POLLS

asks_off : (a : ℕ) (w : Word) → IsOfAsks a w → IsOffTable w
asks_off a (Place t s k) x = tt
asks_off a (Kick h) x = tt
asks_off a w x = absurd x

asks_unmarked : (a : ℕ) (w : Word) → IsOfAsks a w → is_other w ≡ true
asks_unmarked a (Place t s k) x = refl
asks_unmarked a (Kick h) x = refl
asks_unmarked a w x = absurd x

asks_going : (a : ℕ) (w : Word) (op : WordOp) (arg answer : ℕ) (b : Bool) → IsOfAsks a w → is_finished_next w op arg answer b ≡ b
asks_going a (Place t s k) op arg answer b x = refl
asks_going a (Kick h) op arg answer b x = refl
asks_going a w op arg answer b x = absurd x

asks_calm : (a : ℕ) (w : Word) (op : WordOp) (answer : ℕ) → IsOfAsks a w → IsCalm w op answer
asks_calm a (Place t s k) op answer x = tt
asks_calm a (Kick h) op answer x = tt
asks_calm a w op answer x = absurd x

-- what a source stores in a place of its own is no ack
no_ack : (layout : Layout) (a : ℕ) (runs : Bool) (r : List Step) (t s k arg : ℕ) → ActorMay layout a runs r (Place t s k) Store arg → s ≡ a → t ≢ a
no_ack layout a runs r t s k arg (post ne there is request free) e = ne
no_ack layout a runs r t s k arg (ack ne there is untouched request loaded served) e = absurd (ne e)

permitted_plain : (layout : Layout) (a : ℕ) (runs : Bool) (r : List Step) (t s k arg : ℕ) → a ≢ loader → IsPermitted layout a runs r (Place t s k) Store arg → s ≡ a → t ≢ a
permitted_plain layout a runs r t s k arg ne (by_loader is may) e = absurd (ne is)
permitted_plain layout a runs r t s k arg ne (by_actor acts going may) e = no_ack layout a runs r t s k arg may e

asks_plain : (layout : Layout) (a : ℕ) (runs : Bool) (r : List Step) (w : Word) (op : WordOp) (arg : ℕ) → a ≢ loader → IsPermitted layout a runs r w op arg → IsOfAsks a w → IsPlain a w op
asks_plain layout a runs r (Place t s k) Store arg ne may x = permitted_plain layout a runs r t s k arg ne may x
asks_plain layout a runs r (Place t s k) op arg ne may x = tt
asks_plain layout a runs r (Kick h) op arg ne may x = tt
asks_plain layout a runs r w op arg ne may x = absurd x

all_calm : (p : Shown) (r : List Step) → p.own.actor ≢ loader → AreAllowed (IsOfAsks p.own.actor) p r → AreCalm p.own.actor r
all_calm p [] ne k = tt
all_calm p (s ∷ r) ne k = (
  asks_calm p.own.actor (name_of s.word) s.op s.answer k.0.0,
  asks_plain p.machine.layout p.own.actor p.own.runs (r ++ p.own.steps) (name_of s.word) s.op s.arg ne k.0.2 k.0.0,
  all_calm p r ne k.1,
)

pub asks_rest : AsksRest
asks_rest most p q b r can goes others o u a l x still =
    let own = p.own.actor in
    let ne : own ≢ loader = let few = actor_few p can.acting in λ (e : own ≡ loader). let is : own ≡ 9 = e in omega (arith, few, is) in
    let z = passes (IsOfAsks own) (λ w t. asks_off own w t) (λ w t. asks_unmarked own w t) most p q b r goes (all_calm p goes.added ne goes.allowed) others o u a l x in
    let going : is_finished q.own.steps ≡ false = fold_goes is_finished_next false most (IsOfAsks own) p q (λ w op arg answer b t. asks_going own w op arg answer b t) goes ∙ can.acting.going in (
      beside_posts b most p q can (posts_of most own p q goes) (acting_goes most (IsOfAsks own) p q goes going can.acting),
      record {
        added = goes.added;
        steps_are = ap (λ (y : Shown). y.own.steps) goes.grown;
        grows = z.grows;
        behind = quiet_behind a goes.added l;
        rests = z.rests;
        not_due = ap (λ (run : List Event). is_due u.limit run a o.count) (events_quietly goes.added l) ∙ still;
      },
    )
