-- What steps on places leave of a hart's table, and what steps on the table leave of places.
use Rattle.std.proofs.Common.{◌≡◌, ◌≢◌, ℕ, ◌<◌, ◌≤◌, Bool, false, List, [], ◌∷◌, ◌++◌, refl, sym, ap, subst, ◌∙◌}
use Rattle.std.specs.Prelude.{Option, None}
use Rattle.step_laws.specs.declared.map.TlbField.{TlbField}
use Rattle.step_laws.specs.declared.request.Request.{Request}
use Rattle.step_laws.specs.declared.steps.Step.{Step}
use Rattle.step_laws.specs.declared.steps.WordOp.{WordOp}
use Rattle.step_laws.specs.Discipline.{IsAway, IsFetch}
use Rattle.step_laws.specs.Map.{Word, Lock, Place, Size, Tlb, name_of}
use Rattle.step_laws.specs.Output.{has_touched, has_touched_next}
use Rattle.step_laws.specs.Past.{Anything, Since, past}
use Rattle.step_laws.specs.Places.{last_load, last_load_next}
use Rattle.step_laws.specs.Tables.{held_lock_next, is_clear_due, is_clear_due_next, size_of, table_boot, table_next, table_word}
use Rattle.guest_ram.specs.Areas.{IsOfPlaces, IsOfService, IsOfTable}
use Rattle.guest_ram.specs.Ports.{Shown, AreAllowed, GoesBy, IsActing}
use Rattle.guest_ram.proofs.Moves.{fold_goes, goes_at_most, goes_within}
use Rattle.tlb_entry.specs.declared.books.Book.{Book}
use Rattle.tlb_table.proofs.Aside.{IsOffTable, book_goes}
use Rattle.kept_fills.specs.Beside.{IsBeside}
use Rattle.kept_fills.specs.Fills.{HasSameTable}
use Rattle.kept_fills.proofs.Staying.{fills_stay}
use Rattle.walk_laws.specs.KeptWalks.{made_all}
use Rattle.work_queue.proofs.Ringed.{IsNoPlace}
use Rattle.work_queue.specs.Acks.{IsLoaded}
use Rattle.request_serving.specs.Served.{HasFills}

places_off : (w : Word) → IsOfPlaces w → IsOffTable w
places_off (Place t s k) x = tt
places_off w x = absurd x

held_aside : (w : Word) (op : WordOp) (arg answer n : ℕ) → IsOfPlaces w → held_lock_next w op arg answer n ≡ n
held_aside (Place t s k) op arg answer n x = refl
held_aside w op arg answer n x = absurd x

due_aside : (a j : ℕ) (f : TlbField) (w : Word) (op : WordOp) (arg size : ℕ) (b : Bool) → IsOfPlaces w → is_clear_due_next a j f w op arg size b ≡ b
due_aside a j f (Place t s k) op arg size b x = refl
due_aside a j f w op arg size b x = absurd x

due_behind : (p : Shown) (a j : ℕ) (f : TlbField) (added r : List Step) → AreAllowed IsOfPlaces p added → is_clear_due a j f (added ++ r) ≡ is_clear_due a j f r
due_behind p a j f [] r all = refl
due_behind p a j f (s ∷ added) r all = due_aside a j f (name_of s.word) s.op s.arg _ (is_clear_due a j f (added ++ r)) all.0.0 ∙ due_behind p a j f added r all.1

pub beside_places : (b : Book) (n : ℕ) (p q : Shown) → IsBeside b p → GoesBy n IsOfPlaces p q → IsActing q → IsBeside b q
beside_places b n p q k goes acting = record {
  acting = acting;
  hart = subst (λ (x : Shown). x.own.actor < x.machine.layout.harts) (sym goes.grown) k.hart;
  book = book_goes b n IsOfPlaces p q places_off goes k.book;
  free = fold_goes held_lock_next 0 n IsOfPlaces p q (λ w op arg answer x t. held_aside w op arg answer x t) goes ∙ k.free;
  owes = λ j f c. ap (λ (x : Shown). is_clear_due x.own.actor j f x.own.steps) goes.grown ∙ due_behind p p.own.actor j f goes.added p.own.steps goes.allowed ∙ k.owes j f c;
}

word_aside : (v w : Word) (op : WordOp) (arg answer n : ℕ) → IsOfPlaces w → table_next v w op arg answer n ≡ n
word_aside (Tlb h j f) (Place t s k) op arg answer n x = refl
word_aside (Size h) (Place t s k) op arg answer n x = refl
word_aside v (Place t s k) op arg answer n x = refl
word_aside v w op arg answer n x = absurd x

same_table : (n : ℕ) (p q : Shown) → GoesBy n IsOfPlaces p q → HasSameTable p q
same_table n p q goes = let word : (v : Word) → table_word v q.own.steps ≡ table_word v p.own.steps = λ v. fold_goes (table_next v) (table_boot v) n IsOfPlaces p q (λ w op arg answer x t. word_aside v w op arg answer x t) goes in
    let actor : q.own.actor ≡ p.own.actor = ap (λ (x : Shown). x.own.actor) goes.grown in record {
      machine = ap (λ (x : Shown). x.machine) goes.grown;
      actor = actor;
      size = ap (λ a. size_of a q.own.steps) actor ∙ word (Size p.own.actor);
      words = λ slot field. ap (λ a. table_word (Tlb a slot field) q.own.steps) actor ∙ word (Tlb p.own.actor slot field);
    }

pub fills_places : (b : Book) (n : ℕ) (p q : Shown) → HasFills b p → GoesBy n IsOfPlaces p q → HasFills b q
fills_places b n p q f goes = (f.0, made_all goes.added ++ f.1, f.2, fills_stay p q b f.0 f.1 f.2 goes.added (ap (λ (x : Shown). x.own.steps) goes.grown) (same_table n p q goes) f.3)

-- no step on the table is on RAM
touched_aside : (w : Word) (op : WordOp) (arg answer : ℕ) (b : Bool) → IsOfTable w → has_touched_next w op arg answer b ≡ b
touched_aside (Lock h) op arg answer b x = refl
touched_aside (Size h) op arg answer b x = refl
touched_aside (Tlb h j f) op arg answer b x = refl
touched_aside w op arg answer b x = absurd x

pub untouched_goes : (n : ℕ) (p q : Shown) → GoesBy n IsOfTable p q → has_touched p.own.steps ≡ false → has_touched q.own.steps ≡ false
untouched_goes n p q goes e = fold_goes has_touched_next false n IsOfTable p q (λ w op arg answer b t. touched_aside w op arg answer b t) goes ∙ e

pub table_no_place : (w : Word) → IsOfTable w → IsNoPlace w
table_no_place (Lock h) x = tt
table_no_place (Size h) x = tt
table_no_place (Tlb h j f) x = tt
table_no_place w x = absurd x

-- nor on a place
load_aside : (t s k : ℕ) (w : Word) (op : WordOp) (arg answer : ℕ) (x : Option ℕ) → IsOfTable w → last_load_next (Place t s k) w op arg answer x ≡ x
load_aside t s k (Lock h) op arg answer x off = refl
load_aside t s k (Size h) op arg answer x off = refl
load_aside t s k (Tlb h j f) op arg answer x off = refl
load_aside t s k w op arg answer x off = absurd off

away : (t s k : ℕ) (w : Word) → IsOfTable w → w ≢ Place t s k
away t s k w off e = subst IsOfTable e off

since_behind : (p : Shown) (t s k n : ℕ) (added r : List Step) → AreAllowed IsOfTable p added
    → Since (IsAway (Place t s k)) (IsFetch (Place t s k) n) Anything r → Since (IsAway (Place t s k)) (IsFetch (Place t s k) n) Anything (added ++ r)
since_behind p t s k n [] r all since = since
since_behind p t s k n (x ∷ added) r all since = past (away t s k (name_of x.word) all.0.0) (since_behind p t s k n added r all.1 since)

pub loaded_goes : (n : ℕ) (request : Request) (s k : ℕ) (p q : Shown) → GoesBy n IsOfTable p q → IsLoaded request s k p → IsLoaded request s k q
loaded_goes n request s k p q goes l = let actor : q.own.actor ≡ p.own.actor = ap (λ (x : Shown). x.own.actor) goes.grown in record {
  word = l.word;
  is_word = l.is_word;
  loaded = ap (λ a. last_load (Place a s k) q.own.steps) actor
      ∙ fold_goes (last_load_next (Place p.own.actor s k)) None n IsOfTable p q (λ w op arg answer x t. load_aside p.own.actor s k w op arg answer x t) goes ∙ l.loaded;
  since = subst (λ (x : Shown). Since (IsAway (Place x.own.actor s k)) (IsFetch (Place x.own.actor s k) l.word) Anything x.own.steps) (sym goes.grown)
      (since_behind p p.own.actor s k l.word goes.added p.own.steps goes.allowed l.since);
}

places_service : (w : Word) → IsOfPlaces w → IsOfService w
places_service (Place t s k) x = tt
places_service w x = absurd x

table_service : (w : Word) → IsOfTable w → IsOfService w
table_service (Lock h) x = tt
table_service (Size h) x = tt
table_service (Tlb h j f) x = tt
table_service w x = absurd x

pub places_serve : (m n : ℕ) (p q : Shown) → m ≤ n → GoesBy m IsOfPlaces p q → GoesBy n IsOfService p q
places_serve m n p q le goes = goes_at_most m n IsOfService p q le (goes_within m IsOfPlaces IsOfService p q places_service goes)

pub table_serves : (m n : ℕ) (p q : Shown) → m ≤ n → GoesBy m IsOfTable p q → GoesBy n IsOfService p q
table_serves m n p q le goes = goes_at_most m n IsOfService p q le (goes_within m IsOfTable IsOfService p q table_service goes)
