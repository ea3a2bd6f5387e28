-- A turn of a fence as a whole: posts, own flushes, polls.
use Rattle.std.proofs.Common.{◌≡◌, ℕ, ◌+◌, ◌<◌, Bool, List, [], ◌∷◌, ◌++◌, refl, sym, ap, subst, ◌∙◌, arith}
use Rattle.std.specs.Prelude.{slice_index}
use Rattle.step_laws.specs.declared.map.TlbField.{TlbField}
use Rattle.step_laws.specs.declared.steps.Step.{Step}
use Rattle.step_laws.specs.declared.steps.WordOp.{WordOp}
use Rattle.step_laws.specs.Map.{Word, Kick, Lock, Place, Size, Tlb, name_of}
use Rattle.step_laws.specs.Tables.{held_lock_next, is_clear_due, is_clear_due_next}
use Rattle.guest_ram.specs.Areas.{IsOfPlaces, IsOfTable}
use Rattle.guest_ram.specs.Ports.{Shown, AreAllowed, GoesBy, IsActing}
use Rattle.guest_ram.proofs.Moves.{fold_goes, goes_at_most, goes_then, goes_within}
use Rattle.tlb_entry.specs.declared.books.Book.{Book}
use Rattle.tlb_table.proofs.Aside.{IsOffTable, book_goes}
use Rattle.kept_fills.specs.Beside.{IsBeside}
use Rattle.flush.specs.Flushed.{full_steps}
use Rattle.work_queue.specs.declared.rings.Sent.{Sent}
use Rattle.work_queue.specs.Posts.{IsOfPosts}
use Rattle.work_queue.specs.Rings.{next_post}
use Rattle.work_queue.proofs.Posted.{places_posts}
use Rattle.work_queue.proofs.Ringed.{IsNoPlace}
use Rattle.sbi_calls.specs.declared.spans.Fence.{Fence}
use Rattle.hart_calls.specs.declared.spans.Span.{Span}
use Rattle.sbi_calls.specs.Fences.{GoesWithFence, HasBeenBusyAt, HaveFlushed, IsAnsweredAt, IsOfFence, IsTarget, place_of}
use Rattle.sbi_calls.specs.Spans.{pieces_of}

-- posts leave the own table and its lock
posts_off : (w : Word) → IsOfPosts w → IsOffTable w
posts_off (Place t s k) x = tt
posts_off (Kick h) x = tt
posts_off w x = absurd x

held_aside : (w : Word) (op : WordOp) (arg answer n : ℕ) → IsOfPosts w → held_lock_next w op arg answer n ≡ n
held_aside (Place t s k) op arg answer n x = refl
held_aside (Kick h) op arg answer n x = refl
held_aside w op arg answer n x = absurd x

due_aside : (a j : ℕ) (f : TlbField) (w : Word) (op : WordOp) (arg size : ℕ) (b : Bool) → IsOfPosts w → is_clear_due_next a j f w op arg size b ≡ b
due_aside a j f (Place t s k) op arg size b x = refl
due_aside a j f (Kick h) op arg size b x = refl
due_aside a j f w op arg size b x = absurd x

due_behind : (p : Shown) (a j : ℕ) (f : TlbField) (added r : List Step) → AreAllowed IsOfPosts p added → is_clear_due a j f (added ++ r) ≡ is_clear_due a j f r
due_behind p a j f [] r all = refl
due_behind p a j f (s ∷ added) r all = due_aside a j f (name_of s.word) s.op s.arg _ (is_clear_due a j f (added ++ r)) all.0.0 ∙ due_behind p a j f added r all.1

pub beside_posts : (b : Book) (n : ℕ) (p q : Shown) → IsBeside b p → GoesBy n IsOfPosts p q → IsActing q → IsBeside b q
beside_posts b n p q k goes acting = record {
  acting = acting;
  hart = subst (λ (x : Shown). x.own.actor < x.machine.layout.harts) (sym goes.grown) k.hart;
  book = book_goes b n IsOfPosts p q posts_off goes k.book;
  free = fold_goes held_lock_next 0 n IsOfPosts p q (λ w op arg answer x t. held_aside w op arg answer x t) goes ∙ k.free;
  owes = λ j f c. ap (λ (x : Shown). is_clear_due x.own.actor j f x.own.steps) goes.grown ∙ due_behind p p.own.actor j f goes.added p.own.steps goes.allowed ∙ k.owes j f c;
}

pub beside_places : (b : Book) (n : ℕ) (p q : Shown) → IsBeside b p → GoesBy n IsOfPlaces p q → IsActing q → IsBeside b q
beside_places b n p q k goes acting = beside_posts b n p q k (goes_within n IsOfPlaces IsOfPosts p q places_posts goes) acting

pub table_no_place : (w : Word) → IsOfTable w → IsNoPlace w
table_no_place (Lock h) x = tt
table_no_place (Size h) x = tt
table_no_place (Tlb h j f) x = tt
table_no_place w x = absurd x

posts_fence : (w : Word) → IsOfPosts w → IsOfFence w
posts_fence (Place t s k) x = tt
posts_fence (Kick h) x = tt
posts_fence w x = absurd x

table_fence : (w : Word) → IsOfTable w → IsOfFence w
table_fence (Lock h) x = tt
table_fence (Size h) x = tt
table_fence (Tlb h j f) x = tt
table_fence w x = absurd x

-- how many steps
pub goes_first : (s : ℕ) (p a : Shown) → GoesBy 216 IsOfPosts p a → GoesBy (full_steps s + 3369) IsOfFence p a
goes_first s p a x = goes_at_most 216 _ IsOfFence p a (omega arith) (goes_within 216 IsOfPosts IsOfFence p a posts_fence x)

pub goes_second : (s : ℕ) (p a b : Shown) → GoesBy 216 IsOfPosts p a → GoesBy (full_steps s + 3089) IsOfTable a b → GoesBy (full_steps s + 3305) IsOfFence p b
goes_second s p a b x y = goes_at_most (216 + (full_steps s + 3089)) _ IsOfFence p b (omega arith)
    (goes_then 216 (full_steps s + 3089) IsOfFence p a b (goes_within 216 IsOfPosts IsOfFence p a posts_fence x) (goes_within (full_steps s + 3089) IsOfTable IsOfFence a b table_fence y))

pub goes_held : (s : ℕ) (p a b : Shown) → GoesBy 216 IsOfPosts p a → GoesBy (full_steps s + 3089) IsOfTable a b → GoesBy (full_steps s + 3369) IsOfFence p b
goes_held s p a b x y = goes_at_most (full_steps s + 3305) _ IsOfFence p b (omega arith) (goes_second s p a b x y)

pub goes_third : (s : ℕ) (p a b q : Shown) → GoesBy 216 IsOfPosts p a → GoesBy (full_steps s + 3089) IsOfTable a b → GoesBy 64 IsOfPlaces b q → GoesBy (full_steps s + 3369) IsOfFence p q
goes_third s p a b q x y z = goes_at_most (full_steps s + 3305 + 64) _ IsOfFence p q (omega arith)
    (goes_then (full_steps s + 3305) 64 IsOfFence p b q (goes_second s p a b x y) (goes_within 64 IsOfPlaces IsOfFence b q (λ w t. posts_fence w (places_posts w t)) z))

-- the own pieces, by equal numbers
pub flushed_as : (span : Span) (from to f t : ℕ) (p q : Shown) (b c : Book) → from ≡ f → to ≡ t → HaveFlushed span from p b to q c → HaveFlushed span f p b t q c
flushed_as span from to f t p q b c e g h = subst (λ x. HaveFlushed span x p b t q c) e (subst (λ x. HaveFlushed span from p b x q c) g h)

pub busy_as : (span : Span) (from to f t holder : ℕ) (p q : Shown) (b c : Book) → from ≡ f → to ≡ t → HasBeenBusyAt span from to holder p q b c → HasBeenBusyAt span f t holder p q b c
busy_as span from to f t holder p q b c e g h = subst (λ x. HasBeenBusyAt span x t holder p q b c) e (subst (λ x. HasBeenBusyAt span from x holder p q b c) g h)

-- all pieces are answered at a target
pub answered_at : (harts : ℕ) (span : Span) (sent : Sent) (fence : Fence) (base : List Step) (t : ℕ) (q : Shown) → GoesWithFence harts span sent fence base q → IsTarget harts q t → slice_index fence.acked t ≡ pieces_of span → IsAnsweredAt span t base q
answered_at harts span sent fence base t q f i all = let a = f.at t i in record {
  since = a.since;
  is = a.is;
  answered = λ n l. (place_of (next_post sent t) (slice_index fence.posted t) n, a.answered n (subst (λ m. n < m) (sym all) l));
}
