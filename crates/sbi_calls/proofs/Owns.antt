-- The own pieces, and how many steps their flushes make: only the first of them can be made full.
use Rattle.std.proofs.Common.{◌≡◌, ◌≢◌, ℕ, ◌+◌, ◌*◌, ◌-◌, ◌<◌, ◌≤◌, Bool, true, false, refl, sym, ap, ◌∙◌, arith}
use Rattle.std.specs.Prelude.{min}
use Rattle.step_laws.specs.declared.request.Request.{Request}
use Rattle.step_laws.specs.declared.request.Request.TheVariants.{Drain}
use Rattle.step_laws.specs.Fields.{IsRequest}
use Rattle.guest_ram.specs.Areas.{IsOfTable}
use Rattle.guest_ram.specs.Ports.{Shown, GoesBy}
use Rattle.guest_ram.proofs.Moves.{goes_then, goes_at_most}
use Rattle.tlb_entry.specs.declared.books.Book.{Book}
use Rattle.flush.specs.Flushed.{HasFlushed, HasFlushedAll, full_steps, page_steps}
use Rattle.hart_calls.specs.declared.spans.Span.{Span}
use Rattle.hart_calls.specs.declared.spans.Span.TheVariants.{All, Pages}
use Rattle.sbi_calls.specs.Fences.{HasFlushedPiece, piece_steps}
use Rattle.sbi_calls.specs.Spans.{piece_of, pieces_of}

-- behind so many pieces: all of them were of pages and small, or one was full, and then the book has no large leaf
pub data IsWithin (b : Book) (n : ℕ) (p q : Shown) (c : Book) : Type 0 where
  small : c ≡ b → GoesBy (386 * n) IsOfTable p q → IsWithin b n p q c
  full : 1 ≤ n → c.large ≡ false → GoesBy (full_steps b.size + 386 * n) IsOfTable p q → IsWithin b n p q c

pub within_most : (b : Book) (n : ℕ) (p q : Shown) (c : Book) → n ≤ 8 → IsWithin b n p q c → GoesBy (full_steps b.size + 3089) IsOfTable p q
within_most b n p q c l (small e g) = goes_at_most (386 * n) _ IsOfTable p q (omega (arith, l)) g
within_most b n p q c l (full m e g) = goes_at_most (full_steps b.size + 386 * n) _ IsOfTable p q (omega (arith, l)) g

no_drain : (span : Span) (n : ℕ) → piece_of span n ≢ Drain
no_drain All n e = absurd (cc)
no_drain (Pages page count) n e = absurd (cc)

pub piece_no_drain : (span : Span) (n : ℕ) (r : Request) → r ≡ piece_of span n → r ≢ Drain
piece_no_drain span n r e d = no_drain span n (sym e ∙ d)

-- one piece more
module _ (b : Book) (p q r : Shown) (c d : Book) where
  by_pages : (large : Bool) (page count n : ℕ) → c.large ≡ large → count ≤ 64 → IsWithin b n p q c → HasFlushed large q r c d page count → GoesBy (page_steps large c.size count) IsOfTable q r → IsWithin b (n + 1) p r d
  by_pages false page count n e l (small s g) h k = small (h.book ∙ s) (goes_at_most (386 * n + (6 * count + 2)) _ IsOfTable p r (omega (arith, l)) (goes_then (386 * n) (6 * count + 2) IsOfTable p q r g k))
  by_pages false page count n e l (full m s g) h k = full (omega arith) (ap (λ (x : Book). x.large) h.book ∙ s)
      (goes_at_most (full_steps b.size + 386 * n + (6 * count + 2)) _ IsOfTable p r (omega (arith, l)) (goes_then (full_steps b.size + 386 * n) (6 * count + 2) IsOfTable p q r g k))
  by_pages true page count n e l (small s g) h k = full (omega arith) (ap (λ (x : Book). x.large) h.book)
      (let same : c.size ≡ b.size = ap (λ (x : Book). x.size) s in goes_at_most (386 * n + full_steps c.size) _ IsOfTable p r (omega (arith, same)) (goes_then (386 * n) (full_steps c.size) IsOfTable p q r g k))
  by_pages true page count n e l (full m s g) h k = absurd (let f : true ≡ false = sym e ∙ s in cc)

  by_all : (n : ℕ) → n < 1 → IsWithin b n p q c → HasFlushedAll q r c d → GoesBy (full_steps c.size) IsOfTable q r → IsWithin b (n + 1) p r d
  by_all n l (small s g) h k = full (omega arith) (ap (λ (x : Book). x.large) h.book)
      (let same : c.size ≡ b.size = ap (λ (x : Book). x.size) s in goes_at_most (386 * n + full_steps c.size) _ IsOfTable p r (omega (arith, same)) (goes_then (386 * n) (full_steps c.size) IsOfTable p q r g k))
  by_all n l (full m s g) h k = absurd (omega (arith, l, m))

  pub within_more : (span : Span) (n : ℕ) → n < pieces_of span → IsRequest (piece_of span n) → IsWithin b n p q c → HasFlushedPiece (piece_of span n) q r c d → GoesBy (piece_steps c.large c.size (piece_of span n)) IsOfTable q r → IsWithin b (n + 1) p r d
  within_more All n l is w h k = by_all n l w h k
  within_more (Pages page count) n l is w h k = by_pages c.large (page + 64 * n) (min (count - 64 * n) 64) n refl is.2 w h k

  -- a busy lock took one exchange
  pub within_busy : (span : Span) (n : ℕ) → n < pieces_of span → IsRequest (piece_of span n) → n < 8 → IsWithin b n p q c → GoesBy 1 IsOfTable q r → GoesBy (full_steps b.size + 3089) IsOfTable p r
  within_busy span n l is few (small s g) k = goes_at_most (386 * n + 1) _ IsOfTable p r (omega (arith, few)) (goes_then (386 * n) 1 IsOfTable p q r g k)
  within_busy span n l is few (full m s g) k = goes_at_most (full_steps b.size + 386 * n + 1) _ IsOfTable p r (omega (arith, few)) (goes_then (full_steps b.size + 386 * n) 1 IsOfTable p q r g k)
