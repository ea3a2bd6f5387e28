-- What a fence asked of another hart, as the log of the hart that makes it shows it.
use Rattle.std.proofs.Common.{◌≡◌, ◌≤◌, ◌<◌, ℕ, ◌+◌, ◌*◌, ◌/◌, List, [], ◌∷◌, ◌++◌, Option, None, Some, refl, sym, ap, subst, ◌∙◌, arith, inl, inr}
use Rattle.std.specs.Prelude.{◌-◌, min}
use Rattle.std.proofs.lemmas.List.{append_cancel_right}
use Rattle.step_laws.specs.declared.request.Request.{Request}
use Rattle.step_laws.specs.declared.request.Request.TheVariants.{FlushPages}
use Rattle.step_laws.specs.declared.steps.Step.{Step}
use Rattle.step_laws.specs.Fields.{IsWordOf, request_count, request_page}
use Rattle.step_laws.specs.Past.{at_head, further}
use Rattle.guest_ram.specs.Ports.{Shown}
use Rattle.hart_calls.specs.declared.spans.Span.{Span}
use Rattle.hart_calls.specs.declared.spans.Span.TheVariants.{All, Pages}
use Rattle.sbi_calls.specs.Fences as fences
use Rattle.sbi_calls.specs.Spans.{piece_of, pieces_of}
use Rattle.turn_pieces.specs.Log.{Log, did, events_of, made, steps_of}
use Rattle.turn_pieces.specs.Requests.{HasAnswered, HasPosted, Names}
use Rattle.fence_pieces.specs.Behind.{AreNoFetches}
use Rattle.fence_pieces.specs.Laws.{FencesAreAsked}

steps_append : (l m : Log) → steps_of (l ++ m) ≡ steps_of l ++ steps_of m
steps_append [] m = refl
steps_append (made s ∷ l) m = ap (λ (r : List Step). s ∷ r) (steps_append l m)
steps_append (did e ∷ l) m = steps_append l m

-- the piece of a page, and its part of the span
pub piece_there : (page count q : ℕ) → page ≤ q → q < page + count → (q - page) / 64 < (count + 63) / 64
piece_there page count q low high = omega arith

pub piece_low : (page q : ℕ) → page ≤ q → page + 64 * ((q - page) / 64) ≤ q
piece_low page q low = omega arith

pub piece_high : (page count q : ℕ) → page ≤ q → q < page + count → q < page + 64 * ((q - page) / 64) + min (count - 64 * ((q - page) / 64)) 64
piece_high page count q low high = omega arith

-- each word of the request names the page, or everything
abbrev WordsName : Request → Option ℕ → Type 0
WordsName request page = (n : ℕ) → IsWordOf request n → Names n page

pages_name : (first count page : ℕ) → first ≤ page → page < first + count → WordsName (FlushPages first count) (Some page)
pages_name first count page low high n is =
    let c : request_count n ≡ count = is.1 in
    let f : request_page n ≡ first = is.2 in
    inr (is.0, subst (λ m. m ≤ page) (sym f) low, subst (λ m. page < m + request_count n) (sym f) (subst (λ m. page < first + m) (sym c) high))

module _ (a t k : ℕ) (request : Request) (page : Option ℕ) (named : WordsName request page) (base : Log) where
  posted : (l : Log) → AreNoFetches a (events_of l) → fences.HasAsked a t k request (steps_of l) → HasPosted a t k page (l ++ base)
  posted [] n x = elim x [ ]
  posted (made s ∷ l) n (at_head x y) = inl (x.0, x.1, named s.arg x.2)
  posted (made s ∷ l) n (further x) = inr (posted l n x)
  posted (did e ∷ l) n x = (n.0, posted l n.1 x)

  answered : (l : Log) → AreNoFetches a (events_of l) → fences.HasAnswered a t k request (steps_of l) → HasAnswered a t k page (l ++ base)
  answered [] n x = elim x [ ]
  answered (made s ∷ l) n (at_head x y) = inl (x.0, x.1, x.2, posted l n y)
  answered (made s ∷ l) n (further x) = inr (answered l n x)
  answered (did e ∷ l) n x = (n.0, answered l n.1 x)

-- each piece that was answered, in the log
in_log : (span : Span) (t : ℕ) (p : Shown) (a : ℕ) (base added : Log) (page : Option ℕ) (i : ℕ) → a ≡ p.own.actor → steps_of (added ++ base) ≡ p.own.steps → AreNoFetches a (events_of added) → fences.IsAnsweredAt span t (steps_of base) p
    → i < pieces_of span → WordsName (piece_of span i) page → (k : ℕ) × HasAnswered a t k page (added ++ base)
in_log span t p a base added page i own steps none x few named =
    let y = x.answered i few in
    let since : x.since ≡ steps_of added = append_cancel_right x.since (steps_of added) (steps_of base) (sym x.is ∙ sym steps ∙ steps_append added base) in (
      y.0,
      answered a t y.0 (piece_of span i) page named base added none
          (subst (λ (r : List Step). fences.HasAnswered a t y.0 (piece_of span i) r) since (subst (λ n. fences.HasAnswered n t y.0 (piece_of span i) x.since) (sym own) y.1)),
    )

by_span : (span : Span) (t : ℕ) (p : Shown) (a : ℕ) (base added : Log) → a ≡ p.own.actor → steps_of (added ++ base) ≡ p.own.steps → AreNoFetches a (events_of added) → fences.IsAnsweredAt span t (steps_of base) p
    → Rattle.turn_pieces.specs.Requests.HasAsked a t (Rattle.hart_calls.specs.Spans.flush_of span) (added ++ base)
by_span All t p a base added own steps none x = in_log All t p a base added None 0 own steps none x (omega arith) (λ n is. is.0)
by_span (Pages page count) t p a base added own steps none x = λ q low high.
    in_log (Pages page count) t p a base added (Some q) ((q - page) / 64) own steps none x (piece_there page count q low high)
    (pages_name (page + 64 * ((q - page) / 64)) (min (count - 64 * ((q - page) / 64)) 64) q (piece_low page q low) (piece_high page count q low high))

pub fences_are_asked : FencesAreAsked
fences_are_asked span t p a base l own steps behind x =
    subst (λ (m : Log). Rattle.turn_pieces.specs.Requests.HasAsked a t (Rattle.hart_calls.specs.Spans.flush_of span) m) (sym behind.is)
    (by_span span t p a base behind.added own (subst (λ (m : Log). steps_of m ≡ p.own.steps) behind.is steps) behind.none x)
