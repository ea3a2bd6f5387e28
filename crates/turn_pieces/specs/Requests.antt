-- Requests, as a log tells them: of the source, what it asked for since its last fetch, and of the target, that it flushed what it acks.
use Rattle.std.specs.Prelude.{◌≡◌, ◌⊎◌, ◌≤◌, ◌<◌, ℕ, ◌+◌, ◌==◌, IsTrue, if◌then◌else◌, false, [], ◌∷◌, Option, Some, None}
use Rattle.rv64_priv.specs.Flush.{Flush, Full, Pages}
use Rattle.step_laws.specs.declared.steps.Step.{Step}
use Rattle.step_laws.specs.declared.steps.WordOp.{WordOp}
use Rattle.step_laws.specs.declared.steps.WordOp.TheVariants.{Load, Store}
use Rattle.step_laws.specs.Map.{Word, Place, name_of}
use Rattle.step_laws.specs.Fields.{request_kind, request_count, request_page}
use Rattle.step_laws.specs.Places.{last_load}
use Rattle.step_laws.specs.Discipline.{IsAway, IsFetch, IsDrain}
use Rattle.machine_model.specs.Run.{fetches, flushes}
use Rattle.turn_pieces.specs.Log.{made, did, Log, steps_of, AtLast}

-- the request asks for a flush of this page, or of everything
abbrev pub Names : ℕ → Option ℕ → Type 0
Names n None = request_kind n ≡ 1
Names n (Some page) = (request_kind n ≡ 1) ⊎ ((request_kind n ≡ 2) × (request_page n ≤ page) × (page < request_page n + request_count n))

-- a request of the page, or of all, is posted at the place of t
abbrev pub IsPost : (a t k : ℕ) → Option ℕ → Step → Type 0
IsPost a t k page s = (name_of s.word ≡ Place t a k) × (s.op ≡ Store) × Names s.arg page

-- and since then the actor fetched nothing
abbrev pub HasPosted : (a t k : ℕ) → Option ℕ → Log → Type 0
HasPosted a t k page [] = ⊥
HasPosted a t k page (made s ∷ l) = IsPost a t k page s ⊎ HasPosted a t k page l
HasPosted a t k page (did e ∷ l) = (fetches a e ≡ false) × HasPosted a t k page l

-- and its place was loaded as 0 behind it
abbrev pub HasAnswered : (a t k : ℕ) → Option ℕ → Log → Type 0
HasAnswered a t k page [] = ⊥
HasAnswered a t k page (made s ∷ l) = ((name_of s.word ≡ Place t a k) × (s.op ≡ Load) × (s.answer ≡ 0) × HasPosted a t k page l) ⊎ HasAnswered a t k page l
HasAnswered a t k page (did e ∷ l) = (fetches a e ≡ false) × HasAnswered a t k page l

-- t was asked for all of this flush, in one request or in pieces, and answered
abbrev pub HasAsked : (a t : ℕ) → Flush → Log → Type 0
HasAsked a t Full l = (k : ℕ) × HasAnswered a t k None l
HasAsked a t (Pages page count) l = (q : ℕ) → page ≤ q → q < page + count → (k : ℕ) × HasAnswered a t k (Some q) l

-- what a request asks for: everything, or its pages
abbrev pub flush_of : ℕ → Flush
flush_of q = if request_kind q == 1 then Full else Pages (request_page q) (request_count q)

-- the place was loaded as this request, and since then nothing was done in it
abbrev pub HasFetched : Word → (q : ℕ) → Log → Type 0
HasFetched w q [] = ⊥
HasFetched w q (made s ∷ l) = IsFetch w q s ⊎ (IsAway w s × HasFetched w q l)
HasFetched w q (did e ∷ l) = HasFetched w q l

-- and behind that load, at a step elsewhere, stands a flush of the target that includes what the request asks for
abbrev pub HasFlushed : (t : ℕ) → Word → (q : ℕ) → Log → Type 0
HasFlushed t w q [] = ⊥
HasFlushed t w q (made s ∷ l) = IsAway w s × HasFlushed t w q l
HasFlushed t w q (did e ∷ l) = (IsTrue (flushes t (flush_of q) e) × AtLast (IsAway w) l × HasFetched w q l) ⊎ HasFlushed t w q l

-- where the actor acks a request for a flush, the log has the flush
abbrev pub Acks : (a : ℕ) → Log → Word → WordOp → Type 0
Acks a l (Place t s k) Store = t ≡ a → (q : ℕ) → last_load (Place t s k) (steps_of l) ≡ Some q → (IsDrain q → ⊥) → HasFlushed t (Place t s k) q l
Acks a l _ _ = Unit {0}
