-- Requests in rings of eight places: what a source's and a target's record say of the places of the pair.
use Rattle.std.specs.Prelude.{ℕ, ◌%◌, ◌==◌, ◌&&◌, Option, Some, None, List, [], ◌∷◌, length, if◌then◌else◌}
use Rattle.step_laws.specs.declared.steps.Step.{Step}
use Rattle.step_laws.specs.declared.steps.WordOp.{WordOp}
use Rattle.step_laws.specs.declared.steps.WordOp.TheVariants.{Load, Store}
use Rattle.step_laws.specs.Map.{Word, Place, name_of, same}
use Rattle.step_laws.specs.Folds.{fold_steps}

abbrev pub load_answer : WordOp → ℕ → Option ℕ
load_answer Load answer = Some answer
load_answer _ answer = None

abbrev pub last_load_next : Word → Word → WordOp → ℕ → ℕ → Option ℕ → Option ℕ
last_load_next v w op arg answer o = if same v w then load_answer op answer else o

-- what the last step on the word answered, where it is a load
abbrev pub last_load : Word → List Step → Option ℕ
last_load v r = fold_steps (last_load_next v) None r

abbrev pub posts_next : (t s : ℕ) → Word → WordOp → ℕ → ℕ → List ℕ → List ℕ
posts_next t s (Place u v k) Store arg answer xs = if (t == u) && (s == v) then arg ∷ xs else xs
posts_next t s _ _ _ _ xs = xs

-- of the source s's record: what it posted at the target t
abbrev pub posts : (t s : ℕ) → List Step → List ℕ
posts t s r = fold_steps (posts_next t s) [] r

abbrev pub answer_or_zero : Option ℕ → ℕ
answer_or_zero None = 0
answer_or_zero (Some n) = n

abbrev pub acked_requests_next : (t s : ℕ) → Word → WordOp → List Step → List ℕ → List ℕ
acked_requests_next t s (Place u v k) Store r xs = if (t == u) && (s == v) then answer_or_zero (last_load (Place u v k) r) ∷ xs else xs
acked_requests_next t s _ _ r xs = xs

-- of the target t's record: the requests of the source s that it acked, as it loaded them
abbrev pub acked_requests : (t s : ℕ) → List Step → List ℕ
acked_requests t s [] = []
acked_requests t s (x ∷ r) = acked_requests_next t s (name_of x.word) x.op r (acked_requests t s r)

-- the place for post or ack number n, from 0
abbrev pub ring_place : ℕ → ℕ
ring_place n = n % 8

-- the place for the source's next post, and for the target's next load and ack
abbrev pub post_place : (t s : ℕ) → List Step → ℕ
post_place t s r = ring_place (length (posts t s r))

abbrev pub ack_place : (t s : ℕ) → List Step → ℕ
ack_place t s r = ring_place (length (acked_requests t s r))
