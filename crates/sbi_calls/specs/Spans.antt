-- What a remote fence names, and the pieces in which it is sent (SBI specification, "RFENCE Extension"; that it is sent in pieces of 64 pages
-- is this project's own).
use Rattle.std.specs.Prelude.{ℕ, ◌+◌, ◌-◌, ◌*◌, ◌/◌, ◌%◌, ◌^◌, ◌==◌, Bool, min}
use Rattle.step_laws.specs.declared.request.Request.{Request}
use Rattle.step_laws.specs.declared.request.Request.TheVariants.{FlushAll, FlushPages}
use Rattle.hart_calls.specs.declared.spans.Span.{Span}
use Rattle.hart_calls.specs.declared.spans.Span.TheVariants.{All, Pages}

-- in how many pieces it is sent
abbrev pub pieces_of : Span → ℕ
pieces_of All = 1
pieces_of (Pages page count) = (count + 63) / 64

-- each piece but the last has 64 pages
abbrev pub piece_of : Span → (number : ℕ) → Request
piece_of All i = FlushAll
piece_of (Pages page count) i = FlushPages (page + 64 * i) (min (count - 64 * i) 64)

-- bit h of the mask names hart h
abbrev pub is_named : (harts hart : ℕ) → Bool
is_named harts h = harts / 2 ^ h % 2 == 1
