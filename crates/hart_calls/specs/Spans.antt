-- What a remote fence names (RISC-V SBI, "RFENCE Extension"; that more than 512 pages are everything is this project's own).
use Rattle.std.specs.Prelude.{◌+◌, ◌^◌, ◌≤◌}
use Rattle.rv64_priv.specs.Flush.{Flush, Full, Pages as SomePages}
use Rattle.hart_calls.specs.declared.spans.Span.{Span}
use Rattle.hart_calls.specs.declared.spans.Span.TheVariants.{All, Pages}

-- 1 to 512 pages, by numbers of 52 bits
abbrev pub IsSpan : Span → Type 0
IsSpan All = Unit {0}
IsSpan (Pages page count) = (1 ≤ count) × (count ≤ 512) × (page + count ≤ 2 ^ 52)

-- the flush that it asks each hart for
abbrev pub flush_of : Span → Flush
flush_of All = Full
flush_of (Pages page count) = SomePages page count
