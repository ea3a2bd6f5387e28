use Rattle.kept_fills.specs.Beside.{IsBeside}
use Rattle.sbi_calls.specs.Fences.{HaveFlushed}
use Rattle.sbi_calls.proofs.Owns.{IsWithin}
use Rattle.sbi_calls.proofs.flushing.flush_pieces.Given as goal

abbrev pub invariant-loop-number : goal.invariant-loop-number
invariant-loop-number g l = record {
  flushed : HaveFlushed l.span l.flushed (g.P.Look.shows l.fn.port) l.fn.book l.number (g.P.Look.shows l.port) l.book;
  within : IsWithin l.fn.book l.number (g.P.Look.shows l.fn.port) (g.P.Look.shows l.port) l.book;
  beside : IsBeside l.book (g.P.Look.shows l.port);
}
