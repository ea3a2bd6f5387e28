-- A line as the program keeps it, and what it has read of one.
use Rattle.std.specs.Prelude.{◌≤◌, map}
use Rattle.tlbvm.specs.declared.options.seen.Seen.{Seen}
use Rattle.tlbvm.specs.declared.options.Asked.{Asked as AskedRead}
use Rattle.tlbvm.specs.declared.options.Line.{Line as LineRead}
use Rattle.tlbvm.specs.Options.{Asked, Line, Plain, Dis, Asm, Gen, SoFar}

abbrev pub asked_as : AskedRead → Asked
asked_as asked = record { harts = asked.harts; pages = asked.pages; limit = asked.limit; regs = asked.regs }

abbrev pub line_as : LineRead → Line
line_as (LineRead.Plain elf order asked) = Plain elf.now order.now (asked_as asked)
line_as (LineRead.Dis elf) = Dis elf.now
line_as (LineRead.Asm text) = Asm text.now
line_as (LineRead.Gen number) = Gen number

-- the machines that a line can ask for
abbrev pub IsInLimits : Asked → Type 0
IsInLimits asked = (1 ≤ asked.harts) × (asked.harts ≤ 8) × (256 ≤ asked.pages) × (asked.pages ≤ 4096) × (1 ≤ asked.limit) × (asked.limit ≤ 1000000000000)

abbrev pub IsLineInLimits : Line → Type 0
IsLineInLimits (Plain elf order asked) = IsInLimits asked
IsLineInLimits (Dis elf) = Unit {0}
IsLineInLimits (Asm text) = Unit {0}
IsLineInLimits (Gen number) = Unit {0}

-- what the code has read so far
abbrev pub shown : Seen → SoFar
shown seen = record {
  operands = map (λ r. r.now) seen.operands.items;
  harts = seen.harts;
  pages = seen.pages;
  limit = seen.limit;
  regs = seen.regs;
}
