-- The words so far have the part; those from here on have what lies behind it.
use Rattle.std.proofs.Common.{◌≡◌, ℕ, ◌+◌, ◌-◌, ◌*◌, ◌^◌, ◌<◌, ◌≤◌, ◌∷◌}
use Rattle.elf_load.specs.Contents.{contents_word}
use Rattle.step_laws.specs.Map.{Ram}
use Rattle.step_laws.specs.WordValues.{word_value}
use Rattle.guest_ram.specs.Ports.{IsBooting, GoesBy}
use Rattle.guest_boot.specs.Stored.{IsOfImage}
use Rattle.guest_boot.proofs.loading.load_part.Given as goal

abbrev pub invariant-loop-index : goal.invariant-loop-index
invariant-loop-index g l = record {
  booting : IsBooting (g.P.Look.shows l.port);
  words : l.words ≡ 512 * (g.P.Look.shows l.port).machine.layout.pages;
  from : l.first ≤ l.index;
  few : l.index - l.first ≤ l.words;
  done : (k : ℕ) → k < l.index → k < l.words → word_value (Ram k) (g.P.Look.shows l.port).own.steps ≡ contents_word l.file (l.part ∷ l.rest) (2 ^ 31 + 8 * k);
  left : (k : ℕ) → l.index ≤ k → k < l.words → word_value (Ram k) (g.P.Look.shows l.port).own.steps ≡ contents_word l.file l.rest (2 ^ 31 + 8 * k);
  behind : (k : ℕ) → l.words ≤ k → word_value (Ram k) (g.P.Look.shows l.port).own.steps ≡ 0;
  goes : GoesBy (l.index - l.first) IsOfImage (g.P.Look.shows l.fn.port) (g.P.Look.shows l.port);
}
