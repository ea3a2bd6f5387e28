use Rattle.std.proofs.Common.{◌≡◌}
use Rattle.step_laws.specs.Marks.{dirty_words}
use Rattle.guest_ram.specs.Areas.{IsOfRam}
use Rattle.guest_ram.specs.Ports.{GoesBy}
use Rattle.guest_ram_cases.specs.Sweeps.{IsAtStage}
use Rattle.guest_ram_cases.proofs.Swept.{taking_stage}
use Rattle.guest_ram_cases.proofs.sweeping.take_words.Given as goal

abbrev pub invariant-loop-index : goal.invariant-loop-index
invariant-loop-index g l = record {
  words_are : l.words ≡ dirty_words (g.P.Look.shows l.port).machine.layout;
  stage : IsAtStage (g.P.Look.shows l.port) (taking_stage (g.P.Look.shows l.port) l.index);
  goes : GoesBy l.index IsOfRam (g.P.Look.shows l.fn.port) (g.P.Look.shows l.port);
}
