-- RAM has the parts from here on.
use Rattle.std.proofs.Common.{drop}
use Rattle.ref_machine.specs.SharedState.{IsLoaded}
use Rattle.ref_machine.proofs.loader.load.Given as goal

abbrev pub invariant-loop-i : goal.invariant-loop-i
invariant-loop-i l = IsLoaded l.file (drop l.i l.parts) l.words l.ram.items
