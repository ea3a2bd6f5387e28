-- The words that are left say what all the words said.
use Rattle.std.proofs.Common.{◌≡◌, map, drop, string_bytes}
use Rattle.tlbvm.specs.Options.{after_operands}
use Rattle.tlbvm.specs.Lines.{shown}
use Rattle.tlbvm.proofs.options.read_operands.Given as goal

abbrev pub invariant-loop-word : goal.invariant-loop-word
invariant-loop-word l =
    after_operands (map string_bytes (drop l.word-index l.words)) (shown l.seen) ≡ after_operands (map string_bytes l.words) (shown l.fn.seen)
