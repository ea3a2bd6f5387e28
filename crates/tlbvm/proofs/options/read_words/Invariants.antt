-- The words that are left say what all the words said, and there are fewer each time.
use Rattle.std.proofs.Common.{◌≡◌, map, length, None, string_bytes}
use Rattle.tlbvm.specs.Options.{after_words}
use Rattle.tlbvm.specs.Lines.{shown}
use Rattle.tlbvm.proofs.options.read_words.Given as goal

abbrev pub invariant-loop-rest : goal.invariant-loop-rest
invariant-loop-rest l =
    after_words (map string_bytes l.rest) None (shown l.seen) ≡ after_words (map string_bytes l.words) None (shown l.fn.seen)

abbrev pub decreases-loop-rest : goal.decreases-loop-rest
decreases-loop-rest l = length l.rest
