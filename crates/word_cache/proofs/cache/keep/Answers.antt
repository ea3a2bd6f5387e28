use Rattle.word_cache.proofs.Entries.{kept_set}
use Rattle.word_cache.proofs.cache.keep.Goals as goal

pub returns-clause-all : goal.returns-clause-all
returns-clause-all c = kept_set c.args.words.now c.args.instrs.now c.args.index c.args.word c.in-Some.instr c.requires.instrs c.requires.all (record { decodes = c.in-Some.ensures.found; only = c.in-Some.ensures.only })
