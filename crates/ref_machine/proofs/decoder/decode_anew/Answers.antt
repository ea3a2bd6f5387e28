-- Every entry is right, the new one too.
use Rattle.ref_machine.proofs.Decoding.{entries_set}
use Rattle.ref_machine.proofs.decoder.decode_anew.Goals as goal

pub returns-clause-all : goal.returns-clause-all
returns-clause-all c = entries_set c.args.entries.now c.args.index (record { word = c.args.word; instr = c.in-Some.instr }) c.requires.all (record { decodes = c.in-Some.ensures.found; only = c.in-Some.ensures.only })
