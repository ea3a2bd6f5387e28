use Rattle.monitor.proofs.reading.word_at.Goals as goal

pub returns-then-pa-eq0-clause-may : goal.returns-then-pa-eq0-clause-may
returns-then-pa-eq0-clause-may g c = c.load_at.ensures.may c.args.from c.args.count c.requires.may
