use Rattle.access_rows.proofs.Settled.{ready_on}
use Rattle.access_rows.proofs.rows.is_right.Goals as goal

pub returns-clause-ready : goal.returns-clause-ready
returns-clause-ready g c = ready_on _ _ c.args.side.now.arch c.keep_hold.new.arch _ _ c.keep_hold.ensures c.access-got.ensures.access c.access-got.ensures.goes_on c.requires.ready.fills
