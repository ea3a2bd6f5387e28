use Rattle.signal_pieces.proofs.Stopping.{interrupts_stand}
use Rattle.signal_pieces.proofs.Stopping.{looks_let_fetch}
use Rattle.signal_pieces.proofs.laws.law_interrupts.Goals as goal

pub returns-clause-stands : goal.returns-clause-stands
returns-clause-stands c = interrupts_stand

pub returns-clause-looks : goal.returns-clause-looks
returns-clause-looks c = looks_let_fetch
