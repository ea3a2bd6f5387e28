use Rattle.machine_model.proofs.Reasons.{reasons_are_told, words_are_told, reasons_may_stand}
use Rattle.machine_model.proofs.laws.law_reasons.Goals as goal

pub returns-clause-reasons : goal.returns-clause-reasons
returns-clause-reasons c = reasons_are_told

pub returns-clause-words : goal.returns-clause-words
returns-clause-words c = words_are_told

pub returns-clause-stand : goal.returns-clause-stand
returns-clause-stand c = reasons_may_stand
