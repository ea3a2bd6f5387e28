use Rattle.call_laws.proofs.Calls.{calls_are}
use Rattle.call_laws.proofs.laws.law_calls.Goals as goal

pub returns : goal.returns
returns c = λ w a section p q asked end done same is found. calls_are w p q a section asked end done same is found
