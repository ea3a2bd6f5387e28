use Rattle.call_pieces.proofs.Served.{calls_served, own_starts_served, stops_said}
use Rattle.call_pieces.proofs.laws.law_served.Goals as goal

pub returns-clause-calls : goal.returns-clause-calls
returns-clause-calls c = calls_served

pub returns-clause-own_starts : goal.returns-clause-own_starts
returns-clause-own_starts c = own_starts_served

pub returns-clause-stops : goal.returns-clause-stops
returns-clause-stops c = stops_said
