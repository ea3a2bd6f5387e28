use Rattle.fetch_pieces.proofs.Fetching.{fetches_are_logged}
use Rattle.fetch_pieces.proofs.laws.law_fetched.Goals as goal

pub returns : goal.returns
returns c = fetches_are_logged
