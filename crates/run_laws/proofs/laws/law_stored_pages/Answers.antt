use Rattle.run_laws.proofs.StoredPages.{stored_pages_are_kept}
use Rattle.run_laws.proofs.laws.law_stored_pages.Goals as goal

pub returns : goal.returns
returns c = stored_pages_are_kept
