use Rattle.kept_fills.proofs.Staying.{new_book_goes}
use Rattle.kept_fills.proofs.laws.law_new_book.Goals as goal

pub returns : goal.returns
returns c = new_book_goes
