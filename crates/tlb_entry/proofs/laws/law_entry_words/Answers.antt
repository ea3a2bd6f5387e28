use Rattle.tlb_entry.proofs.ValidWords.{entry_words}
use Rattle.tlb_entry.proofs.laws.law_entry_words.Goals as goal

pub returns : goal.returns
returns c = entry_words
