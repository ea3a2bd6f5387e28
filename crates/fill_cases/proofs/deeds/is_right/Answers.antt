use Rattle.fill_cases.proofs.Entered.{inside_filled, inside_flushed}
use Rattle.fill_cases.proofs.deeds.is_right.Goals as goal

pub returns-in-Translate-clause-inside : goal.returns-in-Translate-clause-inside
returns-in-Translate-clause-inside g c = inside_filled _ _ _ c.translate.ensures.goes c.requires.inside

pub returns-in-FlushAll-clause-inside : goal.returns-in-FlushAll-clause-inside
returns-in-FlushAll-clause-inside g c = inside_flushed _ _ _ c.flush_all.ensures.goes c.requires.inside

pub returns-in-FlushPages-clause-inside : goal.returns-in-FlushPages-clause-inside
returns-in-FlushPages-clause-inside g c = inside_flushed _ _ _ c.flush_pages.ensures.goes c.requires.inside
