use Rattle.std.proofs.Common.{sym, subst}
use Rattle.std.specs.Prelude.{replicate}
use Rattle.word_cache.specs.Cached.{AreDecoded}
use Rattle.word_cache.proofs.Entries.{first_only, kept_first}
use Rattle.word_cache.proofs.cache.WordCache.new.Goals as goal

pub invariant_of-result : goal.invariant_of-result
invariant_of-result c = record {
  entries = subst (λ w. AreDecoded w c.first_instrs.result) (sym c.first_words.ensures) (subst (λ j. AreDecoded (replicate 256 0x73) j) (sym c.first_instrs.ensures) (kept_first 256 (first_only c.decode-only.result c.decode-only.ensures.only)));
}
