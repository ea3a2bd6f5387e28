use Rattle.std.proofs.Common.{◌+◌, ◌*◌, ◌/◌, ◌∙◌, ap}
use Rattle.std.specs.Prelude.{◌==◌, bit_and}
use Rattle.tlb_entry.proofs.Masked.{masked_hits}
use Rattle.tlb_entry.proofs.entries.hits.Goals as goal

pub returns : goal.returns
returns c = ap (λ m. bit_and c.args.compare 0xfffffffffffff009 == c.args.va / 4096 * 4096 + m) c.mode_bit.ensures.value ∙ masked_hits c.args.compare c.args.va c.args.user c.ranges.compare.fits
