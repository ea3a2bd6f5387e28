-- The leaf's page is one of RAM.
use Rattle.std.proofs.Common.{refl, sym, ◌∙◌}
use Rattle.ref_machine.proofs.Leading.{leaf_to}
use Rattle.ref_machine.proofs.paths.page_of.Goals as goal

pub returns : goal.returns
returns c =
    leaf_to c.args.pages c.args.regime.now c.args.kind c.args.va c.args.level c.args.pte c.in-Leaf.pte c.in-Leaf.page c.in-Leaf.level _ c.in-Leaf.ensures (sym c.is_ram.ensures ∙ c.if-not-is_ram.false) refl
