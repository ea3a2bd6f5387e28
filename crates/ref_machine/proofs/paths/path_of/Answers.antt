-- The entries lead to the page, at each level.
use Rattle.std.proofs.Common.{sym, ◌∙◌}
use Rattle.ref_machine.proofs.Leading.{path_by_root, path_by_middle, path_by_last}
use Rattle.ref_machine.proofs.paths.path_of.Goals as goal

pub returns-in-Leaf : goal.returns-in-Leaf
returns-in-Leaf c =
    let root = c.in_ok-root in
    path_by_root c.args.pages c.args.regime.now c.args.kind c.args.va c.in_ok-base-in-Leaf.base root.root (sym c.is_bare.ensures ∙ c.if-is_bare.false) (sym c.is_canonical.ensures ∙ c.if-not-is_canonical.false)
    (root.ensures.entry, c.in-Leaf.ensures, c.in_ok-base-in-Leaf.ensures, root.ensures.there)

pub returns-in-Leaf-pte_kind : goal.returns-in-Leaf-pte_kind
returns-in-Leaf-pte_kind c =
    let root = c.in_ok-root in
    let middle = c.in_ok-middle in
    path_by_middle c.args.pages c.args.regime.now c.args.kind c.args.va c.in-Pointer.table c.in_ok-base-in-Leaf-pte_kind.base root.root middle.middle
    (sym c.is_bare.ensures ∙ c.if-is_bare.false) (sym c.is_canonical.ensures ∙ c.if-not-is_canonical.false)
    (root.ensures.entry, c.in-Pointer.ensures, root.ensures.there)
    (middle.ensures.entry, c.in-Leaf-pte_kind.ensures, c.in_ok-base-in-Leaf-pte_kind.ensures, middle.ensures.there)

pub returns : goal.returns
returns c =
    let root = c.in_ok-root in
    let middle = c.in_ok-middle in
    let last = c.in_ok-last in
    path_by_last c.args.pages c.args.regime.now c.args.kind c.args.va c.in-Pointer.table c.in-Pointer-pte_kind.table c.in_ok-base.base root.root middle.middle last.last
    (sym c.is_bare.ensures ∙ c.if-is_bare.false) (sym c.is_canonical.ensures ∙ c.if-not-is_canonical.false)
    (root.ensures.entry, c.in-Pointer.ensures, root.ensures.there)
    (middle.ensures.entry, c.in-Pointer-pte_kind.ensures, middle.ensures.there)
    (last.ensures.entry, c.in-Leaf-pte_kind-2.ensures, c.in_ok-base.ensures, last.ensures.there)
