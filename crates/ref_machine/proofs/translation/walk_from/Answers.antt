-- Each entry of RAM that is no leaf leads on to a table below.
use Rattle.std.proofs.Common.{◌≡◌, refl, suc, ◌+◌, ◌-◌, true, false, ap, arith, sym, ◌∙◌}
use Rattle.rv64_priv.specs.Walk.{walk_from}
use Rattle.ref_machine.specs.SharedState.{ram_reads}
use Rattle.ref_machine.proofs.Fresh.{from_step}
use Rattle.ref_machine.proofs.translation.walk_from.Goals as goal

pub returns-then-not-is_ram : goal.returns-then-not-is_ram
returns-then-not-is_ram c =
    let n = c.loop-passed.passed in
    let below = c.loop-passed-test.true in
    let same : 3 - n ≡ suc (2 - n) = omega (arith, below) in
    sym (c.loop-passed.invariant.walk ∙ from_step c.args.pages c.args.regime.now c.args.kind c.args.ram.now c.args.va (3 - n) (2 - n) c.loop-passed.table c.pte_address-address.result false _ _ same c.pte_address-address.ensures
    (sym c.is_ram.ensures ∙ c.if-not-is_ram.true) refl refl)

pub returns-in-Malformed : goal.returns-in-Malformed
returns-in-Malformed c =
    let n = c.loop-passed.passed in
    let below = c.loop-passed-test.true in
    let same : 3 - n ≡ suc (2 - n) = omega (arith, below) in
    sym (c.loop-passed.invariant.walk ∙ from_step c.args.pages c.args.regime.now c.args.kind c.args.ram.now c.args.va (3 - n) (2 - n) c.loop-passed.table c.pte_address-address.result true true _ same c.pte_address-address.ensures
    (sym c.is_ram.ensures ∙ c.if-not-is_ram.false) c.in-Malformed.ensures refl)

pub returns-in-Leaf : goal.returns-in-Leaf
returns-in-Leaf c =
    let n = c.loop-passed.passed in
    let below = c.loop-passed-test.true in
    let same : 3 - n ≡ suc (2 - n) = omega (arith, below) in
    c.at_leaf.ensures
    ∙ sym (c.loop-passed.invariant.walk ∙ from_step c.args.pages c.args.regime.now c.args.kind c.args.ram.now c.args.va (3 - n) (2 - n) c.loop-passed.table c.pte_address-address.result true false true same c.pte_address-address.ensures
    (sym c.is_ram.ensures ∙ c.if-not-is_ram.false) c.in-Leaf.ensures.0 c.in-Leaf.ensures.1)

pub loop-passed-preserved : goal.loop-passed-preserved
loop-passed-preserved c =
    let n = c.loop-passed.passed in
    let below = c.loop-passed-test.true in
    let same : 3 - n ≡ suc (2 - n) = omega (arith, below) in
    let next : 2 - n ≡ 3 - (n + 1) = omega arith in
    let below_is = c.in-Pointer.ensures.2 in
    record {
      table = omega (arith, below_is);
      walk = c.loop-passed.invariant.walk
          ∙ from_step c.args.pages c.args.regime.now c.args.kind c.args.ram.now c.args.va (3 - n) (2 - n) c.loop-passed.table c.pte_address-address.result true false false same c.pte_address-address.ensures
          (sym c.is_ram.ensures ∙ c.if-not-is_ram.false) c.in-Pointer.ensures.0 c.in-Pointer.ensures.1
          ∙ ap (λ t. walk_from c.args.pages c.args.regime.now c.args.kind (ram_reads c.args.ram.now) c.args.va (2 - n) t) (sym c.in-Pointer.ensures.2)
          ∙ ap (λ m. walk_from c.args.pages c.args.regime.now c.args.kind (ram_reads c.args.ram.now) c.args.va m c.in-Pointer.below) next;
    }

pub returns : goal.returns
returns c =
    let n = c.loop-passed.passed in
    let over = c.loop-passed-test.false in
    let none : 3 - n ≡ 0 = omega (arith, over) in
    sym (c.loop-passed.invariant.walk ∙ ap (λ m. walk_from c.args.pages c.args.regime.now c.args.kind (ram_reads c.args.ram.now) c.args.va m c.loop-passed.table) none)
