use Rattle.std.proofs.Common.{◌≡◌, ◌+◌, ◌*◌, ap, arith}
use Rattle.guest_ram.specs.Areas.{IsOfTable}
use Rattle.guest_ram.proofs.Moves.{goes_none, goes_then, goes_at_most}
use Rattle.flush.proofs.Wiped.{swept_first, swept_next, swept_last}
use Rattle.flush.proofs.sweeps.sweep.Goals as goal

pub sweep_page-requires : goal.sweep_page-requires
sweep_page-requires g c = record { inside = c.loop-i.invariant.inside }

pub loop-i-init : goal.loop-i-init
loop-i-init g c = record { swept = swept_first _ c.args.first; inside = c.requires.inside; goes = goes_none IsOfTable _ }

pub loop-i-preserved : goal.loop-i-preserved
loop-i-preserved g c = let before = c.loop-i.invariant in let made = c.sweep_page.ensures in record {
  swept = swept_next _ _ _ c.args.first c.loop-i.i _ (ap (λ n. c.args.first + n) c.from.ensures) before.swept made.swept;
  inside = made.inside;
  goes = goes_at_most (6 * c.loop-i.i + 6) _ IsOfTable _ _ (omega arith) (goes_then (6 * c.loop-i.i) 6 IsOfTable _ _ _ before.goes made.goes);
}

pub returns-clause-swept : goal.returns-clause-swept
returns-clause-swept g c = let end : c.loop-i.i ≡ c.args.count = omega arith in swept_last _ _ c.args.first c.loop-i.i c.args.count end c.loop-i.invariant.swept

pub returns-clause-inside : goal.returns-clause-inside
returns-clause-inside g c = c.loop-i.invariant.inside

pub returns-clause-goes : goal.returns-clause-goes
returns-clause-goes g c = goes_at_most (6 * c.loop-i.i) _ IsOfTable _ _ (omega arith) c.loop-i.invariant.goes
