use Rattle.std.proofs.Common.{rules, arith}
use Rattle.guest_ram.specs.Areas.{IsOfRam}
use Rattle.guest_ram.proofs.Moves.{goes_at_most, goes_none}
use Rattle.sv39_walk.proofs.Composed.{from_root, in_bare, not_canonical, shows_walk}
use Rattle.sv39_walk.proofs.tables.walk.Goals as goal

pub returns-then-is_bare-clause-walked : goal.returns-then-is_bare-clause-walked
returns-then-is_bare-clause-walked g c = (in_bare _ _ _ _ _ (search rules) (search rules))

pub returns-then-is_bare-clause-shown : goal.returns-then-is_bare-clause-shown
returns-then-is_bare-clause-shown g c = shows_walk _ _ _ _ _ _ (in_bare _ _ _ _ _ (search rules) (search rules))

pub returns-then-not-is_canonical-clause-walked : goal.returns-then-not-is_canonical-clause-walked
returns-then-not-is_canonical-clause-walked g c = (not_canonical _ _ _ _ (search rules) (search rules))

pub returns-then-not-is_canonical-clause-shown : goal.returns-then-not-is_canonical-clause-shown
returns-then-not-is_canonical-clause-shown g c = shows_walk _ _ _ _ _ _ (not_canonical _ _ _ _ (search rules) (search rules))

pub returns-clause-walked : goal.returns-clause-walked
returns-clause-walked g c = (from_root _ _ _ _ _ _ _ (search rules) (search rules) (search rules) c.walk_tables.ensures.walked)

pub returns-clause-shown : goal.returns-clause-shown
returns-clause-shown g c = shows_walk _ _ _ _ _ _ (from_root _ _ _ _ _ _ _ (search rules) (search rules) (search rules) c.walk_tables.ensures.walked)

pub returns-then-is_bare-clause-goes : goal.returns-then-is_bare-clause-goes
returns-then-is_bare-clause-goes g c = goes_at_most 0 3 IsOfRam _ _ (omega arith) (goes_none IsOfRam _)

pub returns-then-not-is_canonical-clause-goes : goal.returns-then-not-is_canonical-clause-goes
returns-then-not-is_canonical-clause-goes g c = goes_at_most 0 3 IsOfRam _ _ (omega arith) (goes_none IsOfRam _)
