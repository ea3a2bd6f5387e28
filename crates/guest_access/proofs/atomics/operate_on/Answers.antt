use Rattle.std.proofs.Common.{refl}
use Rattle.guest_access.specs.Atomics.{exchanged, whole}
use Rattle.guest_access.proofs.Stored.{exchanged_from, narrow_none}
use Rattle.guest_access.proofs.atomics.operate_on.Goals as goal

pub returns-then-not-wide : goal.returns-then-not-wide
returns-then-not-wide g c = exchanged (narrow_none _ c.args.op c.if-not-wide.true) c.operate_by_exchange.ensures

pub returns-in-Some : goal.returns-in-Some
returns-in-Some g c = let x = c.in-Some.ensures in whole c.if-not-wide.false x.1 x.2 refl

pub returns-in-None : goal.returns-in-None
returns-in-None g c = exchanged (λ _. c.in-None.ensures.0) (exchanged_from _ _ _ _ _ _ _ _ c.in-None.ensures.1 c.operate_by_exchange-in-None.ensures)
