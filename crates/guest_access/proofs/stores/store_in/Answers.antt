use Rattle.std.proofs.Common.{refl}
use Rattle.step_laws.specs.declared.steps.WordOp.TheVariants.{Load}
use Rattle.guest_access.specs.Storing.{lost, part}
use Rattle.guest_access.proofs.Keeping.{store_stepped}
use Rattle.guest_access.proofs.Stored.{exchanged, lost_at}
use Rattle.guest_access.proofs.stores.store_in.Goals as goal

pub exchange_at-found-requires : goal.exchange_at-found-requires
exchange_at-found-requires g c = store_stepped Load _ _ _ _ _ _ c.load_at-seen.ensures c.requires.may

pub returns-then-found-seen : goal.returns-then-found-seen
returns-then-found-seen g c = part c.if-width-eq8.false (exchanged _ _ _ _ _ _ _ _ c.replace_in.ensures c.load_at-seen.ensures c.exchange_at-found.ensures) c.if-found-seen.true refl

pub returns-else-found-seen : goal.returns-else-found-seen
returns-else-found-seen g c = lost c.if-width-eq8.false (exchanged _ _ _ _ _ _ _ _ c.replace_in.ensures c.load_at-seen.ensures c.exchange_at-found.ensures) c.if-found-seen.false (lost_at _ _ _ _ c.ram_word.ensures.number)
