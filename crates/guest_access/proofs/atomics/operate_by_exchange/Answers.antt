use Rattle.step_laws.specs.declared.steps.WordOp.TheVariants.{Load}
use Rattle.guest_access.specs.Atomics.{done, lost}
use Rattle.guest_access.proofs.Keeping.{store_stepped}
use Rattle.guest_access.proofs.Stored.{exchanged, gives_number, leaves, lost_at}
use Rattle.guest_access.proofs.atomics.operate_by_exchange.Goals as goal

pub exchange_at-found-requires : goal.exchange_at-found-requires
exchange_at-found-requires g c = store_stepped Load _ _ _ _ _ _ c.load_at-seen.ensures c.requires.may

pub returns-then-found-seen : goal.returns-then-found-seen
returns-then-found-seen g c = done (exchanged _ _ _ _ _ _ _ _ (leaves c.args.op _ c.args.value _ _ _ _ _ c.args.wide c.width_of-width.ensures c.number_in-old.ensures.number c.combine.ensures c.replace_in-new.ensures) c.load_at-seen.ensures c.exchange_at-found.ensures) c.if-found-seen.true (gives_number _ _ _ _ _ c.args.wide c.width_of-width.ensures c.number_in-old.ensures.number c.extended.ensures)

pub returns-else-found-seen : goal.returns-else-found-seen
returns-else-found-seen g c = lost (exchanged _ _ _ _ _ _ _ _ (leaves c.args.op _ c.args.value _ _ _ _ _ c.args.wide c.width_of-width.ensures c.number_in-old.ensures.number c.combine.ensures c.replace_in-new.ensures) c.load_at-seen.ensures c.exchange_at-found.ensures) c.if-found-seen.false (lost_at _ _ _ _ c.ram_word.ensures.number)
