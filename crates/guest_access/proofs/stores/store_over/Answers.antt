use Rattle.step_laws.specs.declared.steps.WordOp.TheVariants.{Load, Store}
use Rattle.guest_access.proofs.Keeping.{load_stepped, store_stepped}
use Rattle.guest_access.proofs.stores.store_over.Goals as goal

pub load_at-high-requires : goal.load_at-high-requires
load_at-high-requires g c = load_stepped Load _ _ _ _ _ _ c.load_at-low.ensures c.requires.may_second.may_load

pub store_at-requires : goal.store_at-requires
store_at-requires g c = store_stepped Load _ _ _ _ _ _ c.load_at-high.ensures (store_stepped Load _ _ _ _ _ _ c.load_at-low.ensures c.requires.may_first)

pub store_at-requires-2 : goal.store_at-requires-2
store_at-requires-2 g c = store_stepped Store _ _ _ _ _ _ c.store_at.ensures (store_stepped Load _ _ _ _ _ _ c.load_at-high.ensures (store_stepped Load _ _ _ _ _ _ c.load_at-low.ensures c.requires.may_second))
