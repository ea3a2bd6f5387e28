use Rattle.std.proofs.Common.{refl, ap, ◌∙◌, inl}
use Rattle.step_laws.specs.Map.{Size}
use Rattle.guest_ram.specs.Areas.{IsOfTable}
use Rattle.guest_ram.proofs.MaySteps.{may_put_size}
use Rattle.guest_ram.proofs.Moves.{goes_step}
use Rattle.flush.proofs.sweeps.begin_anew.Goals as goal

pub store-requires-clause-may : goal.store-requires-clause-may
store-requires-clause-may g c = may_put_size _ _ 64 (c.size_word.ensures.name ∙ ap (λ a. Size a) c.requires.inside.book.number) c.requires.inside.acting c.requires.inside.held (inl refl)

pub returns-clause-goes : goal.returns-clause-goes
returns-clause-goes g c = goes_step IsOfTable _ _ _ _ _ _ _ c.store.ensures.step c.store.ensures.allowed c.size_word.ensures.name tt
