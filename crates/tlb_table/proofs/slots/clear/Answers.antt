use Rattle.std.proofs.Common.{refl, arith, inr}
use Rattle.step_laws.specs.declared.map.TlbField.TheVariants.{Read, Write, Code}
use Rattle.guest_ram.specs.Areas.{IsOfTable}
use Rattle.guest_ram.proofs.Moves.{goes_step, goes_then}
use Rattle.tlb_table.proofs.Stores.{IsOwning, HasStored, has_stored, may_compare}
use Rattle.tlb_table.proofs.Puts.{clear_done}
use Rattle.tlb_table.proofs.slots.clear.Goals as goal

pub store-requires-clause-may : goal.store-requires-clause-may
store-requires-clause-may g c = let s0 : IsOwning (g.P.Look.shows c.args.port.now) c.args.book.now.hart = record { acting = c.requires.acting; own_is = c.requires.book.number; hart = c.requires.hart; held = c.requires.held } in
    may_compare (g.P.Look.shows c.args.port.now) _ c.args.book.now.hart c.args.slot 1 s0 Read refl (inr refl) (λ _ z. absurd (omega (arith, z))) c.tlb_word.ensures.name

pub store-requires-2-clause-may : goal.store-requires-2-clause-may
store-requires-2-clause-may g c = let s0 : IsOwning (g.P.Look.shows c.args.port.now) c.args.book.now.hart = record { acting = c.requires.acting; own_is = c.requires.book.number; hart = c.requires.hart; held = c.requires.held } in
    let a1 : HasStored (g.P.Look.shows c.args.port.now) (g.P.Look.shows c.store.new.self) c.args.book.now.hart c.args.slot Read 1 = has_stored (g.P.Look.shows c.args.port.now) (g.P.Look.shows c.store.new.self) _ c.args.book.now.hart c.args.slot 1 Read s0 c.store.ensures.step c.tlb_word.ensures.name in
    may_compare (g.P.Look.shows c.store.new.self) _ c.args.book.now.hart c.args.slot 1 a1.owning Write refl (inr refl) (λ _ z. absurd (omega (arith, z))) c.tlb_word-2.ensures.name

pub store-requires-3-clause-may : goal.store-requires-3-clause-may
store-requires-3-clause-may g c = let s0 : IsOwning (g.P.Look.shows c.args.port.now) c.args.book.now.hart = record { acting = c.requires.acting; own_is = c.requires.book.number; hart = c.requires.hart; held = c.requires.held } in
    let a1 : HasStored (g.P.Look.shows c.args.port.now) (g.P.Look.shows c.store.new.self) c.args.book.now.hart c.args.slot Read 1 = has_stored (g.P.Look.shows c.args.port.now) (g.P.Look.shows c.store.new.self) _ c.args.book.now.hart c.args.slot 1 Read s0 c.store.ensures.step c.tlb_word.ensures.name in
    let a2 : HasStored (g.P.Look.shows c.store.new.self) (g.P.Look.shows c.store-2.new.self) c.args.book.now.hart c.args.slot Write 1 = has_stored (g.P.Look.shows c.store.new.self) (g.P.Look.shows c.store-2.new.self) _ c.args.book.now.hart c.args.slot 1 Write a1.owning c.store-2.ensures.step c.tlb_word-2.ensures.name in
    may_compare (g.P.Look.shows c.store-2.new.self) _ c.args.book.now.hart c.args.slot 1 a2.owning Code refl (inr refl) (λ _ z. absurd (omega (arith, z))) c.tlb_word-3.ensures.name

pub returns-clause-invalid : goal.returns-clause-invalid
returns-clause-invalid g c = let s0 : IsOwning (g.P.Look.shows c.args.port.now) c.args.book.now.hart = record { acting = c.requires.acting; own_is = c.requires.book.number; hart = c.requires.hart; held = c.requires.held } in
    let a1 : HasStored (g.P.Look.shows c.args.port.now) (g.P.Look.shows c.store.new.self) c.args.book.now.hart c.args.slot Read 1 = has_stored (g.P.Look.shows c.args.port.now) (g.P.Look.shows c.store.new.self) _ c.args.book.now.hart c.args.slot 1 Read s0 c.store.ensures.step c.tlb_word.ensures.name in
    let a2 : HasStored (g.P.Look.shows c.store.new.self) (g.P.Look.shows c.store-2.new.self) c.args.book.now.hart c.args.slot Write 1 = has_stored (g.P.Look.shows c.store.new.self) (g.P.Look.shows c.store-2.new.self) _ c.args.book.now.hart c.args.slot 1 Write a1.owning c.store-2.ensures.step c.tlb_word-2.ensures.name in
    let a3 : HasStored (g.P.Look.shows c.store-2.new.self) (g.P.Look.shows c.store-3.new.self) c.args.book.now.hart c.args.slot Code 1 = has_stored (g.P.Look.shows c.store-2.new.self) (g.P.Look.shows c.store-3.new.self) _ c.args.book.now.hart c.args.slot 1 Code a2.owning c.store-3.ensures.step c.tlb_word-3.ensures.name in
    (clear_done _ _ _ _ c.args.book.now.hart c.args.slot c.requires.book.number a1 a2 a3).invalid

pub returns-clause-page : goal.returns-clause-page
returns-clause-page g c = let s0 : IsOwning (g.P.Look.shows c.args.port.now) c.args.book.now.hart = record { acting = c.requires.acting; own_is = c.requires.book.number; hart = c.requires.hart; held = c.requires.held } in
    let a1 : HasStored (g.P.Look.shows c.args.port.now) (g.P.Look.shows c.store.new.self) c.args.book.now.hart c.args.slot Read 1 = has_stored (g.P.Look.shows c.args.port.now) (g.P.Look.shows c.store.new.self) _ c.args.book.now.hart c.args.slot 1 Read s0 c.store.ensures.step c.tlb_word.ensures.name in
    let a2 : HasStored (g.P.Look.shows c.store.new.self) (g.P.Look.shows c.store-2.new.self) c.args.book.now.hart c.args.slot Write 1 = has_stored (g.P.Look.shows c.store.new.self) (g.P.Look.shows c.store-2.new.self) _ c.args.book.now.hart c.args.slot 1 Write a1.owning c.store-2.ensures.step c.tlb_word-2.ensures.name in
    let a3 : HasStored (g.P.Look.shows c.store-2.new.self) (g.P.Look.shows c.store-3.new.self) c.args.book.now.hart c.args.slot Code 1 = has_stored (g.P.Look.shows c.store-2.new.self) (g.P.Look.shows c.store-3.new.self) _ c.args.book.now.hart c.args.slot 1 Code a2.owning c.store-3.ensures.step c.tlb_word-3.ensures.name in
    (clear_done _ _ _ _ c.args.book.now.hart c.args.slot c.requires.book.number a1 a2 a3).page

pub returns-clause-others : goal.returns-clause-others
returns-clause-others g c = let s0 : IsOwning (g.P.Look.shows c.args.port.now) c.args.book.now.hart = record { acting = c.requires.acting; own_is = c.requires.book.number; hart = c.requires.hart; held = c.requires.held } in
    let a1 : HasStored (g.P.Look.shows c.args.port.now) (g.P.Look.shows c.store.new.self) c.args.book.now.hart c.args.slot Read 1 = has_stored (g.P.Look.shows c.args.port.now) (g.P.Look.shows c.store.new.self) _ c.args.book.now.hart c.args.slot 1 Read s0 c.store.ensures.step c.tlb_word.ensures.name in
    let a2 : HasStored (g.P.Look.shows c.store.new.self) (g.P.Look.shows c.store-2.new.self) c.args.book.now.hart c.args.slot Write 1 = has_stored (g.P.Look.shows c.store.new.self) (g.P.Look.shows c.store-2.new.self) _ c.args.book.now.hart c.args.slot 1 Write a1.owning c.store-2.ensures.step c.tlb_word-2.ensures.name in
    let a3 : HasStored (g.P.Look.shows c.store-2.new.self) (g.P.Look.shows c.store-3.new.self) c.args.book.now.hart c.args.slot Code 1 = has_stored (g.P.Look.shows c.store-2.new.self) (g.P.Look.shows c.store-3.new.self) _ c.args.book.now.hart c.args.slot 1 Code a2.owning c.store-3.ensures.step c.tlb_word-3.ensures.name in
    (clear_done _ _ _ _ c.args.book.now.hart c.args.slot c.requires.book.number a1 a2 a3).others

pub returns-clause-owes : goal.returns-clause-owes
returns-clause-owes g c = let s0 : IsOwning (g.P.Look.shows c.args.port.now) c.args.book.now.hart = record { acting = c.requires.acting; own_is = c.requires.book.number; hart = c.requires.hart; held = c.requires.held } in
    let a1 : HasStored (g.P.Look.shows c.args.port.now) (g.P.Look.shows c.store.new.self) c.args.book.now.hart c.args.slot Read 1 = has_stored (g.P.Look.shows c.args.port.now) (g.P.Look.shows c.store.new.self) _ c.args.book.now.hart c.args.slot 1 Read s0 c.store.ensures.step c.tlb_word.ensures.name in
    let a2 : HasStored (g.P.Look.shows c.store.new.self) (g.P.Look.shows c.store-2.new.self) c.args.book.now.hart c.args.slot Write 1 = has_stored (g.P.Look.shows c.store.new.self) (g.P.Look.shows c.store-2.new.self) _ c.args.book.now.hart c.args.slot 1 Write a1.owning c.store-2.ensures.step c.tlb_word-2.ensures.name in
    let a3 : HasStored (g.P.Look.shows c.store-2.new.self) (g.P.Look.shows c.store-3.new.self) c.args.book.now.hart c.args.slot Code 1 = has_stored (g.P.Look.shows c.store-2.new.self) (g.P.Look.shows c.store-3.new.self) _ c.args.book.now.hart c.args.slot 1 Code a2.owning c.store-3.ensures.step c.tlb_word-3.ensures.name in
    (clear_done _ _ _ _ c.args.book.now.hart c.args.slot c.requires.book.number a1 a2 a3).owes

pub returns-clause-pays : goal.returns-clause-pays
returns-clause-pays g c = let s0 : IsOwning (g.P.Look.shows c.args.port.now) c.args.book.now.hart = record { acting = c.requires.acting; own_is = c.requires.book.number; hart = c.requires.hart; held = c.requires.held } in
    let a1 : HasStored (g.P.Look.shows c.args.port.now) (g.P.Look.shows c.store.new.self) c.args.book.now.hart c.args.slot Read 1 = has_stored (g.P.Look.shows c.args.port.now) (g.P.Look.shows c.store.new.self) _ c.args.book.now.hart c.args.slot 1 Read s0 c.store.ensures.step c.tlb_word.ensures.name in
    let a2 : HasStored (g.P.Look.shows c.store.new.self) (g.P.Look.shows c.store-2.new.self) c.args.book.now.hart c.args.slot Write 1 = has_stored (g.P.Look.shows c.store.new.self) (g.P.Look.shows c.store-2.new.self) _ c.args.book.now.hart c.args.slot 1 Write a1.owning c.store-2.ensures.step c.tlb_word-2.ensures.name in
    let a3 : HasStored (g.P.Look.shows c.store-2.new.self) (g.P.Look.shows c.store-3.new.self) c.args.book.now.hart c.args.slot Code 1 = has_stored (g.P.Look.shows c.store-2.new.self) (g.P.Look.shows c.store-3.new.self) _ c.args.book.now.hart c.args.slot 1 Code a2.owning c.store-3.ensures.step c.tlb_word-3.ensures.name in
    (clear_done _ _ _ _ c.args.book.now.hart c.args.slot c.requires.book.number a1 a2 a3).pays

pub returns-clause-book : goal.returns-clause-book
returns-clause-book g c = let s0 : IsOwning (g.P.Look.shows c.args.port.now) c.args.book.now.hart = record { acting = c.requires.acting; own_is = c.requires.book.number; hart = c.requires.hart; held = c.requires.held } in
    let a1 : HasStored (g.P.Look.shows c.args.port.now) (g.P.Look.shows c.store.new.self) c.args.book.now.hart c.args.slot Read 1 = has_stored (g.P.Look.shows c.args.port.now) (g.P.Look.shows c.store.new.self) _ c.args.book.now.hart c.args.slot 1 Read s0 c.store.ensures.step c.tlb_word.ensures.name in
    let a2 : HasStored (g.P.Look.shows c.store.new.self) (g.P.Look.shows c.store-2.new.self) c.args.book.now.hart c.args.slot Write 1 = has_stored (g.P.Look.shows c.store.new.self) (g.P.Look.shows c.store-2.new.self) _ c.args.book.now.hart c.args.slot 1 Write a1.owning c.store-2.ensures.step c.tlb_word-2.ensures.name in
    let a3 : HasStored (g.P.Look.shows c.store-2.new.self) (g.P.Look.shows c.store-3.new.self) c.args.book.now.hart c.args.slot Code 1 = has_stored (g.P.Look.shows c.store-2.new.self) (g.P.Look.shows c.store-3.new.self) _ c.args.book.now.hart c.args.slot 1 Code a2.owning c.store-3.ensures.step c.tlb_word-3.ensures.name in
    (clear_done _ _ _ _ c.args.book.now.hart c.args.slot c.requires.book.number a1 a2 a3).book c.args.book.now c.requires.book

pub returns-clause-held : goal.returns-clause-held
returns-clause-held g c = let s0 : IsOwning (g.P.Look.shows c.args.port.now) c.args.book.now.hart = record { acting = c.requires.acting; own_is = c.requires.book.number; hart = c.requires.hart; held = c.requires.held } in
    let a1 : HasStored (g.P.Look.shows c.args.port.now) (g.P.Look.shows c.store.new.self) c.args.book.now.hart c.args.slot Read 1 = has_stored (g.P.Look.shows c.args.port.now) (g.P.Look.shows c.store.new.self) _ c.args.book.now.hart c.args.slot 1 Read s0 c.store.ensures.step c.tlb_word.ensures.name in
    let a2 : HasStored (g.P.Look.shows c.store.new.self) (g.P.Look.shows c.store-2.new.self) c.args.book.now.hart c.args.slot Write 1 = has_stored (g.P.Look.shows c.store.new.self) (g.P.Look.shows c.store-2.new.self) _ c.args.book.now.hart c.args.slot 1 Write a1.owning c.store-2.ensures.step c.tlb_word-2.ensures.name in
    let a3 : HasStored (g.P.Look.shows c.store-2.new.self) (g.P.Look.shows c.store-3.new.self) c.args.book.now.hart c.args.slot Code 1 = has_stored (g.P.Look.shows c.store-2.new.self) (g.P.Look.shows c.store-3.new.self) _ c.args.book.now.hart c.args.slot 1 Code a2.owning c.store-3.ensures.step c.tlb_word-3.ensures.name in
    a3.owning.held

pub returns-clause-acting : goal.returns-clause-acting
returns-clause-acting g c = let s0 : IsOwning (g.P.Look.shows c.args.port.now) c.args.book.now.hart = record { acting = c.requires.acting; own_is = c.requires.book.number; hart = c.requires.hart; held = c.requires.held } in
    let a1 : HasStored (g.P.Look.shows c.args.port.now) (g.P.Look.shows c.store.new.self) c.args.book.now.hart c.args.slot Read 1 = has_stored (g.P.Look.shows c.args.port.now) (g.P.Look.shows c.store.new.self) _ c.args.book.now.hart c.args.slot 1 Read s0 c.store.ensures.step c.tlb_word.ensures.name in
    let a2 : HasStored (g.P.Look.shows c.store.new.self) (g.P.Look.shows c.store-2.new.self) c.args.book.now.hart c.args.slot Write 1 = has_stored (g.P.Look.shows c.store.new.self) (g.P.Look.shows c.store-2.new.self) _ c.args.book.now.hart c.args.slot 1 Write a1.owning c.store-2.ensures.step c.tlb_word-2.ensures.name in
    let a3 : HasStored (g.P.Look.shows c.store-2.new.self) (g.P.Look.shows c.store-3.new.self) c.args.book.now.hart c.args.slot Code 1 = has_stored (g.P.Look.shows c.store-2.new.self) (g.P.Look.shows c.store-3.new.self) _ c.args.book.now.hart c.args.slot 1 Code a2.owning c.store-3.ensures.step c.tlb_word-3.ensures.name in
    a3.owning.acting

pub returns-clause-goes : goal.returns-clause-goes
returns-clause-goes g c = (goes_then 2 1 IsOfTable _ _ _ (goes_then 1 1 IsOfTable _ _ _ (goes_step IsOfTable _ _ _ _ _ _ _ c.store.ensures.step c.store.ensures.allowed c.tlb_word.ensures.name tt) (goes_step IsOfTable _ _ _ _ _ _ _ c.store-2.ensures.step c.store-2.ensures.allowed c.tlb_word-2.ensures.name tt)) (goes_step IsOfTable _ _ _ _ _ _ _ c.store-3.ensures.step c.store-3.ensures.allowed c.tlb_word-3.ensures.name tt))
