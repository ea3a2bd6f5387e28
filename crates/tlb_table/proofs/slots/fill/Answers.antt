use Rattle.std.proofs.Common.{refl, rules, arith, inl, inr}
use Rattle.step_laws.specs.declared.map.TlbField.TheVariants.{Read, Write, Code, Page}
use Rattle.guest_ram.specs.Areas.{IsOfTable}
use Rattle.guest_ram.proofs.Moves.{goes_step, goes_then}
use Rattle.tlb_table.proofs.Stores.{IsOwning, HasStored, has_stored, may_compare, may_page}
use Rattle.tlb_table.proofs.Puts.{fill_clear, fill_done, used_on}
use Rattle.tlb_table.proofs.slots.fill.Goals as goal

pub store-requires-clause-may : goal.store-requires-clause-may
store-requires-clause-may g c = let s0 : IsOwning (g.P.Look.shows c.args.port.now) c.args.hart = record { acting = c.requires.acting; own_is = c.requires.own; hart = search rules; held = c.requires.held } in
    may_compare (g.P.Look.shows c.args.port.now) _ c.args.hart c.args.slot 1 s0 Write refl (inr refl) (λ _ z. absurd (omega (arith, z))) c.tlb_word-write.ensures.name

pub store-requires-2-clause-may : goal.store-requires-2-clause-may
store-requires-2-clause-may g c = let s0 : IsOwning (g.P.Look.shows c.args.port.now) c.args.hart = record { acting = c.requires.acting; own_is = c.requires.own; hart = search rules; held = c.requires.held } in
    let a1 : HasStored (g.P.Look.shows c.args.port.now) (g.P.Look.shows c.store.new.self) c.args.hart c.args.slot Write 1 = has_stored (g.P.Look.shows c.args.port.now) (g.P.Look.shows c.store.new.self) _ c.args.hart c.args.slot 1 Write s0 c.store.ensures.step c.tlb_word-write.ensures.name in
    may_page (g.P.Look.shows c.store.new.self) _ c.args.hart c.args.slot _ a1.owning (used_on _ _ _ _ _ _ a1 c.requires.used) a1.here c.tlb_word.ensures.name

pub store-requires-3-clause-may : goal.store-requires-3-clause-may
store-requires-3-clause-may g c = let s0 : IsOwning (g.P.Look.shows c.args.port.now) c.args.hart = record { acting = c.requires.acting; own_is = c.requires.own; hart = search rules; held = c.requires.held } in
    let a1 : HasStored (g.P.Look.shows c.args.port.now) (g.P.Look.shows c.store.new.self) c.args.hart c.args.slot Write 1 = has_stored (g.P.Look.shows c.args.port.now) (g.P.Look.shows c.store.new.self) _ c.args.hart c.args.slot 1 Write s0 c.store.ensures.step c.tlb_word-write.ensures.name in
    let a2 : HasStored (g.P.Look.shows c.store.new.self) (g.P.Look.shows c.store-2.new.self) c.args.hart c.args.slot Page c.args.entry.now.page = has_stored (g.P.Look.shows c.store.new.self) (g.P.Look.shows c.store-2.new.self) _ c.args.hart c.args.slot c.args.entry.now.page Page a1.owning c.store-2.ensures.step c.tlb_word.ensures.name in
    may_compare (g.P.Look.shows c.store-2.new.self) _ c.args.hart c.args.slot _ a2.owning Read refl (inl (used_on _ _ _ _ _ _ a2 (used_on _ _ _ _ _ _ a1 c.requires.used))) (λ is. absurd (cc)) c.tlb_word-2.ensures.name

pub store-requires-4-clause-may : goal.store-requires-4-clause-may
store-requires-4-clause-may g c = let s0 : IsOwning (g.P.Look.shows c.args.port.now) c.args.hart = record { acting = c.requires.acting; own_is = c.requires.own; hart = search rules; held = c.requires.held } in
    let a1 : HasStored (g.P.Look.shows c.args.port.now) (g.P.Look.shows c.store.new.self) c.args.hart c.args.slot Write 1 = has_stored (g.P.Look.shows c.args.port.now) (g.P.Look.shows c.store.new.self) _ c.args.hart c.args.slot 1 Write s0 c.store.ensures.step c.tlb_word-write.ensures.name in
    let a2 : HasStored (g.P.Look.shows c.store.new.self) (g.P.Look.shows c.store-2.new.self) c.args.hart c.args.slot Page c.args.entry.now.page = has_stored (g.P.Look.shows c.store.new.self) (g.P.Look.shows c.store-2.new.self) _ c.args.hart c.args.slot c.args.entry.now.page Page a1.owning c.store-2.ensures.step c.tlb_word.ensures.name in
    let a3 : HasStored (g.P.Look.shows c.store-2.new.self) (g.P.Look.shows c.store-3.new.self) c.args.hart c.args.slot Read c.args.entry.now.read = has_stored (g.P.Look.shows c.store-2.new.self) (g.P.Look.shows c.store-3.new.self) _ c.args.hart c.args.slot c.args.entry.now.read Read a2.owning c.store-3.ensures.step c.tlb_word-2.ensures.name in
    may_compare (g.P.Look.shows c.store-3.new.self) _ c.args.hart c.args.slot _ a3.owning Code refl (inl (used_on _ _ _ _ _ _ a3 (used_on _ _ _ _ _ _ a2 (used_on _ _ _ _ _ _ a1 c.requires.used)))) (λ is. absurd (cc)) c.tlb_word-3.ensures.name

pub store-requires-5-clause-may : goal.store-requires-5-clause-may
store-requires-5-clause-may g c = let s0 : IsOwning (g.P.Look.shows c.args.port.now) c.args.hart = record { acting = c.requires.acting; own_is = c.requires.own; hart = search rules; held = c.requires.held } in
    let a1 : HasStored (g.P.Look.shows c.args.port.now) (g.P.Look.shows c.store.new.self) c.args.hart c.args.slot Write 1 = has_stored (g.P.Look.shows c.args.port.now) (g.P.Look.shows c.store.new.self) _ c.args.hart c.args.slot 1 Write s0 c.store.ensures.step c.tlb_word-write.ensures.name in
    let a2 : HasStored (g.P.Look.shows c.store.new.self) (g.P.Look.shows c.store-2.new.self) c.args.hart c.args.slot Page c.args.entry.now.page = has_stored (g.P.Look.shows c.store.new.self) (g.P.Look.shows c.store-2.new.self) _ c.args.hart c.args.slot c.args.entry.now.page Page a1.owning c.store-2.ensures.step c.tlb_word.ensures.name in
    let a3 : HasStored (g.P.Look.shows c.store-2.new.self) (g.P.Look.shows c.store-3.new.self) c.args.hart c.args.slot Read c.args.entry.now.read = has_stored (g.P.Look.shows c.store-2.new.self) (g.P.Look.shows c.store-3.new.self) _ c.args.hart c.args.slot c.args.entry.now.read Read a2.owning c.store-3.ensures.step c.tlb_word-2.ensures.name in
    let a4 : HasStored (g.P.Look.shows c.store-3.new.self) (g.P.Look.shows c.store-4.new.self) c.args.hart c.args.slot Code c.args.entry.now.code = has_stored (g.P.Look.shows c.store-3.new.self) (g.P.Look.shows c.store-4.new.self) _ c.args.hart c.args.slot c.args.entry.now.code Code a3.owning c.store-4.ensures.step c.tlb_word-3.ensures.name in
    may_compare (g.P.Look.shows c.store-4.new.self) _ c.args.hart c.args.slot _ a4.owning Write refl (inl (used_on _ _ _ _ _ _ a4 (used_on _ _ _ _ _ _ a3 (used_on _ _ _ _ _ _ a2 (used_on _ _ _ _ _ _ a1 c.requires.used))))) (λ _ z. fill_clear _ _ _ _ _ _ _ c.args.entry.now a1 a2 a3 a4 (c.requires.marked z)) c.tlb_word-write.ensures.name

pub returns-clause-words : goal.returns-clause-words
returns-clause-words g c = let s0 : IsOwning (g.P.Look.shows c.args.port.now) c.args.hart = record { acting = c.requires.acting; own_is = c.requires.own; hart = search rules; held = c.requires.held } in
    let a1 : HasStored (g.P.Look.shows c.args.port.now) (g.P.Look.shows c.store.new.self) c.args.hart c.args.slot Write 1 = has_stored (g.P.Look.shows c.args.port.now) (g.P.Look.shows c.store.new.self) _ c.args.hart c.args.slot 1 Write s0 c.store.ensures.step c.tlb_word-write.ensures.name in
    let a2 : HasStored (g.P.Look.shows c.store.new.self) (g.P.Look.shows c.store-2.new.self) c.args.hart c.args.slot Page c.args.entry.now.page = has_stored (g.P.Look.shows c.store.new.self) (g.P.Look.shows c.store-2.new.self) _ c.args.hart c.args.slot c.args.entry.now.page Page a1.owning c.store-2.ensures.step c.tlb_word.ensures.name in
    let a3 : HasStored (g.P.Look.shows c.store-2.new.self) (g.P.Look.shows c.store-3.new.self) c.args.hart c.args.slot Read c.args.entry.now.read = has_stored (g.P.Look.shows c.store-2.new.self) (g.P.Look.shows c.store-3.new.self) _ c.args.hart c.args.slot c.args.entry.now.read Read a2.owning c.store-3.ensures.step c.tlb_word-2.ensures.name in
    let a4 : HasStored (g.P.Look.shows c.store-3.new.self) (g.P.Look.shows c.store-4.new.self) c.args.hart c.args.slot Code c.args.entry.now.code = has_stored (g.P.Look.shows c.store-3.new.self) (g.P.Look.shows c.store-4.new.self) _ c.args.hart c.args.slot c.args.entry.now.code Code a3.owning c.store-4.ensures.step c.tlb_word-3.ensures.name in
    let a5 : HasStored (g.P.Look.shows c.store-4.new.self) (g.P.Look.shows c.store-5.new.self) c.args.hart c.args.slot Write c.args.entry.now.write = has_stored (g.P.Look.shows c.store-4.new.self) (g.P.Look.shows c.store-5.new.self) _ c.args.hart c.args.slot c.args.entry.now.write Write a4.owning c.store-5.ensures.step c.tlb_word-write.ensures.name in
    (fill_done _ _ _ _ _ c.args.hart c.args.slot c.args.entry.now a1 a2 a3 a4 _ a5 c.requires.slot).words

pub returns-clause-others : goal.returns-clause-others
returns-clause-others g c = let s0 : IsOwning (g.P.Look.shows c.args.port.now) c.args.hart = record { acting = c.requires.acting; own_is = c.requires.own; hart = search rules; held = c.requires.held } in
    let a1 : HasStored (g.P.Look.shows c.args.port.now) (g.P.Look.shows c.store.new.self) c.args.hart c.args.slot Write 1 = has_stored (g.P.Look.shows c.args.port.now) (g.P.Look.shows c.store.new.self) _ c.args.hart c.args.slot 1 Write s0 c.store.ensures.step c.tlb_word-write.ensures.name in
    let a2 : HasStored (g.P.Look.shows c.store.new.self) (g.P.Look.shows c.store-2.new.self) c.args.hart c.args.slot Page c.args.entry.now.page = has_stored (g.P.Look.shows c.store.new.self) (g.P.Look.shows c.store-2.new.self) _ c.args.hart c.args.slot c.args.entry.now.page Page a1.owning c.store-2.ensures.step c.tlb_word.ensures.name in
    let a3 : HasStored (g.P.Look.shows c.store-2.new.self) (g.P.Look.shows c.store-3.new.self) c.args.hart c.args.slot Read c.args.entry.now.read = has_stored (g.P.Look.shows c.store-2.new.self) (g.P.Look.shows c.store-3.new.self) _ c.args.hart c.args.slot c.args.entry.now.read Read a2.owning c.store-3.ensures.step c.tlb_word-2.ensures.name in
    let a4 : HasStored (g.P.Look.shows c.store-3.new.self) (g.P.Look.shows c.store-4.new.self) c.args.hart c.args.slot Code c.args.entry.now.code = has_stored (g.P.Look.shows c.store-3.new.self) (g.P.Look.shows c.store-4.new.self) _ c.args.hart c.args.slot c.args.entry.now.code Code a3.owning c.store-4.ensures.step c.tlb_word-3.ensures.name in
    let a5 : HasStored (g.P.Look.shows c.store-4.new.self) (g.P.Look.shows c.store-5.new.self) c.args.hart c.args.slot Write c.args.entry.now.write = has_stored (g.P.Look.shows c.store-4.new.self) (g.P.Look.shows c.store-5.new.self) _ c.args.hart c.args.slot c.args.entry.now.write Write a4.owning c.store-5.ensures.step c.tlb_word-write.ensures.name in
    (fill_done _ _ _ _ _ c.args.hart c.args.slot c.args.entry.now a1 a2 a3 a4 _ a5 c.requires.slot).others

pub returns-clause-used : goal.returns-clause-used
returns-clause-used g c = let s0 : IsOwning (g.P.Look.shows c.args.port.now) c.args.hart = record { acting = c.requires.acting; own_is = c.requires.own; hart = search rules; held = c.requires.held } in
    let a1 : HasStored (g.P.Look.shows c.args.port.now) (g.P.Look.shows c.store.new.self) c.args.hart c.args.slot Write 1 = has_stored (g.P.Look.shows c.args.port.now) (g.P.Look.shows c.store.new.self) _ c.args.hart c.args.slot 1 Write s0 c.store.ensures.step c.tlb_word-write.ensures.name in
    let a2 : HasStored (g.P.Look.shows c.store.new.self) (g.P.Look.shows c.store-2.new.self) c.args.hart c.args.slot Page c.args.entry.now.page = has_stored (g.P.Look.shows c.store.new.self) (g.P.Look.shows c.store-2.new.self) _ c.args.hart c.args.slot c.args.entry.now.page Page a1.owning c.store-2.ensures.step c.tlb_word.ensures.name in
    let a3 : HasStored (g.P.Look.shows c.store-2.new.self) (g.P.Look.shows c.store-3.new.self) c.args.hart c.args.slot Read c.args.entry.now.read = has_stored (g.P.Look.shows c.store-2.new.self) (g.P.Look.shows c.store-3.new.self) _ c.args.hart c.args.slot c.args.entry.now.read Read a2.owning c.store-3.ensures.step c.tlb_word-2.ensures.name in
    let a4 : HasStored (g.P.Look.shows c.store-3.new.self) (g.P.Look.shows c.store-4.new.self) c.args.hart c.args.slot Code c.args.entry.now.code = has_stored (g.P.Look.shows c.store-3.new.self) (g.P.Look.shows c.store-4.new.self) _ c.args.hart c.args.slot c.args.entry.now.code Code a3.owning c.store-4.ensures.step c.tlb_word-3.ensures.name in
    let a5 : HasStored (g.P.Look.shows c.store-4.new.self) (g.P.Look.shows c.store-5.new.self) c.args.hart c.args.slot Write c.args.entry.now.write = has_stored (g.P.Look.shows c.store-4.new.self) (g.P.Look.shows c.store-5.new.self) _ c.args.hart c.args.slot c.args.entry.now.write Write a4.owning c.store-5.ensures.step c.tlb_word-write.ensures.name in
    (fill_done _ _ _ _ _ c.args.hart c.args.slot c.args.entry.now a1 a2 a3 a4 _ a5 c.requires.slot).used

pub returns-clause-size : goal.returns-clause-size
returns-clause-size g c = let s0 : IsOwning (g.P.Look.shows c.args.port.now) c.args.hart = record { acting = c.requires.acting; own_is = c.requires.own; hart = search rules; held = c.requires.held } in
    let a1 : HasStored (g.P.Look.shows c.args.port.now) (g.P.Look.shows c.store.new.self) c.args.hart c.args.slot Write 1 = has_stored (g.P.Look.shows c.args.port.now) (g.P.Look.shows c.store.new.self) _ c.args.hart c.args.slot 1 Write s0 c.store.ensures.step c.tlb_word-write.ensures.name in
    let a2 : HasStored (g.P.Look.shows c.store.new.self) (g.P.Look.shows c.store-2.new.self) c.args.hart c.args.slot Page c.args.entry.now.page = has_stored (g.P.Look.shows c.store.new.self) (g.P.Look.shows c.store-2.new.self) _ c.args.hart c.args.slot c.args.entry.now.page Page a1.owning c.store-2.ensures.step c.tlb_word.ensures.name in
    let a3 : HasStored (g.P.Look.shows c.store-2.new.self) (g.P.Look.shows c.store-3.new.self) c.args.hart c.args.slot Read c.args.entry.now.read = has_stored (g.P.Look.shows c.store-2.new.self) (g.P.Look.shows c.store-3.new.self) _ c.args.hart c.args.slot c.args.entry.now.read Read a2.owning c.store-3.ensures.step c.tlb_word-2.ensures.name in
    let a4 : HasStored (g.P.Look.shows c.store-3.new.self) (g.P.Look.shows c.store-4.new.self) c.args.hart c.args.slot Code c.args.entry.now.code = has_stored (g.P.Look.shows c.store-3.new.self) (g.P.Look.shows c.store-4.new.self) _ c.args.hart c.args.slot c.args.entry.now.code Code a3.owning c.store-4.ensures.step c.tlb_word-3.ensures.name in
    let a5 : HasStored (g.P.Look.shows c.store-4.new.self) (g.P.Look.shows c.store-5.new.self) c.args.hart c.args.slot Write c.args.entry.now.write = has_stored (g.P.Look.shows c.store-4.new.self) (g.P.Look.shows c.store-5.new.self) _ c.args.hart c.args.slot c.args.entry.now.write Write a4.owning c.store-5.ensures.step c.tlb_word-write.ensures.name in
    (fill_done _ _ _ _ _ c.args.hart c.args.slot c.args.entry.now a1 a2 a3 a4 _ a5 c.requires.slot).size

pub returns-clause-owes : goal.returns-clause-owes
returns-clause-owes g c = let s0 : IsOwning (g.P.Look.shows c.args.port.now) c.args.hart = record { acting = c.requires.acting; own_is = c.requires.own; hart = search rules; held = c.requires.held } in
    let a1 : HasStored (g.P.Look.shows c.args.port.now) (g.P.Look.shows c.store.new.self) c.args.hart c.args.slot Write 1 = has_stored (g.P.Look.shows c.args.port.now) (g.P.Look.shows c.store.new.self) _ c.args.hart c.args.slot 1 Write s0 c.store.ensures.step c.tlb_word-write.ensures.name in
    let a2 : HasStored (g.P.Look.shows c.store.new.self) (g.P.Look.shows c.store-2.new.self) c.args.hart c.args.slot Page c.args.entry.now.page = has_stored (g.P.Look.shows c.store.new.self) (g.P.Look.shows c.store-2.new.self) _ c.args.hart c.args.slot c.args.entry.now.page Page a1.owning c.store-2.ensures.step c.tlb_word.ensures.name in
    let a3 : HasStored (g.P.Look.shows c.store-2.new.self) (g.P.Look.shows c.store-3.new.self) c.args.hart c.args.slot Read c.args.entry.now.read = has_stored (g.P.Look.shows c.store-2.new.self) (g.P.Look.shows c.store-3.new.self) _ c.args.hart c.args.slot c.args.entry.now.read Read a2.owning c.store-3.ensures.step c.tlb_word-2.ensures.name in
    let a4 : HasStored (g.P.Look.shows c.store-3.new.self) (g.P.Look.shows c.store-4.new.self) c.args.hart c.args.slot Code c.args.entry.now.code = has_stored (g.P.Look.shows c.store-3.new.self) (g.P.Look.shows c.store-4.new.self) _ c.args.hart c.args.slot c.args.entry.now.code Code a3.owning c.store-4.ensures.step c.tlb_word-3.ensures.name in
    let a5 : HasStored (g.P.Look.shows c.store-4.new.self) (g.P.Look.shows c.store-5.new.self) c.args.hart c.args.slot Write c.args.entry.now.write = has_stored (g.P.Look.shows c.store-4.new.self) (g.P.Look.shows c.store-5.new.self) _ c.args.hart c.args.slot c.args.entry.now.write Write a4.owning c.store-5.ensures.step c.tlb_word-write.ensures.name in
    (fill_done _ _ _ _ _ c.args.hart c.args.slot c.args.entry.now a1 a2 a3 a4 _ a5 c.requires.slot).owes

pub returns-clause-held : goal.returns-clause-held
returns-clause-held g c = let s0 : IsOwning (g.P.Look.shows c.args.port.now) c.args.hart = record { acting = c.requires.acting; own_is = c.requires.own; hart = search rules; held = c.requires.held } in
    let a1 : HasStored (g.P.Look.shows c.args.port.now) (g.P.Look.shows c.store.new.self) c.args.hart c.args.slot Write 1 = has_stored (g.P.Look.shows c.args.port.now) (g.P.Look.shows c.store.new.self) _ c.args.hart c.args.slot 1 Write s0 c.store.ensures.step c.tlb_word-write.ensures.name in
    let a2 : HasStored (g.P.Look.shows c.store.new.self) (g.P.Look.shows c.store-2.new.self) c.args.hart c.args.slot Page c.args.entry.now.page = has_stored (g.P.Look.shows c.store.new.self) (g.P.Look.shows c.store-2.new.self) _ c.args.hart c.args.slot c.args.entry.now.page Page a1.owning c.store-2.ensures.step c.tlb_word.ensures.name in
    let a3 : HasStored (g.P.Look.shows c.store-2.new.self) (g.P.Look.shows c.store-3.new.self) c.args.hart c.args.slot Read c.args.entry.now.read = has_stored (g.P.Look.shows c.store-2.new.self) (g.P.Look.shows c.store-3.new.self) _ c.args.hart c.args.slot c.args.entry.now.read Read a2.owning c.store-3.ensures.step c.tlb_word-2.ensures.name in
    let a4 : HasStored (g.P.Look.shows c.store-3.new.self) (g.P.Look.shows c.store-4.new.self) c.args.hart c.args.slot Code c.args.entry.now.code = has_stored (g.P.Look.shows c.store-3.new.self) (g.P.Look.shows c.store-4.new.self) _ c.args.hart c.args.slot c.args.entry.now.code Code a3.owning c.store-4.ensures.step c.tlb_word-3.ensures.name in
    let a5 : HasStored (g.P.Look.shows c.store-4.new.self) (g.P.Look.shows c.store-5.new.self) c.args.hart c.args.slot Write c.args.entry.now.write = has_stored (g.P.Look.shows c.store-4.new.self) (g.P.Look.shows c.store-5.new.self) _ c.args.hart c.args.slot c.args.entry.now.write Write a4.owning c.store-5.ensures.step c.tlb_word-write.ensures.name in
    a5.owning.held

pub returns-clause-acting : goal.returns-clause-acting
returns-clause-acting g c = let s0 : IsOwning (g.P.Look.shows c.args.port.now) c.args.hart = record { acting = c.requires.acting; own_is = c.requires.own; hart = search rules; held = c.requires.held } in
    let a1 : HasStored (g.P.Look.shows c.args.port.now) (g.P.Look.shows c.store.new.self) c.args.hart c.args.slot Write 1 = has_stored (g.P.Look.shows c.args.port.now) (g.P.Look.shows c.store.new.self) _ c.args.hart c.args.slot 1 Write s0 c.store.ensures.step c.tlb_word-write.ensures.name in
    let a2 : HasStored (g.P.Look.shows c.store.new.self) (g.P.Look.shows c.store-2.new.self) c.args.hart c.args.slot Page c.args.entry.now.page = has_stored (g.P.Look.shows c.store.new.self) (g.P.Look.shows c.store-2.new.self) _ c.args.hart c.args.slot c.args.entry.now.page Page a1.owning c.store-2.ensures.step c.tlb_word.ensures.name in
    let a3 : HasStored (g.P.Look.shows c.store-2.new.self) (g.P.Look.shows c.store-3.new.self) c.args.hart c.args.slot Read c.args.entry.now.read = has_stored (g.P.Look.shows c.store-2.new.self) (g.P.Look.shows c.store-3.new.self) _ c.args.hart c.args.slot c.args.entry.now.read Read a2.owning c.store-3.ensures.step c.tlb_word-2.ensures.name in
    let a4 : HasStored (g.P.Look.shows c.store-3.new.self) (g.P.Look.shows c.store-4.new.self) c.args.hart c.args.slot Code c.args.entry.now.code = has_stored (g.P.Look.shows c.store-3.new.self) (g.P.Look.shows c.store-4.new.self) _ c.args.hart c.args.slot c.args.entry.now.code Code a3.owning c.store-4.ensures.step c.tlb_word-3.ensures.name in
    let a5 : HasStored (g.P.Look.shows c.store-4.new.self) (g.P.Look.shows c.store-5.new.self) c.args.hart c.args.slot Write c.args.entry.now.write = has_stored (g.P.Look.shows c.store-4.new.self) (g.P.Look.shows c.store-5.new.self) _ c.args.hart c.args.slot c.args.entry.now.write Write a4.owning c.store-5.ensures.step c.tlb_word-write.ensures.name in
    a5.owning.acting

pub returns-clause-goes : goal.returns-clause-goes
returns-clause-goes g c = (goes_then 4 1 IsOfTable _ _ _ (goes_then 3 1 IsOfTable _ _ _ (goes_then 2 1 IsOfTable _ _ _ (goes_then 1 1 IsOfTable _ _ _ (goes_step IsOfTable _ _ _ _ _ _ _ c.store.ensures.step c.store.ensures.allowed c.tlb_word-write.ensures.name tt) (goes_step IsOfTable _ _ _ _ _ _ _ c.store-2.ensures.step c.store-2.ensures.allowed c.tlb_word.ensures.name tt)) (goes_step IsOfTable _ _ _ _ _ _ _ c.store-3.ensures.step c.store-3.ensures.allowed c.tlb_word-2.ensures.name tt)) (goes_step IsOfTable _ _ _ _ _ _ _ c.store-4.ensures.step c.store-4.ensures.allowed c.tlb_word-3.ensures.name tt)) (goes_step IsOfTable _ _ _ _ _ _ _ c.store-5.ensures.step c.store-5.ensures.allowed c.tlb_word-write.ensures.name tt))
