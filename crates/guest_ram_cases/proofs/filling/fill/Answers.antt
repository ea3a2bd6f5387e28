use Rattle.std.proofs.Common.{refl, ◌∙◌, arith}
use Rattle.step_laws.specs.declared.map.TlbField.TheVariants.{Read, Write, Code, Page}
use Rattle.guest_ram.specs.Areas.{IsOfTable}
use Rattle.guest_ram.proofs.Moves.{goes_step, goes_then}
use Rattle.guest_ram_cases.proofs.Filled.{IsFilling, page_still, fills_on, filled_word, size_on, paid_on, may_fill, may_fill_page}
use Rattle.guest_ram_cases.proofs.filling.fill.Goals as goal

pub store-requires-clause-may : goal.store-requires-clause-may
store-requires-clause-may g c = let s0 : IsFilling (g.P.Look.shows c.args.port.now) c.actor-own.result c.args.slot = record { acting = c.requires.acting; own_is = c.actor-own.ensures; hart = c.requires.hart; held = c.requires.held; used = c.requires.used } in
    may_fill (g.P.Look.shows c.args.port.now) _ c.actor-own.result c.args.slot 1 s0 Write refl (λ _ e. omega arith) c.tlb_word-write.ensures.name

pub store-requires-2-clause-may : goal.store-requires-2-clause-may
store-requires-2-clause-may g c = let s0 : IsFilling (g.P.Look.shows c.args.port.now) c.actor-own.result c.args.slot = record { acting = c.requires.acting; own_is = c.actor-own.ensures; hart = c.requires.hart; held = c.requires.held; used = c.requires.used } in
    let s1 : IsFilling (g.P.Look.shows c.store.new.self) c.actor-own.result c.args.slot = fills_on (g.P.Look.shows c.args.port.now) (g.P.Look.shows c.store.new.self) _ c.actor-own.result c.args.slot 1 Write s0 c.store.ensures.step c.tlb_word-write.ensures.name in
    may_fill_page (g.P.Look.shows c.store.new.self) _ c.actor-own.result c.args.slot _ s1 (filled_word (g.P.Look.shows c.args.port.now) (g.P.Look.shows c.store.new.self) _ c.actor-own.result c.args.slot 1 Write s0 c.store.ensures.step c.tlb_word-write.ensures.name) c.tlb_word.ensures.name

pub store-requires-3-clause-may : goal.store-requires-3-clause-may
store-requires-3-clause-may g c = let s0 : IsFilling (g.P.Look.shows c.args.port.now) c.actor-own.result c.args.slot = record { acting = c.requires.acting; own_is = c.actor-own.ensures; hart = c.requires.hart; held = c.requires.held; used = c.requires.used } in
    let s1 : IsFilling (g.P.Look.shows c.store.new.self) c.actor-own.result c.args.slot = fills_on (g.P.Look.shows c.args.port.now) (g.P.Look.shows c.store.new.self) _ c.actor-own.result c.args.slot 1 Write s0 c.store.ensures.step c.tlb_word-write.ensures.name in
    let s2 : IsFilling (g.P.Look.shows c.store-2.new.self) c.actor-own.result c.args.slot = fills_on (g.P.Look.shows c.store.new.self) (g.P.Look.shows c.store-2.new.self) _ c.actor-own.result c.args.slot c.args.entry.now.page Page s1 c.store-2.ensures.step c.tlb_word.ensures.name in
    may_fill (g.P.Look.shows c.store-2.new.self) _ c.actor-own.result c.args.slot _ s2 Read refl (λ is. absurd (cc)) c.tlb_word-2.ensures.name

pub store-requires-4-clause-may : goal.store-requires-4-clause-may
store-requires-4-clause-may g c = let s0 : IsFilling (g.P.Look.shows c.args.port.now) c.actor-own.result c.args.slot = record { acting = c.requires.acting; own_is = c.actor-own.ensures; hart = c.requires.hart; held = c.requires.held; used = c.requires.used } in
    let s1 : IsFilling (g.P.Look.shows c.store.new.self) c.actor-own.result c.args.slot = fills_on (g.P.Look.shows c.args.port.now) (g.P.Look.shows c.store.new.self) _ c.actor-own.result c.args.slot 1 Write s0 c.store.ensures.step c.tlb_word-write.ensures.name in
    let s2 : IsFilling (g.P.Look.shows c.store-2.new.self) c.actor-own.result c.args.slot = fills_on (g.P.Look.shows c.store.new.self) (g.P.Look.shows c.store-2.new.self) _ c.actor-own.result c.args.slot c.args.entry.now.page Page s1 c.store-2.ensures.step c.tlb_word.ensures.name in
    let s3 : IsFilling (g.P.Look.shows c.store-3.new.self) c.actor-own.result c.args.slot = fills_on (g.P.Look.shows c.store-2.new.self) (g.P.Look.shows c.store-3.new.self) _ c.actor-own.result c.args.slot c.args.entry.now.read Read s2 c.store-3.ensures.step c.tlb_word-2.ensures.name in
    may_fill (g.P.Look.shows c.store-3.new.self) _ c.actor-own.result c.args.slot _ s3 Code refl (λ is. absurd (cc)) c.tlb_word-3.ensures.name

pub store-requires-5-clause-may : goal.store-requires-5-clause-may
store-requires-5-clause-may g c = let s0 : IsFilling (g.P.Look.shows c.args.port.now) c.actor-own.result c.args.slot = record { acting = c.requires.acting; own_is = c.actor-own.ensures; hart = c.requires.hart; held = c.requires.held; used = c.requires.used } in
    let s1 : IsFilling (g.P.Look.shows c.store.new.self) c.actor-own.result c.args.slot = fills_on (g.P.Look.shows c.args.port.now) (g.P.Look.shows c.store.new.self) _ c.actor-own.result c.args.slot 1 Write s0 c.store.ensures.step c.tlb_word-write.ensures.name in
    let s2 : IsFilling (g.P.Look.shows c.store-2.new.self) c.actor-own.result c.args.slot = fills_on (g.P.Look.shows c.store.new.self) (g.P.Look.shows c.store-2.new.self) _ c.actor-own.result c.args.slot c.args.entry.now.page Page s1 c.store-2.ensures.step c.tlb_word.ensures.name in
    let s3 : IsFilling (g.P.Look.shows c.store-3.new.self) c.actor-own.result c.args.slot = fills_on (g.P.Look.shows c.store-2.new.self) (g.P.Look.shows c.store-3.new.self) _ c.actor-own.result c.args.slot c.args.entry.now.read Read s2 c.store-3.ensures.step c.tlb_word-2.ensures.name in
    let s4 : IsFilling (g.P.Look.shows c.store-4.new.self) c.actor-own.result c.args.slot = fills_on (g.P.Look.shows c.store-3.new.self) (g.P.Look.shows c.store-4.new.self) _ c.actor-own.result c.args.slot c.args.entry.now.code Code s3 c.store-4.ensures.step c.tlb_word-3.ensures.name in
    may_fill (g.P.Look.shows c.store-4.new.self) _ c.actor-own.result c.args.slot _ s4 Write refl (λ _. c.requires.marked) c.tlb_word-write.ensures.name

pub returns-clause-paid : goal.returns-clause-paid
returns-clause-paid g c = let s0 : IsFilling (g.P.Look.shows c.args.port.now) c.actor-own.result c.args.slot = record { acting = c.requires.acting; own_is = c.actor-own.ensures; hart = c.requires.hart; held = c.requires.held; used = c.requires.used } in
    let s1 : IsFilling (g.P.Look.shows c.store.new.self) c.actor-own.result c.args.slot = fills_on (g.P.Look.shows c.args.port.now) (g.P.Look.shows c.store.new.self) _ c.actor-own.result c.args.slot 1 Write s0 c.store.ensures.step c.tlb_word-write.ensures.name in
    let s2 : IsFilling (g.P.Look.shows c.store-2.new.self) c.actor-own.result c.args.slot = fills_on (g.P.Look.shows c.store.new.self) (g.P.Look.shows c.store-2.new.self) _ c.actor-own.result c.args.slot c.args.entry.now.page Page s1 c.store-2.ensures.step c.tlb_word.ensures.name in
    let s3 : IsFilling (g.P.Look.shows c.store-3.new.self) c.actor-own.result c.args.slot = fills_on (g.P.Look.shows c.store-2.new.self) (g.P.Look.shows c.store-3.new.self) _ c.actor-own.result c.args.slot c.args.entry.now.read Read s2 c.store-3.ensures.step c.tlb_word-2.ensures.name in
    let s4 : IsFilling (g.P.Look.shows c.store-4.new.self) c.actor-own.result c.args.slot = fills_on (g.P.Look.shows c.store-3.new.self) (g.P.Look.shows c.store-4.new.self) _ c.actor-own.result c.args.slot c.args.entry.now.code Code s3 c.store-4.ensures.step c.tlb_word-3.ensures.name in
    paid_on (g.P.Look.shows c.store-4.new.self) (g.P.Look.shows c.store-5.new.self) _ c.actor-own.result c.args.slot c.args.entry.now.write Write s4 c.store-5.ensures.step c.tlb_word-write.ensures.name (paid_on (g.P.Look.shows c.store-3.new.self) (g.P.Look.shows c.store-4.new.self) _ c.actor-own.result c.args.slot c.args.entry.now.code Code s3 c.store-4.ensures.step c.tlb_word-3.ensures.name (paid_on (g.P.Look.shows c.store-2.new.self) (g.P.Look.shows c.store-3.new.self) _ c.actor-own.result c.args.slot c.args.entry.now.read Read s2 c.store-3.ensures.step c.tlb_word-2.ensures.name (paid_on (g.P.Look.shows c.store.new.self) (g.P.Look.shows c.store-2.new.self) _ c.actor-own.result c.args.slot c.args.entry.now.page Page s1 c.store-2.ensures.step c.tlb_word.ensures.name (paid_on (g.P.Look.shows c.args.port.now) (g.P.Look.shows c.store.new.self) _ c.actor-own.result c.args.slot 1 Write s0 c.store.ensures.step c.tlb_word-write.ensures.name c.requires.paid))))

pub returns-clause-size : goal.returns-clause-size
returns-clause-size g c = let s0 : IsFilling (g.P.Look.shows c.args.port.now) c.actor-own.result c.args.slot = record { acting = c.requires.acting; own_is = c.actor-own.ensures; hart = c.requires.hart; held = c.requires.held; used = c.requires.used } in
    let s1 : IsFilling (g.P.Look.shows c.store.new.self) c.actor-own.result c.args.slot = fills_on (g.P.Look.shows c.args.port.now) (g.P.Look.shows c.store.new.self) _ c.actor-own.result c.args.slot 1 Write s0 c.store.ensures.step c.tlb_word-write.ensures.name in
    let s2 : IsFilling (g.P.Look.shows c.store-2.new.self) c.actor-own.result c.args.slot = fills_on (g.P.Look.shows c.store.new.self) (g.P.Look.shows c.store-2.new.self) _ c.actor-own.result c.args.slot c.args.entry.now.page Page s1 c.store-2.ensures.step c.tlb_word.ensures.name in
    let s3 : IsFilling (g.P.Look.shows c.store-3.new.self) c.actor-own.result c.args.slot = fills_on (g.P.Look.shows c.store-2.new.self) (g.P.Look.shows c.store-3.new.self) _ c.actor-own.result c.args.slot c.args.entry.now.read Read s2 c.store-3.ensures.step c.tlb_word-2.ensures.name in
    let s4 : IsFilling (g.P.Look.shows c.store-4.new.self) c.actor-own.result c.args.slot = fills_on (g.P.Look.shows c.store-3.new.self) (g.P.Look.shows c.store-4.new.self) _ c.actor-own.result c.args.slot c.args.entry.now.code Code s3 c.store-4.ensures.step c.tlb_word-3.ensures.name in
    size_on (g.P.Look.shows c.store-4.new.self) (g.P.Look.shows c.store-5.new.self) _ c.actor-own.result c.args.slot c.args.entry.now.write Write s4 c.store-5.ensures.step c.tlb_word-write.ensures.name ∙ size_on (g.P.Look.shows c.store-3.new.self) (g.P.Look.shows c.store-4.new.self) _ c.actor-own.result c.args.slot c.args.entry.now.code Code s3 c.store-4.ensures.step c.tlb_word-3.ensures.name ∙ size_on (g.P.Look.shows c.store-2.new.self) (g.P.Look.shows c.store-3.new.self) _ c.actor-own.result c.args.slot c.args.entry.now.read Read s2 c.store-3.ensures.step c.tlb_word-2.ensures.name ∙ size_on (g.P.Look.shows c.store.new.self) (g.P.Look.shows c.store-2.new.self) _ c.actor-own.result c.args.slot c.args.entry.now.page Page s1 c.store-2.ensures.step c.tlb_word.ensures.name ∙ size_on (g.P.Look.shows c.args.port.now) (g.P.Look.shows c.store.new.self) _ c.actor-own.result c.args.slot 1 Write s0 c.store.ensures.step c.tlb_word-write.ensures.name

pub returns-clause-held : goal.returns-clause-held
returns-clause-held g c = let s0 : IsFilling (g.P.Look.shows c.args.port.now) c.actor-own.result c.args.slot = record { acting = c.requires.acting; own_is = c.actor-own.ensures; hart = c.requires.hart; held = c.requires.held; used = c.requires.used } in
    let s1 : IsFilling (g.P.Look.shows c.store.new.self) c.actor-own.result c.args.slot = fills_on (g.P.Look.shows c.args.port.now) (g.P.Look.shows c.store.new.self) _ c.actor-own.result c.args.slot 1 Write s0 c.store.ensures.step c.tlb_word-write.ensures.name in
    let s2 : IsFilling (g.P.Look.shows c.store-2.new.self) c.actor-own.result c.args.slot = fills_on (g.P.Look.shows c.store.new.self) (g.P.Look.shows c.store-2.new.self) _ c.actor-own.result c.args.slot c.args.entry.now.page Page s1 c.store-2.ensures.step c.tlb_word.ensures.name in
    let s3 : IsFilling (g.P.Look.shows c.store-3.new.self) c.actor-own.result c.args.slot = fills_on (g.P.Look.shows c.store-2.new.self) (g.P.Look.shows c.store-3.new.self) _ c.actor-own.result c.args.slot c.args.entry.now.read Read s2 c.store-3.ensures.step c.tlb_word-2.ensures.name in
    let s4 : IsFilling (g.P.Look.shows c.store-4.new.self) c.actor-own.result c.args.slot = fills_on (g.P.Look.shows c.store-3.new.self) (g.P.Look.shows c.store-4.new.self) _ c.actor-own.result c.args.slot c.args.entry.now.code Code s3 c.store-4.ensures.step c.tlb_word-3.ensures.name in
    let s5 : IsFilling (g.P.Look.shows c.store-5.new.self) c.actor-own.result c.args.slot = fills_on (g.P.Look.shows c.store-4.new.self) (g.P.Look.shows c.store-5.new.self) _ c.actor-own.result c.args.slot c.args.entry.now.write Write s4 c.store-5.ensures.step c.tlb_word-write.ensures.name in
    s5.held

pub returns-clause-acting : goal.returns-clause-acting
returns-clause-acting g c = let s0 : IsFilling (g.P.Look.shows c.args.port.now) c.actor-own.result c.args.slot = record { acting = c.requires.acting; own_is = c.actor-own.ensures; hart = c.requires.hart; held = c.requires.held; used = c.requires.used } in
    let s1 : IsFilling (g.P.Look.shows c.store.new.self) c.actor-own.result c.args.slot = fills_on (g.P.Look.shows c.args.port.now) (g.P.Look.shows c.store.new.self) _ c.actor-own.result c.args.slot 1 Write s0 c.store.ensures.step c.tlb_word-write.ensures.name in
    let s2 : IsFilling (g.P.Look.shows c.store-2.new.self) c.actor-own.result c.args.slot = fills_on (g.P.Look.shows c.store.new.self) (g.P.Look.shows c.store-2.new.self) _ c.actor-own.result c.args.slot c.args.entry.now.page Page s1 c.store-2.ensures.step c.tlb_word.ensures.name in
    let s3 : IsFilling (g.P.Look.shows c.store-3.new.self) c.actor-own.result c.args.slot = fills_on (g.P.Look.shows c.store-2.new.self) (g.P.Look.shows c.store-3.new.self) _ c.actor-own.result c.args.slot c.args.entry.now.read Read s2 c.store-3.ensures.step c.tlb_word-2.ensures.name in
    let s4 : IsFilling (g.P.Look.shows c.store-4.new.self) c.actor-own.result c.args.slot = fills_on (g.P.Look.shows c.store-3.new.self) (g.P.Look.shows c.store-4.new.self) _ c.actor-own.result c.args.slot c.args.entry.now.code Code s3 c.store-4.ensures.step c.tlb_word-3.ensures.name in
    let s5 : IsFilling (g.P.Look.shows c.store-5.new.self) c.actor-own.result c.args.slot = fills_on (g.P.Look.shows c.store-4.new.self) (g.P.Look.shows c.store-5.new.self) _ c.actor-own.result c.args.slot c.args.entry.now.write Write s4 c.store-5.ensures.step c.tlb_word-write.ensures.name in
    s5.acting

pub returns-clause-goes : goal.returns-clause-goes
returns-clause-goes g c = goes_then 4 1 IsOfTable _ _ _ (goes_then 3 1 IsOfTable _ _ _ (goes_then 2 1 IsOfTable _ _ _ (goes_then 1 1 IsOfTable _ _ _ (goes_step IsOfTable _ _ _ _ _ _ _ c.store.ensures.step c.store.ensures.allowed c.tlb_word-write.ensures.name tt)
    (goes_step IsOfTable _ _ _ _ _ _ _ c.store-2.ensures.step c.store-2.ensures.allowed c.tlb_word.ensures.name tt))
    (goes_step IsOfTable _ _ _ _ _ _ _ c.store-3.ensures.step c.store-3.ensures.allowed c.tlb_word-2.ensures.name tt))
    (goes_step IsOfTable _ _ _ _ _ _ _ c.store-4.ensures.step c.store-4.ensures.allowed c.tlb_word-3.ensures.name tt))
    (goes_step IsOfTable _ _ _ _ _ _ _ c.store-5.ensures.step c.store-5.ensures.allowed c.tlb_word-write.ensures.name tt)

pub returns-clause-page : goal.returns-clause-page
returns-clause-page g c = let own = c.actor-own.result in let slot = c.args.slot in let s0 : IsFilling (g.P.Look.shows c.args.port.now) own slot = record { acting = c.requires.acting; own_is = c.actor-own.ensures; hart = c.requires.hart; held = c.requires.held; used = c.requires.used } in
    let s1 : IsFilling (g.P.Look.shows c.store.new.self) own slot = fills_on _ _ _ own slot 1 Write s0 c.store.ensures.step c.tlb_word-write.ensures.name in
    let s2 : IsFilling (g.P.Look.shows c.store-2.new.self) own slot = fills_on _ _ _ own slot _ Page s1 c.store-2.ensures.step c.tlb_word.ensures.name in
    let s3 : IsFilling (g.P.Look.shows c.store-3.new.self) own slot = fills_on _ _ _ own slot _ Read s2 c.store-3.ensures.step c.tlb_word-2.ensures.name in
    let s4 : IsFilling (g.P.Look.shows c.store-4.new.self) own slot = fills_on _ _ _ own slot _ Code s3 c.store-4.ensures.step c.tlb_word-3.ensures.name in
    page_still _ _ _ own slot _ Write s4 c.store-5.ensures.step c.tlb_word-write.ensures.name refl ∙ page_still _ _ _ own slot _ Code s3 c.store-4.ensures.step c.tlb_word-3.ensures.name refl ∙ page_still _ _ _ own slot _ Read s2 c.store-3.ensures.step c.tlb_word-2.ensures.name refl
    ∙ filled_word _ _ _ own slot _ Page s1 c.store-2.ensures.step c.tlb_word.ensures.name
