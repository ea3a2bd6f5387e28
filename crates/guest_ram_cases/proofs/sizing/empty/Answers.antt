use Rattle.std.proofs.Common.{refl, ◌∙◌}
use Rattle.step_laws.specs.declared.map.TlbField.TheVariants.{Read, Write, Code}
use Rattle.guest_ram.specs.Areas.{IsOfTable}
use Rattle.guest_ram.proofs.Moves.{goes_step, goes_then}
use Rattle.guest_ram_cases.specs.Entries.{IsOwning}
use Rattle.guest_ram_cases.proofs.Clears.{owns_on, keeps_paid, pays, pays_all, size_still, may_empty}
use Rattle.guest_ram_cases.proofs.sizing.empty.Goals as goal

pub store-requires-clause-may : goal.store-requires-clause-may
store-requires-clause-may g c = let s0 : IsOwning (g.P.Look.shows c.args.port.now) c.args.own = c.requires.owning in
    may_empty (g.P.Look.shows c.args.port.now) _ c.args.own c.args.slot Read s0 refl c.tlb_word.ensures.name

pub store-requires-2-clause-may : goal.store-requires-2-clause-may
store-requires-2-clause-may g c = let s0 : IsOwning (g.P.Look.shows c.args.port.now) c.args.own = c.requires.owning in
    let s1 : IsOwning (g.P.Look.shows c.store.new.self) c.args.own = owns_on (g.P.Look.shows c.args.port.now) (g.P.Look.shows c.store.new.self) _ c.args.own c.args.slot Read s0 c.store.ensures.step c.tlb_word.ensures.name in
    may_empty (g.P.Look.shows c.store.new.self) _ c.args.own c.args.slot Write s1 refl c.tlb_word-2.ensures.name

pub store-requires-3-clause-may : goal.store-requires-3-clause-may
store-requires-3-clause-may g c = let s0 : IsOwning (g.P.Look.shows c.args.port.now) c.args.own = c.requires.owning in
    let s1 : IsOwning (g.P.Look.shows c.store.new.self) c.args.own = owns_on (g.P.Look.shows c.args.port.now) (g.P.Look.shows c.store.new.self) _ c.args.own c.args.slot Read s0 c.store.ensures.step c.tlb_word.ensures.name in
    let s2 : IsOwning (g.P.Look.shows c.store-2.new.self) c.args.own = owns_on (g.P.Look.shows c.store.new.self) (g.P.Look.shows c.store-2.new.self) _ c.args.own c.args.slot Write s1 c.store-2.ensures.step c.tlb_word-2.ensures.name in
    may_empty (g.P.Look.shows c.store-2.new.self) _ c.args.own c.args.slot Code s2 refl c.tlb_word-3.ensures.name

pub returns-clause-owning : goal.returns-clause-owning
returns-clause-owning g c = let s0 : IsOwning (g.P.Look.shows c.args.port.now) c.args.own = c.requires.owning in
    let s1 : IsOwning (g.P.Look.shows c.store.new.self) c.args.own = owns_on (g.P.Look.shows c.args.port.now) (g.P.Look.shows c.store.new.self) _ c.args.own c.args.slot Read s0 c.store.ensures.step c.tlb_word.ensures.name in
    let s2 : IsOwning (g.P.Look.shows c.store-2.new.self) c.args.own = owns_on (g.P.Look.shows c.store.new.self) (g.P.Look.shows c.store-2.new.self) _ c.args.own c.args.slot Write s1 c.store-2.ensures.step c.tlb_word-2.ensures.name in
    let s3 : IsOwning (g.P.Look.shows c.store-3.new.self) c.args.own = owns_on (g.P.Look.shows c.store-2.new.self) (g.P.Look.shows c.store-3.new.self) _ c.args.own c.args.slot Code s2 c.store-3.ensures.step c.tlb_word-3.ensures.name in
    s3

pub returns-clause-paid : goal.returns-clause-paid
returns-clause-paid g c = let s0 : IsOwning (g.P.Look.shows c.args.port.now) c.args.own = c.requires.owning in
    let s1 : IsOwning (g.P.Look.shows c.store.new.self) c.args.own = owns_on (g.P.Look.shows c.args.port.now) (g.P.Look.shows c.store.new.self) _ c.args.own c.args.slot Read s0 c.store.ensures.step c.tlb_word.ensures.name in
    let s2 : IsOwning (g.P.Look.shows c.store-2.new.self) c.args.own = owns_on (g.P.Look.shows c.store.new.self) (g.P.Look.shows c.store-2.new.self) _ c.args.own c.args.slot Write s1 c.store-2.ensures.step c.tlb_word-2.ensures.name in
    let s3 : IsOwning (g.P.Look.shows c.store-3.new.self) c.args.own = owns_on (g.P.Look.shows c.store-2.new.self) (g.P.Look.shows c.store-3.new.self) _ c.args.own c.args.slot Code s2 c.store-3.ensures.step c.tlb_word-3.ensures.name in
    pays_all (g.P.Look.shows c.args.port.now) (g.P.Look.shows c.store.new.self) (g.P.Look.shows c.store-2.new.self) (g.P.Look.shows c.store-3.new.self) c.args.slot (keeps_paid (g.P.Look.shows c.store.new.self) (g.P.Look.shows c.store-2.new.self) _ c.args.own c.args.slot Write s1 c.store-2.ensures.step c.tlb_word-2.ensures.name) (keeps_paid (g.P.Look.shows c.store-2.new.self) (g.P.Look.shows c.store-3.new.self) _ c.args.own c.args.slot Code s2 c.store-3.ensures.step c.tlb_word-3.ensures.name) (pays (g.P.Look.shows c.args.port.now) (g.P.Look.shows c.store.new.self) _ c.args.own c.args.slot Read s0 c.store.ensures.step c.tlb_word.ensures.name) (pays (g.P.Look.shows c.store.new.self) (g.P.Look.shows c.store-2.new.self) _ c.args.own c.args.slot Write s1 c.store-2.ensures.step c.tlb_word-2.ensures.name) (pays (g.P.Look.shows c.store-2.new.self) (g.P.Look.shows c.store-3.new.self) _ c.args.own c.args.slot Code s2 c.store-3.ensures.step c.tlb_word-3.ensures.name)

pub returns-clause-others : goal.returns-clause-others
returns-clause-others g c = let s0 : IsOwning (g.P.Look.shows c.args.port.now) c.args.own = c.requires.owning in
    let s1 : IsOwning (g.P.Look.shows c.store.new.self) c.args.own = owns_on (g.P.Look.shows c.args.port.now) (g.P.Look.shows c.store.new.self) _ c.args.own c.args.slot Read s0 c.store.ensures.step c.tlb_word.ensures.name in
    let s2 : IsOwning (g.P.Look.shows c.store-2.new.self) c.args.own = owns_on (g.P.Look.shows c.store.new.self) (g.P.Look.shows c.store-2.new.self) _ c.args.own c.args.slot Write s1 c.store-2.ensures.step c.tlb_word-2.ensures.name in
    let s3 : IsOwning (g.P.Look.shows c.store-3.new.self) c.args.own = owns_on (g.P.Look.shows c.store-2.new.self) (g.P.Look.shows c.store-3.new.self) _ c.args.own c.args.slot Code s2 c.store-3.ensures.step c.tlb_word-3.ensures.name in
    λ j f compare e. keeps_paid (g.P.Look.shows c.store-2.new.self) (g.P.Look.shows c.store-3.new.self) _ c.args.own c.args.slot Code s2 c.store-3.ensures.step c.tlb_word-3.ensures.name j f compare (keeps_paid (g.P.Look.shows c.store.new.self) (g.P.Look.shows c.store-2.new.self) _ c.args.own c.args.slot Write s1 c.store-2.ensures.step c.tlb_word-2.ensures.name j f compare (keeps_paid (g.P.Look.shows c.args.port.now) (g.P.Look.shows c.store.new.self) _ c.args.own c.args.slot Read s0 c.store.ensures.step c.tlb_word.ensures.name j f compare e))

pub returns-clause-size : goal.returns-clause-size
returns-clause-size g c = let s0 : IsOwning (g.P.Look.shows c.args.port.now) c.args.own = c.requires.owning in
    let s1 : IsOwning (g.P.Look.shows c.store.new.self) c.args.own = owns_on (g.P.Look.shows c.args.port.now) (g.P.Look.shows c.store.new.self) _ c.args.own c.args.slot Read s0 c.store.ensures.step c.tlb_word.ensures.name in
    let s2 : IsOwning (g.P.Look.shows c.store-2.new.self) c.args.own = owns_on (g.P.Look.shows c.store.new.self) (g.P.Look.shows c.store-2.new.self) _ c.args.own c.args.slot Write s1 c.store-2.ensures.step c.tlb_word-2.ensures.name in
    let s3 : IsOwning (g.P.Look.shows c.store-3.new.self) c.args.own = owns_on (g.P.Look.shows c.store-2.new.self) (g.P.Look.shows c.store-3.new.self) _ c.args.own c.args.slot Code s2 c.store-3.ensures.step c.tlb_word-3.ensures.name in
    size_still (g.P.Look.shows c.store-2.new.self) (g.P.Look.shows c.store-3.new.self) _ c.args.own c.args.slot Code s2 c.store-3.ensures.step c.tlb_word-3.ensures.name ∙ size_still (g.P.Look.shows c.store.new.self) (g.P.Look.shows c.store-2.new.self) _ c.args.own c.args.slot Write s1 c.store-2.ensures.step c.tlb_word-2.ensures.name ∙ size_still (g.P.Look.shows c.args.port.now) (g.P.Look.shows c.store.new.self) _ c.args.own c.args.slot Read s0 c.store.ensures.step c.tlb_word.ensures.name

pub returns-clause-goes : goal.returns-clause-goes
returns-clause-goes g c = goes_then 2 1 IsOfTable _ _ _ (goes_then 1 1 IsOfTable _ _ _ (goes_step IsOfTable _ _ _ _ _ _ _ c.store.ensures.step c.store.ensures.allowed c.tlb_word.ensures.name tt) (goes_step IsOfTable _ _ _ _ _ _ _ c.store-2.ensures.step c.store-2.ensures.allowed c.tlb_word-2.ensures.name tt)) (goes_step IsOfTable _ _ _ _ _ _ _ c.store-3.ensures.step c.store-3.ensures.allowed c.tlb_word-3.ensures.name tt)
