use Rattle.step_laws.specs.declared.steps.WordOp.TheVariants.{Add, Exchange, Load, Store, Swap}
use Rattle.guest_ram_cases.specs.Operations.{IsWriting}
use Rattle.guest_ram_cases.proofs.Writes.{may_write, may_read, writes_on}
use Rattle.guest_ram.specs.Areas.{IsOfRam}
use Rattle.guest_ram.proofs.Moves.{goes_step, goes_then}
use Rattle.guest_ram_cases.proofs.operating.store_all.Goals as goal

pub store-requires-clause-may : goal.store-requires-clause-may
store-requires-clause-may g c = let s0 : IsWriting (g.P.Look.shows c.args.port.now) c.args.index = c.requires.writing in
    may_write (g.P.Look.shows c.args.port.now) _ c.args.index _ Store tt s0 c.ram_word_at-word.ensures.name

pub swap-requires-clause-may : goal.swap-requires-clause-may
swap-requires-clause-may g c = let s0 : IsWriting (g.P.Look.shows c.args.port.now) c.args.index = c.requires.writing in
    let s1 : IsWriting (g.P.Look.shows c.store.new.self) c.args.index = writes_on _ _ _ c.args.index _ _ Store s0 c.store.ensures.step c.ram_word_at-word.ensures.name in
    may_write (g.P.Look.shows c.store.new.self) _ c.args.index _ Swap tt s1 c.ram_word_at-word.ensures.name

pub fetch_add-requires-clause-may : goal.fetch_add-requires-clause-may
fetch_add-requires-clause-may g c = let s0 : IsWriting (g.P.Look.shows c.args.port.now) c.args.index = c.requires.writing in
    let s1 : IsWriting (g.P.Look.shows c.store.new.self) c.args.index = writes_on _ _ _ c.args.index _ _ Store s0 c.store.ensures.step c.ram_word_at-word.ensures.name in
    let s2 : IsWriting (g.P.Look.shows c.swap.new.self) c.args.index = writes_on _ _ _ c.args.index _ _ Swap s1 c.swap.ensures.step c.ram_word_at-word.ensures.name in
    may_write (g.P.Look.shows c.swap.new.self) _ c.args.index _ Add tt s2 c.ram_word_at-word.ensures.name

pub compare_exchange-requires-clause-may : goal.compare_exchange-requires-clause-may
compare_exchange-requires-clause-may g c = let s0 : IsWriting (g.P.Look.shows c.args.port.now) c.args.index = c.requires.writing in
    let s1 : IsWriting (g.P.Look.shows c.store.new.self) c.args.index = writes_on _ _ _ c.args.index _ _ Store s0 c.store.ensures.step c.ram_word_at-word.ensures.name in
    let s2 : IsWriting (g.P.Look.shows c.swap.new.self) c.args.index = writes_on _ _ _ c.args.index _ _ Swap s1 c.swap.ensures.step c.ram_word_at-word.ensures.name in
    let s3 : IsWriting (g.P.Look.shows c.fetch_add.new.self) c.args.index = writes_on _ _ _ c.args.index _ _ Add s2 c.fetch_add.ensures.step c.ram_word_at-word.ensures.name in
    may_write (g.P.Look.shows c.fetch_add.new.self) _ c.args.index _ (Exchange 15) tt s3 c.ram_word_at-word.ensures.name

pub load-requires-clause-may : goal.load-requires-clause-may
load-requires-clause-may g c = let s0 : IsWriting (g.P.Look.shows c.args.port.now) c.args.index = c.requires.writing in
    let s1 : IsWriting (g.P.Look.shows c.store.new.self) c.args.index = writes_on _ _ _ c.args.index _ _ Store s0 c.store.ensures.step c.ram_word_at-word.ensures.name in
    let s2 : IsWriting (g.P.Look.shows c.swap.new.self) c.args.index = writes_on _ _ _ c.args.index _ _ Swap s1 c.swap.ensures.step c.ram_word_at-word.ensures.name in
    let s3 : IsWriting (g.P.Look.shows c.fetch_add.new.self) c.args.index = writes_on _ _ _ c.args.index _ _ Add s2 c.fetch_add.ensures.step c.ram_word_at-word.ensures.name in
    let s4 : IsWriting (g.P.Look.shows c.compare_exchange.new.self) c.args.index = writes_on _ _ _ c.args.index _ _ (Exchange 15) s3 c.compare_exchange.ensures.step c.ram_word_at-word.ensures.name in
    may_read (g.P.Look.shows c.compare_exchange.new.self) _ c.args.index s4 c.ram_word_at-word.ensures.name

pub returns-clause-writing : goal.returns-clause-writing
returns-clause-writing g c = let s0 : IsWriting (g.P.Look.shows c.args.port.now) c.args.index = c.requires.writing in
    let s1 : IsWriting (g.P.Look.shows c.store.new.self) c.args.index = writes_on _ _ _ c.args.index _ _ Store s0 c.store.ensures.step c.ram_word_at-word.ensures.name in
    let s2 : IsWriting (g.P.Look.shows c.swap.new.self) c.args.index = writes_on _ _ _ c.args.index _ _ Swap s1 c.swap.ensures.step c.ram_word_at-word.ensures.name in
    let s3 : IsWriting (g.P.Look.shows c.fetch_add.new.self) c.args.index = writes_on _ _ _ c.args.index _ _ Add s2 c.fetch_add.ensures.step c.ram_word_at-word.ensures.name in
    let s4 : IsWriting (g.P.Look.shows c.compare_exchange.new.self) c.args.index = writes_on _ _ _ c.args.index _ _ (Exchange 15) s3 c.compare_exchange.ensures.step c.ram_word_at-word.ensures.name in
    let s5 : IsWriting (g.P.Look.shows c.load.new.self) c.args.index = writes_on _ _ _ c.args.index _ _ Load s4 c.load.ensures.step c.ram_word_at-word.ensures.name in
    s5

pub returns-clause-goes : goal.returns-clause-goes
returns-clause-goes g c = goes_then 4 1 IsOfRam _ _ _ (goes_then 3 1 IsOfRam _ _ _ (goes_then 2 1 IsOfRam _ _ _ (goes_then 1 1 IsOfRam _ _ _ (goes_step IsOfRam _ _ _ _ _ _ _ c.store.ensures.step c.store.ensures.allowed c.ram_word_at-word.ensures.name tt)
    (goes_step IsOfRam _ _ _ _ _ _ _ c.swap.ensures.step c.swap.ensures.allowed c.ram_word_at-word.ensures.name tt))
    (goes_step IsOfRam _ _ _ _ _ _ _ c.fetch_add.ensures.step c.fetch_add.ensures.allowed c.ram_word_at-word.ensures.name tt))
    (goes_step IsOfRam _ _ _ _ _ _ _ c.compare_exchange.ensures.step c.compare_exchange.ensures.allowed c.ram_word_at-word.ensures.name tt))
    (goes_step IsOfRam _ _ _ _ _ _ _ c.load.ensures.step c.load.ensures.allowed c.ram_word_at-word.ensures.name tt)
