use Rattle.std.proofs.Common.{◌+◌, arith}
use Rattle.flush.specs.Flushed.{full_steps}
use Rattle.guest_ram.specs.Areas.{IsOfTable}
use Rattle.guest_ram.proofs.MaySteps.{may_load_hsm}
use Rattle.guest_ram.proofs.Moves.{goes_at_most, goes_step, goes_then, goes_within}
use Rattle.hart_signals.specs.Starts.{IsOfStart}
use Rattle.hart_signals.proofs.Aside.{table_start}
use Rattle.hart_signals.proofs.Taking.{may_begin, may_take_opaque, may_take_place}
use Rattle.hart_signals.proofs.starts.take_start.Goals as goal

pub load-requires-clause-may : goal.load-requires-clause-may
load-requires-clause-may g c = may_load_hsm _ _ c.actor-own.result c.hsm_word-state.ensures.name c.requires.beside.acting

pub returns-then-load-ne2-clause-goes : goal.returns-then-load-ne2-clause-goes
returns-then-load-ne2-clause-goes g c = goes_at_most 1 (full_steps c.args.book.now.size + 4) IsOfStart _ _ (omega arith) (goes_step IsOfStart _ _ _ _ _ _ _ c.load.ensures.step c.load.ensures.allowed c.hsm_word-state.ensures.name tt)

pub load-at-requires-clause-may : goal.load-at-requires-clause-may
load-at-requires-clause-may g c = may_take_place (full_steps c.args.book.now.size) (g.P.Look.shows c.args.port.now) (g.P.Look.shows c.load.new.self) (g.P.Look.shows c.flush_all.new.port) (g.P.Look.shows c.args.port.now) (g.P.Look.shows c.args.port.now)
    c.hsm_word-state.result c.start_word.result 0 c.actor-own.result c.load.result 0 0 c.requires.beside.acting c.requires.stopped c.requires.paid c.actor-own.ensures c.hsm_word-state.ensures.name c.load.ensures.step (omega (arith, c.if-load-ne2.false))
    c.flush_all.ensures.goes c.flush_all.ensures.beside.acting c.start_word.ensures.name

pub load-opaque-requires-clause-may : goal.load-opaque-requires-clause-may
load-opaque-requires-clause-may g c = may_take_opaque (full_steps c.args.book.now.size) (g.P.Look.shows c.args.port.now) (g.P.Look.shows c.load.new.self) (g.P.Look.shows c.flush_all.new.port) (g.P.Look.shows c.load-at.new.self) (g.P.Look.shows c.args.port.now)
    c.hsm_word-state.result c.start_word.result c.opaque_word.result c.actor-own.result c.load.result c.load-at.result 0 c.requires.beside.acting c.requires.stopped c.requires.paid c.actor-own.ensures c.hsm_word-state.ensures.name c.load.ensures.step (omega (arith, c.if-load-ne2.false))
    c.flush_all.ensures.goes c.flush_all.ensures.beside.acting c.start_word.ensures.name c.load-at.ensures.step c.opaque_word.ensures.name

pub store-requires-clause-may : goal.store-requires-clause-may
store-requires-clause-may g c = may_begin (full_steps c.args.book.now.size) (g.P.Look.shows c.args.port.now) (g.P.Look.shows c.load.new.self) (g.P.Look.shows c.flush_all.new.port) (g.P.Look.shows c.load-at.new.self) (g.P.Look.shows c.load-opaque.new.self)
    c.hsm_word-state.result c.start_word.result c.opaque_word.result c.actor-own.result c.load.result c.load-at.result c.load-opaque.result c.requires.beside.acting c.requires.stopped c.requires.paid c.actor-own.ensures c.hsm_word-state.ensures.name c.load.ensures.step (omega (arith, c.if-load-ne2.false))
    c.flush_all.ensures.goes c.flush_all.ensures.beside.acting c.start_word.ensures.name c.load-at.ensures.step c.opaque_word.ensures.name c.load-opaque.ensures.step

pub returns-in-Err-clause-goes : goal.returns-in-Err-clause-goes
returns-in-Err-clause-goes g c = let size = c.args.book.now.size in goes_at_most (1 + full_steps size) (full_steps size + 4) IsOfStart _ _ (omega arith)
    (goes_then 1 (full_steps size) IsOfStart _ _ _ (goes_step IsOfStart _ _ _ _ _ _ _ c.load.ensures.step c.load.ensures.allowed c.hsm_word-state.ensures.name tt)
    (goes_within (full_steps size) IsOfTable IsOfStart _ _ table_start c.flush_all.ensures.goes))

pub returns-in-Ok-clause-goes : goal.returns-in-Ok-clause-goes
returns-in-Ok-clause-goes g c = let size = c.args.book.now.size in goes_at_most (1 + full_steps size + 1 + 1 + 1) (full_steps size + 4) IsOfStart _ _ (omega arith)
    (goes_then (1 + full_steps size + 1 + 1) 1 IsOfStart _ _ _ (goes_then (1 + full_steps size + 1) 1 IsOfStart _ _ _ (goes_then (1 + full_steps size) 1 IsOfStart _ _ _
    (goes_then 1 (full_steps size) IsOfStart _ _ _ (goes_step IsOfStart _ _ _ _ _ _ _ c.load.ensures.step c.load.ensures.allowed c.hsm_word-state.ensures.name tt)
    (goes_within (full_steps size) IsOfTable IsOfStart _ _ table_start c.flush_all.ensures.goes))
    (goes_step IsOfStart _ _ _ _ _ _ _ c.load-at.ensures.step c.load-at.ensures.allowed c.start_word.ensures.name tt))
    (goes_step IsOfStart _ _ _ _ _ _ _ c.load-opaque.ensures.step c.load-opaque.ensures.allowed c.opaque_word.ensures.name tt))
    (goes_step IsOfStart _ _ _ _ _ _ _ c.store.ensures.step c.store.ensures.allowed c.hsm_word-state.ensures.name tt))
