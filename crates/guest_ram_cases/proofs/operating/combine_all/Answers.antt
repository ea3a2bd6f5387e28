use Rattle.step_laws.specs.declared.steps.WordOp.TheVariants.{And, Max, Min, Or, Xor}
use Rattle.guest_ram_cases.specs.Operations.{IsWriting}
use Rattle.guest_ram_cases.proofs.Writes.{may_write, writes_on}
use Rattle.guest_ram.specs.Areas.{IsOfRam}
use Rattle.guest_ram.proofs.Moves.{goes_step, goes_then}
use Rattle.guest_ram_cases.proofs.operating.combine_all.Goals as goal

pub fetch_and-requires-clause-may : goal.fetch_and-requires-clause-may
fetch_and-requires-clause-may g c = let s0 : IsWriting (g.P.Look.shows c.args.port.now) c.args.index = c.requires.writing in
    may_write (g.P.Look.shows c.args.port.now) _ c.args.index _ And tt s0 c.ram_word_at-word.ensures.name

pub fetch_or-requires-clause-may : goal.fetch_or-requires-clause-may
fetch_or-requires-clause-may g c = let s0 : IsWriting (g.P.Look.shows c.args.port.now) c.args.index = c.requires.writing in
    let s1 : IsWriting (g.P.Look.shows c.fetch_and.new.self) c.args.index = writes_on _ _ _ c.args.index _ _ And s0 c.fetch_and.ensures.step c.ram_word_at-word.ensures.name in
    may_write (g.P.Look.shows c.fetch_and.new.self) _ c.args.index _ Or tt s1 c.ram_word_at-word.ensures.name

pub fetch_xor-requires-clause-may : goal.fetch_xor-requires-clause-may
fetch_xor-requires-clause-may g c = let s0 : IsWriting (g.P.Look.shows c.args.port.now) c.args.index = c.requires.writing in
    let s1 : IsWriting (g.P.Look.shows c.fetch_and.new.self) c.args.index = writes_on _ _ _ c.args.index _ _ And s0 c.fetch_and.ensures.step c.ram_word_at-word.ensures.name in
    let s2 : IsWriting (g.P.Look.shows c.fetch_or.new.self) c.args.index = writes_on _ _ _ c.args.index _ _ Or s1 c.fetch_or.ensures.step c.ram_word_at-word.ensures.name in
    may_write (g.P.Look.shows c.fetch_or.new.self) _ c.args.index _ Xor tt s2 c.ram_word_at-word.ensures.name

pub fetch_min-requires-clause-may : goal.fetch_min-requires-clause-may
fetch_min-requires-clause-may g c = let s0 : IsWriting (g.P.Look.shows c.args.port.now) c.args.index = c.requires.writing in
    let s1 : IsWriting (g.P.Look.shows c.fetch_and.new.self) c.args.index = writes_on _ _ _ c.args.index _ _ And s0 c.fetch_and.ensures.step c.ram_word_at-word.ensures.name in
    let s2 : IsWriting (g.P.Look.shows c.fetch_or.new.self) c.args.index = writes_on _ _ _ c.args.index _ _ Or s1 c.fetch_or.ensures.step c.ram_word_at-word.ensures.name in
    let s3 : IsWriting (g.P.Look.shows c.fetch_xor.new.self) c.args.index = writes_on _ _ _ c.args.index _ _ Xor s2 c.fetch_xor.ensures.step c.ram_word_at-word.ensures.name in
    may_write (g.P.Look.shows c.fetch_xor.new.self) _ c.args.index _ Min tt s3 c.ram_word_at-word.ensures.name

pub fetch_max-requires-clause-may : goal.fetch_max-requires-clause-may
fetch_max-requires-clause-may g c = let s0 : IsWriting (g.P.Look.shows c.args.port.now) c.args.index = c.requires.writing in
    let s1 : IsWriting (g.P.Look.shows c.fetch_and.new.self) c.args.index = writes_on _ _ _ c.args.index _ _ And s0 c.fetch_and.ensures.step c.ram_word_at-word.ensures.name in
    let s2 : IsWriting (g.P.Look.shows c.fetch_or.new.self) c.args.index = writes_on _ _ _ c.args.index _ _ Or s1 c.fetch_or.ensures.step c.ram_word_at-word.ensures.name in
    let s3 : IsWriting (g.P.Look.shows c.fetch_xor.new.self) c.args.index = writes_on _ _ _ c.args.index _ _ Xor s2 c.fetch_xor.ensures.step c.ram_word_at-word.ensures.name in
    let s4 : IsWriting (g.P.Look.shows c.fetch_min.new.self) c.args.index = writes_on _ _ _ c.args.index _ _ Min s3 c.fetch_min.ensures.step c.ram_word_at-word.ensures.name in
    may_write (g.P.Look.shows c.fetch_min.new.self) _ c.args.index _ Max tt s4 c.ram_word_at-word.ensures.name

pub returns-clause-writing : goal.returns-clause-writing
returns-clause-writing g c = let s0 : IsWriting (g.P.Look.shows c.args.port.now) c.args.index = c.requires.writing in
    let s1 : IsWriting (g.P.Look.shows c.fetch_and.new.self) c.args.index = writes_on _ _ _ c.args.index _ _ And s0 c.fetch_and.ensures.step c.ram_word_at-word.ensures.name in
    let s2 : IsWriting (g.P.Look.shows c.fetch_or.new.self) c.args.index = writes_on _ _ _ c.args.index _ _ Or s1 c.fetch_or.ensures.step c.ram_word_at-word.ensures.name in
    let s3 : IsWriting (g.P.Look.shows c.fetch_xor.new.self) c.args.index = writes_on _ _ _ c.args.index _ _ Xor s2 c.fetch_xor.ensures.step c.ram_word_at-word.ensures.name in
    let s4 : IsWriting (g.P.Look.shows c.fetch_min.new.self) c.args.index = writes_on _ _ _ c.args.index _ _ Min s3 c.fetch_min.ensures.step c.ram_word_at-word.ensures.name in
    let s5 : IsWriting (g.P.Look.shows c.fetch_max.new.self) c.args.index = writes_on _ _ _ c.args.index _ _ Max s4 c.fetch_max.ensures.step c.ram_word_at-word.ensures.name in
    s5

pub returns-clause-goes : goal.returns-clause-goes
returns-clause-goes g c = goes_then 4 1 IsOfRam _ _ _ (goes_then 3 1 IsOfRam _ _ _ (goes_then 2 1 IsOfRam _ _ _ (goes_then 1 1 IsOfRam _ _ _ (goes_step IsOfRam _ _ _ _ _ _ _ c.fetch_and.ensures.step c.fetch_and.ensures.allowed c.ram_word_at-word.ensures.name tt)
    (goes_step IsOfRam _ _ _ _ _ _ _ c.fetch_or.ensures.step c.fetch_or.ensures.allowed c.ram_word_at-word.ensures.name tt))
    (goes_step IsOfRam _ _ _ _ _ _ _ c.fetch_xor.ensures.step c.fetch_xor.ensures.allowed c.ram_word_at-word.ensures.name tt))
    (goes_step IsOfRam _ _ _ _ _ _ _ c.fetch_min.ensures.step c.fetch_min.ensures.allowed c.ram_word_at-word.ensures.name tt))
    (goes_step IsOfRam _ _ _ _ _ _ _ c.fetch_max.ensures.step c.fetch_max.ensures.allowed c.ram_word_at-word.ensures.name tt)
