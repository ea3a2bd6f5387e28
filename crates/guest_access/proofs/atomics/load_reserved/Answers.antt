use Rattle.std.proofs.Common.{arith}
use Rattle.guest_access.specs.Atomics.{on_none, on_word}
use Rattle.guest_access.proofs.Keeping.{can_load}
use Rattle.guest_access.proofs.Running.{runs_most, runs_placed, runs_step}
use Rattle.guest_access.proofs.Stored.{gives_reserved}
use Rattle.guest_access.proofs.atomics.load_reserved.Goals as goal

pub load_at-word-requires : goal.load_at-word-requires
load_at-word-requires g c = can_load _ _ _ c.in-Ok.ensures.access c.in-Ok.ensures.there.0

pub returns-in-Ok-clause-done : goal.returns-in-Ok-clause-done
returns-in-Ok-clause-done g c = on_word c.in-Ok.ensures.placed c.load_at-word.ensures (gives_reserved _ _ _ _ _ _ c.width_of-width.ensures c.number_in.ensures.number c.extended-value.ensures)

pub returns-in-Ok-clause-goes_on : goal.returns-in-Ok-clause-goes_on
returns-in-Ok-clause-goes_on g c = let x = runs_placed 15 _ _ _ _ _ c.in-Ok.ensures.goes_on c.in-Ok.ensures.access c.in-Ok.ensures.goes in
    let k = runs_step 15 _ _ _ _ _ _ _ _ _ _ x c.load_at-word.ensures in
    k.goes_on

pub returns-in-Ok-clause-access : goal.returns-in-Ok-clause-access
returns-in-Ok-clause-access g c = let x = runs_placed 15 _ _ _ _ _ c.in-Ok.ensures.goes_on c.in-Ok.ensures.access c.in-Ok.ensures.goes in
    let k = runs_step 15 _ _ _ _ _ _ _ _ _ _ x c.load_at-word.ensures in
    k.access

pub returns-in-Ok-clause-goes : goal.returns-in-Ok-clause-goes
returns-in-Ok-clause-goes g c = let x = runs_placed 15 _ _ _ _ _ c.in-Ok.ensures.goes_on c.in-Ok.ensures.access c.in-Ok.ensures.goes in
    let k = runs_step 15 _ _ _ _ _ _ _ _ _ _ x c.load_at-word.ensures in
    runs_most 16 17 _ _ _ _ _ (omega arith) k

pub returns-in-Err-clause-done : goal.returns-in-Err-clause-done
returns-in-Err-clause-done g c = on_none c.in-Err.ensures.placed

pub returns-in-Err-clause-goes : goal.returns-in-Err-clause-goes
returns-in-Err-clause-goes g c = let x = runs_placed 15 _ _ _ _ _ c.in-Err.ensures.goes_on c.in-Err.ensures.access c.in-Err.ensures.goes in
    runs_most 15 17 _ _ _ _ _ (omega arith) x
