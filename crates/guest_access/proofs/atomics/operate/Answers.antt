use Rattle.std.proofs.Common.{refl, arith}
use Rattle.guest_access.specs.Atomics.{on_none, on_word}
use Rattle.guest_access.proofs.Keeping.{can_store}
use Rattle.guest_access.proofs.Running.{runs_most, runs_operated, runs_placed}
use Rattle.guest_access.proofs.atomics.operate.Goals as goal

pub operate_on-requires-clause-within : goal.operate_on-requires-clause-within
operate_on-requires-clause-within g c = c.in-Ok.ensures.there.1

pub operate_on-requires-clause-may : goal.operate_on-requires-clause-may
operate_on-requires-clause-may g c = let m = can_store _ _ _ c.in-Ok.ensures.access c.in-Ok.ensures.there.0 (c.in-Ok.ensures.armed refl) in
    m

pub returns-in-Ok-clause-done : goal.returns-in-Ok-clause-done
returns-in-Ok-clause-done g c = on_word c.in-Ok.ensures.placed c.operate_on.ensures

pub returns-in-Ok-clause-goes_on : goal.returns-in-Ok-clause-goes_on
returns-in-Ok-clause-goes_on g c = let x = runs_placed 15 _ _ _ _ _ c.in-Ok.ensures.goes_on c.in-Ok.ensures.access c.in-Ok.ensures.goes in
    let k = runs_operated 15 _ _ _ _ _ _ _ _ _ _ _ x c.operate_on.ensures in
    k.goes_on

pub returns-in-Ok-clause-access : goal.returns-in-Ok-clause-access
returns-in-Ok-clause-access g c = let x = runs_placed 15 _ _ _ _ _ c.in-Ok.ensures.goes_on c.in-Ok.ensures.access c.in-Ok.ensures.goes in
    let k = runs_operated 15 _ _ _ _ _ _ _ _ _ _ _ x c.operate_on.ensures in
    k.access

pub returns-in-Ok-clause-goes : goal.returns-in-Ok-clause-goes
returns-in-Ok-clause-goes g c = let x = runs_placed 15 _ _ _ _ _ c.in-Ok.ensures.goes_on c.in-Ok.ensures.access c.in-Ok.ensures.goes in
    let k = runs_operated 15 _ _ _ _ _ _ _ _ _ _ _ x c.operate_on.ensures in
    k.goes

pub returns-in-Err-clause-done : goal.returns-in-Err-clause-done
returns-in-Err-clause-done g c = on_none c.in-Err.ensures.placed

pub returns-in-Err-clause-goes : goal.returns-in-Err-clause-goes
returns-in-Err-clause-goes g c = let x = runs_placed 15 _ _ _ _ _ c.in-Err.ensures.goes_on c.in-Err.ensures.access c.in-Err.ensures.goes in
    runs_most 15 17 _ _ _ _ _ (omega arith) x
