use Rattle.std.proofs.Common.{◌∙◌, refl, sym, arith}
use Rattle.guest_access.specs.Atomics.{on_none, with_hold, without_hold}
use Rattle.guest_access.proofs.Keeping.{can_store}
use Rattle.guest_access.proofs.Running.{runs_most, runs_placed, runs_step}
use Rattle.guest_access.proofs.Stored.{exchanged_whole, gives_stored}
use Rattle.guest_access.proofs.atomics.store_conditional.Goals as goal

pub exchange_at-requires : goal.exchange_at-requires
exchange_at-requires g c = let m = can_store _ _ _ c.in-Ok.ensures.access c.in-Ok.ensures.there.0 (c.in-Ok.ensures.armed refl) in
    m

pub returns-in-Some-clause-done : goal.returns-in-Some-clause-done
returns-in-Some-clause-done g c = let s = exchanged_whole _ _ _ _ _ _ c.args.wide _ _ c.width_of.ensures c.replace_in-new.ensures c.exchange_at.ensures in
    with_hold c.in-Ok.ensures.placed (sym c.held_word.ensures ∙ c.in-Some.is) s (gives_stored _ _ _ refl)

pub returns-in-Some-clause-goes_on : goal.returns-in-Some-clause-goes_on
returns-in-Some-clause-goes_on g c = let x = runs_placed 15 _ _ _ _ _ c.in-Ok.ensures.goes_on c.in-Ok.ensures.access c.in-Ok.ensures.goes in
    let s = exchanged_whole _ _ _ _ _ _ c.args.wide _ _ c.width_of.ensures c.replace_in-new.ensures c.exchange_at.ensures in
    let k = runs_step 15 _ _ _ _ _ _ _ _ _ _ x s in
    k.goes_on

pub returns-in-Some-clause-access : goal.returns-in-Some-clause-access
returns-in-Some-clause-access g c = let x = runs_placed 15 _ _ _ _ _ c.in-Ok.ensures.goes_on c.in-Ok.ensures.access c.in-Ok.ensures.goes in
    let s = exchanged_whole _ _ _ _ _ _ c.args.wide _ _ c.width_of.ensures c.replace_in-new.ensures c.exchange_at.ensures in
    let k = runs_step 15 _ _ _ _ _ _ _ _ _ _ x s in
    k.access

pub returns-in-Some-clause-goes : goal.returns-in-Some-clause-goes
returns-in-Some-clause-goes g c = let x = runs_placed 15 _ _ _ _ _ c.in-Ok.ensures.goes_on c.in-Ok.ensures.access c.in-Ok.ensures.goes in
    let s = exchanged_whole _ _ _ _ _ _ c.args.wide _ _ c.width_of.ensures c.replace_in-new.ensures c.exchange_at.ensures in
    let k = runs_step 15 _ _ _ _ _ _ _ _ _ _ x s in
    runs_most 16 17 _ _ _ _ _ (omega arith) k

pub returns-in-None-clause-done : goal.returns-in-None-clause-done
returns-in-None-clause-done g c = without_hold c.in-Ok.ensures.placed (sym c.held_word.ensures ∙ c.in-None.is) refl

pub returns-in-None-clause-goes : goal.returns-in-None-clause-goes
returns-in-None-clause-goes g c = let x = runs_placed 15 _ _ _ _ _ c.in-Ok.ensures.goes_on c.in-Ok.ensures.access c.in-Ok.ensures.goes in
    runs_most 15 17 _ _ _ _ _ (omega arith) x

pub returns-in-Err-clause-done : goal.returns-in-Err-clause-done
returns-in-Err-clause-done g c = on_none c.in-Err.ensures.placed

pub returns-in-Err-clause-goes : goal.returns-in-Err-clause-goes
returns-in-Err-clause-goes g c = let x = runs_placed 15 _ _ _ _ _ c.in-Err.ensures.goes_on c.in-Err.ensures.access c.in-Err.ensures.goes in
    runs_most 15 17 _ _ _ _ _ (omega arith) x
