use Rattle.std.proofs.Common.{◌≡◌, ◌≢◌, arith}
use Rattle.guest_ram.specs.Areas.{IsOfService}
use Rattle.guest_ram.proofs.Moves.{goes_step, goes_then, goes_at_most}
use Rattle.guest_ram_cases.proofs.Acks.{may_fetch_next, served_first, served_locked, served_last, acks_flush, may_flush_lock, may_flush_unlock, may_flush_ack}
use Rattle.guest_ram_cases.proofs.serving.serve_flush.Goals as goal

pub load-request-requires-clause-may : goal.load-request-requires-clause-may
load-request-requires-clause-may g c = let i = c.requires.serving in may_fetch_next _ _ _ c.args.source c.args.place c.place_word-word.ensures.name c.actor-own.ensures i.acting i.other i.hart c.requires.next i.untouched

pub compare_exchange-found-requires-clause-may : goal.compare_exchange-found-requires-clause-may
compare_exchange-found-requires-clause-may g c = may_flush_lock _ _ _ c.actor-own.result c.args.source c.args.place c.load-request.result c.load-request.ensures.step c.place_word-word.ensures.name c.actor-own.ensures c.requires.serving c.requires.next
    c.lock_word-lock.result _ c.lock_word-lock.ensures.name (omega arith)

pub store-requires-clause-may : goal.store-requires-clause-may
store-requires-clause-may g c = may_flush_unlock _ _ _ c.actor-own.result c.args.source c.args.place c.load-request.result c.load-request.ensures.step c.place_word-word.ensures.name c.actor-own.ensures c.requires.serving c.requires.next
    c.lock_word-lock.result _ c.lock_word-lock.ensures.name (omega arith) _ c.compare_exchange-found.result c.compare_exchange-found.ensures.step (let z : c.compare_exchange-found.result ≡ 0 = omega arith in z)

pub store-requires-2-clause-may : goal.store-requires-2-clause-may
store-requires-2-clause-may g c = may_flush_ack _ _ _ c.actor-own.result c.args.source c.args.place c.load-request.result c.load-request.ensures.step c.place_word-word.ensures.name c.actor-own.ensures c.requires.serving c.requires.next
    c.lock_word-lock.result _ c.lock_word-lock.ensures.name (omega arith) _ c.compare_exchange-found.result c.compare_exchange-found.ensures.step (let z : c.compare_exchange-found.result ≡ 0 = omega arith in z)
    _ c.store.ensures.step c.load-request.ensures.known (let z : c.load-request.result ≢ 0 = λ e. omega (arith, e) in z)

pub returns-then-request-eq0-clause-serving : goal.returns-then-request-eq0-clause-serving
returns-then-request-eq0-clause-serving g c = served_first _ _ _ c.actor-own.result c.args.source c.args.place c.load-request.result c.load-request.ensures.step c.place_word-word.ensures.name c.actor-own.ensures c.requires.serving c.requires.next

pub returns-then-request-eq0-clause-goes : goal.returns-then-request-eq0-clause-goes
returns-then-request-eq0-clause-goes g c = goes_at_most 1 4 IsOfService _ _ (omega arith) (goes_step IsOfService _ _ _ _ _ _ _ c.load-request.ensures.step c.load-request.ensures.allowed c.place_word-word.ensures.name tt)

pub returns-then-found-ne0-clause-serving : goal.returns-then-found-ne0-clause-serving
returns-then-found-ne0-clause-serving g c = served_locked _ _ _ c.actor-own.result c.args.source c.args.place c.load-request.result c.load-request.ensures.step c.place_word-word.ensures.name c.actor-own.ensures c.requires.serving c.requires.next
    c.lock_word-lock.result _ c.lock_word-lock.ensures.name (omega arith) _ c.compare_exchange-found.result c.compare_exchange-found.ensures.step (let z : c.compare_exchange-found.result ≢ 0 = λ e. omega (arith, e) in z)

pub returns-then-found-ne0-clause-goes : goal.returns-then-found-ne0-clause-goes
returns-then-found-ne0-clause-goes g c = goes_at_most 2 4 IsOfService _ _ (omega arith) (goes_then 1 1 IsOfService _ _ _ (goes_step IsOfService _ _ _ _ _ _ _ c.load-request.ensures.step c.load-request.ensures.allowed c.place_word-word.ensures.name tt)
    (goes_step IsOfService _ _ _ _ _ _ _ c.compare_exchange-found.ensures.step c.compare_exchange-found.ensures.allowed c.lock_word-lock.ensures.name tt))

pub returns-clause-serving : goal.returns-clause-serving
returns-clause-serving g c = served_last _ _ _ c.actor-own.result c.args.source c.args.place c.load-request.result c.load-request.ensures.step c.place_word-word.ensures.name c.actor-own.ensures c.requires.serving c.requires.next
    c.lock_word-lock.result _ c.lock_word-lock.ensures.name (omega arith) _ c.compare_exchange-found.result c.compare_exchange-found.ensures.step (let z : c.compare_exchange-found.result ≡ 0 = omega arith in z)
    _ c.store.ensures.step _ c.store-2.ensures.step

pub returns-clause-acked : goal.returns-clause-acked
returns-clause-acked g c = λ _. acks_flush _ _ _ c.actor-own.result c.args.source c.args.place c.load-request.result c.load-request.ensures.step c.place_word-word.ensures.name c.actor-own.ensures c.requires.serving c.requires.next
    c.lock_word-lock.result _ c.lock_word-lock.ensures.name (omega arith) _ c.compare_exchange-found.result c.compare_exchange-found.ensures.step (let z : c.compare_exchange-found.result ≡ 0 = omega arith in z)
    _ c.store.ensures.step _ c.store-2.ensures.step

pub returns-clause-goes : goal.returns-clause-goes
returns-clause-goes g c = goes_then 3 1 IsOfService _ _ _ (goes_then 2 1 IsOfService _ _ _ (goes_then 1 1 IsOfService _ _ _ (goes_step IsOfService _ _ _ _ _ _ _ c.load-request.ensures.step c.load-request.ensures.allowed c.place_word-word.ensures.name tt)
    (goes_step IsOfService _ _ _ _ _ _ _ c.compare_exchange-found.ensures.step c.compare_exchange-found.ensures.allowed c.lock_word-lock.ensures.name tt))
    (goes_step IsOfService _ _ _ _ _ _ _ c.store.ensures.step c.store.ensures.allowed c.lock_word-lock.ensures.name tt))
    (goes_step IsOfService _ _ _ _ _ _ _ c.store-2.ensures.step c.store-2.ensures.allowed c.place_word-word.ensures.name tt)
