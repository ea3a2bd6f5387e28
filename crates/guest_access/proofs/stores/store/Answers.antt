use Rattle.std.proofs.Common.{◌∙◌, Ok, refl, sym, ap, arith}
use Rattle.guest_access.specs.declared.outcomes.Got.TheVariants as gets
use Rattle.guest_access.specs.Storing.{gives_stored, in_word, on_device, over_words, unreached}
use Rattle.guest_access.proofs.Keeping.{may_word, may_words}
use Rattle.guest_access.proofs.Running.{arrives, runs_device, runs_most, runs_stored_in, runs_stored_over}
use Rattle.guest_access.proofs.stores.store.Goals as goal

pub store_in-requires-clause-within : goal.store_in-requires-clause-within
store_in-requires-clause-within g c = let m = may_word _ _ _ _ _ c.in-Ok-Word.field-0-is c.in-Ok-Word.ensures.access c.in-Ok-Word.ensures.there (c.in-Ok-Word.ensures.armed refl) in
    m.within

pub store_in-requires-clause-may : goal.store_in-requires-clause-may
store_in-requires-clause-may g c = let m = may_word _ _ _ _ _ c.in-Ok-Word.field-0-is c.in-Ok-Word.ensures.access c.in-Ok-Word.ensures.there (c.in-Ok-Word.ensures.armed refl) in
    m.may

pub store_over-requires-clause-over : goal.store_over-requires-clause-over
store_over-requires-clause-over g c = let m = may_words _ _ _ _ _ _ c.in-Ok-Words.field-0-is c.in-Ok-Words.ensures.access c.in-Ok-Words.ensures.there (c.in-Ok-Words.ensures.armed refl) in
    m.over

pub store_over-requires-clause-may_first : goal.store_over-requires-clause-may_first
store_over-requires-clause-may_first g c = let m = may_words _ _ _ _ _ _ c.in-Ok-Words.field-0-is c.in-Ok-Words.ensures.access c.in-Ok-Words.ensures.there (c.in-Ok-Words.ensures.armed refl) in
    m.may_first

pub store_over-requires-clause-may_second : goal.store_over-requires-clause-may_second
store_over-requires-clause-may_second g c = let m = may_words _ _ _ _ _ _ c.in-Ok-Words.field-0-is c.in-Ok-Words.ensures.access c.in-Ok-Words.ensures.there (c.in-Ok-Words.ensures.armed refl) in
    m.may_second

pub returns-in-Ok-Word-clause-stored : goal.returns-in-Ok-Word-clause-stored
returns-in-Ok-Word-clause-stored g c = let x = arrives _ _ _ _ _ _ _ _ _ _ _ _ c.regime_of-regime.ensures (ap (λ f. Ok f) c.in-Ok-Word.field-0-is) c.in-Ok-Word.ensures.reached c.in-Ok-Word.ensures.goes_on c.in-Ok-Word.ensures.access c.in-Ok-Word.ensures.goes in
    in_word x.reached c.store_in.ensures

pub returns-in-Ok-Word-clause-goes_on : goal.returns-in-Ok-Word-clause-goes_on
returns-in-Ok-Word-clause-goes_on g c = let x = arrives _ _ _ _ _ _ _ _ _ _ _ _ c.regime_of-regime.ensures (ap (λ f. Ok f) c.in-Ok-Word.field-0-is) c.in-Ok-Word.ensures.reached c.in-Ok-Word.ensures.goes_on c.in-Ok-Word.ensures.access c.in-Ok-Word.ensures.goes in
    let k = runs_stored_in 30 _ _ _ _ _ _ _ _ _ _ x.runs c.store_in.ensures in
    k.goes_on

pub returns-in-Ok-Word-clause-access : goal.returns-in-Ok-Word-clause-access
returns-in-Ok-Word-clause-access g c = let x = arrives _ _ _ _ _ _ _ _ _ _ _ _ c.regime_of-regime.ensures (ap (λ f. Ok f) c.in-Ok-Word.field-0-is) c.in-Ok-Word.ensures.reached c.in-Ok-Word.ensures.goes_on c.in-Ok-Word.ensures.access c.in-Ok-Word.ensures.goes in
    let k = runs_stored_in 30 _ _ _ _ _ _ _ _ _ _ x.runs c.store_in.ensures in
    k.access

pub returns-in-Ok-Word-clause-goes : goal.returns-in-Ok-Word-clause-goes
returns-in-Ok-Word-clause-goes g c = let x = arrives _ _ _ _ _ _ _ _ _ _ _ _ c.regime_of-regime.ensures (ap (λ f. Ok f) c.in-Ok-Word.field-0-is) c.in-Ok-Word.ensures.reached c.in-Ok-Word.ensures.goes_on c.in-Ok-Word.ensures.access c.in-Ok-Word.ensures.goes in
    let k = runs_stored_in 30 _ _ _ _ _ _ _ _ _ _ x.runs c.store_in.ensures in
    runs_most 32 34 _ _ _ _ _ (omega arith) k

pub returns-in-Ok-Words-clause-stored : goal.returns-in-Ok-Words-clause-stored
returns-in-Ok-Words-clause-stored g c = let x = arrives _ _ _ _ _ _ _ _ _ _ _ _ c.regime_of-regime.ensures (ap (λ f. Ok f) c.in-Ok-Words.field-0-is) c.in-Ok-Words.ensures.reached c.in-Ok-Words.ensures.goes_on c.in-Ok-Words.ensures.access c.in-Ok-Words.ensures.goes in
    over_words x.reached c.store_over.ensures refl

pub returns-in-Ok-Words-clause-goes_on : goal.returns-in-Ok-Words-clause-goes_on
returns-in-Ok-Words-clause-goes_on g c = let x = arrives _ _ _ _ _ _ _ _ _ _ _ _ c.regime_of-regime.ensures (ap (λ f. Ok f) c.in-Ok-Words.field-0-is) c.in-Ok-Words.ensures.reached c.in-Ok-Words.ensures.goes_on c.in-Ok-Words.ensures.access c.in-Ok-Words.ensures.goes in
    let k = runs_stored_over 30 _ _ _ _ _ _ _ _ _ _ x.runs c.store_over.ensures in
    k.goes_on

pub returns-in-Ok-Words-clause-access : goal.returns-in-Ok-Words-clause-access
returns-in-Ok-Words-clause-access g c = let x = arrives _ _ _ _ _ _ _ _ _ _ _ _ c.regime_of-regime.ensures (ap (λ f. Ok f) c.in-Ok-Words.field-0-is) c.in-Ok-Words.ensures.reached c.in-Ok-Words.ensures.goes_on c.in-Ok-Words.ensures.access c.in-Ok-Words.ensures.goes in
    let k = runs_stored_over 30 _ _ _ _ _ _ _ _ _ _ x.runs c.store_over.ensures in
    k.access

pub returns-in-Ok-Words-clause-goes : goal.returns-in-Ok-Words-clause-goes
returns-in-Ok-Words-clause-goes g c = let x = arrives _ _ _ _ _ _ _ _ _ _ _ _ c.regime_of-regime.ensures (ap (λ f. Ok f) c.in-Ok-Words.field-0-is) c.in-Ok-Words.ensures.reached c.in-Ok-Words.ensures.goes_on c.in-Ok-Words.ensures.access c.in-Ok-Words.ensures.goes in
    let k = runs_stored_over 30 _ _ _ _ _ _ _ _ _ _ x.runs c.store_over.ensures in
    k.goes

pub returns-in-Some-clause-stored : goal.returns-in-Some-clause-stored
returns-in-Some-clause-stored g c = let x = arrives _ _ _ _ _ _ _ _ _ _ _ _ c.regime_of-regime.ensures (ap (λ f. Ok f) c.in-Ok-Device.field-0-is) c.in-Ok-Device.ensures.reached c.in-Ok-Device.ensures.goes_on c.in-Ok-Device.ensures.access c.in-Ok-Device.ensures.goes in
    on_device x.reached c.device_store.ensures.stored (sym (ap (gives_stored c.args.va) c.in-Some.is))

pub returns-in-Some-clause-goes_on : goal.returns-in-Some-clause-goes_on
returns-in-Some-clause-goes_on g c = let x = arrives _ _ _ _ _ _ _ _ _ _ _ _ c.regime_of-regime.ensures (ap (λ f. Ok f) c.in-Ok-Device.field-0-is) c.in-Ok-Device.ensures.reached c.in-Ok-Device.ensures.goes_on c.in-Ok-Device.ensures.access c.in-Ok-Device.ensures.goes in
    let k = runs_device 30 _ _ _ _ _ _ x.runs c.device_store.ensures.goes c.device_store.ensures.stands c.device_store.ensures.held c.device_store.ensures.acting in
    k.goes_on

pub returns-in-Some-clause-access : goal.returns-in-Some-clause-access
returns-in-Some-clause-access g c = let x = arrives _ _ _ _ _ _ _ _ _ _ _ _ c.regime_of-regime.ensures (ap (λ f. Ok f) c.in-Ok-Device.field-0-is) c.in-Ok-Device.ensures.reached c.in-Ok-Device.ensures.goes_on c.in-Ok-Device.ensures.access c.in-Ok-Device.ensures.goes in
    let k = runs_device 30 _ _ _ _ _ _ x.runs c.device_store.ensures.goes c.device_store.ensures.stands c.device_store.ensures.held c.device_store.ensures.acting in
    k.access

pub returns-in-Some-clause-goes : goal.returns-in-Some-clause-goes
returns-in-Some-clause-goes g c = let x = arrives _ _ _ _ _ _ _ _ _ _ _ _ c.regime_of-regime.ensures (ap (λ f. Ok f) c.in-Ok-Device.field-0-is) c.in-Ok-Device.ensures.reached c.in-Ok-Device.ensures.goes_on c.in-Ok-Device.ensures.access c.in-Ok-Device.ensures.goes in
    let k = runs_device 30 _ _ _ _ _ _ x.runs c.device_store.ensures.goes c.device_store.ensures.stands c.device_store.ensures.held c.device_store.ensures.acting in
    runs_most 32 34 _ _ _ _ _ (omega arith) k

pub returns-in-None-clause-stored : goal.returns-in-None-clause-stored
returns-in-None-clause-stored g c = let x = arrives _ _ _ _ _ _ _ _ _ _ _ _ c.regime_of-regime.ensures (ap (λ f. Ok f) c.in-Ok-Device.field-0-is) c.in-Ok-Device.ensures.reached c.in-Ok-Device.ensures.goes_on c.in-Ok-Device.ensures.access c.in-Ok-Device.ensures.goes in
    on_device x.reached c.device_store.ensures.stored (ap (λ n. gets.Fault n c.args.va) c.access_fault.ensures ∙ sym (ap (gives_stored c.args.va) c.in-None.is))

pub returns-in-None-clause-goes_on : goal.returns-in-None-clause-goes_on
returns-in-None-clause-goes_on g c = let x = arrives _ _ _ _ _ _ _ _ _ _ _ _ c.regime_of-regime.ensures (ap (λ f. Ok f) c.in-Ok-Device.field-0-is) c.in-Ok-Device.ensures.reached c.in-Ok-Device.ensures.goes_on c.in-Ok-Device.ensures.access c.in-Ok-Device.ensures.goes in
    let k = runs_device 30 _ _ _ _ _ _ x.runs c.device_store.ensures.goes c.device_store.ensures.stands c.device_store.ensures.held c.device_store.ensures.acting in
    k.goes_on

pub returns-in-None-clause-access : goal.returns-in-None-clause-access
returns-in-None-clause-access g c = let x = arrives _ _ _ _ _ _ _ _ _ _ _ _ c.regime_of-regime.ensures (ap (λ f. Ok f) c.in-Ok-Device.field-0-is) c.in-Ok-Device.ensures.reached c.in-Ok-Device.ensures.goes_on c.in-Ok-Device.ensures.access c.in-Ok-Device.ensures.goes in
    let k = runs_device 30 _ _ _ _ _ _ x.runs c.device_store.ensures.goes c.device_store.ensures.stands c.device_store.ensures.held c.device_store.ensures.acting in
    k.access

pub returns-in-None-clause-goes : goal.returns-in-None-clause-goes
returns-in-None-clause-goes g c = let x = arrives _ _ _ _ _ _ _ _ _ _ _ _ c.regime_of-regime.ensures (ap (λ f. Ok f) c.in-Ok-Device.field-0-is) c.in-Ok-Device.ensures.reached c.in-Ok-Device.ensures.goes_on c.in-Ok-Device.ensures.access c.in-Ok-Device.ensures.goes in
    let k = runs_device 30 _ _ _ _ _ _ x.runs c.device_store.ensures.goes c.device_store.ensures.stands c.device_store.ensures.held c.device_store.ensures.acting in
    runs_most 32 34 _ _ _ _ _ (omega arith) k

pub returns-in-Err-clause-stored : goal.returns-in-Err-clause-stored
returns-in-Err-clause-stored g c = let x = arrives _ _ _ _ _ _ _ _ _ _ _ _ c.regime_of-regime.ensures refl c.in-Err.ensures.reached c.in-Err.ensures.goes_on c.in-Err.ensures.access c.in-Err.ensures.goes in
    unreached x.reached

pub returns-in-Err-clause-goes : goal.returns-in-Err-clause-goes
returns-in-Err-clause-goes g c = let x = arrives _ _ _ _ _ _ _ _ _ _ _ _ c.regime_of-regime.ensures refl c.in-Err.ensures.reached c.in-Err.ensures.goes_on c.in-Err.ensures.access c.in-Err.ensures.goes in
    runs_most 30 34 _ _ _ _ _ (omega arith) x.runs
