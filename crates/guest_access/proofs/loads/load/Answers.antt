use Rattle.std.proofs.Common.{Ok, refl, ap, subst, arith}
use Rattle.guest_access.specs.declared.reaching.Place.{Place}
use Rattle.guest_access.specs.Reaching.{AreIn}
use Rattle.guest_access.specs.Loading.{in_word, over_words, unreached}
use Rattle.guest_access.proofs.Keeping.{can_load, load_stepped}
use Rattle.guest_access.proofs.Loaded.{gives, register_none, register_some}
use Rattle.guest_access.proofs.Running.{arrives, runs_most, runs_step, runs_still}
use Rattle.guest_access.proofs.loads.load.Goals as goal

pub load_at-high-requires : goal.load_at-high-requires
load_at-high-requires g c = load_stepped _ _ _ _ _ _ _ c.load_at-low.ensures (can_load _ _ _ c.in-Ok-Words.ensures.access (subst (λ (f : Place). AreIn c.args.width (Ok f) (g.P.Look.shows c.reach.new.port)) c.in-Ok-Words.field-0-is c.in-Ok-Words.ensures.there).1)

pub returns-in-Ok-Word-clause-loaded : goal.returns-in-Ok-Word-clause-loaded
returns-in-Ok-Word-clause-loaded g c = let x = arrives _ _ _ _ _ _ _ _ _ _ _ _ c.regime_of-regime.ensures (ap (λ f. Ok f) c.in-Ok-Word.field-0-is) c.in-Ok-Word.ensures.reached c.in-Ok-Word.ensures.goes_on c.in-Ok-Word.ensures.access c.in-Ok-Word.ensures.goes in
    in_word x.reached c.load_at-word.ensures (gives _ _ _ _ _ c.extended.ensures c.number_in.ensures.number)

pub returns-in-Ok-Word-clause-goes_on : goal.returns-in-Ok-Word-clause-goes_on
returns-in-Ok-Word-clause-goes_on g c = let x = arrives _ _ _ _ _ _ _ _ _ _ _ _ c.regime_of-regime.ensures (ap (λ f. Ok f) c.in-Ok-Word.field-0-is) c.in-Ok-Word.ensures.reached c.in-Ok-Word.ensures.goes_on c.in-Ok-Word.ensures.access c.in-Ok-Word.ensures.goes in
    let k = runs_step 30 _ _ _ _ _ _ _ _ _ _ x.runs c.load_at-word.ensures in
    k.goes_on

pub returns-in-Ok-Word-clause-access : goal.returns-in-Ok-Word-clause-access
returns-in-Ok-Word-clause-access g c = let x = arrives _ _ _ _ _ _ _ _ _ _ _ _ c.regime_of-regime.ensures (ap (λ f. Ok f) c.in-Ok-Word.field-0-is) c.in-Ok-Word.ensures.reached c.in-Ok-Word.ensures.goes_on c.in-Ok-Word.ensures.access c.in-Ok-Word.ensures.goes in
    let k = runs_step 30 _ _ _ _ _ _ _ _ _ _ x.runs c.load_at-word.ensures in
    k.access

pub returns-in-Ok-Word-clause-goes : goal.returns-in-Ok-Word-clause-goes
returns-in-Ok-Word-clause-goes g c = let x = arrives _ _ _ _ _ _ _ _ _ _ _ _ c.regime_of-regime.ensures (ap (λ f. Ok f) c.in-Ok-Word.field-0-is) c.in-Ok-Word.ensures.reached c.in-Ok-Word.ensures.goes_on c.in-Ok-Word.ensures.access c.in-Ok-Word.ensures.goes in
    let k = runs_step 30 _ _ _ _ _ _ _ _ _ _ x.runs c.load_at-word.ensures in
    runs_most 31 34 _ _ _ _ _ (omega arith) k

pub returns-in-Ok-Words-clause-loaded : goal.returns-in-Ok-Words-clause-loaded
returns-in-Ok-Words-clause-loaded g c = let x = arrives _ _ _ _ _ _ _ _ _ _ _ _ c.regime_of-regime.ensures (ap (λ f. Ok f) c.in-Ok-Words.field-0-is) c.in-Ok-Words.ensures.reached c.in-Ok-Words.ensures.goes_on c.in-Ok-Words.ensures.access c.in-Ok-Words.ensures.goes in
    over_words x.reached c.load_at-low.ensures c.load_at-high.ensures (gives _ _ _ _ _ c.extended-in-Ok-Words.ensures c.number_over.ensures.number)

pub returns-in-Ok-Words-clause-goes_on : goal.returns-in-Ok-Words-clause-goes_on
returns-in-Ok-Words-clause-goes_on g c = let x = arrives _ _ _ _ _ _ _ _ _ _ _ _ c.regime_of-regime.ensures (ap (λ f. Ok f) c.in-Ok-Words.field-0-is) c.in-Ok-Words.ensures.reached c.in-Ok-Words.ensures.goes_on c.in-Ok-Words.ensures.access c.in-Ok-Words.ensures.goes in
    let j = runs_step 30 _ _ _ _ _ _ _ _ _ _ x.runs c.load_at-low.ensures in
    let k = runs_step 31 _ _ _ _ _ _ _ _ _ _ j c.load_at-high.ensures in
    k.goes_on

pub returns-in-Ok-Words-clause-access : goal.returns-in-Ok-Words-clause-access
returns-in-Ok-Words-clause-access g c = let x = arrives _ _ _ _ _ _ _ _ _ _ _ _ c.regime_of-regime.ensures (ap (λ f. Ok f) c.in-Ok-Words.field-0-is) c.in-Ok-Words.ensures.reached c.in-Ok-Words.ensures.goes_on c.in-Ok-Words.ensures.access c.in-Ok-Words.ensures.goes in
    let j = runs_step 30 _ _ _ _ _ _ _ _ _ _ x.runs c.load_at-low.ensures in
    let k = runs_step 31 _ _ _ _ _ _ _ _ _ _ j c.load_at-high.ensures in
    k.access

pub returns-in-Ok-Words-clause-goes : goal.returns-in-Ok-Words-clause-goes
returns-in-Ok-Words-clause-goes g c = let x = arrives _ _ _ _ _ _ _ _ _ _ _ _ c.regime_of-regime.ensures (ap (λ f. Ok f) c.in-Ok-Words.field-0-is) c.in-Ok-Words.ensures.reached c.in-Ok-Words.ensures.goes_on c.in-Ok-Words.ensures.access c.in-Ok-Words.ensures.goes in
    let j = runs_step 30 _ _ _ _ _ _ _ _ _ _ x.runs c.load_at-low.ensures in
    let k = runs_step 31 _ _ _ _ _ _ _ _ _ _ j c.load_at-high.ensures in
    runs_most 32 34 _ _ _ _ _ (omega arith) k

pub returns-in-Some-clause-loaded : goal.returns-in-Some-clause-loaded
returns-in-Some-clause-loaded g c = let x = arrives _ _ _ _ _ _ _ _ _ _ _ _ c.regime_of-regime.ensures (ap (λ f. Ok f) c.in-Ok-Device.field-0-is) c.in-Ok-Device.ensures.reached c.in-Ok-Device.ensures.goes_on c.in-Ok-Device.ensures.access c.in-Ok-Device.ensures.goes in
    register_some _ _ _ _ _ _ _ _ _ _ _ _ _ _ x.reached c.device_load.ensures.still c.device_load.ensures.value c.in-Some.is c.extended-in-Some.ensures

pub returns-in-Some-clause-goes : goal.returns-in-Some-clause-goes
returns-in-Some-clause-goes g c = let x = arrives _ _ _ _ _ _ _ _ _ _ _ _ c.regime_of-regime.ensures (ap (λ f. Ok f) c.in-Ok-Device.field-0-is) c.in-Ok-Device.ensures.reached c.in-Ok-Device.ensures.goes_on c.in-Ok-Device.ensures.access c.in-Ok-Device.ensures.goes in
    runs_most 30 34 _ _ _ _ _ (omega arith) (runs_still 30 _ _ _ _ _ _ x.runs c.device_load.ensures.still)

pub returns-in-None-clause-loaded : goal.returns-in-None-clause-loaded
returns-in-None-clause-loaded g c = let x = arrives _ _ _ _ _ _ _ _ _ _ _ _ c.regime_of-regime.ensures (ap (λ f. Ok f) c.in-Ok-Device.field-0-is) c.in-Ok-Device.ensures.reached c.in-Ok-Device.ensures.goes_on c.in-Ok-Device.ensures.access c.in-Ok-Device.ensures.goes in
    register_none _ _ _ _ _ _ _ _ _ _ _ _ _ x.reached c.device_load.ensures.still c.device_load.ensures.value c.in-None.is c.access_fault.ensures

pub returns-in-None-clause-goes : goal.returns-in-None-clause-goes
returns-in-None-clause-goes g c = let x = arrives _ _ _ _ _ _ _ _ _ _ _ _ c.regime_of-regime.ensures (ap (λ f. Ok f) c.in-Ok-Device.field-0-is) c.in-Ok-Device.ensures.reached c.in-Ok-Device.ensures.goes_on c.in-Ok-Device.ensures.access c.in-Ok-Device.ensures.goes in
    runs_most 30 34 _ _ _ _ _ (omega arith) (runs_still 30 _ _ _ _ _ _ x.runs c.device_load.ensures.still)

pub returns-in-Err-clause-loaded : goal.returns-in-Err-clause-loaded
returns-in-Err-clause-loaded g c = let x = arrives _ _ _ _ _ _ _ _ _ _ _ _ c.regime_of-regime.ensures refl c.in-Err.ensures.reached c.in-Err.ensures.goes_on c.in-Err.ensures.access c.in-Err.ensures.goes in
    unreached x.reached

pub returns-in-Err-clause-goes : goal.returns-in-Err-clause-goes
returns-in-Err-clause-goes g c = let x = arrives _ _ _ _ _ _ _ _ _ _ _ _ c.regime_of-regime.ensures refl c.in-Err.ensures.reached c.in-Err.ensures.goes_on c.in-Err.ensures.access c.in-Err.ensures.goes in
    runs_most 30 34 _ _ _ _ _ (omega arith) x.runs
