use Rattle.std.proofs.Common.{◌≡◌, ◌≢◌, ℕ, ◌+◌, ◌-◌, ◌<◌, ◌≤◌, inl, inr, ⊎_elim, arith}
use Rattle.std.specs.Prelude.{◌⊎◌}
use Rattle.std.proofs.lemmas.Bool.{cases_eq}
use Rattle.guest_ram.specs.Areas.{IsOfTable}
use Rattle.guest_ram.proofs.Moves.{goes_step, goes_then, goes_at_most}
use Rattle.step_laws.specs.Fields.{IsSize}
use Rattle.guest_ram_cases.proofs.Swept.{may_sweep_size, may_sweep_slot, may_sweep_unlock, size_found, sweeps_first, sweeps_more, sweeps_as}
use Rattle.guest_ram_cases.proofs.sweeping.sweep.Goals as goal

pub load-size-requires-clause-may : goal.load-size-requires-clause-may
load-size-requires-clause-may g c = may_sweep_size (g.P.Look.shows c.args.port.now) (g.P.Look.shows c.compare_exchange-found.new.self) c.lock_word-word.result _ c.compare_exchange-found.result c.args.hart
    c.requires.stage c.compare_exchange-found.ensures.step c.lock_word-word.ensures.name (omega arith) c.size_word.result c.size_word.ensures.name

pub loop-slot-init : goal.loop-slot-init
loop-slot-init g c = record {
  sweeping = sweeps_first (g.P.Look.shows c.args.port.now) (g.P.Look.shows c.compare_exchange-found.new.self) c.lock_word-word.result _ c.compare_exchange-found.result c.args.hart
      c.requires.stage c.compare_exchange-found.ensures.step c.lock_word-word.ensures.name (omega arith) (g.P.Look.shows c.load-size.new.self) c.size_word.result c.load-size.result c.requires.hart c.load-size.ensures.step c.size_word.ensures.name;
  goes = goes_then 1 1 IsOfTable _ _ _ (goes_step IsOfTable _ _ _ _ _ _ _ c.compare_exchange-found.ensures.step c.compare_exchange-found.ensures.allowed c.lock_word-word.ensures.name tt)
      (goes_step IsOfTable _ _ _ _ _ _ _ c.load-size.ensures.step c.load-size.ensures.allowed c.size_word.ensures.name tt);
}

pub fetch_or-requires-clause-may : goal.fetch_or-requires-clause-may
fetch_or-requires-clause-may g c = may_sweep_slot _ _ c.args.hart c.loop-slot.slot _ _ c.loop-slot.invariant.sweeping c.tlb_word.ensures.name

pub loop-slot-preserved : goal.loop-slot-preserved
loop-slot-preserved g c = let j = c.loop-slot.slot in record {
  sweeping = sweeps_more _ _ _ c.args.hart j _ _ (λ (i : ℕ). i < j) (λ (i : ℕ). i < j + 1) c.loop-slot.invariant.sweeping c.fetch_or.ensures.step c.tlb_word.ensures.name
      (λ i x. ⊎_elim (λ (is : i ≡ j). inl is) (λ (ne : i ≢ j). inr (let y : i < j = omega arith in y)) (cases_eq i j));
  goes = goes_at_most (2 + j + 1) _ IsOfTable _ _ (omega arith) (goes_then (2 + j) 1 IsOfTable _ _ _ c.loop-slot.invariant.goes (goes_step IsOfTable _ _ _ _ _ _ _ c.fetch_or.ensures.step c.fetch_or.ensures.allowed c.tlb_word.ensures.name tt));
}

pub loop-victim-init : goal.loop-victim-init
loop-victim-init g c = let s = c.loop-slot.slot in record {
  from = omega arith;
  sweeping = sweeps_as _ c.args.hart _ (λ (i : ℕ). i < s) (λ (i : ℕ). (i < c.load-size.result) ⊎ ((1024 ≤ i) × (i < 1024))) c.loop-slot.invariant.sweeping
      (λ i. ⊎_elim (λ (x : i < c.load-size.result). let y : i < s = omega arith in y) (λ (x : (1024 ≤ i) × (i < 1024)). absurd (omega (arith, x.0, x.1))));
  goes = goes_at_most (2 + s) _ IsOfTable _ _ (omega arith) c.loop-slot.invariant.goes;
}

pub fetch_or-requires-in-loop-victim-clause-may : goal.fetch_or-requires-in-loop-victim-clause-may
fetch_or-requires-in-loop-victim-clause-may g c = may_sweep_slot _ _ c.args.hart c.loop-victim.victim _ _ c.loop-victim.invariant.sweeping c.tlb_word-in-loop-victim.ensures.name

pub loop-victim-preserved : goal.loop-victim-preserved
loop-victim-preserved g c = let j = c.loop-victim.victim in let n = c.load-size.result in let from : 1024 ≤ j = c.loop-victim.invariant.from in record {
  from = omega arith;
  sweeping = sweeps_more _ _ _ c.args.hart j _ _ (λ (i : ℕ). (i < n) ⊎ ((1024 ≤ i) × (i < j))) (λ (i : ℕ). (i < n) ⊎ ((1024 ≤ i) × (i < j + 1))) c.loop-victim.invariant.sweeping c.fetch_or-in-loop-victim.ensures.step c.tlb_word-in-loop-victim.ensures.name
      (λ i. ⊎_elim (λ (x : i < n). inr (inl x)) (λ (x : (1024 ≤ i) × (i < j + 1)). ⊎_elim (λ (is : i ≡ j). inl is) (λ (ne : i ≢ j). inr (inr (x.0, let y : i < j = omega (arith, x.1) in y))) (cases_eq i j)));
  goes = goes_at_most (2 + n + (j - 1024) + 1) _ IsOfTable _ _ (omega arith) (goes_then (2 + n + (j - 1024)) 1 IsOfTable _ _ _ c.loop-victim.invariant.goes
      (goes_step IsOfTable _ _ _ _ _ _ _ c.fetch_or-in-loop-victim.ensures.step c.fetch_or-in-loop-victim.ensures.allowed c.tlb_word-in-loop-victim.ensures.name tt));
}

pub store-requires-clause-may : goal.store-requires-clause-may
store-requires-clause-may g c = may_sweep_unlock _ c.lock_word-word.result c.args.hart _ c.loop-victim.victim c.loop-victim.invariant.sweeping (omega arith) c.lock_word-word.ensures.name

pub returns-clause-goes : goal.returns-clause-goes
returns-clause-goes g c = let few : c.load-size.result ≤ 1024 = at_most (size_found (g.P.Look.shows c.args.port.now) (g.P.Look.shows c.compare_exchange-found.new.self) c.lock_word-word.result _ c.compare_exchange-found.result c.args.hart
    c.requires.stage c.compare_exchange-found.ensures.step c.lock_word-word.ensures.name (omega arith) c.size_word.result c.load-size.result c.requires.hart c.load-size.ensures.known c.size_word.ensures.name) in
    goes_at_most (2 + c.load-size.result + (c.loop-victim.victim - 1024) + 1) 1035 IsOfTable _ _ (omega (arith, c.loop-victim.invariant.from, few))
    (goes_then (2 + c.load-size.result + (c.loop-victim.victim - 1024)) 1 IsOfTable _ _ _ c.loop-victim.invariant.goes (goes_step IsOfTable _ _ _ _ _ _ _ c.store.ensures.step c.store.ensures.allowed c.lock_word-word.ensures.name tt))
  where
    at_most : IsSize c.load-size.result → c.load-size.result ≤ 1024
    at_most s = grind (arith, s)

pub returns-then-found-ne0-clause-goes : goal.returns-then-found-ne0-clause-goes
returns-then-found-ne0-clause-goes g c = goes_at_most 1 1035 IsOfTable _ _ (omega arith) (goes_step IsOfTable _ _ _ _ _ _ _ c.compare_exchange-found.ensures.step c.compare_exchange-found.ensures.allowed c.lock_word-word.ensures.name tt)
