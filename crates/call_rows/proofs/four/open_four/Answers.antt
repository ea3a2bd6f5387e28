use Rattle.std.proofs.Common.{◌∙◌, [], ◌∷◌, ap}
use Rattle.step_laws.specs.Loader.{has_split}
use Rattle.step_laws.specs.Map.{Zero, number_of}
use Rattle.step_laws.proofs.Numbered.{named_zero}
use Rattle.guest_ram.specs.Ports.{Shown}
use Rattle.guest_ram.specs.Shown.{machine_of, pass_shown}
use Rattle.guest_ram.proofs.MaySteps.{may_split_more}
use Rattle.guest_ram_cases.specs.Tours.{IsSplit}
use Rattle.guest_ram_cases.proofs.Leading.{may_split_again, one_split, split_same}
use Rattle.call_rows.proofs.four.open_four.Goals as goal

pub split-third-requires-clause-may : goal.split-third-requires-clause-may
split-third-requires-clause-may c = let m = machine_of c.in_ok-pair.pair.table in
    let s0 : IsSplit m (pass_shown c.pass-pass.result) (1 ∷ 0 ∷ []) [] = split_same m _ (pass_shown c.pass-pass.result) (1 ∷ 0 ∷ []) [] c.in_ok-pair.ensures.loader.split c.pass-pass.ensures in
    may_split_more (pass_shown c.pass-pass.result) (number_of Zero) named_zero s0.actor (ap (λ (x : Shown). has_split x.own.steps) c.pass-pass.ensures ∙ c.in_ok-pair.ensures.loader.began)

pub split-fourth-requires-clause-may : goal.split-fourth-requires-clause-may
split-fourth-requires-clause-may c = let m = machine_of c.in_ok-pair.pair.table in
    let s0 : IsSplit m (pass_shown c.pass-pass.result) (1 ∷ 0 ∷ []) [] = split_same m _ (pass_shown c.pass-pass.result) (1 ∷ 0 ∷ []) [] c.in_ok-pair.ensures.loader.split c.pass-pass.ensures in
    let s1 : IsSplit m (pass_shown c.split-third.new.self) (2 ∷ 1 ∷ 0 ∷ []) [] = one_split m _ (pass_shown c.split-third.new.self) c.split-third.ensures.load.0 2 (1 ∷ 0 ∷ []) [] s0 c.split-third.ensures.load.1 in
    may_split_again m _ (pass_shown c.split-third.new.self) c.split-third.ensures.load.0 2 (2 ∷ 1 ∷ 0 ∷ []) [] s1 c.split-third.ensures.load.1
