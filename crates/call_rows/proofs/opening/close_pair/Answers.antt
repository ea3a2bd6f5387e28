use Rattle.std.proofs.Common.{◌∙◌, [], ◌∷◌, ap}
use Rattle.step_laws.specs.Loader.{has_split}
use Rattle.step_laws.specs.Map.{Zero, number_of}
use Rattle.step_laws.proofs.Numbered.{named_zero}
use Rattle.guest_ram.specs.Ports.{Shown}
use Rattle.guest_ram.specs.Shown.{machine_of, pass_shown, seat_shown}
use Rattle.guest_ram.proofs.MaySteps.{may_split_more}
use Rattle.guest_ram_cases.specs.Tours.{IsSplit}
use Rattle.guest_ram_cases.proofs.Leading.{may_join_again, one_joined, split_same}
use Rattle.call_rows.proofs.opening.close_pair.Goals as goal

pub join-requires-clause-may : goal.join-requires-clause-may
join-requires-clause-may c = let m = machine_of c.args.table in let s = (seat_shown c.args.second).own.actor in
    let s0 : IsSplit m (pass_shown c.pass-pass.result) (s ∷ 0 ∷ []) [] = split_same m _ (pass_shown c.pass-pass.result) (s ∷ 0 ∷ []) [] c.requires.leading.split c.pass-pass.ensures in
    may_split_more (pass_shown c.pass-pass.result) (number_of Zero) named_zero s0.actor (ap (λ (x : Shown). has_split x.own.steps) c.pass-pass.ensures ∙ c.requires.leading.began)

pub join-requires-2-clause-may : goal.join-requires-2-clause-may
join-requires-2-clause-may c = let m = machine_of c.args.table in let s = (seat_shown c.args.second).own.actor in
    let s0 : IsSplit m (pass_shown c.pass-pass.result) (s ∷ 0 ∷ []) [] = split_same m _ (pass_shown c.pass-pass.result) (s ∷ 0 ∷ []) [] c.requires.leading.split c.pass-pass.ensures in
    let s1 : IsSplit m (pass_shown c.join.new.self) (s ∷ 0 ∷ []) (0 ∷ []) = one_joined m _ (pass_shown c.join.new.self) c.join.ensures.load.0 0 (seat_shown c.args.first).own (s ∷ 0 ∷ []) [] s0 c.join.ensures.load.1 c.requires.first.actor in
    may_join_again m _ (pass_shown c.join.new.self) c.join.ensures.load.0 (seat_shown c.args.first).own (s ∷ 0 ∷ []) (0 ∷ []) s1 c.join.ensures.load.1
