use Rattle.std.proofs.Common.{◌∙◌, [], ◌∷◌, ap}
use Rattle.step_laws.specs.Loader.{has_split}
use Rattle.step_laws.specs.Map.{Zero, number_of}
use Rattle.step_laws.proofs.Numbered.{named_zero}
use Rattle.guest_ram.specs.Ports.{Shown}
use Rattle.guest_ram.specs.Shown.{machine_of, pass_shown, seat_shown}
use Rattle.guest_ram.proofs.MaySteps.{may_split_more}
use Rattle.guest_ram_cases.specs.Tours.{IsSplit}
use Rattle.guest_ram_cases.proofs.Leading.{may_join_again, one_joined, split_same}
use Rattle.call_rows.proofs.four.close_four.Goals as goal

pub join-requires-clause-may : goal.join-requires-clause-may
join-requires-clause-may c = let m = machine_of c.args.four.table in
    let s0 : IsSplit m (pass_shown c.pass-pass.result) (3 ∷ 2 ∷ 1 ∷ 0 ∷ []) [] = split_same m _ (pass_shown c.pass-pass.result) (3 ∷ 2 ∷ 1 ∷ 0 ∷ []) [] c.requires.leading.split c.pass-pass.ensures in
    may_split_more (pass_shown c.pass-pass.result) (number_of Zero) named_zero s0.actor (ap (λ (x : Shown). has_split x.own.steps) c.pass-pass.ensures ∙ c.requires.leading.began)

pub join-requires-2-clause-may : goal.join-requires-2-clause-may
join-requires-2-clause-may c = let m = machine_of c.args.four.table in
    let s0 : IsSplit m (pass_shown c.pass-pass.result) (3 ∷ 2 ∷ 1 ∷ 0 ∷ []) [] = split_same m _ (pass_shown c.pass-pass.result) (3 ∷ 2 ∷ 1 ∷ 0 ∷ []) [] c.requires.leading.split c.pass-pass.ensures in
    let s1 : IsSplit m (pass_shown c.join.new.self) (3 ∷ 2 ∷ 1 ∷ 0 ∷ []) (0 ∷ []) = one_joined m _ (pass_shown c.join.new.self) c.join.ensures.load.0 0 (seat_shown c.args.four.first).own (3 ∷ 2 ∷ 1 ∷ 0 ∷ []) [] s0 c.join.ensures.load.1 c.requires.first.actor in
    may_join_again m _ (pass_shown c.join.new.self) c.join.ensures.load.0 (seat_shown c.args.four.first).own (3 ∷ 2 ∷ 1 ∷ 0 ∷ []) (0 ∷ []) s1 c.join.ensures.load.1

pub join-requires-3-clause-may : goal.join-requires-3-clause-may
join-requires-3-clause-may c = let m = machine_of c.args.four.table in
    let s0 : IsSplit m (pass_shown c.pass-pass.result) (3 ∷ 2 ∷ 1 ∷ 0 ∷ []) [] = split_same m _ (pass_shown c.pass-pass.result) (3 ∷ 2 ∷ 1 ∷ 0 ∷ []) [] c.requires.leading.split c.pass-pass.ensures in
    let s1 : IsSplit m (pass_shown c.join.new.self) (3 ∷ 2 ∷ 1 ∷ 0 ∷ []) (0 ∷ []) = one_joined m _ (pass_shown c.join.new.self) c.join.ensures.load.0 0 (seat_shown c.args.four.first).own (3 ∷ 2 ∷ 1 ∷ 0 ∷ []) [] s0 c.join.ensures.load.1 c.requires.first.actor in
    let s2 : IsSplit m (pass_shown c.join-2.new.self) (3 ∷ 2 ∷ 1 ∷ 0 ∷ []) (0 ∷ 1 ∷ []) = one_joined m _ (pass_shown c.join-2.new.self) c.join-2.ensures.load.0 1 (seat_shown c.args.four.second).own (3 ∷ 2 ∷ 1 ∷ 0 ∷ []) (0 ∷ []) s1 c.join-2.ensures.load.1 c.requires.second.actor in
    may_join_again m _ (pass_shown c.join-2.new.self) c.join-2.ensures.load.0 (seat_shown c.args.four.second).own (3 ∷ 2 ∷ 1 ∷ 0 ∷ []) (0 ∷ 1 ∷ []) s2 c.join-2.ensures.load.1

pub join-requires-4-clause-may : goal.join-requires-4-clause-may
join-requires-4-clause-may c = let m = machine_of c.args.four.table in
    let s0 : IsSplit m (pass_shown c.pass-pass.result) (3 ∷ 2 ∷ 1 ∷ 0 ∷ []) [] = split_same m _ (pass_shown c.pass-pass.result) (3 ∷ 2 ∷ 1 ∷ 0 ∷ []) [] c.requires.leading.split c.pass-pass.ensures in
    let s1 : IsSplit m (pass_shown c.join.new.self) (3 ∷ 2 ∷ 1 ∷ 0 ∷ []) (0 ∷ []) = one_joined m _ (pass_shown c.join.new.self) c.join.ensures.load.0 0 (seat_shown c.args.four.first).own (3 ∷ 2 ∷ 1 ∷ 0 ∷ []) [] s0 c.join.ensures.load.1 c.requires.first.actor in
    let s2 : IsSplit m (pass_shown c.join-2.new.self) (3 ∷ 2 ∷ 1 ∷ 0 ∷ []) (0 ∷ 1 ∷ []) = one_joined m _ (pass_shown c.join-2.new.self) c.join-2.ensures.load.0 1 (seat_shown c.args.four.second).own (3 ∷ 2 ∷ 1 ∷ 0 ∷ []) (0 ∷ []) s1 c.join-2.ensures.load.1 c.requires.second.actor in
    let s3 : IsSplit m (pass_shown c.join-3.new.self) (3 ∷ 2 ∷ 1 ∷ 0 ∷ []) (0 ∷ 1 ∷ 2 ∷ []) = one_joined m _ (pass_shown c.join-3.new.self) c.join-3.ensures.load.0 2 (seat_shown c.args.four.third).own (3 ∷ 2 ∷ 1 ∷ 0 ∷ []) (0 ∷ 1 ∷ []) s2 c.join-3.ensures.load.1 c.requires.third.actor in
    may_join_again m _ (pass_shown c.join-3.new.self) c.join-3.ensures.load.0 (seat_shown c.args.four.third).own (3 ∷ 2 ∷ 1 ∷ 0 ∷ []) (0 ∷ 1 ∷ 2 ∷ []) s3 c.join-3.ensures.load.1
