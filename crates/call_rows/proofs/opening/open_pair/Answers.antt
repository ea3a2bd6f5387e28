use Rattle.std.proofs.Common.{◌∙◌, ◌+◌, map, true, false, [], ◌∷◌, ap}
use Rattle.step_laws.specs.Map.{Zero, number_of}
use Rattle.step_laws.proofs.Numbered.{named_zero}
use Rattle.guest_ram.specs.Areas.{AnyWord, IsOfRam}
use Rattle.step_laws.specs.declared.steps.Record.{Record}
use Rattle.step_laws.specs.Loader.{has_split}
use Rattle.guest_ram.specs.Ports.{GoesBy, Machine, Shown}
use Rattle.guest_ram.specs.Shown.{machine_of, pass_shown}
use Rattle.guest_ram.proofs.AreaLemmas.{any_word}
use Rattle.guest_ram.proofs.MaySteps.{may_split_first}
use Rattle.guest_ram.proofs.Moves.{goes_then, goes_within, split_began}
use Rattle.guest_ram_cases.specs.Tours.{IsSplit}
use Rattle.guest_ram_cases.proofs.Leading.{booted_split, one_split, may_split_again}
use Rattle.guest_ram_cases.proofs.LoaderRuns.{IsLoaded, loaded_first, loaded_split, runs_zero, seat_is}
use Rattle.call_rows.proofs.Seats.{actor_there, others_stopped, second_new, second_stopped}
use Rattle.call_rows.proofs.opening.open_pair.Goals as goal

pub split-first-requires-clause-may : goal.split-first-requires-clause-may
split-first-requires-clause-may c = may_split_first (pass_shown c.boot_words.new.port) (number_of Zero) named_zero c.boot_words.ensures.booting.actor c.boot_words.ensures.booted

pub split-other-requires-clause-may : goal.split-other-requires-clause-may
split-other-requires-clause-may c = let m = machine_of c.in_ok-table.table in
    let goes : GoesBy (c.boot_all.ensures.goes.0 + 1745) AnyWord (pass_shown c.pass-pass.result) (pass_shown c.boot_words.new.port) = goes_then c.boot_all.ensures.goes.0 1745 AnyWord _ _ _ (goes_within c.boot_all.ensures.goes.0 IsOfRam AnyWord _ _ (any_word IsOfRam) c.boot_all.ensures.goes.1) c.boot_words.ensures.goes in
    let s0 : IsSplit m (pass_shown c.boot_words.new.port) [] [] = booted_split m (c.boot_all.ensures.goes.0 + 1745) _ _ (pass_shown c.boot_words.new.port) c.in_ok-table.ensures.seat c.pass-pass.ensures goes c.boot_words.ensures.booting in
    let s1 : IsSplit m (pass_shown c.split-first.new.self) (0 ∷ []) [] = one_split m _ (pass_shown c.split-first.new.self) c.split-first.ensures.load.0 0 [] [] s0 c.split-first.ensures.load.1 in
    may_split_again m _ (pass_shown c.split-first.new.self) c.split-first.ensures.load.0 0 (0 ∷ []) [] s1 c.split-first.ensures.load.1

pub split-other-requires-clause-actor : goal.split-other-requires-clause-actor
split-other-requires-clause-actor c = let m = machine_of c.in_ok-table.table in
    let goes : GoesBy (c.boot_all.ensures.goes.0 + 1745) AnyWord (pass_shown c.pass-pass.result) (pass_shown c.boot_words.new.port) = goes_then c.boot_all.ensures.goes.0 1745 AnyWord _ _ _ (goes_within c.boot_all.ensures.goes.0 IsOfRam AnyWord _ _ (any_word IsOfRam) c.boot_all.ensures.goes.1) c.boot_words.ensures.goes in
    let s0 : IsSplit m (pass_shown c.boot_words.new.port) [] [] = booted_split m (c.boot_all.ensures.goes.0 + 1745) _ _ (pass_shown c.boot_words.new.port) c.in_ok-table.ensures.seat c.pass-pass.ensures goes c.boot_words.ensures.booting in
    let s1 : IsSplit m (pass_shown c.split-first.new.self) (0 ∷ []) [] = one_split m _ (pass_shown c.split-first.new.self) c.split-first.ensures.load.0 0 [] [] s0 c.split-first.ensures.load.1 in
    actor_there m c.args.layout (pass_shown c.split-first.new.self) c.args.second (0 ∷ []) [] s1 c.in_ok-table.ensures.machine c.requires.actor

pub split-other-requires-clause-new : goal.split-other-requires-clause-new
split-other-requires-clause-new c = let m = machine_of c.in_ok-table.table in
    let goes : GoesBy (c.boot_all.ensures.goes.0 + 1745) AnyWord (pass_shown c.pass-pass.result) (pass_shown c.boot_words.new.port) = goes_then c.boot_all.ensures.goes.0 1745 AnyWord _ _ _ (goes_within c.boot_all.ensures.goes.0 IsOfRam AnyWord _ _ (any_word IsOfRam) c.boot_all.ensures.goes.1) c.boot_words.ensures.goes in
    let s0 : IsSplit m (pass_shown c.boot_words.new.port) [] [] = booted_split m (c.boot_all.ensures.goes.0 + 1745) _ _ (pass_shown c.boot_words.new.port) c.in_ok-table.ensures.seat c.pass-pass.ensures goes c.boot_words.ensures.booting in
    let s1 : IsSplit m (pass_shown c.split-first.new.self) (0 ∷ []) [] = one_split m _ (pass_shown c.split-first.new.self) c.split-first.ensures.load.0 0 [] [] s0 c.split-first.ensures.load.1 in
    second_new m (pass_shown c.split-first.new.self) c.args.second c.requires.other s1

pub returns-clause-first : goal.returns-clause-first
returns-clause-first c = let m = machine_of c.in_ok-table.table in
    let goes : GoesBy (c.boot_all.ensures.goes.0 + 1745) AnyWord (pass_shown c.pass-pass.result) (pass_shown c.boot_words.new.port) = goes_then c.boot_all.ensures.goes.0 1745 AnyWord _ _ _ (goes_within c.boot_all.ensures.goes.0 IsOfRam AnyWord _ _ (any_word IsOfRam) c.boot_all.ensures.goes.1) c.boot_words.ensures.goes in
    let s0 : IsSplit m (pass_shown c.boot_words.new.port) [] [] = booted_split m (c.boot_all.ensures.goes.0 + 1745) _ _ (pass_shown c.boot_words.new.port) c.in_ok-table.ensures.seat c.pass-pass.ensures goes c.boot_words.ensures.booting in
    let l0 : IsLoaded (pass_shown c.boot_words.new.port) = loaded_first m (c.boot_all.ensures.goes.0 + 1745) _ (pass_shown c.boot_words.new.port) (c.pass-pass.ensures ∙ c.in_ok-table.ensures.seat) goes c.boot_words.ensures.booting c.boot_words.ensures.booted in
    let may0 = may_split_first (pass_shown c.boot_words.new.port) (number_of Zero) named_zero c.boot_words.ensures.booting.actor c.boot_words.ensures.booted in
    let s1 : IsSplit m (pass_shown c.split-first.new.self) (0 ∷ []) [] = one_split m _ (pass_shown c.split-first.new.self) c.split-first.ensures.load.0 0 [] [] s0 c.split-first.ensures.load.1 in
    let l1 : IsLoaded (pass_shown c.split-first.new.self) = loaded_split _ (pass_shown c.split-first.new.self) c.split-first.ensures.load.0 0 l0 may0 c.split-first.ensures.load.1 in
    c.split-first.ensures.seat ∙ seat_is m (pass_shown c.split-first.new.self) 0 true s1.machine (runs_zero (pass_shown c.split-first.new.self) l1)

pub returns-clause-second : goal.returns-clause-second
returns-clause-second c = let m = machine_of c.in_ok-table.table in
    let goes : GoesBy (c.boot_all.ensures.goes.0 + 1745) AnyWord (pass_shown c.pass-pass.result) (pass_shown c.boot_words.new.port) = goes_then c.boot_all.ensures.goes.0 1745 AnyWord _ _ _ (goes_within c.boot_all.ensures.goes.0 IsOfRam AnyWord _ _ (any_word IsOfRam) c.boot_all.ensures.goes.1) c.boot_words.ensures.goes in
    let s0 : IsSplit m (pass_shown c.boot_words.new.port) [] [] = booted_split m (c.boot_all.ensures.goes.0 + 1745) _ _ (pass_shown c.boot_words.new.port) c.in_ok-table.ensures.seat c.pass-pass.ensures goes c.boot_words.ensures.booting in
    let l0 : IsLoaded (pass_shown c.boot_words.new.port) = loaded_first m (c.boot_all.ensures.goes.0 + 1745) _ (pass_shown c.boot_words.new.port) (c.pass-pass.ensures ∙ c.in_ok-table.ensures.seat) goes c.boot_words.ensures.booting c.boot_words.ensures.booted in
    let may0 = may_split_first (pass_shown c.boot_words.new.port) (number_of Zero) named_zero c.boot_words.ensures.booting.actor c.boot_words.ensures.booted in
    let s1 : IsSplit m (pass_shown c.split-first.new.self) (0 ∷ []) [] = one_split m _ (pass_shown c.split-first.new.self) c.split-first.ensures.load.0 0 [] [] s0 c.split-first.ensures.load.1 in
    let l1 : IsLoaded (pass_shown c.split-first.new.self) = loaded_split _ (pass_shown c.split-first.new.self) c.split-first.ensures.load.0 0 l0 may0 c.split-first.ensures.load.1 in
    let may1 = may_split_again m _ (pass_shown c.split-first.new.self) c.split-first.ensures.load.0 0 (0 ∷ []) [] s1 c.split-first.ensures.load.1 in
    let s2 : IsSplit m (pass_shown c.split-other.new.self) (c.args.second ∷ 0 ∷ []) [] = one_split m _ (pass_shown c.split-other.new.self) c.split-other.ensures.load.0 c.args.second (0 ∷ []) [] s1 c.split-other.ensures.load.1 in
    let l2 : IsLoaded (pass_shown c.split-other.new.self) = loaded_split _ (pass_shown c.split-other.new.self) c.split-other.ensures.load.0 c.args.second l1 may1 c.split-other.ensures.load.1 in
    c.split-other.ensures.seat ∙ seat_is m (pass_shown c.split-other.new.self) c.args.second false s2.machine
    (second_stopped (pass_shown c.split-other.new.self) c.args.second c.requires.other (actor_there m c.args.layout (pass_shown c.split-other.new.self) c.args.second (c.args.second ∷ 0 ∷ []) [] s2 c.in_ok-table.ensures.machine c.requires.actor) l2)

pub returns-clause-others : goal.returns-clause-others
returns-clause-others c = let m = machine_of c.in_ok-table.table in
    let goes : GoesBy (c.boot_all.ensures.goes.0 + 1745) AnyWord (pass_shown c.pass-pass.result) (pass_shown c.boot_words.new.port) = goes_then c.boot_all.ensures.goes.0 1745 AnyWord _ _ _ (goes_within c.boot_all.ensures.goes.0 IsOfRam AnyWord _ _ (any_word IsOfRam) c.boot_all.ensures.goes.1) c.boot_words.ensures.goes in
    let s0 : IsSplit m (pass_shown c.boot_words.new.port) [] [] = booted_split m (c.boot_all.ensures.goes.0 + 1745) _ _ (pass_shown c.boot_words.new.port) c.in_ok-table.ensures.seat c.pass-pass.ensures goes c.boot_words.ensures.booting in
    let l0 : IsLoaded (pass_shown c.boot_words.new.port) = loaded_first m (c.boot_all.ensures.goes.0 + 1745) _ (pass_shown c.boot_words.new.port) (c.pass-pass.ensures ∙ c.in_ok-table.ensures.seat) goes c.boot_words.ensures.booting c.boot_words.ensures.booted in
    let may0 = may_split_first (pass_shown c.boot_words.new.port) (number_of Zero) named_zero c.boot_words.ensures.booting.actor c.boot_words.ensures.booted in
    let s1 : IsSplit m (pass_shown c.split-first.new.self) (0 ∷ []) [] = one_split m _ (pass_shown c.split-first.new.self) c.split-first.ensures.load.0 0 [] [] s0 c.split-first.ensures.load.1 in
    let l1 : IsLoaded (pass_shown c.split-first.new.self) = loaded_split _ (pass_shown c.split-first.new.self) c.split-first.ensures.load.0 0 l0 may0 c.split-first.ensures.load.1 in
    let may1 = may_split_again m _ (pass_shown c.split-first.new.self) c.split-first.ensures.load.0 0 (0 ∷ []) [] s1 c.split-first.ensures.load.1 in
    let s2 : IsSplit m (pass_shown c.split-other.new.self) (c.args.second ∷ 0 ∷ []) [] = one_split m _ (pass_shown c.split-other.new.self) c.split-other.ensures.load.0 c.args.second (0 ∷ []) [] s1 c.split-other.ensures.load.1 in
    let l2 : IsLoaded (pass_shown c.split-other.new.self) = loaded_split _ (pass_shown c.split-other.new.self) c.split-other.ensures.load.0 c.args.second l1 may1 c.split-other.ensures.load.1 in
    others_stopped c.args.layout (pass_shown c.split-other.new.self) _ (ap (λ (x : Machine). x.layout) s2.machine ∙ c.in_ok-table.ensures.machine) c.rest-loader.ensures l2

pub returns-clause-loader : goal.returns-clause-loader
returns-clause-loader c = let m = machine_of c.in_ok-table.table in
    let goes : GoesBy (c.boot_all.ensures.goes.0 + 1745) AnyWord (pass_shown c.pass-pass.result) (pass_shown c.boot_words.new.port) = goes_then c.boot_all.ensures.goes.0 1745 AnyWord _ _ _ (goes_within c.boot_all.ensures.goes.0 IsOfRam AnyWord _ _ (any_word IsOfRam) c.boot_all.ensures.goes.1) c.boot_words.ensures.goes in
    let s0 : IsSplit m (pass_shown c.boot_words.new.port) [] [] = booted_split m (c.boot_all.ensures.goes.0 + 1745) _ _ (pass_shown c.boot_words.new.port) c.in_ok-table.ensures.seat c.pass-pass.ensures goes c.boot_words.ensures.booting in
    let s1 : IsSplit m (pass_shown c.split-first.new.self) (0 ∷ []) [] = one_split m _ (pass_shown c.split-first.new.self) c.split-first.ensures.load.0 0 [] [] s0 c.split-first.ensures.load.1 in
    let s2 : IsSplit m (pass_shown c.split-other.new.self) (c.args.second ∷ 0 ∷ []) [] = one_split m _ (pass_shown c.split-other.new.self) c.split-other.ensures.load.0 c.args.second (0 ∷ []) [] s1 c.split-other.ensures.load.1 in
    record {
      split = record { machine = ap (λ (x : Shown). x.machine) c.rest-loader.ensures ∙ s2.machine; actor = ap (λ (x : Shown). x.own.actor) c.rest-loader.ensures ∙ s2.actor; splits = ap (λ (x : Shown). x.splits) c.rest-loader.ensures ∙ s2.splits; joined = ap (λ (x : Shown). map (λ (r : Record). r.actor) x.joined) c.rest-loader.ensures ∙ s2.joined };
      began = ap (λ (x : Shown). has_split x.own.steps) c.rest-loader.ensures ∙ split_began _ (pass_shown c.split-other.new.self) c.split-other.ensures.load.0 c.args.second c.split-other.ensures.load.1;
    }
