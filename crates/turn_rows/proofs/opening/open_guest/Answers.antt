use Rattle.std.proofs.Common.{◌∙◌, ◌+◌, ◌*◌, length, map, true, false, [], ◌∷◌, ap, arith}
use Rattle.step_laws.specs.Map.{Zero, number_of, monitor}
use Rattle.step_laws.proofs.Numbered.{named_zero}
use Rattle.guest_ram.specs.Areas.{AnyWord}
use Rattle.guest_boot.specs.Stored.{IsOfLoader}
use Rattle.step_laws.specs.declared.words.Layout.{Layout}
use Rattle.step_laws.specs.declared.steps.Record.{Record}
use Rattle.step_laws.specs.Loader.{has_split}
use Rattle.guest_ram.specs.Ports.{GoesBy, Machine, Shown, layout_of}
use Rattle.guest_ram.specs.Shown.{machine_of, pass_shown}
use Rattle.guest_ram.proofs.AreaLemmas.{any_word}
use Rattle.guest_ram.proofs.MaySteps.{may_split_first}
use Rattle.guest_ram.proofs.Moves.{goes_within, split_began}
use Rattle.guest_ram_cases.specs.Tours.{IsSplit}
use Rattle.guest_ram_cases.proofs.Leading.{booted_split, one_split, may_split_again}
use Rattle.guest_ram_cases.proofs.LoaderRuns.{IsLoaded, loaded_first, loaded_split, runs_zero, runs_other, runs_monitor, seat_is}
use Rattle.turn_rows.proofs.opening.open_guest.Goals as goal

pub split-first-requires-clause-may : goal.split-first-requires-clause-may
split-first-requires-clause-may c = let may0 = may_split_first (pass_shown c.boot.new.port) (number_of Zero) named_zero c.boot.ensures.booting.actor c.boot.ensures.booted in
    may0

pub split-second-requires-clause-may : goal.split-second-requires-clause-may
split-second-requires-clause-may c = let m = machine_of c.in_ok-table.table in
    let goes : GoesBy (1745 + 512 * (layout_of (pass_shown c.pass-pass.result)).pages * length c.args.image.now.parts) AnyWord (pass_shown c.pass-pass.result) (pass_shown c.boot.new.port) = goes_within (1745 + 512 * (layout_of (pass_shown c.pass-pass.result)).pages * length c.args.image.now.parts) IsOfLoader AnyWord _ _ (any_word IsOfLoader) c.boot.ensures.goes in
    let s0 : IsSplit m (pass_shown c.boot.new.port) [] [] = booted_split m (1745 + 512 * (layout_of (pass_shown c.pass-pass.result)).pages * length c.args.image.now.parts) _ _ (pass_shown c.boot.new.port) c.in_ok-table.ensures.seat c.pass-pass.ensures goes c.boot.ensures.booting in
    let s1 : IsSplit m (pass_shown c.split-first.new.self) (0 ∷ []) [] = one_split m _ (pass_shown c.split-first.new.self) c.split-first.ensures.load.0 0 [] [] s0 c.split-first.ensures.load.1 in
    let may1 = may_split_again m _ (pass_shown c.split-first.new.self) c.split-first.ensures.load.0 0 (0 ∷ []) [] s1 c.split-first.ensures.load.1 in
    may1

pub split-monitor-requires-clause-may : goal.split-monitor-requires-clause-may
split-monitor-requires-clause-may c = let m = machine_of c.in_ok-table.table in
    let goes : GoesBy (1745 + 512 * (layout_of (pass_shown c.pass-pass.result)).pages * length c.args.image.now.parts) AnyWord (pass_shown c.pass-pass.result) (pass_shown c.boot.new.port) = goes_within (1745 + 512 * (layout_of (pass_shown c.pass-pass.result)).pages * length c.args.image.now.parts) IsOfLoader AnyWord _ _ (any_word IsOfLoader) c.boot.ensures.goes in
    let s0 : IsSplit m (pass_shown c.boot.new.port) [] [] = booted_split m (1745 + 512 * (layout_of (pass_shown c.pass-pass.result)).pages * length c.args.image.now.parts) _ _ (pass_shown c.boot.new.port) c.in_ok-table.ensures.seat c.pass-pass.ensures goes c.boot.ensures.booting in
    let s1 : IsSplit m (pass_shown c.split-first.new.self) (0 ∷ []) [] = one_split m _ (pass_shown c.split-first.new.self) c.split-first.ensures.load.0 0 [] [] s0 c.split-first.ensures.load.1 in
    let s2 : IsSplit m (pass_shown c.split-second.new.self) (1 ∷ 0 ∷ []) [] = one_split m _ (pass_shown c.split-second.new.self) c.split-second.ensures.load.0 1 (0 ∷ []) [] s1 c.split-second.ensures.load.1 in
    let may2 = may_split_again m _ (pass_shown c.split-second.new.self) c.split-second.ensures.load.0 1 (1 ∷ 0 ∷ []) [] s2 c.split-second.ensures.load.1 in
    may2

pub returns-clause-first : goal.returns-clause-first
returns-clause-first c = let m = machine_of c.in_ok-table.table in
    let goes : GoesBy (1745 + 512 * (layout_of (pass_shown c.pass-pass.result)).pages * length c.args.image.now.parts) AnyWord (pass_shown c.pass-pass.result) (pass_shown c.boot.new.port) = goes_within (1745 + 512 * (layout_of (pass_shown c.pass-pass.result)).pages * length c.args.image.now.parts) IsOfLoader AnyWord _ _ (any_word IsOfLoader) c.boot.ensures.goes in
    let s0 : IsSplit m (pass_shown c.boot.new.port) [] [] = booted_split m (1745 + 512 * (layout_of (pass_shown c.pass-pass.result)).pages * length c.args.image.now.parts) _ _ (pass_shown c.boot.new.port) c.in_ok-table.ensures.seat c.pass-pass.ensures goes c.boot.ensures.booting in
    let l0 : IsLoaded (pass_shown c.boot.new.port) = loaded_first m (1745 + 512 * (layout_of (pass_shown c.pass-pass.result)).pages * length c.args.image.now.parts) _ (pass_shown c.boot.new.port) (c.pass-pass.ensures ∙ c.in_ok-table.ensures.seat) goes c.boot.ensures.booting c.boot.ensures.booted in
    let may0 = may_split_first (pass_shown c.boot.new.port) (number_of Zero) named_zero c.boot.ensures.booting.actor c.boot.ensures.booted in
    let s1 : IsSplit m (pass_shown c.split-first.new.self) (0 ∷ []) [] = one_split m _ (pass_shown c.split-first.new.self) c.split-first.ensures.load.0 0 [] [] s0 c.split-first.ensures.load.1 in
    let l1 : IsLoaded (pass_shown c.split-first.new.self) = loaded_split _ (pass_shown c.split-first.new.self) c.split-first.ensures.load.0 0 l0 may0 c.split-first.ensures.load.1 in
    c.split-first.ensures.seat ∙ seat_is m (pass_shown c.split-first.new.self) 0 true s1.machine (runs_zero (pass_shown c.split-first.new.self) l1)

pub returns-clause-second : goal.returns-clause-second
returns-clause-second c = let m = machine_of c.in_ok-table.table in
    let goes : GoesBy (1745 + 512 * (layout_of (pass_shown c.pass-pass.result)).pages * length c.args.image.now.parts) AnyWord (pass_shown c.pass-pass.result) (pass_shown c.boot.new.port) = goes_within (1745 + 512 * (layout_of (pass_shown c.pass-pass.result)).pages * length c.args.image.now.parts) IsOfLoader AnyWord _ _ (any_word IsOfLoader) c.boot.ensures.goes in
    let s0 : IsSplit m (pass_shown c.boot.new.port) [] [] = booted_split m (1745 + 512 * (layout_of (pass_shown c.pass-pass.result)).pages * length c.args.image.now.parts) _ _ (pass_shown c.boot.new.port) c.in_ok-table.ensures.seat c.pass-pass.ensures goes c.boot.ensures.booting in
    let l0 : IsLoaded (pass_shown c.boot.new.port) = loaded_first m (1745 + 512 * (layout_of (pass_shown c.pass-pass.result)).pages * length c.args.image.now.parts) _ (pass_shown c.boot.new.port) (c.pass-pass.ensures ∙ c.in_ok-table.ensures.seat) goes c.boot.ensures.booting c.boot.ensures.booted in
    let may0 = may_split_first (pass_shown c.boot.new.port) (number_of Zero) named_zero c.boot.ensures.booting.actor c.boot.ensures.booted in
    let s1 : IsSplit m (pass_shown c.split-first.new.self) (0 ∷ []) [] = one_split m _ (pass_shown c.split-first.new.self) c.split-first.ensures.load.0 0 [] [] s0 c.split-first.ensures.load.1 in
    let l1 : IsLoaded (pass_shown c.split-first.new.self) = loaded_split _ (pass_shown c.split-first.new.self) c.split-first.ensures.load.0 0 l0 may0 c.split-first.ensures.load.1 in
    let may1 = may_split_again m _ (pass_shown c.split-first.new.self) c.split-first.ensures.load.0 0 (0 ∷ []) [] s1 c.split-first.ensures.load.1 in
    let s2 : IsSplit m (pass_shown c.split-second.new.self) (1 ∷ 0 ∷ []) [] = one_split m _ (pass_shown c.split-second.new.self) c.split-second.ensures.load.0 1 (0 ∷ []) [] s1 c.split-second.ensures.load.1 in
    let l2 : IsLoaded (pass_shown c.split-second.new.self) = loaded_split _ (pass_shown c.split-second.new.self) c.split-second.ensures.load.0 1 l1 may1 c.split-second.ensures.load.1 in
    c.split-second.ensures.seat ∙ seat_is m (pass_shown c.split-second.new.self) 1 false s2.machine (runs_other (pass_shown c.split-second.new.self) 1 (omega arith)
    (let e = ap (λ (x : Machine). x.layout.harts) s2.machine in let f = ap (λ (x : Layout). x.harts) c.in_ok-table.ensures.machine in omega (arith, e, f)) l2)

pub returns-clause-monitor : goal.returns-clause-monitor
returns-clause-monitor c = let m = machine_of c.in_ok-table.table in
    let goes : GoesBy (1745 + 512 * (layout_of (pass_shown c.pass-pass.result)).pages * length c.args.image.now.parts) AnyWord (pass_shown c.pass-pass.result) (pass_shown c.boot.new.port) = goes_within (1745 + 512 * (layout_of (pass_shown c.pass-pass.result)).pages * length c.args.image.now.parts) IsOfLoader AnyWord _ _ (any_word IsOfLoader) c.boot.ensures.goes in
    let s0 : IsSplit m (pass_shown c.boot.new.port) [] [] = booted_split m (1745 + 512 * (layout_of (pass_shown c.pass-pass.result)).pages * length c.args.image.now.parts) _ _ (pass_shown c.boot.new.port) c.in_ok-table.ensures.seat c.pass-pass.ensures goes c.boot.ensures.booting in
    let l0 : IsLoaded (pass_shown c.boot.new.port) = loaded_first m (1745 + 512 * (layout_of (pass_shown c.pass-pass.result)).pages * length c.args.image.now.parts) _ (pass_shown c.boot.new.port) (c.pass-pass.ensures ∙ c.in_ok-table.ensures.seat) goes c.boot.ensures.booting c.boot.ensures.booted in
    let may0 = may_split_first (pass_shown c.boot.new.port) (number_of Zero) named_zero c.boot.ensures.booting.actor c.boot.ensures.booted in
    let s1 : IsSplit m (pass_shown c.split-first.new.self) (0 ∷ []) [] = one_split m _ (pass_shown c.split-first.new.self) c.split-first.ensures.load.0 0 [] [] s0 c.split-first.ensures.load.1 in
    let l1 : IsLoaded (pass_shown c.split-first.new.self) = loaded_split _ (pass_shown c.split-first.new.self) c.split-first.ensures.load.0 0 l0 may0 c.split-first.ensures.load.1 in
    let may1 = may_split_again m _ (pass_shown c.split-first.new.self) c.split-first.ensures.load.0 0 (0 ∷ []) [] s1 c.split-first.ensures.load.1 in
    let s2 : IsSplit m (pass_shown c.split-second.new.self) (1 ∷ 0 ∷ []) [] = one_split m _ (pass_shown c.split-second.new.self) c.split-second.ensures.load.0 1 (0 ∷ []) [] s1 c.split-second.ensures.load.1 in
    let l2 : IsLoaded (pass_shown c.split-second.new.self) = loaded_split _ (pass_shown c.split-second.new.self) c.split-second.ensures.load.0 1 l1 may1 c.split-second.ensures.load.1 in
    let may2 = may_split_again m _ (pass_shown c.split-second.new.self) c.split-second.ensures.load.0 1 (1 ∷ 0 ∷ []) [] s2 c.split-second.ensures.load.1 in
    let s3 : IsSplit m (pass_shown c.split-monitor.new.self) (monitor ∷ 1 ∷ 0 ∷ []) [] = one_split m _ (pass_shown c.split-monitor.new.self) c.split-monitor.ensures.load.0 monitor (1 ∷ 0 ∷ []) [] s2 c.split-monitor.ensures.load.1 in
    let l3 : IsLoaded (pass_shown c.split-monitor.new.self) = loaded_split _ (pass_shown c.split-monitor.new.self) c.split-monitor.ensures.load.0 monitor l2 may2 c.split-monitor.ensures.load.1 in
    c.split-monitor.ensures.seat ∙ seat_is m (pass_shown c.split-monitor.new.self) monitor false s3.machine (runs_monitor (pass_shown c.split-monitor.new.self) l3)

pub returns-clause-loader : goal.returns-clause-loader
returns-clause-loader c = let m = machine_of c.in_ok-table.table in
    let goes : GoesBy (1745 + 512 * (layout_of (pass_shown c.pass-pass.result)).pages * length c.args.image.now.parts) AnyWord (pass_shown c.pass-pass.result) (pass_shown c.boot.new.port) = goes_within (1745 + 512 * (layout_of (pass_shown c.pass-pass.result)).pages * length c.args.image.now.parts) IsOfLoader AnyWord _ _ (any_word IsOfLoader) c.boot.ensures.goes in
    let s0 : IsSplit m (pass_shown c.boot.new.port) [] [] = booted_split m (1745 + 512 * (layout_of (pass_shown c.pass-pass.result)).pages * length c.args.image.now.parts) _ _ (pass_shown c.boot.new.port) c.in_ok-table.ensures.seat c.pass-pass.ensures goes c.boot.ensures.booting in
    let s1 : IsSplit m (pass_shown c.split-first.new.self) (0 ∷ []) [] = one_split m _ (pass_shown c.split-first.new.self) c.split-first.ensures.load.0 0 [] [] s0 c.split-first.ensures.load.1 in
    let s2 : IsSplit m (pass_shown c.split-second.new.self) (1 ∷ 0 ∷ []) [] = one_split m _ (pass_shown c.split-second.new.self) c.split-second.ensures.load.0 1 (0 ∷ []) [] s1 c.split-second.ensures.load.1 in
    let s3 : IsSplit m (pass_shown c.split-monitor.new.self) (monitor ∷ 1 ∷ 0 ∷ []) [] = one_split m _ (pass_shown c.split-monitor.new.self) c.split-monitor.ensures.load.0 monitor (1 ∷ 0 ∷ []) [] s2 c.split-monitor.ensures.load.1 in
    record {
      split = record { machine = ap (λ (x : Shown). x.machine) c.rest-loader.ensures ∙ s3.machine; actor = ap (λ (x : Shown). x.own.actor) c.rest-loader.ensures ∙ s3.actor; splits = ap (λ (x : Shown). x.splits) c.rest-loader.ensures ∙ s3.splits; joined = ap (λ (x : Shown). map (λ (r : Record). r.actor) x.joined) c.rest-loader.ensures ∙ s3.joined };
      began = ap (λ (x : Shown). has_split x.own.steps) c.rest-loader.ensures ∙ split_began _ (pass_shown c.split-monitor.new.self) c.split-monitor.ensures.load.0 monitor c.split-monitor.ensures.load.1;
    }
