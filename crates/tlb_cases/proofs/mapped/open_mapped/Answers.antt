use Rattle.std.proofs.Common.{◌∙◌, true, false, [], ◌∷◌}
use Rattle.step_laws.specs.Map.{Zero, number_of, monitor}
use Rattle.step_laws.proofs.Numbered.{named_zero}
use Rattle.guest_ram.specs.Areas.{AnyWord, IsOfRam}
use Rattle.guest_ram.specs.Ports.{GoesBy}
use Rattle.guest_ram.specs.Shown.{machine_of, pass_shown}
use Rattle.guest_ram.proofs.AreaLemmas.{any_word}
use Rattle.guest_ram.proofs.MaySteps.{may_split_first}
use Rattle.guest_ram.proofs.Moves.{goes_then, goes_within}
use Rattle.guest_ram_cases.specs.Tours.{IsSplit}
use Rattle.guest_ram_cases.proofs.Leading.{booted_split, one_split, may_split_again}
use Rattle.guest_ram_cases.proofs.LoaderRuns.{IsLoaded, loaded_first, loaded_split, runs_zero, runs_monitor, seat_is}
use Rattle.tlb_cases.proofs.mapped.open_mapped.Goals as goal

pub split-hart-requires-clause-may : goal.split-hart-requires-clause-may
split-hart-requires-clause-may c = let may0 = may_split_first (pass_shown c.boot_words.new.port) (number_of Zero) named_zero c.boot_words.ensures.booting.actor c.boot_words.ensures.booted in
    may0

pub split-monitor-requires-clause-may : goal.split-monitor-requires-clause-may
split-monitor-requires-clause-may c = let m = machine_of c.in_ok-table.table in
    let goes : GoesBy 1761 AnyWord (pass_shown c.pass-pass.result) (pass_shown c.boot_words.new.port) = goes_then 16 1745 AnyWord _ _ _ (goes_within 16 IsOfRam AnyWord _ _ (any_word IsOfRam) c.boot_map.ensures.goes) c.boot_words.ensures.goes in
    let s0 : IsSplit m (pass_shown c.boot_words.new.port) [] [] = booted_split m 1761 _ _ (pass_shown c.boot_words.new.port) c.in_ok-table.ensures.seat c.pass-pass.ensures goes c.boot_words.ensures.booting in
    let s1 : IsSplit m (pass_shown c.split-hart.new.self) (0 ∷ []) [] = one_split m _ (pass_shown c.split-hart.new.self) c.split-hart.ensures.load.0 0 [] [] s0 c.split-hart.ensures.load.1 in
    let may1 = may_split_again m _ (pass_shown c.split-hart.new.self) c.split-hart.ensures.load.0 0 (0 ∷ []) [] s1 c.split-hart.ensures.load.1 in
    may1

pub returns-clause-hart : goal.returns-clause-hart
returns-clause-hart c = let m = machine_of c.in_ok-table.table in
    let goes : GoesBy 1761 AnyWord (pass_shown c.pass-pass.result) (pass_shown c.boot_words.new.port) = goes_then 16 1745 AnyWord _ _ _ (goes_within 16 IsOfRam AnyWord _ _ (any_word IsOfRam) c.boot_map.ensures.goes) c.boot_words.ensures.goes in
    let s0 : IsSplit m (pass_shown c.boot_words.new.port) [] [] = booted_split m 1761 _ _ (pass_shown c.boot_words.new.port) c.in_ok-table.ensures.seat c.pass-pass.ensures goes c.boot_words.ensures.booting in
    let l0 : IsLoaded (pass_shown c.boot_words.new.port) = loaded_first m 1761 _ (pass_shown c.boot_words.new.port) (c.pass-pass.ensures ∙ c.in_ok-table.ensures.seat) goes c.boot_words.ensures.booting c.boot_words.ensures.booted in
    let may0 = may_split_first (pass_shown c.boot_words.new.port) (number_of Zero) named_zero c.boot_words.ensures.booting.actor c.boot_words.ensures.booted in
    let s1 : IsSplit m (pass_shown c.split-hart.new.self) (0 ∷ []) [] = one_split m _ (pass_shown c.split-hart.new.self) c.split-hart.ensures.load.0 0 [] [] s0 c.split-hart.ensures.load.1 in
    let l1 : IsLoaded (pass_shown c.split-hart.new.self) = loaded_split _ (pass_shown c.split-hart.new.self) c.split-hart.ensures.load.0 0 l0 may0 c.split-hart.ensures.load.1 in
    c.split-hart.ensures.seat ∙ seat_is m (pass_shown c.split-hart.new.self) 0 true s1.machine (runs_zero (pass_shown c.split-hart.new.self) l1)

pub returns-clause-monitor : goal.returns-clause-monitor
returns-clause-monitor c = let m = machine_of c.in_ok-table.table in
    let goes : GoesBy 1761 AnyWord (pass_shown c.pass-pass.result) (pass_shown c.boot_words.new.port) = goes_then 16 1745 AnyWord _ _ _ (goes_within 16 IsOfRam AnyWord _ _ (any_word IsOfRam) c.boot_map.ensures.goes) c.boot_words.ensures.goes in
    let s0 : IsSplit m (pass_shown c.boot_words.new.port) [] [] = booted_split m 1761 _ _ (pass_shown c.boot_words.new.port) c.in_ok-table.ensures.seat c.pass-pass.ensures goes c.boot_words.ensures.booting in
    let l0 : IsLoaded (pass_shown c.boot_words.new.port) = loaded_first m 1761 _ (pass_shown c.boot_words.new.port) (c.pass-pass.ensures ∙ c.in_ok-table.ensures.seat) goes c.boot_words.ensures.booting c.boot_words.ensures.booted in
    let may0 = may_split_first (pass_shown c.boot_words.new.port) (number_of Zero) named_zero c.boot_words.ensures.booting.actor c.boot_words.ensures.booted in
    let s1 : IsSplit m (pass_shown c.split-hart.new.self) (0 ∷ []) [] = one_split m _ (pass_shown c.split-hart.new.self) c.split-hart.ensures.load.0 0 [] [] s0 c.split-hart.ensures.load.1 in
    let l1 : IsLoaded (pass_shown c.split-hart.new.self) = loaded_split _ (pass_shown c.split-hart.new.self) c.split-hart.ensures.load.0 0 l0 may0 c.split-hart.ensures.load.1 in
    let may1 = may_split_again m _ (pass_shown c.split-hart.new.self) c.split-hart.ensures.load.0 0 (0 ∷ []) [] s1 c.split-hart.ensures.load.1 in
    let s2 : IsSplit m (pass_shown c.split-monitor.new.self) (monitor ∷ 0 ∷ []) [] = one_split m _ (pass_shown c.split-monitor.new.self) c.split-monitor.ensures.load.0 monitor (0 ∷ []) [] s1 c.split-monitor.ensures.load.1 in
    let l2 : IsLoaded (pass_shown c.split-monitor.new.self) = loaded_split _ (pass_shown c.split-monitor.new.self) c.split-monitor.ensures.load.0 monitor l1 may1 c.split-monitor.ensures.load.1 in
    c.split-monitor.ensures.seat ∙ seat_is m (pass_shown c.split-monitor.new.self) monitor false s2.machine (runs_monitor (pass_shown c.split-monitor.new.self) l2)
