use Rattle.std.proofs.Common.{[], ◌∷◌, refl}
use Rattle.step_laws.specs.Map.{Zero, number_of}
use Rattle.step_laws.proofs.Numbered.{named_zero}
use Rattle.guest_ram.specs.Ports.{shown_by}
use Rattle.guest_ram.specs.Shown.{machine_of, pass_shown}
use Rattle.guest_ram.proofs.MaySteps.{may_split_first}
use Rattle.guest_ram_cases.proofs.Leading.{booted_split, one_split, one_joined, may_split_again, may_join_again}
use Rattle.guest_ram_cases.proofs.threads.two_harts.Goals as goal

pub split-first-requires-clause-may : goal.split-first-requires-clause-may
split-first-requires-clause-may g c = let p = c.boot_words.new.port in
    may_split_first (shown_by p.seat.table_id p.seat.me.0) (number_of Zero) named_zero c.boot_words.ensures.booting.actor c.boot_words.ensures.booted

pub split-second-requires-clause-may : goal.split-second-requires-clause-may
split-second-requires-clause-may g c = let m = machine_of c.in_ok-table.table in let made = c.split-first.ensures.load in
    let booted = booted_split m 1745 _ _ (pass_shown c.boot_words.new.port) c.in_ok-table.ensures.seat c.pass-loader.ensures c.boot_words.ensures.goes c.boot_words.ensures.booting in
    may_split_again m _ (pass_shown c.split-first.new.self) made.0 0 (0 ∷ []) [] (one_split m _ (pass_shown c.split-first.new.self) made.0 0 [] [] booted made.1) made.1

pub join-requires-clause-may : goal.join-requires-clause-may
join-requires-clause-may g c = let m = machine_of c.in_ok-table.table in let first = c.split-first.ensures.load in let second = c.split-second.ensures.load in
    let booted = booted_split m 1745 _ _ (pass_shown c.boot_words.new.port) c.in_ok-table.ensures.seat c.pass-loader.ensures c.boot_words.ensures.goes c.boot_words.ensures.booting in
    let one = one_split m _ (pass_shown c.split-first.new.self) first.0 0 [] [] booted first.1 in
    may_split_again m _ (pass_shown c.split-second.new.self) second.0 1 (1 ∷ 0 ∷ []) [] (one_split m _ (pass_shown c.split-second.new.self) second.0 1 (0 ∷ []) [] one second.1) second.1

pub join-requires-2-clause-may : goal.join-requires-2-clause-may
join-requires-2-clause-may g c = let m = machine_of c.in_ok-table.table in let first = c.split-first.ensures.load in let second = c.split-second.ensures.load in let made = c.join.ensures.load in
    let booted = booted_split m 1745 _ _ (pass_shown c.boot_words.new.port) c.in_ok-table.ensures.seat c.pass-loader.ensures c.boot_words.ensures.goes c.boot_words.ensures.booting in
    let one = one_split m _ (pass_shown c.split-first.new.self) first.0 0 [] [] booted first.1 in
    let two = one_split m _ (pass_shown c.split-second.new.self) second.0 1 (0 ∷ []) [] one second.1 in
    may_join_again m _ (pass_shown c.join.new.self) made.0 _ (1 ∷ 0 ∷ []) (_ ∷ []) (one_joined m _ (pass_shown c.join.new.self) made.0 _ _ (1 ∷ 0 ∷ []) [] two made.1 refl) made.1
