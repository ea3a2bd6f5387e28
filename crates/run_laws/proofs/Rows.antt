-- The logs of two harts, merged in one: the whole list of events is written by hand, and the history of steps reads exactly it.
use Rattle.std.proofs.Common.{◌≡◌, ◌+◌, ◌*◌, ◌^◌, Bool, true, false, List, [], ◌∷◌, ◌++◌, refl, pos}
use Rattle.std.specs.Prelude.{◌==◌, ◌&&◌}
use Rattle.rv64_decode.specs.declared.instruction.Instr.TheVariants.{Lui, Auipc, Addi, Sd, Ecall, Amoadd}
use Rattle.rv64_decode.specs.Encoding.{encoding_of}
use Rattle.rv64_priv.specs.Flush.{Full}
use Rattle.rv64_priv.specs.Walk.{walk_of}
use Rattle.rv64_exec.specs.Plan.{need_of}
use Rattle.rv64_exec.specs.Finish.{done}
use Rattle.step_laws.specs.declared.steps.Step.{Step}
use Rattle.step_laws.specs.declared.steps.WordOp.TheVariants.{Load, Store, Add, Exchange, Or}
use Rattle.step_laws.specs.Words.{first_ram_word, loader, first_dirty_word}
use Rattle.step_laws.specs.Map.{Hsm, number_of}
use Rattle.step_laws.specs.Steps.{value_at, answer_of}
use Rattle.step_laws.specs.Discipline.{minus_one}
use Rattle.machine_model.specs.Event.{Event, Flushes, Start as Begin}
use Rattle.machine_model.specs.State.{memory, mode_of}
use Rattle.machine_model.specs.Change.{executed as executing}
use Rattle.machine_model.specs.Run.{state_of}
use Rattle.turn_pieces.specs.Log.{made, did, Log, steps_of, events_of}
use Rattle.turn_pieces.specs.Shared.{mode_named}
use Rattle.turn_pieces.proofs.Rows.{step}
use Rattle.turn_pieces.proofs.TwoHarts.{two_harts, fetched, executed, starting, added, crossed, stopping, stop_turn, second_turn}
use Rattle.run_laws.specs.Read.{own_items}

-- hart 0 starts hart 1, adds, and stores over two words in its section; then hart 1 adds, and hart 0 stops
abbrev all : Log
all = made (step 0 8 Store 0 0) ∷ made (step 0 3 Add minus_one 2) ∷ did (stopping) ∷ made (step 0 13 Store 1 0) ∷ did (fetched 0 (Ecall)) ∷ made (step 0 (first_ram_word + 6) Load 0 (encoding_of (Ecall) + 2 ^ 32 * encoding_of (Ecall))) ∷ made (step 0 5 Load 0 0) ∷ did (executed 0) ∷ did (fetched 0 (Addi 16 0 (pos 1))) ∷ made (step 0 (first_ram_word + 5) Load 0 (encoding_of (Sd 11 10 (pos 4)) + 2 ^ 32 * encoding_of (Addi 16 0 (pos 1)))) ∷ made (step 0 5 Load 0 0) ∷ made (step 0 1 Load 0 0) ∷ made (step 0 8 Store 1 0) ∷ made (step 0 2 Load 0 0) ∷ made (step 1 24 Store 0 0) ∷ did (added 1 ((1 + 2 ^ 32))) ∷ made (step 1 (first_ram_word + 8) Add 1 (1 + 2 ^ 32)) ∷ made (step 1 first_dirty_word Or 1 1) ∷ did (fetched 1 (Amoadd true false false 5 11 10)) ∷ made (step 1 (first_ram_word + 4) Load 0 (encoding_of (Addi 10 0 (pos 1)) + 2 ^ 32 * encoding_of (Amoadd true false false 5 11 10))) ∷ made (step 1 5 Load 0 0) ∷ did (executed 1) ∷ did (fetched 1 (Addi 10 0 (pos 1))) ∷ made (step 1 (first_ram_word + 4) Load 0 (encoding_of (Addi 10 0 (pos 1)) + 2 ^ 32 * encoding_of (Amoadd true false false 5 11 10))) ∷ made (step 1 5 Load 0 0) ∷ did (executed 1) ∷ did (fetched 1 (Addi 11 11 (pos 40))) ∷ made (step 1 (first_ram_word + 3) Load 0 (encoding_of (Auipc 11 (pos 0)) + 2 ^ 32 * encoding_of (Addi 11 11 (pos 40)))) ∷ made (step 1 5 Load 0 0) ∷ did (executed 1) ∷ did (fetched 1 (Auipc 11 (pos 0))) ∷ made (step 1 (first_ram_word + 3) Load 0 (encoding_of (Auipc 11 (pos 0)) + 2 ^ 32 * encoding_of (Addi 11 11 (pos 40)))) ∷ made (step 1 5 Load 0 0) ∷ made (step 1 1 Load 0 0) ∷ made (step 1 24 Store 1 0) ∷ made (step 1 2 Load 0 0) ∷ made (step 0 1 Store 0 0) ∷ did (crossed) ∷ made (step 0 (first_ram_word + 9) Store 0 0) ∷ made (step 0 (first_ram_word + 8) Store (1 + 2 ^ 32) 0) ∷ made (step 0 (first_ram_word + 9) Load 0 0) ∷ made (step 0 (first_ram_word + 8) Load 0 1) ∷ made (step 0 first_dirty_word Or 1 1) ∷ did (fetched 0 (Sd 11 10 (pos 4))) ∷ made (step 0 (first_ram_word + 5) Load 0 (encoding_of (Sd 11 10 (pos 4)) + 2 ^ 32 * encoding_of (Addi 16 0 (pos 1)))) ∷ made (step 0 5 Load 0 0) ∷ made (step 0 136 Load 0 0) ∷ made (step 0 24 Load 0 0) ∷ made (step 0 1 (Exchange 0) 1 0) ∷ made (step 0 2 Load 0 0) ∷ made (step 0 8 Store 0 0) ∷ did (added 0 (0)) ∷ made (step 0 (first_ram_word + 8) Add 1 0) ∷ made (step 0 first_dirty_word Or 1 0) ∷ did (fetched 0 (Amoadd true false false 5 11 10)) ∷ made (step 0 (first_ram_word + 4) Load 0 (encoding_of (Addi 10 0 (pos 1)) + 2 ^ 32 * encoding_of (Amoadd true false false 5 11 10))) ∷ made (step 0 5 Load 0 0) ∷ did (executed 0) ∷ did (fetched 0 (Addi 10 0 (pos 1))) ∷ made (step 0 (first_ram_word + 4) Load 0 (encoding_of (Addi 10 0 (pos 1)) + 2 ^ 32 * encoding_of (Amoadd true false false 5 11 10))) ∷ made (step 0 5 Load 0 0) ∷ did (executed 0) ∷ did (fetched 0 (Addi 11 11 (pos 40))) ∷ made (step 0 (first_ram_word + 3) Load 0 (encoding_of (Auipc 11 (pos 0)) + 2 ^ 32 * encoding_of (Addi 11 11 (pos 40)))) ∷ made (step 0 5 Load 0 0) ∷ did (executed 0) ∷ did (fetched 0 (Auipc 11 (pos 0))) ∷ made (step 0 (first_ram_word + 3) Load 0 (encoding_of (Auipc 11 (pos 0)) + 2 ^ 32 * encoding_of (Addi 11 11 (pos 40)))) ∷ made (step 0 5 Load 0 0) ∷ made (step 0 1 Load 0 0) ∷ made (step 0 8 Store 1 0) ∷ made (step 0 2 Load 0 0) ∷ did (Begin 1 0x80000018 0) ∷ made (step 1 29 Store 0 0) ∷ did (Flushes 1 Full) ∷ made (step 1 27 Store 0 0) ∷ made (step 1 31 Load 0 0) ∷ made (step 1 30 Load 0 0x80000018) ∷ made (step 1 27 (Exchange 0) 2 0) ∷ made (step 1 29 Load 0 2) ∷ made (step 1 2 Load 0 0) ∷ made (step 0 8 Store 0 0) ∷ made (step 0 29 Store 2 0) ∷ made (step 0 3 Add 1 1) ∷ made (step 0 31 Store 0 0) ∷ made (step 0 30 Store 0x80000018 0) ∷ did (starting) ∷ made (step 0 29 (Exchange 1) 3 1) ∷ did (fetched 0 (Ecall)) ∷ made (step 0 (first_ram_word + 2) Load 0 (encoding_of (Addi 11 11 (pos 12)) + 2 ^ 32 * encoding_of (Ecall))) ∷ made (step 0 5 Load 0 0) ∷ did (executed 0) ∷ did (fetched 0 (Addi 11 11 (pos 12))) ∷ made (step 0 (first_ram_word + 2) Load 0 (encoding_of (Addi 11 11 (pos 12)) + 2 ^ 32 * encoding_of (Ecall))) ∷ made (step 0 5 Load 0 0) ∷ did (executed 0) ∷ did (fetched 0 (Auipc 11 (pos 0))) ∷ made (step 0 (first_ram_word + 1) Load 0 (encoding_of (Addi 10 0 (pos 1)) + 2 ^ 32 * encoding_of (Auipc 11 (pos 0)))) ∷ made (step 0 5 Load 0 0) ∷ did (executed 0) ∷ did (fetched 0 (Addi 10 0 (pos 1))) ∷ made (step 0 (first_ram_word + 1) Load 0 (encoding_of (Addi 10 0 (pos 1)) + 2 ^ 32 * encoding_of (Auipc 11 (pos 0)))) ∷ made (step 0 5 Load 0 0) ∷ did (executed 0) ∷ did (fetched 0 (Addi 17 17 (pos 845))) ∷ made (step 0 first_ram_word Load 0 (encoding_of (Lui 17 (pos 0x485000)) + 2 ^ 32 * encoding_of (Addi 17 17 (pos 845)))) ∷ made (step 0 5 Load 0 0) ∷ did (executed 0) ∷ did (fetched 0 (Lui 17 (pos 0x485000))) ∷ made (step 0 first_ram_word Load 0 (encoding_of (Lui 17 (pos 0x485000)) + 2 ^ 32 * encoding_of (Addi 17 17 (pos 845)))) ∷ made (step 0 5 Load 0 0) ∷ made (step 0 1 Load 0 0) ∷ made (step 0 8 Store 1 0) ∷ made (step 0 2 Load 0 0) ∷ []

abbrev run : List Event
run = stopping ∷ fetched 0 (Ecall) ∷ executed 0 ∷ fetched 0 (Addi 16 0 (pos 1)) ∷ added 1 ((1 + 2 ^ 32)) ∷ fetched 1 (Amoadd true false false 5 11 10) ∷ executed 1 ∷ fetched 1 (Addi 10 0 (pos 1)) ∷ executed 1 ∷ fetched 1 (Addi 11 11 (pos 40)) ∷ executed 1 ∷ fetched 1 (Auipc 11 (pos 0)) ∷ crossed ∷ fetched 0 (Sd 11 10 (pos 4)) ∷ added 0 (0) ∷ fetched 0 (Amoadd true false false 5 11 10) ∷ executed 0 ∷ fetched 0 (Addi 10 0 (pos 1)) ∷ executed 0 ∷ fetched 0 (Addi 11 11 (pos 40)) ∷ executed 0 ∷ fetched 0 (Auipc 11 (pos 0)) ∷ Begin 1 0x80000018 0 ∷ Flushes 1 Full ∷ starting ∷ fetched 0 (Ecall) ∷ executed 0 ∷ fetched 0 (Addi 11 11 (pos 12)) ∷ executed 0 ∷ fetched 0 (Auipc 11 (pos 0)) ∷ executed 0 ∷ fetched 0 (Addi 10 0 (pos 1)) ∷ executed 0 ∷ fetched 0 (Addi 17 17 (pos 845)) ∷ executed 0 ∷ fetched 0 (Lui 17 (pos 0x485000)) ∷ []

-- what the loader stored of that: LIVE, HSM of hart 1, and the code
abbrev stores : List Step
stores = step loader 3 Store 1 0 ∷ step loader 29 Store 1 0 ∷ step loader first_ram_word Store (encoding_of (Lui 17 (pos 0x485000)) + 2 ^ 32 * encoding_of (Addi 17 17 (pos 845))) 0 ∷ step loader (first_ram_word + 1) Store (encoding_of (Addi 10 0 (pos 1)) + 2 ^ 32 * encoding_of (Auipc 11 (pos 0))) 0
    ∷ step loader (first_ram_word + 2) Store (encoding_of (Addi 11 11 (pos 12)) + 2 ^ 32 * encoding_of (Ecall)) 0 ∷ step loader (first_ram_word + 3) Store (encoding_of (Auipc 11 (pos 0)) + 2 ^ 32 * encoding_of (Addi 11 11 (pos 40))) 0 ∷ step loader (first_ram_word + 4) Store (encoding_of (Addi 10 0 (pos 1)) + 2 ^ 32 * encoding_of (Amoadd true false false 5 11 10)) 0
    ∷ step loader (first_ram_word + 5) Store (encoding_of (Sd 11 10 (pos 4)) + 2 ^ 32 * encoding_of (Addi 16 0 (pos 1))) 0 ∷ step loader (first_ram_word + 6) Store (encoding_of (Ecall) + 2 ^ 32 * encoding_of (Ecall)) 0 ∷ []

-- each step has the answer that those before it give
abbrev answers_hold : List Step → Bool
answers_hold [] = true
answers_hold (s ∷ h) = (s.answer == answer_of s.op (value_at s.word h)) && answers_hold h

answers : answers_hold (steps_of all ++ stores) ≡ true
answers = refl

first_is_own : own_items 0 all ≡ stop_turn
first_is_own = refl

second_is_own : own_items 1 all ≡ second_turn
second_is_own = refl

events_are : events_of all ≡ run
events_are = refl

-- the words at the end are those of the run
word_is : value_at (first_ram_word + 8) (steps_of all ++ stores) ≡ 2 + 2 ^ 32
word_is = refl

memory_is : memory two_harts (state_of two_harts run) (first_ram_word + 8) ≡ 2 + 2 ^ 32
unfolding need_of done walk_of executing
memory_is = refl

first_mode : mode_of (state_of two_harts run) 0 ≡ mode_named (value_at (number_of (Hsm 0)) (steps_of all ++ stores))
unfolding need_of done walk_of executing
first_mode = refl

second_mode : mode_of (state_of two_harts run) 1 ≡ mode_named (value_at (number_of (Hsm 1)) (steps_of all ++ stores))
unfolding need_of done walk_of executing
second_mode = refl
