-- A store over two words beside another hart's loads, merged: the first load stands behind the store's claim and before its section, the
-- others between two turns of the storing hart. The whole list of events is written by hand, and the history of steps reads exactly it.
use Rattle.std.proofs.Common.{◌≡◌, ◌+◌, ◌*◌, ◌^◌, true, false, List, [], ◌∷◌, ◌++◌, refl, arith, pos, negsuc}
use Rattle.rv64_decode.specs.declared.instruction.Instr.TheVariants.{Lui, Auipc, Addi, Ld, Sd, Ecall}
use Rattle.rv64_decode.specs.Encoding.{encoding_of}
use Rattle.rv64_priv.specs.Flush.{Full}
use Rattle.rv64_priv.specs.Walk.{walk_of}
use Rattle.rv64_exec.specs.Plan.{need_of}
use Rattle.rv64_exec.specs.Finish.{done}
use Rattle.step_laws.specs.declared.steps.Step.{Step}
use Rattle.step_laws.specs.declared.steps.WordOp.TheVariants.{Load, Store, Add, Exchange, Or}
use Rattle.step_laws.specs.Words.{first_ram_word, loader, first_dirty_word}
use Rattle.step_laws.specs.Map.{name_of}
use Rattle.step_laws.specs.Steps.{value_at, own_steps, IsConsistent}
use Rattle.step_laws.specs.Discipline.{IsDisciplined, by_loader, boot_live, boot_ram, boot_hsm}
use Rattle.machine_model.specs.Event.{Event, Flushes, Start as Begin}
use Rattle.machine_model.specs.State.{memory, hart}
use Rattle.machine_model.specs.Change.{executed as executing}
use Rattle.machine_model.specs.Run.{state_of}
use Rattle.rv64_exec.specs.Plan.{reg}
use Rattle.turn_pieces.specs.Log.{made, did, Log, steps_of, events_of}
use Rattle.turn_pieces.proofs.Rows.{step}
use Rattle.turn_pieces.proofs.Crossing.{crossing, fetched, executed, starting, crossed, loaded, last_turn, late_turn}
use Rattle.run_laws.specs.Read.{own_items}
use Rattle.step_laws.specs.Histories.{IsLed}
use Rattle.run_laws.proofs.Consistent.{consistent_by, led_by}
use Rattle.run_laws.proofs.CrossingKept.{last_turn_kept, late_turn_kept}

abbrev all : Log
all = made (step 0 8 Store 0 0) ∷ did (executed 0) ∷ did (fetched 0 (Auipc 11 (pos 0))) ∷ made (step 0 (first_ram_word + 5) Load 0 (encoding_of (Auipc 11 (pos 0)) + 2 ^ 32 * encoding_of (Addi 11 11 (pos 24)))) ∷ made (step 0 5 Load 0 0) ∷ made (step 0 1 Load 0 0) ∷ made (step 0 8 Store 1 0) ∷ made (step 0 2 Load 0 0) ∷ made (step 1 24 Store 0 0) ∷ did (loaded 0xffffffff) ∷ made (step 1 (first_ram_word + 9) Load 0 0xffffffff) ∷ did (fetched 1 (Ld 13 11 (pos 8))) ∷ made (step 1 (first_ram_word + 7) Load 0 (encoding_of (Ld 13 11 (pos 8)))) ∷ made (step 1 5 Load 0 0) ∷ did (loaded 0xffffffff00000000) ∷ made (step 1 (first_ram_word + 8) Load 0 0xffffffff00000000) ∷ did (fetched 1 (Ld 12 11 (pos 0))) ∷ made (step 1 (first_ram_word + 6) Load 0 (encoding_of (Ld 10 11 (pos 0)) + 2 ^ 32 * encoding_of (Ld 12 11 (pos 0)))) ∷ made (step 1 5 Load 0 0) ∷ made (step 1 1 Load 0 0) ∷ made (step 1 24 Store 1 0) ∷ made (step 1 2 Load 0 0) ∷ made (step 0 1 Store 0 0) ∷ did (crossed) ∷ made (step 0 (first_ram_word + 9) Store 0xffffffff 0) ∷ made (step 0 (first_ram_word + 8) Store 0xffffffff00000000 0) ∷ made (step 0 (first_ram_word + 9) Load 0 0) ∷ made (step 0 (first_ram_word + 8) Load 0 0) ∷ made (step 0 first_dirty_word Or 1 0) ∷ did (fetched 0 (Sd 11 10 (pos 4))) ∷ made (step 0 (first_ram_word + 4) Load 0 (encoding_of (Addi 10 0 (negsuc 0)) + 2 ^ 32 * encoding_of (Sd 11 10 (pos 4)))) ∷ made (step 0 5 Load 0 0) ∷ made (step 0 136 Load 0 0) ∷ made (step 0 24 Load 0 0) ∷ made (step 1 24 Store 0 0) ∷ did (loaded 0) ∷ made (step 1 (first_ram_word + 8) Load 0 0) ∷ did (fetched 1 (Ld 10 11 (pos 0))) ∷ made (step 1 (first_ram_word + 6) Load 0 (encoding_of (Ld 10 11 (pos 0)) + 2 ^ 32 * encoding_of (Ld 12 11 (pos 0)))) ∷ made (step 1 5 Load 0 0) ∷ made (step 0 24 Load 0 1) ∷ made (step 0 1 (Exchange 0) 1 0) ∷ made (step 0 2 Load 0 0) ∷ did (executed 1) ∷ did (fetched 1 (Addi 11 11 (pos 24))) ∷ made (step 1 (first_ram_word + 5) Load 0 (encoding_of (Auipc 11 (pos 0)) + 2 ^ 32 * encoding_of (Addi 11 11 (pos 24)))) ∷ made (step 1 5 Load 0 0) ∷ did (executed 1) ∷ did (fetched 1 (Auipc 11 (pos 0))) ∷ made (step 1 (first_ram_word + 5) Load 0 (encoding_of (Auipc 11 (pos 0)) + 2 ^ 32 * encoding_of (Addi 11 11 (pos 24)))) ∷ made (step 1 5 Load 0 0) ∷ made (step 1 1 Load 0 0) ∷ made (step 1 24 Store 1 0) ∷ made (step 1 2 Load 0 0) ∷ made (step 0 8 Store 0 0) ∷ did (executed 0) ∷ did (fetched 0 (Addi 10 0 (negsuc 0))) ∷ made (step 0 (first_ram_word + 4) Load 0 (encoding_of (Addi 10 0 (negsuc 0)) + 2 ^ 32 * encoding_of (Sd 11 10 (pos 4)))) ∷ made (step 0 5 Load 0 0) ∷ did (executed 0) ∷ did (fetched 0 (Addi 11 11 (pos 40))) ∷ made (step 0 (first_ram_word + 3) Load 0 (encoding_of (Auipc 11 (pos 0)) + 2 ^ 32 * encoding_of (Addi 11 11 (pos 40)))) ∷ made (step 0 5 Load 0 0) ∷ did (executed 0) ∷ did (fetched 0 (Auipc 11 (pos 0))) ∷ made (step 0 (first_ram_word + 3) Load 0 (encoding_of (Auipc 11 (pos 0)) + 2 ^ 32 * encoding_of (Addi 11 11 (pos 40)))) ∷ made (step 0 5 Load 0 0) ∷ made (step 0 1 Load 0 0) ∷ made (step 0 8 Store 1 0) ∷ made (step 0 2 Load 0 0) ∷ did (Begin 1 0x80000028 0) ∷ made (step 1 29 Store 0 0) ∷ did (Flushes 1 Full) ∷ made (step 1 27 Store 0 0) ∷ made (step 1 31 Load 0 0) ∷ made (step 1 30 Load 0 0x80000028) ∷ made (step 1 27 (Exchange 0) 2 0) ∷ made (step 1 29 Load 0 2) ∷ made (step 1 2 Load 0 0) ∷ made (step 0 8 Store 0 0) ∷ made (step 0 29 Store 2 0) ∷ made (step 0 3 Add 1 1) ∷ made (step 0 31 Store 0 0) ∷ made (step 0 30 Store 0x80000028 0) ∷ did (starting) ∷ made (step 0 29 (Exchange 1) 3 1) ∷ did (fetched 0 (Ecall)) ∷ made (step 0 (first_ram_word + 2) Load 0 (encoding_of (Addi 11 11 (pos 28)) + 2 ^ 32 * encoding_of (Ecall))) ∷ made (step 0 5 Load 0 0) ∷ did (executed 0) ∷ did (fetched 0 (Addi 11 11 (pos 28))) ∷ made (step 0 (first_ram_word + 2) Load 0 (encoding_of (Addi 11 11 (pos 28)) + 2 ^ 32 * encoding_of (Ecall))) ∷ made (step 0 5 Load 0 0) ∷ did (executed 0) ∷ did (fetched 0 (Auipc 11 (pos 0))) ∷ made (step 0 (first_ram_word + 1) Load 0 (encoding_of (Addi 10 0 (pos 1)) + 2 ^ 32 * encoding_of (Auipc 11 (pos 0)))) ∷ made (step 0 5 Load 0 0) ∷ did (executed 0) ∷ did (fetched 0 (Addi 10 0 (pos 1))) ∷ made (step 0 (first_ram_word + 1) Load 0 (encoding_of (Addi 10 0 (pos 1)) + 2 ^ 32 * encoding_of (Auipc 11 (pos 0)))) ∷ made (step 0 5 Load 0 0) ∷ did (executed 0) ∷ did (fetched 0 (Addi 17 17 (pos 845))) ∷ made (step 0 first_ram_word Load 0 (encoding_of (Lui 17 (pos 0x485000)) + 2 ^ 32 * encoding_of (Addi 17 17 (pos 845)))) ∷ made (step 0 5 Load 0 0) ∷ did (executed 0) ∷ did (fetched 0 (Lui 17 (pos 0x485000))) ∷ made (step 0 first_ram_word Load 0 (encoding_of (Lui 17 (pos 0x485000)) + 2 ^ 32 * encoding_of (Addi 17 17 (pos 845)))) ∷ made (step 0 5 Load 0 0) ∷ made (step 0 1 Load 0 0) ∷ made (step 0 8 Store 1 0) ∷ made (step 0 2 Load 0 0) ∷ []

abbrev run : List Event
run = executed 0 ∷ fetched 0 (Auipc 11 (pos 0)) ∷ loaded 0xffffffff ∷ fetched 1 (Ld 13 11 (pos 8)) ∷ loaded 0xffffffff00000000 ∷ fetched 1 (Ld 12 11 (pos 0)) ∷ crossed ∷ fetched 0 (Sd 11 10 (pos 4)) ∷ loaded 0 ∷ fetched 1 (Ld 10 11 (pos 0)) ∷ executed 1 ∷ fetched 1 (Addi 11 11 (pos 24)) ∷ executed 1 ∷ fetched 1 (Auipc 11 (pos 0)) ∷ executed 0 ∷ fetched 0 (Addi 10 0 (negsuc 0)) ∷ executed 0 ∷ fetched 0 (Addi 11 11 (pos 40)) ∷ executed 0 ∷ fetched 0 (Auipc 11 (pos 0)) ∷ Begin 1 0x80000028 0 ∷ Flushes 1 Full ∷ starting ∷ fetched 0 (Ecall) ∷ executed 0 ∷ fetched 0 (Addi 11 11 (pos 28)) ∷ executed 0 ∷ fetched 0 (Auipc 11 (pos 0)) ∷ executed 0 ∷ fetched 0 (Addi 10 0 (pos 1)) ∷ executed 0 ∷ fetched 0 (Addi 17 17 (pos 845)) ∷ executed 0 ∷ fetched 0 (Lui 17 (pos 0x485000)) ∷ []

-- what the loader stored of that: LIVE, HSM of hart 1, and the code
abbrev stores : List Step
stores = step loader 3 Store 1 0 ∷ step loader 29 Store 1 0 ∷ step loader first_ram_word Store (encoding_of (Lui 17 (pos 0x485000)) + 2 ^ 32 * encoding_of (Addi 17 17 (pos 845))) 0 ∷ step loader (first_ram_word + 1) Store (encoding_of (Addi 10 0 (pos 1)) + 2 ^ 32 * encoding_of (Auipc 11 (pos 0))) 0 ∷ step loader (first_ram_word + 2) Store (encoding_of (Addi 11 11 (pos 28)) + 2 ^ 32 * encoding_of (Ecall)) 0 ∷ step loader (first_ram_word + 3) Store (encoding_of (Auipc 11 (pos 0)) + 2 ^ 32 * encoding_of (Addi 11 11 (pos 40))) 0 ∷ step loader (first_ram_word + 4) Store (encoding_of (Addi 10 0 (negsuc 0)) + 2 ^ 32 * encoding_of (Sd 11 10 (pos 4))) 0 ∷ step loader (first_ram_word + 5) Store (encoding_of (Auipc 11 (pos 0)) + 2 ^ 32 * encoding_of (Addi 11 11 (pos 24))) 0 ∷ step loader (first_ram_word + 6) Store (encoding_of (Ld 10 11 (pos 0)) + 2 ^ 32 * encoding_of (Ld 12 11 (pos 0))) 0 ∷ step loader (first_ram_word + 7) Store (encoding_of (Ld 13 11 (pos 8))) 0 ∷ []

-- each step has the answer that those before it give, and the loader's stand first
consistent : IsConsistent crossing.layout (steps_of all ++ stores)
consistent = consistent_by crossing.layout (steps_of all ++ stores) refl

led : IsLed (steps_of all ++ stores)
led = led_by (steps_of all ++ stores) refl

-- the loader keeps to the discipline, as far as its record goes
loader_kept : IsDisciplined crossing.layout loader false (own_steps loader (steps_of all ++ stores))
unfolding name_of
loader_kept = (by_loader refl (boot_live refl), (by_loader refl (boot_hsm refl (omega arith) (omega arith)), (by_loader refl (boot_ram refl), (by_loader refl (boot_ram refl), (by_loader refl (boot_ram refl), (by_loader refl (boot_ram refl), (by_loader refl (boot_ram refl), (by_loader refl (boot_ram refl), (by_loader refl (boot_ram refl), (by_loader refl (boot_ram refl), tt))))))))))

first_is_own : own_items 0 all ≡ last_turn
first_is_own = refl

second_is_own : own_items 1 all ≡ late_turn
second_is_own = refl

-- each hart keeps to the discipline
first_kept : IsDisciplined crossing.layout 0 true (own_steps 0 (steps_of all ++ stores))
first_kept = last_turn_kept

second_kept : IsDisciplined crossing.layout 1 false (own_steps 1 (steps_of all ++ stores))
second_kept = late_turn_kept

events_are : events_of all ≡ run
events_are = refl

-- the words at the end are those of the run
words_are : (value_at (first_ram_word + 8) (steps_of all ++ stores) ∷ value_at (first_ram_word + 9) (steps_of all ++ stores) ∷ []) ≡ (0xffffffff00000000 ∷ 0xffffffff ∷ [])
words_are = refl

memory_is : (memory crossing (state_of crossing run) (first_ram_word + 8) ∷ memory crossing (state_of crossing run) (first_ram_word + 9) ∷ []) ≡ (0xffffffff00000000 ∷ 0xffffffff ∷ [])
unfolding need_of done walk_of executing
memory_is = refl

-- what hart 1 found before the store, and behind it
registers_are : (reg (hart (state_of crossing run) 1).arch 10 ∷ reg (hart (state_of crossing run) 1).arch 12 ∷ reg (hart (state_of crossing run) 1).arch 13 ∷ []) ≡ (0 ∷ 0xffffffff00000000 ∷ 0xffffffff ∷ [])
unfolding need_of done walk_of executing
registers_are = refl
