-- Two harts' logs, merged: hart 0 ends the machine at its limit while hart 1 is in a turn of its own, which adds to a word behind that.
use Rattle.std.proofs.Common.{◌≡◌, ◌+◌, ◌*◌, ◌^◌, List, [], ◌∷◌, Some, refl, pos, true, false}
use Rattle.rv64_decode.specs.declared.instruction.Instr.TheVariants.{Lui, Auipc, Addi, Ecall, Amoadd}
use Rattle.rv64_decode.specs.Encoding.{encoding_of}
use Rattle.rv64_priv.specs.Flush.{Full}
use Rattle.rv64_priv.specs.Walk.{walk_of}
use Rattle.rv64_exec.specs.Plan.{need_of}
use Rattle.rv64_exec.specs.Finish.{done}
use Rattle.step_laws.specs.declared.steps.WordOp.TheVariants.{Load, Store, Add, Exchange, Or}
use Rattle.step_laws.specs.Words.{first_ram_word, first_dirty_word}
use Rattle.machine_model.specs.declared.reason.Reason.{Reason}
use Rattle.machine_model.specs.Event.{Event, Flushes, Start as Begin, Stop}
use Rattle.machine_model.specs.State.{memory}
use Rattle.machine_model.specs.Change.{executed as executing}
use Rattle.machine_model.specs.Run.{state_of}
use Rattle.turn_pieces.specs.Log.{made, did, Log, events_of}
use Rattle.turn_pieces.proofs.Rows.{step}
use Rattle.turn_pieces.proofs.AtLimit.{two_harts, fetched, executed, starting, added, limit_turn, second_turn}
use Rattle.run_laws.specs.Read.{own_items}

abbrev all : Log
all = made (step 1 24 Store 0 0) ∷ did (added 1 (1)) ∷ made (step 1 (first_ram_word + 8) Add 1 1) ∷ made (step 1 first_dirty_word Or 1 1) ∷ did (fetched 1 (Amoadd true false false 5 11 10)) ∷ made (step 1 (first_ram_word + 4) Load 0 (encoding_of (Addi 10 0 (pos 1)) + 2 ^ 32 * encoding_of (Amoadd true false false 5 11 10))) ∷ made (step 1 5 Load 0 0) ∷ did (executed 1) ∷ did (fetched 1 (Addi 10 0 (pos 1))) ∷ made (step 1 (first_ram_word + 4) Load 0 (encoding_of (Addi 10 0 (pos 1)) + 2 ^ 32 * encoding_of (Amoadd true false false 5 11 10))) ∷ made (step 1 5 Load 0 0) ∷ did (executed 1) ∷ did (fetched 1 (Addi 11 11 (pos 40))) ∷ made (step 1 (first_ram_word + 3) Load 0 (encoding_of (Auipc 11 (pos 0)) + 2 ^ 32 * encoding_of (Addi 11 11 (pos 40)))) ∷ made (step 1 5 Load 0 0) ∷ did (executed 1) ∷ did (fetched 1 (Auipc 11 (pos 0))) ∷ made (step 1 (first_ram_word + 3) Load 0 (encoding_of (Auipc 11 (pos 0)) + 2 ^ 32 * encoding_of (Addi 11 11 (pos 40)))) ∷ made (step 1 5 Load 0 0) ∷ did (Stop 0 (Reason.Limit 0)) ∷ made (step 0 2 (Exchange 0) 3 0) ∷ made (step 1 1 Load 0 0) ∷ made (step 1 24 Store 1 0) ∷ made (step 1 2 Load 0 0) ∷ made (step 0 8 Store 0 0) ∷ did (added 0 (0)) ∷ made (step 0 (first_ram_word + 8) Add 1 0) ∷ made (step 0 first_dirty_word Or 1 0) ∷ did (fetched 0 (Amoadd true false false 5 11 10)) ∷ made (step 0 (first_ram_word + 4) Load 0 (encoding_of (Addi 10 0 (pos 1)) + 2 ^ 32 * encoding_of (Amoadd true false false 5 11 10))) ∷ made (step 0 5 Load 0 0) ∷ did (executed 0) ∷ did (fetched 0 (Addi 10 0 (pos 1))) ∷ made (step 0 (first_ram_word + 4) Load 0 (encoding_of (Addi 10 0 (pos 1)) + 2 ^ 32 * encoding_of (Amoadd true false false 5 11 10))) ∷ made (step 0 5 Load 0 0) ∷ did (executed 0) ∷ did (fetched 0 (Addi 11 11 (pos 40))) ∷ made (step 0 (first_ram_word + 3) Load 0 (encoding_of (Auipc 11 (pos 0)) + 2 ^ 32 * encoding_of (Addi 11 11 (pos 40)))) ∷ made (step 0 5 Load 0 0) ∷ did (executed 0) ∷ did (fetched 0 (Auipc 11 (pos 0))) ∷ made (step 0 (first_ram_word + 3) Load 0 (encoding_of (Auipc 11 (pos 0)) + 2 ^ 32 * encoding_of (Addi 11 11 (pos 40)))) ∷ made (step 0 5 Load 0 0) ∷ made (step 0 1 Load 0 0) ∷ made (step 0 8 Store 1 0) ∷ made (step 0 2 Load 0 0) ∷ did (Begin 1 0x80000018 0) ∷ made (step 1 29 Store 0 0) ∷ did (Flushes 1 Full) ∷ made (step 1 27 Store 0 0) ∷ made (step 1 31 Load 0 0) ∷ made (step 1 30 Load 0 0x80000018) ∷ made (step 1 27 (Exchange 0) 2 0) ∷ made (step 1 29 Load 0 2) ∷ made (step 1 2 Load 0 0) ∷ made (step 0 8 Store 0 0) ∷ made (step 0 29 Store 2 0) ∷ made (step 0 3 Add 1 1) ∷ made (step 0 31 Store 0 0) ∷ made (step 0 30 Store 0x80000018 0) ∷ did (starting) ∷ made (step 0 29 (Exchange 1) 3 1) ∷ did (fetched 0 (Ecall)) ∷ made (step 0 (first_ram_word + 2) Load 0 (encoding_of (Addi 11 11 (pos 12)) + 2 ^ 32 * encoding_of (Ecall))) ∷ made (step 0 5 Load 0 0) ∷ did (executed 0) ∷ did (fetched 0 (Addi 11 11 (pos 12))) ∷ made (step 0 (first_ram_word + 2) Load 0 (encoding_of (Addi 11 11 (pos 12)) + 2 ^ 32 * encoding_of (Ecall))) ∷ made (step 0 5 Load 0 0) ∷ did (executed 0) ∷ did (fetched 0 (Auipc 11 (pos 0))) ∷ made (step 0 (first_ram_word + 1) Load 0 (encoding_of (Addi 10 0 (pos 1)) + 2 ^ 32 * encoding_of (Auipc 11 (pos 0)))) ∷ made (step 0 5 Load 0 0) ∷ did (executed 0) ∷ did (fetched 0 (Addi 10 0 (pos 1))) ∷ made (step 0 (first_ram_word + 1) Load 0 (encoding_of (Addi 10 0 (pos 1)) + 2 ^ 32 * encoding_of (Auipc 11 (pos 0)))) ∷ made (step 0 5 Load 0 0) ∷ did (executed 0) ∷ did (fetched 0 (Addi 17 17 (pos 845))) ∷ made (step 0 first_ram_word Load 0 (encoding_of (Lui 17 (pos 0x485000)) + 2 ^ 32 * encoding_of (Addi 17 17 (pos 845)))) ∷ made (step 0 5 Load 0 0) ∷ did (executed 0) ∷ did (fetched 0 (Lui 17 (pos 0x485000))) ∷ made (step 0 first_ram_word Load 0 (encoding_of (Lui 17 (pos 0x485000)) + 2 ^ 32 * encoding_of (Addi 17 17 (pos 845)))) ∷ made (step 0 5 Load 0 0) ∷ made (step 0 1 Load 0 0) ∷ made (step 0 8 Store 1 0) ∷ made (step 0 2 Load 0 0) ∷ []

abbrev run : List Event
run = added 1 (1) ∷ fetched 1 (Amoadd true false false 5 11 10) ∷ executed 1 ∷ fetched 1 (Addi 10 0 (pos 1)) ∷ executed 1 ∷ fetched 1 (Addi 11 11 (pos 40)) ∷ executed 1 ∷ fetched 1 (Auipc 11 (pos 0)) ∷ Stop 0 (Reason.Limit 0) ∷ added 0 (0) ∷ fetched 0 (Amoadd true false false 5 11 10) ∷ executed 0 ∷ fetched 0 (Addi 10 0 (pos 1)) ∷ executed 0 ∷ fetched 0 (Addi 11 11 (pos 40)) ∷ executed 0 ∷ fetched 0 (Auipc 11 (pos 0)) ∷ Begin 1 0x80000018 0 ∷ Flushes 1 Full ∷ starting ∷ fetched 0 (Ecall) ∷ executed 0 ∷ fetched 0 (Addi 11 11 (pos 12)) ∷ executed 0 ∷ fetched 0 (Auipc 11 (pos 0)) ∷ executed 0 ∷ fetched 0 (Addi 10 0 (pos 1)) ∷ executed 0 ∷ fetched 0 (Addi 17 17 (pos 845)) ∷ executed 0 ∷ fetched 0 (Lui 17 (pos 0x485000)) ∷ []

first_is_own : own_items 0 all ≡ limit_turn
first_is_own = refl

second_is_own : own_items 1 all ≡ second_turn
second_is_own = refl

events_are : events_of all ≡ run
events_are = refl

reason_is : (state_of two_harts run).reason ≡ Some (Reason.Limit 0)
unfolding need_of done walk_of executing
reason_is = refl

-- the addition behind it is in memory
memory_is : memory two_harts (state_of two_harts run) (first_ram_word + 8) ≡ 2
unfolding need_of done walk_of executing
memory_is = refl
