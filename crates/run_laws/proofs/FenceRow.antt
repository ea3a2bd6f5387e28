-- A stale translation until another hart's fence, merged: the whole list of events is written by hand, and the history of steps reads
-- exactly it.
use Rattle.std.proofs.Common.{◌≡◌, ◌+◌, ◌*◌, ◌^◌, true, false, List, [], ◌∷◌, ◌++◌, refl, arith, pos, negsuc}
use Rattle.rv64_decode.specs.declared.instruction.Instr.TheVariants.{Lui, Auipc, Addi, Slli, Or as OrRegister, Csrrw, Sd, Ecall}
use Rattle.rv64_decode.specs.Encoding.{encoding_of}
use Rattle.rv64_priv.specs.Flush.{Full}
use Rattle.rv64_priv.specs.Walk.{Walked, walk_of}
use Rattle.rv64_exec.specs.Code.{no_code}
use Rattle.rv64_exec.specs.Plan.{need_of, reg}
use Rattle.rv64_exec.specs.Finish.{done}
use Rattle.step_laws.specs.declared.steps.Step.{Step}
use Rattle.step_laws.specs.declared.steps.WordOp.TheVariants.{Load, Store, Add, Exchange, Or}
use Rattle.step_laws.specs.Words.{first_ram_word, loader, first_dirty_word, first_place}
use Rattle.step_laws.specs.Map.{name_of}
use Rattle.step_laws.specs.Steps.{value_at, own_steps, IsConsistent}
use Rattle.step_laws.specs.Discipline.{IsDisciplined, by_loader, boot_live, boot_ram, boot_hsm}
use Rattle.machine_model.specs.Event.{Event, Fetch, Flushes, Start as Begin}
use Rattle.machine_model.specs.State.{memory, hart}
use Rattle.machine_model.specs.Change.{executed as executing}
use Rattle.machine_model.specs.Run.{state_of}
use Rattle.turn_pieces.specs.Log.{made, did, Log, steps_of, events_of}
use Rattle.turn_pieces.proofs.Rows.{step, code}
use Rattle.turn_pieces.proofs.FenceServed.{fencing, fetched, executed, starting, cleared, fenced, fault_turn}
use Rattle.turn_pieces.proofs.FenceAsked.{ask_turn}
use Rattle.run_laws.specs.Read.{own_items}
use Rattle.step_laws.specs.Histories.{IsLed}
use Rattle.run_laws.proofs.Consistent.{consistent_by, led_by}
use Rattle.run_laws.proofs.FenceKept.{fault_turn_kept, ask_turn_kept}

-- hart 0 starts hart 1 and makes its walk, and hart 1 clears the entry
abbrev early : Log
early = made (step 1 24 Store 0 0) ∷ did (cleared) ∷ made (step 1 (first_ram_word + 2) Store 0 0) ∷ made (step 1 first_dirty_word Or 1 0) ∷ did (fetched 1 (Sd 5 0 (negsuc 47))) ∷ made (step 1 (first_ram_word + 8) Load 0 (encoding_of (Auipc 5 (pos 0)) + 2 ^ 32 * encoding_of (Sd 5 0 (negsuc 47)))) ∷ made (step 1 5 Load 0 0) ∷ did (executed 1) ∷ did (fetched 1 (Auipc 5 (pos 0))) ∷ made (step 1 (first_ram_word + 8) Load 0 (encoding_of (Auipc 5 (pos 0)) + 2 ^ 32 * encoding_of (Sd 5 0 (negsuc 47)))) ∷ made (step 1 5 Load 0 0) ∷ made (step 1 1 Load 0 0) ∷ made (step 1 24 Store 1 0) ∷ made (step 1 2 Load 0 0) ∷ made (step 0 8 Store 0 0) ∷ did (executed 0) ∷ did (Fetch 0 (Walked.Leaf 0x200000cf 0x80000000 2) (code (Addi 7 0 (pos 1)))) ∷ made (step 0 (first_ram_word + 21) Load 0 (encoding_of (Csrrw 0 5 0x180) + 2 ^ 32 * encoding_of (Addi 7 0 (pos 1)))) ∷ made (step 0 (first_ram_word + 2) Load 0 0x200000cf) ∷ made (step 0 5 Load 0 0) ∷ did (executed 0) ∷ did (Flushes 0 Full) ∷ made (step 0 11 Store 0 0) ∷ made (step 0 11 (Exchange 0) 1 0) ∷ did (fetched 0 (Csrrw 0 5 0x180)) ∷ made (step 0 (first_ram_word + 21) Load 0 (encoding_of (Csrrw 0 5 0x180) + 2 ^ 32 * encoding_of (Addi 7 0 (pos 1)))) ∷ made (step 0 5 Load 0 0) ∷ did (executed 0) ∷ did (fetched 0 (OrRegister 5 5 6)) ∷ made (step 0 (first_ram_word + 20) Load 0 (encoding_of (Lui 6 (pos 0x80000)) + 2 ^ 32 * encoding_of (OrRegister 5 5 6))) ∷ made (step 0 5 Load 0 0) ∷ did (executed 0) ∷ did (fetched 0 (Lui 6 (pos 0x80000))) ∷ made (step 0 (first_ram_word + 20) Load 0 (encoding_of (Lui 6 (pos 0x80000)) + 2 ^ 32 * encoding_of (OrRegister 5 5 6))) ∷ made (step 0 5 Load 0 0) ∷ did (executed 0) ∷ did (fetched 0 (Slli 5 5 63)) ∷ made (step 0 (first_ram_word + 19) Load 0 (encoding_of (Addi 5 0 (pos 1)) + 2 ^ 32 * encoding_of (Slli 5 5 63))) ∷ made (step 0 5 Load 0 0) ∷ did (executed 0) ∷ did (fetched 0 (Addi 5 0 (pos 1))) ∷ made (step 0 (first_ram_word + 19) Load 0 (encoding_of (Addi 5 0 (pos 1)) + 2 ^ 32 * encoding_of (Slli 5 5 63))) ∷ made (step 0 5 Load 0 0) ∷ made (step 0 1 Load 0 0) ∷ made (step 0 8 Store 1 0) ∷ made (step 0 2 Load 0 0) ∷ did (Begin 1 0x80000040 0) ∷ made (step 1 29 Store 0 0) ∷ did (Flushes 1 Full) ∷ made (step 1 27 Store 0 0) ∷ made (step 1 31 Load 0 0) ∷ made (step 1 30 Load 0 0x80000040) ∷ made (step 1 27 (Exchange 0) 2 0) ∷ made (step 1 29 Load 0 2) ∷ made (step 1 2 Load 0 0) ∷ made (step 0 8 Store 0 0) ∷ made (step 0 29 Store 2 0) ∷ made (step 0 3 Add 1 1) ∷ made (step 0 31 Store 0 0) ∷ made (step 0 30 Store 0x80000040 0) ∷ did (starting) ∷ made (step 0 29 (Exchange 1) 3 1) ∷ did (fetched 0 (Ecall)) ∷ made (step 0 (first_ram_word + 18) Load 0 (encoding_of (Addi 11 11 (negsuc 75)) + 2 ^ 32 * encoding_of (Ecall))) ∷ made (step 0 5 Load 0 0) ∷ did (executed 0) ∷ did (fetched 0 (Addi 11 11 (negsuc 75))) ∷ made (step 0 (first_ram_word + 18) Load 0 (encoding_of (Addi 11 11 (negsuc 75)) + 2 ^ 32 * encoding_of (Ecall))) ∷ made (step 0 5 Load 0 0) ∷ did (executed 0) ∷ did (fetched 0 (Auipc 11 (pos 0))) ∷ made (step 0 (first_ram_word + 17) Load 0 (encoding_of (Addi 10 0 (pos 1)) + 2 ^ 32 * encoding_of (Auipc 11 (pos 0)))) ∷ made (step 0 5 Load 0 0) ∷ did (executed 0) ∷ did (fetched 0 (Addi 10 0 (pos 1))) ∷ made (step 0 (first_ram_word + 17) Load 0 (encoding_of (Addi 10 0 (pos 1)) + 2 ^ 32 * encoding_of (Auipc 11 (pos 0)))) ∷ made (step 0 5 Load 0 0) ∷ did (executed 0) ∷ did (fetched 0 (Addi 17 17 (pos 845))) ∷ made (step 0 (first_ram_word + 16) Load 0 (encoding_of (Lui 17 (pos 0x485000)) + 2 ^ 32 * encoding_of (Addi 17 17 (pos 845)))) ∷ made (step 0 5 Load 0 0) ∷ did (executed 0) ∷ did (fetched 0 (Lui 17 (pos 0x485000))) ∷ made (step 0 (first_ram_word + 16) Load 0 (encoding_of (Lui 17 (pos 0x485000)) + 2 ^ 32 * encoding_of (Addi 17 17 (pos 845)))) ∷ made (step 0 5 Load 0 0) ∷ made (step 0 1 Load 0 0) ∷ made (step 0 8 Store 1 0) ∷ made (step 0 2 Load 0 0) ∷ []

-- hart 0 goes on by its old walk; hart 1 asks, hart 0 serves, and walks anew
abbrev all : Log
all = made (step 0 8 Store 0 0) ∷ did (Fetch 0 Walked.PageFault no_code) ∷ made (step 0 (first_ram_word + 2) Load 0 0) ∷ made (step 0 5 Load 0 0) ∷ made (step 0 1 Load 0 0) ∷ made (step 0 8 Store 1 0) ∷ made (step 0 2 Load 0 0) ∷ made (step 1 24 Store 0 0) ∷ did (fenced) ∷ made (step 1 (first_place + 8) Load 0 0) ∷ made (step 0 (first_place + 8) Store 0 0) ∷ did (Flushes 0 Full) ∷ made (step 0 11 Store 0 0) ∷ made (step 0 11 (Exchange 0) 1 0) ∷ made (step 0 (first_place + 8) Load 0 1) ∷ made (step 0 2 Load 0 0) ∷ made (step 1 (first_place + 8) Store 1 0) ∷ made (step 1 (first_place + 8) Load 0 0) ∷ did (fetched 1 (Ecall)) ∷ made (step 1 (first_ram_word + 11) Load 0 (encoding_of (Ecall))) ∷ made (step 1 5 Load 0 0) ∷ did (executed 1) ∷ did (fetched 1 (Addi 17 17 (pos 1604))) ∷ made (step 1 (first_ram_word + 10) Load 0 (encoding_of (Addi 17 17 (pos 2047)) + 2 ^ 32 * encoding_of (Addi 17 17 (pos 1604)))) ∷ made (step 1 5 Load 0 0) ∷ did (executed 1) ∷ did (fetched 1 (Addi 17 17 (pos 2047))) ∷ made (step 1 (first_ram_word + 10) Load 0 (encoding_of (Addi 17 17 (pos 2047)) + 2 ^ 32 * encoding_of (Addi 17 17 (pos 1604)))) ∷ made (step 1 5 Load 0 0) ∷ did (executed 1) ∷ did (fetched 1 (Lui 17 (pos 0x52464000))) ∷ made (step 1 (first_ram_word + 9) Load 0 (encoding_of (Addi 16 0 (pos 1)) + 2 ^ 32 * encoding_of (Lui 17 (pos 0x52464000)))) ∷ made (step 1 5 Load 0 0) ∷ did (executed 1) ∷ did (fetched 1 (Addi 16 0 (pos 1))) ∷ made (step 1 (first_ram_word + 9) Load 0 (encoding_of (Addi 16 0 (pos 1)) + 2 ^ 32 * encoding_of (Lui 17 (pos 0x52464000)))) ∷ made (step 1 5 Load 0 0) ∷ made (step 1 1 Load 0 0) ∷ made (step 1 24 Store 1 0) ∷ made (step 1 2 Load 0 0) ∷ made (step 0 8 Store 0 0) ∷ did (executed 0) ∷ did (Fetch 0 (Walked.Leaf 0x200000cf 0x80000000 2) (code (Addi 7 0 (pos 2)))) ∷ made (step 0 (first_ram_word + 22) Load 0 (encoding_of (Addi 7 0 (pos 2)) + 2 ^ 32 * encoding_of (Addi 7 0 (pos 3)))) ∷ made (step 0 5 Load 0 0) ∷ made (step 0 1 Load 0 0) ∷ made (step 0 8 Store 1 0) ∷ made (step 0 2 Load 0 0) ∷ early

abbrev early_run : List Event
early_run = cleared ∷ fetched 1 (Sd 5 0 (negsuc 47)) ∷ executed 1 ∷ fetched 1 (Auipc 5 (pos 0)) ∷ executed 0 ∷ Fetch 0 (Walked.Leaf 0x200000cf 0x80000000 2) (code (Addi 7 0 (pos 1))) ∷ executed 0 ∷ Flushes 0 Full ∷ fetched 0 (Csrrw 0 5 0x180) ∷ executed 0 ∷ fetched 0 (OrRegister 5 5 6) ∷ executed 0 ∷ fetched 0 (Lui 6 (pos 0x80000)) ∷ executed 0 ∷ fetched 0 (Slli 5 5 63) ∷ executed 0 ∷ fetched 0 (Addi 5 0 (pos 1)) ∷ Begin 1 0x80000040 0 ∷ Flushes 1 Full ∷ starting ∷ fetched 0 (Ecall) ∷ executed 0 ∷ fetched 0 (Addi 11 11 (negsuc 75)) ∷ executed 0 ∷ fetched 0 (Auipc 11 (pos 0)) ∷ executed 0 ∷ fetched 0 (Addi 10 0 (pos 1)) ∷ executed 0 ∷ fetched 0 (Addi 17 17 (pos 845)) ∷ executed 0 ∷ fetched 0 (Lui 17 (pos 0x485000)) ∷ []

abbrev run : List Event
run = Fetch 0 Walked.PageFault no_code ∷ fenced ∷ Flushes 0 Full ∷ fetched 1 (Ecall) ∷ executed 1 ∷ fetched 1 (Addi 17 17 (pos 1604)) ∷ executed 1 ∷ fetched 1 (Addi 17 17 (pos 2047)) ∷ executed 1 ∷ fetched 1 (Lui 17 (pos 0x52464000)) ∷ executed 1 ∷ fetched 1 (Addi 16 0 (pos 1)) ∷ executed 0 ∷ Fetch 0 (Walked.Leaf 0x200000cf 0x80000000 2) (code (Addi 7 0 (pos 2))) ∷ early_run

-- what the loader stored of that: LIVE, HSM of hart 1, the entry and the code
abbrev stores : List Step
stores = step loader 3 Store 1 0 ∷ step loader 29 Store 1 0 ∷ step loader (first_ram_word + 2) Store 0x200000cf 0 ∷ step loader (first_ram_word + 8) Store (encoding_of (Auipc 5 (pos 0)) + 2 ^ 32 * encoding_of (Sd 5 0 (negsuc 47))) 0 ∷ step loader (first_ram_word + 9) Store (encoding_of (Addi 16 0 (pos 1)) + 2 ^ 32 * encoding_of (Lui 17 (pos 0x52464000))) 0 ∷ step loader (first_ram_word + 10) Store (encoding_of (Addi 17 17 (pos 2047)) + 2 ^ 32 * encoding_of (Addi 17 17 (pos 1604))) 0 ∷ step loader (first_ram_word + 11) Store (encoding_of (Ecall)) 0 ∷ step loader (first_ram_word + 16) Store (encoding_of (Lui 17 (pos 0x485000)) + 2 ^ 32 * encoding_of (Addi 17 17 (pos 845))) 0 ∷ step loader (first_ram_word + 17) Store (encoding_of (Addi 10 0 (pos 1)) + 2 ^ 32 * encoding_of (Auipc 11 (pos 0))) 0 ∷ step loader (first_ram_word + 18) Store (encoding_of (Addi 11 11 (negsuc 75)) + 2 ^ 32 * encoding_of (Ecall)) 0 ∷ step loader (first_ram_word + 19) Store (encoding_of (Addi 5 0 (pos 1)) + 2 ^ 32 * encoding_of (Slli 5 5 63)) 0 ∷ step loader (first_ram_word + 20) Store (encoding_of (Lui 6 (pos 0x80000)) + 2 ^ 32 * encoding_of (OrRegister 5 5 6)) 0 ∷ step loader (first_ram_word + 21) Store (encoding_of (Csrrw 0 5 0x180) + 2 ^ 32 * encoding_of (Addi 7 0 (pos 1))) 0 ∷ step loader (first_ram_word + 22) Store (encoding_of (Addi 7 0 (pos 2)) + 2 ^ 32 * encoding_of (Addi 7 0 (pos 3))) 0 ∷ []

-- each step has the answer that those before it give, and the loader's stand first
consistent : IsConsistent fencing.layout (steps_of all ++ stores)
consistent = consistent_by fencing.layout (steps_of all ++ stores) refl

led : IsLed (steps_of all ++ stores)
led = led_by (steps_of all ++ stores) refl

-- the loader keeps to the discipline, as far as its record goes
loader_kept : IsDisciplined fencing.layout loader false (own_steps loader (steps_of all ++ stores))
unfolding name_of
loader_kept = (by_loader refl (boot_live refl), (by_loader refl (boot_hsm refl (omega arith) (omega arith)), (by_loader refl (boot_ram refl), (by_loader refl (boot_ram refl), (by_loader refl (boot_ram refl), (by_loader refl (boot_ram refl), (by_loader refl (boot_ram refl), (by_loader refl (boot_ram refl), (by_loader refl (boot_ram refl), (by_loader refl (boot_ram refl), (by_loader refl (boot_ram refl), (by_loader refl (boot_ram refl), (by_loader refl (boot_ram refl), (by_loader refl (boot_ram refl), tt))))))))))))))

first_is_own : own_items 0 all ≡ fault_turn
first_is_own = refl

second_is_own : own_items 1 all ≡ ask_turn
second_is_own = refl

-- each hart keeps to the discipline
first_kept : IsDisciplined fencing.layout 0 true (own_steps 0 (steps_of all ++ stores))
first_kept = fault_turn_kept

second_kept : IsDisciplined fencing.layout 1 false (own_steps 1 (steps_of all ++ stores))
second_kept = ask_turn_kept

early_events_are : events_of early ≡ early_run
early_events_are = refl

events_are : events_of all ≡ run
events_are = refl

-- the entry is gone where the old walk is used once more
entry_is_gone : memory fencing (state_of fencing early_run) (first_ram_word + 2) ≡ value_at (first_ram_word + 2) (steps_of early ++ stores)
unfolding need_of done walk_of executing
entry_is_gone = refl

entry_is_zero : value_at (first_ram_word + 2) (steps_of early ++ stores) ≡ 0
entry_is_zero = refl

-- the request is served: its place is free again
place_is_free : value_at (first_place + 8) (steps_of all ++ stores) ≡ 0
place_is_free = refl

-- hart 0 did what it fetched by the old walk, and then trapped by a fetch's page fault; hart 1's call was a success
registers_are : (reg (hart (state_of fencing run) 0).arch 7 ∷ (hart (state_of fencing run) 0).arch.scause ∷ (hart (state_of fencing run) 0).arch.sepc ∷ reg (hart (state_of fencing run) 1).arch 10 ∷ []) ≡ (2 ∷ 12 ∷ 0x800000b4 ∷ 0 ∷ [])
unfolding need_of done walk_of executing
registers_are = refl
