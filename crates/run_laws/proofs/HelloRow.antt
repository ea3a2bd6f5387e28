-- A whole guest's run: the whole list of events is written by hand, the history of steps reads exactly it, and at its end stand what the
-- guest printed and why it ended.
use Rattle.std.proofs.Common.{◌≡◌, ◌+◌, ◌*◌, ◌^◌, true, false, List, [], ◌∷◌, ◌++◌, Some, refl, inl, arith, pos}
use Rattle.rv64_decode.specs.declared.instruction.Instr.TheVariants.{Lui, Addi, Sb, Sw}
use Rattle.rv64_decode.specs.Encoding.{encoding_of}
use Rattle.rv64_priv.specs.Walk.{walk_of}
use Rattle.rv64_exec.specs.Plan.{need_of}
use Rattle.rv64_exec.specs.Finish.{done}
use Rattle.step_laws.specs.declared.steps.Step.{Step}
use Rattle.step_laws.specs.declared.steps.WordOp.TheVariants.{Load, Store, Add, Exchange}
use Rattle.step_laws.specs.Words.{first_ram_word, first_console_word, loader}
use Rattle.step_laws.specs.Map.{Stop, Cons, number_of, name_of}
use Rattle.step_laws.specs.Fields.{pass}
use Rattle.step_laws.specs.Discipline.{IsDisciplined, by_loader, boot_live, boot_ram, by_actor, raise, ask, lower, read_ram, touch_ipi, load_stop, set_stop, draw, print}
use Rattle.step_laws.specs.Steps.{value_at, own_steps, IsConsistent}
use Rattle.machine_model.specs.declared.reason.Reason.{Reason}
use Rattle.machine_model.specs.Event.{Event}
use Rattle.machine_model.specs.ReasonWords.{reason_in}
use Rattle.machine_model.specs.Change.{executed as executing}
use Rattle.machine_model.specs.Run.{state_of}
use Rattle.turn_pieces.specs.Log.{made, did, Log, steps_of, events_of}
use Rattle.turn_pieces.proofs.Rows.{step}
use Rattle.turn_pieces.proofs.Hello.{guest, fetched, executed, printed, ended, look, inside, device, first_byte, first_printed, second_byte, second_printed, third_byte, third_printed, finisher, upper, passing, hello}
use Rattle.run_laws.specs.Read.{own_items}
use Rattle.step_laws.specs.Histories.{IsLed}
use Rattle.run_laws.proofs.Consistent.{consistent_by, led_by}

abbrev all : Log
all = made (step 0 2 Load 0 1) ∷ made (step 0 8 Store 0 0) ∷ did (ended) ∷ made (step 0 2 (Exchange 0) 1 0) ∷ did (fetched 0 (Sw 5 6 (pos 0))) ∷ made (step 0 (first_ram_word + 5) Load 0 (encoding_of (Sw 5 6 (pos 0)))) ∷ made (step 0 5 Load 0 0) ∷ did (executed 0) ∷ did (fetched 0 (Addi 6 6 (pos 0x555))) ∷ made (step 0 (first_ram_word + 4) Load 0 (encoding_of (Lui 6 (pos 0x5000)) + 2 ^ 32 * encoding_of (Addi 6 6 (pos 0x555)))) ∷ made (step 0 5 Load 0 0) ∷ did (executed 0) ∷ did (fetched 0 (Lui 6 (pos 0x5000))) ∷ made (step 0 (first_ram_word + 4) Load 0 (encoding_of (Lui 6 (pos 0x5000)) + 2 ^ 32 * encoding_of (Addi 6 6 (pos 0x555)))) ∷ made (step 0 5 Load 0 0) ∷ did (executed 0) ∷ did (fetched 0 (Lui 5 (pos 0x100000))) ∷ made (step 0 (first_ram_word + 3) Load 0 (encoding_of (Sb 5 6 (pos 0)) + 2 ^ 32 * encoding_of (Lui 5 (pos 0x100000)))) ∷ made (step 0 5 Load 0 0) ∷ made (step 0 (first_console_word + 2) Store (10 + 256) 0) ∷ did (printed 10) ∷ made (step 0 4 Add 1 2) ∷ did (fetched 0 (Sb 5 6 (pos 0))) ∷ made (step 0 (first_ram_word + 3) Load 0 (encoding_of (Sb 5 6 (pos 0)) + 2 ^ 32 * encoding_of (Lui 5 (pos 0x100000)))) ∷ made (step 0 5 Load 0 0) ∷ did (executed 0) ∷ did (fetched 0 (Addi 6 0 (pos 10))) ∷ made (step 0 (first_ram_word + 2) Load 0 (encoding_of (Sb 5 6 (pos 0)) + 2 ^ 32 * encoding_of (Addi 6 0 (pos 10)))) ∷ made (step 0 5 Load 0 0) ∷ made (step 0 (first_console_word + 1) Store (75 + 256) 0) ∷ did (printed 75) ∷ made (step 0 4 Add 1 1) ∷ did (fetched 0 (Sb 5 6 (pos 0))) ∷ made (step 0 (first_ram_word + 2) Load 0 (encoding_of (Sb 5 6 (pos 0)) + 2 ^ 32 * encoding_of (Addi 6 0 (pos 10)))) ∷ made (step 0 5 Load 0 0) ∷ did (executed 0) ∷ did (fetched 0 (Addi 6 0 (pos 75))) ∷ made (step 0 (first_ram_word + 1) Load 0 (encoding_of (Sb 5 6 (pos 0)) + 2 ^ 32 * encoding_of (Addi 6 0 (pos 75)))) ∷ made (step 0 5 Load 0 0) ∷ made (step 0 first_console_word Store (79 + 256) 0) ∷ did (printed 79) ∷ made (step 0 4 Add 1 0) ∷ did (fetched 0 (Sb 5 6 (pos 0))) ∷ made (step 0 (first_ram_word + 1) Load 0 (encoding_of (Sb 5 6 (pos 0)) + 2 ^ 32 * encoding_of (Addi 6 0 (pos 75)))) ∷ made (step 0 5 Load 0 0) ∷ did (executed 0) ∷ did (fetched 0 (Addi 6 0 (pos 79))) ∷ made (step 0 first_ram_word Load 0 (encoding_of (Lui 5 (pos 0x10000000)) + 2 ^ 32 * encoding_of (Addi 6 0 (pos 79)))) ∷ made (step 0 5 Load 0 0) ∷ did (executed 0) ∷ did (fetched 0 (Lui 5 (pos 0x10000000))) ∷ made (step 0 first_ram_word Load 0 (encoding_of (Lui 5 (pos 0x10000000)) + 2 ^ 32 * encoding_of (Addi 6 0 (pos 79)))) ∷ made (step 0 5 Load 0 0) ∷ made (step 0 1 Load 0 0) ∷ made (step 0 8 Store 1 0) ∷ made (step 0 2 Load 0 0) ∷ []

abbrev run : List Event
run = ended ∷ fetched 0 (Sw 5 6 (pos 0)) ∷ executed 0 ∷ fetched 0 (Addi 6 6 (pos 0x555)) ∷ executed 0 ∷ fetched 0 (Lui 6 (pos 0x5000)) ∷ executed 0 ∷ fetched 0 (Lui 5 (pos 0x100000)) ∷ printed 10 ∷ fetched 0 (Sb 5 6 (pos 0)) ∷ executed 0 ∷ fetched 0 (Addi 6 0 (pos 10)) ∷ printed 75 ∷ fetched 0 (Sb 5 6 (pos 0)) ∷ executed 0 ∷ fetched 0 (Addi 6 0 (pos 75)) ∷ printed 79 ∷ fetched 0 (Sb 5 6 (pos 0)) ∷ executed 0 ∷ fetched 0 (Addi 6 0 (pos 79)) ∷ executed 0 ∷ fetched 0 (Lui 5 (pos 0x10000000)) ∷ []

-- what the loader stored of that: LIVE and the code
abbrev stores : List Step
stores = step loader 3 Store 1 0 ∷ step loader first_ram_word Store (encoding_of (Lui 5 (pos 0x10000000)) + 2 ^ 32 * encoding_of (Addi 6 0 (pos 79))) 0 ∷ step loader (first_ram_word + 1) Store (encoding_of (Sb 5 6 (pos 0)) + 2 ^ 32 * encoding_of (Addi 6 0 (pos 75))) 0 ∷ step loader (first_ram_word + 2) Store (encoding_of (Sb 5 6 (pos 0)) + 2 ^ 32 * encoding_of (Addi 6 0 (pos 10))) 0 ∷ step loader (first_ram_word + 3) Store (encoding_of (Sb 5 6 (pos 0)) + 2 ^ 32 * encoding_of (Lui 5 (pos 0x100000))) 0 ∷ step loader (first_ram_word + 4) Store (encoding_of (Lui 6 (pos 0x5000)) + 2 ^ 32 * encoding_of (Addi 6 6 (pos 0x555))) 0 ∷ step loader (first_ram_word + 5) Store (encoding_of (Sw 5 6 (pos 0))) 0 ∷ []

-- each step has the answer that those before it give, and the loader's stand first
consistent : IsConsistent guest.layout (steps_of all ++ stores)
consistent = consistent_by guest.layout (steps_of all ++ stores) refl

led : IsLed (steps_of all ++ stores)
led = led_by (steps_of all ++ stores) refl

-- the loader keeps to the discipline, as far as its record goes
loader_kept : IsDisciplined guest.layout loader false (own_steps loader (steps_of all ++ stores))
unfolding name_of
loader_kept = (by_loader refl (boot_live refl), (by_loader refl (boot_ram refl), (by_loader refl (boot_ram refl), (by_loader refl (boot_ram refl), (by_loader refl (boot_ram refl), (by_loader refl (boot_ram refl), (by_loader refl (boot_ram refl), tt)))))))

log_is_own : own_items 0 all ≡ made (step 0 2 Load 0 1) ∷ hello
log_is_own = refl

look_kept : IsDisciplined guest.layout 0 true (steps_of look)
unfolding name_of
look_kept = (by_actor (inl (omega arith)) refl (load_stop), tt)

inside_kept : IsDisciplined guest.layout 0 true (steps_of inside)
unfolding name_of
inside_kept = (by_actor (inl (omega arith)) refl (ask refl), (by_actor (inl (omega arith)) refl (raise (refl, refl)), look_kept))

device_kept : IsDisciplined guest.layout 0 true (steps_of device)
unfolding name_of
device_kept = (by_actor (inl (omega arith)) refl (read_ram (inl refl)), (by_actor (inl (omega arith)) refl (touch_ipi (inl refl)), inside_kept))

first_byte_kept : IsDisciplined guest.layout 0 true (steps_of first_byte)
unfolding name_of
first_byte_kept = (by_actor (inl (omega arith)) refl (read_ram (inl refl)), (by_actor (inl (omega arith)) refl (touch_ipi (inl refl)), device_kept))

first_printed_kept : IsDisciplined guest.layout 0 true (steps_of first_printed)
unfolding name_of
first_printed_kept = (by_actor (inl (omega arith)) refl (draw (inl refl)), (by_actor (inl (omega arith)) refl (read_ram (inl refl)), (by_actor (inl (omega arith)) refl (touch_ipi (inl refl)), first_byte_kept)))

second_byte_kept : IsDisciplined guest.layout 0 true (steps_of second_byte)
unfolding name_of
second_byte_kept = (by_actor (inl (omega arith)) refl (read_ram (inl refl)), (by_actor (inl (omega arith)) refl (touch_ipi (inl refl)), (by_actor (inl (omega arith)) refl (print (inl refl) refl (omega arith, omega arith)), first_printed_kept)))

second_printed_kept : IsDisciplined guest.layout 0 true (steps_of second_printed)
unfolding name_of
second_printed_kept = (by_actor (inl (omega arith)) refl (draw (inl refl)), (by_actor (inl (omega arith)) refl (read_ram (inl refl)), (by_actor (inl (omega arith)) refl (touch_ipi (inl refl)), second_byte_kept)))

third_byte_kept : IsDisciplined guest.layout 0 true (steps_of third_byte)
unfolding name_of
third_byte_kept = (by_actor (inl (omega arith)) refl (read_ram (inl refl)), (by_actor (inl (omega arith)) refl (touch_ipi (inl refl)), (by_actor (inl (omega arith)) refl (print (inl refl) refl (omega arith, omega arith)), second_printed_kept)))

third_printed_kept : IsDisciplined guest.layout 0 true (steps_of third_printed)
unfolding name_of
third_printed_kept = (by_actor (inl (omega arith)) refl (draw (inl refl)), (by_actor (inl (omega arith)) refl (read_ram (inl refl)), (by_actor (inl (omega arith)) refl (touch_ipi (inl refl)), third_byte_kept)))

finisher_kept : IsDisciplined guest.layout 0 true (steps_of finisher)
unfolding name_of
finisher_kept = (by_actor (inl (omega arith)) refl (read_ram (inl refl)), (by_actor (inl (omega arith)) refl (touch_ipi (inl refl)), (by_actor (inl (omega arith)) refl (print (inl refl) refl (omega arith, omega arith)), third_printed_kept)))

upper_kept : IsDisciplined guest.layout 0 true (steps_of upper)
unfolding name_of
upper_kept = (by_actor (inl (omega arith)) refl (read_ram (inl refl)), (by_actor (inl (omega arith)) refl (touch_ipi (inl refl)), finisher_kept))

passing_kept : IsDisciplined guest.layout 0 true (steps_of passing)
unfolding name_of
passing_kept = (by_actor (inl (omega arith)) refl (read_ram (inl refl)), (by_actor (inl (omega arith)) refl (touch_ipi (inl refl)), upper_kept))

hello_kept : IsDisciplined guest.layout 0 true (steps_of hello)
unfolding name_of
hello_kept = (by_actor (inl (omega arith)) refl (lower), (by_actor (inl (omega arith)) refl (set_stop (pass refl)), (by_actor (inl (omega arith)) refl (read_ram (inl refl)), (by_actor (inl (omega arith)) refl (touch_ipi (inl refl)), passing_kept))))

-- the hart keeps to the discipline
hart_kept : IsDisciplined guest.layout 0 true (own_steps 0 (steps_of all ++ stores))
unfolding name_of
hart_kept = (by_actor (inl (omega arith)) refl (load_stop), hello_kept)

events_are : events_of all ≡ run
events_are = refl

-- O, K and a line feed
output_is : (state_of guest run).output ≡ 79 ∷ 75 ∷ 10 ∷ []
unfolding need_of done walk_of executing
output_is = refl

console_is : (value_at (number_of Cons) (steps_of all ++ stores) ∷ value_at first_console_word (steps_of all ++ stores) ∷ value_at (first_console_word + 1) (steps_of all ++ stores) ∷ value_at (first_console_word + 2) (steps_of all ++ stores) ∷ []) ≡ (3 ∷ (79 + 256) ∷ (75 + 256) ∷ (10 + 256) ∷ [])
console_is = refl

reason_is : (state_of guest run).reason ≡ Some Reason.Pass
unfolding need_of done walk_of executing
reason_is = refl

stop_is : reason_in (value_at (number_of Stop) (steps_of all ++ stores)) ≡ Some Reason.Pass
stop_is = refl
