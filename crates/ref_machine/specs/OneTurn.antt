-- What one turn of a hart makes of what the machine on one thread keeps.
use Rattle.std.specs.Prelude.{◌≡◌, ℕ, ◌+◌, ◌-◌, ◌*◌, ◌/◌, ◌%◌, ◌^◌, ◌≤◌, ◌<◌, Bool, true, false, ◌&&◌, ◌==◌, if◌then◌else◌, MatchBool, List, ◌∷◌, length, Option, Some, None, slice_set, bit_and, bit_or}
use Rattle.rv64_decode.specs.declared.instruction.Instr.{Instr}
use Rattle.rv64_decode.specs.Encoding.{Decodes}
use Rattle.rv64_priv.specs.State.{Arch}
use Rattle.rv64_priv.specs.declared.state.Kind.{Kind}
use Rattle.rv64_priv.specs.Csr.{regime}
use Rattle.rv64_priv.specs.Pte.{is_bare}
use Rattle.rv64_priv.specs.Trap.{trapped, software_interrupt}
use Rattle.rv64_priv.specs.Walk.{Walked, walk_of}
use Rattle.rv64_exec.specs.declared.needs.AmoOp.{AmoOp}
use Rattle.rv64_exec.specs.declared.needs.IpiOp.{IpiOp}
use Rattle.rv64_exec.specs.declared.needs.Need.{Need}
use Rattle.rv64_exec.specs.declared.needs.Answer.{Answer}
use Rattle.rv64_exec.specs.Plan.{need_of}
use Rattle.rv64_exec.specs.Finish.{after}
use Rattle.step_laws.specs.Words.{first_ram_word}
use Rattle.step_laws.specs.Map.{console_places}
use Rattle.machine_model.specs.declared.reason.Reason.{Reason}
use Rattle.machine_model.specs.declared.mode.Mode.{Mode}
use Rattle.machine_model.specs.declared.mode.Mode.TheVariants.{Started, Halted, Pending}
use Rattle.ref_machine.specs.declared.hart.HartSlot.{HartSlot}
use Rattle.machine_model.specs.Memory.{StoreEntry, One}
use Rattle.machine_model.specs.Event.{Outcome, Starting}
use Rattle.machine_model.specs.Access.{Spot, AtRam, AtDevice, Faults, Reach, InRam, spot_of, second_va, reach, code_word}
use Rattle.machine_model.specs.Sbi.{Call, sbi_of}
use Rattle.machine_model.specs.Perform.{fault_outcome, load_outcome, store_outcome, width_of, is_misaligned, amo_outcome, lr_outcome, sc_outcome, sip_value, call_outcome}
use Rattle.machine_model.specs.Lawful.{is_pending}
use Rattle.machine_model.specs.Change as change
use Rattle.machine_model.specs.Change.{first_reason}
use Rattle.ref_machine.specs.Slots.{slot_at, modes_of, slots_all_halted, slot_begun, slots_with_start}
use Rattle.ref_machine.specs.SharedState.{Shared, ram_memory, ram_reads, ram_after}
use Rattle.ref_machine.specs.PlainState.{PlainState, slot, with_slot}

-- the walk of an address now, and the reach of an access
abbrev pub walk_end : Arch → Shared → Kind → (va : ℕ) → Walked
walk_end a b kind va = walk_of b.layout.pages (regime a) kind (ram_reads b.ram) va

abbrev pub reach_of : Arch → Shared → Kind → (va width : ℕ) → Reach
reach_of a b kind va width = reach kind va width (walk_end a b kind va) (walk_end a b kind (second_va va))

-- an address of RAM, where there is no translation, and the index of its word
pub record IsBarePlace (a : Arch) (b : Shared) (va index : ℕ) : Type 0 where
  pub bare : is_bare (regime a) ≡ true
  pub low : 2 ^ 31 ≤ va
  pub high : va < 2 ^ 31 + 4096 * b.layout.pages
  pub at : index ≡ (va - 2 ^ 31) / 8
  pub there : index < length b.ram

-- an access that leads to this word of RAM, which has all its bytes
pub record IsBareWord (a : Arch) (b : Shared) (va width index : ℕ) : Type 0 where
  pub there : index < length b.ram
  pub fits : va % 8 + width ≤ 8
  pub load : reach_of a b Kind.Load va width ≡ InRam (One (first_ram_word + index) (va % 8) width)
  pub store : reach_of a b Kind.Store va width ≡ InRam (One (first_ram_word + index) (va % 8) width)

-- the same of an access of one kind
pub record IsWordOf (a : Arch) (b : Shared) (kind : Kind) (va width index : ℕ) : Type 0 where
  pub there : index < length b.ram
  pub fits : va % 8 + width ≤ 8
  pub reach : reach_of a b kind va width ≡ InRam (One (first_ram_word + index) (va % 8) width)

-- the answer to a need, and what it changes besides its hart
pub record Effect : Type 0 where
  pub answer : Answer
  pub shared : Shared
  pub reason : Option Reason
  pub starts : Option Starting
  pub stops : Bool

-- an outcome that leaves the IPI word
abbrev pub effect_on : Shared → Outcome → Effect
effect_on b o = record {
  answer = o.answer;
  shared = record b { ram = ram_after b.ram o.entry; console = change.printed b.console o.bytes };
  reason = o.reason;
  starts = o.starts;
  stops = o.stops;
}

abbrev pub done_with : Shared → Answer → Option Reason → Effect
done_with b answer reason = record { answer = answer; shared = b; reason = reason; starts = None; stops = false }

abbrev pub answers : Shared → Answer → Effect
answers b answer = done_with b answer None

abbrev pub room : Shared → ℕ
room b = console_places - length b.console

-- the IPI word after an operation on a hart's bit
abbrev pub ipi_after : IpiOp → (ipi h : ℕ) → ℕ
ipi_after IpiOp.Read ipi h = ipi
ipi_after IpiOp.Set ipi h = bit_or ipi (2 ^ h)
ipi_after IpiOp.Clear ipi h = ipi - bit_and ipi (2 ^ h)

-- what an AMO, an LR and an SC do
abbrev pub amo_effect : Arch → Shared → (va : ℕ) → AmoOp → Bool → (value : ℕ) → Effect
amo_effect a b va op wide value =
    effect_on b (if is_misaligned wide va then fault_outcome 6 va else amo_outcome (ram_memory b.ram) va op wide value (reach_of a b Kind.Store va (width_of wide)))

abbrev pub reserve_effect : Arch → Shared → (va : ℕ) → Bool → Effect
reserve_effect a b va wide =
    effect_on b (if is_misaligned wide va then fault_outcome 4 va else lr_outcome (ram_memory b.ram) va wide (reach_of a b Kind.Load va (width_of wide)))

abbrev pub conditional_effect : Arch → Shared → (va : ℕ) → Bool → (value : ℕ) → Effect
conditional_effect a b va wide value =
    effect_on b (if is_misaligned wide va then fault_outcome 6 va else sc_outcome (ram_memory b.ram) a va wide value (reach_of a b Kind.Store va (width_of wide)))

-- what a need of hart h does, other than a call
abbrev pub effect_of_need : (h : ℕ) → Arch → Shared → Need → Effect
effect_of_need h a b (Need.Load va width sign) = effect_on b (load_outcome (ram_memory b.ram) va width sign (reach_of a b Kind.Load va width))
effect_of_need h a b (Need.Store va width value) = effect_on b (store_outcome (ram_memory b.ram) (room b) va width value (reach_of a b Kind.Store va width))
effect_of_need h a b (Need.Amo va op wide value) = amo_effect a b va op wide value
effect_of_need h a b (Need.Lr va wide) = reserve_effect a b va wide
effect_of_need h a b (Need.Sc va wide value) = conditional_effect a b va wide value
effect_of_need h a b (Need.Ipi op) = answers (record b { ipi = ipi_after op b.ipi h }) (Answer.Value (sip_value b.ipi h))
effect_of_need h a b (Need.Trap cause tval) = answers b (Answer.Fault cause tval)
effect_of_need h a b _ = answers b Answer.Nothing

-- what a call does: of memory's words it writes IPI alone
abbrev pub ipi_entered : ℕ → Option StoreEntry → ℕ
ipi_entered ipi (Some (w ∷ es)) = w.value
ipi_entered ipi _ = ipi

abbrev pub effect_called : Shared → Outcome → Effect
effect_called b o = record {
  answer = o.answer;
  shared = record b { ipi = ipi_entered b.ipi o.entry; console = change.printed b.console o.bytes };
  reason = o.reason;
  starts = o.starts;
  stops = o.stops;
}

abbrev pub effect_of_call : Shared → Call → Effect
effect_of_call b call = effect_called b (call_outcome (λ word. b.ipi) (room b) call)

abbrev pub call_of : List HartSlot → Shared → (h : ℕ) → Call
call_of slots b h = sbi_of b.layout (modes_of slots) (ram_memory b.ram) (slot_at slots h).arch

-- a hart behind an instruction, and behind a trap of none
abbrev pub slot_after : HartSlot → Instr → Answer → HartSlot
slot_after t i answer = record t { arch = after t.arch i answer; count = t.count + 1 }

abbrev pub slot_trapped : HartSlot → (cause tval : ℕ) → HartSlot
slot_trapped t cause tval = record t { arch = trapped t.arch cause tval; count = t.count + 1 }

-- the reason behind an instruction that gave this one
abbrev pub limited : (h count limit : ℕ) → Option Reason → Option Reason
limited h count limit reason = first_reason reason (if count == limit then Some (Reason.Limit h) else None)

abbrev pub shared_after : (h : ℕ) → HartSlot → Shared → Option Reason → Shared
shared_after h t b reason = record b { reason = limited h (t.count + 1) b.limit reason }

-- A word is done by its hart alone, or it is a call.
pub data Done : Type 0 where
  Alone : (t : HartSlot) (b : Shared) → Done
  Calls : (i : Instr) → Done

abbrev pub retired : (h : ℕ) → HartSlot → Instr → Effect → Done
retired h t i e = Alone (slot_after t i e.answer) (shared_after h t e.shared e.reason)

abbrev pub faulted : (h : ℕ) → HartSlot → Shared → (cause tval : ℕ) → Done
faulted h t b cause tval = Alone (slot_trapped t cause tval) (shared_after h t b None)

abbrev pub interrupted : HartSlot → Shared → Done
interrupted t b = Alone (record t { arch = trapped t.arch software_interrupt 0 }) b

abbrev pub after_need : (h : ℕ) → HartSlot → Shared → Instr → Need → Done
after_need h t b i Need.Sbi = Calls i
after_need h t b i n = retired h t i (effect_of_need h t.arch b n)

abbrev pub after_word : (h : ℕ) → HartSlot → Shared → (word : ℕ) → Option Instr → Done
after_word h t b word None = faulted h t b 2 word
after_word h t b word (Some i) = after_need h t b i (need_of t.arch i)

-- a word decodes in one way, and is done
pub record IsWordDone (h : ℕ) (t : HartSlot) (b : Shared) (word : ℕ) (d : Done) : Type 0 where
  pub found : Option Instr
  pub decodes : Decodes word found
  pub only : (other : Option Instr) → Decodes word other → found ≡ other
  pub is_done : d ≡ after_word h t b word found

-- a turn whose fetch leads there; none leads to a device
abbrev pub IsFetched : (h : ℕ) → HartSlot → Shared → Done → Spot → Type 0
IsFetched h t b d (AtRam pa) = IsWordDone h t b (code_word (ram_memory b.ram) pa) d
IsFetched h t b d (AtDevice pa) = ⊥
IsFetched h t b d (Faults cause tval) = d ≡ faulted h t b cause tval

-- a turn of a running hart
abbrev pub IsStep : (h : ℕ) → HartSlot → Shared → Done → Type 0
IsStep h t b d = MatchBool (is_pending t.arch h b.ipi) (d ≡ interrupted t b) (IsFetched h t b d (spot_of Kind.Fetch t.arch.pc (walk_end t.arch b Kind.Fetch t.arch.pc)))

-- behind a call: its hart is done, and perhaps stopped, and another hart's start is pending
abbrev pub slot_called : HartSlot → Instr → Answer → (stops : Bool) → HartSlot
slot_called t i answer stops = record (slot_after t i answer) { mode = if stops then Halted else t.mode }

abbrev pub slots_called : List HartSlot → (h : ℕ) → Instr → Effect → List HartSlot
slots_called slots h i e = slots_with_start (slice_set slots h (slot_called (slot_at slots h) i e.answer e.stops)) e.starts

-- no hart is left
abbrev pub last_stopped : List HartSlot → (stops : Bool) → Option Reason
last_stopped slots stops = if stops && slots_all_halted slots then Some Reason.AllStopped else None

abbrev pub shared_called : List HartSlot → HartSlot → (h : ℕ) → Effect → Shared
shared_called slots t h e = shared_after h t e.shared (first_reason e.reason (last_stopped slots e.stops))

abbrev pub after_call : PlainState → (h : ℕ) → Instr → Effect → PlainState
after_call p h i e = record { slots = slots_called p.slots h i e; shared = shared_called (slots_called p.slots h i e) (slot p h) h e }

abbrev pub after_done : PlainState → (h : ℕ) → Done → PlainState
after_done p h (Alone t b) = record { slots = slice_set p.slots h t; shared = b }
after_done p h (Calls i) = after_call p h i (effect_of_call p.shared (call_of p.slots p.shared h))

-- a turn
pub record IsStepped (h : ℕ) (p q : PlainState) : Type 0 where
  pub done : Done
  pub step : IsStep h (slot p h) p.shared done
  pub is_next : q ≡ after_done p h done

abbrev pub IsTurn : (h : ℕ) → PlainState → PlainState → Mode → Type 0
IsTurn h p q Halted = q ≡ p
IsTurn h p q Pending = q ≡ with_slot p h (slot_begun h (slot p h))
IsTurn h p q Started = IsStepped h p q
