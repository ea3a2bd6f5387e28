-- What the reference machine does for an instruction's need.
use Rattle.std.specs.Prelude.{ℕ, ◌+◌, ◌-◌, ◌*◌, ◌%◌, ◌^◌, Bool, true, false, not, ◌&&◌, ◌==◌, nat_le, nat_lt, min, max, if◌then◌else◌, ℤ, pos, negsuc, int_lt, List, [], ◌∷◌, length, take, Option, Some, None, bit_and, bit_or, bit_xor}
use Rattle.std.specs.Int.{w64, cast_unsigned}
use Rattle.rv64_priv.specs.State.{Arch}
use Rattle.rv64_priv.specs.declared.state.Hold.{Hold}
use Rattle.rv64_priv.specs.declared.state.Kind.{Kind}
use Rattle.rv64_priv.specs.Walk.{Walked}
use Rattle.rv64_priv.specs.Bits.{is_set}
use Rattle.rv64_priv.specs.Trap.{access_fault}
use Rattle.rv64_exec.specs.declared.needs.AmoOp.{AmoOp}
use Rattle.rv64_exec.specs.declared.needs.IpiOp.{IpiOp}
use Rattle.rv64_exec.specs.declared.needs.Need.{Need}
use Rattle.rv64_exec.specs.declared.needs.Answer.{Answer}
use Rattle.step_laws.specs.declared.words.Layout.{Layout}
use Rattle.step_laws.specs.Words.{ipi_word, first_ram_word}
use Rattle.step_laws.specs.Map.{console_places}
use Rattle.machine_model.specs.declared.reason.Reason.{Reason}
use Rattle.machine_model.specs.Event.{Outcome, only}
use Rattle.machine_model.specs.Memory.{Memory, StoreEntry, Span, read, store_entry, first_word, first_offset}
use Rattle.machine_model.specs.State.{Setup, State, mode_of, memory}
use Rattle.machine_model.specs.Access.{Reach, InRam, OnDevice, Unreached, reach}
use Rattle.machine_model.specs.declared.device.DeviceStore.{DeviceStore}
use Rattle.machine_model.specs.Device.{device_value, device_stored}
use Rattle.machine_model.specs.Sbi.{Modes, Call, Gives, GivesOne, PrintsOne, Sends, Fences, Begins, Leaves, EndsAll, sbi_of}

-- what an instruction sees of the machine besides its hart
pub record Surroundings : Type 0 where
  pub layout : Layout
  pub memory : Memory
  -- how many bytes the console still takes
  pub room : ℕ
  -- of all harts
  pub modes : Modes

abbrev pub room : State → ℕ
room s = console_places - length s.output

abbrev pub surroundings : Setup → State → Surroundings
surroundings u s = record { layout = u.layout; memory = memory u s; room = room s; modes = mode_of s }

-- bytes that find a place; where one finds none the machine stops, and its call leaves all registers
abbrev pub print_outcome : (room : ℕ) → List ℕ → Answer → Outcome
print_outcome room bytes answer =
    if nat_le (length bytes) room
    then record (only answer) { bytes = bytes }
    else record (only Answer.Nothing) { bytes = take room bytes; reason = Some Reason.OutFull }

abbrev pub fault_outcome : (cause tval : ℕ) → Outcome
fault_outcome cause tval = only (Answer.Fault cause tval)

-- the number that k bits hold in two's complement
abbrev pub signed : (k n : ℕ) → ℤ
signed k n = if nat_lt n (2 ^ (k - 1)) then pos n else negsuc (2 ^ k - (n + 1))

-- a number of so many bytes in a register
abbrev pub extended : Bool → (width value : ℕ) → ℕ
extended sign width value = if sign then cast_unsigned w64 (signed (8 * width) value) else value

-- a load
abbrev pub device_load_outcome : (va width : ℕ) → Bool → Option ℕ → Outcome
device_load_outcome va width sign None = fault_outcome (access_fault Kind.Load) va
device_load_outcome va width sign (Some v) = only (Answer.Value (extended sign width v))

abbrev pub load_outcome : Memory → (va width : ℕ) → Bool → Reach → Outcome
load_outcome m va width sign (InRam span) = only (Answer.Value (extended sign width (read m span)))
load_outcome m va width sign (OnDevice pa) = device_load_outcome va width sign (device_value pa width)
load_outcome m va width sign (Unreached cause tval) = fault_outcome cause tval

-- a store
abbrev pub device_store_outcome : (room va : ℕ) → Option DeviceStore → Outcome
device_store_outcome room va None = fault_outcome (access_fault Kind.Store) va
device_store_outcome room va (Some (DeviceStore.PutsByte byte)) = print_outcome room (byte ∷ []) Answer.Nothing
device_store_outcome room va (Some (DeviceStore.Ends reason)) = record (only Answer.Nothing) { reason = Some reason }
device_store_outcome room va (Some DeviceStore.Ignored) = only Answer.Nothing

abbrev pub store_outcome : Memory → (room va width value : ℕ) → Reach → Outcome
store_outcome m room va width value (InRam span) = record (only Answer.Nothing) { entry = Some (store_entry m span value) }
store_outcome m room va width value (OnDevice pa) = device_store_outcome room va (device_stored pa width value)
store_outcome m room va width value (Unreached cause tval) = fault_outcome cause tval

-- 8 or 4 bytes
abbrev pub width_of : Bool → ℕ
width_of wide = if wide then 8 else 4

abbrev pub is_misaligned : Bool → ℕ → Bool
is_misaligned wide va = not (va % width_of wide == 0)

-- the operand of a width as a signed number
abbrev pub signed_of : Bool → ℕ → ℤ
signed_of wide n = signed (8 * width_of wide) (n % 256 ^ width_of wide)

-- the result of an AMO's operation on the old value and rs2
abbrev pub combined : AmoOp → Bool → (old value : ℕ) → ℕ
combined AmoOp.Swap wide old value = value
combined AmoOp.Add wide old value = old + value
combined AmoOp.Xor wide old value = bit_xor old value
combined AmoOp.And wide old value = bit_and old value
combined AmoOp.Or wide old value = bit_or old value
combined AmoOp.Min wide old value = if int_lt (signed_of wide value) (signed_of wide old) then value else old
combined AmoOp.Max wide old value = if int_lt (signed_of wide old) (signed_of wide value) then value else old
combined AmoOp.MinU wide old value = min old (value % 256 ^ width_of wide)
combined AmoOp.MaxU wide old value = max old (value % 256 ^ width_of wide)

abbrev pub amo_outcome : Memory → (va : ℕ) → AmoOp → Bool → (value : ℕ) → Reach → Outcome
amo_outcome m va op wide value (InRam span) =
    let old = read m span in
    record (only (Answer.Value (extended true (width_of wide) old))) { entry = Some (store_entry m span (combined op wide old value)) }
amo_outcome m va op wide value (OnDevice pa) = fault_outcome (access_fault Kind.Store) va
amo_outcome m va op wide value (Unreached cause tval) = fault_outcome cause tval

-- what a hold names, beside its word: the byte's physical address and the width
abbrev pub span_address : Span → ℕ
span_address span = 8 * (first_word span - first_ram_word) + first_offset span + 2 ^ 31

abbrev pub lr_outcome : Memory → (va : ℕ) → Bool → Reach → Outcome
lr_outcome m va wide (InRam span) =
    only (Answer.LrValue (extended true (width_of wide) (read m span)) (record { pa = span_address span; wide = wide; word = m (first_word span) }))
lr_outcome m va wide (OnDevice pa) = fault_outcome (access_fault Kind.Load) va
lr_outcome m va wide (Unreached cause tval) = fault_outcome cause tval

-- SC succeeds where the hold names this address and width and the whole word equals the held one
abbrev pub same_width : Bool → Bool → Bool
same_width p q = if p then q else not q

abbrev pub hold_stands : Memory → Span → Bool → Option Hold → Bool
hold_stands m span wide None = false
hold_stands m span wide (Some h) = (h.pa == span_address span) && same_width h.wide wide && (h.word == m (first_word span))

abbrev pub sc_outcome : Memory → Arch → (va : ℕ) → Bool → (value : ℕ) → Reach → Outcome
sc_outcome m a va wide value (InRam span) =
    if hold_stands m span wide a.hold
    then record (only (Answer.Sc true)) { entry = Some (store_entry m span value) }
    else only (Answer.Sc false)
sc_outcome m a va wide value (OnDevice pa) = fault_outcome (access_fault Kind.Store) va
sc_outcome m a va wide value (Unreached cause tval) = fault_outcome cause tval

-- the own bit of IPI, as sip shows it, and the word with that bit changed
abbrev pub sip_value : (ipi h : ℕ) → ℕ
sip_value ipi h = if is_set ipi h then 2 else 0

abbrev pub ipi_becomes : (value : ℕ) → Option StoreEntry
ipi_becomes value = Some (record { word = ipi_word; value = value } ∷ [])

abbrev pub ipi_entry : IpiOp → (ipi h : ℕ) → Option StoreEntry
ipi_entry IpiOp.Read ipi h = None
ipi_entry IpiOp.Set ipi h = ipi_becomes (bit_or ipi (2 ^ h))
ipi_entry IpiOp.Clear ipi h = ipi_becomes (ipi - bit_and ipi (2 ^ h))

-- an SBI call's outcome
abbrev pub call_outcome : Memory → (room : ℕ) → Call → Outcome
call_outcome m room (Gives error value) = only (Answer.Pair error value)
call_outcome m room (GivesOne error) = only (Answer.Single (cast_unsigned w64 error))
call_outcome m room (Call.Prints bytes value) = print_outcome room bytes (Answer.Pair (pos 0) value)
call_outcome m room (PrintsOne byte) = print_outcome room (byte ∷ []) (Answer.Single 0)
call_outcome m room (Sends mask) = record (only (Answer.Pair (pos 0) 0)) { entry = ipi_becomes (bit_or (m ipi_word) mask) }
call_outcome m room (Fences harts what) = only (Answer.Pair (pos 0) 0)
call_outcome m room (Begins target at opaque) = record (only (Answer.Pair (pos 0) 0)) { starts = Some (record { target = target; at = at; opaque = opaque }) }
call_outcome m room Leaves = record (only Answer.Nothing) { stops = true }
call_outcome m room (EndsAll reason) = record (only Answer.Nothing) { reason = Some reason }

-- what the need of hart h does, where its pages were walked with these ends
unfoldable pub perform : Surroundings → (h : ℕ) → Arch → (first second : Walked) → Need → Outcome
perform w h a first second (Need.Load va width sign) = load_outcome w.memory va width sign (reach Kind.Load va width first second)
perform w h a first second (Need.Store va width value) = store_outcome w.memory w.room va width value (reach Kind.Store va width first second)
perform w h a first second (Need.Amo va op wide value) =
    if is_misaligned wide va then fault_outcome 6 va else amo_outcome w.memory va op wide value (reach Kind.Store va (width_of wide) first second)
perform w h a first second (Need.Lr va wide) =
    if is_misaligned wide va then fault_outcome 4 va else lr_outcome w.memory va wide (reach Kind.Load va (width_of wide) first second)
perform w h a first second (Need.Sc va wide value) =
    if is_misaligned wide va then fault_outcome 6 va else sc_outcome w.memory a va wide value (reach Kind.Store va (width_of wide) first second)
perform w h a first second (Need.Ipi op) =
    record (only (Answer.Value (sip_value (w.memory ipi_word) h))) { entry = ipi_entry op (w.memory ipi_word) h }
perform w h a first second Need.Sbi = call_outcome w.memory w.room (sbi_of w.layout w.modes w.memory a)
perform w h a first second (Need.Trap cause tval) = fault_outcome cause tval
perform w h a first second _ = only Answer.Nothing
