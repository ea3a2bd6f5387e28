-- SBI calls, as a function of the registers and the states that they name.
use Rattle.std.specs.Prelude.{ℕ, zero, suc, ◌+◌, ◌-◌, ◌*◌, ◌/◌, ◌%◌, ◌^◌, Bool, not, ◌&&◌, ◌||◌, ◌==◌, nat_lt, nat_le, min, if◌then◌else◌, ℤ, pos, negsuc, List, [], ◌∷◌, ◌++◌, map, filter, Option, Some, None, bit_or}
use Rattle.std.specs.List.{list_all, list_any}
use Rattle.rv64_priv.specs.State.{Arch}
use Rattle.rv64_priv.specs.Flush.{Flush, Full, Pages}
use Rattle.rv64_priv.specs.Walk.{is_ram, ram_base}
use Rattle.rv64_priv.specs.Bits.{is_set}
use Rattle.rv64_exec.specs.Plan.{reg}
use Rattle.step_laws.specs.declared.words.Layout.{Layout}
use Rattle.step_laws.specs.Words.{ram_word}
use Rattle.machine_model.specs.declared.reason.Reason.{Reason}
use Rattle.machine_model.specs.Memory.{Memory}
use Rattle.machine_model.specs.declared.mode.Mode.{Mode}
use Rattle.machine_model.specs.declared.mode.Mode.TheVariants.{Started, Halted, Pending}
use Rattle.machine_model.specs.State.{is_halted}

-- what a call does
pub data Call : Type 0 where
  -- a0 gets the error and a1 the value, and nothing else is done
  Gives : (error : ℤ) (value : ℕ) → Call
  -- a0 gets the error and a1 is kept
  GivesOne : (error : ℤ) → Call
  -- bytes go to the console, then a0 and a1 as in Gives, or a1 kept
  Prints : (bytes : List ℕ) (value : ℕ) → Call
  PrintsOne : (byte : ℕ) → Call
  -- these bits are set in IPI, with success
  Sends : (mask : ℕ) → Call
  -- these harts flush this, and then it is a success
  Fences : (harts : List ℕ) (what : Flush) → Call
  -- a hart's start is pending, with success
  Begins : (target at opaque : ℕ) → Call
  -- this hart stops
  Leaves : Call
  -- the machine stops
  EndsAll : (reason : Reason) → Call

-- errors
abbrev pub not_supported : ℤ
not_supported = negsuc 1

abbrev pub invalid_parameter : ℤ
invalid_parameter = negsuc 2

abbrev pub invalid_address : ℤ
invalid_address = negsuc 4

abbrev pub already_available : ℤ
already_available = negsuc 5

abbrev pub fails : ℤ → Call
fails error = Gives error 0

abbrev pub succeeds : ℕ → Call
succeeds value = Gives (pos 0) value

-- a0 to a7
abbrev pub arg : Arch → ℕ → ℕ
arg a i = reg a (10 + i)

-- 0 to n - 1
abbrev pub below : ℕ → List ℕ
below zero = []
below (suc n) = below n ++ n ∷ []

-- the harts that a mask names: base -1 names all; else bit i names hart base + i, a sum that doesn't wrap
abbrev pub named : ℕ → (mask base : ℕ) → List ℕ
named harts mask base =
    if base == 2 ^ 64 - 1 then below harts else map (λ i. base + i) (filter (λ i. is_set mask i) (below 64))

abbrev pub are_there : ℕ → List ℕ → Bool
are_there harts hs = list_all (λ h. nat_lt h harts) hs

-- the bits of these harts
abbrev pub bits_of : List ℕ → ℕ
bits_of [] = 0
bits_of (h ∷ hs) = bit_or (2 ^ h) (bits_of hs)

-- the pages that a range touches; this project's own: one of more than 512 pages is everything
abbrev pub touched : (start size : ℕ) → Flush
touched start size =
    let first = start / 4096 in
    let count = (start + size - 1) / 4096 - first + 1 in
    if nat_lt 512 count then Full else Pages first count

-- the range of a remote fence, or none where it ends past the last address
abbrev pub fence_range : (start size : ℕ) → Option Flush
fence_range start size =
    if ((start == 0) && (size == 0)) || (size == 2 ^ 64 - 1) then Some Full else
    if size == 0 then Some (Pages (start / 4096) 1) else
    if nat_lt (2 ^ 64) (start + size) then None else Some (touched start size)

abbrev pub fence_over : List ℕ → Option Flush → Call
fence_over hs None = fails invalid_address
fence_over hs (Some what) = Fences hs what

-- base
abbrev pub is_known : ℕ → Bool
is_known eid = list_any (λ k. eid == k) (0x01 ∷ 0x08 ∷ 0x10 ∷ 0x735049 ∷ 0x52464E43 ∷ 0x48534D ∷ 0x53525354 ∷ 0x4442434E ∷ [])

abbrev pub base_call : Arch → (fid : ℕ) → Call
base_call a fid =
    if fid == 0 then succeeds 0x02000000 else
    if fid == 1 then succeeds 0x7fff else
    if fid == 2 then succeeds 1 else
    if fid == 3 then succeeds (if is_known (arg a 0) then 1 else 0) else
    if nat_le fid 6 then succeeds 0 else fails not_supported

-- with the harts that a mask names, where all are there
abbrev pub with_named : ℕ → Arch → (List ℕ → Call) → Call
with_named harts a then_do =
    let hs = named harts (arg a 0) (arg a 1) in
    if are_there harts hs then then_do hs else fails invalid_parameter

abbrev pub ipi_call : ℕ → Arch → (fid : ℕ) → Call
ipi_call harts a fid = if fid == 0 then with_named harts a (λ hs. Sends (bits_of hs)) else fails not_supported

abbrev pub rfence_call : ℕ → Arch → (fid : ℕ) → Call
rfence_call harts a fid =
    if fid == 0 then with_named harts a (λ hs. succeeds 0) else
    if nat_le fid 2 then with_named harts a (λ hs. fence_over hs (fence_range (arg a 2) (arg a 3))) else fails not_supported

-- hart states, by the harts' numbers
abbrev pub Modes : Type 0
Modes = ℕ → Mode

abbrev pub state_number : Mode → ℕ
state_number Started = 0
state_number Halted = 1
state_number Pending = 2

abbrev pub start_call : Layout → Modes → Arch → Call
start_call l modes a =
    if not (nat_lt (arg a 0) l.harts) then fails invalid_parameter else
    if not (arg a 1 % 4 == 0) || not (is_ram l.pages (arg a 1)) then fails invalid_address else
    if not (is_halted (modes (arg a 0))) then fails already_available else
    Begins (arg a 0) (arg a 1) (arg a 2)

abbrev pub hsm_call : Layout → Modes → Arch → (fid : ℕ) → Call
hsm_call l modes a fid =
    if fid == 0 then start_call l modes a else
    if fid == 1 then Leaves else
    if fid == 2 then (if nat_lt (arg a 0) l.harts then succeeds (state_number (modes (arg a 0))) else fails invalid_parameter) else
    fails not_supported

-- reset
abbrev pub reset_call : (type reason : ℕ) → Call
reset_call type reason =
    if type == 0 then
    (if reason == 0 then EndsAll Reason.Pass else
    if reason == 1 then EndsAll (Reason.Fail 1) else fails invalid_parameter) else
    if nat_le type 2 then fails not_supported else fails invalid_parameter

-- console
abbrev pub byte_at : Memory → ℕ → ℕ
byte_at m pa = m (ram_word pa) / 256 ^ (pa % 8) % 256

abbrev pub bytes_from : Memory → (pa count : ℕ) → List ℕ
bytes_from m pa zero = []
bytes_from m pa (suc count) = byte_at m pa ∷ bytes_from m (pa + 1) count

-- every byte of the range is in RAM
abbrev pub is_range_in_ram : ℕ → (pa count : ℕ) → Bool
is_range_in_ram pages pa count = (count == 0) || (nat_le ram_base pa && nat_le (pa + count) (ram_base + 4096 * pages))

abbrev pub console_call : ℕ → Memory → Arch → (fid : ℕ) → Call
console_call pages m a fid =
    if fid == 0 then
    (if (arg a 2 == 0) && is_range_in_ram pages (arg a 1) (arg a 0)
    then Prints (bytes_from m (arg a 1) (min (arg a 0) 256)) (min (arg a 0) 256) else fails invalid_parameter) else
    if fid == 2 then Prints (arg a 0 % 256 ∷ []) 0 else fails not_supported

-- a pair of numbers that has no call
abbrev pub no_call : (eid : ℕ) → Call
no_call eid = if nat_lt eid 0x10 then GivesOne not_supported else fails not_supported

-- the call that a7 and a6 name
unfoldable pub sbi_of : Layout → Modes → Memory → Arch → Call
sbi_of l modes m a =
    let eid = arg a 7 in
    let fid = arg a 6 in
    if eid == 0x01 then PrintsOne (arg a 0 % 256) else
    if eid == 0x08 then EndsAll Reason.Pass else
    if eid == 0x10 then base_call a fid else
    if eid == 0x735049 then ipi_call l.harts a fid else
    if eid == 0x52464E43 then rfence_call l.harts a fid else
    if eid == 0x48534D then hsm_call l modes a fid else
    if (eid == 0x53525354) && (fid == 0) then reset_call (arg a 0 % 2 ^ 32) (arg a 1 % 2 ^ 32) else
    if eid == 0x4442434E then console_call l.pages m a fid else no_call eid
