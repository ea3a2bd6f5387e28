-- What a call asks for, as far as its registers tell. What it comes to may hang on a hart's state or on memory besides.
use Rattle.std.specs.Prelude.{◌≡◌, ◌≢◌, ℕ, ◌+◌, ◌*◌, ◌%◌, ◌^◌, ◌<◌, ◌≤◌, true, List, [], ◌∷◌, Option, Some, None, if◌then◌else◌}
use Rattle.rv64_priv.specs.State.{Arch}
use Rattle.rv64_priv.specs.Bits.{is_set}
use Rattle.step_laws.specs.declared.words.Layout.{Layout}
use Rattle.machine_model.specs.declared.reason.Reason.{Reason}
use Rattle.machine_model.specs.Memory.{Memory}
use Rattle.machine_model.specs.State.{is_halted}
use Rattle.machine_model.specs.Sbi.{Call, Modes, GivesOne, PrintsOne, Sends, Begins, EndsAll, already_available, arg, are_there, bits_of, bytes_from, fails, named, sbi_of, state_number, succeeds}
use Rattle.hart_calls.specs.declared.asking.Asked.{Asked}
use Rattle.hart_calls.specs.Spans.{IsSpan, flush_of}

-- the reference machine's call of it, by the harts' states and memory
abbrev pub call_asked : Layout → Arch → Modes → Memory → Asked → Call
call_asked l a modes m (Asked.Gives error value) = Call.Gives error value
call_asked l a modes m (Asked.GivesOne error) = GivesOne error
call_asked l a modes m (Asked.Sends mask) = Sends mask
call_asked l a modes m (Asked.Fences harts span) = Call.Fences (named l.harts (arg a 0) (arg a 1)) (flush_of span)
call_asked l a modes m (Asked.Starts target at opaque) = if is_halted (modes target) then Begins target at opaque else fails already_available
call_asked l a modes m (Asked.TellsState target) = succeeds (state_number (modes target))
call_asked l a modes m Asked.Leaves = Call.Leaves
call_asked l a modes m (Asked.Ends reason) = EndsAll reason
call_asked l a modes m (Asked.Prints from count) = Call.Prints (bytes_from m from count) count
call_asked l a modes m (Asked.PrintsByte byte) = Call.Prints (byte ∷ []) 0
call_asked l a modes m (Asked.PrintsOne byte) = PrintsOne byte

-- the bits of these harts, where all are there
abbrev pub bits_if_there : ℕ → List ℕ → Option ℕ
bits_if_there harts hs = if are_there harts hs then Some (bits_of hs) else None

-- each bit is a hart's that is there
abbrev pub AreHarts : (harts mask : ℕ) → Type 0
AreHarts harts mask = (t : ℕ) → is_set mask t ≡ true → t < harts

-- a reason that a guest can give
abbrev pub IsGuestReason : Reason → Type 0
IsGuestReason Reason.Pass = Unit {0}
IsGuestReason (Reason.Fail code) = code < 2 ^ 16
IsGuestReason _ = ⊥

-- what is named is there: harts, the bytes of RAM
abbrev pub CanDo : Layout → Asked → Type 0
CanDo l (Asked.Starts target at opaque) = (target < l.harts) × (at % 4 ≡ 0)
CanDo l (Asked.TellsState target) = target < l.harts
CanDo l (Asked.Ends reason) = IsGuestReason reason
CanDo l (Asked.Prints from count) = (count ≤ 256) × (count ≢ 0 → (2 ^ 31 ≤ from) × (from + count ≤ 2 ^ 31 + 4096 * l.pages))
CanDo l _ = Unit {0}

-- the harts that a fence names, and its pages
abbrev pub IsSound : Layout → Arch → Asked → Type 0
IsSound l a (Asked.Fences harts span) = (bits_of (named l.harts (arg a 0) (arg a 1)) ≡ harts) × AreHarts l.harts harts × IsSpan span
IsSound l a asked = CanDo l asked

-- the registers ask for this, whatever the harts' states and memory are
pub record IsAsked (l : Layout) (a : Arch) (asked : Asked) : Type 0 where
  pub is : (modes : Modes) (m : Memory) → call_asked l a modes m asked ≡ sbi_of l modes m a
  pub sound : IsSound l a asked
