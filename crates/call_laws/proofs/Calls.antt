-- What a call did, case by case.
use Rattle.std.proofs.Common.{◌≡◌, ◌≢◌, ℕ, zero, suc, ◌+◌, ◌<◌, ◌≤◌, Bool, true, false, List, [], ◌∷◌, length, take, refl, sym, ap, subst, ◌∙◌, arith}
use Rattle.std.specs.Prelude.{◌/◌, ◌%◌, ◌^◌, if◌then◌else◌, pos, Some, bit_or}
use Rattle.std.proofs.lemmas.Bool.{le-leb, lt-leb}
use Rattle.rv64_priv.specs.State.{Arch}
use Rattle.rv64_exec.specs.declared.needs.Answer.{Answer}
use Rattle.step_laws.specs.Words.{ram_word}
use Rattle.machine_model.specs.declared.mode.Mode.{Mode}
use Rattle.machine_model.specs.declared.reason.Reason.{Reason}
use Rattle.machine_model.specs.Event.{only}
use Rattle.machine_model.specs.Memory.{Memory}
use Rattle.machine_model.specs.State.{is_halted}
use Rattle.machine_model.specs.Perform.{Surroundings, call_outcome, ipi_becomes, print_outcome}
use Rattle.machine_model.specs.Sbi.{Begins, already_available, byte_at, bytes_from, fails, sbi_of, state_number}
use Rattle.guest_ram.specs.Ports.{Shown, layout_of}
use Rattle.hart_calls.specs.declared.asking.Asked.{Asked}
use Rattle.hart_calls.specs.declared.outcomes.SbiEnd.{SbiEnd}
use Rattle.hart_calls.specs.Asked.{IsAsked, call_asked}
use Rattle.hart_calls.specs.Called.{HasDone, HasLeft, HasNamed, HasTried, HasWritten, HasWrittenByte, all_put, fills, found_full, is_own, needs_section, no_byte, none_named, put, refused, some_named, started, stopped, stopped_last}
use Rattle.hart_calls.specs.States.{mode_found}
use Rattle.call_laws.specs.Found.{IsFound, IsFoundByte, IsFoundFrom, IsFoundTrying, IsFoundWriting}
use Rattle.call_laws.specs.Did.{answer_of, did_byte, did_call, did_trying, did_writing}

next_byte : (from i : ℕ) → from + 1 + i ≡ from + suc i
next_byte from i = omega arith

-- the bytes of words that were found so
pub bytes_found : (m finds : Memory) (from n : ℕ) → IsFoundFrom m finds from n → bytes_from m from n ≡ bytes_from finds from n
bytes_found m finds from zero same = refl
bytes_found m finds from (suc n) same =
    let start : from + 0 ≡ from = omega arith in
    let here : m (ram_word from) ≡ finds (ram_word from) = subst (λ k. m (ram_word k) ≡ finds (ram_word k)) start (same 0 (omega arith)) in
    let rest : bytes_from m (from + 1) n ≡ bytes_from finds (from + 1) n =
    bytes_found m finds (from + 1) n (λ i less. subst (λ k. m (ram_word k) ≡ finds (ram_word k)) (sym (next_byte from i)) (same (suc i) (omega arith))) in
    ap (λ v. v / 256 ^ (from % 8) % 256 ∷ bytes_from m (from + 1) n) here ∙ ap (λ l. byte_at finds from ∷ l) rest

bytes_length : (m : Memory) (from n : ℕ) → length (bytes_from m from n) ≡ n
bytes_length m from zero = refl
bytes_length m from (suc n) = ap suc (bytes_length m (from + 1) n)

bytes_taken : (m : Memory) (from k n : ℕ) → k ≤ n → take k (bytes_from m from n) ≡ bytes_from m from k
bytes_taken m from zero n less = refl
bytes_taken m from (suc k) zero less = absurd (omega arith)
bytes_taken m from (suc k) (suc n) less = ap (λ l. byte_at m from ∷ l) (bytes_taken m (from + 1) k n (omega arith))

-- bytes that find a place, and bytes of which some find none
prints_all : (room : ℕ) (bytes : List ℕ) (answer : Answer) → length bytes ≤ room → print_outcome room bytes answer ≡ record (only answer) { bytes = bytes }
prints_all room bytes answer few = ap (λ b. if b then record (only answer) { bytes = bytes } else record (only Answer.Nothing) { bytes = take room bytes; reason = Some Reason.OutFull }) (le-leb (length bytes) room few)

prints_some : (room : ℕ) (bytes : List ℕ) (answer : Answer) → room < length bytes → print_outcome room bytes answer ≡ record (only Answer.Nothing) { bytes = take room bytes; reason = Some Reason.OutFull }
prints_some room bytes answer many = ap (λ b. if b then record (only answer) { bytes = bytes } else record (only Answer.Nothing) { bytes = take room bytes; reason = Some Reason.OutFull }) (lt-leb (length bytes) room many)

if_halted : (t at opaque : ℕ) (b : Bool) (modes : Mode) → is_halted modes ≡ b → (if is_halted modes then Begins t at opaque else fails already_available) ≡ (if b then Begins t at opaque else fails already_available)
if_halted t at opaque b mode e = ap (λ h. if h then Begins t at opaque else fails already_available) e

not_halted : (n : ℕ) → n ≢ 1 → is_halted (mode_found n) ≡ false
not_halted zero ne = refl
not_halted (suc zero) ne = absurd (ne refl)
not_halted (suc (suc n)) ne = refl

module _ (w : Surroundings) (p q : Shown) where
  tries : (target at opaque : ℕ) (end : SbiEnd) (x : HasTried p q target at opaque end) → IsFoundTrying w p q target at opaque end x
      → call_outcome w.memory w.room (if is_halted (w.modes target) then Begins target at opaque else fails already_available) ≡ did_trying p q target at opaque end x
  tries target at opaque end (started other x) found = ap (call_outcome w.memory w.room) (if_halted target at opaque true (w.modes target) (ap is_halted found))
  tries target at opaque end (refused n other ne x) found = ap (call_outcome w.memory w.room) (if_halted target at opaque false (w.modes target) (ap is_halted found ∙ not_halted n ne))
  tries target at opaque end (is_own own same) found = ap (call_outcome w.memory w.room) (if_halted target at opaque false (w.modes target) found)

  writes : (from count : ℕ) (end : SbiEnd) (section : Bool) (x : HasWritten p q from count end section) → IsFoundWriting w p q from count end section x
      → print_outcome w.room (bytes_from w.memory from count) (Answer.Pair (pos 0) count) ≡ did_writing p q from count end section x
  writes from count end section (no_byte none same) found =
      ap (λ n. print_outcome w.room (bytes_from w.memory from n) (Answer.Pair (pos 0) n)) none ∙ prints_all w.room [] (Answer.Pair (pos 0) 0) (omega arith)
  writes from count end section (needs_section some same) found = absurd found
  writes from count end section (all_put finds some x) found =
      let few = found.1 in
      let size = bytes_length w.memory from count in
      prints_all w.room (bytes_from w.memory from count) (Answer.Pair (pos 0) count) (omega (arith, few, size))
      ∙ ap (λ l. record (only (Answer.Pair (pos 0) count)) { bytes = l }) (bytes_found w.memory finds from count found.0)
  writes from count end section (fills finds mid stands x y) found =
      let room_is = found.1 in
      let fewer = x.fewer in
      let size = bytes_length w.memory from count in
      prints_some w.room (bytes_from w.memory from count) (Answer.Pair (pos 0) count) (omega (arith, room_is, fewer, size))
      ∙ ap (λ l. record (only Answer.Nothing) { bytes = l; reason = Some Reason.OutFull })
      (ap (λ n. take n (bytes_from w.memory from count)) room_is ∙ bytes_taken w.memory from x.put count (omega (arith, fewer)) ∙ bytes_found w.memory finds from x.put found.0)

  writes_byte : (byte : ℕ) (answer end : SbiEnd) (x : HasWrittenByte p q byte answer end) → IsFoundByte w p q byte answer end x
      → print_outcome w.room (byte ∷ []) (answer_of answer) ≡ did_byte p q byte answer end x
  writes_byte byte answer end (put x) room = prints_all w.room (byte ∷ []) (answer_of answer) (omega (arith, room))
  writes_byte byte answer end (found_full place mid stands x y) none =
      prints_some w.room (byte ∷ []) (answer_of answer) (omega (arith, none)) ∙ ap (λ n. record (only Answer.Nothing) { bytes = take n (byte ∷ []); reason = Some Reason.OutFull }) none

  left_answer : (end : SbiEnd) → HasLeft p q end → answer_of end ≡ Answer.Nothing
  left_answer end (stopped left ne x) = refl
  left_answer end (stopped_last mid stands x y) = refl

  named_answer : (mask : ℕ) (whole end : SbiEnd) → answer_of whole ≡ Answer.Pair (pos 0) 0 → HasNamed p q mask whole end → answer_of end ≡ Answer.Pair (pos 0) 0
  named_answer mask whole end e (some_named some) = e
  named_answer mask whole end e (none_named none) = refl

  asked_outcome : (a : Arch) (section : Bool) (asked : Asked) (end : SbiEnd) (x : HasDone p q section asked end) → IsFound w p q section asked end x
      → call_outcome w.memory w.room (call_asked w.layout a w.modes w.memory asked) ≡ did_call p q section asked end x
  asked_outcome a section (Asked.Gives error value) end x found = ap (λ e. only (answer_of e)) (sym x.0)
  asked_outcome a section (Asked.GivesOne error) end x found = ap (λ e. only (answer_of e)) (sym x.0)
  asked_outcome a section (Asked.Sends mask) end x found =
      ap (λ n. record (only (Answer.Pair (pos 0) 0)) { entry = ipi_becomes (bit_or n mask) }) found ∙ ap (λ e. record (only (answer_of e)) { entry = ipi_becomes (bit_or x.1.0 mask) }) (sym x.0)
  asked_outcome a section (Asked.Fences harts span) end x found = ap only (sym (named_answer harts (SbiEnd.Fence harts span) end refl x.0))
  asked_outcome a section (Asked.Starts target at opaque) end x found = tries target at opaque end x found
  asked_outcome a section (Asked.TellsState target) end x found =
      ap (λ m. only (Answer.Pair (pos 0) (state_number m))) found ∙ ap (λ e. only (answer_of e)) (sym x.1)
  asked_outcome a section Asked.Leaves end x found = ap (λ y. record (only y) { stops = true }) (sym (left_answer end x))
  asked_outcome a section (Asked.Ends reason) end x found = ap (λ e. record (only (answer_of e)) { reason = Some reason }) (sym x.0)
  asked_outcome a section (Asked.Prints from count) end x found = writes from count end section x found
  asked_outcome a section (Asked.PrintsByte byte) end x found = writes_byte byte _ end x found
  asked_outcome a section (Asked.PrintsOne byte) end x found = writes_byte byte _ end x found

  pub calls_are : (a : Arch) (section : Bool) (asked : Asked) (end : SbiEnd) (done : HasDone p q section asked end) → w.layout ≡ layout_of p → IsAsked (layout_of p) a asked → IsFound w p q section asked end done
      → call_outcome w.memory w.room (sbi_of w.layout w.modes w.memory a) ≡ did_call p q section asked end done
  calls_are a section asked end done same is found =
      ap (λ l. call_outcome w.memory w.room (sbi_of l w.modes w.memory a)) same
      ∙ ap (call_outcome w.memory w.room) (sym (is.is w.modes w.memory))
      ∙ ap (λ l. call_outcome w.memory w.room (call_asked l a w.modes w.memory asked)) (sym same)
      ∙ asked_outcome a section asked end done found
