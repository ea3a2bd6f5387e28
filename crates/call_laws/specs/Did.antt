-- What a call did, as the reference machine tells it.
use Rattle.std.specs.Prelude.{ℕ, Bool, true, pos, [], ◌∷◌, Some, bit_or}
use Rattle.rv64_exec.specs.declared.needs.Answer.{Answer}
use Rattle.machine_model.specs.declared.reason.Reason.{Reason}
use Rattle.machine_model.specs.Event.{Outcome, only}
use Rattle.machine_model.specs.Perform.{ipi_becomes}
use Rattle.machine_model.specs.Sbi.{bytes_from}
use Rattle.guest_ram.specs.Ports.{Shown}
use Rattle.hart_calls.specs.declared.asking.Asked.{Asked}
use Rattle.hart_calls.specs.declared.outcomes.SbiEnd.{SbiEnd}
use Rattle.hart_calls.specs.Called.{HasDone, HasTried, HasWritten, HasWrittenByte, all_put, fills, found_full, put, started}

-- what the instruction gets; a fence is a success once it is done
abbrev pub answer_of : SbiEnd → Answer
answer_of (SbiEnd.Pair error value) = Answer.Pair error value
answer_of (SbiEnd.Single value) = Answer.Single value
answer_of (SbiEnd.Fence harts span) = Answer.Pair (pos 0) 0
answer_of _ = Answer.Nothing

module _ (p q : Shown) where
  abbrev pub did_trying : (target at opaque : ℕ) (end : SbiEnd) → HasTried p q target at opaque end → Outcome
  did_trying target at opaque end (started other x) = record (only (answer_of end)) { starts = Some (record { target = target; at = at; opaque = opaque }) }
  did_trying target at opaque end _ = only (answer_of end)

  abbrev pub did_writing : (from count : ℕ) (end : SbiEnd) (section : Bool) → HasWritten p q from count end section → Outcome
  did_writing from count end section (all_put finds some x) = record (only (answer_of end)) { bytes = bytes_from finds from count }
  did_writing from count end section (fills finds mid stands x y) = record (only (answer_of end)) { bytes = bytes_from finds from x.put; reason = Some Reason.OutFull }
  did_writing from count end section _ = only (answer_of end)

  abbrev pub did_byte : (byte : ℕ) (answer end : SbiEnd) → HasWrittenByte p q byte answer end → Outcome
  did_byte byte answer end (put x) = record (only (answer_of end)) { bytes = byte ∷ [] }
  did_byte byte answer end (found_full place mid stands x y) = record (only (answer_of end)) { reason = Some Reason.OutFull }

  abbrev pub did_call : (section : Bool) (asked : Asked) (end : SbiEnd) → HasDone p q section asked end → Outcome
  did_call section (Asked.Sends mask) end x = record (only (answer_of end)) { entry = ipi_becomes (bit_or x.1.0 mask) }
  did_call section (Asked.Starts target at opaque) end x = did_trying target at opaque end x
  did_call section Asked.Leaves end x = record (only (answer_of end)) { stops = true }
  did_call section (Asked.Ends reason) end x = record (only (answer_of end)) { reason = Some reason }
  did_call section (Asked.Prints from count) end x = did_writing from count end section x
  did_call section (Asked.PrintsByte byte) end x = did_byte byte _ end x
  did_call section (Asked.PrintsOne byte) end x = did_byte byte _ end x
  did_call section asked end x = only (answer_of end)
