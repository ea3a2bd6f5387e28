-- Why a machine ends, as the word STOP holds it: the kind in bits 7 to 0, and the guest's code or a hart above them.
use Rattle.std.specs.Prelude.{◌≡◌, ℕ, ◌+◌, ◌*◌, ◌/◌, ◌%◌, ◌^◌, ◌<◌, ◌&&◌, ◌==◌, nat_lt, if◌then◌else◌, Option, Some, None}
use Rattle.step_laws.specs.declared.words.Layout.{Layout}
use Rattle.step_laws.specs.Fields.{IsReason}
use Rattle.machine_model.specs.declared.reason.Reason.{Reason}

abbrev pub reason_word : Reason → ℕ
reason_word Reason.Pass = 1
reason_word (Reason.Fail code) = 2 + 2 ^ 8 * code
reason_word (Reason.Limit hart) = 3 + 2 ^ 8 * hart
reason_word Reason.OutFull = 4
reason_word Reason.AllStopped = 5
reason_word Reason.Stopped = 6

-- the reason that a word says
abbrev pub reason_in : ℕ → Option Reason
reason_in n =
    if n == 1 then Some Reason.Pass else
    if (n % 2 ^ 8 == 2) && nat_lt (n / 2 ^ 8) (2 ^ 16) then Some (Reason.Fail (n / 2 ^ 8)) else
    if (n % 2 ^ 8 == 3) && nat_lt (n / 2 ^ 8) (2 ^ 8) then Some (Reason.Limit (n / 2 ^ 8)) else
    if n == 4 then Some Reason.OutFull else
    if n == 5 then Some Reason.AllStopped else
    if n == 6 then Some Reason.Stopped else None

-- a code of 16 bits, and a hart's number of 8
abbrev pub IsReasonInRange : Reason → Type 0
IsReasonInRange (Reason.Fail code) = code < 2 ^ 16
IsReasonInRange (Reason.Limit hart) = hart < 2 ^ 8
IsReasonInRange _ = Unit {0}

abbrev pub IsReasonOf : Layout → Reason → Type 0
IsReasonOf layout (Reason.Fail code) = code < 2 ^ 16
IsReasonOf layout (Reason.Limit hart) = hart < layout.harts
IsReasonOf layout _ = Unit {0}

-- each reason is told by its word, and each word by its reason
abbrev pub ReasonsAreTold : Type 0
ReasonsAreTold = (reason : Reason) → IsReasonInRange reason → reason_in (reason_word reason) ≡ Some reason

abbrev pub WordsAreTold : Type 0
WordsAreTold = (n : ℕ) (reason : Reason) → reason_in n ≡ Some reason → reason_word reason ≡ n

-- the words of a layout's reasons are those that STOP may hold
abbrev pub ReasonsMayStand : Type 0
ReasonsMayStand = (layout : Layout) (reason : Reason) → IsReasonOf layout reason → IsReason layout (reason_word reason)
