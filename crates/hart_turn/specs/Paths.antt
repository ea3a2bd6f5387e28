-- What a turn was made of, part by part. These words join the parts for the proofs of a whole turn; what callers rely on is said without them.
use Rattle.std.specs.Prelude.{◌≡◌, ◌≢◌, ℕ, ◌+◌, ◌*◌, ◌==◌, ◌&&◌, if◌then◌else◌, not, Bool, true, false}
use Rattle.rv64_priv.specs.Csr.{regime}
use Rattle.rv64_exec.specs.declared.needs.Answer.{Answer}
use Rattle.machine_model.specs.declared.reason.Reason.{Reason}
use Rattle.guest_ram.specs.Areas.{IsOfCalls, IsOfEnd}
use Rattle.guest_ram.specs.Ports.{GoesBy, Shown}
use Rattle.guest_ram.specs.declared.port.Seen.{Seen}
use Rattle.tlb_fill.specs.Stepping.{IsOfFill}
use Rattle.tlb_lock.specs.declared.lock.Busy.{Busy}
use Rattle.flush.specs.Flushed.{full_steps}
use Rattle.code_fetch.specs.declared.fetching.Fetched.{Fetched}
use Rattle.code_fetch.specs.declared.fetching.Fetched.TheVariants as comes
use Rattle.code_fetch.specs.Fetching.{HasFetched}
use Rattle.exclusive.specs.Entries.{HasEntered, HasTurnedBack}
use Rattle.hart_calls.specs.declared.spans.Span.{Span}
use Rattle.sbi_calls.specs.declared.spans.Fence.{Fence}
use Rattle.sbi_calls.specs.Fences.{IsOfFence}
use Rattle.hart_signals.specs.Signals.{HasFoundNoReason}
use Rattle.hart_signals.specs.Starts.{IsOfStart}
use Rattle.need_serving.specs.declared.ends.NeedEnd.{NeedEnd}
use Rattle.need_serving.specs.declared.ends.NeedEnd.TheVariants as needs
use Rattle.need_serving.specs.Serving.{IsOfNeeds}
use Rattle.signal_pieces.specs.Signalling.{IsOfSides}
use Rattle.hart_turn.specs.declared.ends.Anew.TheVariants as anew
use Rattle.hart_turn.specs.declared.ends.TurnEnd.{TurnEnd}
use Rattle.hart_turn.specs.declared.ends.TurnEnd.TheVariants as ends
use Rattle.hart_turn.specs.declared.ends.Wait4.{Wait4}
use Rattle.hart_turn.specs.declared.ends.Wait4.TheVariants as waiting
use Rattle.hart_turn.specs.declared.hart.Call.{Call}
use Rattle.hart_turn.specs.declared.hart.Claim.{Claim}
use Rattle.hart_turn.specs.declared.hart.Hart.{Hart}
use Rattle.hart_turn.specs.Executing.{HasExecuted, after_fetch}
use Rattle.hart_turn.specs.Fences.{HasFenced, HasFenceToWait, new_fence, with_fence}
use Rattle.hart_turn.specs.Harts.{GoesWith, gone_in, wanting, with_claim}
use Rattle.hart_turn.specs.Parts.{HasCounted, HasEnded, HasGivenBack, HasGoneAlone, HasHeldStart, HasLooked, HasServedRound, HasSpent, HasStarted, HasSteppedOut, HasStoppedServing, HasToWait, IsOfBegin, IsOfRequests, after_look}

-- the word of WFI
abbrev pub wait_for_interrupt : ℕ
wait_for_interrupt = 273678451

-- how a turn ends in which this word was executed with this answer
abbrev pub end_of : (word : ℕ) → Answer → TurnEnd
end_of word (Answer.Fault cause tval) = ends.Trapped
end_of word answer = if word == wait_for_interrupt then ends.Rested else ends.Retired

-- a fence went on, and waits; or it is done, and its call was counted
pub data HasResumed (harts : ℕ) (span : Span) (fence : Fence) (h k : Hart) (p q : Shown) : TurnEnd → Type 0 where
  waits : (wait : Wait4) → HasFenceToWait harts span fence h k p q wait → GoesBy (full_steps h.book.size + 3369) IsOfFence p q → HasResumed harts span fence h k p q (ends.Waiting wait)
  fenced : (j : Hart) (mid : Shown) → HasFenced harts span fence h j p mid → GoesBy (full_steps h.book.size + 3369) IsOfFence p mid → GoesWith j mid → HasCounted j k mid q → GoesBy 1 IsOfEnd mid q → HasResumed harts span fence h k p q ends.Retired

-- what came of a word that was executed, or given up
pub data HasEndedAs (word : ℕ) (h k : Hart) (p q : Shown) : NeedEnd → TurnEnd → Type 0 where
  done : (answer : Answer) → HasCounted h k p q → GoesBy 1 IsOfEnd p q → HasEndedAs word h k p q (needs.Done answer) (end_of word answer)
  stopped : HasCounted h k p q → GoesBy 1 IsOfEnd p q → HasEndedAs word h k p q needs.Stopped ends.Retired
  asked : (harts : ℕ) (span : Span) (end : TurnEnd) → HasResumed harts span new_fence (with_fence harts span new_fence h) k p q end → HasEndedAs word h k p q (needs.Fence harts span) end
  lost : (at seen found : ℕ) → k ≡ h → q ≡ p → HasEndedAs word h k p q (needs.Lost at seen found) (ends.Again (anew.Lost at seen found))
  section : k ≡ wanting h → q ≡ p → HasEndedAs word h k p q needs.NeedsSection (ends.Again anew.Section)
  locked : (busy : Busy) → k ≡ h → q ≡ p → HasEndedAs word h k p q (needs.Busy busy) (ends.Waiting (waiting.Lock busy))

-- what came of a fetch
pub data HasMadeOf (h k : Hart) (p q : Shown) : Fetched → TurnEnd → Type 0 where
  locked : (busy : Busy) → k ≡ h → q ≡ p → HasMadeOf h k p q (comes.Busy busy) (ends.Waiting (waiting.Lock busy))
  faulted : (cause tval : ℕ) → HasCounted h k p q → GoesBy 1 IsOfEnd p q → HasMadeOf h k p q (comes.Fault cause tval) ends.Trapped
  executed : (word : ℕ) (come : NeedEnd) (end : TurnEnd) (j : Hart) (mid : Shown) → HasExecuted word come h j p mid → GoesBy (full_steps h.book.size + 769) IsOfNeeds p mid → GoesWith j mid → HasEndedAs word j k mid q come end → HasMadeOf h k p q (comes.Word word) end

-- no interrupt was taken, and the word at pc was fetched, or not
pub record HasFetchedNext (found : Fetched) (h k : Hart) (p q : Shown) : Type 0 where
  pub asked : Shown
  pub looked : HasLooked false h p asked
  pub looks : GoesBy 1 IsOfCalls p asked
  pub fetched : HasFetched asked q h.book k.book (regime h.arch) h.arch.pc found
  pub fetches : GoesBy 16 IsOfFill asked q
  pub is : k ≡ after_fetch found k.book h
  pub with : GoesWith k q

-- an interrupt was taken, or an instruction fetched and made
pub data HasInstructed (h k : Hart) (p q : Shown) : TurnEnd → Type 0 where
  interrupted : HasLooked true h p q → GoesBy 1 IsOfCalls p q → k ≡ after_look true h → HasInstructed h k p q ends.Trapped
  fetched : (found : Fetched) (end : TurnEnd) (j : Hart) (mid : Shown) → HasFetchedNext found h j p mid → HasMadeOf j k mid q found end → HasInstructed h k p q end

-- answers behind which a hart stays inside
abbrev pub is_staying : TurnEnd → Bool
is_staying ends.Retired = true
is_staying ends.Trapped = true
is_staying (ends.Again (anew.Lost word seen found)) = true
is_staying _ = false

abbrev pub is_locked : TurnEnd → Bool
is_locked (ends.Waiting (waiting.Lock busy)) = true
is_locked _ = false

abbrev pub is_free : Call → Bool
is_free Call.Nothing = true
is_free _ = false

-- a hart inside goes on there: it runs, has no call in progress, served no request, and goes on with its next instruction
abbrev pub goes_on : (has_served : Bool) → TurnEnd → Hart → Bool
goes_on has_served end h = h.runs && is_free h.call && not has_served && is_staying end

-- a hart in its section keeps that: it waits for its own lock, to make its instruction anew
abbrev pub keeps_section : TurnEnd → Hart → Bool
keeps_section end h = not h.inside && is_free h.call && is_locked end

-- the hart stays as it is, or gives its section back, or spends one of its quantum
pub data HasSettled (has_served : Bool) (end : TurnEnd) (h k : Hart) (p q : Shown) : Type 0 where
  kept : keeps_section end h ≡ true → k ≡ h → q ≡ p → HasSettled has_served end h k p q
  gave : keeps_section end h ≡ false → h.inside ≡ false → HasGivenBack h k p q → GoesBy 1 IsOfSides p q → HasSettled has_served end h k p q
  spent : h.inside ≡ true → HasSpent (goes_on has_served end h) h k p q → GoesBy 1 IsOfSides p q → HasSettled has_served end h k p q

-- it made an instruction, and then that
pub record HasWorked (has_served : Bool) (end : TurnEnd) (h k : Hart) (p q : Shown) : Type 0 where
  pub made : Hart
  pub mid : Shown
  pub instructed : HasInstructed h made p mid end
  pub with : GoesWith made mid
  pub settled : HasSettled has_served end made k mid q

-- a stopped hart began, or not
pub data HasWoken (h k : Hart) (p q : Shown) : TurnEnd → Type 0 where
  locked : (busy : Busy) → HasHeldStart busy.holder h k p q → GoesBy (full_steps h.book.size + 4) IsOfStart p q → HasWoken h k p q (ends.Waiting (waiting.Lock busy))
  begun : HasStarted h k p q true → GoesBy (full_steps h.book.size + 4) IsOfStart p q → HasWoken h k p q ends.Started
  idle : HasStarted h k p q false → GoesBy (full_steps h.book.size + 4) IsOfStart p q → HasWoken h k p q ends.Idle

-- a hart went in, or alone, and made an instruction; or another claims the section, or isn't outside
pub data HasGoneToWork (has_served : Bool) (h k : Hart) (p q : Shown) : TurnEnd → Type 0 where
  no_entry : (seen : Seen) → h.claim ≡ Claim.Unwanted → HasTurnedBack seen p q → GoesBy 3 IsOfSides p q → k ≡ h → HasGoneToWork has_served h k p q (ends.Waiting (waiting.Entry seen))
  entered : (end : TurnEnd) (mid : Shown) → h.claim ≡ Claim.Unwanted → HasEntered p mid → GoesBy 3 IsOfSides p mid → GoesWith (gone_in h) mid → HasWorked has_served end (gone_in h) k mid q → HasGoneToWork has_served h k p q end
  no_section : (seen : Seen) → h.claim ≢ Claim.Unwanted → HasToWait seen h k p q → GoesBy 18 IsOfSides p q → HasGoneToWork has_served h k p q (ends.Waiting (waiting.Section seen))
  alone : (end : TurnEnd) (mid : Shown) → h.claim ≢ Claim.Unwanted → HasGoneAlone h p mid → GoesBy 18 IsOfSides p mid → GoesWith (with_claim Claim.Made h) mid → HasWorked has_served end (with_claim Claim.Made h) k mid q → HasGoneToWork has_served h k p q end

-- behind its requests
pub data HasComeIn (has_served : Bool) (end : TurnEnd) (h k : Hart) (p q : Shown) : Type 0 where
  woken : h.runs ≡ false → HasWoken h k p q end → HasComeIn has_served end h k p q
  works : h.runs ≡ true → h.call ≡ Call.Nothing → HasGoneToWork has_served h k p q end → HasComeIn has_served end h k p q
  resumes : (harts : ℕ) (span : Span) (fence : Fence) → h.runs ≡ true → h.call ≡ Call.Fence harts span fence → HasResumed harts span fence h k p q end → HasComeIn has_served end h k p q

-- behind its look at STOP
pub data HasGoneOn (h k : Hart) (p q : Shown) : TurnEnd → Type 0 where
  inside : (end : TurnEnd) (j : Hart) (mid : Shown) → HasSteppedOut h j p mid → GoesBy 2 IsOfSides p mid → GoesWith j mid → j.inside ≡ true → HasWorked false end j k mid q → HasGoneOn h k p q end
  locked : (busy : Busy) (j : Hart) (mid : Shown) → HasSteppedOut h j p mid → GoesBy 2 IsOfSides p mid → GoesWith j mid → j.inside ≡ false → HasStoppedServing busy.holder j k mid q
      → GoesBy (1 + 9 * (full_steps j.book.size + 388)) IsOfRequests mid q → HasGoneOn h k p q (ends.Waiting (waiting.Lock busy))
  served : (has_served : Bool) (end : TurnEnd) (j i : Hart) (mid late : Shown) → HasSteppedOut h j p mid → GoesBy 2 IsOfSides p mid → GoesWith j mid → j.inside ≡ false → HasServedRound has_served j i mid late
      → GoesBy (1 + 9 * (full_steps j.book.size + 388)) IsOfRequests mid late → GoesWith i late → HasComeIn has_served end i k late q → HasGoneOn h k p q end

-- from its look at STOP on
pub data HasTurned (h k : Hart) (p q : Shown) : TurnEnd → Type 0 where
  ended : (reason : Reason) → HasEnded reason h k p q → GoesBy 3 IsOfBegin p q → HasTurned h k p q (ends.Ended reason)
  went : (end : TurnEnd) (mid : Shown) → HasFoundNoReason p mid → GoesWith h mid → HasGoneOn h k mid q end → HasTurned h k p q end
