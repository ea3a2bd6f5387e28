-- What the parts of a turn do at a remote fence (RISC-V SBI, "RFENCE Extension"), step by step, and how one begins in a hart's log.
use Rattle.std.specs.Prelude.{◌≡◌, ℕ, true, List, pos, replicate, slice_index}
use Rattle.rv64_priv.specs.State.{Arch}
use Rattle.rv64_exec.specs.Code.{Code}
use Rattle.rv64_exec.specs.declared.needs.Answer.{Answer}
use Rattle.rv64_exec.specs.declared.needs.Need.{Need}
use Rattle.rv64_exec.specs.Finish.{after_sbi}
use Rattle.rv64_exec.specs.Plan.{need_of_code}
use Rattle.step_laws.specs.declared.steps.Step.{Step}
use Rattle.machine_model.specs.State.{Setup}
use Rattle.guest_ram.specs.declared.port.Seen.{Seen}
use Rattle.guest_ram.specs.Ports.{Shown}
use Rattle.tlb_lock.specs.declared.lock.Busy.{Busy}
use Rattle.hart_calls.specs.declared.spans.Span.{Span}
use Rattle.sbi_calls.specs.declared.spans.Fence.{Fence}
use Rattle.sbi_calls.specs.Fences.{GoesWithFence, HasBeenHeld, HasFlushedOwn, HasFoundOpen, IsAnsweredAt, IsTarget}
use Rattle.sbi_calls.specs.Spans.{is_named, pieces_of}
use Rattle.turn_pieces.specs.Log.{Log}
use Rattle.hart_turn.specs.declared.ends.Wait4.{Wait4}
use Rattle.hart_turn.specs.declared.hart.Call.{Call}
use Rattle.hart_turn.specs.declared.hart.Hart.{Hart}
use Rattle.hart_turn.specs.Executing.{AtExecute}
use Rattle.hart_turn.specs.Logs.{AtWork}

-- nothing of it is posted, answered or flushed
abbrev pub new_fence : Fence
new_fence = record { posted = replicate 16 0; acked = replicate 16 0 }

-- the hart has this fence in progress
abbrev pub with_fence : (harts : ℕ) → Span → Fence → Hart → Hart
with_fence harts span fence h = record h { call = Call.Fence harts span fence }

-- its ECALL has succeeded: 0 stands in a0 and a1, and it goes on to the next instruction
abbrev pub succeeded : Arch → Arch
succeeded c = after_sbi c (Answer.Pair (pos 0) 0)

-- The fence is in progress still, and has come to this: what was posted and answered since a base stands
pub record IsStillFencing (harts : ℕ) (span : Span) (fence now : Fence) (h k : Hart) (p q : Shown) : Type 0 where
  pub still : k ≡ record h { call = Call.Fence harts span now; book = k.book; sent = k.sent }
  pub goes_on : (base : List Step) → GoesWithFence harts span h.sent fence base p → GoesWithFence harts span k.sent now base q

-- a place at a hart that it names still holds a request; or the own lock is held, behind so many own pieces
pub data HasFenceToWait (harts : ℕ) (span : Span) (fence : Fence) (h k : Hart) (p q : Shown) : Wait4 → Type 0 where
  unanswered : (seen : Seen) (now : Fence) → IsStillFencing harts span fence now h k p q → HasFlushedOwn span (slice_index fence.acked p.own.actor) (slice_index now.acked p.own.actor) p q h.book k.book → HasFoundOpen harts seen q
      → HasFenceToWait harts span fence h k p q (Wait4.Ack seen)
  locked_out : (busy : Busy) (now : Fence) → IsStillFencing harts span fence now h k p q → HasBeenHeld span (slice_index fence.acked p.own.actor) (slice_index now.acked p.own.actor) busy.holder p q h.book k.book
      → HasFenceToWait harts span fence h k p q (Wait4.Lock busy)

-- Each other hart that it names has answered all pieces since the fence's base, and all own ones are flushed where it names the own hart; the
-- ECALL has succeeded
pub record HasFenced (harts : ℕ) (span : Span) (fence : Fence) (h k : Hart) (p q : Shown) : Type 0 where
  pub still : k ≡ record h { arch = succeeded h.arch; call = Call.Nothing; book = k.book; sent = k.sent }
  pub to : ℕ
  pub flushed : HasFlushedOwn span (slice_index fence.acked p.own.actor) to p q h.book k.book
  pub own_done : is_named harts p.own.actor ≡ true → to ≡ pieces_of span
  pub others_done : (base : List Step) → GoesWithFence harts span h.sent fence base p → (t : ℕ) → IsTarget harts q t → IsAnsweredAt span t base q

-- each log of the one hart that holds a call's word, and may execute it, is one of the other at work
abbrev pub BeginsCall : (h k : Hart) → Shown → Type 0
BeginsCall h k p = (code : Code) → need_of_code h.arch code ≡ Need.Sbi → (u : Setup) (a : ℕ) (l : Log) → AtExecute h code p u a l → AtWork k p u a l
