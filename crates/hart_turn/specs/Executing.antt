-- What a fetch and an instruction leave of a hart, and what they are to its log of steps and events.
use Rattle.std.specs.Prelude.{None, Option, ◌≡◌, ℕ, false, Some}
use Rattle.rv64_decode.specs.Encoding.{Decodes}
use Rattle.rv64_decode.specs.declared.instruction.Instr.{Instr}
use Rattle.rv64_priv.specs.Csr.{regime}
use Rattle.rv64_priv.specs.Trap.{trapped}
use Rattle.rv64_exec.specs.Code.{Code}
use Rattle.rv64_exec.specs.Finish.{after}
use Rattle.rv64_exec.specs.Plan.{need_of}
use Rattle.rv64_exec.specs.declared.needs.Answer.{Answer}
use Rattle.machine_model.specs.State.{Setup}
use Rattle.guest_ram.specs.Ports.{Shown}
use Rattle.tlb_entry.specs.declared.books.Book.{Book}
use Rattle.need_serving.specs.Serving.{IsServed}
use Rattle.need_serving.specs.declared.ends.NeedEnd.{NeedEnd}
use Rattle.need_serving.specs.declared.ends.NeedEnd.TheVariants as ends
use Rattle.word_cache.specs.Cached.{Entries}
use Rattle.code_fetch.specs.declared.fetching.Fetched.{Fetched}
use Rattle.code_fetch.specs.declared.fetching.Fetched.TheVariants as comes
use Rattle.turn_pieces.specs.Grows.{Part}
use Rattle.turn_pieces.specs.Log.{Log}
use Rattle.access_pieces.specs.Serving.{Rests}
use Rattle.call_pieces.specs.Idle.{HasSaidLast}
use Rattle.table_pieces.specs.Flushing.{IsNotDue}
use Rattle.signal_pieces.specs.Signalling.{nobody}
use Rattle.hart_turn.specs.declared.hart.Hart.{Hart}
use Rattle.hart_turn.specs.Harts.{counted, is_made, own_of}
use Rattle.hart_turn.specs.Logs.{AtCount, AtEnd, AtFetch}

-- the hart, whose book is this then, has trapped behind a fault; else it is as it was
abbrev pub after_fetch : Fetched → Book → Hart → Hart
after_fetch (comes.Fault cause tval) b h = record h { arch = trapped h.arch cause tval; book = b }
after_fetch fetched b h = record h { book = b }

-- it holds this word, and may execute it
pub record AtExecute (h : Hart) (code : Code) (p : Shown) (u : Setup) (a : ℕ) (l : Log) : Type 0 where
  pub limit_is : u.limit ≡ h.limit
  pub rests : Rests nobody (own_of h (Some code)) p h.book (regime h.arch) u a l
  pub not_due : IsNotDue (own_of h (Some code)) u a l
  pub said : HasSaidLast a l

-- a word is held, whatever it decodes as; a fault is counted; where the lock was found held the turn's work is at its end
abbrev pub FetchesOn : Fetched → (h k : Hart) (p q : Shown) → Type 0
FetchesOn (comes.Word word) h k p q = (code : Code) → code.word ≡ word → Decodes code.word code.instr → Part (AtFetch h p) (AtExecute k code q)
FetchesOn (comes.Fault cause tval) h k p q = Part (AtFetch h p) (AtCount (counted k) q)
FetchesOn (comes.Busy busy) h k p q = Part (AtFetch h p) (AtEnd k q)

-- an instruction that was executed with an answer, or stopped its hart, whose book is this then; where it was given up, or asks for a fence, the
-- hart is as it was
abbrev pub after_end : Instr → Book → NeedEnd → Hart → Hart
after_end i b (ends.Done answer) h = record h { arch = after h.arch i answer; book = b }
after_end i b ends.Stopped h = record h { arch = after h.arch i Answer.Nothing; runs = false; book = b }
after_end i b end h = record h { book = b }

-- an illegal instruction's fault
abbrev pub after_unknown : (word : ℕ) → Hart → Hart
after_unknown word h = record h { arch = trapped h.arch 2 word }

-- An instruction that was executed is counted; one that asks for a fence is held until that is done; one that was given up is at the end of the
-- turn's work
abbrev pub AfterNeed : NeedEnd → Code → Hart → Shown → Setup → ℕ → Log → Type 0
AfterNeed (ends.Done answer) code k q u a l = AtCount (counted k) q u a l
AfterNeed ends.Stopped code k q u a l = AtCount (counted k) q u a l
AfterNeed (ends.Fence harts span) code k q u a l = AtExecute k code q u a l
AfterNeed end code k q u a l = AtEnd k q u a l

-- whichever word decodes so
abbrev pub ExecutesOn : NeedEnd → Instr → (h k : Hart) (p q : Shown) → Type 0
ExecutesOn end i h k p q = (word : ℕ) → Part (AtExecute h (record { word = word; instr = Some i }) p) (AfterNeed end (record { word = word; instr = Some i }) k q)

-- its decoded words are these
abbrev pub with_decoded : Entries → Hart → Hart
with_decoded decoded h = record h { decoded = decoded }

-- what was done for a word: a word that is no instruction traps, and any other serves what it needs
pub data HasDone (word : ℕ) (h k : Hart) (p q : Shown) : Option Instr → NeedEnd → Type 0 where
  trapped_on : k ≡ after_unknown word (with_decoded k.decoded h) → q ≡ p → HasDone word h k p q None (ends.Done (Answer.Fault 2 word))
  served : {end : NeedEnd} (i : Instr) → k ≡ after_end i k.book end (with_decoded k.decoded h) → IsServed p q h.book k.book h.arch (is_made h.claim) (need_of h.arch i) end → HasDone word h k p q (Some i) end

-- the word decodes so, and each log in which the hart holds it goes on to one at the end of its work
pub record HasEndedWord (word : ℕ) (h k : Hart) (p q : Shown) : Type 0 where
  pub instr : Option Instr
  pub decodes : Decodes word instr
  pub part : Part (AtExecute h (record { word = word; instr = instr }) p) (AtEnd k q)

-- the word decodes so, that was done, and its log goes on
pub record HasExecuted (word : ℕ) (end : NeedEnd) (h k : Hart) (p q : Shown) : Type 0 where
  pub instr : Option Instr
  pub decodes : Decodes word instr
  pub done : HasDone word h k p q instr end
  pub part : Part (AtExecute h (record { word = word; instr = instr }) p) (AfterNeed end (record { word = word; instr = instr }) k q)
