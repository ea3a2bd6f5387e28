-- A hart between the parts of its turns, and how it goes with its port.
use Rattle.std.specs.Prelude.{◌≡◌, ℕ, ◌+◌, ◌==◌, ◌<◌, ◌≤◌, Bool, true, false, if◌then◌else◌, replicate, Option}
use Rattle.rv64_priv.specs.Csr.{regime}
use Rattle.rv64_priv.specs.State.{Arch}
use Rattle.rv64_exec.specs.Code.{Code}
use Rattle.step_laws.specs.Harts.{closed, is_owing, is_running, opening}
use Rattle.step_laws.specs.Output.{has_set_stop}
use Rattle.step_laws.specs.Sections.{Phase, inside, is_claimant, outside, phase}
use Rattle.machine_model.specs.Own.{Own}
use Rattle.machine_model.specs.State.{reset}
use Rattle.guest_ram.specs.Ports.{Shown, layout_of}
use Rattle.kept_fills.specs.Beside.{IsBeside}
use Rattle.word_cache.specs.Cached.{first_entries}
use Rattle.work_queue.specs.declared.rings.Sent.{Sent}
use Rattle.work_queue.specs.declared.rings.Served.{Served}
use Rattle.tlb_entry.specs.declared.books.Book.{Book}
use Rattle.work_queue.specs.Rings.{IsSentBy, IsServedBy}
use Rattle.guest_access.specs.Reaching.{KnowsFills}
use Rattle.hart_calls.specs.Asked.{AreHarts, IsAsked}
use Rattle.hart_calls.specs.declared.asking.Asked.{Asked}
use Rattle.hart_calls.specs.Spans.{IsSpan}
use Rattle.hart_calls.specs.declared.spans.Span.{Span}
use Rattle.sbi_calls.specs.declared.spans.Fence.{Fence}
use Rattle.sbi_calls.specs.Fences.{IsFencing}
use Rattle.hart_turn.specs.declared.hart.Call.{Call}
use Rattle.hart_turn.specs.declared.hart.Claim.{Claim}
use Rattle.hart_turn.specs.declared.hart.Hart.{Hart}

-- the section is claimed
abbrev pub is_made : Claim → Bool
is_made Claim.Made = true
is_made claim = false

-- where its hart stands between turns
abbrev pub phase_of : (is_inside : Bool) → Phase
phase_of true = inside
phase_of false = outside

-- a hart inside may make an instruction yet, and 64 at most, and has claimed nothing
abbrev pub IsInside : Hart → Type 0
IsInside h = (1 ≤ h.quantum) × (h.quantum ≤ 64) × (is_made h.claim ≡ false)

-- it stands where its record says: inside or outside, with its claim
pub record StandsBy (h : Hart) (p : Shown) : Type 0 where
  pub phase_is : phase p.own.steps ≡ phase_of h.inside
  pub claim_is : is_claimant p.own.steps ≡ is_made h.claim
  pub quantum : h.inside ≡ true → IsInside h

-- the registers ask for the fence, of harts and pages that are there, and it has come as far as the record shows
pub record IsFenceOf (harts : ℕ) (span : Span) (fence : Fence) (sent : Sent) (c : Arch) (p : Shown) : Type 0 where
  pub asked : IsAsked (layout_of p) c (Asked.Fences harts span)
  pub are_harts : AreHarts (layout_of p).harts harts
  pub is_span : IsSpan span
  pub fencing : IsFencing harts span sent fence p

-- a call in progress goes with the record
abbrev pub IsCallOf : Call → Sent → Arch → Shown → Type 0
IsCallOf Call.Nothing sent c p = Unit {0}
IsCallOf (Call.Fence harts span fence) sent c p = IsFenceOf harts span fence sent c p

-- The hart goes with its port, between the parts of its turns: it is beside its table, and what it keeps is what its record says. Until it has
-- given a reason for the machine's end its count is below its limit
pub record GoesWith (h : Hart) (p : Shown) : Type 0 where
  pub beside : IsBeside h.book p
  pub fills : KnowsFills h.book (regime h.arch) p
  pub number : h.number ≡ p.own.actor
  pub runs : is_running p.own.actor p.own.runs p.own.steps ≡ h.runs
  pub free : opening p.own.steps ≡ closed
  pub paid : is_owing p.own.actor p.own.steps ≡ false
  pub stands : StandsBy h p
  pub sent : IsSentBy h.sent p
  pub served : IsServedBy h.served p
  pub below : has_set_stop p.own.steps ≡ false → h.count < h.limit
  pub call : IsCallOf h.call h.sent h.arch p
  pub stopped : h.runs ≡ false → h.call ≡ Call.Nothing

-- it is as it was, but for where it stands
abbrev pub IsStill : (old new : Hart) → Type 0
IsStill h k = k ≡ record h { inside = k.inside; quantum = k.quantum; claim = k.claim }

-- it has gone in, with a new quantum; what it wants of the section is this
abbrev pub gone_in : Hart → Hart
gone_in h = record h { inside = true; quantum = 64 }

abbrev pub with_claim : Claim → Hart → Hart
with_claim claim h = record h { claim = claim }

-- it wants the section, where it hasn't claimed it
abbrev pub wanting : Hart → Hart
wanting h = record h { claim = if is_made h.claim then h.claim else Claim.Wanted }

-- it has served a round of requests
abbrev pub with_round : Book → Served → Hart → Hart
with_round book served h = record h { book = book; served = served }

-- between turns it is inside only where it runs and has no call in progress
pub record IsSettled (h : Hart) (p : Shown) : Type 0 where
  pub with : GoesWith h p
  pub works : h.inside ≡ true → (h.runs ≡ true) × (h.call ≡ Call.Nothing)

-- it has ended an instruction more
abbrev pub counted : Hart → Hart
counted h = record h { count = h.count + 1 }

-- what the reference machine has of it, with the word that it holds
abbrev pub own_of : Hart → (held : Option Code) → Own
own_of h held = record { arch = h.arch; held = held; count = h.count; runs = h.runs }

-- as a machine begins with it
abbrev pub first_hart : (number start limit : ℕ) → Hart
first_hart number start limit = record {
  number = number;
  arch = reset (if number == 0 then start else 0);
  count = 0;
  limit = limit;
  runs = number == 0;
  inside = false;
  quantum = 0;
  claim = Claim.Unwanted;
  call = Call.Nothing;
  book = record { hart = number; size = 64; used = 0; large = false };
  sent = record { next = replicate 16 0 };
  served = record { next = replicate 17 0 };
  decoded = first_entries;
}
