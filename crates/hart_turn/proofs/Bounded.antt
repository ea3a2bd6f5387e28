-- How many steps a turn makes at most, part by part.
use Rattle.std.proofs.Common.{◌≡◌, ℕ, ◌+◌, ◌*◌, ◌≤◌, Bool, sym, subst, arith}
use Rattle.step_laws.specs.Fields.{IsSize}
use Rattle.step_laws.specs.Map.{Word}
use Rattle.guest_ram.specs.Areas.{AnyWord, IsOfCalls, IsOfEnd}
use Rattle.guest_ram.specs.Ports.{GoesBy, Shown}
use Rattle.guest_ram.proofs.Moves.{goes_at_most, goes_made, goes_none, goes_then, goes_within}
use Rattle.tlb_fill.specs.Stepping.{IsOfFill}
use Rattle.flush.specs.Flushed.{full_steps}
use Rattle.code_fetch.specs.declared.fetching.Fetched.{Fetched}
use Rattle.hart_calls.specs.declared.spans.Span.{Span}
use Rattle.sbi_calls.specs.declared.spans.Fence.{Fence}
use Rattle.sbi_calls.specs.Fences.{IsOfFence}
use Rattle.hart_signals.specs.Signals.{HasFoundNoReason}
use Rattle.hart_signals.specs.Starts.{IsOfStart}
use Rattle.machine_model.specs.declared.reason.Reason.{Reason}
use Rattle.need_serving.specs.declared.ends.NeedEnd.{NeedEnd}
use Rattle.need_serving.specs.Serving.{IsOfNeeds}
use Rattle.signal_pieces.specs.Signalling.{IsOfSides}
use Rattle.hart_turn.specs.declared.ends.TurnEnd.{TurnEnd}
use Rattle.hart_turn.specs.declared.ends.TurnEnd.TheVariants as ends
use Rattle.hart_turn.specs.declared.hart.Hart.{Hart}
use Rattle.hart_turn.specs.Harts.{GoesWith}
use Rattle.hart_turn.specs.Parts as parts
use Rattle.hart_turn.specs.Parts.{HasEnded, HasGivenBack, HasSteppedAway, IsOfBegin, IsOfRequests}
use Rattle.hart_turn.specs.Paths as paths
use Rattle.hart_turn.specs.Paths.{HasComeIn, HasEndedAs, HasFetchedNext, HasGoneOn, HasGoneToWork, HasInstructed, HasMadeOf, HasResumed, HasSettled, HasTurned, HasWoken, HasWorked}
use Rattle.hart_turn.specs.Turning.{Further, IsGoingOn, LooksFirst}

size_few : (n : ℕ) → IsSize n → n ≤ 1024
size_few n is = grind (arith, is)

flush_few : (size most : ℕ) → size ≤ 1024 → 3 * 1024 + 27 ≤ most → full_steps size ≤ most
flush_few size most few le = omega (arith, few, le)

small : (h : Hart) (p : Shown) → GoesWith h p → full_steps h.book.size ≤ 3099
small h p can = flush_few h.book.size 3099 (size_few h.book.size can.beside.book.sized) (omega arith)

any : (n most : ℕ) (A : Word → Type 0) (p q : Shown) → n ≤ most → GoesBy n A p q → GoesBy most AnyWord p q
any n most A p q le goes = goes_at_most n most AnyWord p q le (goes_within n A AnyWord p q (λ w t. tt) goes)

still : (most : ℕ) (p q : Shown) → q ≡ p → GoesBy most AnyWord p q
still most p q same = subst (λ (y : Shown). GoesBy most AnyWord p y) (sym same) (goes_at_most 0 most AnyWord p p (omega arith) (goes_none AnyWord p))

both : (m n most : ℕ) (p q r : Shown) → m + n ≤ most → GoesBy m AnyWord p q → GoesBy n AnyWord q r → GoesBy most AnyWord p r
both m n most p q r le a b = goes_at_most (m + n) most AnyWord p r le (goes_then m n AnyWord p q r a b)

fence_few : (n : ℕ) → n ≤ 3099 → n + 3369 ≤ 6468
fence_few n le = omega (arith, le)

needs_few : (n : ℕ) → n ≤ 3099 → n + 769 ≤ 3868
needs_few n le = omega (arith, le)

start_few : (n : ℕ) → n ≤ 3099 → n + 4 ≤ 3103
start_few n le = omega (arith, le)

round_few : (n : ℕ) → n ≤ 3099 → 1 + 9 * (n + 388) ≤ 31384
round_few n le = omega (arith, le)

resume_goes : (harts : ℕ) (span : Span) (fence : Fence) (h k : Hart) (p q : Shown) (end : TurnEnd) → full_steps h.book.size ≤ 3099 → HasResumed harts span fence h k p q end → GoesBy 6469 AnyWord p q
resume_goes harts span fence h k p q end le (paths.waits wait x goes) = goes_at_most 6468 6469 AnyWord p q (omega arith) (any (full_steps h.book.size + 3369) 6468 IsOfFence p q (fence_few (full_steps h.book.size) le) goes)
resume_goes harts span fence h k p q end le (paths.fenced j mid x goes with counts g) =
    both 6468 1 6469 p mid q (omega arith) (any (full_steps h.book.size + 3369) 6468 IsOfFence p mid (fence_few (full_steps h.book.size) le) goes) (any 1 1 IsOfEnd mid q (omega arith) g)

ends_go : (word : ℕ) (h k : Hart) (p q : Shown) (come : NeedEnd) (end : TurnEnd) → full_steps h.book.size ≤ 3099 → HasEndedAs word h k p q come end → GoesBy 6469 AnyWord p q
ends_go word h k p q come end le (paths.done answer x goes) = any 1 6469 IsOfEnd p q (omega arith) goes
ends_go word h k p q come end le (paths.stopped x goes) = any 1 6469 IsOfEnd p q (omega arith) goes
ends_go word h k p q come end le (paths.asked harts span e x) = resume_goes harts span _ _ k p q e le x
ends_go word h k p q come end le (paths.lost at seen found is same) = still 6469 p q same
ends_go word h k p q come end le (paths.section is same) = still 6469 p q same
ends_go word h k p q come end le (paths.locked busy is same) = still 6469 p q same

makes_go : (h k : Hart) (p q : Shown) (found : Fetched) (end : TurnEnd) → full_steps h.book.size ≤ 3099 → HasMadeOf h k p q found end → GoesBy 10337 AnyWord p q
makes_go h k p q found end le (paths.locked busy is same) = still 10337 p q same
makes_go h k p q found end le (paths.faulted cause tval x goes) = any 1 10337 IsOfEnd p q (omega arith) goes
makes_go h k p q found end le (paths.executed word come e j mid x goes with y) =
    both 3868 6469 10337 p mid q (omega arith) (any (full_steps h.book.size + 769) 3868 IsOfNeeds p mid (needs_few (full_steps h.book.size) le) goes) (ends_go word j k mid q come e (small j mid with) y)

instruct_goes : (h k : Hart) (p q : Shown) (end : TurnEnd) → HasInstructed h k p q end → GoesBy 10354 AnyWord p q
instruct_goes h k p q end (paths.interrupted looked goes is) = any 1 10354 IsOfCalls p q (omega arith) goes
instruct_goes h k p q end (paths.fetched found e j mid x y) =
    both 17 10337 10354 p mid q (omega arith) (both 1 16 17 p x.asked mid (omega arith) (any 1 1 IsOfCalls p x.asked (omega arith) x.looks) (any 16 16 IsOfFill x.asked mid (omega arith) x.fetches)) (makes_go j k mid q found e (small j mid x.with) y)

settle_goes : (served : Bool) (end : TurnEnd) (h k : Hart) (p q : Shown) → HasSettled served end h k p q → GoesBy 1 AnyWord p q
settle_goes served end h k p q (paths.kept keeps is same) = still 1 p q same
settle_goes served end h k p q (paths.gave not_kept out x goes) = any 1 1 IsOfSides p q (omega arith) goes
settle_goes served end h k p q (paths.spent there x goes) = any 1 1 IsOfSides p q (omega arith) goes

work_goes : (served : Bool) (end : TurnEnd) (h k : Hart) (p q : Shown) → HasWorked served end h k p q → GoesBy 10355 AnyWord p q
work_goes served end h k p q x = both 10354 1 10355 p x.mid q (omega arith) (instruct_goes h x.made p x.mid end x.instructed) (settle_goes served end x.made k x.mid q x.settled)

wake_goes : (h k : Hart) (p q : Shown) (end : TurnEnd) → full_steps h.book.size ≤ 3099 → HasWoken h k p q end → GoesBy 3103 AnyWord p q
wake_goes h k p q end le (paths.locked busy x goes) = any (full_steps h.book.size + 4) 3103 IsOfStart p q (start_few (full_steps h.book.size) le) goes
wake_goes h k p q end le (paths.begun x goes) = any (full_steps h.book.size + 4) 3103 IsOfStart p q (start_few (full_steps h.book.size) le) goes
wake_goes h k p q end le (paths.idle x goes) = any (full_steps h.book.size + 4) 3103 IsOfStart p q (start_few (full_steps h.book.size) le) goes

go_goes : (served : Bool) (h k : Hart) (p q : Shown) (end : TurnEnd) → HasGoneToWork served h k p q end → GoesBy 10373 AnyWord p q
go_goes served h k p q end (paths.no_entry seen claim x goes is) = any 3 10373 IsOfSides p q (omega arith) goes
go_goes served h k p q end (paths.entered e mid claim x goes with y) = both 3 10355 10373 p mid q (omega arith) (any 3 3 IsOfSides p mid (omega arith) goes) (work_goes served e _ k mid q y)
go_goes served h k p q end (paths.no_section seen claim x goes) = any 18 10373 IsOfSides p q (omega arith) goes
go_goes served h k p q end (paths.alone e mid claim x goes with y) = both 18 10355 10373 p mid q (omega arith) (any 18 18 IsOfSides p mid (omega arith) goes) (work_goes served e _ k mid q y)

come_goes : (served : Bool) (end : TurnEnd) (h k : Hart) (p q : Shown) → full_steps h.book.size ≤ 3099 → HasComeIn served end h k p q → GoesBy 10373 AnyWord p q
come_goes served end h k p q le (paths.woken stands x) = goes_at_most 3103 10373 AnyWord p q (omega arith) (wake_goes h k p q end le x)
come_goes served end h k p q le (paths.works runs free x) = go_goes served h k p q end x
come_goes served end h k p q le (paths.resumes harts span fence runs is x) = goes_at_most 6469 10373 AnyWord p q (omega arith) (resume_goes harts span fence h k p q end le x)

on_goes : (h k : Hart) (p q : Shown) (end : TurnEnd) → HasGoneOn h k p q end → GoesBy 41759 AnyWord p q
on_goes h k p q end (paths.inside e j mid out goes with there x) = both 2 10355 41759 p mid q (omega arith) (any 2 2 IsOfSides p mid (omega arith) goes) (work_goes _ e j k mid q x)
on_goes h k p q end (paths.locked busy j mid out goes with there x more) =
    both 2 31384 41759 p mid q (omega arith) (any 2 2 IsOfSides p mid (omega arith) goes) (any (1 + 9 * (full_steps j.book.size + 388)) 31384 IsOfRequests mid q (round_few (full_steps j.book.size) (small j mid with)) more)
on_goes h k p q end (paths.served served e j i mid late out goes with there x more later y) =
    both 31386 10373 41759 p late q (omega arith)
    (both 2 31384 31386 p mid late (omega arith) (any 2 2 IsOfSides p mid (omega arith) goes) (any (1 + 9 * (full_steps j.book.size + 388)) 31384 IsOfRequests mid late (round_few (full_steps j.book.size) (small j mid with)) more))
    (come_goes served e i k late q (small i late later) y)

pub turn_goes : (h k : Hart) (p q : Shown) (end : TurnEnd) → HasTurned h k p q end → GoesBy 41760 AnyWord p q
turn_goes h k p q end (paths.ended reason x goes) = any 3 41760 IsOfBegin p q (omega arith) goes
turn_goes h k p q end (paths.went e mid found with x) = both 1 41759 41760 p mid q (omega arith) (goes_made AnyWord p mid _ _ _ _ found tt) (on_goes h k mid q e x)

-- behind its first look
looks_on : (end : TurnEnd) (p looked q : Shown) → IsGoingOn end → HasFoundNoReason p looked → Further looked q → LooksFirst end p q
looks_on (ends.Ended reason) p looked q going found more = absurd going
looks_on ends.Retired p looked q going found more = (looked, found, more)
looks_on ends.Rested p looked q going found more = (looked, found, more)
looks_on ends.Trapped p looked q going found more = (looked, found, more)
looks_on ends.Started p looked q going found more = (looked, found, more)
looks_on ends.Idle p looked q going found more = (looked, found, more)
looks_on (ends.Waiting wait) p looked q going found more = (looked, found, more)
looks_on (ends.Again anew) p looked q going found more = (looked, found, more)

pub on_looks : (h k : Hart) (p looked q : Shown) (end : TurnEnd) → IsGoingOn end → HasFoundNoReason p looked → HasGoneOn h k looked q end → LooksFirst end p q
on_looks h k p looked q end going found x = looks_on end p looked q going found (41759, on_goes h k looked q end x)

away_goes : (h k : Hart) (p q : Shown) → HasSteppedAway h k p q → GoesBy 1 AnyWord p q
away_goes h k p q (parts.left there is x) = goes_made AnyWord p q _ _ _ _ x tt
away_goes h k p q (parts.gave_back out x) = back_goes x
  where
    back_goes : HasGivenBack h k p q → GoesBy 1 AnyWord p q
    back_goes (parts.had_none un is same) = still 1 p q same
    back_goes (parts.gave_back un is x) = goes_made AnyWord p q _ _ _ _ x tt

pub end_looks : (reason : Reason) (h k : Hart) (p q : Shown) → HasEnded reason h k p q → LooksFirst (ends.Ended reason) p q
end_looks reason h k p q x = (x.mid, x.finds, (2, both 1 1 2 x.mid x.left.mid q (omega arith) (away_goes h k x.mid x.left.mid x.left.away) (goes_made AnyWord x.left.mid q _ _ _ _ x.left.signs tt)))
