-- A whole turn, part by part: behind its look at STOP it makes no other, and who draws a console place beyond the last gives a reason to end.
use Rattle.std.proofs.Common.{◌≡◌, ℕ, ◌+◌, ◌*◌, Bool, false, List, [], ◌∷◌, ◌++◌, refl, ap, ◌∙◌}
use Rattle.step_laws.specs.declared.steps.Step.{Step}
use Rattle.step_laws.specs.declared.steps.WordOp.{WordOp}
use Rattle.step_laws.specs.declared.steps.WordOp.TheVariants.{Load, Add}
use Rattle.step_laws.specs.Map.{Word, Done, Live, Pend, Run, Stop, name_of}
use Rattle.rv64_decode.specs.declared.instruction.Instr.{Instr}
use Rattle.std.specs.Prelude.{Option}
use Rattle.machine_model.specs.declared.reason.Reason.{Reason}
use Rattle.guest_ram.specs.Areas.{IsOfCalls}
use Rattle.guest_ram.specs.Ports.{GoesBy, Shown}
use Rattle.tlb_fill.specs.Stepping.{IsOfFill}
use Rattle.flush.specs.Flushed.{full_steps}
use Rattle.code_fetch.specs.declared.fetching.Fetched.{Fetched}
use Rattle.hart_calls.specs.declared.spans.Span.{Span}
use Rattle.sbi_calls.specs.declared.spans.Fence.{Fence}
use Rattle.sbi_calls.specs.Fences.{IsOfFence}
use Rattle.hart_signals.specs.Starts.{IsOfStart}
use Rattle.need_serving.specs.declared.ends.NeedEnd.{NeedEnd}
use Rattle.signal_pieces.specs.Signalling.{IsOfSides}
use Rattle.turn_pieces.specs.Grows.{look_next, looks_of}
use Rattle.turn_pieces.specs.Log.{Log, did, made, steps_of}
use Rattle.hart_turn.specs.declared.ends.TurnEnd.{TurnEnd}
use Rattle.hart_turn.specs.declared.hart.Hart.{Hart}
use Rattle.hart_turn.specs.Executing as executing
use Rattle.hart_turn.specs.Executing.{HasDone}
use Rattle.hart_turn.specs.Parts as parts
use Rattle.hart_turn.specs.Parts.{HasCounted, HasEnded, HasGivenBack, HasSteppedAway, IsOfRequests, at_limit, had_none, left, within}
use Rattle.hart_turn.specs.Paths as paths
use Rattle.hart_turn.specs.Paths.{HasComeIn, HasEndedAs, HasFetchedNext, HasGoneOn, HasGoneToWork, HasInstructed, HasMadeOf, HasResumed, HasSettled, HasWoken, HasWorked}
use Rattle.hart_turn.proofs.Draws.{calls_neither, fence_neither, fill_neither, requests_neither, sides_neither, start_neither}
use Rattle.hart_turn.proofs.Ordinary.{Adding, AreOrdinary, IsOrdinary, goes_added, made_added, none_added, served_is, set_stop, then_added}

-- so many of the steps look at STOP
abbrev pub looks_in : List Step → ℕ
looks_in [] = 0
looks_in (s ∷ r) = look_next (name_of s.word) s.op (looks_in r)

pub looks_alike : (l : Log) → looks_of l ≡ looks_in (steps_of l)
looks_alike [] = refl
looks_alike (made s ∷ l) = ap (look_next (name_of s.word) s.op) (looks_alike l)
looks_alike (did e ∷ l) = looks_alike l

look_ordinary : (runs : Bool) (w : Word) (op : WordOp) (arg n : ℕ) → IsOrdinary runs w op arg → look_next w op n ≡ n
look_ordinary runs Stop Load arg n off = absurd off
look_ordinary runs w op arg n off = refl

looks_behind : (runs : Bool) (added r : List Step) → AreOrdinary runs added → looks_in (added ++ r) ≡ looks_in r
looks_behind runs [] r all = refl
looks_behind runs (s ∷ added) r all = look_ordinary runs (name_of s.word) s.op s.arg (looks_in (added ++ r)) all.0 ∙ looks_behind runs added r all.1

pub looks_added : (runs : Bool) (p q : Shown) → Adding runs p q → looks_in q.own.steps ≡ looks_in p.own.steps
looks_added runs p q x = ap looks_in x.is ∙ looks_behind runs x.added p.own.steps x.all

weaker : (runs : Bool) (w : Word) (op : WordOp) (arg : ℕ) → IsOrdinary runs w op arg → IsOrdinary false w op arg
weaker runs Stop Load arg off = absurd off
weaker runs Live Add arg x = λ e. absurd (cc (e))
weaker runs w op arg x = tt

all_weaker : (runs : Bool) (r : List Step) → AreOrdinary runs r → AreOrdinary false r
all_weaker runs [] all = tt
all_weaker runs (s ∷ r) all = (weaker runs (name_of s.word) s.op s.arg all.0, all_weaker runs r all.1)

any_added : (runs : Bool) (p q : Shown) → Adding runs p q → Adding false p q
any_added runs p q x = record { added = x.added; is = x.is; all = all_weaker runs x.added x.all; full = x.full }

sides : (n : ℕ) (p q : Shown) → GoesBy n IsOfSides p q → Adding false p q
sides n p q goes = goes_added false n IsOfSides p q sides_neither goes

counts_add : (h k : Hart) (p q : Shown) → HasCounted h k p q → Adding false p q
counts_add h k p q (within is ne same) = none_added false p q same
counts_add h k p q (at_limit stands is at x) = set_stop false (Reason.Limit p.own.actor) stands p q x

resume_adds : (harts : ℕ) (span : Span) (fence : Fence) (h k : Hart) (p q : Shown) (end : TurnEnd) → HasResumed harts span fence h k p q end → Adding false p q
resume_adds harts span fence h k p q end (paths.waits wait x goes) = goes_added false (full_steps h.book.size + 3369) IsOfFence p q fence_neither goes
resume_adds harts span fence h k p q end (paths.fenced j mid x goes with counts g) = then_added false p mid q (goes_added false (full_steps h.book.size + 3369) IsOfFence p mid fence_neither goes) (counts_add j k mid q counts)

ends_add : (word : ℕ) (h k : Hart) (p q : Shown) (come : NeedEnd) (end : TurnEnd) → HasEndedAs word h k p q come end → Adding false p q
ends_add word h k p q come end (paths.done answer x goes) = counts_add h k p q x
ends_add word h k p q come end (paths.stopped x goes) = counts_add h k p q x
ends_add word h k p q come end (paths.asked harts span e x) = resume_adds harts span _ _ k p q e x
ends_add word h k p q come end (paths.lost at seen found is same) = none_added false p q same
ends_add word h k p q come end (paths.section is same) = none_added false p q same
ends_add word h k p q come end (paths.locked busy is same) = none_added false p q same

execute_adds : (word : ℕ) (h k : Hart) (p q : Shown) (i : Option Instr) (come : NeedEnd) → HasDone word h k p q i come → Adding false p q
execute_adds word h k p q i come (executing.trapped_on is same) = none_added false p q same
execute_adds word h k p q i come (executing.served instr is x) = any_added _ p q (served_is p q _ _ _ _ _ come x.served)

makes_add : (h k : Hart) (p q : Shown) (found : Fetched) (end : TurnEnd) → HasMadeOf h k p q found end → Adding false p q
makes_add h k p q found end (paths.locked busy is same) = none_added false p q same
makes_add h k p q found end (paths.faulted cause tval x goes) = counts_add h k p q x
makes_add h k p q found end (paths.executed word come e j mid x goes with y) = then_added false p mid q (execute_adds word h j p mid x.instr come x.done) (ends_add word j k mid q come e y)

fetch_adds : (found : Fetched) (h k : Hart) (p q : Shown) → HasFetchedNext found h k p q → Adding false p q
fetch_adds found h k p q x = then_added false p x.asked q (goes_added false 1 IsOfCalls p x.asked calls_neither x.looks) (goes_added false 16 IsOfFill x.asked q fill_neither x.fetches)

instruct_adds : (h k : Hart) (p q : Shown) (end : TurnEnd) → HasInstructed h k p q end → Adding false p q
instruct_adds h k p q end (paths.interrupted looked goes is) = goes_added false 1 IsOfCalls p q calls_neither goes
instruct_adds h k p q end (paths.fetched found e j mid x y) = then_added false p mid q (fetch_adds found h j p mid x) (makes_add j k mid q found e y)

settle_adds : (any : Bool) (end : TurnEnd) (h k : Hart) (p q : Shown) → HasSettled any end h k p q → Adding false p q
settle_adds any end h k p q (paths.kept keeps is same) = none_added false p q same
settle_adds any end h k p q (paths.gave not_kept out x goes) = sides 1 p q goes
settle_adds any end h k p q (paths.spent there x goes) = sides 1 p q goes

work_adds : (any : Bool) (end : TurnEnd) (h k : Hart) (p q : Shown) → HasWorked any end h k p q → Adding false p q
work_adds any end h k p q x = then_added false p x.mid q (instruct_adds h x.made p x.mid end x.instructed) (settle_adds any end x.made k x.mid q x.settled)

wake_adds : (h k : Hart) (p q : Shown) (end : TurnEnd) → HasWoken h k p q end → Adding false p q
wake_adds h k p q end (paths.locked busy x goes) = goes_added false (full_steps h.book.size + 4) IsOfStart p q start_neither goes
wake_adds h k p q end (paths.begun x goes) = goes_added false (full_steps h.book.size + 4) IsOfStart p q start_neither goes
wake_adds h k p q end (paths.idle x goes) = goes_added false (full_steps h.book.size + 4) IsOfStart p q start_neither goes

go_adds : (any : Bool) (h k : Hart) (p q : Shown) (end : TurnEnd) → HasGoneToWork any h k p q end → Adding false p q
go_adds any h k p q end (paths.no_entry seen claim x goes is) = sides 3 p q goes
go_adds any h k p q end (paths.entered e mid claim x goes with y) = then_added false p mid q (sides 3 p mid goes) (work_adds any e _ k mid q y)
go_adds any h k p q end (paths.no_section seen claim x goes) = sides 18 p q goes
go_adds any h k p q end (paths.alone e mid claim x goes with y) = then_added false p mid q (sides 18 p mid goes) (work_adds any e _ k mid q y)

come_adds : (any : Bool) (end : TurnEnd) (h k : Hart) (p q : Shown) → HasComeIn any end h k p q → Adding false p q
come_adds any end h k p q (paths.woken stands x) = wake_adds h k p q end x
come_adds any end h k p q (paths.works runs free x) = go_adds any h k p q end x
come_adds any end h k p q (paths.resumes harts span fence runs is x) = resume_adds harts span fence h k p q end x

-- behind its look
pub turn_adds : (h k : Hart) (p q : Shown) (end : TurnEnd) → HasGoneOn h k p q end → Adding false p q
turn_adds h k p q end (paths.inside e j mid out goes with there x) = then_added false p mid q (sides 2 p mid goes) (work_adds false e j k mid q x)
turn_adds h k p q end (paths.locked busy j mid out goes with there x more) =
    then_added false p mid q (sides 2 p mid goes) (goes_added false (1 + 9 * (full_steps j.book.size + 388)) IsOfRequests mid q requests_neither more)
turn_adds h k p q end (paths.served any e j i mid late out goes with there x more later y) =
    then_added false p late q (then_added false p mid late (sides 2 p mid goes) (goes_added false (1 + 9 * (full_steps j.book.size + 388)) IsOfRequests mid late requests_neither more)) (come_adds any e i k late q y)

-- where the machine ends
away_adds : (h k : Hart) (p q : Shown) → HasSteppedAway h k p q → Adding false p q
away_adds h k p q (left there is x) = made_added false p q (Run p.own.actor) _ _ _ x tt (λ y ne. ne)
away_adds h k p q (parts.gave_back there x) = back_adds x
  where
    back_adds : HasGivenBack h k p q → Adding false p q
    back_adds (had_none un is same) = none_added false p q same
    back_adds (parts.gave_back un is x) = made_added false p q Pend _ _ _ x tt (λ y ne. ne)

pub end_adds : (reason : Reason) (h k : Hart) (p q : Shown) → (x : HasEnded reason h k p q) → Adding false x.mid q
end_adds reason h k p q x = then_added false x.mid x.left.mid q (away_adds h k x.mid x.left.mid x.left.away) (made_added false x.left.mid q (Done x.left.mid.own.actor) _ _ _ x.left.signs tt (λ y ne. ne))
