-- Where a hart is inside behind a turn, and for how many more instructions.
use Rattle.std.proofs.Common.{◌≡◌, ℕ, ◌+◌, Bool, true, false, refl, sym, ap, ◌∙◌, inl, inr, arith}
use Rattle.std.specs.Prelude.{◌&&◌, not, Option}
use Rattle.rv64_decode.specs.declared.instruction.Instr.{Instr}
use Rattle.guest_ram.specs.Ports.{Shown}
use Rattle.tlb_entry.specs.declared.books.Book.{Book}
use Rattle.code_fetch.specs.declared.fetching.Fetched.{Fetched}
use Rattle.code_fetch.specs.declared.fetching.Fetched.TheVariants as comes
use Rattle.hart_calls.specs.declared.spans.Span.{Span}
use Rattle.sbi_calls.specs.declared.spans.Fence.{Fence}
use Rattle.need_serving.specs.declared.ends.NeedEnd.{NeedEnd}
use Rattle.need_serving.specs.declared.ends.NeedEnd.TheVariants as needs
use Rattle.hart_turn.specs.declared.ends.TurnEnd.{TurnEnd}
use Rattle.hart_turn.specs.declared.ends.Wait4.{Wait4}
use Rattle.hart_turn.specs.declared.hart.Hart.{Hart}
use Rattle.hart_turn.specs.Executing as executing
use Rattle.hart_turn.specs.Executing.{HasDone, after_end, after_fetch}
use Rattle.hart_turn.specs.Fences as fences
use Rattle.hart_turn.specs.Fences.{HasFenceToWait}
use Rattle.hart_turn.specs.Parts as parts
use Rattle.hart_turn.specs.Parts.{HasCounted, HasGivenBack, HasSpent, HasStarted, HasSteppedAway, HasSteppedOut, HasToWait}
use Rattle.hart_turn.specs.Paths as paths
use Rattle.hart_turn.specs.Paths.{HasComeIn, HasEndedAs, HasFetchedNext, HasGoneOn, HasGoneToWork, HasInstructed, HasMadeOf, HasResumed, HasSettled, HasTurned, HasWoken, HasWorked, goes_on, is_free, is_locked, is_staying, keeps_section}
use Rattle.hart_turn.specs.Turning.{StaysInside}
use Rattle.hart_turn.proofs.Moving.{not_both}
use Rattle.hart_turn.proofs.Turned.{both_true}

-- it stands where it stood
record IsAt (h k : Hart) : Type 0 where
  inside_is : k.inside ≡ h.inside
  quantum_is : k.quantum ≡ h.quantum

by_is : (h k z : Hart) → k ≡ z → IsAt h z → IsAt h k
by_is h k z is x = record { inside_is = ap (λ (y : Hart). y.inside) is ∙ x.inside_is; quantum_is = ap (λ (y : Hart). y.quantum) is ∙ x.quantum_is }

here : (h : Hart) → IsAt h h
here h = record { inside_is = refl; quantum_is = refl }

then_at : (h j k : Hart) → IsAt h j → IsAt j k → IsAt h k
then_at h j k x y = record { inside_is = y.inside_is ∙ x.inside_is; quantum_is = y.quantum_is ∙ x.quantum_is }

counts_at : (h k : Hart) (p q : Shown) → HasCounted h k p q → IsAt h k
counts_at h k p q (parts.within is ne same) = by_is h k _ is (record { inside_is = refl; quantum_is = refl })
counts_at h k p q (parts.at_limit stands is at x) = by_is h k _ is (record { inside_is = refl; quantum_is = refl })

waits_at : (harts : ℕ) (span : Span) (fence : Fence) (h k : Hart) (p q : Shown) (wait : Wait4) → HasFenceToWait harts span fence h k p q wait → IsAt h k
waits_at harts span fence h k p q wait (fences.unanswered seen now still flushed found) = by_is h k _ still.still (record { inside_is = refl; quantum_is = refl })
waits_at harts span fence h k p q wait (fences.locked_out busy now still held) = by_is h k _ still.still (record { inside_is = refl; quantum_is = refl })

resume_at : (harts : ℕ) (span : Span) (fence : Fence) (h k : Hart) (p q : Shown) (end : TurnEnd) → HasResumed harts span fence h k p q end → IsAt h k
resume_at harts span fence h k p q end (paths.waits wait x goes) = waits_at harts span fence h k p q wait x
resume_at harts span fence h k p q end (paths.fenced j mid x goes with counts g) = then_at h j k (by_is h j _ x.still (record { inside_is = refl; quantum_is = refl })) (counts_at j k mid q counts)

ends_at : (word : ℕ) (h k : Hart) (p q : Shown) (come : NeedEnd) (end : TurnEnd) → HasEndedAs word h k p q come end → IsAt h k
ends_at word h k p q come end (paths.done answer x goes) = counts_at h k p q x
ends_at word h k p q come end (paths.stopped x goes) = counts_at h k p q x
ends_at word h k p q come end (paths.asked harts span e x) = then_at h _ k (record { inside_is = refl; quantum_is = refl }) (resume_at harts span _ _ k p q e x)
ends_at word h k p q come end (paths.lost at seen found is same) = by_is h k h is (here h)
ends_at word h k p q come end (paths.section is same) = by_is h k _ is (record { inside_is = refl; quantum_is = refl })
ends_at word h k p q come end (paths.locked busy is same) = by_is h k h is (here h)

after_end_at : (i : Instr) (b : Book) (end : NeedEnd) (h : Hart) → IsAt h (after_end i b end h)
after_end_at i b (needs.Done answer) h = record { inside_is = refl; quantum_is = refl }
after_end_at i b needs.Stopped h = record { inside_is = refl; quantum_is = refl }
after_end_at i b (needs.Fence harts span) h = record { inside_is = refl; quantum_is = refl }
after_end_at i b (needs.Lost word seen found) h = record { inside_is = refl; quantum_is = refl }
after_end_at i b needs.NeedsSection h = record { inside_is = refl; quantum_is = refl }
after_end_at i b (needs.Busy busy) h = record { inside_is = refl; quantum_is = refl }

execute_at : (word : ℕ) (h k : Hart) (p q : Shown) (i : Option Instr) (come : NeedEnd) → HasDone word h k p q i come → IsAt h k
execute_at word h k p q i come (executing.trapped_on is same) = by_is h k _ is (record { inside_is = refl; quantum_is = refl })
execute_at word h k p q i come (executing.served instr is x) = by_is h k _ is (then_at h _ _ (record { inside_is = refl; quantum_is = refl }) (after_end_at instr k.book come _))

makes_at : (h k : Hart) (p q : Shown) (found : Fetched) (end : TurnEnd) → HasMadeOf h k p q found end → IsAt h k
makes_at h k p q found end (paths.locked busy is same) = by_is h k h is (here h)
makes_at h k p q found end (paths.faulted cause tval x goes) = counts_at h k p q x
makes_at h k p q found end (paths.executed word come e j mid x goes with y) = then_at h j k (execute_at word h j p mid x.instr come x.done) (ends_at word j k mid q come e y)

after_fetch_at : (found : Fetched) (b : Book) (h : Hart) → IsAt h (after_fetch found b h)
after_fetch_at (comes.Fault cause tval) b h = record { inside_is = refl; quantum_is = refl }
after_fetch_at (comes.Word word) b h = record { inside_is = refl; quantum_is = refl }
after_fetch_at (comes.Busy busy) b h = record { inside_is = refl; quantum_is = refl }

instruct_at : (h k : Hart) (p q : Shown) (end : TurnEnd) → HasInstructed h k p q end → IsAt h k
instruct_at h k p q end (paths.interrupted looked goes is) = by_is h k _ is (record { inside_is = refl; quantum_is = refl })
instruct_at h k p q end (paths.fetched found e j mid x y) = then_at h j k (by_is h j _ x.is (after_fetch_at found j.book h)) (makes_at j k mid q found e y)

-- what a hart that is inside behind an instruction was before it
record WasIn (end : TurnEnd) (h k : Hart) : Type 0 where
  stays : is_staying end ≡ true
  was : h.inside ≡ true
  less : k.quantum + 1 ≡ h.quantum

as_out : (k z : Hart) → k ≡ z → z.inside ≡ false → k.inside ≡ true → ⊥
as_out k z is out e = not_both z.inside out (sym (ap (λ (y : Hart). y.inside) is) ∙ e)

back_out : (h k : Hart) (p q : Shown) → h.inside ≡ false → HasGivenBack h k p q → k.inside ≡ true → ⊥
back_out h k p q out (parts.had_none un is same) = as_out k _ is out
back_out h k p q out (parts.gave_back un is x) = as_out k _ is out

spent_in : (any : Bool) (end : TurnEnd) (h k : Hart) (p q : Shown) → h.inside ≡ true → HasSpent (goes_on any end h) h k p q → k.inside ≡ true → WasIn end h k
spent_in any end h k p q there (parts.remained on ne less is same) e = record { stays = (both_true (h.runs && is_free h.call && not any) (is_staying end) on).1; was = there; less = less }
spent_in any end h k p q there (parts.left why less is x) e = absurd (as_out k _ is refl e)

settled_in : (any : Bool) (end : TurnEnd) (h k : Hart) (p q : Shown) → HasSettled any end h k p q → k.inside ≡ true → WasIn end h k
settled_in any end h k p q (paths.kept keeps is same) e =
    let out = (both_true (not h.inside) (is_free h.call) (both_true (not h.inside && is_free h.call) (is_locked end) keeps).0).0 in
    absurd (not_true h.inside out (sym (ap (λ (y : Hart). y.inside) is) ∙ e))
  where
    not_true : (b : Bool) → not b ≡ true → b ≡ true → ⊥
    not_true true x y = cc
    not_true false x y = cc
settled_in any end h k p q (paths.gave not_kept out x goes) e = absurd (back_out h k p q out x e)
settled_in any end h k p q (paths.spent there x goes) e = spent_in any end h k p q there x e

work_in : (any : Bool) (end : TurnEnd) (h k : Hart) (p q : Shown) → HasWorked any end h k p q → k.inside ≡ true → WasIn end h k
work_in any end h k p q x e =
    let y = settled_in any end x.made k x.mid q x.settled e in
    let z = instruct_at h x.made p x.mid end x.instructed in record { stays = y.stays; was = sym z.inside_is ∙ y.was; less = y.less ∙ z.quantum_is }

-- a hart that was outside is inside behind a turn only where it went in
abbrev Enters : TurnEnd → Hart → Type 0
Enters end k = (is_staying end ≡ true) × (k.quantum ≡ 63)

one_less : (n : ℕ) → n + 1 ≡ 64 → n ≡ 63
one_less n e = omega (arith, e)

waits_out : (seen : _) (h k : Hart) (p q : Shown) → h.inside ≡ false → HasToWait seen h k p q → k.inside ≡ true → ⊥
waits_out seen h k p q out (parts.other_claims claim is x) = as_out k h is out
waits_out seen h k p q out (parts.other_stays claim is x) = as_out k h is out
waits_out seen h k p q out (parts.claimed_first mid claim is x y) = as_out k _ is out

go_in : (any : Bool) (h k : Hart) (p q : Shown) (end : TurnEnd) → h.inside ≡ false → HasGoneToWork any h k p q end → k.inside ≡ true → Enters end k
go_in any h k p q end out (paths.no_entry seen claim x goes is) e = absurd (as_out k h is out e)
go_in any h k p q end out (paths.entered f mid claim x goes with y) e = let z = work_in any f _ k mid q y e in (z.stays, one_less k.quantum z.less)
go_in any h k p q end out (paths.no_section seen claim x goes) e = absurd (waits_out seen h k p q out x e)
go_in any h k p q end out (paths.alone f mid claim x goes with y) e = absurd (not_both h.inside out (work_in any f _ k mid q y e).was)

started_out : (h k : Hart) (p q : Shown) (begun : Bool) → h.inside ≡ false → HasStarted h k p q begun → k.inside ≡ true → ⊥
started_out h k p q begun out (parts.began start is x) = as_out k _ is out
started_out h k p q begun out (parts.waits is x) = as_out k h is out

wake_out : (h k : Hart) (p q : Shown) (end : TurnEnd) → h.inside ≡ false → HasWoken h k p q end → k.inside ≡ true → ⊥
wake_out h k p q end out (paths.locked busy x goes) = as_out k h x.still out
wake_out h k p q end out (paths.begun x goes) = started_out h k p q true out x
wake_out h k p q end out (paths.idle x goes) = started_out h k p q false out x

come_in : (any : Bool) (end : TurnEnd) (h k : Hart) (p q : Shown) → h.inside ≡ false → HasComeIn any end h k p q → k.inside ≡ true → Enters end k
come_in any end h k p q out (paths.woken stands x) e = absurd (wake_out h k p q end out x e)
come_in any end h k p q out (paths.works runs free x) e = go_in any h k p q end out x e
come_in any end h k p q out (paths.resumes harts span fence runs is x) e = absurd (not_both h.inside out (sym (resume_at harts span fence h k p q end x).inside_is ∙ e))

out_of : (end : TurnEnd) (h j k : Hart) (p q : Shown) → HasSteppedOut h j p q → WasIn end j k → (h.inside ≡ true) × (k.quantum + 1 ≡ h.quantum)
out_of end h j k p q (parts.was_outside out is same) x = absurd (as_out j h is out x.was)
out_of end h j k p q (parts.stayed there is found) x = (there, x.less ∙ ap (λ (y : Hart). y.quantum) is)
out_of end h j k p q (parts.was_called found mid there ne is x0 y) x = absurd (as_out j _ is refl x.was)

on_in : (h k : Hart) (p q : Shown) (end : TurnEnd) → HasGoneOn h k p q end → StaysInside end h k
on_in h k p q end (paths.inside f j mid out goes with there x) e = let z = work_in _ f j k mid q x e in (z.stays, inl (out_of f h j k p mid out z))
on_in h k p q end (paths.locked busy j mid out goes with outside x more) e = absurd (as_out k _ x.still outside e)
on_in h k p q end (paths.served any f j i mid late out goes with outside x more later y) e =
    let z = come_in any f i k late q (ap (λ (w : Hart). w.inside) x.still ∙ outside) y e in (z.0, inr z.1)

away_out : (h k : Hart) (p q : Shown) → HasSteppedAway h k p q → k.inside ≡ true → ⊥
away_out h k p q (parts.left there is x) = as_out k _ is refl
away_out h k p q (parts.gave_back out x) = back_out h k p q out x

pub turn_in : (h k : Hart) (p q : Shown) (end : TurnEnd) → HasTurned h k p q end → StaysInside end h k
turn_in h k p q end (paths.ended reason x goes) e = absurd (away_out h k _ _ x.left.away e)
turn_in h k p q end (paths.went f mid found with x) e = on_in h k mid q f x e
