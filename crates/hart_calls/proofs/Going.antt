-- How far a call goes: how many steps, on which words.
use Rattle.std.proofs.Common.{◌≡◌, ℕ, zero, suc, ◌+◌, ◌*◌, ◌≤◌, Bool, true, false, sym, subst, arith}
use Rattle.step_laws.specs.declared.words.Layout.{Layout}
use Rattle.step_laws.specs.declared.steps.WordOp.TheVariants.{Load}
use Rattle.step_laws.specs.Map.{Stop, Live, Cons, Ipi, Hsm, Start, Opaque, Console, Ram}
use Rattle.step_laws.specs.Words.{ram_word}
use Rattle.machine_model.specs.declared.reason.Reason.{Reason}
use Rattle.machine_model.specs.ReasonWords.{IsReasonOf}
use Rattle.machine_model.specs.Memory.{Memory}
use Rattle.guest_ram.specs.Ports.{Shown, GoesBy}
use Rattle.guest_ram.proofs.Moves.{goes_at_most, goes_made, goes_none, goes_step, goes_then}
use Rattle.guest_devices.specs.Output.{HasFoundFull, HasPut, HasSetStop}
use Rattle.hart_calls.specs.declared.asking.Asked.{Asked}
use Rattle.hart_calls.specs.declared.outcomes.SbiEnd.{SbiEnd}
use Rattle.hart_calls.specs.Asked.{CanDo, IsGuestReason}
use Rattle.hart_calls.specs.Called.{HasDone, HasLeft, HasTried, HasWritten, HasWrittenByte, IsOfHartCalls, all_put, fills, found_full, is_own, needs_section, no_byte, put, refused, started, stopped, stopped_last}
use Rattle.hart_calls.specs.Printing.{HasCopied, HasLoadedIf, HasRunOut, begins_word}
use Rattle.hart_calls.specs.States.{HasStarted, HasStopped}

still_goes : (n : ℕ) (p q : Shown) → q ≡ p → GoesBy n IsOfHartCalls p q
still_goes n p q same = subst (GoesBy n IsOfHartCalls p) (sym same) (goes_at_most 0 n IsOfHartCalls p p (omega arith) (goes_none IsOfHartCalls p))

stop_goes : (reason stands : Reason) (p q : Shown) → HasSetStop reason stands p q → GoesBy 1 IsOfHartCalls p q
stop_goes reason stands p q x = goes_made IsOfHartCalls _ _ Stop _ _ _ x.exchanges tt

put_goes : (byte : ℕ) (p q : Shown) → HasPut byte p q → GoesBy 2 IsOfHartCalls p q
put_goes byte p q x = goes_then 1 1 IsOfHartCalls p x.mid q (goes_made IsOfHartCalls _ _ Cons _ _ _ x.draws tt) (goes_made IsOfHartCalls _ _ (Console x.place) _ _ _ x.stores tt)

full_goes : (place : ℕ) (p q : Shown) → HasFoundFull place p q → GoesBy 1 IsOfHartCalls p q
full_goes place p q x = goes_made IsOfHartCalls _ _ Cons _ _ _ x.draws tt

started_goes : (target at opaque : ℕ) (p q : Shown) → HasStarted target at opaque p q → GoesBy 5 IsOfHartCalls p q
started_goes target at opaque p q x = goes_then 4 1 IsOfHartCalls p x.counted q (goes_then 3 1 IsOfHartCalls p x.handed x.counted (goes_then 2 1 IsOfHartCalls p x.placed x.handed (goes_then 1 1 IsOfHartCalls p x.taken x.placed
    (goes_made IsOfHartCalls _ _ (Hsm target) _ _ _ x.takes tt) (goes_made IsOfHartCalls _ _ (Start target) _ _ _ x.places tt)) (goes_made IsOfHartCalls _ _ (Opaque target) _ _ _ x.hands tt)) (goes_made IsOfHartCalls _ _ Live _ _ _ x.counts tt))
    (goes_made IsOfHartCalls _ _ (Hsm target) _ _ _ x.lets tt)

stopped_goes : (left : ℕ) (p q : Shown) → HasStopped left p q → GoesBy 2 IsOfHartCalls p q
stopped_goes left p q x = goes_then 1 1 IsOfHartCalls p x.stopped q (goes_made IsOfHartCalls _ _ (Hsm p.own.actor) _ _ _ x.stops tt) (goes_made IsOfHartCalls _ _ Live _ _ _ x.takes tt)

load_goes : (b : Bool) (finds : Memory) (pa : ℕ) (p q : Shown) → HasLoadedIf b finds pa p q → GoesBy 1 IsOfHartCalls p q
load_goes true finds pa p q x = goes_step IsOfHartCalls p q (ram_word pa) 0 (finds (ram_word pa)) Load (Ram x.index) x.step x.may x.name tt
load_goes false finds pa p q same = still_goes 1 p q same

copied_goes : (finds : Memory) (from n : ℕ) (p q : Shown) → HasCopied finds from n p q → GoesBy (3 * n) IsOfHartCalls p q
copied_goes finds from zero p q same = still_goes (3 * zero) p q same
copied_goes finds from (suc n) p q x = let b = x.2 in
    goes_at_most (3 * n + 3) (3 * suc n) IsOfHartCalls p q (omega arith) (goes_then (3 * n) 3 IsOfHartCalls p x.0 q (copied_goes finds from n p x.0 x.1)
    (goes_then 1 2 IsOfHartCalls x.0 b.mid q (load_goes (begins_word from n) finds (from + n) x.0 b.mid b.loads) (put_goes _ b.mid q b.puts)))

ran_goes : (finds : Memory) (from count : ℕ) (p q : Shown) → HasRunOut finds from count p q → GoesBy (3 * count) IsOfHartCalls p q
ran_goes finds from count p q x = let b = x.stops in let few = x.fewer in
    goes_at_most (3 * x.put + 2) (3 * count) IsOfHartCalls p q (omega (arith, few)) (goes_then (3 * x.put) 2 IsOfHartCalls p x.mid q (copied_goes finds from x.put p x.mid x.copies)
    (goes_then 1 1 IsOfHartCalls x.mid b.mid q (load_goes (begins_word from x.put) finds (from + x.put) x.mid b.mid b.loads) (full_goes b.place b.mid q b.draws)))

most : (n : ℕ) (p q : Shown) → n ≤ 769 → GoesBy n IsOfHartCalls p q → GoesBy 769 IsOfHartCalls p q
most n p q few a = goes_at_most n 769 IsOfHartCalls p q few a

tried_goes : (p q : Shown) (target at opaque : ℕ) (end : SbiEnd) → HasTried p q target at opaque end → GoesBy 769 IsOfHartCalls p q
tried_goes p q target at opaque end (started other x) = most 5 p q (omega arith) (started_goes target at opaque p q x)
tried_goes p q target at opaque end (refused found other ne x) = most 1 p q (omega arith) (goes_made IsOfHartCalls _ _ (Hsm target) _ _ _ x tt)
tried_goes p q target at opaque end (is_own own same) = still_goes 769 p q same

left_goes : (p q : Shown) (end : SbiEnd) → HasLeft p q end → GoesBy 769 IsOfHartCalls p q
left_goes p q end (stopped left ne x) = most 2 p q (omega arith) (stopped_goes left p q x)
left_goes p q end (stopped_last mid stands x y) = most 3 p q (omega arith) (goes_then 2 1 IsOfHartCalls p mid q (stopped_goes 1 p mid x) (stop_goes Reason.AllStopped stands mid q y))

written_goes : (p q : Shown) (from count : ℕ) (end : SbiEnd) (section : Bool) → count ≤ 256 → HasWritten p q from count end section → GoesBy 769 IsOfHartCalls p q
written_goes p q from count end section few (no_byte none same) = still_goes 769 p q same
written_goes p q from count end section few (needs_section some same) = still_goes 769 p q same
written_goes p q from count end section few (all_put finds some x) = most (3 * count) p q (omega arith) (copied_goes finds from count p q x)
written_goes p q from count end section few (fills finds mid stands x y) = most (3 * count + 1) p q (omega arith) (goes_then (3 * count) 1 IsOfHartCalls p mid q (ran_goes finds from count p mid x) (stop_goes Reason.OutFull stands mid q y))

byte_goes : (p q : Shown) (byte : ℕ) (answer end : SbiEnd) → HasWrittenByte p q byte answer end → GoesBy 769 IsOfHartCalls p q
byte_goes p q byte answer end (put x) = most 2 p q (omega arith) (put_goes byte p q x)
byte_goes p q byte answer end (found_full place mid stands x y) = most 2 p q (omega arith) (goes_then 1 1 IsOfHartCalls p mid q (full_goes place p mid x) (stop_goes Reason.OutFull stands mid q y))

pub done_goes : (l : Layout) (p q : Shown) (section : Bool) (asked : Asked) (end : SbiEnd) → CanDo l asked → HasDone p q section asked end → GoesBy 769 IsOfHartCalls p q
done_goes l p q section (Asked.Gives error value) end can x = still_goes 769 p q x.1
done_goes l p q section (Asked.GivesOne error) end can x = still_goes 769 p q x.1
done_goes l p q section (Asked.Sends mask) end can x = most 1 p q (omega arith) (goes_made IsOfHartCalls _ _ Ipi _ _ _ x.1.1 tt)
done_goes l p q section (Asked.Fences harts span) end can x = still_goes 769 p q x.1
done_goes l p q section (Asked.Starts target at opaque) end can x = tried_goes p q target at opaque end x
done_goes l p q section (Asked.TellsState target) end can x = most 1 p q (omega arith) (goes_made IsOfHartCalls _ _ (Hsm target) _ _ _ x.2 tt)
done_goes l p q section Asked.Leaves end can x = left_goes p q end x
done_goes l p q section (Asked.Ends reason) end can x = most 1 p q (omega arith) (stop_goes reason x.1.0 p q x.1.1)
done_goes l p q section (Asked.Prints from count) end can x = written_goes p q from count end section can.0 x
done_goes l p q section (Asked.PrintsByte byte) end can x = byte_goes p q byte _ end x
done_goes l p q section (Asked.PrintsOne byte) end can x = byte_goes p q byte _ end x

-- what a guest gives as a reason may stand in STOP
pub guest_reason : (l : Layout) (reason : Reason) → IsGuestReason reason → IsReasonOf l reason
guest_reason l Reason.Pass is = tt
guest_reason l (Reason.Fail code) is = is
guest_reason l reason is = absurd is
