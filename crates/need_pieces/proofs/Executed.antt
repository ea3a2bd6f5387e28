-- An execution by its answer and by whether it stops its hart: all else that it did is not the hart's.
use Rattle.std.proofs.Common.{◌≡◌, ℕ, ◌+◌, Bool, true, false, not, None, refl, sym, ap, ◌∙◌}
use Rattle.std.specs.Prelude.{if◌then◌else◌}
use Rattle.rv64_priv.specs.State.{Arch}
use Rattle.rv64_exec.specs.declared.needs.Answer.{Answer}
use Rattle.machine_model.specs.declared.reason.Reason.{Reason}
use Rattle.machine_model.specs.Change.{effect_held}
use Rattle.machine_model.specs.Event.{Outcome, only}
use Rattle.machine_model.specs.Own.{Own, own_executed}
use Rattle.guest_ram.specs.Ports.{Shown, layout_of}
use Rattle.hart_calls.specs.declared.asking.Asked.{Asked}
use Rattle.hart_calls.specs.declared.outcomes.SbiEnd.{SbiEnd}
use Rattle.hart_calls.specs.Asked.{IsAsked}
use Rattle.hart_calls.specs.Called.{HasDone, HasNamed, HasWritten, all_put, fills, found_full, is_own, needs_section, no_byte, none_named, put, refused, some_named, started, stopped, stopped_last}
use Rattle.hart_calls.specs.Ends.{runs_on}
use Rattle.call_laws.specs.Did.{answer_of, did_call, did_writing}

pub executed_by : (d : Outcome) (o : Own) (x : Answer) (s : Bool) → d.answer ≡ x → d.stops ≡ s → own_executed d o ≡ own_executed (record (only x) { stops = s }) o
unfolding own_executed
executed_by d o x s e f = λ i. record { arch = effect_held o.arch o.held (e i); held = None; count = o.count + 1; runs = if f i then false else o.runs }

module _ (p q : Shown) where
  written_answer : (from count : ℕ) (call : SbiEnd) (s : Bool) (done : HasWritten p q from count call s) → (did_writing p q from count call s done).answer ≡ answer_of call
  written_answer from count call s (no_byte none same) = refl
  written_answer from count call s (needs_section some same) = refl
  written_answer from count call s (all_put finds some x) = refl
  written_answer from count call s (fills finds mid stands x y) = refl

  written_stops : (from count : ℕ) (call : SbiEnd) (s : Bool) (done : HasWritten p q from count call s) → (did_writing p q from count call s done).stops ≡ not (runs_on call)
  written_stops from count call s (no_byte none same) = refl
  written_stops from count call s (needs_section some same) = refl
  written_stops from count call s (all_put finds some x) = refl
  written_stops from count call s (fills finds mid stands x y) = refl

  pub answer_is : (section : Bool) (asked : Asked) (call : SbiEnd) (done : HasDone p q section asked call) → (did_call p q section asked call done).answer ≡ answer_of call
  answer_is section (Asked.Starts target at opaque) call (started other x) = refl
  answer_is section (Asked.Starts target at opaque) call (refused found other ne x) = refl
  answer_is section (Asked.Starts target at opaque) call (is_own own same) = refl
  answer_is section (Asked.Prints from count) call done = written_answer from count call section done
  answer_is section (Asked.PrintsByte byte) call (put x) = refl
  answer_is section (Asked.PrintsByte byte) call (found_full place mid stands x y) = refl
  answer_is section (Asked.PrintsOne byte) call (put x) = refl
  answer_is section (Asked.PrintsOne byte) call (found_full place mid stands x y) = refl
  answer_is section asked call done = refl

  guest_reason : (reason : Reason) → Rattle.hart_calls.specs.Asked.IsGuestReason reason → runs_on (SbiEnd.Over reason) ≡ true
  guest_reason Reason.Pass is = refl
  guest_reason (Reason.Fail code) is = refl
  guest_reason reason is = absurd is

  pub stops_is : (section : Bool) (c : Arch) (asked : Asked) (call : SbiEnd) (done : HasDone p q section asked call) → IsAsked (layout_of p) c asked → (did_call p q section asked call done).stops ≡ not (runs_on call)
  stops_is section c (Asked.Gives error value) call done is = ap (λ (e : SbiEnd). not (runs_on e)) (sym done.0)
  stops_is section c (Asked.GivesOne error) call done is = ap (λ (e : SbiEnd). not (runs_on e)) (sym done.0)
  stops_is section c (Asked.Sends mask) call done is = ap (λ (e : SbiEnd). not (runs_on e)) (sym done.0)
  stops_is section c (Asked.Fences harts span) call done is = fenced call done.0
    where
      fenced : (x : SbiEnd) → HasNamed p q harts (SbiEnd.Fence harts span) x → false ≡ not (runs_on x)
      fenced x (some_named some) = refl
      fenced x (none_named none) = refl
  stops_is section c (Asked.Starts target at opaque) call (started other x) is = refl
  stops_is section c (Asked.Starts target at opaque) call (refused found other ne x) is = refl
  stops_is section c (Asked.Starts target at opaque) call (is_own own same) is = refl
  stops_is section c (Asked.TellsState target) call done is = ap (λ (e : SbiEnd). not (runs_on e)) (sym done.1)
  stops_is section c Asked.Leaves call (stopped left ne x) is = refl
  stops_is section c Asked.Leaves call (stopped_last mid stands x y) is = refl
  stops_is section c (Asked.Ends reason) call done is = sym (ap (λ (e : SbiEnd). not (runs_on e)) done.0 ∙ ap not (guest_reason reason is.sound))
  stops_is section c (Asked.Prints from count) call done is = written_stops from count call section done
  stops_is section c (Asked.PrintsByte byte) call (put x) is = refl
  stops_is section c (Asked.PrintsByte byte) call (found_full place mid stands x y) is = refl
  stops_is section c (Asked.PrintsOne byte) call (put x) is = refl
  stops_is section c (Asked.PrintsOne byte) call (found_full place mid stands x y) is = refl
