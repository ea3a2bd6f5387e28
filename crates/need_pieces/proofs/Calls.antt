-- Calls in their hart's log, whatever they ask for.
use Rattle.std.proofs.Common.{◌≡◌, ◌≢◌, ℕ, ◌<◌, Bool, true, false, true≢false, not, List, [], ◌∷◌, refl, sym, ap, subst, ◌∙◌, ⊎_elim, arith}
use Rattle.std.proofs.lemmas.Bool.{cases_eq}
use Rattle.std.proofs.lemmas.Nat.{le_or_l, pow_pos}
use Rattle.std.specs.Prelude.{◌^◌, Some}
use Rattle.step_laws.specs.declared.words.Layout.{Layout}
use Rattle.rv64_priv.specs.Walk.{PageFault}
use Rattle.rv64_priv.specs.State.{Arch}
use Rattle.rv64_priv.specs.Csr.{regime}
use Rattle.rv64_exec.specs.declared.needs.Answer.{Answer}
use Rattle.rv64_exec.specs.declared.needs.Need.{Need}
use Rattle.step_laws.specs.Map.{Word, Stop, Live, Cons, Ipi, Hsm, Start, Opaque, Console, Ram}
use Rattle.machine_model.specs.declared.reason.Reason.{Reason}
use Rattle.machine_model.specs.Event.{Exec, only}
use Rattle.machine_model.specs.Lawful.{flushing_of_call}
use Rattle.machine_model.specs.Own.{Own, own_executed}
use Rattle.machine_model.specs.Sbi.{arg, bits_of, named, sbi_of, state_number}
use Rattle.machine_model.specs.State.{Setup}
use Rattle.guest_ram.specs.Ports.{Shown, GoesBy, layout_of}
use Rattle.tlb_entry.specs.declared.books.Book.{Book}
use Rattle.turn_pieces.specs.Draws.{may_draw}
use Rattle.turn_pieces.specs.Grows.{Ends, Grows, stays}
use Rattle.turn_pieces.specs.Doing.{IsQuiet}
use Rattle.turn_pieces.specs.Log.{Log, did}
use Rattle.turn_pieces.specs.Right.{AreFenced}
use Rattle.turn_pieces.proofs.Unmarked.{is_other}
use Rattle.access_pieces.specs.Laws.{IsTold}
use Rattle.access_pieces.specs.Serving.{Counted, MayGiveUp, Rests, Tells, Wants}
use Rattle.hart_calls.specs.declared.asking.Asked.{Asked}
use Rattle.hart_calls.specs.declared.outcomes.SbiEnd.{SbiEnd}
use Rattle.hart_calls.specs.declared.spans.Span.{Span}
use Rattle.hart_calls.specs.Asked.{IsAsked}
use Rattle.hart_calls.specs.Called.{HasDone, HasLeft, HasNamed, HasWritten, IsOfHartCalls, all_put, fills, found_full, is_own, needs_section, no_byte, none_named, put, refused, some_named, started, stopped, stopped_last}
use Rattle.hart_calls.specs.Ends.{runs_on, succeeds}
use Rattle.hart_calls.specs.Spans.{flush_of}
use Rattle.hart_calls.specs.States.{IsRunner, mode_found}
use Rattle.call_laws.specs.Did.{answer_of, did_call, did_writing}
use Rattle.access_pieces.proofs.Counting.{counted_did}
use Rattle.call_pieces.specs.Idle.{Called, Idles}
use Rattle.call_pieces.specs.Laws.{IsServed}
use Rattle.call_pieces.proofs.Placing.{did_is, flush_as, rested}
use Rattle.call_pieces.proofs.Printed.{bytes_served}
use Rattle.call_pieces.proofs.Served.{calls_served, own_starts_served, stops_said}
use Rattle.need_serving.specs.declared.ends.NeedEnd.{NeedEnd}
use Rattle.need_serving.specs.Ends.{end_of_call}
use Rattle.need_pieces.specs.Serving.{IsServedIn, Stopped, halted}
use Rattle.need_pieces.specs.Laws.{IsNoFence}
use Rattle.need_pieces.proofs.Alone.{exec_fit}
use Rattle.need_pieces.proofs.Executed.{answer_is, executed_by, stops_is}
use Rattle.need_pieces.proofs.Unwaited.{unwaited_goes}

calls_unmarked : (w : Word) → IsOfHartCalls w → is_other w ≡ true
calls_unmarked Stop t = refl
calls_unmarked Live t = refl
calls_unmarked Cons t = refl
calls_unmarked Ipi t = refl
calls_unmarked (Hsm h) t = refl
calls_unmarked (Start h) t = refl
calls_unmarked (Opaque h) t = refl
calls_unmarked (Console i) t = refl
calls_unmarked (Ram i) t = refl
calls_unmarked w t = absurd t

-- it is still to be made in the section, or waits for a fence
abbrev pub IsMade : SbiEnd → Type 0
IsMade (SbiEnd.Fence harts span) = ⊥
IsMade SbiEnd.NeedsSection = ⊥
IsMade call = Unit {0}

no_bits : (hs : List ℕ) → bits_of hs ≡ 0 → hs ≡ []
no_bits [] e = refl
no_bits (h ∷ hs) e = let some = pow_pos h in let less = le_or_l (2 ^ h) (bits_of hs) in absurd (omega (arith, e, some, less))

names_none : (p q : Shown) (harts : ℕ) (span : Span) (call : SbiEnd) → HasNamed p q harts (SbiEnd.Fence harts span) call → IsMade call → harts ≡ 0
names_none p q harts span call (some_named some) made = absurd made
names_none p q harts span call (none_named none) made = none

quiet_only : (h : ℕ) (answer : Answer) → IsQuiet (Exec h PageFault PageFault (only answer))
quiet_only h answer = record { does = record { entry_is = refl; bytes_are = refl; reason_is = refl; starts_is = refl; stops_is = refl }; begins_not = refl }

-- a call that is to be made anew made no step, and so a fence that was asked for
module _ (p q : Shown) where
  written_still : (from count : ℕ) (call : SbiEnd) (s : Bool) → HasWritten p q from count call s → call ≡ SbiEnd.NeedsSection → q ≡ p
  written_still from count call s (no_byte none same) e = same
  written_still from count call s (needs_section some same) e = same
  written_still from count call s (all_put finds some x) e = cc
  written_still from count call s (fills finds mid stands x y) e = cc

  written_waits : (from count : ℕ) (call : SbiEnd) (s : Bool) (mask : ℕ) (over : Span) → HasWritten p q from count call s → call ≡ SbiEnd.Fence mask over → q ≡ p
  written_waits from count call s mask over (no_byte none same) e = same
  written_waits from count call s mask over (needs_section some same) e = same
  written_waits from count call s mask over (all_put finds some x) e = cc
  written_waits from count call s mask over (fills finds mid stands x y) e = cc

  pub still_there : (section : Bool) (asked : Asked) (call : SbiEnd) → HasDone p q section asked call → call ≡ SbiEnd.NeedsSection → q ≡ p
  still_there section (Asked.Gives error value) call done e = done.1
  still_there section (Asked.GivesOne error) call done e = done.1
  still_there section (Asked.Sends mask) call done e = absurd (not_both done.0 e)
    where
      not_both : call ≡ succeeds 0 → call ≡ SbiEnd.NeedsSection → ⊥
      not_both x y = cc
  still_there section (Asked.Fences harts span) call done e = done.1
  still_there section (Asked.Starts target at opaque) call (started other x) e = cc
  still_there section (Asked.Starts target at opaque) call (refused found other ne x) e = cc
  still_there section (Asked.Starts target at opaque) call (is_own own same) e = same
  still_there section (Asked.TellsState target) call done e = absurd (not_both done.0 done.1 e)
    where
      not_both : (found : ℕ) → call ≡ succeeds (state_number (mode_found found)) → call ≡ SbiEnd.NeedsSection → ⊥
      not_both found x y = cc
  still_there section Asked.Leaves call (stopped left ne x) e = cc
  still_there section Asked.Leaves call (stopped_last mid stands x y) e = cc
  still_there section (Asked.Ends reason) call done e = absurd (not_both done.0 e)
    where
      not_both : call ≡ SbiEnd.Over reason → call ≡ SbiEnd.NeedsSection → ⊥
      not_both x y = cc
  still_there section (Asked.Prints from count) call done e = written_still from count call section done e
  still_there section (Asked.PrintsByte byte) call (put x) e = cc
  still_there section (Asked.PrintsByte byte) call (found_full place mid stands x y) e = cc
  still_there section (Asked.PrintsOne byte) call (put x) e = cc
  still_there section (Asked.PrintsOne byte) call (found_full place mid stands x y) e = cc

  pub fence_waits : (section : Bool) (asked : Asked) (call : SbiEnd) (mask : ℕ) (over : Span) → HasDone p q section asked call → call ≡ SbiEnd.Fence mask over → q ≡ p
  fence_waits section (Asked.Gives error value) call mask over done e = done.1
  fence_waits section (Asked.GivesOne error) call mask over done e = done.1
  fence_waits section (Asked.Sends m) call mask over done e = absurd (not_both done.0 e)
    where
      not_both : call ≡ succeeds 0 → call ≡ SbiEnd.Fence mask over → ⊥
      not_both x y = cc
  fence_waits section (Asked.Fences harts span) call mask over done e = done.1
  fence_waits section (Asked.Starts target at opaque) call mask over (started other x) e = cc
  fence_waits section (Asked.Starts target at opaque) call mask over (refused found other ne x) e = cc
  fence_waits section (Asked.Starts target at opaque) call mask over (is_own own same) e = same
  fence_waits section (Asked.TellsState target) call mask over done e = absurd (not_both done.0 done.1 e)
    where
      not_both : (found : ℕ) → call ≡ succeeds (state_number (mode_found found)) → call ≡ SbiEnd.Fence mask over → ⊥
      not_both found x y = cc
  fence_waits section Asked.Leaves call mask over (stopped left ne x) e = cc
  fence_waits section Asked.Leaves call mask over (stopped_last mid stands x y) e = cc
  fence_waits section (Asked.Ends reason) call mask over done e = absurd (not_both done.0 e)
    where
      not_both : call ≡ SbiEnd.Over reason → call ≡ SbiEnd.Fence mask over → ⊥
      not_both x y = cc
  fence_waits section (Asked.Prints from count) call mask over done e = written_waits from count call section mask over done e
  fence_waits section (Asked.PrintsByte byte) call mask over (put x) e = cc
  fence_waits section (Asked.PrintsByte byte) call mask over (found_full place mid stands x y) e = cc
  fence_waits section (Asked.PrintsOne byte) call mask over (put x) e = cc
  fence_waits section (Asked.PrintsOne byte) call mask over (found_full place mid stands x y) e = cc

module _ (others : ℕ → Bool) (o : Own) (p q : Shown) (b : Book) (c : Arch) (section : Bool) (runner : IsRunner p) (may : may_draw p.own.steps ≡ true) (inside : IsTold section p) (runs : o.runs ≡ true) (wants : Wants o c Need.Sbi) (goes : GoesBy 769 IsOfHartCalls p q) (u : Setup) (a : ℕ) (l : Log)
    (x : Rests others o p b (regime c) u a l) where
  -- no page begins to wait for a store over a call
  settled_in : (o' : Own) (late : Log) → Grows u a l late → Called o' q b (regime c) u a late → Counted others o' q b (regime c) u a late
  settled_in o' late g k = record {
    settles = record { tells = k.tells; settled = λ page free. unwaited_goes IsOfHartCalls 769 p q u a page l late calls_unmarked goes x.tells.tells.stands.is k.tells.tells.stands.is g (x.settled page free) };
    counts = k.counts;
  }

  settled_by : (o' : Own) → Ends u a l (Called o' q b (regime c) u a) → Ends u a l (Counted others o' q b (regime c) u a)
  settled_by o' e = record { late = e.late; grows = e.grows; holds = settled_in o' e.late e.grows e.holds }

  idles : Idles o p b (regime c) u a l
  idles = record { tells = x.tells; idle = x.idle }

  told : (asked : Asked) (call : SbiEnd) (done : HasDone p q section asked call) → IsAsked (layout_of p) c asked → IsServed p asked → Ends u a l (Called (own_executed (did_call p q section asked call done) o) q b (regime c) u a)
  told asked call done is s = calls_served p q b c section asked call done runner may is s o wants u a l idles

  written : (from count : ℕ) (call : SbiEnd) (s : Bool) (done : HasWritten p q from count call s) → IsAsked (layout_of p) c (Asked.Prints from count) → IsMade call → count ≢ 0 → IsTold s p
      → Ends u a l (Called (own_executed (did_writing p q from count call s done) o) q b (regime c) u a)
  written from count call true done is made some within = bytes_served p q b c from count call done runner may is (within refl) o wants u a l idles
  written from count call false (no_byte none same) is made some within = absurd (some none)
  written from count call false (needs_section more same) is made some within = absurd made

  -- a hart that names none waits for no fence: the call is done at once
  unnamed : (harts : ℕ) (span : Span) (call : SbiEnd) (done : HasDone p q section (Asked.Fences harts span) call) → IsAsked (layout_of p) c (Asked.Fences harts span) → IsMade call
      → Ends u a l (Called (own_executed (did_call p q section (Asked.Fences harts span) call done) o) q b (regime c) u a)
  unnamed harts span call done is made =
      let asked = Asked.Fences harts span in
      let layout : u.layout ≡ layout_of p = x.tells.tells.stands.layout in
      let there : a < u.layout.harts = subst (λ n. n < u.layout.harts) (sym x.tells.tells.stands.actor) (subst (λ (y : Layout). p.own.actor < y.harts) (sym layout) runner.hart) in
      let none : named (layout_of p).harts (arg c 0) (arg c 1) ≡ [] = no_bits (named (layout_of p).harts (arg c 0) (arg c 1)) (is.sound.0 ∙ names_none p q harts span call done.0 made) in
      let fit = exec_fit o c Need.Sbi (only (answer_of call)) u a l wants refl
      (λ w m. subst (AreFenced a l) (sym (flush_as w a c ∙ ap (λ y. flushing_of_call (sbi_of y w.modes w.memory c)) (m.layout ∙ layout) ∙ ap flushing_of_call (sym (is.is w.modes w.memory))))
      (subst (λ hs. AreFenced a l (Some (record { harts = hs; what = flush_of span }))) (sym none) tt))
      (λ w m. did_is p q c section asked call done is w a PageFault PageFault (m.layout ∙ layout) tt) in
      let k = rested o b (regime c) (only (answer_of call)) u a p l l (record { grows = stays; tells = x.tells }) x.idle there fit (quiet_only a (answer_of call)) in record {
        late = did (Exec a PageFault PageFault (only (answer_of call))) ∷ l;
        grows = k.grows;
        holds = record {
          tells = subst (λ (y : Shown). Tells (own_executed (only (answer_of call)) o) y b (regime c) u a (did (Exec a PageFault PageFault (only (answer_of call))) ∷ l)) (sym done.1) k.tells;
          counts = counted_did a l (Exec a PageFault PageFault (only (answer_of call))) refl refl;
        };
      }

  call_told : (asked : Asked) (call : SbiEnd) (done : HasDone p q section asked call) → IsAsked (layout_of p) c asked → IsMade call → Ends u a l (Called (own_executed (did_call p q section asked call done) o) q b (regime c) u a)
  call_told (Asked.Gives error value) call done is made = told (Asked.Gives error value) call done is tt
  call_told (Asked.GivesOne error) call done is made = told (Asked.GivesOne error) call done is tt
  call_told (Asked.Sends mask) call done is made = told (Asked.Sends mask) call done is tt
  call_told (Asked.Fences harts span) call done is made = unnamed harts span call done is made
  call_told (Asked.Starts target at opaque) call done is made =
      ⊎_elim (λ (own : target ≡ p.own.actor). own_starts_served p q b c section target at opaque call done runner is own o runs wants u a l idles) (λ ne. told (Asked.Starts target at opaque) call done is ne) (cases_eq target p.own.actor)
  call_told (Asked.TellsState target) call done is made = told (Asked.TellsState target) call done is tt
  call_told Asked.Leaves call done is made = told Asked.Leaves call done is tt
  call_told (Asked.Ends reason) call done is made = told (Asked.Ends reason) call done is tt
  call_told (Asked.Prints from count) call done is made =
      ⊎_elim (λ (none : count ≡ 0). told (Asked.Prints from count) call done is none) (λ some. written from count call section done is made some inside) (cases_eq count 0)
  call_told (Asked.PrintsByte byte) call done is made = told (Asked.PrintsByte byte) call done is tt
  call_told (Asked.PrintsOne byte) call done is made = told (Asked.PrintsOne byte) call done is tt

  -- only a call that leaves stops its hart
  left_told : (call : SbiEnd) (done : HasLeft p q call) → IsAsked (layout_of p) c Asked.Leaves → runs_on call ≡ false → Ends u a l (Stopped others (halted o) q b (regime c) u a)
  left_told call done is halts =
      let y = stops_said p q b c section call done runner is o wants u a l idles in
      let k = settled_in (own_executed (did_call p q section Asked.Leaves call done) o) y.late y.grows y.holds.called in record {
        late = y.late;
        grows = y.grows;
        holds = record { counted = subst (λ (d : Own). Counted others d q b (regime c) u a y.late) (by_stop call done halts) k; said = y.holds.said };
      }
    where
      by_stop : (call : SbiEnd) (done : HasLeft p q call) → runs_on call ≡ false → own_executed (did_call p q section Asked.Leaves call done) o ≡ halted o
      by_stop call (stopped left ne x) halts = executed_by (did_call p q section Asked.Leaves SbiEnd.HartStopped (stopped left ne x)) o Answer.Nothing true refl refl
      by_stop call (stopped_last mid stands x y) halts = executed_by (did_call p q section Asked.Leaves (SbiEnd.Over Reason.AllStopped) (stopped_last mid stands x y)) o Answer.Nothing true refl refl

  runs_still : (asked : Asked) (call : SbiEnd) (done : HasDone p q section asked call) → IsAsked (layout_of p) c asked → (did_call p q section asked call done).stops ≡ false → runs_on call ≡ false → ⊥
  runs_still asked call done is goes_on halts = true≢false (sym (ap not halts) ∙ sym (stops_is p q section c asked call done is) ∙ goes_on)

  writing_runs : (from count : ℕ) (call : SbiEnd) (s : Bool) (done : HasWritten p q from count call s) → (did_writing p q from count call s done).stops ≡ false
  writing_runs from count call s (no_byte none same) = refl
  writing_runs from count call s (needs_section some same) = refl
  writing_runs from count call s (all_put finds some x) = refl
  writing_runs from count call s (fills finds mid stands x y) = refl

  stop_told : (asked : Asked) (call : SbiEnd) (done : HasDone p q section asked call) → IsAsked (layout_of p) c asked → runs_on call ≡ false → Ends u a l (Stopped others (halted o) q b (regime c) u a)
  stop_told Asked.Leaves call done is halts = left_told call done is halts
  stop_told (Asked.Gives error value) call done is halts = absurd (runs_still (Asked.Gives error value) call done is refl halts)
  stop_told (Asked.GivesOne error) call done is halts = absurd (runs_still (Asked.GivesOne error) call done is refl halts)
  stop_told (Asked.Sends mask) call done is halts = absurd (runs_still (Asked.Sends mask) call done is refl halts)
  stop_told (Asked.Fences harts span) call done is halts = absurd (runs_still (Asked.Fences harts span) call done is refl halts)
  stop_told (Asked.Starts target at opaque) call (started other x) is halts = absurd (runs_still (Asked.Starts target at opaque) call (started other x) is refl halts)
  stop_told (Asked.Starts target at opaque) call (refused found other ne x) is halts = absurd (runs_still (Asked.Starts target at opaque) call (refused found other ne x) is refl halts)
  stop_told (Asked.Starts target at opaque) call (is_own own same) is halts = absurd (runs_still (Asked.Starts target at opaque) call (is_own own same) is refl halts)
  stop_told (Asked.TellsState target) call done is halts = absurd (runs_still (Asked.TellsState target) call done is refl halts)
  stop_told (Asked.Ends reason) call done is halts = absurd (runs_still (Asked.Ends reason) call done is refl halts)
  stop_told (Asked.Prints from count) call done is halts = absurd (runs_still (Asked.Prints from count) call done is (writing_runs from count call section done) halts)
  stop_told (Asked.PrintsByte byte) call (put x) is halts = absurd (runs_still (Asked.PrintsByte byte) call (put x) is refl halts)
  stop_told (Asked.PrintsByte byte) call (found_full place mid stands x y) is halts = absurd (runs_still (Asked.PrintsByte byte) call (found_full place mid stands x y) is refl halts)
  stop_told (Asked.PrintsOne byte) call (put x) is halts = absurd (runs_still (Asked.PrintsOne byte) call (put x) is refl halts)
  stop_told (Asked.PrintsOne byte) call (found_full place mid stands x y) is halts = absurd (runs_still (Asked.PrintsOne byte) call (found_full place mid stands x y) is refl halts)

  pub call_served : (asked : Asked) (call : SbiEnd) (end : NeedEnd) (done : HasDone p q section asked call) → IsAsked (layout_of p) c asked → end ≡ end_of_call call → IsNoFence end → Ends u a l (IsServedIn others o end q b (regime c) u a)
  call_served asked call end done is e no_fence = by call refl
    where
      executed : IsMade call → Ends u a l (Counted others (own_executed (record (only (answer_of call)) { stops = not (runs_on call) }) o) q b (regime c) u a)
      executed made = subst (λ (d : Own). Ends u a l (Counted others d q b (regime c) u a))
          (executed_by (did_call p q section asked call done) o (answer_of call) (not (runs_on call)) (answer_is p q section asked call done) (stops_is p q section c asked call done is))
          (settled_by (own_executed (did_call p q section asked call done) o) (call_told asked call done is made))

      made_so : (other : SbiEnd) → call ≡ other → IsMade other → Ends u a l (Counted others (own_executed (record (only (answer_of other)) { stops = not (runs_on other) }) o) q b (regime c) u a)
      made_so other same made = subst (λ (z : SbiEnd). Ends u a l (Counted others (own_executed (record (only (answer_of z)) { stops = not (runs_on z) }) o) q b (regime c) u a)) same (executed (subst IsMade (sym same) made))

      ends_as : (other : SbiEnd) → call ≡ other → Ends u a l (IsServedIn others o (end_of_call other) q b (regime c) u a) → Ends u a l (IsServedIn others o end q b (regime c) u a)
      ends_as other same k = subst (λ (z : NeedEnd). Ends u a l (IsServedIn others o z q b (regime c) u a)) (sym (e ∙ ap end_of_call same)) k

      by : (other : SbiEnd) → call ≡ other → Ends u a l (IsServedIn others o end q b (regime c) u a)
      by (SbiEnd.Pair error value) same = ends_as (SbiEnd.Pair error value) same (made_so (SbiEnd.Pair error value) same tt)
      by (SbiEnd.Single value) same = ends_as (SbiEnd.Single value) same (made_so (SbiEnd.Single value) same tt)
      by (SbiEnd.Fence harts span) same = absurd (subst IsNoFence (e ∙ ap end_of_call same) no_fence)
      by SbiEnd.NeedsSection same = ends_as SbiEnd.NeedsSection same (record {
        late = l;
        grows = stays;
        holds = subst (λ (y : Shown). MayGiveUp others o y b (regime c) u a l) (sym (still_there p q section asked call done same)) (record { tells = x.tells; idle = x.idle; walks = []; shown = tt; settled = λ page free out. x.settled page free });
      })
      by SbiEnd.HartStopped same = ends_as SbiEnd.HartStopped same (stop_told asked call done is (ap runs_on same))
      by (SbiEnd.Over Reason.Pass) same = ends_as (SbiEnd.Over Reason.Pass) same (made_so (SbiEnd.Over Reason.Pass) same tt)
      by (SbiEnd.Over (Reason.Fail code)) same = ends_as (SbiEnd.Over (Reason.Fail code)) same (made_so (SbiEnd.Over (Reason.Fail code)) same tt)
      by (SbiEnd.Over (Reason.Limit hart)) same = ends_as (SbiEnd.Over (Reason.Limit hart)) same (made_so (SbiEnd.Over (Reason.Limit hart)) same tt)
      by (SbiEnd.Over Reason.OutFull) same = ends_as (SbiEnd.Over Reason.OutFull) same (made_so (SbiEnd.Over Reason.OutFull) same tt)
      by (SbiEnd.Over Reason.AllStopped) same = ends_as (SbiEnd.Over Reason.AllStopped) same (stop_told asked call done is (ap runs_on same))
      by (SbiEnd.Over Reason.Stopped) same = ends_as (SbiEnd.Over Reason.Stopped) same (made_so (SbiEnd.Over Reason.Stopped) same tt)
