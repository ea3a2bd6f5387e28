-- Calls are served, case by case.
use Rattle.std.proofs.Common.{◌≡◌, ◌≢◌, ℕ, zero, suc, ◌<◌, ◌≤◌, arith, Bool, true, true≢false, List, [], ◌∷◌, refl, false, sym, ap, subst, ◌∙◌, inl, ne_eqb}
use Rattle.rv64_priv.specs.State.{Arch}
use Rattle.rv64_priv.specs.Csr.{regime}
use Rattle.rv64_priv.specs.Walk.{PageFault}
use Rattle.rv64_exec.specs.declared.needs.Answer.{Answer}
use Rattle.rv64_exec.specs.declared.needs.Need.{Need}
use Rattle.step_laws.specs.declared.words.Layout.{Layout}
use Rattle.step_laws.specs.declared.steps.WordOp.{WordOp}
use Rattle.step_laws.specs.declared.steps.WordOp.TheVariants.{Load, Store, Add, Exchange, Or}
use Rattle.rv64_priv.specs.declared.state.Regime.{Regime}
use Rattle.step_laws.specs.declared.steps.Step.{Step}
use Rattle.step_laws.specs.Discipline.{minus_one}
use Rattle.step_laws.specs.Words.{console_places}
use Rattle.step_laws.specs.Map.{Word, Hsm, Live, name_of}
use Rattle.machine_model.specs.Event.{Event, Exec, Outcome, actor_of, only}
use Rattle.machine_model.specs.declared.mode.Mode.{Mode}
use Rattle.machine_model.specs.declared.mode.Mode.TheVariants.{Started}
use Rattle.machine_model.specs.Own.{Own, own_executed}
use Rattle.machine_model.specs.Perform.{Surroundings}
use Rattle.machine_model.specs.Run.{counts}
use Rattle.machine_model.specs.State.{Setup, is_halted}
use Rattle.guest_ram.specs.Ports.{Shown, Made, layout_of}
use Rattle.tlb_entry.specs.declared.books.Book.{Book}
use Rattle.turn_pieces.specs.Doing.{IsQuiet}
use Rattle.turn_pieces.specs.Draws.{may_draw}
use Rattle.guest_ram.specs.Plays.{step_of}
use Rattle.guest_devices.specs.Output.{HasDrawn}
use Rattle.turn_pieces.specs.Folds.{drawn_next, was_last, was_last_next}
use Rattle.turn_pieces.specs.Kept.{places}
use Rattle.turn_pieces.specs.Log.{made, did, Log, before, events_of, steps_of}
use Rattle.turn_pieces.specs.Right.{MayBe}
use Rattle.turn_pieces.specs.Grows.{Ends, stays}
use Rattle.turn_pieces.specs.Shared.{IsShared, mode_named}
use Rattle.access_pieces.specs.Serving.{Wants}
use Rattle.access_pieces.proofs.Counting.{counted_top}
use Rattle.call_pieces.specs.Idle.{Called, Idles}
use Rattle.hart_calls.specs.declared.asking.Asked.{Asked}
use Rattle.hart_calls.specs.declared.outcomes.SbiEnd.{SbiEnd}
use Rattle.hart_calls.specs.Asked.{IsAsked}
use Rattle.hart_calls.specs.Called.{HasDone, HasLeft, HasTried, HasWrittenByte, all_put, fills, found_full, is_own, needs_section, no_byte, put, refused, started, stopped, stopped_last}
use Rattle.hart_calls.specs.Ends.{succeeds}
use Rattle.hart_calls.specs.States.{IsRunner, mode_found}
use Rattle.call_laws.specs.Found.{IsFound}
use Rattle.call_laws.specs.Did.{answer_of, did_call}
use Rattle.call_pieces.specs.Laws.{CallsAreServed, OwnStartsAreServed, StopsAreSaid}
use Rattle.call_pieces.proofs.Ending.{byte_placed, full_placed, room_drawn, stop_placed}
use Rattle.call_pieces.proofs.Moving.{all_stopped, ipi_is, left_placed, sent_placed, started_placed}
use Rattle.call_pieces.proofs.Placing.{Behind, IsNoFence, calm, calm_idle, did_is, exec_fit, no_flush, rested}

quiet_only : (h : ℕ) (answer : Answer) → IsQuiet (Exec h PageFault PageFault (only answer))
quiet_only h answer = record { does = record { entry_is = refl; bytes_are = refl; reason_is = refl; starts_is = refl; stops_is = refl }; begins_not = refl }

pub same_mode : (n : ℕ) → mode_named n ≡ mode_found n
same_mode zero = refl
same_mode (suc zero) = refl
same_mode (suc (suc n)) = refl

load_no_store : Load ≢ Store
load_no_store e = cc

exchange_no_store : Exchange 1 ≢ Store
exchange_no_store e = cc

module _ (o : Own) (p q : Shown) (b : Book) (c : Arch) (section : Bool) (asked : Asked) (end : SbiEnd) (done : HasDone p q section asked end) (runner : IsRunner p) (is : IsAsked (layout_of p) c asked) (s : IsNoFence asked) (wants : Wants o c Need.Sbi)
    (u : Setup) (a : ℕ) (l : Log) (t : Idles o p b (regime c) u a l) where
  pub layout_is : u.layout ≡ layout_of p
  layout_is = t.tells.tells.stands.layout

  pub there : a < u.layout.harts
  there = subst (λ n. n < u.layout.harts) (sym t.tells.tells.stands.actor) (subst (λ (y : Layout). p.own.actor < y.harts) (sym layout_is) runner.hart)

  pub first : Behind o b (regime c) u a p l l
  first = record { grows = stays; tells = t.tells }

  -- the execution at a log, where the machine is as the call found it
  pub fits : (k : Log) → ((w : Surroundings) → MayBe u a k w → IsFound w p q section asked end done) → Rattle.turn_pieces.specs.Right.IsExec u a k PageFault PageFault (did_call p q section asked end done) o
  fits k found = exec_fit o c (did_call p q section asked end done) u a k wants (λ w m. no_flush p c asked is s w a (m.layout ∙ layout_is))
      (λ w m. did_is p q c section asked end done is w a PageFault PageFault (m.layout ∙ layout_is) (found w m))

  -- the event on top of the log is the hart's, and counts an instruction
  pub ended : (k : Log) → Behind (own_executed (did_call p q section asked end done) o) b (regime c) u a q l k → {e : Event} {run : List Event} → events_of k ≡ e ∷ run → actor_of e ≡ a → counts e ≡ true
      → Ends u a l (Called (own_executed (did_call p q section asked end done) o) q b (regime c) u a)
  ended k x {e} {run} top own is = record { late = k; grows = x.grows; holds = record { tells = x.tells; counts = counted_top a k e run top own is } }

  -- without a step
  pub still : q ≡ p → did_call p q section asked end done ≡ only (answer_of end) → ((w : Surroundings) → MayBe u a l w → IsFound w p q section asked end done) → Ends u a l (Called (own_executed (did_call p q section asked end done) o) q b (regime c) u a)
  still same out found = ended _ (subst (λ (y : Shown). Behind (own_executed (did_call p q section asked end done) o) b (regime c) u a y l (did (Exec a PageFault PageFault (did_call p q section asked end done)) ∷ l)) (sym same)
      (rested o b (regime c) (did_call p q section asked end done) u a p l l first t.idle there (fits l found) (subst (λ (d : Outcome). IsQuiet (Exec a PageFault PageFault d)) (sym out) (quiet_only a (answer_of end))))) refl refl refl

  -- by one look at the state of a hart
  pub looked : (target found arg : ℕ) (op : WordOp) → (m : Made p q (Hsm target) op arg found) → target < (layout_of p).harts → op ≢ Store → Rattle.turn_pieces.specs.Doing.IsCalm (Hsm target) op found → ((n : ℕ) → Rattle.turn_pieces.specs.Writers.IsPlain n (Hsm target) op)
      → did_call p q section asked end done ≡ only (answer_of end) → ((w : Surroundings) → w.modes target ≡ mode_found found → IsFound w p q section asked end done) → Ends u a l (Called (own_executed (did_call p q section asked end done) o) q b (regime c) u a)
  looked target found arg op m few not_store calm_is plain_is out as_found =
      let k = calm o b (regime c) u a p q (Hsm target) op arg found m tt calm_is plain_is l l first in
      ended _ (rested o b (regime c) (did_call p q section asked end done) u a q l _ k (calm_idle o b (regime c) u a p q (Hsm target) op arg found m calm_is plain_is l) there
      (fits _ (λ w y. as_found w (y.here.1 target (subst (λ (z : Layout). target < z.harts) (sym layout_is) few) m.name not_store ∙ same_mode found)))
      (subst (λ (d : Outcome). IsQuiet (Exec a PageFault PageFault d)) (sym out) (quiet_only a (answer_of end)))) refl refl refl

or_no_store : Or ≢ Store
or_no_store e = cc

draws_there : (o : Own) (p : Shown) (b : Book) (r : Regime) (u : Setup) (a : ℕ) (l : Log) → Idles o p b r u a l → may_draw p.own.steps ≡ true → may_draw (steps_of l) ≡ true
draws_there o p b r u a l t may = subst (λ (x : List Step). may_draw x ≡ true) (sym t.tells.tells.stands.is) may

one_drawn : (o : Own) (p x : Shown) (b : Book) (r : Regime) (u : Setup) (a : ℕ) (l : Log) → Idles o p b r u a l → (place : ℕ) (m : HasDrawn place p x) → places (made (step_of p.own.actor m.word Add 1 place) ∷ l) ≡ place ∷ []
one_drawn o p x b r u a l t place m = ap (λ w. drawn_next w Add place (places l)) m.name ∙ ap (λ ds. place ∷ ds) t.tells.tells.none_drawn

some_room : (u : Setup) (a : ℕ) (l : Log) (place : ℕ) (w : Surroundings) → MayBe u a l w → places l ≡ place ∷ [] → place < console_places → 1 ≤ w.room
some_room u a l place w m one less = let room = room_drawn u a l place w m one in omega (arith, room, less)

no_room : (u : Setup) (a : ℕ) (l : Log) (place : ℕ) (w : Surroundings) → MayBe u a l w → places l ≡ place ∷ [] → console_places ≤ place → w.room ≡ 0
no_room u a l place w m one beyond = let room = room_drawn u a l place w m one in omega (arith, room, beyond)

-- the hart took the last one from LIVE exactly where it found 1 there
last_of_more : (w : Word) (a left : ℕ) (before : Bool) → w ≡ Live → left ≢ 1 → was_last_next a w Add minus_one left before ≡ false
last_of_more w a left before name ne = ap (λ v. was_last_next a v Add minus_one left before) name ∙ ne_eqb left 1 ne

not_both : (b : Bool) → b ≡ false → b ≡ true → ⊥
not_both b e f = true≢false (sym f ∙ e)

pub stops_said : StopsAreSaid
unfolding ended name_of
stops_said p q b c section end (stopped left ne x) runner is o wants u a l t =
    let done : HasLeft p q end = stopped left ne x in
    let own : p.own.actor ≡ a = sym t.tells.tells.stands.actor in
    let y = ended o p q b c section Asked.Leaves end done runner is tt wants u a l t _
    (calm (own_executed (did_call p q section Asked.Leaves end done) o) b (regime c) u a x.stopped q Live Add minus_one left x.takes tt tt (λ n. tt) l _
    (left_placed o b (regime c) u a (answer_of end) p x.stopped x.stops l l own (first o p q b c section Asked.Leaves end done runner is tt wants u a l t) (there o p q b c section Asked.Leaves end done runner is tt wants u a l t)
    (fits o p q b c section Asked.Leaves end done runner is tt wants u a l t _ (λ w y. tt)))) refl refl refl in record {
      late = y.late;
      grows = y.grows;
      holds = record { called = y.holds; said = λ last. absurd (not_both (was_last a (steps_of y.late)) (last_of_more (name_of x.takes.word) a left (was_last a (steps_of (before y.late))) x.takes.name ne) last) };
    }
stops_said p q b c section end (stopped_last mid stands x y) runner is o wants u a l t =
    let done : HasLeft p q end = stopped_last mid stands x y in
    let own : p.own.actor ≡ a = sym t.tells.tells.stands.actor in
    let z = ended o p q b c section Asked.Leaves end done runner is tt wants u a l t _
    (all_stopped o b (regime c) u a (answer_of end) stands p x.stopped mid q x.stops x.takes y l l own (first o p q b c section Asked.Leaves end done runner is tt wants u a l t) (there o p q b c section Asked.Leaves end done runner is tt wants u a l t)
    (fits o p q b c section Asked.Leaves end done runner is tt wants u a l t _ (λ w z. tt))) refl refl refl in record {
      late = z.late;
      grows = z.grows;
      holds = record { called = z.holds; said = λ last. inl refl };
    }

pub calls_served : CallsAreServed
calls_served p q b c section (Asked.Gives error value) end done runner may is s o wants u a l t = still o p q b c section (Asked.Gives error value) end done runner is tt wants u a l t done.1 refl (λ w m. tt)
calls_served p q b c section (Asked.GivesOne error) end done runner may is s o wants u a l t = still o p q b c section (Asked.GivesOne error) end done runner is tt wants u a l t done.1 refl (λ w m. tt)
calls_served p q b c section (Asked.Sends mask) end done runner may is s o wants u a l t =
    let m = done.1.1 in
    let asked = Asked.Sends mask in
    ended o p q b c section asked end done runner is tt wants u a l t _
    (sent_placed o b (regime c) u a (answer_of end) mask done.1.0 p q m l l (first o p q b c section asked end done runner is tt wants u a l t) (there o p q b c section asked end done runner is tt wants u a l t)
    (fits o p q b c section asked end done runner is tt wants u a l t _ (λ w y. ap w.memory (sym (ipi_is m.word m.name)) ∙ y.here.0 (subst IsShared (sym m.name) tt) or_no_store))) refl refl refl
calls_served p q b c section (Asked.Fences harts span) end done runner may is s o wants u a l t = absurd s
calls_served p q b c section (Asked.Starts target at opaque) end (started other x) runner may is s o wants u a l t =
    let asked = Asked.Starts target at opaque in
    let done : HasTried p q target at opaque end = started other x in
    ended o p q b c section asked end done runner is tt wants u a l t _
    (started_placed o b (regime c) u a (answer_of end) target at opaque p q x l l (first o p q b c section asked end done runner is tt wants u a l t) (there o p q b c section asked end done runner is tt wants u a l t)
    (fits o p q b c section asked end done runner is tt wants u a l t _ (λ w y. y.here.1 target (subst (λ (z : Layout). target < z.harts) (sym (layout_is o p q b c section asked end done runner is tt wants u a l t)) is.sound.0) x.takes.name exchange_no_store ∙ same_mode 1))) refl refl refl
calls_served p q b c section (Asked.Starts target at opaque) end (refused found other ne x) runner may is s o wants u a l t =
    looked o p q b c section (Asked.Starts target at opaque) end (refused found other ne x) runner is tt wants u a l t target found 3 (Exchange 1) x is.sound.0 exchange_no_store (λ e. ne (sym e)) (λ n. tt) refl (λ w e. e)
calls_served p q b c section (Asked.Starts target at opaque) end (is_own own same) runner may is s o wants u a l t = absurd (s own)
calls_served p q b c section (Asked.TellsState target) end done runner may is s o wants u a l t =
    looked o p q b c section (Asked.TellsState target) end done runner is tt wants u a l t target done.0 0 Load done.2 is.sound load_no_store tt (λ n. tt) refl (λ w e. e)
calls_served p q b c section Asked.Leaves end done runner may is s o wants u a l t = let y = stops_said p q b c section end done runner is o wants u a l t in record { late = y.late; grows = y.grows; holds = y.holds.called }
calls_served p q b c section (Asked.Ends reason) end done runner may is s o wants u a l t =
    let asked = Asked.Ends reason in
    ended o p q b c section asked end done runner is tt wants u a l t _
    (stop_placed o b (regime c) u a (answer_of end) reason done.1.0 p q done.1.1 l l (first o p q b c section asked end done runner is tt wants u a l t) (there o p q b c section asked end done runner is tt wants u a l t)
    (fits o p q b c section asked end done runner is tt wants u a l t _ (λ w y. tt))) refl refl refl
calls_served p q b c section (Asked.Prints from count) end (no_byte none same) runner may is s o wants u a l t = still o p q b c section (Asked.Prints from count) end (no_byte none same) runner is tt wants u a l t same refl (λ w m. tt)
calls_served p q b c section (Asked.Prints from count) end (needs_section some same) runner may is s o wants u a l t = absurd (some s)
calls_served p q b c section (Asked.Prints from count) end (all_put finds some x) runner may is s o wants u a l t = absurd (some s)
calls_served p q b c section (Asked.Prints from count) end (fills finds mid stands x y) runner may is s o wants u a l t = let fewer = x.fewer in absurd (omega (arith, fewer, s))
calls_served p q b c section (Asked.PrintsByte byte) end (put x) runner may is s o wants u a l t =
    let asked = Asked.PrintsByte byte in
    let done : HasWrittenByte p q byte (succeeds 0) end = put x in
    ended o p q b c section asked end done runner is tt wants u a l t _
    (byte_placed o b (regime c) u a (answer_of end) byte p q x l l (first o p q b c section asked end done runner is tt wants u a l t) (there o p q b c section asked end done runner is tt wants u a l t) (draws_there o p b (regime c) u a l t may)
    (fits o p q b c section asked end done runner is tt wants u a l t _ (λ w y. some_room u a _ x.place w y (one_drawn o p x.mid b (regime c) u a l t x.place x.draws) x.less))) refl refl refl
calls_served p q b c section (Asked.PrintsByte byte) end (found_full place mid stands x y) runner may is s o wants u a l t =
    let asked = Asked.PrintsByte byte in
    let done : HasWrittenByte p q byte (succeeds 0) end = found_full place mid stands x y in
    ended o p q b c section asked end done runner is tt wants u a l t _
    (full_placed o b (regime c) u a place stands p mid q x y l l (first o p q b c section asked end done runner is tt wants u a l t) (there o p q b c section asked end done runner is tt wants u a l t) (draws_there o p b (regime c) u a l t may)
    (fits o p q b c section asked end done runner is tt wants u a l t _ (λ w z. no_room u a _ place w z (ap (λ v. drawn_next v (Exchange 0) y.found (places (made (step_of p.own.actor x.draws.word Add 1 place) ∷ l))) y.exchanges.name ∙ one_drawn o p mid b (regime c) u a l t place x.draws) x.beyond))) refl refl refl
calls_served p q b c section (Asked.PrintsOne byte) end (put x) runner may is s o wants u a l t =
    let asked = Asked.PrintsOne byte in
    let done : HasWrittenByte p q byte (SbiEnd.Single 0) end = put x in
    ended o p q b c section asked end done runner is tt wants u a l t _
    (byte_placed o b (regime c) u a (answer_of end) byte p q x l l (first o p q b c section asked end done runner is tt wants u a l t) (there o p q b c section asked end done runner is tt wants u a l t) (draws_there o p b (regime c) u a l t may)
    (fits o p q b c section asked end done runner is tt wants u a l t _ (λ w y. some_room u a _ x.place w y (one_drawn o p x.mid b (regime c) u a l t x.place x.draws) x.less))) refl refl refl
calls_served p q b c section (Asked.PrintsOne byte) end (found_full place mid stands x y) runner may is s o wants u a l t =
    let asked = Asked.PrintsOne byte in
    let done : HasWrittenByte p q byte (SbiEnd.Single 0) end = found_full place mid stands x y in
    ended o p q b c section asked end done runner is tt wants u a l t _
    (full_placed o b (regime c) u a place stands p mid q x y l l (first o p q b c section asked end done runner is tt wants u a l t) (there o p q b c section asked end done runner is tt wants u a l t) (draws_there o p b (regime c) u a l t may)
    (fits o p q b c section asked end done runner is tt wants u a l t _ (λ w z. no_room u a _ place w z (ap (λ v. drawn_next v (Exchange 0) y.found (places (made (step_of p.own.actor x.draws.word Add 1 place) ∷ l))) y.exchanges.name ∙ one_drawn o p mid b (regime c) u a l t place x.draws) x.beyond))) refl refl refl

started_runs : (m : Mode) → m ≡ Started → is_halted m ≡ false
started_runs m e = ap is_halted e

pub own_starts_served : OwnStartsAreServed
own_starts_served p q b c section target at opaque end (started other x) runner is own o runs wants u a l t = absurd (other own)
own_starts_served p q b c section target at opaque end (refused found other ne x) runner is own o runs wants u a l t = absurd (other own)
own_starts_served p q b c section target at opaque end (is_own same_hart same) runner is own o runs wants u a l t =
    let asked = Asked.Starts target at opaque in
    let lt = there o p q b c section asked end (is_own same_hart same) runner is tt wants u a l t in
    still o p q b c section asked end (is_own same_hart same) runner is tt wants u a l t same refl
    (λ w m. subst (λ n. is_halted (w.modes n) ≡ false) (sym (own ∙ sym t.tells.tells.stands.actor)) (started_runs (w.modes a) (m.started lt (ap (λ (y : Own). y.runs) t.tells.tells.stands.part_is ∙ runs))))
