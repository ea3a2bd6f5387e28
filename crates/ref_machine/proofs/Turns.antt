-- A turn of the machine on one thread is a turn of the plain run.
use Rattle.std.proofs.Common.{◌≡◌, refl, ℕ, ◌<◌, ◌+◌, ◌%◌, ◌++◌, List, [], ◌∷◌, map, length, length-set, Some, None, Option, true, false, Bool, not, ◌&&◌, ap, sym, ◌∙◌, subst, option_to_list}
use Rattle.std.specs.Prelude.{◌==◌, is_some, if◌then◌else◌, slice_set}
use Rattle.std.proofs.Math.ListN.{get_or-map}
use Rattle.std.proofs.lemmas.List.{length-map, map-set, set-set, get_or-set_same}
use Rattle.std.proofs.lemmas.List.Folds.{list_all-map}
use Rattle.rv64_priv.specs.declared.state.Kind.{Kind}
use Rattle.rv64_priv.specs.Trap.{trapped, software_interrupt}
use Rattle.rv64_priv.specs.Walk.{Walked, Leaf, PageFault, AccessFault, is_device}
use Rattle.rv64_exec.specs.Code.{Code}
use Rattle.rv64_exec.specs.declared.needs.Answer.{Answer}
use Rattle.rv64_exec.specs.Finish as finish
use Rattle.machine_model.specs.declared.reason.Reason.{Reason}
use Rattle.machine_model.specs.declared.mode.Mode.{Mode}
use Rattle.machine_model.specs.declared.mode.Mode.TheVariants.{Halted, Pending}
use Rattle.ref_machine.specs.declared.hart.HartSlot.{HartSlot}
use Rattle.machine_model.specs.Memory.{StoreEntry}
use Rattle.machine_model.specs.Event.{Event, Outcome, Starting, Exec, Flushes, Stop}
use Rattle.machine_model.specs.State.{Setup, State, Hart, Command, hart, nth, new_hart, all_halted, is_halted}
use Rattle.machine_model.specs.Access.{AtRam, AtDevice, Faults, spot_of}
use Rattle.machine_model.specs.Walks.{need, access_of}
use Rattle.machine_model.specs.Perform.{surroundings}
use Rattle.machine_model.specs.Change as change
use Rattle.machine_model.specs.Change.{state_after, executed, first_reason, counted}
use Rattle.machine_model.specs.Run.{is_leaf_end}
use Rattle.machine_model.specs.Now.{first_now, second_now, is_pending_now, fetch_end, fetch_now, exec_now}
use Rattle.machine_model.specs.Lawful.{Flushing, flushing}
use Rattle.machine_model.specs.Plain.{plain_turn, turn_in, running_turn, instruction, executing, with_stops, stops_behind, flush_events, states_after, after_turn}
use Rattle.ref_machine.specs.Slots as slots
use Rattle.ref_machine.specs.Slots.{new_slot, slot_at, slot_begun}
use Rattle.ref_machine.specs.SharedState.{Shared}
use Rattle.ref_machine.specs.PlainState.{PlainState, slot}
use Rattle.ref_machine.specs.Shows.{holding, resting, shown}
use Rattle.machine_model.proofs.Harts.{start_keeps}
use Rattle.machine_model.proofs.Plainly.{fetched_leaf}
use Rattle.ref_machine.proofs.Served.{outcome, performed, state_with}

-- HARTS AS SHOWN

pub slot_shown : (ts : List HartSlot) (h : ℕ) → nth (map resting ts) h ≡ resting (slot_at ts h)
slot_shown ts h = get_or-map resting ts h (new_slot Halted 0)

-- a hart is changed
set_shown : (ts : List HartSlot) (h : ℕ) (w : Hart → Hart) (t : HartSlot) → w (resting (slot_at ts h)) ≡ resting t → slice_set (map resting ts) h (w (nth (map resting ts) h)) ≡ map resting (slice_set ts h t)
set_shown ts h w t e =
    ap (λ x. slice_set (map resting ts) h (w x)) (slot_shown ts h)
    ∙ ap (slice_set (map resting ts) h) e
    ∙ sym (map-set resting ts h t)

start_shown : (ts : List HartSlot) (o : Option Starting) → change.with_start (map resting ts) o ≡ map resting (slots.slots_with_start ts o)
start_shown ts None = refl
start_shown ts (Some g) = set_shown ts g.target (change.awaited g) (slots.slot_awaited g (slot_at ts g.target)) refl

halted_shown : (ts : List HartSlot) (es : List StoreEntry) (sc : List Command) (output : List ℕ) (r : Option Reason)
    → all_halted (record { entries = es; harts = map resting ts; output = output; reason = r; script = sc }) ≡ slots.slots_all_halted ts
halted_shown ts es sc output r = list_all-map (λ (t : Hart). is_halted t.mode) resting ts

-- A TURN'S BEGIN

pub taken : (u : Setup) (p : PlainState) (es : List StoreEntry) (sc : List Command) (h : ℕ) (code : Code) (m : Mode) → p.shared.reason ≡ None → (slot p h).mode ≡ m
    → after_turn u h code (shown p es sc) ≡ states_after (turn_in u (shown p es sc) h code m) (shown p es sc)
unfolding plain_turn
taken u p es sc h code m none e =
    let s = shown p es sc in
    ap (λ r. states_after (if is_some r then [] else turn_in u s h code (hart s h).mode) s) none
    ∙ ap (λ x. states_after (turn_in u s h code x) s) (ap (λ (t : Hart). t.mode) (slot_shown p.slots h) ∙ e)

-- of a start
pub begun_state : (u : Setup) (p : PlainState) (es : List StoreEntry) (sc : List Command) (h : ℕ) (code : Code)
    → states_after (turn_in u (shown p es sc) h code Pending) (shown p es sc) ≡ shown (record p { slots = slice_set p.slots h (slot_begun h (slot p h)) }) es sc
begun_state u p es sc h code =
    let with_harts : List Hart → State = λ hs. record { entries = es; harts = hs; output = p.shared.console; reason = p.shared.reason; script = sc } in
    let begin : Hart → Hart → Hart = λ t x. change.begun h t.start t.opaque x in
    ap (λ (t : Hart). with_harts (slice_set (map resting p.slots) h (begin t (nth (map resting p.slots) h)))) (slot_shown p.slots h)
    ∙ ap with_harts (set_shown p.slots h (begin (resting (slot p h))) (slot_begun h (slot p h)) refl)

-- of an interrupt
pub interrupt_state : (u : Setup) (p : PlainState) (es : List StoreEntry) (sc : List Command) (h : ℕ) (code : Code) → is_pending_now u (shown p es sc) h ≡ true
    → states_after (running_turn u (shown p es sc) h code) (shown p es sc) ≡ shown (record p { slots = slice_set p.slots h (record (slot p h) { arch = trapped (slot p h).arch software_interrupt 0 }) }) es sc
interrupt_state u p es sc h code pending =
    let s = shown p es sc in
    ap (λ b. states_after (if b then Event.Interrupt h ∷ [] else instruction u s h code) s) pending
    ∙ ap (λ (hs : List Hart). record { entries = es; harts = hs; output = p.shared.console; reason = p.shared.reason; script = sc })
    (set_shown p.slots h (λ t. record t { arch = trapped t.arch software_interrupt 0 }) (record (slot p h) { arch = trapped (slot p h).arch software_interrupt 0 }) refl)

pub quiet_state : (u : Setup) (s : State) (h : ℕ) (code : Code) → is_pending_now u s h ≡ false → states_after (running_turn u s h code) s ≡ states_after (instruction u s h code) s
quiet_state u s h code quiet = ap (λ b. states_after (if b then Event.Interrupt h ∷ [] else instruction u s h code) s) quiet

-- EVENTS IN A ROW

states_append : (es fs : List Event) (s : State) → states_after (es ++ fs) s ≡ states_after es (states_after fs s)
states_append [] fs s = refl
states_append (e ∷ es) fs s = ap (state_after e) (states_append es fs s)

-- flushes change nothing
flushes_keep : (f : Option Flushing) (s : State) → states_after (flush_events f) s ≡ s
flushes_keep None s = refl
flushes_keep (Some f) s = go f.harts
  where
    go : (hs : List ℕ) → states_after (map (λ t. Flushes t f.what) hs) s ≡ s
    go [] = refl
    go (h ∷ hs) = ap (state_after (Flushes h f.what)) (go hs)

-- the stops behind an event: of all harts, and then of the limit
abbrev stopped : State → Option Reason → Option Reason → State
stopped s all limit = record s { reason = first_reason (first_reason s.reason all) limit }

abbrev all_reason : Bool → Option Reason
all_reason c = if c then Some Reason.AllStopped else None

abbrev limit_reason : ℕ → Bool → Option Reason
limit_reason h c = if c then Some (Reason.Limit h) else None

stops_by : (h : ℕ) (s : State) (c d : Bool) → states_after ((if c then Stop h (Reason.Limit h) ∷ [] else []) ++ (if d then Stop h Reason.AllStopped ∷ [] else [])) s ≡ stopped s (all_reason d) (limit_reason h c)
stops_by h s true true = refl
stops_by h s true false = refl
stops_by h s false true = refl
stops_by h s false false = refl

-- AN INSTRUCTION

-- what the word that the hart holds does now
abbrev pub outcome_now : Setup → State → (h : ℕ) → Outcome
outcome_now u s h = performed u s h (need s h)

-- behind its Exec
abbrev exec_of : State → (h : ℕ) → Outcome → State
exec_of s h o = record {
  entries = option_to_list o.entry ++ s.entries;
  harts = change.with_start (slice_set s.harts h (executed o (nth s.harts h))) o.starts;
  output = change.printed s.output o.bytes;
  reason = first_reason s.reason o.reason;
  script = s.script;
}

exec_count : (s : State) (h : ℕ) (o : Outcome) → h < length s.harts → (hart (exec_of s h o) h).count ≡ (hart s h).count + 1
unfolding executed
exec_count s h o lt =
    start_keeps (λ t. t.count) (λ g t. refl) (slice_set s.harts h (executed o (nth s.harts h))) o.starts h
    ∙ ap (λ (t : Hart). t.count) (get_or-set_same s.harts h (executed o (nth s.harts h)) (new_hart Halted 0) lt)

pub exec_state : (u : Setup) (s : State) (h : ℕ) (o : Outcome) → outcome_now u s h ≡ o → h < length s.harts
    → states_after (executing u s h) s ≡ stopped (exec_of s h o) (all_reason (o.stops && all_halted (exec_of s h o))) (limit_reason h ((hart s h).count + 1 == u.limit))
unfolding executing exec_now
exec_state u s h o right lt =
    let a = first_now u s h (access_of (need s h)) in
    let b = second_now u s h (access_of (need s h)) in
    states_append (with_stops u s h (Exec h a b (outcome_now u s h))) (flush_events (flushing (surroundings u s) h (hart s h).arch (need s h))) s
    ∙ ap (λ x. states_after (with_stops u s h (Exec h a b (outcome_now u s h))) x) (flushes_keep (flushing (surroundings u s) h (hart s h).arch (need s h)) s)
    ∙ ap (λ o. states_after (with_stops u s h (Exec h a b o)) s) right
    ∙ states_append (stops_behind u h (Exec h a b o) (exec_of s h o)) (Exec h a b o ∷ []) s
    ∙ ap (λ n. states_after ((if n == u.limit then Stop h (Reason.Limit h) ∷ [] else []) ++ (if o.stops && all_halted (exec_of s h o) then Stop h Reason.AllStopped ∷ [] else [])) (exec_of s h o)) (exec_count s h o lt)
    ∙ stops_by h (exec_of s h o) ((hart s h).count + 1 == u.limit) (o.stops && all_halted (exec_of s h o))

-- a hart holds a word
abbrev pub held_in : List HartSlot → (h : ℕ) → Code → List Hart
held_in ts h code = slice_set (map resting ts) h (holding (Some code) (slot_at ts h))

fetch_state : (u : Setup) (p : PlainState) (es : List StoreEntry) (sc : List Command) (h : ℕ) (code : Code) → is_leaf_end (fetch_end u (shown p es sc) h) ≡ true
    → state_after (fetch_now u (shown p es sc) h code) (shown p es sc) ≡ state_with (held_in p.slots h code) p.shared es sc
fetch_state u p es sc h code leaf =
    let end = fetch_end u (shown p es sc) h in
    let s : Hart → State = λ t. record { entries = es; harts = slice_set (map resting p.slots) h t; output = p.shared.console; reason = p.shared.reason; script = sc } in
    ap (λ (t : Hart). s (change.fetched code t (spot_of Kind.Fetch t.arch.pc end))) (slot_shown p.slots h)
    ∙ ap s (fetched_leaf code (resting (slot p h)) (slot p h).arch.pc end leaf)

-- the Exec of a word that a fetch found
pub leaf_state : (u : Setup) (p : PlainState) (es : List StoreEntry) (sc : List Command) (h : ℕ) (code : Code) → is_leaf_end (fetch_end u (shown p es sc) h) ≡ true
    → states_after (instruction u (shown p es sc) h code) (shown p es sc)
    ≡ states_after (executing u (state_with (held_in p.slots h code) p.shared es sc) h) (state_with (held_in p.slots h code) p.shared es sc)
unfolding instruction
leaf_state u p es sc h code leaf =
    let s = shown p es sc in
    let f = fetch_now u s h code in
    ap (λ b. states_after (if b then executing u (state_after f s) h ++ f ∷ [] else with_stops u s h f) s) leaf
    ∙ states_append (executing u (state_after f s) h) (f ∷ []) s
    ∙ ap (λ x. states_after (executing u x h) x) (fetch_state u p es sc h code leaf)

pub held_hart : (ts : List HartSlot) (h : ℕ) (code : Code) → h < length ts → nth (held_in ts h code) h ≡ holding (Some code) (slot_at ts h)
held_hart ts h code lt = get_or-set_same (map resting ts) h (holding (Some code) (slot_at ts h)) (new_hart Halted 0) (subst (λ n. h < n) (sym (length-map ts resting)) lt)

held_length : (ts : List HartSlot) (h : ℕ) (code : Code) → length (held_in ts h code) ≡ length ts
held_length ts h code = length-set (map resting ts) h (holding (Some code) (slot_at ts h)) ∙ length-map ts resting

-- the hart behind its word, and all harts
abbrev pub slot_done : HartSlot → Code → Answer → (stops : Bool) → HartSlot
slot_done t code answer stops = record t { arch = finish.effect_of t.arch code answer; mode = if stops then Halted else t.mode; count = t.count + 1 }

abbrev pub slots_done : List HartSlot → (h : ℕ) → Code → Answer → (stops : Bool) → Option Starting → List HartSlot
slots_done ts h code answer stops start = slots.slots_with_start (slice_set ts h (slot_done (slot_at ts h) code answer stops)) start

done_harts : (ts : List HartSlot) (h : ℕ) (code : Code) (ans : Answer) (en : Option StoreEntry) (bs : List ℕ) (re : Option Reason) (st : Option Starting) (stops : Bool) → h < length ts
    → change.with_start (slice_set (held_in ts h code) h (executed (outcome ans en bs re st stops) (nth (held_in ts h code) h))) st ≡ map resting (slots_done ts h code ans stops st)
unfolding executed
done_harts ts h code ans en bs re st stops lt =
    let t = slot_done (slot_at ts h) code ans stops in
    ap (λ x. change.with_start (slice_set (held_in ts h code) h (executed (outcome ans en bs re st stops) x)) st) (held_hart ts h code lt)
    ∙ ap (λ hs. change.with_start hs st) (set-set (map resting ts) h (holding (Some code) (slot_at ts h)) (resting t) ∙ sym (map-set resting ts h t))
    ∙ start_shown (slice_set ts h t) st

-- the machine's state behind the word
abbrev done_shown : List HartSlot → (h : ℕ) → Code → Answer → Option StoreEntry → List ℕ → Option Reason → Option Starting → (stops : Bool) → Shared → List StoreEntry → List Command → Option Reason → State
done_shown ts h code ans en bs re st stops b es sc limit = record {
  entries = option_to_list en ++ es;
  harts = map resting (slots_done ts h code ans stops st);
  output = change.printed b.console bs;
  reason = first_reason (first_reason (first_reason b.reason re) (all_reason (stops && slots.slots_all_halted (slots_done ts h code ans stops st)))) limit;
  script = sc;
}

pub done_state : (u : Setup) (ts : List HartSlot) (b : Shared) (es : List StoreEntry) (sc : List Command) (h : ℕ) (code : Code) (ans : Answer) (en : Option StoreEntry) (bs : List ℕ) (re : Option Reason) (st : Option Starting) (stops : Bool)
    → h < length ts → outcome_now u (state_with (held_in ts h code) b es sc) h ≡ outcome ans en bs re st stops
    → states_after (executing u (state_with (held_in ts h code) b es sc) h) (state_with (held_in ts h code) b es sc)
    ≡ done_shown ts h code ans en bs re st stops b es sc (limit_reason h ((slot_at ts h).count + 1 == u.limit))
done_state u ts b es sc h code ans en bs re st stops lt right =
    let s = state_with (held_in ts h code) b es sc in
    let o = outcome ans en bs re st stops in
    let behind : List Hart → State = λ hs. record { entries = option_to_list en ++ es; harts = hs; output = change.printed b.console bs; reason = first_reason b.reason re; script = sc } in
    let limit : Option Reason = limit_reason h ((slot_at ts h).count + 1 == u.limit) in
    exec_state u s h o right (subst (λ n. h < n) (sym (held_length ts h code)) lt)
    ∙ ap (λ (t : Hart). stopped (exec_of s h o) (all_reason (stops && all_halted (exec_of s h o))) (limit_reason h (t.count + 1 == u.limit))) (held_hart ts h code lt)
    ∙ ap (λ hs. stopped (behind hs) (all_reason (stops && all_halted (behind hs))) limit) (done_harts ts h code ans en bs re st stops lt)
    ∙ ap (λ c. stopped (behind (map resting (slots_done ts h code ans stops st))) (all_reason (stops && c)) limit) (halted_shown (slots_done ts h code ans stops st) (option_to_list en ++ es) sc (change.printed b.console bs) (first_reason b.reason re))

-- A FETCH THAT FAULTS

pub no_leaf : (va : ℕ) (end : Walked) (cause tval : ℕ) → spot_of Kind.Fetch va end ≡ Faults cause tval → is_leaf_end end ≡ false
no_leaf va PageFault cause tval e = refl
no_leaf va AccessFault cause tval e = refl
no_leaf va (Leaf pte page level) cause tval e = absurd (go (is_device (page + va % 4096)) e)
  where
    go : (b : Bool) → (if b then AtDevice (page + va % 4096) else AtRam (page + va % 4096)) ≡ Faults cause tval → ⊥
    go true e = cc
    go false e = cc

-- the hart behind the fault
abbrev pub slot_faulted : HartSlot → (cause tval : ℕ) → HartSlot
slot_faulted t cause tval = record t { arch = trapped t.arch cause tval; count = t.count + 1 }

-- behind the Fetch
fault_harts : (ts : List HartSlot) (h : ℕ) (code : Code) (end : Walked) (cause tval : ℕ) → spot_of Kind.Fetch (slot_at ts h).arch.pc end ≡ Faults cause tval
    → slice_set (map resting ts) h (change.fetched code (nth (map resting ts) h) (spot_of Kind.Fetch (nth (map resting ts) h).arch.pc end)) ≡ map resting (slice_set ts h (slot_faulted (slot_at ts h) cause tval))
fault_harts ts h code end cause tval spot =
    set_shown ts h (λ t. change.fetched code t (spot_of Kind.Fetch t.arch.pc end)) (slot_faulted (slot_at ts h) cause tval) (ap (change.fetched code (resting (slot_at ts h))) spot)

fault_count : (ts : List HartSlot) (h : ℕ) (t : HartSlot) → h < length ts → (nth (map resting (slice_set ts h t)) h).count ≡ t.count
fault_count ts h t lt = ap (λ (x : Hart). x.count) (slot_shown (slice_set ts h t) h) ∙ ap (λ (x : HartSlot). x.count) (get_or-set_same ts h t (new_slot Halted 0) lt)

pub fault_state : (u : Setup) (p : PlainState) (es : List StoreEntry) (sc : List Command) (h : ℕ) (code : Code) (cause tval : ℕ) → h < length p.slots
    → spot_of Kind.Fetch (slot p h).arch.pc (fetch_end u (shown p es sc) h) ≡ Faults cause tval
    → states_after (instruction u (shown p es sc) h code) (shown p es sc)
    ≡ record { entries = es; harts = map resting (slice_set p.slots h (slot_faulted (slot p h) cause tval)); output = p.shared.console; reason = first_reason p.shared.reason (limit_reason h ((slot p h).count + 1 == u.limit)); script = sc }
unfolding instruction
fault_state u p es sc h code cause tval lt spot =
    let s = shown p es sc in
    let end = fetch_end u s h in
    let f = fetch_now u s h code in
    let leaf : is_leaf_end end ≡ false = no_leaf (slot p h).arch.pc end cause tval spot in
    let t = slot_faulted (slot p h) cause tval in
    let behind : List Hart → State = λ hs. record { entries = es; harts = hs; output = p.shared.console; reason = p.shared.reason; script = sc } in
    let stops : Bool → ℕ → List Event = λ b n. (if not b && (n == u.limit) then Stop h (Reason.Limit h) ∷ [] else []) ++ [] in
    ap (λ b. states_after (if b then executing u (state_after f s) h ++ f ∷ [] else with_stops u s h f) s) leaf
    ∙ states_append (stops_behind u h f (state_after f s)) (f ∷ []) s
    ∙ ap (λ b. states_after (stops b (hart (state_after f s) h).count) (state_after f s)) leaf
    ∙ ap (λ hs. states_after (stops false (nth hs h).count) (behind hs)) (fault_harts p.slots h code end cause tval spot)
    ∙ ap (λ n. states_after (stops false n) (behind (map resting (slice_set p.slots h t)))) (fault_count p.slots h t lt)
    ∙ stops_by h (behind (map resting (slice_set p.slots h t))) ((slot p h).count + 1 == u.limit) false
