-- What a word's turn leaves is shown.
use Rattle.std.proofs.Common.{◌≡◌, refl, ℕ, ◌<◌, ◌+◌, ◌++◌, List, [], map, length, Some, None, Option, true, false, Bool, ap, sym, ◌∙◌, subst, option_to_list}
use Rattle.std.specs.Prelude.{◌==◌, if◌then◌else◌, slice_set}
use Rattle.rv64_decode.specs.declared.instruction.Instr.{Instr}
use Rattle.rv64_exec.specs.Code.{Code}
use Rattle.rv64_exec.specs.declared.needs.Need.{Need}
use Rattle.rv64_exec.specs.declared.needs.Answer.{Answer}
use Rattle.rv64_exec.specs.Plan.{need_of, need_of_code}
use Rattle.machine_model.specs.declared.reason.Reason.{Reason}
use Rattle.machine_model.specs.declared.mode.Mode.TheVariants.{Started}
use Rattle.ref_machine.specs.declared.hart.HartSlot.{HartSlot}
use Rattle.machine_model.specs.Memory.{StoreEntry}
use Rattle.machine_model.specs.Event.{Starting}
use Rattle.machine_model.specs.State.{Setup, State, Hart, Command, nth}
use Rattle.machine_model.specs.Walks.{need, need_held}
use Rattle.machine_model.specs.Perform.{perform}
use Rattle.machine_model.specs.Change.{first_reason}
use Rattle.machine_model.specs.Run.{is_leaf_end}
use Rattle.machine_model.specs.Now.{is_pending_now, fetch_end}
use Rattle.machine_model.specs.Plain.{after_turn}
use Rattle.ref_machine.specs.Slots.{slot_at, modes_of}
use Rattle.ref_machine.specs.SharedState.{Shared}
use Rattle.ref_machine.specs.PlainState.{PlainState, slot}
use Rattle.ref_machine.specs.OneTurn.{Effect, answers, effect_of_need, effect_of_call, call_of, limited, last_stopped, after_need, after_word, after_done}
use Rattle.ref_machine.specs.Shows.{Shows, resting, shown}
use Rattle.machine_model.proofs.Harts.{kept}
use Rattle.ref_machine.proofs.Served.{Does, ShowsHart, state_with, performed, need_does, ram_does}
use Rattle.ref_machine.proofs.Called.{call_does}
use Rattle.ref_machine.proofs.KeptSlots.{called_length}
use Rattle.ref_machine.proofs.Turns.{outcome_now, slot_shown, taken, quiet_state, leaf_state, held_in, held_hart, slot_done, slots_done, done_state}

-- the machine behind a word with this effect
abbrev pub after_code : PlainState → (h : ℕ) → Code → Effect → Option Starting → (stops : Bool) → PlainState
after_code p h code e st stops =
    let ts = slots_done p.slots h code e.answer stops st in
    record { slots = ts; shared = record e.shared { reason = limited h ((slot p h).count + 1) e.shared.limit (first_reason e.reason (last_stopped ts stops)) } }

-- what is known of a turn before its word is done
pub record IsFound (u : Setup) (p : PlainState) (s : State) (k : Shows u p s) (h : ℕ) : Type 0 where
  pub there : h < length p.slots
  pub going : p.shared.reason ≡ None
  pub started : (slot p h).mode ≡ Started
  pub quiet : is_pending_now u (shown p k.entries k.script) h ≡ false
  pub leaf : is_leaf_end (fetch_end u (shown p k.entries k.script) h) ≡ true

first_none : (r : Option Reason) → first_reason None r ≡ r
first_none None = refl
first_none (Some x) = refl

-- the reason behind it
reason_same : (old re all : Option Reason) (h count limit limit' : ℕ) → old ≡ None → limit ≡ limit'
    → first_reason (first_reason (first_reason old re) all) (if count == limit' then Some (Reason.Limit h) else None) ≡ limited h count limit (first_reason re all)
reason_same old re all h count limit limit' none same =
    ap (λ r. first_reason (first_reason (first_reason r re) all) (if count == limit' then Some (Reason.Limit h) else None)) none
    ∙ ap (λ r. first_reason (first_reason r all) (if count == limit' then Some (Reason.Limit h) else None)) (first_none re)
    ∙ ap (λ n. first_reason (first_reason re all) (if count == n then Some (Reason.Limit h) else None)) (sym same)

pub done_turn : (u : Setup) (p : PlainState) (s : State) (k : Shows u p s) (h : ℕ) (code : Code) (e : Effect) (st : Option Starting) (stops : Bool) → IsFound u p s k h
    → Does u p.shared k.entries (outcome_now u (state_with (held_in p.slots h code) p.shared k.entries k.script) h) e st stops
    → Shows u (after_code p h code e st stops) (after_turn u h code s)
done_turn u p s k h code e st stops f does =
    let es = k.entries in
    let sc = k.script in
    let ts = slots_done p.slots h code e.answer stops st in
    let all = last_stopped ts stops in
    let made : List ℕ → Option Reason → State = λ output reason. record { entries = option_to_list does.entry ++ es; harts = map resting ts; output = output; reason = reason; script = sc } in
    record {
      entries = option_to_list does.entry ++ es;
      script = sc;
      state = ap (after_turn u h code) k.state
          ∙ taken u p es sc h code Started f.going f.started
          ∙ quiet_state u (shown p es sc) h code f.quiet
          ∙ leaf_state u p es sc h code f.leaf
          ∙ done_state u p.slots p.shared es sc h code e.answer does.entry does.bytes e.reason st stops f.there does.is_outcome
          ∙ ap (λ o. made o (first_reason (first_reason (first_reason p.shared.reason e.reason) all) (if (slot p h).count + 1 == u.limit then Some (Reason.Limit h) else None))) does.console
          ∙ ap (made e.shared.console) (reason_same p.shared.reason e.reason all h ((slot p h).count + 1) e.shared.limit u.limit f.going (does.limit ∙ k.limit));
      there = called_length p.slots h (slot_done (slot p h) code e.answer stops) st ∙ k.there;
      layout = does.layout ∙ k.layout;
      size = does.size ∙ k.size;
      memory = record { ram = does.memory.ram; ipi = does.memory.ipi };
      limit = does.limit ∙ k.limit;
    }

-- THE HART THAT HOLDS THE WORD

held_shows : (u : Setup) (p : PlainState) (s : State) (k : Shows u p s) (h : ℕ) (code : Code) → h < length p.slots → ShowsHart u (held_in p.slots h code) h (slot p h).arch p.shared k.entries
held_shows u p s k h code lt = record { arch = ap (λ (t : Hart). t.arch) (held_hart p.slots h code lt); layout = k.layout; size = k.size; memory = k.memory }

held_modes : (ts : List HartSlot) (h : ℕ) (code : Code) (g : ℕ) → (nth (held_in ts h code) g).mode ≡ modes_of ts g
held_modes ts h code g =
    sym (ap (λ t. (nth (slice_set (map resting ts) h (record t { held = Some code })) g).mode) (slot_shown ts h))
    ∙ kept (λ t. t.mode) (λ t. record t { held = Some code }) (λ t. refl) (map resting ts) h g
    ∙ ap (λ (t : Hart). t.mode) (slot_shown ts g)

-- its need
outcome_is : (u : Setup) (ts : List HartSlot) (b : Shared) (es : List StoreEntry) (sc : List Command) (h : ℕ) (code : Code) → h < length ts → (n : Need) → need_of_code (slot_at ts h).arch code ≡ n
    → outcome_now u (state_with (held_in ts h code) b es sc) h ≡ performed u (state_with (held_in ts h code) b es sc) h n
outcome_is u ts b es sc h code lt n is =
    let s = state_with (held_in ts h code) b es sc in
    let held : need s h ≡ n = ap (λ (t : Hart). need_held t.arch t.held) (held_hart ts h code lt) ∙ is in
    ap (performed u s h) held

-- a need that isn't a call
alone_turn : (u : Setup) (p : PlainState) (s : State) (k : Shows u p s) (h : ℕ) (word : ℕ) (i : Instr) → IsFound u p s k h → (n : Need) → need_of (slot p h).arch i ≡ n → (n ≡ Need.Sbi → ⊥)
    → Shows u (after_code p h (record { word = word; instr = Some i }) (effect_of_need h (slot p h).arch p.shared n) None false) (after_turn u h (record { word = word; instr = Some i }) s)
alone_turn u p s k h word i f n is other =
    let code : Code = record { word = word; instr = Some i } in
    done_turn u p s k h code (effect_of_need h (slot p h).arch p.shared n) None false f
    (subst (λ o. Does u p.shared k.entries o (effect_of_need h (slot p h).arch p.shared n) None false) (sym (outcome_is u p.slots p.shared k.entries k.script h code f.there n is))
    (need_does u (held_in p.slots h code) h (slot p h).arch p.shared k.entries k.script n (held_shows u p s k h code f.there) other))

-- and one that is
call_turn : (u : Setup) (p : PlainState) (s : State) (k : Shows u p s) (h : ℕ) (word : ℕ) (i : Instr) → IsFound u p s k h → need_of (slot p h).arch i ≡ Need.Sbi
    → Shows u (after_done p h (after_need h (slot p h) p.shared i Need.Sbi)) (after_turn u h (record { word = word; instr = Some i }) s)
call_turn u p s k h word i f is =
    let code : Code = record { word = word; instr = Some i } in
    let e = effect_of_call p.shared (call_of p.slots p.shared h) in
    done_turn u p s k h code e e.starts e.stops f
    (subst (λ o. Does u p.shared k.entries o e e.starts e.stops) (sym (outcome_is u p.slots p.shared k.entries k.script h code f.there Need.Sbi is))
    (call_does u (held_in p.slots h code) p.slots h p.shared k.entries k.script (held_shows u p s k h code f.there) (held_modes p.slots h code)))

need_turn : (u : Setup) (p : PlainState) (s : State) (k : Shows u p s) (h : ℕ) (word : ℕ) (i : Instr) → IsFound u p s k h → (n : Need) → need_of (slot p h).arch i ≡ n
    → Shows u (after_done p h (after_need h (slot p h) p.shared i n)) (after_turn u h (record { word = word; instr = Some i }) s)
need_turn u p s k h word i f Need.Sbi is = call_turn u p s k h word i f is
need_turn u p s k h word i f Need.Nothing is = alone_turn u p s k h word i f Need.Nothing is (λ e. cc)
need_turn u p s k h word i f (Need.Flush what) is = alone_turn u p s k h word i f (Need.Flush what) is (λ e. cc)
need_turn u p s k h word i f (Need.Trap cause tval) is = alone_turn u p s k h word i f (Need.Trap cause tval) is (λ e. cc)
need_turn u p s k h word i f (Need.Load va w sign) is = alone_turn u p s k h word i f (Need.Load va w sign) is (λ e. cc)
need_turn u p s k h word i f (Need.Store va w value) is = alone_turn u p s k h word i f (Need.Store va w value) is (λ e. cc)
need_turn u p s k h word i f (Need.Ipi op) is = alone_turn u p s k h word i f (Need.Ipi op) is (λ e. cc)
need_turn u p s k h word i f (Need.Amo va op wide value) is = alone_turn u p s k h word i f (Need.Amo va op wide value) is (λ e. cc)
need_turn u p s k h word i f (Need.Lr va wide) is = alone_turn u p s k h word i f (Need.Lr va wide) is (λ e. cc)
need_turn u p s k h word i f (Need.Sc va wide value) is = alone_turn u p s k h word i f (Need.Sc va wide value) is (λ e. cc)

-- the word that was found
pub word_turn : (u : Setup) (p : PlainState) (s : State) (k : Shows u p s) (h : ℕ) (word : ℕ) (found : Option Instr) → IsFound u p s k h
    → Shows u (after_done p h (after_word h (slot p h) p.shared word found)) (after_turn u h (record { word = word; instr = found }) s)
unfolding perform
word_turn u p s k h word None f =
    let code : Code = record { word = word; instr = None } in
    done_turn u p s k h code (answers p.shared (Answer.Fault 2 word)) None false f
    (subst (λ o. Does u p.shared k.entries o (answers p.shared (Answer.Fault 2 word)) None false) (sym (outcome_is u p.slots p.shared k.entries k.script h code f.there (Need.Trap 2 word) refl))
    (ram_does u p.shared k.entries (Answer.Fault 2 word) None [] None k.memory tt))
word_turn u p s k h word (Some i) f = need_turn u p s k h word i f (need_of (slot p h).arch i) refl
