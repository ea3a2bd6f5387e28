-- A turn of the machine on one thread is a turn of the plain run, whatever it finds.
use Rattle.std.proofs.Common.{◌≡◌, refl, ℕ, ◌<◌, ◌+◌, ◌*◌, ◌/◌, ◌%◌, ◌^◌, List, [], map, length, length-set, Some, None, Option, true, false, Bool, not, ◌&&◌, ap, sym, ◌∙◌, subst}
use Rattle.std.specs.Prelude.{MatchBool, IsSome, ◌==◌, is_some, if◌then◌else◌, slice_set}
use Rattle.rv64_decode.specs.declared.instruction.Instr.{Instr}
use Rattle.rv64_decode.specs.Encoding.{Decodes}
use Rattle.rv64_priv.specs.State.{Arch}
use Rattle.rv64_priv.specs.declared.state.Kind.{Kind}
use Rattle.rv64_priv.specs.Csr.{regime}
use Rattle.rv64_priv.specs.Trap.{trapped, software_interrupt}
use Rattle.rv64_priv.specs.Walk.{Walked, Leaf, PageFault, AccessFault, is_device}
use Rattle.rv64_exec.specs.Code.{Code, no_code}
use Rattle.step_laws.specs.Words.{ram_word, ipi_word}
use Rattle.machine_model.specs.declared.reason.Reason.{Reason}
use Rattle.machine_model.specs.declared.mode.Mode.{Mode}
use Rattle.machine_model.specs.declared.mode.Mode.TheVariants.{Started, Halted, Pending}
use Rattle.ref_machine.specs.declared.hart.HartSlot.{HartSlot}
use Rattle.machine_model.specs.Memory.{Memory, StoreEntry, written}
use Rattle.machine_model.specs.State.{Setup, State, Hart, hart, is_started}
use Rattle.machine_model.specs.Access.{Spot, AtRam, AtDevice, Faults, spot_at, spot_of, code_word}
use Rattle.step_laws.specs.declared.words.Layout.{Layout}
use Rattle.machine_model.specs.Change.{first_reason}
use Rattle.machine_model.specs.Run.{is_leaf_end}
use Rattle.machine_model.specs.Lawful.{IsCode, is_pending}
use Rattle.machine_model.specs.Now.{walked_now, IsNext, is_pending_now, fetch_end, fetches_now}
use Rattle.machine_model.specs.Plain.{plain_turn, turn_in, states_after, after_turn}
use Rattle.ref_machine.specs.Slots.{slot_begun}
use Rattle.ref_machine.specs.SharedState.{ram_memory, ram_reads}
use Rattle.ref_machine.specs.PlainState.{PlainState, slot, with_slot}
use Rattle.ref_machine.specs.OneTurn as one
use Rattle.ref_machine.specs.OneTurn.{Done, Alone, Calls, interrupted, faulted, slot_trapped, shared_after, after_word, after_done, IsWordDone, IsFetched, IsStep, IsStepped, IsTurn, walk_end}
use Rattle.ref_machine.specs.Shows.{Shows, Turned, resting, shown}
use Rattle.ref_machine.specs.Translation.{IsSpotIn}
use Rattle.ref_machine.proofs.Fresh.{walk_sound}
use Rattle.ref_machine.proofs.Reaches.{IsWord, spot_in, word_in}
use Rattle.ref_machine.proofs.Served.{ShowsHart, walk_now, word_same}
use Rattle.ref_machine.proofs.Turns.{slot_shown, taken, begun_state, interrupt_state, quiet_state, fault_state, no_leaf}
use Rattle.ref_machine.proofs.Words.{word_turn}

-- WHAT A TURN FINDS

-- a hart as it is shown
shows_hart : (u : Setup) (p : PlainState) (s : State) (k : Shows u p s) (h : ℕ) → ShowsHart u (map resting p.slots) h (slot p h).arch p.shared k.entries
shows_hart u p s k h = record { arch = ap (λ (t : Hart). t.arch) (slot_shown p.slots h); layout = k.layout; size = k.size; memory = k.memory }

abbrev pends : PlainState → ℕ → Bool
pends p h = is_pending (slot p h).arch h p.shared.ipi

pending_same : (u : Setup) (p : PlainState) (s : State) (k : Shows u p s) (h : ℕ) → is_pending_now u (shown p k.entries k.script) h ≡ pends p h
pending_same u p s k h =
    ap (λ a. is_pending a h (written u.image k.entries ipi_word)) (shows_hart u p s k h).arch
    ∙ ap (λ n. is_pending (slot p h).arch h n) k.memory.ipi

abbrev pc_of : PlainState → ℕ → ℕ
pc_of p h = (slot p h).arch.pc

abbrev end_of : PlainState → ℕ → Walked
end_of p h = walk_end (slot p h).arch p.shared Kind.Fetch (pc_of p h)

abbrev spot : PlainState → ℕ → Spot
spot p h = spot_of Kind.Fetch (pc_of p h) (end_of p h)

end_same : (u : Setup) (p : PlainState) (s : State) (k : Shows u p s) (h : ℕ) → fetch_end u (shown p k.entries k.script) h ≡ end_of p h
end_same u p s k h =
    ap (λ a. walked_now u (shown p k.entries k.script) h Kind.Fetch a.pc) (shows_hart u p s k h).arch
    ∙ walk_now u (map resting p.slots) h (slot p h).arch p.shared k.entries k.script Kind.Fetch (pc_of p h) (shows_hart u p s k h)

-- the next code, as the machine's words give it
abbrev fetches : PlainState → ℕ → Bool
fetches p h = is_started (slot p h).mode && not (pends p h)

abbrev Found : Setup → PlainState → ℕ → List StoreEntry → Code → Type 0
Found u p h es code = IsCode (written u.image es) (pc_of p h) (end_of p h) code

abbrev Next : Setup → PlainState → ℕ → List StoreEntry → Code → Type 0
Next u p h es code = MatchBool (fetches p h) (Found u p h es code) (code ≡ no_code)

fetches_same : (u : Setup) (p : PlainState) (s : State) (k : Shows u p s) (h : ℕ) → fetches_now u (shown p k.entries k.script) h ≡ fetches p h
fetches_same u p s k h =
    ap (λ (t : Hart). is_started t.mode && not (is_pending_now u (shown p k.entries k.script) h)) (slot_shown p.slots h)
    ∙ ap (λ b. is_started (slot p h).mode && not b) (pending_same u p s k h)

next_is : (u : Setup) (p : PlainState) (s : State) (k : Shows u p s) (h : ℕ) (code : Code) → IsNext u s h code → Next u p h k.entries code
next_is u p s k h code next =
    let x = shown p k.entries k.script in
    subst (λ w. MatchBool (fetches p h) (IsCode (written u.image k.entries) (pc_of p h) w code) (code ≡ no_code)) (end_same u p s k h)
    (subst (λ (a : Arch). MatchBool (fetches p h) (IsCode (written u.image k.entries) a.pc (fetch_end u x h) code) (code ≡ no_code)) (shows_hart u p s k h).arch
    (subst (λ b. MatchBool b (IsCode (written u.image k.entries) (hart x h).arch.pc (fetch_end u x h) code) (code ≡ no_code)) (fetches_same u p s k h)
    (subst (λ y. IsNext u y h code) k.state next)))

is_next : (u : Setup) (p : PlainState) (s : State) (k : Shows u p s) (h : ℕ) (code : Code) → Next u p h k.entries code → IsNext u s h code
is_next u p s k h code next =
    let x = shown p k.entries k.script in
    subst (λ y. IsNext u y h code) (sym k.state)
    (subst (λ b. MatchBool b (IsCode (written u.image k.entries) (hart x h).arch.pc (fetch_end u x h) code) (code ≡ no_code)) (sym (fetches_same u p s k h))
    (subst (λ (a : Arch). MatchBool (fetches p h) (IsCode (written u.image k.entries) a.pc (fetch_end u x h) code) (code ≡ no_code)) (sym (shows_hart u p s k h).arch)
    (subst (λ w. MatchBool (fetches p h) (IsCode (written u.image k.entries) (pc_of p h) w code) (code ≡ no_code)) (sym (end_same u p s k h)) next)))

-- TURNS THAT FETCH NO WORD

turned_none : (h : ℕ) (p q : PlainState) → fetches p h ≡ false → ((u : Setup) (s : State) → Shows u p s → (code : Code) → Shows u q (after_turn u h code s)) → Turned h p q
turned_none h p q none behind = record {
  code = λ u s k _. (no_code, is_next u p s k h no_code (subst (λ b. MatchBool b (Found u p h k.entries no_code) (no_code ≡ no_code)) (sym none) refl));
  only = λ u s k _ code other next next'.
      let a : code ≡ no_code = subst (λ b. MatchBool b (Found u p h k.entries code) (code ≡ no_code)) none (next_is u p s k h code next) in
      let b : other ≡ no_code = subst (λ b. MatchBool b (Found u p h k.entries other) (other ≡ no_code)) none (next_is u p s k h other next') in
      a ∙ sym b;
  next = λ u s k code next. behind u s k code;
}

turned_halted : (h : ℕ) (p : PlainState) → p.shared.reason ≡ None → (slot p h).mode ≡ Halted → Turned h p p
turned_halted h p going mode = turned_none h p p (ap (λ m. is_started m && not (pends p h)) mode) (λ u s k code.
    subst (λ x. Shows u p x) (sym (ap (after_turn u h code) k.state ∙ taken u p k.entries k.script h code Halted going mode ∙ sym k.state)) k)

-- one hart is changed, and none of its words
shows_slot : (u : Setup) (p : PlainState) (s : State) (k : Shows u p s) (h : ℕ) (code : Code) (t : HartSlot) → after_turn u h code (shown p k.entries k.script) ≡ shown (with_slot p h t) k.entries k.script
    → Shows u (with_slot p h t) (after_turn u h code s)
shows_slot u p s k h code t is = record {
  entries = k.entries;
  script = k.script;
  state = ap (after_turn u h code) k.state ∙ is;
  there = length-set p.slots h t ∙ k.there;
  layout = k.layout;
  size = k.size;
  memory = k.memory;
  limit = k.limit;
}

turned_start : (h : ℕ) (p : PlainState) → p.shared.reason ≡ None → (slot p h).mode ≡ Pending → Turned h p (with_slot p h (slot_begun h (slot p h)))
turned_start h p going mode = turned_none h p (with_slot p h (slot_begun h (slot p h))) (ap (λ m. is_started m && not (pends p h)) mode) (λ u s k code.
    shows_slot u p s k h code (slot_begun h (slot p h)) (taken u p k.entries k.script h code Pending going mode ∙ begun_state u p k.entries k.script h code))

turned_interrupt : (h : ℕ) (p : PlainState) → p.shared.reason ≡ None → (slot p h).mode ≡ Started → pends p h ≡ true → Turned h p (after_done p h (interrupted (slot p h) p.shared))
turned_interrupt h p going mode pending =
    turned_none h p (after_done p h (interrupted (slot p h) p.shared)) (ap (λ m. is_started m && not (pends p h)) mode ∙ ap not pending) (λ u s k code.
    shows_slot u p s k h code (record (slot p h) { arch = trapped (slot p h).arch software_interrupt 0 })
    (taken u p k.entries k.script h code Started going mode ∙ interrupt_state u p k.entries k.script h code (pending_same u p s k h ∙ pending)))

-- TURNS THAT FETCH

found_next : (u : Setup) (p : PlainState) (h : ℕ) (es : List StoreEntry) (code : Code) → fetches p h ≡ true → Next u p h es code → Found u p h es code
found_next u p h es code some next = subst (λ b. MatchBool b (Found u p h es code) (code ≡ no_code)) some next

next_found : (u : Setup) (p : PlainState) (h : ℕ) (es : List StoreEntry) (code : Code) → fetches p h ≡ true → Found u p h es code → Next u p h es code
next_found u p h es code some found = subst (λ b. MatchBool b (Found u p h es code) (code ≡ no_code)) (sym some) found

-- a fetch that faults finds no code
fault_code : (m : Memory) (va : ℕ) (w : Walked) (code : Code) → is_leaf_end w ≡ false → IsCode m va w code → code ≡ no_code
fault_code m va (Leaf pte page level) code e k = cc
fault_code m va PageFault code e k = k
fault_code m va AccessFault code e k = k

code_fault : (m : Memory) (va : ℕ) (w : Walked) → is_leaf_end w ≡ false → IsCode m va w no_code
code_fault m va (Leaf pte page level) e = cc
code_fault m va PageFault e = refl
code_fault m va AccessFault e = refl

first_limit : (old : Option Reason) (h count limit limit' : ℕ) → old ≡ None → limit ≡ limit'
    → first_reason old (if count == limit' then Some (Reason.Limit h) else None) ≡ one.limited h count limit None
first_limit old h count limit limit' none same =
    ap (λ r. first_reason r (if count == limit' then Some (Reason.Limit h) else None)) none
    ∙ ap (λ n. first_reason None (if count == n then Some (Reason.Limit h) else None)) (sym same)

fault_shown : (u : Setup) (p : PlainState) (s : State) (k : Shows u p s) (h : ℕ) (code : Code) (cause tval : ℕ) → h < length p.slots → p.shared.reason ≡ None → (slot p h).mode ≡ Started → pends p h ≡ false
    → spot p h ≡ Faults cause tval → Shows u (after_done p h (faulted h (slot p h) p.shared cause tval)) (after_turn u h code s)
fault_shown u p s k h code cause tval lt going mode quiet at =
    let es = k.entries in
    let sc = k.script in
    let x = shown p es sc in
    let here : spot_of Kind.Fetch (pc_of p h) (fetch_end u x h) ≡ Faults cause tval = ap (spot_of Kind.Fetch (pc_of p h)) (end_same u p s k h) ∙ at in
    let leaf : is_leaf_end (fetch_end u x h) ≡ false = no_leaf (pc_of p h) (fetch_end u x h) cause tval here in
    let t = slot_trapped (slot p h) cause tval in
    let made : Option Reason → State = λ r. record { entries = es; harts = map resting (slice_set p.slots h t); output = p.shared.console; reason = r; script = sc } in
    record {
      entries = es;
      script = sc;
      state = ap (after_turn u h code) k.state
          ∙ taken u p es sc h code Started going mode
          ∙ quiet_state u x h code (pending_same u p s k h ∙ quiet)
          ∙ fault_state u p es sc h code cause tval lt here
          ∙ ap made (first_limit p.shared.reason h ((slot p h).count + 1) p.shared.limit u.limit going k.limit);
      there = length-set p.slots h t ∙ k.there;
      layout = k.layout;
      size = k.size;
      memory = record { ram = k.memory.ram; ipi = k.memory.ipi };
      limit = k.limit;
    }

turned_fault : (h : ℕ) (p : PlainState) (cause tval : ℕ) → h < length p.slots → p.shared.reason ≡ None → (slot p h).mode ≡ Started → pends p h ≡ false → spot p h ≡ Faults cause tval
    → Turned h p (after_done p h (faulted h (slot p h) p.shared cause tval))
turned_fault h p cause tval lt going mode quiet at =
    let leaf : is_leaf_end (end_of p h) ≡ false = no_leaf (pc_of p h) (end_of p h) cause tval at in
    let some : fetches p h ≡ true = ap (λ m. is_started m && not (pends p h)) mode ∙ ap not quiet in
    record {
      code = λ u s k _. (no_code, is_next u p s k h no_code (next_found u p h k.entries no_code some (code_fault (written u.image k.entries) (pc_of p h) (end_of p h) leaf)));
      only = λ u s k _ code other next next'.
          fault_code (written u.image k.entries) (pc_of p h) (end_of p h) code leaf (found_next u p h k.entries code some (next_is u p s k h code next))
          ∙ sym (fault_code (written u.image k.entries) (pc_of p h) (end_of p h) other leaf (found_next u p h k.entries other some (next_is u p s k h other next')));
      next = λ u s k code next. fault_shown u p s k h code cause tval lt going mode quiet at;
    }

-- a fetch that finds a word
abbrev word_at : PlainState → (pa : ℕ) → ℕ
word_at p pa = code_word (ram_memory p.shared.ram) pa

at_ram_by : (b : Bool) (pa pb : ℕ) → (if b then AtDevice pa else AtRam pa) ≡ AtRam pb → pa ≡ pb
at_ram_by true pa pb e = cc
at_ram_by false pa pb e = cc

at_ram : (pa pb : ℕ) → spot_at pa ≡ AtRam pb → pa ≡ pb
at_ram pa pb e = at_ram_by (is_device pa) pa pb e

leaf_code : (ram : List ℕ) (va : ℕ) (m : Memory) (w : Walked) (pa : ℕ) (code : Code) → spot_of Kind.Fetch va w ≡ AtRam pa → ram_memory ram (ram_word pa) ≡ m (ram_word pa)
    → IsCode m va w code → (code.word ≡ code_word (ram_memory ram) pa) × Decodes code.word code.instr
leaf_code ram va m PageFault pa code e same k = cc
leaf_code ram va m AccessFault pa code e same k = cc
leaf_code ram va m (Leaf pte page level) pa code e same k = (k.0 ∙ ap (code_word m) (at_ram (page + va % 4096) pa e) ∙ ap (λ v. v / 256 ^ (pa % 8) % 2 ^ 32) (sym same), k.1)

code_leaf : (ram : List ℕ) (va : ℕ) (m : Memory) (w : Walked) (pa : ℕ) (found : Option Instr) → spot_of Kind.Fetch va w ≡ AtRam pa → ram_memory ram (ram_word pa) ≡ m (ram_word pa)
    → Decodes (code_word (ram_memory ram) pa) found → IsCode m va w (record { word = code_word (ram_memory ram) pa; instr = found })
code_leaf ram va m PageFault pa found e same k = cc
code_leaf ram va m AccessFault pa found e same k = cc
code_leaf ram va m (Leaf pte page level) pa found e same k = (ap (λ v. v / 256 ^ (pa % 8) % 2 ^ 32) same ∙ ap (code_word m) (sym (at_ram (page + va % 4096) pa e)), k)

ram_leaf : (va : ℕ) (w : Walked) (pa : ℕ) → spot_of Kind.Fetch va w ≡ AtRam pa → is_leaf_end w ≡ true
ram_leaf va PageFault pa e = cc
ram_leaf va AccessFault pa e = cc
ram_leaf va (Leaf pte page level) pa e = refl

-- each code of the word is the one found
code_one : (word : ℕ) (found : Option Instr) (code : Code) → ((other : Option Instr) → Decodes word other → found ≡ other) → code.word ≡ word → Decodes code.word code.instr
    → record { word = word; instr = found } ≡ code
code_one word found code only same decodes =
    ap (λ o. record { word = word; instr = o }) (only code.instr (subst (λ w. Decodes w code.instr) same decodes))
    ∙ ap (λ w. record { word = w; instr = code.instr }) (sym same)

-- memory has the word that RAM has
memory_at : (u : Setup) (p : PlainState) (s : State) (k : Shows u p s) (h : ℕ) (pa : ℕ) → spot p h ≡ AtRam pa → ram_memory p.shared.ram (ram_word pa) ≡ written u.image k.entries (ram_word pa)
memory_at u p s k h pa at =
    let pages = p.shared.layout.pages in
    let size : length p.shared.ram ≡ 512 * pages = k.size ∙ ap (λ (l : Layout). 512 * l.pages) (sym k.layout) in
    let inside : IsSpotIn pages (pc_of p h) (AtRam pa)
    = subst (IsSpotIn pages (pc_of p h)) at (spot_in pages Kind.Fetch (pc_of p h) (end_of p h) (walk_sound pages (regime (slot p h).arch) Kind.Fetch (ram_reads p.shared.ram) (pc_of p h))) in
    sym (word_same p.shared.ram (written u.image k.entries) (ram_word pa) k.memory.ram (subst (λ n. IsWord n (ram_word pa)) (sym size) (word_in pages (pc_of p h) pa inside)))

turned_word : (h : ℕ) (p : PlainState) (pa : ℕ) (d : Done) → h < length p.slots → p.shared.reason ≡ None → (slot p h).mode ≡ Started → pends p h ≡ false → spot p h ≡ AtRam pa
    → IsWordDone h (slot p h) p.shared (word_at p pa) d → Turned h p (after_done p h d)
turned_word h p pa d lt going mode quiet at t =
    let word = word_at p pa in
    let some : fetches p h ≡ true = ap (λ m. is_started m && not (pends p h)) mode ∙ ap not quiet in
    let leaf : is_leaf_end (end_of p h) ≡ true = ram_leaf (pc_of p h) (end_of p h) pa at in
    let read : (u : Setup) (s : State) (k : Shows u p s) (code : Code) → IsNext u s h code → (code.word ≡ word) × Decodes code.word code.instr
    = λ u s k code next. leaf_code p.shared.ram (pc_of p h) (written u.image k.entries) (end_of p h) pa code at (memory_at u p s k h pa at) (found_next u p h k.entries code some (next_is u p s k h code next)) in
    record {
      code = λ u s k _. (
        record { word = word; instr = t.found },
        is_next u p s k h (record { word = word; instr = t.found })
            (next_found u p h k.entries (record { word = word; instr = t.found }) some (code_leaf p.shared.ram (pc_of p h) (written u.image k.entries) (end_of p h) pa t.found at (memory_at u p s k h pa at) t.decodes)),
      );
      only = λ u s k _ code other next next'.
          let v = read u s k code next in
          let w = read u s k other next' in
          sym (code_one word t.found code t.only v.0 v.1) ∙ code_one word t.found other t.only w.0 w.1;
      next = λ u s k code next.
          let v = read u s k code next in
          subst (λ x. Shows u (after_done p h x) (after_turn u h code s)) (sym t.is_done)
          (subst (λ c. Shows u (after_done p h (after_word h (slot p h) p.shared word t.found)) (after_turn u h c s)) (code_one word t.found code t.only v.0 v.1)
          (word_turn u p s k h word t.found (record { there = lt; going = going; started = mode; quiet = pending_same u p s k h ∙ quiet; leaf = ap is_leaf_end (end_same u p s k h) ∙ leaf })));
    }

-- ALL TURNS

pub turned_step : (h : ℕ) (p : PlainState) (d : Done) → h < length p.slots → p.shared.reason ≡ None → (slot p h).mode ≡ Started → IsStep h (slot p h) p.shared d → Turned h p (after_done p h d)
turned_step h p d lt going mode step = by_pending (pends p h) refl step
  where
    by_spot : pends p h ≡ false → (x : Spot) → spot p h ≡ x → IsFetched h (slot p h) p.shared d x → Turned h p (after_done p h d)
    by_spot quiet (AtRam pa) e k = turned_word h p pa d lt going mode quiet e k
    by_spot quiet (AtDevice pa) e k = absurd k
    by_spot quiet (Faults cause tval) e k = subst (λ x. Turned h p (after_done p h x)) (sym k) (turned_fault h p cause tval lt going mode quiet e)

    by_pending : (b : Bool) → pends p h ≡ b → MatchBool b (d ≡ interrupted (slot p h) p.shared) (IsFetched h (slot p h) p.shared d (spot p h)) → Turned h p (after_done p h d)
    by_pending true e k = subst (λ x. Turned h p (after_done p h x)) (sym k) (turned_interrupt h p going mode e)
    by_pending false e k = by_spot e (spot p h) refl k

-- a turn that is taken
pub turned : (h : ℕ) (p q : PlainState) → h < length p.slots → p.shared.reason ≡ None → IsTurn h p q (slot p h).mode → Turned h p q
turned h p q lt going t = by_mode (slot p h).mode refl t
  where
    by_mode : (m : Mode) → (slot p h).mode ≡ m → IsTurn h p q m → Turned h p q
    by_mode Halted e k = subst (λ x. Turned h p x) (sym k) (turned_halted h p going e)
    by_mode Pending e k = subst (λ x. Turned h p x) (sym k) (turned_start h p going e)
    by_mode Started e k = subst (λ x. Turned h p x) (sym k.is_next) (turned_step h p k.done lt going e k.step)

-- and one behind the end
same_state : (u : Setup) (h : ℕ) (code : Code) (s : State) → (reason : Option Reason) → s.reason ≡ reason → IsSome reason → after_turn u h code s ≡ s
unfolding plain_turn
same_state u h code s (Some r) e some = ap (λ x. states_after (if is_some x then [] else turn_in u s h code (hart s h).mode) s) e
same_state u h code s None e some = cc

pub turned_over : (h : ℕ) (p : PlainState) → IsSome p.shared.reason → Turned h p p
turned_over h p ended = record {
  code = λ u s k none. absurd (no_some p.shared.reason none ended);
  only = λ u s k none _ _ _ _. absurd (no_some p.shared.reason none ended);
  next = λ u s k code next. subst (λ x. Shows u p x) (sym (same_state u h code s p.shared.reason (ap (λ (x : State). x.reason) k.state) ended)) k;
}
  where
    no_some : (r : Option Reason) → r ≡ None → IsSome r → ⊥
    no_some None e some = cc
    no_some (Some r) e some = cc
