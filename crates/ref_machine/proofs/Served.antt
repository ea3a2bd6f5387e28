-- What the reference machine does for a need, by what the machine on one thread does.
use Rattle.std.proofs.Common.{◌≡◌, refl, ℕ, ◌<◌, ◌+◌, ◌-◌, ◌*◌, ◌/◌, ◌%◌, ◌^◌, ◌++◌, List, [], ◌∷◌, Some, None, Option, true, false, Bool, ◌&&◌, length, length-set, arith, rules, ap, sym, ◌∙◌, subst, option_to_list}
use Rattle.std.specs.Prelude.{◌==◌, nat_le, nat_lt, if◌then◌else◌, slice_set, take, fold, bit_or, bit_and}
use Rattle.std.specs.List.{AllByRecursion}
use Rattle.std.proofs.lemmas.Bool.{leb-true, ltb-true, ne_eqb}
use Rattle.rv64_priv.specs.State.{Arch}
use Rattle.rv64_priv.specs.declared.state.Kind.{Kind}
use Rattle.rv64_priv.specs.Csr.{regime}
use Rattle.rv64_priv.specs.Walk.{walk_of, is_ram}
use Rattle.rv64_priv.specs.declared.state.Hold.{Hold}
use Rattle.rv64_exec.specs.declared.needs.AmoOp.{AmoOp}
use Rattle.rv64_exec.specs.declared.needs.IpiOp.{IpiOp}
use Rattle.rv64_exec.specs.declared.needs.Need.{Need}
use Rattle.rv64_exec.specs.declared.needs.Answer.{Answer}
use Rattle.step_laws.specs.Words.{first_ram_word, ipi_word}
use Rattle.machine_model.specs.declared.reason.Reason.{Reason}
use Rattle.machine_model.specs.Memory.{Memory, Write, StoreEntry, Span, One, Two, written, write, read, store_entry, number_in, replaced, write_of, first_word}
use Rattle.machine_model.specs.Event.{Outcome, Starting}
use Rattle.step_laws.specs.declared.words.Layout.{Layout}
use Rattle.machine_model.specs.State.{Setup, State, Hart, Command, nth, hart}
use Rattle.machine_model.specs.Access.{Reach, InRam, OnDevice, Unreached, second_va, reach}
use Rattle.machine_model.specs.declared.device.DeviceStore.{DeviceStore}
use Rattle.machine_model.specs.Device.{device_value, device_stored}
use Rattle.machine_model.specs.Walks.{Wanted, wanted, access_of, levels_of}
use Rattle.machine_model.specs.Now.{walked_now, first_now, second_now, no_walk}
use Rattle.machine_model.specs.Perform.{surroundings, load_outcome, store_outcome, fault_outcome, extended, width_of, is_misaligned, combined, amo_outcome, lr_outcome, span_address, same_width, hold_stands, sc_outcome, print_outcome, perform, sip_value, ipi_entry, device_load_outcome, device_store_outcome}
use Rattle.machine_model.specs.Change as change
use Rattle.ref_machine.specs.SharedState.{Shared, ram_memory, ram_reads, ram_with}
use Rattle.ref_machine.specs.OneTurn.{Effect, effect_on, answers, room, ipi_after, effect_of_need, walk_end, reach_of}
use Rattle.ref_machine.specs.Shows.{ShowsRam, ShowsMemory}
use Rattle.ref_machine.proofs.Fresh.{agree_walk, walk_sound}
use Rattle.ref_machine.proofs.Reaches.{IsWord, IsSpanIn, IsReachIn, reach_in, reach_same}

abbrev pub outcome : Answer → Option StoreEntry → List ℕ → Option Reason → Option Starting → (stops : Bool) → Outcome
outcome ans en bs re st stops = record { answer = ans; entry = en; bytes = bs; reason = re; starts = st; stops = stops }

-- one that starts and stops no hart
abbrev pub alone : Answer → Option StoreEntry → List ℕ → Option Reason → Outcome
alone ans en bs re = outcome ans en bs re None false

-- the effect is what the outcome does, over memory with these entries
pub record Does (u : Setup) (b : Shared) (es : List StoreEntry) (did : Outcome) (e : Effect) (st : Option Starting) (stops : Bool) : Type 0 where
  pub entry : Option StoreEntry
  pub bytes : List ℕ
  pub is_outcome : did ≡ outcome e.answer entry bytes e.reason st stops
  pub console : change.printed b.console bytes ≡ e.shared.console
  pub size : length e.shared.ram ≡ length b.ram
  pub layout : e.shared.layout ≡ b.layout
  pub limit : e.shared.limit ≡ b.limit
  pub memory : ShowsMemory e.shared (written u.image (option_to_list entry ++ es))

-- MEMORY THAT RAM SHOWS

pub word_same : (ram : List ℕ) (m : Memory) (word : ℕ) → ShowsRam ram m → IsWord (length ram) word → m word ≡ ram_memory ram word
word_same ram m word shows k =
    let low = k.0 in
    let high = k.1 in
    let back : first_ram_word + (word - first_ram_word) ≡ word = omega (arith, low) in
    sym (ap m back) ∙ sym (shows (word - first_ram_word) (omega (arith, low, high)))

read_same : (ram : List ℕ) (m : Memory) (s : Span) → ShowsRam ram m → IsSpanIn (length ram) s → read m s ≡ read (ram_memory ram) s
read_same ram m (One word offset width) shows k = ap (λ v. number_in v offset width) (word_same ram m word shows k)
read_same ram m (Two first second offset width) shows k =
    ap (λ v. number_in (v + 2 ^ 64 * m second) offset width) (word_same ram m first shows k.0)
    ∙ ap (λ v. number_in (ram_memory ram first + 2 ^ 64 * v) offset width) (word_same ram m second shows k.1)

entry_same : (ram : List ℕ) (m : Memory) (s : Span) (value : ℕ) → ShowsRam ram m → IsSpanIn (length ram) s → store_entry m s value ≡ store_entry (ram_memory ram) s value
entry_same ram m (One word offset width) value shows k = ap (λ v. write_of word (replaced v offset width value) ∷ []) (word_same ram m word shows k)
entry_same ram m (Two first second offset width) value shows k =
    let both : ℕ → StoreEntry = λ old. write_of first (replaced old offset width value % 2 ^ 64) ∷ write_of second (replaced old offset width value / 2 ^ 64) ∷ [] in
    ap (λ v. both (v + 2 ^ 64 * m second)) (word_same ram m first shows k.0)
    ∙ ap (λ v. both (ram_memory ram first + 2 ^ 64 * v)) (word_same ram m second shows k.1)

abbrev IsEntryIn : (words : ℕ) → StoreEntry → Type 0
IsEntryIn words en = AllByRecursion (λ (w : Write). IsWord words w.word) en

entry_in : (words : ℕ) (m : Memory) (s : Span) (value : ℕ) → IsSpanIn words s → IsEntryIn words (store_entry m s value)
entry_in words m (One word offset width) value k = (k, tt)
entry_in words m (Two first second offset width) value k = (k.0, (k.1, tt))

shows_set : (ram : List ℕ) (m : Memory) (i v : ℕ) → i < length ram → ShowsRam ram m → ShowsRam (slice_set ram i v) (write m (write_of (first_ram_word + i) v))
shows_set ram m i v lt k j below = search rules

shows_write : (ram : List ℕ) (m : Memory) (w : Write) → ShowsRam ram m → IsWord (length ram) w.word → ShowsRam (ram_with ram w) (write m w)
shows_write ram m w shows k =
    let low = k.0 in
    let high = k.1 in
    let back : first_ram_word + (w.word - first_ram_word) ≡ w.word = omega (arith, low) in
    subst (λ n. ShowsRam (ram_with ram w) (write m (write_of n w.value))) back
    (shows_set ram m (w.word - first_ram_word) w.value (omega (arith, low, high)) shows)

shows_entry : (en : StoreEntry) (ram : List ℕ) (m : Memory) → ShowsRam ram m → IsEntryIn (length ram) en → ShowsRam (fold ram_with ram en) (fold write m en)
shows_entry [] ram m shows k = shows
shows_entry (w ∷ en) ram m shows k =
    shows_entry en (ram_with ram w) (write m w) (shows_write ram m w shows k.0)
    (subst (λ n. IsEntryIn n en) (sym (length-set ram (w.word - first_ram_word) w.value)) k.1)

size_entry : (en : StoreEntry) (ram : List ℕ) → length (fold ram_with ram en) ≡ length ram
size_entry [] ram = refl
size_entry (w ∷ en) ram = size_entry en (ram_with ram w) ∙ length-set ram (w.word - first_ram_word) w.value

-- a store in RAM leaves the IPI word
ipi_write : (m : Memory) (w : Write) (words : ℕ) → IsWord words w.word → write m w ipi_word ≡ m ipi_word
ipi_write m w words k = let low = k.0 in ap (λ b. if b then w.value else m ipi_word) (ne_eqb ipi_word w.word (λ e. omega (arith, e, low)))

ipi_entry_kept : (en : StoreEntry) (m : Memory) (words : ℕ) → IsEntryIn words en → fold write m en ipi_word ≡ m ipi_word
ipi_entry_kept [] m words k = refl
ipi_entry_kept (w ∷ en) m words k = ipi_entry_kept en (write m w) words k.1 ∙ ipi_write m w words k.0

abbrev IsStored : (words : ℕ) → Option StoreEntry → Type 0
IsStored words None = Unit {0}
IsStored words (Some en) = IsEntryIn words en

-- an outcome that writes RAM alone
pub ram_does : (u : Setup) (b : Shared) (es : List StoreEntry) (ans : Answer) (en : Option StoreEntry) (bs : List ℕ) (re : Option Reason) → ShowsMemory b (written u.image es) → IsStored (length b.ram) en
    → Does u b es (alone ans en bs re) (effect_on b (alone ans en bs re)) None false
ram_does u b es ans None bs re k i = record { entry = None; bytes = bs; is_outcome = refl; console = refl; size = refl; layout = refl; limit = refl; memory = record { ram = k.ram; ipi = k.ipi } }
ram_does u b es ans (Some en) bs re k i = record {
  entry = Some en;
  bytes = bs;
  is_outcome = refl;
  console = refl;
  size = size_entry en b.ram;
  layout = refl;
  limit = refl;
  memory = record { ram = shows_entry en b.ram (written u.image es) k.ram i; ipi = ipi_entry_kept en (written u.image es) (length b.ram) i ∙ k.ipi };
}

-- LOADS AND STORES

loaded_does : (u : Setup) (b : Shared) (es : List StoreEntry) (va w : ℕ) (sign : Bool) (r : Reach) → ShowsMemory b (written u.image es) → IsReachIn (length b.ram) r
    → Does u b es (load_outcome (written u.image es) va w sign r) (effect_on b (load_outcome (ram_memory b.ram) va w sign r)) None false
loaded_does u b es va w sign (InRam s) k i =
    subst (λ v. Does u b es (loaded_of v) (effect_on b (load_outcome (ram_memory b.ram) va w sign (InRam s))) None false) (sym (read_same b.ram (written u.image es) s k.ram i))
    (ram_does u b es (loaded_of (read (ram_memory b.ram) s)).answer None [] None k tt)
  where
    loaded_of : ℕ → Outcome
    loaded_of v = device_load_outcome va w sign (Some v)
loaded_does u b es va w sign (OnDevice pa) k i = go (device_value pa w)
  where
    go : (v : Option ℕ) → Does u b es (device_load_outcome va w sign v) (effect_on b (device_load_outcome va w sign v)) None false
    go None = ram_does u b es _ None [] None k tt
    go (Some v) = ram_does u b es _ None [] None k tt
loaded_does u b es va w sign (Unreached cause tval) k i = ram_does u b es (Answer.Fault cause tval) None [] None k tt

prints_does : (u : Setup) (b : Shared) (es : List StoreEntry) (n : ℕ) (bs : List ℕ) (ans : Answer) → ShowsMemory b (written u.image es) → Does u b es (print_outcome n bs ans) (effect_on b (print_outcome n bs ans)) None false
prints_does u b es n bs ans k = go (nat_le (length bs) n)
  where
    short : Outcome
    short = alone Answer.Nothing None (take n bs) (Some Reason.OutFull)

    go : (c : Bool) → Does u b es (if c then alone ans None bs None else short) (effect_on b (if c then alone ans None bs None else short)) None false
    go true = ram_does u b es ans None bs None k tt
    go false = ram_does u b es Answer.Nothing None (take n bs) (Some Reason.OutFull) k tt

device_does : (u : Setup) (b : Shared) (es : List StoreEntry) (va : ℕ) (d : Option DeviceStore) → ShowsMemory b (written u.image es)
    → Does u b es (device_store_outcome (room b) va d) (effect_on b (device_store_outcome (room b) va d)) None false
device_does u b es va None k = ram_does u b es _ None [] None k tt
device_does u b es va (Some (DeviceStore.PutsByte byte)) k = prints_does u b es (room b) (byte ∷ []) Answer.Nothing k
device_does u b es va (Some (DeviceStore.Ends reason)) k = ram_does u b es Answer.Nothing None [] (Some reason) k tt
device_does u b es va (Some DeviceStore.Ignored) k = ram_does u b es Answer.Nothing None [] None k tt

stored_does : (u : Setup) (b : Shared) (es : List StoreEntry) (va w value : ℕ) (r : Reach) → ShowsMemory b (written u.image es) → IsReachIn (length b.ram) r
    → Does u b es (store_outcome (written u.image es) (room b) va w value r) (effect_on b (store_outcome (ram_memory b.ram) (room b) va w value r)) None false
stored_does u b es va w value (InRam s) k i =
    subst (λ en. Does u b es (alone Answer.Nothing (Some en) [] None) (effect_on b (store_outcome (ram_memory b.ram) (room b) va w value (InRam s))) None false)
    (sym (entry_same b.ram (written u.image es) s value k.ram i))
    (ram_does u b es Answer.Nothing (Some (store_entry (ram_memory b.ram) s value)) [] None k (entry_in (length b.ram) (ram_memory b.ram) s value i))
stored_does u b es va w value (OnDevice pa) k i = device_does u b es va (device_stored pa w value) k
stored_does u b es va w value (Unreached cause tval) k i = ram_does u b es (Answer.Fault cause tval) None [] None k tt

-- ATOMIC ACCESSES

operated_does : (u : Setup) (b : Shared) (es : List StoreEntry) (va : ℕ) (op : AmoOp) (wide : Bool) (value : ℕ) (r : Reach) → ShowsMemory b (written u.image es) → IsReachIn (length b.ram) r
    → Does u b es (amo_outcome (written u.image es) va op wide value r) (effect_on b (amo_outcome (ram_memory b.ram) va op wide value r)) None false
operated_does u b es va op wide value (OnDevice pa) k i = ram_does u b es (Answer.Fault 7 va) None [] None k tt
operated_does u b es va op wide value (Unreached cause tval) k i = ram_does u b es (Answer.Fault cause tval) None [] None k tt
operated_does u b es va op wide value (InRam s) k i =
    let m = written u.image es in
    let done : ℕ → StoreEntry → Outcome = λ old en. alone (Answer.Value (extended true (width_of wide) old)) (Some en) [] None in
    let old = read (ram_memory b.ram) s in
    subst (λ o. Does u b es o (effect_on b (amo_outcome (ram_memory b.ram) va op wide value (InRam s))) None false)
    (sym (ap (λ n. done n (store_entry m s (combined op wide n value))) (read_same b.ram m s k.ram i)
    ∙ ap (done old) (entry_same b.ram m s (combined op wide old value) k.ram i)))
    (ram_does u b es (Answer.Value (extended true (width_of wide) old)) (Some (store_entry (ram_memory b.ram) s (combined op wide old value))) [] None k
    (entry_in (length b.ram) (ram_memory b.ram) s (combined op wide old value) i))

first_in : (words : ℕ) (s : Span) → IsSpanIn words s → IsWord words (first_word s)
first_in words (One word offset width) k = k
first_in words (Two first second offset width) k = k.0

reserved_does : (u : Setup) (b : Shared) (es : List StoreEntry) (va : ℕ) (wide : Bool) (r : Reach) → ShowsMemory b (written u.image es) → IsReachIn (length b.ram) r
    → Does u b es (lr_outcome (written u.image es) va wide r) (effect_on b (lr_outcome (ram_memory b.ram) va wide r)) None false
reserved_does u b es va wide (OnDevice pa) k i = ram_does u b es (Answer.Fault 5 va) None [] None k tt
reserved_does u b es va wide (Unreached cause tval) k i = ram_does u b es (Answer.Fault cause tval) None [] None k tt
reserved_does u b es va wide (InRam s) k i =
    let m = written u.image es in
    let held : ℕ → ℕ → Answer = λ value word. Answer.LrValue (extended true (width_of wide) value) (record { pa = span_address s; wide = wide; word = word }) in
    subst (λ ans. Does u b es (alone ans None [] None) (effect_on b (lr_outcome (ram_memory b.ram) va wide (InRam s))) None false)
    (sym (ap (λ n. held n (m (first_word s))) (read_same b.ram m s k.ram i) ∙ ap (held (read (ram_memory b.ram) s)) (word_same b.ram m (first_word s) k.ram (first_in (length b.ram) s i))))
    (ram_does u b es (held (read (ram_memory b.ram) s) (ram_memory b.ram (first_word s))) None [] None k tt)

holds_same : (ram : List ℕ) (m : Memory) (s : Span) (wide : Bool) (hold : Option Hold) → ShowsRam ram m → IsSpanIn (length ram) s → hold_stands m s wide hold ≡ hold_stands (ram_memory ram) s wide hold
holds_same ram m s wide None shows k = refl
holds_same ram m s wide (Some h) shows k = ap (λ n. (h.pa == span_address s) && same_width h.wide wide && (h.word == n)) (word_same ram m (first_word s) shows (first_in (length ram) s k))

conditional_does : (u : Setup) (b : Shared) (es : List StoreEntry) (a : Arch) (va : ℕ) (wide : Bool) (value : ℕ) (r : Reach) → ShowsMemory b (written u.image es) → IsReachIn (length b.ram) r
    → Does u b es (sc_outcome (written u.image es) a va wide value r) (effect_on b (sc_outcome (ram_memory b.ram) a va wide value r)) None false
conditional_does u b es a va wide value (OnDevice pa) k i = ram_does u b es (Answer.Fault 7 va) None [] None k tt
conditional_does u b es a va wide value (Unreached cause tval) k i = ram_does u b es (Answer.Fault cause tval) None [] None k tt
conditional_does u b es a va wide value (InRam s) k i =
    let m = written u.image es in
    let does : Bool → StoreEntry → Outcome = λ c en. if c then alone (Answer.Sc true) (Some en) [] None else alone (Answer.Sc false) None [] None in
    subst (λ o. Does u b es o (effect_on b (sc_outcome (ram_memory b.ram) a va wide value (InRam s))) None false)
    (sym (ap (λ c. does c (store_entry m s value)) (holds_same b.ram m s wide a.hold k.ram i) ∙ ap (does (hold_stands (ram_memory b.ram) s wide a.hold)) (entry_same b.ram m s value k.ram i)))
    (go (hold_stands (ram_memory b.ram) s wide a.hold))
  where
    en : StoreEntry
    en = store_entry (ram_memory b.ram) s value

    by : Bool → Outcome
    by c = if c then alone (Answer.Sc true) (Some en) [] None else alone (Answer.Sc false) None [] None

    go : (c : Bool) → Does u b es (by c) (effect_on b (by c)) None false
    go true = ram_does u b es (Answer.Sc true) (Some en) [] None k (entry_in (length b.ram) (ram_memory b.ram) s value i)
    go false = ram_does u b es (Answer.Sc false) None [] None k tt

-- THE IPI WORD

shows_ipi : (ram : List ℕ) (m : Memory) (value : ℕ) → ShowsRam ram m → ShowsRam ram (write m (write_of ipi_word value))
shows_ipi ram m value shows i below =
    shows i below ∙ sym (ap (λ b. if b then value else m (first_ram_word + i)) (ne_eqb (first_ram_word + i) ipi_word (λ e. omega (arith, e))))

-- memory behind a write of it
pub shows_written : (b : Shared) (m : Memory) (value : ℕ) → ShowsMemory b m → ShowsMemory (record b { ipi = value }) (write m (write_of ipi_word value))
shows_written b m value k = record { ram = shows_ipi b.ram m value k.ram; ipi = refl }

ipi_does : (u : Setup) (h : ℕ) (b : Shared) (es : List StoreEntry) (op : IpiOp) → ShowsMemory b (written u.image es)
    → Does u b es (alone (Answer.Value (sip_value b.ipi h)) (ipi_entry op b.ipi h) [] None) (answers (record b { ipi = ipi_after op b.ipi h }) (Answer.Value (sip_value b.ipi h))) None false
ipi_does u h b es IpiOp.Read k = record { entry = None; bytes = []; is_outcome = refl; console = refl; size = refl; layout = refl; limit = refl; memory = record { ram = k.ram; ipi = k.ipi } }
ipi_does u h b es IpiOp.Set k = record {
  entry = ipi_entry IpiOp.Set b.ipi h;
  bytes = [];
  is_outcome = refl;
  console = refl;
  size = refl;
  layout = refl;
  limit = refl;
  memory = shows_written b (written u.image es) (bit_or b.ipi (2 ^ h)) k;
}
ipi_does u h b es IpiOp.Clear k = record {
  entry = ipi_entry IpiOp.Clear b.ipi h;
  bytes = [];
  is_outcome = refl;
  console = refl;
  size = refl;
  layout = refl;
  limit = refl;
  memory = shows_written b (written u.image es) (b.ipi - bit_and b.ipi (2 ^ h)) k;
}

-- NEEDS

pub and_left : (p q : Bool) → p && q ≡ true → p ≡ true
and_left true q h = refl
and_left false q h = h

pub and_right : (p q : Bool) → p && q ≡ true → q ≡ true
and_right true q h = h
and_right false q h = cc

reads_same : (pages : ℕ) (ram : List ℕ) (m : Memory) → length ram ≡ 512 * pages → ShowsRam ram m → (level place : ℕ) → is_ram pages place ≡ true
    → levels_of (λ level. m) level place ≡ ram_reads ram level place
reads_same pages ram m size shows level place e =
    let low = leb-true (2 ^ 31) place (and_left (nat_le (2 ^ 31) place) (nat_lt place (2 ^ 31 + 4096 * pages)) e) in
    let high = ltb-true place (2 ^ 31 + 4096 * pages) (and_right (nat_le (2 ^ 31) place) (nat_lt place (2 ^ 31 + 4096 * pages)) e) in
    sym (shows ((place - 2 ^ 31) / 8) (omega (arith, low, high, size)))

-- a state with these harts, and what is shown in it of one
abbrev pub state_with : List Hart → Shared → List StoreEntry → List Command → State
state_with hs b es sc = record { entries = es; harts = hs; output = b.console; reason = b.reason; script = sc }

pub record ShowsHart (u : Setup) (hs : List Hart) (h : ℕ) (a : Arch) (b : Shared) (es : List StoreEntry) : Type 0 where
  pub arch : (nth hs h).arch ≡ a
  pub layout : b.layout ≡ u.layout
  pub size : length b.ram ≡ 512 * u.layout.pages
  pub memory : ShowsMemory b (written u.image es)

pub walk_now : (u : Setup) (hs : List Hart) (h : ℕ) (a : Arch) (b : Shared) (es : List StoreEntry) (sc : List Command) (kind : Kind) (va : ℕ) → ShowsHart u hs h a b es
    → walked_now u (state_with hs b es sc) h kind va ≡ walk_end a b kind va
walk_now u hs h a b es sc kind va k =
    let m = written u.image es in
    ap (λ x. walk_of u.layout.pages (regime x) kind (levels_of (λ level. m)) va) k.arch
    ∙ agree_walk u.layout.pages (regime a) kind va (levels_of (λ level. m)) (ram_reads b.ram) (reads_same u.layout.pages b.ram m k.size k.memory.ram)
    ∙ ap (λ (l : Layout). walk_of l.pages (regime a) kind (ram_reads b.ram) va) (sym k.layout)

reach_now : (u : Setup) (hs : List Hart) (h : ℕ) (a : Arch) (b : Shared) (es : List StoreEntry) (sc : List Command) (kind : Kind) (va w : ℕ) → ShowsHart u hs h a b es
    → reach kind va w (first_now u (state_with hs b es sc) h (Some (record { kind = kind; va = va; width = w }))) (second_now u (state_with hs b es sc) h (Some (record { kind = kind; va = va; width = w })))
    ≡ reach_of a b kind va w
reach_now u hs h a b es sc kind va w k =
    let s = state_with hs b es sc in
    reach_same kind va w (walked_now u s h kind va) (walked_now u s h kind (second_va va)) (walk_end a b kind (second_va va)) no_walk (walk_now u hs h a b es sc kind (second_va va) k)
    ∙ ap (λ f. reach kind va w f (walk_end a b kind (second_va va))) (walk_now u hs h a b es sc kind va k)

reach_there : (u : Setup) (hs : List Hart) (h : ℕ) (a : Arch) (b : Shared) (es : List StoreEntry) (kind : Kind) (va w : ℕ) → ShowsHart u hs h a b es → IsReachIn (length b.ram) (reach_of a b kind va w)
reach_there u hs h a b es kind va w k =
    let size : length b.ram ≡ 512 * b.layout.pages = k.size ∙ ap (λ (l : Layout). 512 * l.pages) (sym k.layout) in
    subst (λ n. IsReachIn n (reach_of a b kind va w)) (sym size)
    (reach_in kind b.layout.pages va w (walk_end a b kind va) (walk_end a b kind (second_va va)) (walk_sound b.layout.pages (regime a) kind (ram_reads b.ram) va)
    (walk_sound b.layout.pages (regime a) kind (ram_reads b.ram) (second_va va)))

-- what a need of hart h does now
abbrev pub performed : Setup → State → (h : ℕ) → Need → Outcome
performed u s h n = perform (surroundings u s) h (hart s h).arch (first_now u s h (access_of n)) (second_now u s h (access_of n)) n

-- what one does that isn't a call
pub need_does : (u : Setup) (hs : List Hart) (h : ℕ) (a : Arch) (b : Shared) (es : List StoreEntry) (sc : List Command) (n : Need) → ShowsHart u hs h a b es → (n ≡ Need.Sbi → ⊥)
    → Does u b es (performed u (state_with hs b es sc) h n) (effect_of_need h a b n) None false
unfolding perform
need_does u hs h a b es sc Need.Nothing k other = ram_does u b es Answer.Nothing None [] None k.memory tt
need_does u hs h a b es sc (Need.Flush what) k other = ram_does u b es Answer.Nothing None [] None k.memory tt
need_does u hs h a b es sc (Need.Trap cause tval) k other = ram_does u b es (Answer.Fault cause tval) None [] None k.memory tt
need_does u hs h a b es sc (Need.Load va w sign) k other =
    subst (λ x. Does u b es (load_outcome (written u.image es) va w sign x) (effect_of_need h a b (Need.Load va w sign)) None false) (sym (reach_now u hs h a b es sc Kind.Load va w k))
    (loaded_does u b es va w sign (reach_of a b Kind.Load va w) k.memory (reach_there u hs h a b es Kind.Load va w k))
need_does u hs h a b es sc (Need.Store va w value) k other =
    subst (λ x. Does u b es (store_outcome (written u.image es) (room b) va w value x) (effect_of_need h a b (Need.Store va w value)) None false) (sym (reach_now u hs h a b es sc Kind.Store va w k))
    (stored_does u b es va w value (reach_of a b Kind.Store va w) k.memory (reach_there u hs h a b es Kind.Store va w k))
need_does u hs h a b es sc (Need.Ipi op) k other =
    subst (λ n. Does u b es (alone (Answer.Value (sip_value n h)) (ipi_entry op n h) [] None) (effect_of_need h a b (Need.Ipi op)) None false) (sym k.memory.ipi)
    (ipi_does u h b es op k.memory)
need_does u hs h a b es sc Need.Sbi k other = absurd (other refl)
need_does u hs h a b es sc (Need.Amo va op wide value) k other = go (is_misaligned wide va)
  where
    s : State
    s = state_with hs b es sc

    w : Option Wanted
    w = wanted Kind.Store va (width_of wide)

    go : (c : Bool) → Does u b es (if c then fault_outcome 6 va else amo_outcome (written u.image es) va op wide value (reach Kind.Store va (width_of wide) (first_now u s h (if c then None else w)) (second_now u s h (if c then None else w)))) (effect_on b (if c then fault_outcome 6 va else amo_outcome (ram_memory b.ram) va op wide value (reach_of a b Kind.Store va (width_of wide)))) None false
    go true = ram_does u b es (Answer.Fault 6 va) None [] None k.memory tt
    go false =
        subst (λ x. Does u b es (amo_outcome (written u.image es) va op wide value x) (effect_on b (amo_outcome (ram_memory b.ram) va op wide value (reach_of a b Kind.Store va (width_of wide)))) None false) (sym (reach_now u hs h a b es sc Kind.Store va (width_of wide) k))
        (operated_does u b es va op wide value (reach_of a b Kind.Store va (width_of wide)) k.memory (reach_there u hs h a b es Kind.Store va (width_of wide) k))
need_does u hs h a b es sc (Need.Lr va wide) k other = go (is_misaligned wide va)
  where
    s : State
    s = state_with hs b es sc

    w : Option Wanted
    w = wanted Kind.Load va (width_of wide)

    go : (c : Bool) → Does u b es (if c then fault_outcome 4 va else lr_outcome (written u.image es) va wide (reach Kind.Load va (width_of wide) (first_now u s h (if c then None else w)) (second_now u s h (if c then None else w)))) (effect_on b (if c then fault_outcome 4 va else lr_outcome (ram_memory b.ram) va wide (reach_of a b Kind.Load va (width_of wide)))) None false
    go true = ram_does u b es (Answer.Fault 4 va) None [] None k.memory tt
    go false =
        subst (λ x. Does u b es (lr_outcome (written u.image es) va wide x) (effect_on b (lr_outcome (ram_memory b.ram) va wide (reach_of a b Kind.Load va (width_of wide)))) None false) (sym (reach_now u hs h a b es sc Kind.Load va (width_of wide) k))
        (reserved_does u b es va wide (reach_of a b Kind.Load va (width_of wide)) k.memory (reach_there u hs h a b es Kind.Load va (width_of wide) k))
need_does u hs h a b es sc (Need.Sc va wide value) k other = go (is_misaligned wide va)
  where
    s : State
    s = state_with hs b es sc

    w : Option Wanted
    w = wanted Kind.Store va (width_of wide)

    go : (c : Bool) → Does u b es (if c then fault_outcome 6 va else sc_outcome (written u.image es) (nth hs h).arch va wide value (reach Kind.Store va (width_of wide) (first_now u s h (if c then None else w)) (second_now u s h (if c then None else w)))) (effect_on b (if c then fault_outcome 6 va else sc_outcome (ram_memory b.ram) a va wide value (reach_of a b Kind.Store va (width_of wide)))) None false
    go true = ram_does u b es (Answer.Fault 6 va) None [] None k.memory tt
    go false =
        subst (λ x. Does u b es (sc_outcome (written u.image es) x va wide value (reach Kind.Store va (width_of wide) (first_now u s h w) (second_now u s h w))) (effect_on b (sc_outcome (ram_memory b.ram) a va wide value (reach_of a b Kind.Store va (width_of wide)))) None false) (sym k.arch)
        (subst (λ x. Does u b es (sc_outcome (written u.image es) a va wide value x) (effect_on b (sc_outcome (ram_memory b.ram) a va wide value (reach_of a b Kind.Store va (width_of wide)))) None false) (sym (reach_now u hs h a b es sc Kind.Store va (width_of wide) k))
        (conditional_does u b es a va wide value (reach_of a b Kind.Store va (width_of wide)) k.memory (reach_there u hs h a b es Kind.Store va (width_of wide) k)))
