-- What a call of the SBI does, by what the machine on one thread does.
use Rattle.std.proofs.Common.{◌≡◌, refl, ℕ, zero, suc, ◌≤◌, ◌+◌, ◌*◌, ◌/◌, ◌%◌, ◌^◌, ◌++◌, List, [], ◌∷◌, Some, None, true, false, Bool, ◌&&◌, ◌||◌, length, arith, ap, sym, ◌∙◌, subst, option_to_list}
use Rattle.std.specs.Prelude.{◌==◌, nat_le, min, if◌then◌else◌, take, bit_or}
use Rattle.std.proofs.lemmas.Bool.{leb-true, ne_eqb}
use Rattle.rv64_priv.specs.State.{Arch}
use Rattle.rv64_priv.specs.Walk.{ram_base}
use Rattle.rv64_exec.specs.declared.needs.Answer.{Answer}
use Rattle.rv64_exec.specs.declared.needs.Need.{Need}
use Rattle.step_laws.specs.declared.words.Layout.{Layout}
use Rattle.step_laws.specs.Words.{ram_word, ipi_word}
use Rattle.machine_model.specs.declared.reason.Reason.{Reason}
use Rattle.ref_machine.specs.declared.hart.HartSlot.{HartSlot}
use Rattle.machine_model.specs.Memory.{Memory, StoreEntry, written}
use Rattle.machine_model.specs.Event.{Outcome, only}
use Rattle.machine_model.specs.State.{Setup, Hart, Command, nth}
use Rattle.machine_model.specs.Sbi.{Call, Modes, Gives, GivesOne, Prints, PrintsOne, Sends, Fences, Begins, Leaves, EndsAll, arg, sbi_of, byte_at, bytes_from, is_range_in_ram, base_call, ipi_call, rfence_call, hsm_call, reset_call, console_call, no_call, fails, invalid_parameter, not_supported}
use Rattle.machine_model.specs.Perform.{call_outcome, print_outcome, perform}
use Rattle.ref_machine.specs.SharedState.{Shared, ram_memory}
use Rattle.ref_machine.specs.Slots.{slot_at, modes_of}
use Rattle.ref_machine.specs.OneTurn.{effect_called, effect_of_call, ipi_entered, call_of, room}
use Rattle.ref_machine.specs.Shows.{ShowsRam, ShowsMemory}
use Rattle.ref_machine.proofs.Reaches.{IsWord}
use Rattle.ref_machine.proofs.Served.{Does, performed, state_with, ShowsHart, word_same, shows_written, and_left, and_right}

-- A CALL READS RAM ALONE

bytes_same : (pages : ℕ) (ram : List ℕ) (m : Memory) (pa n : ℕ) → length ram ≡ 512 * pages → ShowsRam ram m → 2 ^ 31 ≤ pa → pa + n ≤ 2 ^ 31 + 4096 * pages → bytes_from m pa n ≡ bytes_from (ram_memory ram) pa n
bytes_same pages ram m pa zero size shows low high = refl
bytes_same pages ram m pa (suc n) size shows low high =
    let word : IsWord (length ram) (ram_word pa) = (omega arith, omega (arith, size, low, high)) in
    ap (λ v. v / 256 ^ (pa % 8) % 256 ∷ bytes_from m (pa + 1) n) (word_same ram m (ram_word pa) shows word)
    ∙ ap (λ bs. byte_at (ram_memory ram) pa ∷ bs) (bytes_same pages ram m (pa + 1) n size shows (omega (arith, low)) (omega (arith, high)))

printed_same : (pages : ℕ) (ram : List ℕ) (m : Memory) (pa count : ℕ) → length ram ≡ 512 * pages → ShowsRam ram m → is_range_in_ram pages pa count ≡ true
    → bytes_from m pa (min count 256) ≡ bytes_from (ram_memory ram) pa (min count 256)
printed_same pages ram m pa zero size shows e = refl
printed_same pages ram m pa (suc n) size shows e =
    let inside : nat_le ram_base pa && nat_le (pa + suc n) (ram_base + 4096 * pages) ≡ true
    = sym (ap (λ b. b || (nat_le ram_base pa && nat_le (pa + suc n) (ram_base + 4096 * pages))) (ne_eqb (suc n) 0 (λ k. omega (arith, k)))) ∙ e in
    let low = leb-true ram_base pa (and_left (nat_le ram_base pa) (nat_le (pa + suc n) (ram_base + 4096 * pages)) inside) in
    let high = leb-true (pa + suc n) (ram_base + 4096 * pages) (and_right (nat_le ram_base pa) (nat_le (pa + suc n) (ram_base + 4096 * pages)) inside) in
    bytes_same pages ram m pa (min (suc n) 256) size shows low (omega (arith, high))

console_same : (pages : ℕ) (ram : List ℕ) (m : Memory) (a : Arch) (fid : ℕ) → length ram ≡ 512 * pages → ShowsRam ram m → console_call pages m a fid ≡ console_call pages (ram_memory ram) a fid
console_same pages ram m a fid size shows =
    ap (λ (c : Call). if fid == 0 then c else (if fid == 2 then Prints (arg a 0 % 256 ∷ []) 0 else fails not_supported)) (go (arg a 2 == 0) (is_range_in_ram pages (arg a 1) (arg a 0)) refl)
  where
    call : Memory → Bool → Call
    call x b = if b then Prints (bytes_from x (arg a 1) (min (arg a 0) 256)) (min (arg a 0) 256) else fails invalid_parameter

    go : (p q : Bool) → is_range_in_ram pages (arg a 1) (arg a 0) ≡ q → call m (p && q) ≡ call (ram_memory ram) (p && q)
    go false q e = refl
    go true false e = refl
    go true true e = ap (λ bs. Prints bs (min (arg a 0) 256)) (printed_same pages ram m (arg a 1) (arg a 0) size shows e)

abbrev by_console : Layout → Modes → Arch → Call → Call
by_console l modes a console =
    let eid = arg a 7 in
    let fid = arg a 6 in
    if eid == 0x01 then PrintsOne (arg a 0 % 256) else
    if eid == 0x08 then EndsAll Reason.Pass else
    if eid == 0x10 then base_call a fid else
    if eid == 0x735049 then ipi_call l.harts a fid else
    if eid == 0x52464E43 then rfence_call l.harts a fid else
    if eid == 0x48534D then hsm_call l modes a fid else
    if (eid == 0x53525354) && (fid == 0) then reset_call (arg a 0 % 2 ^ 32) (arg a 1 % 2 ^ 32) else
    if eid == 0x4442434E then console else no_call eid

sbi_same : (l : Layout) (modes modes' : Modes) (ram : List ℕ) (m : Memory) (a : Arch) → length ram ≡ 512 * l.pages → ShowsRam ram m → ((g : ℕ) → modes g ≡ modes' g)
    → sbi_of l modes m a ≡ sbi_of l modes' (ram_memory ram) a
unfolding sbi_of
sbi_same l modes modes' ram m a size shows same =
    let e : modes ≡ modes' = λ k g. same g k in
    ap (λ x. by_console l x a (console_call l.pages m a (arg a 6))) e
    ∙ ap (by_console l modes' a) (console_same l.pages ram m a (arg a 6) size shows)

-- and memory's word of IPI
called_same : (m : Memory) (ipi r : ℕ) (c : Call) → m ipi_word ≡ ipi → call_outcome m r c ≡ call_outcome (λ word. ipi) r c
called_same m ipi r (Gives error value) e = refl
called_same m ipi r (GivesOne error) e = refl
called_same m ipi r (Prints bytes value) e = refl
called_same m ipi r (PrintsOne byte) e = refl
called_same m ipi r (Sends mask) e = ap (λ n. call_outcome (λ word. n) r (Sends mask)) e
called_same m ipi r (Fences harts what) e = refl
called_same m ipi r (Begins target at opaque) e = refl
called_same m ipi r Leaves e = refl
called_same m ipi r (EndsAll reason) e = refl

-- WHAT IT LEAVES

abbrev ShowsAfter : Setup → Shared → List StoreEntry → Outcome → Type 0
ShowsAfter u b es o = ShowsMemory (effect_called b o).shared (written u.image (option_to_list o.entry ++ es))

shows_quiet : (u : Setup) (b : Shared) (es : List StoreEntry) (o : Outcome) → o.entry ≡ None → ShowsMemory b (written u.image es) → ShowsAfter u b es o
shows_quiet u b es o none k = record {
  ram = subst (λ en. ShowsRam b.ram (written u.image (option_to_list en ++ es))) (sym none) k.ram;
  ipi = subst (λ en. written u.image (option_to_list en ++ es) ipi_word ≡ ipi_entered b.ipi en) (sym none) k.ipi;
}

abbrev prints_by : ℕ → List ℕ → Answer → Bool → Outcome
prints_by r bytes answer fits = if fits then record (only answer) { bytes = bytes } else record (only Answer.Nothing) { bytes = take r bytes; reason = Some Reason.OutFull }

prints_quiet : (r : ℕ) (bytes : List ℕ) (answer : Answer) → (print_outcome r bytes answer).entry ≡ None
prints_quiet r bytes answer = go (nat_le (length bytes) r)
  where
    go : (fits : Bool) → (prints_by r bytes answer fits).entry ≡ None
    go true = refl
    go false = refl

shows_called : (u : Setup) (b : Shared) (es : List StoreEntry) (c : Call) → ShowsMemory b (written u.image es) → ShowsAfter u b es (call_outcome (λ word. b.ipi) (room b) c)
shows_called u b es (Gives error value) k = shows_quiet u b es (call_outcome (λ word. b.ipi) (room b) (Gives error value)) refl k
shows_called u b es (GivesOne error) k = shows_quiet u b es (call_outcome (λ word. b.ipi) (room b) (GivesOne error)) refl k
shows_called u b es (Prints bytes value) k = shows_quiet u b es (call_outcome (λ word. b.ipi) (room b) (Prints bytes value)) (prints_quiet (room b) bytes _) k
shows_called u b es (PrintsOne byte) k = shows_quiet u b es (call_outcome (λ word. b.ipi) (room b) (PrintsOne byte)) (prints_quiet (room b) (byte ∷ []) _) k
shows_called u b es (Sends mask) k = let w = shows_written b (written u.image es) (bit_or b.ipi mask) k in record { ram = w.ram; ipi = w.ipi }
shows_called u b es (Fences harts what) k = shows_quiet u b es (call_outcome (λ word. b.ipi) (room b) (Fences harts what)) refl k
shows_called u b es (Begins target at opaque) k = shows_quiet u b es (call_outcome (λ word. b.ipi) (room b) (Begins target at opaque)) refl k
shows_called u b es Leaves k = shows_quiet u b es (call_outcome (λ word. b.ipi) (room b) Leaves) refl k
shows_called u b es (EndsAll reason) k = shows_quiet u b es (call_outcome (λ word. b.ipi) (room b) (EndsAll reason)) refl k

pub call_does : (u : Setup) (hs : List Hart) (ts : List HartSlot) (h : ℕ) (b : Shared) (es : List StoreEntry) (sc : List Command) → ShowsHart u hs h (slot_at ts h).arch b es → ((g : ℕ) → (nth hs g).mode ≡ modes_of ts g)
    → Does u b es (performed u (state_with hs b es sc) h Need.Sbi)
    (effect_of_call b (call_of ts b h)) (effect_of_call b (call_of ts b h)).starts (effect_of_call b (call_of ts b h)).stops
unfolding perform
call_does u hs ts h b es sc k same =
    let m = written u.image es in
    let o = call_outcome (λ word. b.ipi) (room b) (call_of ts b h) in
    let size : length b.ram ≡ 512 * b.layout.pages = k.size ∙ ap (λ (l : Layout). 512 * l.pages) (sym k.layout) in
    record {
      entry = o.entry;
      bytes = o.bytes;
      is_outcome =
          ap (λ (l : Layout). call_outcome m (room b) (sbi_of l (λ g. (nth hs g).mode) m (nth hs h).arch)) (sym k.layout)
          ∙ ap (λ a. call_outcome m (room b) (sbi_of b.layout (λ g. (nth hs g).mode) m a)) k.arch
          ∙ ap (call_outcome m (room b)) (sbi_same b.layout (λ g. (nth hs g).mode) (modes_of ts) b.ram m (slot_at ts h).arch size k.memory.ram same)
          ∙ called_same m b.ipi (room b) (call_of ts b h) k.memory.ipi;
      console = refl;
      size = refl;
      layout = refl;
      limit = refl;
      memory = shows_called u b es (call_of ts b h) k.memory;
    }
