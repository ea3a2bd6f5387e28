-- What print_outcome bytes of RAM.
use Rattle.std.proofs.Common.{◌≡◌, refl, ℕ, zero, suc, ◌<◌, ◌≤◌, ◌+◌, ◌++◌, List, [], ◌∷◌, length, take, Some, None, Bool, arith, ap, sym, ◌∙◌, append-nil, append_assoc}
use Rattle.std.specs.Prelude.{nat_le, if◌then◌else◌}
use Rattle.std.proofs.lemmas.Bool.{le-leb, lt-leb}
use Rattle.rv64_exec.specs.declared.needs.Answer.{Answer}
use Rattle.machine_model.specs.declared.reason.Reason.{Reason}
use Rattle.machine_model.specs.Memory.{Memory}
use Rattle.machine_model.specs.Event.{Outcome, only}
use Rattle.machine_model.specs.Sbi.{byte_at, bytes_from}
use Rattle.machine_model.specs.Perform.{print_outcome}
use Rattle.machine_model.specs.Change.{printed}
use Rattle.ref_machine.specs.SharedState.{Shared, ram_memory}
use Rattle.ref_machine.specs.OneTurn.{effect_called, done_with, room}

-- one byte more
bytes_suc : (m : Memory) (pa n : ℕ) → bytes_from m pa (suc n) ≡ bytes_from m pa n ++ byte_at m (pa + n) ∷ []
bytes_suc m pa zero = let e : pa ≡ pa + 0 = omega arith in ap (λ a. byte_at m a ∷ []) e
bytes_suc m pa (suc n) =
    let e : (pa + 1) + n ≡ pa + suc n = omega arith in
    ap (λ bs. byte_at m pa ∷ bs) (bytes_suc m (pa + 1) n ∙ ap (λ a. bytes_from m (pa + 1) n ++ byte_at m a ∷ []) e)

pub bytes_more : (m : Memory) (pa n : ℕ) → bytes_from m pa (n + 1) ≡ bytes_from m pa n ++ byte_at m (pa + n) ∷ []
bytes_more m pa n = let e : n + 1 ≡ suc n = omega arith in ap (bytes_from m pa) e ∙ bytes_suc m pa n

pub pushed_more : (m : Memory) (old : List ℕ) (pa n : ℕ) → old ++ bytes_from m pa (n + 1) ≡ (old ++ bytes_from m pa n) ++ byte_at m (pa + n) ∷ []
pushed_more m old pa n = ap (λ bs. old ++ bs) (bytes_more m pa n) ∙ sym (append_assoc old (bytes_from m pa n) (byte_at m (pa + n) ∷ []))

bytes_length : (m : Memory) (pa n : ℕ) → length (bytes_from m pa n) ≡ n
bytes_length m pa zero = refl
bytes_length m pa (suc n) = ap suc (bytes_length m (pa + 1) n)

bytes_take : (m : Memory) (pa k n : ℕ) → k ≤ n → take k (bytes_from m pa n) ≡ bytes_from m pa k
bytes_take m pa zero n le = refl
bytes_take m pa (suc k) zero le = absurd (omega (arith, le))
bytes_take m pa (suc k) (suc n) le = ap (λ bs. byte_at m pa ∷ bs) (bytes_take m (pa + 1) k n (omega (arith, le)))

printed_all : (output bytes : List ℕ) → printed output bytes ≡ output ++ bytes
printed_all output [] = sym (append-nil output)
printed_all output (b ∷ bs) = refl

abbrev prints_by : (b : Shared) (bytes : List ℕ) (answer : Answer) (c : Bool) → Outcome
prints_by b bytes answer c = if c then record (only answer) { bytes = bytes } else record (only Answer.Nothing) { bytes = take (room b) bytes; reason = Some Reason.OutFull }

pub prints_all : (b : Shared) (from count : ℕ) (answer : Answer) → count ≤ room b
    → effect_called b (print_outcome (room b) (bytes_from (ram_memory b.ram) from count) answer) ≡ done_with (record b { console = b.console ++ bytes_from (ram_memory b.ram) from count }) answer None
prints_all b from count answer le =
    let bytes = bytes_from (ram_memory b.ram) from count in
    ap (λ c. effect_called b (prints_by b bytes answer c)) (ap (λ n. nat_le n (room b)) (bytes_length (ram_memory b.ram) from count) ∙ le-leb count (room b) le)
    ∙ ap (λ bs. done_with (record b { console = bs }) answer None) (printed_all b.console bytes)

pub prints_some : (b : Shared) (from count : ℕ) (answer : Answer) → room b < count
    → effect_called b (print_outcome (room b) (bytes_from (ram_memory b.ram) from count) answer) ≡ done_with (record b { console = b.console ++ bytes_from (ram_memory b.ram) from (room b) }) Answer.Nothing (Some Reason.OutFull)
prints_some b from count answer lt =
    let bytes = bytes_from (ram_memory b.ram) from count in
    ap (λ c. effect_called b (prints_by b bytes answer c)) (ap (λ n. nat_le n (room b)) (bytes_length (ram_memory b.ram) from count) ∙ lt-leb count (room b) lt)
    ∙ ap (λ bs. done_with (record b { console = printed b.console bs }) Answer.Nothing (Some Reason.OutFull)) (bytes_take (ram_memory b.ram) from (room b) count (omega (arith, lt)))
    ∙ ap (λ bs. done_with (record b { console = bs }) Answer.Nothing (Some Reason.OutFull)) (printed_all b.console (bytes_from (ram_memory b.ram) from (room b)))
