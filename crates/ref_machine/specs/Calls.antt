-- SBI calls as the machine decides them: the bytes that one prints are named by their place in RAM.
use Rattle.std.specs.Prelude.{◌≡◌, ◌⊎◌, ℕ, ◌+◌, ◌*◌, ◌%◌, ◌^◌, ◌<◌, ◌≤◌, List, [], ◌∷◌, Option, Some, None, if◌then◌else◌}
use Rattle.step_laws.specs.declared.words.Layout.{Layout}
use Rattle.ref_machine.specs.declared.calls.Call.{Call as Decided}
use Rattle.machine_model.specs.Memory.{Memory}
use Rattle.machine_model.specs.Sbi.{Call, Gives, GivesOne, Prints, PrintsOne, Sends, Begins, Leaves, EndsAll, are_there, bits_of, bytes_from}

abbrev pub says : Memory → Decided → Call
says m (Decided.Gives error value) = Gives error value
says m (Decided.GivesOne error) = GivesOne error
says m (Decided.Prints from count) = Prints (bytes_from m from count) count
says m (Decided.PrintsByte byte) = Prints (byte ∷ []) 0
says m (Decided.PrintsOne byte) = PrintsOne byte
says m (Decided.Sends mask) = Sends mask
says m (Decided.Begins target at opaque) = Begins target at opaque
says m Decided.Leaves = Leaves
says m (Decided.EndsAll reason) = EndsAll reason

-- printed bytes lie in RAM, and a hart that begins is there and its first instruction at a multiple of 4
abbrev pub IsSoundCall : Layout → Decided → Type 0
IsSoundCall l (Decided.Prints from count) = (count ≤ 256) × ((count ≡ 0) ⊎ ((2 ^ 31 ≤ from) × (from + count ≤ 2 ^ 31 + 4096 * l.pages)))
IsSoundCall l (Decided.Begins target at opaque) = (target < l.harts) × (at % 4 ≡ 0)
IsSoundCall l _ = Unit {0}

-- the bits of these harts, where all are there
abbrev pub bits_if_there : ℕ → List ℕ → Option ℕ
bits_if_there harts hs = if are_there harts hs then Some (bits_of hs) else None
