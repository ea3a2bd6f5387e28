-- Bytes of numbers, one by one.
use Rattle.std.proofs.Common.{◌≡◌, ◌≢◌, refl, ap, sym, append_assoc, ◌∙◌, arith, ℕ, zero, suc, ◌-◌, ◌/◌, ◌%◌, List, [], ◌∷◌, ◌++◌}
use Rattle.std.specs.Prelude.{Result, Ok, Err, OnOk}
use Rattle.std.specs.declared.alloc.AllocError.{AllocError}
use Rattle.asm_text.specs.declared.faults.Fault.{Fault}
use Rattle.rv_asm.specs.Assembly.{bytes_of}
use Rattle.rv_asm.specs.Found.{Adds, or_no_memory}

pub first_byte : (count value : ℕ) → count ≢ 0 → bytes_of count value ≡ value % 256 ∷ bytes_of (count - 1) (value / 256)
unfolding bytes_of
first_byte zero value some = absurd (some refl)
first_byte (suc count) value some = let e : count ≡ suc count - 1 = omega arith in ap (λ n. value % 256 ∷ bytes_of n (value / 256)) e

pub one_more : (old mid new bytes rest : List ℕ) (v : ℕ) → mid ≡ old ++ v ∷ [] → new ≡ mid ++ rest → bytes ≡ v ∷ rest → new ≡ old ++ bytes
one_more old mid new bytes rest v e f g = f ∙ ap (λ xs. xs ++ rest) e ∙ append_assoc old (v ∷ []) rest ∙ ap (λ xs. old ++ xs) (sym g)

pub adds_ok : (found : Result (List ℕ) Fault) (old new bytes : List ℕ) (r : Result (Unit {0}) AllocError) → found ≡ Ok bytes → OnOk r (new ≡ old ++ bytes) → Adds found old new (or_no_memory r)
adds_ok found old new bytes (Ok done) e h = (bytes, e, h)
adds_ok found old new bytes (Err error) e h = tt
