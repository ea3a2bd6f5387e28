-- Parts of a turn of one hart.
use Rattle.std.proofs.Common.{◌≡◌, ℕ, ap, subst}
use Rattle.std.specs.Prelude.{Result, Ok, Err}
use Rattle.ref_machine.specs.declared.hart.HartSlot.{HartSlot}
use Rattle.ref_machine.specs.declared.translation.Fault.{Fault}
use Rattle.machine_model.specs.Access.{Spot, AtRam, AtDevice, Faults, code_word}
use Rattle.ref_machine.specs.SharedState.{Shared, ram_memory}
use Rattle.ref_machine.specs.OneTurn.{Done, IsWordDone, IsFetched}
use Rattle.ref_machine.specs.Translation.{IsWord}

abbrev IsOkOf : ℕ → ℕ → Type 0
IsOkOf x y = ok x ≡ ok y
  where
    ok : ℕ → Result ℕ Fault
    ok n = Ok n

ok_same : (x y : ℕ) → IsOkOf x y → x ≡ y
ok_same x y e = ap (λ (r : Result ℕ Fault). value r) e
  where
    value : Result ℕ Fault → ℕ
    value (Ok n) = n
    value (Err f) = 0

pub fetched_word : (h : ℕ) (t : HartSlot) (b : Shared) (d : Done) (spot : Spot) (word : ℕ) → IsWord b.ram spot (Ok word) → IsWordDone h t b word d → IsFetched h t b d spot
fetched_word h t b d (AtRam pa) word k done = subst (λ w. IsWordDone h t b w d) (ok_same word (code_word (ram_memory b.ram) pa) k) done
fetched_word h t b d (AtDevice pa) word k done = absurd k
fetched_word h t b d (Faults cause tval) word k done = cc
