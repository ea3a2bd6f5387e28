-- What a record keeps of a walk.
use Rattle.std.proofs.Common.{◌≡◌, ℕ, false, List, [], ◌∷◌, ◌++◌, inl, inr}
use Rattle.rv64_priv.specs.Flush.{Flush, covers}
use Rattle.step_laws.specs.declared.steps.Step.{Step}
use Rattle.walk_laws.specs.WalkLoads.{Found, AreLoaded, reads_of}
use Rattle.walk_laws.specs.KeptWalks.{Item, flushed, HasStood, made_all, WalkIsKept, StaysOverSteps, StaysOverFlush}

loaded_stood : (va level : ℕ) (xs : List Found) (r : List Step) (items : List Item) → AreLoaded xs r → HasStood va level xs (made_all r ++ items)
loaded_stood va level [] r items k = tt
loaded_stood va level (x ∷ xs) [] items k = absurd k
loaded_stood va level (x ∷ xs) (s ∷ r) items (inl k) = inl (k.0, loaded_stood va level xs r items k.1)
loaded_stood va level (x ∷ xs) (s ∷ r) items (inr k) = inr (loaded_stood va level (x ∷ xs) r items k)

stood_steps : (va level : ℕ) (xs : List Found) (r : List Step) (items : List Item) → HasStood va level xs items → HasStood va level xs (made_all r ++ items)
stood_steps va level [] r items k = tt
stood_steps va level (x ∷ xs) [] items k = k
stood_steps va level (x ∷ xs) (s ∷ r) items k = inr (stood_steps va level (x ∷ xs) r items k)

stood_flush : (va level : ℕ) (what : Flush) (xs : List Found) (items : List Item) → covers what va level ≡ false → HasStood va level xs items → HasStood va level xs (flushed what ∷ items)
stood_flush va level what [] items n k = tt
stood_flush va level what (x ∷ xs) items n k = (n, k)

pub walk_is_kept : WalkIsKept
walk_is_kept pages r kind va pte address level steps items k =
    record { finds = k.finds; is_end = k.is_end; stood = loaded_stood va level (reads_of pages r va k.finds) steps items k.loaded }

pub stays_over_steps : StaysOverSteps
stays_over_steps pages r kind va pte address level steps items k =
    record { finds = k.finds; is_end = k.is_end; stood = stood_steps va level (reads_of pages r va k.finds) steps items k.stood }

pub stays_over_flush : StaysOverFlush
stays_over_flush pages r kind va pte address level what items n k =
    record { finds = k.finds; is_end = k.is_end; stood = stood_flush va level what (reads_of pages r va k.finds) items n k.stood }
