-- Console places that follow one another.
use Rattle.std.proofs.Common.{◌≡◌, ℕ, ◌+◌, List, [], ◌∷◌, Some, refl, arith, length}
use Rattle.turn_pieces.specs.Doing.{AreFollowing, first_drawn}

-- some place is the first
pub first_there : (d : ℕ) (ds : List ℕ) → (f : ℕ) × (first_drawn (d ∷ ds) ≡ Some f)
first_there d [] = (d, refl)
first_there d (e ∷ ds) = first_there e ds

-- and the newest is as far behind it as there are others
pub newest_at : (d f : ℕ) (ds : List ℕ) → AreFollowing (d ∷ ds) → first_drawn (d ∷ ds) ≡ Some f → d ≡ f + length ds
newest_at d f [] x e = let same : d ≡ f = cc e in omega (arith, same)
newest_at d f (i ∷ ds) x e = let old = newest_at i f ds x.1 e in let next = x.0 in omega (arith, old, next)
