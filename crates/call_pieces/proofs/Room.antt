-- Console places that follow one another: how much room there was, by the last of them.
use Rattle.std.proofs.Common.{◌≡◌, ◌≢◌, ℕ, ◌<◌, ◌≤◌, List, [], ◌∷◌, Some, refl, sym, ◌∙◌, arith, length}
use Rattle.std.specs.Prelude.{◌-◌}
use Rattle.step_laws.specs.Words.{console_places}
use Rattle.turn_pieces.specs.Doing.{AreFollowing, HasRoom, IsCutShort, first_drawn}
use Rattle.turn_pieces.proofs.Following.{first_there, newest_at}

-- the last place that was drawn is one that there is
abbrev pub AreWithin : List ℕ → Type 0
AreWithin [] = Unit {0}
AreWithin (d ∷ ds) = d < console_places

pub room_there : (ds : List ℕ) → length ds ≢ 0 → AreWithin ds → AreFollowing ds → HasRoom ds
room_there [] some within follow = absurd (some refl)
room_there (d ∷ ds) some within follow =
    let f = first_there d ds in
    let at = newest_at d f.0 ds follow f.1 in record { first = f.0; first_is = f.1; fits = omega (arith, at, within) }

-- all before one beyond the last were free
pub room_left : (place : ℕ) (ds : List ℕ) → AreWithin ds → console_places ≤ place → AreFollowing (place ∷ ds) → (i : ℕ) → first_drawn (place ∷ ds) ≡ Some i → console_places - i ≡ length ds
room_left place [] within beyond follow i e = let at = newest_at place i [] follow e in omega (arith, at, beyond)
room_left place (d ∷ ds) within beyond follow i e =
    let at = newest_at place i (d ∷ ds) follow e in
    let next = follow.0 in omega (arith, at, next, within, beyond)

pub cut_there : (place : ℕ) (ds bs : List ℕ) → AreWithin ds → console_places ≤ place → length bs ≡ length ds → AreFollowing (place ∷ ds) → IsCutShort (place ∷ ds) bs
cut_there place ds bs within beyond many follow = record {
  none = λ v. absurd (cc v);
  some = λ i e. (many ∙ sym (room_left place ds within beyond follow i e), (let at = newest_at place i ds follow e in omega (arith, at, beyond)));
}
