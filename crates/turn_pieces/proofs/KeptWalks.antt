-- A walk that is kept is seen.
use Rattle.std.proofs.Common.{◌≡◌, ℕ, Bool, true, false, List, [], ◌∷◌, refl, inl, inr}
use Rattle.std.specs.Prelude.{◌==◌, ◌&&◌, if◌then◌else◌}
use Rattle.rv64_priv.specs.Csr.{regime}
use Rattle.rv64_priv.specs.Flush.{covers}
use Rattle.walk_laws.specs.WalkLoads.{Found, reads_of}
use Rattle.walk_laws.specs.KeptWalks.{Item as WalkItem, flushed, HasStood as HasKept}
use Rattle.machine_model.specs.Event.{Event, Flushes}
use Rattle.machine_model.specs.Run.{covers_leaf}
use Rattle.turn_pieces.specs.Log.{made, did, Log, HasStood}
use Rattle.turn_pieces.specs.KeptWalks.{with_flush, flushes_in, KeptIsSeen}

-- an event that the record passes over doesn't cover the leaf
spares : (h va level : ℕ) (e : Event) (x : Found) (xs : List Found) (items : List WalkItem) → HasKept va level (x ∷ xs) (with_flush h e items)
    → (covers_leaf h va level e ≡ false) × HasKept va level (x ∷ xs) items
spares h va level (Flushes g what) x xs items k = go (g == h) k
  where
    go : (b : Bool) → HasKept va level (x ∷ xs) (if b then flushed what ∷ items else items) → ((b && covers what va level) ≡ false) × HasKept va level (x ∷ xs) items
    go true k = k
    go false k = (refl, k)
spares h va level e x xs items k = (refl, k)

kept_stood : (h va level : ℕ) (xs : List Found) (l : Log) → HasKept va level xs (flushes_in h l) → HasStood (covers_leaf h va level) xs l
kept_stood h va level [] l k = tt
kept_stood h va level (x ∷ xs) [] k = k
kept_stood h va level (x ∷ xs) (made s ∷ l) (inl k) = inl (k.0, kept_stood h va level xs l k.1)
kept_stood h va level (x ∷ xs) (made s ∷ l) (inr k) = inr (kept_stood h va level (x ∷ xs) l k)
kept_stood h va level (x ∷ xs) (did e ∷ l) k = let q = spares h va level e x xs (flushes_in h l) k in (q.0, kept_stood h va level (x ∷ xs) l q.1)

pub kept_is_seen : KeptIsSeen
kept_is_seen pages h a kind va pte address level l k =
    record { finds = k.finds; is_end = k.is_end; stood = kept_stood h va level (reads_of pages (regime a) va k.finds) l k.stood }
