-- A log as a record of walks has it: its steps, and its hart's flushes.
use Rattle.std.specs.Prelude.{ℕ, ◌==◌, if◌then◌else◌, List, [], ◌∷◌}
use Rattle.rv64_priv.specs.State.{Arch}
use Rattle.rv64_priv.specs.Csr.{regime}
use Rattle.rv64_priv.specs.declared.state.Kind.{Kind}
use Rattle.rv64_priv.specs.Walk.{Leaf}
use Rattle.walk_laws.specs.KeptWalks.{Item as WalkItem, made as stepped, flushed, IsKept}
use Rattle.machine_model.specs.Event.{Event, Flushes}
use Rattle.turn_pieces.specs.Log.{made, did, Log}
use Rattle.turn_pieces.specs.Right.{IsSeen}

abbrev pub with_flush : (hart : ℕ) → Event → List WalkItem → List WalkItem
with_flush h (Flushes g what) items = if g == h then flushed what ∷ items else items
with_flush h e items = items

abbrev pub flushes_in : (hart : ℕ) → Log → List WalkItem
flushes_in h [] = []
flushes_in h (made s ∷ l) = stepped s ∷ flushes_in h l
flushes_in h (did e ∷ l) = with_flush h e (flushes_in h l)

-- a walk that such a record keeps, the log shows
abbrev pub KeptIsSeen : Type 0
KeptIsSeen = (pages h : ℕ) (a : Arch) (kind : Kind) (va pte address level : ℕ) (l : Log) → IsKept pages (regime a) kind va pte address level (flushes_in h l)
    → IsSeen pages h a kind va (Leaf pte address level) l
