-- What a log says of its actor: one fact a fold.
use Rattle.std.specs.Prelude.{◌⊎◌, ℕ, ◌==◌, ◌&&◌, ◌||◌, if◌then◌else◌, IsTrue, Bool, false, List, [], ◌∷◌, Option, None, is_some}
use Rattle.rv64_priv.specs.Flush.{Full}
use Rattle.step_laws.specs.declared.steps.WordOp.{WordOp}
use Rattle.step_laws.specs.declared.steps.WordOp.TheVariants.{Store}
use Rattle.step_laws.specs.Map.{Word, Hsm, name_of}
use Rattle.step_laws.specs.Harts.{taking}
use Rattle.machine_model.specs.Event.{Event, did_of, entry_stored}
use Rattle.machine_model.specs.State.{Setup, hart, initial}
use Rattle.machine_model.specs.Own.{Own, own}
use Rattle.machine_model.specs.Own.{own_of}
use Rattle.machine_model.specs.Run.{flushes, says_all_stopped}
use Rattle.turn_pieces.specs.Folds.{known_word_next, are_some, drawn_next, stored_next, handed_on_next, is_waiting, flushed_all_next}
use Rattle.turn_pieces.specs.Folds.{IsUncount}
use Rattle.turn_pieces.specs.Log.{made, did, Log, steps_of, events_of}

-- the actor's own part of the reference machine's state
abbrev pub own_part : Setup → ℕ → Log → Own
own_part u a l = own_of a (events_of l) (own (hart (initial u) a))

-- what the word held as it was loaded in this section, with no store of the reference machine since
abbrev pub known_word : (at : ℕ) → Log → Option ℕ
known_word at [] = None
known_word at (made s ∷ l) = known_word_next at (name_of s.word) s.op s.word s.answer (known_word at l)
known_word at (did e ∷ l) = if is_some (entry_stored e) then None else known_word at l

-- the event prints, or gives a reason
abbrev pub ends_call : Event → Bool
ends_call e = is_some (did_of e).reason || are_some (did_of e).bytes

-- the console places drawn for an event that isn't there yet, the last first, and the bytes stored for it, in order
abbrev pub places : Log → List ℕ
places [] = []
places (made s ∷ l) = drawn_next (name_of s.word) s.op s.answer (places l)
places (did e ∷ l) = if ends_call e then [] else places l

abbrev pub bytes : Log → List ℕ
bytes [] = []
bytes (made s ∷ l) = stored_next (name_of s.word) s.op s.arg (places l) (bytes l)
bytes (did e ∷ l) = if ends_call e then [] else bytes l

-- since the actor's hart was found pending it loaded this in the word
abbrev pub handed_on : ℕ → Word → Log → Option ℕ
handed_on a w [] = None
handed_on a w (made s ∷ l) = handed_on_next a w (name_of s.word) s.op s.answer (handed_on a w l)
handed_on a w (did e ∷ l) = handed_on a w l

-- it waits as the step is made, and the step doesn't end that
abbrev pub still_waiting_next : ℕ → Word → WordOp → Bool → Bool
still_waiting_next a (Hsm t) Store b = if a == t then false else b
still_waiting_next a _ _ b = b

abbrev pub is_still_waiting : ℕ → Log → Bool
is_still_waiting a [] = false
is_still_waiting a (made s ∷ l) = still_waiting_next a (name_of s.word) s.op (is_waiting (taking a (steps_of l)))
is_still_waiting a (did e ∷ l) = is_still_waiting a l

-- and while it waits it flushed everything
abbrev pub has_flushed_all : ℕ → Log → Bool
has_flushed_all a [] = false
has_flushed_all a (made s ∷ l) = flushed_all_next a (name_of s.word) s.op false (has_flushed_all a l)
has_flushed_all a (did e ∷ l) = has_flushed_all a l || (is_still_waiting a l && flushes a Full e)

-- an AllStopped stands since the actor's last step that takes one from LIVE
abbrev pub HasSaid : Log → Type 0
HasSaid [] = ⊥
HasSaid (made s ∷ l) = (IsUncount (name_of s.word) s.op s.arg → ⊥) × HasSaid l
HasSaid (did e ∷ l) = IsTrue (says_all_stopped e) ⊎ HasSaid l
