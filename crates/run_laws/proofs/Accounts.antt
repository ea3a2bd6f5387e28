-- What the events at a step say of the step's word: each step on a word that the reference machine has too belongs to an event.
use Rattle.std.specs.Prelude.{◌≡◌, ◌≢◌, ◌≤◌, ◌<◌, ℕ, suc, ◌+◌, ◌-◌, true, false, List, [], ◌∷◌, ◌++◌, length, Some, None}
use Rattle.step_laws.specs.declared.steps.WordOp.{WordOp}
use Rattle.step_laws.specs.declared.steps.WordOp.TheVariants.{Load, Store, Add, Exchange}
use Rattle.step_laws.specs.Steps.{new_of}
use Rattle.step_laws.specs.Map.{Word, Pend, Run, Stop, Cons, Hsm, Start, Opaque, Console, Ram}
use Rattle.step_laws.specs.Sections.{IsInSection}
use Rattle.machine_model.specs.declared.reason.Reason.{Reason}
use Rattle.machine_model.specs.Memory.{write_of}
use Rattle.machine_model.specs.Event.{Event, Start as Begin}
use Rattle.machine_model.specs.State.{Setup}
use Rattle.step_laws.specs.Words.{console_places}
use Rattle.run_laws.proofs.Placed.{Placed, steps, run_of}
use Rattle.run_laws.proofs.Kept.{whole, part, half, drawn, stored_bytes, unstored}
use Rattle.turn_pieces.specs.Shared.{IsShared}
use Rattle.turn_pieces.specs.Doing.{HasDone, AreFollowing, HasRoom, IsCutShort, IsCalm, IsQuiet, is_begin, last_start}
use Rattle.machine_model.specs.ReasonWords.{reason_word as reason_number}

abbrev pub AreQuiet : List Event → Type 0
AreQuiet [] = Unit {0}
AreQuiet (e ∷ es) = IsQuiet e × AreQuiet es

-- the words by which an actor enters and leaves
abbrev pub IsSectional : Word → Type 0
IsSectional (Run b) = Unit {0}
IsSectional Pend = Unit {0}
IsSectional _ = ⊥

-- an operation that writes its word, whatever it leaves there
abbrev pub IsWrite : WordOp → (answer : ℕ) → Type 0
IsWrite Load answer = ⊥
IsWrite (Exchange old) answer = old ≡ answer
IsWrite _ answer = Unit {0}

-- by kind of step, with what stands on top of the record r; n is the word's number
pub data Accounts (u : Setup) (a : ℕ) (r : List Placed) (n : ℕ) : Word → WordOp → (arg answer : ℕ) → List Event → Type 0 where
  -- nothing that the reference machine has is changed
  calm : {w : Word} {op : WordOp} {arg answer : ℕ} {es : List Event} → half r ≡ whole → IsCalm w op answer → (IsSectional w → drawn r ≡ []) → AreQuiet es → Accounts u a r n w op arg answer es
  -- one word of memory is written, and is the entry of one event
  writes : {w : Word} {op : WordOp} {arg answer : ℕ} {e : Event} {es : List Event} → half r ≡ whole → IsShared w → IsWrite op answer
      → HasDone e (Some (write_of n (new_of op answer arg) ∷ [])) [] None None false → is_begin e ≡ false → AreQuiet es → Accounts u a r n w op arg answer (e ∷ es)
  -- of a crossing store, in section: the first word, and the second, which is the event's step
  writes_half : {i arg answer : ℕ} → half r ≡ whole → IsInSection u.layout a (steps r) → Accounts u a r n (Ram i) Store arg answer []
  writes_rest : {i arg answer : ℕ} {e : Event} {es : List Event} (m v : ℕ) → half r ≡ part m v → m ≢ n
      → HasDone e (Some (write_of m v ∷ write_of n arg ∷ [])) [] None None false → is_begin e ≡ false → AreQuiet es → Accounts u a r n (Ram i) Store arg answer (e ∷ es)
  -- a console byte: its place is drawn, and then stored
  draws : {answer : ℕ} {e : Event} {es : List Event} (byte : ℕ) → half r ≡ whole → drawn r ≡ [] → answer < console_places → unstored r ≡ None
      → HasDone e None (byte ∷ []) None None false → is_begin e ≡ false → AreQuiet es → Accounts u a r n Cons Add 1 answer (e ∷ es)
  fills : {i arg answer : ℕ} {es : List Event} (byte : ℕ) → half r ≡ whole → unstored r ≡ Some (record { place = i; byte = byte }) → arg ≡ byte + 256 → drawn r ≡ []
      → AreQuiet es → Accounts u a r n (Console i) Store arg answer es
  -- a place that isn't there
  draws_none : {answer : ℕ} {es : List Event} → half r ≡ whole → console_places ≤ answer → AreQuiet es → Accounts u a r n Cons Add 1 answer es
  -- the bytes of a call, in section, whose event stands at the last one's place
  draws_more : {answer : ℕ} {es : List Event} → half r ≡ whole → IsInSection u.layout a (steps r) → AreQuiet es → Accounts u a r n Cons Add 1 answer es
  fills_more : {i arg answer : ℕ} {ds : List ℕ} {es : List Event} → half r ≡ whole → IsInSection u.layout a (steps r) → drawn r ≡ i ∷ ds → 256 ≤ arg
      → suc (length (stored_bytes r)) ≡ length (drawn r) → unstored r ≡ None → AreQuiet es → Accounts u a r n (Console i) Store arg answer es
  fills_last : {i arg answer : ℕ} {ds : List ℕ} {e : Event} {es : List Event} → half r ≡ whole → IsInSection u.layout a (steps r) → drawn r ≡ i ∷ ds → 256 ≤ arg → unstored r ≡ None
      → (AreFollowing (drawn r) → HasRoom (drawn r)) → suc (length (stored_bytes r)) ≡ length (drawn r)
      → HasDone e None (stored_bytes r ++ (arg - 256) ∷ []) None None false → is_begin e ≡ false → AreQuiet es → Accounts u a r n (Console i) Store arg answer (e ∷ es)
  -- a reason is given
  ends : {reason : Reason} {answer : ℕ} {e : Event} {es : List Event} (bytes : List ℕ) → half r ≡ whole
      → HasDone e None bytes (Some reason) None false → bytes ≡ stored_bytes r → (AreFollowing (drawn r) → IsCutShort (drawn r) bytes) → is_begin e ≡ false → AreQuiet es
      → Accounts u a r n Stop (Exchange 0) (reason_number reason) answer (e ∷ es)
  -- a hart is taken that is stopped, and given its start
  takes : {t : ℕ} {e : Event} {es : List Event} (at opaque : ℕ) → half r ≡ whole
      → HasDone e None [] None (Some (record { target = t; at = at; opaque = opaque })) false → is_begin e ≡ false → AreQuiet es
      → Accounts u a r n (Hsm t) (Exchange 1) 3 1 (e ∷ es)
  gives_start : {t arg answer : ℕ} {es : List Event} (opaque : ℕ) → half r ≡ whole → last_start (run_of r) ≡ Some (record { target = t; at = arg; opaque = opaque })
      → AreQuiet es → Accounts u a r n (Start t) Store arg answer es
  gives_opaque : {t arg answer : ℕ} {es : List Event} (at : ℕ) → half r ≡ whole → last_start (run_of r) ≡ Some (record { target = t; at = at; opaque = arg })
      → AreQuiet es → Accounts u a r n (Opaque t) Store arg answer es
  lets : {t answer : ℕ} {es : List Event} → half r ≡ whole → AreQuiet es → Accounts u a r n (Hsm t) Store 2 answer es
  -- the own hart begins, and stops
  begins_here : {answer at opaque : ℕ} {es : List Event} → half r ≡ whole → AreQuiet es → Accounts u a r n (Hsm a) Store 0 answer (Begin a at opaque ∷ es)
  leaves_here : {answer : ℕ} {e : Event} {es : List Event} → half r ≡ whole → HasDone e None [] None None true → is_begin e ≡ false → AreQuiet es
      → Accounts u a r n (Hsm a) Store 1 answer (e ∷ es)
