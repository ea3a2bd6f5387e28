-- Laws of served requests: what they are to their hart's log.
use Rattle.std.specs.Prelude.{ℕ, Bool}
use Rattle.rv64_priv.specs.declared.state.Regime.{Regime}
use Rattle.machine_model.specs.Own.{Own}
use Rattle.machine_model.specs.State.{Setup}
use Rattle.guest_ram.specs.Ports.{Shown}
use Rattle.tlb_entry.specs.declared.books.Book.{Book}
use Rattle.kept_fills.specs.Beside.{IsBeside}
use Rattle.work_queue.specs.declared.rings.Served.{Served}
use Rattle.work_queue.specs.Acks.{HasFoundNone}
use Rattle.turn_pieces.specs.Log.{Log}
use Rattle.request_serving.specs.Served.{HasFoundHeld, HasGone, HasServed, HasStopped}
use Rattle.serving_pieces.specs.Serving.{EndsWith, IsAtRest, IsPassedIn, IsServedIn, flushes_of_round}

-- a served request is in each log that told of the port before
abbrev pub RequestsAreServed : Type 0
RequestsAreServed = (source : ℕ) (s s' : Served) (p q : Shown) (b b' : Book) (r : Regime) → IsBeside b p → (x : HasServed source s s' p q b b')
    → (others : ℕ → Bool) (o : Own) (u : Setup) (a : ℕ) (l : Log) → IsAtRest others o p b r u a l → IsServedIn others o p q b b' r x.request u a l

-- a load that found no request is in it too, and nothing more
abbrev pub IdleRests : Type 0
IdleRests = (source place : ℕ) (p q : Shown) (b : Book) (r : Regime) → HasFoundNone source place p q → (others : ℕ → Bool) (o : Own) (u : Setup) (a : ℕ) (l : Log) → IsAtRest others o p b r u a l
    → IsPassedIn others o p q b r u a l

-- so is one whose request waits, since the lock was found held
abbrev pub HeldRests : Type 0
HeldRests = (source place holder : ℕ) (p q : Shown) (b b' : Book) (r : Regime) → HasFoundHeld source place holder p q b b' → (others : ℕ → Bool) (o : Own) (u : Setup) (a : ℕ) (l : Log) → IsAtRest others o p b r u a l
    → IsPassedIn others o p q b' r u a l

-- a round of the sources below a number, with the flushes of those that were served
abbrev pub RoundsRest : Type 0
RoundsRest = (n : ℕ) (s t : Served) (p q : Shown) (b c : Book) (any : Bool) (r : Regime) → IsBeside b p → (x : HasGone s p b n t q c any)
    → (others : ℕ → Bool) (o : Own) (u : Setup) (a : ℕ) (l : Log) → IsAtRest others o p b r u a l → EndsWith (flushes_of_round x a) others o q c r u a l

-- and one that stopped at a held lock
abbrev pub StopsRest : Type 0
StopsRest = (s t : Served) (holder : ℕ) (p q : Shown) (b c : Book) (r : Regime) → IsBeside b p → (x : HasStopped s t holder p q b c)
    → (others : ℕ → Bool) (o : Own) (u : Setup) (a : ℕ) (l : Log) → IsAtRest others o p b r u a l → EndsWith (flushes_of_round x.gone a) others o q c r u a l
