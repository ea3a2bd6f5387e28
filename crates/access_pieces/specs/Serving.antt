-- What an access comes to in its hart's log of steps and events.
use Rattle.std.specs.Prelude.{◌≡◌, ℕ, ◌==◌, Bool, true, false, IsSome, List, None}
use Rattle.std.specs.List.{list_any}
use Rattle.rv64_priv.specs.State.{Arch}
use Rattle.rv64_priv.specs.Csr.{regime}
use Rattle.rv64_priv.specs.declared.state.Regime.{Regime}
use Rattle.rv64_exec.specs.declared.needs.Need.{Need}
use Rattle.rv64_exec.specs.declared.needs.Answer.{Answer}
use Rattle.rv64_priv.specs.Walk.{Walked}
use Rattle.machine_model.specs.Event.{GiveUp, only}
use Rattle.machine_model.specs.Own.{Own, own_executed}
use Rattle.machine_model.specs.Run.{counts, last_of, passes}
use Rattle.machine_model.specs.State.{Setup}
use Rattle.machine_model.specs.Walks.{access_of, need_held}
use Rattle.guest_ram.specs.Ports.{Shown}
use Rattle.tlb_entry.specs.declared.books.Book.{Book}
use Rattle.kept_fills.specs.Fills.{Fill, GoesWithFills}
use Rattle.turn_pieces.specs.Log.{Log, events_of}
use Rattle.turn_pieces.specs.KeptWalks.{flushes_in}
use Rattle.turn_pieces.specs.Marks.{is_awaited, own_pages}
use Rattle.turn_pieces.specs.Right.{SeenMade}
use Rattle.turn_pieces.specs.Owed.{nothing, owed}
use Rattle.turn_pieces.specs.Grows.{Part}
use Rattle.turn_pieces.specs.Writers as writers
use Rattle.guest_access.specs.declared.outcomes.Got.{Got}
use Rattle.guest_access.specs.declared.outcomes.Got.TheVariants as gets

-- what logs see of a port
abbrev pub view : Shown → writers.Shown
view p = record { layout = p.machine.layout; actor = p.own.actor; steps = p.own.steps }

-- the log tells of the port and makes this of its hart, nothing is open in it, and the book goes with it by some fills
pub record Tells (o : Own) (p : Shown) (b : Book) (r : Regime) (u : Setup) (a : ℕ) (l : Log) : Type 0 where
  pub tells : writers.Tells o (view p) u a l
  pub fills : List Fill
  pub goes : GoesWithFills p b r (flushes_in a l) fills

-- the hart holds a word with this need
pub record Wants (o : Own) (c : Arch) (need : Need) : Type 0 where
  pub arch_is : o.arch ≡ c
  pub holds : IsSome o.held
  pub need_is : need_held o.arch o.held ≡ need

-- each page that the actor marked, these apart, was given by a store walk of an event behind the mark
abbrev pub AwaitsAtMost : (others : ℕ → Bool) → Setup → ℕ → Log → Type 0
AwaitsAtMost others u a l = (page : ℕ) → others page ≡ false → is_awaited u a page l ≡ false

-- the log tells of the port, and no mark but of these pages waits for its store
pub record Settles (others : ℕ → Bool) (o : Own) (p : Shown) (b : Book) (r : Regime) (u : Setup) (a : ℕ) (l : Log) : Type 0 where
  pub tells : Tells o p b r u a l
  pub settled : AwaitsAtMost others u a l

-- nor does the log's last step owe an event, as a load's doesn't
pub record Rests (others : ℕ → Bool) (o : Own) (p : Shown) (b : Book) (r : Regime) (u : Setup) (a : ℕ) (l : Log) : Type 0 where
  pub tells : Tells o p b r u a l
  pub idle : owed l ≡ nothing
  pub settled : AwaitsAtMost others u a l

-- the log settles, and the hart's last event in it counts an instruction: so the hart is to stop exactly where its count came to the limit
pub record Counted (others : ℕ → Bool) (o : Own) (p : Shown) (b : Book) (r : Regime) (u : Setup) (a : ℕ) (l : Log) : Type 0 where
  pub settles : Settles others o p b r u a l
  pub counts : passes counts (last_of a (events_of l)) ≡ true

-- the hart behind an instruction that was given up: it holds its word no longer
abbrev pub given_up : Own → Own
given_up o = record o { held = None }

-- The instruction may be given up: the log shows the walks that were made, and besides those pages only what they lead to waits for a store
pub record MayGiveUp (others : ℕ → Bool) (o : Own) (p : Shown) (b : Book) (r : Regime) (u : Setup) (a : ℕ) (l : Log) : Type 0 where
  pub tells : Tells o p b r u a l
  pub idle : owed l ≡ nothing
  pub walks : List Walked
  pub shown : SeenMade u.layout.pages a o.arch (access_of (need_held o.arch o.held)) walks l
  pub settled : (page : ℕ) → others page ≡ false → list_any (λ given. given == page) (own_pages o (GiveUp a walks)) ≡ false → is_awaited u a page l ≡ false

-- the instruction was executed with this answer, and the hart's last event counts one; or it is as it was and may be given up
abbrev pub Served : (others : ℕ → Bool) → Own → Got → Shown → Book → Regime → Setup → ℕ → Log → Type 0
Served others o (gets.Done answer) q b r u a l = Counted others (own_executed (only answer) o) q b r u a l
Served others o (gets.Fault cause tval) q b r u a l = Counted others (own_executed (only (Answer.Fault cause tval)) o) q b r u a l
Served others o got q b r u a l = MayGiveUp others o q b r u a l

-- each log that tells of the port before, and rests, goes on by steps that may be made and events that are right to one that tells of the port
-- behind: with the execution of the need where the access came to its answer, and else with the walks by which it may be given up. The pages
-- that it marked are the event's, whichever waited before
abbrev pub ServesBut : (others : ℕ → Bool) (p q : Shown) (b b' : Book) → Arch → Need → Got → Type 0
ServesBut others p q b b' c need got = (o : Own) → Wants o c need → Part (Rests others o p b (regime c)) (Served others o got q b' (regime c))

abbrev pub Serves : (p q : Shown) (b b' : Book) → Arch → Need → Got → Type 0
Serves p q b b' c need got = (others : ℕ → Bool) → ServesBut others p q b b' c need got
