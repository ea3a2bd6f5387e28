-- What a translation is to its hart's log of steps and events.
use Rattle.std.specs.Prelude.{◌≡◌, ℕ, ◌==◌, false, if◌then◌else◌, List, [], ◌++◌}
use Rattle.std.specs.List.{list_any}
use Rattle.rv64_priv.specs.State.{Arch}
use Rattle.rv64_priv.specs.Csr.{regime}
use Rattle.rv64_priv.specs.Walk.{Walked}
use Rattle.rv64_priv.specs.declared.state.Kind.{Kind}
use Rattle.step_laws.specs.declared.steps.Step.{Step}
use Rattle.machine_model.specs.Access.{Spot, AtRam, AtDevice, Faults, spot_of}
use Rattle.machine_model.specs.Own.{Own}
use Rattle.machine_model.specs.State.{Setup}
use Rattle.machine_model.specs.Stores.{is_store, page_at}
use Rattle.guest_ram.specs.Ports.{Shown}
use Rattle.tlb_entry.specs.declared.books.Book.{Book}
use Rattle.tlb_fill.specs.declared.translation.Translated.{Translated}
use Rattle.tlb_fill.specs.declared.translation.Translated.TheVariants as gives
use Rattle.turn_pieces.specs.Grows.{Grows}
use Rattle.turn_pieces.specs.Log.{Log}
use Rattle.turn_pieces.specs.Marks.{is_awaited}
use Rattle.turn_pieces.specs.Owed.{nothing, owed}
use Rattle.turn_pieces.specs.Right.{IsSeen}
use Rattle.turn_pieces.specs.Writers.{quietly}
use Rattle.access_pieces.specs.Serving.{Tells}

-- where a translation's answer leads
abbrev pub spot : Translated → Spot
spot (gives.Ram pa) = AtRam pa
spot (gives.Device pa) = AtDevice pa
spot (gives.Fault cause tval) = Faults cause tval
spot (gives.Busy busy) = Faults 0 0

-- the lock was not held
abbrev pub IsLed : Translated → Type 0
IsLed (gives.Busy busy) = ⊥
IsLed t = Unit {0}

-- the log shows a walk that leads there, and that may still be used
pub record LeadsTo (pages h : ℕ) (c : Arch) (kind : Kind) (va : ℕ) (s : Spot) (l : Log) : Type 0 where
  pub walk : Walked
  pub seen : IsSeen pages h c kind va walk l
  pub spot_is : spot_of kind va walk ≡ s

-- A log goes on by the steps of a translation alone, none of which owes an event, to one that tells of the port behind; where the lock was not
-- held it shows a walk that leads to where the answer does. It marks no page but the one to which a store is led
pub record Led (o : Own) (p m : Shown) (b' : Book) (c : Arch) (kind : Kind) (va : ℕ) (t : Translated) (u : Setup) (a : ℕ) (l : Log) : Type 0 where
  pub added : List Step
  pub steps_are : m.own.steps ≡ added ++ p.own.steps
  pub grows : Grows u a l (quietly added l)
  pub tells : Tells o m b' (regime c) u a (quietly added l)
  pub clear : owed (quietly added l) ≡ nothing
  pub marks : (page : ℕ) → list_any (λ given. given == page) (if is_store kind then page_at (spot t) else []) ≡ false → is_awaited u a page (quietly added l) ≡ is_awaited u a page l
  pub leads_to : IsLed t → LeadsTo u.layout.pages a c kind va (spot t) (quietly added l)
