-- What a hart's own events alone change of it, so that they tell it whatever other harts do.
use Rattle.std.specs.Prelude.{ℕ, ◌+◌, Bool, true, false, ◌==◌, if◌then◌else◌, List, [], ◌∷◌, Option, Some, None}
use Rattle.rv64_priv.specs.State.{Arch}
use Rattle.rv64_priv.specs.declared.state.Kind.{Kind}
use Rattle.rv64_priv.specs.Trap.{trapped, software_interrupt}
use Rattle.rv64_exec.specs.Code.{Code}
use Rattle.machine_model.specs.Event.{Event, Outcome, Fetch, Exec, GiveUp, Interrupt, Start, actor_of}
use Rattle.machine_model.specs.State.{Hart, is_started}
use Rattle.machine_model.specs.Access.{Spot, Faults, spot_of}
use Rattle.machine_model.specs.Change.{effect_held, begun_arch}

-- That a hart's start is pending, and where it begins, is another's doing: by its own events it runs or doesn't.
pub record Own : Type 0 where
  pub arch : Arch
  pub held : Option Code
  pub count : ℕ
  pub runs : Bool

abbrev pub own : Hart → Own
own t = record { arch = t.arch; held = t.held; count = t.count; runs = is_started t.mode }

abbrev pub own_fetched : Code → Own → Spot → Own
own_fetched code o (Faults cause tval) = record o { arch = trapped o.arch cause tval; count = o.count + 1 }
own_fetched code o _ = record o { held = Some code }

unfoldable pub own_executed : Outcome → Own → Own
own_executed d o = record { arch = effect_held o.arch o.held d.answer; held = None; count = o.count + 1; runs = if d.stops then false else o.runs }

-- what an event of the hart makes of it
abbrev pub own_next : Event → Own → Own
own_next (Fetch h walk code) o = own_fetched code o (spot_of Kind.Fetch o.arch.pc walk)
own_next (Exec h walk second did) o = own_executed did o
own_next (GiveUp h walks) o = record o { held = None }
own_next (Interrupt h) o = record o { arch = trapped o.arch software_interrupt 0 }
own_next (Start h at opaque) o = record o { arch = begun_arch h at opaque; runs = true }
own_next _ o = o

-- what its own events among these make of a hart
abbrev pub own_of : ℕ → List Event → Own → Own
own_of h [] o = o
own_of h (e ∷ run) o = if actor_of e == h then own_next e (own_of h run o) else own_of h run o
