-- What each event changes: its hart, by what the event carries, and the rest by what it did.
use Rattle.std.specs.Prelude.{ℕ, ◌+◌, Bool, true, false, if◌then◌else◌, List, [], ◌∷◌, ◌++◌, drop, Option, Some, None, option_to_list, slice_set}
use Rattle.rv64_priv.specs.State.{Arch}
use Rattle.rv64_priv.specs.declared.state.Kind.{Kind}
use Rattle.rv64_priv.specs.Trap.{trapped, software_interrupt}
use Rattle.rv64_exec.specs.Code.{Code}
use Rattle.rv64_exec.specs.declared.needs.Answer.{Answer}
use Rattle.rv64_exec.specs.Finish.{effect_of, set_reg}
use Rattle.machine_model.specs.declared.reason.Reason.{Reason}
use Rattle.machine_model.specs.Event.{Event, Outcome, Starting, Fetch, Exec, GiveUp, Interrupt, Start, Await, SnapEnd, Dump, actor_of, did_of, entry_stored}
use Rattle.machine_model.specs.declared.mode.Mode.TheVariants.{Started, Halted, Pending}
use Rattle.machine_model.specs.State.{State, Hart, nth, reset, is_started}
use Rattle.machine_model.specs.Access.{Spot, Faults, spot_of}

-- one more instruction is counted
abbrev pub counted : Hart → Hart
counted t = record t { count = t.count + 1 }

-- a Fetch: the hart holds the word, or traps
abbrev pub fetched : Code → Hart → Spot → Hart
fetched code t (Faults cause tval) = record (counted t) { arch = trapped t.arch cause tval }
fetched code t _ = record t { held = Some code }

-- an Exec: the instruction's effect
abbrev pub effect_held : Arch → Option Code → Answer → Arch
effect_held a None answer = a
effect_held a (Some code) answer = effect_of a code answer

unfoldable pub executed : Outcome → Hart → Hart
executed o t = record (counted t) { arch = effect_held t.arch t.held o.answer; held = None; mode = if o.stops then Halted else t.mode }

-- a started hart begins at its address with its number and the opaque value
abbrev pub begun_arch : (h at opaque : ℕ) → Arch
begun_arch h at opaque = set_reg (set_reg (reset at) 10 h) 11 opaque

abbrev pub begun : (h at opaque : ℕ) → Hart → Hart
begun h at opaque t = record t { arch = begun_arch h at opaque; mode = Started }

-- what an event makes of its hart
abbrev pub part_next : Event → Hart → Hart
part_next (Fetch h walk code) t = fetched code t (spot_of Kind.Fetch t.arch.pc walk)
part_next (Exec h walk second did) t = executed did t
part_next (GiveUp h walks) t = record t { held = None }
part_next (Interrupt h) t = record t { arch = trapped t.arch software_interrupt 0 }
part_next (Start h at opaque) t = begun h at opaque t
part_next _ t = t

-- the event changes its hart
abbrev pub has_part : Event → Bool
has_part (Fetch h walk code) = true
has_part (Exec h walk second did) = true
has_part (GiveUp h walks) = true
has_part (Interrupt h) = true
has_part (Start h at opaque) = true
has_part _ = false

-- A hart's start is pending. No run starts a hart that runs; it would go on running, so what is its own stays its own.
abbrev pub awaited : Starting → Hart → Hart
awaited g t = record t { mode = if is_started t.mode then Started else Pending; start = g.at; opaque = g.opaque }

abbrev pub with_start : List Hart → Option Starting → List Hart
with_start harts None = harts
with_start harts (Some g) = slice_set harts g.target (awaited g (nth harts g.target))

abbrev pub harts_next : Event → List Hart → List Hart
harts_next e harts =
    with_start (if has_part e then slice_set harts (actor_of e) (part_next e (nth harts (actor_of e))) else harts) (did_of e).starts

-- bytes go behind the output
abbrev pub printed : List ℕ → List ℕ → List ℕ
printed output [] = output
printed output (b ∷ bs) = output ++ b ∷ bs

-- the first reason stays
abbrev pub first_reason : Option Reason → Option Reason → Option Reason
first_reason old None = old
first_reason None (Some new) = Some new
first_reason (Some old) (Some new) = Some old

-- the script goes on
abbrev pub ends_line : Event → Bool
ends_line (Await n) = true
ends_line (SnapEnd pages) = true
ends_line (Dump at bytes) = true
ends_line _ = false

-- the state after an event
abbrev pub state_after : Event → State → State
state_after e s = record {
  entries = option_to_list (entry_stored e) ++ s.entries;
  harts = harts_next e s.harts;
  output = printed s.output (did_of e).bytes;
  reason = first_reason s.reason (did_of e).reason;
  script = if ends_line e then drop 1 s.script else s.script;
}
