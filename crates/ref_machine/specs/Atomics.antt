-- Where atomic accesses lead, as the machine on one thread finds it.
use Rattle.std.specs.Prelude.{ℕ, ◌+◌, ◌*◌, ◌%◌, ◌^◌, ◌≤◌, ◌<◌, Bool, if◌then◌else◌, Result, Ok, Err}
use Rattle.rv64_priv.specs.State.{Arch}
use Rattle.rv64_priv.specs.declared.state.Kind.{Kind}
use Rattle.rv64_priv.specs.Trap.{access_fault}
use Rattle.step_laws.specs.Words.{ram_word}
use Rattle.ref_machine.specs.declared.translation.Fault.{Fault as TheFault}
use Rattle.machine_model.specs.Memory.{Span, One}
use Rattle.machine_model.specs.Access.{Reach, InRam, OnDevice, Unreached}
use Rattle.machine_model.specs.Perform.{width_of, is_misaligned}
use Rattle.ref_machine.specs.SharedState.{Shared}
use Rattle.ref_machine.specs.OneTurn.{reach_of}

-- the cause of a misaligned address (Privileged Architecture, "Supervisor Cause (scause) Register")
abbrev pub misaligned : Kind → ℕ
misaligned Kind.Fetch = 0
misaligned Kind.Load = 4
misaligned Kind.Store = 6

-- no device takes an atomic access
abbrev pub ram_alone : Kind → (va : ℕ) → Reach → Reach
ram_alone kind va (InRam span) = InRam span
ram_alone kind va (OnDevice pa) = Unreached (access_fault kind) va
ram_alone kind va (Unreached cause tval) = Unreached cause tval

-- a misaligned one faults before its page is looked for
abbrev pub atomic_reach : Arch → Shared → Kind → (va : ℕ) → Bool → Reach
atomic_reach a b kind va wide = if is_misaligned wide va then Unreached (misaligned kind) va else ram_alone kind va (reach_of a b kind va (width_of wide))

-- bytes within a word of RAM, by their physical address
abbrev pub span_at : Bool → (pa : ℕ) → Span
span_at wide pa = One (ram_word pa) (pa % 8) (width_of wide)

-- where an access leads that was found to lie there, or to fault
abbrev pub atomic_reached : Bool → Result ℕ TheFault → Reach
atomic_reached wide (Ok pa) = InRam (span_at wide pa)
atomic_reached wide (Err fault) = Unreached fault.cause fault.tval

-- it lies within one word of RAM
abbrev pub IsWithin : (words : ℕ) → Bool → (pa : ℕ) → Type 0
IsWithin words wide pa = (2 ^ 31 ≤ pa) × (pa < 2 ^ 31 + 8 * words) × (pa % 8 + width_of wide ≤ 8)
