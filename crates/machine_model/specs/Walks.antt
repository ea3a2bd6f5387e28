-- The walks that a fetch and an instruction make.
use Rattle.std.specs.Prelude.{ℕ, Bool, if◌then◌else◌, Option, Some, None}
use Rattle.rv64_priv.specs.State.{Arch}
use Rattle.rv64_priv.specs.declared.state.Kind.{Kind}
use Rattle.rv64_priv.specs.Csr.{regime}
use Rattle.rv64_priv.specs.Walk.{Levels, Walked, walk_of}
use Rattle.rv64_exec.specs.declared.needs.Need.{Need}
use Rattle.rv64_exec.specs.Plan.{need_of_code}
use Rattle.rv64_exec.specs.Code.{Code}
use Rattle.step_laws.specs.Words.{ram_word}
use Rattle.machine_model.specs.Memory.{Memory}
use Rattle.machine_model.specs.State.{State, hart}
use Rattle.machine_model.specs.Perform.{width_of, is_misaligned}

-- memory as a walk finds it whose read at each level is made of that level's memory
abbrev pub levels_of : (ℕ → Memory) → Levels
levels_of memories = λ level pa. memories level (ram_word pa)

-- how the walk of these reads ends, under the hart's present regime
abbrev pub walked : (pages : ℕ) → Arch → Kind → (va : ℕ) → (ℕ → Memory) → Walked
walked pages a kind va memories = walk_of pages (regime a) kind (levels_of memories) va

-- an access that a need makes by translated addresses
pub record Wanted : Type 0 where
  pub kind : Kind
  pub va : ℕ
  pub width : ℕ

abbrev pub wanted : Kind → ℕ → ℕ → Option Wanted
wanted kind va width = Some (record { kind = kind; va = va; width = width })

abbrev pub wanted_aligned : Kind → ℕ → Bool → Option Wanted
wanted_aligned kind va wide = if is_misaligned wide va then None else wanted kind va (width_of wide)

abbrev pub access_of : Need → Option Wanted
access_of (Need.Load va width sign) = wanted Kind.Load va width
access_of (Need.Store va width value) = wanted Kind.Store va width
access_of (Need.Amo va op wide value) = wanted_aligned Kind.Store va wide
access_of (Need.Lr va wide) = wanted_aligned Kind.Load va wide
access_of (Need.Sc va wide value) = wanted_aligned Kind.Store va wide
access_of _ = None

-- the need of the word that the hart holds
abbrev pub need_held : Arch → Option Code → Need
need_held a None = Need.Nothing
need_held a (Some code) = need_of_code a code

abbrev pub need : State → ℕ → Need
need s h = need_held (hart s h).arch (hart s h).held
