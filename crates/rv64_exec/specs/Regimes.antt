-- What an instruction leaves of that on which translations depend.
use Rattle.std.specs.Prelude.{◌≡◌, ◌≢◌}
use Rattle.rv64_decode.specs.declared.instruction.Instr.{Instr}
use Rattle.rv64_priv.specs.State.{Arch}
use Rattle.rv64_priv.specs.Fields.{sum_of, mxr_of}
use Rattle.rv64_exec.specs.declared.needs.FlushOf.{FlushOf}
use Rattle.rv64_exec.specs.declared.needs.Need.{Need}
use Rattle.rv64_exec.specs.declared.needs.Answer.{Answer}
use Rattle.rv64_exec.specs.Plan.{need_of}
use Rattle.rv64_exec.specs.Finish.{after}

-- Unless an instruction needs a full flush, it leaves what translations depend on besides the mode.
pub record KeepsRegime (a b : Arch) : Type 0 where
  pub satp : b.satp ≡ a.satp
  pub sum : sum_of b.sstatus ≡ sum_of a.sstatus
  pub mxr : mxr_of b.sstatus ≡ mxr_of a.sstatus

abbrev pub RegimeStays : Type 0
RegimeStays = (a : Arch) (i : Instr) (ans : Answer) → need_of a i ≢ Need.Flush FlushOf.All → KeepsRegime a (after a i ans)
