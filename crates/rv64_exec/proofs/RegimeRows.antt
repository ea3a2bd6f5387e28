-- Writes of sstatus and satp computed: which need a full flush, and what they leave.
use Rattle.std.proofs.Common.{◌≡◌, refl, ℕ, ◌∷◌, ◌++◌, replicate, None, false}
use Rattle.rv64_decode.specs.declared.instruction.Instr.TheVariants.{Csrrw, Csrrs, Csrrc}
use Rattle.rv64_priv.specs.State.{Arch}
use Rattle.rv64_priv.specs.Fields.{sum_of}
use Rattle.rv64_exec.specs.declared.needs.FlushOf.{FlushOf}
use Rattle.rv64_exec.specs.declared.needs.Need.{Need}
use Rattle.rv64_exec.specs.declared.needs.Answer.{Answer}
use Rattle.rv64_exec.specs.Plan.{need_of}
use Rattle.rv64_exec.specs.Finish.{after, done}

-- a hart in supervisor mode with this value in x5, and with these sstatus and satp
abbrev with_x5 : (x5 sstatus satp : ℕ) → Arch
with_x5 x5 sstatus satp = record {
  x = replicate 5 0 ++ (x5 ∷ replicate 26 0);
  pc = 0x80000000;
  user = false;
  sstatus = sstatus;
  sie = 0;
  stvec = 0;
  sscratch = 0;
  sepc = 0;
  scause = 0;
  stval = 0;
  satp = satp;
  hold = None;
}

-- satp with MODE 8, Sv39
abbrev sv39 : ℕ
sv39 = 0x8000000000080010

-- CSRRC x0, sstatus, x5 of SUM, where SUM is set
abbrev clearing_sum : Arch
clearing_sum = with_x5 0x40000 0x40000 sv39

clearing_needs : need_of clearing_sum (Csrrc 0 5 0x100) ≡ Need.Flush FlushOf.All
unfolding need_of
clearing_needs = refl

cleared : sum_of ((after clearing_sum (Csrrc 0 5 0x100) Answer.Nothing).sstatus) ≡ false
unfolding done
cleared = refl

-- CSRRS x0, sstatus, x5 of SIE and SUM, where SUM is set
abbrev setting_sie : Arch
setting_sie = with_x5 0x40002 0x40000 sv39

setting_needs : need_of setting_sie (Csrrs 0 5 0x100) ≡ Need.Nothing
unfolding need_of
setting_needs = refl

set : (after setting_sie (Csrrs 0 5 0x100) Answer.Nothing).sstatus ≡ 0x40002
unfolding done
set = refl

-- CSRRW x0, satp, x5 of the value that satp has
same_satp : need_of (with_x5 sv39 0 sv39) (Csrrw 0 5 0x180) ≡ Need.Flush FlushOf.All
unfolding need_of
same_satp = refl

-- CSRRW x0, satp, x5 of a value with MODE 1
abbrev other_mode : Arch
other_mode = with_x5 0x1000000000080010 0 sv39

other_mode_needs : need_of other_mode (Csrrw 0 5 0x180) ≡ Need.Nothing
unfolding need_of
other_mode_needs = refl

other_mode_left : (after other_mode (Csrrw 0 5 0x180) Answer.Nothing).satp ≡ sv39
unfolding done
other_mode_left = refl
