-- The page that an instruction flushes has a number of 52 bits.
use Rattle.std.proofs.Common.{◌≢◌, ℕ, ◌<◌, ◌^◌, ◌/◌, ◌%◌, Bool, true, false, refl, arith}
use Rattle.std.specs.Prelude.{◌==◌, ◌&&◌, if◌then◌else◌, Option, Some, None}
use Rattle.rv64_decode.specs.declared.instruction.Instr.{Instr}
use Rattle.rv64_decode.specs.declared.instruction.Instr.TheVariants.{Jal, Jalr, Beq, Bne, Blt, Bge, Bltu, Bgeu, Ecall, Sret, Sfencevma, Csrrw, Csrrs, Csrrc, Csrrwi, Csrrsi, Csrrci}
use Rattle.rv64_priv.specs.State.{Arch}
use Rattle.rv64_priv.specs.Csr.{csr_value}
use Rattle.rv64_exec.specs.declared.needs.FlushOf.{FlushOf}
use Rattle.rv64_exec.specs.declared.needs.Need.{Need}
use Rattle.rv64_exec.specs.Plan.{branch, csr_known_need, csr_need, jal_target, jalr_target, jump, makes_write, need_of, needs_flush, new_value, reg}
use Rattle.need_serving.specs.Ends.{IsPageNumber, IsPageOf}

page_in : (b : Bool) (n m : Need) → IsPageOf n → IsPageOf m → IsPageOf (if b then n else m)
page_in true n m k l = k
page_in false n m k l = l

page_jump : (target : ℕ) → IsPageOf (jump target)
page_jump target = page_in (target % 4 == 0) _ _ tt tt

page_branch : (taken : Bool) (target : ℕ) → IsPageOf (branch taken target)
page_branch taken target = page_in taken _ _ (page_jump target) tt

page_csr : (a : Arch) (word csr : ℕ) (op : _) (source value : ℕ) → IsPageOf (csr_need a word csr op source value)
page_csr a word csr op source value = known (csr_value a csr)
  where
    known : (found : Option ℕ) → IsPageOf (csr_known_need a word csr op source value found)
    known None = tt
    known (Some old) = page_in (csr == 0x144) _ _ tt (page_in (makes_write op source && needs_flush a csr (new_value op old value)) _ _ tt tt)

page_at : (b : Bool) (n : ℕ) → n < 2 ^ 52 → IsPageNumber (if b then FlushOf.All else FlushOf.Page n)
page_at true n less = tt
page_at false n less = less

pub page_fence : (a : Arch) (rs1 rs2 : ℕ) → reg a rs1 < 2 ^ 64 → IsPageOf (need_of a (Sfencevma rs1 rs2))
unfolding need_of
page_fence a rs1 rs2 less = page_in a.user _ _ tt (page_at (rs1 == 0) (reg a rs1 / 4096) (omega (arith, less)))

pub page_other : (a : Arch) (i : Instr) → ((rs1 rs2 : ℕ) → i ≢ Sfencevma rs1 rs2) → IsPageOf (need_of a i)
unfolding need_of
page_other a (Jal rd imm) ne = page_jump (jal_target a imm)
page_other a (Jalr rd rs1 imm) ne = page_jump (jalr_target a rs1 imm)
page_other a (Beq rs1 rs2 imm) ne = page_branch _ (jal_target a imm)
page_other a (Bne rs1 rs2 imm) ne = page_branch _ (jal_target a imm)
page_other a (Blt rs1 rs2 imm) ne = page_branch _ (jal_target a imm)
page_other a (Bge rs1 rs2 imm) ne = page_branch _ (jal_target a imm)
page_other a (Bltu rs1 rs2 imm) ne = page_branch _ (jal_target a imm)
page_other a (Bgeu rs1 rs2 imm) ne = page_branch _ (jal_target a imm)
page_other a Ecall ne = page_in a.user _ _ tt tt
page_other a Sret ne = page_in a.user _ _ tt tt
page_other a (Sfencevma rs1 rs2) ne = absurd (ne rs1 rs2 refl)
page_other a (Csrrw rd rs1 csr) ne = search (page_csr)
page_other a (Csrrs rd rs1 csr) ne = search (page_csr)
page_other a (Csrrc rd rs1 csr) ne = search (page_csr)
page_other a (Csrrwi rd value csr) ne = search (page_csr)
page_other a (Csrrsi rd value csr) ne = search (page_csr)
page_other a (Csrrci rd value csr) ne = search (page_csr)
page_other a _ ne = tt
