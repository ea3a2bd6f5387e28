-- An instruction that a hart does by itself changes registers and pc alone.
use Rattle.std.proofs.Common.{◌≡◌, refl, true}
use Rattle.rv64_decode.specs.declared.instruction.Instr.{Instr}
use Rattle.rv64_decode.specs.declared.instruction.Instr.TheVariants.{Lui, Auipc, Jal, Jalr, Addi, Slti, Sltiu, Xori, Ori, Andi, Addiw, Slli, Srli, Srai}
use Rattle.rv64_decode.specs.declared.instruction.Instr.TheVariants.{Slliw, Srliw, Sraiw, Beq, Bne, Blt, Bge, Bltu, Bgeu, Add, Sll, Slt, Sltu, Xor, Srl, Or, And, Sub, Sra}
use Rattle.rv64_decode.specs.declared.instruction.Instr.TheVariants.{Mul, Mulh, Mulhsu, Mulhu, Div, Divu, Rem, Remu, Addw, Sllw, Srlw, Subw, Sraw, Mulw, Divw, Divuw, Remw, Remuw}
use Rattle.rv64_priv.specs.State.{Arch}
use Rattle.rv64_exec.specs.Alone.{is_alone, KeepsRest}
use Rattle.rv64_exec.specs.declared.needs.Answer.{Answer}
use Rattle.rv64_exec.specs.Finish.{done}

pub alone_keeps : (a : Arch) (i : Instr) (ans : Answer) → is_alone a i ≡ true → KeepsRest a (done a i ans)
unfolding done
alone_keeps a (Lui rd imm) ans e = record { same = refl }
alone_keeps a (Auipc rd imm) ans e = record { same = refl }
alone_keeps a (Jal rd imm) ans e = record { same = refl }
alone_keeps a (Jalr rd rs1 imm) ans e = record { same = refl }
alone_keeps a (Beq rs1 rs2 imm) ans e = record { same = refl }
alone_keeps a (Bne rs1 rs2 imm) ans e = record { same = refl }
alone_keeps a (Blt rs1 rs2 imm) ans e = record { same = refl }
alone_keeps a (Bge rs1 rs2 imm) ans e = record { same = refl }
alone_keeps a (Bltu rs1 rs2 imm) ans e = record { same = refl }
alone_keeps a (Bgeu rs1 rs2 imm) ans e = record { same = refl }
alone_keeps a (Addi rd rs1 imm) ans e = record { same = refl }
alone_keeps a (Slti rd rs1 imm) ans e = record { same = refl }
alone_keeps a (Sltiu rd rs1 imm) ans e = record { same = refl }
alone_keeps a (Xori rd rs1 imm) ans e = record { same = refl }
alone_keeps a (Ori rd rs1 imm) ans e = record { same = refl }
alone_keeps a (Andi rd rs1 imm) ans e = record { same = refl }
alone_keeps a (Addiw rd rs1 imm) ans e = record { same = refl }
alone_keeps a (Slli rd rs1 amount) ans e = record { same = refl }
alone_keeps a (Srli rd rs1 amount) ans e = record { same = refl }
alone_keeps a (Srai rd rs1 amount) ans e = record { same = refl }
alone_keeps a (Slliw rd rs1 amount) ans e = record { same = refl }
alone_keeps a (Srliw rd rs1 amount) ans e = record { same = refl }
alone_keeps a (Sraiw rd rs1 amount) ans e = record { same = refl }
alone_keeps a (Add rd rs1 rs2) ans e = record { same = refl }
alone_keeps a (Sll rd rs1 rs2) ans e = record { same = refl }
alone_keeps a (Slt rd rs1 rs2) ans e = record { same = refl }
alone_keeps a (Sltu rd rs1 rs2) ans e = record { same = refl }
alone_keeps a (Xor rd rs1 rs2) ans e = record { same = refl }
alone_keeps a (Srl rd rs1 rs2) ans e = record { same = refl }
alone_keeps a (Or rd rs1 rs2) ans e = record { same = refl }
alone_keeps a (And rd rs1 rs2) ans e = record { same = refl }
alone_keeps a (Sub rd rs1 rs2) ans e = record { same = refl }
alone_keeps a (Sra rd rs1 rs2) ans e = record { same = refl }
alone_keeps a (Mul rd rs1 rs2) ans e = record { same = refl }
alone_keeps a (Mulh rd rs1 rs2) ans e = record { same = refl }
alone_keeps a (Mulhsu rd rs1 rs2) ans e = record { same = refl }
alone_keeps a (Mulhu rd rs1 rs2) ans e = record { same = refl }
alone_keeps a (Div rd rs1 rs2) ans e = record { same = refl }
alone_keeps a (Divu rd rs1 rs2) ans e = record { same = refl }
alone_keeps a (Rem rd rs1 rs2) ans e = record { same = refl }
alone_keeps a (Remu rd rs1 rs2) ans e = record { same = refl }
alone_keeps a (Addw rd rs1 rs2) ans e = record { same = refl }
alone_keeps a (Sllw rd rs1 rs2) ans e = record { same = refl }
alone_keeps a (Srlw rd rs1 rs2) ans e = record { same = refl }
alone_keeps a (Subw rd rs1 rs2) ans e = record { same = refl }
alone_keeps a (Sraw rd rs1 rs2) ans e = record { same = refl }
alone_keeps a (Mulw rd rs1 rs2) ans e = record { same = refl }
alone_keeps a (Divw rd rs1 rs2) ans e = record { same = refl }
alone_keeps a (Divuw rd rs1 rs2) ans e = record { same = refl }
alone_keeps a (Remw rd rs1 rs2) ans e = record { same = refl }
alone_keeps a (Remuw rd rs1 rs2) ans e = record { same = refl }
alone_keeps a _ ans e = cc
