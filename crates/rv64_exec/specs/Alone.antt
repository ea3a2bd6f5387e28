-- How the code divides the work: `compute` does these instructions by itself, and leaves the others to the machine. What an
-- instruction does is said without this.
use Rattle.std.specs.Prelude.{◌≡◌, ℕ, Bool, true, false, ◌&&◌, ◌||◌, ◌==◌}
use Rattle.rv64_decode.specs.Encoding.{form_of}
use Rattle.rv64_decode.specs.Format.{opcode_of}
use Rattle.rv64_decode.specs.declared.instruction.Instr.{Instr}
use Rattle.rv64_decode.specs.declared.instruction.Instr.TheVariants.{Jal, Jalr, Beq, Bne, Blt, Bge, Bltu, Bgeu}
use Rattle.rv64_priv.specs.State.{Arch}
use Rattle.rv64_exec.specs.declared.needs.Need.{Need}
use Rattle.rv64_exec.specs.declared.needs.Answer.{Answer}
use Rattle.rv64_exec.specs.Plan.{need_of}

-- the opcodes LUI and AUIPC; OP-IMM and OP; OP-IMM-32 and OP-32 (RISC-V Unprivileged ISA, "RV32/64G Instruction Set Listings")
abbrev pub computes : (opcode : ℕ) → Bool
computes opcode =
    (opcode == 0x37) || (opcode == 0x17)
    || (opcode == 0x13) || (opcode == 0x33)
    || (opcode == 0x1b) || (opcode == 0x3b)

-- the instructions that take and leave registers alone, and go on to the next
abbrev pub is_computed : Instr → Bool
is_computed i = computes (opcode_of (form_of i))

-- the jumps and branches
abbrev pub is_transfer : Instr → Bool
is_transfer (Jal rd imm) = true
is_transfer (Jalr rd rs1 imm) = true
is_transfer (Beq rs1 rs2 imm) = true
is_transfer (Bne rs1 rs2 imm) = true
is_transfer (Blt rs1 rs2 imm) = true
is_transfer (Bge rs1 rs2 imm) = true
is_transfer (Bltu rs1 rs2 imm) = true
is_transfer (Bgeu rs1 rs2 imm) = true
is_transfer _ = false

abbrev pub is_nothing : Need → Bool
is_nothing Need.Nothing = true
is_nothing _ = false

-- a hart does the instruction by itself: it takes and leaves registers and pc alone, and does not trap
abbrev pub is_alone : Arch → Instr → Bool
is_alone a i = is_computed i || (is_transfer i && is_nothing (need_of a i))

-- nothing but registers and pc may have changed
pub record KeepsRest (a a' : Arch) : Type 0 where
  pub same : a' ≡ record a { x = a'.x; pc = a'.pc }

-- the answer is no fault, so the instruction is done
abbrev pub IsDone : Answer → Type 0
IsDone (Answer.Fault cause tval) = ⊥
IsDone _ = Unit {0}
