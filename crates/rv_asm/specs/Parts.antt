-- What an instruction is made of, as a text spells it: its mnemonic, the bits aq and rl, and its operands.
use Rattle.std.specs.Prelude.{ℕ, ℤ, ◌/◌, ◌^◌, ◌==◌, Bool, false, if◌then◌else◌, Option, Some, None}
use Rattle.rv64_decode.specs.declared.instruction.Instr.{Instr}
use Rattle.rv64_decode.specs.Format.{unsigned}
use Rattle.asm_text.specs.declared.mnemonic.Mnemonic.{Mnemonic}
use Rattle.rv_asm.specs.declared.operands.Operands.{Operands}
use Rattle.rv_asm.specs.declared.operands.Parts.{Parts}

-- bits 31 to 12 of an immediate
abbrev pub upper_bits : ℤ → ℕ
upper_bits imm = unsigned imm / 2 ^ 12

abbrev pub ordered : Mnemonic → (aq rl : Bool) → Operands → Option Parts
ordered mnemonic aq rl operands = Some (record { mnemonic = mnemonic; aq = aq; rl = rl; operands = operands })

abbrev pub plain : Mnemonic → Operands → Option Parts
plain mnemonic operands = ordered mnemonic false false operands

-- the parts of an instruction; a fence whose other bits are not those of its one form has none
abbrev pub parts_of : Instr → Option Parts
parts_of (Instr.Lui rd imm) = plain Mnemonic.Lui (Operands.Upper rd (upper_bits imm))
parts_of (Instr.Auipc rd imm) = plain Mnemonic.Auipc (Operands.Upper rd (upper_bits imm))
parts_of (Instr.Jal rd imm) = plain Mnemonic.Jal (Operands.Jump rd imm)
parts_of (Instr.Jalr rd rs1 imm) = plain Mnemonic.Jalr (Operands.Load rd rs1 imm)
parts_of (Instr.Beq rs1 rs2 imm) = plain Mnemonic.Beq (Operands.Branch rs1 rs2 imm)
parts_of (Instr.Bne rs1 rs2 imm) = plain Mnemonic.Bne (Operands.Branch rs1 rs2 imm)
parts_of (Instr.Blt rs1 rs2 imm) = plain Mnemonic.Blt (Operands.Branch rs1 rs2 imm)
parts_of (Instr.Bge rs1 rs2 imm) = plain Mnemonic.Bge (Operands.Branch rs1 rs2 imm)
parts_of (Instr.Bltu rs1 rs2 imm) = plain Mnemonic.Bltu (Operands.Branch rs1 rs2 imm)
parts_of (Instr.Bgeu rs1 rs2 imm) = plain Mnemonic.Bgeu (Operands.Branch rs1 rs2 imm)
parts_of (Instr.Lb rd rs1 imm) = plain Mnemonic.Lb (Operands.Load rd rs1 imm)
parts_of (Instr.Lh rd rs1 imm) = plain Mnemonic.Lh (Operands.Load rd rs1 imm)
parts_of (Instr.Lw rd rs1 imm) = plain Mnemonic.Lw (Operands.Load rd rs1 imm)
parts_of (Instr.Ld rd rs1 imm) = plain Mnemonic.Ld (Operands.Load rd rs1 imm)
parts_of (Instr.Lbu rd rs1 imm) = plain Mnemonic.Lbu (Operands.Load rd rs1 imm)
parts_of (Instr.Lhu rd rs1 imm) = plain Mnemonic.Lhu (Operands.Load rd rs1 imm)
parts_of (Instr.Lwu rd rs1 imm) = plain Mnemonic.Lwu (Operands.Load rd rs1 imm)
parts_of (Instr.Sb rs1 rs2 imm) = plain Mnemonic.Sb (Operands.Store rs1 rs2 imm)
parts_of (Instr.Sh rs1 rs2 imm) = plain Mnemonic.Sh (Operands.Store rs1 rs2 imm)
parts_of (Instr.Sw rs1 rs2 imm) = plain Mnemonic.Sw (Operands.Store rs1 rs2 imm)
parts_of (Instr.Sd rs1 rs2 imm) = plain Mnemonic.Sd (Operands.Store rs1 rs2 imm)
parts_of (Instr.Addi rd rs1 imm) = plain Mnemonic.Addi (Operands.Immediate rd rs1 imm)
parts_of (Instr.Slti rd rs1 imm) = plain Mnemonic.Slti (Operands.Immediate rd rs1 imm)
parts_of (Instr.Sltiu rd rs1 imm) = plain Mnemonic.Sltiu (Operands.Immediate rd rs1 imm)
parts_of (Instr.Xori rd rs1 imm) = plain Mnemonic.Xori (Operands.Immediate rd rs1 imm)
parts_of (Instr.Ori rd rs1 imm) = plain Mnemonic.Ori (Operands.Immediate rd rs1 imm)
parts_of (Instr.Andi rd rs1 imm) = plain Mnemonic.Andi (Operands.Immediate rd rs1 imm)
parts_of (Instr.Slli rd rs1 amount) = plain Mnemonic.Slli (Operands.Shift rd rs1 amount)
parts_of (Instr.Srli rd rs1 amount) = plain Mnemonic.Srli (Operands.Shift rd rs1 amount)
parts_of (Instr.Srai rd rs1 amount) = plain Mnemonic.Srai (Operands.Shift rd rs1 amount)
parts_of (Instr.Addiw rd rs1 imm) = plain Mnemonic.Addiw (Operands.Immediate rd rs1 imm)
parts_of (Instr.Slliw rd rs1 amount) = plain Mnemonic.Slliw (Operands.Shift rd rs1 amount)
parts_of (Instr.Srliw rd rs1 amount) = plain Mnemonic.Srliw (Operands.Shift rd rs1 amount)
parts_of (Instr.Sraiw rd rs1 amount) = plain Mnemonic.Sraiw (Operands.Shift rd rs1 amount)
parts_of (Instr.Add rd rs1 rs2) = plain Mnemonic.Add (Operands.Registers rd rs1 rs2)
parts_of (Instr.Sll rd rs1 rs2) = plain Mnemonic.Sll (Operands.Registers rd rs1 rs2)
parts_of (Instr.Slt rd rs1 rs2) = plain Mnemonic.Slt (Operands.Registers rd rs1 rs2)
parts_of (Instr.Sltu rd rs1 rs2) = plain Mnemonic.Sltu (Operands.Registers rd rs1 rs2)
parts_of (Instr.Xor rd rs1 rs2) = plain Mnemonic.Xor (Operands.Registers rd rs1 rs2)
parts_of (Instr.Srl rd rs1 rs2) = plain Mnemonic.Srl (Operands.Registers rd rs1 rs2)
parts_of (Instr.Or rd rs1 rs2) = plain Mnemonic.Or (Operands.Registers rd rs1 rs2)
parts_of (Instr.And rd rs1 rs2) = plain Mnemonic.And (Operands.Registers rd rs1 rs2)
parts_of (Instr.Sub rd rs1 rs2) = plain Mnemonic.Sub (Operands.Registers rd rs1 rs2)
parts_of (Instr.Sra rd rs1 rs2) = plain Mnemonic.Sra (Operands.Registers rd rs1 rs2)
parts_of (Instr.Addw rd rs1 rs2) = plain Mnemonic.Addw (Operands.Registers rd rs1 rs2)
parts_of (Instr.Sllw rd rs1 rs2) = plain Mnemonic.Sllw (Operands.Registers rd rs1 rs2)
parts_of (Instr.Srlw rd rs1 rs2) = plain Mnemonic.Srlw (Operands.Registers rd rs1 rs2)
parts_of (Instr.Subw rd rs1 rs2) = plain Mnemonic.Subw (Operands.Registers rd rs1 rs2)
parts_of (Instr.Sraw rd rs1 rs2) = plain Mnemonic.Sraw (Operands.Registers rd rs1 rs2)
parts_of (Instr.Mul rd rs1 rs2) = plain Mnemonic.Mul (Operands.Registers rd rs1 rs2)
parts_of (Instr.Mulh rd rs1 rs2) = plain Mnemonic.Mulh (Operands.Registers rd rs1 rs2)
parts_of (Instr.Mulhsu rd rs1 rs2) = plain Mnemonic.Mulhsu (Operands.Registers rd rs1 rs2)
parts_of (Instr.Mulhu rd rs1 rs2) = plain Mnemonic.Mulhu (Operands.Registers rd rs1 rs2)
parts_of (Instr.Div rd rs1 rs2) = plain Mnemonic.Div (Operands.Registers rd rs1 rs2)
parts_of (Instr.Divu rd rs1 rs2) = plain Mnemonic.Divu (Operands.Registers rd rs1 rs2)
parts_of (Instr.Rem rd rs1 rs2) = plain Mnemonic.Rem (Operands.Registers rd rs1 rs2)
parts_of (Instr.Remu rd rs1 rs2) = plain Mnemonic.Remu (Operands.Registers rd rs1 rs2)
parts_of (Instr.Mulw rd rs1 rs2) = plain Mnemonic.Mulw (Operands.Registers rd rs1 rs2)
parts_of (Instr.Divw rd rs1 rs2) = plain Mnemonic.Divw (Operands.Registers rd rs1 rs2)
parts_of (Instr.Divuw rd rs1 rs2) = plain Mnemonic.Divuw (Operands.Registers rd rs1 rs2)
parts_of (Instr.Remw rd rs1 rs2) = plain Mnemonic.Remw (Operands.Registers rd rs1 rs2)
parts_of (Instr.Remuw rd rs1 rs2) = plain Mnemonic.Remuw (Operands.Registers rd rs1 rs2)
parts_of (Instr.Fence rest) = if rest == 0x0ff0_0000 then plain Mnemonic.Fence Operands.Nothing else None
parts_of (Instr.Fencei rest) = if rest == 0 then plain Mnemonic.Fencei Operands.Nothing else None
parts_of Instr.Ecall = plain Mnemonic.Ecall Operands.Nothing
parts_of Instr.Ebreak = plain Mnemonic.Ebreak Operands.Nothing
parts_of Instr.Sret = plain Mnemonic.Sret Operands.Nothing
parts_of Instr.Wfi = plain Mnemonic.Wfi Operands.Nothing
parts_of (Instr.Sfencevma rs1 rs2) = plain Mnemonic.Sfencevma (Operands.Pages rs1 rs2)
parts_of (Instr.Csrrw rd rs1 csr) = plain Mnemonic.Csrrw (Operands.Csr rd csr rs1)
parts_of (Instr.Csrrs rd rs1 csr) = plain Mnemonic.Csrrs (Operands.Csr rd csr rs1)
parts_of (Instr.Csrrc rd rs1 csr) = plain Mnemonic.Csrrc (Operands.Csr rd csr rs1)
parts_of (Instr.Csrrwi rd value csr) = plain Mnemonic.Csrrwi (Operands.CsrValue rd csr value)
parts_of (Instr.Csrrsi rd value csr) = plain Mnemonic.Csrrsi (Operands.CsrValue rd csr value)
parts_of (Instr.Csrrci rd value csr) = plain Mnemonic.Csrrci (Operands.CsrValue rd csr value)
parts_of (Instr.Lr wide aq rl rd rs1) = ordered (if wide then Mnemonic.LrD else Mnemonic.LrW) aq rl (Operands.Reserve rd rs1)
parts_of (Instr.Sc wide aq rl rd rs1 rs2) = ordered (if wide then Mnemonic.ScD else Mnemonic.ScW) aq rl (Operands.Atomic rd rs1 rs2)
parts_of (Instr.Amoswap wide aq rl rd rs1 rs2) = ordered (if wide then Mnemonic.AmoswapD else Mnemonic.AmoswapW) aq rl (Operands.Atomic rd rs1 rs2)
parts_of (Instr.Amoadd wide aq rl rd rs1 rs2) = ordered (if wide then Mnemonic.AmoaddD else Mnemonic.AmoaddW) aq rl (Operands.Atomic rd rs1 rs2)
parts_of (Instr.Amoxor wide aq rl rd rs1 rs2) = ordered (if wide then Mnemonic.AmoxorD else Mnemonic.AmoxorW) aq rl (Operands.Atomic rd rs1 rs2)
parts_of (Instr.Amoand wide aq rl rd rs1 rs2) = ordered (if wide then Mnemonic.AmoandD else Mnemonic.AmoandW) aq rl (Operands.Atomic rd rs1 rs2)
parts_of (Instr.Amoor wide aq rl rd rs1 rs2) = ordered (if wide then Mnemonic.AmoorD else Mnemonic.AmoorW) aq rl (Operands.Atomic rd rs1 rs2)
parts_of (Instr.Amomin wide aq rl rd rs1 rs2) = ordered (if wide then Mnemonic.AmominD else Mnemonic.AmominW) aq rl (Operands.Atomic rd rs1 rs2)
parts_of (Instr.Amomax wide aq rl rd rs1 rs2) = ordered (if wide then Mnemonic.AmomaxD else Mnemonic.AmomaxW) aq rl (Operands.Atomic rd rs1 rs2)
parts_of (Instr.Amominu wide aq rl rd rs1 rs2) = ordered (if wide then Mnemonic.AmominuD else Mnemonic.AmominuW) aq rl (Operands.Atomic rd rs1 rs2)
parts_of (Instr.Amomaxu wide aq rl rd rs1 rs2) = ordered (if wide then Mnemonic.AmomaxuD else Mnemonic.AmomaxuW) aq rl (Operands.Atomic rd rs1 rs2)
