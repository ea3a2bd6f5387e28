-- The one table of mnemonics: the name of each and its form of operands, with the instruction that the operands make.
-- RISC-V Unprivileged ISA, "RV32/64G Instruction Set Listings" and "RISC-V Assembly Programmer's Handbook"; Privileged
-- Architecture, "RISC-V Privileged Instruction Set Listings".
use Rattle.std.specs.Prelude.{ℕ, ℤ, Bool, true, false, List, codes}
use Rattle.rv64_decode.specs.declared.instruction.Instr.{Instr}
use Rattle.asm_text.specs.declared.mnemonic.Mnemonic.{Mnemonic}

-- The forms of operands, each with how its instruction is made of them. `n` is a number, `T` a target: an instruction
-- has its distance; `C` is a CSR.
pub data Shape : Type 0 where
  -- no operands
  alone : (instr : Instr) → Shape
  -- rd, n: the upper 20 bits
  upper : (make : ℕ → ℤ → Instr) → Shape
  -- rd, T
  jump : (make : ℕ → ℤ → Instr) → Shape
  -- rs1, rs2, T
  branch : (make : ℕ → ℕ → ℤ → Instr) → Shape
  -- rd, n(rs1)
  load : (make : ℕ → ℕ → ℤ → Instr) → Shape
  -- rs2, n(rs1)
  store : (make : ℕ → ℕ → ℤ → Instr) → Shape
  -- rd, rs1, n
  immediate : (make : ℕ → ℕ → ℤ → Instr) → Shape
  -- rd, rs1, n: an amount of so many bits
  shift : (bits : ℕ) (make : ℕ → ℕ → ℕ → Instr) → Shape
  -- rd, rs1, rs2
  registers : (make : ℕ → ℕ → ℕ → Instr) → Shape
  -- rs1, rs2
  pages : (make : ℕ → ℕ → Instr) → Shape
  -- rd, C, rs1
  csr : (make : ℕ → ℕ → ℕ → Instr) → Shape
  -- rd, C, n
  csr_value : (make : ℕ → ℕ → ℕ → Instr) → Shape
  -- rd, (rs1), with the bits aq and rl
  reserve : (make : (aq rl : Bool) → ℕ → ℕ → Instr) → Shape
  -- rd, rs2, (rs1), with the bits aq and rl
  atomic : (make : (aq rl : Bool) → ℕ → ℕ → ℕ → Instr) → Shape

pub record Row : Type 0 where
  pub name : List ℕ
  pub shape : Shape

abbrev pub row : List ℕ → Shape → Row
row name shape = record { name = name; shape = shape }

abbrev pub row_of : Mnemonic → Row
row_of Mnemonic.Lui = row (codes "lui") (upper Instr.Lui)
row_of Mnemonic.Auipc = row (codes "auipc") (upper Instr.Auipc)
row_of Mnemonic.Jal = row (codes "jal") (jump Instr.Jal)
row_of Mnemonic.Beq = row (codes "beq") (branch Instr.Beq)
row_of Mnemonic.Bne = row (codes "bne") (branch Instr.Bne)
row_of Mnemonic.Blt = row (codes "blt") (branch Instr.Blt)
row_of Mnemonic.Bge = row (codes "bge") (branch Instr.Bge)
row_of Mnemonic.Bltu = row (codes "bltu") (branch Instr.Bltu)
row_of Mnemonic.Bgeu = row (codes "bgeu") (branch Instr.Bgeu)
row_of Mnemonic.Jalr = row (codes "jalr") (load Instr.Jalr)
row_of Mnemonic.Lb = row (codes "lb") (load Instr.Lb)
row_of Mnemonic.Lh = row (codes "lh") (load Instr.Lh)
row_of Mnemonic.Lw = row (codes "lw") (load Instr.Lw)
row_of Mnemonic.Ld = row (codes "ld") (load Instr.Ld)
row_of Mnemonic.Lbu = row (codes "lbu") (load Instr.Lbu)
row_of Mnemonic.Lhu = row (codes "lhu") (load Instr.Lhu)
row_of Mnemonic.Lwu = row (codes "lwu") (load Instr.Lwu)
row_of Mnemonic.Sb = row (codes "sb") (store Instr.Sb)
row_of Mnemonic.Sh = row (codes "sh") (store Instr.Sh)
row_of Mnemonic.Sw = row (codes "sw") (store Instr.Sw)
row_of Mnemonic.Sd = row (codes "sd") (store Instr.Sd)
row_of Mnemonic.Addi = row (codes "addi") (immediate Instr.Addi)
row_of Mnemonic.Slti = row (codes "slti") (immediate Instr.Slti)
row_of Mnemonic.Sltiu = row (codes "sltiu") (immediate Instr.Sltiu)
row_of Mnemonic.Xori = row (codes "xori") (immediate Instr.Xori)
row_of Mnemonic.Ori = row (codes "ori") (immediate Instr.Ori)
row_of Mnemonic.Andi = row (codes "andi") (immediate Instr.Andi)
row_of Mnemonic.Addiw = row (codes "addiw") (immediate Instr.Addiw)
row_of Mnemonic.Slli = row (codes "slli") (shift 6 Instr.Slli)
row_of Mnemonic.Srli = row (codes "srli") (shift 6 Instr.Srli)
row_of Mnemonic.Srai = row (codes "srai") (shift 6 Instr.Srai)
row_of Mnemonic.Slliw = row (codes "slliw") (shift 5 Instr.Slliw)
row_of Mnemonic.Srliw = row (codes "srliw") (shift 5 Instr.Srliw)
row_of Mnemonic.Sraiw = row (codes "sraiw") (shift 5 Instr.Sraiw)
row_of Mnemonic.Add = row (codes "add") (registers Instr.Add)
row_of Mnemonic.Sub = row (codes "sub") (registers Instr.Sub)
row_of Mnemonic.Sll = row (codes "sll") (registers Instr.Sll)
row_of Mnemonic.Slt = row (codes "slt") (registers Instr.Slt)
row_of Mnemonic.Sltu = row (codes "sltu") (registers Instr.Sltu)
row_of Mnemonic.Xor = row (codes "xor") (registers Instr.Xor)
row_of Mnemonic.Srl = row (codes "srl") (registers Instr.Srl)
row_of Mnemonic.Sra = row (codes "sra") (registers Instr.Sra)
row_of Mnemonic.Or = row (codes "or") (registers Instr.Or)
row_of Mnemonic.And = row (codes "and") (registers Instr.And)
row_of Mnemonic.Addw = row (codes "addw") (registers Instr.Addw)
row_of Mnemonic.Subw = row (codes "subw") (registers Instr.Subw)
row_of Mnemonic.Sllw = row (codes "sllw") (registers Instr.Sllw)
row_of Mnemonic.Srlw = row (codes "srlw") (registers Instr.Srlw)
row_of Mnemonic.Sraw = row (codes "sraw") (registers Instr.Sraw)
row_of Mnemonic.Mul = row (codes "mul") (registers Instr.Mul)
row_of Mnemonic.Mulh = row (codes "mulh") (registers Instr.Mulh)
row_of Mnemonic.Mulhsu = row (codes "mulhsu") (registers Instr.Mulhsu)
row_of Mnemonic.Mulhu = row (codes "mulhu") (registers Instr.Mulhu)
row_of Mnemonic.Div = row (codes "div") (registers Instr.Div)
row_of Mnemonic.Divu = row (codes "divu") (registers Instr.Divu)
row_of Mnemonic.Rem = row (codes "rem") (registers Instr.Rem)
row_of Mnemonic.Remu = row (codes "remu") (registers Instr.Remu)
row_of Mnemonic.Mulw = row (codes "mulw") (registers Instr.Mulw)
row_of Mnemonic.Divw = row (codes "divw") (registers Instr.Divw)
row_of Mnemonic.Divuw = row (codes "divuw") (registers Instr.Divuw)
row_of Mnemonic.Remw = row (codes "remw") (registers Instr.Remw)
row_of Mnemonic.Remuw = row (codes "remuw") (registers Instr.Remuw)
row_of Mnemonic.Fence = row (codes "fence") (alone (Instr.Fence 0x0ff0_0000))
row_of Mnemonic.Fencei = row (codes "fence.i") (alone (Instr.Fencei 0))
row_of Mnemonic.Ecall = row (codes "ecall") (alone Instr.Ecall)
row_of Mnemonic.Ebreak = row (codes "ebreak") (alone Instr.Ebreak)
row_of Mnemonic.Sret = row (codes "sret") (alone Instr.Sret)
row_of Mnemonic.Wfi = row (codes "wfi") (alone Instr.Wfi)
row_of Mnemonic.Sfencevma = row (codes "sfence.vma") (pages Instr.Sfencevma)
row_of Mnemonic.Csrrw = row (codes "csrrw") (csr Instr.Csrrw)
row_of Mnemonic.Csrrs = row (codes "csrrs") (csr Instr.Csrrs)
row_of Mnemonic.Csrrc = row (codes "csrrc") (csr Instr.Csrrc)
row_of Mnemonic.Csrrwi = row (codes "csrrwi") (csr_value Instr.Csrrwi)
row_of Mnemonic.Csrrsi = row (codes "csrrsi") (csr_value Instr.Csrrsi)
row_of Mnemonic.Csrrci = row (codes "csrrci") (csr_value Instr.Csrrci)
row_of Mnemonic.LrW = row (codes "lr.w") (reserve (Instr.Lr false))
row_of Mnemonic.LrD = row (codes "lr.d") (reserve (Instr.Lr true))
row_of Mnemonic.ScW = row (codes "sc.w") (atomic (Instr.Sc false))
row_of Mnemonic.ScD = row (codes "sc.d") (atomic (Instr.Sc true))
row_of Mnemonic.AmoswapW = row (codes "amoswap.w") (atomic (Instr.Amoswap false))
row_of Mnemonic.AmoswapD = row (codes "amoswap.d") (atomic (Instr.Amoswap true))
row_of Mnemonic.AmoaddW = row (codes "amoadd.w") (atomic (Instr.Amoadd false))
row_of Mnemonic.AmoaddD = row (codes "amoadd.d") (atomic (Instr.Amoadd true))
row_of Mnemonic.AmoxorW = row (codes "amoxor.w") (atomic (Instr.Amoxor false))
row_of Mnemonic.AmoxorD = row (codes "amoxor.d") (atomic (Instr.Amoxor true))
row_of Mnemonic.AmoandW = row (codes "amoand.w") (atomic (Instr.Amoand false))
row_of Mnemonic.AmoandD = row (codes "amoand.d") (atomic (Instr.Amoand true))
row_of Mnemonic.AmoorW = row (codes "amoor.w") (atomic (Instr.Amoor false))
row_of Mnemonic.AmoorD = row (codes "amoor.d") (atomic (Instr.Amoor true))
row_of Mnemonic.AmominW = row (codes "amomin.w") (atomic (Instr.Amomin false))
row_of Mnemonic.AmominD = row (codes "amomin.d") (atomic (Instr.Amomin true))
row_of Mnemonic.AmomaxW = row (codes "amomax.w") (atomic (Instr.Amomax false))
row_of Mnemonic.AmomaxD = row (codes "amomax.d") (atomic (Instr.Amomax true))
row_of Mnemonic.AmominuW = row (codes "amominu.w") (atomic (Instr.Amominu false))
row_of Mnemonic.AmominuD = row (codes "amominu.d") (atomic (Instr.Amominu true))
row_of Mnemonic.AmomaxuW = row (codes "amomaxu.w") (atomic (Instr.Amomaxu false))
row_of Mnemonic.AmomaxuD = row (codes "amomaxu.d") (atomic (Instr.Amomaxu true))

abbrev pub name_of : Mnemonic → List ℕ
name_of mnemonic = (row_of mnemonic).name

abbrev pub shape_of : Mnemonic → Shape
shape_of mnemonic = (row_of mnemonic).shape
