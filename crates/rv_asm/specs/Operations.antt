-- What the code's operations stand for: the forms of the table of mnemonics. No public contract has these words.
use Rattle.std.specs.Prelude.{ℕ, ℤ, Bool}
use Rattle.rv64_decode.specs.declared.instruction.Instr.{Instr}
use Rattle.asm_text.specs.Table.{Shape, alone, upper, jump, branch, load, store, immediate, shift, registers, pages, csr, csr_value, reserve, atomic}
use Rattle.rv_asm.specs.declared.operations.Alone.{Alone}
use Rattle.rv_asm.specs.declared.operations.Upper.{Upper}
use Rattle.rv_asm.specs.declared.operations.Branch.{Branch}
use Rattle.rv_asm.specs.declared.operations.Load.{Load}
use Rattle.rv_asm.specs.declared.operations.Store.{Store}
use Rattle.rv_asm.specs.declared.operations.Immediate.{Immediate}
use Rattle.rv_asm.specs.declared.operations.Shift.{Shift}
use Rattle.rv_asm.specs.declared.operations.WordShift.{WordShift}
use Rattle.rv_asm.specs.declared.operations.Registers.{Registers}
use Rattle.rv_asm.specs.declared.operations.Csr.{Csr}
use Rattle.rv_asm.specs.declared.operations.CsrValue.{CsrValue}
use Rattle.rv_asm.specs.declared.operations.Atomic.{Atomic}
use Rattle.rv_asm.specs.declared.operations.Operation.{Operation}

abbrev pub alone_as : Alone → Instr
alone_as Alone.Fence = Instr.Fence 0x0ff0_0000
alone_as Alone.Fencei = Instr.Fencei 0
alone_as Alone.Ecall = Instr.Ecall
alone_as Alone.Ebreak = Instr.Ebreak
alone_as Alone.Sret = Instr.Sret
alone_as Alone.Wfi = Instr.Wfi

abbrev pub upper_as : Upper → ℕ → ℤ → Instr
upper_as Upper.Lui = Instr.Lui
upper_as Upper.Auipc = Instr.Auipc

abbrev pub branch_as : Branch → ℕ → ℕ → ℤ → Instr
branch_as Branch.Beq = Instr.Beq
branch_as Branch.Bne = Instr.Bne
branch_as Branch.Blt = Instr.Blt
branch_as Branch.Bge = Instr.Bge
branch_as Branch.Bltu = Instr.Bltu
branch_as Branch.Bgeu = Instr.Bgeu

abbrev pub load_as : Load → ℕ → ℕ → ℤ → Instr
load_as Load.Jalr = Instr.Jalr
load_as Load.Lb = Instr.Lb
load_as Load.Lh = Instr.Lh
load_as Load.Lw = Instr.Lw
load_as Load.Ld = Instr.Ld
load_as Load.Lbu = Instr.Lbu
load_as Load.Lhu = Instr.Lhu
load_as Load.Lwu = Instr.Lwu

abbrev pub store_as : Store → ℕ → ℕ → ℤ → Instr
store_as Store.Sb = Instr.Sb
store_as Store.Sh = Instr.Sh
store_as Store.Sw = Instr.Sw
store_as Store.Sd = Instr.Sd

abbrev pub immediate_as : Immediate → ℕ → ℕ → ℤ → Instr
immediate_as Immediate.Addi = Instr.Addi
immediate_as Immediate.Slti = Instr.Slti
immediate_as Immediate.Sltiu = Instr.Sltiu
immediate_as Immediate.Xori = Instr.Xori
immediate_as Immediate.Ori = Instr.Ori
immediate_as Immediate.Andi = Instr.Andi
immediate_as Immediate.Addiw = Instr.Addiw

abbrev pub shift_as : Shift → ℕ → ℕ → ℕ → Instr
shift_as Shift.Slli = Instr.Slli
shift_as Shift.Srli = Instr.Srli
shift_as Shift.Srai = Instr.Srai

abbrev pub word_shift_as : WordShift → ℕ → ℕ → ℕ → Instr
word_shift_as WordShift.Slliw = Instr.Slliw
word_shift_as WordShift.Srliw = Instr.Srliw
word_shift_as WordShift.Sraiw = Instr.Sraiw

abbrev pub registers_as : Registers → ℕ → ℕ → ℕ → Instr
registers_as Registers.Add = Instr.Add
registers_as Registers.Sub = Instr.Sub
registers_as Registers.Sll = Instr.Sll
registers_as Registers.Slt = Instr.Slt
registers_as Registers.Sltu = Instr.Sltu
registers_as Registers.Xor = Instr.Xor
registers_as Registers.Srl = Instr.Srl
registers_as Registers.Sra = Instr.Sra
registers_as Registers.Or = Instr.Or
registers_as Registers.And = Instr.And
registers_as Registers.Addw = Instr.Addw
registers_as Registers.Subw = Instr.Subw
registers_as Registers.Sllw = Instr.Sllw
registers_as Registers.Srlw = Instr.Srlw
registers_as Registers.Sraw = Instr.Sraw
registers_as Registers.Mul = Instr.Mul
registers_as Registers.Mulh = Instr.Mulh
registers_as Registers.Mulhsu = Instr.Mulhsu
registers_as Registers.Mulhu = Instr.Mulhu
registers_as Registers.Div = Instr.Div
registers_as Registers.Divu = Instr.Divu
registers_as Registers.Rem = Instr.Rem
registers_as Registers.Remu = Instr.Remu
registers_as Registers.Mulw = Instr.Mulw
registers_as Registers.Divw = Instr.Divw
registers_as Registers.Divuw = Instr.Divuw
registers_as Registers.Remw = Instr.Remw
registers_as Registers.Remuw = Instr.Remuw

abbrev pub csr_as : Csr → ℕ → ℕ → ℕ → Instr
csr_as Csr.Csrrw = Instr.Csrrw
csr_as Csr.Csrrs = Instr.Csrrs
csr_as Csr.Csrrc = Instr.Csrrc

abbrev pub csr_value_as : CsrValue → ℕ → ℕ → ℕ → Instr
csr_value_as CsrValue.Csrrwi = Instr.Csrrwi
csr_value_as CsrValue.Csrrsi = Instr.Csrrsi
csr_value_as CsrValue.Csrrci = Instr.Csrrci

abbrev pub atomic_as : Atomic → (wide aq rl : Bool) → ℕ → ℕ → ℕ → Instr
atomic_as Atomic.Sc = Instr.Sc
atomic_as Atomic.Amoswap = Instr.Amoswap
atomic_as Atomic.Amoadd = Instr.Amoadd
atomic_as Atomic.Amoxor = Instr.Amoxor
atomic_as Atomic.Amoand = Instr.Amoand
atomic_as Atomic.Amoor = Instr.Amoor
atomic_as Atomic.Amomin = Instr.Amomin
atomic_as Atomic.Amomax = Instr.Amomax
atomic_as Atomic.Amominu = Instr.Amominu
atomic_as Atomic.Amomaxu = Instr.Amomaxu

abbrev pub operation_as : Operation → Shape
operation_as (Operation.Alone op) = alone (alone_as op)
operation_as (Operation.Upper op) = upper (upper_as op)
operation_as Operation.Jump = jump Instr.Jal
operation_as (Operation.Branch op) = branch (branch_as op)
operation_as (Operation.Load op) = load (load_as op)
operation_as (Operation.Store op) = store (store_as op)
operation_as (Operation.Immediate op) = immediate (immediate_as op)
operation_as (Operation.Shift op) = shift 6 (shift_as op)
operation_as (Operation.WordShift op) = shift 5 (word_shift_as op)
operation_as (Operation.Registers op) = registers (registers_as op)
operation_as Operation.Pages = pages Instr.Sfencevma
operation_as (Operation.Csr op) = csr (csr_as op)
operation_as (Operation.CsrValue op) = csr_value (csr_value_as op)
operation_as (Operation.Reserve wide) = reserve (Instr.Lr wide)
operation_as (Operation.Atomic op wide) = atomic (atomic_as op wide)
