-- Each instruction that is listed by its name is read back as itself.
use Rattle.std.proofs.Common.{◌≡◌, refl, subst, ℕ, ◌<◌, ◌≤◌, Bool, true, false, ◌++◌, arith}
use Rattle.std.specs.Prelude.{◌^◌, ◌==◌, if◌then◌else◌, Option, Some, None, nat_eq}
use Rattle.rv64_decode.specs.declared.instruction.Instr.{Instr}
use Rattle.rv64_decode.specs.Encoding.{IsInRange}
use Rattle.asm_text.specs.declared.mnemonic.Mnemonic.{Mnemonic}
use Rattle.asm_text.specs.Table.{name_of}
use Rattle.rv_asm.specs.declared.operands.Operands.{Operands}
use Rattle.rv_asm.specs.declared.operands.Parts.{Parts}
use Rattle.rv_asm.specs.Parts.{parts_of, plain}
use Rattle.rv_asm.specs.Listing.{order_text, operand_text}
use Rattle.asm_laws.proofs.Names.{plain_name, lr_word, lr_double, sc_word, sc_double, amoswap_word, amoswap_double, amoadd_word, amoadd_double, amoxor_word, amoxor_double, amoand_word, amoand_double, amoor_word, amoor_double, amomin_word, amomin_double, amomax_word, amomax_double, amominu_word, amominu_double, amomaxu_word, amomaxu_double}
use Rattle.asm_laws.proofs.Forms.{Says, alone_form, registers_form, pages_form, immediate_form, shift_form, csr_form, csr_value_form, reserve_form, atomic_form}
use Rattle.asm_laws.proofs.Targets.{load_form, store_form, upper_form, jump_form, branch_form}

-- the text of an instruction that has a form
abbrev pub SaysParts : (place : ℕ) → Option Parts → Instr → Type 0
SaysParts place None instr = Unit {0}
SaysParts place (Some parts) instr = Says place (name_of parts.mnemonic ++ order_text parts.aq parts.rl ++ operand_text place parts.operands) instr

-- a fence with a form has the bits of that form
fence_says : (place rest bits : ℕ) (m : Mnemonic) (make : ℕ → Instr) → Says place (name_of m ++ order_text false false ++ operand_text place Operands.Nothing) (make bits)
    → SaysParts place (if rest == bits then plain m Operands.Nothing else None) (make rest)
fence_says place rest bits m make says = by_bits (nat_eq rest bits) refl
  where
    by_bits : (b : Bool) → nat_eq rest bits ≡ b → SaysParts place (if b then plain m Operands.Nothing else None) (make rest)
    by_bits true e = let same : bits ≡ rest = grind (arith, e) in subst (λ n. Says place (name_of m ++ order_text false false ++ operand_text place Operands.Nothing) (make n)) same says
    by_bits false e = tt

few : (n : ℕ) → n < 2 ^ 5 → n < 64
few n h = omega (arith, h)

pub says_instr : (place : ℕ) → 2 ^ 31 ≤ place → place ≤ 2 ^ 32 → (instr : Instr) → IsInRange instr → SaysParts place (parts_of instr) instr
says_instr place above below (Instr.Lui rd imm) h = upper_form place Mnemonic.Lui Instr.Lui (plain_name Mnemonic.Lui) refl rd imm h.0 h.1 h.2
says_instr place above below (Instr.Auipc rd imm) h = upper_form place Mnemonic.Auipc Instr.Auipc (plain_name Mnemonic.Auipc) refl rd imm h.0 h.1 h.2
says_instr place above below (Instr.Jal rd imm) h = jump_form place Mnemonic.Jal Instr.Jal (plain_name Mnemonic.Jal) refl rd imm above below h.0 h.1 h.2
says_instr place above below (Instr.Jalr rd rs1 imm) h = load_form place Mnemonic.Jalr Instr.Jalr (plain_name Mnemonic.Jalr) refl rd rs1 imm h.0 h.1 h.2
says_instr place above below (Instr.Beq rs1 rs2 imm) h = branch_form place Mnemonic.Beq Instr.Beq (plain_name Mnemonic.Beq) refl rs1 rs2 imm above below h.0 h.1 h.2 h.3
says_instr place above below (Instr.Bne rs1 rs2 imm) h = branch_form place Mnemonic.Bne Instr.Bne (plain_name Mnemonic.Bne) refl rs1 rs2 imm above below h.0 h.1 h.2 h.3
says_instr place above below (Instr.Blt rs1 rs2 imm) h = branch_form place Mnemonic.Blt Instr.Blt (plain_name Mnemonic.Blt) refl rs1 rs2 imm above below h.0 h.1 h.2 h.3
says_instr place above below (Instr.Bge rs1 rs2 imm) h = branch_form place Mnemonic.Bge Instr.Bge (plain_name Mnemonic.Bge) refl rs1 rs2 imm above below h.0 h.1 h.2 h.3
says_instr place above below (Instr.Bltu rs1 rs2 imm) h = branch_form place Mnemonic.Bltu Instr.Bltu (plain_name Mnemonic.Bltu) refl rs1 rs2 imm above below h.0 h.1 h.2 h.3
says_instr place above below (Instr.Bgeu rs1 rs2 imm) h = branch_form place Mnemonic.Bgeu Instr.Bgeu (plain_name Mnemonic.Bgeu) refl rs1 rs2 imm above below h.0 h.1 h.2 h.3
says_instr place above below (Instr.Lb rd rs1 imm) h = load_form place Mnemonic.Lb Instr.Lb (plain_name Mnemonic.Lb) refl rd rs1 imm h.0 h.1 h.2
says_instr place above below (Instr.Lh rd rs1 imm) h = load_form place Mnemonic.Lh Instr.Lh (plain_name Mnemonic.Lh) refl rd rs1 imm h.0 h.1 h.2
says_instr place above below (Instr.Lw rd rs1 imm) h = load_form place Mnemonic.Lw Instr.Lw (plain_name Mnemonic.Lw) refl rd rs1 imm h.0 h.1 h.2
says_instr place above below (Instr.Ld rd rs1 imm) h = load_form place Mnemonic.Ld Instr.Ld (plain_name Mnemonic.Ld) refl rd rs1 imm h.0 h.1 h.2
says_instr place above below (Instr.Lbu rd rs1 imm) h = load_form place Mnemonic.Lbu Instr.Lbu (plain_name Mnemonic.Lbu) refl rd rs1 imm h.0 h.1 h.2
says_instr place above below (Instr.Lhu rd rs1 imm) h = load_form place Mnemonic.Lhu Instr.Lhu (plain_name Mnemonic.Lhu) refl rd rs1 imm h.0 h.1 h.2
says_instr place above below (Instr.Lwu rd rs1 imm) h = load_form place Mnemonic.Lwu Instr.Lwu (plain_name Mnemonic.Lwu) refl rd rs1 imm h.0 h.1 h.2
says_instr place above below (Instr.Sb rs1 rs2 imm) h = store_form place Mnemonic.Sb Instr.Sb (plain_name Mnemonic.Sb) refl rs1 rs2 imm h.0 h.1 h.2
says_instr place above below (Instr.Sh rs1 rs2 imm) h = store_form place Mnemonic.Sh Instr.Sh (plain_name Mnemonic.Sh) refl rs1 rs2 imm h.0 h.1 h.2
says_instr place above below (Instr.Sw rs1 rs2 imm) h = store_form place Mnemonic.Sw Instr.Sw (plain_name Mnemonic.Sw) refl rs1 rs2 imm h.0 h.1 h.2
says_instr place above below (Instr.Sd rs1 rs2 imm) h = store_form place Mnemonic.Sd Instr.Sd (plain_name Mnemonic.Sd) refl rs1 rs2 imm h.0 h.1 h.2
says_instr place above below (Instr.Addi rd rs1 imm) h = immediate_form place Mnemonic.Addi Instr.Addi (plain_name Mnemonic.Addi) refl rd rs1 imm h.0 h.1 h.2
says_instr place above below (Instr.Slti rd rs1 imm) h = immediate_form place Mnemonic.Slti Instr.Slti (plain_name Mnemonic.Slti) refl rd rs1 imm h.0 h.1 h.2
says_instr place above below (Instr.Sltiu rd rs1 imm) h = immediate_form place Mnemonic.Sltiu Instr.Sltiu (plain_name Mnemonic.Sltiu) refl rd rs1 imm h.0 h.1 h.2
says_instr place above below (Instr.Xori rd rs1 imm) h = immediate_form place Mnemonic.Xori Instr.Xori (plain_name Mnemonic.Xori) refl rd rs1 imm h.0 h.1 h.2
says_instr place above below (Instr.Ori rd rs1 imm) h = immediate_form place Mnemonic.Ori Instr.Ori (plain_name Mnemonic.Ori) refl rd rs1 imm h.0 h.1 h.2
says_instr place above below (Instr.Andi rd rs1 imm) h = immediate_form place Mnemonic.Andi Instr.Andi (plain_name Mnemonic.Andi) refl rd rs1 imm h.0 h.1 h.2
says_instr place above below (Instr.Slli rd rs1 amount) h = shift_form place Mnemonic.Slli 6 Instr.Slli (plain_name Mnemonic.Slli) refl rd rs1 amount h.0 h.1 h.2 h.2
says_instr place above below (Instr.Srli rd rs1 amount) h = shift_form place Mnemonic.Srli 6 Instr.Srli (plain_name Mnemonic.Srli) refl rd rs1 amount h.0 h.1 h.2 h.2
says_instr place above below (Instr.Srai rd rs1 amount) h = shift_form place Mnemonic.Srai 6 Instr.Srai (plain_name Mnemonic.Srai) refl rd rs1 amount h.0 h.1 h.2 h.2
says_instr place above below (Instr.Addiw rd rs1 imm) h = immediate_form place Mnemonic.Addiw Instr.Addiw (plain_name Mnemonic.Addiw) refl rd rs1 imm h.0 h.1 h.2
says_instr place above below (Instr.Slliw rd rs1 amount) h = shift_form place Mnemonic.Slliw 5 Instr.Slliw (plain_name Mnemonic.Slliw) refl rd rs1 amount h.0 h.1 h.2 (few amount h.2)
says_instr place above below (Instr.Srliw rd rs1 amount) h = shift_form place Mnemonic.Srliw 5 Instr.Srliw (plain_name Mnemonic.Srliw) refl rd rs1 amount h.0 h.1 h.2 (few amount h.2)
says_instr place above below (Instr.Sraiw rd rs1 amount) h = shift_form place Mnemonic.Sraiw 5 Instr.Sraiw (plain_name Mnemonic.Sraiw) refl rd rs1 amount h.0 h.1 h.2 (few amount h.2)
says_instr place above below (Instr.Add rd rs1 rs2) h = registers_form place Mnemonic.Add Instr.Add (plain_name Mnemonic.Add) refl rd rs1 rs2 h.0 h.1 h.2
says_instr place above below (Instr.Sll rd rs1 rs2) h = registers_form place Mnemonic.Sll Instr.Sll (plain_name Mnemonic.Sll) refl rd rs1 rs2 h.0 h.1 h.2
says_instr place above below (Instr.Slt rd rs1 rs2) h = registers_form place Mnemonic.Slt Instr.Slt (plain_name Mnemonic.Slt) refl rd rs1 rs2 h.0 h.1 h.2
says_instr place above below (Instr.Sltu rd rs1 rs2) h = registers_form place Mnemonic.Sltu Instr.Sltu (plain_name Mnemonic.Sltu) refl rd rs1 rs2 h.0 h.1 h.2
says_instr place above below (Instr.Xor rd rs1 rs2) h = registers_form place Mnemonic.Xor Instr.Xor (plain_name Mnemonic.Xor) refl rd rs1 rs2 h.0 h.1 h.2
says_instr place above below (Instr.Srl rd rs1 rs2) h = registers_form place Mnemonic.Srl Instr.Srl (plain_name Mnemonic.Srl) refl rd rs1 rs2 h.0 h.1 h.2
says_instr place above below (Instr.Or rd rs1 rs2) h = registers_form place Mnemonic.Or Instr.Or (plain_name Mnemonic.Or) refl rd rs1 rs2 h.0 h.1 h.2
says_instr place above below (Instr.And rd rs1 rs2) h = registers_form place Mnemonic.And Instr.And (plain_name Mnemonic.And) refl rd rs1 rs2 h.0 h.1 h.2
says_instr place above below (Instr.Sub rd rs1 rs2) h = registers_form place Mnemonic.Sub Instr.Sub (plain_name Mnemonic.Sub) refl rd rs1 rs2 h.0 h.1 h.2
says_instr place above below (Instr.Sra rd rs1 rs2) h = registers_form place Mnemonic.Sra Instr.Sra (plain_name Mnemonic.Sra) refl rd rs1 rs2 h.0 h.1 h.2
says_instr place above below (Instr.Addw rd rs1 rs2) h = registers_form place Mnemonic.Addw Instr.Addw (plain_name Mnemonic.Addw) refl rd rs1 rs2 h.0 h.1 h.2
says_instr place above below (Instr.Sllw rd rs1 rs2) h = registers_form place Mnemonic.Sllw Instr.Sllw (plain_name Mnemonic.Sllw) refl rd rs1 rs2 h.0 h.1 h.2
says_instr place above below (Instr.Srlw rd rs1 rs2) h = registers_form place Mnemonic.Srlw Instr.Srlw (plain_name Mnemonic.Srlw) refl rd rs1 rs2 h.0 h.1 h.2
says_instr place above below (Instr.Subw rd rs1 rs2) h = registers_form place Mnemonic.Subw Instr.Subw (plain_name Mnemonic.Subw) refl rd rs1 rs2 h.0 h.1 h.2
says_instr place above below (Instr.Sraw rd rs1 rs2) h = registers_form place Mnemonic.Sraw Instr.Sraw (plain_name Mnemonic.Sraw) refl rd rs1 rs2 h.0 h.1 h.2
says_instr place above below (Instr.Mul rd rs1 rs2) h = registers_form place Mnemonic.Mul Instr.Mul (plain_name Mnemonic.Mul) refl rd rs1 rs2 h.0 h.1 h.2
says_instr place above below (Instr.Mulh rd rs1 rs2) h = registers_form place Mnemonic.Mulh Instr.Mulh (plain_name Mnemonic.Mulh) refl rd rs1 rs2 h.0 h.1 h.2
says_instr place above below (Instr.Mulhsu rd rs1 rs2) h = registers_form place Mnemonic.Mulhsu Instr.Mulhsu (plain_name Mnemonic.Mulhsu) refl rd rs1 rs2 h.0 h.1 h.2
says_instr place above below (Instr.Mulhu rd rs1 rs2) h = registers_form place Mnemonic.Mulhu Instr.Mulhu (plain_name Mnemonic.Mulhu) refl rd rs1 rs2 h.0 h.1 h.2
says_instr place above below (Instr.Div rd rs1 rs2) h = registers_form place Mnemonic.Div Instr.Div (plain_name Mnemonic.Div) refl rd rs1 rs2 h.0 h.1 h.2
says_instr place above below (Instr.Divu rd rs1 rs2) h = registers_form place Mnemonic.Divu Instr.Divu (plain_name Mnemonic.Divu) refl rd rs1 rs2 h.0 h.1 h.2
says_instr place above below (Instr.Rem rd rs1 rs2) h = registers_form place Mnemonic.Rem Instr.Rem (plain_name Mnemonic.Rem) refl rd rs1 rs2 h.0 h.1 h.2
says_instr place above below (Instr.Remu rd rs1 rs2) h = registers_form place Mnemonic.Remu Instr.Remu (plain_name Mnemonic.Remu) refl rd rs1 rs2 h.0 h.1 h.2
says_instr place above below (Instr.Mulw rd rs1 rs2) h = registers_form place Mnemonic.Mulw Instr.Mulw (plain_name Mnemonic.Mulw) refl rd rs1 rs2 h.0 h.1 h.2
says_instr place above below (Instr.Divw rd rs1 rs2) h = registers_form place Mnemonic.Divw Instr.Divw (plain_name Mnemonic.Divw) refl rd rs1 rs2 h.0 h.1 h.2
says_instr place above below (Instr.Divuw rd rs1 rs2) h = registers_form place Mnemonic.Divuw Instr.Divuw (plain_name Mnemonic.Divuw) refl rd rs1 rs2 h.0 h.1 h.2
says_instr place above below (Instr.Remw rd rs1 rs2) h = registers_form place Mnemonic.Remw Instr.Remw (plain_name Mnemonic.Remw) refl rd rs1 rs2 h.0 h.1 h.2
says_instr place above below (Instr.Remuw rd rs1 rs2) h = registers_form place Mnemonic.Remuw Instr.Remuw (plain_name Mnemonic.Remuw) refl rd rs1 rs2 h.0 h.1 h.2
says_instr place above below (Instr.Fence rest) h = fence_says place rest 0x0ff0_0000 Mnemonic.Fence Instr.Fence (alone_form place Mnemonic.Fence (Instr.Fence 0x0ff0_0000) (plain_name Mnemonic.Fence) refl)
says_instr place above below (Instr.Fencei rest) h = fence_says place rest 0 Mnemonic.Fencei Instr.Fencei (alone_form place Mnemonic.Fencei (Instr.Fencei 0) (plain_name Mnemonic.Fencei) refl)
says_instr place above below Instr.Ecall h = alone_form place Mnemonic.Ecall Instr.Ecall (plain_name Mnemonic.Ecall) refl
says_instr place above below Instr.Ebreak h = alone_form place Mnemonic.Ebreak Instr.Ebreak (plain_name Mnemonic.Ebreak) refl
says_instr place above below Instr.Sret h = alone_form place Mnemonic.Sret Instr.Sret (plain_name Mnemonic.Sret) refl
says_instr place above below Instr.Wfi h = alone_form place Mnemonic.Wfi Instr.Wfi (plain_name Mnemonic.Wfi) refl
says_instr place above below (Instr.Sfencevma rs1 rs2) h = pages_form place Mnemonic.Sfencevma Instr.Sfencevma (plain_name Mnemonic.Sfencevma) refl rs1 rs2 h.1 h.2
says_instr place above below (Instr.Csrrw rd rs1 csr) h = csr_form place Mnemonic.Csrrw Instr.Csrrw (plain_name Mnemonic.Csrrw) refl rd rs1 csr h.0 h.1 h.2
says_instr place above below (Instr.Csrrs rd rs1 csr) h = csr_form place Mnemonic.Csrrs Instr.Csrrs (plain_name Mnemonic.Csrrs) refl rd rs1 csr h.0 h.1 h.2
says_instr place above below (Instr.Csrrc rd rs1 csr) h = csr_form place Mnemonic.Csrrc Instr.Csrrc (plain_name Mnemonic.Csrrc) refl rd rs1 csr h.0 h.1 h.2
says_instr place above below (Instr.Csrrwi rd value csr) h = csr_value_form place Mnemonic.Csrrwi Instr.Csrrwi (plain_name Mnemonic.Csrrwi) refl rd value csr h.0 h.1 h.2
says_instr place above below (Instr.Csrrsi rd value csr) h = csr_value_form place Mnemonic.Csrrsi Instr.Csrrsi (plain_name Mnemonic.Csrrsi) refl rd value csr h.0 h.1 h.2
says_instr place above below (Instr.Csrrci rd value csr) h = csr_value_form place Mnemonic.Csrrci Instr.Csrrci (plain_name Mnemonic.Csrrci) refl rd value csr h.0 h.1 h.2
says_instr place above below (Instr.Lr false aq rl rd rs1) h = reserve_form place Mnemonic.LrW aq rl (Instr.Lr false) (lr_word aq rl) refl rd rs1 h.0 h.1
says_instr place above below (Instr.Lr true aq rl rd rs1) h = reserve_form place Mnemonic.LrD aq rl (Instr.Lr true) (lr_double aq rl) refl rd rs1 h.0 h.1
says_instr place above below (Instr.Sc false aq rl rd rs1 rs2) h = atomic_form place Mnemonic.ScW aq rl (Instr.Sc false) (sc_word aq rl) refl rd rs1 rs2 h.0 h.1 h.2
says_instr place above below (Instr.Sc true aq rl rd rs1 rs2) h = atomic_form place Mnemonic.ScD aq rl (Instr.Sc true) (sc_double aq rl) refl rd rs1 rs2 h.0 h.1 h.2
says_instr place above below (Instr.Amoswap false aq rl rd rs1 rs2) h = atomic_form place Mnemonic.AmoswapW aq rl (Instr.Amoswap false) (amoswap_word aq rl) refl rd rs1 rs2 h.0 h.1 h.2
says_instr place above below (Instr.Amoswap true aq rl rd rs1 rs2) h = atomic_form place Mnemonic.AmoswapD aq rl (Instr.Amoswap true) (amoswap_double aq rl) refl rd rs1 rs2 h.0 h.1 h.2
says_instr place above below (Instr.Amoadd false aq rl rd rs1 rs2) h = atomic_form place Mnemonic.AmoaddW aq rl (Instr.Amoadd false) (amoadd_word aq rl) refl rd rs1 rs2 h.0 h.1 h.2
says_instr place above below (Instr.Amoadd true aq rl rd rs1 rs2) h = atomic_form place Mnemonic.AmoaddD aq rl (Instr.Amoadd true) (amoadd_double aq rl) refl rd rs1 rs2 h.0 h.1 h.2
says_instr place above below (Instr.Amoxor false aq rl rd rs1 rs2) h = atomic_form place Mnemonic.AmoxorW aq rl (Instr.Amoxor false) (amoxor_word aq rl) refl rd rs1 rs2 h.0 h.1 h.2
says_instr place above below (Instr.Amoxor true aq rl rd rs1 rs2) h = atomic_form place Mnemonic.AmoxorD aq rl (Instr.Amoxor true) (amoxor_double aq rl) refl rd rs1 rs2 h.0 h.1 h.2
says_instr place above below (Instr.Amoand false aq rl rd rs1 rs2) h = atomic_form place Mnemonic.AmoandW aq rl (Instr.Amoand false) (amoand_word aq rl) refl rd rs1 rs2 h.0 h.1 h.2
says_instr place above below (Instr.Amoand true aq rl rd rs1 rs2) h = atomic_form place Mnemonic.AmoandD aq rl (Instr.Amoand true) (amoand_double aq rl) refl rd rs1 rs2 h.0 h.1 h.2
says_instr place above below (Instr.Amoor false aq rl rd rs1 rs2) h = atomic_form place Mnemonic.AmoorW aq rl (Instr.Amoor false) (amoor_word aq rl) refl rd rs1 rs2 h.0 h.1 h.2
says_instr place above below (Instr.Amoor true aq rl rd rs1 rs2) h = atomic_form place Mnemonic.AmoorD aq rl (Instr.Amoor true) (amoor_double aq rl) refl rd rs1 rs2 h.0 h.1 h.2
says_instr place above below (Instr.Amomin false aq rl rd rs1 rs2) h = atomic_form place Mnemonic.AmominW aq rl (Instr.Amomin false) (amomin_word aq rl) refl rd rs1 rs2 h.0 h.1 h.2
says_instr place above below (Instr.Amomin true aq rl rd rs1 rs2) h = atomic_form place Mnemonic.AmominD aq rl (Instr.Amomin true) (amomin_double aq rl) refl rd rs1 rs2 h.0 h.1 h.2
says_instr place above below (Instr.Amomax false aq rl rd rs1 rs2) h = atomic_form place Mnemonic.AmomaxW aq rl (Instr.Amomax false) (amomax_word aq rl) refl rd rs1 rs2 h.0 h.1 h.2
says_instr place above below (Instr.Amomax true aq rl rd rs1 rs2) h = atomic_form place Mnemonic.AmomaxD aq rl (Instr.Amomax true) (amomax_double aq rl) refl rd rs1 rs2 h.0 h.1 h.2
says_instr place above below (Instr.Amominu false aq rl rd rs1 rs2) h = atomic_form place Mnemonic.AmominuW aq rl (Instr.Amominu false) (amominu_word aq rl) refl rd rs1 rs2 h.0 h.1 h.2
says_instr place above below (Instr.Amominu true aq rl rd rs1 rs2) h = atomic_form place Mnemonic.AmominuD aq rl (Instr.Amominu true) (amominu_double aq rl) refl rd rs1 rs2 h.0 h.1 h.2
says_instr place above below (Instr.Amomaxu false aq rl rd rs1 rs2) h = atomic_form place Mnemonic.AmomaxuW aq rl (Instr.Amomaxu false) (amomaxu_word aq rl) refl rd rs1 rs2 h.0 h.1 h.2
says_instr place above below (Instr.Amomaxu true aq rl rd rs1 rs2) h = atomic_form place Mnemonic.AmomaxuD aq rl (Instr.Amomaxu true) (amomaxu_double aq rl) refl rd rs1 rs2 h.0 h.1 h.2
