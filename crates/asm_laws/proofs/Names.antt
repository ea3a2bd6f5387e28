-- What each name says, as a listing writes it.
use Rattle.std.proofs.Common.{◌≡◌, refl, ℕ, Bool, true, false, List, ◌++◌}
use Rattle.std.specs.List.{list_all}
use Rattle.asm_text.specs.declared.mnemonic.Mnemonic.{Mnemonic}
use Rattle.asm_text.specs.Table.{name_of, shape_of}
use Rattle.asm_text.specs.Operand.{is_empty, values_of}
use Rattle.asm_text.specs.Action.{action_of, coded, form_of, kinds_of, makes}
use Rattle.rv_asm.specs.Listing.{order_text}
use Rattle.asm_laws.proofs.Pieces.{is_piece_byte}

-- a name is a word, and says its instruction
pub record NameSays (m : Mnemonic) (aq rl : Bool) : Type 0 where
  pub said : (operands : List (List ℕ)) → action_of (name_of m ++ order_text aq rl) operands ≡ makes (coded aq rl m) (values_of (kinds_of (form_of (shape_of m))) operands)
  pub bytes : list_all is_piece_byte (name_of m ++ order_text aq rl) ≡ true
  pub some : is_empty (name_of m ++ order_text aq rl) ≡ false

-- without bits
pub plain_name : (m : Mnemonic) → NameSays m false false
plain_name Mnemonic.Lui = record { said = λ operands. refl; bytes = refl; some = refl }
plain_name Mnemonic.Auipc = record { said = λ operands. refl; bytes = refl; some = refl }
plain_name Mnemonic.Jal = record { said = λ operands. refl; bytes = refl; some = refl }
plain_name Mnemonic.Beq = record { said = λ operands. refl; bytes = refl; some = refl }
plain_name Mnemonic.Bne = record { said = λ operands. refl; bytes = refl; some = refl }
plain_name Mnemonic.Blt = record { said = λ operands. refl; bytes = refl; some = refl }
plain_name Mnemonic.Bge = record { said = λ operands. refl; bytes = refl; some = refl }
plain_name Mnemonic.Bltu = record { said = λ operands. refl; bytes = refl; some = refl }
plain_name Mnemonic.Bgeu = record { said = λ operands. refl; bytes = refl; some = refl }
plain_name Mnemonic.Jalr = record { said = λ operands. refl; bytes = refl; some = refl }
plain_name Mnemonic.Lb = record { said = λ operands. refl; bytes = refl; some = refl }
plain_name Mnemonic.Lh = record { said = λ operands. refl; bytes = refl; some = refl }
plain_name Mnemonic.Lw = record { said = λ operands. refl; bytes = refl; some = refl }
plain_name Mnemonic.Ld = record { said = λ operands. refl; bytes = refl; some = refl }
plain_name Mnemonic.Lbu = record { said = λ operands. refl; bytes = refl; some = refl }
plain_name Mnemonic.Lhu = record { said = λ operands. refl; bytes = refl; some = refl }
plain_name Mnemonic.Lwu = record { said = λ operands. refl; bytes = refl; some = refl }
plain_name Mnemonic.Sb = record { said = λ operands. refl; bytes = refl; some = refl }
plain_name Mnemonic.Sh = record { said = λ operands. refl; bytes = refl; some = refl }
plain_name Mnemonic.Sw = record { said = λ operands. refl; bytes = refl; some = refl }
plain_name Mnemonic.Sd = record { said = λ operands. refl; bytes = refl; some = refl }
plain_name Mnemonic.Addi = record { said = λ operands. refl; bytes = refl; some = refl }
plain_name Mnemonic.Slti = record { said = λ operands. refl; bytes = refl; some = refl }
plain_name Mnemonic.Sltiu = record { said = λ operands. refl; bytes = refl; some = refl }
plain_name Mnemonic.Xori = record { said = λ operands. refl; bytes = refl; some = refl }
plain_name Mnemonic.Ori = record { said = λ operands. refl; bytes = refl; some = refl }
plain_name Mnemonic.Andi = record { said = λ operands. refl; bytes = refl; some = refl }
plain_name Mnemonic.Addiw = record { said = λ operands. refl; bytes = refl; some = refl }
plain_name Mnemonic.Slli = record { said = λ operands. refl; bytes = refl; some = refl }
plain_name Mnemonic.Srli = record { said = λ operands. refl; bytes = refl; some = refl }
plain_name Mnemonic.Srai = record { said = λ operands. refl; bytes = refl; some = refl }
plain_name Mnemonic.Slliw = record { said = λ operands. refl; bytes = refl; some = refl }
plain_name Mnemonic.Srliw = record { said = λ operands. refl; bytes = refl; some = refl }
plain_name Mnemonic.Sraiw = record { said = λ operands. refl; bytes = refl; some = refl }
plain_name Mnemonic.Add = record { said = λ operands. refl; bytes = refl; some = refl }
plain_name Mnemonic.Sub = record { said = λ operands. refl; bytes = refl; some = refl }
plain_name Mnemonic.Sll = record { said = λ operands. refl; bytes = refl; some = refl }
plain_name Mnemonic.Slt = record { said = λ operands. refl; bytes = refl; some = refl }
plain_name Mnemonic.Sltu = record { said = λ operands. refl; bytes = refl; some = refl }
plain_name Mnemonic.Xor = record { said = λ operands. refl; bytes = refl; some = refl }
plain_name Mnemonic.Srl = record { said = λ operands. refl; bytes = refl; some = refl }
plain_name Mnemonic.Sra = record { said = λ operands. refl; bytes = refl; some = refl }
plain_name Mnemonic.Or = record { said = λ operands. refl; bytes = refl; some = refl }
plain_name Mnemonic.And = record { said = λ operands. refl; bytes = refl; some = refl }
plain_name Mnemonic.Addw = record { said = λ operands. refl; bytes = refl; some = refl }
plain_name Mnemonic.Subw = record { said = λ operands. refl; bytes = refl; some = refl }
plain_name Mnemonic.Sllw = record { said = λ operands. refl; bytes = refl; some = refl }
plain_name Mnemonic.Srlw = record { said = λ operands. refl; bytes = refl; some = refl }
plain_name Mnemonic.Sraw = record { said = λ operands. refl; bytes = refl; some = refl }
plain_name Mnemonic.Mul = record { said = λ operands. refl; bytes = refl; some = refl }
plain_name Mnemonic.Mulh = record { said = λ operands. refl; bytes = refl; some = refl }
plain_name Mnemonic.Mulhsu = record { said = λ operands. refl; bytes = refl; some = refl }
plain_name Mnemonic.Mulhu = record { said = λ operands. refl; bytes = refl; some = refl }
plain_name Mnemonic.Div = record { said = λ operands. refl; bytes = refl; some = refl }
plain_name Mnemonic.Divu = record { said = λ operands. refl; bytes = refl; some = refl }
plain_name Mnemonic.Rem = record { said = λ operands. refl; bytes = refl; some = refl }
plain_name Mnemonic.Remu = record { said = λ operands. refl; bytes = refl; some = refl }
plain_name Mnemonic.Mulw = record { said = λ operands. refl; bytes = refl; some = refl }
plain_name Mnemonic.Divw = record { said = λ operands. refl; bytes = refl; some = refl }
plain_name Mnemonic.Divuw = record { said = λ operands. refl; bytes = refl; some = refl }
plain_name Mnemonic.Remw = record { said = λ operands. refl; bytes = refl; some = refl }
plain_name Mnemonic.Remuw = record { said = λ operands. refl; bytes = refl; some = refl }
plain_name Mnemonic.Csrrw = record { said = λ operands. refl; bytes = refl; some = refl }
plain_name Mnemonic.Csrrs = record { said = λ operands. refl; bytes = refl; some = refl }
plain_name Mnemonic.Csrrc = record { said = λ operands. refl; bytes = refl; some = refl }
plain_name Mnemonic.Csrrwi = record { said = λ operands. refl; bytes = refl; some = refl }
plain_name Mnemonic.Csrrsi = record { said = λ operands. refl; bytes = refl; some = refl }
plain_name Mnemonic.Csrrci = record { said = λ operands. refl; bytes = refl; some = refl }
plain_name Mnemonic.Fence = record { said = λ operands. refl; bytes = refl; some = refl }
plain_name Mnemonic.Fencei = record { said = λ operands. refl; bytes = refl; some = refl }
plain_name Mnemonic.Ecall = record { said = λ operands. refl; bytes = refl; some = refl }
plain_name Mnemonic.Ebreak = record { said = λ operands. refl; bytes = refl; some = refl }
plain_name Mnemonic.Sret = record { said = λ operands. refl; bytes = refl; some = refl }
plain_name Mnemonic.Wfi = record { said = λ operands. refl; bytes = refl; some = refl }
plain_name Mnemonic.Sfencevma = record { said = λ operands. refl; bytes = refl; some = refl }
plain_name Mnemonic.LrW = record { said = λ operands. refl; bytes = refl; some = refl }
plain_name Mnemonic.LrD = record { said = λ operands. refl; bytes = refl; some = refl }
plain_name Mnemonic.ScW = record { said = λ operands. refl; bytes = refl; some = refl }
plain_name Mnemonic.ScD = record { said = λ operands. refl; bytes = refl; some = refl }
plain_name Mnemonic.AmoswapW = record { said = λ operands. refl; bytes = refl; some = refl }
plain_name Mnemonic.AmoswapD = record { said = λ operands. refl; bytes = refl; some = refl }
plain_name Mnemonic.AmoaddW = record { said = λ operands. refl; bytes = refl; some = refl }
plain_name Mnemonic.AmoaddD = record { said = λ operands. refl; bytes = refl; some = refl }
plain_name Mnemonic.AmoxorW = record { said = λ operands. refl; bytes = refl; some = refl }
plain_name Mnemonic.AmoxorD = record { said = λ operands. refl; bytes = refl; some = refl }
plain_name Mnemonic.AmoandW = record { said = λ operands. refl; bytes = refl; some = refl }
plain_name Mnemonic.AmoandD = record { said = λ operands. refl; bytes = refl; some = refl }
plain_name Mnemonic.AmoorW = record { said = λ operands. refl; bytes = refl; some = refl }
plain_name Mnemonic.AmoorD = record { said = λ operands. refl; bytes = refl; some = refl }
plain_name Mnemonic.AmominW = record { said = λ operands. refl; bytes = refl; some = refl }
plain_name Mnemonic.AmominD = record { said = λ operands. refl; bytes = refl; some = refl }
plain_name Mnemonic.AmomaxW = record { said = λ operands. refl; bytes = refl; some = refl }
plain_name Mnemonic.AmomaxD = record { said = λ operands. refl; bytes = refl; some = refl }
plain_name Mnemonic.AmominuW = record { said = λ operands. refl; bytes = refl; some = refl }
plain_name Mnemonic.AmominuD = record { said = λ operands. refl; bytes = refl; some = refl }
plain_name Mnemonic.AmomaxuW = record { said = λ operands. refl; bytes = refl; some = refl }
plain_name Mnemonic.AmomaxuD = record { said = λ operands. refl; bytes = refl; some = refl }

-- of atomic operations, with the bits

pub lr_word : (aq rl : Bool) → NameSays Mnemonic.LrW aq rl
lr_word false false = plain_name Mnemonic.LrW
lr_word true false = record { said = λ operands. refl; bytes = refl; some = refl }
lr_word false true = record { said = λ operands. refl; bytes = refl; some = refl }
lr_word true true = record { said = λ operands. refl; bytes = refl; some = refl }

pub lr_double : (aq rl : Bool) → NameSays Mnemonic.LrD aq rl
lr_double false false = plain_name Mnemonic.LrD
lr_double true false = record { said = λ operands. refl; bytes = refl; some = refl }
lr_double false true = record { said = λ operands. refl; bytes = refl; some = refl }
lr_double true true = record { said = λ operands. refl; bytes = refl; some = refl }

pub sc_word : (aq rl : Bool) → NameSays Mnemonic.ScW aq rl
sc_word false false = plain_name Mnemonic.ScW
sc_word true false = record { said = λ operands. refl; bytes = refl; some = refl }
sc_word false true = record { said = λ operands. refl; bytes = refl; some = refl }
sc_word true true = record { said = λ operands. refl; bytes = refl; some = refl }

pub sc_double : (aq rl : Bool) → NameSays Mnemonic.ScD aq rl
sc_double false false = plain_name Mnemonic.ScD
sc_double true false = record { said = λ operands. refl; bytes = refl; some = refl }
sc_double false true = record { said = λ operands. refl; bytes = refl; some = refl }
sc_double true true = record { said = λ operands. refl; bytes = refl; some = refl }

pub amoswap_word : (aq rl : Bool) → NameSays Mnemonic.AmoswapW aq rl
amoswap_word false false = plain_name Mnemonic.AmoswapW
amoswap_word true false = record { said = λ operands. refl; bytes = refl; some = refl }
amoswap_word false true = record { said = λ operands. refl; bytes = refl; some = refl }
amoswap_word true true = record { said = λ operands. refl; bytes = refl; some = refl }

pub amoswap_double : (aq rl : Bool) → NameSays Mnemonic.AmoswapD aq rl
amoswap_double false false = plain_name Mnemonic.AmoswapD
amoswap_double true false = record { said = λ operands. refl; bytes = refl; some = refl }
amoswap_double false true = record { said = λ operands. refl; bytes = refl; some = refl }
amoswap_double true true = record { said = λ operands. refl; bytes = refl; some = refl }

pub amoadd_word : (aq rl : Bool) → NameSays Mnemonic.AmoaddW aq rl
amoadd_word false false = plain_name Mnemonic.AmoaddW
amoadd_word true false = record { said = λ operands. refl; bytes = refl; some = refl }
amoadd_word false true = record { said = λ operands. refl; bytes = refl; some = refl }
amoadd_word true true = record { said = λ operands. refl; bytes = refl; some = refl }

pub amoadd_double : (aq rl : Bool) → NameSays Mnemonic.AmoaddD aq rl
amoadd_double false false = plain_name Mnemonic.AmoaddD
amoadd_double true false = record { said = λ operands. refl; bytes = refl; some = refl }
amoadd_double false true = record { said = λ operands. refl; bytes = refl; some = refl }
amoadd_double true true = record { said = λ operands. refl; bytes = refl; some = refl }

pub amoxor_word : (aq rl : Bool) → NameSays Mnemonic.AmoxorW aq rl
amoxor_word false false = plain_name Mnemonic.AmoxorW
amoxor_word true false = record { said = λ operands. refl; bytes = refl; some = refl }
amoxor_word false true = record { said = λ operands. refl; bytes = refl; some = refl }
amoxor_word true true = record { said = λ operands. refl; bytes = refl; some = refl }

pub amoxor_double : (aq rl : Bool) → NameSays Mnemonic.AmoxorD aq rl
amoxor_double false false = plain_name Mnemonic.AmoxorD
amoxor_double true false = record { said = λ operands. refl; bytes = refl; some = refl }
amoxor_double false true = record { said = λ operands. refl; bytes = refl; some = refl }
amoxor_double true true = record { said = λ operands. refl; bytes = refl; some = refl }

pub amoand_word : (aq rl : Bool) → NameSays Mnemonic.AmoandW aq rl
amoand_word false false = plain_name Mnemonic.AmoandW
amoand_word true false = record { said = λ operands. refl; bytes = refl; some = refl }
amoand_word false true = record { said = λ operands. refl; bytes = refl; some = refl }
amoand_word true true = record { said = λ operands. refl; bytes = refl; some = refl }

pub amoand_double : (aq rl : Bool) → NameSays Mnemonic.AmoandD aq rl
amoand_double false false = plain_name Mnemonic.AmoandD
amoand_double true false = record { said = λ operands. refl; bytes = refl; some = refl }
amoand_double false true = record { said = λ operands. refl; bytes = refl; some = refl }
amoand_double true true = record { said = λ operands. refl; bytes = refl; some = refl }

pub amoor_word : (aq rl : Bool) → NameSays Mnemonic.AmoorW aq rl
amoor_word false false = plain_name Mnemonic.AmoorW
amoor_word true false = record { said = λ operands. refl; bytes = refl; some = refl }
amoor_word false true = record { said = λ operands. refl; bytes = refl; some = refl }
amoor_word true true = record { said = λ operands. refl; bytes = refl; some = refl }

pub amoor_double : (aq rl : Bool) → NameSays Mnemonic.AmoorD aq rl
amoor_double false false = plain_name Mnemonic.AmoorD
amoor_double true false = record { said = λ operands. refl; bytes = refl; some = refl }
amoor_double false true = record { said = λ operands. refl; bytes = refl; some = refl }
amoor_double true true = record { said = λ operands. refl; bytes = refl; some = refl }

pub amomin_word : (aq rl : Bool) → NameSays Mnemonic.AmominW aq rl
amomin_word false false = plain_name Mnemonic.AmominW
amomin_word true false = record { said = λ operands. refl; bytes = refl; some = refl }
amomin_word false true = record { said = λ operands. refl; bytes = refl; some = refl }
amomin_word true true = record { said = λ operands. refl; bytes = refl; some = refl }

pub amomin_double : (aq rl : Bool) → NameSays Mnemonic.AmominD aq rl
amomin_double false false = plain_name Mnemonic.AmominD
amomin_double true false = record { said = λ operands. refl; bytes = refl; some = refl }
amomin_double false true = record { said = λ operands. refl; bytes = refl; some = refl }
amomin_double true true = record { said = λ operands. refl; bytes = refl; some = refl }

pub amomax_word : (aq rl : Bool) → NameSays Mnemonic.AmomaxW aq rl
amomax_word false false = plain_name Mnemonic.AmomaxW
amomax_word true false = record { said = λ operands. refl; bytes = refl; some = refl }
amomax_word false true = record { said = λ operands. refl; bytes = refl; some = refl }
amomax_word true true = record { said = λ operands. refl; bytes = refl; some = refl }

pub amomax_double : (aq rl : Bool) → NameSays Mnemonic.AmomaxD aq rl
amomax_double false false = plain_name Mnemonic.AmomaxD
amomax_double true false = record { said = λ operands. refl; bytes = refl; some = refl }
amomax_double false true = record { said = λ operands. refl; bytes = refl; some = refl }
amomax_double true true = record { said = λ operands. refl; bytes = refl; some = refl }

pub amominu_word : (aq rl : Bool) → NameSays Mnemonic.AmominuW aq rl
amominu_word false false = plain_name Mnemonic.AmominuW
amominu_word true false = record { said = λ operands. refl; bytes = refl; some = refl }
amominu_word false true = record { said = λ operands. refl; bytes = refl; some = refl }
amominu_word true true = record { said = λ operands. refl; bytes = refl; some = refl }

pub amominu_double : (aq rl : Bool) → NameSays Mnemonic.AmominuD aq rl
amominu_double false false = plain_name Mnemonic.AmominuD
amominu_double true false = record { said = λ operands. refl; bytes = refl; some = refl }
amominu_double false true = record { said = λ operands. refl; bytes = refl; some = refl }
amominu_double true true = record { said = λ operands. refl; bytes = refl; some = refl }

pub amomaxu_word : (aq rl : Bool) → NameSays Mnemonic.AmomaxuW aq rl
amomaxu_word false false = plain_name Mnemonic.AmomaxuW
amomaxu_word true false = record { said = λ operands. refl; bytes = refl; some = refl }
amomaxu_word false true = record { said = λ operands. refl; bytes = refl; some = refl }
amomaxu_word true true = record { said = λ operands. refl; bytes = refl; some = refl }

pub amomaxu_double : (aq rl : Bool) → NameSays Mnemonic.AmomaxuD aq rl
amomaxu_double false false = plain_name Mnemonic.AmomaxuD
amomaxu_double true false = record { said = λ operands. refl; bytes = refl; some = refl }
amomaxu_double false true = record { said = λ operands. refl; bytes = refl; some = refl }
amomaxu_double true true = record { said = λ operands. refl; bytes = refl; some = refl }
