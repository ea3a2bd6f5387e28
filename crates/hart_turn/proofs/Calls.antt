-- The one instruction that asks for a call, and what its success leaves.
use Rattle.std.proofs.Common.{◌≡◌, ℕ, Bool, true, false, ◌⊎◌, inl, inr, None, Some, refl, sym, ap, subst, ⊎_elim, arith}
use Rattle.std.specs.Prelude.{◌==◌, ◌%◌, if◌then◌else◌, Option, pos}
use Rattle.rv64_decode.specs.declared.instruction.Instr.{Instr}
use Rattle.rv64_decode.specs.declared.instruction.Instr.TheVariants.{Jal, Jalr, Beq, Bne, Blt, Bge, Bltu, Bgeu, Ecall, Sret, Sfencevma, Csrrw, Csrrs, Csrrc, Csrrwi, Csrrsi, Csrrci}
use Rattle.rv64_priv.specs.State.{Arch}
use Rattle.rv64_exec.specs.Code.{Code}
use Rattle.rv64_exec.specs.declared.needs.Answer.{Answer}
use Rattle.rv64_exec.specs.declared.needs.Need.{Need}
use Rattle.rv64_exec.specs.Finish.{after_decoded, done}
use Rattle.rv64_exec.specs.Plan.{branch, jal_target, jalr_target, jump, need_of, need_of_decoded}
use Rattle.machine_model.specs.Change.{effect_held}
use Rattle.machine_model.specs.Walks.{need_held}
use Rattle.hart_turn.specs.Fences.{succeeded}
use Rattle.hart_turn.proofs.Moving.{not_both}

is_call : Need → Bool
is_call Need.Sbi = true
is_call need = false

other_in : (b : Bool) (n m : Need) → is_call n ≡ false → is_call m ≡ false → is_call (if b then n else m) ≡ false
other_in true n m x y = x
other_in false n m x y = y

other_jump : (target : ℕ) → is_call (jump target) ≡ false
unfolding is_call
other_jump target = other_in (target % 4 == 0) Need.Nothing (Need.Trap 0 target) refl refl

other_branch : (taken : Bool) (target : ℕ) → is_call (branch taken target) ≡ false
unfolding is_call
other_branch taken target = other_in taken (jump target) Need.Nothing (other_jump target) refl

-- a CSR instruction needs no call, whatever its CSR reads
either_call : (a : Arch) (i : Instr) → (i ≡ Ecall) ⊎ (is_call (need_of a i) ≡ false)
unfolding is_call need_of
either_call a (Jal rd imm) = inr (other_jump (jal_target a imm))
either_call a (Jalr rd rs1 imm) = inr (other_jump (jalr_target a rs1 imm))
either_call a (Beq rs1 rs2 imm) = inr (other_branch _ (jal_target a imm))
either_call a (Bne rs1 rs2 imm) = inr (other_branch _ (jal_target a imm))
either_call a (Blt rs1 rs2 imm) = inr (other_branch _ (jal_target a imm))
either_call a (Bge rs1 rs2 imm) = inr (other_branch _ (jal_target a imm))
either_call a (Bltu rs1 rs2 imm) = inr (other_branch _ (jal_target a imm))
either_call a (Bgeu rs1 rs2 imm) = inr (other_branch _ (jal_target a imm))
either_call a Ecall = inl refl
either_call a Sret = inr (other_in a.user (Need.Trap 2 0x10200073) Need.Nothing refl refl)
either_call a (Sfencevma rs1 rs2) = inr (other_in a.user _ _ refl refl)
either_call a (Csrrw rd rs1 csr) = inr (grind arith)
either_call a (Csrrs rd rs1 csr) = inr (grind arith)
either_call a (Csrrc rd rs1 csr) = inr (grind arith)
either_call a (Csrrwi rd value csr) = inr (grind arith)
either_call a (Csrrsi rd value csr) = inr (grind arith)
either_call a (Csrrci rd value csr) = inr (grind arith)
either_call a _ = inr refl

-- a need that is no call's is another
not_call : (need : Need) → is_call need ≡ false → need ≡ Need.Sbi → ⊥
unfolding is_call
not_call need other e = not_both (is_call need) other (ap is_call e)

-- an instruction that asks for a call is ECALL
call_is : (a : Arch) (i : Instr) → need_of a i ≡ Need.Sbi → i ≡ Ecall
call_is a i e = ⊎_elim (λ same. same) (λ other. absurd (not_call (need_of a i) other e)) (either_call a i)

call_decoded : (a : Arch) (word : ℕ) (o : Option Instr) → need_of_decoded a word o ≡ Need.Sbi → after_decoded a word o (Answer.Pair (pos 0) 0) ≡ succeeded a
unfolding is_call done
call_decoded a word None e = absurd (not_call (Need.Trap 2 word) refl e)
call_decoded a word (Some i) e = subst (λ j. after_decoded a word (Some j) (Answer.Pair (pos 0) 0) ≡ succeeded a) (sym (call_is a i e)) refl

-- where the word that is held asks for a call, success leaves this
pub call_succeeds : (a : Arch) (held : Option Code) → need_held a held ≡ Need.Sbi → effect_held a held (Answer.Pair (pos 0) 0) ≡ succeeded a
unfolding is_call
call_succeeds a None e = absurd (not_call Need.Nothing refl e)
call_succeeds a (Some code) e = call_decoded a code.word code.instr e
