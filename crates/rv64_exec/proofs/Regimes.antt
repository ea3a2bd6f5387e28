-- Unless an instruction needs a full flush, satp, SUM and MXR stay.
use Rattle.std.proofs.Common.{◌≡◌, refl, ◌∙◌, sym, subst, ℕ, Bool, true, false, not, List, [], ◌∷◌, Option, Some, None}
use Rattle.std.specs.Prelude.{◌==◌, ◌&&◌, ◌≢◌, if◌then◌else◌, unwrap_or}
use Rattle.std.proofs.lemmas.Bool.{and_parts, or_parts, eqb-true, true≢false}
use Rattle.rv64_decode.specs.declared.instruction.Instr.{Instr}
use Rattle.rv64_decode.specs.declared.instruction.Instr.TheVariants.{Ecall, Sret, Csrrw, Csrrs, Csrrc, Csrrwi, Csrrsi, Csrrci}
use Rattle.rv64_priv.specs.State.{Arch}
use Rattle.rv64_priv.specs.Fields.{status, sie_of, spie_of, spp_of, sum_of, mxr_of, status_kept, satp_takes, satp_kept}
use Rattle.rv64_priv.specs.Csr.{Csr, csrs, csr_of, read_by, written_by}
use Rattle.rv64_priv.specs.Trap.{trapped, returned}
use Rattle.rv64_exec.specs.declared.csrs.CsrOp.{CsrOp}
use Rattle.rv64_exec.specs.declared.csrs.CsrOp.TheVariants.{Writes, Sets, Clears}
use Rattle.rv64_exec.specs.declared.needs.FlushOf.{FlushOf}
use Rattle.rv64_exec.specs.declared.needs.IpiOp.{IpiOp}
use Rattle.rv64_exec.specs.declared.needs.Need.{Need}
use Rattle.rv64_exec.specs.declared.needs.Answer.{Answer}
use Rattle.rv64_exec.specs.Plan.{need_of, reg, differs, needs_flush, makes_write, new_value, sip_op, csr_need, csr_known_need}
use Rattle.rv64_exec.specs.Finish.{retire, value_of, after_sbi, csr_done, done}
use Rattle.rv64_exec.specs.Regimes.{KeepsRegime, RegimeStays}

-- THE FIELDS OF SSTATUS

-- a test that holds at both truth values
abbrev every : (Bool → Bool) → Bool
every p = p false && p true

each : (p : Bool → Bool) → every p ≡ true → (b : Bool) → p b ≡ true
each p e false = (and_parts (p false) (p true) e).0
each p e true = (and_parts (p false) (p true) e).1

all_five : (p : (v w x y z : Bool) → Bool)
    → every (λ v. every (λ w. every (λ x. every (λ y. every (p v w x y))))) ≡ true → (a b c d e : Bool) → p a b c d e ≡ true
all_five p all a b c d e =
    each (p a b c d)
    (each (λ y. every (p a b c y))
    (each (λ x. every (λ y. every (p a b x y)))
    (each (λ w. every (λ x. every (λ y. every (p a w x y))))
    (each (λ v. every (λ w. every (λ x. every (λ y. every (p v w x y))))) all a) b) c) d) e

same_if_not_differs : (p q : Bool) → differs p q ≡ false → p ≡ q
same_if_not_differs true true e = refl
same_if_not_differs true false e = e
same_if_not_differs false q e = sym e

not_true : (b : Bool) → not b ≡ true → b ≡ false
not_true true e = sym e
not_true false e = refl

sum_of_status : (sie spie spp sum mxr : Bool) → sum_of (status sie spie spp sum mxr) ≡ sum
sum_of_status a b c d e =
    same_if_not_differs _ _ (not_true _ (all_five (λ v w x y z. not (differs (sum_of (status v w x y z)) y)) refl a b c d e))

mxr_of_status : (sie spie spp sum mxr : Bool) → mxr_of (status sie spie spp sum mxr) ≡ mxr
mxr_of_status a b c d e =
    same_if_not_differs _ _ (not_true _ (all_five (λ v w x y z. not (differs (mxr_of (status v w x y z)) z)) refl a b c d e))

-- CHANGES THAT KEEP THEM

unchanged : (a b : Arch) → b.satp ≡ a.satp → b.sstatus ≡ a.sstatus → KeepsRegime a b
unchanged a b e f = record { satp = e; sum = subst (λ s. sum_of s ≡ sum_of a.sstatus) (sym f) refl; mxr = subst (λ s. mxr_of s ≡ mxr_of a.sstatus) (sym f) refl }

retire_keeps : (a b : Arch) (rd value : ℕ) → KeepsRegime a b → KeepsRegime a (retire b rd value)
retire_keeps a b rd value k = record { satp = k.satp; sum = k.sum; mxr = k.mxr }

trap_keeps : (a : Arch) (cause tval : ℕ) → KeepsRegime a (trapped a cause tval)
trap_keeps a cause tval = record {
  satp = refl;
  sum = sum_of_status false (sie_of a.sstatus) (not a.user) (sum_of a.sstatus) (mxr_of a.sstatus);
  mxr = mxr_of_status false (sie_of a.sstatus) (not a.user) (sum_of a.sstatus) (mxr_of a.sstatus);
}

return_keeps : (a : Arch) → KeepsRegime a (returned a)
return_keeps a = record {
  satp = refl;
  sum = sum_of_status (spie_of a.sstatus) true false (sum_of a.sstatus) (mxr_of a.sstatus);
  mxr = mxr_of_status (spie_of a.sstatus) true false (sum_of a.sstatus) (mxr_of a.sstatus);
}

sbi_keeps : (a : Arch) (ans : Answer) → KeepsRegime a (after_sbi a ans)
sbi_keeps a (Answer.Pair error value) = unchanged a _ refl refl
sbi_keeps a (Answer.Single value) = unchanged a _ refl refl
sbi_keeps a ans = unchanged a _ refl refl

-- WRITES OF CSRS

-- a write that needs no full flush
abbrev Keeps : Csr → Type 0
Keeps c = (a : Arch) (v : ℕ) → needs_flush a c.number v ≡ false → KeepsRegime a (c.write a v)

abbrev EachKeeps : List Csr → Type 0
EachKeeps [] = Unit {0}
EachKeeps (c ∷ cs) = Keeps c × EachKeeps cs

-- what sstatus keeps has the value's SUM and MXR, which are then those that it had
status_keeps : (a : Arch) (v : ℕ) → needs_flush a 0x100 v ≡ false → KeepsRegime a (record a { sstatus = status_kept v })
status_keeps a v e =
    let same = or_parts (differs (sum_of v) (sum_of a.sstatus)) (differs (mxr_of v) (mxr_of a.sstatus)) e in
    record {
      satp = refl;
      sum = sum_of_status (sie_of v) (spie_of v) (spp_of v) (sum_of v) (mxr_of v) ∙ same_if_not_differs _ _ same.0;
      mxr = mxr_of_status (sie_of v) (spie_of v) (spp_of v) (sum_of v) (mxr_of v) ∙ same_if_not_differs _ _ same.1;
    }

satp_keeps : (a : Arch) (v : ℕ) → needs_flush a 0x180 v ≡ false → KeepsRegime a (if satp_takes v then record a { satp = satp_kept v } else a)
satp_keeps a v e = go (satp_takes v) (or_parts (satp_takes v) false e).0
  where
    go : (b : Bool) → b ≡ false → KeepsRegime a (if b then record a { satp = satp_kept v } else a)
    go true f = absurd (true≢false f)
    go false f = unchanged a a refl refl

each_keeps : EachKeeps csrs
each_keeps = (
  status_keeps,
  (
    (λ a v e. unchanged a _ refl refl),
    (
      (λ a v e. unchanged a _ refl refl),
      (
        (λ a v e. unchanged a _ refl refl),
        (
          (λ a v e. unchanged a _ refl refl),
          (
            (λ a v e. unchanged a _ refl refl),
            (
              (λ a v e. unchanged a _ refl refl),
              (
                (λ a v e. unchanged a _ refl refl),
                (
                  (λ a v e. unchanged a _ refl refl),
                  (satp_keeps, tt),
                ),
              ),
            ),
          ),
        ),
      ),
    ),
  ),
)

write_keeps : (cs : List Csr) → EachKeeps cs → (a : Arch) (csr v : ℕ) → needs_flush a csr v ≡ false
    → KeepsRegime a (unwrap_or (written_by a v (csr_of cs csr)) a)
write_keeps [] k a csr v e = unchanged a a refl refl
write_keeps (c ∷ cs) k a csr v e = go (csr == c.number) refl (write_keeps cs k.1 a csr v e)
  where
    go : (b : Bool) → (csr == c.number) ≡ b → KeepsRegime a (unwrap_or (written_by a v (csr_of cs csr)) a)
        → KeepsRegime a (unwrap_or (written_by a v (if b then Some c else csr_of cs csr)) a)
    go true same rest = k.0 a v (subst (λ n. needs_flush a n v ≡ false) (eqb-true _ _ same) e)
    go false other rest = rest

-- CSR INSTRUCTIONS

either_way : (a : Arch) (b : Bool) → KeepsRegime a (if b then a else a)
either_way a true = unchanged a a refl refl
either_way a false = unchanged a a refl refl

-- a write is kept from a full flush by the need
needed_keeps : (a b : Arch) (writes flushes : Bool) → (flushes ≡ false → KeepsRegime a b)
    → (if writes && flushes then Need.Flush FlushOf.All else Need.Nothing) ≢ Need.Flush FlushOf.All → KeepsRegime a (if writes then b else a)
needed_keeps a b true true k n = absurd (n refl)
needed_keeps a b true false k n = k refl
needed_keeps a b false flushes k n = unchanged a a refl refl

csr_keeps : (a : Arch) (word rd csr : ℕ) (op : CsrOp) (source value : ℕ) (ans : Answer)
    → csr_need a word csr op source value ≢ Need.Flush FlushOf.All → KeepsRegime a (csr_done a rd csr op source value ans)
csr_keeps a word rd csr op source value ans n = go a.user (csr_of csrs csr) (csr == 0x144) refl (write_keeps csrs each_keeps a csr) n
  where
    go : (user : Bool) (found : Option Csr) (is_sip : Bool) → (csr == 0x144) ≡ is_sip
        → ((v : ℕ) → needs_flush a csr v ≡ false → KeepsRegime a (unwrap_or (written_by a v found) a))
        → csr_known_need a word csr op source value (if user then None else read_by a found) ≢ Need.Flush FlushOf.All
        → KeepsRegime a (if is_sip then retire a rd (value_of ans) else
        retire (if makes_write op source then unwrap_or (if user then None else written_by a (new_value op (unwrap_or (if user then None else read_by a found) 0) value) found) a else a)
        rd (unwrap_or (if user then None else read_by a found) 0))
    go user found true e k n = retire_keeps a a _ _ (unchanged a a refl refl)
    go true found false e k n = retire_keeps a _ _ _ (either_way a (makes_write op source))
    go false None false e k n = retire_keeps a _ _ _ (either_way a (makes_write op source))
    go false (Some c) false e k n =
        let v = new_value op (c.read a) value in
        retire_keeps a _ _ _ (needed_keeps a (c.write a v) (makes_write op source) (needs_flush a csr v) (k v)
        (subst (λ b. (if b then Need.Ipi (if makes_write op source then sip_op op value else IpiOp.Read) else
        (if makes_write op source && needs_flush a csr v then Need.Flush FlushOf.All else Need.Nothing)) ≢ Need.Flush FlushOf.All) e n))

-- THE INSTRUCTIONS

done_keeps : (a : Arch) (i : Instr) (ans : Answer) → need_of a i ≢ Need.Flush FlushOf.All → KeepsRegime a (done a i ans)
unfolding need_of done
done_keeps a Ecall ans n = sbi_keeps a ans
done_keeps a Sret ans n = return_keeps a
done_keeps a (Csrrw rd rs1 csr) ans n = csr_keeps a _ rd csr Writes rs1 (reg a rs1) ans n
done_keeps a (Csrrs rd rs1 csr) ans n = csr_keeps a _ rd csr Sets rs1 (reg a rs1) ans n
done_keeps a (Csrrc rd rs1 csr) ans n = csr_keeps a _ rd csr Clears rs1 (reg a rs1) ans n
done_keeps a (Csrrwi rd value csr) ans n = csr_keeps a _ rd csr Writes value value ans n
done_keeps a (Csrrsi rd value csr) ans n = csr_keeps a _ rd csr Sets value value ans n
done_keeps a (Csrrci rd value csr) ans n = csr_keeps a _ rd csr Clears value value ans n
done_keeps a i ans n = unchanged a _ refl refl

pub regime_stays : RegimeStays
regime_stays a i (Answer.Fault cause tval) n = trap_keeps a cause tval
regime_stays a i ans n = done_keeps a i ans n
