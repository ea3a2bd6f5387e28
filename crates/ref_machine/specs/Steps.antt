-- Turns of a started hart in a row, as the machine on one thread takes them at once.
use Rattle.std.specs.Prelude.{◌≡◌, ℕ, zero, suc, ◌+◌, None}
use Rattle.rv64_priv.specs.Csr.{regime}
use Rattle.rv64_exec.specs.Alone.{KeepsRest}
use Rattle.machine_model.specs.declared.mode.Mode.TheVariants.{Started}
use Rattle.machine_model.specs.Lawful.{is_pending}
use Rattle.ref_machine.specs.declared.hart.HartSlot.{HartSlot}
use Rattle.ref_machine.specs.SharedState.{Shared}
use Rattle.ref_machine.specs.OneTurn.{Alone, IsStep}

-- a step of a hart that is started, where the machine goes on
pub record IsGoingStep (h : ℕ) (t : HartSlot) (b : Shared) (t' : HartSlot) (b' : Shared) : Type 0 where
  pub going : b.reason ≡ None
  pub started : t.mode ≡ Started
  pub step : IsStep h t b (Alone t' b')

-- so many in a row
unfoldable pub AreSteps : (h n : ℕ) → HartSlot → Shared → HartSlot → Shared → Type 0
AreSteps h zero t b t' b' = (t' ≡ t) × (b' ≡ b)
AreSteps h (suc n) t b t' b' = (m : HartSlot) × (c : Shared) × AreSteps h n t b m c × IsGoingStep h m c t' b'

-- registers, pc and the count of instructions may have changed, and words of RAM
pub record IsShort (t : HartSlot) (b : Shared) (t' : HartSlot) (b' : Shared) : Type 0 where
  pub arch : KeepsRest t.arch t'.arch
  pub slot : t' ≡ record t { arch = t'.arch; count = t.count + 1 }
  pub shared : b' ≡ record b { ram = b'.ram }

-- behind so many steps, in none of which more than this changed
pub record IsAhead (h n : ℕ) (t : HartSlot) (b : Shared) (t' : HartSlot) (b' : Shared) : Type 0 where
  pub steps : AreSteps h n t b t' b'
  pub count : t'.count ≡ t.count + n
  pub mode : t'.mode ≡ t.mode
  pub start : t'.start ≡ t.start
  pub layout : b'.layout ≡ b.layout
  pub limit : b'.limit ≡ b.limit
  pub reason : b'.reason ≡ b.reason
  pub regime : regime t'.arch ≡ regime t.arch
  pub quiet : is_pending t'.arch h b'.ipi ≡ is_pending t.arch h b.ipi
