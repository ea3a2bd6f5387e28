-- The answers that the errors of reading and of parsing become, and a machine that is started.
use Rattle.std.specs.Prelude.{◌≡◌, ◌⊎◌, ℕ, List, Bool, IsTrue, Ok, Err}
use Rattle.vm_io.specs.declared.read.ReadErr.{ReadErr}
use Rattle.elf_load.specs.declared.image.ImageErr.{ImageErr}
use Rattle.rv_asm.specs.declared.assembler.AsmErr.{AsmErr}
use Rattle.machine_model.specs.State.{initial}
use Rattle.ref_machine.specs.PlainState.{PlainState}
use Rattle.ref_machine.specs.Shows.{Shows}
use Rattle.tlbvm.specs.declared.items.OrderErr.{OrderErr}
use Rattle.tlbvm.specs.declared.status.Status.{Status}
use Rattle.tlbvm.specs.Status.{is_refusal}
use Rattle.tlbvm.specs.Intake.{Name, HasFailed, IsTooLong, Intake, Input, Runs, Gives, Work, InOrder, ComesTo}
use Rattle.tlbvm.specs.Call.{IsDue}

abbrev pub status_of_read : ReadErr → Status
status_of_read ReadErr.ReadFault = Status.ReadFault
status_of_read ReadErr.TooLong = Status.TooLong
status_of_read ReadErr.NoMemory = Status.NoMemory

abbrev pub status_of_image : ImageErr → Status
status_of_image (ImageErr.Bad kind) = Status.BadImage kind
status_of_image ImageErr.NoMemory = Status.NoMemory

abbrev pub status_of_order : OrderErr → Status
status_of_order (OrderErr.Bad line) = Status.BadOrder line
status_of_order OrderErr.NoMemory = Status.NoMemory

abbrev pub status_of_text : AsmErr → Status
status_of_text (AsmErr.Bad line kind) = Status.BadAsm line kind
status_of_text AsmErr.NoMemory = Status.NoMemory

-- why a file was not read
abbrev pub IsUnread : Name → Status → Type 0
IsUnread name status = (status ≡ Status.NoMemory) ⊎ (((status ≡ Status.ReadFault) × HasFailed name) ⊎ ((status ≡ Status.TooLong) × IsTooLong name))

-- why no machine was started
abbrev pub IsRefused : (List ℕ → Name) → Intake → Status → Type 0
IsRefused names intake status = (status ≡ Status.NoMemory) ⊎ (IsTrue (is_refusal status) × ComesTo names intake (Err status))

-- a text or file that was made
pub record IsMade (names : List ℕ → Name) (intake : Intake) (text : List ℕ) : Type 0 where
  pub work : Work
  pub came : ComesTo names intake (Ok (Gives work))
  pub is_due : IsDue work text

-- a machine at its first state
pub record IsStarted (names : List ℕ → Name) (intake : Intake) (turns : List ℕ) (regs : Bool) (machine : PlainState) : Type 0 where
  pub input : Input
  pub came : ComesTo names intake (Ok (Runs input))
  pub is_pace : input.pace ≡ InOrder turns
  pub is_regs : input.regs ≡ regs
  pub first : Shows input.setup machine (initial input.setup)
