-- What the words of the machine and the reference machine have in common.
use Rattle.std.specs.Prelude.{ℕ, zero, suc}
use Rattle.step_laws.specs.Map.{Word, Ipi, Ram}
use Rattle.machine_model.specs.declared.mode.Mode.{Mode}
use Rattle.machine_model.specs.declared.mode.Mode.TheVariants.{Started, Halted, Pending}

-- words that are the reference machine's memory too
abbrev pub IsShared : Word → Type 0
IsShared (Ram i) = Unit {0}
IsShared Ipi = Unit {0}
IsShared _ = ⊥

-- a hart's state as its HSM word says it
abbrev pub mode_named : ℕ → Mode
mode_named zero = Started
mode_named (suc zero) = Halted
mode_named _ = Pending
