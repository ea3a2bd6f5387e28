-- What holds where a turn of a fence came to this.
use Rattle.guest_ram.specs.declared.port.Seen.{Seen}
use Rattle.tlb_lock.specs.declared.lock.Busy.{Busy}
use Rattle.sbi_calls.specs.declared.fencing.Fencing.{Fencing}
use Rattle.sbi_calls.specs.declared.fencing.Fencing.TheVariants.{Done, Waiting, Busy as IsBusy}

abbrev pub IfDone : Fencing → Type 0 → Type 0
IfDone Done A = A
IfDone _ A = Unit {0}

abbrev pub IfWaiting : Fencing → (Seen → Type 0) → Type 0
IfWaiting (Waiting seen) A = A seen
IfWaiting _ A = Unit {0}

abbrev pub IfBusy : Fencing → (Busy → Type 0) → Type 0
IfBusy (IsBusy busy) A = A busy
IfBusy _ A = Unit {0}

abbrev pub UnlessBusy : Fencing → Type 0 → Type 0
UnlessBusy (IsBusy busy) A = Unit {0}
UnlessBusy _ A = A
