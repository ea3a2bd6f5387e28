-- What an access touches.
use Rattle.step_laws.specs.Map.{Word, Stop, Cons, Lock, Size, Dirty, Tlb, Console, Ram}

-- the hart's table with its lock, dirty bits, RAM, the console, and STOP
abbrev pub IsOfAccess : Word → Type 0
IsOfAccess (Lock h) = Unit {0}
IsOfAccess (Size h) = Unit {0}
IsOfAccess (Tlb h j f) = Unit {0}
IsOfAccess (Dirty i) = Unit {0}
IsOfAccess (Ram i) = Unit {0}
IsOfAccess Cons = Unit {0}
IsOfAccess (Console i) = Unit {0}
IsOfAccess Stop = Unit {0}
IsOfAccess _ = ⊥
