-- Areas of words, for what a call may touch.
use Rattle.step_laws.specs.Map.{Word, Pend, Stop, Live, Cons, Ipi, Run, Kick, Done, Lock, Size, Hsm, Start, Opaque, Place, Dirty, Tlb, Console, Ram}

-- every word
abbrev pub AnyWord : Word → Type 0
AnyWord w = Unit {0}

-- every word but those that say who is inside and who claims
abbrev pub IsAside : Word → Type 0
IsAside Pend = ⊥
IsAside (Run a) = ⊥
IsAside _ = Unit {0}

-- what an actor touches that stays inside: no RUN, no PEND, no place, no HSM
abbrev pub IsInner : Word → Type 0
IsInner Pend = ⊥
IsInner (Run a) = ⊥
IsInner (Place t s k) = ⊥
IsInner (Hsm h) = ⊥
IsInner _ = Unit {0}

-- every word but STOP and the places: what a hart is armed for stays so
abbrev pub IsSteady : Word → Type 0
IsSteady Stop = ⊥
IsSteady (Place t s k) = ⊥
IsSteady _ = Unit {0}

-- the words of sections
abbrev pub IsOfSection : Word → Type 0
IsOfSection Pend = Unit {0}
IsOfSection (Run a) = Unit {0}
IsOfSection _ = ⊥

-- the words of TLBs, with their locks
abbrev pub IsOfTable : Word → Type 0
IsOfTable (Lock h) = Unit {0}
IsOfTable (Size h) = Unit {0}
IsOfTable (Tlb h j f) = Unit {0}
IsOfTable _ = ⊥

-- the console's
abbrev pub IsOfOutput : Word → Type 0
IsOfOutput Cons = Unit {0}
IsOfOutput (Console i) = Unit {0}
IsOfOutput _ = ⊥

-- RAM and its dirty bits
abbrev pub IsOfRam : Word → Type 0
IsOfRam (Ram i) = Unit {0}
IsOfRam (Dirty i) = Unit {0}
IsOfRam _ = ⊥

-- places for requests
abbrev pub IsOfPlaces : Word → Type 0
IsOfPlaces (Place t s k) = Unit {0}
IsOfPlaces _ = ⊥

-- hart states
abbrev pub IsOfStates : Word → Type 0
IsOfStates Live = Unit {0}
IsOfStates (Hsm h) = Unit {0}
IsOfStates (Start h) = Unit {0}
IsOfStates (Opaque h) = Unit {0}
IsOfStates _ = ⊥

-- what a target serves requests with: places, and the locks and words of TLBs
abbrev pub IsOfService : Word → Type 0
IsOfService (Place t s k) = Unit {0}
IsOfService w = IsOfTable w

-- what harts call each other with: interrupts, and calls to leave
abbrev pub IsOfCalls : Word → Type 0
IsOfCalls Ipi = Unit {0}
IsOfCalls (Kick a) = Unit {0}
IsOfCalls _ = ⊥

-- the machine's end
abbrev pub IsOfEnd : Word → Type 0
IsOfEnd Stop = Unit {0}
IsOfEnd (Done a) = Unit {0}
IsOfEnd _ = ⊥

-- every word but those that requests are served with
abbrev pub IsApart : Word → Type 0
IsApart (Place t s k) = ⊥
IsApart (Lock h) = ⊥
IsApart (Size h) = ⊥
IsApart (Tlb h j f) = ⊥
IsApart _ = Unit {0}
