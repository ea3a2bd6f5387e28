-- The steps of an access, by what the instruction needs.
use Rattle.std.specs.Prelude.{Bool}
use Rattle.rv64_priv.specs.State.{Arch}
use Rattle.rv64_priv.specs.Csr.{regime}
use Rattle.rv64_exec.specs.declared.needs.Need.{Need}
use Rattle.guest_ram.specs.Ports.{Shown}
use Rattle.tlb_entry.specs.declared.books.Book.{Book}
use Rattle.guest_access.specs.declared.outcomes.Got.{Got}
use Rattle.guest_access.specs.Atomics.{HasOperatedAt, HasReserved, HasConditional}
use Rattle.guest_access.specs.Loading.{HasLoaded}
use Rattle.guest_access.specs.Storing.{HasStored}

-- the need is of memory
abbrev pub IsOfMemory : Need → Type 0
IsOfMemory (Need.Load va width sign) = Unit {0}
IsOfMemory (Need.Store va width value) = Unit {0}
IsOfMemory (Need.Amo va op wide value) = Unit {0}
IsOfMemory (Need.Lr va wide) = Unit {0}
IsOfMemory (Need.Sc va wide value) = Unit {0}
IsOfMemory _ = ⊥

abbrev pub HasAccessed : (p q : Shown) (b b' : Book) → Arch → (section : Bool) → Need → Got → Type 0
HasAccessed p q b b' a section (Need.Load va width sign) got = HasLoaded p q b b' (regime a) va width sign section got
HasAccessed p q b b' a section (Need.Store va width value) got = HasStored p q b b' (regime a) va width value section got
HasAccessed p q b b' a section (Need.Amo va op wide value) got = HasOperatedAt p q b b' (regime a) va op wide value got
HasAccessed p q b b' a section (Need.Lr va wide) got = HasReserved p q b b' (regime a) va wide got
HasAccessed p q b b' a section (Need.Sc va wide value) got = HasConditional p q b b' (regime a) va a.hold wide value got
HasAccessed p q b b' a section _ got = ⊥
