-- Which areas lie within which.
use Rattle.step_laws.specs.Map.{Word, Stop, Cons, Lock, Size, Dirty, Tlb, Console, Ram}
use Rattle.guest_ram.specs.Areas.{IsAside, IsOfRam, IsSteady}
use Rattle.tlb_fill.specs.Stepping.{IsOfFill}
use Rattle.tlb_table.proofs.Aside.{IsOffTable}
use Rattle.guest_devices.specs.Stores.{IsOfDevices}
use Rattle.guest_access.specs.Touching.{IsOfAccess}

pub fill_aside : (w : Word) → IsOfFill w → IsAside w
fill_aside (Ram i) t = tt
fill_aside (Dirty i) t = tt
fill_aside (Lock h) t = tt
fill_aside (Size h) t = tt
fill_aside (Tlb h j f) t = tt
fill_aside w t = absurd t

pub fill_steady : (w : Word) → IsOfFill w → IsSteady w
fill_steady (Ram i) t = tt
fill_steady (Dirty i) t = tt
fill_steady (Lock h) t = tt
fill_steady (Size h) t = tt
fill_steady (Tlb h j f) t = tt
fill_steady w t = absurd t

pub fill_access : (w : Word) → IsOfFill w → IsOfAccess w
fill_access (Ram i) t = tt
fill_access (Dirty i) t = tt
fill_access (Lock h) t = tt
fill_access (Size h) t = tt
fill_access (Tlb h j f) t = tt
fill_access w t = absurd t

pub ram_access : (w : Word) → IsOfRam w → IsOfAccess w
ram_access (Ram i) t = tt
ram_access (Dirty i) t = tt
ram_access w t = absurd t

pub devices_access : (w : Word) → IsOfDevices w → IsOfAccess w
devices_access Stop t = tt
devices_access Cons t = tt
devices_access (Console i) t = tt
devices_access w t = absurd t

pub devices_off : (w : Word) → IsOfDevices w → IsOffTable w
devices_off Stop t = tt
devices_off Cons t = tt
devices_off (Console i) t = tt
devices_off w t = absurd t

pub ram_off : (w : Word) → IsOfRam w → IsOffTable w
ram_off (Ram i) t = tt
ram_off (Dirty i) t = tt
ram_off w t = absurd t
