-- The words of the monitor's parts are among its own.
use Rattle.std.proofs.Common.{ℕ}
use Rattle.step_laws.specs.Map.{Word, Done, Kick, Pend, Ram, Run, Stop}
use Rattle.guest_ram.specs.Areas.{IsAside, IsOfEnd, IsOfSection}
use Rattle.guest_ram.specs.Ports.{GoesBy, Shown, StandsAs}
use Rattle.guest_ram.proofs.Moves.{stands_goes}
use Rattle.exclusive.specs.Claims.{IsOfClaims}
use Rattle.signal_pieces.specs.Signalling.{IsOfSides}
use Rattle.monitor.specs.Steps.{IsOfMonitor, IsRam}

pub section_mine : (w : Word) → IsOfSection w → IsOfMonitor w
section_mine Pend t = tt
section_mine (Run a) t = tt
section_mine w t = absurd t

pub section_sides : (w : Word) → IsOfSection w → IsOfSides w
section_sides Pend t = tt
section_sides (Run a) t = tt
section_sides w t = absurd t

pub claims_sides : (w : Word) → IsOfClaims w → IsOfSides w
claims_sides Pend t = tt
claims_sides (Kick h) t = tt
claims_sides w t = absurd t

pub sides_mine : (w : Word) → IsOfSides w → IsOfMonitor w
sides_mine Pend t = tt
sides_mine (Run a) t = tt
sides_mine (Kick h) t = tt
sides_mine w t = absurd t

pub end_mine : (w : Word) → IsOfEnd w → IsOfMonitor w
end_mine Stop t = tt
end_mine (Done a) t = tt
end_mine w t = absurd t

pub ram_mine : (w : Word) → IsRam w → IsOfMonitor w
ram_mine (Ram i) t = tt
ram_mine w t = absurd t

ram_aside : (w : Word) → IsRam w → IsAside w
ram_aside (Ram i) t = tt
ram_aside w t = absurd t

-- loads of RAM leave where an actor stands
pub read_stands : (n : ℕ) (p q : Shown) → GoesBy n IsRam p q → StandsAs p q
read_stands n p q goes = stands_goes n IsRam p q ram_aside goes
