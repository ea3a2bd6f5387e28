-- A machine's name before one is picked.
use Rattle.std.specs.Prelude.{[]}
use Rattle.guest_ram.specs.Ports.{Machine}

-- the name of no machine
abbrev pub no_machine : Machine
no_machine = record { table = record { words = 0; slots = 0; views_name = 0; atom = 0; block = 0; offset = 0; slot_names = [] }; layout = record { harts = 0; pages = 0 } }
