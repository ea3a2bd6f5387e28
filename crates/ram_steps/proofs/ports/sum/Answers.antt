use Rattle.step_laws.specs.Map.{Zero, number_of}
use Rattle.step_laws.proofs.Numbered.{named_zero}
use Rattle.guest_ram.specs.Ports.{shown_by}
use Rattle.guest_ram.proofs.MaySteps.{may_split_first}
use Rattle.ram_steps.proofs.ports.sum.Goals as goal

pub split-requires-clause-may : goal.split-requires-clause-may
split-requires-clause-may c = let p = c.boot_words.new.port in
    may_split_first (shown_by p.seat.table_id p.seat.me.0) (number_of Zero) named_zero c.boot_words.ensures.booting.actor c.boot_words.ensures.booted
