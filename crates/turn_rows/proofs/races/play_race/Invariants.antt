-- Whose the pass of hart 0 is.
use Rattle.guest_ram.specs.Shown.{pass_shown}
use Rattle.turn_rows.proofs.races.play_race.Given as goal

abbrev pub ghosts-run_beside : goal.ghosts-run_beside
ghosts-run_beside a = record { machine = (pass_shown a.pass).machine; actor = (pass_shown a.pass).own.actor }
