-- Whose the passes are.
use Rattle.guest_ram.specs.Shown.{pass_shown}
use Rattle.turn_rows.proofs.playing.play_scene.Given as goal

abbrev pub ghosts-play-I-Seated : goal.ghosts-play-I-Seated
ghosts-play-I-Seated a = record { machine = (pass_shown a.pass).machine; actor = (pass_shown a.pass).own.actor }

abbrev pub ghosts-play-J-Seated : goal.ghosts-play-J-Seated
ghosts-play-J-Seated a = record { machine = (pass_shown a.other).machine; actor = (pass_shown a.other).own.actor }
