use Rattle.std.proofs.Common.{arith}
use Rattle.monitor.proofs.Going.{none_left}
use Rattle.monitor.proofs.rooms.bytes_in.Goals as goal

pub returns : goal.returns
returns c = let none = none_left c.loop-command.command-index c.args.commands.now c.loop-command-test.false in let had = c.loop-command.invariant in omega (arith, none, had.sum, had.fits)
