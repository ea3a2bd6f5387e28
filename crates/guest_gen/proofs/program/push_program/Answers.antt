use Rattle.std.specs.Prelude.{string_bytes}
use Rattle.guest_gen.proofs.Feeds.{program_added}
use Rattle.guest_gen.proofs.program.push_program.Goals as goal

pub returns : goal.returns
returns c = program_added (string_bytes c.args.text.now) (string_bytes c.push_before.new.text) (string_bytes c.push_rounds.new.text) (string_bytes c.push_behind.new.text) c.args.number
    c.in_ok-push_before.ensures c.in_ok-push_rounds.ensures c.in_ok-push_behind.ensures
