use Rattle.std.proofs.Common.{arith}
use Rattle.std.specs.Prelude.{string_bytes}
use Rattle.guest_gen.proofs.Feeds.{frames_added, frames_none}
use Rattle.guest_gen.proofs.tables.+push_frames.Goals as goal

pub returns-then-count-eq0 : goal.returns-then-count-eq0
returns-then-count-eq0 t c = frames_none (string_bytes c.args.text.now) c.args.first c.args.count c.if-count-eq0.true

pub returns : goal.returns
returns t c = frames_added (string_bytes c.args.text.now) (string_bytes c.push_low_frame.new.text) (string_bytes c.push_high_frame.new.text) (string_bytes c.push_frames.new.text) c.args.first c.args.count (omega arith)
    c.in_ok-push_low_frame.ensures c.in_ok-push_high_frame.ensures c.in_ok-push_frames.ensures
