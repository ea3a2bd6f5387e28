use Rattle.std.proofs.Common.{arith}
use Rattle.std.specs.Prelude.{string_bytes}
use Rattle.guest_gen.proofs.Feeds.{entries_added, entries_none}
use Rattle.guest_gen.proofs.tables.+push_entries.Goals as goal

pub returns-then-count-eq0 : goal.returns-then-count-eq0
returns-then-count-eq0 t c = entries_none (string_bytes c.args.text.now) c.args.first c.args.count c.if-count-eq0.true

pub returns : goal.returns
returns t c = entries_added (string_bytes c.args.text.now) (string_bytes c.push_entry.new.text) (string_bytes c.push_entries.new.text) c.args.first c.args.count (omega arith) c.in_ok-push_entry.ensures c.in_ok-push_entries.ensures
