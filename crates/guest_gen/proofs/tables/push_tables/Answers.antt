use Rattle.std.specs.Prelude.{string_bytes}
use Rattle.guest_gen.proofs.Feeds.{tables_made}
use Rattle.guest_gen.proofs.tables.push_tables.Goals as goal

pub returns : goal.returns
returns c = tables_made (string_bytes c.args.text.now) (string_bytes c.push_literal.new.text) (string_bytes c.push_entries.new.text) (string_bytes c.push_literal-2.new.text) (string_bytes c.push_entries-2.new.text)
    (string_bytes c.push_literal-3.new.text) (string_bytes c.push_frames.new.text)
    c.in_ok-push_literal.ensures c.in_ok-push_entries.ensures c.in_ok-push_literal-2.ensures c.in_ok-push_entries-2.ensures c.in_ok-push_literal-3.ensures c.in_ok-push_frames.ensures
