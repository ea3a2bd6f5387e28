use Rattle.std.proofs.Common.{ap}
use Rattle.std.specs.Prelude.{string_bytes}
use Rattle.guest_gen.proofs.Feeds.{text_made}
use Rattle.guest_gen.proofs.text.gen_text.Goals as goal

pub returns : goal.returns
returns c = text_made (string_bytes c.new-text.result) (string_bytes c.push_program.new.text) (string_bytes c.push_tables.new.text) c.into_bytes.result.items c.args.number
    c.new-text.ensures.bytes c.in_ok-push_program.ensures c.in_ok-push_tables.ensures (ap (λ v. v.items) c.into_bytes.ensures.value)
