use Rattle.std.proofs.Common.{◌+◌, sym, ap, subst, ◌∙◌}
use Rattle.std.specs.Prelude.{◌/◌, ◌%◌, ◌^◌}
use Rattle.guest_devices.specs.Output.{HasPut}
use Rattle.hart_calls.proofs.Printed.{may_put}
use Rattle.hart_calls.proofs.printing.copy_byte.Goals as goal

pub returns-in-Ok-clause-copied : goal.returns-in-Ok-clause-copied
returns-in-Ok-clause-copied g c = λ finds e. record {
  mid = (g.P.Look.shows c.word_at-word.new.port);
  loads = c.word_at-word.ensures.loaded finds e;
  puts = subst (λ b. HasPut b (g.P.Look.shows c.word_at-word.new.port) (g.P.Look.shows c.put_byte.new.port)) (c.byte_of.ensures ∙ ap (λ n. n / 256 ^ ((c.args.from + c.args.index) % 8) % 256) (sym e)) c.in-Ok.ensures.put;
}

pub returns-in-Ok-clause-may : goal.returns-in-Ok-clause-may
returns-in-Ok-clause-may g c = may_put _ _ 2 _ _ c.put_byte.ensures.goes c.put_byte.ensures.stands c.put_byte.ensures.acting c.word_at-word.ensures.may

pub returns-in-Err-clause-may : goal.returns-in-Err-clause-may
returns-in-Err-clause-may g c = may_put _ _ 2 _ _ c.put_byte.ensures.goes c.put_byte.ensures.stands c.put_byte.ensures.acting c.word_at-word.ensures.may

pub returns-in-Err-clause-full : goal.returns-in-Err-clause-full
returns-in-Err-clause-full g c = (
  c.word_at-word.result,
  c.word_at-word.ensures.kept,
  λ finds e. record { mid = (g.P.Look.shows c.word_at-word.new.port); place = c.in-Err.field-0; loads = c.word_at-word.ensures.loaded finds e; draws = c.in-Err.ensures.full },
)
