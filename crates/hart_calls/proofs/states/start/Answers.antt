use Rattle.std.proofs.Common.{refl, sym, subst, ◌∙◌}
use Rattle.hart_calls.specs.Called.{HasTried, is_own, refused, started}
use Rattle.hart_calls.proofs.states.start.Goals as goal

pub returns-then-target-hart : goal.returns-then-target-hart
returns-then-target-hart g c = is_own (c.if-target-hart.true ∙ c.requires.hart) refl

pub returns-then-start_other : goal.returns-then-start_other
returns-then-start_other g c = subst (HasTried (g.P.Look.shows c.args.port.now) (g.P.Look.shows c.start_other.new.port) c.args.target c.args.at c.args.opaque) (sym c.success.ensures)
    (started (λ e. c.if-target-hart.false (e ∙ sym c.requires.hart)) (c.start_other.ensures.started c.if-start_other.true))

pub returns-else-start_other : goal.returns-else-start_other
returns-else-start_other g c = let x = c.start_other.ensures.refused c.if-start_other.false in refused x.0 (λ e. c.if-target-hart.false (e ∙ sym c.requires.hart)) x.1 x.2
