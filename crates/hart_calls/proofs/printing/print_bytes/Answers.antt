use Rattle.std.proofs.Common.{refl, sym, subst, true}
use Rattle.hart_calls.specs.Called.{HasWritten, all_put, fills, needs_section, no_byte}
use Rattle.hart_calls.specs.declared.outcomes.SbiEnd.{SbiEnd}
use Rattle.machine_model.specs.declared.reason.Reason.{Reason}
use Rattle.hart_calls.proofs.printing.print_bytes.Goals as goal

pub returns-then-count-eq0 : goal.returns-then-count-eq0
returns-then-count-eq0 g c = let p = (g.P.Look.shows c.args.port.now) in subst (λ end. HasWritten p p c.args.from c.args.count end c.args.section) (sym c.success.ensures) (no_byte c.if-count-eq0.true refl)

pub returns-then-not-section : goal.returns-then-not-section
returns-then-not-section g c = let p = (g.P.Look.shows c.args.port.now) in subst (λ s. HasWritten p p c.args.from c.args.count SbiEnd.NeedsSection s) (sym c.if-not-section.true) (needs_section c.if-count-eq0.false refl)

pub returns-then-copy_bytes : goal.returns-then-copy_bytes
returns-then-copy_bytes g c =
    let p = (g.P.Look.shows c.args.port.now) in
    let q = (g.P.Look.shows c.copy_bytes.new.port) in
    let x = c.copy_bytes.ensures.all c.if-copy_bytes.true in
    subst (λ s. HasWritten p q c.args.from c.args.count c.success-then-copy_bytes.result s) (sym c.if-not-section.false)
    (subst (λ end. HasWritten p q c.args.from c.args.count end true) (sym c.success-then-copy_bytes.ensures) (all_put x.0 c.if-count-eq0.false x.1))

pub returns-else-copy_bytes : goal.returns-else-copy_bytes
returns-else-copy_bytes g c =
    let x = c.copy_bytes.ensures.full c.if-copy_bytes.false in
    subst (λ s. HasWritten (g.P.Look.shows c.args.port.now) (g.P.Look.shows c.set_stop.new.port) c.args.from c.args.count (SbiEnd.Over Reason.OutFull) s) (sym c.if-not-section.false) (fills x.0 _ _ x.1 c.set_stop.ensures.set)
