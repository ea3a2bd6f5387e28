-- The calls that name no hart, page or byte are sound in any layout.
use Rattle.std.proofs.Common.{◌≡◌, ◌≢◌, Bool, false, refl, ap, sym, ◌∙◌, arith}
use Rattle.std.specs.Prelude.{if◌then◌else◌}
use Rattle.std.proofs.lemmas.Bool.{ne_eqb, and_left}
use Rattle.rv64_priv.specs.State.{Arch}
use Rattle.step_laws.specs.declared.words.Layout.{Layout}
use Rattle.machine_model.specs.Memory.{Memory}
use Rattle.machine_model.specs.Sbi.{Call, Modes, arg, no_call, sbi_of}
use Rattle.hart_calls.proofs.asking.asked_of.Goals as goal

pub returns-in-16-clause-sound : goal.returns-in-16-clause-sound
returns-in-16-clause-sound c = c.base_call.ensures.sound c.args.layout

pub returns-then-function-eq0-clause-sound : goal.returns-then-function-eq0-clause-sound
returns-then-function-eq0-clause-sound c = c.reset_call.ensures.sound c.args.layout c.args.arch.now

pub returns-else-function-eq0-clause-sound : goal.returns-else-function-eq0-clause-sound
returns-else-function-eq0-clause-sound c = c.no_call.ensures.sound c.args.layout c.args.arch.now

pub returns-in_default-clause-sound : goal.returns-in_default-clause-sound
returns-in_default-clause-sound c = c.no_call-in_default.ensures.sound c.args.layout c.args.arch.now

skip : (b : Bool) (x y z : Call) → b ≡ false → y ≡ z → (if b then x else y) ≡ z
skip b x y z e rest = ap (λ t. if t then x else y) e ∙ rest

-- an extension that isn't there
unnamed : (l : Layout) (modes : Modes) (m : Memory) (a : Arch)
    → arg a 7 ≢ 0x01 → arg a 7 ≢ 0x08 → arg a 7 ≢ 0x10 → arg a 7 ≢ 0x735049 → arg a 7 ≢ 0x52464E43 → arg a 7 ≢ 0x48534D → arg a 7 ≢ 0x53525354 → arg a 7 ≢ 0x4442434E
    → sbi_of l modes m a ≡ no_call (arg a 7)
unfolding sbi_of
unnamed l modes m a putchar shutdown base ipi rfence hsm srst dbcn =
    skip _ _ _ _ (ne_eqb (arg a 7) 0x01 putchar)
    (skip _ _ _ _ (ne_eqb (arg a 7) 0x08 shutdown)
    (skip _ _ _ _ (ne_eqb (arg a 7) 0x10 base)
    (skip _ _ _ _ (ne_eqb (arg a 7) 0x735049 ipi)
    (skip _ _ _ _ (ne_eqb (arg a 7) 0x52464E43 rfence)
    (skip _ _ _ _ (ne_eqb (arg a 7) 0x48534D hsm)
    (skip _ _ _ _ (and_left _ _ (ne_eqb (arg a 7) 0x53525354 srst))
    (skip _ _ _ _ (ne_eqb (arg a 7) 0x4442434E dbcn) refl)))))))

pub returns-in_default-clause-is : goal.returns-in_default-clause-is
returns-in_default-clause-is c =
    let a = c.args.arch.now in
    λ modes m. c.no_call-in_default.ensures.says c.args.layout a modes m ∙ ap no_call c.arg-extension.ensures
    ∙ sym (unnamed c.args.layout modes m a (omega arith) (omega arith) (omega arith) (omega arith) (omega arith) (omega arith) (omega arith) (omega arith))
