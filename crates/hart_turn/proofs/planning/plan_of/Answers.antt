use Rattle.std.proofs.Common.{◌<◌, ◌^◌, sym, subst, arith}
use Rattle.rv64_decode.specs.declared.instruction.Instr.{Instr}
use Rattle.rv64_exec.specs.Plan.{need_of}
use Rattle.need_serving.specs.Ends.{IsPageOf}
use Rattle.hart_turn.proofs.Pages.{page_fence, page_other}
use Rattle.hart_turn.proofs.planning.plan_of.Goals as goal

pub returns-in-Sfencevma-clause-page : goal.returns-in-Sfencevma-clause-page
returns-in-Sfencevma-clause-page c = subst IsPageOf (sym c.plan.ensures.need) (subst (λ (i : Instr). IsPageOf (need_of c.args.arch.now i)) (sym c.in-Sfencevma.is) (page_fence c.args.arch.now c.in-Sfencevma.rs1 c.in-Sfencevma.rs2 (subst (λ n. n < 2 ^ 64) c.reg-operand.ensures (omega arith))))

pub returns-in_default-clause-page : goal.returns-in_default-clause-page
returns-in_default-clause-page c = subst IsPageOf (sym c.plan-in_default.ensures.need) (page_other c.args.arch.now c.args.instr.now c.in_default.not-Sfencevma)
