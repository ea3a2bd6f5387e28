use Rattle.std.proofs.Common.{◌+◌, ◌∙◌, refl, ap, arith}
use Rattle.step_laws.specs.declared.steps.WordOp.TheVariants.{Exchange}
use Rattle.step_laws.specs.Map.{Pend}
use Rattle.step_laws.specs.Sections.{is_claimant, is_claimant_next}
use Rattle.guest_ram.proofs.Moves.{claims_adds, phase_adds, goes_step, goes_then, goes_at_most, goes_within}
use Rattle.exclusive.specs.Claims.{IsKick, IsOfClaims}
use Rattle.exclusive.proofs.Callings.{kick_claims, made_claim}
use Rattle.exclusive.proofs.claiming.claim.Goals as goal

pub returns-then-found-ne0-clause-goes : goal.returns-then-found-ne0-clause-goes
returns-then-found-ne0-clause-goes g c = goes_at_most 1 9 IsOfClaims _ _ (omega arith) (goes_step IsOfClaims _ _ _ _ _ _ _ c.compare_exchange-found.ensures.step c.compare_exchange-found.ensures.allowed c.pend_word-pend.ensures.name tt)

pub returns-clause-goes : goal.returns-clause-goes
returns-clause-goes g c = goes_then 1 8 IsOfClaims _ _ _ (goes_step IsOfClaims _ _ _ _ _ _ _ c.compare_exchange-found.ensures.step c.compare_exchange-found.ensures.allowed c.pend_word-pend.ensures.name tt)
    (goes_within 8 IsKick IsOfClaims _ _ kick_claims c.kick_others.ensures.goes)

pub returns-then-found-ne0-clause-refused : goal.returns-then-found-ne0-clause-refused
returns-then-found-ne0-clause-refused g c = record {
  fails = made_claim _ _ _ c.from-own.result c.compare_exchange-found.result c.compare_exchange-found.result c.pend_word-pend.ensures.name (c.from-own.ensures ∙ c.actor.ensures) refl c.compare_exchange-found.ensures.step c.compare_exchange-found.ensures.allowed;
  word = c.pend_word-pend.ensures.number;
  claimed = λ e. omega (arith, e);
}

pub returns-clause-claimed : goal.returns-clause-claimed
returns-clause-claimed g c = record {
  taken = g.P.Look.shows c.compare_exchange-found.new.self;
  takes = made_claim _ _ _ c.from-own.result c.compare_exchange-found.result 0 c.pend_word-pend.ensures.name (c.from-own.ensures ∙ c.actor.ensures) c.if-found-ne0.false c.compare_exchange-found.ensures.step c.compare_exchange-found.ensures.allowed;
  kicks = c.kick_others.ensures.kicked;
}

pub returns-clause-claimant : goal.returns-clause-claimant
returns-clause-claimant g c = c.kick_others.ensures.stands.claim ∙ claims_adds _ _ _ _ _ (Exchange 0) Pend c.compare_exchange-found.ensures.step c.pend_word-pend.ensures.name
    ∙ ap (λ n. is_claimant_next Pend (Exchange 0) (c.from-own.result + 1) n (is_claimant (g.P.Look.shows c.args.port.now).own.steps)) c.if-found-ne0.false

pub returns-clause-out : goal.returns-clause-out
returns-clause-out g c = c.kick_others.ensures.stands.phase ∙ phase_adds _ _ _ _ _ (Exchange 0) Pend c.compare_exchange-found.ensures.step c.pend_word-pend.ensures.name ∙ c.requires.out.0
