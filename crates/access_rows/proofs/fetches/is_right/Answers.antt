use Rattle.std.proofs.Common.{sym, subst}
use Rattle.rv64_priv.specs.declared.state.Regime.{Regime}
use Rattle.guest_access.specs.Reaching.{KnowsFills}
use Rattle.guest_access.proofs.Fills.{knows_on}
use Rattle.access_rows.proofs.fetches.is_right.Goals as goal

pub returns-clause-ready : goal.returns-clause-ready
returns-clause-ready g c = record {
  access = c.fetch.ensures.access;
  fills = subst (λ (r : Regime). KnowsFills c.fetch.new.book r (g.P.Look.shows c.fetch.new.port)) c.at-arch.ensures
      (knows_on _ _ _ _ _ c.fetch.ensures.goes_on (subst (λ (r : Regime). KnowsFills c.args.side.now.book r (g.P.Look.shows c.args.port.now)) (sym c.at-arch.ensures) c.requires.ready.fills));
}
