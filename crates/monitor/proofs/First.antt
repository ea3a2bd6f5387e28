-- A monitor as it is made goes with a port that has made no step, and with the empty log.
use Rattle.std.proofs.Common.{true≢false, refl, sym, ap}
use Rattle.step_laws.specs.Output.{is_finished}
use Rattle.step_laws.specs.Sections.{is_claimant, phase}
use Rattle.monitor.specs.Laws.{NewMonitorsAreBetween, NewMonitorsGo}

pub first_goes : NewMonitorsGo
first_goes commands p new possible = record {
  limits = new.limits;
  number = new.number;
  out = ap phase new.none;
  claim = ap is_claimant new.none;
  finished = ap is_finished new.none;
  claims = λ e. absurd (true≢false (sym e));
  done = λ e. absurd (true≢false (sym e));
  possible = possible;
  kept = tt;
}

pub first_between : NewMonitorsAreBetween
first_between commands p u new layout script = record {
  layout = layout;
  actor = sym new.number;
  is = sym new.none;
  closed = record {
    clear = tt;
    none_drawn = refl;
    none_left = refl;
    stops = refl;
    last = λ e. absurd (true≢false (sym e));
    left = refl;
    full = λ e. cc;
    marks = λ page. refl;
    snapshot = λ e. refl;
  };
  none_begun = refl;
  script = script;
  results = refl;
}
