-- An instruction that is counted, and the stop at the limit.
use Rattle.std.proofs.Common.{ne_eqb, ◌≡◌, ◌≢◌, ℕ, ◌+◌, ◌<◌, true, false, sym, ◌∙◌, arith}
use Rattle.std.proofs.lemmas.Bool.{eq-eqb}
use Rattle.rv64_priv.specs.Csr.{regime}
use Rattle.step_laws.specs.declared.steps.WordOp.TheVariants.{Exchange}
use Rattle.step_laws.specs.Map.{Stop}
use Rattle.step_laws.specs.Output.{has_set_stop, has_set_stop_next}
use Rattle.machine_model.specs.ReasonWords.{reason_word}
use Rattle.machine_model.specs.Run.{is_due}
use Rattle.machine_model.specs.declared.reason.Reason.{Reason}
use Rattle.guest_ram.specs.Ports.{IsActing, Shown}
use Rattle.guest_ram.proofs.Moves.{fold_adds}
use Rattle.guest_devices.specs.Output.{HasSetStop}
use Rattle.turn_pieces.specs.Grows.{Part, stays}
use Rattle.turn_pieces.specs.Log.{events_of}
use Rattle.signal_pieces.specs.Signalling.{nobody}
use Rattle.signal_pieces.proofs.Stopping.{limits_stand}
use Rattle.hart_turn.specs.declared.hart.Hart.{Hart}
use Rattle.hart_turn.specs.Harts.{GoesWith, counted, own_of}
use Rattle.hart_turn.specs.Logs.{AtCount, AtEnd}
use Rattle.hart_turn.proofs.Aside.{with_count, with_one}
use Rattle.hart_turn.proofs.Looks.{call_none}
use Rattle.hart_turn.proofs.Moving.{not_both}
use Rattle.hart_turn.proofs.Said.{said_made}
use Rattle.std.proofs.Common.{None}

less : (n limit : ℕ) → n < limit → n + 1 ≢ limit → n + 1 < limit
less n limit below ne = omega (arith, below, ne)

-- below its limit
module _ (h : Hart) (p : Shown) (below : h.count < h.limit) (ne : h.count + 1 ≢ h.limit) where
  pub with_within : GoesWith h p → GoesWith (counted h) p
  with_within can = with_count h (h.count + 1) p (λ unsaid. less h.count h.limit below ne) can

  pub within_ends : Part (AtCount (counted h) p) (AtEnd (counted h) p)
  within_ends u a l x = record {
    late = l;
    grows = stays;
    holds = record {
      limit_is = x.limit_is;
      held = None;
      settles = x.settles;
      not_due = x.due_is ∙ ne_eqb (h.count + 1) u.limit (λ e. ne (e ∙ x.limit_is));
      said = x.said;
      call = call_none h.call h.sent h.arch p a l x.free;
    };
  }

-- at its limit
module _ (h : Hart) (p q : Shown) (stands : Reason) (set : HasSetStop (Reason.Limit p.own.actor) stands p q) (can : GoesWith h p) where
  said : has_set_stop q.own.steps ≡ true
  said = let m = set.exchanges in fold_adds has_set_stop_next false p q m.word (reason_word (Reason.Limit p.own.actor)) set.found (Exchange 0) Stop m.step m.name

  pub with_limit : IsActing q → GoesWith (counted h) q
  with_limit acting = with_count h (h.count + 1) q (λ unsaid. absurd (not_both (has_set_stop q.own.steps) unsaid said))
      (with_one h p q Stop (Exchange 0) (reason_word (Reason.Limit p.own.actor)) set.found set.exchanges tt tt tt tt tt (λ unsaid. absurd (not_both (has_set_stop q.own.steps) unsaid said)) acting can)

  pub limit_ends : h.count + 1 ≡ h.limit → Part (AtCount (counted h) p) (AtEnd (counted h) q)
  limit_ends at u a l x =
      let due : is_due u.limit (events_of l) a (h.count + 1) ≡ true = x.due_is ∙ eq-eqb (h.count + 1) u.limit (at ∙ sym x.limit_is) in
      let y = limits_stand stands p q h.book (regime h.arch) set can.beside.hart nobody (own_of (counted h) None) u a l x.settles due in record {
        late = y.late;
        grows = y.grows;
        holds = record {
          limit_is = x.limit_is;
          held = None;
          settles = y.settles;
          not_due = y.not_due;
          said = said_made p q Stop (Exchange 0) (reason_word (Reason.Limit p.own.actor)) set.found u a l y.late tt set.exchanges x.settles.tells.tells.stands.is y.settles.tells.tells.stands.is y.grows x.said;
          call = call_none h.call h.sent h.arch q a y.late x.free;
        };
      }
