-- A look at IPI: what goes with the hart where it traps, and where it goes on to fetch.
use Rattle.std.proofs.Common.{◌≡◌, ℕ, true, false, None, refl, sym, ap, subst, ◌∙◌}
use Rattle.std.specs.Prelude.{Option}
use Rattle.rv64_priv.specs.Csr.{regime}
use Rattle.rv64_priv.specs.State.{Arch}
use Rattle.rv64_priv.specs.Trap.{software_interrupt, trapped}
use Rattle.rv64_exec.specs.Code.{Code}
use Rattle.step_laws.specs.declared.steps.WordOp.TheVariants.{Load}
use Rattle.step_laws.specs.Map.{Ipi}
use Rattle.machine_model.specs.Lawful.{is_pending}
use Rattle.machine_model.specs.State.{Setup}
use Rattle.work_queue.specs.declared.rings.Sent.{Sent}
use Rattle.guest_ram.specs.Ports.{IsActing, Made, Shown}
use Rattle.turn_pieces.specs.Log.{Log}
use Rattle.signal_pieces.specs.Signalling.{IsFree, nobody}
use Rattle.signal_pieces.proofs.Stopping.{interrupts_stand, looks_let_fetch}
use Rattle.access_pieces.specs.Serving.{Rests}
use Rattle.fetch_pieces.specs.Fetching.{MayFetch}
use Rattle.fetch_pieces.specs.Regimes.{IsAlike}
use Rattle.fetch_pieces.proofs.Regimes.{fills_agree}
use Rattle.hart_turn.specs.declared.hart.Call.{Call}
use Rattle.hart_turn.specs.declared.hart.Hart.{Hart}
use Rattle.hart_turn.specs.Harts.{GoesWith, IsCallOf, own_of}
use Rattle.hart_turn.specs.Logs.{AtWork, IsCallIn, LooksOn}
use Rattle.hart_turn.specs.Parts.{after_look}
use Rattle.hart_turn.proofs.Aside.{with_step}
use Rattle.hart_turn.proofs.Said.{said_made}

-- a hart with no call in progress holds no word
pub holds_none : (call : Call) (sent : Sent) (c : Arch) (p : Shown) (held : Option Code) (a : ℕ) (l : Log) → call ≡ Call.Nothing → IsCallIn call sent c p held a l → held ≡ None
holds_none call sent c p held a l is x = subst (λ (z : Call). IsCallIn z sent c p held a l) is x

pub call_none : (call : Call) (sent : Sent) (c : Arch) (p : Shown) (a : ℕ) (l : Log) → call ≡ Call.Nothing → IsCallIn call sent c p None a l
call_none call sent c p a l is = subst (λ (z : Call). IsCallIn z sent c p None a l) (sym is) refl

-- its registers may be others
pub with_arch : (h : Hart) (c : Arch) (q : Shown) → h.call ≡ Call.Nothing → IsAlike (regime h.arch) (regime c) → GoesWith h q → GoesWith (record h { arch = c }) q
with_arch h c q nothing alike can = record {
  beside = can.beside;
  fills = record { items = can.fills.items; fills = can.fills.fills; goes = fills_agree q h.book (regime h.arch) (regime c) can.fills.items can.fills.fills alike can.fills.goes };
  number = can.number;
  runs = can.runs;
  free = can.free;
  paid = can.paid;
  stands = record { phase_is = can.stands.phase_is; claim_is = can.stands.claim_is; quantum = can.stands.quantum };
  sent = can.sent;
  served = can.served;
  below = can.below;
  call = subst (λ (z : Call). IsCallOf z h.sent c q) (sym nothing) tt;
  stopped = can.stopped;
}

module _ (h : Hart) (p q : Shown) (found : ℕ) (m : Made p q Ipi Load 0 found) (can : GoesWith h p) where
  pub with_ipi : IsActing q → GoesWith h q
  with_ipi acting = with_step h p q Ipi Load 0 found m tt tt tt tt tt refl acting can

  module _ (nothing : h.call ≡ Call.Nothing) (running : h.runs ≡ true) where
    free : (u : Setup) (a : ℕ) (l : Log) (x : AtWork h p u a l) → IsFree (own_of h x.ends.held) h.arch
    free u a l x = record { arch_is = refl; runs = running; holds_none = holds_none h.call h.sent h.arch p x.ends.held a l nothing x.ends.call }

    rests : (u : Setup) (a : ℕ) (l : Log) (x : AtWork h p u a l) → Rests nobody (own_of h x.ends.held) p h.book (regime h.arch) u a l
    rests u a l x = record { tells = x.ends.settles.tells; idle = x.idle; settled = x.ends.settles.settled }

    pub trap_works : is_pending h.arch h.number found ≡ true → LooksOn true h (after_look true h) p q
    trap_works pending u a l x =
        let y = interrupts_stand p q h.book h.arch found m can.beside.hart (ap (λ n. is_pending h.arch n found) (sym can.number) ∙ pending) nobody (own_of h x.ends.held) u a l (free u a l x) (rests u a l x) x.ends.not_due in record {
          late = y.late;
          grows = y.grows;
          holds = record {
            limit_is = x.ends.limit_is;
            held = x.ends.held;
            settles = y.settles;
            not_due = y.not_due;
            said = said_made p q Ipi Load 0 found u a l y.late tt m x.ends.settles.tells.tells.stands.is y.settles.tells.tells.stands.is y.grows x.ends.said;
            call = subst (λ (z : Option Code). IsCallIn h.call h.sent (trapped h.arch software_interrupt 0) q z a y.late) (sym (free u a l x).holds_none) (call_none h.call h.sent (trapped h.arch software_interrupt 0) q a y.late nothing);
          };
        }

    pub fetch_works : is_pending h.arch h.number found ≡ false → LooksOn false h h p q
    fetch_works unasked u a l x =
        let y = looks_let_fetch p q h.book h.arch found m (ap (λ n. is_pending h.arch n found) (sym can.number) ∙ unasked) nobody (own_of h x.ends.held) u a l (free u a l x) (rests u a l x) x.ends.not_due in record {
          late = y.0;
          grows = y.1;
          holds = record { limit_is = x.ends.limit_is; may = subst (λ (z : Option Code). MayFetch nobody (own_of h z) q h.book h.arch u a y.0) (free u a l x).holds_none y.2; said = said_made p q Ipi Load 0 found u a l y.0 tt m x.ends.settles.tells.tells.stands.is y.2.rests.tells.tells.stands.is y.1 x.ends.said };
        }
