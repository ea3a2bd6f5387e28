-- Steps on RUN, PEND and KICK: what goes with a hart goes on with it, as it then stands.
use Rattle.std.proofs.Common.{◌≡◌, ℕ, true, List, [], ◌∷◌, sym, ap, subst, ◌∙◌}
use Rattle.std.specs.Prelude.{Option}
use Rattle.rv64_priv.specs.State.{Arch}
use Rattle.rv64_priv.specs.Csr.{regime}
use Rattle.rv64_exec.specs.Code.{Code}
use Rattle.step_laws.specs.declared.steps.Step.{Step}
use Rattle.step_laws.specs.Map.{Word, name_of}
use Rattle.machine_model.specs.Run.{is_due}
use Rattle.machine_model.specs.Event.{Event}
use Rattle.machine_model.specs.State.{Setup}
use Rattle.guest_ram.specs.Ports.{AreAllowed, GoesBy, IsActing, Shown}
use Rattle.walk_laws.specs.KeptWalks.{Item}
use Rattle.tlb_table.proofs.Aside.{IsOffTable}
use Rattle.tlb_fill.proofs.Marking.{same_goes}
use Rattle.kept_fills.specs.Fills.{GoesWithFills}
use Rattle.kept_fills.proofs.Staying.{fills_stay}
use Rattle.work_queue.specs.declared.rings.Sent.{Sent}
use Rattle.sbi_calls.proofs.Fenced.{fence_goes}
use Rattle.turn_pieces.specs.Grows.{Part}
use Rattle.turn_pieces.specs.KeptWalks.{flushes_in}
use Rattle.turn_pieces.specs.Log.{Log, steps_of}
use Rattle.turn_pieces.specs.Writers.{AreCalm, AreOn, QuietBy, quietly}
use Rattle.turn_pieces.proofs.Unmarked.{is_other, unmarked_quietly}
use Rattle.turn_pieces.proofs.Writers.{quietly_grows, quietly_tells}
use Rattle.access_pieces.specs.Serving.{view}
use Rattle.access_pieces.proofs.Spots.{flushes_quietly}
use Rattle.fence_pieces.specs.Behind.{IsBehind}
use Rattle.fence_pieces.proofs.Behind.{behind_stays, flushes_stay, quiet_behind}
use Rattle.fence_pieces.proofs.Quiet.{events_quietly}
use Rattle.signal_pieces.specs.Signalling.{IsOfSides, nobody}
use Rattle.signal_pieces.proofs.Sides.{all_calm, sides_off, sides_off_lock, sides_pass, sides_unmarked}
use Rattle.hart_turn.specs.declared.hart.Call.{Call}
use Rattle.hart_turn.specs.declared.hart.Hart.{Hart}
use Rattle.hart_turn.specs.Harts.{GoesWith, IsStill, StandsBy, own_of}
use Rattle.hart_turn.specs.Logs.{AtEnd, Finishes, IsCallIn, WorksOn}
use Rattle.hart_turn.proofs.Draws.{IsNeither, sides_neither}
use Rattle.hart_turn.proofs.Said.{said_goes}
use Rattle.hart_turn.proofs.Aside.{sides_no_end, sides_no_place, sides_off_states, stop_goes, with_goes}

-- a call in progress is in a log behind, with no fetch between, as it was
pub call_behind : (n : ℕ) (A : Word → Type 0) (call : Call) (sent : Sent) (c : Arch) (p q : Shown) (held : Option Code) (a : ℕ) (l late : Log) → GoesBy n A p q → IsBehind a l late → IsCallIn call sent c p held a l → IsCallIn call sent c q held a late
call_behind n A Call.Nothing sent c p q held a l late goes behind x = x
call_behind n A (Call.Fence harts span fence) sent c p q held a l late goes behind x = record {
  code = x.code;
  holds = x.holds;
  need_is = x.need_is;
  base = x.base;
  behind = behind_stays a x.base l late x.behind behind;
  goes = fence_goes n A harts span sent fence (steps_of x.base) p q goes x.goes;
  flushed = λ i less. flushes_stay a a _ l late behind (x.flushed i less);
}

-- a hart that stands elsewhere is the same in its log
pub end_still : (h k : Hart) (p : Shown) (u : Setup) (a : ℕ) (l : Log) → IsStill h k → AtEnd h p u a l → AtEnd k p u a l
end_still h k p u a l still x = subst (λ (z : Hart). AtEnd z p u a l) (sym still) (record { limit_is = x.limit_is; held = x.held; settles = x.settles; not_due = x.not_due; said = x.said; call = x.call })

pub part_still : (P : Setup → ℕ → Log → Type 0) (h k : Hart) (q : Shown) → IsStill h k → Part P (AtEnd h q) → Part P (AtEnd k q)
part_still P h k q still part u a l x = let y = part u a l x in record { late = y.late; grows = y.grows; holds = end_still h k q u a y.late still y.holds }

-- steps that need no event, off the table, behind its work
module _ (most : ℕ) (A : Word → Type 0) (h : Hart) (p q : Shown) (off : (w : Word) → A w → IsOffTable w) (unmarked : (w : Word) → A w → is_other w ≡ true) (neither : (w : Word) → A w → IsNeither w) (goes : GoesBy most A p q) (calm : AreCalm p.own.actor goes.added) where
  all_on : (r : List Step) → AreAllowed A p r → AreOn A r
  all_on [] k = tt
  all_on (s ∷ r) k = (k.0.0, all_on r k.1)

  all_unmarked : (r : List Step) → AreAllowed A p r → AreOn (λ w. is_other w ≡ true) r
  all_unmarked [] k = tt
  all_unmarked (s ∷ r) k = (unmarked (name_of s.word) k.0.0, all_unmarked r k.1)

  pub ends_on : Finishes h h p q
  ends_on u a l x =
      let t = x.settles.tells.tells in
      let own : AreCalm a goes.added = subst (λ n. AreCalm n goes.added) (sym t.stands.actor) calm in
      let quiet : QuietBy A most (view p) (view q) = record { added = goes.added; few = goes.few; grown = ap view goes.grown; calm = calm; inner = all_on goes.added goes.allowed } in
      let late = quietly goes.added l in record {
        late = late;
        grows = quietly_grows u a goes.added l own t.clear t.none_drawn;
        holds = record {
          limit_is = x.limit_is;
          held = x.held;
          settles = record {
            tells = record {
              tells = quietly_tells A most (own_of h x.held) (view p) (view q) u a l quiet t;
              fills = x.settles.tells.fills;
              goes = subst (λ (y : List Item). GoesWithFills q h.book (regime h.arch) y x.settles.tells.fills) (sym (flushes_quietly a goes.added l))
                  (fills_stay p q h.book (regime h.arch) (flushes_in a l) x.settles.tells.fills goes.added (ap (λ (y : Shown). y.own.steps) goes.grown) (same_goes most A p q off goes) x.settles.tells.goes);
            };
            settled = λ page free. unmarked_quietly u a page goes.added l (all_unmarked goes.added goes.allowed) ∙ x.settles.settled page free;
          };
          not_due = ap (λ (run : List Event). is_due u.limit run a h.count) (events_quietly goes.added l) ∙ x.not_due;
          said = said_goes most A p q u a l late neither goes t.stands.is (quietly_tells A most (own_of h x.held) (view p) (view q) u a l quiet t).stands.is (quietly_grows u a goes.added l own t.clear t.none_drawn) x.said;
          call = call_behind most A h.call h.sent h.arch p q x.held a l late goes (quiet_behind a goes.added l) x.call;
        };
      }

-- what it is behind steps on these words
pub record Goes (h k : Hart) (p q : Shown) : Type 0 where
  pub with : GoesWith k q
  pub works : WorksOn h k p q
  pub ends : Finishes h k p q

module _ (most : ℕ) (h k : Hart) (p q : Shown) (can : GoesWith h p) (goes : GoesBy most IsOfSides p q) (acting : IsActing q) (still : IsStill h k) where
  with_sides : StandsBy k q → GoesWith k q
  with_sides stands = with_goes most IsOfSides h k p q sides_off_lock sides_off sides_off_states sides_no_place goes (λ unsaid. can.below (sym (stop_goes most IsOfSides p q sides_no_end goes) ∙ unsaid)) acting still stands can

  works_sides : WorksOn h k p q
  works_sides u a l x =
      let e = x.ends in
      let y = (sides_pass most p q h.book (regime h.arch) can.beside acting goes nobody (own_of h e.held) u a l (record { tells = e.settles.tells; idle = x.idle; settled = e.settles.settled }) e.not_due).1 in
      let late = quietly y.added l in record {
        late = late;
        grows = y.grows;
        holds = record {
          ends = end_still h k q u a late still (record {
            limit_is = e.limit_is;
            held = e.held;
            settles = record { tells = y.rests.tells; settled = y.rests.settled };
            not_due = y.not_due;
            said = said_goes most IsOfSides p q u a l late sides_neither goes e.settles.tells.tells.stands.is y.rests.tells.tells.stands.is y.grows e.said;
            call = call_behind most IsOfSides h.call h.sent h.arch p q e.held a l late goes y.behind e.call;
          });
          idle = y.rests.idle;
        };
      }

  ends_sides : Finishes h k p q
  ends_sides = part_still (AtEnd h p) h k q still (ends_on most IsOfSides h p q sides_off sides_unmarked sides_neither goes (all_calm p goes.added goes.allowed))

  pub sides_go : StandsBy k q → Goes h k p q
  sides_go stands = record { with = with_sides stands; works = works_sides; ends = ends_sides }
