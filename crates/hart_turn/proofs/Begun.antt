-- The look at STOP with which a turn begins.
use Rattle.std.proofs.Common.{◌≡◌, ℕ, [], ◌∷◌, refl}
use Rattle.rv64_priv.specs.Csr.{regime}
use Rattle.step_laws.specs.declared.steps.WordOp.TheVariants.{Load}
use Rattle.step_laws.specs.Map.{Word, Done, Stop}
use Rattle.guest_ram.specs.Ports.{GoesBy, IsActing, Made, Shown}
use Rattle.guest_ram.proofs.Moves.{goes_made, goes_then, goes_within}
use Rattle.turn_pieces.specs.Log.{made}
use Rattle.fence_pieces.proofs.Behind.{quiet_behind}
use Rattle.signal_pieces.proofs.Sides.{turns_begin}
use Rattle.signal_pieces.proofs.Single.{goes_one}
use Rattle.hart_turn.specs.declared.hart.Hart.{Hart}
use Rattle.hart_turn.specs.Harts.{GoesWith, own_of}
use Rattle.hart_turn.specs.Logs.{Begins, BeginsAndEnds, Finishes}
use Rattle.hart_turn.specs.Parts.{IsOfBegin, IsOfLeaving}
use Rattle.hart_turn.proofs.Aside.{with_step}
use Rattle.hart_turn.proofs.Said.{said_look}
use Rattle.hart_turn.proofs.Sides.{call_behind}

module _ (h : Hart) (p q : Shown) (found : ℕ) (m : Made p q Stop Load 0 found) where
  pub with_look : IsActing q → GoesWith h p → GoesWith h q
  with_look acting can = with_step h p q Stop Load 0 found m tt tt tt tt tt refl acting can

  pub begins : Begins h p q
  begins u a l x =
      let s = x.settles in
      let y = turns_begin p q h.book (regime h.arch) found m (own_of h x.held) u a l (record { tells = s.tells; settled = λ page. s.settled page refl; not_due = x.not_due }) in record {
        look = y.look;
        looks = y.looks;
        behind = record {
          ends = record {
            limit_is = x.limit_is;
            held = x.held;
            settles = record { tells = y.rests.tells; settled = y.rests.settled };
            not_due = y.not_due;
            said = said_look a y.look l y.looks x.said;
            call = call_behind 1 (λ v. v ≡ Stop) h.call h.sent h.arch p q x.held a l (made y.look ∷ l) (goes_one p q Stop Load 0 found m) (quiet_behind a (y.look ∷ []) l) x.call;
          };
          idle = y.rests.idle;
        };
      }

  pub begins_and_ends : (k : Hart) (r : Shown) → Finishes h k q r → BeginsAndEnds h k p r
  begins_and_ends k r ends u a l x = let y = begins u a l x in record { look = y.look; looks = y.looks; behind = ends u a (made y.look ∷ l) y.behind.ends }

leave_begin : (w : Word) → IsOfLeaving w → IsOfBegin w
leave_begin Stop t = tt
leave_begin (Done a) t = tt
leave_begin w t = t

pub looked_goes : (found : ℕ) (p q : Shown) → Made p q Stop Load 0 found → GoesBy 1 IsOfBegin p q
looked_goes found p q m = goes_made IsOfBegin p q Stop Load 0 found m tt

pub ended_goes : (found : ℕ) (p q r : Shown) → Made p q Stop Load 0 found → GoesBy 2 IsOfLeaving q r → GoesBy 3 IsOfBegin p r
ended_goes found p q r m goes = goes_then 1 2 IsOfBegin p q r (looked_goes found p q m) (goes_within 2 IsOfLeaving IsOfBegin q r leave_begin goes)
