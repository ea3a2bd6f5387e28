-- A turn: the parts of its log, one behind another.
use Rattle.std.specs.Prelude.{◌&&◌, not}
use Rattle.std.proofs.Common.{◌≡◌, ◌≢◌, ℕ, suc, ◌<◌, ◌≤◌, Bool, true, false, refl, sym, ap, subst, ◌∙◌, arith}
use Rattle.step_laws.specs.declared.steps.WordOp.TheVariants.{Load}
use Rattle.step_laws.specs.Harts.{is_owing}
use Rattle.step_laws.specs.Map.{Word, Done, Kick, Pend, Run, Stop}
use Rattle.step_laws.specs.Words.{monitor}
use Rattle.machine_model.specs.Own.{Own}
use Rattle.machine_model.specs.Run.{is_due}
use Rattle.guest_ram.specs.Ports.{GoesBy, Made, Shown, layout_of}
use Rattle.exclusive.specs.Entries.{HasEntered}
use Rattle.hart_signals.specs.Signals.{HasFoundNoReason}
use Rattle.signal_pieces.specs.Signalling.{IsOfSides}
use Rattle.guest_ram.proofs.Moves.{fold_adds}
use Rattle.turn_pieces.specs.Draws.{beyond, filled, filled_next, within}
use Rattle.turn_pieces.specs.Grows.{look_next}
use Rattle.turn_pieces.specs.Log.{events_of, steps_of}
use Rattle.turn_pieces.proofs.Writers.{part_then}
use Rattle.hart_turn.specs.declared.ends.TurnEnd.{TurnEnd}
use Rattle.hart_turn.specs.declared.ends.TurnEnd.TheVariants as ends
use Rattle.hart_turn.specs.declared.hart.Call.{Call}
use Rattle.hart_turn.specs.declared.hart.Claim.{Claim}
use Rattle.hart_turn.specs.declared.hart.Hart.{Hart}
use Rattle.hart_turn.specs.Harts.{GoesWith, IsSettled, gone_in, with_claim}
use Rattle.hart_turn.specs.Logs.{AtEnd, AtWork, Begins, BeginsAndEnds, Finishes, WorksOn, WorksToEnd}
use Rattle.hart_signals.proofs.Aside.{IsOffStates}
use Rattle.hart_turn.specs.Parts.{HasGoneAlone, IsOfBegin}
use Rattle.hart_turn.specs.Paths as paths
use Rattle.hart_turn.specs.Paths.{HasGoneOn, HasGoneToWork, HasTurned, HasWorked, goes_on, is_free, is_staying}
use Rattle.hart_turn.specs.Turning.{IsGoingOn, StaysOrEnds, TakesTurn}
use Rattle.hart_turn.proofs.Ordinary.{Adding}
use Rattle.hart_turn.proofs.Pathed.{looks_added, looks_alike, looks_in}

pub works_then : (h k m : Hart) (p q r : Shown) → WorksOn h k p q → WorksToEnd k m q r → WorksToEnd h m p r
works_then h k m p q r first second = part_then (AtWork h p) (AtWork k q) (AtEnd m r) first second

pub ends_then : (h k m : Hart) (p q r : Shown) → WorksToEnd h k p q → Finishes k m q r → WorksToEnd h m p r
ends_then h k m p q r first second = part_then (AtWork h p) (AtEnd k q) (AtEnd m r) first second

pub begins_then : (h j k : Hart) (p q r : Shown) → j ≡ h → Begins h p q → WorksToEnd j k q r → BeginsAndEnds h k p r
begins_then h j k p q r same begins from u a l x = let works : WorksToEnd h k q r = subst (λ (z : Hart). WorksToEnd z k q r) same from in let y = begins u a l x in record { look = y.look; looks = y.looks; behind = works u a _ y.behind }

pub stays_on : (end : TurnEnd) (h : Hart) (p : Shown) → IsGoingOn end → IsSettled h p → StaysOrEnds end h p
stays_on (ends.Ended reason) h p going x = absurd going
stays_on ends.Retired h p going x = x
stays_on ends.Rested h p going x = x
stays_on ends.Trapped h p going x = x
stays_on ends.Started h p going x = x
stays_on ends.Idle h p going x = x
stays_on (ends.Waiting wait) h p going x = x
stays_on (ends.Again anew) h p going x = x

pub begin_off_states : (w : Word) → IsOfBegin w → IsOffStates w
begin_off_states Stop t = tt
begin_off_states (Done a) t = tt
begin_off_states Pend t = tt
begin_off_states (Run a) t = tt
begin_off_states (Kick h) t = tt
begin_off_states w t = absurd t

no_monitor : (a actor harts most : ℕ) → a ≡ actor → actor < harts → harts ≤ most → a ≡ most → ⊥
no_monitor a actor harts most own less few is = omega (arith, own, less, few, is)

-- a look at STOP, and what a turn does behind it
module _ (h k : Hart) (p mid q : Shown) (found : ℕ) (can : GoesWith h p) (m : Made p mid Stop Load 0 found) (adds : Adding false mid q) (paid : is_owing q.own.actor q.own.steps ≡ false) where
  look_counts : looks_in mid.own.steps ≡ suc (looks_in p.own.steps)
  look_counts = ap (λ (x : Shown). looks_in x.own.steps) m.step ∙ ap (λ v. look_next v Load (looks_in p.own.steps)) m.name

  look_leaves : filled mid.own.steps ≡ filled p.own.steps
  look_leaves = fold_adds filled_next within p mid m.word 0 found Load Stop m.step m.name

  pub turn_taken : BeginsAndEnds h k p q → TakesTurn h k p q
  turn_taken part u a l x =
      let y = part u a l x.at_end in
      let e = y.behind in
      let z = e.holds in
      let before = x.at_end.settles.tells.tells.stands in
      let stands = z.settles.tells.tells.stands in
      let full : filled (steps_of e.late) ≢ beyond = subst (λ r. filled r ≢ beyond) (sym stands.is) (adds.full (subst (λ f. f ≢ beyond) (sym look_leaves) (subst (λ r. filled r ≢ beyond) before.is x.full))) in record {
        late = e.late;
        turn = record {
          look = y.look;
          looks = y.looks;
          grows = e.grows;
          once = looks_alike e.late ∙ ap looks_in stands.is ∙ looks_added false mid q adds ∙ look_counts ∙ ap suc (ap looks_in (sym before.is) ∙ sym (looks_alike l));
          closed = record {
            clear = z.settles.tells.tells.clear;
            none_drawn = z.settles.tells.tells.none_drawn;
            none_left = z.settles.tells.tells.none_left;
            stops = ap (λ (o : Own). is_due u.limit (events_of e.late) a o.count) stands.part_is ∙ z.not_due;
            last = z.said;
            left = subst (λ n. is_owing n (steps_of e.late) ≡ false) (sym stands.actor) (ap (is_owing q.own.actor) stands.is ∙ paid);
            full = full;
            marks = λ page. z.settles.settled page refl;
            snapshot = λ is. absurd (no_monitor a p.own.actor (layout_of p).harts monitor before.actor can.beside.hart can.beside.acting.limits.harts is);
          };
        };
        holds = record { at_end = z; full = full };
      }

-- a hart that is inside, or in its section, as it then stands, makes an instruction
module _ (any : Bool) (h j k : Hart) (p mid q : Shown) (end : TurnEnd) where
  pub entered_works : j ≡ gone_in h → h.claim ≡ Claim.Unwanted → HasEntered p mid → GoesBy 3 IsOfSides p mid → GoesWith j mid → HasWorked any end j k mid q → HasGoneToWork any h k p q end
  entered_works is claim entered goes with works = paths.entered end mid claim entered goes (subst (λ (z : Hart). GoesWith z mid) is with) (subst (λ (z : Hart). HasWorked any end z k mid q) is works)

  pub alone_works : j ≡ with_claim Claim.Made h → h.claim ≢ Claim.Unwanted → HasGoneAlone h p mid → GoesBy 18 IsOfSides p mid → GoesWith j mid → HasWorked any end j k mid q → HasGoneToWork any h k p q end
  alone_works is claim alone goes with works = paths.alone end mid claim alone goes (subst (λ (z : Hart). GoesWith z mid) is with) (subst (λ (z : Hart). HasWorked any end z k mid q) is works)

pub looked_on : (h j k : Hart) (p mid q : Shown) (end : TurnEnd) → j ≡ h → HasFoundNoReason p mid → GoesWith j mid → HasGoneOn j k mid q end → HasTurned h k p q end
looked_on h j k p mid q end is found with on = paths.went end mid found (subst (λ (z : Hart). GoesWith z mid) is with) (subst (λ (z : Hart). HasGoneOn z k mid q end) is on)

-- a hart that goes on inside runs, and has no call in progress
pub both_true : (a b : Bool) → (a && b) ≡ true → (a ≡ true) × (b ≡ true)
both_true true b e = (refl, e)
both_true false b e = absurd (cc (e))

free_call : (call : Call) → is_free call ≡ true → call ≡ Call.Nothing
free_call Call.Nothing e = refl
free_call (Call.Fence harts span fence) e = absurd (cc (e))

pub on_works : (any : Bool) (end : TurnEnd) (h : Hart) → goes_on any end h ≡ true → (h.runs ≡ true) × (h.call ≡ Call.Nothing)
on_works any end h e =
    let x = both_true (h.runs && is_free h.call && not any) (is_staying end) e in
    let y = both_true (h.runs && is_free h.call) (not any) x.0 in
    let z = both_true h.runs (is_free h.call) y.0 in (z.0, free_call h.call z.1)
