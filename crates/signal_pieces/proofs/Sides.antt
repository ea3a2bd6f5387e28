-- Steps on RUN, PEND and KICK, the last step, and the look with which a turn begins.
use Rattle.std.proofs.Common.{◌≡◌, ℕ, true, false, List, [], ◌∷◌, refl, sym, ap, subst, ◌∙◌}
use Rattle.std.proofs.lemmas.Bool.{eq-eqb}
use Rattle.step_laws.specs.declared.steps.Step.{Step}
use Rattle.step_laws.specs.declared.steps.WordOp.{WordOp}
use Rattle.step_laws.specs.declared.steps.WordOp.TheVariants.{Load, Store}
use Rattle.step_laws.specs.Map.{Done, Kick, Pend, Run, Stop, Word, name_of}
use Rattle.guest_ram.specs.Ports.{AreAllowed, Shown}
use Rattle.guest_ram.proofs.Moves.{fold_adds}
use Rattle.tlb_table.proofs.Aside.{IsOffTable}
use Rattle.kept_fills.proofs.Staying.{fills_stay}
use Rattle.tlb_fill.proofs.Marking.{same_goes}
use Rattle.turn_pieces.specs.Doing.{IsCalm}
use Rattle.turn_pieces.specs.Draws.{may_draw_next}
use Rattle.turn_pieces.specs.Folds.{drawn_next, unstored_next}
use Rattle.turn_pieces.specs.Grows.{IsClear}
use Rattle.turn_pieces.specs.Kept.{places}
use Rattle.turn_pieces.specs.KeptWalks.{flushes_in}
use Rattle.turn_pieces.specs.Owed.{unstored}
use Rattle.turn_pieces.specs.Writers.{AreCalm, IsPlain}
use Rattle.turn_pieces.proofs.Accesses.{step_stands}
use Rattle.turn_pieces.proofs.Unmarked.{is_other, unmarked_step}
use Rattle.turn_pieces.proofs.Writers.{owed_named}
use Rattle.access_pieces.specs.Serving.{view}
use Rattle.fence_pieces.proofs.Quiet.{passes}
use Rattle.hart_signals.proofs.Aside.{IsOffLock, beside_goes}
use Rattle.signal_pieces.specs.Laws.{EndsPass, SidesPass, TurnsBegin}
use Rattle.signal_pieces.specs.Signalling.{IsOfSides}
use Rattle.signal_pieces.proofs.Single.{goes_one, one_passes, passed, step_at}

pub sides_off_lock : (w : Word) → IsOfSides w → IsOffLock w
sides_off_lock Pend t = tt
sides_off_lock (Run a) t = tt
sides_off_lock (Kick h) t = tt
sides_off_lock w t = absurd t

pub sides_off : (w : Word) → IsOfSides w → IsOffTable w
sides_off Pend t = tt
sides_off (Run a) t = tt
sides_off (Kick h) t = tt
sides_off w t = absurd t

pub sides_unmarked : (w : Word) → IsOfSides w → is_other w ≡ true
sides_unmarked Pend t = refl
sides_unmarked (Run a) t = refl
sides_unmarked (Kick h) t = refl
sides_unmarked w t = absurd t

pub sides_calm : (w : Word) (op : WordOp) (answer : ℕ) → IsOfSides w → IsCalm w op answer
sides_calm Pend op answer t = tt
sides_calm (Run a) op answer t = tt
sides_calm (Kick h) op answer t = tt
sides_calm w op answer t = absurd t

pub sides_plain : (n : ℕ) (w : Word) (op : WordOp) → IsOfSides w → IsPlain n w op
sides_plain n Pend op t = tt
sides_plain n (Run a) op t = tt
sides_plain n (Kick h) op t = tt
sides_plain n w op t = absurd t

pub all_calm : (p : Shown) (r : List Step) → AreAllowed IsOfSides p r → AreCalm p.own.actor r
all_calm p [] k = tt
all_calm p (s ∷ r) k = (sides_calm (name_of s.word) s.op s.answer k.0.0, sides_plain p.own.actor (name_of s.word) s.op k.0.0, all_calm p r k.1)

pub sides_pass : SidesPass
sides_pass most p q b r can acting goes others o u a l x still = (
  beside_goes b most IsOfSides p q sides_off_lock goes acting can,
  passed p q b r goes.added others o u a l (ap (λ (y : Shown). y.own.steps) goes.grown) still (passes IsOfSides sides_off sides_unmarked most p q b r goes (all_calm p goes.added goes.allowed) others o u a l x),
)

pub ends_pass : EndsPass
ends_pass p q b r m others o u a l x still = passed p q b r (step_at p m.word Store 1 0 ∷ []) others o u a l (ap (λ (y : Shown). y.own.steps) m.step) still
    (one_passes p q (Done p.own.actor) Store 1 0 m tt refl tt (λ n. tt) b r others o u a l x)

pub turns_begin : TurnsBegin
turns_begin p q b r found m o u a l x =
    let s = step_at p m.word Load 0 found in
    let none = owed_named l s Stop Load m.name refl in record {
      look = s;
      steps_are = ap (λ (y : Shown). y.own.steps) m.step;
      looks = (m.name, refl);
      rests = record {
        tells = record {
          tells = record {
            stands = step_stands o (view p) (view q) u a l s (ap view m.step) x.tells.tells.stands;
            clear = subst IsClear (sym none) tt;
            none_drawn = ap (λ v. drawn_next v Load found (places l)) m.name ∙ x.tells.tells.none_drawn;
            none_left = ap (λ v. unstored_next v Load found [] (unstored l)) m.name ∙ x.tells.tells.none_left;
          };
          fills = x.tells.fills;
          goes = fills_stay p q b r (flushes_in a l) x.tells.fills (s ∷ []) (ap (λ (z : Shown). z.own.steps) m.step) (same_goes 1 (λ v. v ≡ Stop) p q (λ v y. subst IsOffTable (sym y) tt) (goes_one p q Stop Load 0 found m)) x.tells.goes;
        };
        idle = none;
        settled = λ page free. unmarked_step u a page l s (ap is_other m.name) ∙ x.settled page;
      };
      not_due = x.not_due;
      draws = λ zero_is. fold_adds may_draw_next false p q m.word 0 found Load Stop m.step m.name ∙ eq-eqb found 0 zero_is;
    }
