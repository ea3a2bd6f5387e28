-- An actor's last event in a log, where it stands on top of all others: it counts as the event does.
use Rattle.std.proofs.Common.{◌≡◌, ℕ, Bool, true, List, ◌∷◌, Some, refl, ap, ◌∙◌, eq-eqb}
use Rattle.std.specs.Prelude.{if◌then◌else◌}
use Rattle.machine_model.specs.Event.{Event, actor_of}
use Rattle.machine_model.specs.Run.{counts, last_of, passes}
use Rattle.turn_pieces.specs.Log.{Log, did, events_of}

-- whatever steps were made behind it
pub counted_top : (a : ℕ) (l : Log) (e : Event) (run : List Event) → events_of l ≡ e ∷ run → actor_of e ≡ a → counts e ≡ true → passes counts (last_of a (events_of l)) ≡ true
counted_top a l e run top own is = ap (λ (r : List Event). passes counts (last_of a r)) top ∙ ap (λ (b : Bool). passes counts (if b then Some e else last_of a run)) (eq-eqb (actor_of e) a own) ∙ is

pub counted_did : (a : ℕ) (l : Log) (e : Event) → actor_of e ≡ a → counts e ≡ true → passes counts (last_of a (events_of (did e ∷ l))) ≡ true
counted_did a l e own is = counted_top a (did e ∷ l) e (events_of l) refl own is
