-- One step with its Exec, in the form that a writer of accesses uses: the Exec is placed at the step, and the log tells of the port behind it.
use Rattle.std.proofs.Common.{◌≡◌, ◌<◌, ℕ, List, [], ◌∷◌, Option, Some, None, refl, sym, ap, subst, ◌∙◌}
use Rattle.rv64_priv.specs.Walk.{Walked}
use Rattle.step_laws.specs.declared.steps.Step.{Step}
use Rattle.step_laws.specs.declared.steps.WordOp.TheVariants.{Store}
use Rattle.step_laws.specs.Map.{Ram, name_of}
use Rattle.machine_model.specs.Memory.{write_of}
use Rattle.machine_model.specs.Event.{Event, Outcome, Exec, actor_of, did_of}
use Rattle.machine_model.specs.State.{Setup}
use Rattle.machine_model.specs.Own.{Own}
use Rattle.machine_model.specs.Own.{own_next, own_executed}
use Rattle.turn_pieces.specs.Folds.{drawn_next, unstored_next}
use Rattle.turn_pieces.specs.Log.{made, Log}
use Rattle.turn_pieces.specs.Kept.{places}
use Rattle.turn_pieces.specs.Owed.{Owed, stores, owed, unstored, unstored_did, books, MayMake, PaysFor}
use Rattle.turn_pieces.specs.Right.{IsFit, IsExec}
use Rattle.turn_pieces.specs.Grows.{stays, makes, Ends}
use Rattle.turn_pieces.specs.Writers.{Shown, Stands, Tells}
use Rattle.turn_pieces.proofs.Writers.{ends_then, event_stands, places_did}
use Rattle.turn_pieces.proofs.Offers.{free, store_owes}
use Rattle.turn_pieces.proofs.Writers.{owed_named}

-- the port with one step more
abbrev pub took : Shown → Step → Shown
took p s = record p { steps = s ∷ p.steps }

pub step_stands : (o : Own) (p q : Shown) (u : Setup) (a : ℕ) (l : Log) (s : Step) → q ≡ took p s → Stands o p u a l → Stands o q u a (made s ∷ l)
step_stands o p q u a l s e t = record {
  layout = t.layout ∙ sym (ap (λ (x : Shown). x.layout) e);
  actor = t.actor ∙ sym (ap (λ (x : Shown). x.actor) e);
  is = ap (λ r. s ∷ r) t.is ∙ sym (ap (λ (x : Shown). x.steps) e);
  part_is = t.part_is;
}

-- a step and the event that it owes, but for a draw
pub effect_stands : (o : Own) (p q : Shown) (u : Setup) (a : ℕ) (l : Log) (s : Step) (e : Event) (d : Owed) → Tells o p u a l → q ≡ took p s → MayMake u a l s → owed (made s ∷ l) ≡ d
    → places (made s ∷ l) ≡ [] → unstored (made s ∷ l) ≡ None → ((bs : List ℕ) → unstored_did d bs None ≡ None)
    → actor_of e ≡ a → IsFit u a (made s ∷ l) e o → PaysFor a (books (made s ∷ l)) d e → Ends u a l (Tells (own_next e o) q u a)
effect_stands o p q u a l s e d t g m is ps us leaves own fit x = ends_then u a l (made s ∷ l) (Tells (own_next e o) q u a) (makes s stays m)
    (event_stands o q u a (made s ∷ l) e (step_stands o p q u a l s g t.stands) own fit (subst (λ d. PaysFor a (books (made s ∷ l)) d e) (sym is) x)
    (places_did (made s ∷ l) e ps) ((λ i. unstored_did (is i) (did_of e).bytes (us i)) ∙ leaves (did_of e).bytes))

-- a store of a whole word of RAM
pub store_stands : (o : Own) (p q : Shown) (u : Setup) (a : ℕ) (l : Log) (s : Step) (i : ℕ) (walk second : Walked) (x : Outcome) → Tells o p u a l → q ≡ took p s
    → name_of s.word ≡ Ram i → s.op ≡ Store → a < u.layout.harts → IsExec u a (made s ∷ l) walk second x o
    → x.entry ≡ Some (write_of s.word s.arg ∷ []) → x.bytes ≡ [] → x.reason ≡ None → x.starts ≡ None → x.stops ≡ Rattle.std.proofs.Common.false
    → Ends u a l (Tells (own_executed x o) q u a)
store_stands o p q u a l s i walk second x t g n op lt fit en by re st sp = effect_stands o p q u a l s (Exec a walk second x) (stores s.word s.arg) t g
    (free u a l t.clear s (Ram i) Store n op tt tt tt) (owed_named l s (Ram i) Store n op ∙ store_owes u a l t.clear s.word s.arg)
    ((λ k. drawn_next (n k) s.op s.answer (places l)) ∙ t.none_drawn) ((λ k. unstored_next (n k) s.op s.answer [] (unstored l)) ∙ t.none_left) (λ bs. refl) refl (lt, fit)
    (record { does = record { entry_is = en; bytes_are = by; reason_is = re; starts_is = st; stops_is = sp }; begins_not = refl })
