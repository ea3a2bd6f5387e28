-- Chains of turns are records that are cut in pieces.
use Rattle.std.proofs.Common.{◌≡◌, ℕ, false, List, [], ◌∷◌, ◌++◌, refl, sym, ap, subst, ◌∙◌}
use Rattle.step_laws.specs.declared.steps.Step.{Step}
use Rattle.step_laws.specs.Harts.{is_owing}
use Rattle.machine_model.specs.Event.{Event}
use Rattle.machine_model.specs.State.{Setup, hart, initial}
use Rattle.machine_model.specs.Own.{own, own_of}
use Rattle.machine_model.specs.Run.{is_due}
use Rattle.turn_pieces.specs.Folds.{was_last}
use Rattle.turn_pieces.specs.Draws.{filled}
use Rattle.turn_pieces.specs.Log.{made, Log}
use Rattle.turn_pieces.specs.Owed.{Owed, nothing, paid, owed}
use Rattle.turn_pieces.specs.Grows.{Grows, stays, makes, does, IsClear, IsClosed, LooksAtStop, IsTurn, AreTurns, none, turn, rests, IsChain, whole as whole_chain, looks}
use Rattle.turn_pieces.proofs.Chains.{turns_grow}
use Rattle.run_laws.proofs.Placed.{Placed, placed, with_event, placed_of}
use Rattle.run_laws.proofs.Kept.{whole}
use Rattle.run_laws.proofs.Pieces.{IsPart, IsWhole, BeginsTurn, IsPiece, IsTurns, none as no_turn, turn as one_turn, looks as last_look}
use Rattle.run_laws.proofs.Bridge.{half_of}
use Rattle.run_laws.proofs.Same.{same_steps, same_drawn}
use Rattle.run_laws.proofs.Grown.{AllPlaced, sound, said, closed, clear_here}

-- the placed steps on top, of which the first is this step's
pub record Over (r : List Placed) (s : Step) (late : List Placed) : Type 0 where
  pub ts : List Placed
  pub events : List Event
  pub are : late ≡ ts ++ placed s events ∷ r

over_event : (r : List Placed) (s : Step) (late : List Placed) (e : Event) → Over r s late → Over r s (with_event e late)
over_event r s late e k = go k.ts k.are
  where
    go : (ts : List Placed) → late ≡ ts ++ placed s k.events ∷ r → Over r s (with_event e late)
    go [] is = record { ts = []; events = e ∷ k.events; are = ap (with_event e) is }
    go (t ∷ ts) is = record { ts = placed t.step (e ∷ t.events) ∷ ts; events = k.events; are = ap (with_event e) is }

over : (u : Setup) (a : ℕ) (l : Log) (s : Step) {late : Log} → Grows u a (made s ∷ l) late → Over (placed_of l) s (placed_of late)
over u a l s stays = record { ts = []; events = []; are = refl }
over u a l s (makes c g k) = let o = over u a l s g in record { ts = placed c [] ∷ o.ts; events = o.events; are = ap (λ p. placed c [] ∷ p) o.are }
over u a l s (does {m = m} e g k) = over_event (placed_of l) s (placed_of m) e (over u a l s g)

assoc_one : (ts : List Placed) (t : Placed) (r : List Placed) → ts ++ t ∷ r ≡ (ts ++ t ∷ []) ++ r
assoc_one [] t r = refl
assoc_one (x ∷ ts) t r = ap (λ p. x ∷ p) (assoc_one ts t r)

part_of : (u : Setup) (a : ℕ) (ts r : List Placed) → AllPlaced u a (ts ++ r) → IsPart u a r ts
part_of u a [] r k = tt
part_of u a (t ∷ ts) r k = (k.0, part_of u a ts r k.1)

begins_with : (ts : List Placed) (t : Placed) → LooksAtStop t.step → BeginsTurn (ts ++ t ∷ [])
begins_with [] t k = k
begins_with (x ∷ []) t k = k
begins_with (x ∷ y ∷ ts) t k = begins_with (y ∷ ts) t k

all_placed : (u : Setup) (a : ℕ) (late : Log) → Grows u a [] late → IsClear (owed late) → AllPlaced u a (placed_of late)
all_placed u a late g c = closed u a (placed_of late) (owed late) (sound u a g).standing (λ t r is. clear_here u a t r (owed late) c)

clear_half : (o : Owed) → IsClear o → half_of o ≡ whole
clear_half nothing c = refl
clear_half paid c = refl
clear_half o c = absurd c

whole_turn : (u : Setup) (a : ℕ) (late : Log) → Grows u a [] late → IsClosed u a late → IsWhole u a (placed_of late)
whole_turn u a late g c = record {
  stores = (sound u a g).half_is ∙ clear_half (owed late) c.clear;
  places = same_drawn late ∙ c.none_drawn;
  bytes = (sound u a g).byte_is ∙ c.none_left;
  stops = subst (λ run. is_due u.limit run a (own_of a run (own (hart (initial u) a))).count ≡ false) (sym (sound u a g).runs) c.stops;
  last = λ e. said u a g (c.last (ap (was_last a) (sym (same_steps late)) ∙ e));
  left = ap (is_owing a) (same_steps late) ∙ c.left;
  full = λ e. c.full (ap filled (sym (same_steps late)) ∙ e);
}

-- the piece that a turn is, on top of the steps before it
record OnTop (u : Setup) (a : ℕ) (l late : Log) : Type 0 where
  ts : List Placed
  are : placed_of late ≡ ts ++ placed_of l
  piece : IsPiece u a (placed_of l) ts

piece_top : (u : Setup) (a : ℕ) {n : ℕ} (l late : Log) → AreTurns u a n l → IsTurn u a l late → OnTop u a l late
piece_top u a l late k x =
    let o = over u a l x.look x.grows in
    let are : placed_of late ≡ (o.ts ++ placed x.look o.events ∷ []) ++ placed_of l = o.are ∙ assoc_one o.ts (placed x.look o.events) (placed_of l) in
    let g : Grows u a [] late = turns_grow u a (turn k x) in
    record {
      ts = o.ts ++ placed x.look o.events ∷ [];
      are = are;
      piece = record {
        begins = begins_with o.ts (placed x.look o.events) x.looks;
        part = part_of u a (o.ts ++ placed x.look o.events ∷ []) (placed_of l) (subst (AllPlaced u a) are (all_placed u a late g x.closed.clear));
        all = subst (IsWhole u a) are (whole_turn u a late g x.closed);
      };
    }

turns_of : (u : Setup) (a : ℕ) {n : ℕ} {l : Log} → AreTurns u a n l → IsTurns u a (placed_of l)
turns_of u a none = no_turn
turns_of u a (turn {l = l} {late = late} k x) =
    let p = piece_top u a l late k x in subst (IsTurns u a) (sym p.are) (one_turn (placed_of l) p.ts (turns_of u a k) p.piece)
turns_of u a (rests k i f) = turns_of u a k

-- a chain's log is cut in pieces
pub chain_of : (u : Setup) (a : ℕ) {n : ℕ} {l : Log} → IsChain u a n l → IsTurns u a (placed_of l)
chain_of u a (whole_chain k) = turns_of u a k
chain_of u a (looks {l = l} s k x) = last_look (placed_of l) (placed s []) (turns_of u a k) x.0 x.1 refl
