-- Logs behind one another, and what is flushed in them.
use Rattle.std.proofs.Common.{◌≡◌, ℕ, false, [], ◌∷◌, ◌++◌, List, refl, sym, ap, subst, ◌∙◌, append_assoc}
use Rattle.std.proofs.lemmas.List.{append_cancel_right}
use Rattle.rv64_priv.specs.Flush.{Flush, Full, Pages}
use Rattle.step_laws.specs.declared.steps.Step.{Step}
use Rattle.machine_model.specs.Event.{Event}
use Rattle.machine_model.specs.State.{Setup}
use Rattle.machine_model.specs.Lawful.{Flushed}
use Rattle.machine_model.specs.Past.{before}
use Rattle.machine_model.specs.Run.{fetches}
use Rattle.turn_pieces.specs.Grows.{Grows, does, makes, stays}
use Rattle.turn_pieces.specs.Log.{Log, did, events_of, made}
use Rattle.turn_pieces.specs.Writers.{quietly}
use Rattle.fence_pieces.specs.Behind.{AreNoFetches, IsBehind}
use Rattle.fence_pieces.specs.Laws.{BehindStays, FlushesStay, GrownIsBehind}

none_append : (a : ℕ) (l m : Log) → AreNoFetches a (events_of l) → AreNoFetches a (events_of m) → AreNoFetches a (events_of (l ++ m))
none_append a [] m x y = y
none_append a (made s ∷ l) m x y = none_append a l m x y
none_append a (did e ∷ l) m x y = (x.0, none_append a l m x.1 y)

pub behind_stays : BehindStays
behind_stays a base l m x y = record {
  added = y.added ++ x.added;
  is = y.is ∙ ap (λ z. y.added ++ z) x.is ∙ sym (append_assoc y.added x.added base);
  none = none_append a y.added x.added y.none x.none;
}

pub flushed_later : (run : List Event) (e : Event) (a t : ℕ) (what : Flush) → fetches a e ≡ false → Flushed run a t what → Flushed (e ∷ run) a t what
flushed_later run e a t Full n x = before n x
flushed_later run e a t (Pages page count) n x = λ p low high. before n (x p low high)

flushed_over : (a t : ℕ) (what : Flush) (added base : Log) → AreNoFetches a (events_of added) → Flushed (events_of base) a t what → Flushed (events_of (added ++ base)) a t what
flushed_over a t what [] base n x = x
flushed_over a t what (made s ∷ l) base n x = flushed_over a t what l base n x
flushed_over a t what (did e ∷ l) base n x = flushed_later (events_of (l ++ base)) e a t what n.0 (flushed_over a t what l base n.1 x)

pub flushes_stay : FlushesStay
flushes_stay a t what base l k x = subst (λ (m : Log). Flushed (events_of m) a t what) (sym k.is) (flushed_over a t what k.added base k.none x)

-- steps alone
quiet_is : (r : List Step) (l : Log) → quietly r l ≡ quietly r [] ++ l
quiet_is [] l = refl
quiet_is (s ∷ r) l = ap (λ (m : Log). made s ∷ m) (quiet_is r l)

quiet_none : (a : ℕ) (r : List Step) → AreNoFetches a (events_of (quietly r []))
quiet_none a [] = tt
quiet_none a (s ∷ r) = quiet_none a r

pub quiet_behind : (a : ℕ) (r : List Step) (l : Log) → IsBehind a l (quietly r l)
quiet_behind a r l = record { added = quietly r []; is = quiet_is r l; none = quiet_none a r }

pub did_behind : (a : ℕ) (e : Event) (base l : Log) → fetches a e ≡ false → IsBehind a base l → IsBehind a base (did e ∷ l)
did_behind a e base l n k = record { added = did e ∷ k.added; is = ap (λ (m : Log). did e ∷ m) k.is; none = (n, k.none) }

-- a log that goes on with these events more, none of which is a fetch
events_append : (l m : Log) → events_of (l ++ m) ≡ events_of l ++ events_of m
events_append [] m = refl
events_append (made s ∷ l) m = events_append l m
events_append (did e ∷ l) m = ap (λ (run : List Event). e ∷ run) (events_append l m)

grown_is : (u : Setup) (a : ℕ) (l : Log) {late : Log} → Grows u a l late → (added : Log) × (late ≡ added ++ l)
grown_is u a l stays = ([], refl)
grown_is u a l (makes s g k) = let x = grown_is u a l g in (made s ∷ x.0, ap (λ (m : Log). made s ∷ m) x.1)
grown_is u a l (does e g k) = let x = grown_is u a l g in (did e ∷ x.0, ap (λ (m : Log). did e ∷ m) x.1)

pub grown_is_behind : GrownIsBehind
grown_is_behind u a l late added g events none =
    let x = grown_is u a l g in
    let same : added ≡ events_of x.0 = append_cancel_right added (events_of x.0) (events_of l) (sym events ∙ ap (λ (m : Log). events_of m) x.1 ∙ events_append x.0 l) in record {
      added = x.0;
      is = x.1;
      none = subst (AreNoFetches a) same none;
    }
