-- What writers of turns use: quiet steps, parts behind one another, events, and facts that stay.
use Rattle.std.proofs.Common.{◌≡◌, ◌≢◌, ◌<◌, ◌+◌, ℕ, zero, Bool, true, false, List, [], ◌∷◌, ◌++◌, Option, Some, None, refl, sym, ap, subst, ◌∙◌, inr, arith, append_assoc, length-append, eq-eqb, ne_eqb}
use Rattle.std.specs.Prelude.{◌==◌, ◌&&◌, if◌then◌else◌}
use Rattle.rv64_priv.specs.State.{Arch}
use Rattle.rv64_priv.specs.Csr.{regime}
use Rattle.rv64_priv.specs.declared.state.Kind.{Kind}
use Rattle.rv64_priv.specs.Walk.{Walked}
use Rattle.rv64_exec.specs.Code.{Code}
use Rattle.machine_model.specs.Access.{spot_of}
use Rattle.step_laws.specs.declared.steps.Step.{Step}
use Rattle.step_laws.specs.declared.steps.WordOp.{WordOp}
use Rattle.step_laws.specs.declared.steps.WordOp.TheVariants.{Load, Store, Swap, Add, Exchange}
use Rattle.step_laws.specs.Map.{Word, Pend, Run, Stop, Cons, Ipi, Hsm, Start, Opaque, Place, Dirty, Console, Ram, name_of}
use Rattle.machine_model.specs.Event.{Event, Fetch, actor_of, did_of}
use Rattle.machine_model.specs.State.{Setup, hart, initial}
use Rattle.machine_model.specs.Own.{Own, own}
use Rattle.machine_model.specs.Own.{own_next, own_fetched}
use Rattle.machine_model.specs.Own.{own_of}
use Rattle.machine_model.specs.Run.{renews, is_due, passes, counts, last_of}
use Rattle.walk_laws.specs.WalkLoads.{Found}
use Rattle.walk_laws.specs.WalkLoads.{reads_of}
use Rattle.turn_pieces.specs.Folds.{Unstored, unstored_next, drawn_next}
use Rattle.turn_pieces.specs.Doing.{IsCalm, IsQuiet}
use Rattle.turn_pieces.specs.Log.{made, did, Log, steps_of, events_of, HasStood}
use Rattle.turn_pieces.specs.Kept.{own_part, places, ends_call}
use Rattle.turn_pieces.specs.Owed.{Owed, nothing, paid, writes, takes, owes, pays, owed, unstored, Books, books, May, MayBehind, MayMake, PaysFor, HasPaid, unstored_did}
use Rattle.turn_pieces.specs.Requests.{Acks}
use Rattle.turn_pieces.specs.Draws.{Drawing}
use Rattle.turn_pieces.specs.Right.{IsSeen, IsFetch, IsFit}
use Rattle.turn_pieces.specs.Grows.{Grows, stays, makes, does, Ends, Part, IsClear}
use Rattle.turn_pieces.specs.Writers.{Shown, Stands, Tells, IsPlain, AreCalm, AreOn, quietly, QuietBy, Shows, Stays, Fill, Keeps, Spares}

-- a step on a word of which the name is known
pub may_named : (u : Setup) (a : ℕ) (l : Log) (s : Step) (w : Word) (op : WordOp) → name_of s.word ≡ w → s.op ≡ op
    → MayBehind u a (books l) (owed l) w op s.word s.arg s.answer → Acks a l w op → Drawing (steps_of l) w op → MayMake u a l s
may_named u a l s w op e o k x d = record {
  behind = subst (λ v. MayBehind u a (books l) (owed l) v s.op s.word s.arg s.answer) (sym e) (subst (λ v. MayBehind u a (books l) (owed l) w v s.word s.arg s.answer) (sym o) k);
  acks = subst (λ v. Acks a l v s.op) (sym e) (subst (Acks a l w) (sym o) x);
  draws_last = subst (λ v. Drawing (steps_of l) v s.op) (sym e) (subst (Drawing (steps_of l) w) (sym o) d);
}

-- plain steps need no more
plain_acks : (a : ℕ) (l : Log) (w : Word) (op : WordOp) → IsPlain a w op → Acks a l w op
plain_acks a l (Place t s k) Store q = λ e. absurd (q e)
plain_acks a l w op q = tt

plain_draws : (a : ℕ) (r : List Step) (w : Word) (op : WordOp) (answer : ℕ) → IsCalm w op answer → IsPlain a w op → Drawing r w op
plain_draws a r Cons Add answer c q = absurd c
plain_draws a r Stop Load answer c q = absurd q
plain_draws a r w op answer c q = tt

pub owed_named : (l : Log) (s : Step) (w : Word) (op : WordOp) → name_of s.word ≡ w → s.op ≡ op → owed (made s ∷ l) ≡ owes (owed l) (unstored l) w op s.word s.arg s.answer
owed_named l s w op e o = λ i. owes (owed l) (unstored l) (e i) (o i) s.word s.arg s.answer

-- where nothing is owed
pub may_clear : (u : Setup) (a : ℕ) (b : Books) (o : Owed) (w : Word) (op : WordOp) (n arg answer : ℕ) → IsClear o → May u a b w op arg answer → MayBehind u a b o w op n arg answer
may_clear u a b nothing w op n arg answer c k = (tt, k)
may_clear u a b paid w op n arg answer c k = (tt, k)
may_clear u a b o w op n arg answer c k = absurd c

-- calm steps may be made, and owe nothing
calm_may : (u : Setup) (a : ℕ) (b : Books) (w : Word) (op : WordOp) (arg answer : ℕ) → b.places ≡ [] → IsCalm w op answer → IsPlain a w op → May u a b w op arg answer
calm_may u a b Cons Load arg answer p c q = tt
calm_may u a b Cons op arg answer p c q = absurd c
calm_may u a b (Console i) Load arg answer p c q = tt
calm_may u a b (Console i) op arg answer p c q = absurd c
calm_may u a b Stop Load arg answer p c q = tt
calm_may u a b Stop op arg answer p c q = absurd c
calm_may u a b (Hsm t) Load arg answer p c q = tt
calm_may u a b (Hsm t) (Exchange old) arg answer p c q = λ e. absurd (c e)
calm_may u a b (Hsm t) op arg answer p c q = absurd c
calm_may u a b (Start t) Load arg answer p c q = tt
calm_may u a b (Start t) op arg answer p c q = absurd c
calm_may u a b (Opaque t) Load arg answer p c q = tt
calm_may u a b (Opaque t) op arg answer p c q = absurd c
calm_may u a b (Dirty zero) Swap arg answer p c q = absurd q
calm_may u a b (Run x) op arg answer p c q = p
calm_may u a b Pend op arg answer p c q = p
calm_may u a b w op arg answer p c q = tt

pub lost_test : (old answer : ℕ) (o : Owed) → old ≢ answer → (if old == answer then o else nothing) ≡ nothing
lost_test old answer o ne = ap (λ (b : Bool). if b then o else nothing) (ne_eqb old answer ne)

pub calm_owes : (a : ℕ) (o : Owed) (k : Option Unstored) (w : Word) (op : WordOp) (n arg answer : ℕ) → IsCalm w op answer → IsPlain a w op → owes o k w op n arg answer ≡ nothing
calm_owes a o k (Ram i) Load n arg answer c q = refl
calm_owes a o k (Ram i) (Exchange old) n arg answer c q = lost_test old answer (writes n (Rattle.step_laws.specs.Steps.new_of (Exchange old) answer arg)) c
calm_owes a o k (Ram i) op n arg answer c q = absurd c
calm_owes a o k Ipi Load n arg answer c q = refl
calm_owes a o k Ipi (Exchange old) n arg answer c q = lost_test old answer (writes n (Rattle.step_laws.specs.Steps.new_of (Exchange old) answer arg)) c
calm_owes a o k Ipi op n arg answer c q = absurd c
calm_owes a o k Cons Load n arg answer c q = refl
calm_owes a o k Cons op n arg answer c q = absurd c
calm_owes a o k (Console i) Load n arg answer c q = refl
calm_owes a o k (Console i) op n arg answer c q = absurd c
calm_owes a o k Stop Load n arg answer c q = refl
calm_owes a o k Stop op n arg answer c q = absurd c
calm_owes a o k (Hsm t) Load n arg answer c q = refl
calm_owes a o k (Hsm t) (Exchange old) n arg answer c q = lost_test old answer (takes t) c
calm_owes a o k (Hsm t) op n arg answer c q = absurd c
calm_owes a o k (Start t) Load n arg answer c q = refl
calm_owes a o k (Start t) op n arg answer c q = absurd c
calm_owes a o k (Opaque t) Load n arg answer c q = refl
calm_owes a o k (Opaque t) op n arg answer c q = absurd c
calm_owes a o k (Dirty zero) Swap n arg answer c q = absurd q
calm_owes a o k w op n arg answer c q = refl

calm_drawn : (w : Word) (op : WordOp) (answer : ℕ) (ds : List ℕ) → IsCalm w op answer → drawn_next w op answer ds ≡ ds
calm_drawn Cons Add answer ds c = absurd c
calm_drawn w op answer ds c = refl

-- a calm step leaves the byte that is to be stored
calm_byte : (w : Word) (op : WordOp) (answer : ℕ) (k : Option Unstored) → IsCalm w op answer → unstored_next w op answer [] k ≡ k
calm_byte Cons Add answer k c = absurd c
calm_byte (Console i) Store answer k c = absurd c
calm_byte w op answer k c = refl

nothing_clear : (o : Owed) → o ≡ nothing → IsClear o
nothing_clear o e = subst IsClear (sym e) tt

-- quiet steps
quietly_steps : (r : List Step) (l : Log) → steps_of (quietly r l) ≡ r ++ steps_of l
quietly_steps [] l = refl
quietly_steps (s ∷ r) l = ap (λ x. s ∷ x) (quietly_steps r l)

quietly_events : (r : List Step) (l : Log) → events_of (quietly r l) ≡ events_of l
quietly_events [] l = refl
quietly_events (s ∷ r) l = quietly_events r l

pub quietly_clear : (a : ℕ) (r : List Step) (l : Log) → AreCalm a r → IsClear (owed l) → IsClear (owed (quietly r l))
quietly_clear a [] l c k = k
quietly_clear a (s ∷ r) l c k = nothing_clear (owed (quietly (s ∷ r) l)) (calm_owes a (owed (quietly r l)) (unstored (quietly r l)) (name_of s.word) s.op s.word s.arg s.answer c.0 c.1)

quietly_places : (a : ℕ) (r : List Step) (l : Log) → AreCalm a r → places (quietly r l) ≡ places l
quietly_places a [] l c = refl
quietly_places a (s ∷ r) l c = calm_drawn (name_of s.word) s.op s.answer (places (quietly r l)) c.0 ∙ quietly_places a r l c.2

quietly_byte : (a : ℕ) (r : List Step) (l : Log) → AreCalm a r → unstored (quietly r l) ≡ unstored l
quietly_byte a [] l c = refl
quietly_byte a (s ∷ r) l c = calm_byte (name_of s.word) s.op s.answer (unstored (quietly r l)) c.0 ∙ quietly_byte a r l c.2

pub quietly_grows : (u : Setup) (a : ℕ) (r : List Step) (l : Log) → AreCalm a r → IsClear (owed l) → places l ≡ [] → Grows u a l (quietly r l)
quietly_grows u a [] l c k p = stays
quietly_grows u a (s ∷ r) l c k p = makes s (quietly_grows u a r l c.2 k p) (record {
  behind = may_clear u a (books (quietly r l)) (owed (quietly r l)) (name_of s.word) s.op s.word s.arg s.answer (quietly_clear a r l c.2 k)
      (calm_may u a (books (quietly r l)) (name_of s.word) s.op s.arg s.answer (quietly_places a r l c.2 ∙ p) c.0 c.1);
  acks = plain_acks a (quietly r l) (name_of s.word) s.op c.1;
  draws_last = plain_draws a (steps_of (quietly r l)) (name_of s.word) s.op s.answer c.0 c.1;
})

pub quietly_tells : (touch : Word → Type 0) (n : ℕ) (o : Own) (p q : Shown) (u : Setup) (a : ℕ) (l : Log) (k : QuietBy touch n p q) → Tells o p u a l → Tells o q u a (quietly k.added l)
quietly_tells touch n o p q u a l k t = record {
  stands = record {
    layout = t.stands.layout ∙ sym (ap (λ (x : Shown). x.layout) k.grown);
    actor = t.stands.actor ∙ sym (ap (λ (x : Shown). x.actor) k.grown);
    is = quietly_steps k.added l ∙ (ap (λ r. k.added ++ r) t.stands.is ∙ sym (ap (λ (x : Shown). x.steps) k.grown));
    part_is = ap (λ run. own_of a run (own (hart (initial u) a))) (quietly_events k.added l) ∙ t.stands.part_is;
  };
  clear = quietly_clear p.actor k.added l k.calm t.clear;
  none_drawn = quietly_places p.actor k.added l k.calm ∙ t.none_drawn;
  none_left = quietly_byte p.actor k.added l k.calm ∙ t.none_left;
}

-- the log's actor is the port's
calm_of : (o : Own) (p : Shown) (u : Setup) (a : ℕ) (l : Log) (r : List Step) → Tells o p u a l → AreCalm p.actor r → AreCalm a r
calm_of o p u a l r t c = subst (λ b. AreCalm b r) (sym t.stands.actor) c

pub part_quiet : (touch : Word → Type 0) (n : ℕ) (o : Own) (p q : Shown) → QuietBy touch n p q → Part (Tells o p) (Tells o q)
part_quiet touch n o p q k = λ u a l t. record {
  late = quietly k.added l;
  grows = quietly_grows u a k.added l (calm_of o p u a l k.added t k.calm) t.clear t.none_drawn;
  holds = quietly_tells touch n o p q u a l k t;
}

-- one behind another
calm_append : (a : ℕ) (r q : List Step) → AreCalm a r → AreCalm a q → AreCalm a (q ++ r)
calm_append a r [] x y = x
calm_append a r (s ∷ q) x y = (y.0, y.1, calm_append a r q x y.2)

on_append : (touch : Word → Type 0) (r q : List Step) → AreOn touch r → AreOn touch q → AreOn touch (q ++ r)
on_append touch r [] x y = x
on_append touch r (s ∷ q) x y = (y.0, on_append touch r q x y.1)

pub quiet_then : (touch : Word → Type 0) (m n : ℕ) (p q r : Shown) → QuietBy touch m p q → QuietBy touch n q r → QuietBy touch (m + n) p r
quiet_then touch m n p q r a b = record {
  added = b.added ++ a.added;
  few = omega (arith, length-append b.added a.added, a.few, b.few);
  grown = b.grown ∙ (ap (λ (x : Shown). record x { steps = b.added ++ x.steps }) a.grown
      ∙ ap (λ (l : List Step). record p { steps = l }) (sym (append_assoc b.added a.added p.steps)));
  calm = calm_append p.actor a.added b.added a.calm (subst (λ (x : ℕ). AreCalm x b.added) (ap (λ (x : Shown). x.actor) a.grown) b.calm);
  inner = on_append touch a.added b.added a.inner b.inner;
}

pub grows_then : (u : Setup) (a : ℕ) (l m : Log) {n : Log} → Grows u a l m → Grows u a m n → Grows u a l n
grows_then u a l m g stays = g
grows_then u a l m g (makes s h k) = makes s (grows_then u a l m g h) k
grows_then u a l m g (does e h k) = does e (grows_then u a l m g h) k

pub part_then : (P Q R : Setup → ℕ → Log → Type 0) → Part P Q → Part Q R → Part P R
part_then P Q R f g = λ u a l t. let x = f u a l t in let y = g u a x.late x.holds in
    record { late = y.late; grows = grows_then u a l x.late x.grows y.grows; holds = y.holds }

pub ends_then : (u : Setup) (a : ℕ) (l m : Log) (Q : Log → Type 0) → Grows u a l m → Ends u a m Q → Ends u a l Q
ends_then u a l m Q g e = record { late = e.late; grows = grows_then u a l m g e.grows; holds = e.holds }

pub part_nowhere : (P : Setup → ℕ → Log → Type 0) → Part P P
part_nowhere P = λ u a l t. record { late = l; grows = stays; holds = t }

-- events
pub part_did : (u : Setup) (a : ℕ) (l : Log) (e : Event) → actor_of e ≡ a → own_part u a (did e ∷ l) ≡ own_next e (own_part u a l)
part_did u a l e is = ap (λ (b : Bool). if b then own_next e (own_part u a l) else own_part u a l) (eq-eqb (actor_of e) a is)

pub clear_did : (o : Owed) → IsClear (pays o)
clear_did nothing = tt
clear_did o = tt

pub places_did : (l : Log) (e : Event) → places l ≡ [] → places (did e ∷ l) ≡ []
places_did l e k = go (ends_call e)
  where
    go : (b : Bool) → (if b then [] else places l) ≡ []
    go true = refl
    go false = k

-- the log stands behind an event as its part goes on; at a draw the byte is still to be stored
pub tells_did : (o : Own) (p : Shown) (u : Setup) (a : ℕ) (l : Log) (e : Event) → Stands o p u a l → actor_of e ≡ a → places (did e ∷ l) ≡ [] → unstored (did e ∷ l) ≡ None
    → Tells (own_next e o) p u a (did e ∷ l)
tells_did o p u a l e t is ps us = record {
  stands = record { layout = t.layout; actor = t.actor; is = t.is; part_is = part_did u a l e is ∙ ap (own_next e) t.part_is };
  clear = clear_did (owed l);
  none_drawn = ps;
  none_left = us;
}

-- below the limit no stop is due
and_no : (x : Bool) → (x && false) ≡ false
and_no true = refl
and_no false = refl

pub not_due : (limit : ℕ) (run : List Event) (h count : ℕ) → count < limit → is_due limit run h count ≡ false
not_due limit run h count lt = ap (λ b. passes counts (last_of h run) && b) (ne_eqb count limit (λ e. omega (arith, e, lt))) ∙ and_no (passes counts (last_of h run))

-- what was seen stays seen over steps, and over events that don't renew it
pub stood_quietly : (stop : Event → Bool) (xs : List Found) (r : List Step) (l : Log) → HasStood stop xs l → HasStood stop xs (quietly r l)
stood_quietly stop xs [] l k = k
stood_quietly stop [] (s ∷ r) l k = tt
stood_quietly stop (x ∷ xs) (s ∷ r) l k = inr (stood_quietly stop (x ∷ xs) r l k)

stood_did : (stop : Event → Bool) (xs : List Found) (l : Log) (e : Event) → stop e ≡ false → HasStood stop xs l → HasStood stop xs (did e ∷ l)
stood_did stop [] l e n k = tt
stood_did stop (x ∷ xs) l e n k = (n, k)

pub seen_quietly : (pages h : ℕ) (c : Arch) (kind : Kind) (va : ℕ) (end : Walked) (r : List Step) (l : Log) → IsSeen pages h c kind va end l → IsSeen pages h c kind va end (quietly r l)
seen_quietly pages h c kind va end r l k = record { finds = k.finds; is_end = k.is_end; stood = stood_quietly (renews h va end) (reads_of pages (regime c) va k.finds) r l k.stood }

pub seen_did : (pages h : ℕ) (c : Arch) (kind : Kind) (va : ℕ) (end : Walked) (l : Log) (e : Event) → renews h va end e ≡ false → IsSeen pages h c kind va end l → IsSeen pages h c kind va end (did e ∷ l)
seen_did pages h c kind va end l e n k = record { finds = k.finds; is_end = k.is_end; stood = stood_did (renews h va end) (reads_of pages (regime c) va k.finds) l e n k.stood }

-- a quiet part leaves what every step leaves
stays_quietly : (F : Setup → ℕ → Log → Type 0) → Stays F → (u : Setup) (a : ℕ) (r : List Step) (l : Log) → F u a l → F u a (quietly r l)
stays_quietly F f u a [] l k = k
stays_quietly F f u a (s ∷ r) l k = f u a s (quietly r l) (stays_quietly F f u a r l k)

pub part_quiet_with : (F : Setup → ℕ → Log → Type 0) → Stays F → (touch : Word → Type 0) (n : ℕ) (o : Own) (p q : Shown) → QuietBy touch n p q
    → Part (λ u a l. Tells o p u a l × F u a l) (λ u a l. Tells o q u a l × F u a l)
part_quiet_with F f touch n o p q k = λ u a l t. record {
  late = quietly k.added l;
  grows = quietly_grows u a k.added l (calm_of o p u a l k.added t.0 k.calm) t.0.clear t.0.none_drawn;
  holds = (quietly_tells touch n o p q u a l k t.0, stays_quietly F f u a k.added l t.1);
}

-- what a call shows holds behind its quiet part
pub shows_part : (R : Setup → ℕ → Log → Type 0) (touch : Word → Type 0) (n : ℕ) (o : Own) (p q : Shown) → Shows touch n p q R → Part (Tells o p) (λ u a l. Tells o q u a l × R u a l)
shows_part R touch n o p q k = λ u a l t. record {
  late = quietly k.quiet.added l;
  grows = quietly_grows u a k.quiet.added l (calm_of o p u a l k.quiet.added t k.quiet.calm) t.clear t.none_drawn;
  holds = (quietly_tells touch n o p q u a l k.quiet t, k.shows u a l t.stands.layout t.stands.actor t.stands.is);
}

-- the book
pub keeps_step : (c : Arch) (kept : List Fill) → Stays (Keeps c kept)
keeps_step c [] = λ u a s l k. tt
keeps_step c (f ∷ kept) = λ u a s l k. (seen_quietly u.layout.pages a c f.kind f.va f.end (s ∷ []) l k.0, keeps_step c kept u a s l k.1)

pub keeps_did : (c : Arch) (kept : List Fill) (u : Setup) (a : ℕ) (l : Log) (e : Event) → Spares a e kept → Keeps c kept u a l → Keeps c kept u a (did e ∷ l)
keeps_did c [] u a l e n k = tt
keeps_did c (f ∷ kept) u a l e n k = (seen_did u.layout.pages a c f.kind f.va f.end l e n.0 k.0, keeps_did c kept u a l e n.1 k.1)

-- behind a stop no stop is due
pub not_due_behind : (limit : ℕ) (run : List Event) (h count : ℕ) (e : Event) → last_of h run ≡ Some e → counts e ≡ false → is_due limit run h count ≡ false
not_due_behind limit run h count e last not_counted = (λ i. passes counts (last i) && (count == limit)) ∙ ap (λ b. b && (count == limit)) not_counted

-- an event at a log of which the part is known
pub event_stands : (o : Own) (p : Shown) (u : Setup) (a : ℕ) (l : Log) (e : Event) → Stands o p u a l → actor_of e ≡ a → IsFit u a l e o → HasPaid a l e
    → places (did e ∷ l) ≡ [] → unstored (did e ∷ l) ≡ None → Ends u a l (Tells (own_next e o) p u a)
event_stands o p u a l e t is fit pay ps us = record {
  late = did e ∷ l;
  grows = does e stays (record { own = is; fit = subst (IsFit u a l e) (sym t.part_is) fit; pays = pay });
  holds = tells_did o p u a l e t is ps us;
}

-- a plain event behind a step that owes nothing, such as a Fetch at its code word's load
pub plain_stands : (o : Own) (p : Shown) (u : Setup) (a : ℕ) (l : Log) (e : Event) → Stands o p u a l → owed l ≡ nothing → places l ≡ [] → unstored l ≡ None
    → actor_of e ≡ a → IsFit u a l e o → IsQuiet e → Ends u a l (Tells (own_next e o) p u a)
plain_stands o p u a l e t none ps us is fit q = event_stands o p u a l e t is fit (subst (λ d. PaysFor a (books l) d e) (sym none) q) (places_did l e ps)
    (ap (λ d. unstored_did d (did_of e).bytes (unstored l)) none ∙ us)

pub fetch_stands : (o : Own) (p : Shown) (u : Setup) (a : ℕ) (l : Log) (walk : Walked) (code : Code) → Tells o p u a l → owed l ≡ nothing → a < u.layout.harts
    → IsFetch u a l walk code o → Ends u a l (Tells (own_fetched code o (spot_of Kind.Fetch o.arch.pc walk)) p u a)
fetch_stands o p u a l walk code t none lt fit = plain_stands o p u a l (Fetch a walk code) t.stands none t.none_drawn t.none_left refl (lt, fit)
    (record { does = record { entry_is = refl; bytes_are = refl; reason_is = refl; starts_is = refl; stops_is = refl }; begins_not = refl })
