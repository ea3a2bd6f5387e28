-- A log that grows by right is placed by right.
use Rattle.std.proofs.Common.{◌≡◌, ◌⊎◌, ℕ, Bool, true, false, List, [], ◌∷◌, ◌++◌, refl, sym, ap, subst, ◌∙◌, inl, inr}
use Rattle.std.specs.Prelude.{◌||◌, if◌then◌else◌, is_some, IsTrue}
use Rattle.step_laws.specs.declared.steps.Step.{Step}
use Rattle.step_laws.specs.declared.steps.WordOp.{WordOp}
use Rattle.step_laws.specs.Map.{Word, name_of}
use Rattle.machine_model.specs.Event.{Event, did_of, entry_stored}
use Rattle.machine_model.specs.State.{Setup}
use Rattle.machine_model.specs.Run.{says_all_stopped}
use Rattle.run_laws.proofs.Placed.{Placed, placed, steps, run_of, has_entry}
use Rattle.run_laws.proofs.Kept.{Half, whole, part, half, half_next, unstored as unstored_at, bytes_of}
use Rattle.turn_pieces.specs.Folds.{unstored_next}
use Rattle.run_laws.proofs.Fits.{AllFit}
use Rattle.run_laws.proofs.Accounts.{AreQuiet, Accounts}
use Rattle.run_laws.proofs.Pieces.{IsPlaced, Said}
use Rattle.turn_pieces.specs.Log.{made, did, Log, events_of}
use Rattle.run_laws.proofs.Placed.{with_event, placed_of}
use Rattle.turn_pieces.specs.Kept.{HasSaid}
use Rattle.turn_pieces.specs.Owed.{Owed, nothing, paid, writes, stores, joins, draws, fills, gives, takes, snaps, begun, left, owes, unstored_did, pays, owed, unstored, Books, books, MayBehind, MayMake, PaysFor}
use Rattle.turn_pieces.specs.Right.{IsRight}
use Rattle.turn_pieces.specs.Grows.{Grows, stays, makes, does, IsClear}
use Rattle.turn_pieces.specs.Draws.{Drawing}
use Rattle.run_laws.proofs.Acks.{Acks}
use Rattle.run_laws.proofs.Acked.{same_acks}
use Rattle.run_laws.proofs.Same.{same_steps, same_drawn, same_bytes, said_with}
use Rattle.run_laws.proofs.Fit.{fits}
use Rattle.run_laws.proofs.Bridge.{half_of, books_at}
use Rattle.run_laws.proofs.Made.{RestsHere, Owing, HeadAt, Fresh, fresh}

-- every step has its events by right
abbrev pub AllPlaced : Setup → ℕ → List Placed → Type 0
AllPlaced u a [] = Unit {0}
AllPlaced u a (t ∷ r) = IsPlaced u a r t.step t.events × AllPlaced u a r

abbrev pub Acc : Setup → ℕ → List Placed → Step → List Event → Type 0
Acc u a r s es = Accounts u a r s.word (name_of s.word) s.op s.arg s.answer es

-- of the last step, which owes this
abbrev pub Head : Setup → ℕ → List Placed → Step → List Event → Owed → Type 0
Head u a r s es nothing = AreQuiet es × ((fs : List Event) → AreQuiet fs → Acc u a r s fs)
Head u a r s es paid = Acc u a r s es
Head u a r s es o = (es ≡ []) × Owing u a r s.word s (name_of s.word) s.op s.arg s.answer o

-- what the step needs of the record besides
abbrev pub Needs : Setup → ℕ → List Placed → Step → Type 0
Needs u a r s = Acks a r (name_of s.word) s.op × Drawing (steps r) (name_of s.word) s.op

abbrev pub Standing : Setup → ℕ → List Placed → Owed → Type 0
Standing u a [] o = o ≡ paid
Standing u a (t ∷ r) o = Head u a r t.step t.events o × AllFit u a t.step r t.events × AllPlaced u a r × Needs u a r t.step

pub record Sound (u : Setup) (a : ℕ) (l : Log) : Type 0 where
  pub runs : run_of (placed_of l) ≡ events_of l
  pub half_is : half (placed_of l) ≡ half_of (owed l)
  pub byte_is : unstored_at (placed_of l) ≡ unstored l
  pub standing : Standing u a (placed_of l) (owed l)

-- the books of a log are those of its placed steps
pub same_books : (u : Setup) (a : ℕ) (l : Log) → Sound u a l → books_at (placed_of l) ≡ books l
same_books u a l k = λ i. record { steps = same_steps l i; events = k.runs i; places = same_drawn l i; bytes = same_bytes l i; unstored = k.byte_is i }

-- the last step, where no more events come
head_done : (u : Setup) (a : ℕ) (r : List Placed) (s : Step) (es : List Event) (o : Owed) → Head u a r s es o → RestsHere u a r s.word (name_of s.word) s.op s.arg s.answer o → Acc u a r s es
head_done u a r s es nothing k q = k.1 es k.0
head_done u a r s es paid k q = k
head_done u a r s es (stores m v) k q = subst (Acc u a r s) (sym k.0) (k.1.by_none q)
head_done u a r s es (draws i) k q = subst (Acc u a r s) (sym k.0) (k.1.by_none q)
head_done u a r s es fills k q = subst (Acc u a r s) (sym k.0) (k.1.by_none q)
head_done u a r s es o k q = absurd q

rests_here : (u : Setup) (a : ℕ) (t : Placed) (r : List Placed) (o : Owed) (w : Word) (op : WordOp) (n arg answer : ℕ) → MayBehind u a (books_at (t ∷ r)) o w op n arg answer
    → RestsHere u a r t.step.word (name_of t.step.word) t.step.op t.step.arg t.step.answer o
rests_here u a t r nothing w op n arg answer k = tt
rests_here u a t r paid w op n arg answer k = tt
rests_here u a t r (stores m v) w op n arg answer k = k.0
rests_here u a t r (draws i) w op n arg answer k = k.0
rests_here u a t r fills w op n arg answer k = tt
rests_here u a t r o w op n arg answer k = absurd k.0

pub clear_here : (u : Setup) (a : ℕ) (t : Placed) (r : List Placed) (o : Owed) → IsClear o → RestsHere u a r t.step.word (name_of t.step.word) t.step.op t.step.arg t.step.answer o
clear_here u a t r nothing k = tt
clear_here u a t r paid k = tt
clear_here u a t r o k = absurd k

-- all steps have their events by right once the last one's come no more
pub closed : (u : Setup) (a : ℕ) (p : List Placed) (o : Owed) → Standing u a p o
    → ((t : Placed) (r : List Placed) → p ≡ t ∷ r → RestsHere u a r t.step.word (name_of t.step.word) t.step.op t.step.arg t.step.answer o) → AllPlaced u a p
closed u a [] o k q = tt
closed u a (t ∷ r) o k q = (record { fit = k.1; accounts = head_done u a r t.step t.events o k.0 (q t r refl); acks = k.3.0; draws = k.3.1 }, k.2)

-- a step is made
fresh_head : (u : Setup) (a : ℕ) (r : List Placed) (s : Step) (o : Owed) → HeadAt u a r s.word s (name_of s.word) s.op s.arg s.answer o → Head u a r s [] o
fresh_head u a r s nothing k = (tt, k)
fresh_head u a r s paid k = absurd k
fresh_head u a r s (writes n v) k = (refl, k)
fresh_head u a r s (stores n v) k = (refl, k)
fresh_head u a r s (joins m v n x) k = (refl, k)
fresh_head u a r s (draws i) k = (refl, k)
fresh_head u a r s fills k = (refl, k)
fresh_head u a r s (gives n) k = (refl, k)
fresh_head u a r s (takes t) k = (refl, k)
fresh_head u a r s snaps k = (refl, k)
fresh_head u a r s begun k = (refl, k)
fresh_head u a r s left k = (refl, k)

made_sound : (u : Setup) (a : ℕ) (l : Log) (s : Step) → Sound u a l → MayMake u a l s → Sound u a (made s ∷ l)
made_sound u a l s k m = record {
  runs = k.runs;
  half_is = now.half_is ∙ ap half_of owes_are;
  byte_is = ap (unstored_next (name_of s.word) s.op s.answer []) k.byte_is;
  standing = (
    subst (Head u a (placed_of l) s []) owes_are (fresh_head u a (placed_of l) s (owes (owed l) (unstored_at (placed_of l)) (name_of s.word) s.op s.word s.arg s.answer) now.head),
    tt,
    closed u a (placed_of l) (owed l) k.standing
        (λ t r is. rests_here u a t r (owed l) (name_of s.word) s.op s.word s.arg s.answer
        (subst (λ p. MayBehind u a (books_at p) (owed l) (name_of s.word) s.op s.word s.arg s.answer) is may)),
    (same_acks a l (name_of s.word) s.op m.acks, subst (λ r. Drawing r (name_of s.word) s.op) (sym (same_steps l)) m.draws_last),
  );
}
  where
    may : MayBehind u a (books_at (placed_of l)) (owed l) (name_of s.word) s.op s.word s.arg s.answer
    may = subst (λ b. MayBehind u a b (owed l) (name_of s.word) s.op s.word s.arg s.answer) (sym (same_books u a l k)) m.behind

    now : Fresh u a (placed_of l) s.word s (name_of s.word) s.op s.arg s.answer (owes (owed l) (unstored_at (placed_of l)) (name_of s.word) s.op s.word s.arg s.answer)
    now = fresh u a (placed_of l) s.word s (owed l) (name_of s.word) s.op s.arg s.answer k.half_is may

    owes_are : owes (owed l) (unstored_at (placed_of l)) (name_of s.word) s.op s.word s.arg s.answer ≡ owed (made s ∷ l)
    owes_are = ap (λ b. owes (owed l) b (name_of s.word) s.op s.word s.arg s.answer) k.byte_is

-- an event stands
by_event : (u : Setup) (a : ℕ) (r : List Placed) (s : Step) (es : List Event) (o : Owed) (e : Event) → es ≡ [] → Owing u a r s.word s (name_of s.word) s.op s.arg s.answer o
    → PaysFor a (books_at (placed s es ∷ r)) o e → Acc u a r s (e ∷ es)
by_event u a r s es o e none k x = subst (λ fs. PaysFor a (books_at (placed s fs ∷ r)) o e → Acc u a r s (e ∷ fs)) (sym none) (k.by_event e) x

head_event : (u : Setup) (a : ℕ) (r : List Placed) (s : Step) (es : List Event) (o : Owed) (e : Event) → Head u a r s es o → PaysFor a (books_at (placed s es ∷ r)) o e
    → Head u a r s (e ∷ es) (pays o)
head_event u a r s es nothing e k x = ((x, k.0), k.1)
head_event u a r s es paid e k x = absurd x
head_event u a r s es (writes n v) e k x = by_event u a r s es (writes n v) e k.0 k.1 x
head_event u a r s es (stores n v) e k x = by_event u a r s es (stores n v) e k.0 k.1 x
head_event u a r s es (joins m v n y) e k x = by_event u a r s es (joins m v n y) e k.0 k.1 x
head_event u a r s es (draws i) e k x = by_event u a r s es (draws i) e k.0 k.1 x
head_event u a r s es fills e k x = by_event u a r s es fills e k.0 k.1 x
head_event u a r s es (gives n) e k x = by_event u a r s es (gives n) e k.0 k.1 x
head_event u a r s es (takes t) e k x = by_event u a r s es (takes t) e k.0 k.1 x
head_event u a r s es snaps e k x = by_event u a r s es snaps e k.0 k.1 x
head_event u a r s es begun e k x = by_event u a r s es begun e k.0 k.1 x
head_event u a r s es left e k x = by_event u a r s es left e k.0 k.1 x

-- the half that is left open
half_test : (x y : Bool) (k d : Half) → (if x || y then k else d) ≡ (if x then k else if y then k else d)
half_test true y k d = refl
half_test false y k d = refl

same_half : (x : Bool) (k : Half) → (if x then k else k) ≡ k
same_half true k = refl
same_half false k = refl

with_half : (e : Event) (p : List Placed) → half (with_event e p) ≡ (if is_some (entry_stored e) then whole else half p)
with_half e [] = sym (same_half (is_some (entry_stored e)) whole)
with_half e (t ∷ r) = half_test (is_some (entry_stored e)) (has_entry t.events) whole (half_next t.step.op (name_of t.step.word) t.step.word t.step.arg (half r))

half_paid : (a : ℕ) (b : Books) (o : Owed) (e : Event) → PaysFor a b o e → (if is_some (entry_stored e) then whole else half_of o) ≡ whole
half_paid a b (stores n v) e x = λ i. if is_some (x.does.entry_is i) then whole else part n v
half_paid a b (joins m v n y) e x = λ i. if is_some (x.does.entry_is i) then whole else part n y
half_paid a b o e x = same_half (is_some (entry_stored e)) whole

paid_whole : (o : Owed) → half_of (pays o) ≡ whole
paid_whole nothing = refl
paid_whole o = refl

-- the byte that is to be stored
no_more : (bs : List ℕ) → bs ++ [] ≡ bs
no_more [] = refl
no_more (b ∷ bs) = ap (λ xs. b ∷ xs) (no_more bs)

byte_owing : (u : Setup) (a : ℕ) (r : List Placed) (s : Step) (es : List Event) (o : Owed) (bs : List ℕ) → es ≡ [] → Owing u a r s.word s (name_of s.word) s.op s.arg s.answer o
    → unstored_next (name_of s.word) s.op s.answer (bytes_of es ++ bs) (unstored_at r) ≡ unstored_did o bs (unstored_at (placed s es ∷ r))
byte_owing u a r s es o bs none k = subst (λ fs. unstored_next (name_of s.word) s.op s.answer (bytes_of fs ++ bs) (unstored_at r) ≡ unstored_did o bs (unstored_at (placed s fs ∷ r)))
    (sym none) (k.byte_is bs)

byte_event : (u : Setup) (a : ℕ) (r : List Placed) (s : Step) (es : List Event) (o : Owed) (e : Event) → Head u a r s es o → PaysFor a (books_at (placed s es ∷ r)) o e
    → unstored_at (placed s (e ∷ es) ∷ r) ≡ unstored_did o (did_of e).bytes (unstored_at (placed s es ∷ r))
byte_event u a r s es nothing e k x = ap (λ bs. unstored_next (name_of s.word) s.op s.answer bs (unstored_at r)) (ap (λ bs. bytes_of es ++ bs) x.does.bytes_are ∙ no_more (bytes_of es))
byte_event u a r s es paid e k x = absurd x
byte_event u a r s es (writes n v) e k x = byte_owing u a r s es (writes n v) (did_of e).bytes k.0 k.1
byte_event u a r s es (stores n v) e k x = byte_owing u a r s es (stores n v) (did_of e).bytes k.0 k.1
byte_event u a r s es (joins m v n y) e k x = byte_owing u a r s es (joins m v n y) (did_of e).bytes k.0 k.1
byte_event u a r s es (draws i) e k x = byte_owing u a r s es (draws i) (did_of e).bytes k.0 k.1
byte_event u a r s es fills e k x = byte_owing u a r s es fills (did_of e).bytes k.0 k.1
byte_event u a r s es (gives n) e k x = byte_owing u a r s es (gives n) (did_of e).bytes k.0 k.1
byte_event u a r s es (takes t) e k x = byte_owing u a r s es (takes t) (did_of e).bytes k.0 k.1
byte_event u a r s es snaps e k x = byte_owing u a r s es snaps (did_of e).bytes k.0 k.1
byte_event u a r s es begun e k x = byte_owing u a r s es begun (did_of e).bytes k.0 k.1
byte_event u a r s es left e k x = byte_owing u a r s es left (did_of e).bytes k.0 k.1

no_event : (a : ℕ) (b : Books) (o : Owed) (e : Event) → o ≡ paid → PaysFor a b o e → ⊥
no_event a b o e is x = subst (λ o. PaysFor a b o e) is x

did_sound : (u : Setup) (a : ℕ) (l : Log) (e : Event) → Sound u a l → IsRight u a l e → Sound u a (did e ∷ l)
did_sound u a l e k x = record {
  runs = runs_on (placed_of l) k.runs k.standing pay;
  half_is = with_half e (placed_of l) ∙ (ap (λ h. if is_some (entry_stored e) then whole else h) k.half_is ∙ (half_paid a (books l) (owed l) e x.pays ∙ sym (paid_whole (owed l))));
  byte_is = byte_on (placed_of l) k.standing pay ∙ ap (unstored_did (owed l) (did_of e).bytes) k.byte_is;
  standing = stand_on (placed_of l) refl k.standing pay;
}
  where
    pay : PaysFor a (books_at (placed_of l)) (owed l) e
    pay = subst (λ b. PaysFor a b (owed l) e) (sym (same_books u a l k)) x.pays

    runs_on : (p : List Placed) → run_of p ≡ events_of l → Standing u a p (owed l) → PaysFor a (books_at p) (owed l) e → run_of (with_event e p) ≡ e ∷ events_of l
    runs_on [] q st y = absurd (no_event a (books_at []) (owed l) e st y)
    runs_on (t ∷ r) q st y = ap (λ es. e ∷ es) q

    byte_on : (p : List Placed) → Standing u a p (owed l) → PaysFor a (books_at p) (owed l) e → unstored_at (with_event e p) ≡ unstored_did (owed l) (did_of e).bytes (unstored_at p)
    byte_on [] st y = absurd (no_event a (books_at []) (owed l) e st y)
    byte_on (t ∷ r) st y = byte_event u a r t.step t.events (owed l) e st.0 y

    stand_on : (p : List Placed) → placed_of l ≡ p → Standing u a p (owed l) → PaysFor a (books_at p) (owed l) e → Standing u a (with_event e p) (pays (owed l))
    stand_on [] is st y = absurd (no_event a (books_at []) (owed l) e st y)
    stand_on (t ∷ r) is st y = (
      head_event u a r t.step t.events (owed l) e st.0 y,
      (x.own, fits u a l t r is (ap run_of (sym is) ∙ k.runs) e x.fit, st.1),
      st.2,
      st.3,
    )

pub sound : (u : Setup) (a : ℕ) {l : Log} → Grows u a [] l → Sound u a l
sound u a stays = record { runs = refl; half_is = refl; byte_is = refl; standing = refl }
sound u a (makes {m = m} s g k) = made_sound u a m s (sound u a g) k
sound u a (does {m = m} e g k) = did_sound u a m e (sound u a g) k

said_or : (b : Bool) (A B : Type 0) → (A → B) → IsTrue b ⊎ A → IsTrue b ⊎ B
said_or b A B f (inl y) = inl y
said_or b A B f (inr y) = inr (f y)

pub some_step : (u : Setup) (a : ℕ) (m : Log) (e : Event) → Sound u a m → IsRight u a m e → placed_of m ≡ [] → ⊥
some_step u a m e g k is = no_event a (books m) (owed m) e (subst (λ p. Standing u a p (owed m)) is g.standing) k.pays

-- an AllStopped that the log shows
pub said : (u : Setup) (a : ℕ) {l : Log} → Grows u a [] l → HasSaid l → Said (placed_of l)
said u a stays x = x
said u a (makes {m = m} s g k) x = inr (x.0, said u a g x.1)
said u a (does {m = m} e g k) x = said_with e (placed_of m) (said_or (says_all_stopped e) (HasSaid m) (Said (placed_of m)) (said u a g) x) (some_step u a m e (sound u a g) k)
