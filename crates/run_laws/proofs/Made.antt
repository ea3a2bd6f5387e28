-- What a step that is made owes is what accounts for it.
use Rattle.std.proofs.Common.{◌≡◌, ◌⊎◌, ◌<◌, ◌≤◌, ℕ, zero, suc, Bool, true, false, List, [], ◌∷◌, Option, Some, None, refl, sym, ap, subst, ◌∙◌, inl, inr, arith}
use Rattle.std.specs.Prelude.{◌==◌, nat_lt, if◌then◌else◌}
use Rattle.std.proofs.lemmas.Bool.{ltb-true, ltb-false}
use Rattle.step_laws.specs.declared.steps.Step.{Step}
use Rattle.step_laws.specs.declared.steps.WordOp.{WordOp}
use Rattle.step_laws.specs.declared.steps.WordOp.TheVariants.{Load, Store, Swap, Add, Exchange}
use Rattle.step_laws.specs.Steps.{new_of}
use Rattle.step_laws.specs.Map.{Word, Pend, Run, Stop, Cons, Ipi, Hsm, Start, Opaque, Dirty, Console, Ram, name_of}
use Rattle.step_laws.specs.Sections.{is_claimant, is_claimant_next, pass, pass_next}
use Rattle.step_laws.specs.Words.{actors}
use Rattle.step_laws.proofs.Named.{by_test}
use Rattle.machine_model.specs.Event.{Event, SnapBegin}
use Rattle.machine_model.specs.State.{Setup}
use Rattle.step_laws.specs.Words.{console_places}
use Rattle.run_laws.proofs.Placed.{Placed, steps}
use Rattle.run_laws.proofs.Kept.{Half, whole, part, half, half_next, has_bytes, drawn, stored_bytes, unstored}
use Rattle.turn_pieces.specs.Folds.{drawn_next, stored_next, Unstored, unstored_next}
use Rattle.turn_pieces.specs.Doing.{HasDone, IsQuiet, IsCutShort}
use Rattle.run_laws.proofs.Accounts.{AreQuiet, Accounts, calm, writes as by_write, writes_half, writes_rest, draws as by_draw, fills as by_fill, draws_none, draws_more, fills_more, fills_last, ends, takes as by_take, gives_start, gives_opaque, lets, begins_here, leaves_here}
use Rattle.run_laws.proofs.Bridge.{half_of, books_at, after}
use Rattle.turn_pieces.specs.Owed.{Owed, nothing, paid, writes, stores, draws, fills, gives, takes, owes_store, owes_byte, owes_own, owes, unstored_did, IsPromised, IsNext, May, IsJoin, MayBehind, PaysFor}

by_lt : (a b : ℕ) (P : Bool → Type 0) → (a < b → P true) → (b ≤ a → P false) → P (nat_lt a b)
by_lt a b P below above = go (nat_lt a b) refl
  where
    go : (t : Bool) → nat_lt a b ≡ t → P t
    go true e = below (ltb-true a b e)
    go false e = above (ltb-false a b e)

tail_is : (x : ℕ) (xs ys : List ℕ) → x ∷ xs ≡ x ∷ ys → xs ≡ ys
tail_is x xs ys e = ap rest e
  where
    rest : List ℕ → List ℕ
    rest [] = []
    rest (z ∷ zs) = zs

abbrev IsRam : Word → Type 0
IsRam (Ram i) = Unit {0}
IsRam _ = ⊥

half_other : (op : WordOp) (w : Word) (n arg : ℕ) (k : Half) → (IsRam w → ⊥) → half_next op w n arg k ≡ k
half_other Store (Ram i) n arg k f = absurd (f tt)
half_other op w n arg k f = refl

-- no bytes are stored where no place is drawn
drawn_bytes : (w : Word) (op : WordOp) (arg answer : ℕ) (ds bs : List ℕ) → drawn_next w op answer ds ≡ [] → stored_next w op arg ds bs ≡ []
drawn_bytes Cons Add arg answer ds bs e = absurd (cc (e))
drawn_bytes w op arg answer [] bs e = refl
drawn_bytes w op arg answer (d ∷ ds) bs e = absurd (cc (e))

pub no_bytes : (r : List Placed) → drawn r ≡ [] → stored_bytes r ≡ []
no_bytes [] e = refl
no_bytes (t ∷ r) e = go (has_bytes t.events) e
  where
    go : (b : Bool) → (if b then [] else drawn_next (name_of t.step.word) t.step.op t.step.answer (drawn r)) ≡ []
        → (if b then [] else stored_next (name_of t.step.word) t.step.op t.step.arg (drawn r) (stored_bytes r)) ≡ []
    go true k = refl
    go false k = drawn_bytes (name_of t.step.word) t.step.op t.step.arg t.step.answer (drawn r) (stored_bytes r) k

pub stop_bytes : (op : WordOp) (arg : ℕ) (ds bs : List ℕ) → (ds ≡ [] → bs ≡ []) → stored_next Stop op arg ds bs ≡ bs
stop_bytes op arg [] bs f = sym (f refl)
stop_bytes op arg (d ∷ ds) bs f = refl

snap_quiet : IsQuiet SnapBegin
snap_quiet = record { does = record { entry_is = refl; bytes_are = refl; reason_is = refl; starts_is = refl; stops_is = refl }; begins_not = refl }

module _ (u : Setup) (a : ℕ) (r : List Placed) (n : ℕ) where
  -- in section behind a step
  abbrev pub Inside : Word → WordOp → (arg answer : ℕ) → Type 0
  Inside w op arg answer = (is_claimant_next w op arg answer (is_claimant (steps r)) ≡ true) × (pass_next u.layout a w op arg answer (pass u.layout a (steps r)) ≡ actors)

  abbrev pub RestsHere : Word → WordOp → (arg answer : ℕ) → Owed → Type 0
  RestsHere w op arg answer nothing = Unit {0}
  RestsHere w op arg answer paid = Unit {0}
  RestsHere w op arg answer (stores m v) = Inside w op arg answer
  RestsHere w op arg answer (draws i) = Inside w op arg answer
  RestsHere w op arg answer fills = Unit {0}
  RestsHere w op arg answer _ = ⊥

  -- an event is owed: it accounts for the step, and so does none where the step may rest
  pub record Owing (s : Step) (w : Word) (op : WordOp) (arg answer : ℕ) (o : Owed) : Type 0 where
    pub by_event : (e : Event) → PaysFor a (after r s w op arg answer) o e → Accounts u a r n w op arg answer (e ∷ [])
    pub by_none : RestsHere w op arg answer o → Accounts u a r n w op arg answer []
    pub byte_is : (bs : List ℕ) → unstored_next w op answer bs (unstored r) ≡ unstored_did o bs (unstored_next w op answer [] (unstored r))

  abbrev pub HeadAt : Step → Word → WordOp → (arg answer : ℕ) → Owed → Type 0
  HeadAt s w op arg answer nothing = (es : List Event) → AreQuiet es → Accounts u a r n w op arg answer es
  HeadAt s w op arg answer paid = ⊥
  HeadAt s w op arg answer o = Owing s w op arg answer o

  pub record Fresh (s : Step) (w : Word) (op : WordOp) (arg answer : ℕ) (o : Owed) : Type 0 where
    pub half_is : half_next op w n arg (half r) ≡ half_of o
    pub head : HeadAt s w op arg answer o

  -- a step that owes nothing
  calm_fresh : (s : Step) (w : Word) (op : WordOp) (arg answer : ℕ) → half r ≡ whole → (IsRam w → ⊥) → ((es : List Event) → AreQuiet es → Accounts u a r n w op arg answer es)
      → Fresh s w op arg answer nothing
  calm_fresh s w op arg answer h f k = record { half_is = half_other op w n arg (half r) f ∙ h; head = k }

  -- a hart's own state
  own_fresh : (s : Step) (t arg answer : ℕ) → half r ≡ whole → (arg ≡ 2) ⊎ ((t ≡ a) × (arg < 2)) → Fresh s (Hsm t) Store arg answer (owes_own arg)
  own_fresh s t arg answer h (inl e) = subst (λ arg. Fresh s (Hsm t) Store arg answer (owes_own arg)) (sym e) (record { half_is = h; head = λ es q. lets h q })
  own_fresh s t zero answer h (inr k) = record {
    half_is = h;
    head = record {
      by_event = λ e x. subst (λ c. Accounts u a r n (Hsm c) Store 0 answer (e ∷ [])) (sym k.0)
          (subst (λ d. Accounts u a r n (Hsm a) Store 0 answer (d ∷ [])) (sym x.2) (begins_here {at = x.0} {opaque = x.1} h tt));
      by_none = λ x. absurd x;
      byte_is = λ bs. refl;
    };
  }
  own_fresh s t (suc zero) answer h (inr k) = record {
    half_is = h;
    head = record {
      by_event = λ e x. subst (λ c. Accounts u a r n (Hsm c) Store 1 answer (e ∷ [])) (sym k.0) (leaves_here h x.does x.begins_not tt);
      by_none = λ x. absurd x;
      byte_is = λ bs. refl;
    };
  }
  own_fresh s t (suc (suc m)) answer h (inr k) = let lt = k.1 in absurd (omega (arith, lt))

  -- a byte
  byte_fresh : (s : Step) (i arg answer : ℕ) → half r ≡ whole → IsPromised (books_at r) i arg ⊎ IsNext u a (books_at r) i arg
      → Fresh s (Console i) Store arg answer (owes_byte (unstored r))
  byte_fresh s i arg answer h (inl k) = subst (λ b. Fresh s (Console i) Store arg answer (owes_byte b)) (sym k.1)
      (record { half_is = h; head = λ es q. by_fill k.0 h k.1 k.2 k.3 q })
  byte_fresh s i arg answer h (inr k) = subst (λ b. Fresh s (Console i) Store arg answer (owes_byte b)) (sym k.none) (record {
    half_is = h;
    head = record {
      by_event = λ e x. fills_last h k.inside k.drawn k.is_byte k.none x.fits k.count
          (subst (λ ds. HasDone e None (stored_next (Console i) Store arg ds (stored_bytes r)) None None false) k.drawn x.pays.does) x.pays.begins_not tt;
      by_none = λ x. fills_more h k.inside k.drawn k.is_byte k.count k.none tt;
      byte_is = λ bs. refl;
    };
  })

  draw_byte : (answer : ℕ) (k : Option Unstored) (bs : List ℕ) → unstored_next Cons Add answer bs k ≡ unstored_did (draws answer) bs (unstored_next Cons Add answer [] k)
  draw_byte answer k [] = refl
  draw_byte answer k (b ∷ []) = refl
  draw_byte answer k (b ∷ c ∷ bs) = refl

  draw_fresh : (s : Step) (answer : ℕ) → half r ≡ whole → Fresh s Cons Add 1 answer (if nat_lt answer console_places then draws answer else nothing)
  draw_fresh s answer h = by_lt answer console_places (λ b. Fresh s Cons Add 1 answer (if b then draws answer else nothing))
      (λ lt. record {
        half_is = h;
        head = record {
          by_event = λ e x. by_draw x.byte h (tail_is answer (drawn r) [] x.alone) lt x.none x.pays.does x.pays.begins_not tt;
          by_none = λ k. draws_more h k tt;
          byte_is = draw_byte answer (unstored r);
        };
      })
      (λ le. record { half_is = h; head = λ es q. draws_none h le q })

  stop_fresh : (s : Step) (arg answer : ℕ) → half r ≡ whole → Fresh s Stop (Exchange 0) arg answer (gives arg)
  stop_fresh s arg answer h = record {
    half_is = h;
    head = record {
      by_event = λ e x. subst (λ m. Accounts u a r n Stop (Exchange 0) m answer (e ∷ [])) (sym x.is)
          (ends (stored_bytes r) h (subst (λ bs. HasDone e None bs (Some x.reason) None false) bytes_are x.pays.does) refl (λ y. subst (IsCutShort (drawn r)) bytes_are (x.fills_it y)) x.pays.begins_not tt);
      by_none = λ x. absurd x;
      byte_is = λ bs. refl;
    };
  }
    where
      bytes_are : stored_next Stop (Exchange 0) arg (drawn r) (stored_bytes r) ≡ stored_bytes r
      bytes_are = stop_bytes (Exchange 0) arg (drawn r) (stored_bytes r) (no_bytes r)

  -- an exchange of a hart's state
  take_fresh : (s : Step) (t old arg answer : ℕ) → half r ≡ whole → (old ≡ answer → (old ≡ 1) × (arg ≡ 3))
      → Fresh s (Hsm t) (Exchange old) arg answer (if old == answer then takes t else nothing)
  take_fresh s t old arg answer h m = by_test old answer (λ b. Fresh s (Hsm t) (Exchange old) arg answer (if b then takes t else nothing))
      (λ same. record {
        half_is = h;
        head = record {
          by_event = λ e x. subst (λ k. Accounts u a r n (Hsm t) (Exchange k) arg answer (e ∷ [])) (sym (m same).0)
              (subst (λ k. Accounts u a r n (Hsm t) (Exchange 1) k answer (e ∷ [])) (sym (m same).1)
              (subst (λ k. Accounts u a r n (Hsm t) (Exchange 1) 3 k (e ∷ [])) (sym (m same).0 ∙ same) (by_take x.at x.opaque h x.pays.does x.pays.begins_not tt)));
          by_none = λ x. absurd x;
          byte_is = λ bs. refl;
        };
      })
      (λ ne. record { half_is = h; head = λ es q. calm h ne (λ x. absurd x) q })

  -- an exchange of a shared word
  change_ram : (s : Step) (i old arg answer : ℕ) → half r ≡ whole
      → Fresh s (Ram i) (Exchange old) arg answer (if old == answer then writes n (new_of (Exchange old) answer arg) else nothing)
  change_ram s i old arg answer h = by_test old answer (λ b. Fresh s (Ram i) (Exchange old) arg answer (if b then writes n (new_of (Exchange old) answer arg) else nothing))
      (λ same. record {
        half_is = h;
        head = record { by_event = λ e x. by_write h tt same x.does x.begins_not tt; by_none = λ x. absurd x; byte_is = λ bs. refl };
      })
      (λ ne. record { half_is = h; head = λ es q. calm h ne (λ x. absurd x) q })

  change_ipi : (s : Step) (old arg answer : ℕ) → half r ≡ whole
      → Fresh s Ipi (Exchange old) arg answer (if old == answer then writes n (new_of (Exchange old) answer arg) else nothing)
  change_ipi s old arg answer h = by_test old answer (λ b. Fresh s Ipi (Exchange old) arg answer (if b then writes n (new_of (Exchange old) answer arg) else nothing))
      (λ same. record {
        half_is = h;
        head = record { by_event = λ e x. by_write h tt same x.does x.begins_not tt; by_none = λ x. absurd x; byte_is = λ bs. refl };
      })
      (λ ne. record { half_is = h; head = λ es q. calm h ne (λ x. absurd x) q })

  store_fresh : (s : Step) (i arg answer : ℕ) → half r ≡ whole → Fresh s (Ram i) Store arg answer (stores n arg)
  store_fresh s i arg answer h = record {
    half_is = refl;
    head = record { by_event = λ e x. by_write h tt tt x.does x.begins_not tt; by_none = λ k. writes_half h k; byte_is = λ bs. refl };
  }

  -- where no half of a store stands open
  free_fresh : (s : Step) (o : Owed) (w : Word) (op : WordOp) (arg answer : ℕ) → half r ≡ whole → owes_store o n arg ≡ stores n arg → May u a (books_at r) w op arg answer
      → Fresh s w op arg answer (owes o (unstored r) w op n arg answer)
  free_fresh s o (Ram i) Load arg answer h os m = record { half_is = h; head = λ es q. calm h tt (λ x. absurd x) q }
  free_fresh s o (Ram i) Store arg answer h os m = subst (λ d. Fresh s (Ram i) Store arg answer d) (sym os) (store_fresh s i arg answer h)
  free_fresh s o (Ram i) (Exchange old) arg answer h os m = change_ram s i old arg answer h
  free_fresh s o (Ram i) op arg answer h os m = record {
    half_is = h;
    head = record { by_event = λ e x. by_write h tt tt x.does x.begins_not tt; by_none = λ x. absurd x; byte_is = λ bs. refl };
  }
  free_fresh s o Ipi Load arg answer h os m = record { half_is = h; head = λ es q. calm h tt (λ x. absurd x) q }
  free_fresh s o Ipi (Exchange old) arg answer h os m = change_ipi s old arg answer h
  free_fresh s o Ipi op arg answer h os m = record {
    half_is = h;
    head = record { by_event = λ e x. by_write h tt tt x.does x.begins_not tt; by_none = λ x. absurd x; byte_is = λ bs. refl };
  }
  free_fresh s o Cons Load arg answer h os m = record { half_is = h; head = λ es q. calm h tt (λ x. absurd x) q }
  free_fresh s o Cons Add arg answer h os m = subst (λ k. Fresh s Cons Add k answer (if nat_lt answer console_places then draws answer else nothing)) (sym m) (draw_fresh s answer h)
  free_fresh s o Cons op arg answer h os m = absurd m
  free_fresh s o (Console i) Load arg answer h os m = record { half_is = h; head = λ es q. calm h tt (λ x. absurd x) q }
  free_fresh s o (Console i) Store arg answer h os m = byte_fresh s i arg answer h m
  free_fresh s o (Console i) op arg answer h os m = absurd m
  free_fresh s o Stop Load arg answer h os m = record { half_is = h; head = λ es q. calm h tt (λ x. absurd x) q }
  free_fresh s o Stop (Exchange old) arg answer h os m = subst (λ k. Fresh s Stop (Exchange k) arg answer (gives arg)) (sym m) (stop_fresh s arg answer h)
  free_fresh s o Stop op arg answer h os m = absurd m
  free_fresh s o (Hsm t) Load arg answer h os m = record { half_is = h; head = λ es q. calm h tt (λ x. absurd x) q }
  free_fresh s o (Hsm t) (Exchange old) arg answer h os m = take_fresh s t old arg answer h m
  free_fresh s o (Hsm t) Store arg answer h os m = own_fresh s t arg answer h m
  free_fresh s o (Hsm t) op arg answer h os m = absurd m
  free_fresh s o (Start t) Load arg answer h os m = record { half_is = h; head = λ es q. calm h tt (λ x. absurd x) q }
  free_fresh s o (Start t) Store arg answer h os m = record { half_is = h; head = λ es q. gives_start m.0 h m.1 q }
  free_fresh s o (Start t) op arg answer h os m = absurd m
  free_fresh s o (Opaque t) Load arg answer h os m = record { half_is = h; head = λ es q. calm h tt (λ x. absurd x) q }
  free_fresh s o (Opaque t) Store arg answer h os m = record { half_is = h; head = λ es q. gives_opaque m.0 h m.1 q }
  free_fresh s o (Opaque t) op arg answer h os m = absurd m
  free_fresh s o (Dirty zero) Swap arg answer h os m = record {
    half_is = h;
    head = record {
      by_event = λ e x. subst (λ d. Accounts u a r n (Dirty zero) Swap arg answer (d ∷ [])) (sym x) (calm h tt (λ x. absurd x) (snap_quiet, tt));
      by_none = λ x. absurd x;
      byte_is = λ bs. refl;
    };
  }
  free_fresh s o (Run c) op arg answer h os m = calm_fresh s (Run c) op arg answer h (λ x. x) (λ es q. calm h tt (λ _. m) q)
  free_fresh s o Pend op arg answer h os m = calm_fresh s Pend op arg answer h (λ x. x) (λ es q. calm h tt (λ _. m) q)
  free_fresh s o w op arg answer h os m = calm_fresh s w op arg answer h (λ x. x) (λ es q. calm h tt (λ x. absurd x) q)

  -- the second half of a crossing store
  join_fresh : (s : Step) (m v : ℕ) (w : Word) (op : WordOp) (arg answer : ℕ) → half r ≡ part m v → IsJoin m w op n → Fresh s w op arg answer (owes (stores m v) (unstored r) w op n arg answer)
  join_fresh s m v (Ram i) Store arg answer h ne = record {
    half_is = refl;
    head = record { by_event = λ e x. writes_rest m v h ne x.does x.begins_not tt; by_none = λ x. absurd x; byte_is = λ bs. refl };
  }
  join_fresh s m v w op arg answer h ne = absurd ne

  pub fresh : (s : Step) (o : Owed) (w : Word) (op : WordOp) (arg answer : ℕ) → half r ≡ half_of o → MayBehind u a (books_at r) o w op n arg answer
      → Fresh s w op arg answer (owes o (unstored r) w op n arg answer)
  fresh s (stores m v) w op arg answer h k = join_fresh s m v w op arg answer h k.1
  fresh s nothing w op arg answer h k = free_fresh s nothing w op arg answer h refl k.1
  fresh s paid w op arg answer h k = free_fresh s paid w op arg answer h refl k.1
  fresh s (draws i) w op arg answer h k = free_fresh s (draws i) w op arg answer h refl k.1
  fresh s fills w op arg answer h k = free_fresh s fills w op arg answer h refl k.1
  fresh s o w op arg answer h k = absurd k.0
