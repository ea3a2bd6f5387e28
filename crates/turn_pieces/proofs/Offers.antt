-- One lemma a kind of step: what a writer has to give, and the log that goes on. s, t, .. are steps in their order.
use Rattle.std.proofs.Common.{◌≡◌, ◌≢◌, ◌<◌, ◌≤◌, ◌+◌, ℕ, suc, true, false, List, [], ◌∷◌, Some, None, refl, sym, ap, subst, ◌∙◌, inl, inr, arith, length, lt-ltb, eq-eqb}
use Rattle.std.specs.Prelude.{if◌then◌else◌}
use Rattle.step_laws.specs.declared.steps.Step.{Step}
use Rattle.step_laws.specs.declared.steps.WordOp.{WordOp}
use Rattle.step_laws.specs.declared.steps.WordOp.TheVariants.{Store, Swap, Add, Exchange}
use Rattle.step_laws.specs.Steps.{new_of}
use Rattle.step_laws.specs.Map.{Word, Stop, Cons, Hsm, Start, Opaque, Dirty, Console, Ram, name_of}
use Rattle.step_laws.specs.Sections.{IsInSection}
use Rattle.machine_model.specs.declared.reason.Reason.{Reason}
use Rattle.machine_model.specs.Memory.{write_of}
use Rattle.machine_model.specs.Event.{Event, Start as Begin, SnapBegin, actor_of}
use Rattle.machine_model.specs.State.{Setup}
use Rattle.machine_model.specs.Run.{last_of, passes, is_snap_begin}
use Rattle.step_laws.specs.Words.{monitor}
use Rattle.step_laws.specs.Words.{console_places}
use Rattle.turn_pieces.specs.Doing.{AreFollowing, HasRoom, IsCutShort, last_start}
use Rattle.turn_pieces.specs.Folds.{drawn_next, unstored_next}
use Rattle.turn_pieces.specs.Requests.{Acks}
use Rattle.turn_pieces.specs.Draws.{may_draw, Drawing}
use Rattle.machine_model.specs.ReasonWords.{reason_word}
use Rattle.turn_pieces.specs.Log.{made, did, Log, steps_of, events_of}
use Rattle.turn_pieces.specs.Kept.{own_part, places, bytes}
use Rattle.turn_pieces.specs.Owed.{Owed, nothing, paid, writes, stores, joins, draws, fills, gives, takes, snaps, begun, left, owes_store, owes_own, owed, unstored, books, May, MayMake, MayBehind, Rests, Pays, PaysFor, HasPaid}
use Rattle.turn_pieces.specs.Right.{IsFit}
use Rattle.turn_pieces.specs.Grows.{Grows, stays, makes, does, IsClear}
use Rattle.turn_pieces.proofs.Writers.{may_named, owed_named, may_clear}

-- what a step owes is this, so an event that pays this is right
pays_for : (u : Setup) (a : ℕ) (l : Log) (o : Owed) (e : Event) → owed l ≡ o → PaysFor a (books l) o e → HasPaid a l e
pays_for u a l o e is x = subst (λ o. PaysFor a (books l) o e) (sym is) x

module _ (u : Setup) (a : ℕ) (l : Log) where
  -- one step and its event
  acts : (s : Step) (o : Owed) (e : Event) → MayMake u a l s → owed (made s ∷ l) ≡ o → actor_of e ≡ a → IsFit u a (made s ∷ l) e (own_part u a (made s ∷ l)) → PaysFor a (books (made s ∷ l)) o e
      → Grows u a l (did e ∷ made s ∷ l)
  acts s o e m is own fit x = does e (makes s stays m) (record { own = own; fit = fit; pays = pays_for u a (made s ∷ l) o e is x })

  pub draw_owes : (s : Step) → name_of s.word ≡ Cons → s.op ≡ Add → s.answer < console_places → owed (made s ∷ l) ≡ draws s.answer
  draw_owes s n o lt = owed_named l s Cons Add n o ∙ ap (λ b. if b then draws s.answer else nothing) (lt-ltb s.answer console_places lt)

  module _ (c : IsClear (owed l)) where
    pub free : (s : Step) (w : Word) (op : WordOp) → name_of s.word ≡ w → s.op ≡ op → May u a (books l) w op s.arg s.answer → Acks a l w op → Drawing (steps_of l) w op → MayMake u a l s
    free s w op n o m x d = may_named u a l s w op n o (may_clear u a (books l) (owed l) w op s.word s.arg s.answer c m) x d

    pub store_owes : (n arg : ℕ) → owes_store (owed l) n arg ≡ stores n arg
    store_owes n arg = go (owed l) c
      where
        go : (o : Owed) → IsClear o → owes_store o n arg ≡ stores n arg
        go nothing c = refl
        go paid c = refl
        go o c = absurd c

    -- a store of a word of RAM
    pub store_word : (s : Step) (i : ℕ) (e : Event) → name_of s.word ≡ Ram i → s.op ≡ Store → actor_of e ≡ a → IsFit u a (made s ∷ l) e (own_part u a (made s ∷ l))
        → Pays e (Some (write_of s.word s.arg ∷ [])) [] None None false → Grows u a l (did e ∷ made s ∷ l)
    store_word s i e n o own fit x = acts s (stores s.word s.arg) e (free s (Ram i) Store n o tt tt tt) (owed_named l s (Ram i) Store n o ∙ store_owes s.word s.arg) own fit x

    -- an exchange of a word of RAM that wrote, as of a part of the word
    pub exchange_word : (s : Step) (i old : ℕ) (e : Event) → name_of s.word ≡ Ram i → s.op ≡ Exchange old → old ≡ s.answer → actor_of e ≡ a → IsFit u a (made s ∷ l) e (own_part u a (made s ∷ l))
        → Pays e (Some (write_of s.word (new_of (Exchange old) s.answer s.arg) ∷ [])) [] None None false → Grows u a l (did e ∷ made s ∷ l)
    exchange_word s i old e n o won own fit x = acts s (writes s.word (new_of (Exchange old) s.answer s.arg)) e (free s (Ram i) (Exchange old) n o tt tt tt)
        (owed_named l s (Ram i) (Exchange old) n o ∙ ap (λ b. if b then writes s.word (new_of (Exchange old) s.answer s.arg) else nothing) (eq-eqb old s.answer won)) own fit x

    -- a crossing store in section
    pub store_two : (s t : Step) (i j : ℕ) (e : Event) → name_of s.word ≡ Ram i → s.op ≡ Store → name_of t.word ≡ Ram j → t.op ≡ Store → s.word ≢ t.word
        → IsInSection u.layout a (steps_of (made s ∷ l)) → actor_of e ≡ a → IsFit u a (made t ∷ made s ∷ l) e (own_part u a (made t ∷ made s ∷ l))
        → Pays e (Some (write_of s.word s.arg ∷ write_of t.word t.arg ∷ [])) [] None None false → Grows u a l (did e ∷ made t ∷ made s ∷ l)
    store_two s t i j e n o n' o' ne k own fit x =
        let first_owes : owed (made s ∷ l) ≡ stores s.word s.arg = owed_named l s (Ram i) Store n o ∙ store_owes s.word s.arg in
        let now : owed (made t ∷ made s ∷ l) ≡ joins s.word s.arg t.word t.arg
        = owed_named (made s ∷ l) t (Ram j) Store n' o' ∙ ap (λ d. owes_store d t.word t.arg) first_owes in
        does e (makes t (makes s stays (free s (Ram i) Store n o tt tt tt))
        (may_named u a (made s ∷ l) t (Ram j) Store n' o' (subst (λ d. MayBehind u a (books (made s ∷ l)) d (Ram j) Store t.word t.arg t.answer) (sym first_owes) (k, ne)) tt tt))
        (record { own = own; fit = fit; pays = pays_for u a (made t ∷ made s ∷ l) (joins s.word s.arg t.word t.arg) e now x })

    places_named : (s : Step) → name_of s.word ≡ Cons → s.op ≡ Add → places (made s ∷ l) ≡ s.answer ∷ places l
    places_named s n o = λ i. drawn_next (n i) (o i) s.answer (places l)

    byte_named : (s : Step) → name_of s.word ≡ Cons → s.op ≡ Add → unstored (made s ∷ l) ≡ unstored l
    byte_named s n o = λ i. unstored_next (n i) (o i) s.answer [] (unstored l)

    -- a byte of the UART: its place is drawn, and its event stands there
    pub print_one : (s : Step) (byte : ℕ) (e : Event) → name_of s.word ≡ Cons → s.op ≡ Add → s.arg ≡ 1 → may_draw (steps_of l) ≡ true → s.answer < console_places → places l ≡ [] → unstored l ≡ None
        → actor_of e ≡ a → IsFit u a (made s ∷ l) e (own_part u a (made s ∷ l)) → Pays e None (byte ∷ []) None None false → Grows u a l (did e ∷ made s ∷ l)
    print_one s byte e n o one may lt none clean own fit x = acts s (draws s.answer) e (free s Cons Add n o one tt may) (draw_owes s n o lt) own fit
        (record { byte = byte; pays = x; alone = places_named s n o ∙ ap (λ ds. s.answer ∷ ds) none; none = byte_named s n o ∙ clean })

    -- and then stored there
    pub store_byte : (s : Step) (i byte : ℕ) → name_of s.word ≡ Console i → s.op ≡ Store → s.arg ≡ byte + 256 → places l ≡ [] → unstored l ≡ Some (record { place = i; byte = byte })
        → Grows u a l (made s ∷ l)
    store_byte s i byte n o arg none some = makes s stays (free s (Console i) Store n o (inl (byte, some, arg, none)) tt tt)

    -- a place that isn't there
    pub draw_full : (s : Step) → name_of s.word ≡ Cons → s.op ≡ Add → s.arg ≡ 1 → may_draw (steps_of l) ≡ true → Grows u a l (made s ∷ l)
    draw_full s n o one may = makes s stays (free s Cons Add n o one tt may)

    -- STOP is exchanged
    pub give_reason : (s : Step) (reason : Reason) (e : Event) → name_of s.word ≡ Stop → s.op ≡ Exchange 0 → s.arg ≡ reason_word reason → actor_of e ≡ a → IsFit u a (made s ∷ l) e (own_part u a (made s ∷ l))
        → Pays e None (bytes (made s ∷ l)) (Some reason) None false → (AreFollowing (places (made s ∷ l)) → IsCutShort (places (made s ∷ l)) (bytes (made s ∷ l))) → Grows u a l (did e ∷ made s ∷ l)
    give_reason s reason e n o arg own fit x f = acts s (gives s.arg) e (free s Stop (Exchange 0) n o refl tt tt) (owed_named l s Stop (Exchange 0) n o) own fit
        (record { reason = reason; is = arg; pays = x; fills_it = f })

    -- a hart is taken, and given its start
    pub take_hart : (s : Step) (t at opaque : ℕ) (e : Event) → name_of s.word ≡ Hsm t → s.op ≡ Exchange 1 → s.arg ≡ 3 → s.answer ≡ 1 → actor_of e ≡ a → IsFit u a (made s ∷ l) e (own_part u a (made s ∷ l))
        → Pays e None [] None (Some (record { target = t; at = at; opaque = opaque })) false → Grows u a l (did e ∷ made s ∷ l)
    take_hart s t at opaque e n o arg won own fit x = acts s (takes t) e (free s (Hsm t) (Exchange 1) n o (λ _. (refl, arg)) tt tt)
        (owed_named l s (Hsm t) (Exchange 1) n o ∙ ap (λ b. if b then takes t else nothing) (eq-eqb 1 s.answer (sym won))) own fit
        (record { at = at; opaque = opaque; pays = x })

    pub give_start : (s : Step) (t opaque : ℕ) → name_of s.word ≡ Start t → s.op ≡ Store → last_start (events_of l) ≡ Some (record { target = t; at = s.arg; opaque = opaque })
        → Grows u a l (made s ∷ l)
    give_start s t opaque n o k = makes s stays (free s (Start t) Store n o (opaque, k) tt tt)

    pub give_opaque : (s : Step) (t at : ℕ) → name_of s.word ≡ Opaque t → s.op ≡ Store → last_start (events_of l) ≡ Some (record { target = t; at = at; opaque = s.arg })
        → Grows u a l (made s ∷ l)
    give_opaque s t at n o k = makes s stays (free s (Opaque t) Store n o (at, k) tt tt)

    pub let_hart : (s : Step) (t : ℕ) → name_of s.word ≡ Hsm t → s.op ≡ Store → s.arg ≡ 2 → Grows u a l (made s ∷ l)
    let_hart s t n o arg = makes s stays (free s (Hsm t) Store n o (inl arg) tt tt)

    -- a snapshot begins at its first swap
    pub begin_snapshot : (s : Step) → name_of s.word ≡ Dirty 0 → s.op ≡ Swap → a ≡ monitor → passes is_snap_begin (last_of monitor (events_of l)) ≡ false
        → IsFit u a (made s ∷ l) SnapBegin (own_part u a (made s ∷ l)) → Grows u a l (did SnapBegin ∷ made s ∷ l)
    begin_snapshot s n o who none fit = acts s snaps SnapBegin (free s (Dirty 0) Swap n o none tt tt) (owed_named l s (Dirty 0) Swap n o) (sym who) fit refl

    own_owes : (s : Step) (arg : ℕ) → name_of s.word ≡ Hsm a → s.op ≡ Store → s.arg ≡ arg → owed (made s ∷ l) ≡ owes_own arg
    own_owes s arg n o is = owed_named l s (Hsm a) Store n o ∙ ap owes_own is

    -- the own hart begins, and stops
    pub begin_here : (s : Step) (at opaque : ℕ) → name_of s.word ≡ Hsm a → s.op ≡ Store → s.arg ≡ 0 → IsFit u a (made s ∷ l) (Begin a at opaque) (own_part u a (made s ∷ l))
        → Grows u a l (did (Begin a at opaque) ∷ made s ∷ l)
    begin_here s at opaque n o arg fit = acts s begun (Begin a at opaque) (free s (Hsm a) Store n o (inr (refl, let lt = arg in omega (arith, lt))) tt tt) (own_owes s 0 n o arg) refl fit (at, opaque, refl)

    pub leave_here : (s : Step) (e : Event) → name_of s.word ≡ Hsm a → s.op ≡ Store → s.arg ≡ 1 → actor_of e ≡ a → IsFit u a (made s ∷ l) e (own_part u a (made s ∷ l))
        → Pays e None [] None None true → Grows u a l (did e ∷ made s ∷ l)
    leave_here s e n o arg own fit x = acts s left e (free s (Hsm a) Store n o (inr (refl, let lt = arg in omega (arith, lt))) tt tt) (own_owes s 1 n o arg) own fit x

  -- a byte of a call in section: its place is drawn behind that of another, or the first, and it is stored
  pub draw_in_call : (s : Step) → name_of s.word ≡ Cons → s.op ≡ Add → s.arg ≡ 1 → may_draw (steps_of l) ≡ true → Rests u a (books l) (owed l) → Grows u a l (made s ∷ l)
  draw_in_call s n o one may k = makes s stays (may_named u a l s Cons Add n o (behind (owed l) k) tt may)
    where
      behind : (d : Owed) → Rests u a (books l) d → MayBehind u a (books l) d Cons Add s.word s.arg s.answer
      behind nothing k = (tt, one)
      behind paid k = (tt, one)
      behind (draws i) k = (k, one)
      behind fills k = (tt, one)
      behind d k = absurd k

  pub store_in_call : (s : Step) (i place : ℕ) (others : List ℕ) → owed l ≡ draws place → places l ≡ i ∷ others → name_of s.word ≡ Console i → s.op ≡ Store → 256 ≤ s.arg
      → suc (length (bytes l)) ≡ length (places l) → unstored l ≡ None → IsInSection u.layout a (steps_of l) → Grows u a l (made s ∷ l)
  store_in_call s i place others d p n o arg count clean k = makes s stays (may_named u a l s (Console i) Store n o
      (subst (λ d. MayBehind u a (books l) d (Console i) Store s.word s.arg s.answer) (sym d)
      (k, inr (record { inside = k; others = others; drawn = p; is_byte = arg; count = count; none = clean }))) tt tt)

  -- and the last one's store has the event of all
  pub print_all : (e : Event) → owed l ≡ fills → (AreFollowing (places l) → HasRoom (places l))
      → actor_of e ≡ a → IsFit u a l e (own_part u a l) → Pays e None (bytes l) None None false → Grows u a l (did e ∷ l)
  print_all e d fit_in own fit x = does e stays (record { own = own; fit = fit; pays = pays_for u a l fills e d (record { pays = x; fits = fit_in }) })
