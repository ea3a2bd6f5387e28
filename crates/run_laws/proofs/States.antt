-- What events leave of the shared state.
use Rattle.std.proofs.Common.{◌≡◌, ℕ, suc, ◌<◌, ◌≤◌, ◌-◌, arith, Bool, true, false, List, [], ◌∷◌, ◌++◌, Option, Some, None, refl, sym, ap, subst, ◌∙◌, length, length-set, slice_set, eq-eqb}
use Rattle.std.specs.Prelude.{◌==◌, if◌then◌else◌, option_to_list}
use Rattle.std.proofs.lemmas.Bool.{eqb-true}
use Rattle.std.proofs.lemmas.List.{get_or-set_other, get_or-set_same, length-replicate}
use Rattle.machine_model.specs.declared.mode.Mode.{Mode}
use Rattle.machine_model.specs.declared.mode.Mode.TheVariants.{Started, Halted, Pending}
use Rattle.machine_model.specs.Memory.{StoreEntry}
use Rattle.machine_model.specs.Event.{Event, Outcome, Starting, Fetch, Exec, GiveUp, Interrupt, Start, actor_of, did_of}
use Rattle.machine_model.specs.State.{Setup, State, Hart, hart, nth, new_hart, mode_of, is_started, initial}
use Rattle.machine_model.specs.Change.{state_after, part_next, has_part, awaited, with_start, executed, fetched, printed, first_reason}
use Rattle.machine_model.specs.Access.{Spot, AtRam, AtDevice, Faults, spot_of}
use Rattle.machine_model.specs.Run.{state_of}
use Rattle.machine_model.proofs.Uniform.{run_length}
use Rattle.rv64_exec.specs.Code.{Code}
use Rattle.rv64_priv.specs.declared.state.Kind.{Kind}
use Rattle.run_laws.proofs.Accounts.{AreQuiet}
use Rattle.turn_pieces.specs.Doing.{is_begin}

-- entries
pub entries_none : (e : Event) (s : State) → (did_of e).entry ≡ None → (state_after e s).entries ≡ s.entries
entries_none e s k = ap (λ o. option_to_list o ++ s.entries) k

pub entries_some : (e : Event) (s : State) (n : StoreEntry) → (did_of e).entry ≡ Some n → (state_after e s).entries ≡ n ∷ s.entries
entries_some e s n k = ap (λ o. option_to_list o ++ s.entries) k

pub entries_quiet : (u : Setup) (es run : List Event) → AreQuiet es → (state_of u (es ++ run)).entries ≡ (state_of u run).entries
entries_quiet u [] run q = refl
entries_quiet u (e ∷ es) run q = entries_none e (state_of u (es ++ run)) q.0.does.entry_is ∙ entries_quiet u es run q.1

-- output
pub output_quiet : (u : Setup) (es run : List Event) → AreQuiet es → (state_of u (es ++ run)).output ≡ (state_of u run).output
output_quiet u [] run q = refl
output_quiet u (e ∷ es) run q = ap (λ bs. printed (state_of u (es ++ run)).output bs) q.0.does.bytes_are ∙ output_quiet u es run q.1

-- the reason
pub reason_quiet : (u : Setup) (es run : List Event) → AreQuiet es → (state_of u (es ++ run)).reason ≡ (state_of u run).reason
reason_quiet u [] run q = refl
reason_quiet u (e ∷ es) run q = ap (λ o. first_reason (state_of u (es ++ run)).reason o) q.0.does.reason_is ∙ reason_quiet u es run q.1

-- harts' modes
set_other : (hs : List Hart) (a h : ℕ) (t : Hart) → (a == h) ≡ false → nth (slice_set hs a t) h ≡ nth hs h
set_other hs a h t e = get_or-set_other hs a h t (new_hart Halted 0) (λ k. false_true (sym e ∙ eq-eqb a h (sym k)))
  where
    false_true : false ≡ true → ⊥
    false_true k = cc

-- a start in its own event begins a hart, an Exec may stop it; any other event keeps its mode
abbrev pub mode_next : Event → Mode → Mode
mode_next e m = if is_begin e then Started else (if (did_of e).stops then Halted else m)

fetched_mode : (code : Code) (t : Hart) (s : Spot) → (fetched code t s).mode ≡ t.mode
fetched_mode code t (AtRam pa) = refl
fetched_mode code t (AtDevice pa) = refl
fetched_mode code t (Faults cause tval) = refl

executed_mode : (d : Outcome) (t : Hart) → (executed d t).mode ≡ (if d.stops then Halted else t.mode)
unfolding executed
executed_mode d t = refl

part_mode : (e : Event) (t : Hart) → (part_next e t).mode ≡ mode_next e t.mode
part_mode (Fetch h walk code) t = fetched_mode code t (spot_of Kind.Fetch t.arch.pc walk)
part_mode (Exec h walk second did) t = executed_mode did t
part_mode (GiveUp h walks) t = refl
part_mode (Interrupt h) t = refl
part_mode (Start h at opaque) t = refl
part_mode e t = refl

no_part : (e : Event) (m : Mode) → has_part e ≡ false → mode_next e m ≡ m
no_part (Fetch h walk code) m k = absurd (cc)
no_part (Exec h walk second did) m k = absurd (cc)
no_part (GiveUp h walks) m k = absurd (cc)
no_part (Interrupt h) m k = absurd (cc)
no_part (Start h at opaque) m k = absurd (cc)
no_part e m k = refl

abbrev changed : Event → List Hart → List Hart
changed e hs = if has_part e then slice_set hs (actor_of e) (part_next e (nth hs (actor_of e))) else hs

-- the hart of an event, and each other
pub mode_changed : (e : Event) (hs : List Hart) (h : ℕ) → h < length hs → (nth (changed e hs) h).mode ≡ (if actor_of e == h then mode_next e (nth hs h).mode else (nth hs h).mode)
mode_changed e hs h lt = go (has_part e) (actor_of e == h) refl refl
  where
    go : (b c : Bool) → has_part e ≡ b → (actor_of e == h) ≡ c → (nth (if b then slice_set hs (actor_of e) (part_next e (nth hs (actor_of e))) else hs) h).mode ≡ (if c then mode_next e (nth hs h).mode else (nth hs h).mode)
    go false true j k = sym (no_part e (nth hs h).mode j)
    go false false j k = refl
    go true true j k = subst (λ x. (nth (slice_set hs x (part_next e (nth hs x))) h).mode ≡ mode_next e (nth hs h).mode) (sym (eqb-true (actor_of e) h k))
        (ap (λ t. t.mode) (get_or-set_same hs h (part_next e (nth hs h)) (new_hart Halted 0) lt) ∙ part_mode e (nth hs h))
    go true false j k = ap (λ t. t.mode) (set_other hs (actor_of e) h (part_next e (nth hs (actor_of e))) k)

mode_quiet_next : (e : Event) (m : Mode) → (did_of e).stops ≡ false → is_begin e ≡ false → mode_next e m ≡ m
mode_quiet_next e m s b = (λ i. if b i then Started else (if s i then Halted else m))

same_if : (b : Bool) (x y : Mode) → x ≡ y → (if b then x else y) ≡ y
same_if true x y e = e
same_if false x y e = refl

pub mode_none : (e : Event) (s : State) (h : ℕ) → h < length s.harts → (did_of e).starts ≡ None → (did_of e).stops ≡ false → is_begin e ≡ false → mode_of (state_after e s) h ≡ mode_of s h
mode_none e s h lt n st b =
    ap (λ o. (nth (with_start (changed e s.harts) o) h).mode) n
    ∙ (mode_changed e s.harts h lt ∙ same_if (actor_of e == h) (mode_next e (mode_of s h)) (mode_of s h) (mode_quiet_next e (mode_of s h) st b))

-- a start of a hart that doesn't run makes it pending
abbrev pub started_mode : Option Starting → ℕ → Mode → Mode
started_mode None h m = m
started_mode (Some g) h m = if g.target == h then (if is_started m then Started else Pending) else m

start_mode : (hs : List Hart) (o : Option Starting) (h : ℕ) → h < length hs → (nth (with_start hs o) h).mode ≡ started_mode o h (nth hs h).mode
start_mode hs None h lt = refl
start_mode hs (Some g) h lt = go (g.target == h) refl
  where
    go : (b : Bool) → (g.target == h) ≡ b → (nth (slice_set hs g.target (awaited g (nth hs g.target))) h).mode ≡ (if b then (if is_started (nth hs h).mode then Started else Pending) else (nth hs h).mode)
    go true e = subst (λ x. (nth (slice_set hs x (awaited g (nth hs x))) h).mode ≡ (if is_started (nth hs h).mode then Started else Pending)) (sym (eqb-true g.target h e))
        (ap (λ t. t.mode) (get_or-set_same hs h (awaited g (nth hs h)) (new_hart Halted 0) lt))
    go false e = ap (λ t. t.mode) (set_other hs g.target h (awaited g (nth hs g.target)) e)

changed_length : (e : Event) (hs : List Hart) → length (changed e hs) ≡ length hs
changed_length e hs = go (has_part e)
  where
    go : (b : Bool) → length (if b then slice_set hs (actor_of e) (part_next e (nth hs (actor_of e))) else hs) ≡ length hs
    go true = length-set hs (actor_of e) _
    go false = refl

pub mode_after : (e : Event) (s : State) (h : ℕ) → h < length s.harts
    → mode_of (state_after e s) h ≡ started_mode (did_of e).starts h (if actor_of e == h then mode_next e (mode_of s h) else mode_of s h)
mode_after e s h lt = start_mode (changed e s.harts) (did_of e).starts h (subst (λ n. h < n) (sym (changed_length e s.harts)) lt)
    ∙ ap (started_mode (did_of e).starts h) (mode_changed e s.harts h lt)

pub modes_quiet : (u : Setup) (es run : List Event) (h : ℕ) → h < length (initial u).harts → AreQuiet es → mode_of (state_of u (es ++ run)) h ≡ mode_of (state_of u run) h
modes_quiet u [] run h lt q = refl
modes_quiet u (e ∷ es) run h lt q =
    mode_none e (state_of u (es ++ run)) h (subst (λ n. h < n) (sym (run_length u (es ++ run))) lt) q.0.does.starts_is q.0.does.stops_is q.0.begins_not
    ∙ modes_quiet u es run h lt q.1

pub harts_there : (u : Setup) → 1 ≤ u.layout.harts → length (initial u).harts ≡ u.layout.harts
harts_there u p = ap suc (length-replicate (u.layout.harts - 1) (new_hart Halted 0)) ∙ omega (arith, p)

-- what the last accepted start gave a hart
pub record Gift : Type 0 where
  pub at : ℕ
  pub opaque : ℕ

abbrev pub gift : Hart → Gift
gift t = record { at = t.start; opaque = t.opaque }

abbrev pub gift_next : Option Starting → ℕ → Gift → Gift
gift_next None k g = g
gift_next (Some s) k g = if s.target == k then record { at = s.at; opaque = s.opaque } else g

fetched_gift : (code : Code) (t : Hart) (s : Spot) → gift (fetched code t s) ≡ gift t
fetched_gift code t (AtRam pa) = refl
fetched_gift code t (AtDevice pa) = refl
fetched_gift code t (Faults cause tval) = refl

executed_gift : (d : Outcome) (t : Hart) → gift (executed d t) ≡ gift t
unfolding executed
executed_gift d t = refl

part_gift : (e : Event) (t : Hart) → gift (part_next e t) ≡ gift t
part_gift (Fetch h walk code) t = fetched_gift code t (spot_of Kind.Fetch t.arch.pc walk)
part_gift (Exec h walk second did) t = executed_gift did t
part_gift (GiveUp h walks) t = refl
part_gift (Interrupt h) t = refl
part_gift (Start h at opaque) t = refl
part_gift e t = refl

changed_gift : (e : Event) (hs : List Hart) (h : ℕ) → h < length hs → gift (nth (changed e hs) h) ≡ gift (nth hs h)
changed_gift e hs h lt = go (has_part e) (actor_of e == h) refl
  where
    go : (b c : Bool) → (actor_of e == h) ≡ c → gift (nth (if b then slice_set hs (actor_of e) (part_next e (nth hs (actor_of e))) else hs) h) ≡ gift (nth hs h)
    go false c k = refl
    go true true k = subst (λ x. gift (nth (slice_set hs x (part_next e (nth hs x))) h) ≡ gift (nth hs h)) (sym (eqb-true (actor_of e) h k))
        (ap gift (get_or-set_same hs h (part_next e (nth hs h)) (new_hart Halted 0) lt) ∙ part_gift e (nth hs h))
    go true false k = ap gift (set_other hs (actor_of e) h (part_next e (nth hs (actor_of e))) k)

start_gift : (hs : List Hart) (o : Option Starting) (h : ℕ) → h < length hs → gift (nth (with_start hs o) h) ≡ gift_next o h (gift (nth hs h))
start_gift hs None h lt = refl
start_gift hs (Some g) h lt = go (g.target == h) refl
  where
    go : (b : Bool) → (g.target == h) ≡ b → gift (nth (slice_set hs g.target (awaited g (nth hs g.target))) h) ≡ (if b then record { at = g.at; opaque = g.opaque } else gift (nth hs h))
    go true e = subst (λ x. gift (nth (slice_set hs x (awaited g (nth hs x))) h) ≡ record { at = g.at; opaque = g.opaque }) (sym (eqb-true g.target h e))
        (ap gift (get_or-set_same hs h (awaited g (nth hs h)) (new_hart Halted 0) lt))
    go false e = ap gift (set_other hs g.target h (awaited g (nth hs g.target)) e)

pub gift_after : (e : Event) (s : State) (h : ℕ) → h < length s.harts → gift (hart (state_after e s) h) ≡ gift_next (did_of e).starts h (gift (hart s h))
gift_after e s h lt = start_gift (changed e s.harts) (did_of e).starts h (subst (λ n. h < n) (sym (changed_length e s.harts)) lt)
    ∙ ap (gift_next (did_of e).starts h) (changed_gift e s.harts h lt)

pub gifts_quiet : (u : Setup) (es run : List Event) (h : ℕ) → h < length (initial u).harts → AreQuiet es → gift (hart (state_of u (es ++ run)) h) ≡ gift (hart (state_of u run) h)
gifts_quiet u [] run h lt q = refl
gifts_quiet u (e ∷ es) run h lt q =
    gift_after e (state_of u (es ++ run)) h (subst (λ n. h < n) (sym (run_length u (es ++ run))) lt)
    ∙ (ap (λ o. gift_next o h (gift (hart (state_of u (es ++ run)) h))) q.0.does.starts_is ∙ gifts_quiet u es run h lt q.1)
