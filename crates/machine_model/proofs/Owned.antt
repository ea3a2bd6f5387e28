-- What is a hart's own is changed by its own events alone.
use Rattle.std.proofs.Common.{◌≡◌, refl, ℕ, ◌<◌, List, [], ◌∷◌, Some, None, Option, true, false, Bool, ap, sym, ◌∙◌, subst, slice_set, length}
use Rattle.std.specs.Prelude.{◌==◌, if◌then◌else◌}
use Rattle.std.proofs.lemmas.Bool.{eqb-true}
use Rattle.std.proofs.lemmas.List.{get_or-set_same}
use Rattle.rv64_priv.specs.declared.state.Kind.{Kind}
use Rattle.rv64_exec.specs.Code.{Code}
use Rattle.machine_model.specs.declared.mode.Mode.{Mode}
use Rattle.machine_model.specs.declared.mode.Mode.TheVariants.{Started, Halted, Pending}
use Rattle.machine_model.specs.Event.{Event, Outcome, Starting, Fetch, Exec, GiveUp, Interrupt, Start, actor_of, did_of}
use Rattle.machine_model.specs.Access.{Spot, AtRam, AtDevice, Faults, spot_of}
use Rattle.machine_model.specs.State.{State, Hart, new_hart, nth, hart, is_started}
use Rattle.machine_model.specs.Change.{state_after, part_next, has_part, awaited, with_start, executed, fetched}
use Rattle.machine_model.specs.Run.{state_of, is_of}
use Rattle.machine_model.specs.Own.{Own, own, own_next, own_fetched, own_executed}
use Rattle.machine_model.specs.Laws.{OwnIsOwn}
use Rattle.machine_model.proofs.Uniform.{set_other, changed, changed_length, run_length}

pub started_awaited : (m : Mode) → is_started (if is_started m then Started else Pending) ≡ is_started m
started_awaited Started = refl
started_awaited Halted = refl
started_awaited Pending = refl

own_awaited : (g : Starting) (t : Hart) → own (awaited g t) ≡ own t
own_awaited g t = ap (λ b. record { arch = t.arch; held = t.held; count = t.count; runs = b }) (started_awaited t.mode)

own_start : (hs : List Hart) (o : Option Starting) (h : ℕ) → h < length hs → own (nth (with_start hs o) h) ≡ own (nth hs h)
own_start hs None h lt = refl
own_start hs (Some g) h lt = go (g.target == h) refl
  where
    go : (b : Bool) → (g.target == h) ≡ b → own (nth (slice_set hs g.target (awaited g (nth hs g.target))) h) ≡ own (nth hs h)
    go true e = subst (λ x. own (nth (slice_set hs x (awaited g (nth hs x))) h) ≡ own (nth hs h)) (sym (eqb-true g.target h e))
        (ap own (get_or-set_same hs h (awaited g (nth hs h)) (new_hart Halted 0) lt) ∙ own_awaited g (nth hs h))
    go false e = ap own (set_other hs g.target h (awaited g (nth hs g.target)) e)

started_if : (b : Bool) (m : Mode) → is_started (if b then Halted else m) ≡ (if b then false else is_started m)
started_if true m = refl
started_if false m = refl

own_exec : (d : Outcome) (t : Hart) → own (executed d t) ≡ own_executed d (own t)
unfolding executed own_executed
own_exec d t = ap (λ b. record { arch = (own_executed d (own t)).arch; held = None; count = (own_executed d (own t)).count; runs = b }) (started_if d.stops t.mode)

own_fetch : (code : Code) (t : Hart) (s : Spot) → own (fetched code t s) ≡ own_fetched code (own t) s
own_fetch code t (AtRam pa) = refl
own_fetch code t (AtDevice pa) = refl
own_fetch code t (Faults cause tval) = refl

own_part : (e : Event) (t : Hart) → own (part_next e t) ≡ own_next e (own t)
own_part (Fetch h walk code) t = own_fetch code t (spot_of Kind.Fetch t.arch.pc walk)
own_part (Exec h walk second did) t = own_exec did t
own_part (GiveUp h walks) t = refl
own_part (Interrupt h) t = refl
own_part (Start h at opaque) t = refl
own_part e t = refl

-- an event that changes no hart changes no own part
own_same : (e : Event) (o : Own) → has_part e ≡ false → own_next e o ≡ o
own_same (Fetch h walk code) o k = absurd (cc)
own_same (Exec h walk second did) o k = absurd (cc)
own_same (GiveUp h walks) o k = absurd (cc)
own_same (Interrupt h) o k = absurd (cc)
own_same (Start h at opaque) o k = absurd (cc)
own_same e o k = refl

own_changed : (e : Event) (hs : List Hart) (h : ℕ) → h < length hs → own (nth (changed e hs) h) ≡ (if is_of h e then own_next e (own (nth hs h)) else own (nth hs h))
own_changed e hs h lt = go (has_part e) (is_of h e) refl refl
  where
    go : (b c : Bool) → has_part e ≡ b → is_of h e ≡ c → own (nth (if b then slice_set hs (actor_of e) (part_next e (nth hs (actor_of e))) else hs) h) ≡ (if c then own_next e (own (nth hs h)) else own (nth hs h))
    go false true j k = sym (own_same e (own (nth hs h)) j)
    go false false j k = refl
    go true true j k = subst (λ x. own (nth (slice_set hs x (part_next e (nth hs x))) h) ≡ own_next e (own (nth hs h))) (sym (eqb-true (actor_of e) h k))
        (ap own (get_or-set_same hs h (part_next e (nth hs h)) (new_hart Halted 0) lt) ∙ own_part e (nth hs h))
    go true false j k = ap own (set_other hs (actor_of e) h (part_next e (nth hs (actor_of e))) k)

pub own_after : (e : Event) (s : State) (h : ℕ) → h < length s.harts → own (hart (state_after e s) h) ≡ (if is_of h e then own_next e (own (hart s h)) else own (hart s h))
own_after e s h lt =
    own_start (changed e s.harts) (did_of e).starts h (subst (λ n. h < n) (sym (changed_length e s.harts)) lt)
    ∙ own_changed e s.harts h lt

pub own_is_own : OwnIsOwn
own_is_own u [] h lt = refl
own_is_own u (e ∷ run) h lt =
    own_after e (state_of u run) h (subst (λ n. h < n) (sym (run_length u run)) lt)
    ∙ ap (λ o. if is_of h e then own_next e o else o) (own_is_own u run h lt)
