-- An instruction that was executed, given up, or asks for a fence: what goes with its hart behind it.
use Rattle.std.proofs.Common.{◌≡◌, ◌≢◌, ◌⊎◌, inl, inr, ℕ, ◌+◌, ◌<◌, Bool, true, false, [], ◌∷◌, None, Some, refl, sym, ap, subst, ◌∙◌}
use Rattle.std.specs.Prelude.{◌==◌, ◌&&◌}
use Rattle.rv64_decode.specs.Encoding.{Decodes}
use Rattle.rv64_decode.specs.declared.instruction.Instr.{Instr}
use Rattle.rv64_priv.specs.Csr.{regime}
use Rattle.rv64_priv.specs.State.{Arch}
use Rattle.rv64_priv.specs.Trap.{trapped}
use Rattle.rv64_priv.specs.declared.state.Regime.{Regime}
use Rattle.rv64_exec.specs.Code.{Code}
use Rattle.rv64_exec.specs.Finish.{after}
use Rattle.rv64_exec.specs.Plan.{need_of}
use Rattle.rv64_exec.specs.Widths.{IsWellFormedNeed}
use Rattle.rv64_exec.specs.declared.needs.Answer.{Answer}
use Rattle.rv64_exec.specs.declared.needs.FlushOf.{FlushOf}
use Rattle.rv64_exec.specs.declared.needs.Need.{Need}
use Rattle.rv64_exec.proofs.Regimes.{regime_stays}
use Rattle.step_laws.specs.declared.words.Layout.{Layout}
use Rattle.step_laws.specs.Map.{Word, Pend, Place, Run}
use Rattle.step_laws.specs.Sections.{IsInSection, MayTouch}
use Rattle.machine_model.specs.Event.{GiveUp, only}
use Rattle.machine_model.specs.Own.{Own, own_executed}
use Rattle.machine_model.specs.State.{Setup}
use Rattle.guest_ram.specs.Areas.{IsAside}
use Rattle.guest_ram.specs.Ports.{GoesBy, Shown, layout_of}
use Rattle.guest_ram.proofs.Moves.{actor_goes, stands_goes}
use Rattle.tlb_entry.specs.declared.books.Book.{Book}
use Rattle.guest_access.specs.Reaching.{KnowsFills}
use Rattle.word_cache.specs.Cached.{Entries}
use Rattle.work_queue.proofs.Ringed.{IsNoPlace, sent_goes, served_goes}
use Rattle.hart_calls.specs.declared.spans.Span.{Span}
use Rattle.need_serving.specs.declared.ends.NeedEnd.{NeedEnd}
use Rattle.need_serving.specs.declared.ends.NeedEnd.TheVariants as ends
use Rattle.need_serving.specs.Ends.{MayHaveAfter, runs_on}
use Rattle.need_serving.specs.Serving.{HasServed, IsOfNeeds, IsServed}
use Rattle.turn_pieces.specs.Draws.{may_draw}
use Rattle.turn_pieces.specs.Grows.{Ends, Grows, Part, does, stays}
use Rattle.turn_pieces.specs.Log.{Log, did, steps_of}
use Rattle.turn_pieces.proofs.Writers.{ends_then, part_nowhere, part_then}
use Rattle.tlb_lock.specs.declared.lock.Busy.{Busy}
use Rattle.access_pieces.specs.Serving.{MayGiveUp, Settles, Wants}
use Rattle.access_pieces.proofs.GivenUp.{give_ups_stand}
use Rattle.call_pieces.specs.Idle.{HasSaidLast}
use Rattle.fetch_pieces.specs.Regimes.{IsAlike}
use Rattle.fetch_pieces.proofs.Regimes.{fills_agree, tells_agree, trap_alike}
use Rattle.need_pieces.specs.Laws.{CanServe, IsNoFence}
use Rattle.need_pieces.specs.Serving.{IsOfRegister, IsServedIn, MayServe, halted}
use Rattle.need_pieces.proofs.Served.{fences_wait, needs_served}
use Rattle.signal_pieces.specs.Signalling.{nobody}
use Rattle.signal_pieces.proofs.Single.{uncounted}
use Rattle.hart_turn.specs.declared.hart.Call.{Call}
use Rattle.hart_turn.specs.declared.hart.Hart.{Hart}
use Rattle.hart_turn.specs.Harts.{GoesWith, IsCallOf, counted, is_made, own_of}
use Rattle.hart_turn.specs.Logs.{AtCount, AtEnd}
use Rattle.hart_turn.specs.Executing.{AfterNeed, AtExecute, ExecutesOn, HasExecuted, after_end, after_unknown, served, trapped_on, with_decoded}
use Rattle.hart_turn.proofs.Aside.{stand_as}
use Rattle.hart_turn.proofs.Looks.{call_none, with_arch}
use Rattle.hart_turn.proofs.Ordinary.{all_counts, served_is}
use Rattle.hart_turn.proofs.Said.{said_added}

needs_aside : (w : Word) → IsOfNeeds w → IsAside w
needs_aside Pend t = absurd t
needs_aside (Run a) t = absurd t
needs_aside w t = tt

needs_no_place : (w : Word) → IsOfNeeds w → IsNoPlace w
needs_no_place (Place t s k) x = absurd x
needs_no_place w t = tt

-- whether a need is a flush of everything
is_all : (n : Need) → (n ≡ Need.Flush FlushOf.All) ⊎ (n ≢ Need.Flush FlushOf.All)
is_all (Need.Flush FlushOf.All) = inl refl
is_all (Need.Flush (FlushOf.Page page)) = inr (λ e. cc)
is_all Need.Nothing = inr (λ e. cc)
is_all (Need.Trap cause tval) = inr (λ e. cc)
is_all (Need.Ipi op) = inr (λ e. cc)
is_all Need.Sbi = inr (λ e. cc)
is_all (Need.Load va width sign) = inr (λ e. cc)
is_all (Need.Store va width value) = inr (λ e. cc)
is_all (Need.Amo va op wide value) = inr (λ e. cc)
is_all (Need.Lr va wide) = inr (λ e. cc)
is_all (Need.Sc va wide value) = inr (λ e. cc)

-- the regime before may be that behind
as_before : (n : Need) (end : NeedEnd) (r : Regime) → MayHaveAfter n end r r
as_before (Need.Flush FlushOf.All) (ends.Done answer) r = tt
as_before (Need.Flush FlushOf.All) ends.Stopped r = refl
as_before (Need.Flush FlushOf.All) (ends.Fence harts span) r = refl
as_before (Need.Flush FlushOf.All) (ends.Lost word seen found) r = refl
as_before (Need.Flush FlushOf.All) ends.NeedsSection r = refl
as_before (Need.Flush FlushOf.All) (ends.Busy busy) r = refl
as_before (Need.Flush (FlushOf.Page page)) end r = refl
as_before Need.Nothing end r = refl
as_before (Need.Trap cause tval) end r = refl
as_before (Need.Ipi op) end r = refl
as_before Need.Sbi end r = refl
as_before (Need.Load va width sign) end r = refl
as_before (Need.Store va width value) end r = refl
as_before (Need.Amo va op wide value) end r = refl
as_before (Need.Lr va wide) end r = refl
as_before (Need.Sc va wide value) end r = refl

no_all : (n : Need) → n ≡ Need.Sbi → n ≢ Need.Flush FlushOf.All
no_all n is e = cc

-- an instruction that doesn't flush everything leaves satp, SUM and MXR
alike : (c : Arch) (i : Instr) (answer : Answer) → need_of c i ≢ Need.Flush FlushOf.All → IsAlike (regime c) (regime (after c i answer))
alike c i answer ne = let k = regime_stays c i answer ne in record { satp = k.satp; sum = k.sum; mxr = k.mxr }

knows_alike : (b : Book) (r later : Regime) (q : Shown) → IsAlike r later → KnowsFills b r q → KnowsFills b later q
knows_alike b r later q k x = record { items = x.items; fills = x.fills; goes = fills_agree q b r later x.items x.fills k x.goes }

settles_alike : (o : Own) (b : Book) (r later : Regime) (q : Shown) (u : Setup) (a : ℕ) (l : Log) → IsAlike r later → Settles nobody o q b r u a l → Settles nobody o q b later u a l
settles_alike o b r later q u a l k x = record { tells = tells_agree o q b r later u a l k x.tells; settled = x.settled }

-- what the hart is by its own events
executed_own : (h : Hart) (word : ℕ) (i : Instr) (answer : Answer) (b : Book) → own_executed (only answer) (own_of h (Some (record { word = word; instr = Some i }))) ≡ own_of (counted (after_end i b (ends.Done answer) h)) None
unfolding own_executed
executed_own h word i answer b = refl

halted_own : (h : Hart) (word : ℕ) (i : Instr) (b : Book) → h.runs ≡ true → halted (own_of h (Some (record { word = word; instr = Some i }))) ≡ own_of (counted (after_end i b ends.Stopped h)) None
unfolding own_executed
halted_own h word i b runs = refl

-- over a need that was served, but where the hart stopped itself
said_served : (b b' : Book) (c : Arch) (section : Bool) (n : Need) (end : NeedEnd) (p q : Shown) (u : Setup) (a : ℕ) (l late : Log) → HasServed p q b b' c section n end → runs_on end ≡ true → steps_of l ≡ p.own.steps → steps_of late ≡ q.own.steps → Grows u a l late
    → HasSaidLast a l → HasSaidLast a late
said_served b b' c section n end p q u a l late done runs before behind g said = let x = served_is p q b b' c section n end done in
    said_added u a l late x.added p.own.steps (all_counts (runs_on end) x.added runs x.all) before (behind ∙ x.is) g said

module _ (h : Hart) (i : Instr) (n : Need) (section : Bool) (book : Book) (p q : Shown) (can : GoesWith h p) (is : n ≡ need_of h.arch i) (free : h.call ≡ Call.Nothing) where
  module _ (end : NeedEnd) (x : IsServed p q h.book book h.arch section n end) (most : ℕ) (goes : GoesBy most IsOfNeeds p q) (below : h.count < h.limit) where
    with_end : (c : Arch) (running : Bool) → runs_on end ≡ running → KnowsFills book (regime c) q → GoesWith (record h { arch = c; runs = running; book = book }) q
    with_end c running on fills = record {
      beside = x.remains.access.beside;
      fills = fills;
      number = can.number ∙ sym (actor_goes most IsOfNeeds p q goes);
      runs = x.remains.running ∙ on;
      free = x.remains.free;
      paid = x.remains.paid can.paid;
      stands = (let s = stand_as h p q can.stands (stands_goes most IsOfNeeds p q needs_aside goes) in record { phase_is = s.phase_is; claim_is = s.claim_is; quantum = s.quantum });
      sent = sent_goes most IsOfNeeds p q needs_no_place goes h.sent can.sent;
      served = served_goes most IsOfNeeds p q needs_no_place goes h.served can.served;
      below = λ unsaid. below;
      call = subst (λ (z : Call). IsCallOf z h.sent c q) (sym free) tt;
      stopped = λ e. free;
    }

    still_knows : KnowsFills book (regime h.arch) q
    still_knows = x.fills (regime h.arch) (as_before n end (regime h.arch))

    -- as it was
    pub with_still : runs_on end ≡ true → h.runs ≡ true → GoesWith (record h { book = book }) q
    with_still on runs = with_end h.arch h.runs (on ∙ sym runs) still_knows

    later_knows : (answer : Answer) → n ≢ Need.Flush FlushOf.All → KnowsFills book (regime (after h.arch i answer)) q
    later_knows answer ne = knows_alike book (regime h.arch) (regime (after h.arch i answer)) q (alike h.arch i answer (subst (λ z. z ≢ Need.Flush FlushOf.All) is ne)) still_knows

  -- executed
  pub with_done : (answer : Answer) (x : IsServed p q h.book book h.arch section n (ends.Done answer)) (most : ℕ) → GoesBy most IsOfNeeds p q → h.count < h.limit → h.runs ≡ true → GoesWith (after_end i book (ends.Done answer) h) q
  with_done answer x most goes below runs = with_end (ends.Done answer) x most goes below (after h.arch i answer) h.runs (sym runs) (by (is_all n))
    where
      by : (n ≡ Need.Flush FlushOf.All) ⊎ (n ≢ Need.Flush FlushOf.All) → KnowsFills book (regime (after h.arch i answer)) q
      by (inl e) = x.fills (regime (after h.arch i answer)) (subst (λ z. MayHaveAfter z (ends.Done answer) (regime h.arch) (regime (after h.arch i answer))) (sym e) tt)
      by (inr ne) = later_knows (ends.Done answer) x most goes below answer ne

  pub with_stop : (x : IsServed p q h.book book h.arch section n ends.Stopped) (most : ℕ) → GoesBy most IsOfNeeds p q → h.count < h.limit → GoesWith (after_end i book ends.Stopped h) q
  with_stop x most goes below = with_end ends.Stopped x most goes below (after h.arch i Answer.Nothing) false refl (later_knows ends.Stopped x most goes below Answer.Nothing (no_all n x.fits))

  -- in its log
  module _ (form : IsWellFormedNeed n) (value : IsOfRegister n) (touch : MayTouch (layout_of p) p.own.actor p.own.steps) (made_is : section ≡ is_made h.claim)
      (alone : is_made h.claim ≡ true → IsInSection (layout_of p) p.own.actor p.own.steps) (draws : may_draw p.own.steps ≡ true) (running : h.runs ≡ true) where
    serves : CanServe p h.book section
    serves = record {
      access = record { beside = can.beside; touch = touch };
      runner = record { acting = can.beside.acting; hart = can.beside.hart; runs = can.runs ∙ running; free = can.free };
      told = λ e. alone (sym made_is ∙ e);
      draws = draws;
    }

    module _ (word : ℕ) (u : Setup) (a : ℕ) (l : Log) (x : AtExecute h (record { word = word; instr = Some i }) p u a l) where
      wants : Wants (own_of h (Some (record { word = word; instr = Some i }))) h.arch n
      wants = record { arch_is = refl; holds = refl; need_is = sym is }

      may : MayServe nobody (own_of h (Some (record { word = word; instr = Some i }))) p h.book (regime h.arch) u a l
      may = record { rests = x.rests; not_due = x.not_due; runs = running }

      log_of : (end : NeedEnd) → IsServed p q h.book book h.arch section n end → IsNoFence end → (later : Regime) → MayHaveAfter n end (regime h.arch) later → Ends u a l (IsServedIn nobody (own_of h (Some (record { word = word; instr = Some i }))) end q book later u a)
      log_of end y no_fence later same = needs_served p q h.book book h.arch section n end form value serves y.served no_fence later same nobody (own_of h (Some (record { word = word; instr = Some i }))) wants u a l may

      done_with : (answer : Answer) → IsServed p q h.book book h.arch section n (ends.Done answer) → (n ≡ Need.Flush FlushOf.All) ⊎ (n ≢ Need.Flush FlushOf.All) → Ends u a l (AtCount (counted (after_end i book (ends.Done answer) h)) q u a)
      done_with answer y (inl e) =
          let later = regime (after h.arch i answer) in
          let z = log_of (ends.Done answer) y tt later (subst (λ m. MayHaveAfter m (ends.Done answer) (regime h.arch) later) (sym e) tt) in record {
            late = z.late;
            grows = z.grows;
            holds = record {
              limit_is = x.limit_is;
              settles = subst (λ (o : Own). Settles nobody o q book later u a z.late) (executed_own h word i answer book) z.holds.settles;
              due_is = ap (λ (b : Bool). b && (h.count + 1 == u.limit)) z.holds.counts;
              free = free;
              said = said_served h.book book h.arch section n (ends.Done answer) p q u a l z.late y.served refl x.rests.tells.tells.stands.is z.holds.settles.tells.tells.stands.is z.grows x.said;
            };
          }
      done_with answer y (inr ne) =
          let z = log_of (ends.Done answer) y tt (regime h.arch) (as_before n (ends.Done answer) (regime h.arch)) in record {
            late = z.late;
            grows = z.grows;
            holds = record {
              limit_is = x.limit_is;
              settles = settles_alike (own_of (counted (after_end i book (ends.Done answer) h)) None) book (regime h.arch) (regime (after h.arch i answer)) q u a z.late (alike h.arch i answer (subst (λ m. m ≢ Need.Flush FlushOf.All) is ne))
                  (subst (λ (o : Own). Settles nobody o q book (regime h.arch) u a z.late) (executed_own h word i answer book) z.holds.settles);
              due_is = ap (λ (b : Bool). b && (h.count + 1 == u.limit)) z.holds.counts;
              free = free;
              said = said_served h.book book h.arch section n (ends.Done answer) p q u a l z.late y.served refl x.rests.tells.tells.stands.is z.holds.settles.tells.tells.stands.is z.grows x.said;
            };
          }

      stopped_with : IsServed p q h.book book h.arch section n ends.Stopped → Ends u a l (AtCount (counted (after_end i book ends.Stopped h)) q u a)
      stopped_with y =
          let z = log_of ends.Stopped y tt (regime h.arch) (as_before n ends.Stopped (regime h.arch)) in record {
            late = z.late;
            grows = z.grows;
            holds = record {
              limit_is = x.limit_is;
              settles = settles_alike (own_of (counted (after_end i book ends.Stopped h)) None) book (regime h.arch) (regime (after h.arch i Answer.Nothing)) q u a z.late (alike h.arch i Answer.Nothing (subst (λ m. m ≢ Need.Flush FlushOf.All) is (no_all n y.fits)))
                  (subst (λ (o : Own). Settles nobody o q book (regime h.arch) u a z.late) (halted_own h word i book running) z.holds.counted.settles);
              due_is = ap (λ (b : Bool). b && (h.count + 1 == u.limit)) z.holds.counted.counts;
              free = free;
              said = z.holds.said;
            };
          }

      there : a < u.layout.harts
      there = let t = x.rests.tells.tells.stands in subst (λ m. m < u.layout.harts) (sym t.actor) (subst (λ (y : Layout). p.own.actor < y.harts) (sym t.layout) can.beside.hart)

      given : (late : Log) → HasSaidLast a late → MayGiveUp nobody (own_of h (Some (record { word = word; instr = Some i }))) q book (regime h.arch) u a late → Ends u a late (AtEnd (record h { book = book }) q u a)
      given late said y =
          let z = give_ups_stand nobody (own_of h (Some (record { word = word; instr = Some i }))) q book (regime h.arch) u a late refl there y in record {
            late = did (GiveUp a y.walks) ∷ late;
            grows = does (GiveUp a y.walks) stays z.0;
            holds = record {
              limit_is = x.limit_is;
              held = None;
              settles = record { tells = z.1.tells; settled = z.1.settled };
              not_due = uncounted u a late (GiveUp a y.walks) h.count refl refl;
              said = λ last. inr (said last);
              call = call_none h.call h.sent h.arch q a (did (GiveUp a y.walks) ∷ late) free;
            };
          }

    pub done_works : (answer : Answer) → IsServed p q h.book book h.arch section n (ends.Done answer) → ExecutesOn (ends.Done answer) i h (after_end i book (ends.Done answer) h) p q
    done_works answer y word u a l x = done_with word u a l x answer y (is_all n)

    pub stop_works : IsServed p q h.book book h.arch section n ends.Stopped → ExecutesOn ends.Stopped i h (after_end i book ends.Stopped h) p q
    stop_works y word u a l x = stopped_with word u a l x y

    gives_up : (end : NeedEnd) → HasServed p q h.book book h.arch section n end → runs_on end ≡ true → (word : ℕ) (u : Setup) (a : ℕ) (l : Log) (x : AtExecute h (record { word = word; instr = Some i }) p u a l) → (y : Ends u a l (MayGiveUp nobody (own_of h (Some (record { word = word; instr = Some i }))) q book (regime h.arch) u a)) → Ends u a l (AtEnd (record h { book = book }) q u a)
    gives_up end done runs word u a l x y = ends_then u a l y.late (AtEnd (record h { book = book }) q u a) y.grows
        (given word u a l x y.late (said_served h.book book h.arch section n end p q u a l y.late done runs x.rests.tells.tells.stands.is y.holds.tells.tells.stands.is y.grows x.said) y.holds)

    pub lost_works : (w seen found : ℕ) → IsServed p q h.book book h.arch section n (ends.Lost w seen found) → ExecutesOn (ends.Lost w seen found) i h (record h { book = book }) p q
    lost_works w seen found y word u a l x = gives_up (ends.Lost w seen found) y.served refl word u a l x (log_of word u a l x (ends.Lost w seen found) y tt (regime h.arch) (as_before n (ends.Lost w seen found) (regime h.arch)))

    pub section_works : IsServed p q h.book book h.arch section n ends.NeedsSection → ExecutesOn ends.NeedsSection i h (record h { book = book }) p q
    section_works y word u a l x = gives_up ends.NeedsSection y.served refl word u a l x (log_of word u a l x ends.NeedsSection y tt (regime h.arch) (as_before n ends.NeedsSection (regime h.arch)))

    pub busy_works : (busy : Busy) → IsServed p q h.book book h.arch section n (ends.Busy busy) → ExecutesOn (ends.Busy busy) i h (record h { book = book }) p q
    busy_works busy y word u a l x = gives_up (ends.Busy busy) y.served refl word u a l x (log_of word u a l x (ends.Busy busy) y tt (regime h.arch) (as_before n (ends.Busy busy) (regime h.arch)))

  -- a fence makes no step yet
  pub fence_works : (harts : ℕ) (span : Span) → IsServed p q h.book book h.arch section n (ends.Fence harts span) → ExecutesOn (ends.Fence harts span) i h (record h { book = book }) p q
  fence_works harts span y word = let e = fences_wait p q h.book book h.arch section n harts span y.served in
      subst (λ (z : Shown). Part (AtExecute h (record { word = word; instr = Some i }) p) (AtExecute (record h { book = book }) (record { word = word; instr = Some i }) z)) (sym e.0)
      (subst (λ (b : Book). Part (AtExecute h (record { word = word; instr = Some i }) p) (AtExecute (record h { book = b }) (record { word = word; instr = Some i }) p)) (sym e.1)
      (part_nowhere (AtExecute h (record { word = word; instr = Some i }) p)))

-- a word that is no instruction
unknown_own : (h : Hart) (word : ℕ) → own_executed (only (Answer.Fault 2 word)) (own_of h (Some (record { word = word; instr = None }))) ≡ own_of (counted (after_unknown word h)) None
unfolding own_executed
unknown_own h word = refl

module _ (h : Hart) (p : Shown) (word : ℕ) (can : GoesWith h p) (free : h.call ≡ Call.Nothing) where
  pub with_unknown : GoesWith (after_unknown word h) p
  with_unknown = with_arch h (trapped h.arch 2 word) p free (trap_alike h.arch 2 word) can

  pub unknown_works : MayTouch (layout_of p) p.own.actor p.own.steps → (is_made h.claim ≡ true → IsInSection (layout_of p) p.own.actor p.own.steps) → may_draw p.own.steps ≡ true → h.runs ≡ true
      → Part (AtExecute h (record { word = word; instr = None }) p) (AfterNeed (ends.Done (Answer.Fault 2 word)) (record { word = word; instr = None }) (after_unknown word h) p)
  unknown_works touch alone draws running u a l x =
      let serves : CanServe p h.book (is_made h.claim) = record {
        access = record { beside = can.beside; touch = touch };
        runner = record { acting = can.beside.acting; hart = can.beside.hart; runs = can.runs ∙ running; free = can.free };
        told = alone;
        draws = draws;
      } in
      let z = needs_served p p h.book h.book h.arch (is_made h.claim) (Need.Trap 2 word) (ends.Done (Answer.Fault 2 word)) tt tt serves (refl, (refl, refl)) tt (regime h.arch) refl nobody (own_of h (Some (record { word = word; instr = None })))
      (record { arch_is = refl; holds = refl; need_is = refl }) u a l (record { rests = x.rests; not_due = x.not_due; runs = running }) in record {
        late = z.late;
        grows = z.grows;
        holds = record {
          limit_is = x.limit_is;
          settles = settles_alike (own_of (counted (after_unknown word h)) None) h.book (regime h.arch) (regime (trapped h.arch 2 word)) p u a z.late (trap_alike h.arch 2 word)
              (subst (λ (o : Own). Settles nobody o p h.book (regime h.arch) u a z.late) (unknown_own h word) z.holds.settles);
          due_is = ap (λ (b : Bool). b && (h.count + 1 == u.limit)) z.holds.counts;
          free = free;
          said = said_added u a l z.late [] p.own.steps tt x.rests.tells.tells.stands.is z.holds.settles.tells.tells.stands.is z.grows x.said;
        };
      }

-- other decoded words change nothing else
module _ (h : Hart) (decoded : Entries) (p : Shown) where
  pub with_words : GoesWith h p → GoesWith (with_decoded decoded h) p
  with_words can = record {
    beside = can.beside;
    fills = can.fills;
    number = can.number;
    runs = can.runs;
    free = can.free;
    paid = can.paid;
    stands = record { phase_is = can.stands.phase_is; claim_is = can.stands.claim_is; quantum = can.stands.quantum };
    sent = can.sent;
    served = can.served;
    below = can.below;
    call = can.call;
    stopped = can.stopped;
  }

  words_work : (code : Code) → Part (AtExecute h code p) (AtExecute (with_decoded decoded h) code p)
  words_work code u a l x = record { late = l; grows = stays; holds = record { limit_is = x.limit_is; rests = x.rests; not_due = x.not_due; said = x.said } }

  pub words_then : (code : Code) (Q : Setup → ℕ → Log → Type 0) → Part (AtExecute (with_decoded decoded h) code p) Q → Part (AtExecute h code p) Q
  words_then code Q part = part_then (AtExecute h code p) (AtExecute (with_decoded decoded h) code p) Q (words_work code) part

kept_words : (i : Instr) (b : Book) (end : NeedEnd) (z : Hart) → (after_end i b end z).decoded ≡ z.decoded
kept_words i b (ends.Done answer) z = refl
kept_words i b ends.Stopped z = refl
kept_words i b (ends.Fence harts span) z = refl
kept_words i b (ends.Lost word seen found) z = refl
kept_words i b ends.NeedsSection z = refl
kept_words i b (ends.Busy busy) z = refl

-- of this word, which decodes so
executed_at : (h k : Hart) (decoded : Entries) (p q : Shown) (word : ℕ) (i : Instr) (end : NeedEnd) → Decodes word (Some i) → k ≡ after_end i k.book end (with_decoded decoded h) → IsServed p q h.book k.book h.arch (is_made h.claim) (need_of h.arch i) end
    → ExecutesOn end i (with_decoded decoded h) k p q → HasExecuted word end h k p q
executed_at h k decoded p q word i end decodes left by works = record {
  instr = Some i;
  decodes = decodes;
  done = served i (left ∙ ap (λ (d : Entries). after_end i k.book end (with_decoded d h)) (sym (ap (λ (z : Hart). z.decoded) left ∙ kept_words i k.book end (with_decoded decoded h)))) by;
  part = words_then h decoded p (record { word = word; instr = Some i }) (AfterNeed end (record { word = word; instr = Some i }) k q) (works word);
}

pub executed_known : (h h' k : Hart) (p q : Shown) (word : ℕ) (i : Instr) (end : NeedEnd) → h' ≡ with_decoded h'.decoded h → Decodes word (Some i) → k ≡ after_end i k.book end h' → IsServed p q h'.book k.book h'.arch (is_made h'.claim) (need_of h'.arch i) end
    → ExecutesOn end i h' k p q → HasExecuted word end h k p q
executed_known h h' k p q word i end is decodes left by works =
    executed_at h k h'.decoded p q word i end decodes (subst (λ (z : Hart). k ≡ after_end i k.book end z) is left) (subst (λ (z : Hart). IsServed p q z.book k.book z.arch (is_made z.claim) (need_of z.arch i) end) is by) (subst (λ (z : Hart). ExecutesOn end i z k p q) is works)

-- and of one that is no instruction
pub refused : (h h' : Hart) (p : Shown) (word : ℕ) → h' ≡ with_decoded h'.decoded h → Decodes word None → GoesWith h p → h.call ≡ Call.Nothing → MayTouch (layout_of p) p.own.actor p.own.steps
    → (is_made h.claim ≡ true → IsInSection (layout_of p) p.own.actor p.own.steps) → may_draw p.own.steps ≡ true → h.runs ≡ true → HasExecuted word (ends.Done (Answer.Fault 2 word)) h (after_unknown word h') p p
refused h h' p word is decodes can free touch alone draws running =
    let k = with_decoded h'.decoded h in
    subst (λ (z : Hart). HasExecuted word (ends.Done (Answer.Fault 2 word)) h (after_unknown word z) p p) (sym is) (record {
      instr = None;
      decodes = decodes;
      done = trapped_on refl refl;
      part = words_then h h'.decoded p (record { word = word; instr = None }) (AfterNeed (ends.Done (Answer.Fault 2 word)) (record { word = word; instr = None }) (after_unknown word k) p) (unknown_works k p word (with_words h h'.decoded p can) free touch alone draws running);
    })
