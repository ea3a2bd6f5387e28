-- A turn of the monitor in its log.
use Rattle.std.proofs.Common.{◌≡◌, ◌≤◌, ◌+◌, ◌≢◌, ◌^◌, ℕ, zero, suc, Bool, true, false, List, [], ◌∷◌, ◌++◌, None, refl, sym, ap, subst, ◌∙◌, drop, length}
use Rattle.std.specs.Prelude.{◌-◌, ◌/◌}
use Rattle.std.specs.List.{AllByRecursion}
use Rattle.std.proofs.lemmas.Bool.{leb-true}
use Rattle.step_laws.specs.declared.steps.Step.{Step}
use Rattle.step_laws.specs.declared.steps.WordOp.TheVariants.{Exchange, Load, Store}
use Rattle.step_laws.specs.Harts.{is_owing, is_owing_next}
use Rattle.step_laws.specs.Map.{Cons, Done, Pend, Ram, Run, Stop as StopWord, monitor, name_of}
use Rattle.step_laws.specs.Marks.{last_place, stage, stage_next}
use Rattle.step_laws.specs.Sections.{IsInSection}
use Rattle.step_laws.specs.Words.{ram_word}
use Rattle.step_laws.specs.declared.words.Layout.{Layout}
use Rattle.step_laws.proofs.Numbered.{named_ram}
use Rattle.machine_model.specs.declared.reason.Reason.{Reason}
use Rattle.machine_model.specs.Event.{Await as AwaitEvent, Dump as DumpEvent, Stop as Ended, did_of}
use Rattle.machine_model.specs.Memory.{Memory}
use Rattle.machine_model.specs.ReasonWords.{reason_word}
use Rattle.machine_model.specs.Sbi.{bytes_from}
use Rattle.machine_model.specs.Script as script
use Rattle.machine_model.specs.State.{DumpBytes, Setup}
use Rattle.guest_ram.specs.Plays.{step_of}
use Rattle.guest_ram.specs.Ports.{GoesBy, Shown, layout_of}
use Rattle.guest_ram.proofs.Moves.{goes_none, goes_step, goes_then}
use Rattle.guest_ram.specs.declared.port.Seen.{Seen}
use Rattle.guest_devices.specs.Output.{HasSetStop}
use Rattle.hart_calls.specs.Printing.{HasLoadedIf, begins_word}
use Rattle.signal_pieces.specs.Signalling.{IsOfSides}
use Rattle.call_pieces.proofs.Ending.{cut_none}
use Rattle.turn_pieces.specs.Draws.{Filled, beyond, ended, filled, filled_next, said, within}
use Rattle.turn_pieces.specs.Folds.{IsUncount, drawn_next, stored_next, unstored_next, was_last, was_last_next}
use Rattle.turn_pieces.specs.Grows.{Grows, LooksAtStop, does, looks_of, look_next, makes}
use Rattle.turn_pieces.specs.Kept.{bytes, places}
use Rattle.turn_pieces.specs.Log.{AtLast, Log, did, events_of, made, steps_of}
use Rattle.turn_pieces.specs.Owed.{PaysFor, books, gives, owed, pays as paid_by, unstored, unstored_did}
use Rattle.turn_pieces.specs.Right.{IsCount}
use Rattle.turn_pieces.specs.Shared.{IsShared}
use Rattle.turn_pieces.specs.Snapshots.{is_begun}
use Rattle.turn_pieces.specs.Writers.{TurnsTo}
use Rattle.turn_pieces.proofs.Offers.{free}
use Rattle.turn_pieces.proofs.Unmarked.{is_other, unmarked_step}
use Rattle.turn_pieces.proofs.Writers.{owed_named}
use Rattle.monitor_script.specs.Scripts.{is_possible}
use Rattle.monitor_script.specs.declared.scripts.Command.{Command}
use Rattle.monitor_script.specs.declared.scripts.Command.TheVariants.{Await, Dump, Stop}
use Rattle.monitor.specs.Logs.{Between, GoesOn}
use Rattle.monitor.specs.Monitors.{IsThere, Monitor, lines_of, past, results_of}
use Rattle.monitor.specs.Steps.{GoesWith, HasAwaited, HasCounted, HasDone, HasDumped, HasGivenBack, HasRead, HasToAwait, HasToWait, HasWaited, IsRam, with_bytes}
use Rattle.monitor.specs.Steps as steps
use Rattle.monitor.specs.Turning.{HasGoneOn, HasTurned}
use Rattle.monitor.specs.Turning as turning
use Rattle.monitor.specs.declared.turning.MonTurn.{MonTurn}
use Rattle.monitor.specs.declared.turning.MonTurn.TheVariants as ends
use Rattle.monitor.proofs.Areas.{read_stands}
use Rattle.monitor.proofs.Events.{event_closed, lines_behind, none_begun_behind, plain_closed, results_with}
use Rattle.monitor.proofs.Going.{dump_possible, first_possible}
use Rattle.monitor.proofs.Within.{Known, Within, looked, on_read, on_section, on_step}
use Rattle.monitor.proofs.Words.{bytes_alike, many_bytes}

-- as a turn's log ends, whatever is owed
record Over (m : Monitor) (p : Shown) (u : Setup) (a : ℕ) (base l : Log) : Type 0 where
  pub grows : Grows u a base l
  pub looks : looks_of l ≡ looks_of base
  pub holds : Between m p u a l

-- of a monitor with the same script left and the same results
over_as : (m k : Monitor) (p : Shown) (u : Setup) (a : ℕ) (base l : Log) → k.script ≡ m.script → results_of k ≡ results_of m → Within m p u a base l → Over k p u a base l
over_as m k p u a base l script_is results_are w = let b = w.holds in record {
  grows = w.grows;
  looks = w.looks;
  holds = record {
    layout = b.layout;
    actor = b.actor;
    is = b.is;
    closed = b.closed;
    none_begun = b.none_begun;
    script = b.script ∙ ap lines_of (sym script_is);
    results = b.results ∙ sym results_are;
  };
}

over_is : (m k : Monitor) (p : Shown) (u : Setup) (a : ℕ) (base l : Log) → k ≡ m → Within m p u a base l → Over k p u a base l
over_is m k p u a base l e w = over_as m k p u a base l (ap (λ (z : Monitor). z.script) e) (ap results_of e) w

said_not : (f : Filled) → f ≢ beyond → said f ≢ beyond
said_not within ne = λ e. cc
said_not beyond ne = absurd (ne refl)
said_not ended ne = λ e. cc

module _ (m : Monitor) (p : Shown) (u : Setup) (a : ℕ) (base l : Log) (w : Within m p u a base l) (is : a ≡ monitor) where
  await_stands : (count : ℕ) (more : List Command) → m.script ≡ Await count ∷ more → count ≤ 1048576 → AtLast (IsCount count) l → Within (past m) p u a base (did (AwaitEvent count) ∷ l)
  await_stands count more next few loaded = let b = w.holds in let e = AwaitEvent count in record {
    grows = does e w.grows (record {
      own = sym is;
      fit = (is, record { line = (lines_of more, b.script ∙ ap lines_of next); loaded = loaded; room = few; none_open = b.closed.none_drawn });
      pays = subst (λ o. PaysFor a (books l) o e) (sym w.idle) (record { does = record { entry_is = refl; bytes_are = refl; reason_is = refl; starts_is = refl; stops_is = refl }; begins_not = refl });
    });
    looks = w.looks;
    idle = ap paid_by w.idle;
    holds = record {
      layout = b.layout;
      actor = b.actor;
      is = b.is;
      closed = plain_closed u a e l is refl refl refl w.idle b.closed b.none_begun;
      none_begun = none_begun_behind e (events_of l) refl refl;
      script = ap (λ x. drop 1 x) b.script ∙ lines_behind m.script;
      results = b.results;
    };
  }

  dump_stands : (at len : ℕ) (finds : Memory) (more : List Command) → m.script ≡ Dump at len ∷ more → AllByRecursion (IsThere (length m.bytes)) m.outcomes → IsInSection u.layout a (steps_of l) → Known finds at len l
      → Within (past (with_bytes at len (bytes_from finds at len) m)) p u a base (did (DumpEvent at (bytes_from finds at len)) ∷ l)
  dump_stands at len finds more next kept inside known = let b = w.holds in let bs = bytes_from finds at len in let e = DumpEvent at bs in let many = many_bytes finds at len in record {
    grows = does e w.grows (record {
      own = sym is;
      fit = (
        is,
        (lines_of more, b.script ∙ ap lines_of next ∙ ap (λ n. DumpBytes at n ∷ lines_of more) (sym many)),
        λ s may. bytes_alike finds s.memory at len (λ i less. sym (may.section inside (ram_word (at + i)) (finds (ram_word (at + i))) (subst IsShared (sym (named_ram ((at + i - 2 ^ 31) / 8))) tt) (known i less))) ∙ ap (bytes_from s.memory at) (sym many),
      );
      pays = subst (λ o. PaysFor a (books l) o e) (sym w.idle) (record { does = record { entry_is = refl; bytes_are = refl; reason_is = refl; starts_is = refl; stops_is = refl }; begins_not = refl });
    });
    looks = w.looks;
    idle = ap paid_by w.idle;
    holds = record {
      layout = b.layout;
      actor = b.actor;
      is = b.is;
      closed = plain_closed u a e l is refl refl refl w.idle b.closed b.none_begun;
      none_begun = none_begun_behind e (events_of l) refl refl;
      script = ap (λ x. drop 1 x) b.script ∙ lines_behind m.script;
      results = ap (λ rs. rs ++ script.Bytes at bs ∷ []) b.results ∙ results_with m.bytes bs m.outcomes at len many kept;
    };
  }

  stop_stands : (stands : Reason) (q : Shown) (more : List Command) → HasSetStop Reason.Stopped stands p q → m.script ≡ Stop ∷ more → (late : Log) × Over m q u a base late
  stop_stands stands q more set next =
      let b = w.holds in
      let x = set.exchanges in
      let s = step_of p.own.actor x.word (Exchange 0) 6 set.found in
      let k = made s ∷ l in
      let e = Ended a Reason.Stopped in
      let owes : owed k ≡ gives 6 = owed_named l s StopWord (Exchange 0) x.name refl in
      let drawn : places k ≡ [] = ap (λ v. drawn_next v (Exchange 0) set.found (places l)) x.name ∙ b.closed.none_drawn in
      let none : bytes k ≡ [] = ap (λ ds. stored_next (name_of x.word) (Exchange 0) 6 ds (bytes l)) b.closed.none_drawn in
      let left : unstored k ≡ None = ap (λ v. unstored_next v (Exchange 0) set.found [] (unstored l)) x.name ∙ b.closed.none_left in (
        did e ∷ k,
        record {
          grows = does e (makes s w.grows (free u a l b.closed.clear s StopWord (Exchange 0) x.name refl refl tt tt)) (record {
            own = refl;
            fit = (is, (lines_of more, b.script ∙ ap lines_of next));
            pays = subst (λ o. PaysFor a (books k) o e) (sym owes) (record {
              reason = Reason.Stopped;
              is = refl;
              pays = record { does = record { entry_is = refl; bytes_are = sym none; reason_is = refl; starts_is = refl; stops_is = refl }; begins_not = refl };
              fills_it = λ _. cut_none (places k) (bytes k) drawn none;
            });
          });
          looks = ap (λ v. look_next v (Exchange 0) (looks_of l)) x.name ∙ w.looks;
          holds = record {
            layout = b.layout ∙ ap layout_of (sym x.step);
            actor = b.actor ∙ ap (λ (y : Shown). y.own.actor) (sym x.step);
            is = ap (λ r. s ∷ r) b.is ∙ ap (λ (y : Shown). y.own.steps) (sym x.step);
            closed = event_closed u a e k refl is refl refl drawn (ap (λ o. unstored_did o (did_of e).bytes (unstored k)) owes ∙ left)
                (λ last. (λ t. subst (λ v. IsUncount v (Exchange 0) 6) x.name t, b.closed.last (sym (ap (λ v. was_last_next a v (Exchange 0) 6 set.found (was_last a (steps_of l))) x.name) ∙ last)))
                (ap (λ v. is_owing_next a v (Exchange 0) 6 set.found (is_owing a (steps_of l))) x.name ∙ b.closed.left)
                (λ f. said_not (filled (steps_of l)) b.closed.full (sym (ap (λ v. filled_next v (Exchange 0) 6 set.found (filled (steps_of l))) x.name) ∙ f))
                (λ page. unmarked_step u a page l s (ap is_other x.name) ∙ b.closed.marks page)
                (ap (λ v. is_begun (stage_next u.layout (λ t. last_place t (steps_of l)) v (Exchange 0) 6 set.found (stage u.layout (steps_of l)))) x.name ∙ b.closed.snapshot is ∙ b.none_begun);
            none_begun = none_begun_behind e (events_of k) is refl;
            script = b.script;
            results = b.results;
          };
        },
      )

-- the loads of a dump are of RAM alone
read_goes : (finds : Memory) (from n : ℕ) (p q : Shown) → HasRead finds from n p q → (k : ℕ) × GoesBy k IsRam p q
read_goes finds from zero p q x = (0, subst (λ (z : Shown). GoesBy 0 IsRam p z) (sym x) (goes_none IsRam p))
read_goes finds from (suc n) p q x = let before = read_goes finds from n p x.0 x.1 in by (begins_word from n) x.2 before.0 before.1
  where
    by : (b : Bool) → HasLoadedIf b finds (from + n) x.0 q → (k : ℕ) → GoesBy k IsRam p x.0 → (j : ℕ) × GoesBy j IsRam p q
    by true y k goes = (k + 1, goes_then k 1 IsRam p x.0 q goes (goes_step IsRam x.0 q (ram_word (from + n)) 0 (finds (ram_word (from + n))) Load (Ram y.index) y.step y.may y.name tt))
    by false y k goes = (k, subst (λ (z : Shown). GoesBy k IsRam p z) (sym y) goes)

module _ (m : Monitor) (u : Setup) (a : ℕ) (base : Log) (is : a ≡ monitor) where
  -- it is inside, and has counted what was drawn
  abbrev Counted : (found : ℕ) (p q : Shown) (x : HasCounted found p q) → Log → Log
  Counted found p q x l = made (step_of x.entered.own.actor x.loads.word Load 0 found) ∷ made (step_of x.enters.raised.own.actor x.enters.asks.word Load 0 0) ∷ made (step_of p.own.actor x.enters.raises.word Store 1 0) ∷ l

  on_counted : (found : ℕ) (p q : Shown) (x : HasCounted found p q) (l : Log) → Within m p u a base l → Within m x.counted u a base (Counted found p q x l)
  on_counted found p q x l w =
      let w1 = on_step m u a base p x.enters.raised (Run p.own.actor) Store 1 0 x.enters.raises l tt w in
      let w2 = on_step m u a base x.enters.raised x.entered Pend Load 0 0 x.enters.asks _ tt w1 in
      on_step m u a base x.entered x.counted Cons Load 0 found x.loads _ tt w2

  awaited : (count : ℕ) (more : List Command) (k : Monitor) (p q : Shown) (l : Log) → m.script ≡ Await count ∷ more → count ≤ 1048576 → HasAwaited count m k p q → Within m p u a base l → (late : Log) × Over k q u a base late
  awaited count more k p q l next few x w =
      let c = x.counts in
      let w3 = on_counted x.found p q c l w in
      let w4 = await_stands m c.counted u a base _ w3 is count more next few (c.loads.name, refl, x.enough) in
      (_, over_is (past m) k q u a base _ x.goes_past (on_step (past m) u a base c.counted q (Run c.counted.own.actor) Store 0 0 c.leaves _ tt w4))

  dumped : (at len : ℕ) (more : List Command) (k : Monitor) (p q : Shown) (l : Log) → m.script ≡ Dump at len ∷ more → 2 ^ 31 ≤ at → AllByRecursion (IsThere (length m.bytes)) m.outcomes → HasDumped at len m k p q → Within m p u a base l → (late : Log) × Over k q u a base late
  dumped at len more k p q l next above kept x w =
      let w1 = on_section m u a base 18 p x.alone l x.sides w in
      let y = on_read m u a base x.finds at above len x.alone x.read w1.0 x.reads w1.1 in
      let b = y.1.holds in
      let goes = read_goes x.finds at len x.alone x.read x.reads in
      let stands = read_stands goes.0 x.alone x.read goes.1 in
      let inside : IsInSection (layout_of x.read) x.read.own.actor x.read.own.steps = (stands.claim ∙ x.section.0, stands.pass ∙ x.section.1) in
      let there : IsInSection u.layout a (steps_of y.0)
      = subst (λ r. IsInSection u.layout a r) (sym b.is) (subst (λ n. IsInSection u.layout n x.read.own.steps) (sym b.actor) (subst (λ (z : Layout). IsInSection z x.read.own.actor x.read.own.steps) (sym b.layout) inside)) in
      let w2 = dump_stands m x.read u a base y.0 y.1 is at len x.finds more next kept there y.2 in
      let n = past (with_bytes at len (bytes_from x.finds at len) m) in
      (_, over_as n k q u a base _ (ap (λ (z : Monitor). z.script) x.keeps) (ap results_of x.keeps) (on_step n u a base x.read q Pend Store 0 0 x.gives _ tt w2))

  to_await : (seen : Seen) (count : ℕ) (k : Monitor) (p q : Shown) (l : Log) → k ≡ m → HasToAwait seen count p q → Within m p u a base l → (late : Log) × Over k q u a base late
  to_await seen count k p q l same (steps.too_few c at less) w = (_, over_is m k q u a base _ same (on_step m u a base c.counted q (Run c.counted.own.actor) Store 0 0 c.leaves _ tt (on_counted seen.value p q c l w)))
  to_await seen count k p q l same (steps.turned_back x) w =
      let w1 = on_step m u a base p x.raised (Run p.own.actor) Store 1 0 x.raises l tt w in
      let w2 = on_step m u a base x.raised x.asked Pend Load 0 seen.value x.asks _ tt w1 in
      (_, over_is m k q u a base _ same (on_step m u a base x.asked q (Run p.own.actor) Store 0 0 x.lowers _ tt w2))

  to_wait : (seen : Seen) (k : Monitor) (p q : Shown) (l : Log) → GoesBy 18 IsOfSides p q → HasToWait seen m k p q → Within m p u a base l → (late : Log) × Over k q u a base late
  to_wait seen k p q l sides x w = let y = on_section m u a base 18 p q l sides w in (y.0, over_as m k q u a base y.0 (script_is x) (results_are x) y.1)
    where
      script_is : HasToWait seen m k p q → k.script ≡ m.script
      script_is (steps.other_claims none same found) = ap (λ (z : Monitor). z.script) same
      script_is (steps.other_stays some same found) = ap (λ (z : Monitor). z.script) same
      script_is (steps.claimed_first mid none same claims found) = ap (λ (z : Monitor). z.script) same

      results_are : HasToWait seen m k p q → results_of k ≡ results_of m
      results_are (steps.other_claims none same found) = ap results_of same
      results_are (steps.other_stays some same found) = ap results_of same
      results_are (steps.claimed_first mid none same claims found) = ap results_of same

  given_back : (p q : Shown) (l : Log) → HasGivenBack m p q → Within m p u a base l → (late : Log) × Within m q u a base late
  given_back p q l (steps.had_none none same) w = (l, subst (λ (z : Shown). Within m z u a base l) (sym same) w)
  given_back p q l (steps.gave_back some x) w = (_, on_step m u a base p q Pend Store 0 0 x l tt w)

  -- its command was done, or waits
  done : (command : Command) (more : List Command) (k : Monitor) (p q r : Shown) (l : Log) → GoesWith m r → m.script ≡ command ∷ more → HasDone command m k p q → Within m p u a base l → (late : Log) × Over k q u a base late
  done (Await count) more k p q r l can next x w = awaited count more k p q l next (leb-true count 1048576 (first_possible (is_possible (layout_of r).pages) m.script more (Await count) next can.possible)) x w
  done (Dump at len) more k p q r l can next x w = dumped at len more k p q l next (dump_possible (layout_of r).pages at len m.script more next can.possible).above can.kept x w
  done Stop more k p q r l can next x w =
      let y = stop_stands m p u a base l w is x.1.0 q more x.1.1 next in
      (y.0, subst (λ (z : Monitor). Over z q u a base y.0) (sym x.0) y.1)

  waited : (seen : Seen) (command : Command) (more : List Command) (k : Monitor) (p q : Shown) (l : Log) → HasWaited seen command m k p q → Within m p u a base l → (late : Log) × Over k q u a base late
  waited seen (Await count) more k p q l x w = to_await seen count k p q l x.0 x.1 w
  waited seen (Dump at len) more k p q l x w = to_wait seen k p q l x.0 x.1 w
  waited seen Stop more k p q l x w = absurd x

  went : (end : MonTurn) (k : Monitor) (p q r : Shown) (l : Log) → GoesWith m r → HasGoneOn end m k p q → Within m p u a base l → (late : Log) × Over k q u a base late
  went ends.Did k p q r l can x w = done x.0 x.1 k p q r l can x.2 x.3 w
  went (ends.Waiting seen) k p q r l can x w = waited seen x.0 x.1 k p q l x.3 w
  went ends.Finished k p q r l can x w = (_, over_as m k q u a base _ (ap (λ (z : Monitor). z.script) x.rests) (ap results_of x.rests) (on_step m u a base p q (Done p.own.actor) Store 1 0 x.signs l tt w))
  went (ends.Ended reason) k p q r l can x w = absurd x

-- a whole turn
turn_of : (k : Monitor) (q : Shown) (u : Setup) (a : ℕ) (l : Log) (look : Step) → LooksAtStop look → looks_of (made look ∷ l) ≡ suc (looks_of l) → (late : Log) × Over k q u a (made look ∷ l) late → TurnsTo u a l (Between k q u a)
turn_of k q u a l look looks once x = record { late = x.0; turn = record { look = look; looks = looks; grows = x.1.grows; once = x.1.looks ∙ once; closed = x.1.holds.closed }; holds = x.1.holds }

pub goes_on : (end : MonTurn) (m k : Monitor) (p q : Shown) → GoesWith m p → HasTurned end m k p q → GoesOn m k p q
goes_on end m k p q can (turning.rested rests is same still) works u a l b = absurd (let e : true ≡ false = sym rests ∙ works in cc)
goes_on end m k p q can (turning.went_on mid works' finds x) works u a l b =
    let y = looked m p mid 0 finds u a l b in
    turn_of k q u a l y.look y.looks y.once (went m u a (made y.look ∷ l) (b.actor ∙ can.number) end k mid q p (made y.look ∷ l) can x y.within)
goes_on end m k p q can (turning.ended reason works' is x) works u a l b =
    let y = looked m p x.looked (reason_word reason) x.finds u a l b in
    let base = made y.look ∷ l in
    let z = given_back m u a base (b.actor ∙ can.number) x.looked x.given base x.gives y.within in
    turn_of k q u a l y.look y.looks y.once (_, over_as m k q u a base _ (ap (λ (n : Monitor). n.script) x.still) (ap results_of x.still) (on_step m u a base x.given q (Done x.given.own.actor) Store 1 0 x.signs z.0 tt z.1))
