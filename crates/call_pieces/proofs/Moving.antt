-- Calls that send interrupts, and that start and stop harts.
use Rattle.std.proofs.Common.{◌≡◌, ℕ, ◌<◌, Bool, true, [], ◌∷◌, Some, None, refl, sym, ap, subst, ◌∙◌, arith, inl, inr, eq-eqb}
use Rattle.std.specs.Prelude.{bit_or, if◌then◌else◌}
use Rattle.rv64_priv.specs.declared.state.Regime.{Regime}
use Rattle.rv64_priv.specs.Walk.{PageFault}
use Rattle.rv64_exec.specs.declared.needs.Answer.{Answer}
use Rattle.step_laws.specs.declared.steps.WordOp.TheVariants.{Store, Add, Exchange, Or}
use Rattle.step_laws.specs.Discipline.{minus_one}
use Rattle.step_laws.specs.Map.{Ipi, Live, Hsm, Start, Opaque, Stop, name_of, number_of}
use Rattle.step_laws.specs.Words.{ipi_word}
use Rattle.step_laws.proofs.Named.{number_name}
use Rattle.machine_model.specs.declared.reason.Reason.{Reason}
use Rattle.machine_model.specs.Event.{Exec, Stop as Ended, only}
use Rattle.machine_model.specs.Memory.{write_of}
use Rattle.machine_model.specs.Own.{Own, own_executed}
use Rattle.machine_model.specs.Perform.{ipi_becomes}
use Rattle.machine_model.specs.Run.{last_of, leaves, passes}
use Rattle.machine_model.specs.State.{Setup}
use Rattle.guest_ram.specs.Plays.{step_of}
use Rattle.guest_ram.specs.Ports.{Shown, Made}
use Rattle.guest_ram.proofs.Moves.{goes_made}
use Rattle.tlb_entry.specs.declared.books.Book.{Book}
use Rattle.kept_fills.proofs.Staying.{fills_stay}
use Rattle.tlb_fill.proofs.Marking.{same_goes}
use Rattle.turn_pieces.specs.Folds.{drawn_next, stored_next, unstored_next, was_last_next, was_last}
use Rattle.turn_pieces.specs.Log.{made, did, Log, steps_of, events_of}
use Rattle.turn_pieces.specs.Kept.{bytes, places}
use Rattle.turn_pieces.specs.KeptWalks.{flushes_in}
use Rattle.turn_pieces.specs.Owed.{PaysFor, books, gives, left as leaves_own, owed, takes, unstored, unstored_did, writes}
use Rattle.turn_pieces.specs.Right.{IsExec, IsFit}
use Rattle.turn_pieces.specs.Grows.{does, makes}
use Rattle.turn_pieces.proofs.Accesses.{step_stands}
use Rattle.turn_pieces.proofs.Offers.{free}
use Rattle.turn_pieces.proofs.Writers.{owed_named, tells_did}
use Rattle.access_pieces.specs.Serving.{view}
use Rattle.guest_devices.specs.Output.{HasSetStop}
use Rattle.hart_calls.specs.Called.{IsOfHartCalls}
use Rattle.hart_calls.specs.States.{HasStarted}
use Rattle.call_pieces.proofs.Ending.{cut_none}
use Rattle.call_pieces.proofs.Placing.{Behind, calls_off, calm, placed, plainly}

pub ipi_is : (word : ℕ) → name_of word ≡ Ipi → word ≡ ipi_word
ipi_is word e = sym (number_name word) ∙ ap number_of e

module _ (o : Own) (b : Book) (r : Regime) (u : Setup) (a : ℕ) where
  -- bits are set in IPI
  pub sent_placed : (answer : Answer) (mask found : ℕ) (x y : Shown) (m : Made x y Ipi Or mask found) (l k : Log) → Behind o b r u a x l k → a < u.layout.harts
      → IsExec u a (made (step_of x.own.actor m.word Or mask found) ∷ k) PageFault PageFault (record (only answer) { entry = ipi_becomes (bit_or found mask) }) o
      → Behind (own_executed (record (only answer) { entry = ipi_becomes (bit_or found mask) }) o) b r u a y l (did (Exec a PageFault PageFault (record (only answer) { entry = ipi_becomes (bit_or found mask) })) ∷ made (step_of x.own.actor m.word Or mask found) ∷ k)
  sent_placed answer mask found x y m l k t hart fit =
      let s = step_of x.own.actor m.word Or mask found in
      let drawn : places (made s ∷ k) ≡ [] = ap (λ w. drawn_next w Or found (places k)) m.name ∙ t.tells.tells.none_drawn in
      let left : unstored (made s ∷ k) ≡ None = ap (λ w. unstored_next w Or found [] (unstored k)) m.name ∙ t.tells.tells.none_left in
      let same : Some (write_of ipi_word (bit_or found mask) ∷ []) ≡ Some (write_of m.word (bit_or found mask) ∷ []) = ap (λ n. Some (write_of n (bit_or found mask) ∷ [])) (sym (ipi_is m.word m.name)) in
      placed o b r (record (only answer) { entry = ipi_becomes (bit_or found mask) }) u a x y Ipi Or mask found m (writes m.word (bit_or found mask)) l k tt t hart
      (free u a k t.tells.tells.clear s Ipi Or m.name refl tt tt tt) (owed_named k s Ipi Or m.name refl) drawn left (λ bs. refl) fit
      (record { does = record { entry_is = same; bytes_are = refl; reason_is = refl; starts_is = refl; stops_is = refl }; begins_not = refl })

  -- the own hart stops
  pub left_placed : (answer : Answer) (x y : Shown) (m : Made x y (Hsm x.own.actor) Store 1 0) (l k : Log) → x.own.actor ≡ a → Behind o b r u a x l k → a < u.layout.harts
      → IsExec u a (made (step_of x.own.actor m.word Store 1 0) ∷ k) PageFault PageFault (record (only answer) { stops = true }) o
      → Behind (own_executed (record (only answer) { stops = true }) o) b r u a y l (did (Exec a PageFault PageFault (record (only answer) { stops = true })) ∷ made (step_of x.own.actor m.word Store 1 0) ∷ k)
  left_placed answer x y m l k own t hart fit =
      let s = step_of x.own.actor m.word Store 1 0 in
      let drawn : places (made s ∷ k) ≡ [] = ap (λ w. drawn_next w Store 0 (places k)) m.name ∙ t.tells.tells.none_drawn in
      let left : unstored (made s ∷ k) ≡ None = ap (λ w. unstored_next w Store 0 [] (unstored k)) m.name ∙ t.tells.tells.none_left in
      placed o b r (record (only answer) { stops = true }) u a x y (Hsm x.own.actor) Store 1 0 m leaves_own l k tt t hart
      (free u a k t.tells.tells.clear s (Hsm x.own.actor) Store m.name refl (inr (own, omega arith)) tt tt) (owed_named k s (Hsm x.own.actor) Store m.name refl) drawn left (λ bs. refl) fit
      (record { does = record { entry_is = refl; bytes_are = refl; reason_is = refl; starts_is = refl; stops_is = refl }; begins_not = refl })

  -- another hart is taken, and given its start
  pub started_placed : (answer : Answer) (target at opaque : ℕ) (x y : Shown) (m : HasStarted target at opaque x y) (l k : Log) → Behind o b r u a x l k → a < u.layout.harts
      → IsExec u a (made (step_of x.own.actor m.takes.word (Exchange 1) 3 1) ∷ k) PageFault PageFault (record (only answer) { starts = Some (record { target = target; at = at; opaque = opaque }) }) o
      → Behind (own_executed (record (only answer) { starts = Some (record { target = target; at = at; opaque = opaque }) }) o) b r u a y l
      (made (step_of m.counted.own.actor m.lets.word Store 2 0) ∷ made (step_of m.handed.own.actor m.counts.word Add 1 m.live) ∷ made (step_of m.placed.own.actor m.hands.word Store opaque 0) ∷ made (step_of m.taken.own.actor m.places.word Store at 0)
      ∷ did (Exec a PageFault PageFault (record (only answer) { starts = Some (record { target = target; at = at; opaque = opaque }) })) ∷ made (step_of x.own.actor m.takes.word (Exchange 1) 3 1) ∷ k)
  started_placed answer target at opaque x y m l k t hart fit =
      let out = record (only answer) { starts = Some (record { target = target; at = at; opaque = opaque }) } in
      let e = Exec a PageFault PageFault out in
      let s = step_of x.own.actor m.takes.word (Exchange 1) 3 1 in
      let drawn : places (made s ∷ k) ≡ [] = ap (λ w. drawn_next w (Exchange 1) 1 (places k)) m.takes.name ∙ t.tells.tells.none_drawn in
      let left : unstored (made s ∷ k) ≡ None = ap (λ w. unstored_next w (Exchange 1) 1 [] (unstored k)) m.takes.name ∙ t.tells.tells.none_left in
      let t0 = placed o b r out u a x m.taken (Hsm target) (Exchange 1) 3 1 m.takes (takes target) l k tt t hart
      (free u a k t.tells.tells.clear s (Hsm target) (Exchange 1) m.takes.name refl (λ _. (refl, refl)) tt tt) (owed_named k s (Hsm target) (Exchange 1) m.takes.name refl) drawn left (λ bs. refl) fit
      (record { at = at; opaque = opaque; pays = record { does = record { entry_is = refl; bytes_are = refl; reason_is = refl; starts_is = refl; stops_is = refl }; begins_not = refl } }) in
      let k0 = did e ∷ made s ∷ k in
      let s1 = step_of m.taken.own.actor m.places.word Store at 0 in
      let t1 = plainly (own_executed out o) b r u a m.taken m.placed (Start target) Store at 0 m.places l k0 tt t0 (free u a k0 t0.tells.tells.clear s1 (Start target) Store m.places.name refl (opaque, refl) tt tt) (owed_named k0 s1 (Start target) Store m.places.name refl)
      (ap (λ w. drawn_next w Store 0 (places k0)) m.places.name ∙ t0.tells.tells.none_drawn) (ap (λ w. unstored_next w Store 0 [] (unstored k0)) m.places.name ∙ t0.tells.tells.none_left) in
      let k1 = made s1 ∷ k0 in
      let s2 = step_of m.placed.own.actor m.hands.word Store opaque 0 in
      let t2 = plainly (own_executed out o) b r u a m.placed m.handed (Opaque target) Store opaque 0 m.hands l k1 tt t1 (free u a k1 t1.tells.tells.clear s2 (Opaque target) Store m.hands.name refl (at, refl) tt tt) (owed_named k1 s2 (Opaque target) Store m.hands.name refl)
      (ap (λ w. drawn_next w Store 0 (places k1)) m.hands.name ∙ t1.tells.tells.none_drawn) (ap (λ w. unstored_next w Store 0 [] (unstored k1)) m.hands.name ∙ t1.tells.tells.none_left) in
      let k2 = made s2 ∷ k1 in
      let t3 = calm (own_executed out o) b r u a m.handed m.counted Live Add 1 m.live m.counts tt tt (λ n. tt) l k2 t2 in
      let k3 = made (step_of m.handed.own.actor m.counts.word Add 1 m.live) ∷ k2 in
      let s4 = step_of m.counted.own.actor m.lets.word Store 2 0 in
      plainly (own_executed out o) b r u a m.counted y (Hsm target) Store 2 0 m.lets l k3 tt t3 (free u a k3 t3.tells.tells.clear s4 (Hsm target) Store m.lets.name refl (inl refl) tt tt) (owed_named k3 s4 (Hsm target) Store m.lets.name refl)
      (ap (λ w. drawn_next w Store 0 (places k3)) m.lets.name ∙ t3.tells.tells.none_drawn) (ap (λ w. unstored_next w Store 0 [] (unstored k3)) m.lets.name ∙ t3.tells.tells.none_left)

  -- the last one from LIVE was the own hart's: STOP is exchanged, and the event that says so stands there
  pub all_stopped : (answer : Answer) (stands : Reason) (x mid y z : Shown) (m : Made x mid (Hsm x.own.actor) Store 1 0) (c : Made mid y Live Add minus_one 1) (n : HasSetStop Reason.AllStopped stands y z) (l k : Log) → x.own.actor ≡ a → Behind o b r u a x l k → a < u.layout.harts
      → IsExec u a (made (step_of x.own.actor m.word Store 1 0) ∷ k) PageFault PageFault (record (only answer) { stops = true }) o
      → Behind (own_executed (record (only answer) { stops = true }) o) b r u a z l (did (Ended a Reason.AllStopped) ∷ made (step_of y.own.actor n.exchanges.word (Exchange 0) 5 n.found) ∷ made (step_of mid.own.actor c.word Add minus_one 1)
      ∷ did (Exec a PageFault PageFault (record (only answer) { stops = true })) ∷ made (step_of x.own.actor m.word Store 1 0) ∷ k)
  all_stopped answer stands x mid y z m c n l k own t hart fit =
      let out = record (only answer) { stops = true } in
      let o' = own_executed out o in
      let e = Exec a PageFault PageFault out in
      let t0 = left_placed answer x mid m l k own t hart fit in
      let k0 = did e ∷ made (step_of x.own.actor m.word Store 1 0) ∷ k in
      let t1 = calm o' b r u a mid y Live Add minus_one 1 c tt tt (λ g. tt) l k0 t0 in
      let k1 = made (step_of mid.own.actor c.word Add minus_one 1) ∷ k0 in
      let v = n.exchanges in
      let d = step_of y.own.actor v.word (Exchange 0) 5 n.found in
      let k2 = made d ∷ k1 in
      let f = Ended a Reason.AllStopped in
      let st = step_stands o' (view y) (view z) u a k1 d (ap view v.step) t1.tells.tells.stands in
      let drawn : places k2 ≡ [] = ap (λ w. drawn_next w (Exchange 0) n.found (places k1)) v.name ∙ t1.tells.tells.none_drawn in
      let none : bytes k2 ≡ [] = ap (λ ds. stored_next (name_of v.word) (Exchange 0) 5 ds (bytes k1)) t1.tells.tells.none_drawn in
      let clean : unstored k2 ≡ None = ap (λ w. unstored_next w (Exchange 0) n.found [] (unstored k1)) v.name ∙ t1.tells.tells.none_left in
      let due : owed k2 ≡ gives 5 = owed_named k1 d Stop (Exchange 0) v.name refl in
      let last : passes leaves (last_of a (events_of k2)) ≡ true = ap (λ (g : Bool). passes leaves (if g then Some e else last_of a (events_of k))) (eq-eqb a a refl) in
      let taken : was_last a (steps_of k1) ≡ true = ap (λ w. was_last_next a w Add minus_one 1 (was_last a (steps_of k0))) c.name in record {
        grows = does f (makes d t1.grows (free u a k1 t1.tells.tells.clear d Stop (Exchange 0) v.name refl refl tt tt)) (record {
          own = refl;
          fit = subst (IsFit u a k2 f) (sym st.part_is) (last, taken);
          pays = subst (λ g. PaysFor a (books k2) g f) (sym due) (record {
            reason = Reason.AllStopped;
            is = refl;
            pays = record { does = record { entry_is = refl; bytes_are = sym none; reason_is = refl; starts_is = refl; stops_is = refl }; begins_not = refl };
            fills_it = λ _. cut_none (places k2) (bytes k2) drawn none;
          });
        });
        tells = record {
          tells = tells_did o' (view z) u a k2 f st refl refl ((λ i. unstored_did (due i) [] (clean i)));
          fills = t1.tells.fills;
          goes = fills_stay y z b r (flushes_in a k1) t1.tells.fills (d ∷ []) (ap (λ (g : Shown). g.own.steps) v.step) (same_goes 1 IsOfHartCalls y z calls_off (goes_made IsOfHartCalls y z Stop (Exchange 0) 5 n.found v tt)) t1.tells.goes;
        };
      }
