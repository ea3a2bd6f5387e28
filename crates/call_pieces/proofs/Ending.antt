-- Calls that end the machine, and bytes that are printed.
use Rattle.std.proofs.Common.{◌≡◌, ℕ, ◌+◌, ◌<◌, ◌≤◌, ◌^◌, Bool, true, false, List, [], ◌∷◌, Option, Some, None, refl, sym, ap, subst, ◌∙◌, arith, inl}
use Rattle.std.specs.Prelude.{◌-◌, nat_lt, if◌then◌else◌}
use Rattle.rv64_priv.specs.declared.state.Regime.{Regime}
use Rattle.rv64_priv.specs.Walk.{PageFault}
use Rattle.rv64_exec.specs.declared.needs.Answer.{Answer}
use Rattle.step_laws.specs.declared.steps.WordOp.TheVariants.{Store, Add, Exchange}
use Rattle.step_laws.specs.Map.{Cons, Console, Stop, name_of}
use Rattle.step_laws.specs.Words.{console_places}
use Rattle.machine_model.specs.declared.reason.Reason.{Reason}
use Rattle.machine_model.specs.Event.{Exec, only}
use Rattle.machine_model.specs.Own.{Own, own_executed, own_next}
use Rattle.machine_model.specs.Perform.{Surroundings}
use Rattle.machine_model.specs.ReasonWords.{reason_word}
use Rattle.machine_model.specs.State.{Setup}
use Rattle.guest_ram.specs.Plays.{step_of}
use Rattle.guest_ram.specs.Ports.{Shown}
use Rattle.guest_ram.proofs.Moves.{goes_made}
use Rattle.tlb_entry.specs.declared.books.Book.{Book}
use Rattle.kept_fills.proofs.Staying.{fills_stay}
use Rattle.tlb_fill.proofs.Marking.{same_goes}
use Rattle.turn_pieces.specs.Doing.{IsCutShort, first_drawn}
use Rattle.turn_pieces.specs.Draws.{may_draw}
use Rattle.turn_pieces.specs.Folds.{drawn_next, stored_next, unstored_next}
use Rattle.turn_pieces.specs.Log.{made, did, Log, steps_of}
use Rattle.turn_pieces.specs.Kept.{bytes, places}
use Rattle.turn_pieces.specs.KeptWalks.{flushes_in}
use Rattle.turn_pieces.specs.Owed.{PaysFor, books, draws, gives, nothing, owed, owes_byte, unstored, unstored_did}
use Rattle.turn_pieces.specs.Right.{IsExec, IsFit, MayBe}
use Rattle.turn_pieces.specs.Grows.{IsClear, does, makes}
use Rattle.turn_pieces.specs.Writers as writers
use Rattle.turn_pieces.proofs.Accesses.{step_stands}
use Rattle.turn_pieces.proofs.Offers.{draw_owes, free}
use Rattle.turn_pieces.proofs.Writers.{clear_did, owed_named, part_did, tells_did}
use Rattle.access_pieces.specs.Serving.{view}
use Rattle.guest_devices.specs.Output.{HasFoundFull, HasPut, HasSetStop}
use Rattle.hart_calls.specs.Called.{IsOfHartCalls}
use Rattle.call_pieces.proofs.Placing.{Behind, calls_off, placed}

pub cut_none : (ds bs : List ℕ) → ds ≡ [] → bs ≡ [] → IsCutShort ds bs
cut_none ds bs d e = subst (λ x. IsCutShort x bs) (sym d) (subst (IsCutShort []) (sym e) (record { none = λ _. refl; some = λ i k. cc }))

cut_one : (place : ℕ) (ds bs : List ℕ) → console_places ≤ place → ds ≡ place ∷ [] → bs ≡ [] → IsCutShort ds bs
cut_one place ds bs le d e = subst (λ x. IsCutShort x bs) (sym d) (subst (IsCutShort (place ∷ [])) (sym e) (record { none = λ _. refl; some = λ i k. by i (ap (or_else i) k) }))
  where
    or_else : ℕ → Option ℕ → ℕ
    or_else z None = z
    or_else z (Some n) = n

    by : (i : ℕ) → place ≡ i → (0 ≡ console_places - i) × (console_places < i + 1)
    by i k = (omega (arith, le, k), omega (arith, le, k))

not_below : (n : ℕ) → console_places ≤ n → nat_lt n console_places ≡ false
not_below n le = grind (arith, le)

module _ (o : Own) (b : Book) (r : Regime) (u : Setup) (a : ℕ) where
  -- STOP is exchanged, with nothing drawn
  pub stop_placed : (answer : Answer) (reason stands : Reason) (x y : Shown) (m : HasSetStop reason stands x y) (l k : Log) → Behind o b r u a x l k → a < u.layout.harts
      → IsExec u a (made (step_of x.own.actor m.exchanges.word (Exchange 0) (reason_word reason) m.found) ∷ k) PageFault PageFault (record (only answer) { reason = Some reason }) o
      → Behind (own_executed (record (only answer) { reason = Some reason }) o) b r u a y l (did (Exec a PageFault PageFault (record (only answer) { reason = Some reason })) ∷ made (step_of x.own.actor m.exchanges.word (Exchange 0) (reason_word reason) m.found) ∷ k)
  stop_placed answer reason stands x y m l k t hart fit =
      let v = m.exchanges in
      let s = step_of x.own.actor v.word (Exchange 0) (reason_word reason) m.found in
      let none : bytes (made s ∷ k) ≡ [] = ap (λ ds. stored_next (name_of v.word) (Exchange 0) (reason_word reason) ds (bytes k)) t.tells.tells.none_drawn in
      let drawn : places (made s ∷ k) ≡ [] = ap (λ w. drawn_next w (Exchange 0) m.found (places k)) v.name ∙ t.tells.tells.none_drawn in
      let left : unstored (made s ∷ k) ≡ None = ap (λ w. unstored_next w (Exchange 0) m.found [] (unstored k)) v.name ∙ t.tells.tells.none_left in
      placed o b r (record (only answer) { reason = Some reason }) u a x y Stop (Exchange 0) (reason_word reason) m.found v (gives (reason_word reason)) l k tt t hart
      (free u a k t.tells.tells.clear s Stop (Exchange 0) v.name refl refl tt tt) (owed_named k s Stop (Exchange 0) v.name refl) drawn left (λ bs. refl) fit
      (record { reason = reason; is = refl; pays = record { does = record { entry_is = refl; bytes_are = sym none; reason_is = refl; starts_is = refl; stops_is = refl }; begins_not = refl }; fills_it = λ _. cut_none (places (made s ∷ k)) (bytes (made s ∷ k)) drawn none })

  -- a byte is drawn a place, at which the execution stands, and is stored there
  pub byte_placed : (answer : Answer) (byte : ℕ) (x y : Shown) (m : HasPut byte x y) (l k : Log) → Behind o b r u a x l k → a < u.layout.harts → may_draw (steps_of k) ≡ true
      → IsExec u a (made (step_of x.own.actor m.draws.word Add 1 m.place) ∷ k) PageFault PageFault (record (only answer) { bytes = byte ∷ [] }) o
      → Behind (own_executed (record (only answer) { bytes = byte ∷ [] }) o) b r u a y l
      (made (step_of m.mid.own.actor m.stores.word Store (byte + 2 ^ 8) 0) ∷ did (Exec a PageFault PageFault (record (only answer) { bytes = byte ∷ [] })) ∷ made (step_of x.own.actor m.draws.word Add 1 m.place) ∷ k)
  byte_placed answer byte x y m l k t hart may fit =
      let out = record (only answer) { bytes = byte ∷ [] } in
      let v = m.draws in
      let z = m.stores in
      let s = step_of x.own.actor v.word Add 1 m.place in
      let d = step_of m.mid.own.actor z.word Store (byte + 2 ^ 8) 0 in
      let k1 = made s ∷ k in
      let e = Exec a PageFault PageFault out in
      let k2 = did e ∷ k1 in
      let st1 = step_stands o (view x) (view m.mid) u a k s (ap view v.step) t.tells.tells.stands in
      let st2 : writers.Stands (own_executed out o) (view m.mid) u a k2 = record { layout = st1.layout; actor = st1.actor; is = st1.is; part_is = part_did u a k1 e refl ∙ ap (own_next e) st1.part_is } in
      let due : owed k1 ≡ draws m.place = draw_owes u a k s v.name refl m.less in
      let one : places k1 ≡ m.place ∷ [] = ap (λ w. drawn_next w Add m.place (places k)) v.name ∙ ap (λ ds. m.place ∷ ds) t.tells.tells.none_drawn in
      let left : unstored k1 ≡ None = ap (λ w. unstored_next w Add m.place [] (unstored k)) v.name ∙ t.tells.tells.none_left in
      let some : unstored k2 ≡ Some (record { place = m.place; byte = byte }) = ap (λ g. unstored_did g (byte ∷ []) (unstored k1)) due in
      let clear : owed (made d ∷ k2) ≡ nothing = owed_named k2 d (Console m.place) Store z.name refl ∙ ap owes_byte some in record {
        grows = makes d (does e (makes s t.grows (free u a k t.tells.tells.clear s Cons Add v.name refl refl tt may)) (record {
          own = refl;
          fit = subst (IsFit u a k1 e) (sym st1.part_is) (hart, fit);
          pays = subst (λ g. PaysFor a (books k1) g e) (sym due) (record {
            byte = byte;
            pays = record { does = record { entry_is = refl; bytes_are = refl; reason_is = refl; starts_is = refl; stops_is = refl }; begins_not = refl };
            alone = one;
            none = left;
          });
        })) (free u a k2 (clear_did (owed k1)) d (Console m.place) Store z.name refl (inl (byte, some, refl, refl)) tt tt);
        tells = record {
          tells = record {
            stands = step_stands (own_executed out o) (view m.mid) (view y) u a k2 d (ap view z.step) st2;
            clear = subst IsClear (sym clear) tt;
            none_drawn = ap (λ w. drawn_next w Store 0 (places k2)) z.name;
            none_left = ap (λ w. unstored_next w Store 0 [] (unstored k2)) z.name;
          };
          fills = t.tells.fills;
          goes = fills_stay m.mid y b r (flushes_in a k1) t.tells.fills (d ∷ []) (ap (λ (g : Shown). g.own.steps) z.step) (same_goes 1 IsOfHartCalls m.mid y calls_off (goes_made IsOfHartCalls m.mid y (Console m.place) Store (byte + 2 ^ 8) 0 z tt))
              (fills_stay x m.mid b r (flushes_in a k) t.tells.fills (s ∷ []) (ap (λ (g : Shown). g.own.steps) v.step) (same_goes 1 IsOfHartCalls x m.mid calls_off (goes_made IsOfHartCalls x m.mid Cons Add 1 m.place v tt)) t.tells.goes);
        };
      }

  -- a byte finds no place, and STOP is exchanged
  pub full_placed : (place : ℕ) (stands : Reason) (x mid y : Shown) (m : HasFoundFull place x mid) (n : HasSetStop Reason.OutFull stands mid y) (l k : Log) → Behind o b r u a x l k → a < u.layout.harts → may_draw (steps_of k) ≡ true
      → IsExec u a (made (step_of mid.own.actor n.exchanges.word (Exchange 0) 4 n.found) ∷ made (step_of x.own.actor m.draws.word Add 1 place) ∷ k) PageFault PageFault (record (only Answer.Nothing) { reason = Some Reason.OutFull }) o
      → Behind (own_executed (record (only Answer.Nothing) { reason = Some Reason.OutFull }) o) b r u a y l
      (did (Exec a PageFault PageFault (record (only Answer.Nothing) { reason = Some Reason.OutFull })) ∷ made (step_of mid.own.actor n.exchanges.word (Exchange 0) 4 n.found) ∷ made (step_of x.own.actor m.draws.word Add 1 place) ∷ k)
  full_placed place stands x mid y m n l k t hart may fit =
      let out = record (only Answer.Nothing) { reason = Some Reason.OutFull } in
      let v = m.draws in
      let z = n.exchanges in
      let s = step_of x.own.actor v.word Add 1 place in
      let d = step_of mid.own.actor z.word (Exchange 0) 4 n.found in
      let k1 = made s ∷ k in
      let k2 = made d ∷ k1 in
      let e = Exec a PageFault PageFault out in
      let st1 = step_stands o (view x) (view mid) u a k s (ap view v.step) t.tells.tells.stands in
      let st = step_stands o (view mid) (view y) u a k1 d (ap view z.step) st1 in
      let nothing_owed : owed k1 ≡ nothing = owed_named k s Cons Add v.name refl ∙ ap (λ (g : Bool). if g then draws place else nothing) (not_below place m.beyond) in
      let clear : IsClear (owed k1) = subst IsClear (sym nothing_owed) tt in
      let one : places k1 ≡ place ∷ [] = ap (λ w. drawn_next w Add place (places k)) v.name ∙ ap (λ ds. place ∷ ds) t.tells.tells.none_drawn in
      let drawn : places k2 ≡ place ∷ [] = ap (λ w. drawn_next w (Exchange 0) n.found (places k1)) z.name ∙ one in
      let none1 : bytes k1 ≡ [] = ap (λ ds. stored_next (name_of v.word) Add 1 ds (bytes k)) t.tells.tells.none_drawn in
      let none : bytes k2 ≡ [] = ap (λ ds. stored_next (name_of z.word) (Exchange 0) 4 ds (bytes k1)) one ∙ ap (λ w. stored_next w (Exchange 0) 4 (place ∷ []) (bytes k1)) z.name ∙ none1 in
      let left : unstored k2 ≡ None = ap (λ w. unstored_next w (Exchange 0) n.found [] (unstored k1)) z.name ∙ ap (λ w. unstored_next w Add place [] (unstored k)) v.name ∙ t.tells.tells.none_left in
      let due : owed k2 ≡ gives 4 = owed_named k1 d Stop (Exchange 0) z.name refl in record {
        grows = does e (makes d (makes s t.grows (free u a k t.tells.tells.clear s Cons Add v.name refl refl tt may)) (free u a k1 clear d Stop (Exchange 0) z.name refl refl tt tt)) (record {
          own = refl;
          fit = subst (IsFit u a k2 e) (sym st.part_is) (hart, fit);
          pays = subst (λ g. PaysFor a (books k2) g e) (sym due) (record {
            reason = Reason.OutFull;
            is = refl;
            pays = record { does = record { entry_is = refl; bytes_are = sym none; reason_is = refl; starts_is = refl; stops_is = refl }; begins_not = refl };
            fills_it = λ _. cut_one place (places k2) (bytes k2) m.beyond drawn none;
          });
        });
        tells = record {
          tells = tells_did o (view y) u a k2 e st refl refl ((λ i. unstored_did (due i) [] (left i)));
          fills = t.tells.fills;
          goes = fills_stay mid y b r (flushes_in a k1) t.tells.fills (d ∷ []) (ap (λ (g : Shown). g.own.steps) z.step) (same_goes 1 IsOfHartCalls mid y calls_off (goes_made IsOfHartCalls mid y Stop (Exchange 0) 4 n.found z tt))
              (fills_stay x mid b r (flushes_in a k) t.tells.fills (s ∷ []) (ap (λ (g : Shown). g.own.steps) v.step) (same_goes 1 IsOfHartCalls x mid calls_off (goes_made IsOfHartCalls x mid Cons Add 1 place v tt)) t.tells.goes);
        };
      }

-- how much room the machine has, by the place that was drawn
pub room_drawn : (u : Setup) (a : ℕ) (l : Log) (i : ℕ) (w : Surroundings) → MayBe u a l w → places l ≡ i ∷ [] → w.room ≡ console_places - i
room_drawn u a l i w may one = may.room i (ap first_drawn one)
