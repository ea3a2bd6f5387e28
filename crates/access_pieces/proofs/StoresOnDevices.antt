-- Stores on devices are served.
use Rattle.std.proofs.Common.{◌≡◌, ℕ, ◌+◌, ◌<◌, ◌≤◌, ◌^◌, Bool, true, false, List, [], ◌∷◌, Option, Some, None, Ok, refl, sym, ap, subst, ◌∙◌, arith, inl, le-leb}
use Rattle.std.specs.Prelude.{◌-◌, nat_lt, take, if◌then◌else◌}
use Rattle.rv64_priv.specs.State.{Arch}
use Rattle.rv64_priv.specs.Csr.{regime}
use Rattle.rv64_priv.specs.Trap.{access_fault}
use Rattle.rv64_priv.specs.declared.state.Kind.{Kind}
use Rattle.rv64_exec.specs.declared.needs.Need.{Need}
use Rattle.rv64_exec.specs.declared.needs.Answer.{Answer}
use Rattle.step_laws.specs.declared.steps.Step.{Step}
use Rattle.step_laws.specs.declared.steps.WordOp.{WordOp}
use Rattle.step_laws.specs.declared.steps.WordOp.TheVariants.{Add, Store, Exchange}
use Rattle.step_laws.specs.Map.{Word, Cons, Console, Stop, name_of}
use Rattle.step_laws.specs.Words.{console_places}
use Rattle.machine_model.specs.declared.reason.Reason.{Reason}
use Rattle.machine_model.specs.declared.device.DeviceStore.{DeviceStore}
use Rattle.machine_model.specs.Access.{OnDevice}
use Rattle.machine_model.specs.Device.{device_stored}
use Rattle.machine_model.specs.Event.{Exec, Outcome, only}
use Rattle.machine_model.specs.Lawful.{flushing}
use Rattle.machine_model.specs.Own.{Own, own_executed, own_next}
use Rattle.machine_model.specs.Perform.{Surroundings, device_store_outcome, perform, print_outcome}
use Rattle.machine_model.specs.ReasonWords.{reason_word}
use Rattle.machine_model.specs.State.{Setup}
use Rattle.machine_model.specs.Walks.{access_of}
use Rattle.guest_ram.specs.Plays.{step_of}
use Rattle.guest_ram.specs.Ports.{Shown, Made}
use Rattle.guest_ram.proofs.Moves.{goes_made}
use Rattle.tlb_entry.specs.declared.books.Book.{Book}
use Rattle.kept_fills.specs.Fills.{Fill, GoesWithFills}
use Rattle.kept_fills.proofs.Staying.{fills_stay}
use Rattle.tlb_fill.proofs.Marking.{same_goes}
use Rattle.turn_pieces.specs.Doing.{IsCutShort, first_drawn}
use Rattle.turn_pieces.specs.Draws.{may_draw}
use Rattle.turn_pieces.specs.Folds.{drawn_next, stored_next, unstored_next}
use Rattle.turn_pieces.specs.Log.{made, did, Log, steps_of}
use Rattle.turn_pieces.specs.Kept.{bytes, places}
use Rattle.turn_pieces.specs.KeptWalks.{flushes_in}
use Rattle.turn_pieces.specs.Owed.{PaysFor, books, draws, gives, nothing, owed, owes_byte, unstored, unstored_did}
use Rattle.turn_pieces.specs.Right.{AreFenced, AreSeen, IsExec, IsFit, MayBe, SeenFor}
use Rattle.turn_pieces.specs.Grows.{makes, does, Ends, IsClear}
use Rattle.turn_pieces.specs.Writers as writers
use Rattle.turn_pieces.proofs.Accesses.{step_stands}
use Rattle.turn_pieces.proofs.Offers.{draw_owes, free}
use Rattle.turn_pieces.proofs.Unmarked.{is_other, unmarked_step}
use Rattle.turn_pieces.proofs.Writers.{clear_did, owed_named, part_did, tells_did}
use Rattle.guest_access.specs.declared.reaching.Place.TheVariants as at
use Rattle.guest_access.specs.Reaching.{CanAccess}
use Rattle.guest_access.specs.Storing.{gives_stored}
use Rattle.guest_access.proofs.Areas.{devices_off}
use Rattle.guest_devices.specs.Output.{HasPut, HasFoundFull, HasPrinted, HasSetStop, full, put}
use Rattle.guest_devices.specs.Stores.{HasStoredOn, IsOfDevices, ends, ignores, outside, puts_byte}
use Rattle.access_pieces.specs.Serving.{AwaitsAtMost, Counted, Served, Tells, Wants, view}
use Rattle.access_pieces.proofs.Awaited.{awaits_step, exec_pages, exec_paid}
use Rattle.access_pieces.proofs.Arrived.{Arrived}
use Rattle.access_pieces.proofs.Counting.{counted_did}
use Rattle.access_pieces.proofs.Loads.{hart_there}
use Rattle.access_pieces.proofs.StoresInRam.{no_store_flush, seen_more, store_answered, store_as}

-- whatever pages may wait for a store before
module _ (others : ℕ → Bool) where
  abbrev gave : Reason → Outcome
  gave reason = record (only Answer.Nothing) { reason = Some reason }

  abbrev printed : ℕ → Outcome
  printed byte = record (only Answer.Nothing) { bytes = byte ∷ [] }

  gave_own : (o : Own) (reason : Reason) → own_executed (gave reason) o ≡ own_executed (only Answer.Nothing) o
  unfolding own_executed
  gave_own o reason = refl

  printed_own : (o : Own) (byte : ℕ) → own_executed (printed byte) o ≡ own_executed (only Answer.Nothing) o
  unfolding own_executed
  printed_own o byte = refl

  not_below : (n : ℕ) → console_places ≤ n → nat_lt n console_places ≡ false
  not_below n le = grind (arith, le)

  module _ (o : Own) (p m : Shown) (b b' : Book) (c : Arch) (va width pa value : ℕ) (u : Setup) (a : ℕ) (l : Log) (can : CanAccess b p) (wants : Wants o c (Need.Store va width value)) (t : Tells o p b (regime c) u a l)
      (ar : Arrived others o m b' c Kind.Store va width (Ok (at.Device pa)) u a l) where
    abbrev need : Need
    need = Need.Store va width value

    -- the execution at such a log
    fits_at : (out : Outcome) (r : List Step) → ((w : Surroundings) → MayBe u a (writers.quietly r ar.late) w → out ≡ device_store_outcome w.room va (device_stored pa width value)) → IsExec u a (writers.quietly r ar.late) (ar.shows tt).walk (ar.shows tt).second out o
    fits_at out r is =
        let sh = ar.shows tt in
        let k = writers.quietly r ar.late in record {
          holds = wants.holds;
          shown = subst (λ (n : Need). SeenFor u.layout.pages a o.arch (access_of n) sh.walk sh.second k) (sym wants.need_is)
              (subst (λ (y : Arch). AreSeen u.layout.pages a y (record { kind = Kind.Store; va = va; width = width }) sh.walk sh.second k) (sym wants.arch_is) (seen_more others u.layout.pages a c va width sh.walk sh.second r ar.late sh.seen));
          flushed = λ w z. subst (AreFenced a k) (sym ((λ i. flushing w a (wants.arch_is i) (wants.need_is i)) ∙ no_store_flush others w a c va width value)) tt;
          right = λ w z. is w z ∙ store_as others w a c va width value sh.walk sh.second (OnDevice pa) sh.reach_is ∙ sym (λ i. perform w a (wants.arch_is i) sh.walk sh.second (wants.need_is i));
        }

    fills_on : (x y : Shown) (w : Word) (op : WordOp) (arg answer : ℕ) (items : List _) (fills : List Fill) (made_it : Made x y w op arg answer) → IsOfDevices w → GoesWithFills x b' (regime c) items fills → GoesWithFills y b' (regime c) (Rattle.walk_laws.specs.KeptWalks.made (step_of x.own.actor made_it.word op arg answer) ∷ items) fills
    fills_on x y w op arg answer items fills made_it on g = fills_stay x y b' (regime c) items fills (step_of x.own.actor made_it.word op arg answer ∷ []) (ap (λ (z : Shown). z.own.steps) made_it.step)
        (same_goes 1 IsOfDevices x y devices_off (goes_made IsOfDevices x y w op arg answer made_it on)) g

    -- STOP is exchanged
    cut_none : (ds bs : List ℕ) → ds ≡ [] → bs ≡ [] → IsCutShort ds bs
    cut_none ds bs d e = subst (λ x. IsCutShort x bs) (sym d) (subst (IsCutShort []) (sym e) (record { none = λ _. refl; some = λ i k. cc }))

    stop_served : (reason stands : Reason) (q : Shown) → device_stored pa width value ≡ Some (DeviceStore.Ends reason) → HasSetStop reason stands m q → Ends u a l (Counted others (own_executed (only Answer.Nothing) o) q b' (regime c) u a)
    stop_served reason stands q is x =
        let sh = ar.shows tt in
        let v = x.exchanges in
        let s = step_of m.own.actor v.word (Exchange 0) (reason_word reason) x.found in
        let k = made s ∷ ar.late in
        let st = step_stands o (view m) (view q) u a ar.late s (ap view v.step) ar.tells.tells.stands in
        let e = Exec a sh.walk sh.second (gave reason) in
        let drawn : places k ≡ [] = ap (λ w. drawn_next w (Exchange 0) x.found (places ar.late)) v.name ∙ ar.tells.tells.none_drawn in
        let none : bytes k ≡ [] = ap (λ ds. stored_next (name_of v.word) (Exchange 0) (reason_word reason) ds (bytes ar.late)) ar.tells.tells.none_drawn in
        let left : unstored k ≡ None = ap (λ w. unstored_next w (Exchange 0) x.found [] (unstored ar.late)) v.name ∙ ar.tells.tells.none_left in
        let due : owed k ≡ gives (reason_word reason) = owed_named ar.late s Stop (Exchange 0) v.name refl in
        let fit = fits_at (gave reason) (s ∷ []) (λ w z. ap (device_store_outcome w.room va) (sym is)) in
        subst (λ (y : Own). Ends u a l (Counted others y q b' (regime c) u a)) (gave_own o reason) (record {
          late = did e ∷ k;
          grows = does e (makes s ar.grows (free u a ar.late ar.tells.tells.clear s Stop (Exchange 0) v.name refl refl tt tt)) (record {
            own = refl;
            fit = subst (IsFit u a k e) (sym st.part_is) (hart_there others o p b c u a l can t, fit);
            pays = subst (λ d. PaysFor a (books k) d e) (sym due) (record {
              reason = reason;
              is = refl;
              pays = record { does = record { entry_is = refl; bytes_are = sym none; reason_is = refl; starts_is = refl; stops_is = refl }; begins_not = refl };
              fills_it = λ _. cut_none (places k) (bytes k) drawn none;
            });
          });
          holds = record {
            settles = record {
              tells = record { tells = tells_did o (view q) u a k e st refl refl ((λ i. unstored_did (due i) [] (left i))); fills = ar.tells.fills; goes = fills_on m q Stop (Exchange 0) (reason_word reason) x.found (flushes_in a ar.late) ar.tells.fills v tt ar.tells.goes };
              settled = exec_paid others o c need sh.walk sh.second (gave reason) u a k wants st.part_is (awaits_step others (exec_pages need sh.walk sh.second) u a ar.late s (ap is_other v.name) (ar.awaits tt));
            };
            counts = counted_did a k e refl refl;
          };
        })

    -- a byte finds no place
    beyond_owes : (s : Step) (place : ℕ) → name_of s.word ≡ Cons → s.op ≡ Add → s.answer ≡ place → console_places ≤ place → owed (made s ∷ ar.late) ≡ nothing
    beyond_owes s place n e is le = owed_named ar.late s Cons Add n e ∙ ap (λ (y : Bool). if y then draws s.answer else nothing) (not_below s.answer (subst (λ n. console_places ≤ n) (sym is) le))

    cut_one : (place : ℕ) (ds bs : List ℕ) → console_places ≤ place → ds ≡ place ∷ [] → bs ≡ [] → IsCutShort ds bs
    cut_one place ds bs le d e = subst (λ x. IsCutShort x bs) (sym d) (subst (IsCutShort (place ∷ [])) (sym e) (record { none = λ _. refl; some = λ i k. by i (ap (or_else i) k) }))
      where
        or_else : ℕ → Option ℕ → ℕ
        or_else z None = z
        or_else z (Some n) = n

        by : (i : ℕ) → place ≡ i → (0 ≡ console_places - i) × (console_places < i + 1)
        by i k = (omega (arith, le, k), omega (arith, le, k))

    full_served : (byte place : ℕ) (stands : Reason) (mid q : Shown) → may_draw (steps_of ar.late) ≡ true → device_stored pa width value ≡ Some (DeviceStore.PutsByte byte) → HasFoundFull place m mid → HasSetStop Reason.OutFull stands mid q
        → Ends u a l (Counted others (own_executed (only Answer.Nothing) o) q b' (regime c) u a)
    full_served byte place stands mid q may is x y =
        let sh = ar.shows tt in
        let v = x.draws in
        let z = y.exchanges in
        let s = step_of m.own.actor v.word Add 1 place in
        let d = step_of mid.own.actor z.word (Exchange 0) 4 y.found in
        let k1 = made s ∷ ar.late in
        let k = made d ∷ k1 in
        let st1 = step_stands o (view m) (view mid) u a ar.late s (ap view v.step) ar.tells.tells.stands in
        let st = step_stands o (view mid) (view q) u a k1 d (ap view z.step) st1 in
        let e = Exec a sh.walk sh.second (gave Reason.OutFull) in
        let nothing_owed : owed k1 ≡ nothing = beyond_owes s place v.name refl refl x.beyond in
        let clear : IsClear (owed k1) = subst IsClear (sym nothing_owed) tt in
        let one : places k1 ≡ place ∷ [] = ap (λ w. drawn_next w Add place (places ar.late)) v.name ∙ ap (λ ds. place ∷ ds) ar.tells.tells.none_drawn in
        let drawn : places k ≡ place ∷ [] = ap (λ w. drawn_next w (Exchange 0) y.found (places k1)) z.name ∙ one in
        let none1 : bytes k1 ≡ [] = ap (λ ds. stored_next (name_of v.word) Add 1 ds (bytes ar.late)) ar.tells.tells.none_drawn in
        let none : bytes k ≡ [] = ap (λ ds. stored_next (name_of z.word) (Exchange 0) 4 ds (bytes k1)) one ∙ ap (λ w. stored_next w (Exchange 0) 4 (place ∷ []) (bytes k1)) z.name ∙ none1 in
        let left : unstored k ≡ None = ap (λ w. unstored_next w (Exchange 0) y.found [] (unstored k1)) z.name ∙ ap (λ w. unstored_next w Add place [] (unstored ar.late)) v.name ∙ ar.tells.tells.none_left in
        let due : owed k ≡ gives 4 = owed_named k1 d Stop (Exchange 0) z.name refl in
        let fit = fits_at (gave Reason.OutFull) (d ∷ s ∷ []) (λ w may.
        let room : w.room ≡ console_places - place = may.room place (ap first_drawn drawn) in
        let zero_room : w.room ≡ 0 = let le = x.beyond in omega (arith, room, le) in
        sym (ap (device_store_outcome w.room va) is ∙ ap (λ n. print_outcome n (byte ∷ []) Answer.Nothing) zero_room)) in
        let pages = exec_pages need sh.walk sh.second in
        let settled : AwaitsAtMost others u a (did e ∷ k) = exec_paid others o c need sh.walk sh.second (gave Reason.OutFull) u a k wants st.part_is
        (awaits_step others pages u a k1 d (ap is_other z.name) (awaits_step others pages u a ar.late s (ap is_other v.name) (ar.awaits tt))) in
        subst (λ (g : Own). Ends u a l (Counted others g q b' (regime c) u a)) (gave_own o Reason.OutFull) (record {
          late = did e ∷ k;
          grows = does e (makes d (makes s ar.grows (free u a ar.late ar.tells.tells.clear s Cons Add v.name refl refl tt may)) (free u a k1 clear d Stop (Exchange 0) z.name refl refl tt tt)) (record {
            own = refl;
            fit = subst (IsFit u a k e) (sym st.part_is) (hart_there others o p b c u a l can t, fit);
            pays = subst (λ g. PaysFor a (books k) g e) (sym due) (record {
              reason = Reason.OutFull;
              is = refl;
              pays = record { does = record { entry_is = refl; bytes_are = sym none; reason_is = refl; starts_is = refl; stops_is = refl }; begins_not = refl };
              fills_it = λ _. cut_one place (places k) (bytes k) x.beyond drawn none;
            });
          });
          holds = record {
            settles = record {
              settled = settled;
              tells = record {
                tells = tells_did o (view q) u a k e st refl refl ((λ i. unstored_did (due i) [] (left i)));
                fills = ar.tells.fills;
                goes = fills_on mid q Stop (Exchange 0) 4 y.found (flushes_in a k1) ar.tells.fills z tt (fills_on m mid Cons Add 1 place (flushes_in a ar.late) ar.tells.fills v tt ar.tells.goes);
              };
            };
            counts = counted_did a k e refl refl;
          };
        })

    -- a byte is printed at its draw, and stored
    put_served : (byte : ℕ) (q : Shown) → may_draw (steps_of ar.late) ≡ true → device_stored pa width value ≡ Some (DeviceStore.PutsByte byte) → HasPut byte m q → Ends u a l (Counted others (own_executed (only Answer.Nothing) o) q b' (regime c) u a)
    put_served byte q may is x =
        let sh = ar.shows tt in
        let v = x.draws in
        let z = x.stores in
        let s = step_of m.own.actor v.word Add 1 x.place in
        let d = step_of x.mid.own.actor z.word Store (byte + 2 ^ 8) 0 in
        let k1 = made s ∷ ar.late in
        let e = Exec a sh.walk sh.second (printed byte) in
        let k2 = did e ∷ k1 in
        let st1 = step_stands o (view m) (view x.mid) u a ar.late s (ap view v.step) ar.tells.tells.stands in
        let st2 : writers.Stands (own_executed (printed byte) o) (view x.mid) u a k2 = record { layout = st1.layout; actor = st1.actor; is = st1.is; part_is = part_did u a k1 e refl ∙ ap (own_next e) st1.part_is } in
        let due : owed k1 ≡ draws x.place = draw_owes u a ar.late s v.name refl x.less in
        let one : places k1 ≡ x.place ∷ [] = ap (λ w. drawn_next w Add x.place (places ar.late)) v.name ∙ ap (λ ds. x.place ∷ ds) ar.tells.tells.none_drawn in
        let left : unstored k1 ≡ None = ap (λ w. unstored_next w Add x.place [] (unstored ar.late)) v.name ∙ ar.tells.tells.none_left in
        let some : unstored k2 ≡ Some (record { place = x.place; byte = byte }) = ap (λ g. unstored_did g (byte ∷ []) (unstored k1)) due in
        let fit = fits_at (printed byte) (s ∷ []) (λ w may.
        let room : w.room ≡ console_places - x.place = may.room x.place (ap first_drawn one) in
        let some_room : 1 ≤ w.room = let less = x.less in omega (arith, room, less) in
        sym (ap (device_store_outcome w.room va) is ∙ ap (λ (g : Bool). if g then printed byte else record (only Answer.Nothing) { bytes = take w.room (byte ∷ []); reason = Some Reason.OutFull }) (le-leb 1 w.room some_room))) in
        let clear : owed (made d ∷ k2) ≡ nothing = owed_named k2 d (Console x.place) Store z.name refl ∙ ap owes_byte some in
        let settled : AwaitsAtMost others u a k2 = exec_paid others o c need sh.walk sh.second (printed byte) u a k1 wants st1.part_is
        (awaits_step others (exec_pages need sh.walk sh.second) u a ar.late s (ap is_other v.name) (ar.awaits tt)) in
        subst (λ (g : Own). Ends u a l (Counted others g q b' (regime c) u a)) (printed_own o byte) (record {
          late = made d ∷ k2;
          grows = makes d (does e (makes s ar.grows (free u a ar.late ar.tells.tells.clear s Cons Add v.name refl refl tt may)) (record {
            own = refl;
            fit = subst (IsFit u a k1 e) (sym st1.part_is) (hart_there others o p b c u a l can t, fit);
            pays = subst (λ g. PaysFor a (books k1) g e) (sym due) (record {
              byte = byte;
              pays = record { does = record { entry_is = refl; bytes_are = refl; reason_is = refl; starts_is = refl; stops_is = refl }; begins_not = refl };
              alone = one;
              none = left;
            });
          }))
              (free u a k2 (clear_did (owed k1)) d (Console x.place) Store z.name refl (inl (byte, some, refl, refl)) tt tt);
          holds = record {
            settles = record {
              settled = λ page free. unmarked_step u a page k2 d (ap is_other z.name) ∙ settled page free;
              tells = record {
                tells = record {
                  stands = step_stands (own_executed (printed byte) o) (view x.mid) (view q) u a k2 d (ap view z.step) st2;
                  clear = subst IsClear (sym clear) tt;
                  none_drawn = ap (λ w. drawn_next w Store 0 (places k2)) z.name;
                  none_left = ap (λ w. unstored_next w Store 0 [] (unstored k2)) z.name;
                };
                fills = ar.tells.fills;
                goes = fills_on x.mid q (Console x.place) Store (byte + 2 ^ 8) 0 (flushes_in a k1) ar.tells.fills z tt (fills_on m x.mid Cons Add 1 x.place (flushes_in a ar.late) ar.tells.fills v tt ar.tells.goes);
              };
            };
            counts = counted_did a k1 e refl refl;
          };
        })

    printed_served : (byte : ℕ) (q : Shown) → may_draw (steps_of ar.late) ≡ true → device_stored pa width value ≡ Some (DeviceStore.PutsByte byte) → HasPrinted byte m q → Ends u a l (Counted others (own_executed (only Answer.Nothing) o) q b' (regime c) u a)
    printed_served byte q may is (put x) = put_served byte q may is x
    printed_served byte q may is (full {mid} place stands x y) = full_served byte place stands mid q may is x y

    pub device_stored_on : (result : Option (Unit {0})) (q : Shown) → may_draw (steps_of ar.late) ≡ true → HasStoredOn pa width value result m q → Ends u a l (Served others o (gives_stored va result) q b' (regime c) u a)
    device_stored_on result q may (puts_byte byte is x) = printed_served byte q may is x
    device_stored_on result q may (ends reason stands is x) = stop_served reason stands q is x
    device_stored_on result q may (ignores is same) = subst (λ (y : Shown). Ends u a l (Counted others (own_executed (only Answer.Nothing) o) y b' (regime c) u a)) (sym same)
        (store_answered others o p m b b' c va width value (Ok (at.Device pa)) Answer.Nothing u a l can wants t ar tt (λ memory room. ap (device_store_outcome room va) (sym is)))
    device_stored_on result q may (outside is same) = subst (λ (y : Shown). Ends u a l (Counted others (own_executed (only (Answer.Fault (access_fault Kind.Store) va)) o) y b' (regime c) u a)) (sym same)
        (store_answered others o p m b b' c va width value (Ok (at.Device pa)) (Answer.Fault (access_fault Kind.Store) va) u a l can wants t ar tt (λ memory room. ap (device_store_outcome room va) (sym is)))
