-- A word of RAM is written, and the execution that did it stands there.
use Rattle.std.proofs.Common.{◌≡◌, ℕ, ◌/◌, ◌<◌, ◌^◌, Bool, List, [], ◌∷◌, Some, None, refl, sym, ap, subst, ◌∙◌, inl, inr, eq-eqb}
use prog.Atomic.{either}
use Rattle.std.specs.Prelude.{◌-◌, ◌⊎◌, if◌then◌else◌}
use Rattle.rv64_priv.specs.State.{Arch}
use Rattle.rv64_priv.specs.declared.state.Regime.{Regime}
use Rattle.rv64_priv.specs.Walk.{Walked}
use Rattle.rv64_exec.specs.declared.needs.Need.{Need}
use Rattle.rv64_exec.specs.declared.needs.Answer.{Answer}
use Rattle.step_laws.specs.declared.steps.WordOp.{WordOp}
use Rattle.step_laws.specs.declared.steps.WordOp.TheVariants.{Store, Exchange}
use Rattle.step_laws.specs.Map.{Ram}
use Rattle.step_laws.specs.Steps.{new_of}
use Rattle.step_laws.specs.Words.{ram_word}
use Rattle.machine_model.specs.Event.{Exec, Outcome, did_of, only}
use Rattle.machine_model.specs.Lawful.{flushing}
use Rattle.machine_model.specs.Memory.{write_of}
use Rattle.machine_model.specs.Own.{Own, own_executed}
use Rattle.machine_model.specs.Perform.{Surroundings, perform}
use Rattle.machine_model.specs.State.{Setup}
use Rattle.machine_model.specs.Walks.{access_of}
use Rattle.guest_ram.specs.Ports.{Shown}
use Rattle.guest_ram.specs.Areas.{IsOfRam}
use Rattle.tlb_entry.specs.declared.books.Book.{Book}
use Rattle.kept_fills.proofs.Staying.{fills_stay}
use Rattle.tlb_fill.proofs.Marking.{same_goes}
use Rattle.turn_pieces.specs.Folds.{drawn_next, unstored_next}
use Rattle.turn_pieces.specs.Log.{made, did, Log}
use Rattle.turn_pieces.specs.Kept.{places}
use Rattle.turn_pieces.specs.KeptWalks.{flushes_in}
use Rattle.turn_pieces.specs.Owed.{Owed, nothing, writes, stores, owed, unstored, unstored_did, books, MayMake, PaysFor}
use Rattle.turn_pieces.specs.Right.{AreFenced, IsExec, IsFit, MayBe, SeenFor}
use Rattle.turn_pieces.specs.Grows.{stays, makes, does, Ends, IsClear}
use Rattle.turn_pieces.proofs.Accesses.{step_stands}
use Rattle.turn_pieces.proofs.Offers.{free, store_owes}
use Rattle.turn_pieces.proofs.Writers.{owed_named, places_did, tells_did}
use Rattle.guest_access.specs.Stepping.{HasStepped}
use Rattle.guest_access.proofs.Areas.{ram_off}
use Rattle.guest_access.proofs.Keeping.{goes_stepped}
use Rattle.access_pieces.specs.Serving.{Counted, Tells, Wants, view}
use Rattle.access_pieces.proofs.Counting.{counted_did}
use Rattle.access_pieces.proofs.Awaited.{AwaitsBut, exec_pages, exec_paid}
use Rattle.access_pieces.proofs.Executing.{awaits_stepped, step_at}

-- whatever pages may wait for a store before
module _ (others : ℕ → Bool) where
  -- an outcome that writes one word, and answers this
  abbrev pub wrote : (word value : ℕ) → Answer → Outcome
  wrote word value answer = record (only answer) { entry = Some (write_of word value ∷ []) }

  pub wrote_own : (o : Own) (word value : ℕ) (answer : Answer) → own_executed (wrote word value answer) o ≡ own_executed (only answer) o
  unfolding own_executed
  wrote_own o word value answer = refl

  -- what the step owes is that event
  abbrev pub IsWrite : Owed → (word value : ℕ) → Type 0
  IsWrite d word value = (d ≡ writes word value) ⊎ (d ≡ stores word value)

  pays_write : (u : Setup) (a : ℕ) (l : Log) (d : Owed) (h word value : ℕ) (walk second : Walked) (answer : Answer) → IsWrite d word value → PaysFor a (books l) d (Exec h walk second (wrote word value answer))
  pays_write u a l d h word value walk second answer (inl e) = subst (λ z. PaysFor a (books l) z (Exec h walk second (wrote word value answer))) (sym e)
      (record { does = record { entry_is = refl; bytes_are = refl; reason_is = refl; starts_is = refl; stops_is = refl }; begins_not = refl })
  pays_write u a l d h word value walk second answer (inr e) = subst (λ z. PaysFor a (books l) z (Exec h walk second (wrote word value answer))) (sym e)
      (record { does = record { entry_is = refl; bytes_are = refl; reason_is = refl; starts_is = refl; stops_is = refl }; begins_not = refl })

  none_left : (d : Owed) (word value : ℕ) (bs : List ℕ) → IsWrite d word value → unstored_did d bs None ≡ None
  none_left d word value bs (inl e) = ap (λ z. unstored_did z bs None) e
  none_left d word value bs (inr e) = ap (λ z. unstored_did z bs None) e

  pub write_exec : (o : Own) (m q : Shown) (b : Book) (r : Regime) (c : Arch) (need : Need) (answer : Answer) (walk second : Walked) (op : WordOp) (pa arg old value : ℕ) (u : Setup) (a : ℕ) (l : Log) → Tells o m b r u a l
      → HasStepped op pa arg old m q → MayMake u a l (step_at others m op pa arg old) → IsWrite (owed (made (step_at others m op pa arg old) ∷ l)) (ram_word pa) value → Wants o c need → a < u.layout.harts
      → SeenFor u.layout.pages a c (access_of need) walk second (made (step_at others m op pa arg old) ∷ l) → ((w : Surroundings) → flushing w a c need ≡ None)
      → ((w : Surroundings) → MayBe u a (made (step_at others m op pa arg old) ∷ l) w → wrote (ram_word pa) value answer ≡ perform w a c walk second need) → AwaitsBut others (exec_pages need walk second) u a l → Ends u a l (Counted others (own_executed (only answer) o) q b r u a)
  write_exec o m q b r c need answer walk second op pa arg old value u a l t x may due wants hart seen calm right awaits =
      let s = step_at others m op pa arg old in
      let out = wrote (ram_word pa) value answer in
      let e = Exec a walk second out in
      let k = made s ∷ l in
      let stands = step_stands o (view m) (view q) u a l s (ap view x.step) t.tells.stands in
      let fit : IsExec u a k walk second out o = record {
        holds = wants.holds;
        shown = subst (λ (n : Need). SeenFor u.layout.pages a o.arch (access_of n) walk second k) (sym wants.need_is) (subst (λ (y : Arch). SeenFor u.layout.pages a y (access_of need) walk second k) (sym wants.arch_is) seen);
        flushed = λ w z. subst (AreFenced a k) (sym ((λ i. flushing w a (wants.arch_is i) (wants.need_is i)) ∙ calm w)) tt;
        right = λ w z. right w z ∙ sym (λ i. perform w a (wants.arch_is i) walk second (wants.need_is i));
      } in
      let drawn : places k ≡ [] = ap (λ v. drawn_next v op old (places l)) x.name ∙ t.tells.none_drawn in
      let left : unstored k ≡ None = ap (λ v. unstored_next v op old [] (unstored l)) x.name ∙ t.tells.none_left in
      subst (λ (y : Own). Ends u a l (Counted others y q b r u a)) (wrote_own o (ram_word pa) value answer) (record {
        late = did e ∷ k;
        grows = does e (makes s stays may) (record { own = refl; fit = subst (IsFit u a k e) (sym stands.part_is) (hart, fit); pays = pays_write u a k (owed k) a (ram_word pa) value walk second answer due });
        holds = record {
          settles = record {
            settled = exec_paid others o c need walk second out u a k wants stands.part_is (awaits_stepped others (exec_pages need walk second) u a l m q op pa arg old x awaits);
            tells = record {
              tells = tells_did o (view q) u a k e stands refl (places_did k e drawn) (ap (λ z. unstored_did (owed k) (did_of e).bytes z) left ∙ none_left (owed k) (ram_word pa) value (did_of e).bytes due);
              fills = t.fills;
              goes = fills_stay m q b r (flushes_in a l) t.fills (s ∷ []) (ap (λ (y : Shown). y.own.steps) x.step) (same_goes 1 IsOfRam m q ram_off (goes_stepped op pa arg old m q x)) t.goes;
            };
          };
          counts = counted_did a k e refl refl;
        };
      })

  -- a store, an exchange that found what it expects, and the operations of AMOs
  pub store_may : (u : Setup) (a : ℕ) (l : Log) (m q : Shown) (pa value : ℕ) → IsClear (owed l) → HasStepped Store pa value 0 m q → MayMake u a l (step_at others m Store pa value 0)
  store_may u a l m q pa value clear x = free u a l clear (step_at others m Store pa value 0) (Ram ((pa - 2 ^ 31) / 8)) Store x.name refl tt tt tt

  pub store_due : (u : Setup) (a : ℕ) (l : Log) (m q : Shown) (pa value : ℕ) → IsClear (owed l) → HasStepped Store pa value 0 m q → IsWrite (owed (made (step_at others m Store pa value 0) ∷ l)) (ram_word pa) value
  store_due u a l m q pa value clear x = inr (owed_named l (step_at others m Store pa value 0) (Ram ((pa - 2 ^ 31) / 8)) Store x.name refl ∙ store_owes u a l clear (ram_word pa) value)

  pub exchange_may : (u : Setup) (a : ℕ) (l : Log) (m q : Shown) (pa seen new found : ℕ) → IsClear (owed l) → HasStepped (Exchange seen) pa new found m q → MayMake u a l (step_at others m (Exchange seen) pa new found)
  exchange_may u a l m q pa seen new found clear x = free u a l clear (step_at others m (Exchange seen) pa new found) (Ram ((pa - 2 ^ 31) / 8)) (Exchange seen) x.name refl tt tt tt

  pub exchange_due : (l : Log) (m q : Shown) (pa seen new found : ℕ) → found ≡ seen → HasStepped (Exchange seen) pa new found m q → IsWrite (owed (made (step_at others m (Exchange seen) pa new found) ∷ l)) (ram_word pa) new
  exchange_due l m q pa seen new found same x = inl (owed_named l (step_at others m (Exchange seen) pa new found) (Ram ((pa - 2 ^ 31) / 8)) (Exchange seen) x.name refl
      ∙ ap (λ (t : Bool). if t then writes (ram_word pa) (new_of (Exchange seen) found new) else nothing) (eq-eqb seen found (sym same)) ∙ ap (λ (t : Bool). writes (ram_word pa) (either t new found)) (eq-eqb found seen same))
