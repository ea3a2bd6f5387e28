-- Stores in RAM are served.
use Rattle.std.proofs.Common.{◌≡◌, ◌≢◌, ℕ, ◌+◌, ◌/◌, ◌%◌, ◌<◌, ◌≤◌, ◌^◌, Bool, List, [], ◌∷◌, Some, None, Result, Ok, Err, refl, sym, ap, subst, ◌∙◌, arith, eq-eqb, ne_eqb}
use Rattle.std.specs.Prelude.{◌-◌, if◌then◌else◌}
use Rattle.rv64_priv.specs.State.{Arch}
use Rattle.rv64_priv.specs.Csr.{regime}
use Rattle.rv64_priv.specs.declared.state.Kind.{Kind}
use Rattle.rv64_priv.specs.Walk.{Walked}
use Rattle.rv64_exec.specs.declared.needs.Need.{Need}
use Rattle.rv64_exec.specs.declared.needs.Answer.{Answer}
use Rattle.step_laws.specs.declared.words.Layout.{Layout}
use Rattle.step_laws.specs.declared.steps.Step.{Step}
use Rattle.step_laws.specs.declared.steps.WordOp.TheVariants.{Load, Store, Exchange}
use Rattle.step_laws.specs.Map.{Ram}
use Rattle.step_laws.specs.Sections.{IsInSection}
use Rattle.step_laws.specs.Words.{ram_word}
use Rattle.machine_model.specs.Access.{Reach, reach, second_va}
use Rattle.machine_model.specs.Event.{Exec, Outcome, did_of, only}
use Rattle.machine_model.specs.Lawful.{flushing}
use Rattle.machine_model.specs.Memory.{Memory, replaced, write_of}
use Rattle.machine_model.specs.Own.{Own, own_executed}
use Rattle.machine_model.specs.Perform.{Surroundings, perform, store_outcome}
use Rattle.machine_model.specs.State.{Setup}
use Rattle.machine_model.specs.Walks.{access_of}
use Rattle.guest_ram.specs.Areas.{IsOfRam}
use Rattle.guest_ram.specs.Ports.{Shown}
use Rattle.tlb_entry.specs.declared.books.Book.{Book}
use Rattle.kept_fills.proofs.Staying.{fills_stay}
use Rattle.tlb_fill.proofs.Marking.{same_goes}
use Rattle.turn_pieces.specs.Folds.{drawn_next, known_word_next, unstored_next}
use Rattle.turn_pieces.specs.Log.{made, did, Log, steps_of}
use Rattle.turn_pieces.specs.Kept.{known_word, places}
use Rattle.turn_pieces.specs.KeptWalks.{flushes_in}
use Rattle.turn_pieces.specs.Owed.{joins, owed, owes_store, unstored, unstored_did}
use Rattle.turn_pieces.specs.Right.{AreFenced, AreSeen, IsExec, IsFit, SeenFor}
use Rattle.turn_pieces.specs.Shared.{IsShared}
use Rattle.turn_pieces.specs.Grows.{Ends}
use Rattle.turn_pieces.specs.Writers as writers
use Rattle.turn_pieces.specs.Writers.{quietly}
use Rattle.turn_pieces.proofs.Accesses.{step_stands}
use Rattle.turn_pieces.proofs.Offers.{store_owes, store_two}
use Rattle.turn_pieces.proofs.Writers.{ends_then, grows_then, owed_named, places_did, seen_quietly, tells_did}
use Rattle.guest_access.specs.declared.outcomes.Got.{Got}
use Rattle.guest_access.specs.declared.outcomes.Got.TheVariants as gets
use Rattle.guest_access.specs.declared.reaching.Place.{Place}
use Rattle.guest_access.specs.declared.reaching.Place.TheVariants as at
use Rattle.guest_access.specs.Reaching.{CanAccess}
use Rattle.guest_access.specs.Stepping.{HasStepped}
use Rattle.guest_access.specs.Storing.{HasExchanged, HasStoredIn, HasStoredOver, lost, part, replaced_both, whole}
use Rattle.guest_access.proofs.Areas.{ram_off}
use Rattle.guest_access.proofs.Keeping.{goes_stepped}
use Rattle.access_pieces.specs.Serving.{MayGiveUp, AwaitsAtMost, Served, Counted, Tells, Wants, view}
use Rattle.access_pieces.proofs.Awaited.{exec_pages, exec_paid, given_up_pages}
use Rattle.access_pieces.proofs.GivenUp.{give_up, made_quietly}
use Rattle.access_pieces.proofs.Arrived.{Arrived, IsReached, reached_as}
use Rattle.access_pieces.proofs.Counting.{counted_did}
use Rattle.access_pieces.proofs.Executing.{awaits_stepped, exchange_held, load_of, loaded_in, lost_in, quiet_exec, step_at}
use Rattle.access_pieces.proofs.Loads.{IsEnd, hart_there, unreached_given_up}
use Rattle.access_pieces.proofs.Sections.{InSection, section_stepped, words_apart}
use Rattle.access_pieces.proofs.Writing.{exchange_due, exchange_may, store_due, store_may, write_exec, wrote}

-- whatever pages may wait for a store before
module _ (others : ℕ → Bool) where
  pub no_store_flush : (w : Surroundings) (h : ℕ) (c : Arch) (va width value : ℕ) → flushing w h c (Need.Store va width value) ≡ None
  unfolding flushing
  no_store_flush w h c va width value = refl

  pub store_as : (w : Surroundings) (h : ℕ) (c : Arch) (va width value : ℕ) (walk second : Walked) (at : Reach) → reach Kind.Store va width walk second ≡ at
      → store_outcome w.memory w.room va width value at ≡ perform w h c walk second (Need.Store va width value)
  unfolding perform
  store_as w h c va width value walk second at e = ap (store_outcome w.memory w.room va width value) (sym e)

  pub seen_more : (pages a : ℕ) (c : Arch) (va width : ℕ) (walk second : Walked) (r : List Step) (l : Log) → AreSeen pages a c (record { kind = Kind.Store; va = va; width = width }) walk second l
      → AreSeen pages a c (record { kind = Kind.Store; va = va; width = width }) walk second (quietly r l)
  seen_more pages a c va width walk second r l x = record {
    first_page = seen_quietly pages a c Kind.Store va walk r l x.first_page;
    second_page = λ crosses ram. seen_quietly pages a c Kind.Store (second_va va) second r l (x.second_page crosses ram);
  }

  -- an answer without another step
  pub store_answered : (o : Own) (p m : Shown) (b b' : Book) (c : Arch) (va width value : ℕ) (x : Result Place Got) (answer : Answer) (u : Setup) (a : ℕ) (l : Log) → CanAccess b p → Wants o c (Need.Store va width value) → Tells o p b (regime c) u a l
      → Arrived others o m b' c Kind.Store va width x u a l → IsReached others x → ((memory : Memory) (room : ℕ) → only answer ≡ store_outcome memory room va width value (reached_as others width x)) → Ends u a l (Counted others (own_executed (only answer) o) m b' (regime c) u a)
  store_answered o p m b b' c va width value x answer u a l can wants t ar ok is =
      let sh = ar.shows ok in
      ends_then u a l ar.late (Counted others (own_executed (only answer) o) m b' (regime c) u a) ar.grows
      (quiet_exec others o m b' (regime c) c (Need.Store va width value) answer sh.walk sh.second u a ar.late ar.tells ar.clear wants (hart_there others o p b c u a l can t) sh.seen (λ w. no_store_flush w a c va width value)
      (λ w may. is w.memory w.room ∙ store_as w a c va width value sh.walk sh.second (reached_as others width x) sh.reach_is) (ar.awaits ok))

  pub store_unreached : (o : Own) (p m : Shown) (b b' : Book) (c : Arch) (va width value : ℕ) (got : Got) (u : Setup) (a : ℕ) (l : Log) → CanAccess b p → Wants o c (Need.Store va width value) → Tells o p b (regime c) u a l
      → IsEnd others (Err got) → Arrived others o m b' c Kind.Store va width (Err got) u a l → Ends u a l (Served others o got m b' (regime c) u a)
  store_unreached o p m b b' c va width value (gets.Done answer) u a l can wants t k ar = absurd k
  store_unreached o p m b b' c va width value (gets.Fault cause tval) u a l can wants t k ar = store_answered o p m b b' c va width value (Err (gets.Fault cause tval)) (Answer.Fault cause tval) u a l can wants t ar tt (λ memory room. refl)
  store_unreached o p m b b' c va width value (gets.Lost word seen found) u a l can wants t k ar = unreached_given_up others o p m b b' c va width (Err (gets.Lost word seen found)) Kind.Store (Need.Store va width value) u a l can wants t refl ar
  store_unreached o p m b b' c va width value gets.NeedsSection u a l can wants t k ar = unreached_given_up others o p m b b' c va width (Err gets.NeedsSection) Kind.Store (Need.Store va width value) u a l can wants t refl ar
  store_unreached o p m b b' c va width value (gets.Busy busy) u a l can wants t k ar = unreached_given_up others o p m b b' c va width (Err (gets.Busy busy)) Kind.Store (Need.Store va width value) u a l can wants t refl ar

  -- within a word
  whole_word : (old pa width value : ℕ) → width ≡ 8 → pa % 8 + width ≤ 8 → old < 2 ^ 64 → value < 2 ^ 64 → value ≡ replaced old (pa % 8) width value
  whole_word old pa width value eight within less few =
      let at : pa % 8 ≡ 0 = omega (arith, eight, within) in
      sym ((λ i. replaced old (at i) (eight i) value) ∙ whole old value less few)
    where
      whole : (old value : ℕ) → old < 2 ^ 64 → value < 2 ^ 64 → replaced old 0 8 value ≡ value
      whole old value less few = omega (arith, less, few)

  module _ (o : Own) (p m q : Shown) (b b' : Book) (c : Arch) (va width pa value : ℕ) (u : Setup) (a : ℕ) (l : Log) (can : CanAccess b p) (wants : Wants o c (Need.Store va width value)) (t : Tells o p b (regime c) u a l) (few : value < 2 ^ 64)
      (within : pa % 8 + width ≤ 8) (ar : Arrived others o m b' c Kind.Store va width (Ok (at.Word pa)) u a l) where
    written_as : (w : Surroundings) (new : ℕ) → new ≡ replaced (w.memory (ram_word pa)) (pa % 8) width value → wrote others (ram_word pa) new Answer.Nothing ≡ perform w a c (ar.shows tt).walk (ar.shows tt).second (Need.Store va width value)
    written_as w new e = ap (λ n. wrote others (ram_word pa) n Answer.Nothing) e ∙ store_as w a c va width value (ar.shows tt).walk (ar.shows tt).second (reached_as others width (Ok (at.Word pa))) (ar.shows tt).reach_is

    whole_stored : width ≡ 8 → HasStepped Store pa value 0 m q → Ends u a l (Counted others (own_executed (only Answer.Nothing) o) q b' (regime c) u a)
    whole_stored eight x =
        let sh = ar.shows tt in
        let s = step_at others m Store pa value 0 in
        ends_then u a l ar.late (Counted others (own_executed (only Answer.Nothing) o) q b' (regime c) u a) ar.grows
        (write_exec others o m q b' (regime c) c (Need.Store va width value) Answer.Nothing sh.walk sh.second Store pa value 0 value u a ar.late ar.tells x (store_may others u a ar.late m q pa value ar.tells.tells.clear x) (store_due others u a ar.late m q pa value ar.tells.tells.clear x)
        wants (hart_there others o p b c u a l can t) (seen_more u.layout.pages a c va width sh.walk sh.second (s ∷ []) ar.late sh.seen) (λ w. no_store_flush w a c va width value)
        (λ w may. written_as w value (whole_word (w.memory (ram_word pa)) pa width value eight within (may.words (ram_word pa)) few)) (ar.awaits tt))

    part_stored : (seen found : ℕ) → HasExchanged pa seen (replaced seen (pa % 8) width value) found m q → found ≡ seen → Ends u a l (Counted others (own_executed (only Answer.Nothing) o) q b' (regime c) u a)
    part_stored seen found x same =
        let sh = ar.shows tt in
        let new = replaced seen (pa % 8) width value in
        let y = loaded_in others o m x.mid b' (regime c) pa seen u a ar.late ar.tells x.loads in
        let middle = made (load_of others m pa seen) ∷ ar.late in
        let s = step_at others x.mid (Exchange seen) pa new found in
        ends_then u a l middle (Counted others (own_executed (only Answer.Nothing) o) q b' (regime c) u a) (grows_then u a l ar.late ar.grows y.grows)
        (write_exec others o x.mid q b' (regime c) c (Need.Store va width value) Answer.Nothing sh.walk sh.second (Exchange seen) pa new found new u a middle y.tells x.exchanges (exchange_may others u a middle x.mid q pa seen new found y.tells.tells.clear x.exchanges)
        (exchange_due others middle x.mid q pa seen new found same x.exchanges) wants (hart_there others o p b c u a l can t) (seen_more u.layout.pages a c va width sh.walk sh.second (s ∷ load_of others m pa seen ∷ []) ar.late sh.seen) (λ w. no_store_flush w a c va width value)
        (λ w may. written_as w new (ap (λ n. replaced n (pa % 8) width value) (sym (exchange_held others u a middle x.mid q pa seen new found w x.exchanges may ∙ same))))
        (awaits_stepped others (exec_pages (Need.Store va width value) sh.walk sh.second) u a ar.late m x.mid Load pa 0 seen x.loads (ar.awaits tt)))

    lost_stored : (seen found : ℕ) → HasExchanged pa seen (replaced seen (pa % 8) width value) found m q → found ≢ seen → Ends u a l (MayGiveUp others o q b' (regime c) u a)
    lost_stored seen found x other =
        let y = loaded_in others o m x.mid b' (regime c) pa seen u a ar.late ar.tells x.loads in
        let middle = made (load_of others m pa seen) ∷ ar.late in
        let z = lost_in others o x.mid q b' (regime c) pa seen (replaced seen (pa % 8) width value) found u a middle y.tells (λ e. other (sym e)) x.exchanges in
        let need = Need.Store va width value in
        let new = replaced seen (pa % 8) width value in
        let s = step_at others x.mid (Exchange seen) pa new found in
        let late = made s ∷ middle in
        let pages = given_up_pages need ar.made.walks in
        ends_then u a l late (MayGiveUp others o q b' (regime c) u a) (grows_then u a l middle (grows_then u a l ar.late ar.grows y.grows) z.grows)
        (give_up others o q b' (regime c) c need ar.made.walks u a late z.tells z.clear wants
        (made_quietly others u.layout.pages a c (access_of need) ar.made.walks (s ∷ load_of others m pa seen ∷ []) ar.late ar.made.seen)
        (awaits_stepped others pages u a middle x.mid q (Exchange seen) pa new found x.exchanges (awaits_stepped others pages u a ar.late m x.mid Load pa 0 seen x.loads ar.made.awaits)))

    pub word_stored : (got : Got) → HasStoredIn pa width value m q got → Ends u a l (Served others o got q b' (regime c) u a)
    word_stored got (whole eight x e) = subst (λ (g : Got). Ends u a l (Served others o g q b' (regime c) u a)) (sym e) (whole_stored eight x)
    word_stored got (part {seen} {found} w x same e) = subst (λ (g : Got). Ends u a l (Served others o g q b' (regime c) u a)) (sym e) (part_stored seen found x same)
    word_stored got (lost {seen} {found} w x other e) = subst (λ (g : Got). Ends u a l (Served others o g q b' (regime c) u a)) (sym e) (lost_stored seen found x other)

  -- over two words, in the section
  crossing : (word value other second : ℕ) → Outcome
  crossing word value other second = record (only Answer.Nothing) { entry = Some (write_of word value ∷ write_of other second ∷ []) }

  crossing_own : (o : Own) (word value other second : ℕ) → own_executed (crossing word value other second) o ≡ own_executed (only Answer.Nothing) o
  unfolding own_executed crossing
  crossing_own o word value other second = refl

  module _ (o : Own) (p m q : Shown) (b b' : Book) (c : Arch) (va width first second value : ℕ) (u : Setup) (a : ℕ) (l : Log) (can : CanAccess b p) (wants : Wants o c (Need.Store va width value)) (t : Tells o p b (regime c) u a l)
      (ar : Arrived others o m b' c Kind.Store va width (Ok (at.Words first second)) u a l) (x : HasStoredOver first second width value m q) (inside : InSection m) where
    low_new : ℕ
    low_new = replaced_both x.low x.high (first % 8) width value % 2 ^ 64

    high_new : ℕ
    high_new = replaced_both x.low x.high (first % 8) width value / 2 ^ 64

    s1 : Step
    s1 = load_of others m first x.low

    s2 : Step
    s2 = load_of others x.one second x.high

    s3 : Step
    s3 = step_at others x.two Store first low_new 0

    s4 : Step
    s4 = step_at others x.three Store second high_new 0

    both_stored : Log
    both_stored = made s4 ∷ made s3 ∷ made s2 ∷ made s1 ∷ ar.late

    apart : ram_word first ≢ ram_word second
    apart = words_apart first second ar.apart

    knows_low : known_word (ram_word first) both_stored ≡ Some x.low
    unfolding both_stored s1 s2 s3 s4
    knows_low = ap (λ v. known_word_next (ram_word first) v Store (ram_word second) 0 (known_word (ram_word first) (made s3 ∷ made s2 ∷ made s1 ∷ ar.late))) x.stores_second.name
        ∙ ap (λ v. known_word_next (ram_word first) v Store (ram_word first) 0 (known_word (ram_word first) (made s2 ∷ made s1 ∷ ar.late))) x.stores_first.name
        ∙ ap (λ v. known_word_next (ram_word first) v Load (ram_word second) x.high (known_word (ram_word first) (made s1 ∷ ar.late))) x.loads_second.name
        ∙ ap (λ (y : Bool). if y then Some x.high else known_word (ram_word first) (made s1 ∷ ar.late)) (ne_eqb (ram_word first) (ram_word second) apart)
        ∙ ap (λ v. known_word_next (ram_word first) v Load (ram_word first) x.low (known_word (ram_word first) ar.late)) x.loads_first.name
        ∙ ap (λ (y : Bool). if y then Some x.low else known_word (ram_word first) ar.late) (eq-eqb (ram_word first) (ram_word first) refl)

    knows_high : known_word (ram_word second) both_stored ≡ Some x.high
    unfolding both_stored s1 s2 s3 s4
    knows_high = ap (λ v. known_word_next (ram_word second) v Store (ram_word second) 0 (known_word (ram_word second) (made s3 ∷ made s2 ∷ made s1 ∷ ar.late))) x.stores_second.name
        ∙ ap (λ v. known_word_next (ram_word second) v Store (ram_word first) 0 (known_word (ram_word second) (made s2 ∷ made s1 ∷ ar.late))) x.stores_first.name
        ∙ ap (λ v. known_word_next (ram_word second) v Load (ram_word second) x.high (known_word (ram_word second) (made s1 ∷ ar.late))) x.loads_second.name
        ∙ ap (λ (y : Bool). if y then Some x.high else known_word (ram_word second) (made s1 ∷ ar.late)) (eq-eqb (ram_word second) (ram_word second) refl)

    inside_one : InSection x.one
    inside_one = section_stepped Load first 0 x.low m x.one x.loads_first inside

    inside_two : InSection x.two
    inside_two = section_stepped Load second 0 x.high x.one x.two x.loads_second inside_one

    inside_three : InSection x.three
    unfolding low_new
    inside_three = section_stepped Store first low_new 0 x.two x.three x.stores_first inside_two

    inside_four : InSection q
    unfolding high_new
    inside_four = section_stepped Store second high_new 0 x.three q x.stores_second inside_three

    in_log : (r : Shown) (k : Log) → writers.Stands o (view r) u a k → InSection r → IsInSection u.layout a (steps_of k)
    in_log r k st i = subst (IsInSection u.layout a) (sym st.is) (subst (λ (n : ℕ). IsInSection u.layout n r.own.steps) (sym st.actor) (subst (λ (y : Layout). IsInSection y r.own.actor r.own.steps) (sym st.layout) i))

    pub words_stored : Ends u a l (Counted others (own_executed (only Answer.Nothing) o) q b' (regime c) u a)
    unfolding both_stored s1 s2 s3 s4 low_new high_new crossing
    words_stored =
        let sh = ar.shows tt in
        let need = Need.Store va width value in
        let f = loaded_in others o m x.one b' (regime c) first x.low u a ar.late ar.tells x.loads_first in
        let g = loaded_in others o x.one x.two b' (regime c) second x.high u a (made s1 ∷ ar.late) f.tells x.loads_second in
        let k2 = made s2 ∷ made s1 ∷ ar.late in
        let k3 = made s3 ∷ k2 in
        let k4 = made s4 ∷ k3 in
        let st3 = step_stands o (view x.two) (view x.three) u a k2 s3 (ap view x.stores_first.step) g.tells.tells.stands in
        let st4 = step_stands o (view x.three) (view q) u a k3 s4 (ap view x.stores_second.step) st3 in
        let out = crossing (ram_word first) low_new (ram_word second) high_new in
        let e = Exec a sh.walk sh.second out in
        let fit : IsExec u a k4 sh.walk sh.second out o = record {
          holds = wants.holds;
          shown = subst (λ (n : Need). SeenFor u.layout.pages a o.arch (access_of n) sh.walk sh.second k4) (sym wants.need_is)
              (subst (λ (y : Arch). AreSeen u.layout.pages a y (record { kind = Kind.Store; va = va; width = width }) sh.walk sh.second k4) (sym wants.arch_is) (seen_more u.layout.pages a c va width sh.walk sh.second (s4 ∷ s3 ∷ s2 ∷ s1 ∷ []) ar.late sh.seen));
          flushed = λ w z. subst (AreFenced a k4) (sym ((λ i. flushing w a (wants.arch_is i) (wants.need_is i)) ∙ no_store_flush w a c va width value)) tt;
          right = λ w may.
              let i4 = in_log q k4 st4 inside_four in
              let one : w.memory (ram_word first) ≡ x.low = may.section i4 (ram_word first) x.low (subst IsShared (sym x.loads_first.name) tt) knows_low in
              let two : w.memory (ram_word second) ≡ x.high = may.section i4 (ram_word second) x.high (subst IsShared (sym x.loads_second.name) tt) knows_high in
              (λ i. crossing (ram_word first) (replaced_both (sym one i) (sym two i) (first % 8) width value % 2 ^ 64) (ram_word second) (replaced_both (sym one i) (sym two i) (first % 8) width value / 2 ^ 64))
              ∙ store_as w a c va width value sh.walk sh.second (reached_as others width (Ok (at.Words first second))) sh.reach_is
              ∙ sym (λ i. perform w a (wants.arch_is i) sh.walk sh.second (wants.need_is i));
        } in
        let hart = hart_there others o p b c u a l can t in
        let grows = grows_then u a l k2 (grows_then u a l (made s1 ∷ ar.late) (grows_then u a l ar.late ar.grows f.grows) g.grows)
        (store_two u a k2 g.tells.tells.clear s3 s4 ((first - 2 ^ 31) / 8) ((second - 2 ^ 31) / 8) e x.stores_first.name refl x.stores_second.name refl apart (in_log x.three k3 st3 inside_three) refl
        (subst (IsFit u a k4 e) (sym st4.part_is) (hart, fit)) (record { does = record { entry_is = refl; bytes_are = refl; reason_is = refl; starts_is = refl; stops_is = refl }; begins_not = refl })) in
        let drawn : places k4 ≡ [] = ap (λ v. drawn_next v Store 0 (places k3)) x.stores_second.name ∙ ap (λ v. drawn_next v Store 0 (places k2)) x.stores_first.name ∙ g.tells.tells.none_drawn in
        let left : unstored k4 ≡ None = ap (λ v. unstored_next v Store 0 [] (unstored k3)) x.stores_second.name ∙ ap (λ v. unstored_next v Store 0 [] (unstored k2)) x.stores_first.name ∙ g.tells.tells.none_left in
        let due : owed k4 ≡ joins (ram_word first) low_new (ram_word second) high_new = owed_named k3 s4 (Ram ((second - 2 ^ 31) / 8)) Store x.stores_second.name refl
        ∙ ap (λ d. owes_store d (ram_word second) high_new) (owed_named k2 s3 (Ram ((first - 2 ^ 31) / 8)) Store x.stores_first.name refl ∙ store_owes u a k2 g.tells.tells.clear (ram_word first) low_new) in
        let pages = exec_pages need sh.walk sh.second in
        let settled : AwaitsAtMost others u a (did e ∷ k4) = exec_paid others o c need sh.walk sh.second out u a k4 wants st4.part_is
        (awaits_stepped others pages u a k3 x.three q Store second high_new 0 x.stores_second (awaits_stepped others pages u a k2 x.two x.three Store first low_new 0 x.stores_first
        (awaits_stepped others pages u a (made s1 ∷ ar.late) x.one x.two Load second 0 x.high x.loads_second (awaits_stepped others pages u a ar.late m x.one Load first 0 x.low x.loads_first (ar.awaits tt))))) in
        subst (λ (y : Own). Ends u a l (Counted others y q b' (regime c) u a)) (crossing_own o (ram_word first) low_new (ram_word second) high_new) (record {
          late = did e ∷ k4;
          grows = grows;
          holds = record {
            settles = record {
              settled = settled;
              tells = record {
                tells = tells_did o (view q) u a k4 e st4 refl (places_did k4 e drawn) ((λ i. unstored_did (due i) (did_of e).bytes (left i)));
                fills = g.tells.fills;
                goes = fills_stay x.three q b' (regime c) (flushes_in a k3) g.tells.fills (s4 ∷ []) (ap (λ (y : Shown). y.own.steps) x.stores_second.step) (same_goes 1 IsOfRam x.three q ram_off (goes_stepped Store second high_new 0 x.three q x.stores_second))
                    (fills_stay x.two x.three b' (regime c) (flushes_in a k2) g.tells.fills (s3 ∷ []) (ap (λ (y : Shown). y.own.steps) x.stores_first.step) (same_goes 1 IsOfRam x.two x.three ram_off (goes_stepped Store first low_new 0 x.two x.three x.stores_first)) g.tells.goes);
              };
            };
            counts = counted_did a k4 e refl refl;
          };
        })
