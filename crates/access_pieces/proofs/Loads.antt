-- Loads are served.
use Rattle.std.proofs.Common.{◌≡◌, ◌≢◌, ne_eqb, eq-eqb, ℕ, ◌+◌, ◌*◌, ◌%◌, ◌<◌, ◌^◌, Bool, true, false, [], ◌∷◌, Option, Some, None, Result, Ok, Err, refl, sym, ap, subst, ◌∙◌}
use Rattle.std.specs.Prelude.{IsTrue, nat_le, if◌then◌else◌}
use Rattle.rv64_priv.specs.State.{Arch}
use Rattle.rv64_priv.specs.Csr.{regime}
use Rattle.rv64_priv.specs.Trap.{access_fault}
use Rattle.rv64_priv.specs.declared.state.Kind.{Kind}
use Rattle.rv64_priv.specs.Walk.{Walked}
use Rattle.rv64_exec.specs.declared.needs.Need.{Need}
use Rattle.rv64_exec.specs.declared.needs.Answer.{Answer}
use Rattle.step_laws.specs.Words.{ram_word}
use Rattle.step_laws.specs.declared.words.Layout.{Layout}
use Rattle.step_laws.specs.declared.steps.Step.{Step}
use Rattle.step_laws.specs.declared.steps.WordOp.TheVariants.{Load}
use Rattle.tlb_fill.specs.declared.translation.Translated.{Translated}
use Rattle.tlb_fill.specs.declared.translation.Translated.TheVariants as gives
use Rattle.turn_pieces.specs.Right.{AreSeen, MayBe, SeenMade}
use Rattle.machine_model.specs.Access.{Reach, crosses_page, reach, second_va}
use Rattle.machine_model.specs.Device.{device_value}
use Rattle.machine_model.specs.Event.{only}
use Rattle.machine_model.specs.Lawful.{flushing}
use Rattle.machine_model.specs.Memory.{Memory, number_in}
use Rattle.machine_model.specs.Own.{Own, own_executed}
use Rattle.machine_model.specs.Perform.{Surroundings, extended, load_outcome, device_load_outcome, perform}
use Rattle.machine_model.specs.State.{Setup}
use Rattle.machine_model.specs.Stores.{of_store, pages_walked}
use Rattle.machine_model.specs.Walks.{Wanted, access_of}
use Rattle.guest_ram.specs.Ports.{Shown}
use Rattle.tlb_entry.specs.declared.books.Book.{Book}
use Rattle.step_laws.specs.Sections.{IsInSection}
use Rattle.turn_pieces.specs.Folds.{known_word_next}
use Rattle.turn_pieces.specs.Kept.{known_word}
use Rattle.turn_pieces.specs.Shared.{IsShared}
use Rattle.turn_pieces.specs.Log.{made, Log}
use Rattle.turn_pieces.specs.Grows.{Ends}
use Rattle.turn_pieces.proofs.Writers.{ends_then, grows_then, seen_quietly}
use Rattle.guest_access.specs.declared.outcomes.Got.{Got}
use Rattle.guest_access.specs.declared.outcomes.Got.TheVariants as gets
use Rattle.guest_access.specs.declared.reaching.Place.{Place}
use Rattle.guest_access.specs.declared.reaching.Place.TheVariants as at
use Rattle.rv64_exec.specs.Widths.{is_width}
use Rattle.guest_access.specs.Loading.{HasLoaded, gives_register, in_word, on_device, over_words, unreached}
use Rattle.guest_access.specs.Reaching.{CanAccess, HasReached, by_one, by_two, first_reached, second_reached}
use Rattle.guest_access.specs.Stepping.{HasStepped}
use Rattle.access_pieces.specs.Laws.{IsTold, LoadsServe}
use Rattle.access_pieces.specs.Serving.{ServesBut, MayGiveUp, Served, Counted, Tells, Wants}
use Rattle.access_pieces.proofs.Awaited.{AwaitsBut, exec_pages}
use Rattle.access_pieces.proofs.GivenUp.{give_up}
use Rattle.access_pieces.proofs.Arrived.{Arrived, IsReached, arrived, reached_as}
use Rattle.access_pieces.proofs.Sections.{InSection, section_reached, section_stepped, words_apart, words_sectioned}
use Rattle.access_pieces.proofs.Executing.{awaits_stepped, held_here, load_of, loaded_in, quiet_exec}

-- whatever pages may wait for a store before
module _ (others : ℕ → Bool) where
  no_flush : (w : Surroundings) (h : ℕ) (c : Arch) (va width : ℕ) (sign : Bool) → flushing w h c (Need.Load va width sign) ≡ None
  unfolding flushing
  no_flush w h c va width sign = refl

  -- the reference machine's load, where its bytes lie so
  load_as : (w : Surroundings) (h : ℕ) (c : Arch) (va width : ℕ) (sign : Bool) (walk second : Walked) (at : Reach) → reach Kind.Load va width walk second ≡ at
      → load_outcome w.memory va width sign at ≡ perform w h c walk second (Need.Load va width sign)
  unfolding perform
  load_as w h c va width sign walk second at e = ap (load_outcome w.memory va width sign) (sym e)

  pub hart_there : (o : Own) (p : Shown) (b : Book) (c : Arch) (u : Setup) (a : ℕ) (l : Log) → CanAccess b p → Tells o p b (regime c) u a l → a < u.layout.harts
  hart_there o p b c u a l can t = subst (λ n. n < u.layout.harts) (sym t.tells.stands.actor) (subst (λ (y : Layout). p.own.actor < y.harts) (sym t.tells.stands.layout) can.beside.hart)

  -- an answer without another step
  answered : (o : Own) (p m : Shown) (b b' : Book) (c : Arch) (va width : ℕ) (sign : Bool) (x : Result Place Got) (answer : Answer) (u : Setup) (a : ℕ) (l : Log) → CanAccess b p → Wants o c (Need.Load va width sign) → Tells o p b (regime c) u a l
      → Arrived others o m b' c Kind.Load va width x u a l → IsReached others x → ((memory : Memory) → only answer ≡ load_outcome memory va width sign (reached_as others width x)) → Ends u a l (Counted others (own_executed (only answer) o) m b' (regime c) u a)
  answered o p m b b' c va width sign x answer u a l can wants t ar ok is =
      let sh = ar.shows ok in
      ends_then u a l ar.late (Counted others (own_executed (only answer) o) m b' (regime c) u a) ar.grows
      (quiet_exec others o m b' (regime c) c (Need.Load va width sign) answer sh.walk sh.second u a ar.late ar.tells ar.clear wants (hart_there o p b c u a l can t) sh.seen (λ w. no_flush w a c va width sign)
      (λ w may. is w.memory ∙ load_as w a c va width sign sh.walk sh.second (reached_as others width x) sh.reach_is) (ar.awaits ok))

  seen_made : (u : Setup) (a : ℕ) (c : Arch) (va width : ℕ) (walk second : Walked) (l : Log) (s : Step) → AreSeen u.layout.pages a c (record { kind = Kind.Load; va = va; width = width }) walk second l
      → AreSeen u.layout.pages a c (record { kind = Kind.Load; va = va; width = width }) walk second (made s ∷ l)
  seen_made u a c va width walk second l s x = record {
    first_page = seen_quietly u.layout.pages a c Kind.Load va walk (s ∷ []) l x.first_page;
    second_page = λ crosses ram. seen_quietly u.layout.pages a c Kind.Load (second_va va) second (s ∷ []) l (x.second_page crosses ram);
  }

  -- within a word
  word_served : (o : Own) (p m q : Shown) (b b' : Book) (c : Arch) (va width pa word : ℕ) (sign : Bool) (u : Setup) (a : ℕ) (l : Log) → CanAccess b p → Wants o c (Need.Load va width sign) → Tells o p b (regime c) u a l
      → Arrived others o m b' c Kind.Load va width (Ok (at.Word pa)) u a l → HasStepped Load pa 0 word m q
      → Ends u a l (Counted others (own_executed (only (Answer.Value (extended sign width (number_in word (pa % 8) width)))) o) q b' (regime c) u a)
  word_served o p m q b b' c va width pa word sign u a l can wants t ar x =
      let sh = ar.shows tt in
      let answer = Answer.Value (extended sign width (number_in word (pa % 8) width)) in
      let y = loaded_in others o m q b' (regime c) pa word u a ar.late ar.tells x in
      let late = made (load_of others m pa word) ∷ ar.late in
      ends_then u a l late (Counted others (own_executed (only answer) o) q b' (regime c) u a) (grows_then u a l ar.late ar.grows y.grows)
      (quiet_exec others o q b' (regime c) c (Need.Load va width sign) answer sh.walk sh.second u a late y.tells y.clear wants (hart_there o p b c u a l can t) (seen_made u a c va width sh.walk sh.second ar.late (load_of others m pa word) sh.seen) (λ w. no_flush w a c va width sign)
      (λ w may. ap (λ n. only (Answer.Value (extended sign width (number_in n (pa % 8) width)))) (sym (held_here others u a ar.late m q pa word w x may))
      ∙ load_as w a c va width sign sh.walk sh.second (reached_as others width (Ok (at.Word pa))) sh.reach_is)
      (awaits_stepped others (exec_pages (Need.Load va width sign) sh.walk sh.second) u a ar.late m q Load pa 0 word x (ar.awaits tt)))

  -- over two words, in the section
  module _ (u : Setup) (a : ℕ) (c : Arch) (o : Own) (m next q : Shown) (b : Book) (first second low high : ℕ) (l : Log) (apart : ram_word first ≢ ram_word second) (x : HasStepped Load first 0 low m next) (y : HasStepped Load second 0 high next q) where
    both_late : Log
    both_late = made (load_of others next second high) ∷ made (load_of others m first low) ∷ l

    knows_first : known_word (ram_word first) both_late ≡ Some low
    unfolding both_late
    knows_first = ap (λ v. known_word_next (ram_word first) v Load (ram_word second) high (known_word (ram_word first) (made (load_of others m first low) ∷ l))) y.name
        ∙ ap (λ (t : Bool). if t then Some high else known_word (ram_word first) (made (load_of others m first low) ∷ l)) (ne_eqb (ram_word first) (ram_word second) apart)
        ∙ ap (λ v. known_word_next (ram_word first) v Load (ram_word first) low (known_word (ram_word first) l)) x.name
        ∙ ap (λ (t : Bool). if t then Some low else known_word (ram_word first) l) (eq-eqb (ram_word first) (ram_word first) refl)

    both_held : (w : Surroundings) → Tells o q b (regime c) u a both_late → InSection q → MayBe u a both_late w → (w.memory (ram_word first) ≡ low) × (w.memory (ram_word second) ≡ high)
    unfolding both_late
    both_held w t section may = (
      may.section (subst (λ r. IsInSection u.layout a r) (sym t.tells.stands.is) (subst (λ (n : ℕ). IsInSection u.layout n q.own.steps) (sym t.tells.stands.actor)
          (subst (λ (y : Layout). IsInSection y q.own.actor q.own.steps) (sym t.tells.stands.layout) section)))
          (ram_word first) low (subst IsShared (sym x.name) tt) knows_first,
      held_here others u a (made (load_of others m first low) ∷ l) next q second high w y may,
    )

  words_served : (o : Own) (p m next q : Shown) (b b' : Book) (c : Arch) (va width first second low high : ℕ) (sign : Bool) (u : Setup) (a : ℕ) (l : Log) → CanAccess b p → Wants o c (Need.Load va width sign) → Tells o p b (regime c) u a l
      → Arrived others o m b' c Kind.Load va width (Ok (at.Words first second)) u a l → InSection m → HasStepped Load first 0 low m next → HasStepped Load second 0 high next q
      → Ends u a l (Counted others (own_executed (only (Answer.Value (extended sign width (number_in (low + 2 ^ 64 * high) (first % 8) width)))) o) q b' (regime c) u a)
  unfolding both_late
  words_served o p m next q b b' c va width first second low high sign u a l can wants t ar section x y =
      let sh = ar.shows tt in
      let answer = Answer.Value (extended sign width (number_in (low + 2 ^ 64 * high) (first % 8) width)) in
      let f = loaded_in others o m next b' (regime c) first low u a ar.late ar.tells x in
      let middle = made (load_of others m first low) ∷ ar.late in
      let g = loaded_in others o next q b' (regime c) second high u a middle f.tells y in
      let late = made (load_of others next second high) ∷ middle in
      let inside : InSection q = section_stepped Load second 0 high next q y (section_stepped Load first 0 low m next x section) in
      ends_then u a l late (Counted others (own_executed (only answer) o) q b' (regime c) u a) (grows_then u a l middle (grows_then u a l ar.late ar.grows f.grows) g.grows)
      (quiet_exec others o q b' (regime c) c (Need.Load va width sign) answer sh.walk sh.second u a late g.tells g.clear wants (hart_there o p b c u a l can t)
      (seen_made u a c va width sh.walk sh.second middle (load_of others next second high) (seen_made u a c va width sh.walk sh.second ar.late (load_of others m first low) sh.seen)) (λ w. no_flush w a c va width sign)
      (λ w may.
      let held = both_held u a c o m next q b' first second low high ar.late (words_apart first second ar.apart) x y w g.tells inside may in
      (λ i. only (Answer.Value (extended sign width (number_in (sym held.0 i + 2 ^ 64 * sym held.1 i) (first % 8) width))))
      ∙ load_as w a c va width sign sh.walk sh.second (reached_as others width (Ok (at.Words first second))) sh.reach_is)
      (awaits_stepped others (exec_pages (Need.Load va width sign) sh.walk sh.second) u a middle next q Load second 0 high y
      (awaits_stepped others (exec_pages (Need.Load va width sign) sh.walk sh.second) u a ar.late m next Load first 0 low x (ar.awaits tt))))

  -- a device's register
  device_served : (o : Own) (p m : Shown) (b b' : Book) (c : Arch) (va width pa : ℕ) (sign : Bool) (u : Setup) (a : ℕ) (l : Log) (found : Option ℕ) → device_value pa width ≡ found → CanAccess b p → Wants o c (Need.Load va width sign)
      → Tells o p b (regime c) u a l → Arrived others o m b' c Kind.Load va width (Ok (at.Device pa)) u a l → Ends u a l (Served others o (gives_register va width sign found) m b' (regime c) u a)
  device_served o p m b b' c va width pa sign u a l (Some value) is can wants t ar =
      answered o p m b b' c va width sign (Ok (at.Device pa)) (Answer.Value (extended sign width value)) u a l can wants t ar tt (λ memory. ap (device_load_outcome va width sign) (sym is))
  device_served o p m b b' c va width pa sign u a l None is can wants t ar =
      answered o p m b b' c va width sign (Ok (at.Device pa)) (Answer.Fault (access_fault Kind.Load) va) u a l can wants t ar tt (λ memory. ap (device_load_outcome va width sign) (sym is))

  -- what ends an access before its bytes are reached is no answer
  abbrev pub IsEnd : Result Place Got → Type 0
  IsEnd (Err (gets.Done answer)) = ⊥
  IsEnd x = Unit {0}

  first_ends : (kind : Kind) (va width : ℕ) (section : Bool) (t : Translated) → IsEnd (first_reached kind va width section t)
  first_ends kind va width section (gives.Ram pa) = by (nat_le (pa % 8 + width) 8) section
    where
      by : (le s : Bool) → IsEnd (if le then Ok (at.Word pa) else if s then Ok (at.Words pa (pa + 8)) else Err gets.NeedsSection)
      by true s = tt
      by false true = tt
      by false false = tt
  first_ends kind va width section (gives.Device pa) = by (crosses_page va width)
    where
      by : (x : Bool) → IsEnd (if x then Err (gets.Fault (access_fault kind) va) else Ok (at.Device pa))
      by true = tt
      by false = tt
  first_ends kind va width section (gives.Fault cause tval) = tt
  first_ends kind va width section (gives.Busy busy) = tt

  second_ends : (kind : Kind) (next first : ℕ) (section : Bool) (t : Translated) → IsEnd (second_reached kind next first section t)
  second_ends kind next first true (gives.Ram pa) = tt
  second_ends kind next first false (gives.Ram pa) = tt
  second_ends kind next first section (gives.Device pa) = tt
  second_ends kind next first section (gives.Fault cause tval) = tt
  second_ends kind next first section (gives.Busy busy) = tt

  pub reach_ends : (p m : Shown) (b b' : Book) (c : Arch) (kind : Kind) (va width : ℕ) (section : Bool) (x : Result Place Got) → HasReached p m b b' (regime c) kind va width section x → IsEnd x
  reach_ends p m b b' c kind va width section x (by_one t call none e) = subst IsEnd (sym e) (first_ends kind va width section t)
  reach_ends p m b b' c kind va width section x (by_two mid between t first call some y) = subst IsEnd (sym y.result_is) (second_ends kind (second_va va) first section y.found)

  -- given up before the bytes were touched
  pub unreached_given_up : (o : Own) (p m : Shown) (b b' : Book) (c : Arch) (va width : ℕ) (x : Result Place Got) (kind : Kind) (need : Need) (u : Setup) (a : ℕ) (l : Log) → CanAccess b p → Wants o c need → Tells o p b (regime c) u a l
      → access_of need ≡ Some (record { kind = kind; va = va; width = width }) → Arrived others o m b' c kind va width x u a l → Ends u a l (MayGiveUp others o m b' (regime c) u a)
  unreached_given_up o p m b b' c va width x kind need u a l can wants t is ar =
      ends_then u a l ar.late (MayGiveUp others o m b' (regime c) u a) ar.grows
      (give_up others o m b' (regime c) c need ar.made.walks u a ar.late ar.tells ar.clear wants
      (subst (λ (w : Option Wanted). SeenMade u.layout.pages a c w ar.made.walks ar.late) (sym is) ar.made.seen)
      (subst (λ (w : Option Wanted). AwaitsBut others (of_store w (λ y. pages_walked y ar.made.walks)) u a ar.late) (sym is) ar.made.awaits))

  unreached_served : (o : Own) (p m : Shown) (b b' : Book) (c : Arch) (va width : ℕ) (sign : Bool) (got : Got) (u : Setup) (a : ℕ) (l : Log) → CanAccess b p → Wants o c (Need.Load va width sign) → Tells o p b (regime c) u a l
      → IsEnd (Err got) → Arrived others o m b' c Kind.Load va width (Err got) u a l → Ends u a l (Served others o got m b' (regime c) u a)
  unreached_served o p m b b' c va width sign (gets.Done answer) u a l can wants t k ar = absurd k
  unreached_served o p m b b' c va width sign (gets.Fault cause tval) u a l can wants t k ar = answered o p m b b' c va width sign (Err (gets.Fault cause tval)) (Answer.Fault cause tval) u a l can wants t ar tt (λ memory. refl)
  unreached_served o p m b b' c va width sign (gets.Lost word seen found) u a l can wants t k ar = unreached_given_up o p m b b' c va width (Err (gets.Lost word seen found)) Kind.Load (Need.Load va width sign) u a l can wants t refl ar
  unreached_served o p m b b' c va width sign gets.NeedsSection u a l can wants t k ar = unreached_given_up o p m b b' c va width (Err gets.NeedsSection) Kind.Load (Need.Load va width sign) u a l can wants t refl ar
  unreached_served o p m b b' c va width sign (gets.Busy busy) u a l can wants t k ar = unreached_given_up o p m b b' c va width (Err (gets.Busy busy)) Kind.Load (Need.Load va width sign) u a l can wants t refl ar

  loads_serve_but : (p q : Shown) (b b' : Book) (c : Arch) (va width : ℕ) (sign section : Bool) (got : Got) → IsTrue (is_width width) → CanAccess b p → IsTold section p → HasLoaded p q b b' (regime c) va width sign section got → ServesBut others p q b b' c (Need.Load va width sign) got
  loads_serve_but p q b b' c va width sign section got w can told (in_word {mid} {pa} {word} reached x e) = λ o wants u a l rests. let t = rests.tells in
      subst (λ (g : Got). Ends u a l (Served others o g q b' (regime c) u a)) (sym e)
      (word_served o p mid q b b' c va width pa word sign u a l can wants t (arrived others o p mid b b' c Kind.Load va width section (Ok (at.Word pa)) u a l w can.beside t rests.settled reached) x)
  loads_serve_but p q b b' c va width sign section got w can told (over_words {mid} {next} {first} {second} {low} {high} reached x y e) = λ o wants u a l rests. let t = rests.tells in
      subst (λ (g : Got). Ends u a l (Served others o g q b' (regime c) u a)) (sym e)
      (words_served o p mid next q b b' c va width first second low high sign u a l can wants t (arrived others o p mid b b' c Kind.Load va width section (Ok (at.Words first second)) u a l w can.beside t rests.settled reached)
      (section_reached p mid b b' c Kind.Load va width section (Ok (at.Words first second)) reached (told (words_sectioned p mid b b' c Kind.Load va width first second section reached))) x y)
  loads_serve_but p q b b' c va width sign section got w can told (on_device {pa} reached e) = λ o wants u a l rests. let t = rests.tells in
      subst (λ (g : Got). Ends u a l (Served others o g q b' (regime c) u a)) (sym e)
      (device_served o p q b b' c va width pa sign u a l (device_value pa width) refl can wants t (arrived others o p q b b' c Kind.Load va width section (Ok (at.Device pa)) u a l w can.beside t rests.settled reached))
  loads_serve_but p q b b' c va width sign section got w can told (unreached reached) = λ o wants u a l rests. let t = rests.tells in
      unreached_served o p q b b' c va width sign got u a l can wants t (reach_ends p q b b' c Kind.Load va width section (Err got) reached) (arrived others o p q b b' c Kind.Load va width section (Err got) u a l w can.beside t rests.settled reached)

pub loads_serve : LoadsServe
loads_serve p q b b' c va width sign section got w can told x = λ others. loads_serve_but others p q b b' c va width sign section got w can told x
