-- The pages of an access in its hart's log.
use Rattle.std.proofs.Common.{◌≡◌, ℕ, ◌+◌, ◌%◌, ◌<◌, ◌≤◌, ◌^◌, Bool, true, false, true≢false, List, [], ◌∷◌, ◌++◌, Some, None, Result, Ok, Err, refl, sym, ap, subst, ◌∙◌, arith}
use Rattle.std.specs.Prelude.{nat_le, ◌&&◌, if◌then◌else◌, IsTrue}
use Rattle.rv64_priv.specs.State.{Arch}
use Rattle.rv64_priv.specs.Csr.{regime}
use Rattle.rv64_priv.specs.Trap.{access_fault}
use Rattle.rv64_priv.specs.declared.state.Kind.{Kind}
use Rattle.rv64_priv.specs.Walk.{Walked}
use Rattle.rv64_exec.specs.Widths.{is_width}
use Rattle.step_laws.specs.Words.{ram_word}
use Rattle.machine_model.specs.Access.{Reach, InRam, OnDevice, Unreached, Spot, AtRam, AtDevice, Faults, crosses_page, is_at_ram, one_page, reach, second_page, second_va, spot_of, two_pages}
use Rattle.machine_model.specs.Memory.{One, Two}
use Rattle.machine_model.specs.Own.{Own}
use Rattle.machine_model.specs.State.{Setup}
use Rattle.machine_model.specs.Stores.{is_store, of_store, page_at, pages_reached, pages_walked}
use Rattle.guest_ram.specs.Ports.{Shown, Machine}
use Rattle.guest_ram.proofs.Moves.{machine_goes}
use Rattle.kept_fills.specs.Beside.{IsBeside}
use Rattle.tlb_entry.specs.declared.books.Book.{Book}
use Rattle.tlb_fill.specs.Stepping.{IsOfFill}
use Rattle.tlb_fill.specs.declared.translation.Translated.{Translated}
use Rattle.tlb_fill.specs.declared.translation.Translated.TheVariants as gives
use Rattle.turn_pieces.specs.Log.{Log}
use Rattle.turn_pieces.specs.KeptWalks.{flushes_in}
use Rattle.turn_pieces.specs.Owed.{nothing, owed}
use Rattle.turn_pieces.specs.Right.{AreSeen, IsSeen, SeenMade}
use Rattle.turn_pieces.specs.Marks.{is_awaited}
use Rattle.turn_pieces.specs.Grows.{Grows}
use Rattle.turn_pieces.specs.Writers.{quietly}
use Rattle.turn_pieces.proofs.Writers.{grows_then, seen_quietly}
use Rattle.guest_access.specs.declared.outcomes.Got.{Got}
use Rattle.guest_access.specs.declared.outcomes.Got.TheVariants as gets
use Rattle.guest_access.specs.declared.reaching.Place.{Place}
use Rattle.guest_access.specs.declared.reaching.Place.TheVariants as at
use Rattle.guest_access.specs.Reaching.{HasReached, Translates, by_one, by_two, first_reached, over_from, second_reached}
use Rattle.guest_access.proofs.Arms.{ArePlaced, all_placed, goes_over}
use Rattle.access_pieces.specs.Serving.{AwaitsAtMost, Tells}
use Rattle.access_pieces.proofs.Awaited.{AwaitsBut, given_left, given_right, is_given, pages_of}
use Rattle.guest_access.proofs.Fills.{IsPlaced}
use Rattle.access_pieces.proofs.Sections.{AreApart, first_apart, second_apart, some_crosses}
use Rattle.access_pieces.proofs.Led.{led}
use Rattle.access_pieces.specs.Translating.{IsLed, LeadsTo, spot}

-- whatever pages may wait for a store before
module _ (others : ℕ → Bool) where
  -- the bytes were reached, or there was a fault
  abbrev pub IsReached : Result Place Got → Type 0
  IsReached (Ok place) = Unit {0}
  IsReached (Err (gets.Fault cause tval)) = Unit {0}
  IsReached (Err got) = ⊥

  -- as the reference machine has it
  abbrev pub reached_as : (width : ℕ) → Result Place Got → Reach
  reached_as width (Ok (at.Word pa)) = InRam (One (ram_word pa) (pa % 8) width)
  reached_as width (Ok (at.Words first second)) = InRam (Two (ram_word first) (ram_word second) (first % 8) width)
  reached_as width (Ok (at.Device pa)) = OnDevice pa
  reached_as width (Err (gets.Fault cause tval)) = Unreached cause tval
  reached_as width (Err got) = Unreached 0 0

  -- one page
  next_word : (pa : ℕ) → 2 ^ 31 ≤ pa → ram_word pa + 1 ≡ ram_word (pa + 8)
  next_word pa low = omega (arith, low)

  within_reach : (pa width : ℕ) (le section : Bool) → 2 ^ 31 ≤ pa → IsReached (if le then Ok (at.Word pa) else if section then Ok (at.Words pa (pa + 8)) else Err gets.NeedsSection)
      → InRam (if le then One (ram_word pa) (pa % 8) width else Two (ram_word pa) (ram_word pa + 1) (pa % 8) width)
      ≡ reached_as width (if le then Ok (at.Word pa) else if section then Ok (at.Words pa (pa + 8)) else Err gets.NeedsSection)
  within_reach pa width true section low k = refl
  within_reach pa width false true low k = ap (λ n. InRam (Two (ram_word pa) n (pa % 8) width)) (next_word pa low)
  within_reach pa width false false low k = absurd k

  stays_within : (pa : ℕ) (c : Bool) → (if c then Some pa else None) ≡ None → c ≡ false
  stays_within pa false e = refl
  stays_within pa true e = cc

  one_reach : (kind : Kind) (va width : ℕ) (section : Bool) (t : Translated) (m : Shown) (other : Spot) → over_from va width t ≡ None → ArePlaced va t m → IsReached (first_reached kind va width section t)
      → (if crosses_page va width then two_pages kind va width (spot t) other else one_page width (spot t)) ≡ reached_as width (first_reached kind va width section t)
  one_reach kind va width section (gives.Ram pa) m other none x k = ap (λ (c : Bool). if c then two_pages kind va width (AtRam pa) other else one_page width (AtRam pa)) (stays_within pa (crosses_page va width) none)
      ∙ within_reach pa width (nat_le (pa % 8 + width) 8) section x.there.above k
  one_reach kind va width section (gives.Device pa) m other none x k = by (crosses_page va width)
    where
      by : (c : Bool) → (if c then two_pages kind va width (AtDevice pa) other else one_page width (AtDevice pa)) ≡ reached_as width (if c then Err (gets.Fault (access_fault kind) va) else Ok (at.Device pa))
      by true = refl
      by false = refl
  one_reach kind va width section (gives.Fault cause tval) m other none x k = by (crosses_page va width)
    where
      by : (c : Bool) → (if c then two_pages kind va width (Faults cause tval) other else one_page width (Faults cause tval)) ≡ Unreached cause tval
      by true = refl
      by false = refl
  one_reach kind va width section (gives.Busy busy) m other none x k = absurd k

  one_led : (kind : Kind) (va width : ℕ) (section : Bool) (t : Translated) → IsReached (first_reached kind va width section t) → IsLed t
  one_led kind va width section (gives.Ram pa) k = tt
  one_led kind va width section (gives.Device pa) k = tt
  one_led kind va width section (gives.Fault cause tval) k = tt
  one_led kind va width section (gives.Busy busy) k = absurd k

  no_second : (va width : ℕ) (t : Translated) → over_from va width t ≡ None → IsTrue (crosses_page va width) → IsTrue (is_at_ram (spot t)) → ⊥
  no_second va width (gives.Ram pa) none c k = true≢false (sym c ∙ stays_within pa (crosses_page va width) none)
  no_second va width (gives.Device pa) none c k = cc
  no_second va width (gives.Fault cause tval) none c k = cc
  no_second va width (gives.Busy busy) none c k = cc

  -- two pages
  over_word : (n width : ℕ) → 8 < n + width → nat_le (n + width) 8 ≡ false
  over_word n width over = grind (arith, over)

  two_reach : (kind : Kind) (va width first : ℕ) (section : Bool) (t : Translated) → 8 < first % 8 + width → IsReached (second_reached kind (second_va va) first section t)
      → second_page kind va width first (spot t) ≡ reached_as width (second_reached kind (second_va va) first section t)
  two_reach kind va width first true (gives.Ram pa) over k = ap (λ (le : Bool). InRam (if le then One (ram_word first) (first % 8) width else Two (ram_word first) (ram_word pa) (first % 8) width)) (over_word (first % 8) width over)
  two_reach kind va width first false (gives.Ram pa) over k = absurd k
  two_reach kind va width first section (gives.Device pa) over k = refl
  two_reach kind va width first section (gives.Fault cause tval) over k = refl
  two_reach kind va width first section (gives.Busy busy) over k = absurd k

  two_led : (kind : Kind) (next first : ℕ) (section : Bool) (t : Translated) → IsReached (second_reached kind next first section t) → IsLed t
  two_led kind next first section (gives.Ram pa) k = tt
  two_led kind next first section (gives.Device pa) k = tt
  two_led kind next first section (gives.Fault cause tval) k = tt
  two_led kind next first section (gives.Busy busy) k = absurd k

  -- the walks that the log shows, and where they lead
  pub record Shown2 (c : Arch) (kind : Kind) (va width : ℕ) (x : Result Place Got) (pages a : ℕ) (l : Log) : Type 0 where
    pub walk : Walked
    pub second : Walked
    pub seen : AreSeen pages a c (record { kind = kind; va = va; width = width }) walk second l
    pub reach_is : reach kind va width walk second ≡ reached_as width x

  -- those that were made, however many, and the pages that they mark
  pub record Made (c : Arch) (kind : Kind) (va width : ℕ) (u : Setup) (a : ℕ) (l : Log) : Type 0 where
    pub walks : List Walked
    pub seen : SeenMade u.layout.pages a c (Some (record { kind = kind; va = va; width = width })) walks l
    pub awaits : AwaitsBut others (of_store (Some (record { kind = kind; va = va; width = width })) (λ w. pages_walked w walks)) u a l

  pub record Arrived (o : Own) (m : Shown) (b' : Book) (c : Arch) (kind : Kind) (va width : ℕ) (x : Result Place Got) (u : Setup) (a : ℕ) (l : Log) : Type 0 where
    pub late : Log
    pub grows : Grows u a l late
    pub tells : Tells o m b' (regime c) u a late
    pub clear : owed late ≡ nothing
    pub shows : IsReached x → Shown2 c kind va width x u.layout.pages a late
    pub made : Made c kind va width u a late
    pub awaits : (ok : IsReached x) → AwaitsBut others (of_store (Some (record { kind = kind; va = va; width = width })) (λ w. pages_reached w (shows ok).walk (shows ok).second)) u a late
    pub apart : AreApart x

  -- the pages of two walks, of which the second is made where the test holds
  reached_out : (page : ℕ) (kind : Kind) (first second : Spot) (b : Bool) → is_given page (if is_store kind then page_at first ++ (if b then page_at second else []) else []) ≡ false
      → (is_given page (pages_of kind first) ≡ false) × (b ≡ true → is_given page (pages_of kind second) ≡ false)
  reached_out page kind first second b = by (is_store kind)
    where
      by : (s : Bool) → is_given page (if s then page_at first ++ (if b then page_at second else []) else []) ≡ false
          → (is_given page (if s then page_at first else []) ≡ false) × (b ≡ true → is_given page (if s then page_at second else []) ≡ false)
      by true e = (
        given_left page (page_at first) (if b then page_at second else []) e,
        λ is. ap (λ (t : Bool). is_given page (if t then page_at second else [])) (sym is) ∙ given_right page (page_at first) (if b then page_at second else []) e,
      )
      by false e = (refl, λ is. refl)

  none_given : (page : ℕ) (kind : Kind) → is_given page (pages_of kind (Faults 0 0)) ≡ false
  none_given page kind = by (is_store kind)
    where
      by : (s : Bool) → is_given page (if s then [] else []) ≡ false
      by true = refl
      by false = refl

  -- one page's walk, unless the lock was held
  module _ (c : Arch) (kind : Kind) (va width : ℕ) (u : Setup) (a : ℕ) (l : Log) where
    one_walk : (s : Spot) → LeadsTo u.layout.pages a c kind va s l → AwaitsBut others (pages_of kind s) u a l → Made c kind va width u a l
    one_walk s to awaits = record { walks = to.walk ∷ []; seen = to.seen; awaits = subst (λ (y : Spot). AwaitsBut others (pages_of kind y) u a l) (sym to.spot_is) awaits }

    one_made : (t : Translated) → (IsLed t → LeadsTo u.layout.pages a c kind va (spot t) l) → AwaitsBut others (pages_of kind (spot t)) u a l → Made c kind va width u a l
    one_made (gives.Ram pa) to awaits = one_walk (AtRam pa) (to tt) awaits
    one_made (gives.Device pa) to awaits = one_walk (AtDevice pa) (to tt) awaits
    one_made (gives.Fault cause tval) to awaits = one_walk (Faults cause tval) (to tt) awaits
    one_made (gives.Busy busy) to awaits = record { walks = []; seen = tt; awaits = awaits }

    pub one_awaits : (walk : Walked) (s : Spot) → spot_of kind va walk ≡ s → AwaitsBut others (pages_of kind s) u a l → AwaitsBut others (of_store (Some (record { kind = kind; va = va; width = width })) (λ w. pages_reached w walk walk)) u a l
    one_awaits walk s e awaits = λ page free out. awaits page free (ap (λ (y : Spot). is_given page (pages_of kind y)) (sym e)
        ∙ (reached_out page kind (spot_of kind va walk) (spot_of kind (second_va va) walk) (crosses_page va width && is_at_ram (spot_of kind va walk)) out).0)

    -- two pages' walks, of which the first led to RAM
    module _ (first : ℕ) (walk : Walked) (seen : IsSeen u.layout.pages a c kind va walk l) (ram : spot_of kind va walk ≡ AtRam first) (crosses : crosses_page va width ≡ true) where
      goes_over_page : (crosses_page va width && is_at_ram (spot_of kind va walk)) ≡ true
      goes_over_page = (λ i. crosses i && is_at_ram (ram i))

      two_awaits : (second : Walked) (s : Spot) → spot_of kind (second_va va) second ≡ s
          → ((page : ℕ) → others page ≡ false → is_given page (pages_of kind (AtRam first)) ≡ false → is_given page (pages_of kind s) ≡ false → is_awaited u a page l ≡ false)
          → AwaitsBut others (of_store (Some (record { kind = kind; va = va; width = width })) (λ w. pages_reached w walk second)) u a l
      two_awaits second s e awaits = λ page free out.
          let k = reached_out page kind (spot_of kind va walk) (spot_of kind (second_va va) second) (crosses_page va width && is_at_ram (spot_of kind va walk)) out in
          awaits page free (ap (λ (y : Spot). is_given page (pages_of kind y)) (sym ram) ∙ k.0) (ap (λ (y : Spot). is_given page (pages_of kind y)) (sym e) ∙ k.1 goes_over_page)

      two_walks : (s : Spot) → LeadsTo u.layout.pages a c kind (second_va va) s l
          → ((page : ℕ) → others page ≡ false → is_given page (pages_of kind (AtRam first)) ≡ false → is_given page (pages_of kind s) ≡ false → is_awaited u a page l ≡ false) → Made c kind va width u a l
      two_walks s to awaits = record {
        walks = walk ∷ to.walk ∷ [];
        seen = (seen, crosses, ap is_at_ram ram, to.seen);
        awaits = two_awaits to.walk s to.spot_is awaits;
      }

      two_made : (t : Translated) → (IsLed t → LeadsTo u.layout.pages a c kind (second_va va) (spot t) l)
          → ((page : ℕ) → others page ≡ false → is_given page (pages_of kind (AtRam first)) ≡ false → is_given page (pages_of kind (spot t)) ≡ false → is_awaited u a page l ≡ false) → Made c kind va width u a l
      two_made (gives.Ram pa) to awaits = two_walks (AtRam pa) (to tt) awaits
      two_made (gives.Device pa) to awaits = two_walks (AtDevice pa) (to tt) awaits
      two_made (gives.Fault cause tval) to awaits = two_walks (Faults cause tval) (to tt) awaits
      two_made (gives.Busy busy) to awaits = record { walks = walk ∷ []; seen = seen; awaits = λ page free out. awaits page free (ap (λ (y : Spot). is_given page (pages_of kind y)) (sym ram) ∙ out) (none_given page kind) }

  -- answers are placed
  pub placed_led : (o : Own) (p m : Shown) (b b' : Book) (c : Arch) (kind : Kind) (va : ℕ) (t : Translated) (u : Setup) (a : ℕ) (l : Log) → Translates p m b b' (regime c) kind va t → Tells o p b (regime c) u a l → ArePlaced va t m
  placed_led o p m b b' c kind va t u a l call x = all_placed p m b b' (regime c) kind va t call.allowed (ap (λ (y : Machine). y.layout) (machine_goes 15 IsOfFill p m call.goes)) (record { items = flushes_in a l; fills = x.fills; goes = x.goes })

  first_placed : (va first : ℕ) (t : Translated) (m : Shown) → t ≡ gives.Ram first → ArePlaced va t m → IsPlaced first va m
  first_placed va first t m e x = subst (λ (y : Translated). ArePlaced va y m) e x

  module _ (o : Own) (p m : Shown) (b b' : Book) (c : Arch) (kind : Kind) (va width : ℕ) (section : Bool) (x : Result Place Got) (u : Setup) (a : ℕ) (l : Log) (w : IsTrue (is_width width)) (can : IsBeside b p) (k : Tells o p b (regime c) u a l) (settled : AwaitsAtMost others u a l) where
    pub arrived : HasReached p m b b' (regime c) kind va width section x → Arrived o m b' c kind va width x u a l
    arrived (by_one t call none is) =
        let d = led o p m b b' c kind va t u a l can call k in
        let placed = placed_led o p m b b' c kind va t u a l call k in
        let awaits : AwaitsBut others (pages_of kind (spot t)) u a (quietly d.added l) = λ page free out. d.marks page out ∙ settled page free in record {
          late = quietly d.added l;
          grows = d.grows;
          tells = d.tells;
          clear = d.clear;
          shows = λ ok.
              let there = subst IsReached is ok in
              let to = d.leads_to (one_led kind va width section t there) in record {
                walk = to.walk;
                second = to.walk;
                seen = record { first_page = to.seen; second_page = λ crosses ram. absurd (no_second va width t none crosses (subst (λ s. IsTrue (is_at_ram s)) to.spot_is ram)) };
                reach_is = ap (λ s. if crosses_page va width then two_pages kind va width s (spot_of kind (second_va va) to.walk) else one_page width s) to.spot_is
                    ∙ one_reach kind va width section t m (spot_of kind (second_va va) to.walk) none placed there ∙ ap (reached_as width) (sym is);
              };
          made = one_made c kind va width u a (quietly d.added l) t d.leads_to awaits;
          awaits = λ ok. let to = d.leads_to (one_led kind va width section t (subst IsReached is ok)) in one_awaits c kind va width u a (quietly d.added l) to.walk (spot t) to.spot_is awaits;
          apart = subst AreApart (sym is) (first_apart kind va width section t m placed);
        }
    arrived (by_two mid between t first call some y) =
        let d = led o p mid b between c kind va t u a l can call k in
        let placed = placed_led o p mid b between c kind va t u a l call k in
        let over = goes_over va width first t mid w some placed in
        let e = led o mid m between b' c kind (second_va va) y.found u a (quietly d.added l) call.beside y.translates d.tells in
        let one = d.leads_to (subst IsLed (sym over.is) tt) in
        let ram : spot_of kind va one.walk ≡ AtRam first = one.spot_is ∙ ap spot over.is in
        let seen = seen_quietly u.layout.pages a c kind va one.walk e.added (quietly d.added l) one.seen in
        let awaits : (page : ℕ) → others page ≡ false → is_given page (pages_of kind (AtRam first)) ≡ false → is_given page (pages_of kind (spot y.found)) ≡ false → is_awaited u a page (quietly e.added (quietly d.added l)) ≡ false
        = λ page free out more. e.marks page more ∙ d.marks page (ap (λ (x : Translated). is_given page (pages_of kind (spot x))) over.is ∙ out) ∙ settled page free in record {
          late = quietly e.added (quietly d.added l);
          grows = grows_then u a l (quietly d.added l) d.grows e.grows;
          tells = e.tells;
          clear = e.clear;
          shows = λ ok.
              let there = subst IsReached y.result_is ok in
              let two = e.leads_to (two_led kind (second_va va) first section y.found there) in
              record {
                walk = one.walk;
                second = two.walk;
                seen = record { first_page = seen; second_page = λ crosses at_ram. two.seen };
                reach_is = ap (λ (t : Bool). if t then two_pages kind va width (spot_of kind va one.walk) (spot_of kind (second_va va) two.walk) else one_page width (spot_of kind va one.walk)) (some_crosses va width first t some)
                    ∙ ap (λ s. two_pages kind va width s (spot_of kind (second_va va) two.walk)) ram ∙ ap (second_page kind va width first) two.spot_is
                    ∙ two_reach kind va width first section y.found over.over there ∙ ap (reached_as width) (sym y.result_is);
              };
          made = two_made c kind va width u a (quietly e.added (quietly d.added l)) first one.walk seen ram (some_crosses va width first t some) y.found e.leads_to awaits;
          awaits = λ ok. let two = e.leads_to (two_led kind (second_va va) first section y.found (subst IsReached y.result_is ok)) in
              two_awaits c kind va width u a (quietly e.added (quietly d.added l)) first one.walk seen ram (some_crosses va width first t some) two.walk (spot y.found) two.spot_is awaits;
          apart = subst AreApart (sym y.result_is) (second_apart kind va width first section y.found mid m w (some_crosses va width first t some) (first_placed va first t mid over.is placed)
              (placed_led o mid m between b' c kind (second_va va) y.found u a (quietly d.added l) y.translates d.tells));
        }
