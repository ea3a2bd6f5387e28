-- What each answer of a translation comes to for an access.
use Rattle.std.proofs.Common.{◌≡◌, ℕ, ◌+◌, ◌*◌, ◌<◌, ◌≤◌, ◌%◌, ◌^◌, Bool, true, false, List, Option, Some, None, Ok, Err, refl, ap, subst, ◌∙◌, arith, leb-true}
use Rattle.std.specs.Prelude.{◌==◌, ◌/◌, nat_le, if◌then◌else◌, IsTrue}
use Rattle.rv64_priv.specs.declared.state.Kind.{Kind}
use Rattle.rv64_priv.specs.declared.state.Kind.TheVariants.{Store}
use Rattle.rv64_priv.specs.declared.state.Regime.{Regime}
use Rattle.rv64_priv.specs.Trap.{access_fault}
use Rattle.rv64_exec.specs.Widths.{is_width}
use Rattle.machine_model.specs.Access.{crosses_page}
use Rattle.guest_ram.specs.Ports.{Shown, layout_of, IsActing}
use Rattle.walk_laws.specs.KeptWalks.{Item}
use Rattle.tlb_entry.specs.declared.books.Book.{Book}
use Rattle.kept_fills.specs.Fills.{Fill, GoesWithFills}
use Rattle.tlb_fill.specs.Answered.{AnswersAllowed, ArmsFor}
use Rattle.tlb_fill.specs.Stepping.{IsArmedAt}
use Rattle.tlb_fill.specs.declared.translation.Translated.{Translated}
use Rattle.tlb_fill.specs.declared.translation.Translated.TheVariants as gives
use Rattle.guest_access.specs.declared.outcomes.Got.TheVariants as gets
use Rattle.guest_access.specs.declared.reaching.Place.TheVariants as at
use Rattle.guest_access.specs.Reaching.{AreArmed, AreIn, IsLow, KnowsFills, first_reached, over_from, second_reached}
use Rattle.guest_access.specs.Stepping.{IsIn}
use Rattle.guest_access.proofs.Fills.{IsPlaced, translation_placed}

-- an answer in RAM is placed there
abbrev pub ArePlaced : (va : ℕ) → Translated → Shown → Type 0
ArePlaced va (gives.Ram pa) q = IsPlaced pa va q
ArePlaced va _ q = Unit {0}

pub all_placed : (p q : Shown) (b b' : Book) (r : Regime) (kind : Kind) (va : ℕ) (t : Translated) → ((items : List Item) (fills : List Fill) → GoesWithFills p b r items fills → AnswersAllowed p q b' r va kind t items fills)
    → layout_of q ≡ layout_of p → KnowsFills b r p → ArePlaced va t q
all_placed p q b b' r kind va (gives.Ram pa) allowed same k = translation_placed p q b b' r kind va pa allowed same k
all_placed p q b b' r kind va (gives.Device pa) allowed same k = tt
all_placed p q b b' r kind va (gives.Fault cause tval) allowed same k = tt
all_placed p q b b' r kind va (gives.Busy busy) allowed same k = tt

pub low_placed : (va : ℕ) (t : Translated) (q : Shown) → IsActing q → ArePlaced va t q → IsLow t
low_placed va (gives.Ram pa) q acting x = let few : q.machine.layout.pages ≤ 4096 = acting.limits.pages in let high = x.there.below in omega (arith, few, high)
low_placed va (gives.Device pa) q acting x = tt
low_placed va (gives.Fault cause tval) q acting x = tt
low_placed va (gives.Busy busy) q acting x = tt

-- the second page
pub second_in : (width next first : ℕ) (kind : Kind) (section : Bool) (t : Translated) (q : Shown) → 8 < first % 8 + width → IsIn first q → ArePlaced next t q → AreIn width (second_reached kind next first section t) q
second_in width next first kind true (gives.Ram pa) q over there x = (there, x.there, over)
second_in width next first kind false (gives.Ram pa) q over there x = tt
second_in width next first kind section (gives.Device pa) q over there x = tt
second_in width next first kind section (gives.Fault cause tval) q over there x = tt
second_in width next first kind section (gives.Busy busy) q over there x = tt

pub second_armed : (next first : ℕ) (kind : Kind) (section : Bool) (t : Translated) (q : Shown) → (kind ≡ Store → IsArmedAt first q) → ArmsFor kind q t → kind ≡ Store → AreArmed (second_reached kind next first section t) q
second_armed next first kind true (gives.Ram pa) q one two store = (one store, two store)
second_armed next first kind false (gives.Ram pa) q one two store = tt
second_armed next first kind section (gives.Device pa) q one two store = tt
second_armed next first kind section (gives.Fault cause tval) q one two store = tt
second_armed next first kind section (gives.Busy busy) q one two store = tt

-- a page's answer where no second one is translated
one_width : (width : ℕ) → IsTrue (is_width width) → width ≤ 8
one_width width k = grind (arith, k)

-- bytes that go on into the next word of the page
within_in : (pa va width pages : ℕ) (le section : Bool) (q : Shown) → width ≤ 8 → nat_le (pa % 8 + width) 8 ≡ le → crosses_page va width ≡ false → IsPlaced pa va q
    → AreIn width (if le then Ok (at.Word pa) else if section then Ok (at.Words pa (pa + 8)) else Err gets.NeedsSection) q
within_in pa va width pages true section q few e one x = (x.there, leb-true (pa % 8 + width) 8 e)
within_in pa va width pages false false q few e one x = tt
within_in pa va width pages false true q few e one x =
    let over : 8 < pa % 8 + width = grind (arith, e) in
    let page : va % 4096 + width ≤ 4096 = grind (arith, one) in
    let same = x.offset in let low = x.there.above in let high = x.there.below in
    (x.there, record { above = omega (arith, low); below = next_below pa va width q.machine.layout.pages few over page same high }, over)
  where
    next_below : (pa va width pages : ℕ) → width ≤ 8 → 8 < pa % 8 + width → va % 4096 + width ≤ 4096 → pa % 4096 ≡ va % 4096 → pa < 2 ^ 31 + 4096 * pages → pa + 8 < 2 ^ 31 + 4096 * pages
    next_below pa va width pages few over page same high = omega (arith, few, over, page, same, high)

pub first_in : (va width : ℕ) (kind : Kind) (section : Bool) (t : Translated) (q : Shown) → IsTrue (is_width width) → over_from va width t ≡ None → ArePlaced va t q → AreIn width (first_reached kind va width section t) q
first_in va width kind section (gives.Ram pa) q w none x = within_in pa va width 0 (nat_le (pa % 8 + width) 8) section q (one_width width w) refl (stays (crosses_page va width) none) x
  where
    stays : (c : Bool) → (if c then Some pa else None) ≡ None → c ≡ false
    stays false e = refl
    stays true e = cc
first_in va width kind section (gives.Device pa) q w none x = by (crosses_page va width)
  where
    by : (c : Bool) → AreIn width (if c then Err (gets.Fault (access_fault kind) va) else Ok (at.Device pa)) q
    by true = tt
    by false = tt
first_in va width kind section (gives.Fault cause tval) q w none x = tt
first_in va width kind section (gives.Busy busy) q w none x = tt

-- the next word of the page is of the same page
armed_next : (pa va width : ℕ) (q : Shown) → width ≤ 8 → 8 < pa % 8 + width → va % 4096 + width ≤ 4096 → pa % 4096 ≡ va % 4096 → IsArmedAt pa q → IsArmedAt (pa + 8) q
armed_next pa va width q few over page same a number less is = a number less (ap (λ n. n == 2 ^ 31 / 4096 + number) (one pa va width few over page same) ∙ is)
  where
    one : (pa va width : ℕ) → width ≤ 8 → 8 < pa % 8 + width → va % 4096 + width ≤ 4096 → pa % 4096 ≡ va % 4096 → pa / 4096 ≡ (pa + 8) / 4096
    one pa va width few over page same = omega (arith, few, over, page, same)

within_armed : (pa va width : ℕ) (le section : Bool) (q : Shown) → width ≤ 8 → nat_le (pa % 8 + width) 8 ≡ le → crosses_page va width ≡ false → pa % 4096 ≡ va % 4096 → IsArmedAt pa q
    → AreArmed (if le then Ok (at.Word pa) else if section then Ok (at.Words pa (pa + 8)) else Err gets.NeedsSection) q
within_armed pa va width true section q few e one same a = a
within_armed pa va width false false q few e one same a = tt
within_armed pa va width false true q few e one same a =
    let over : 8 < pa % 8 + width = grind (arith, e) in
    let page : va % 4096 + width ≤ 4096 = grind (arith, one) in
    (a, armed_next pa va width q few over page same a)

pub first_armed : (va width : ℕ) (kind : Kind) (section : Bool) (t : Translated) (q : Shown) → IsTrue (is_width width) → over_from va width t ≡ None → ArePlaced va t q → ArmsFor kind q t → kind ≡ Store
    → AreArmed (first_reached kind va width section t) q
first_armed va width kind section (gives.Ram pa) q w none x arms store = within_armed pa va width (nat_le (pa % 8 + width) 8) section q (one_width width w) refl (stays (crosses_page va width) none) x.offset (arms store)
  where
    stays : (c : Bool) → (if c then Some pa else None) ≡ None → c ≡ false
    stays false e = refl
    stays true e = cc
first_armed va width kind section (gives.Device pa) q w none x arms store = by (crosses_page va width)
  where
    by : (c : Bool) → AreArmed (if c then Err (gets.Fault (access_fault kind) va) else Ok (at.Device pa)) q
    by true = tt
    by false = tt
first_armed va width kind section (gives.Fault cause tval) q w none x arms store = tt
first_armed va width kind section (gives.Busy busy) q w none x arms store = tt

-- and where one is: it is in RAM, and the access goes on into a word of that page
pub record GoesOver (va width first : ℕ) (t : Translated) (q : Shown) : Type 0 where
  pub is : t ≡ gives.Ram first
  pub there : IsIn first q
  pub over : 8 < first % 8 + width

pub goes_over : (va width first : ℕ) (t : Translated) (q : Shown) → IsTrue (is_width width) → over_from va width t ≡ Some first → ArePlaced va t q → GoesOver va width first t q
goes_over va width first (gives.Ram pa) q w some x = by (crosses_page va width) refl some
  where
    by : (c : Bool) → crosses_page va width ≡ c → (if c then Some pa else None) ≡ Some first → GoesOver va width first (gives.Ram pa) q
    by false k e = cc
    by true k e = let same : pa ≡ first = ap (λ (o : Option ℕ). or_else pa o) e in record {
      is = ap (λ n. gives.Ram n) same;
      there = subst (λ n. IsIn n q) same x.there;
      over = subst (λ n. 8 < n % 8 + width) same (past pa va width (one_width width w) (let c : 4096 < va % 4096 + width = grind (arith, k) in c) x.offset);
    }
      where
        or_else : ℕ → Option ℕ → ℕ
        or_else d None = d
        or_else d (Some n) = n

        past : (pa va width : ℕ) → width ≤ 8 → 4096 < va % 4096 + width → pa % 4096 ≡ va % 4096 → 8 < pa % 8 + width
        past pa va width few c same = omega (arith, few, c, same)
goes_over va width first (gives.Device pa) q w some x = cc
goes_over va width first (gives.Fault cause tval) q w some x = cc
goes_over va width first (gives.Busy busy) q w some x = cc
