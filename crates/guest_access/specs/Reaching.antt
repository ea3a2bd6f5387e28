-- Where an access leads.
use Rattle.std.specs.Prelude.{◌≡◌, ℕ, ◌+◌, ◌%◌, ◌^◌, ◌<◌, ◌≤◌, nat_le, Bool, List, ◌++◌, if◌then◌else◌, Option, Some, None, Result, Ok, Err}
use Rattle.rv64_priv.specs.declared.state.Kind.{Kind}
use Rattle.rv64_priv.specs.declared.state.Regime.{Regime}
use Rattle.rv64_priv.specs.Trap.{access_fault}
use Rattle.step_laws.specs.declared.steps.Step.{Step}
use Rattle.step_laws.specs.Sections.{MayTouch}
use Rattle.machine_model.specs.Access.{crosses_page, second_va}
use Rattle.guest_ram.specs.Ports.{Shown, GoesBy, layout_of}
use Rattle.walk_laws.specs.KeptWalks.{Item, made_all}
use Rattle.tlb_entry.specs.declared.books.Book.{Book}
use Rattle.kept_fills.specs.Beside.{IsBeside}
use Rattle.kept_fills.specs.Fills.{Fill, GoesWithFills}
use Rattle.tlb_fill.specs.Answered.{AnswersAllowed}
use Rattle.tlb_fill.specs.Stepping.{HasTranslated, IsArmedAt, IsOfFill}
use Rattle.tlb_fill.specs.declared.translation.Translated.{Translated}
use Rattle.tlb_fill.specs.declared.translation.Translated.TheVariants as gives
use Rattle.guest_access.specs.Stepping.{IsIn}
use Rattle.guest_access.specs.declared.outcomes.Got.{Got}
use Rattle.guest_access.specs.declared.outcomes.Got.TheVariants as gets
use Rattle.guest_access.specs.declared.reaching.Place.{Place}
use Rattle.guest_access.specs.declared.reaching.Place.TheVariants as at

-- a hart beside its table, inside or in its section
pub record CanAccess (b : Book) (p : Shown) : Type 0 where
  pub beside : IsBeside b p
  pub touch : MayTouch (layout_of p) p.own.actor p.own.steps

-- the book goes with the record by some fills, of walks under a regime with this satp, SUM and MXR
pub record KnowsFills (b : Book) (r : Regime) (p : Shown) : Type 0 where
  pub items : List Item
  pub fills : List Fill
  pub goes : GoesWithFills p b r items fills

-- by whatever fills the book went with the record, with some more it goes with the longer one
pub record GoesFurther (p q : Shown) (b' : Book) (r : Regime) (items : List Item) (fills : List Fill) : Type 0 where
  pub added : List Step
  pub steps_are : q.own.steps ≡ added ++ p.own.steps
  pub more : List Fill
  pub goes : GoesWithFills q b' r (made_all added ++ items) (more ++ fills)

abbrev pub GoesOn : (p q : Shown) (b b' : Book) → Regime → Type 0
GoesOn p q b b' r = (items : List Item) (fills : List Fill) → GoesWithFills p b r items fills → GoesFurther p q b' r items fills

-- a page was translated: by these steps, and allowed by whatever fills the book went with; the hart is beside its table behind them
pub record Translates (p q : Shown) (b b' : Book) (r : Regime) (kind : Kind) (va : ℕ) (t : Translated) : Type 0 where
  pub made : HasTranslated p q b b' r va kind t
  pub allowed : (items : List Item) (fills : List Fill) → GoesWithFills p b r items fills → AnswersAllowed p q b' r va kind t items fills
  pub goes : GoesBy 15 IsOfFill p q
  pub beside : IsBeside b' q

-- within a page of RAM: bytes of one word, or of two, for which the section is needed
abbrev pub within_page : (pa width : ℕ) → (section : Bool) → Result Place Got
within_page pa width section =
    if nat_le (pa % 8 + width) 8 then Ok (at.Word pa) else if section then Ok (at.Words pa (pa + 8)) else Err gets.NeedsSection

-- what the first page's translation comes to, where the access doesn't go on from RAM into the next page; no device takes an access over its
-- page's end
abbrev pub first_reached : Kind → (va width : ℕ) → (section : Bool) → Translated → Result Place Got
first_reached kind va width section (gives.Ram pa) = within_page pa width section
first_reached kind va width section (gives.Device pa) = if crosses_page va width then Err (gets.Fault (access_fault kind) va) else Ok (at.Device pa)
first_reached kind va width section (gives.Fault cause tval) = Err (gets.Fault cause tval)
first_reached kind va width section (gives.Busy busy) = Err (gets.Busy busy)

-- what the second page's translation comes to, for an access whose first page is in RAM
abbrev pub second_reached : Kind → (next first : ℕ) → (section : Bool) → Translated → Result Place Got
second_reached kind next first section (gives.Ram second) = if section then Ok (at.Words first second) else Err gets.NeedsSection
second_reached kind next first section (gives.Device pa) = Err (gets.Fault (access_fault kind) next)
second_reached kind next first section (gives.Fault cause tval) = Err (gets.Fault cause tval)
second_reached kind next first section (gives.Busy busy) = Err (gets.Busy busy)

-- the address in RAM from which the access goes on into the next page
abbrev pub over_from : (va width : ℕ) → Translated → Option ℕ
over_from va width (gives.Ram pa) = if crosses_page va width then Some pa else None
over_from va width _ = None

-- no address in RAM is near the last one
abbrev pub IsLow : Translated → Type 0
IsLow (gives.Ram pa) = pa < 2 ^ 63
IsLow _ = Unit {0}

-- the second page was translated
pub record HasReachedSecond (p q : Shown) (b b' : Book) (r : Regime) (kind : Kind) (va first : ℕ) (section : Bool) (result : Result Place Got) : Type 0 where
  pub found : Translated
  pub translates : Translates p q b b' r kind (second_va va) found
  pub result_is : result ≡ second_reached kind (second_va va) first section found

-- the first page was translated, and then the second one where the access goes on there from RAM
pub data HasReached (p q : Shown) (b b' : Book) (r : Regime) (kind : Kind) (va width : ℕ) (section : Bool) (result : Result Place Got) : Type 0 where
  by_one : (found : Translated) → Translates p q b b' r kind va found → over_from va width found ≡ None → result ≡ first_reached kind va width section found
      → HasReached p q b b' r kind va width section result
  by_two : (mid : Shown) (between : Book) (found : Translated) (first : ℕ) → Translates p mid b between r kind va found → over_from va width found ≡ Some first
      → HasReachedSecond mid q between b' r kind va first section result → HasReached p q b b' r kind va width section result

-- the words that it leads to are in RAM: the one that has all its bytes, or the two over which they lie
abbrev pub AreIn : (width : ℕ) → Result Place Got → Shown → Type 0
AreIn width (Ok (at.Word pa)) p = IsIn pa p × (pa % 8 + width ≤ 8)
AreIn width (Ok (at.Words first second)) p = IsIn first p × IsIn second p × (8 < first % 8 + width)
AreIn width (Ok (at.Device pa)) p = Unit {0}
AreIn width (Err got) p = Unit {0}

-- and the hart may store there
abbrev pub AreArmed : Result Place Got → Shown → Type 0
AreArmed (Ok (at.Word pa)) p = IsArmedAt pa p
AreArmed (Ok (at.Words first second)) p = IsArmedAt first p × IsArmedAt second p
AreArmed (Ok (at.Device pa)) p = Unit {0}
AreArmed (Err got) p = Unit {0}
