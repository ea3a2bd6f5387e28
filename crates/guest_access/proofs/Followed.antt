-- A translation as a part of an access.
use Rattle.std.proofs.Common.{◌≡◌, ℕ, ◌+◌, ◌<◌, ◌%◌, Bool, List, None, Result, sym, ap, subst, ◌∙◌}
use Rattle.rv64_priv.specs.declared.state.Kind.{Kind}
use Rattle.rv64_priv.specs.declared.state.Kind.TheVariants.{Store}
use Rattle.rv64_priv.specs.declared.state.Regime.{Regime}
use Rattle.std.specs.Prelude.{IsTrue}
use Rattle.rv64_exec.specs.Widths.{is_width}
use Rattle.machine_model.specs.Access.{second_va}
use Rattle.guest_ram.specs.Ports.{Shown, Machine, GoesBy}
use Rattle.guest_ram.proofs.Moves.{machine_goes}
use Rattle.walk_laws.specs.KeptWalks.{Item}
use Rattle.tlb_entry.specs.declared.books.Book.{Book}
use Rattle.kept_fills.specs.Beside.{IsBeside}
use Rattle.kept_fills.specs.Fills.{Fill, GoesWithFills}
use Rattle.tlb_fill.specs.Answered.{AnswersAllowed, ArmsFor}
use Rattle.tlb_fill.specs.Stepping.{HasTranslated, IsArmedAt, IsOfFill}
use Rattle.tlb_fill.specs.declared.translation.Translated.{Translated}
use Rattle.guest_access.specs.declared.outcomes.Got.{Got}
use Rattle.guest_access.specs.declared.reaching.Place.{Place}
use Rattle.guest_access.specs.Reaching.{AreArmed, AreIn, CanAccess, GoesOn, HasReachedSecond, KnowsFills, Translates, first_reached, over_from, second_reached}
use Rattle.guest_access.specs.Stepping.{IsIn}
use Rattle.guest_access.proofs.Arms.{ArePlaced, all_placed, first_armed, first_in, second_armed, second_in}
use Rattle.guest_access.proofs.Fills.{on_translation}
use Rattle.guest_access.proofs.Reached.{armed_translated, can_translated, in_goes}

pub record Follows (p q : Shown) (b b' : Book) (r : Regime) (kind : Kind) (va : ℕ) (t : Translated) : Type 0 where
  pub translates : Translates p q b b' r kind va t
  pub goes_on : GoesOn p q b b' r
  pub placed : ArePlaced va t q
  pub arms : ArmsFor kind q t
  pub access : CanAccess b' q

pub follows : (p q : Shown) (b b' : Book) (r : Regime) (kind : Kind) (va : ℕ) (t : Translated) → CanAccess b p → KnowsFills b r p → HasTranslated p q b b' r va kind t
    → ((items : List Item) (fills : List Fill) → GoesWithFills p b r items fills → AnswersAllowed p q b' r va kind t items fills) → ArmsFor kind q t → IsBeside b' q → GoesBy 15 IsOfFill p q
    → Follows p q b b' r kind va t
follows p q b b' r kind va t k fills made allowed arms beside goes = record {
  translates = record { made = made; allowed = allowed; goes = goes; beside = beside };
  goes_on = on_translation p q b b' r kind va t allowed;
  placed = all_placed p q b b' r kind va t allowed (ap (λ (m : Machine). m.layout) (machine_goes 15 IsOfFill p q goes)) fills;
  arms = arms;
  access = can_translated 15 b b' p q goes beside k;
}

-- the second page's, of an access whose first page is in RAM
module _ (p q : Shown) (b b' : Book) (r : Regime) (kind : Kind) (va next first : ℕ) (section : Bool) (t : Translated) (result : Result Place Got) (f : Follows p q b b' r kind next t)
    (is : result ≡ second_reached kind next first section t) where
  pub follows_second : next ≡ second_va va → HasReachedSecond p q b b' r kind va first section result
  follows_second e = record { found = t; translates = subst (λ n. Translates p q b b' r kind n t) e f.translates; result_is = is ∙ ap (λ n. second_reached kind n first section t) e }

  pub follows_in : (width : ℕ) → 8 < first % 8 + width → IsIn first p → AreIn width result q
  follows_in width over there = subst (λ (x : Result Place Got). AreIn width x q) (sym is) (second_in width next first kind section t q over (in_goes 15 IsOfFill first p q f.translates.goes there) f.placed)

  pub follows_armed : (kind ≡ Store → IsArmedAt first p) → kind ≡ Store → AreArmed result q
  follows_armed armed store = subst (λ (x : Result Place Got). AreArmed x q) (sym is) (second_armed next first kind section t q (λ s. armed_translated 15 first p q f.translates.goes (armed s)) f.arms store)

-- where no second page is translated
module _ (p q : Shown) (b b' : Book) (r : Regime) (kind : Kind) (va : ℕ) (t : Translated) (f : Follows p q b b' r kind va t) where
  pub first_follows_in : (width : ℕ) (section : Bool) (result : Result Place Got) → IsTrue (is_width width) → over_from va width t ≡ None → result ≡ first_reached kind va width section t → AreIn width result q
  first_follows_in width section result w none is = subst (λ (x : Result Place Got). AreIn width x q) (sym is) (first_in va width kind section t q w none f.placed)

  pub first_follows_armed : (width : ℕ) (section : Bool) (result : Result Place Got) → IsTrue (is_width width) → over_from va width t ≡ None → result ≡ first_reached kind va width section t → kind ≡ Store → AreArmed result q
  first_follows_armed width section result w none is store = subst (λ (x : Result Place Got). AreArmed x q) (sym is) (first_armed va width kind section t q w none f.placed f.arms store)
