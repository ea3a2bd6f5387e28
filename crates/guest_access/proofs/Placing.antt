-- Where an atomic access leads.
use Rattle.std.proofs.Common.{Err, ◌≡◌, ℕ, ◌+◌, ◌%◌, ◌≤◌, Bool, true, false, List, arith, sym, subst, refl}
use Rattle.rv64_priv.specs.declared.state.Kind.{Kind}
use Rattle.rv64_priv.specs.declared.state.Regime.{Regime}
use Rattle.rv64_priv.specs.Trap.{access_fault}
use Rattle.machine_model.specs.Perform.{is_misaligned, width_of}
use Rattle.guest_ram.specs.Ports.{Shown, GoesBy}
use Rattle.walk_laws.specs.KeptWalks.{Item}
use Rattle.tlb_entry.specs.declared.books.Book.{Book}
use Rattle.kept_fills.specs.Beside.{IsBeside}
use Rattle.kept_fills.specs.Fills.{Fill, GoesWithFills}
use Rattle.tlb_fill.specs.Answered.{AnswersAllowed, ArmsFor}
use Rattle.tlb_fill.specs.Stepping.{HasTranslated, IsOfFill}
use Rattle.tlb_fill.specs.declared.translation.Translated.{Translated}
use Rattle.tlb_fill.specs.declared.translation.Translated.TheVariants as gives
use Rattle.guest_access.specs.declared.outcomes.Got.TheVariants as gets
use Rattle.guest_access.specs.Atomics.{HasPlaced, at_none, on_device, misaligned}
use Rattle.guest_access.specs.Reaching.{CanAccess, KnowsFills}
use Rattle.guest_access.specs.Stepping.{IsIn}
use Rattle.guest_access.proofs.Followed.{Follows, follows}

-- a translation under the regime of the registers
pub follows_by : (p q : Shown) (b b' : Book) (r' r : Regime) (kind : Kind) (va : ℕ) (t : Translated) → r' ≡ r → CanAccess b p → KnowsFills b r p → HasTranslated p q b b' r' va kind t
    → ((items : List Item) (fills : List Fill) → GoesWithFills p b r' items fills → AnswersAllowed p q b' r' va kind t items fills) → ArmsFor kind q t → IsBeside b' q → GoesBy 15 IsOfFill p q
    → Follows p q b b' r kind va t
follows_by p q b b' r' r kind va t e k fills made allowed arms beside goes = subst (λ (y : Regime). Follows p q b b' y kind va t) e
    (follows p q b b' r' kind va t k (subst (λ (y : Regime). KnowsFills b y p) (sym e) fills) made allowed arms beside goes)

pub misplaced : (b : Book) (r : Regime) (p : Shown) (kind : Kind) (va cause : ℕ) (wide : Bool) → cause ≡ misaligned kind → is_misaligned wide va ≡ true → HasPlaced p p b b r kind va wide (Err (gets.Fault cause va))
misplaced b r p kind va cause wide e is = subst (λ n. HasPlaced p p b b r kind va wide (Err (gets.Fault n va))) (sym e) (at_none is refl refl)

pub on_one : (p q : Shown) (b b' : Book) (r : Regime) (kind : Kind) (va pa cause : ℕ) (wide : Bool) → cause ≡ access_fault kind → is_misaligned wide va ≡ false → Follows p q b b' r kind va (gives.Device pa)
    → HasPlaced p q b b' r kind va wide (Err (gets.Fault cause va))
on_one p q b b' r kind va pa cause wide e is f = subst (λ n. HasPlaced p q b b' r kind va wide (Err (gets.Fault n va))) (sym e) (on_device is f.translates)

-- an aligned access lies in one word
aligned_within : (wide : Bool) (pa va : ℕ) → is_misaligned wide va ≡ false → pa % 4096 ≡ va % 4096 → pa % 8 + width_of wide ≤ 8
aligned_within true pa va is same = let z : va % 8 ≡ 0 = grind (arith, is) in omega (arith, z, same)
aligned_within false pa va is same = let z : va % 4 ≡ 0 = grind (arith, is) in omega (arith, z, same)

pub word_placed : (p q : Shown) (b b' : Book) (r : Regime) (kind : Kind) (va pa : ℕ) (wide : Bool) → is_misaligned wide va ≡ false → Follows p q b b' r kind va (gives.Ram pa) → IsIn pa q × (pa % 8 + width_of wide ≤ 8)
word_placed p q b b' r kind va pa wide is f = (f.placed.there, aligned_within wide pa va is f.placed.offset)
