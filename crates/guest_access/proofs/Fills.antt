-- By which fills a book goes with the record over the parts of an access.
use Rattle.std.proofs.Common.{◌≡◌, ℕ, ◌+◌, ◌*◌, ◌<◌, ◌≤◌, ◌%◌, ◌/◌, ◌^◌, true, false, List, [], ◌++◌, refl, sym, ap, subst, ◌∙◌, append_assoc, arith, ⊎_elim, true≢false}
use Rattle.std.specs.Prelude.{nat_le, nat_lt}
use Rattle.std.proofs.lemmas.Bool.{and_parts, or_cases}
use Rattle.rv64_priv.specs.declared.state.Kind.{Kind}
use Rattle.rv64_priv.specs.declared.state.Kind.TheVariants as kinds
use Rattle.rv64_priv.specs.declared.state.Regime.{Regime}
use Rattle.rv64_priv.specs.Walk.{is_ram, is_device, is_reachable}
use Rattle.step_laws.specs.Map.{Word}
use Rattle.guest_ram.specs.Ports.{Shown, GoesBy, layout_of}
use Rattle.walk_laws.specs.KeptWalks.{Item, made_all}
use Rattle.tlb_entry.specs.declared.books.Book.{Book}
use Rattle.tlb_table.proofs.Aside.{IsOffTable}
use Rattle.kept_fills.specs.Fills.{Fill, GoesWithFills}
use Rattle.kept_fills.proofs.Staying.{fills_stay}
use Rattle.tlb_fill.specs.Answered.{AnswersAllowed, IsLeafAt}
use Rattle.tlb_fill.specs.Stepping.{place_in}
use Rattle.tlb_fill.specs.declared.translation.Translated.{Translated}
use Rattle.tlb_fill.specs.declared.translation.Translated.TheVariants as gives
use Rattle.tlb_fill.proofs.Allowed.{made_append}
use Rattle.tlb_fill.proofs.Entering.{good_walk}
use Rattle.tlb_fill.proofs.Marking.{same_goes}
use Rattle.guest_access.specs.Reaching.{GoesOn, KnowsFills}
use Rattle.guest_access.specs.Stepping.{IsIn}

-- over a translation
pub on_translation : (p q : Shown) (b b' : Book) (r : Regime) (kind : Kind) (va : ℕ) (t : Translated) → ((items : List Item) (fills : List Fill) → GoesWithFills p b r items fills → AnswersAllowed p q b' r va kind t items fills) → GoesOn p q b b' r
on_translation p q b b' r kind va t allowed items fills g = let x = allowed items fills g in record { added = x.added; steps_are = x.steps_are; more = x.more; goes = x.goes }

-- one after another
pub on_then : (p m q : Shown) (b b' b'' : Book) (r : Regime) → GoesOn p m b b' r → GoesOn m q b' b'' r → GoesOn p q b b'' r
on_then p m q b b' b'' r first second items fills g =
    let x = first items fills g in
    let y = second (made_all x.added ++ items) (x.more ++ fills) x.goes in record {
      added = y.added ++ x.added;
      steps_are = y.steps_are ∙ ap (λ l. y.added ++ l) x.steps_are ∙ sym (append_assoc y.added x.added p.own.steps);
      more = y.more ++ x.more;
      goes = subst (λ (l : List Item). GoesWithFills q b'' r l ((y.more ++ x.more) ++ fills)) (sym (made_append y.added x.added items))
          (subst (λ (l : List Fill). GoesWithFills q b'' r (made_all y.added ++ (made_all x.added ++ items)) l) (sym (append_assoc y.more x.more fills)) y.goes);
    }

-- over steps on no word of a table
pub on_aside : (n : ℕ) (A : Word → Type 0) (b : Book) (r : Regime) (p q : Shown) → ((w : Word) → A w → IsOffTable w) → GoesBy n A p q → GoesOn p q b b r
on_aside n A b r p q aside goes items fills g = record {
  added = goes.added;
  steps_are = ap (λ (x : Shown). x.own.steps) goes.grown;
  more = [];
  goes = fills_stay p q b r items fills goes.added (ap (λ (x : Shown). x.own.steps) goes.grown) (same_goes n A p q aside goes) g;
}

pub on_none : (b : Book) (r : Regime) (p : Shown) → GoesOn p p b b r
on_none b r p items fills g = record { added = []; steps_are = refl; more = []; goes = g }

pub knows_on : (p q : Shown) (b b' : Book) (r : Regime) → GoesOn p q b b' r → KnowsFills b r p → KnowsFills b' r q
knows_on p q b b' r on k = let x = on k.items k.fills k.goes in record { items = made_all x.added ++ k.items; fills = x.more ++ k.fills; goes = x.goes }

-- an address that was answered is in RAM, with the virtual one's offset in its page
pub record IsPlaced (at va : ℕ) (p : Shown) : Type 0 where
  pub there : IsIn at p
  pub offset : at % 4096 ≡ va % 4096

ram_reached : (pages : ℕ) (kind : Kind) (address : ℕ) → is_reachable pages kind address ≡ true → is_device address ≡ false → is_ram pages address ≡ true
ram_reached pages kinds.Fetch address e d = e
ram_reached pages kinds.Load address e d = ⊎_elim (λ (x : is_ram pages address ≡ true). x) (λ (x : is_device address ≡ true). absurd (true≢false (sym x ∙ d))) (or_cases (is_ram pages address) (is_device address) e)
ram_reached pages kinds.Store address e d = ⊎_elim (λ (x : is_ram pages address ≡ true). x) (λ (x : is_device address ≡ true). absurd (true≢false (sym x ∙ d))) (or_cases (is_ram pages address) (is_device address) e)

placed_in : (pages address at va : ℕ) → is_ram pages address ≡ true → at ≡ place_in address va → (2 ^ 31 ≤ at) × (at < 2 ^ 31 + 4096 * pages) × (at % 4096 ≡ va % 4096)
placed_in pages address at va e is =
    let low : 2147483648 ≤ address = grind (arith, (and_parts (nat_le 2147483648 address) (nat_lt address (2147483648 + 4096 * pages)) e).0) in
    let high : address < 2147483648 + 4096 * pages = grind (arith, (and_parts (nat_le 2147483648 address) (nat_lt address (2147483648 + 4096 * pages)) e).1) in
    let j : at ≡ address / 4096 * 4096 + va % 4096 = is in
    (omega (arith, low, j), omega (arith, high, j), omega (arith, j))

leaf_placed : (p : Shown) (r : Regime) (kind : Kind) (va at : ℕ) (items : List Item) → IsLeafAt (layout_of p).pages r kind va false at items → IsPlaced at va p
leaf_placed p r kind va at items x =
    let good = good_walk (layout_of p).pages r kind x.kept.finds va x.pte x.address x.level x.kept.is_end in
    let k = placed_in (layout_of p).pages x.address at va (ram_reached (layout_of p).pages kind x.address good.reached x.device_is) x.at_is in
    record { there = record { above = k.0; below = k.1 }; offset = k.2 }

pub translation_placed : (p q : Shown) (b b' : Book) (r : Regime) (kind : Kind) (va at : ℕ) → ((items : List Item) (fills : List Fill) → GoesWithFills p b r items fills → AnswersAllowed p q b' r va kind (gives.Ram at) items fills)
    → layout_of q ≡ layout_of p → KnowsFills b r p → IsPlaced at va q
translation_placed p q b b' r kind va at allowed same k = let x = allowed k.items k.fills k.goes in
    moved (leaf_placed p r kind va at (made_all x.added ++ k.items) x.allowed)
  where
    moved : IsPlaced at va p → IsPlaced at va q
    moved y = record { there = record { above = y.there.above; below = subst (λ l. at < 2 ^ 31 + 4096 * l.pages) (sym same) y.there.below }; offset = y.offset }
