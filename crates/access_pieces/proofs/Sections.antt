-- An access over two words: its hart is in its section, and the words are two.
use Rattle.std.proofs.Common.{◌≡◌, ◌≢◌, ℕ, ◌+◌, ◌%◌, ◌<◌, ◌≤◌, ◌^◌, Bool, true, false, Some, None, Result, Ok, Err, refl, sym, subst, ◌∙◌, arith, leb-true}
use Rattle.std.specs.Prelude.{nat_le, if◌then◌else◌, IsTrue}
use Rattle.rv64_priv.specs.State.{Arch}
use Rattle.rv64_priv.specs.Csr.{regime}
use Rattle.rv64_priv.specs.Trap.{access_fault}
use Rattle.rv64_priv.specs.declared.state.Kind.{Kind}
use Rattle.rv64_exec.specs.Widths.{is_width}
use Rattle.step_laws.specs.Map.{Word}
use Rattle.step_laws.specs.Sections.{IsInSection}
use Rattle.step_laws.specs.Words.{ram_word}
use Rattle.machine_model.specs.Access.{crosses_page, second_va}
use Rattle.guest_ram.specs.Areas.{IsAside, IsOfRam}
use Rattle.guest_ram.specs.Ports.{Shown, GoesBy, layout_of}
use Rattle.guest_ram.proofs.AreaLemmas.{inner_aside, ram_inner}
use Rattle.guest_ram.proofs.Moves.{stands_goes}
use Rattle.tlb_entry.specs.declared.books.Book.{Book}
use Rattle.tlb_fill.specs.Stepping.{IsOfFill}
use Rattle.tlb_fill.specs.declared.translation.Translated.{Translated}
use Rattle.tlb_fill.specs.declared.translation.Translated.TheVariants as gives
use Rattle.guest_access.specs.declared.outcomes.Got.{Got}
use Rattle.guest_access.specs.declared.outcomes.Got.TheVariants as gets
use Rattle.guest_access.specs.declared.reaching.Place.{Place}
use Rattle.guest_access.specs.declared.reaching.Place.TheVariants as at
use Rattle.guest_access.specs.Reaching.{HasReached, by_one, by_two, first_reached, over_from, second_reached}
use Rattle.guest_access.specs.Stepping.{HasStepped}
use Rattle.step_laws.specs.declared.steps.WordOp.{WordOp}
use Rattle.guest_access.proofs.Areas.{fill_aside}
use Rattle.guest_access.proofs.Arms.{ArePlaced}
use Rattle.guest_access.proofs.Fills.{IsPlaced}
use Rattle.guest_access.proofs.Keeping.{goes_stepped}

abbrev pub InSection : Shown → Type 0
InSection p = IsInSection (layout_of p) p.own.actor p.own.steps

section_goes : (n : ℕ) (A : Word → Type 0) (p q : Shown) → ((w : Word) → A w → IsAside w) → GoesBy n A p q → InSection p → InSection q
section_goes n A p q aside goes x = let s = stands_goes n A p q aside goes in (s.claim ∙ x.0, s.pass ∙ x.1)

pub section_stepped : (op : WordOp) (pa arg answer : ℕ) (p q : Shown) → HasStepped op pa arg answer p q → InSection p → InSection q
section_stepped op pa arg answer p q s x = section_goes 1 IsOfRam p q (λ w t. inner_aside w (ram_inner w t)) (goes_stepped op pa arg answer p q s) x

pub section_reached : (p m : Shown) (b b' : Book) (c : Arch) (kind : Kind) (va width : ℕ) (section : Bool) (x : Result Place Got) → HasReached p m b b' (regime c) kind va width section x → InSection p → InSection m
section_reached p m b b' c kind va width section x (by_one t call none e) k = section_goes 15 IsOfFill p m fill_aside call.goes k
section_reached p m b b' c kind va width section x (by_two mid between t first call some y) k = section_goes 15 IsOfFill mid m fill_aside y.translates.goes (section_goes 15 IsOfFill p mid fill_aside call.goes k)

-- two words are reached in the section alone
IsSectioned : (section : Bool) → Result Place Got → Type 0
IsSectioned section (Ok (at.Words first second)) = section ≡ true
IsSectioned section x = Unit {0}

first_sectioned : (kind : Kind) (va width : ℕ) (section : Bool) (t : Translated) → IsSectioned section (first_reached kind va width section t)
unfolding IsSectioned
first_sectioned kind va width section (gives.Ram pa) = by (nat_le (pa % 8 + width) 8) section
  where
    by : (le s : Bool) → IsSectioned s (if le then Ok (at.Word pa) else if s then Ok (at.Words pa (pa + 8)) else Err gets.NeedsSection)
    by true s = tt
    by false true = refl
    by false false = tt
first_sectioned kind va width section (gives.Device pa) = by (crosses_page va width)
  where
    by : (x : Bool) → IsSectioned section (if x then Err (gets.Fault (access_fault kind) va) else Ok (at.Device pa))
    by true = tt
    by false = tt
first_sectioned kind va width section (gives.Fault cause tval) = tt
first_sectioned kind va width section (gives.Busy busy) = tt

second_sectioned : (kind : Kind) (next first : ℕ) (section : Bool) (t : Translated) → IsSectioned section (second_reached kind next first section t)
unfolding IsSectioned
second_sectioned kind next first true (gives.Ram pa) = refl
second_sectioned kind next first false (gives.Ram pa) = tt
second_sectioned kind next first section (gives.Device pa) = tt
second_sectioned kind next first section (gives.Fault cause tval) = tt
second_sectioned kind next first section (gives.Busy busy) = tt

sectioned : (p m : Shown) (b b' : Book) (c : Arch) (kind : Kind) (va width : ℕ) (section : Bool) (x : Result Place Got) → HasReached p m b b' (regime c) kind va width section x → IsSectioned section x
sectioned p m b b' c kind va width section x (by_one t call none e) = subst (IsSectioned section) (sym e) (first_sectioned kind va width section t)
sectioned p m b b' c kind va width section x (by_two mid between t first call some y) = subst (IsSectioned section) (sym y.result_is) (second_sectioned kind (second_va va) first section y.found)

pub words_sectioned : (p m : Shown) (b b' : Book) (c : Arch) (kind : Kind) (va width first second : ℕ) (section : Bool) → HasReached p m b b' (regime c) kind va width section (Ok (at.Words first second)) → section ≡ true
unfolding IsSectioned
words_sectioned p m b b' c kind va width first second section k = sectioned p m b b' c kind va width section (Ok (at.Words first second)) k

-- and they are not one
pub AreApart : Result Place Got → Type 0
AreApart (Ok (at.Words first second)) = ram_word first ≢ ram_word second
AreApart x = Unit {0}

next_apart : (pa : ℕ) → 2 ^ 31 ≤ pa → ram_word pa ≢ ram_word (pa + 8)
next_apart pa low e = omega (arith, low, e)

pub first_apart : (kind : Kind) (va width : ℕ) (section : Bool) (t : Translated) (m : Shown) → ArePlaced va t m → AreApart (first_reached kind va width section t)
unfolding AreApart
first_apart kind va width section (gives.Ram pa) m x = by (nat_le (pa % 8 + width) 8) section
  where
    by : (le s : Bool) → AreApart (if le then Ok (at.Word pa) else if s then Ok (at.Words pa (pa + 8)) else Err gets.NeedsSection)
    by true s = tt
    by false true = next_apart pa x.there.above
    by false false = tt
first_apart kind va width section (gives.Device pa) m x = by (crosses_page va width)
  where
    by : (z : Bool) → AreApart (if z then Err (gets.Fault (access_fault kind) va) else Ok (at.Device pa))
    by true = tt
    by false = tt
first_apart kind va width section (gives.Fault cause tval) m x = tt
first_apart kind va width section (gives.Busy busy) m x = tt

pages_apart : (va width first second : ℕ) → width ≤ 8 → 4096 < va % 4096 + width → 2 ^ 31 ≤ first → 2 ^ 31 ≤ second → first % 4096 ≡ va % 4096 → second % 4096 ≡ second_va va % 4096 → ram_word first ≢ ram_word second
pages_apart va width first second few over low high one two e =
    let z : second_va va % 4096 ≡ 0 = begins va in omega (arith, few, over, low, high, one, two, z, e)
  where
    begins : (va : ℕ) → second_va va % 4096 ≡ 0
    begins va = omega arith

pub second_apart : (kind : Kind) (va width first : ℕ) (section : Bool) (t : Translated) (mid m : Shown) → IsTrue (is_width width) → crosses_page va width ≡ true → IsPlaced first va mid → ArePlaced (second_va va) t m
    → AreApart (second_reached kind (second_va va) first section t)
unfolding AreApart
second_apart kind va width first true (gives.Ram pa) mid m w crosses x y =
    pages_apart va width first pa (let few : width ≤ 8 = grind (arith, w) in few) (let over : 4096 < va % 4096 + width = grind (arith, crosses) in over) x.there.above y.there.above x.offset y.offset
second_apart kind va width first false (gives.Ram pa) mid m w crosses x y = tt
second_apart kind va width first section (gives.Device pa) mid m w crosses x y = tt
second_apart kind va width first section (gives.Fault cause tval) mid m w crosses x y = tt
second_apart kind va width first section (gives.Busy busy) mid m w crosses x y = tt

pub words_apart : (first second : ℕ) → AreApart (Ok (at.Words first second)) → ram_word first ≢ ram_word second
unfolding AreApart
words_apart first second k = k

-- a word has all bytes of an access that leads to it alone
abbrev IsWithin : (width : ℕ) → Result Place Got → Type 0
IsWithin width (Ok (at.Word pa)) = pa % 8 + width ≤ 8
IsWithin width x = Unit {0}

first_within : (kind : Kind) (va width : ℕ) (section : Bool) (t : Translated) → IsWithin width (first_reached kind va width section t)
first_within kind va width section (gives.Ram pa) = by (nat_le (pa % 8 + width) 8) section refl
  where
    by : (le s : Bool) → nat_le (pa % 8 + width) 8 ≡ le → IsWithin width (if le then Ok (at.Word pa) else if s then Ok (at.Words pa (pa + 8)) else Err gets.NeedsSection)
    by true s e = leb-true (pa % 8 + width) 8 e
    by false true e = tt
    by false false e = tt
first_within kind va width section (gives.Device pa) = by (crosses_page va width)
  where
    by : (x : Bool) → IsWithin width (if x then Err (gets.Fault (access_fault kind) va) else Ok (at.Device pa))
    by true = tt
    by false = tt
first_within kind va width section (gives.Fault cause tval) = tt
first_within kind va width section (gives.Busy busy) = tt

second_within : (kind : Kind) (width next first : ℕ) (section : Bool) (t : Translated) → IsWithin width (second_reached kind next first section t)
second_within kind width next first true (gives.Ram pa) = tt
second_within kind width next first false (gives.Ram pa) = tt
second_within kind width next first section (gives.Device pa) = tt
second_within kind width next first section (gives.Fault cause tval) = tt
second_within kind width next first section (gives.Busy busy) = tt

reach_within : (p m : Shown) (b b' : Book) (c : Arch) (kind : Kind) (va width : ℕ) (section : Bool) (x : Result Place Got) → HasReached p m b b' (regime c) kind va width section x → IsWithin width x
reach_within p m b b' c kind va width section x (by_one t call none e) = subst (IsWithin width) (sym e) (first_within kind va width section t)
reach_within p m b b' c kind va width section x (by_two mid between t first call some y) = subst (IsWithin width) (sym y.result_is) (second_within kind width (second_va va) first section y.found)

pub word_within : (p m : Shown) (b b' : Book) (c : Arch) (kind : Kind) (va width pa : ℕ) (section : Bool) → HasReached p m b b' (regime c) kind va width section (Ok (at.Word pa)) → pa % 8 + width ≤ 8
word_within p m b b' c kind va width pa section k = reach_within p m b b' c kind va width section (Ok (at.Word pa)) k

-- a second page is translated only where the access crosses into it
pub some_crosses : (va width first : ℕ) (t : Translated) → over_from va width t ≡ Some first → crosses_page va width ≡ true
some_crosses va width first (gives.Ram pa) e = by (crosses_page va width) e
  where
    by : (c : Bool) → (if c then Some pa else None) ≡ Some first → c ≡ true
    by true e = refl
    by false e = cc
some_crosses va width first (gives.Device pa) e = cc
some_crosses va width first (gives.Fault cause tval) e = cc
some_crosses va width first (gives.Busy busy) e = cc
