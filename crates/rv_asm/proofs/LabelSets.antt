-- Labels that are set one by one.
use Rattle.std.proofs.Common.{◌≡◌, refl, ap, sym, ◌∙◌, subst, Some, None, ℕ, Bool, true, false, cond, List, [], ◌∷◌, ◌++◌}
use Rattle.std.specs.Prelude.{Option, is_some, bytes_eq, if◌then◌else◌}
use Rattle.std.specs.Option.{option_copied}
use Rattle.std.specs.List.{list_any}
use Rattle.std.specs.BTreeMap.{BTreeMap, get, is_at, Updates}
use Rattle.std.proofs.lemmas.Slice.Eq.{bytes_eq-Decides}
use Rattle.std.proofs.lemmas.Map.Text.{is_eq-slice_cmp}
use denote.Ref.{Bor}
use Rattle.rv_asm.specs.Assembly.{Set, place_of}
use Rattle.rv_asm.specs.Found.{name_cmp, AreLabels}

abbrev set : List ℕ → ℕ → Set
set name place = record { name = name; place = place }

abbrev nothing : Option ℕ
nothing = None

abbrev or_else : Option ℕ → Option ℕ → Option ℕ
or_else None other = other
or_else (Some n) other = Some n

-- the first line that sets a label counts
place_behind_all : (sets : List Set) (s : Set) (name : List ℕ) → place_of (sets ++ s ∷ []) name ≡ or_else (place_of sets name) (if bytes_eq name s.name then Some s.place else None)
place_behind_all [] s name = refl
place_behind_all (t ∷ sets) s name = by_name (bytes_eq name t.name) refl (place_behind_all sets s name)
  where
    by_name : (b : Bool) → bytes_eq name t.name ≡ b → place_of (sets ++ s ∷ []) name ≡ or_else (place_of sets name) (if bytes_eq name s.name then Some s.place else None)
        → place_of (t ∷ sets ++ s ∷ []) name ≡ or_else (place_of (t ∷ sets) name) (if bytes_eq name s.name then Some s.place else None)
    by_name true e more = rw e refl
    by_name false e more = rw e more

pub set_where_placed : (sets : List Set) (name : List ℕ) → list_any (λ s. bytes_eq name s.name) sets ≡ is_some (place_of sets name)
set_where_placed [] name = refl
set_where_placed (t ∷ sets) name = by_name (bytes_eq name t.name) refl (set_where_placed sets name)
  where
    by_name : (b : Bool) → bytes_eq name t.name ≡ b → list_any (λ s. bytes_eq name s.name) sets ≡ is_some (place_of sets name) → list_any (λ s. bytes_eq name s.name) (t ∷ sets) ≡ is_some (place_of (t ∷ sets) name)
    by_name true e more = rw e refl
    by_name false e more = rw e more

-- a label that is set again stays where it was
pub placed_again : (sets : List Set) (name other : List ℕ) (place : ℕ) → is_some (place_of sets name) ≡ true → place_of (sets ++ set name place ∷ []) other ≡ place_of sets other
placed_again sets name other place found = place_behind_all sets (set name place) other ∙ by_name (bytes_eq other name) refl (place_of sets other) refl
  where
    by_name : (b : Bool) → bytes_eq other name ≡ b → (o : Option ℕ) → place_of sets other ≡ o → or_else o (if bytes_eq other name then Some place else None) ≡ o
    by_name b e (Some n) at = refl
    by_name false e None at = rw e refl
    by_name true e None at = absurd (lost (subst (λ n. is_some (place_of sets n) ≡ true) (sym ((bytes_eq-Decides other name).0 e)) found))
      where
        lost : is_some (place_of sets other) ≡ true → ⊥
        lost f = none (subst (λ (o : Option ℕ). is_some o ≡ true) at f)
          where
            none : is_some (nothing) ≡ true → ⊥
            none g = cc

pub labels_again : (sets : List Set) (m : BTreeMap (Bor (List ℕ)) ℕ) (name : List ℕ) (place : ℕ) → is_some (place_of sets name) ≡ true → AreLabels sets m → AreLabels (sets ++ set name place ∷ []) m
labels_again sets m name place found are q = are q ∙ sym (placed_again sets name q.now place found)

is_at_name : (key q : Bor (List ℕ)) → is_at (name_cmp key) q ≡ bytes_eq key.now q.now
is_at_name key q = is_eq-slice_cmp key.now q.now

turned : (a b : List ℕ) → bytes_eq a b ≡ false → bytes_eq b a ≡ false
turned a b e = by_other (bytes_eq b a) refl
  where
    by_other : (c : Bool) → bytes_eq b a ≡ c → bytes_eq b a ≡ false
    by_other false f = f
    by_other true f = let g : bytes_eq a b ≡ true = (bytes_eq-Decides a b).1 (sym ((bytes_eq-Decides b a).0 f)) in cc

pub labels_first : (sets : List Set) (m n : BTreeMap (Bor (List ℕ)) ℕ) (key : Bor (List ℕ)) (place : ℕ) → place_of sets key.now ≡ None → AreLabels sets m → Updates name_cmp m n key (Some place) → AreLabels (sets ++ set key.now place ∷ []) n
labels_first sets m n key place none are updates q = updates.0 q ∙ by_name (bytes_eq q.now key.now) refl ∙ sym (place_behind_all sets (set key.now place) q.now)
  where
    by_name : (b : Bool) → bytes_eq q.now key.now ≡ b → cond (is_at (name_cmp key) q) (Some place) (get name_cmp m q) ≡ or_else (place_of sets q.now) (if bytes_eq q.now key.now then Some place else None)
    by_name true e = let same : q.now ≡ key.now = (bytes_eq-Decides q.now key.now).0 e in
        let at : is_at (name_cmp key) q ≡ true = is_at_name key q ∙ (bytes_eq-Decides key.now q.now).1 (sym same) in
        let none_here : place_of sets q.now ≡ None = ap (place_of sets) same ∙ none in
        rw (at, e, none_here) refl
    by_name false e = let at : is_at (name_cmp key) q ≡ false = is_at_name key q ∙ turned q.now key.now e in rw (at, e, are q) (by_place (place_of sets q.now))
      where
        by_place : (o : Option ℕ) → o ≡ or_else o None
        by_place None = refl
        by_place (Some p) = refl

pub copied_some : (o : Option (Bor ℕ)) → is_some (option_copied o) ≡ is_some o
copied_some None = refl
copied_some (Some n) = refl

pub none_of : (o : Option ℕ) → is_some o ≡ false → o ≡ None
none_of None e = refl
none_of (Some n) e = cc
