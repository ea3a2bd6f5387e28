-- The first element that passes a test, after a write of an element that passes the same tests as the one before it, and what it says of files.
use Rattle.std.proofs.Common.{◌≡◌, ℕ, ◌<◌, ◌≤◌, Bool, true, false, List, [], ◌∷◌, Option, None, Some, cond, find, position, refl, arith, ap, ◌∙◌, sym, zero, suc, length, slice_get, subst}
use Rattle.std.specs.Option.{option_map, option_map_or}
use Rattle.std.specs.Str.{bytes_eq}
use Rattle.std.specs.String.{string_bytes}
use Rattle.vm_io.specs.Faults.{Rose}
use Rattle.vm_io.specs.Files.{is_named, bytes_of, count_of}
use Rattle.vm_io.specs.declared.memory.MemFile.{MemFile}
use Rattle.std.specs.List.{position_or_len}
use Rattle.std.proofs.Math.ListN.{set, get_or}
use Rattle.std.proofs.lemmas.Grind.{common_steps}
use Rattle.std.proofs.lemmas.List.Folds.{find_at, find-set}
use Rattle.std.proofs.lemmas.List.Quantifiers.{position-Some}
use Rattle.std.proofs.lemmas.Option.{slice_get_read, slice_get_cases}

option_map-cond : {X A : Type 0} (b : Bool) (f : X → A) (x y : X) (r s : Option X) → f x ≡ f y → option_map f r ≡ option_map f s
    → option_map f (cond b (Some x) r) ≡ option_map f (cond b (Some y) s)
option_map-cond true f x y r s here rest = ap Some here
option_map-cond false f x y r s here rest = rest

option_map_or-cond : {X : Type 0} (b : Bool) (f : X → ℕ) (x y : X) (r s : Option X) (d : ℕ) → f x ≤ f y → option_map_or f r d ≤ option_map_or f s d
    → option_map_or f (cond b (Some x) r) d ≤ option_map_or f (cond b (Some y) s) d
option_map_or-cond true f x y r s d here rest = here
option_map_or-cond false f x y r s d here rest = rest

-- what is read of the element found stays, where the write keeps it
pub find-set_same : {X A : Type 0} (p : X → Bool) (f : X → A) (xs : List X) (i : ℕ) (old new : X) → old ≡ get_or xs i old → p new ≡ p old → f new ≡ f old
    → option_map f (find p (set xs i new)) ≡ option_map f (find p xs)
find-set_same p f [] i old new at same kept = refl
find-set_same p f (x ∷ xs) zero old new at same kept =
    let test : p new ≡ p x = same ∙ ap p at in
    rw test (option_map-cond (p x) f new x _ _ (kept ∙ ap f at) refl)
find-set_same p f (x ∷ xs) (suc i) old new at same kept = option_map-cond (p x) f x x _ _ refl (find-set_same p f xs i old new at same kept)

-- the number of the element found does not fall, where the write does not let it fall
pub find-set_grows : {X : Type 0} (p : X → Bool) (f : X → ℕ) (xs : List X) (i : ℕ) (old new : X) (d : ℕ) → old ≡ get_or xs i old → p new ≡ p old → f old ≤ f new
    → option_map_or f (find p xs) d ≤ option_map_or f (find p (set xs i new)) d
find-set_grows p f [] i old new d at same more = omega arith
find-set_grows p f (x ∷ xs) zero old new d at same more =
    let test : p new ≡ p x = same ∙ ap p at in
    let here : f x ≤ f new = omega (arith, ap f at) in
    rw test (option_map_or-cond (p x) f x new _ _ d here (omega arith))
find-set_grows p f (x ∷ xs) (suc i) old new d at same more =
    option_map_or-cond (p x) f x x _ _ d (omega arith) (find-set_grows p f xs i old new d at same more)

-- a number in place of the one that stands for none does not fall where that one does not
pub option_map_or_grows : {X : Type 0} (f : X → ℕ) (r : Option X) (d e : ℕ) → d ≤ e → option_map_or f r d ≤ option_map_or f r e
option_map_or_grows f None d e more = more
option_map_or_grows f (Some x) d e more = omega arith

place_is : {X : Type 0} (p : X → Bool) (xs : List X) (i : ℕ) → position p xs ≡ Some i → i ≡ position_or_len p xs
place_is p xs i at = grind (arith, common_steps)

-- the element at the first place that passes is the one found
pub find-position : {X : Type 0} (p : X → Bool) (xs : List X) (i : ℕ) (old : X) → position p xs ≡ Some i → old ≡ get_or xs i old → find p xs ≡ Some old
find-position p xs i old at here =
    let within : i < length xs = (position-Some p xs i old at).0 in
    find_at p xs ∙ ap (slice_get xs) (sym (place_is p xs i at)) ∙ slice_get_read xs (length xs) i old refl within here

-- the same after a write at that place
pub find-position_set : {X : Type 0} (p : X → Bool) (xs : List X) (i : ℕ) (old new : X) → position p xs ≡ Some i → old ≡ get_or xs i old → p new ≡ p old
    → find p (set xs i new) ≡ Some new
find-position_set p xs i old new at here same =
    let facts = position-Some p xs i old at in
    let passes : p new ≡ true = same ∙ ap p here ∙ facts.1 in
    find-set p xs i new (place_is p xs i at) facts.0 passes

-- none is found where no place passes
pub find-position_none : {X : Type 0} (p : X → Bool) (xs : List X) → position p xs ≡ None → find p xs ≡ None
find-position_none p xs at = find_at p xs ∙ grind (arith, common_steps, slice_get_cases xs (position_or_len p xs))

-- the bytes of the file at the place of a name
pub bytes_of-position : (files : List MemFile) (name : List ℕ) (i : ℕ) (file : MemFile) → position (is_named name) files ≡ Some i → file ≡ get_or files i file
    → bytes_of files name ≡ Some file.bytes.items
bytes_of-position files name i file at here = ap (option_map (λ found. found.bytes.items)) (find-position (is_named name) files i file at here)

-- a fault at the place of a name is a fault of that name
pub count_of-set_rose : (files : List MemFile) (shared : ℕ) (name : List ℕ) (i : ℕ) (old new : MemFile) → position (is_named name) files ≡ Some i → old ≡ get_or files i old
    → new.name ≡ old.name → Rose old.faults new.faults → Rose (count_of files shared name) (count_of (set files i new) shared name)
count_of-set_rose files shared name i old new at here named rose =
    let before : count_of files shared name ≡ old.faults = ap (λ found. option_map_or (λ file. file.faults) found shared) (find-position (is_named name) files i old at here) in
    let kept : is_named name new ≡ is_named name old = ap (λ given. bytes_eq (string_bytes given) name) named in
    let after : count_of (set files i new) shared name ≡ new.faults =
    ap (λ found. option_map_or (λ file. file.faults) found shared) (find-position_set (is_named name) files i old new at here kept) in
    let F : ℕ → Type 0 = λ n. Rose n (count_of (set files i new) shared name) in
    let G : ℕ → Type 0 = λ n. Rose old.faults n in
    subst F (sym before) (subst G (sym after) rose)

-- a fault of a name without a file
pub count_of-missing_rose : (files : List MemFile) (old new : ℕ) (name : List ℕ) → position (is_named name) files ≡ None → Rose old new → Rose (count_of files old name) (count_of files new name)
count_of-missing_rose files old new name at rose =
    let none = find-position_none (is_named name) files at in
    let F : Option MemFile → Type 0 = λ found. Rose (option_map_or (λ file. file.faults) found old) (option_map_or (λ file. file.faults) found new) in
    subst F (sym none) rose
