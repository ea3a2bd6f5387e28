-- What the assembler's code says of itself: the labels that it keeps, and bytes that it adds. No public contract has these words.
use Rattle.std.specs.Prelude.{◌≡◌, ◌≢◌, Bool, true, false, ℕ, ◌+◌, if◌then◌else◌, List, [], ◌∷◌, ◌++◌, Option, Some, None, Result, Ok, Err}
use Rattle.std.specs.declared.cmp.Ordering.{Ordering}
use Rattle.std.specs.Ordering.{nat_cmp}
use Rattle.std.specs.Cmp.Lexicographic.{slice_cmp}
use Rattle.std.specs.BTreeMap.{BTreeMap, get}
use denote.Ref.{Bor}
use Rattle.std.specs.declared.alloc.AllocError.{AllocError}
use Rattle.asm_text.specs.declared.faults.Fault.{Fault}
use Rattle.asm_text.specs.Action.{kind_of, line_of}
use Rattle.rv_asm.specs.declared.assembler.AsmErr.{AsmErr}
use Rattle.rv_asm.specs.declared.refused.Refused.{Refused}
use Rattle.rv_asm.specs.Assembly.{Bad, Set, is_set, place_behind, place_of, set_by}

-- names in the order of their bytes
abbrev pub name_cmp : Bor (List ℕ) → Bor (List ℕ) → Ordering
name_cmp a b = slice_cmp nat_cmp a.now b.now

-- the map has the place of each label of these, and no other
abbrev pub AreLabels : List Set → BTreeMap (Bor (List ℕ)) ℕ → Type 0
AreLabels sets places = (name : Bor (List ℕ)) → get name_cmp places name ≡ place_of sets name.now

abbrev pub or_no_memory : Result (Unit {0}) AllocError → Result (Unit {0}) Refused
or_no_memory (Ok done) = Ok done
or_no_memory (Err error) = Err Refused.NoMemory

-- the bytes that were found are added, or their fault is answered
abbrev pub Adds : (found : Result (List ℕ) Fault) (old new : List ℕ) → Result (Unit {0}) Refused → Type 0
Adds found old new (Ok done) = (bytes : List ℕ) × (found ≡ Ok bytes) × (new ≡ old ++ bytes)
Adds found old new (Err (Refused.Faulty fault)) = found ≡ Err fault
Adds found old new (Err Refused.NoMemory) = Unit {0}

abbrev pub or_later : Option ℕ → Option ℕ → Option ℕ
or_later None later = later
or_later (Some n) later = Some n

-- the number of the first line that sets a label again
abbrev pub first_twice : (before : List Set) (place number : ℕ) → List (List ℕ) → Option ℕ
first_twice before place number [] = None
first_twice before place number (bytes ∷ lines) =
    if is_set before (line_of bytes).label then Some number else first_twice (before ++ set_by place (line_of bytes).label) (place_behind place (line_of bytes)) (number + 1) lines

-- it comes at this line, or not
abbrev pub IsTwice : (twice : Option ℕ) (number : ℕ) → Bool → Type 0
IsTwice twice number true = twice ≡ Some number
IsTwice twice number false = twice ≢ Some number

abbrev pub refused_at : (line : ℕ) → Refused → AsmErr
refused_at line (Refused.Faulty fault) = AsmErr.Bad line (kind_of fault)
refused_at line Refused.NoMemory = AsmErr.NoMemory

-- why a text gives no file
abbrev pub Refuses : (found : Result (List ℕ) Bad) → AsmErr → Type 0
Refuses found (AsmErr.Bad line kind) = found ≡ Err (record { line = line; kind = kind })
Refuses found AsmErr.NoMemory = Unit {0}
