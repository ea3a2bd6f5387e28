-- The definition of a line computed on lines.
use Rattle.std.proofs.Common.{◌≡◌, refl, ℕ, List, [], ◌∷◌, Option, Some, None, true, false, Bool}
use Rattle.std.specs.Prelude.{codes}
use Rattle.tlbvm.specs.Options.{Line, Plain, Dis, Asm, Gen, line_of, with_value}

-- a line of the operands e and o
abbrev says : (harts pages limit : ℕ) → Bool → Option Line
says harts pages limit regs = Some (Plain (codes "e") (codes "o") (record { harts = harts; pages = pages; limit = limit; regs = regs }))

abbrev names : (elf order : List ℕ) → Option Line
names elf order = Some (Plain elf order (record { harts = 1; pages = 1024; limit = 50000000; regs = false }))

operands : line_of (codes "plain" ∷ codes "e" ∷ codes "o" ∷ []) ≡ says 1 1024 50000000 false
operands = refl

in_front : line_of (codes "plain" ∷ codes "--harts" ∷ codes "2" ∷ codes "e" ∷ codes "o" ∷ []) ≡ says 2 1024 50000000 false
unfolding with_value
in_front = refl

between : line_of (codes "plain" ∷ codes "e" ∷ codes "--harts=2" ∷ codes "o" ∷ codes "--regs" ∷ []) ≡ says 2 1024 50000000 true
unfolding with_value
between = refl

no_value : line_of (codes "plain" ∷ codes "e" ∷ codes "o" ∷ codes "--harts" ∷ []) ≡ None
no_value = refl

twice : line_of (codes "plain" ∷ codes "e" ∷ codes "o" ∷ codes "--harts" ∷ codes "2" ∷ codes "--harts=2" ∷ []) ≡ None
unfolding with_value
twice = refl

dashed_operands : line_of (codes "plain" ∷ codes "--" ∷ codes "--e" ∷ codes "-o" ∷ []) ≡ names (codes "--e") (codes "-o")
dashed_operands = refl

dashes_between : line_of (codes "plain" ∷ codes "e" ∷ codes "--" ∷ codes "o" ∷ []) ≡ says 1 1024 50000000 false
dashes_between = refl

dashes_behind : line_of (codes "plain" ∷ codes "e" ∷ codes "o" ∷ codes "--" ∷ []) ≡ says 1 1024 50000000 false
dashes_behind = refl

three_operands : line_of (codes "plain" ∷ codes "e" ∷ codes "--" ∷ codes "o" ∷ codes "--regs" ∷ []) ≡ None
three_operands = refl

second_dashes : line_of (codes "plain" ∷ codes "--" ∷ codes "e" ∷ codes "--" ∷ []) ≡ names (codes "e") (codes "--")
second_dashes = refl

one_dash : line_of (codes "plain" ∷ codes "-" ∷ codes "o" ∷ []) ≡ names (codes "-") (codes "o")
one_dash = refl

below_zero : line_of (codes "plain" ∷ codes "e" ∷ codes "o" ∷ codes "--harts" ∷ codes "-1" ∷ []) ≡ None
below_zero = refl

one_dash_is_no_value : line_of (codes "plain" ∷ codes "e" ∷ codes "o" ∷ codes "--harts" ∷ codes "-" ∷ []) ≡ None
one_dash_is_no_value = refl

empty_value : line_of (codes "plain" ∷ codes "e" ∷ codes "o" ∷ codes "--harts=" ∷ []) ≡ None
unfolding with_value
empty_value = refl

nine_harts : line_of (codes "plain" ∷ codes "e" ∷ codes "o" ∷ codes "--harts" ∷ codes "9" ∷ []) ≡ None
unfolding with_value
nine_harts = refl

zero_in_front : line_of (codes "plain" ∷ codes "e" ∷ codes "o" ∷ codes "--pages" ∷ codes "0256" ∷ []) ≡ says 1 256 50000000 false
unfolding with_value
zero_in_front = refl

digits_21 : line_of (codes "plain" ∷ codes "e" ∷ codes "o" ∷ codes "--limit" ∷ codes "000000000000000000000" ∷ []) ≡ None
unfolding with_value
digits_21 = refl

digits_20 : line_of (codes "plain" ∷ codes "e" ∷ codes "o" ∷ codes "--limit" ∷ codes "00000001000000000000" ∷ []) ≡ says 1 1024 1000000000000 false
unfolding with_value
digits_20 = refl

command_second : line_of (codes "--regs" ∷ codes "plain" ∷ codes "e" ∷ codes "o" ∷ []) ≡ None
command_second = refl

part_of_a_name : line_of (codes "plain" ∷ codes "e" ∷ codes "o" ∷ codes "--reg" ∷ []) ≡ None
part_of_a_name = refl

regs_with_value : line_of (codes "plain" ∷ codes "e" ∷ codes "o" ∷ codes "--regs=1" ∷ []) ≡ None
unfolding with_value
regs_with_value = refl

unknown : line_of (codes "plain" ∷ codes "e" ∷ codes "o" ∷ codes "-r" ∷ []) ≡ None
unknown = refl

assembly : line_of (codes "asm" ∷ codes "t" ∷ []) ≡ Some (Asm (codes "t"))
assembly = refl

assembly_of_two : line_of (codes "asm" ∷ codes "a" ∷ codes "b" ∷ []) ≡ None
assembly_of_two = refl

assembly_for_harts : line_of (codes "asm" ∷ codes "--harts" ∷ codes "2" ∷ codes "t" ∷ []) ≡ None
unfolding with_value
assembly_for_harts = refl

listing : line_of (codes "dis" ∷ codes "e" ∷ []) ≡ Some (Dis (codes "e"))
listing = refl

listing_dashed : line_of (codes "dis" ∷ codes "--" ∷ codes "-e" ∷ []) ≡ Some (Dis (codes "-e"))
listing_dashed = refl

listing_of_nothing : line_of (codes "dis" ∷ []) ≡ None
listing_of_nothing = refl

listing_of_two : line_of (codes "dis" ∷ codes "a" ∷ codes "b" ∷ []) ≡ None
listing_of_two = refl

listing_with_harts : line_of (codes "dis" ∷ codes "--harts" ∷ codes "2" ∷ codes "e" ∷ []) ≡ None
unfolding with_value
listing_with_harts = refl

listing_with_regs : line_of (codes "dis" ∷ codes "e" ∷ codes "--regs" ∷ []) ≡ None
listing_with_regs = refl

generated : line_of (codes "gen" ∷ codes "4294967295" ∷ []) ≡ Some (Gen 4294967295)
generated = refl

generated_past : line_of (codes "gen" ∷ codes "4294967296" ∷ []) ≡ None
generated_past = refl

generated_below : line_of (codes "gen" ∷ codes "-1" ∷ []) ≡ None
generated_below = refl
