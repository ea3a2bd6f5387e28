-- The definition of an assembler's text, computed on small texts. Their words are those of GNU as.
use Rattle.std.proofs.Common.{◌≡◌, refl, ℕ, List, [], ◌∷◌, Ok, Err}
use Rattle.std.specs.Prelude.{codes, Result}
use Rattle.rv_asm.specs.Assembly.{image_of_text, bytes_of, Bad}

abbrev bad : ℕ → ℕ → Result (List ℕ) Bad
bad line kind = Err (record { line = line; kind = kind })

lui : image_of_text (codes "lui t0, 0x10000") ≡ Ok (0xb7 ∷ 0x02 ∷ 0x00 ∷ 0x10 ∷ [])
unfolding image_of_text bytes_of
lui = refl

too_large : image_of_text (codes "addi t0, t0, 2048") ≡ bad 1 3
unfolding image_of_text bytes_of
too_large = refl

li_rounded : image_of_text (codes "li x5, 0x12345fff") ≡ Ok (0xb7 ∷ 0x62 ∷ 0x34 ∷ 0x12 ∷ 0x9b ∷ 0x82 ∷ 0xf2 ∷ 0xff ∷ [])
unfolding image_of_text bytes_of
li_rounded = refl

li_minus_one : image_of_text (codes "li x5, -1") ≡ Ok (0xb7 ∷ 0x02 ∷ 0x00 ∷ 0x00 ∷ 0x9b ∷ 0x82 ∷ 0xf2 ∷ 0xff ∷ [])
unfolding image_of_text bytes_of
li_minus_one = refl

li_most : image_of_text (codes "li t0, 2147483647") ≡ Ok (0xb7 ∷ 0x02 ∷ 0x00 ∷ 0x80 ∷ 0x9b ∷ 0x82 ∷ 0xf2 ∷ 0xff ∷ [])
unfolding image_of_text bytes_of
li_most = refl

li_least : image_of_text (codes "li t0, -2147483648") ≡ Ok (0xb7 ∷ 0x02 ∷ 0x00 ∷ 0x80 ∷ 0x9b ∷ 0x82 ∷ 0x02 ∷ 0x00 ∷ [])
unfolding image_of_text bytes_of
li_least = refl

li_over : image_of_text (codes "li t0, 2147483648") ≡ bad 1 3
unfolding image_of_text bytes_of
li_over = refl

li_under : image_of_text (codes "li t0, -2147483649") ≡ bad 1 3
unfolding image_of_text bytes_of
li_under = refl

jump_back : image_of_text (codes "a: j a") ≡ Ok (0x6f ∷ 0x00 ∷ 0x00 ∷ 0x00 ∷ [])
unfolding image_of_text bytes_of
jump_back = refl

branch_ahead : image_of_text (codes "beq x1, x2, end\nend:") ≡ Ok (0x63 ∷ 0x82 ∷ 0x20 ∷ 0x00 ∷ [])
unfolding image_of_text bytes_of
branch_ahead = refl

odd : image_of_text (codes "j 0x80000001") ≡ bad 1 3
unfolding image_of_text bytes_of
odd = refl

far_jump : image_of_text (codes "j 0x800ffffe") ≡ Ok (0x6f ∷ 0xf0 ∷ 0xff ∷ 0x7f ∷ [])
unfolding image_of_text bytes_of
far_jump = refl

too_far_jump : image_of_text (codes "j 0x80100000") ≡ bad 1 3
unfolding image_of_text bytes_of
too_far_jump = refl

backward_jump : image_of_text (codes "j 0x7ff00000") ≡ Ok (0x6f ∷ 0x00 ∷ 0x00 ∷ 0x80 ∷ [])
unfolding image_of_text bytes_of
backward_jump = refl

too_far_back : image_of_text (codes "j 0x7feffffe") ≡ bad 1 3
unfolding image_of_text bytes_of
too_far_back = refl

far_branch : image_of_text (codes "beq x0, x0, 0x80000ffe") ≡ Ok (0xe3 ∷ 0x0f ∷ 0x00 ∷ 0x7e ∷ [])
unfolding image_of_text bytes_of
far_branch = refl

too_far_branch : image_of_text (codes "beq x0, x0, 0x80001000") ≡ bad 1 3
unfolding image_of_text bytes_of
too_far_branch = refl

unknown_label : image_of_text (codes "j b") ≡ bad 1 4
unfolding image_of_text bytes_of
unknown_label = refl

label_twice : image_of_text (codes "a:\na:") ≡ bad 2 5
unfolding image_of_text bytes_of
label_twice = refl

both_faults : image_of_text (codes "a:\na: j b") ≡ bad 2 4
unfolding image_of_text bytes_of
both_faults = refl

org_backward : image_of_text (codes ".org 0x7fffffff") ≡ bad 1 6
unfolding image_of_text bytes_of
org_backward = refl

org_equal : image_of_text (codes ".org 0x80000000\necall") ≡ Ok (0x73 ∷ 0x00 ∷ 0x00 ∷ 0x00 ∷ [])
unfolding image_of_text bytes_of
org_equal = refl

org_ahead : image_of_text (codes ".org 0x80000004\necall") ≡ Ok (0x00 ∷ 0x00 ∷ 0x00 ∷ 0x00 ∷ 0x73 ∷ 0x00 ∷ 0x00 ∷ 0x00 ∷ [])
unfolding image_of_text bytes_of
org_ahead = refl

fences : image_of_text (codes "fence\nfence.i") ≡ Ok (0x0f ∷ 0x00 ∷ 0xf0 ∷ 0x0f ∷ 0x0f ∷ 0x10 ∷ 0x00 ∷ 0x00 ∷ [])
unfolding image_of_text bytes_of
fences = refl

ordered : image_of_text (codes "amoadd.d.aqrl x1, x2, (x3)") ≡ Ok (0xaf ∷ 0xb0 ∷ 0x21 ∷ 0x06 ∷ [])
unfolding image_of_text bytes_of
ordered = refl

ordered_wrongly : image_of_text (codes "amoadd.d.rlaq x1, x2, (x3)") ≡ bad 1 1
unfolding image_of_text bytes_of
ordered_wrongly = refl

hex_below_zero : image_of_text (codes "addi x1, x0, -0x80") ≡ Ok (0x93 ∷ 0x00 ∷ 0x00 ∷ 0xf8 ∷ [])
unfolding image_of_text bytes_of
hex_below_zero = refl

zeros_in_front : image_of_text (codes "addi x1, x0, 00007") ≡ Ok (0x93 ∷ 0x00 ∷ 0x70 ∷ 0x00 ∷ [])
unfolding image_of_text bytes_of
zeros_in_front = refl

high_x : image_of_text (codes "li x5, 0X10") ≡ bad 1 2
unfolding image_of_text bytes_of
high_x = refl

bytes : image_of_text (codes ".byte 255, -128") ≡ Ok (0xff ∷ 0x80 ∷ [])
unfolding image_of_text bytes_of
bytes = refl

byte_over : image_of_text (codes ".byte 256") ≡ bad 1 3
unfolding image_of_text bytes_of
byte_over = refl

blank_before_colon : image_of_text (codes "a : wfi") ≡ bad 1 1
unfolding image_of_text bytes_of
blank_before_colon = refl

colon_as_operand : image_of_text (codes "addi :") ≡ bad 1 2
unfolding image_of_text bytes_of
colon_as_operand = refl

two_labels : image_of_text (codes "a: b: wfi") ≡ bad 1 1
unfolding image_of_text bytes_of
two_labels = refl

empty : image_of_text (codes "") ≡ Ok ([])
unfolding image_of_text bytes_of
empty = refl

carriage_return : image_of_text (codes "ecall\r\n# all\nwfi #") ≡ Ok (0x73 ∷ 0x00 ∷ 0x00 ∷ 0x00 ∷ 0x73 ∷ 0x00 ∷ 0x50 ∷ 0x10 ∷ [])
unfolding image_of_text bytes_of
carriage_return = refl

blanks : image_of_text (codes "  a:\tadd  x1 ,x2,\tx3 ") ≡ Ok (0xb3 ∷ 0x00 ∷ 0x31 ∷ 0x00 ∷ [])
unfolding image_of_text bytes_of
blanks = refl

blank_inside : image_of_text (codes "lw x1, 0 (x2)") ≡ bad 1 2
unfolding image_of_text bytes_of
blank_inside = refl

csr_by_name : image_of_text (codes "csrrw x0, satp, t0") ≡ Ok (0x73 ∷ 0x90 ∷ 0x02 ∷ 0x18 ∷ [])
unfolding image_of_text bytes_of
csr_by_name = refl

csr_over : image_of_text (codes "csrrw x0, 4096, t0") ≡ bad 1 3
unfolding image_of_text bytes_of
csr_over = refl

no_operand : image_of_text (codes "addi x1, x0,") ≡ bad 1 2
unfolding image_of_text bytes_of
no_operand = refl

first_line : image_of_text (codes "wfi\nli\nnone") ≡ bad 2 2
unfolding image_of_text bytes_of
first_line = refl

address_loaded : image_of_text (codes "a: la x5, a") ≡ Ok (0x97 ∷ 0x02 ∷ 0x00 ∷ 0x00 ∷ 0x93 ∷ 0x82 ∷ 0x02 ∷ 0x00 ∷ [])
unfolding image_of_text bytes_of
address_loaded = refl

doubles : image_of_text (codes ".dword -1") ≡ Ok (0xff ∷ 0xff ∷ 0xff ∷ 0xff ∷ 0xff ∷ 0xff ∷ 0xff ∷ 0xff ∷ [])
unfolding image_of_text bytes_of
doubles = refl
