-- The text that `gen` makes of a number: a guest of up to eight harts that remap a window of memory, fence all harts and add what they read.
use Rattle.std.specs.Prelude.{ℕ, zero, suc, false, ◌+◌, ◌*◌, ◌%◌, List, [], ◌∷◌, ◌++◌, codes, decimal}
use Rattle.std.specs.Fmt.{digits}
use Rattle.asm_laws.specs.Texts.{with_feeds}

-- the program, up to the number of rounds
unfoldable pub lines_before : List (List ℕ)
lines_before =
    codes "li s1, 1" ∷ codes "more: li a7, 0x48534d" ∷ codes "li a6, 0" ∷ codes "mv a0, s1" ∷ codes "la a1, work" ∷ codes "mv a2, x0" ∷
    codes "ecall" ∷ codes "bne a0, x0, go" ∷ codes "addi s1, s1, 1" ∷ codes "j more" ∷ codes "go: mv a0, x0" ∷ codes "work: mv s0, a0" ∷
    codes "la t0, root" ∷ codes "srli t0, t0, 12" ∷ codes "li t1, 8" ∷ codes "slli t1, t1, 60" ∷ codes "or t0, t0, t1" ∷ codes "csrrw x0, satp, t0" ∷ []

-- how often each hart remaps its window
abbrev pub rounds : ℕ → ℕ
rounds number = 100 * (1 + number % 100)

abbrev pub rounds_line : ℕ → List ℕ
rounds_line number = codes "li s2, " ++ decimal (rounds number)

-- the program behind it
unfoldable pub lines_behind : List (List ℕ)
lines_behind =
    codes "li s3, 0" ∷ codes "slli s4, s0, 21" ∷ codes "li t0, 4096" ∷ codes "add s4, s4, t0" ∷ codes "la s5, low" ∷ codes "slli t0, s0, 12" ∷
    codes "add s5, s5, t0" ∷ codes "la s6, frames" ∷ codes "slli t0, s0, 13" ∷ codes "add s6, s6, t0" ∷ codes "li s7, 0" ∷
    codes "round: andi t0, s3, 1" ∷ codes "slli t0, t0, 12" ∷ codes "add t0, t0, s6" ∷ codes "srli t0, t0, 2" ∷ codes "ori t0, t0, 0xc7" ∷
    codes "sd t0, 8(s5)" ∷ codes "li a7, 0x52464e43" ∷ codes "li a6, 1" ∷ codes "li a0, 0" ∷ codes "li a1, -1" ∷ codes "mv a2, s4" ∷
    codes "li a3, 4096" ∷ codes "ecall" ∷ codes "ld t0, 0(s4)" ∷ codes "add s7, s7, t0" ∷ codes "li t1, 0x2000000" ∷ codes "li t2, 64" ∷
    codes "touch: ld t0, 0(t1)" ∷ codes "add s7, s7, t0" ∷ codes "li t3, 4096" ∷ codes "add t1, t1, t3" ∷ codes "addi t2, t2, -1" ∷
    codes "bne t2, x0, touch" ∷ codes "addi s3, s3, 1" ∷ codes "bne s3, s2, round" ∷ codes "la t0, total" ∷ codes "amoadd.d x0, s7, (t0)" ∷
    codes "la t0, ended" ∷ codes "li t1, 1" ∷ codes "amoadd.d x0, t1, (t0)" ∷ codes "bne s0, x0, halt" ∷ codes "wait: wfi" ∷ codes "la t0, ended" ∷
    codes "ld t1, 0(t0)" ∷ codes "bne t1, s1, wait" ∷ codes "la t0, total" ∷ codes "ld s2, 0(t0)" ∷ codes "li s3, 60" ∷
    codes "digit: srl t0, s2, s3" ∷ codes "andi t0, t0, 15" ∷ codes "li t2, 48" ∷ codes "slti t3, t0, 10" ∷ codes "bne t3, x0, small" ∷
    codes "li t2, 87" ∷ codes "small: add a0, t0, t2" ∷ codes "li a7, 1" ∷ codes "ecall" ∷ codes "addi s3, s3, -4" ∷ codes "bge s3, x0, digit" ∷
    codes "li a0, 10" ∷ codes "li a7, 1" ∷ codes "ecall" ∷ codes "li a7, 0x53525354" ∷ codes "li a6, 0" ∷ codes "li a0, 0" ∷ codes "li a1, 0" ∷
    codes "ecall" ∷ codes "halt: li a7, 0x48534d" ∷ codes "li a6, 1" ∷ codes "ecall" ∷ codes ".org 0x80008000" ∷ codes "total: .dword 0" ∷
    codes "ended: .dword 0" ∷ codes ".org 0x80010000" ∷ codes "root: .dword 0x20004401, 0, 0x200000cf" ∷ []

-- a number in the form `0x`
abbrev pub hex_number : List ℕ → ℕ → List ℕ
hex_number name n = name ++ codes " 0x" ++ digits 16 false n

-- page-table entries, each so much above the one before
unfoldable pub entries : (first apart count : ℕ) → List (List ℕ)
entries first apart zero = []
entries first apart (suc n) = hex_number (codes ".dword") first ∷ entries (first + apart) apart n

-- two frames of a hart, which hold 3 and 5
unfoldable pub frames : (first count : ℕ) → List (List ℕ)
frames first zero = []
frames first (suc n) = hex_number (codes ".org") first ∷ codes ".dword 3" ∷ hex_number (codes ".org") (first + 0x1000) ∷ codes ".dword 5" ∷ frames (first + 0x2000) n

-- the page tables, and each hart's frames
abbrev pub table_lines : List (List ℕ)
table_lines =
    codes ".org 0x80011000" ∷ entries 0x20004801 0x400 16
    ++ codes ".dword 0x20008801" ∷ codes ".org 0x80012000" ∷ codes "low: .dword 0" ∷ codes ".org 0x80022000" ∷ entries 0x200180c7 0x400 64
    ++ codes ".org 0x80030000" ∷ codes "frames: .dword 3" ∷ codes ".org 0x80031000" ∷ codes ".dword 5" ∷ frames 0x80032000 15

abbrev pub gen_lines : ℕ → List (List ℕ)
gen_lines number = lines_before ++ rounds_line number ∷ lines_behind ++ table_lines

unfoldable pub gen_text : ℕ → List ℕ
gen_text number = with_feeds (gen_lines number)
