-- The guest that prints OK, as equations that compute.
use Rattle.std.proofs.Common.{◌≡◌, refl, ℕ, List, [], ◌∷◌, Some, pos}
use Rattle.elf_load.specs.declared.image.Part.{Part}
use Rattle.rv64_decode.specs.declared.instruction.Instr.{Instr}
use Rattle.rv64_decode.specs.declared.instruction.Instr.TheVariants.{Lui, Addi, Sb, Sw}
use Rattle.rv64_decode.specs.Encoding.{encoding_of}
use Rattle.rv64_priv.specs.Walk.{walk_of}
use Rattle.rv64_exec.specs.Code.{Code}
use Rattle.rv64_exec.specs.Plan.{need_of}
use Rattle.rv64_exec.specs.Finish.{done}
use Rattle.machine_model.specs.declared.reason.Reason.{Reason}
use Rattle.machine_model.specs.Image.{image_memory}
use Rattle.machine_model.specs.Sbi.{sbi_of}
use Rattle.machine_model.specs.Perform.{perform}
use Rattle.machine_model.specs.Change.{executed}
use Rattle.machine_model.specs.Lawful.{flushing}
use Rattle.machine_model.specs.Now.{exec_now}
use Rattle.machine_model.specs.State.{Setup, State, hart, initial}
use Rattle.machine_model.specs.Plain.{executing, instruction, plain_turn, after_turn}

-- the state behind turns of hart 0 whose words decode so
abbrev pub turns : Setup → List Code → State → State
turns u [] s = s
turns u (c ∷ cs) s = turns u cs (after_turn u 0 c s)

-- an instruction with its word
abbrev pub code : Instr → Code
code i = record { word = encoding_of i; instr = Some i }

abbrev pub hello : List ℕ
hello = 127 ∷ 69 ∷ 76 ∷ 70 ∷ 2 ∷ 1 ∷ 1 ∷ 0 ∷ 0 ∷ 0 ∷ 0 ∷ 0 ∷ 0 ∷ 0 ∷ 0 ∷ 0 ∷ 2 ∷ 0 ∷ 243 ∷ 0 ∷ 1 ∷ 0 ∷ 0 ∷ 0 ∷ 0 ∷ 0 ∷ 0 ∷ 128 ∷ 0 ∷ 0 ∷ 0 ∷ 0 ∷ 64 ∷ 0 ∷ 0 ∷ 0 ∷ 0 ∷ 0 ∷ 0 ∷ 0 ∷ 0 ∷ 0 ∷ 0 ∷ 0 ∷ 0 ∷ 0 ∷ 0 ∷ 0 ∷ 0 ∷ 0 ∷ 0 ∷ 0 ∷ 64 ∷ 0 ∷ 56 ∷ 0 ∷ 1 ∷ 0 ∷ 0 ∷ 0 ∷ 0 ∷ 0 ∷ 0 ∷ 0 ∷ 1 ∷ 0 ∷ 0 ∷ 0 ∷ 7 ∷ 0 ∷ 0 ∷ 0 ∷ 120 ∷ 0 ∷ 0 ∷ 0 ∷ 0 ∷ 0 ∷ 0 ∷ 0 ∷ 0 ∷ 0 ∷ 0 ∷ 128 ∷ 0 ∷ 0 ∷ 0 ∷ 0 ∷ 0 ∷ 0 ∷ 0 ∷ 128 ∷ 0 ∷ 0 ∷ 0 ∷ 0 ∷ 44 ∷ 0 ∷ 0 ∷ 0 ∷ 0 ∷ 0 ∷ 0 ∷ 0 ∷ 44 ∷ 0 ∷ 0 ∷ 0 ∷ 0 ∷ 0 ∷ 0 ∷ 0 ∷ 8 ∷ 0 ∷ 0 ∷ 0 ∷ 0 ∷ 0 ∷ 0 ∷ 0 ∷ 183 ∷ 2 ∷ 0 ∷ 16 ∷ 19 ∷ 3 ∷ 240 ∷ 4 ∷ 35 ∷ 128 ∷ 98 ∷ 0 ∷ 19 ∷ 3 ∷ 176 ∷ 4 ∷ 35 ∷ 128 ∷ 98 ∷ 0 ∷ 19 ∷ 3 ∷ 160 ∷ 0 ∷ 35 ∷ 128 ∷ 98 ∷ 0 ∷ 183 ∷ 2 ∷ 16 ∷ 0 ∷ 55 ∷ 83 ∷ 0 ∷ 0 ∷ 19 ∷ 3 ∷ 83 ∷ 85 ∷ 35 ∷ 160 ∷ 98 ∷ 0 ∷ []

abbrev pub hello_parts : List Part
hello_parts = record { place = 0x80000000; at = 120; len = 44; zeros = 0 } ∷ []

abbrev pub hello_setup : Setup
hello_setup = record { layout = record { harts = 1; pages = 1024 }; image = image_memory hello hello_parts; start = 0x80000000; limit = 50000000; script = [] }

abbrev pub hello_codes : List Code
hello_codes = code (Lui 5 (pos 0x10000000)) ∷ code (Addi 6 0 (pos 79)) ∷ code (Sb 5 6 (pos 0)) ∷ code (Addi 6 0 (pos 75)) ∷ code (Sb 5 6 (pos 0)) ∷ code (Addi 6 0 (pos 10)) ∷ code (Sb 5 6 (pos 0))
    ∷ code (Lui 5 (pos 0x100000)) ∷ code (Lui 6 (pos 0x5000)) ∷ code (Addi 6 6 (pos 0x555)) ∷ code (Sw 5 6 (pos 0)) ∷ []

abbrev pub hello_end : State
hello_end = turns hello_setup hello_codes (initial hello_setup)

pub hello_reason : hello_end.reason ≡ Some Reason.Pass
unfolding need_of done walk_of sbi_of perform executed flushing exec_now executing instruction plain_turn
hello_reason = refl

pub hello_output : hello_end.output ≡ 79 ∷ 75 ∷ 10 ∷ []
unfolding need_of done walk_of sbi_of perform executed flushing exec_now executing instruction plain_turn
hello_output = refl

pub hello_pc : (hart hello_end 0).arch.pc ≡ 0x8000002c
unfolding need_of done walk_of sbi_of perform executed flushing exec_now executing instruction plain_turn
hello_pc = refl
