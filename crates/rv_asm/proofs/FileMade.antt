-- The headers of a file, and the file of a text.
use Rattle.std.proofs.Common.{◌≡◌, refl, ap, ◌∙◌, append_assoc, ℕ, List, [], ◌∷◌, ◌++◌}
use Rattle.std.specs.Prelude.{Ok}
use Rattle.rv_asm.specs.declared.assembler.AsmErr.{AsmErr}
use Rattle.rv_asm.specs.declared.assembler.AsmErr.TheVariants.{Bad as Faulty, NoMemory}
use Rattle.rv_asm.specs.Assembly.{assembly_of, bytes_of, elf_header, file_of, file_or, image_of_text, program_header}
use Rattle.rv_asm.specs.Found.{Refuses}

abbrev header : List ℕ
header = 127 ∷ 69 ∷ 76 ∷ 70 ∷ 2 ∷ 1 ∷ 1 ∷ 0 ∷ 0 ∷ 0 ∷ 0 ∷ 0 ∷ 0 ∷ 0 ∷ 0 ∷ 0 ∷ 2 ∷ 0 ∷ 243 ∷ 0 ∷ 1 ∷ 0 ∷ 0 ∷ 0 ∷ 0 ∷ 0 ∷ 0 ∷ 128 ∷ 0 ∷ 0 ∷ 0 ∷ 0 ∷ 64 ∷ 0 ∷ 0 ∷ 0 ∷ 0 ∷ 0 ∷ 0 ∷ 0 ∷ 0 ∷ 0 ∷ 0 ∷ 0 ∷ 0 ∷ 0 ∷ 0 ∷ 0 ∷ 0 ∷ 0 ∷ 0 ∷ 0 ∷ 64 ∷ 0 ∷ 56 ∷ 0 ∷ 1 ∷ 0 ∷ 0 ∷ 0 ∷ 0 ∷ 0 ∷ 0 ∷ 0 ∷ []

abbrev program : List ℕ
program = 1 ∷ 0 ∷ 0 ∷ 0 ∷ 7 ∷ 0 ∷ 0 ∷ 0 ∷ 0 ∷ 16 ∷ 0 ∷ 0 ∷ 0 ∷ 0 ∷ 0 ∷ 0 ∷ 0 ∷ 0 ∷ 0 ∷ 128 ∷ 0 ∷ 0 ∷ 0 ∷ 0 ∷ 0 ∷ 0 ∷ 0 ∷ 128 ∷ 0 ∷ 0 ∷ 0 ∷ 0 ∷ []

header_is : header ≡ elf_header
unfolding bytes_of
header_is = refl

program_is : (len : ℕ) → program ++ bytes_of 8 len ++ bytes_of 8 len ++ bytes_of 8 4096 ≡ program_header len
unfolding bytes_of
program_is len = refl

in_one : (x p a b c : List ℕ) → x ++ p ++ a ++ b ++ c ≡ x ++ (p ++ a ++ b ++ c)
in_one x p a b c = ap (λ xs. xs ++ c) (ap (λ xs. xs ++ b) (append_assoc x p a) ∙ append_assoc x (p ++ a) b) ∙ append_assoc x (p ++ a ++ b) c

pub header_added : (old f1 f2 f3 f4 f5 : List ℕ) (len : ℕ) → f1 ≡ old ++ header → f2 ≡ f1 ++ program → f3 ≡ f2 ++ bytes_of 8 len → f4 ≡ f3 ++ bytes_of 8 len → f5 ≡ f4 ++ bytes_of 8 4096 → f5 ≡ old ++ elf_header ++ program_header len
header_added old f1 f2 f3 f4 f5 len e1 e2 e3 e4 e5 = e5 ∙ ap (λ xs. xs ++ bytes_of 8 4096) (e4 ∙ ap (λ xs. xs ++ bytes_of 8 len) (e3 ∙ ap (λ xs. xs ++ bytes_of 8 len) (e2 ∙ ap (λ xs. xs ++ program) e1)))
    ∙ in_one (old ++ header) program (bytes_of 8 len) (bytes_of 8 len) (bytes_of 8 4096) ∙ ap (λ xs. old ++ header ++ xs) (program_is len) ∙ ap (λ xs. old ++ xs ++ program_header len) header_is

pub file_found : (text image : List ℕ) → image_of_text text ≡ Ok image → assembly_of text ≡ Ok (file_of image)
unfolding assembly_of
file_found text image e = ap file_or e

pub file_refused : (text : List ℕ) (error : AsmErr) → Refuses (image_of_text text) error → Refuses (assembly_of text) error
unfolding assembly_of
file_refused text (Faulty line kind) e = ap file_or e
file_refused text NoMemory e = tt
