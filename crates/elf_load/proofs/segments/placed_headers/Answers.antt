-- One header more, and the end of the table.
use Rattle.std.proofs.Common.{◌≡◌, ◌+◌, ◌-◌, ◌*◌, List, Vec, Global, ◌++◌, ◌∷◌, [], ap, sym, ◌∙◌, map, arith}
use Rattle.std.proofs.lemmas.List.{map_push}
use Rattle.std.specs.Prelude.{filter}
use Rattle.elf_load.specs.declared.header.ProgramHeader.{ProgramHeader}
use Rattle.elf_load.specs.Fields.{fields_of}
use Rattle.elf_load.specs.Header.{Header, header_at, headers_from}
use Rattle.elf_load.specs.ImageOf.{is_placed}
use Rattle.elf_load.proofs.Headers.{passed_over, taken_in, all_read}
use Rattle.elf_load.proofs.segments.placed_headers.Goals as goal
use Rattle.elf_load.proofs.segments.placed_headers.Goals.{then-is_placed+in_ok-push, else-is_placed}

pub loop-i-preserved : goal.loop-i-preserved
loop-i-preserved c =
    let header : fields_of c.program_header_at-header.result ≡ header_at c.args.file.now (c.u64_at-table.result + 56 * c.loop-i.i) = c.program_header_at-header.ensures in
    let is : c.is_placed.result ≡ is_placed (header_at c.args.file.now (c.u64_at-table.result + 56 * c.loop-i.i)) = c.is_placed.ensures ∙ ap is_placed header in
    let rest : List Header
    = filter is_placed (headers_from c.args.file.now (c.u64_at-table.result + 56 * (c.loop-i.i + 1)) (c.u16_at-i-end.result - (c.loop-i.i + 1))) in
    let all : List Header = filter is_placed (headers_from c.args.file.now c.u64_at-table.result c.u16_at-i-end.result) in
    elim c.if-is_placed.branch [
      | then-is_placed+in_ok-push w ↦ ap (λ (v : Vec ProgramHeader Global). map fields_of v.items ++ rest) w.headers-is
          ∙ ap (λ hs. map fields_of hs ++ rest) w.in_ok-push.ensures.items
          ∙ ap (λ hs. hs ++ rest) (map_push fields_of c.loop-i.headers.items c.program_header_at-header.result)
          ∙ ap (λ h. (map fields_of c.loop-i.headers.items ++ h ∷ []) ++ rest) header
          ∙ taken_in c.args.file.now (map fields_of c.loop-i.headers.items) all c.u64_at-table.result c.loop-i.i c.u16_at-i-end.result (omega arith) (sym is ∙ w.if-is_placed.true) c.loop-i.invariant
      | else-is_placed w ↦ ap (λ (v : Vec ProgramHeader Global). map fields_of v.items ++ rest) w.headers-is
          ∙ passed_over c.args.file.now (map fields_of c.loop-i.headers.items) all c.u64_at-table.result c.loop-i.i c.u16_at-i-end.result (omega arith) (sym is ∙ w.if-is_placed.false) c.loop-i.invariant
    ]

pub returns : goal.returns
returns c = all_read c.args.file.now (map fields_of c.loop-i.headers.items) c.u64_at-table.result c.loop-i.i c.u16_at-i-end.result (omega arith) c.u64_at-table.ensures c.u16_at-i-end.ensures c.loop-i.invariant
