use Rattle.rv_asm.proofs.FileMade.{header_added}
use Rattle.rv_asm.proofs.assembler.push_header.Goals as goal

pub returns : goal.returns
returns c = header_added c.args.file.now.items _ _ _ _ _ c.args.len c.in_ok-extend_from_slice.ensures.items c.in_ok-extend_from_slice-2.ensures.items c.in_ok-push_bytes.ensures c.in_ok-push_bytes-2.ensures c.in_ok-push_bytes-3.ensures
