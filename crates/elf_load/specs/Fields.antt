-- A program header as the code keeps it, private to proofs: no public contract cites it (ELF-64 Object File Format, "Program header
-- table").
use Rattle.elf_load.specs.declared.header.ProgramHeader.{ProgramHeader}
use Rattle.elf_load.specs.Header.{Header}

abbrev pub fields_of : ProgramHeader → Header
fields_of h = record { p_type = h.p_type; p_offset = h.p_offset; p_vaddr = h.p_vaddr; p_paddr = h.p_paddr; p_filesz = h.p_filesz; p_memsz = h.p_memsz }
