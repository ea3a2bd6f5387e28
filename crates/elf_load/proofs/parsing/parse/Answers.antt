-- Each answer is what the checks come to, by the headers that place something.
use Rattle.std.proofs.Common.{◌≡◌, refl, sym, ◌∙◌, ap, Some, Err, Ok, List, map, length}
use Rattle.elf_load.specs.declared.image.BadImage.TheVariants.{EntryOutside, Overlap}
use Rattle.elf_load.specs.Fields.{fields_of}
use Rattle.elf_load.specs.Header.{Header, e_entry}
use Rattle.elf_load.specs.ImageOf.{first_failed, all_place_checks, overlaps, start_among, is_bad_start, part_of}
use Rattle.elf_load.proofs.Checks.{refused_head, refused_place, refused_overlap, refused_start, accepted}
use Rattle.elf_load.proofs.Headers.{all_within}
use Rattle.elf_load.proofs.parsing.parse.Goals as goal

pub returns-in-Some-clause-bad : goal.returns-in-Some-clause-bad
returns-in-Some-clause-bad c = λ kind same.
    let e : c.in-Some.kind ≡ kind = cc in
    refused_head c.args.file.now c.args.pages kind (sym c.head_fault.ensures ∙ c.in-Some.is ∙ ap Some e)

pub returns-in-Some-place_faults-clause-bad : goal.returns-in-Some-place_faults-clause-bad
returns-in-Some-place_faults-clause-bad c = λ kind same.
    let e : c.in-Some-place_faults.kind ≡ kind = cc in
    refused_place c.args.file.now c.args.pages (map fields_of c.as_slice.result.now) kind
    (ap (λ hs. map fields_of hs) c.as_slice.ensures.value ∙ c.in_ok-headers.ensures)
    (sym c.head_fault.ensures ∙ c.in_default.is)
    (sym c.place_faults.ensures ∙ c.in-Some-place_faults.is ∙ ap Some e)

pub returns-then-overlaps-clause-bad : goal.returns-then-overlaps-clause-bad
returns-then-overlaps-clause-bad c = λ kind same.
    let e : Overlap ≡ kind = cc in
    let hs : List Header = map fields_of c.in_ok-headers.headers.items in
    refused_overlap c.args.file.now c.args.pages hs c.in_ok-headers.ensures
    (sym c.head_fault.ensures ∙ c.in_default.is)
    (ap (λ hs. first_failed (all_place_checks (length c.args.file.now) c.args.pages (map fields_of hs))) (sym c.as_slice.ensures.value) ∙ sym c.place_faults.ensures ∙ c.in_default-place_faults.is)
    (ap (λ hs. overlaps (map fields_of hs)) (sym c.as_slice-2.ensures.value) ∙ sym c.overlaps.ensures ∙ c.if-overlaps.true)
    ∙ ap Err e

pub start_among-requires : goal.start_among-requires
start_among-requires c =
    all_within (length c.args.file.now) c.args.pages c.as_slice-3.result.now c.requires
    (ap (λ hs. first_failed (all_place_checks (length c.args.file.now) c.args.pages (map fields_of hs))) (c.as_slice-3.ensures.value ∙ sym c.as_slice.ensures.value) ∙ sym c.place_faults.ensures ∙ c.in_default-place_faults.is)

pub returns-in_default-start_among-clause-bad : goal.returns-in_default-start_among-clause-bad
returns-in_default-start_among-clause-bad c = λ kind same.
    let e : EntryOutside ≡ kind = cc in
    let hs : List Header = map fields_of c.in_ok-headers.headers.items in
    refused_start c.args.file.now c.args.pages hs c.in_ok-headers.ensures
    (sym c.head_fault.ensures ∙ c.in_default.is)
    (ap (λ hs. first_failed (all_place_checks (length c.args.file.now) c.args.pages (map fields_of hs))) (sym c.as_slice.ensures.value) ∙ sym c.place_faults.ensures ∙ c.in_default-place_faults.is)
    (ap (λ hs. overlaps (map fields_of hs)) (sym c.as_slice-2.ensures.value) ∙ sym c.overlaps.ensures ∙ c.if-overlaps.false)
    (ap (λ hs. is_bad_start (start_among (e_entry c.args.file.now) (map fields_of hs))) (sym c.as_slice-3.ensures.value)
    ∙ ap (λ entry. is_bad_start (start_among entry (map fields_of c.as_slice-3.result.now))) (sym c.u64_at.ensures)
    ∙ c.in_default-start_among.ensures.none refl)
    ∙ ap Err e

pub returns-clause-ok : goal.returns-clause-ok
returns-clause-ok c =
    let hs : List Header = map fields_of c.in_ok-headers.headers.items in
    accepted c.args.file.now c.args.pages hs c.in-Some-start_among.start c.in_ok-headers.ensures
    (sym c.head_fault.ensures ∙ c.in_default.is)
    (ap (λ hs. first_failed (all_place_checks (length c.args.file.now) c.args.pages (map fields_of hs))) (sym c.as_slice.ensures.value) ∙ sym c.place_faults.ensures ∙ c.in_default-place_faults.is)
    (ap (λ hs. overlaps (map fields_of hs)) (sym c.as_slice-2.ensures.value) ∙ sym c.overlaps.ensures ∙ c.if-overlaps.false)
    (ap (λ hs. start_among (e_entry c.args.file.now) (map fields_of hs)) (sym c.as_slice-3.ensures.value)
    ∙ ap (λ entry. start_among entry (map fields_of c.as_slice-3.result.now)) (sym c.u64_at.ensures)
    ∙ c.in-Some-start_among.ensures.some.0)
    c.in-Some-start_among.ensures.some.1
    ∙ ap (λ ps. Ok (record { start = c.in-Some-start_among.start; parts = ps }))
    (ap (λ hs. map part_of (map fields_of hs)) (sym c.as_slice-4.ensures.value) ∙ sym c.in_ok-parts.ensures)
