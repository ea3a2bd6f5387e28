use Rattle.std.proofs.Common.{◌≡◌, Some, find, refl, rules, arith}
use Rattle.std.proofs.lemmas.Grind.{common_steps}
use Rattle.vm_io.specs.Files.{is_named, bytes_of}
use Rattle.vm_io.proofs.FoundFiles.{find-set_same, find-set_grows, bytes_of-position, count_of-set_rose, count_of-missing_rose, option_map_or_grows}
use Rattle.vm_io.proofs.Counts.{Rose-next}
use Rattle.vm_io.proofs.memory.MemImagesImages.read_at.Goals as goal

pub returns-then-fails-clause-cause : goal.returns-then-fails-clause-cause
returns-then-fails-clause-cause c =
    let old = c.index_mut-file.result.now in
    let new = record old { faults = c.saturating_add-file.result } in
    count_of-set_rose c.args.self.now.files.items c.args.self.now.missing c.args.name.now c.in-Some.place old new (search rules) c.index_mut-file.ensures.value refl
    (Rose-next _ _ c.saturating_add-file.ensures)

pub returns-then-fails-clause-grows : goal.returns-then-fails-clause-grows
returns-then-fails-clause-grows c other =
    let old = c.index_mut-file.result.now in
    let new = record old { faults = c.saturating_add-file.result } in
    find-set_grows (is_named other) (λ file. file.faults) c.args.self.now.files.items c.in-Some.place old new c.args.self.now.missing c.index_mut-file.ensures.value refl (omega arith)

pub returns-then-fails-clause-same : goal.returns-then-fails-clause-same
returns-then-fails-clause-same c other =
    let old = c.index_mut-file.result.now in
    let new = record old { faults = c.saturating_add-file.result } in
    find-set_same (is_named other) (λ file. file.bytes.items) c.args.self.now.files.items c.in-Some.place old new c.index_mut-file.ensures.value refl refl

pub returns-else-fails-clause-bytes : goal.returns-else-fails-clause-bytes
returns-else-fails-clause-bytes c =
    let told : bytes_of c.args.self.now.files.items c.args.name.now ≡ Some c.index_mut-file.result.now.bytes.items =
    bytes_of-position c.args.self.now.files.items c.args.name.now c.in-Some.place c.index_mut-file.result.now (search rules) c.index_mut-file.ensures.value in
    rw told (search rules)

pub returns-else-fails-clause-ends : goal.returns-else-fails-clause-ends
returns-else-fails-clause-ends c none room =
    let told : bytes_of c.args.self.now.files.items c.args.name.now ≡ Some c.index_mut-file.result.now.bytes.items =
    bytes_of-position c.args.self.now.files.items c.args.name.now c.in-Some.place c.index_mut-file.result.now (search rules) c.index_mut-file.ensures.value in
    rw told (grind (arith, common_steps))

pub returns-in-None-clause-cause : goal.returns-in-None-clause-cause
returns-in-None-clause-cause c =
    count_of-missing_rose c.args.self.now.files.items c.args.self.now.missing c.saturating_add-self.result c.args.name.now (search rules) (Rose-next _ _ c.saturating_add-self.ensures)

pub returns-in-None-clause-grows : goal.returns-in-None-clause-grows
returns-in-None-clause-grows c other =
    option_map_or_grows (λ file. file.faults) (find (is_named other) c.args.self.now.files.items) c.args.self.now.missing c.saturating_add-self.result (omega arith)
