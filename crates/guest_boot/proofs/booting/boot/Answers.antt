-- All of the loader's part.
use Rattle.std.proofs.Common.{◌≡◌, ◌+◌, ◌*◌, List, length, sym, ap, subst, ◌∙◌, arith}
use Rattle.elf_load.specs.declared.image.Part.{Part}
use Rattle.elf_load.specs.ImageOf.{IsImageOf}
use Rattle.elf_load.specs.Loaded.{Loaded}
use Rattle.step_laws.specs.declared.words.Layout.{Layout}
use Rattle.step_laws.specs.declared.steps.Step.{Step}
use Rattle.step_laws.specs.Discipline.{IsDisciplined}
use Rattle.guest_ram.specs.Ports.{GoesBy}
use Rattle.guest_ram.proofs.Moves.{disciplined_goes, goes_at_most, goes_then, goes_within}
use Rattle.guest_boot.specs.Stored.{IsLoaded, IsOfBoot, IsOfImage, IsOfLoader}
use Rattle.guest_boot.proofs.Begun.{begins_so}
use Rattle.guest_boot.proofs.Storing.{boots_of_loader, booted_goes, images_of_loader, layout_goes}
use Rattle.guest_boot.proofs.Valued.{none_loaded}
use Rattle.guest_boot.proofs.booting.boot.Goals as goal

pub load_parts-requires-clause-empty : goal.load_parts-requires-clause-empty
load_parts-requires-clause-empty g c = none_loaded 1745 c.args.file.now (g.P.Look.shows c.args.port.now) (g.P.Look.shows c.boot_words.new.port) c.requires.fresh c.boot_words.ensures.goes

pub returns-clause-booted : goal.returns-clause-booted
returns-clause-booted g c = booted_goes _ IsOfImage _ _ c.load_parts.ensures.goes c.boot_words.ensures.booted

pub returns-clause-goes : goal.returns-clause-goes
returns-clause-goes g c =
    let parts : c.as_slice.result.now ≡ c.args.image.now.parts = c.as_slice.ensures.value ∙ ap (λ (x : Loaded). x.parts) c.image.view_is in
    let same : 512 * (g.P.Look.shows c.boot_words.new.port).machine.layout.pages * length c.as_slice.result.now ≡ 512 * (g.P.Look.shows c.args.port.now).machine.layout.pages * length c.args.image.now.parts
    = ap (λ (l : Layout). 512 * l.pages * length c.as_slice.result.now) (layout_goes 1745 IsOfBoot _ _ c.boot_words.ensures.goes) ∙ ap (λ (ps : List Part). 512 * (g.P.Look.shows c.args.port.now).machine.layout.pages * length ps) parts in
    goes_at_most (1745 + 512 * (g.P.Look.shows c.boot_words.new.port).machine.layout.pages * length c.as_slice.result.now) _ IsOfLoader _ _ (omega (arith, same))
    (goes_then 1745 _ IsOfLoader _ _ _ (goes_within 1745 IsOfBoot IsOfLoader _ _ boots_of_loader c.boot_words.ensures.goes) (goes_within _ IsOfImage IsOfLoader _ _ images_of_loader c.load_parts.ensures.goes))

pub returns-clause-begins : goal.returns-clause-begins
returns-clause-begins g c u same is =
    let parts : c.as_slice.result.now ≡ c.args.image.now.parts = c.as_slice.ensures.value ∙ ap (λ (x : Loaded). x.parts) c.image.view_is in
    let all : GoesBy _ IsOfLoader (g.P.Look.shows c.args.port.now) (g.P.Look.shows c.load_parts.new.port)
    = goes_then 1745 _ IsOfLoader _ _ _ (goes_within 1745 IsOfBoot IsOfLoader _ _ boots_of_loader c.boot_words.ensures.goes) (goes_within _ IsOfImage IsOfLoader _ _ images_of_loader c.load_parts.ensures.goes) in
    let layout : (g.P.Look.shows c.load_parts.new.port).machine.layout ≡ (g.P.Look.shows c.args.port.now).machine.layout = layout_goes _ IsOfLoader _ _ all in
    let fresh : IsDisciplined (g.P.Look.shows c.args.port.now).machine.layout (g.P.Look.shows c.args.port.now).own.actor (g.P.Look.shows c.args.port.now).own.runs (g.P.Look.shows c.args.port.now).own.steps
    = subst (λ (r : List Step). IsDisciplined (g.P.Look.shows c.args.port.now).machine.layout (g.P.Look.shows c.args.port.now).own.actor (g.P.Look.shows c.args.port.now).own.runs r) (sym c.requires.fresh) tt in
    let disciplined = subst (λ a. IsDisciplined (g.P.Look.shows c.load_parts.new.port).machine.layout a (g.P.Look.shows c.load_parts.new.port).own.runs (g.P.Look.shows c.load_parts.new.port).own.steps)
    c.load_parts.ensures.booting.actor (disciplined_goes _ IsOfLoader _ _ all fresh) in
    begins_so c.args.file.now c.args.image.now (g.P.Look.shows c.load_parts.new.port).machine.layout (g.P.Look.shows c.load_parts.new.port).own.runs (g.P.Look.shows c.load_parts.new.port).own.steps
    c.load_parts.ensures.booting.limits (subst (λ (l : Layout). IsImageOf c.args.file.now l.pages c.args.image.now) (sym layout) c.requires.image) disciplined
    (booted_goes _ IsOfImage _ _ c.load_parts.ensures.goes c.boot_words.ensures.booted)
    (subst (λ (ps : List Part). IsLoaded c.args.file.now ps (g.P.Look.shows c.load_parts.new.port).machine.layout (g.P.Look.shows c.load_parts.new.port).own.steps) parts c.load_parts.ensures.loaded)
    u (same ∙ sym layout) is
