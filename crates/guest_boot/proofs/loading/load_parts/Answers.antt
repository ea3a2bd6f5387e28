-- One part more.
use Rattle.std.proofs.Common.{List, ◌≡◌, ◌+◌, ◌-◌, ◌*◌, ◌≤◌, ap, subst, arith, length}
use Rattle.elf_load.specs.declared.image.Part.{Part}
use Rattle.step_laws.specs.declared.words.Layout.{Layout}
use Rattle.guest_ram.proofs.Moves.{goes_then, goes_at_most}
use Rattle.guest_boot.proofs.Storing.{layout_goes}
use Rattle.guest_boot.specs.Stored.{IsLoaded, IsOfImage}
use Rattle.guest_boot.proofs.Valued.{from_here, more_times}
use Rattle.guest_boot.proofs.loading.load_parts.Goals as goal

pub loop-i-preserved : goal.loop-i-preserved
loop-i-preserved g c =
    let before = c.loop-i.invariant in
    let made = c.load_part.ensures in
    let left = length c.args.parts.now - c.loop-i.i in
    let words = 512 * (g.P.Look.shows c.args.port.now).machine.layout.pages in
    let same : 512 * (g.P.Look.shows c.loop-i.port).machine.layout.pages ≡ words = ap (λ (l : Layout). 512 * l.pages) (layout_goes (words * left) IsOfImage _ _ before.goes) in
    let more : words * left + words ≤ words * (length c.args.parts.now - (c.loop-i.i - 1)) = more_times words left (length c.args.parts.now - (c.loop-i.i - 1)) (omega (arith, before.few)) in
    record {
      booting = made.booting;
      few = omega (arith, before.few);
      loaded = subst (λ (parts : List Part). IsLoaded c.args.file.now parts (g.P.Look.shows c.load_part.new.port).machine.layout (g.P.Look.shows c.load_part.new.port).own.steps) (from_here c.args.parts.now (c.loop-i.i - 1) (record { place = 0; at = 0; len = 0; zeros = 0 }) (omega (arith, before.few))) made.loaded;
      goes = goes_at_most (words * left + 512 * (g.P.Look.shows c.loop-i.port).machine.layout.pages) _ IsOfImage _ _ (omega (arith, same, more)) (goes_then (words * left) _ IsOfImage _ _ _ before.goes made.goes);
    }
