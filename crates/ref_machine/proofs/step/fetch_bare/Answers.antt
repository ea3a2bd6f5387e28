-- A fetch at a place of RAM finds its word.
use Rattle.std.proofs.Common.{◌≡◌, ◌/◌, ◌%◌, ◌^◌, ℕ, ap, subst, Ok, ◌∙◌}
use Rattle.std.specs.Prelude.{slice_index}
use Rattle.std.proofs.Math.ListN.{get_or}
use Rattle.std.proofs.lemmas.Grind.{get_or_default_zero}
use Rattle.rv64_priv.specs.State.{Arch}
use Rattle.rv64_priv.specs.declared.state.Kind.{Kind}
use Rattle.machine_model.specs.Access.{spot_of}
use Rattle.ref_machine.specs.SharedState.{Shared}
use Rattle.ref_machine.specs.OneTurn.{walk_end, IsBarePlace}
use Rattle.ref_machine.specs.Translation.{IsWord}
use Rattle.ref_machine.proofs.Quick.{bare_fetch}
use Rattle.ref_machine.proofs.step.fetch_bare.Goals as goal

pub returns : goal.returns
returns c =
    let a = c.args.arch.now in
    let b = c.args.shared.now in
    let same : c.arch.inside.pc ≡ a.pc = ap (λ (x : Arch). x.pc) c.arch.view_is in
    let place : IsBarePlace a b c.arch.inside.pc c.in_ok-index.index = c.in_ok-index.ensures in
    let word : c.index.result.now ≡ slice_index b.ram c.in_ok-index.index
    = c.index.ensures ∙ ap (λ (m : Shared). get_or m.ram c.in_ok-index.index c.index.result.now) c.shared.view_is ∙ get_or_default_zero b.ram c.in_ok-index.index c.index.result.now place.there in
    subst (λ (pc : ℕ). IsWord b.ram (spot_of Kind.Fetch pc (walk_end a b Kind.Fetch pc)) (Ok c.half_at.result)) same
    (bare_fetch a b c.arch.inside.pc c.in_ok-index.index c.half_at.result place (c.half_at.ensures ∙ ap (λ w. w / 256 ^ (c.arch.inside.pc % 8) % 2 ^ 32) word))
