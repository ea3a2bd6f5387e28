-- One more hart.
use Rattle.std.proofs.Common.{◌<◌, ◌+◌, ◌++◌, List, [], ◌∷◌, arith, ap, ◌∙◌}
use Rattle.std.specs.Prelude.{if◌then◌else◌, vec_len, vec_capacity}
use Rattle.ref_machine.specs.declared.hart.HartSlot.{HartSlot}
use Rattle.machine_model.specs.declared.mode.Mode.TheVariants.{Halted}
use Rattle.ref_machine.specs.Slots.{new_slot}
use Rattle.ref_machine.proofs.First.{slots_more}
use Rattle.ref_machine.proofs.machine.first_slots.Goals as goal

pub loop-hart-preserved : goal.loop-hart-preserved
loop-hart-preserved c =
    let past = c.loop-hart.invariant in
    let len = past.1 in
    let room = past.2 in
    let here = c.loop-hart-test.true in
    let kept = c.push-pushed.ensures.capacity in
    let fits : vec_len c.loop-hart.slots < vec_capacity c.loop-hart.slots = omega (arith, len, room, here) in
    let pushed = c.push-pushed.ensures.succeeds fits in
    let some = c.loop-hart.auto._hart in
    let old = c.loop-hart.slots.items in (
      c.push-pushed.ensures.items
          ∙ ap (λ b. if b then old ++ c.new-in-loop-hart.result ∷ [] else old) pushed
          ∙ ap (λ (t : HartSlot). old ++ t ∷ []) c.new-in-loop-hart.ensures
          ∙ ap (λ (ts : List HartSlot). ts ++ new_slot Halted 0 ∷ []) past.0
          ∙ slots_more c.loop-hart._hart c.args.start some,
      c.push-pushed.ensures.len ∙ ap (λ b. if b then vec_len c.loop-hart.slots + 1 else vec_len c.loop-hart.slots) pushed ∙ ap (λ n. n + 1) len,
      omega (arith, room, kept),
    )
