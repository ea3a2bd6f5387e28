-- The harts stay kept.
use Rattle.std.proofs.Common.{◌≡◌, ◌<◌, ◌+◌, List, length, arith, ap, sym, ◌∙◌, subst}
use Rattle.std.specs.Prelude.{IsNone, slice_index_or, slice_set}
use Rattle.std.proofs.lemmas.List.{get_or_default}
use Rattle.std.proofs.Math.Arith.{lt_of_le-ne}
use Rattle.machine_model.specs.declared.mode.Mode.TheVariants.{Halted}
use Rattle.ref_machine.specs.declared.hart.HartSlot.{HartSlot}
use Rattle.ref_machine.specs.Slots.{new_slot, slot_at, slots_with_start}
use Rattle.ref_machine.specs.SharedState.{Shared, shared_of}
use Rattle.ref_machine.specs.PlainState.{AreKept}
use Rattle.ref_machine.specs.Calls.{IsSoundCall}
use Rattle.ref_machine.specs.OneTurn.{slot_called}
use Rattle.ref_machine.specs.Given.{starts_of}
use Rattle.ref_machine.proofs.KeptSlots.{IsStartIn, called_kept, called_length, sound_start}
use Rattle.ref_machine.proofs.calling.take_call.Goals as goal

-- the count behind the call is below the limit where there is no reason
below_by : (c : goal.After-shared-1) → IsNone c.reason_behind-shared-inside.result → (slot_at c.args.slots.now c.args.hart).count + 1 < c.args.shared.now.limit
below_by c none =
    let ts = c.args.slots.now in
    let h = c.args.hart in
    let there = c.requires.there in
    let every = c.requires.all in
    let first = new_slot Halted 0 in
    let lt : h < length ts = omega (arith, there, every) in
    let read : c.index-slots-from.result ≡ slot_at ts h
    = c.index-slots-from.is ∙ ap (λ n. slice_index_or ts n c.index-slots-from.result) c.from.ensures ∙ get_or_default ts h c.index-slots-from.result first lt in
    let count : c.index-slots-from.result.count ≡ (slot_at ts h).count = ap (λ (t : HartSlot). t.count) read in
    let limit : c.shared.inside.limit ≡ c.args.shared.now.limit = ap (λ (x : Shared). x.limit) c.shared.view_is in
    let ne = c.reason_behind-shared-inside.ensures.none none in
    let below = c.requires.below in
    lt_of_le-ne (omega (arith, below)) (λ e. ne (ap (λ n. n + 1) count ∙ e ∙ sym limit))

pub returns-clause-kept : goal.returns-clause-kept
returns-clause-kept c = λ all.
    let ts = c.args.slots.now in
    let h = c.args.hart in
    let b = c.args.shared.now in
    let there = c.requires.there in
    let every = c.requires.all in
    let start = starts_of c.call_of-call.result in
    let t = slot_called (slot_at ts h) c.args.instr.now c.serve-served.result.answer c.stops.result in
    let limit : c.shared-2.inside.limit ≡ b.limit = ap (λ (x : Shared). x.limit) (c.shared-2.view_is ∙ c.serve-served.ensures.rest) in
    let begun : c.start_named.new.slots ≡ slots_with_start (slice_set ts h t) start = c.start_named.ensures ∙ ap (λ (x : List HartSlot). slots_with_start x start) c.finish_call.ensures in
    let in_layout : IsStartIn b.layout.harts start = sound_start b.layout c.call_of-call.result (subst (λ (x : Shared). IsSoundCall x.layout c.call_of-call.result) c.shared.view_is c.call_of-call.ensures.sound) in
    let in_slots : IsStartIn (length ts) start = subst (λ n. IsStartIn n start) (sym every) in_layout in
    subst (λ (x : List HartSlot). AreKept (shared_of (record c.shared-2.inside { reason = c.reason_behind-shared-inside.result })) x) (sym begun)
    (called_kept b (shared_of (record c.shared-2.inside { reason = c.reason_behind-shared-inside.result })) ts h c.args.instr.now c.serve-served.result.answer c.stops.result start
    all (omega (arith, there, every)) c.requires.going limit (below_by c) in_slots)

pub returns-clause-len : goal.returns-clause-len
returns-clause-len c =
    let ts = c.args.slots.now in
    let h = c.args.hart in
    let start = starts_of c.call_of-call.result in
    let t = slot_called (slot_at ts h) c.args.instr.now c.serve-served.result.answer c.stops.result in
    ap (λ (x : List HartSlot). length x) (c.start_named.ensures ∙ ap (λ (x : List HartSlot). slots_with_start x start) c.finish_call.ensures)
    ∙ called_length ts h t start
