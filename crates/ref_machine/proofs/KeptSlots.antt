-- Harts stay kept behind a call.
use Rattle.std.proofs.Common.{◌≡◌, ℕ, ◌<◌, ◌+◌, ◌%◌, List, Option, Some, None, Bool, length, length-set, sym, ◌∙◌, subst}
use Rattle.std.specs.Prelude.{IsNone, slice_set}
use Rattle.rv64_decode.specs.declared.instruction.Instr.{Instr}
use Rattle.rv64_exec.specs.declared.needs.Answer.{Answer}
use Rattle.ref_machine.specs.declared.hart.HartSlot.{HartSlot}
use Rattle.step_laws.specs.declared.words.Layout.{Layout}
use Rattle.ref_machine.specs.declared.calls.Call.{Call as Kept}
use Rattle.ref_machine.specs.Calls.{IsSoundCall}
use Rattle.ref_machine.specs.Given.{starts_of}
use Rattle.machine_model.specs.Event.{Starting}
use Rattle.machine_model.specs.declared.mode.Mode.TheVariants.{Halted}
use Rattle.ref_machine.specs.Slots.{new_slot, slot_at, slot_awaited, slots_with_start}
use Rattle.ref_machine.proofs.Lists.{set_at}
use Rattle.ref_machine.specs.SharedState.{Shared}
use Rattle.ref_machine.specs.PlainState.{IsSlotKept, AreKept}
use Rattle.ref_machine.specs.OneTurn.{slot_called}

kept_set : (b : Shared) (ts : List HartSlot) (a : ℕ) (t : HartSlot) → AreKept b ts → IsSlotKept b t → AreKept b (slice_set ts a t)
kept_set b ts a t all kept h lt =
    let i : h < length ts = subst (λ n. h < n) (length-set ts a t) lt in
    set_at (new_slot Halted 0) (IsSlotKept b) ts a h t i kept (λ ne. all h i)

-- the start is of a hart that is there, at a multiple of 4
abbrev pub IsStartIn : (harts : ℕ) → Option Starting → Type 0
IsStartIn harts None = Unit {0}
IsStartIn harts (Some g) = (g.target < harts) × (g.at % 4 ≡ 0)

pub sound_start : (l : Layout) (call : Kept) → IsSoundCall l call → IsStartIn l.harts (starts_of call)
sound_start l (Kept.Gives error value) k = tt
sound_start l (Kept.GivesOne error) k = tt
sound_start l (Kept.Prints from count) k = tt
sound_start l (Kept.PrintsByte byte) k = tt
sound_start l (Kept.PrintsOne byte) k = tt
sound_start l (Kept.Sends mask) k = tt
sound_start l (Kept.Begins target at opaque) k = k
sound_start l Kept.Leaves k = tt
sound_start l (Kept.EndsAll reason) k = tt

kept_start : (b : Shared) (ts : List HartSlot) (o : Option Starting) → AreKept b ts → IsStartIn (length ts) o → AreKept b (slots_with_start ts o)
kept_start b ts None all k = all
kept_start b ts (Some g) all k = kept_set b ts g.target (slot_awaited g (slot_at ts g.target)) all (record { aligned = k.1; below = (all g.target k.0).below })

kept_limit : (b b' : Shared) (ts : List HartSlot) → AreKept b ts → IsNone b.reason → b'.limit ≡ b.limit → AreKept b' ts
kept_limit b b' ts all none same h lt = record { aligned = (all h lt).aligned; below = λ _. subst (λ n. (slot_at ts h).count < n) (sym same) ((all h lt).below none) }

pub called_kept : (b b' : Shared) (ts : List HartSlot) (h : ℕ) (i : Instr) (answer : Answer) (stops : Bool) (o : Option Starting)
    → AreKept b ts → h < length ts → IsNone b.reason → b'.limit ≡ b.limit → (IsNone b'.reason → (slot_at ts h).count + 1 < b.limit) → IsStartIn (length ts) o
    → AreKept b' (slots_with_start (slice_set ts h (slot_called (slot_at ts h) i answer stops)) o)
called_kept b b' ts h i answer stops o all lt none same below k =
    let t = slot_called (slot_at ts h) i answer stops in
    kept_start b' (slice_set ts h t) o
    (kept_set b' ts h t (kept_limit b b' ts all none same) (record { aligned = (all h lt).aligned; below = λ n. subst (λ m. (slot_at ts h).count + 1 < m) (sym same) (below n) }))
    (subst (λ n. IsStartIn n o) (sym (length-set ts h t)) k)

-- and as many
pub called_length : (ts : List HartSlot) (h : ℕ) (t : HartSlot) (o : Option Starting) → length (slots_with_start (slice_set ts h t) o) ≡ length ts
called_length ts h t None = length-set ts h t
called_length ts h t (Some g) = length-set (slice_set ts h t) g.target (slot_awaited g (slot_at (slice_set ts h t) g.target)) ∙ length-set ts h t
