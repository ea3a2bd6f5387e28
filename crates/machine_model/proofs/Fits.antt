-- The output of a run fits the console.
use Rattle.std.proofs.Common.{◌≡◌, refl, ℕ, ◌≤◌, ◌+◌, List, [], ◌∷◌, length, take, Some, None, Option, true, false, Bool, arith, sym, subst}
use Rattle.std.specs.Prelude.{nat_le, if◌then◌else◌}
use Rattle.std.proofs.lemmas.Bool.{leb-true}
use Rattle.std.proofs.lemmas.List.{length-append, length-take}
use Rattle.rv64_priv.specs.State.{Arch}
use Rattle.rv64_priv.specs.declared.state.Kind.{Kind}
use Rattle.rv64_priv.specs.Walk.{Walked}
use Rattle.rv64_exec.specs.declared.needs.Need.{Need}
use Rattle.rv64_exec.specs.declared.needs.AmoOp.{AmoOp}
use Rattle.rv64_exec.specs.declared.needs.Answer.{Answer}
use Rattle.machine_model.specs.declared.reason.Reason.{Reason}
use Rattle.machine_model.specs.Memory.{Memory}
use Rattle.machine_model.specs.Event.{Event, Outcome, only, Fetch, Exec, GiveUp, Interrupt, Flushes, Start, Stop, Await, SnapBegin, SnapEnd, Dump, did_of}
use Rattle.machine_model.specs.State.{Setup, State, hart}
use Rattle.machine_model.specs.Access.{Reach, reach, InRam, OnDevice, Unreached}
use Rattle.machine_model.specs.declared.device.DeviceStore.{DeviceStore}
use Rattle.machine_model.specs.Device.{device_value, device_stored}
use Rattle.machine_model.specs.Sbi.{Call, Gives, GivesOne, PrintsOne, Sends, Fences, Begins, Leaves, EndsAll, sbi_of}
use Rattle.machine_model.specs.Perform.{Surroundings, surroundings, room, print_outcome, load_outcome, device_load_outcome, store_outcome, device_store_outcome, is_misaligned, width_of, fault_outcome, amo_outcome, lr_outcome, hold_stands, sc_outcome, call_outcome, perform}
use Rattle.machine_model.specs.Walks.{need}
use Rattle.machine_model.specs.Change.{printed}
use Rattle.machine_model.specs.Run.{state_of}
use Rattle.machine_model.specs.Lawful.{IsLawfulIn}
use Rattle.machine_model.specs.Laws.{OutputFits}

-- what an outcome print_outcome finds a place
abbrev Fits : ℕ → Outcome → Type 0
Fits r o = length o.bytes ≤ r

abbrev prints_by : ℕ → List ℕ → Answer → Bool → Outcome
prints_by r bytes answer fits = if fits then record (only answer) { bytes = bytes } else record (only Answer.Nothing) { bytes = take r bytes; reason = Some Reason.OutFull }

prints_fit : (r : ℕ) (bytes : List ℕ) (answer : Answer) → Fits r (print_outcome r bytes answer)
prints_fit r bytes answer = go (nat_le (length bytes) r) refl
  where
    go : (b : Bool) → nat_le (length bytes) r ≡ b → Fits r (prints_by r bytes answer b)
    go true e = leb-true (length bytes) r e
    go false e = let n = length-take r bytes in omega (arith, n)

quiet : (r : ℕ) (b : Bool) (o o' : Outcome) → Fits r o → Fits r o' → Fits r (if b then o else o')
quiet r true o o' p q = p
quiet r false o o' p q = q

loaded_fit : (m : Memory) (r va width : ℕ) (sign : Bool) (x : Reach) → Fits r (load_outcome m va width sign x)
loaded_fit m r va width sign (InRam span) = omega arith
loaded_fit m r va width sign (OnDevice pa) = go (device_value pa width)
  where
    go : (v : Option ℕ) → Fits r (device_load_outcome va width sign v)
    go None = omega arith
    go (Some v) = omega arith
loaded_fit m r va width sign (Unreached cause tval) = omega arith

device_fit : (r va : ℕ) (d : Option DeviceStore) → Fits r (device_store_outcome r va d)
device_fit r va None = omega arith
device_fit r va (Some (DeviceStore.PutsByte byte)) = prints_fit r (byte ∷ []) Answer.Nothing
device_fit r va (Some (DeviceStore.Ends reason)) = omega arith
device_fit r va (Some DeviceStore.Ignored) = omega arith

stored_fit : (m : Memory) (r va width value : ℕ) (x : Reach) → Fits r (store_outcome m r va width value x)
stored_fit m r va width value (InRam span) = omega arith
stored_fit m r va width value (OnDevice pa) = device_fit r va (device_stored pa width value)
stored_fit m r va width value (Unreached cause tval) = omega arith

called_fit : (m : Memory) (r : ℕ) (c : Call) → Fits r (call_outcome m r c)
called_fit m r (Gives error value) = omega arith
called_fit m r (GivesOne error) = omega arith
called_fit m r (Call.Prints bytes value) = prints_fit r bytes _
called_fit m r (PrintsOne byte) = prints_fit r (byte ∷ []) _
called_fit m r (Sends mask) = omega arith
called_fit m r (Fences harts what) = omega arith
called_fit m r (Begins target at opaque) = omega arith
called_fit m r Leaves = omega arith
called_fit m r (EndsAll reason) = omega arith

amo_fit : (m : Memory) (r va : ℕ) (op : AmoOp) (wide : Bool) (value : ℕ) (x : Reach) → Fits r (amo_outcome m va op wide value x)
amo_fit m r va op wide value (InRam span) = omega arith
amo_fit m r va op wide value (OnDevice pa) = omega arith
amo_fit m r va op wide value (Unreached cause tval) = omega arith

reserve_fit : (m : Memory) (r va : ℕ) (wide : Bool) (x : Reach) → Fits r (lr_outcome m va wide x)
reserve_fit m r va wide (InRam span) = omega arith
reserve_fit m r va wide (OnDevice pa) = omega arith
reserve_fit m r va wide (Unreached cause tval) = omega arith

conditionally_fit : (m : Memory) (a : Arch) (r va : ℕ) (wide : Bool) (value : ℕ) (x : Reach) → Fits r (sc_outcome m a va wide value x)
conditionally_fit m a r va wide value (InRam span) = quiet r (hold_stands m span wide a.hold) _ _ (omega arith) (omega arith)
conditionally_fit m a r va wide value (OnDevice pa) = omega arith
conditionally_fit m a r va wide value (Unreached cause tval) = omega arith

perform_fit : (w : Surroundings) (h : ℕ) (a : Arch) (first second : Walked) (n : Need) → Fits w.room (perform w h a first second n)
unfolding perform
perform_fit w h a first second Need.Nothing = omega arith
perform_fit w h a first second (Need.Flush what) = omega arith
perform_fit w h a first second (Need.Trap cause tval) = omega arith
perform_fit w h a first second (Need.Load va width sign) = loaded_fit w.memory w.room va width sign (reach Kind.Load va width first second)
perform_fit w h a first second (Need.Store va width value) = stored_fit w.memory w.room va width value (reach Kind.Store va width first second)
perform_fit w h a first second (Need.Amo va op wide value) = quiet w.room (is_misaligned wide va) (fault_outcome 6 va) (amo_outcome w.memory va op wide value (reach Kind.Store va (width_of wide) first second)) (omega arith) (amo_fit w.memory w.room va op wide value (reach Kind.Store va (width_of wide) first second))
perform_fit w h a first second (Need.Lr va wide) = quiet w.room (is_misaligned wide va) (fault_outcome 4 va) (lr_outcome w.memory va wide (reach Kind.Load va (width_of wide) first second)) (omega arith) (reserve_fit w.memory w.room va wide (reach Kind.Load va (width_of wide) first second))
perform_fit w h a first second (Need.Sc va wide value) = quiet w.room (is_misaligned wide va) (fault_outcome 6 va) (sc_outcome w.memory a va wide value (reach Kind.Store va (width_of wide) first second)) (omega arith) (conditionally_fit w.memory a w.room va wide value (reach Kind.Store va (width_of wide) first second))
perform_fit w h a first second (Need.Ipi op) = omega arith
perform_fit w h a first second Need.Sbi = called_fit w.memory w.room (sbi_of w.layout w.modes w.memory a)

printed_length : (output bytes : List ℕ) → length (printed output bytes) ≡ length output + length bytes
printed_length output [] = omega arith
printed_length output (b ∷ bs) = length-append output (b ∷ bs)

event_fits : (u : Setup) (run : List Event) (s : State) (e : Event) → IsLawfulIn u run s e → Fits (room s) (did_of e)
event_fits u run s (Fetch h walk code) k = omega arith
event_fits u run s (Exec h walk second did) k = subst (Fits (room s)) (sym k.right) (perform_fit (surroundings u s) h (hart s h).arch walk second (need s h))
event_fits u run s (GiveUp h walks) k = omega arith
event_fits u run s (Interrupt h) k = omega arith
event_fits u run s (Flushes h what) k = omega arith
event_fits u run s (Start h at opaque) k = omega arith
event_fits u run s (Stop by reason) k = omega arith
event_fits u run s (Await n) k = omega arith
event_fits u run s SnapBegin k = omega arith
event_fits u run s (SnapEnd pages) k = omega arith
event_fits u run s (Dump at bytes) k = omega arith

pub output_fits : OutputFits
output_fits u [] k = omega arith
output_fits u (e ∷ run) k =
    let past = output_fits u run k.1 in
    let now = event_fits u run (state_of u run) e k.0 in
    let both = printed_length (state_of u run).output (did_of e).bytes in
    omega (arith, past, now, both)
