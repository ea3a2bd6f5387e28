-- Each kind of event at a step where it doesn't stand: one step before or behind its own.
use Rattle.std.proofs.Common.{◌+◌, ◌^◌, ℕ, Bool, true, false, true≢false, List, [], ◌∷◌, Option, Some, refl, sym, ap, pos}
use Rattle.std.specs.Prelude.{is_some}
use Rattle.rv64_decode.specs.declared.instruction.Instr.TheVariants.{Lui, Sb}
use Rattle.rv64_priv.specs.Walk.{walk_of}
use Rattle.rv64_exec.specs.Plan.{need_of}
use Rattle.rv64_exec.specs.Finish.{done}
use Rattle.step_laws.specs.declared.steps.WordOp.TheVariants.{Load, Store, Add}
use Rattle.step_laws.specs.Words.{first_ram_word, monitor}
use Rattle.step_laws.specs.Map.{name_of}
use Rattle.step_laws.specs.Discipline.{minus_one}
use Rattle.machine_model.specs.declared.reason.Reason.{Reason}
use Rattle.machine_model.specs.Event.{Interrupt, Start as Begin, Stop, Await, SnapBegin, SnapEnd}
use Rattle.machine_model.specs.Memory.{StoreEntry}
use Rattle.machine_model.specs.Own.{own_executed}
use Rattle.machine_model.specs.Perform.{perform}
use Rattle.machine_model.specs.Sbi.{sbi_of}
use Rattle.machine_model.specs.Lawful.{flushing}
use Rattle.walk_laws.specs.WalkLoads.{reads_of}
use Rattle.turn_pieces.specs.Log.{made, did}
use Rattle.turn_pieces.specs.Right.{IsRight}
use Rattle.turn_pieces.proofs.Rows.{step, u, load_ipi, first_code, second_code, inside, two, fetched, printed}
use Rattle.turn_pieces.proofs.TwoHarts.{two_harts, starting, added, crossed, stopping, start_code_5, add_code_3, both_loaded, stop_code}
use Rattle.turn_pieces.proofs.Wrong.{apart, drew}

is_empty : List ℕ → Bool
is_empty [] = true
is_empty (x ∷ xs) = false

is_two : Option StoreEntry → Bool
is_two (Some (x ∷ y ∷ es)) = true
is_two e = false

-- a Fetch, one step behind the load of its code word
fetch_behind : IsRight u 0 (made load_ipi ∷ made first_code ∷ made load_ipi ∷ inside) (fetched (Lui 5 (pos 0x10000000))) → ⊥
unfolding name_of need_of done walk_of sbi_of perform own_executed flushing reads_of
fetch_behind k = apart 5 first_ram_word refl k.fit.1.fetched.0

-- an Exec that prints, one step before the draw of its place, and one behind
print_before : IsRight u 0 (did (fetched (Sb 5 6 (pos 0))) ∷ made second_code ∷ made load_ipi ∷ two) printed → ⊥
unfolding is_empty name_of
print_before k = true≢false (sym (ap is_empty k.pays.does.bytes_are))

print_behind : IsRight u 0 (made load_ipi ∷ drew) printed → ⊥
unfolding is_empty name_of
print_behind k = true≢false (sym (ap is_empty k.pays.does.bytes_are))

-- an Exec that adds, one step behind the addition
add_behind : IsRight two_harts 0 (made (step 0 8 Store 0 0) ∷ made (step 0 (first_ram_word + 8) Add 1 0) ∷ add_code_3) (added 0 0) → ⊥
unfolding name_of
add_behind k = true≢false (ap is_some k.pays.does.entry_is)

-- an Exec of a crossing store, at its first word
cross_before : IsRight two_harts 0 (made (step 0 (first_ram_word + 8) Store (1 + 2 ^ 32) 0) ∷ both_loaded) crossed → ⊥
unfolding is_two name_of
cross_before k = true≢false (ap is_two k.pays.does.entry_is)

-- an Exec that starts a hart, at the store of its START
start_behind : IsRight two_harts 0 (made (step 0 30 Store 0x80000018 0) ∷ start_code_5) starting → ⊥
unfolding name_of
start_behind k = true≢false (ap is_some k.pays.does.starts_is)

-- an Exec that stops its hart, at the step on LIVE
stop_behind : IsRight two_harts 0 (made (step 0 3 Add minus_one 2) ∷ stop_code) stopping → ⊥
unfolding name_of
stop_behind k = true≢false k.pays.does.stops_is

-- a Start, at the load before the store of its HSM
begin_before : IsRight two_harts 1 (made (step 1 31 Load 0 0) ∷ []) (Begin 1 0x80000018 0) → ⊥
unfolding name_of
begin_before k = true≢false k.pays.begins_not

-- a Stop, at a step before the exchange of STOP
limit_before : IsRight two_harts 0 (made load_ipi ∷ []) (Stop 0 (Reason.Limit 0)) → ⊥
unfolding name_of
limit_before k = true≢false (ap is_some k.pays.does.reason_is)

-- an Interrupt, one step behind the load of IPI
interrupt_behind : IsRight u 0 (made first_code ∷ made (step 0 5 Load 0 1) ∷ inside) (Interrupt 0) → ⊥
interrupt_behind k = apart first_ram_word 5 refl k.fit.1.called.0

-- an Await, at a load of another word than CONS; snapshots, at other steps than their first swap and their last reply
await_elsewhere : IsRight u monitor (made (step 8 2 Load 0 0) ∷ []) (Await 0) → ⊥
unfolding name_of
await_elsewhere k = absurd (cc (k.fit.1.loaded.0))

snapshot_elsewhere : IsRight u monitor (made (step 8 2 Load 0 0) ∷ []) SnapBegin → ⊥
unfolding name_of
snapshot_elsewhere k = absurd (cc (k.fit.1.takes.0))

snapshot_end_elsewhere : IsRight u monitor (made (step 8 2 Load 0 0) ∷ []) (SnapEnd []) → ⊥
unfolding name_of
snapshot_end_elsewhere k = absurd (cc (k.fit.1.replied.2))
