-- A script, done by the monitor: two bytes are awaited, a snapshot takes three pages, two bytes are dumped, and the machine is stopped. Its
-- log is written by hand, and is a chain of turns.
use Rattle.std.proofs.Common.{◌+◌, ◌*◌, true≢false, [], ◌∷◌, refl, sym, arith}
use Rattle.step_laws.specs.declared.steps.WordOp.TheVariants.{Load, Store, Swap, Exchange}
use Rattle.step_laws.specs.Words.{first_place, first_dirty_word, first_ram_word}
use Rattle.step_laws.specs.Map.{name_of}
use Rattle.rv64_priv.specs.Walk.{walk_of}
use Rattle.rv64_exec.specs.Plan.{need_of}
use Rattle.rv64_exec.specs.Finish.{done}
use Rattle.machine_model.specs.declared.reason.Reason.{Reason}
use Rattle.machine_model.specs.Event.{Stop, Await, SnapBegin, SnapEnd, Dump}
use Rattle.machine_model.specs.State.{Setup, AwaitBytes, Snapshot, DumpBytes, StopAll}
use Rattle.machine_model.specs.Own.{own_executed}
use Rattle.machine_model.specs.Perform.{perform}
use Rattle.machine_model.specs.Sbi.{sbi_of, bytes_from}
use Rattle.machine_model.specs.Lawful.{flushing}
use Rattle.walk_laws.specs.WalkLoads.{reads_of}
use Rattle.turn_pieces.specs.Log.{made, did, Log}
use Rattle.turn_pieces.specs.Grows.{Grows, stays, makes, does, IsClosed, none, turn, rests, IsChain, whole}
use Rattle.turn_pieces.proofs.Writers.{grows_then}
use Rattle.turn_pieces.proofs.Rows.{step}

abbrev pub scripted : Setup
scripted = record { layout = record { harts = 1; pages = 256 }; image = λ x. 0; start = 0x80000000; limit = 50000000; script = AwaitBytes 2 ∷ Snapshot ∷ DumpBytes 0x80000000 2 ∷ StopAll ∷ [] }

abbrev pub look : Log
look = made (step 8 2 Load 0 0) ∷ []

abbrev pub awaited : Log
awaited = did (Await 2) ∷ made (step 8 4 Load 0 3) ∷ look

abbrev pub swapped : Log
swapped = made (step 8 (first_dirty_word + 3) Swap 0 0) ∷ made (step 8 (first_dirty_word + 2) Swap 0 0) ∷ made (step 8 (first_dirty_word + 1) Swap 0 1) ∷ did (SnapBegin) ∷ made (step 8 first_dirty_word Swap 0 5) ∷ awaited

abbrev pub second_look : Log
second_look = made (step 8 2 Load 0 0) ∷ swapped

abbrev pub passed : Log
passed = made (step 8 11 Store 0 0) ∷ made (step 8 11 (Exchange 0) 9 0) ∷ second_look

abbrev pub third_look : Log
third_look = made (step 8 2 Load 0 0) ∷ passed

abbrev pub posted : Log
posted = made (step 8 (first_place + 64) Store 3 0) ∷ third_look

abbrev pub fourth_look : Log
fourth_look = made (step 8 2 Load 0 0) ∷ posted

abbrev pub replied : Log
replied = did (SnapEnd (0 ∷ 2 ∷ 64 ∷ [])) ∷ made (step 8 (first_place + 64) Load 0 0) ∷ fourth_look

abbrev pub dump_look : Log
dump_look = made (step 8 2 Load 0 0) ∷ replied

abbrev pub dump_loaded : Log
dump_loaded = made (step 8 first_ram_word Load 0 513) ∷ made (step 8 8 Load 0 0) ∷ made (step 8 1 (Exchange 0) 9 0) ∷ dump_look

abbrev pub dumped : Log
dumped = made (step 8 1 Store 0 0) ∷ did (Dump 0x80000000 (1 ∷ 2 ∷ [])) ∷ dump_loaded

abbrev pub fifth_look : Log
fifth_look = made (step 8 2 Load 0 0) ∷ dumped

abbrev pub done_turn : Log
done_turn = made (step 8 (8 + 16 * 8 + 2) Store 1 0) ∷ did (Stop 8 Reason.Stopped) ∷ made (step 8 2 (Exchange 0) 6 0) ∷ fifth_look

awaited_grows : Grows scripted 8 look awaited
unfolding name_of need_of done walk_of sbi_of perform own_executed flushing reads_of
awaited_grows = does (Await 2) (makes (step 8 4 Load 0 3) (stays)
    (record { behind = (tt, tt); acks = tt; draws_last = tt }))
    (record { own = refl; fit = (refl, record { line = ((Snapshot ∷ DumpBytes 0x80000000 2 ∷ StopAll ∷ []), refl); loaded = (refl, refl, omega arith); room = omega arith; none_open = refl }); pays = record { does = record { entry_is = refl; bytes_are = refl; reason_is = refl; starts_is = refl; stops_is = refl }; begins_not = refl } })

swapped_grows : Grows scripted 8 awaited swapped
unfolding name_of need_of done walk_of sbi_of perform own_executed flushing reads_of
swapped_grows = makes (step 8 (first_dirty_word + 3) Swap 0 0) (makes (step 8 (first_dirty_word + 2) Swap 0 0) (makes (step 8 (first_dirty_word + 1) Swap 0 1) (does (SnapBegin) (makes (step 8 first_dirty_word Swap 0 5) (stays)
    (record { behind = (tt, refl); acks = tt; draws_last = tt }))
    (record { own = refl; fit = (refl, record { line = ((DumpBytes 0x80000000 2 ∷ StopAll ∷ []), refl); none_begun = refl; takes = (refl, refl) }); pays = refl }))
    (record { behind = (tt, tt); acks = tt; draws_last = tt }))
    (record { behind = (tt, tt); acks = tt; draws_last = tt }))
    (record { behind = (tt, tt); acks = tt; draws_last = tt })

passed_grows : Grows scripted 8 second_look passed
unfolding name_of need_of done walk_of sbi_of perform own_executed flushing reads_of
passed_grows = makes (step 8 11 Store 0 0) (makes (step 8 11 (Exchange 0) 9 0) (stays)
    (record { behind = (tt, tt); acks = tt; draws_last = tt }))
    (record { behind = (tt, tt); acks = tt; draws_last = tt })

posted_grows : Grows scripted 8 third_look posted
unfolding name_of need_of done walk_of sbi_of perform own_executed flushing reads_of
posted_grows = makes (step 8 (first_place + 64) Store 3 0) (stays)
    (record { behind = (tt, tt); acks = λ e. absurd (omega (arith, e)); draws_last = tt })

replied_grows : Grows scripted 8 fourth_look replied
unfolding name_of need_of done walk_of sbi_of perform own_executed flushing reads_of
replied_grows = does (SnapEnd (0 ∷ 2 ∷ 64 ∷ [])) (makes (step 8 (first_place + 64) Load 0 0) (stays)
    (record { behind = (tt, tt); acks = tt; draws_last = tt }))
    (record { own = refl; fit = (refl, record { line = ((DumpBytes 0x80000000 2 ∷ StopAll ∷ []), refl); begun = refl; replied = (0, 0, refl, refl, refl); finished = refl; pages_are = refl }); pays = record { does = record { entry_is = refl; bytes_are = refl; reason_is = refl; starts_is = refl; stops_is = refl }; begins_not = refl } })

dump_loaded_grows : Grows scripted 8 dump_look dump_loaded
unfolding name_of need_of done walk_of sbi_of perform own_executed flushing reads_of
dump_loaded_grows = makes (step 8 first_ram_word Load 0 513) (makes (step 8 8 Load 0 0) (makes (step 8 1 (Exchange 0) 9 0) (stays)
    (record { behind = (tt, refl); acks = tt; draws_last = tt }))
    (record { behind = (tt, refl); acks = tt; draws_last = tt }))
    (record { behind = (tt, tt); acks = tt; draws_last = tt })

dumped_grows : Grows scripted 8 dump_loaded dumped
unfolding name_of need_of done walk_of sbi_of perform own_executed flushing reads_of
dumped_grows = makes (step 8 1 Store 0 0) (does (Dump 0x80000000 (1 ∷ 2 ∷ [])) (stays)
    (record { own = refl; fit = (refl, ((StopAll ∷ []), refl), λ w s. λ i. bytes_from (λ k. sym (s.section (refl, refl) first_ram_word 513 tt refl) i) 0x80000000 2); pays = record { does = record { entry_is = refl; bytes_are = refl; reason_is = refl; starts_is = refl; stops_is = refl }; begins_not = refl } }))
    (record { behind = (tt, refl); acks = tt; draws_last = tt })

done_turn_grows : Grows scripted 8 fifth_look done_turn
unfolding name_of need_of done walk_of sbi_of perform own_executed flushing reads_of
done_turn_grows = makes (step 8 (8 + 16 * 8 + 2) Store 1 0) (does (Stop 8 Reason.Stopped) (makes (step 8 2 (Exchange 0) 6 0) (stays)
    (record { behind = (tt, refl); acks = tt; draws_last = tt }))
    (record { own = refl; fit = (refl, ([], refl)); pays = record { reason = Reason.Stopped; is = refl; pays = record { does = record { entry_is = refl; bytes_are = refl; reason_is = refl; starts_is = refl; stops_is = refl }; begins_not = refl }; fills_it = λ _. record { none = λ e. refl; some = λ i e. absurd (cc (e)) } } }))
    (record { behind = (tt, tt); acks = tt; draws_last = tt })

swapped_closed : IsClosed scripted 8 swapped
unfolding name_of need_of done walk_of sbi_of perform own_executed flushing reads_of
swapped_closed = record {
  clear = tt;
  none_drawn = refl;
  none_left = refl;
  stops = refl;
  last = λ e. absurd (true≢false (sym e));
  left = refl;
  full = λ e. absurd (cc (e));
  marks = λ page. refl;
  snapshot = λ e. refl;
}

passed_closed : IsClosed scripted 8 passed
unfolding name_of need_of done walk_of sbi_of perform own_executed flushing reads_of
passed_closed = record {
  clear = tt;
  none_drawn = refl;
  none_left = refl;
  stops = refl;
  last = λ e. absurd (true≢false (sym e));
  left = refl;
  full = λ e. absurd (cc (e));
  marks = λ page. refl;
  snapshot = λ e. refl;
}

posted_closed : IsClosed scripted 8 posted
unfolding name_of need_of done walk_of sbi_of perform own_executed flushing reads_of
posted_closed = record {
  clear = tt;
  none_drawn = refl;
  none_left = refl;
  stops = refl;
  last = λ e. absurd (true≢false (sym e));
  left = refl;
  full = λ e. absurd (cc (e));
  marks = λ page. refl;
  snapshot = λ e. refl;
}

replied_closed : IsClosed scripted 8 replied
unfolding name_of need_of done walk_of sbi_of perform own_executed flushing reads_of
replied_closed = record {
  clear = tt;
  none_drawn = refl;
  none_left = refl;
  stops = refl;
  last = λ e. absurd (true≢false (sym e));
  left = refl;
  full = λ e. absurd (cc (e));
  marks = λ page. refl;
  snapshot = λ e. refl;
}

dumped_closed : IsClosed scripted 8 dumped
unfolding name_of need_of done walk_of sbi_of perform own_executed flushing reads_of
dumped_closed = record {
  clear = tt;
  none_drawn = refl;
  none_left = refl;
  stops = refl;
  last = λ e. absurd (true≢false (sym e));
  left = refl;
  full = λ e. absurd (cc (e));
  marks = λ page. refl;
  snapshot = λ e. refl;
}

done_turn_closed : IsClosed scripted 8 done_turn
unfolding name_of need_of done walk_of sbi_of perform own_executed flushing reads_of
done_turn_closed = record {
  clear = tt;
  none_drawn = refl;
  none_left = refl;
  stops = refl;
  last = λ e. absurd (true≢false (sym e));
  left = refl;
  full = λ e. absurd (cc (e));
  marks = λ page. refl;
  snapshot = λ e. refl;
}

-- six turns, and one more without a step
pub script_chain : IsChain scripted 8 7 done_turn
unfolding name_of
script_chain = whole (rests (turn (turn (turn (turn (turn (turn (none) (record { look = step 8 2 Load 0 0; looks = (refl, refl); once = refl; grows = grows_then scripted 8 look awaited (grows_then scripted 8 look look (stays) awaited_grows) swapped_grows; closed = swapped_closed })) (record { look = step 8 2 Load 0 0; looks = (refl, refl); once = refl; grows = grows_then scripted 8 second_look second_look (stays) passed_grows; closed = passed_closed })) (record { look = step 8 2 Load 0 0; looks = (refl, refl); once = refl; grows = grows_then scripted 8 third_look third_look (stays) posted_grows; closed = posted_closed })) (record { look = step 8 2 Load 0 0; looks = (refl, refl); once = refl; grows = grows_then scripted 8 fourth_look fourth_look (stays) replied_grows; closed = replied_closed })) (record { look = step 8 2 Load 0 0; looks = (refl, refl); once = refl; grows = grows_then scripted 8 dump_look dump_loaded (grows_then scripted 8 dump_look dump_look (stays) dump_loaded_grows) dumped_grows; closed = dumped_closed })) (record { look = step 8 2 Load 0 0; looks = (refl, refl); once = refl; grows = grows_then scripted 8 fifth_look fifth_look (stays) done_turn_grows; closed = done_turn_closed })) refl refl)
