-- The steps of two harts, of which one stores over two words in its section and the other loads them, keep to the discipline.
use Rattle.std.proofs.Common.{true, false, refl, inl, inr, arith}
use Rattle.step_laws.specs.Map.{name_of}
use Rattle.step_laws.specs.Discipline.{IsDisciplined, by_actor, raise, ask, lower, claim, check, release, read_ram, write_ram, touch_ipi, load_stop, lock_own, unlock, mark, load_hsm, begin_start, set_start, set_opaque, add_live, end_start, load_start, load_opaque, take_start}
use Rattle.turn_pieces.specs.Log.{steps_of}
use Rattle.turn_pieces.proofs.Crossing.{crossing, start_look, start_inside, start_code_1, start_code_2, start_code_3, start_code_4, start_code_5, start_called, start_turn, ready_look, ready_inside, ready_code_1, ready_code_2, ready_code_3, ready_turn, cross_look, claimed, in_section, both_loaded, both_stored, cross_turn, last_look, last_inside, last_code, last_turn, begin_look, begin_turn, early_look, early_inside, early_code_1, early_code_2, early_loaded, early_turn, late_look, late_inside, late_loaded_first, late_loaded_second, late_turn}

start_look_kept : IsDisciplined crossing.layout 0 true (steps_of start_look)
unfolding name_of
start_look_kept = (by_actor (inl (omega arith)) refl (load_stop), tt)

start_inside_kept : IsDisciplined crossing.layout 0 true (steps_of start_inside)
unfolding name_of
start_inside_kept = (by_actor (inl (omega arith)) refl (ask refl), (by_actor (inl (omega arith)) refl (raise (refl, refl)), start_look_kept))

start_code_1_kept : IsDisciplined crossing.layout 0 true (steps_of start_code_1)
unfolding name_of
start_code_1_kept = (by_actor (inl (omega arith)) refl (read_ram (inl refl)), (by_actor (inl (omega arith)) refl (touch_ipi (inl refl)), start_inside_kept))

start_code_2_kept : IsDisciplined crossing.layout 0 true (steps_of start_code_2)
unfolding name_of
start_code_2_kept = (by_actor (inl (omega arith)) refl (read_ram (inl refl)), (by_actor (inl (omega arith)) refl (touch_ipi (inl refl)), start_code_1_kept))

start_code_3_kept : IsDisciplined crossing.layout 0 true (steps_of start_code_3)
unfolding name_of
start_code_3_kept = (by_actor (inl (omega arith)) refl (read_ram (inl refl)), (by_actor (inl (omega arith)) refl (touch_ipi (inl refl)), start_code_2_kept))

start_code_4_kept : IsDisciplined crossing.layout 0 true (steps_of start_code_4)
unfolding name_of
start_code_4_kept = (by_actor (inl (omega arith)) refl (read_ram (inl refl)), (by_actor (inl (omega arith)) refl (touch_ipi (inl refl)), start_code_3_kept))

start_code_5_kept : IsDisciplined crossing.layout 0 true (steps_of start_code_5)
unfolding name_of
start_code_5_kept = (by_actor (inl (omega arith)) refl (read_ram (inl refl)), (by_actor (inl (omega arith)) refl (touch_ipi (inl refl)), start_code_4_kept))

start_called_kept : IsDisciplined crossing.layout 0 true (steps_of start_called)
unfolding name_of
start_called_kept = (by_actor (inl (omega arith)) refl (begin_start (omega arith) refl refl (λ e. omega arith) (omega arith)), (by_actor (inl (omega arith)) refl (read_ram (inl refl)), (by_actor (inl (omega arith)) refl (touch_ipi (inl refl)), start_code_5_kept)))

start_turn_kept : IsDisciplined crossing.layout 0 true (steps_of start_turn)
unfolding name_of
start_turn_kept = (by_actor (inl (omega arith)) refl (lower), (by_actor (inl (omega arith)) refl (end_start refl), (by_actor (inl (omega arith)) refl (add_live refl), (by_actor (inl (omega arith)) refl (set_opaque refl), (by_actor (inl (omega arith)) refl (set_start refl refl), start_called_kept)))))

ready_look_kept : IsDisciplined crossing.layout 0 true (steps_of ready_look)
unfolding name_of
ready_look_kept = (by_actor (inl (omega arith)) refl (load_stop), start_turn_kept)

ready_inside_kept : IsDisciplined crossing.layout 0 true (steps_of ready_inside)
unfolding name_of
ready_inside_kept = (by_actor (inl (omega arith)) refl (ask refl), (by_actor (inl (omega arith)) refl (raise (refl, refl)), ready_look_kept))

ready_code_1_kept : IsDisciplined crossing.layout 0 true (steps_of ready_code_1)
unfolding name_of
ready_code_1_kept = (by_actor (inl (omega arith)) refl (read_ram (inl refl)), (by_actor (inl (omega arith)) refl (touch_ipi (inl refl)), ready_inside_kept))

ready_code_2_kept : IsDisciplined crossing.layout 0 true (steps_of ready_code_2)
unfolding name_of
ready_code_2_kept = (by_actor (inl (omega arith)) refl (read_ram (inl refl)), (by_actor (inl (omega arith)) refl (touch_ipi (inl refl)), ready_code_1_kept))

ready_code_3_kept : IsDisciplined crossing.layout 0 true (steps_of ready_code_3)
unfolding name_of
ready_code_3_kept = (by_actor (inl (omega arith)) refl (read_ram (inl refl)), (by_actor (inl (omega arith)) refl (touch_ipi (inl refl)), ready_code_2_kept))

ready_turn_kept : IsDisciplined crossing.layout 0 true (steps_of ready_turn)
unfolding name_of
ready_turn_kept = (by_actor (inl (omega arith)) refl (lower), ready_code_3_kept)

cross_look_kept : IsDisciplined crossing.layout 0 true (steps_of cross_look)
unfolding name_of
cross_look_kept = (by_actor (inl (omega arith)) refl (load_stop), ready_turn_kept)

claimed_kept : IsDisciplined crossing.layout 0 true (steps_of claimed)
unfolding name_of
claimed_kept = (by_actor (inl (omega arith)) refl (check (λ e. omega arith) refl), (by_actor (inl (omega arith)) refl (claim (refl, refl)), cross_look_kept))

in_section_kept : IsDisciplined crossing.layout 0 true (steps_of in_section)
unfolding name_of
in_section_kept = (by_actor (inl (omega arith)) refl (check (λ e. omega arith) refl), (by_actor (inl (omega arith)) refl (check (λ e. omega arith) refl), claimed_kept))

both_loaded_kept : IsDisciplined crossing.layout 0 true (steps_of both_loaded)
unfolding name_of
both_loaded_kept = (by_actor (inl (omega arith)) refl (read_ram (inr (refl, refl))), (by_actor (inl (omega arith)) refl (read_ram (inr (refl, refl))), (by_actor (inl (omega arith)) refl (mark {p = 0} (omega arith) (omega arith) refl refl), (by_actor (inl (omega arith)) refl (read_ram (inr (refl, refl))), (by_actor (inl (omega arith)) refl (touch_ipi (inr (refl, refl))), in_section_kept)))))

both_stored_kept : IsDisciplined crossing.layout 0 true (steps_of both_stored)
unfolding name_of
both_stored_kept = (by_actor (inl (omega arith)) refl (write_ram tt (inr (refl, refl), omega arith, refl)), (by_actor (inl (omega arith)) refl (write_ram tt (inr (refl, refl), omega arith, refl)), both_loaded_kept))

cross_turn_kept : IsDisciplined crossing.layout 0 true (steps_of cross_turn)
unfolding name_of
cross_turn_kept = (by_actor (inl (omega arith)) refl (release refl), both_stored_kept)

last_look_kept : IsDisciplined crossing.layout 0 true (steps_of last_look)
unfolding name_of
last_look_kept = (by_actor (inl (omega arith)) refl (load_stop), cross_turn_kept)

last_inside_kept : IsDisciplined crossing.layout 0 true (steps_of last_inside)
unfolding name_of
last_inside_kept = (by_actor (inl (omega arith)) refl (ask refl), (by_actor (inl (omega arith)) refl (raise (refl, refl)), last_look_kept))

last_code_kept : IsDisciplined crossing.layout 0 true (steps_of last_code)
unfolding name_of
last_code_kept = (by_actor (inl (omega arith)) refl (read_ram (inl refl)), (by_actor (inl (omega arith)) refl (touch_ipi (inl refl)), last_inside_kept))

pub last_turn_kept : IsDisciplined crossing.layout 0 true (steps_of last_turn)
unfolding name_of
last_turn_kept = (by_actor (inl (omega arith)) refl (lower), last_code_kept)

begin_look_kept : IsDisciplined crossing.layout 1 false (steps_of begin_look)
unfolding name_of
begin_look_kept = (by_actor (inl (omega arith)) refl (load_stop), tt)

begin_turn_kept : IsDisciplined crossing.layout 1 false (steps_of begin_turn)
unfolding name_of
begin_turn_kept = (by_actor (inl (omega arith)) refl (take_start refl refl refl), (by_actor (inl (omega arith)) refl (unlock refl (λ _ j f _. refl) (λ ne. absurd (ne refl))), (by_actor (inl (omega arith)) refl (load_opaque refl), (by_actor (inl (omega arith)) refl (load_start refl), (by_actor (inl (omega arith)) refl (lock_own refl (omega arith)), (by_actor (inl (omega arith)) refl (load_hsm), begin_look_kept))))))

early_look_kept : IsDisciplined crossing.layout 1 false (steps_of early_look)
unfolding name_of
early_look_kept = (by_actor (inl (omega arith)) refl (load_stop), begin_turn_kept)

early_inside_kept : IsDisciplined crossing.layout 1 false (steps_of early_inside)
unfolding name_of
early_inside_kept = (by_actor (inl (omega arith)) refl (ask refl), (by_actor (inl (omega arith)) refl (raise (refl, refl)), early_look_kept))

early_code_1_kept : IsDisciplined crossing.layout 1 false (steps_of early_code_1)
unfolding name_of
early_code_1_kept = (by_actor (inl (omega arith)) refl (read_ram (inl refl)), (by_actor (inl (omega arith)) refl (touch_ipi (inl refl)), early_inside_kept))

early_code_2_kept : IsDisciplined crossing.layout 1 false (steps_of early_code_2)
unfolding name_of
early_code_2_kept = (by_actor (inl (omega arith)) refl (read_ram (inl refl)), (by_actor (inl (omega arith)) refl (touch_ipi (inl refl)), early_code_1_kept))

early_loaded_kept : IsDisciplined crossing.layout 1 false (steps_of early_loaded)
unfolding name_of
early_loaded_kept = (by_actor (inl (omega arith)) refl (read_ram (inl refl)), (by_actor (inl (omega arith)) refl (read_ram (inl refl)), (by_actor (inl (omega arith)) refl (touch_ipi (inl refl)), early_code_2_kept)))

early_turn_kept : IsDisciplined crossing.layout 1 false (steps_of early_turn)
unfolding name_of
early_turn_kept = (by_actor (inl (omega arith)) refl (lower), early_loaded_kept)

late_look_kept : IsDisciplined crossing.layout 1 false (steps_of late_look)
unfolding name_of
late_look_kept = (by_actor (inl (omega arith)) refl (load_stop), early_turn_kept)

late_inside_kept : IsDisciplined crossing.layout 1 false (steps_of late_inside)
unfolding name_of
late_inside_kept = (by_actor (inl (omega arith)) refl (ask refl), (by_actor (inl (omega arith)) refl (raise (refl, refl)), late_look_kept))

late_loaded_first_kept : IsDisciplined crossing.layout 1 false (steps_of late_loaded_first)
unfolding name_of
late_loaded_first_kept = (by_actor (inl (omega arith)) refl (read_ram (inl refl)), (by_actor (inl (omega arith)) refl (read_ram (inl refl)), (by_actor (inl (omega arith)) refl (touch_ipi (inl refl)), late_inside_kept)))

late_loaded_second_kept : IsDisciplined crossing.layout 1 false (steps_of late_loaded_second)
unfolding name_of
late_loaded_second_kept = (by_actor (inl (omega arith)) refl (read_ram (inl refl)), (by_actor (inl (omega arith)) refl (read_ram (inl refl)), (by_actor (inl (omega arith)) refl (touch_ipi (inl refl)), late_loaded_first_kept)))

pub late_turn_kept : IsDisciplined crossing.layout 1 false (steps_of late_turn)
unfolding name_of
late_turn_kept = (by_actor (inl (omega arith)) refl (lower), late_loaded_second_kept)
