-- The steps of two harts, of which one asks for a fence and the other serves it, keep to the discipline.
use Rattle.std.proofs.Common.{◌≡◌, ℕ, ◌<◌, Bool, true, false, refl, ap, inl, inr, arith, ⊎_elim}
use Rattle.std.specs.Prelude.{◌⊎◌, ◌&&◌, ◌||◌, nat_lt, if◌then◌else◌}
use Rattle.std.proofs.lemmas.Bool.{lt-ltb}
use Rattle.step_laws.specs.declared.map.TlbField.{TlbField}
use Rattle.step_laws.specs.declared.request.Request.TheVariants.{FlushAll}
use Rattle.step_laws.specs.Map.{name_of}
use Rattle.step_laws.specs.Fields.{IsRequestWord, invalid_bit}
use Rattle.step_laws.specs.Past.{here, past}
use Rattle.step_laws.specs.Tables.{is_compare, is_victim, is_first_slot, boot_entry}
use Rattle.step_laws.specs.Discipline.{IsDisciplined, by_actor, raise, ask, lower, read_ram, write_ram, touch_ipi, load_stop, lock_own, unlock, mark, poll, post, fetch, ack, load_hsm, begin_start, set_start, set_opaque, add_live, end_start, load_start, load_opaque, take_start}
use Rattle.turn_pieces.specs.Log.{steps_of}
use Rattle.turn_pieces.proofs.FenceServed.{fencing, start_look, start_inside, start_code_1, start_code_2, start_code_3, start_code_4, start_code_5, start_called, start_turn, map_look, map_inside, map_code_1, map_code_2, map_code_3, map_code_4, map_fetched, mapped, walked, map_turn, stale_look, stale_inside, stale, stale_turn, serve_look, flushed, serve_turn, anew_look, anew_inside, faulted, fault_turn}
use Rattle.turn_pieces.proofs.FenceAsked.{begin_look, begin_turn, clear_look, clear_inside, clear_code, entry_stored, clear_turn, ask_look, ask_inside, ask_code_1, ask_code_2, ask_code_3, ask_code_4, asked, answered, ask_turn}

flush_all : IsRequestWord 1
flush_all = (FlushAll, tt, (refl, refl, refl))

or_left : (x y : Bool) → x ≡ true → (x || y) ≡ true
or_left true y e = refl
or_left false y e = absurd (cc)

or_right : (x y : Bool) → y ≡ true → (x || y) ≡ true
or_right true y e = refl
or_right false y e = e

-- a table that was never filled has no valid entry
empty_boot : (j : ℕ) (f : TlbField) → is_compare f ≡ true → (j < 64) ⊎ (is_victim j ≡ true) → invalid_bit (boot_entry j f) ≡ 1
empty_boot j f cmp used = ap (λ t. invalid_bit (if t then 1 else 0)) (both (is_first_slot j) (is_compare f) (⊎_elim (λ (l : j < 64). or_left (nat_lt j 64) (is_victim j) (lt-ltb j 64 l)) (λ (v : is_victim j ≡ true). or_right (nat_lt j 64) (is_victim j) v) used) cmp)
  where
    both : (x y : Bool) → x ≡ true → y ≡ true → (x && y) ≡ true
    both true y d e = e
    both false y d e = d

start_look_kept : IsDisciplined fencing.layout 0 true (steps_of start_look)
unfolding name_of
start_look_kept = (by_actor (inl (omega arith)) refl (load_stop), tt)

start_inside_kept : IsDisciplined fencing.layout 0 true (steps_of start_inside)
unfolding name_of
start_inside_kept = (by_actor (inl (omega arith)) refl (ask refl), (by_actor (inl (omega arith)) refl (raise (refl, refl)), start_look_kept))

start_code_1_kept : IsDisciplined fencing.layout 0 true (steps_of start_code_1)
unfolding name_of
start_code_1_kept = (by_actor (inl (omega arith)) refl (read_ram (inl refl)), (by_actor (inl (omega arith)) refl (touch_ipi (inl refl)), start_inside_kept))

start_code_2_kept : IsDisciplined fencing.layout 0 true (steps_of start_code_2)
unfolding name_of
start_code_2_kept = (by_actor (inl (omega arith)) refl (read_ram (inl refl)), (by_actor (inl (omega arith)) refl (touch_ipi (inl refl)), start_code_1_kept))

start_code_3_kept : IsDisciplined fencing.layout 0 true (steps_of start_code_3)
unfolding name_of
start_code_3_kept = (by_actor (inl (omega arith)) refl (read_ram (inl refl)), (by_actor (inl (omega arith)) refl (touch_ipi (inl refl)), start_code_2_kept))

start_code_4_kept : IsDisciplined fencing.layout 0 true (steps_of start_code_4)
unfolding name_of
start_code_4_kept = (by_actor (inl (omega arith)) refl (read_ram (inl refl)), (by_actor (inl (omega arith)) refl (touch_ipi (inl refl)), start_code_3_kept))

start_code_5_kept : IsDisciplined fencing.layout 0 true (steps_of start_code_5)
unfolding name_of
start_code_5_kept = (by_actor (inl (omega arith)) refl (read_ram (inl refl)), (by_actor (inl (omega arith)) refl (touch_ipi (inl refl)), start_code_4_kept))

start_called_kept : IsDisciplined fencing.layout 0 true (steps_of start_called)
unfolding name_of
start_called_kept = (by_actor (inl (omega arith)) refl (begin_start (omega arith) refl refl (λ e. omega arith) (omega arith)), (by_actor (inl (omega arith)) refl (read_ram (inl refl)), (by_actor (inl (omega arith)) refl (touch_ipi (inl refl)), start_code_5_kept)))

start_turn_kept : IsDisciplined fencing.layout 0 true (steps_of start_turn)
unfolding name_of
start_turn_kept = (by_actor (inl (omega arith)) refl (lower), (by_actor (inl (omega arith)) refl (end_start refl), (by_actor (inl (omega arith)) refl (add_live refl), (by_actor (inl (omega arith)) refl (set_opaque refl), (by_actor (inl (omega arith)) refl (set_start refl refl), start_called_kept)))))

map_look_kept : IsDisciplined fencing.layout 0 true (steps_of map_look)
unfolding name_of
map_look_kept = (by_actor (inl (omega arith)) refl (load_stop), start_turn_kept)

map_inside_kept : IsDisciplined fencing.layout 0 true (steps_of map_inside)
unfolding name_of
map_inside_kept = (by_actor (inl (omega arith)) refl (ask refl), (by_actor (inl (omega arith)) refl (raise (refl, refl)), map_look_kept))

map_code_1_kept : IsDisciplined fencing.layout 0 true (steps_of map_code_1)
unfolding name_of
map_code_1_kept = (by_actor (inl (omega arith)) refl (read_ram (inl refl)), (by_actor (inl (omega arith)) refl (touch_ipi (inl refl)), map_inside_kept))

map_code_2_kept : IsDisciplined fencing.layout 0 true (steps_of map_code_2)
unfolding name_of
map_code_2_kept = (by_actor (inl (omega arith)) refl (read_ram (inl refl)), (by_actor (inl (omega arith)) refl (touch_ipi (inl refl)), map_code_1_kept))

map_code_3_kept : IsDisciplined fencing.layout 0 true (steps_of map_code_3)
unfolding name_of
map_code_3_kept = (by_actor (inl (omega arith)) refl (read_ram (inl refl)), (by_actor (inl (omega arith)) refl (touch_ipi (inl refl)), map_code_2_kept))

map_code_4_kept : IsDisciplined fencing.layout 0 true (steps_of map_code_4)
unfolding name_of
map_code_4_kept = (by_actor (inl (omega arith)) refl (read_ram (inl refl)), (by_actor (inl (omega arith)) refl (touch_ipi (inl refl)), map_code_3_kept))

map_fetched_kept : IsDisciplined fencing.layout 0 true (steps_of map_fetched)
unfolding name_of
map_fetched_kept = (by_actor (inl (omega arith)) refl (read_ram (inl refl)), (by_actor (inl (omega arith)) refl (touch_ipi (inl refl)), map_code_4_kept))

mapped_kept : IsDisciplined fencing.layout 0 true (steps_of mapped)
unfolding name_of
mapped_kept = (by_actor (inl (omega arith)) refl (unlock refl (λ _ j f _. refl) (λ ne. absurd (ne refl))), (by_actor (inl (omega arith)) refl (lock_own refl (omega arith)), map_fetched_kept))

walked_kept : IsDisciplined fencing.layout 0 true (steps_of walked)
unfolding name_of
walked_kept = (by_actor (inl (omega arith)) refl (read_ram (inl refl)), (by_actor (inl (omega arith)) refl (read_ram (inl refl)), (by_actor (inl (omega arith)) refl (touch_ipi (inl refl)), mapped_kept)))

map_turn_kept : IsDisciplined fencing.layout 0 true (steps_of map_turn)
unfolding name_of
map_turn_kept = (by_actor (inl (omega arith)) refl (lower), walked_kept)

stale_look_kept : IsDisciplined fencing.layout 0 true (steps_of stale_look)
unfolding name_of
stale_look_kept = (by_actor (inl (omega arith)) refl (load_stop), map_turn_kept)

stale_inside_kept : IsDisciplined fencing.layout 0 true (steps_of stale_inside)
unfolding name_of
stale_inside_kept = (by_actor (inl (omega arith)) refl (ask refl), (by_actor (inl (omega arith)) refl (raise (refl, refl)), stale_look_kept))

stale_kept : IsDisciplined fencing.layout 0 true (steps_of stale)
unfolding name_of
stale_kept = (by_actor (inl (omega arith)) refl (read_ram (inl refl)), (by_actor (inl (omega arith)) refl (touch_ipi (inl refl)), stale_inside_kept))

stale_turn_kept : IsDisciplined fencing.layout 0 true (steps_of stale_turn)
unfolding name_of
stale_turn_kept = (by_actor (inl (omega arith)) refl (lower), stale_kept)

serve_look_kept : IsDisciplined fencing.layout 0 true (steps_of serve_look)
unfolding name_of
serve_look_kept = (by_actor (inl (omega arith)) refl (load_stop), stale_turn_kept)

flushed_kept : IsDisciplined fencing.layout 0 true (steps_of flushed)
unfolding name_of
flushed_kept = (by_actor (inl (omega arith)) refl (unlock refl (λ _ j f _. refl) (λ ne. absurd (ne refl))), (by_actor (inl (omega arith)) refl (lock_own refl (omega arith)), (by_actor (inl (omega arith)) refl (fetch (λ e. omega arith) (omega arith) refl refl), serve_look_kept)))

serve_turn_kept : IsDisciplined fencing.layout 0 true (steps_of serve_turn)
unfolding name_of
serve_turn_kept = (by_actor (inl (omega arith)) refl (ack {q = 1} (λ e. omega arith) (omega arith) refl refl flush_all refl (inr (here (refl, refl, refl) ((λ j f cmp used. inl (empty_boot j f cmp used)), past (λ e. absurd (cc)) (here (refl, refl, refl) tt))))), flushed_kept)

anew_look_kept : IsDisciplined fencing.layout 0 true (steps_of anew_look)
unfolding name_of
anew_look_kept = (by_actor (inl (omega arith)) refl (load_stop), serve_turn_kept)

anew_inside_kept : IsDisciplined fencing.layout 0 true (steps_of anew_inside)
unfolding name_of
anew_inside_kept = (by_actor (inl (omega arith)) refl (ask refl), (by_actor (inl (omega arith)) refl (raise (refl, refl)), anew_look_kept))

faulted_kept : IsDisciplined fencing.layout 0 true (steps_of faulted)
unfolding name_of
faulted_kept = (by_actor (inl (omega arith)) refl (read_ram (inl refl)), (by_actor (inl (omega arith)) refl (touch_ipi (inl refl)), anew_inside_kept))

pub fault_turn_kept : IsDisciplined fencing.layout 0 true (steps_of fault_turn)
unfolding name_of
fault_turn_kept = (by_actor (inl (omega arith)) refl (lower), faulted_kept)

begin_look_kept : IsDisciplined fencing.layout 1 false (steps_of begin_look)
unfolding name_of
begin_look_kept = (by_actor (inl (omega arith)) refl (load_stop), tt)

begin_turn_kept : IsDisciplined fencing.layout 1 false (steps_of begin_turn)
unfolding name_of
begin_turn_kept = (by_actor (inl (omega arith)) refl (take_start refl refl refl), (by_actor (inl (omega arith)) refl (unlock refl (λ _ j f _. refl) (λ ne. absurd (ne refl))), (by_actor (inl (omega arith)) refl (load_opaque refl), (by_actor (inl (omega arith)) refl (load_start refl), (by_actor (inl (omega arith)) refl (lock_own refl (omega arith)), (by_actor (inl (omega arith)) refl (load_hsm), begin_look_kept))))))

clear_look_kept : IsDisciplined fencing.layout 1 false (steps_of clear_look)
unfolding name_of
clear_look_kept = (by_actor (inl (omega arith)) refl (load_stop), begin_turn_kept)

clear_inside_kept : IsDisciplined fencing.layout 1 false (steps_of clear_inside)
unfolding name_of
clear_inside_kept = (by_actor (inl (omega arith)) refl (ask refl), (by_actor (inl (omega arith)) refl (raise (refl, refl)), clear_look_kept))

clear_code_kept : IsDisciplined fencing.layout 1 false (steps_of clear_code)
unfolding name_of
clear_code_kept = (by_actor (inl (omega arith)) refl (read_ram (inl refl)), (by_actor (inl (omega arith)) refl (touch_ipi (inl refl)), clear_inside_kept))

entry_stored_kept : IsDisciplined fencing.layout 1 false (steps_of entry_stored)
unfolding name_of
entry_stored_kept = (by_actor (inl (omega arith)) refl (write_ram tt (inl refl, omega arith, refl)), (by_actor (inl (omega arith)) refl (mark {p = 0} (omega arith) (omega arith) refl refl), (by_actor (inl (omega arith)) refl (read_ram (inl refl)), (by_actor (inl (omega arith)) refl (touch_ipi (inl refl)), clear_code_kept))))

clear_turn_kept : IsDisciplined fencing.layout 1 false (steps_of clear_turn)
unfolding name_of
clear_turn_kept = (by_actor (inl (omega arith)) refl (lower), entry_stored_kept)

ask_look_kept : IsDisciplined fencing.layout 1 false (steps_of ask_look)
unfolding name_of
ask_look_kept = (by_actor (inl (omega arith)) refl (load_stop), clear_turn_kept)

ask_inside_kept : IsDisciplined fencing.layout 1 false (steps_of ask_inside)
unfolding name_of
ask_inside_kept = (by_actor (inl (omega arith)) refl (ask refl), (by_actor (inl (omega arith)) refl (raise (refl, refl)), ask_look_kept))

ask_code_1_kept : IsDisciplined fencing.layout 1 false (steps_of ask_code_1)
unfolding name_of
ask_code_1_kept = (by_actor (inl (omega arith)) refl (read_ram (inl refl)), (by_actor (inl (omega arith)) refl (touch_ipi (inl refl)), ask_inside_kept))

ask_code_2_kept : IsDisciplined fencing.layout 1 false (steps_of ask_code_2)
unfolding name_of
ask_code_2_kept = (by_actor (inl (omega arith)) refl (read_ram (inl refl)), (by_actor (inl (omega arith)) refl (touch_ipi (inl refl)), ask_code_1_kept))

ask_code_3_kept : IsDisciplined fencing.layout 1 false (steps_of ask_code_3)
unfolding name_of
ask_code_3_kept = (by_actor (inl (omega arith)) refl (read_ram (inl refl)), (by_actor (inl (omega arith)) refl (touch_ipi (inl refl)), ask_code_2_kept))

ask_code_4_kept : IsDisciplined fencing.layout 1 false (steps_of ask_code_4)
unfolding name_of
ask_code_4_kept = (by_actor (inl (omega arith)) refl (read_ram (inl refl)), (by_actor (inl (omega arith)) refl (touch_ipi (inl refl)), ask_code_3_kept))

asked_kept : IsDisciplined fencing.layout 1 false (steps_of asked)
unfolding name_of
asked_kept = (by_actor (inl (omega arith)) refl (post (λ e. omega arith) (omega arith) refl flush_all refl), (by_actor (inl (omega arith)) refl (poll (λ e. omega arith)), (by_actor (inl (omega arith)) refl (read_ram (inl refl)), (by_actor (inl (omega arith)) refl (touch_ipi (inl refl)), ask_code_4_kept))))

answered_kept : IsDisciplined fencing.layout 1 false (steps_of answered)
unfolding name_of
answered_kept = (by_actor (inl (omega arith)) refl (poll (λ e. omega arith)), asked_kept)

pub ask_turn_kept : IsDisciplined fencing.layout 1 false (steps_of ask_turn)
unfolding name_of
ask_turn_kept = (by_actor (inl (omega arith)) refl (lower), answered_kept)
