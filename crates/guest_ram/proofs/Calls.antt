-- What callers of a port cite of this crate's proofs, so that the files here can move.
pub use Rattle.guest_ram.proofs.MaySteps.{section_kinds, touch_kinds, end_kinds, lock_kinds, table_kinds, kick_kinds, mark_kinds, place_kinds, state_kinds, boot_kinds}
pub use Rattle.guest_ram.proofs.MaySteps.{may_look, may_split_first, may_split_more}
pub use Rattle.guest_ram.proofs.Moves.{fold_adds, phase_adds, claims_adds, lock_adds, drawn_adds, armed_adds, acting_adds, ready_adds, booting_adds, stored_adds, draws_place, armed_keeps, found_there, actor_few}
pub use Rattle.guest_ram.proofs.Moves.{goes_none, goes_step, goes_made, goes_then, goes_at_most, goes_within, fold_goes, stands_goes, touch_stands, armed_goes, machine_goes, actor_goes, acting_goes, stored_goes, disciplined_goes, split_began, join_began}
pub use Rattle.guest_ram.proofs.AreaLemmas.{any_word, section_steady, output_steady, ram_steady, table_steady, inner_aside, output_inner, ram_inner, table_inner, places_aside, states_aside}
