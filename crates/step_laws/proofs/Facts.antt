-- What crates above cite of this one's proofs, so that the files here can move.
pub use Rattle.step_laws.proofs.Named.{by_test, number_name, word_name, one_to_one, same_true, same_refl}
pub use Rattle.step_laws.proofs.Numbered.{named, named_zero, named_field}
pub use Rattle.step_laws.proofs.Woven.{history_tail, held_value}
pub use Rattle.step_laws.proofs.Histories.{IsTrace, booted, runs_in, joined_law, trace_law, trace_begun}
pub use Rattle.step_laws.proofs.Apart.{section_facts, section_law}
pub use Rattle.step_laws.proofs.Turned.{run_law, pend_law, lock_law}
pub use Rattle.step_laws.proofs.Slots.{lock_facts, table_facts, slot_facts}
pub use Rattle.step_laws.proofs.Stores.{own_word, store_law, boot_law}
pub use Rattle.step_laws.proofs.Rings.{ring_facts}
pub use Rattle.step_laws.proofs.Fenced.{alternate_law, fence_law, placed_law, placed_ack_law, placed_flush_law}
pub use Rattle.step_laws.proofs.Halting.{hart_facts, move_law, stop_law, start_law, settled_law}
pub use Rattle.step_laws.proofs.Snapped.{mark_facts, armed_law, snapshot_law}
pub use Rattle.step_laws.proofs.Traced.{precision_law}
pub use Rattle.step_laws.proofs.Known.{range_facts}
pub use Rattle.step_laws.proofs.Ends.{end_law, find_facts}
pub use Rattle.step_laws.proofs.Draws.{draw_law}
