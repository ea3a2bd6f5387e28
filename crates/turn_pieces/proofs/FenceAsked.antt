-- The log of the hart that clears the entry and asks for the fence: it is a chain of turns.
use Rattle.std.proofs.Common.{◌≡◌, ◌<◌, ◌+◌, ◌*◌, ◌^◌, ℕ, true≢false, [], ◌∷◌, Some, refl, sym, ap, subst, inl, inr, arith, pos, negsuc}
use Rattle.rv64_decode.specs.declared.instruction.Instr.TheVariants.{Lui, Auipc, Addi, Sd, Ecall}
use Rattle.rv64_decode.specs.Encoding.{encoding_of}
use Rattle.rv64_priv.specs.Flush.{Full}
use Rattle.rv64_priv.specs.Walk.{Walked, walk_of}
use Rattle.rv64_exec.specs.declared.needs.Answer.{Answer}
use Rattle.rv64_exec.specs.Plan.{need_of}
use Rattle.rv64_exec.specs.Finish.{done}
use Rattle.step_laws.specs.declared.steps.WordOp.TheVariants.{Load, Store, Or, Exchange}
use Rattle.step_laws.specs.Words.{first_ram_word, first_dirty_word, first_place}
use Rattle.step_laws.specs.Map.{name_of}
use Rattle.machine_model.specs.Event.{Flushes, Start as Begin, only}
use Rattle.machine_model.specs.Memory.{write_of, replaced}
use Rattle.machine_model.specs.Own.{own_executed}
use Rattle.machine_model.specs.Perform.{perform}
use Rattle.machine_model.specs.Sbi.{sbi_of}
use Rattle.machine_model.specs.Walks.{need_held}
use Rattle.machine_model.specs.Lawful.{flushing}
use Rattle.walk_laws.specs.WalkLoads.{reads_of}
use Rattle.turn_pieces.specs.Log.{made, did, Log}
use Rattle.turn_pieces.specs.Kept.{own_part}
use Rattle.turn_pieces.specs.Right.{AreFenced}
use Rattle.turn_pieces.specs.Grows.{Grows, stays, makes, does, IsClosed, none, turn, IsChain, whole}
use Rattle.turn_pieces.proofs.Writers.{grows_then}
use Rattle.turn_pieces.proofs.Unmarked.{unmarked, zero_marked}
use Rattle.turn_pieces.proofs.Rows.{step}
use Rattle.turn_pieces.proofs.FenceServed.{fencing, fetched, executed, fetched_quiet, executed_quiet, cleared, fenced}

-- all bytes of a word are replaced
whole_replaced : (old : ℕ) → old < 2 ^ 64 → replaced old 0 8 0 ≡ 0
whole_replaced old lt = omega (arith, lt)

abbrev pub begin_look : Log
begin_look = made (step 1 2 Load 0 0) ∷ []

abbrev pub begin_turn : Log
begin_turn = did (Begin 1 0x80000040 0) ∷ made (step 1 29 Store 0 0) ∷ did (Flushes 1 Full) ∷ made (step 1 27 Store 0 0) ∷ made (step 1 31 Load 0 0) ∷ made (step 1 30 Load 0 0x80000040) ∷ made (step 1 27 (Exchange 0) 2 0) ∷ made (step 1 29 Load 0 2) ∷ begin_look

abbrev pub clear_look : Log
clear_look = made (step 1 2 Load 0 0) ∷ begin_turn

abbrev pub clear_inside : Log
clear_inside = made (step 1 1 Load 0 0) ∷ made (step 1 24 Store 1 0) ∷ clear_look

abbrev pub clear_code : Log
clear_code = did (executed 1) ∷ did (fetched 1 (Auipc 5 (pos 0))) ∷ made (step 1 (first_ram_word + 8) Load 0 (encoding_of (Auipc 5 (pos 0)) + 2 ^ 32 * encoding_of (Sd 5 0 (negsuc 47)))) ∷ made (step 1 5 Load 0 0) ∷ clear_inside

abbrev pub entry_stored : Log
entry_stored = made (step 1 (first_ram_word + 2) Store 0 0) ∷ made (step 1 first_dirty_word Or 1 0) ∷ did (fetched 1 (Sd 5 0 (negsuc 47))) ∷ made (step 1 (first_ram_word + 8) Load 0 (encoding_of (Auipc 5 (pos 0)) + 2 ^ 32 * encoding_of (Sd 5 0 (negsuc 47)))) ∷ made (step 1 5 Load 0 0) ∷ clear_code

abbrev pub clear_turn : Log
clear_turn = made (step 1 24 Store 0 0) ∷ did (cleared) ∷ entry_stored

abbrev pub ask_look : Log
ask_look = made (step 1 2 Load 0 0) ∷ clear_turn

abbrev pub ask_inside : Log
ask_inside = made (step 1 1 Load 0 0) ∷ made (step 1 24 Store 1 0) ∷ ask_look

abbrev pub ask_code_1 : Log
ask_code_1 = did (executed 1) ∷ did (fetched 1 (Addi 16 0 (pos 1))) ∷ made (step 1 (first_ram_word + 9) Load 0 (encoding_of (Addi 16 0 (pos 1)) + 2 ^ 32 * encoding_of (Lui 17 (pos 0x52464000)))) ∷ made (step 1 5 Load 0 0) ∷ ask_inside

abbrev pub ask_code_2 : Log
ask_code_2 = did (executed 1) ∷ did (fetched 1 (Lui 17 (pos 0x52464000))) ∷ made (step 1 (first_ram_word + 9) Load 0 (encoding_of (Addi 16 0 (pos 1)) + 2 ^ 32 * encoding_of (Lui 17 (pos 0x52464000)))) ∷ made (step 1 5 Load 0 0) ∷ ask_code_1

abbrev pub ask_code_3 : Log
ask_code_3 = did (executed 1) ∷ did (fetched 1 (Addi 17 17 (pos 2047))) ∷ made (step 1 (first_ram_word + 10) Load 0 (encoding_of (Addi 17 17 (pos 2047)) + 2 ^ 32 * encoding_of (Addi 17 17 (pos 1604)))) ∷ made (step 1 5 Load 0 0) ∷ ask_code_2

abbrev pub ask_code_4 : Log
ask_code_4 = did (executed 1) ∷ did (fetched 1 (Addi 17 17 (pos 1604))) ∷ made (step 1 (first_ram_word + 10) Load 0 (encoding_of (Addi 17 17 (pos 2047)) + 2 ^ 32 * encoding_of (Addi 17 17 (pos 1604)))) ∷ made (step 1 5 Load 0 0) ∷ ask_code_3

abbrev pub asked : Log
asked = made (step 1 (first_place + 8) Store 1 0) ∷ made (step 1 (first_place + 8) Load 0 0) ∷ did (fetched 1 (Ecall)) ∷ made (step 1 (first_ram_word + 11) Load 0 (encoding_of (Ecall))) ∷ made (step 1 5 Load 0 0) ∷ ask_code_4

abbrev pub answered : Log
answered = made (step 1 (first_place + 8) Load 0 0) ∷ asked

abbrev pub ask_turn : Log
ask_turn = made (step 1 24 Store 0 0) ∷ did (fenced) ∷ answered

begin_turn_grows : Grows fencing 1 begin_look begin_turn
unfolding name_of need_of done walk_of sbi_of perform own_executed flushing reads_of
begin_turn_grows = does (Begin 1 0x80000040 0) (makes (step 1 29 Store 0 0) (does (Flushes 1 Full) (makes (step 1 27 Store 0 0) (makes (step 1 31 Load 0 0) (makes (step 1 30 Load 0 0x80000040) (makes (step 1 27 (Exchange 0) 2 0) (makes (step 1 29 Load 0 2) (stays)
    (record { behind = (tt, tt); acks = tt; draws_last = tt }))
    (record { behind = (tt, tt); acks = tt; draws_last = tt }))
    (record { behind = (tt, tt); acks = tt; draws_last = tt }))
    (record { behind = (tt, tt); acks = tt; draws_last = tt }))
    (record { behind = (tt, tt); acks = tt; draws_last = tt }))
    (record { own = refl; fit = (omega arith, refl); pays = record { does = record { entry_is = refl; bytes_are = refl; reason_is = refl; starts_is = refl; stops_is = refl }; begins_not = refl } }))
    (record { behind = (tt, inr (refl, omega arith)); acks = tt; draws_last = tt }))
    (record { own = refl; fit = (omega arith, record { not_due = refl; stored = (refl, refl, refl); at_is = refl; opaque_is = refl; flushed_all = refl }); pays = (0x80000040, 0, refl) })

clear_inside_grows : Grows fencing 1 clear_look clear_inside
unfolding name_of need_of done walk_of sbi_of perform own_executed flushing reads_of
clear_inside_grows = makes (step 1 1 Load 0 0) (makes (step 1 24 Store 1 0) (stays)
    (record { behind = (tt, refl); acks = tt; draws_last = tt }))
    (record { behind = (tt, refl); acks = tt; draws_last = tt })

clear_code_grows : Grows fencing 1 clear_inside clear_code
unfolding name_of need_of done walk_of sbi_of perform own_executed flushing reads_of
clear_code_grows = does (executed 1) (does (fetched 1 (Auipc 5 (pos 0))) (makes (step 1 (first_ram_word + 8) Load 0 (encoding_of (Auipc 5 (pos 0)) + 2 ^ 32 * encoding_of (Sd 5 0 (negsuc 47)))) (makes (step 1 5 Load 0 0) (stays)
    (record { behind = (tt, tt); acks = tt; draws_last = tt }))
    (record { behind = (tt, tt); acks = tt; draws_last = tt }))
    (record { own = refl; fit = (omega arith, record { runs = refl; holds_none = refl; not_due = refl; ipi = 0; loaded = (inr (inl ((refl, refl, refl), tt))); quiet = refl; shown = record { finds = λ x. 0; is_end = refl; stood = tt }; fetched = (refl, refl, refl, ((omega arith, (omega arith, omega arith), refl), refl)) }); pays = fetched_quiet 1 (Auipc 5 (pos 0)) }))
    (record { own = refl; fit = (omega arith, record { holds = refl; shown = tt; flushed = λ w s. tt; right = λ w s. refl }); pays = executed_quiet 1 })

entry_stored_grows : Grows fencing 1 clear_code entry_stored
unfolding name_of need_of done walk_of sbi_of perform own_executed flushing reads_of
entry_stored_grows = makes (step 1 (first_ram_word + 2) Store 0 0) (makes (step 1 first_dirty_word Or 1 0) (does (fetched 1 (Sd 5 0 (negsuc 47))) (makes (step 1 (first_ram_word + 8) Load 0 (encoding_of (Auipc 5 (pos 0)) + 2 ^ 32 * encoding_of (Sd 5 0 (negsuc 47)))) (makes (step 1 5 Load 0 0) (stays)
    (record { behind = (tt, tt); acks = tt; draws_last = tt }))
    (record { behind = (tt, tt); acks = tt; draws_last = tt }))
    (record { own = refl; fit = (omega arith, record { runs = refl; holds_none = refl; not_due = refl; ipi = 0; loaded = (inr (inl ((refl, refl, refl), tt))); quiet = refl; shown = record { finds = λ x. 0; is_end = refl; stood = tt }; fetched = (refl, refl, refl, ((omega arith, omega arith, (omega arith, omega arith)), refl)) }); pays = fetched_quiet 1 (Sd 5 0 (negsuc 47)) }))
    (record { behind = (tt, tt); acks = tt; draws_last = tt }))
    (record { behind = (tt, tt); acks = tt; draws_last = tt })

clear_turn_grows : Grows fencing 1 entry_stored clear_turn
unfolding name_of need_of done walk_of sbi_of perform own_executed flushing reads_of
clear_turn_grows = makes (step 1 24 Store 0 0) (does (cleared) (stays)
    (record { own = refl; fit = (omega arith, record { holds = refl; shown = record { first_page = record { finds = λ x. 0; is_end = refl; stood = tt }; second_page = λ e. absurd (true≢false (sym e)) }; flushed = λ w s. tt; right = λ w s. ap (λ v. record (only Answer.Nothing) { entry = Some (write_of (first_ram_word + 2) v ∷ []) }) (sym (whole_replaced (w.memory (first_ram_word + 2)) (s.words (first_ram_word + 2)))) }); pays = record { does = record { entry_is = refl; bytes_are = refl; reason_is = refl; starts_is = refl; stops_is = refl }; begins_not = refl } }))
    (record { behind = (tt, refl); acks = tt; draws_last = tt })

ask_inside_grows : Grows fencing 1 ask_look ask_inside
unfolding name_of need_of done walk_of sbi_of perform own_executed flushing reads_of
ask_inside_grows = makes (step 1 1 Load 0 0) (makes (step 1 24 Store 1 0) (stays)
    (record { behind = (tt, refl); acks = tt; draws_last = tt }))
    (record { behind = (tt, refl); acks = tt; draws_last = tt })

ask_code_1_grows : Grows fencing 1 ask_inside ask_code_1
unfolding name_of need_of done walk_of sbi_of perform own_executed flushing reads_of
ask_code_1_grows = does (executed 1) (does (fetched 1 (Addi 16 0 (pos 1))) (makes (step 1 (first_ram_word + 9) Load 0 (encoding_of (Addi 16 0 (pos 1)) + 2 ^ 32 * encoding_of (Lui 17 (pos 0x52464000)))) (makes (step 1 5 Load 0 0) (stays)
    (record { behind = (tt, tt); acks = tt; draws_last = tt }))
    (record { behind = (tt, tt); acks = tt; draws_last = tt }))
    (record { own = refl; fit = (omega arith, record { runs = refl; holds_none = refl; not_due = refl; ipi = 0; loaded = (inr (inl ((refl, refl, refl), tt))); quiet = refl; shown = record { finds = λ x. 0; is_end = refl; stood = tt }; fetched = (refl, refl, refl, ((omega arith, omega arith, (omega arith, omega arith)), refl)) }); pays = fetched_quiet 1 (Addi 16 0 (pos 1)) }))
    (record { own = refl; fit = (omega arith, record { holds = refl; shown = tt; flushed = λ w s. tt; right = λ w s. refl }); pays = executed_quiet 1 })

ask_code_2_grows : Grows fencing 1 ask_code_1 ask_code_2
unfolding name_of need_of done walk_of sbi_of perform own_executed flushing reads_of
ask_code_2_grows = does (executed 1) (does (fetched 1 (Lui 17 (pos 0x52464000))) (makes (step 1 (first_ram_word + 9) Load 0 (encoding_of (Addi 16 0 (pos 1)) + 2 ^ 32 * encoding_of (Lui 17 (pos 0x52464000)))) (makes (step 1 5 Load 0 0) (stays)
    (record { behind = (tt, tt); acks = tt; draws_last = tt }))
    (record { behind = (tt, tt); acks = tt; draws_last = tt }))
    (record { own = refl; fit = (omega arith, record { runs = refl; holds_none = refl; not_due = refl; ipi = 0; loaded = (inr (inl ((refl, refl, refl), tt))); quiet = refl; shown = record { finds = λ x. 0; is_end = refl; stood = tt }; fetched = (refl, refl, refl, ((omega arith, (omega arith, omega arith), refl), refl)) }); pays = fetched_quiet 1 (Lui 17 (pos 0x52464000)) }))
    (record { own = refl; fit = (omega arith, record { holds = refl; shown = tt; flushed = λ w s. tt; right = λ w s. refl }); pays = executed_quiet 1 })

ask_code_3_grows : Grows fencing 1 ask_code_2 ask_code_3
unfolding name_of need_of done walk_of sbi_of perform own_executed flushing reads_of
ask_code_3_grows = does (executed 1) (does (fetched 1 (Addi 17 17 (pos 2047))) (makes (step 1 (first_ram_word + 10) Load 0 (encoding_of (Addi 17 17 (pos 2047)) + 2 ^ 32 * encoding_of (Addi 17 17 (pos 1604)))) (makes (step 1 5 Load 0 0) (stays)
    (record { behind = (tt, tt); acks = tt; draws_last = tt }))
    (record { behind = (tt, tt); acks = tt; draws_last = tt }))
    (record { own = refl; fit = (omega arith, record { runs = refl; holds_none = refl; not_due = refl; ipi = 0; loaded = (inr (inl ((refl, refl, refl), tt))); quiet = refl; shown = record { finds = λ x. 0; is_end = refl; stood = tt }; fetched = (refl, refl, refl, ((omega arith, omega arith, (omega arith, omega arith)), refl)) }); pays = fetched_quiet 1 (Addi 17 17 (pos 2047)) }))
    (record { own = refl; fit = (omega arith, record { holds = refl; shown = tt; flushed = λ w s. tt; right = λ w s. refl }); pays = executed_quiet 1 })

ask_code_4_grows : Grows fencing 1 ask_code_3 ask_code_4
unfolding name_of need_of done walk_of sbi_of perform own_executed flushing reads_of
ask_code_4_grows = does (executed 1) (does (fetched 1 (Addi 17 17 (pos 1604))) (makes (step 1 (first_ram_word + 10) Load 0 (encoding_of (Addi 17 17 (pos 2047)) + 2 ^ 32 * encoding_of (Addi 17 17 (pos 1604)))) (makes (step 1 5 Load 0 0) (stays)
    (record { behind = (tt, tt); acks = tt; draws_last = tt }))
    (record { behind = (tt, tt); acks = tt; draws_last = tt }))
    (record { own = refl; fit = (omega arith, record { runs = refl; holds_none = refl; not_due = refl; ipi = 0; loaded = (inr (inl ((refl, refl, refl), tt))); quiet = refl; shown = record { finds = λ x. 0; is_end = refl; stood = tt }; fetched = (refl, refl, refl, ((omega arith, omega arith, (omega arith, omega arith)), refl)) }); pays = fetched_quiet 1 (Addi 17 17 (pos 1604)) }))
    (record { own = refl; fit = (omega arith, record { holds = refl; shown = tt; flushed = λ w s. tt; right = λ w s. refl }); pays = executed_quiet 1 })

asked_grows : Grows fencing 1 ask_code_4 asked
unfolding name_of need_of done walk_of sbi_of perform own_executed flushing reads_of
asked_grows = makes (step 1 (first_place + 8) Store 1 0) (makes (step 1 (first_place + 8) Load 0 0) (does (fetched 1 (Ecall)) (makes (step 1 (first_ram_word + 11) Load 0 (encoding_of (Ecall))) (makes (step 1 5 Load 0 0) (stays)
    (record { behind = (tt, tt); acks = tt; draws_last = tt }))
    (record { behind = (tt, tt); acks = tt; draws_last = tt }))
    (record { own = refl; fit = (omega arith, record { runs = refl; holds_none = refl; not_due = refl; ipi = 0; loaded = (inr (inl ((refl, refl, refl), tt))); quiet = refl; shown = record { finds = λ x. 0; is_end = refl; stood = tt }; fetched = (refl, refl, refl, (tt, refl)) }); pays = fetched_quiet 1 (Ecall) }))
    (record { behind = (tt, tt); acks = tt; draws_last = tt }))
    (record { behind = (tt, tt); acks = λ e. absurd (omega (arith, e)); draws_last = tt })

answered_grows : Grows fencing 1 asked answered
unfolding name_of need_of done walk_of sbi_of perform own_executed flushing reads_of
answered_grows = makes (step 1 (first_place + 8) Load 0 0) (stays)
    (record { behind = (tt, tt); acks = tt; draws_last = tt })

ask_turn_grows : Grows fencing 1 answered ask_turn
unfolding name_of need_of done walk_of sbi_of perform own_executed flushing reads_of
ask_turn_grows = makes (step 1 24 Store 0 0) (does (fenced) (stays)
    (record { own = refl; fit = (omega arith, record { holds = refl; shown = tt; flushed = λ w s. subst (AreFenced 1 answered) (λ i. flushing (record w { layout = sym s.layout i }) 1 (own_part fencing 1 answered).arch (need_held (own_part fencing 1 answered).arch (own_part fencing 1 answered).held)) (((λ e. absurd (omega (arith, e))), (λ ne. (0, inl (refl, refl, refl, inl (refl, refl, refl))))), tt); right = λ w s. λ i. perform (record w { layout = sym s.layout i }) 1 (own_part fencing 1 answered).arch Walked.PageFault Walked.PageFault (need_held (own_part fencing 1 answered).arch (own_part fencing 1 answered).held) }); pays = record { does = record { entry_is = refl; bytes_are = refl; reason_is = refl; starts_is = refl; stops_is = refl }; begins_not = refl } }))
    (record { behind = (tt, refl); acks = tt; draws_last = tt })

begin_turn_closed : IsClosed fencing 1 begin_turn
unfolding name_of need_of done walk_of sbi_of perform own_executed flushing reads_of
begin_turn_closed = record {
  clear = tt;
  none_drawn = refl;
  none_left = refl;
  stops = refl;
  last = λ e. absurd (true≢false (sym e));
  left = refl;
  full = λ e. absurd (cc (e));
  marks = λ page. unmarked fencing 1 page begin_turn refl;
  snapshot = λ e. absurd (omega (arith, e));
}

clear_turn_closed : IsClosed fencing 1 clear_turn
unfolding name_of need_of done walk_of sbi_of perform own_executed flushing reads_of
clear_turn_closed = record {
  clear = tt;
  none_drawn = refl;
  none_left = refl;
  stops = refl;
  last = λ e. absurd (true≢false (sym e));
  left = refl;
  full = λ e. absurd (cc (e));
  marks = zero_marked fencing 1 clear_turn refl refl;
  snapshot = λ e. absurd (omega (arith, e));
}

ask_turn_closed : IsClosed fencing 1 ask_turn
unfolding name_of need_of done walk_of sbi_of perform own_executed flushing reads_of
ask_turn_closed = record {
  clear = tt;
  none_drawn = refl;
  none_left = refl;
  stops = refl;
  last = λ e. absurd (true≢false (sym e));
  left = refl;
  full = λ e. absurd (cc (e));
  marks = zero_marked fencing 1 ask_turn refl refl;
  snapshot = λ e. absurd (omega (arith, e));
}

-- three turns
pub asking_chain : IsChain fencing 1 3 ask_turn
unfolding name_of
asking_chain = whole (turn (turn (turn (none) (record { look = step 1 2 Load 0 0; looks = (refl, refl); once = refl; grows = grows_then fencing 1 begin_look begin_look (stays) begin_turn_grows; closed = begin_turn_closed })) (record { look = step 1 2 Load 0 0; looks = (refl, refl); once = refl; grows = grows_then fencing 1 clear_look entry_stored (grows_then fencing 1 clear_look clear_code (grows_then fencing 1 clear_look clear_inside (grows_then fencing 1 clear_look clear_look (stays) clear_inside_grows) clear_code_grows) entry_stored_grows) clear_turn_grows; closed = clear_turn_closed })) (record { look = step 1 2 Load 0 0; looks = (refl, refl); once = refl; grows = grows_then fencing 1 ask_look answered (grows_then fencing 1 ask_look asked (grows_then fencing 1 ask_look ask_code_4 (grows_then fencing 1 ask_look ask_code_3 (grows_then fencing 1 ask_look ask_code_2 (grows_then fencing 1 ask_look ask_code_1 (grows_then fencing 1 ask_look ask_inside (grows_then fencing 1 ask_look ask_look (stays) ask_inside_grows) ask_code_1_grows) ask_code_2_grows) ask_code_3_grows) ask_code_4_grows) asked_grows) answered_grows) ask_turn_grows; closed = ask_turn_closed }))
