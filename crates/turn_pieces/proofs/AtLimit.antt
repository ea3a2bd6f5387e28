-- A hart that ends the machine at its limit, while another adds: the log of each is written by hand, and is a chain of turns.
use Rattle.std.proofs.Common.{◌≡◌, ◌+◌, ◌*◌, ◌^◌, ℕ, true, false, true≢false, [], ◌∷◌, Some, refl, sym, ap, subst, ◌∙◌, inl, inr, arith, pos, eq-eqb}
use Rattle.std.specs.Prelude.{◌==◌}
use Rattle.rv64_decode.specs.declared.instruction.Instr.{Instr}
use Rattle.rv64_decode.specs.declared.instruction.Instr.TheVariants.{Lui, Auipc, Addi, Ecall, Amoadd}
use Rattle.rv64_decode.specs.Encoding.{encoding_of}
use Rattle.rv64_priv.specs.Flush.{Full}
use Rattle.rv64_priv.specs.Walk.{Walked, walk_of}
use Rattle.rv64_exec.specs.declared.needs.Answer.{Answer}
use Rattle.rv64_exec.specs.Plan.{need_of}
use Rattle.rv64_exec.specs.Finish.{done}
use Rattle.step_laws.specs.declared.steps.WordOp.TheVariants.{Load, Store, Add, Or, Exchange}
use Rattle.step_laws.specs.Words.{first_ram_word, first_dirty_word}
use Rattle.step_laws.specs.Map.{name_of}
use Rattle.machine_model.specs.declared.reason.Reason.{Reason}
use Rattle.machine_model.specs.Event.{Event, Fetch, Exec, Flushes, Start as Begin, Stop, only}
use Rattle.machine_model.specs.Memory.{write_of}
use Rattle.machine_model.specs.State.{Setup}
use Rattle.machine_model.specs.Own.{own_executed}
use Rattle.machine_model.specs.Perform.{perform}
use Rattle.machine_model.specs.Sbi.{sbi_of}
use Rattle.machine_model.specs.Walks.{need_held}
use Rattle.machine_model.specs.Lawful.{flushing}
use Rattle.walk_laws.specs.WalkLoads.{reads_of}
use Rattle.turn_pieces.specs.Log.{made, did, Log}
use Rattle.turn_pieces.specs.Kept.{own_part}
use Rattle.turn_pieces.specs.Doing.{IsQuiet}
use Rattle.turn_pieces.specs.Right.{AreFenced}
use Rattle.turn_pieces.specs.Grows.{Grows, stays, makes, does, IsClosed, none, turn, IsChain, whole}
use Rattle.turn_pieces.proofs.Writers.{grows_then}
use Rattle.turn_pieces.proofs.Unmarked.{zero_marked}
use Rattle.turn_pieces.proofs.Rows.{step, code}

-- the image has these instructions from 0x80000000 on, of which hart 1 begins at 0x80000018
abbrev pub two_harts : Setup
two_harts = record { layout = record { harts = 2; pages = 1024 }; image = λ x. 0; start = 0x80000000; limit = 10; script = [] }

apart : (m n : ℕ) → (m == n) ≡ false → m ≡ n → ⊥
apart m n e k = true≢false (sym (eq-eqb m n k) ∙ e)

abbrev pub fetched : (hart : ℕ) → Instr → Event
fetched h i = Fetch h (Walked.Leaf 0xcf 0x80000000 0) (code i)

fetched_quiet : (h : ℕ) (i : Instr) → IsQuiet (fetched h i)
fetched_quiet h i = record { does = record { entry_is = refl; bytes_are = refl; reason_is = refl; starts_is = refl; stops_is = refl }; begins_not = refl }

abbrev pub executed : (hart : ℕ) → Event
executed h = Exec h Walked.PageFault Walked.PageFault (only Answer.Nothing)

executed_quiet : (h : ℕ) → IsQuiet (executed h)
executed_quiet h = record { does = record { entry_is = refl; bytes_are = refl; reason_is = refl; starts_is = refl; stops_is = refl }; begins_not = refl }

-- hart 0 starts hart 1
abbrev pub starting : Event
starting = Exec 0 Walked.PageFault Walked.PageFault (record (only (Answer.Pair (pos 0) 0)) { starts = Some (record { target = 1; at = 0x80000018; opaque = 0 }) })

-- 1 is added to the word, which held this
abbrev pub added : (hart old : ℕ) → Event
added h old = Exec h (Walked.Leaf 0xcf 0x80000000 0) Walked.PageFault (record (only (Answer.Value old)) { entry = Some (write_of (first_ram_word + 8) (old + 1) ∷ []) })

-- 1 is stored over two words: in the upper half of the first and the lower half of the second
abbrev pub crossed : Event
crossed = Exec 0 (Walked.Leaf 0xcf 0x80000000 0) Walked.PageFault
    (record (only Answer.Nothing) { entry = Some (write_of (first_ram_word + 8) (1 + 2 ^ 32) ∷ write_of (first_ram_word + 9) 0 ∷ []) })

abbrev pub stopping : Event
stopping = Exec 0 Walked.PageFault Walked.PageFault (record (only Answer.Nothing) { stops = true })

abbrev pub start_look : Log
start_look = made (step 0 2 Load 0 0) ∷ []

abbrev pub start_inside : Log
start_inside = made (step 0 1 Load 0 0) ∷ made (step 0 8 Store 1 0) ∷ start_look

abbrev pub start_code_1 : Log
start_code_1 = did (executed 0) ∷ did (fetched 0 (Lui 17 (pos 0x485000))) ∷ made (step 0 first_ram_word Load 0 (encoding_of (Lui 17 (pos 0x485000)) + 2 ^ 32 * encoding_of (Addi 17 17 (pos 845)))) ∷ made (step 0 5 Load 0 0) ∷ start_inside

abbrev pub start_code_2 : Log
start_code_2 = did (executed 0) ∷ did (fetched 0 (Addi 17 17 (pos 845))) ∷ made (step 0 first_ram_word Load 0 (encoding_of (Lui 17 (pos 0x485000)) + 2 ^ 32 * encoding_of (Addi 17 17 (pos 845)))) ∷ made (step 0 5 Load 0 0) ∷ start_code_1

abbrev pub start_code_3 : Log
start_code_3 = did (executed 0) ∷ did (fetched 0 (Addi 10 0 (pos 1))) ∷ made (step 0 (first_ram_word + 1) Load 0 (encoding_of (Addi 10 0 (pos 1)) + 2 ^ 32 * encoding_of (Auipc 11 (pos 0)))) ∷ made (step 0 5 Load 0 0) ∷ start_code_2

abbrev pub start_code_4 : Log
start_code_4 = did (executed 0) ∷ did (fetched 0 (Auipc 11 (pos 0))) ∷ made (step 0 (first_ram_word + 1) Load 0 (encoding_of (Addi 10 0 (pos 1)) + 2 ^ 32 * encoding_of (Auipc 11 (pos 0)))) ∷ made (step 0 5 Load 0 0) ∷ start_code_3

abbrev pub start_code_5 : Log
start_code_5 = did (executed 0) ∷ did (fetched 0 (Addi 11 11 (pos 12))) ∷ made (step 0 (first_ram_word + 2) Load 0 (encoding_of (Addi 11 11 (pos 12)) + 2 ^ 32 * encoding_of (Ecall))) ∷ made (step 0 5 Load 0 0) ∷ start_code_4

abbrev pub start_called : Log
start_called = made (step 0 29 (Exchange 1) 3 1) ∷ did (fetched 0 (Ecall)) ∷ made (step 0 (first_ram_word + 2) Load 0 (encoding_of (Addi 11 11 (pos 12)) + 2 ^ 32 * encoding_of (Ecall))) ∷ made (step 0 5 Load 0 0) ∷ start_code_5

abbrev pub start_turn : Log
start_turn = made (step 0 8 Store 0 0) ∷ made (step 0 29 Store 2 0) ∷ made (step 0 3 Add 1 1) ∷ made (step 0 31 Store 0 0) ∷ made (step 0 30 Store 0x80000018 0) ∷ did (starting) ∷ start_called

abbrev pub add_look : Log
add_look = made (step 0 2 Load 0 0) ∷ start_turn

abbrev pub add_inside : Log
add_inside = made (step 0 1 Load 0 0) ∷ made (step 0 8 Store 1 0) ∷ add_look

abbrev pub add_code_1 : Log
add_code_1 = did (executed 0) ∷ did (fetched 0 (Auipc 11 (pos 0))) ∷ made (step 0 (first_ram_word + 3) Load 0 (encoding_of (Auipc 11 (pos 0)) + 2 ^ 32 * encoding_of (Addi 11 11 (pos 40)))) ∷ made (step 0 5 Load 0 0) ∷ add_inside

abbrev pub add_code_2 : Log
add_code_2 = did (executed 0) ∷ did (fetched 0 (Addi 11 11 (pos 40))) ∷ made (step 0 (first_ram_word + 3) Load 0 (encoding_of (Auipc 11 (pos 0)) + 2 ^ 32 * encoding_of (Addi 11 11 (pos 40)))) ∷ made (step 0 5 Load 0 0) ∷ add_code_1

abbrev pub add_code_3 : Log
add_code_3 = did (executed 0) ∷ did (fetched 0 (Addi 10 0 (pos 1))) ∷ made (step 0 (first_ram_word + 4) Load 0 (encoding_of (Addi 10 0 (pos 1)) + 2 ^ 32 * encoding_of (Amoadd true false false 5 11 10))) ∷ made (step 0 5 Load 0 0) ∷ add_code_2

abbrev pub add_stepped : Log
add_stepped = made (step 0 (first_ram_word + 8) Add 1 0) ∷ made (step 0 first_dirty_word Or 1 0) ∷ did (fetched 0 (Amoadd true false false 5 11 10)) ∷ made (step 0 (first_ram_word + 4) Load 0 (encoding_of (Addi 10 0 (pos 1)) + 2 ^ 32 * encoding_of (Amoadd true false false 5 11 10))) ∷ made (step 0 5 Load 0 0) ∷ add_code_3

abbrev pub add_turn : Log
add_turn = made (step 0 8 Store 0 0) ∷ did (added 0 (0)) ∷ add_stepped

abbrev pub limit_turn : Log
limit_turn = did (Stop 0 (Reason.Limit 0)) ∷ made (step 0 2 (Exchange 0) 3 0) ∷ add_turn

start_inside_grows : Grows two_harts 0 start_look start_inside
unfolding name_of need_of done walk_of sbi_of perform own_executed flushing reads_of
start_inside_grows = makes (step 0 1 Load 0 0) (makes (step 0 8 Store 1 0) (stays)
    (record { behind = (tt, refl); acks = tt; draws_last = tt }))
    (record { behind = (tt, refl); acks = tt; draws_last = tt })

start_code_1_grows : Grows two_harts 0 start_inside start_code_1
unfolding name_of need_of done walk_of sbi_of perform own_executed flushing reads_of
start_code_1_grows = does (executed 0) (does (fetched 0 (Lui 17 (pos 0x485000))) (makes (step 0 first_ram_word Load 0 (encoding_of (Lui 17 (pos 0x485000)) + 2 ^ 32 * encoding_of (Addi 17 17 (pos 845)))) (makes (step 0 5 Load 0 0) (stays)
    (record { behind = (tt, tt); acks = tt; draws_last = tt }))
    (record { behind = (tt, tt); acks = tt; draws_last = tt }))
    (record {
      own = refl;
      fit = (
        omega arith,
        record {
          runs = refl;
          holds_none = refl;
          not_due = refl;
          ipi = 0;
          loaded = inr (inl ((refl, refl, refl), tt));
          quiet = refl;
          shown = record { finds = λ x. 0; is_end = refl; stood = tt };
          fetched = (refl, refl, refl, ((omega arith, (omega arith, omega arith), refl), refl));
        },
      );
      pays = fetched_quiet 0 (Lui 17 (pos 0x485000));
    }))
    (record { own = refl; fit = (omega arith, record { holds = refl; shown = tt; flushed = λ w s. tt; right = λ w s. refl }); pays = executed_quiet 0 })

start_code_2_grows : Grows two_harts 0 start_code_1 start_code_2
unfolding name_of need_of done walk_of sbi_of perform own_executed flushing reads_of
start_code_2_grows = does (executed 0) (does (fetched 0 (Addi 17 17 (pos 845))) (makes (step 0 first_ram_word Load 0 (encoding_of (Lui 17 (pos 0x485000)) + 2 ^ 32 * encoding_of (Addi 17 17 (pos 845)))) (makes (step 0 5 Load 0 0) (stays)
    (record { behind = (tt, tt); acks = tt; draws_last = tt }))
    (record { behind = (tt, tt); acks = tt; draws_last = tt }))
    (record {
      own = refl;
      fit = (
        omega arith,
        record {
          runs = refl;
          holds_none = refl;
          not_due = refl;
          ipi = 0;
          loaded = inr (inl ((refl, refl, refl), tt));
          quiet = refl;
          shown = record { finds = λ x. 0; is_end = refl; stood = tt };
          fetched = (refl, refl, refl, ((omega arith, omega arith, (omega arith, omega arith)), refl));
        },
      );
      pays = fetched_quiet 0 (Addi 17 17 (pos 845));
    }))
    (record { own = refl; fit = (omega arith, record { holds = refl; shown = tt; flushed = λ w s. tt; right = λ w s. refl }); pays = executed_quiet 0 })

start_code_3_grows : Grows two_harts 0 start_code_2 start_code_3
unfolding name_of need_of done walk_of sbi_of perform own_executed flushing reads_of
start_code_3_grows = does (executed 0) (does (fetched 0 (Addi 10 0 (pos 1))) (makes (step 0 (first_ram_word + 1) Load 0 (encoding_of (Addi 10 0 (pos 1)) + 2 ^ 32 * encoding_of (Auipc 11 (pos 0)))) (makes (step 0 5 Load 0 0) (stays)
    (record { behind = (tt, tt); acks = tt; draws_last = tt }))
    (record { behind = (tt, tt); acks = tt; draws_last = tt }))
    (record {
      own = refl;
      fit = (
        omega arith,
        record {
          runs = refl;
          holds_none = refl;
          not_due = refl;
          ipi = 0;
          loaded = inr (inl ((refl, refl, refl), tt));
          quiet = refl;
          shown = record { finds = λ x. 0; is_end = refl; stood = tt };
          fetched = (refl, refl, refl, ((omega arith, omega arith, (omega arith, omega arith)), refl));
        },
      );
      pays = fetched_quiet 0 (Addi 10 0 (pos 1));
    }))
    (record { own = refl; fit = (omega arith, record { holds = refl; shown = tt; flushed = λ w s. tt; right = λ w s. refl }); pays = executed_quiet 0 })

start_code_4_grows : Grows two_harts 0 start_code_3 start_code_4
unfolding name_of need_of done walk_of sbi_of perform own_executed flushing reads_of
start_code_4_grows = does (executed 0) (does (fetched 0 (Auipc 11 (pos 0))) (makes (step 0 (first_ram_word + 1) Load 0 (encoding_of (Addi 10 0 (pos 1)) + 2 ^ 32 * encoding_of (Auipc 11 (pos 0)))) (makes (step 0 5 Load 0 0) (stays)
    (record { behind = (tt, tt); acks = tt; draws_last = tt }))
    (record { behind = (tt, tt); acks = tt; draws_last = tt }))
    (record {
      own = refl;
      fit = (
        omega arith,
        record {
          runs = refl;
          holds_none = refl;
          not_due = refl;
          ipi = 0;
          loaded = inr (inl ((refl, refl, refl), tt));
          quiet = refl;
          shown = record { finds = λ x. 0; is_end = refl; stood = tt };
          fetched = (refl, refl, refl, ((omega arith, (omega arith, omega arith), refl), refl));
        },
      );
      pays = fetched_quiet 0 (Auipc 11 (pos 0));
    }))
    (record { own = refl; fit = (omega arith, record { holds = refl; shown = tt; flushed = λ w s. tt; right = λ w s. refl }); pays = executed_quiet 0 })

start_code_5_grows : Grows two_harts 0 start_code_4 start_code_5
unfolding name_of need_of done walk_of sbi_of perform own_executed flushing reads_of
start_code_5_grows = does (executed 0) (does (fetched 0 (Addi 11 11 (pos 12))) (makes (step 0 (first_ram_word + 2) Load 0 (encoding_of (Addi 11 11 (pos 12)) + 2 ^ 32 * encoding_of (Ecall))) (makes (step 0 5 Load 0 0) (stays)
    (record { behind = (tt, tt); acks = tt; draws_last = tt }))
    (record { behind = (tt, tt); acks = tt; draws_last = tt }))
    (record {
      own = refl;
      fit = (
        omega arith,
        record {
          runs = refl;
          holds_none = refl;
          not_due = refl;
          ipi = 0;
          loaded = inr (inl ((refl, refl, refl), tt));
          quiet = refl;
          shown = record { finds = λ x. 0; is_end = refl; stood = tt };
          fetched = (refl, refl, refl, ((omega arith, omega arith, (omega arith, omega arith)), refl));
        },
      );
      pays = fetched_quiet 0 (Addi 11 11 (pos 12));
    }))
    (record { own = refl; fit = (omega arith, record { holds = refl; shown = tt; flushed = λ w s. tt; right = λ w s. refl }); pays = executed_quiet 0 })

start_called_grows : Grows two_harts 0 start_code_5 start_called
unfolding name_of need_of done walk_of sbi_of perform own_executed flushing reads_of
start_called_grows = makes (step 0 29 (Exchange 1) 3 1) (does (fetched 0 (Ecall)) (makes (step 0 (first_ram_word + 2) Load 0 (encoding_of (Addi 11 11 (pos 12)) + 2 ^ 32 * encoding_of (Ecall))) (makes (step 0 5 Load 0 0) (stays)
    (record { behind = (tt, tt); acks = tt; draws_last = tt }))
    (record { behind = (tt, tt); acks = tt; draws_last = tt }))
    (record {
      own = refl;
      fit = (
        omega arith,
        record {
          runs = refl;
          holds_none = refl;
          not_due = refl;
          ipi = 0;
          loaded = inr (inl ((refl, refl, refl), tt));
          quiet = refl;
          shown = record { finds = λ x. 0; is_end = refl; stood = tt };
          fetched = (refl, refl, refl, (tt, refl));
        },
      );
      pays = fetched_quiet 0 (Ecall);
    }))
    (record { behind = (tt, λ e. (refl, refl)); acks = tt; draws_last = tt })

start_turn_grows : Grows two_harts 0 start_called start_turn
unfolding name_of need_of done walk_of sbi_of perform own_executed flushing reads_of
start_turn_grows = makes (step 0 8 Store 0 0) (makes (step 0 29 Store 2 0) (makes (step 0 3 Add 1 1) (makes (step 0 31 Store 0 0) (makes (step 0 30 Store 0x80000018 0) (does (starting) (stays)
    (record {
      own = refl;
      fit = (
        omega arith,
        record {
          holds = refl;
          shown = tt;
          flushed = λ w s. subst (AreFenced 0 start_called) (λ i. flushing (record w { layout = sym s.layout i; modes = λ t. sym (s.here.1 1 (omega arith) refl (λ e. absurd (cc (e)))) i }) 0 (own_part two_harts 0 start_called).arch (need_held (own_part two_harts 0 start_called).arch (own_part two_harts 0 start_called).held)) tt;
          right = λ w s. λ i. perform (record w { layout = sym s.layout i; modes = λ t. sym (s.here.1 1 (omega arith) refl (λ e. absurd (cc (e)))) i }) 0 (own_part two_harts 0 start_called).arch Walked.PageFault Walked.PageFault (need_held (own_part two_harts 0 start_called).arch (own_part two_harts 0 start_called).held);
        },
      );
      pays = record { at = 0x80000018; opaque = 0; pays = record { does = record { entry_is = refl; bytes_are = refl; reason_is = refl; starts_is = refl; stops_is = refl }; begins_not = refl } };
    }))
    (record { behind = (tt, (0, refl)); acks = tt; draws_last = tt }))
    (record { behind = (tt, (0x80000018, refl)); acks = tt; draws_last = tt }))
    (record { behind = (tt, tt); acks = tt; draws_last = tt }))
    (record { behind = (tt, inl refl); acks = tt; draws_last = tt }))
    (record { behind = (tt, refl); acks = tt; draws_last = tt })

add_inside_grows : Grows two_harts 0 add_look add_inside
unfolding name_of need_of done walk_of sbi_of perform own_executed flushing reads_of
add_inside_grows = makes (step 0 1 Load 0 0) (makes (step 0 8 Store 1 0) (stays)
    (record { behind = (tt, refl); acks = tt; draws_last = tt }))
    (record { behind = (tt, refl); acks = tt; draws_last = tt })

add_code_1_grows : Grows two_harts 0 add_inside add_code_1
unfolding name_of need_of done walk_of sbi_of perform own_executed flushing reads_of
add_code_1_grows = does (executed 0) (does (fetched 0 (Auipc 11 (pos 0))) (makes (step 0 (first_ram_word + 3) Load 0 (encoding_of (Auipc 11 (pos 0)) + 2 ^ 32 * encoding_of (Addi 11 11 (pos 40)))) (makes (step 0 5 Load 0 0) (stays)
    (record { behind = (tt, tt); acks = tt; draws_last = tt }))
    (record { behind = (tt, tt); acks = tt; draws_last = tt }))
    (record {
      own = refl;
      fit = (
        omega arith,
        record {
          runs = refl;
          holds_none = refl;
          not_due = refl;
          ipi = 0;
          loaded = inr (inl ((refl, refl, refl), tt));
          quiet = refl;
          shown = record { finds = λ x. 0; is_end = refl; stood = tt };
          fetched = (refl, refl, refl, ((omega arith, (omega arith, omega arith), refl), refl));
        },
      );
      pays = fetched_quiet 0 (Auipc 11 (pos 0));
    }))
    (record { own = refl; fit = (omega arith, record { holds = refl; shown = tt; flushed = λ w s. tt; right = λ w s. refl }); pays = executed_quiet 0 })

add_code_2_grows : Grows two_harts 0 add_code_1 add_code_2
unfolding name_of need_of done walk_of sbi_of perform own_executed flushing reads_of
add_code_2_grows = does (executed 0) (does (fetched 0 (Addi 11 11 (pos 40))) (makes (step 0 (first_ram_word + 3) Load 0 (encoding_of (Auipc 11 (pos 0)) + 2 ^ 32 * encoding_of (Addi 11 11 (pos 40)))) (makes (step 0 5 Load 0 0) (stays)
    (record { behind = (tt, tt); acks = tt; draws_last = tt }))
    (record { behind = (tt, tt); acks = tt; draws_last = tt }))
    (record {
      own = refl;
      fit = (
        omega arith,
        record {
          runs = refl;
          holds_none = refl;
          not_due = refl;
          ipi = 0;
          loaded = inr (inl ((refl, refl, refl), tt));
          quiet = refl;
          shown = record { finds = λ x. 0; is_end = refl; stood = tt };
          fetched = (refl, refl, refl, ((omega arith, omega arith, (omega arith, omega arith)), refl));
        },
      );
      pays = fetched_quiet 0 (Addi 11 11 (pos 40));
    }))
    (record { own = refl; fit = (omega arith, record { holds = refl; shown = tt; flushed = λ w s. tt; right = λ w s. refl }); pays = executed_quiet 0 })

add_code_3_grows : Grows two_harts 0 add_code_2 add_code_3
unfolding name_of need_of done walk_of sbi_of perform own_executed flushing reads_of
add_code_3_grows = does (executed 0) (does (fetched 0 (Addi 10 0 (pos 1))) (makes (step 0 (first_ram_word + 4) Load 0 (encoding_of (Addi 10 0 (pos 1)) + 2 ^ 32 * encoding_of (Amoadd true false false 5 11 10))) (makes (step 0 5 Load 0 0) (stays)
    (record { behind = (tt, tt); acks = tt; draws_last = tt }))
    (record { behind = (tt, tt); acks = tt; draws_last = tt }))
    (record {
      own = refl;
      fit = (
        omega arith,
        record {
          runs = refl;
          holds_none = refl;
          not_due = refl;
          ipi = 0;
          loaded = inr (inl ((refl, refl, refl), tt));
          quiet = refl;
          shown = record { finds = λ x. 0; is_end = refl; stood = tt };
          fetched = (refl, refl, refl, ((omega arith, omega arith, (omega arith, omega arith)), refl));
        },
      );
      pays = fetched_quiet 0 (Addi 10 0 (pos 1));
    }))
    (record { own = refl; fit = (omega arith, record { holds = refl; shown = tt; flushed = λ w s. tt; right = λ w s. refl }); pays = executed_quiet 0 })

add_stepped_grows : Grows two_harts 0 add_code_3 add_stepped
unfolding name_of need_of done walk_of sbi_of perform own_executed flushing reads_of
add_stepped_grows = makes (step 0 (first_ram_word + 8) Add 1 0) (makes (step 0 first_dirty_word Or 1 0) (does (fetched 0 (Amoadd true false false 5 11 10)) (makes (step 0 (first_ram_word + 4) Load 0 (encoding_of (Addi 10 0 (pos 1)) + 2 ^ 32 * encoding_of (Amoadd true false false 5 11 10))) (makes (step 0 5 Load 0 0) (stays)
    (record { behind = (tt, tt); acks = tt; draws_last = tt }))
    (record { behind = (tt, tt); acks = tt; draws_last = tt }))
    (record {
      own = refl;
      fit = (
        omega arith,
        record {
          runs = refl;
          holds_none = refl;
          not_due = refl;
          ipi = 0;
          loaded = inr (inl ((refl, refl, refl), tt));
          quiet = refl;
          shown = record { finds = λ x. 0; is_end = refl; stood = tt };
          fetched = (refl, refl, refl, ((omega arith, omega arith, omega arith), refl));
        },
      );
      pays = fetched_quiet 0 (Amoadd true false false 5 11 10);
    }))
    (record { behind = (tt, tt); acks = tt; draws_last = tt }))
    (record { behind = (tt, tt); acks = tt; draws_last = tt })

add_turn_grows : Grows two_harts 0 add_stepped add_turn
unfolding name_of need_of done walk_of sbi_of perform own_executed flushing reads_of
add_turn_grows = makes (step 0 8 Store 0 0) (does (added 0 (0)) (stays)
    (record {
      own = refl;
      fit = (
        omega arith,
        record {
          holds = refl;
          shown = record { first_page = record { finds = λ x. 0; is_end = refl; stood = tt }; second_page = λ e. absurd (true≢false (sym e)) };
          flushed = λ w s. tt;
          right = λ w s. ap (λ x. perform (record w { memory = λ k. x }) 0 (own_part two_harts 0 add_stepped).arch (Walked.Leaf 0xcf 0x80000000 0) Walked.PageFault (need_held (own_part two_harts 0 add_stepped).arch (own_part two_harts 0 add_stepped).held)) (sym (s.here.0 tt (λ e. absurd (cc (e)))));
        },
      );
      pays = record { does = record { entry_is = refl; bytes_are = refl; reason_is = refl; starts_is = refl; stops_is = refl }; begins_not = refl };
    }))
    (record { behind = (tt, refl); acks = tt; draws_last = tt })

limit_turn_grows : Grows two_harts 0 add_turn limit_turn
unfolding name_of need_of done walk_of sbi_of perform own_executed flushing reads_of
limit_turn_grows = does (Stop 0 (Reason.Limit 0)) (makes (step 0 2 (Exchange 0) 3 0) (stays)
    (record { behind = (tt, refl); acks = tt; draws_last = tt }))
    (record { own = refl; fit = (refl, omega arith, refl); pays = record { reason = Reason.Limit 0; is = refl; pays = record { does = record { entry_is = refl; bytes_are = refl; reason_is = refl; starts_is = refl; stops_is = refl }; begins_not = refl }; fills_it = λ _. record { none = λ e. refl; some = λ i e. absurd (cc (e)) } } })

start_turn_closed : IsClosed two_harts 0 start_turn
unfolding name_of need_of done walk_of sbi_of perform own_executed flushing reads_of
start_turn_closed = record {
  clear = tt;
  none_drawn = refl;
  none_left = refl;
  stops = refl;
  last = λ e. absurd (true≢false (sym e));
  left = refl;
  full = λ e. absurd (cc (e));
  marks = zero_marked two_harts 0 start_turn refl refl;
  snapshot = λ e. absurd (omega (arith, e));
}

limit_turn_closed : IsClosed two_harts 0 limit_turn
unfolding name_of need_of done walk_of sbi_of perform own_executed flushing reads_of
limit_turn_closed = record {
  clear = tt;
  none_drawn = refl;
  none_left = refl;
  stops = refl;
  last = λ e. absurd (true≢false (sym e));
  left = refl;
  full = λ e. absurd (cc (e));
  marks = zero_marked two_harts 0 limit_turn refl refl;
  snapshot = λ e. absurd (omega (arith, e));
}

-- 2 turns
pub first_hart_chain : IsChain two_harts 0 2 limit_turn
unfolding name_of
first_hart_chain = whole (turn (turn (none) (record { look = step 0 2 Load 0 0; looks = (refl, refl); once = refl; grows = grows_then two_harts 0 start_look start_called (grows_then two_harts 0 start_look start_code_5 (grows_then two_harts 0 start_look start_code_4 (grows_then two_harts 0 start_look start_code_3 (grows_then two_harts 0 start_look start_code_2 (grows_then two_harts 0 start_look start_code_1 (grows_then two_harts 0 start_look start_inside (grows_then two_harts 0 start_look start_look (stays) start_inside_grows) start_code_1_grows) start_code_2_grows) start_code_3_grows) start_code_4_grows) start_code_5_grows) start_called_grows) start_turn_grows; closed = start_turn_closed })) (record { look = step 0 2 Load 0 0; looks = (refl, refl); once = refl; grows = grows_then two_harts 0 add_look add_turn (grows_then two_harts 0 add_look add_stepped (grows_then two_harts 0 add_look add_code_3 (grows_then two_harts 0 add_look add_code_2 (grows_then two_harts 0 add_look add_code_1 (grows_then two_harts 0 add_look add_inside (grows_then two_harts 0 add_look add_look (stays) add_inside_grows) add_code_1_grows) add_code_2_grows) add_code_3_grows) add_stepped_grows) add_turn_grows) limit_turn_grows; closed = limit_turn_closed }))

abbrev pub begin_look : Log
begin_look = made (step 1 2 Load 0 0) ∷ []

abbrev pub begin_turn : Log
begin_turn = did (Begin 1 0x80000018 0) ∷ made (step 1 29 Store 0 0) ∷ did (Flushes 1 Full) ∷ made (step 1 27 Store 0 0) ∷ made (step 1 31 Load 0 0) ∷ made (step 1 30 Load 0 0x80000018) ∷ made (step 1 27 (Exchange 0) 2 0) ∷ made (step 1 29 Load 0 2) ∷ begin_look

abbrev pub second_look : Log
second_look = made (step 1 2 Load 0 0) ∷ begin_turn

abbrev pub second_inside : Log
second_inside = made (step 1 1 Load 0 0) ∷ made (step 1 24 Store 1 0) ∷ second_look

abbrev pub second_code_1 : Log
second_code_1 = did (executed 1) ∷ did (fetched 1 (Auipc 11 (pos 0))) ∷ made (step 1 (first_ram_word + 3) Load 0 (encoding_of (Auipc 11 (pos 0)) + 2 ^ 32 * encoding_of (Addi 11 11 (pos 40)))) ∷ made (step 1 5 Load 0 0) ∷ second_inside

abbrev pub second_code_2 : Log
second_code_2 = did (executed 1) ∷ did (fetched 1 (Addi 11 11 (pos 40))) ∷ made (step 1 (first_ram_word + 3) Load 0 (encoding_of (Auipc 11 (pos 0)) + 2 ^ 32 * encoding_of (Addi 11 11 (pos 40)))) ∷ made (step 1 5 Load 0 0) ∷ second_code_1

abbrev pub second_code_3 : Log
second_code_3 = did (executed 1) ∷ did (fetched 1 (Addi 10 0 (pos 1))) ∷ made (step 1 (first_ram_word + 4) Load 0 (encoding_of (Addi 10 0 (pos 1)) + 2 ^ 32 * encoding_of (Amoadd true false false 5 11 10))) ∷ made (step 1 5 Load 0 0) ∷ second_code_2

abbrev pub second_stepped : Log
second_stepped = made (step 1 (first_ram_word + 8) Add 1 1) ∷ made (step 1 first_dirty_word Or 1 1) ∷ did (fetched 1 (Amoadd true false false 5 11 10)) ∷ made (step 1 (first_ram_word + 4) Load 0 (encoding_of (Addi 10 0 (pos 1)) + 2 ^ 32 * encoding_of (Amoadd true false false 5 11 10))) ∷ made (step 1 5 Load 0 0) ∷ second_code_3

abbrev pub second_turn : Log
second_turn = made (step 1 24 Store 0 0) ∷ did (added 1 (1)) ∷ second_stepped

begin_turn_grows : Grows two_harts 1 begin_look begin_turn
unfolding name_of need_of done walk_of sbi_of perform own_executed flushing reads_of
begin_turn_grows = does (Begin 1 0x80000018 0) (makes (step 1 29 Store 0 0) (does (Flushes 1 Full) (makes (step 1 27 Store 0 0) (makes (step 1 31 Load 0 0) (makes (step 1 30 Load 0 0x80000018) (makes (step 1 27 (Exchange 0) 2 0) (makes (step 1 29 Load 0 2) (stays)
    (record { behind = (tt, tt); acks = tt; draws_last = tt }))
    (record { behind = (tt, tt); acks = tt; draws_last = tt }))
    (record { behind = (tt, tt); acks = tt; draws_last = tt }))
    (record { behind = (tt, tt); acks = tt; draws_last = tt }))
    (record { behind = (tt, tt); acks = tt; draws_last = tt }))
    (record { own = refl; fit = (omega arith, refl); pays = record { does = record { entry_is = refl; bytes_are = refl; reason_is = refl; starts_is = refl; stops_is = refl }; begins_not = refl } }))
    (record { behind = (tt, inr (refl, omega arith)); acks = tt; draws_last = tt }))
    (record { own = refl; fit = (omega arith, record { not_due = refl; stored = (refl, refl, refl); at_is = refl; opaque_is = refl; flushed_all = refl }); pays = (0x80000018, 0, refl) })

second_inside_grows : Grows two_harts 1 second_look second_inside
unfolding name_of need_of done walk_of sbi_of perform own_executed flushing reads_of
second_inside_grows = makes (step 1 1 Load 0 0) (makes (step 1 24 Store 1 0) (stays)
    (record { behind = (tt, refl); acks = tt; draws_last = tt }))
    (record { behind = (tt, refl); acks = tt; draws_last = tt })

second_code_1_grows : Grows two_harts 1 second_inside second_code_1
unfolding name_of need_of done walk_of sbi_of perform own_executed flushing reads_of
second_code_1_grows = does (executed 1) (does (fetched 1 (Auipc 11 (pos 0))) (makes (step 1 (first_ram_word + 3) Load 0 (encoding_of (Auipc 11 (pos 0)) + 2 ^ 32 * encoding_of (Addi 11 11 (pos 40)))) (makes (step 1 5 Load 0 0) (stays)
    (record { behind = (tt, tt); acks = tt; draws_last = tt }))
    (record { behind = (tt, tt); acks = tt; draws_last = tt }))
    (record {
      own = refl;
      fit = (
        omega arith,
        record {
          runs = refl;
          holds_none = refl;
          not_due = refl;
          ipi = 0;
          loaded = inr (inl ((refl, refl, refl), tt));
          quiet = refl;
          shown = record { finds = λ x. 0; is_end = refl; stood = tt };
          fetched = (refl, refl, refl, ((omega arith, (omega arith, omega arith), refl), refl));
        },
      );
      pays = fetched_quiet 1 (Auipc 11 (pos 0));
    }))
    (record { own = refl; fit = (omega arith, record { holds = refl; shown = tt; flushed = λ w s. tt; right = λ w s. refl }); pays = executed_quiet 1 })

second_code_2_grows : Grows two_harts 1 second_code_1 second_code_2
unfolding name_of need_of done walk_of sbi_of perform own_executed flushing reads_of
second_code_2_grows = does (executed 1) (does (fetched 1 (Addi 11 11 (pos 40))) (makes (step 1 (first_ram_word + 3) Load 0 (encoding_of (Auipc 11 (pos 0)) + 2 ^ 32 * encoding_of (Addi 11 11 (pos 40)))) (makes (step 1 5 Load 0 0) (stays)
    (record { behind = (tt, tt); acks = tt; draws_last = tt }))
    (record { behind = (tt, tt); acks = tt; draws_last = tt }))
    (record {
      own = refl;
      fit = (
        omega arith,
        record {
          runs = refl;
          holds_none = refl;
          not_due = refl;
          ipi = 0;
          loaded = inr (inl ((refl, refl, refl), tt));
          quiet = refl;
          shown = record { finds = λ x. 0; is_end = refl; stood = tt };
          fetched = (refl, refl, refl, ((omega arith, omega arith, (omega arith, omega arith)), refl));
        },
      );
      pays = fetched_quiet 1 (Addi 11 11 (pos 40));
    }))
    (record { own = refl; fit = (omega arith, record { holds = refl; shown = tt; flushed = λ w s. tt; right = λ w s. refl }); pays = executed_quiet 1 })

second_code_3_grows : Grows two_harts 1 second_code_2 second_code_3
unfolding name_of need_of done walk_of sbi_of perform own_executed flushing reads_of
second_code_3_grows = does (executed 1) (does (fetched 1 (Addi 10 0 (pos 1))) (makes (step 1 (first_ram_word + 4) Load 0 (encoding_of (Addi 10 0 (pos 1)) + 2 ^ 32 * encoding_of (Amoadd true false false 5 11 10))) (makes (step 1 5 Load 0 0) (stays)
    (record { behind = (tt, tt); acks = tt; draws_last = tt }))
    (record { behind = (tt, tt); acks = tt; draws_last = tt }))
    (record {
      own = refl;
      fit = (
        omega arith,
        record {
          runs = refl;
          holds_none = refl;
          not_due = refl;
          ipi = 0;
          loaded = inr (inl ((refl, refl, refl), tt));
          quiet = refl;
          shown = record { finds = λ x. 0; is_end = refl; stood = tt };
          fetched = (refl, refl, refl, ((omega arith, omega arith, (omega arith, omega arith)), refl));
        },
      );
      pays = fetched_quiet 1 (Addi 10 0 (pos 1));
    }))
    (record { own = refl; fit = (omega arith, record { holds = refl; shown = tt; flushed = λ w s. tt; right = λ w s. refl }); pays = executed_quiet 1 })

second_stepped_grows : Grows two_harts 1 second_code_3 second_stepped
unfolding name_of need_of done walk_of sbi_of perform own_executed flushing reads_of
second_stepped_grows = makes (step 1 (first_ram_word + 8) Add 1 1) (makes (step 1 first_dirty_word Or 1 1) (does (fetched 1 (Amoadd true false false 5 11 10)) (makes (step 1 (first_ram_word + 4) Load 0 (encoding_of (Addi 10 0 (pos 1)) + 2 ^ 32 * encoding_of (Amoadd true false false 5 11 10))) (makes (step 1 5 Load 0 0) (stays)
    (record { behind = (tt, tt); acks = tt; draws_last = tt }))
    (record { behind = (tt, tt); acks = tt; draws_last = tt }))
    (record {
      own = refl;
      fit = (
        omega arith,
        record {
          runs = refl;
          holds_none = refl;
          not_due = refl;
          ipi = 0;
          loaded = inr (inl ((refl, refl, refl), tt));
          quiet = refl;
          shown = record { finds = λ x. 0; is_end = refl; stood = tt };
          fetched = (refl, refl, refl, ((omega arith, omega arith, omega arith), refl));
        },
      );
      pays = fetched_quiet 1 (Amoadd true false false 5 11 10);
    }))
    (record { behind = (tt, tt); acks = tt; draws_last = tt }))
    (record { behind = (tt, tt); acks = tt; draws_last = tt })

second_turn_grows : Grows two_harts 1 second_stepped second_turn
unfolding name_of need_of done walk_of sbi_of perform own_executed flushing reads_of
second_turn_grows = makes (step 1 24 Store 0 0) (does (added 1 (1)) (stays)
    (record {
      own = refl;
      fit = (
        omega arith,
        record {
          holds = refl;
          shown = record { first_page = record { finds = λ x. 0; is_end = refl; stood = tt }; second_page = λ e. absurd (true≢false (sym e)) };
          flushed = λ w s. tt;
          right = λ w s. ap (λ x. perform (record w { memory = λ k. x }) 1 (own_part two_harts 1 second_stepped).arch (Walked.Leaf 0xcf 0x80000000 0) Walked.PageFault (need_held (own_part two_harts 1 second_stepped).arch (own_part two_harts 1 second_stepped).held)) (sym (s.here.0 tt (λ e. absurd (cc (e)))));
        },
      );
      pays = record { does = record { entry_is = refl; bytes_are = refl; reason_is = refl; starts_is = refl; stops_is = refl }; begins_not = refl };
    }))
    (record { behind = (tt, refl); acks = tt; draws_last = tt })

begin_turn_closed : IsClosed two_harts 1 begin_turn
unfolding name_of need_of done walk_of sbi_of perform own_executed flushing reads_of
begin_turn_closed = record {
  clear = tt;
  none_drawn = refl;
  none_left = refl;
  stops = refl;
  last = λ e. absurd (true≢false (sym e));
  left = refl;
  full = λ e. absurd (cc (e));
  marks = zero_marked two_harts 1 begin_turn refl refl;
  snapshot = λ e. absurd (omega (arith, e));
}

second_turn_closed : IsClosed two_harts 1 second_turn
unfolding name_of need_of done walk_of sbi_of perform own_executed flushing reads_of
second_turn_closed = record {
  clear = tt;
  none_drawn = refl;
  none_left = refl;
  stops = refl;
  last = λ e. absurd (true≢false (sym e));
  left = refl;
  full = λ e. absurd (cc (e));
  marks = zero_marked two_harts 1 second_turn refl refl;
  snapshot = λ e. absurd (omega (arith, e));
}

-- 2 turns
pub second_hart_chain : IsChain two_harts 1 2 second_turn
unfolding name_of
second_hart_chain = whole (turn (turn (none) (record { look = step 1 2 Load 0 0; looks = (refl, refl); once = refl; grows = grows_then two_harts 1 begin_look begin_look (stays) begin_turn_grows; closed = begin_turn_closed })) (record { look = step 1 2 Load 0 0; looks = (refl, refl); once = refl; grows = grows_then two_harts 1 second_look second_stepped (grows_then two_harts 1 second_look second_code_3 (grows_then two_harts 1 second_look second_code_2 (grows_then two_harts 1 second_look second_code_1 (grows_then two_harts 1 second_look second_inside (grows_then two_harts 1 second_look second_look (stays) second_inside_grows) second_code_1_grows) second_code_2_grows) second_code_3_grows) second_stepped_grows) second_turn_grows; closed = second_turn_closed }))
