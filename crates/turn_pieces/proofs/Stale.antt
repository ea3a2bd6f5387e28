-- A stale translation until its fence: a hart sets up a page table of one leaf, goes on by the walk that it made, though the entry is
-- gone from memory since, and finds it gone behind its fence. Its log is written by hand, and is a chain of two turns.
use Rattle.std.proofs.Common.{◌+◌, ◌*◌, ◌^◌, true≢false, [], ◌∷◌, refl, sym, inl, inr, arith, pos}
use Rattle.rv64_decode.specs.declared.instruction.Instr.TheVariants.{Lui, Addi, Slli, Or, Csrrw, Sfencevma}
use Rattle.rv64_decode.specs.Encoding.{encoding_of}
use Rattle.rv64_priv.specs.Flush.{Full}
use Rattle.rv64_priv.specs.Walk.{Walked, walk_of}
use Rattle.rv64_exec.specs.declared.needs.Answer.{Answer}
use Rattle.rv64_exec.specs.Code.{no_code}
use Rattle.rv64_exec.specs.Plan.{need_of}
use Rattle.rv64_exec.specs.Finish.{done}
use Rattle.step_laws.specs.declared.steps.WordOp.TheVariants.{Load, Store, Exchange}
use Rattle.step_laws.specs.Words.{first_ram_word}
use Rattle.step_laws.specs.Map.{name_of}
use Rattle.machine_model.specs.Past.{this}
use Rattle.machine_model.specs.Event.{Event, Fetch, Exec, Flushes, only}
use Rattle.machine_model.specs.State.{Setup}
use Rattle.machine_model.specs.Own.{own_executed}
use Rattle.machine_model.specs.Perform.{perform}
use Rattle.machine_model.specs.Sbi.{sbi_of}
use Rattle.machine_model.specs.Lawful.{flushing}
use Rattle.walk_laws.specs.WalkLoads.{reads_of}
use Rattle.turn_pieces.specs.Log.{made, did, Log}
use Rattle.turn_pieces.specs.Doing.{IsQuiet}
use Rattle.turn_pieces.specs.Grows.{Grows, stays, makes, does, IsClosed, none, turn, IsChain, whole}
use Rattle.turn_pieces.proofs.Writers.{grows_then}
use Rattle.turn_pieces.proofs.Unmarked.{unmarked}
use Rattle.turn_pieces.proofs.Rows.{step, code}

abbrev pub paged : Setup
paged = record { layout = record { harts = 1; pages = 1024 }; image = λ x. 0; start = 0x80000000; limit = 50000000; script = [] }

abbrev pub executed : Event
executed = Exec 0 Walked.PageFault Walked.PageFault (only Answer.Nothing)

executed_quiet : IsQuiet executed
executed_quiet = record { does = record { entry_is = refl; bytes_are = refl; reason_is = refl; starts_is = refl; stops_is = refl }; begins_not = refl }

abbrev pub look : Log
look = made (step 0 2 Load 0 0) ∷ []

abbrev pub inside : Log
inside = made (step 0 1 Load 0 0) ∷ made (step 0 8 Store 1 0) ∷ look

abbrev pub prepared_1 : Log
prepared_1 = did (executed) ∷ did (Fetch 0 (Walked.Leaf 0xcf 0x80000000 0) (code (Addi 5 0 (pos 1)))) ∷ made (step 0 first_ram_word Load 0 (encoding_of (Addi 5 0 (pos 1)) + 2 ^ 32 * encoding_of (Slli 5 5 63))) ∷ made (step 0 5 Load 0 0) ∷ inside

abbrev pub prepared_2 : Log
prepared_2 = did (executed) ∷ did (Fetch 0 (Walked.Leaf 0xcf 0x80000000 0) (code (Slli 5 5 63))) ∷ made (step 0 first_ram_word Load 0 (encoding_of (Addi 5 0 (pos 1)) + 2 ^ 32 * encoding_of (Slli 5 5 63))) ∷ made (step 0 5 Load 0 0) ∷ prepared_1

abbrev pub prepared_3 : Log
prepared_3 = did (executed) ∷ did (Fetch 0 (Walked.Leaf 0xcf 0x80000000 0) (code (Lui 6 (pos 0x80000)))) ∷ made (step 0 (first_ram_word + 1) Load 0 (encoding_of (Lui 6 (pos 0x80000)) + 2 ^ 32 * encoding_of (Addi 6 6 (pos 1)))) ∷ made (step 0 5 Load 0 0) ∷ prepared_2

abbrev pub prepared_4 : Log
prepared_4 = did (executed) ∷ did (Fetch 0 (Walked.Leaf 0xcf 0x80000000 0) (code (Addi 6 6 (pos 1)))) ∷ made (step 0 (first_ram_word + 1) Load 0 (encoding_of (Lui 6 (pos 0x80000)) + 2 ^ 32 * encoding_of (Addi 6 6 (pos 1)))) ∷ made (step 0 5 Load 0 0) ∷ prepared_3

abbrev pub prepared_5 : Log
prepared_5 = did (executed) ∷ did (Fetch 0 (Walked.Leaf 0xcf 0x80000000 0) (code (Or 5 5 6))) ∷ made (step 0 (first_ram_word + 2) Load 0 (encoding_of (Or 5 5 6) + 2 ^ 32 * encoding_of (Csrrw 0 5 0x180))) ∷ made (step 0 5 Load 0 0) ∷ prepared_4

abbrev pub table_fetched : Log
table_fetched = did (Fetch 0 (Walked.Leaf 0xcf 0x80000000 0) (code (Csrrw 0 5 0x180))) ∷ made (step 0 (first_ram_word + 2) Load 0 (encoding_of (Or 5 5 6) + 2 ^ 32 * encoding_of (Csrrw 0 5 0x180))) ∷ made (step 0 5 Load 0 0) ∷ prepared_5

abbrev pub table_set : Log
table_set = did (executed) ∷ did (Flushes 0 Full) ∷ made (step 0 11 Store 0 0) ∷ made (step 0 11 (Exchange 0) 1 0) ∷ table_fetched

abbrev pub walked : Log
walked = did (executed) ∷ did (Fetch 0 (Walked.Leaf 0x200000cf 0x80000000 2) (code (Addi 7 0 (pos 1)))) ∷ made (step 0 (first_ram_word + 3) Load 0 (encoding_of (Addi 7 0 (pos 1)) + 2 ^ 32 * encoding_of (Addi 7 0 (pos 2)))) ∷ made (step 0 (first_ram_word + 514) Load 0 0x200000cf) ∷ made (step 0 5 Load 0 0) ∷ table_set

abbrev pub first_turn : Log
first_turn = made (step 0 8 Store 0 0) ∷ walked

abbrev pub second_look : Log
second_look = made (step 0 2 Load 0 0) ∷ first_turn

abbrev pub second_inside : Log
second_inside = made (step 0 1 Load 0 0) ∷ made (step 0 8 Store 1 0) ∷ second_look

abbrev pub stale : Log
stale = did (executed) ∷ did (Fetch 0 (Walked.Leaf 0x200000cf 0x80000000 2) (code (Addi 7 0 (pos 2)))) ∷ made (step 0 (first_ram_word + 3) Load 0 (encoding_of (Addi 7 0 (pos 1)) + 2 ^ 32 * encoding_of (Addi 7 0 (pos 2)))) ∷ made (step 0 5 Load 0 0) ∷ second_inside

abbrev pub fence_fetched : Log
fence_fetched = did (Fetch 0 (Walked.Leaf 0x200000cf 0x80000000 2) (code (Sfencevma 0 0))) ∷ made (step 0 (first_ram_word + 4) Load 0 (encoding_of (Sfencevma 0 0) + 2 ^ 32 * encoding_of (Addi 7 0 (pos 3)))) ∷ made (step 0 5 Load 0 0) ∷ stale

abbrev pub fenced : Log
fenced = did (executed) ∷ did (Flushes 0 Full) ∷ made (step 0 11 Store 0 0) ∷ made (step 0 11 (Exchange 0) 1 0) ∷ fence_fetched

abbrev pub walked_anew : Log
walked_anew = did (Fetch 0 Walked.PageFault no_code) ∷ made (step 0 (first_ram_word + 514) Load 0 0) ∷ made (step 0 5 Load 0 0) ∷ fenced

abbrev pub second_turn : Log
second_turn = made (step 0 8 Store 0 0) ∷ walked_anew

inside_grows : Grows paged 0 look inside
unfolding name_of need_of done walk_of sbi_of perform own_executed flushing reads_of
inside_grows = makes (step 0 1 Load 0 0) (makes (step 0 8 Store 1 0) (stays)
    (record { behind = (tt, refl); acks = tt; draws_last = tt }))
    (record { behind = (tt, refl); acks = tt; draws_last = tt })

prepared_1_grows : Grows paged 0 inside prepared_1
unfolding name_of need_of done walk_of sbi_of perform own_executed flushing reads_of
prepared_1_grows = does (executed) (does (Fetch 0 (Walked.Leaf 0xcf 0x80000000 0) (code (Addi 5 0 (pos 1)))) (makes (step 0 first_ram_word Load 0 (encoding_of (Addi 5 0 (pos 1)) + 2 ^ 32 * encoding_of (Slli 5 5 63))) (makes (step 0 5 Load 0 0) (stays)
    (record { behind = (tt, tt); acks = tt; draws_last = tt }))
    (record { behind = (tt, tt); acks = tt; draws_last = tt }))
    (record {
      own = refl;
      fit = (
        omega arith,
        record {
          runs = refl;
          holds_none = refl;
          not_due = refl;
          ipi = 0;
          loaded = (inr (inl ((refl, refl, refl), tt)));
          quiet = refl;
          shown = record { finds = λ x. 0; is_end = refl; stood = tt };
          fetched = (refl, refl, refl, ((omega arith, omega arith, (omega arith, omega arith)), refl));
        },
      );
      pays = record { does = record { entry_is = refl; bytes_are = refl; reason_is = refl; starts_is = refl; stops_is = refl }; begins_not = refl };
    }))
    (record { own = refl; fit = (omega arith, record { holds = refl; shown = tt; flushed = λ w s. tt; right = λ w s. refl }); pays = executed_quiet })

prepared_2_grows : Grows paged 0 prepared_1 prepared_2
unfolding name_of need_of done walk_of sbi_of perform own_executed flushing reads_of
prepared_2_grows = does (executed) (does (Fetch 0 (Walked.Leaf 0xcf 0x80000000 0) (code (Slli 5 5 63))) (makes (step 0 first_ram_word Load 0 (encoding_of (Addi 5 0 (pos 1)) + 2 ^ 32 * encoding_of (Slli 5 5 63))) (makes (step 0 5 Load 0 0) (stays)
    (record { behind = (tt, tt); acks = tt; draws_last = tt }))
    (record { behind = (tt, tt); acks = tt; draws_last = tt }))
    (record {
      own = refl;
      fit = (
        omega arith,
        record {
          runs = refl;
          holds_none = refl;
          not_due = refl;
          ipi = 0;
          loaded = (inr (inl ((refl, refl, refl), tt)));
          quiet = refl;
          shown = record { finds = λ x. 0; is_end = refl; stood = tt };
          fetched = (refl, refl, refl, ((omega arith, omega arith, omega arith), refl));
        },
      );
      pays = record { does = record { entry_is = refl; bytes_are = refl; reason_is = refl; starts_is = refl; stops_is = refl }; begins_not = refl };
    }))
    (record { own = refl; fit = (omega arith, record { holds = refl; shown = tt; flushed = λ w s. tt; right = λ w s. refl }); pays = executed_quiet })

prepared_3_grows : Grows paged 0 prepared_2 prepared_3
unfolding name_of need_of done walk_of sbi_of perform own_executed flushing reads_of
prepared_3_grows = does (executed) (does (Fetch 0 (Walked.Leaf 0xcf 0x80000000 0) (code (Lui 6 (pos 0x80000)))) (makes (step 0 (first_ram_word + 1) Load 0 (encoding_of (Lui 6 (pos 0x80000)) + 2 ^ 32 * encoding_of (Addi 6 6 (pos 1)))) (makes (step 0 5 Load 0 0) (stays)
    (record { behind = (tt, tt); acks = tt; draws_last = tt }))
    (record { behind = (tt, tt); acks = tt; draws_last = tt }))
    (record {
      own = refl;
      fit = (
        omega arith,
        record {
          runs = refl;
          holds_none = refl;
          not_due = refl;
          ipi = 0;
          loaded = (inr (inl ((refl, refl, refl), tt)));
          quiet = refl;
          shown = record { finds = λ x. 0; is_end = refl; stood = tt };
          fetched = (refl, refl, refl, ((omega arith, (omega arith, omega arith), refl), refl));
        },
      );
      pays = record { does = record { entry_is = refl; bytes_are = refl; reason_is = refl; starts_is = refl; stops_is = refl }; begins_not = refl };
    }))
    (record { own = refl; fit = (omega arith, record { holds = refl; shown = tt; flushed = λ w s. tt; right = λ w s. refl }); pays = executed_quiet })

prepared_4_grows : Grows paged 0 prepared_3 prepared_4
unfolding name_of need_of done walk_of sbi_of perform own_executed flushing reads_of
prepared_4_grows = does (executed) (does (Fetch 0 (Walked.Leaf 0xcf 0x80000000 0) (code (Addi 6 6 (pos 1)))) (makes (step 0 (first_ram_word + 1) Load 0 (encoding_of (Lui 6 (pos 0x80000)) + 2 ^ 32 * encoding_of (Addi 6 6 (pos 1)))) (makes (step 0 5 Load 0 0) (stays)
    (record { behind = (tt, tt); acks = tt; draws_last = tt }))
    (record { behind = (tt, tt); acks = tt; draws_last = tt }))
    (record {
      own = refl;
      fit = (
        omega arith,
        record {
          runs = refl;
          holds_none = refl;
          not_due = refl;
          ipi = 0;
          loaded = (inr (inl ((refl, refl, refl), tt)));
          quiet = refl;
          shown = record { finds = λ x. 0; is_end = refl; stood = tt };
          fetched = (refl, refl, refl, ((omega arith, omega arith, (omega arith, omega arith)), refl));
        },
      );
      pays = record { does = record { entry_is = refl; bytes_are = refl; reason_is = refl; starts_is = refl; stops_is = refl }; begins_not = refl };
    }))
    (record { own = refl; fit = (omega arith, record { holds = refl; shown = tt; flushed = λ w s. tt; right = λ w s. refl }); pays = executed_quiet })

prepared_5_grows : Grows paged 0 prepared_4 prepared_5
unfolding name_of need_of done walk_of sbi_of perform own_executed flushing reads_of
prepared_5_grows = does (executed) (does (Fetch 0 (Walked.Leaf 0xcf 0x80000000 0) (code (Or 5 5 6))) (makes (step 0 (first_ram_word + 2) Load 0 (encoding_of (Or 5 5 6) + 2 ^ 32 * encoding_of (Csrrw 0 5 0x180))) (makes (step 0 5 Load 0 0) (stays)
    (record { behind = (tt, tt); acks = tt; draws_last = tt }))
    (record { behind = (tt, tt); acks = tt; draws_last = tt }))
    (record {
      own = refl;
      fit = (
        omega arith,
        record {
          runs = refl;
          holds_none = refl;
          not_due = refl;
          ipi = 0;
          loaded = (inr (inl ((refl, refl, refl), tt)));
          quiet = refl;
          shown = record { finds = λ x. 0; is_end = refl; stood = tt };
          fetched = (refl, refl, refl, ((omega arith, omega arith, omega arith), refl));
        },
      );
      pays = record { does = record { entry_is = refl; bytes_are = refl; reason_is = refl; starts_is = refl; stops_is = refl }; begins_not = refl };
    }))
    (record { own = refl; fit = (omega arith, record { holds = refl; shown = tt; flushed = λ w s. tt; right = λ w s. refl }); pays = executed_quiet })

table_fetched_grows : Grows paged 0 prepared_5 table_fetched
unfolding name_of need_of done walk_of sbi_of perform own_executed flushing reads_of
table_fetched_grows = does (Fetch 0 (Walked.Leaf 0xcf 0x80000000 0) (code (Csrrw 0 5 0x180))) (makes (step 0 (first_ram_word + 2) Load 0 (encoding_of (Or 5 5 6) + 2 ^ 32 * encoding_of (Csrrw 0 5 0x180))) (makes (step 0 5 Load 0 0) (stays)
    (record { behind = (tt, tt); acks = tt; draws_last = tt }))
    (record { behind = (tt, tt); acks = tt; draws_last = tt }))
    (record {
      own = refl;
      fit = (
        omega arith,
        record {
          runs = refl;
          holds_none = refl;
          not_due = refl;
          ipi = 0;
          loaded = (inr (inl ((refl, refl, refl), tt)));
          quiet = refl;
          shown = record { finds = λ x. 0; is_end = refl; stood = tt };
          fetched = (refl, refl, refl, ((omega arith, omega arith, omega arith), refl));
        },
      );
      pays = record { does = record { entry_is = refl; bytes_are = refl; reason_is = refl; starts_is = refl; stops_is = refl }; begins_not = refl };
    })

table_set_grows : Grows paged 0 table_fetched table_set
unfolding name_of need_of done walk_of sbi_of perform own_executed flushing reads_of
table_set_grows = does (executed) (does (Flushes 0 Full) (makes (step 0 11 Store 0 0) (makes (step 0 11 (Exchange 0) 1 0) (stays)
    (record { behind = (tt, tt); acks = tt; draws_last = tt }))
    (record { behind = (tt, tt); acks = tt; draws_last = tt }))
    (record { own = refl; fit = (omega arith, refl); pays = record { does = record { entry_is = refl; bytes_are = refl; reason_is = refl; starts_is = refl; stops_is = refl }; begins_not = refl } }))
    (record { own = refl; fit = (omega arith, record { holds = refl; shown = tt; flushed = λ w s. (((λ e. this refl), (λ ne. absurd (ne refl))), tt); right = λ w s. refl }); pays = executed_quiet })

walked_grows : Grows paged 0 table_set walked
unfolding name_of need_of done walk_of sbi_of perform own_executed flushing reads_of
walked_grows = does (executed) (does (Fetch 0 (Walked.Leaf 0x200000cf 0x80000000 2) (code (Addi 7 0 (pos 1)))) (makes (step 0 (first_ram_word + 3) Load 0 (encoding_of (Addi 7 0 (pos 1)) + 2 ^ 32 * encoding_of (Addi 7 0 (pos 2)))) (makes (step 0 (first_ram_word + 514) Load 0 0x200000cf) (makes (step 0 5 Load 0 0) (stays)
    (record { behind = (tt, tt); acks = tt; draws_last = tt }))
    (record { behind = (tt, tt); acks = tt; draws_last = tt }))
    (record { behind = (tt, tt); acks = tt; draws_last = tt }))
    (record {
      own = refl;
      fit = (
        omega arith,
        record {
          runs = refl;
          holds_none = refl;
          not_due = refl;
          ipi = 0;
          loaded = (inr (inr (inl ((refl, refl, refl), tt))));
          quiet = refl;
          shown = record { finds = λ x. 0x200000cf; is_end = refl; stood = (inr (inl ((refl, refl, refl), tt))) };
          fetched = (refl, refl, refl, ((omega arith, omega arith, (omega arith, omega arith)), refl));
        },
      );
      pays = record { does = record { entry_is = refl; bytes_are = refl; reason_is = refl; starts_is = refl; stops_is = refl }; begins_not = refl };
    }))
    (record { own = refl; fit = (omega arith, record { holds = refl; shown = tt; flushed = λ w s. tt; right = λ w s. refl }); pays = executed_quiet })

first_turn_grows : Grows paged 0 walked first_turn
unfolding name_of need_of done walk_of sbi_of perform own_executed flushing reads_of
first_turn_grows = makes (step 0 8 Store 0 0) (stays)
    (record { behind = (tt, refl); acks = tt; draws_last = tt })

second_inside_grows : Grows paged 0 second_look second_inside
unfolding name_of need_of done walk_of sbi_of perform own_executed flushing reads_of
second_inside_grows = makes (step 0 1 Load 0 0) (makes (step 0 8 Store 1 0) (stays)
    (record { behind = (tt, refl); acks = tt; draws_last = tt }))
    (record { behind = (tt, refl); acks = tt; draws_last = tt })

stale_grows : Grows paged 0 second_inside stale
unfolding name_of need_of done walk_of sbi_of perform own_executed flushing reads_of
stale_grows = does (executed) (does (Fetch 0 (Walked.Leaf 0x200000cf 0x80000000 2) (code (Addi 7 0 (pos 2)))) (makes (step 0 (first_ram_word + 3) Load 0 (encoding_of (Addi 7 0 (pos 1)) + 2 ^ 32 * encoding_of (Addi 7 0 (pos 2)))) (makes (step 0 5 Load 0 0) (stays)
    (record { behind = (tt, tt); acks = tt; draws_last = tt }))
    (record { behind = (tt, tt); acks = tt; draws_last = tt }))
    (record {
      own = refl;
      fit = (
        omega arith,
        record {
          runs = refl;
          holds_none = refl;
          not_due = refl;
          ipi = 0;
          loaded = (inr (inl ((refl, refl, refl), tt)));
          quiet = refl;
          shown = record { finds = λ x. 0x200000cf; is_end = refl; stood = (inr (inr (inr (inr (inr (inr (refl, (refl, (inr (inl ((refl, refl, refl), tt))))))))))) };
          fetched = (refl, refl, refl, ((omega arith, omega arith, (omega arith, omega arith)), refl));
        },
      );
      pays = record { does = record { entry_is = refl; bytes_are = refl; reason_is = refl; starts_is = refl; stops_is = refl }; begins_not = refl };
    }))
    (record { own = refl; fit = (omega arith, record { holds = refl; shown = tt; flushed = λ w s. tt; right = λ w s. refl }); pays = executed_quiet })

fence_fetched_grows : Grows paged 0 stale fence_fetched
unfolding name_of need_of done walk_of sbi_of perform own_executed flushing reads_of
fence_fetched_grows = does (Fetch 0 (Walked.Leaf 0x200000cf 0x80000000 2) (code (Sfencevma 0 0))) (makes (step 0 (first_ram_word + 4) Load 0 (encoding_of (Sfencevma 0 0) + 2 ^ 32 * encoding_of (Addi 7 0 (pos 3)))) (makes (step 0 5 Load 0 0) (stays)
    (record { behind = (tt, tt); acks = tt; draws_last = tt }))
    (record { behind = (tt, tt); acks = tt; draws_last = tt }))
    (record {
      own = refl;
      fit = (
        omega arith,
        record {
          runs = refl;
          holds_none = refl;
          not_due = refl;
          ipi = 0;
          loaded = (inr (inl ((refl, refl, refl), tt)));
          quiet = refl;
          shown = record { finds = λ x. 0x200000cf; is_end = refl; stood = (inr (inr (refl, (refl, (inr (inr (inr (inr (inr (inr (refl, (refl, (inr (inl ((refl, refl, refl), tt))))))))))))))) };
          fetched = (refl, refl, refl, ((omega arith, omega arith, omega arith), refl));
        },
      );
      pays = record { does = record { entry_is = refl; bytes_are = refl; reason_is = refl; starts_is = refl; stops_is = refl }; begins_not = refl };
    })

fenced_grows : Grows paged 0 fence_fetched fenced
unfolding name_of need_of done walk_of sbi_of perform own_executed flushing reads_of
fenced_grows = does (executed) (does (Flushes 0 Full) (makes (step 0 11 Store 0 0) (makes (step 0 11 (Exchange 0) 1 0) (stays)
    (record { behind = (tt, tt); acks = tt; draws_last = tt }))
    (record { behind = (tt, tt); acks = tt; draws_last = tt }))
    (record { own = refl; fit = (omega arith, refl); pays = record { does = record { entry_is = refl; bytes_are = refl; reason_is = refl; starts_is = refl; stops_is = refl }; begins_not = refl } }))
    (record { own = refl; fit = (omega arith, record { holds = refl; shown = tt; flushed = λ w s. (((λ e. this refl), (λ ne. absurd (ne refl))), tt); right = λ w s. refl }); pays = executed_quiet })

walked_anew_grows : Grows paged 0 fenced walked_anew
unfolding name_of need_of done walk_of sbi_of perform own_executed flushing reads_of
walked_anew_grows = does (Fetch 0 Walked.PageFault no_code) (makes (step 0 (first_ram_word + 514) Load 0 0) (makes (step 0 5 Load 0 0) (stays)
    (record { behind = (tt, tt); acks = tt; draws_last = tt }))
    (record { behind = (tt, tt); acks = tt; draws_last = tt }))
    (record {
      own = refl;
      fit = (
        omega arith,
        record {
          runs = refl;
          holds_none = refl;
          not_due = refl;
          ipi = 0;
          loaded = (inr (inl ((refl, refl, refl), tt)));
          quiet = refl;
          shown = record { finds = λ x. 0; is_end = refl; stood = (inl ((refl, refl, refl), tt)) };
          fetched = refl;
        },
      );
      pays = record { does = record { entry_is = refl; bytes_are = refl; reason_is = refl; starts_is = refl; stops_is = refl }; begins_not = refl };
    })

second_turn_grows : Grows paged 0 walked_anew second_turn
unfolding name_of need_of done walk_of sbi_of perform own_executed flushing reads_of
second_turn_grows = makes (step 0 8 Store 0 0) (stays)
    (record { behind = (tt, refl); acks = tt; draws_last = tt })

first_turn_closed : IsClosed paged 0 first_turn
unfolding name_of need_of done walk_of sbi_of perform own_executed flushing reads_of
first_turn_closed = record {
  clear = tt;
  none_drawn = refl;
  none_left = refl;
  stops = refl;
  last = λ e. absurd (true≢false (sym e));
  left = refl;
  full = λ e. absurd (cc (e));
  marks = λ page. unmarked paged 0 page first_turn refl;
  snapshot = λ e. absurd (omega (arith, e));
}

second_turn_closed : IsClosed paged 0 second_turn
unfolding name_of need_of done walk_of sbi_of perform own_executed flushing reads_of
second_turn_closed = record {
  clear = tt;
  none_drawn = refl;
  none_left = refl;
  stops = refl;
  last = λ e. absurd (true≢false (sym e));
  left = refl;
  full = λ e. absurd (cc (e));
  marks = λ page. unmarked paged 0 page second_turn refl;
  snapshot = λ e. absurd (omega (arith, e));
}

pub stale_chain : IsChain paged 0 2 second_turn
unfolding name_of
stale_chain = whole (turn (turn (none) (record { look = step 0 2 Load 0 0; looks = (refl, refl); once = refl; grows = grows_then paged 0 look walked (grows_then paged 0 look table_set (grows_then paged 0 look table_fetched (grows_then paged 0 look prepared_5 (grows_then paged 0 look prepared_4 (grows_then paged 0 look prepared_3 (grows_then paged 0 look prepared_2 (grows_then paged 0 look prepared_1 (grows_then paged 0 look inside (grows_then paged 0 look look (stays) inside_grows) prepared_1_grows) prepared_2_grows) prepared_3_grows) prepared_4_grows) prepared_5_grows) table_fetched_grows) table_set_grows) walked_grows) first_turn_grows; closed = first_turn_closed })) (record { look = step 0 2 Load 0 0; looks = (refl, refl); once = refl; grows = grows_then paged 0 second_look walked_anew (grows_then paged 0 second_look fenced (grows_then paged 0 second_look fence_fetched (grows_then paged 0 second_look stale (grows_then paged 0 second_look second_inside (grows_then paged 0 second_look second_look (stays) second_inside_grows) stale_grows) fence_fetched_grows) fenced_grows) walked_anew_grows) second_turn_grows; closed = second_turn_closed }))
