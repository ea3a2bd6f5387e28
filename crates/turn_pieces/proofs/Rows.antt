-- A hart that prints a byte in one turn of three instructions: a whole log written by hand is a chain of one turn.
use Rattle.std.proofs.Common.{◌≡◌, ◌+◌, ◌*◌, ◌^◌, ℕ, Bool, true, true≢false, [], ◌∷◌, Some, refl, sym, ap, inl, inr, arith, pos}
use Rattle.std.specs.Prelude.{nat_le, take, if◌then◌else◌}
use Rattle.rv64_decode.specs.declared.instruction.Instr.{Instr}
use Rattle.rv64_decode.specs.declared.instruction.Instr.TheVariants.{Lui, Addi, Sb}
use Rattle.rv64_decode.specs.Encoding.{encoding_of}
use Rattle.rv64_priv.specs.Walk.{Walked, walk_of}
use Rattle.rv64_exec.specs.declared.needs.Answer.{Answer}
use Rattle.rv64_exec.specs.Code.{Code}
use Rattle.rv64_exec.specs.Plan.{need_of}
use Rattle.rv64_exec.specs.Finish.{done}
use Rattle.step_laws.specs.declared.steps.Step.{Step}
use Rattle.step_laws.specs.declared.steps.WordOp.{WordOp}
use Rattle.step_laws.specs.declared.steps.WordOp.TheVariants.{Load, Store, Add}
use Rattle.step_laws.specs.Words.{first_ram_word, first_console_word, console_places}
use Rattle.step_laws.specs.Map.{name_of}
use Rattle.machine_model.specs.declared.reason.Reason.{Reason}
use Rattle.machine_model.specs.Event.{Event, Fetch, Exec, only}
use Rattle.machine_model.specs.State.{Setup}
use Rattle.machine_model.specs.Own.{own_executed}
use Rattle.machine_model.specs.Perform.{Surroundings, perform}
use Rattle.machine_model.specs.Sbi.{sbi_of}
use Rattle.machine_model.specs.Lawful.{flushing}
use Rattle.walk_laws.specs.WalkLoads.{reads_of}
use Rattle.turn_pieces.specs.Log.{made, did, Log}
use Rattle.turn_pieces.specs.Doing.{IsQuiet}
use Rattle.turn_pieces.proofs.Writers.{grows_then}
use Rattle.turn_pieces.specs.Grows.{Grows, stays, makes, does, IsClosed, none, turn, IsChain, whole}

abbrev pub step : (actor word : ℕ) → WordOp → (arg answer : ℕ) → Step
step actor word op arg answer = record { actor = actor; word = word; op = op; arg = arg; answer = answer }

abbrev pub code : Instr → Code
code i = record { word = encoding_of i; instr = Some i }

abbrev pub u : Setup
u = record { layout = record { harts = 2; pages = 1024 }; image = λ x. 0; start = 0x80000000; limit = 50000000; script = [] }

-- words of hart 0's: STOP, PEND, IPI, CONS, its RUN
abbrev pub load_stop : Step
load_stop = step 0 2 Load 0 0

abbrev pub load_pend : Step
load_pend = step 0 1 Load 0 0

abbrev pub load_ipi : Step
load_ipi = step 0 5 Load 0 0

abbrev pub set_run : ℕ → Step
set_run n = step 0 8 Store n 0

abbrev pub first_code : Step
first_code = step 0 first_ram_word Load 0 (encoding_of (Lui 5 (pos 0x10000000)) + 2 ^ 32 * encoding_of (Addi 6 0 (pos 79)))

abbrev pub second_code : Step
second_code = step 0 (first_ram_word + 1) Load 0 (encoding_of (Sb 5 6 (pos 0)))

abbrev pub fetched : Instr → Event
fetched i = Fetch 0 (Walked.Leaf 0xcf 0x80000000 0) (code i)

abbrev pub executed : Event
executed = Exec 0 Walked.PageFault Walked.PageFault (only Answer.Nothing)

abbrev pub printed : Event
printed = Exec 0 (Walked.Leaf 0xcf 0x10000000 0) Walked.PageFault (record (only Answer.Nothing) { bytes = 79 ∷ [] })

abbrev pub inside : Log
inside = made load_pend ∷ made (set_run 1) ∷ made load_stop ∷ []

abbrev pub one : Log
one = did executed ∷ did (fetched (Lui 5 (pos 0x10000000))) ∷ made first_code ∷ made load_ipi ∷ inside

abbrev pub two : Log
two = did executed ∷ did (fetched (Addi 6 0 (pos 79))) ∷ made first_code ∷ made load_ipi ∷ one

abbrev pub three : Log
three = did printed ∷ made (step 0 4 Add 1 0) ∷ did (fetched (Sb 5 6 (pos 0))) ∷ made second_code ∷ made load_ipi ∷ two

abbrev pub hello : Log
hello = made (set_run 0) ∷ made (step 0 first_console_word Store (79 + 256) 0) ∷ three

inside_grows : Grows u 0 (made load_stop ∷ []) inside
unfolding name_of
inside_grows = makes load_pend (makes (set_run 1) stays (record { behind = (tt, refl); acks = tt; draws_last = tt })) (record { behind = (tt, refl); acks = tt; draws_last = tt })

abbrev quiet : IsQuiet executed
quiet = record { does = record { entry_is = refl; bytes_are = refl; reason_is = refl; starts_is = refl; stops_is = refl }; begins_not = refl }

abbrev fetched_quiet : (i : Instr) → IsQuiet (fetched i)
fetched_quiet i = record { does = record { entry_is = refl; bytes_are = refl; reason_is = refl; starts_is = refl; stops_is = refl }; begins_not = refl }

one_grows : Grows u 0 inside one
unfolding name_of need_of done walk_of sbi_of perform own_executed flushing reads_of
one_grows = does executed (does (fetched (Lui 5 (pos 0x10000000))) (makes first_code (makes load_ipi stays (record { behind = (tt, tt); acks = tt; draws_last = tt })) (record { behind = (tt, tt); acks = tt; draws_last = tt }))
    (record {
      own = refl;
      fit = (
        omega arith,
        record {
          runs = refl;
          holds_none = refl;
          not_due = refl;
          ipi = 0;
          loaded = inr (inl ((refl, refl, refl), tt));
          quiet = refl;
          shown = record { finds = λ x. 0; is_end = refl; stood = tt };
          fetched = (refl, refl, refl, ((omega arith, (omega arith, omega arith), refl), refl));
        },
      );
      pays = fetched_quiet (Lui 5 (pos 0x10000000));
    }))
    (record { own = refl; fit = (omega arith, record { holds = refl; shown = tt; flushed = λ w s. tt; right = λ w s. refl }); pays = quiet })

two_grows : Grows u 0 one two
unfolding name_of need_of done walk_of sbi_of perform own_executed flushing reads_of
two_grows = does executed (does (fetched (Addi 6 0 (pos 79))) (makes first_code (makes load_ipi stays (record { behind = (tt, tt); acks = tt; draws_last = tt })) (record { behind = (tt, tt); acks = tt; draws_last = tt }))
    (record {
      own = refl;
      fit = (
        omega arith,
        record {
          runs = refl;
          holds_none = refl;
          not_due = refl;
          ipi = 0;
          loaded = inr (inl ((refl, refl, refl), tt));
          quiet = refl;
          shown = record { finds = λ x. 0; is_end = refl; stood = tt };
          fetched = (refl, refl, refl, ((omega arith, omega arith, (omega arith, omega arith)), refl));
        },
      );
      pays = fetched_quiet (Addi 6 0 (pos 79));
    }))
    (record { own = refl; fit = (omega arith, record { holds = refl; shown = tt; flushed = λ w s. tt; right = λ w s. refl }); pays = quiet })

-- the byte goes where the console has room
room_is : (w : Surroundings) → w.room ≡ console_places → nat_le 1 w.room ≡ true
room_is w e = ap (nat_le 1) e

three_grows : Grows u 0 two three
unfolding name_of need_of done walk_of sbi_of perform own_executed flushing reads_of
three_grows = does printed (makes (step 0 4 Add 1 0) (does (fetched (Sb 5 6 (pos 0)))
    (makes second_code (makes load_ipi stays (record { behind = (tt, tt); acks = tt; draws_last = tt })) (record { behind = (tt, tt); acks = tt; draws_last = tt }))
    (record {
      own = refl;
      fit = (
        omega arith,
        record {
          runs = refl;
          holds_none = refl;
          not_due = refl;
          ipi = 0;
          loaded = inr (inl ((refl, refl, refl), tt));
          quiet = refl;
          shown = record { finds = λ x. 0; is_end = refl; stood = tt };
          fetched = (refl, refl, refl, ((omega arith, omega arith, (omega arith, omega arith)), refl));
        },
      );
      pays = fetched_quiet (Sb 5 6 (pos 0));
    })) (record { behind = (tt, refl); acks = tt; draws_last = refl }))
    (record {
      own = refl;
      fit = (
        omega arith,
        record {
          holds = refl;
          shown = record { first_page = record { finds = λ x. 0; is_end = refl; stood = tt }; second_page = λ e. absurd (true≢false (sym e)) };
          flushed = λ w s. tt;
          right = λ w s. sym (ap (λ (b : Bool). if b then record (only Answer.Nothing) { bytes = 79 ∷ [] } else record (only Answer.Nothing) { bytes = take w.room (79 ∷ []); reason = Some Reason.OutFull }) (room_is w (s.room 0 refl)));
        },
      );
      pays = record { byte = 79; pays = record { does = record { entry_is = refl; bytes_are = refl; reason_is = refl; starts_is = refl; stops_is = refl }; begins_not = refl }; alone = refl; none = refl };
    })

hello_grows : Grows u 0 three hello
unfolding name_of need_of done walk_of sbi_of perform own_executed flushing reads_of
hello_grows = makes (set_run 0) (makes (step 0 first_console_word Store (79 + 256) 0) stays (record { behind = (tt, inl (79, refl, refl, refl)); acks = tt; draws_last = tt })) (record { behind = (tt, refl); acks = tt; draws_last = tt })

hello_closed : IsClosed u 0 hello
unfolding name_of need_of done walk_of sbi_of perform own_executed flushing reads_of
hello_closed = record {
  clear = tt;
  none_drawn = refl;
  none_left = refl;
  stops = refl;
  last = λ e. absurd (true≢false (sym e));
  left = refl;
  full = λ e. absurd (cc (e));
  marks = λ page. refl;
  snapshot = λ e. absurd (omega (arith, e));
}

pub hello_chain : IsChain u 0 1 hello
unfolding name_of
hello_chain = whole (turn none (record {
  look = load_stop;
  looks = (refl, refl);
  once = refl;
  grows = grows_then u 0 (made load_stop ∷ []) three (grows_then u 0 (made load_stop ∷ []) two (grows_then u 0 (made load_stop ∷ []) one (grows_then u 0 (made load_stop ∷ []) inside inside_grows one_grows) two_grows) three_grows) hello_grows;
  closed = hello_closed;
}))
