-- The text was made, and was written whole or was cut short.
use Rattle.std.proofs.Common.{inr, List, ℕ, refl, subst}
use Rattle.guest_gen.specs.Text.{gen_text}
use Rattle.tlbvm.specs.Options.{Gen}
use Rattle.tlbvm.specs.Intake.{Makes}
use Rattle.tlbvm.specs.Call.{Call, Gets, GetsPart, written_of}
use Rattle.tlbvm.proofs.Ends.{made_whole, made_short}
use Rattle.tlbvm.proofs.top.generate.Goals as goal

pub returns-in-Ok-write_made-clause-answered : goal.returns-in-Ok-write_made-clause-answered
returns-in-Ok-write_made-clause-answered g c = λ names log nothing.
    let call : Call = record {
      line = Gen c.args.number;
      names = names;
      out = written_of g.O.Sink.taken g.O.Sink.faults c.args.out.now c.write_made.new.out;
      log = log;
    } in
    inr (
      refl,
      made_whole call c.in-Ok.text.items (record { work = Makes (gen_text c.args.number); came = refl; is_due = c.in-Ok.ensures })
          (subst (λ (text : List ℕ). Gets call.out text) c.as_slice.ensures.value c.in-Ok-write_made.ensures.ok) nothing,
    )

pub returns-in-Ok-clause-answered : goal.returns-in-Ok-clause-answered
returns-in-Ok-clause-answered g c = λ names log nothing.
    let call : Call = record {
      line = Gen c.args.number;
      names = names;
      out = written_of g.O.Sink.taken g.O.Sink.faults c.args.out.now c.write_made.new.out;
      log = log;
    } in
    inr (made_short call c.in-Ok.text.items (record { work = Makes (gen_text c.args.number); came = refl; is_due = c.in-Ok.ensures })
    (subst (λ (text : List ℕ). GetsPart call.out text) c.as_slice.ensures.value c.in-Err-write_made.ensures.err) nothing)
