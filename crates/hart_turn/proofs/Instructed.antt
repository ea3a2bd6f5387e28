-- An instruction from its look at interrupts to its count: the parts of its log, one behind another.
use Rattle.std.proofs.Common.{◌≡◌, ℕ, true, false, refl, ap, subst, ◌∙◌}
use Rattle.std.specs.Prelude.{Option}
use Rattle.rv64_decode.specs.declared.instruction.Instr.{Instr}
use Rattle.rv64_priv.specs.State.{Arch}
use Rattle.rv64_exec.specs.Plan.{need_of, need_of_code}
use Rattle.rv64_exec.specs.declared.needs.Answer.{Answer}
use Rattle.rv64_exec.specs.declared.needs.Need.{Need}
use Rattle.rv64_priv.specs.Csr.{regime}
use Rattle.guest_ram.specs.Areas.{IsOfCalls}
use Rattle.guest_ram.specs.Ports.{GoesBy, Shown}
use Rattle.tlb_fill.specs.Stepping.{IsOfFill}
use Rattle.hart_calls.specs.declared.spans.Span.{Span}
use Rattle.need_serving.specs.declared.ends.NeedEnd.TheVariants as ends
use Rattle.turn_pieces.specs.Grows.{Part}
use Rattle.turn_pieces.proofs.Writers.{grows_then, part_then}
use Rattle.code_fetch.specs.declared.fetching.Fetched.{Fetched}
use Rattle.code_fetch.specs.declared.fetching.Fetched.TheVariants as comes
use Rattle.code_fetch.specs.Fetching.{HasFetched}
use Rattle.hart_turn.specs.declared.ends.TurnEnd.{TurnEnd}
use Rattle.hart_turn.specs.declared.hart.Hart.{Hart}
use Rattle.hart_turn.specs.Executing.{AtExecute, FetchesOn, HasDone, HasEndedWord, HasExecuted, after_fetch, served}
use Rattle.hart_turn.specs.Fences.{BeginsCall}
use Rattle.hart_turn.specs.Harts.{GoesWith, counted, wanting}
use Rattle.hart_turn.specs.Logs.{AtCount, AtEnd, AtFetch, AtWork, LooksOn, WorksOn, WorksToEnd}
use Rattle.hart_turn.specs.Parts.{HasLooked, after_look}
use Rattle.hart_turn.specs.Paths as paths
use Rattle.hart_turn.specs.Paths.{HasInstructed, HasMadeOf}
use Rattle.hart_turn.proofs.Sides.{part_still}

-- a hart at work is at the end of its work
pub works_to_end : (h k : Hart) (p q : Shown) → WorksOn h k p q → WorksToEnd h k p q
works_to_end h k p q works u a l x = let y = works u a l x in record { late = y.late; grows = y.grows; holds = y.holds.ends }

pub then_counts : (h k m : Hart) (p q r : Shown) → Part (AtWork h p) (AtCount (counted k) q) → Part (AtCount (counted k) q) (AtEnd m r) → WorksToEnd h m p r
then_counts h k m p q r first second = part_then (AtWork h p) (AtCount (counted k) q) (AtEnd m r) first second

module _ (word : ℕ) (h k m : Hart) (p q r : Shown) where
  pub ended_done : (answer : Answer) → HasExecuted word (ends.Done answer) h k p q → Part (AtCount (counted k) q) (AtEnd m r) → HasEndedWord word h m p r
  ended_done answer x part = record { instr = x.instr; decodes = x.decodes; part = part_then (AtExecute h (record { word = word; instr = x.instr }) p) (AtCount (counted k) q) (AtEnd m r) x.part part }

  pub ended_stop : HasExecuted word ends.Stopped h k p q → Part (AtCount (counted k) q) (AtEnd m r) → HasEndedWord word h m p r
  ended_stop x part = record { instr = x.instr; decodes = x.decodes; part = part_then (AtExecute h (record { word = word; instr = x.instr }) p) (AtCount (counted k) q) (AtEnd m r) x.part part }

-- it waits for the section
pub ended_section : (word : ℕ) (h k : Hart) (p q : Shown) → HasExecuted word ends.NeedsSection h k p q → HasEndedWord word h (wanting k) p q
ended_section word h k p q x = record { instr = x.instr; decodes = x.decodes; part = part_still (AtExecute h (record { word = word; instr = x.instr }) p) k (wanting k) q refl x.part }

-- what asked for a fence is an ECALL, and its hart runs on
record IsFenceOf (word : ℕ) (instr : Option Instr) (h k : Hart) : Type 0 where
  need_is : need_of_code k.arch (record { word = word; instr = instr }) ≡ Need.Sbi
  runs : k.runs ≡ h.runs

fence_facts : (word : ℕ) (h k : Hart) (p q : Shown) (harts : ℕ) (span : Span) (instr : Option Instr) → HasDone word h k p q instr (ends.Fence harts span) → IsFenceOf word instr h k
fence_facts word h k p q harts span instr (served i left by) = record {
  need_is = ap (λ (c : Arch). need_of c i) (ap (λ (z : Hart). z.arch) left) ∙ by.fits;
  runs = ap (λ (z : Hart). z.runs) left;
}

module _ (word : ℕ) (h k : Hart) (p q : Shown) (harts : ℕ) (span : Span) (x : HasExecuted word (ends.Fence harts span) h k p q) where
  facts : IsFenceOf word x.instr h k
  facts = fence_facts word h k p q harts span x.instr x.done

  pub fence_runs : h.runs ≡ true → k.runs ≡ true
  fence_runs running = facts.runs ∙ running

  pub ended_fence : (m n : Hart) (r : Shown) → BeginsCall k m q → WorksToEnd m n q r → HasEndedWord word h n p r
  ended_fence m n r begins works = record {
    instr = x.instr;
    decodes = x.decodes;
    part = λ u a l y.
        let z = x.part u a l y in
        let w = works u a z.late (begins (record { word = word; instr = x.instr }) facts.need_is u a z.late z.holds) in record {
          late = w.late;
          grows = grows_then u a l z.late z.grows w.grows;
          holds = w.holds;
        };
  }

-- a look that found no interrupt, a fetch, and what came of it
module _ (h j k : Hart) (p q r : Shown) (looks : LooksOn false h j p q) where
  pub then_fetches : (m : Hart) (s : Shown) → Part (AtFetch j q) (AtEnd m s) → WorksToEnd h m p s
  then_fetches m s part = part_then (AtWork h p) (AtFetch j q) (AtEnd m s) looks part

  pub then_executes : (word : ℕ) (m : Hart) (s : Shown) → FetchesOn (comes.Word word) j k q r → HasEndedWord word k m r s → WorksToEnd h m p s
  then_executes word m s fetches x = then_fetches m s (part_then (AtFetch j q) (AtExecute k (record { word = word; instr = x.instr }) r) (AtEnd m s) (fetches (record { word = word; instr = x.instr }) refl x.decodes) x.part)

  pub then_faults : (cause tval : ℕ) (m : Hart) (s : Shown) → FetchesOn (comes.Fault cause tval) j k q r → Part (AtCount (counted k) r) (AtEnd m s) → WorksToEnd h m p s
  then_faults cause tval m s fetches part = then_fetches m s (part_then (AtFetch j q) (AtCount (counted k) r) (AtEnd m s) fetches part)

-- a word was fetched, or not, and then that was done
pub instructed : (h j m k : Hart) (p asked mid q : Shown) (found : Fetched) (end : TurnEnd) → j ≡ after_look false h → HasLooked false h p asked → GoesBy 1 IsOfCalls p asked → HasFetched asked mid j.book m.book (regime j.arch) j.arch.pc found
    → m ≡ after_fetch found m.book j → GoesBy 16 IsOfFill asked mid → GoesWith m mid → HasMadeOf m k mid q found end → HasInstructed h k p q end
instructed h j m k p asked mid q found end still looked looks fetched is fetches with made = paths.fetched found end m mid (record {
  asked = asked;
  looked = looked;
  looks = looks;
  fetched = subst (λ (z : Hart). HasFetched asked mid z.book m.book (regime z.arch) z.arch.pc found) still fetched;
  fetches = fetches;
  is = is ∙ ap (after_fetch found m.book) still;
  with = with;
}) made
