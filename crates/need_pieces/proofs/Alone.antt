-- Needs that are served without RAM: nothing at all, a trap, the own software interrupt; and executions whose flushes stand.
use Rattle.std.proofs.Common.{◌≡◌, ◌≢◌, ℕ, ◌<◌, Bool, false, [], ◌∷◌, Some, None, refl, sym, ap, subst, ◌∙◌}
use Rattle.std.specs.Prelude.{bit_and, bit_or, ◌-◌, ◌^◌}
use Rattle.rv64_priv.specs.State.{Arch}
use Rattle.rv64_priv.specs.declared.state.Regime.{Regime}
use Rattle.rv64_priv.specs.Walk.{PageFault}
use Rattle.rv64_exec.specs.declared.needs.Answer.{Answer}
use Rattle.rv64_exec.specs.declared.needs.IpiOp.{IpiOp}
use Rattle.rv64_exec.specs.declared.needs.Need.{Need}
use Rattle.step_laws.specs.declared.steps.WordOp.{WordOp}
use Rattle.step_laws.specs.declared.steps.WordOp.TheVariants.{Load, Store, And, Or}
use Rattle.step_laws.specs.Map.{Ipi}
use Rattle.step_laws.specs.Words.{ipi_word}
use Rattle.machine_model.specs.Event.{Exec, Outcome, only}
use Rattle.machine_model.specs.Lawful.{flushing}
use Rattle.machine_model.specs.Memory.{write_of}
use Rattle.machine_model.specs.Own.{Own, own_executed}
use Rattle.machine_model.specs.Perform.{Surroundings, ipi_becomes, ipi_entry, perform, sip_value}
use Rattle.machine_model.specs.State.{Setup}
use Rattle.machine_model.specs.Walks.{access_of}
use Rattle.guest_ram.specs.Plays.{step_of}
use Rattle.guest_ram.specs.Ports.{Shown, Made}
use Rattle.tlb_entry.specs.declared.books.Book.{Book}
use Rattle.turn_pieces.specs.Doing.{IsQuiet}
use Rattle.turn_pieces.specs.Folds.{drawn_next, unstored_next}
use Rattle.turn_pieces.specs.Kept.{places}
use Rattle.turn_pieces.specs.Log.{Log, did, made}
use Rattle.turn_pieces.specs.Owed.{MayMake, owed, owes, unstored, writes}
use Rattle.turn_pieces.specs.Right.{AreFenced, IsExec, MayBe, SeenFor}
use Rattle.turn_pieces.specs.Shared.{IsShared}
use Rattle.turn_pieces.specs.Grows.{Ends, stays}
use Rattle.turn_pieces.proofs.Offers.{free}
use Rattle.turn_pieces.proofs.Unmarked.{unmarked_did, unmarked_step, is_other}
use Rattle.turn_pieces.proofs.Writers.{owed_named}
use Rattle.access_pieces.specs.Serving.{AwaitsAtMost, Counted, Rests, Wants}
use Rattle.access_pieces.proofs.Counting.{counted_did}
use Rattle.call_pieces.proofs.Moving.{ipi_is}
use Rattle.call_pieces.proofs.Placing.{Behind, calm, calm_idle, placed, rested}
use Rattle.need_serving.specs.Serving.{HasUsedPending}
use Rattle.need_pieces.proofs.Executed.{executed_by}

-- the execution of an instruction without an access, at a log
pub exec_fit : (o : Own) (c : Arch) (need : Need) (out : Outcome) (u : Setup) (a : ℕ) (k : Log) → Wants o c need → access_of need ≡ None → ((w : Surroundings) → MayBe u a k w → AreFenced a k (flushing w a c need))
    → ((w : Surroundings) → MayBe u a k w → out ≡ perform w a c PageFault PageFault need) → IsExec u a k PageFault PageFault out o
exec_fit o c need out u a k wants alone fenced right = record {
  holds = wants.holds;
  shown = subst (λ x. SeenFor u.layout.pages a o.arch x PageFault PageFault k) (sym (ap access_of wants.need_is ∙ alone)) tt;
  flushed = λ w m. subst (AreFenced a k) (sym (λ i. flushing w a (wants.arch_is i) (wants.need_is i))) (fenced w m);
  right = λ w m. right w m ∙ sym (λ i. perform w a (wants.arch_is i) PageFault PageFault (wants.need_is i));
}

quiet_only : (h : ℕ) (answer : Answer) → IsQuiet (Exec h PageFault PageFault (only answer))
quiet_only h answer = record { does = record { entry_is = refl; bytes_are = refl; reason_is = refl; starts_is = refl; stops_is = refl }; begins_not = refl }

module _ (others : ℕ → Bool) (o : Own) (q : Shown) (b : Book) (r : Regime) (u : Setup) (a : ℕ) (l : Log) where
  settled_did : (out : Outcome) → AwaitsAtMost others u a l → AwaitsAtMost others u a (did (Exec a PageFault PageFault out) ∷ l)
  settled_did out k page free = unmarked_did u a page l (Exec a PageFault PageFault out) (k page free)

  -- it stands where the log rests
  pub stands_at_rest : (c : Arch) (need : Need) (answer : Answer) → Rests others o q b r u a l → a < u.layout.harts → Wants o c need → access_of need ≡ None → ((w : Surroundings) → MayBe u a l w → AreFenced a l (flushing w a c need))
      → ((w : Surroundings) → MayBe u a l w → only answer ≡ perform w a c PageFault PageFault need) → Ends u a l (Counted others (own_executed (only answer) o) q b r u a)
  stands_at_rest c need answer x hart wants alone fenced right =
      let k = rested o b r (only answer) u a q l l (record { grows = stays; tells = x.tells }) x.idle hart (exec_fit o c need (only answer) u a l wants alone fenced right) (quiet_only a answer) in record {
        late = did (Exec a PageFault PageFault (only answer)) ∷ l;
        grows = k.grows;
        holds = record { settles = record { tells = k.tells; settled = settled_did (only answer) x.settled }; counts = counted_did a l (Exec a PageFault PageFault (only answer)) refl refl };
      }

no_flush_nothing : (w : Surroundings) (a : ℕ) (c : Arch) → flushing w a c Need.Nothing ≡ None
unfolding flushing
no_flush_nothing w a c = refl

no_flush_trap : (w : Surroundings) (a : ℕ) (c : Arch) (cause tval : ℕ) → flushing w a c (Need.Trap cause tval) ≡ None
unfolding flushing
no_flush_trap w a c cause tval = refl

no_flush_ipi : (w : Surroundings) (a : ℕ) (c : Arch) (op : IpiOp) → flushing w a c (Need.Ipi op) ≡ None
unfolding flushing
no_flush_ipi w a c op = refl

does_nothing : (w : Surroundings) (a : ℕ) (c : Arch) → only Answer.Nothing ≡ perform w a c PageFault PageFault Need.Nothing
unfolding perform
does_nothing w a c = refl

does_trap : (w : Surroundings) (a : ℕ) (c : Arch) (cause tval : ℕ) → only (Answer.Fault cause tval) ≡ perform w a c PageFault PageFault (Need.Trap cause tval)
unfolding perform
does_trap w a c cause tval = refl

does_ipi : (w : Surroundings) (a : ℕ) (c : Arch) (op : IpiOp) (found : ℕ) → w.memory ipi_word ≡ found → record (only (Answer.Value (sip_value found a))) { entry = ipi_entry op found a } ≡ perform w a c PageFault PageFault (Need.Ipi op)
unfolding perform
does_ipi w a c op found e = ap (λ n. record (only (Answer.Value (sip_value n a))) { entry = ipi_entry op n a }) (sym e)

pub nothing_served : (others : ℕ → Bool) (o : Own) (q : Shown) (b : Book) (r : Regime) (c : Arch) (u : Setup) (a : ℕ) (l : Log) → Rests others o q b r u a l → a < u.layout.harts → Wants o c Need.Nothing
    → Ends u a l (Counted others (own_executed (only Answer.Nothing) o) q b r u a)
nothing_served others o q b r c u a l x hart wants = stands_at_rest others o q b r u a l c Need.Nothing Answer.Nothing x hart wants refl (λ w m. subst (AreFenced a l) (sym (no_flush_nothing w a c)) tt) (λ w m. does_nothing w a c)

pub trap_served : (others : ℕ → Bool) (o : Own) (q : Shown) (b : Book) (r : Regime) (c : Arch) (cause tval : ℕ) (u : Setup) (a : ℕ) (l : Log) → Rests others o q b r u a l → a < u.layout.harts → Wants o c (Need.Trap cause tval)
    → Ends u a l (Counted others (own_executed (only (Answer.Fault cause tval)) o) q b r u a)
trap_served others o q b r c cause tval u a l x hart wants =
    stands_at_rest others o q b r u a l c (Need.Trap cause tval) (Answer.Fault cause tval) x hart wants refl (λ w m. subst (AreFenced a l) (sym (no_flush_trap w a c cause tval)) tt) (λ w m. does_trap w a c cause tval)

load_no_store : Load ≢ Store
load_no_store e = cc

module _ (others : ℕ → Bool) (o : Own) (p q : Shown) (b : Book) (r : Regime) (c : Arch) (u : Setup) (a : ℕ) (l : Log) (x : Rests others o p b r u a l) (hart : a < u.layout.harts) where
  own_is : p.own.actor ≡ a
  own_is = sym x.tells.tells.stands.actor

  first : Behind o b r u a p l l
  first = record { grows = stays; tells = x.tells }

  fits : (op : IpiOp) (wop : WordOp) (arg found : ℕ) (m : Made p q Ipi wop arg found) → wop ≢ Store → Wants o c (Need.Ipi op)
      → IsExec u a (made (step_of p.own.actor m.word wop arg found) ∷ l) PageFault PageFault (record (only (Answer.Value (sip_value found a))) { entry = ipi_entry op found a }) o
  fits op wop arg found m loads wants = exec_fit o c (Need.Ipi op) (record (only (Answer.Value (sip_value found a))) { entry = ipi_entry op found a }) u a (made (step_of p.own.actor m.word wop arg found) ∷ l) wants refl
      (λ w y. subst (AreFenced a (made (step_of p.own.actor m.word wop arg found) ∷ l)) (sym (no_flush_ipi w a c op)) tt)
      (λ w y. does_ipi w a c op found (ap w.memory (sym (ipi_is m.word m.name)) ∙ y.here.0 (subst IsShared (sym m.name) tt) loads))

  settles : (out : Outcome) (wop : WordOp) (arg found : ℕ) (m : Made p q Ipi wop arg found) → AwaitsAtMost others u a (did (Exec a PageFault PageFault out) ∷ made (step_of p.own.actor m.word wop arg found) ∷ l)
  settles out wop arg found m page free = unmarked_did u a page (made (step_of p.own.actor m.word wop arg found) ∷ l) (Exec a PageFault PageFault out)
      (unmarked_step u a page l (step_of p.own.actor m.word wop arg found) (ap is_other m.name) ∙ x.settled page free)

  -- the bit is read
  read_served : (found : ℕ) → Made p q Ipi Load 0 found → Wants o c (Need.Ipi IpiOp.Read) → Ends u a l (Counted others (own_executed (only (Answer.Value (sip_value found a))) o) q b r u a)
  read_served found m wants =
      let out = only (Answer.Value (sip_value found a)) in
      let k = calm o b r u a p q Ipi Load 0 found m tt tt (λ n. tt) l l first in
      let y = rested o b r out u a q l (made (step_of p.own.actor m.word Load 0 found) ∷ l) k (calm_idle o b r u a p q Ipi Load 0 found m tt (λ n. tt) l) hart (fits IpiOp.Read Load 0 found m load_no_store wants) (quiet_only a (Answer.Value (sip_value found a))) in record {
        late = did (Exec a PageFault PageFault out) ∷ made (step_of p.own.actor m.word Load 0 found) ∷ l;
        grows = y.grows;
        holds = record { settles = record { tells = y.tells; settled = settles out Load 0 found m }; counts = counted_did a (made (step_of p.own.actor m.word Load 0 found) ∷ l) (Exec a PageFault PageFault out) refl refl };
      }

  -- it is changed, by an operation that writes the word
  changed_served : (op : IpiOp) (wop : WordOp) (arg found value : ℕ) (m : Made p q Ipi wop arg found) → wop ≢ Store → Wants o c (Need.Ipi op) → ipi_entry op found a ≡ ipi_becomes value
      → owes (owed l) (unstored l) Ipi wop m.word arg found ≡ writes m.word value
      → MayMake u a l (step_of p.own.actor m.word wop arg found)
      → drawn_next Ipi wop found (places l) ≡ places l → unstored_next Ipi wop found [] (unstored l) ≡ unstored l
      → Ends u a l (Counted others (own_executed (record (only (Answer.Value (sip_value found a))) { entry = ipi_entry op found a }) o) q b r u a)
  changed_served op wop arg found value m loads wants entry owes may draws stores =
      let s = step_of p.own.actor m.word wop arg found in
      let out = record (only (Answer.Value (sip_value found a))) { entry = ipi_entry op found a } in
      let same : ipi_entry op found a ≡ Some (write_of m.word value ∷ []) = entry ∙ ap (λ n. Some (write_of n value ∷ [])) (sym (ipi_is m.word m.name)) in
      let y = placed o b r out u a p q Ipi wop arg found m (writes m.word value) l l tt first hart may (owed_named l s Ipi wop m.name refl ∙ owes)
      (ap (λ w. drawn_next w wop found (places l)) m.name ∙ draws ∙ x.tells.tells.none_drawn) (ap (λ w. unstored_next w wop found [] (unstored l)) m.name ∙ stores ∙ x.tells.tells.none_left) (λ bs. refl)
      (fits op wop arg found m loads wants)
      (record { does = record { entry_is = same; bytes_are = refl; reason_is = refl; starts_is = refl; stops_is = refl }; begins_not = refl }) in record {
        late = did (Exec a PageFault PageFault out) ∷ made s ∷ l;
        grows = y.grows;
        holds = record { settles = record { tells = y.tells; settled = settles out wop arg found m }; counts = counted_did a (made s ∷ l) (Exec a PageFault PageFault out) refl refl };
      }

or_no_store : Or ≢ Store
or_no_store e = cc

and_no_store : And ≢ Store
and_no_store e = cc

pub pending_served : (others : ℕ → Bool) (o : Own) (p q : Shown) (b : Book) (r : Regime) (c : Arch) (op : IpiOp) (value : ℕ) (u : Setup) (a : ℕ) (l : Log) → Rests others o p b r u a l → a < u.layout.harts → Wants o c (Need.Ipi op) → HasUsedPending p q op value
    → Ends u a l (Counted others (own_executed (only (Answer.Value value)) o) q b r u a)
pending_served others o p q b r c IpiOp.Read value u a l x hart wants used =
    let e : sip_value used.0 a ≡ value = ap (sip_value used.0) x.tells.tells.stands.actor ∙ sym used.2 in
    subst (λ v. Ends u a l (Counted others (own_executed (only (Answer.Value v)) o) q b r u a)) e (read_served others o p q b r c u a l x hart used.0 used.1 wants)
pending_served others o p q b r c IpiOp.Set value u a l x hart wants used =
    let own : p.own.actor ≡ a = sym x.tells.tells.stands.actor in
    let mask = 2 ^ p.own.actor in
    let e : sip_value used.0 a ≡ value = ap (sip_value used.0) (sym own) ∙ sym used.2 in
    let s = step_of p.own.actor used.1.word Or mask used.0 in
    let y = changed_served others o p q b r c u a l x hart IpiOp.Set Or mask used.0 (bit_or used.0 mask) used.1 or_no_store wants (ap (λ n. ipi_becomes (bit_or used.0 (2 ^ n))) (sym own)) refl
    (free u a l x.tells.tells.clear s Ipi Or used.1.name refl tt tt tt) refl refl in
    subst (λ (d : Own). Ends u a l (Counted others d q b r u a))
    (executed_by (record (only (Answer.Value (sip_value used.0 a))) { entry = ipi_entry IpiOp.Set used.0 a }) o (Answer.Value value) false (ap Answer.Value e) refl) y
pending_served others o p q b r c IpiOp.Clear value u a l x hart wants used =
    let own : p.own.actor ≡ a = sym x.tells.tells.stands.actor in
    let mask = 2 ^ p.own.actor in
    let e : sip_value used.0 a ≡ value = ap (sip_value used.0) (sym own) ∙ sym used.2 in
    let s = step_of p.own.actor used.1.word And (2 ^ 64 - 1 - mask) used.0 in
    let y = changed_served others o p q b r c u a l x hart IpiOp.Clear And (2 ^ 64 - 1 - mask) used.0 (used.0 - bit_and used.0 mask) used.1 and_no_store wants (ap (λ n. ipi_becomes (used.0 - bit_and used.0 (2 ^ n))) (sym own))
    (ap (λ n. writes used.1.word n) used.3) (free u a l x.tells.tells.clear s Ipi And used.1.name refl tt tt tt) refl refl in
    subst (λ (d : Own). Ends u a l (Counted others d q b r u a))
    (executed_by (record (only (Answer.Value (sip_value used.0 a))) { entry = ipi_entry IpiOp.Clear used.0 a }) o (Answer.Value value) false (ap Answer.Value e) refl) y
