-- What serves a need looks at STOP in no step, and takes none from LIVE but where the hart stops itself.
use Rattle.std.proofs.Common.{◌≡◌, ℕ, suc, zero, ◌<◌, Bool, true, false, List, [], ◌∷◌, ◌++◌, Option, refl, sym, ap, subst, ◌∙◌, append_assoc, arith}
use Rattle.std.specs.Prelude.{Result, if◌then◌else◌, nat_lt, ◌≢◌}
use Rattle.rv64_priv.specs.Csr.{regime}
use Rattle.rv64_priv.specs.State.{Arch}
use Rattle.rv64_priv.specs.declared.state.Kind.{Kind}
use Rattle.rv64_priv.specs.declared.state.Regime.{Regime}
use Rattle.rv64_exec.specs.declared.needs.AmoOp.{AmoOp}
use Rattle.rv64_exec.specs.declared.needs.FlushOf.{FlushOf}
use Rattle.rv64_priv.specs.declared.state.Hold.{Hold}
use Rattle.rv64_exec.specs.declared.needs.Need.{Need}
use Rattle.step_laws.specs.declared.steps.Step.{Step}
use Rattle.step_laws.specs.declared.steps.WordOp.{WordOp}
use Rattle.step_laws.specs.declared.steps.WordOp.TheVariants.{Load, Add, Exchange}
use Rattle.step_laws.specs.Discipline.{minus_one}
use Rattle.step_laws.specs.Words.{console_places}
use Rattle.step_laws.specs.Map.{Word, Cons, Console, Hsm, Ipi, Live, Lock, Opaque, Ram, Start, Stop, name_of}
use Rattle.machine_model.specs.Memory.{Memory}
use Rattle.machine_model.specs.ReasonWords.{reason_word}
use Rattle.machine_model.specs.declared.reason.Reason.{Reason}
use Rattle.guest_ram.specs.Areas.{IsOfTable}
use Rattle.guest_ram.proofs.Moves.{fold_adds, fold_goes}
use Rattle.guest_ram.specs.Plays.{step_of}
use Rattle.guest_ram.specs.Ports.{Adds, AreAllowed, GoesBy, Made, Shown}
use Rattle.tlb_entry.specs.declared.books.Book.{Book}
use Rattle.tlb_fill.specs.Stepping.{IsOfFill}
use Rattle.guest_devices.specs.Output.{HasFoundFull, HasPrinted, HasPut, HasSetStop, full, put}
use Rattle.guest_devices.specs.Stores.{HasStoredOn, ends, ignores, outside, puts_byte}
use Rattle.guest_access.specs.declared.outcomes.Got.{Got}
use Rattle.guest_access.specs.Atomics as atomics
use Rattle.guest_access.specs.Atomics.{HasConditional, HasExchangedFor, HasOperatedAt, HasOperatedOn, HasPlaced, HasReserved}
use Rattle.guest_access.specs.Loading as loading
use Rattle.guest_access.specs.Loading.{HasLoaded}
use Rattle.guest_access.specs.Reaching.{HasReached, by_one, by_two}
use Rattle.guest_access.specs.Stepping.{HasStepped}
use Rattle.guest_access.specs.Storing as storing
use Rattle.guest_access.specs.Storing.{HasExchanged, HasStored, HasStoredIn}
use Rattle.hart_calls.specs.declared.asking.Asked.{Asked}
use Rattle.hart_calls.specs.declared.outcomes.SbiEnd.{SbiEnd}
use Rattle.hart_calls.specs.Called as called
use Rattle.hart_calls.specs.Called.{HasDone, HasWritten, HasWrittenByte}
use Rattle.hart_calls.specs.Ends.{runs_on as runs_behind}
use Rattle.hart_calls.specs.Printing.{HasCopied, HasCopiedByte, HasLoadedIf}
use Rattle.need_serving.specs.declared.ends.NeedEnd.{NeedEnd}
use Rattle.need_serving.specs.Ends.{end_of_call, runs_on}
use Rattle.need_serving.specs.Serving as serving
use Rattle.need_serving.specs.Serving.{HasFlushedOne, HasServed}
use Rattle.turn_pieces.specs.Draws.{Filled, beyond, ended, filled, filled_next, overflow, said, within}
use Rattle.turn_pieces.specs.Folds.{IsUncount}
use Rattle.hart_turn.proofs.Draws.{IsNeither, fill_neither, table_neither}
use Rattle.hart_turn.proofs.Said.{AreCounts}

-- a step behind a turn's look at STOP: it is no such look, and takes none from LIVE where its hart runs on
abbrev pub IsOrdinary : (runs : Bool) → Word → WordOp → (arg : ℕ) → Type 0
IsOrdinary runs Stop Load arg = ⊥
IsOrdinary runs Live Add arg = runs ≡ true → arg ≡ minus_one → ⊥
IsOrdinary runs w op arg = Unit {0}

abbrev pub AreOrdinary : (runs : Bool) → List Step → Type 0
AreOrdinary runs [] = Unit {0}
AreOrdinary runs (s ∷ r) = IsOrdinary runs (name_of s.word) s.op s.arg × AreOrdinary runs r

-- the record has such steps more
pub record Adding (runs : Bool) (p q : Shown) : Type 0 where
  pub added : List Step
  pub is : q.own.steps ≡ added ++ p.own.steps
  pub all : AreOrdinary runs added
  -- and who drew a place beyond the last gave a reason to end
  pub full : filled p.own.steps ≢ beyond → filled q.own.steps ≢ beyond

neither_is : (runs : Bool) (w : Word) (op : WordOp) (arg : ℕ) → IsNeither w → IsOrdinary runs w op arg
neither_is runs Stop op arg off = absurd off
neither_is runs Live op arg off = absurd off
neither_is runs Cons op arg off = absurd off
neither_is runs w op arg off = tt

-- a step that draws none leaves it
abbrev Leaves : Word → WordOp → (arg answer : ℕ) → Type 0
Leaves w op arg answer = (x : Filled) → x ≢ beyond → filled_next w op arg answer x ≢ beyond

said_not : (x : Filled) → said x ≢ beyond
said_not within e = cc
said_not beyond e = cc
said_not ended e = cc

neither_leaves : (w : Word) (op : WordOp) (arg answer : ℕ) (x : Filled) → IsNeither w → filled_next w op arg answer x ≡ x
neither_leaves Stop op arg answer x off = absurd off
neither_leaves Live op arg answer x off = absurd off
neither_leaves Cons op arg answer x off = absurd off
neither_leaves w op arg answer x off = refl

all_then : (runs : Bool) (b a : List Step) → AreOrdinary runs b → AreOrdinary runs a → AreOrdinary runs (b ++ a)
all_then runs [] a all old = old
all_then runs (s ∷ b) a all old = (all.0, all_then runs b a all.1 old)

all_neither : (runs : Bool) (A : Word → Type 0) (p : Shown) (r : List Step) → ((w : Word) → A w → IsNeither w) → AreAllowed A p r → AreOrdinary runs r
all_neither runs A p [] off all = tt
all_neither runs A p (s ∷ r) off all = (neither_is runs (name_of s.word) s.op s.arg (off (name_of s.word) all.0.0), all_neither runs A p r off all.1)

module _ (runs : Bool) where
  pub none_added : (p q : Shown) → q ≡ p → Adding runs p q
  none_added p q same = record { added = []; is = ap (λ (y : Shown). y.own.steps) same; all = tt; full = subst (λ (y : Shown). filled y.own.steps ≢ beyond) (sym same) }

  pub then_added : (p q r : Shown) → Adding runs p q → Adding runs q r → Adding runs p r
  then_added p q r a b = record {
    added = b.added ++ a.added;
    is = b.is ∙ ap (λ x. b.added ++ x) a.is ∙ sym (append_assoc b.added a.added p.own.steps);
    all = all_then runs b.added a.added b.all a.all;
    full = λ ne. b.full (a.full ne);
  }

  pub step_added : (p q : Shown) (word arg answer : ℕ) (op : WordOp) (w : Word) → Adds p q word op arg answer → name_of word ≡ w → IsOrdinary runs w op arg → Leaves w op arg answer → Adding runs p q
  step_added p q word arg answer op w adds name ordinary leaves = record {
    added = step_of p.own.actor word op arg answer ∷ [];
    is = ap (λ (y : Shown). y.own.steps) adds;
    all = (subst (λ v. IsOrdinary runs v op arg) (sym name) ordinary, tt);
    full = λ ne. subst (λ x. x ≢ beyond) (sym (fold_adds filled_next within p q word arg answer op w adds name)) (leaves (filled p.own.steps) ne);
  }

  pub made_added : (p q : Shown) (w : Word) (op : WordOp) (arg answer : ℕ) → Made p q w op arg answer → IsOrdinary runs w op arg → Leaves w op arg answer → Adding runs p q
  made_added p q w op arg answer m ordinary leaves = step_added p q m.word arg answer op w m.step m.name ordinary leaves

  pub goes_added : (n : ℕ) (A : Word → Type 0) (p q : Shown) → ((w : Word) → A w → IsNeither w) → GoesBy n A p q → Adding runs p q
  goes_added n A p q off goes = record {
    added = goes.added;
    is = ap (λ (y : Shown). y.own.steps) goes.grown;
    all = all_neither runs A p goes.added off goes.allowed;
    full = subst (λ x. x ≢ beyond) (sym (fold_goes filled_next within n A p q (λ w op arg answer x t. neither_leaves w op arg answer x (off w t)) goes));
  }

below : (n : ℕ) → n < console_places → nat_lt n console_places ≡ true
below n less = grind (arith, less)

-- accesses
module _ (runs : Bool) where
  stepped : (p q : Shown) (op : WordOp) (pa arg answer : ℕ) → HasStepped op pa arg answer p q → Adding runs p q
  stepped p q op pa arg answer x = step_added runs p q _ arg answer op (Ram _) x.step x.name tt (λ y ne. ne)

  reached : (p q : Shown) (b b' : Book) (r : Regime) (kind : Kind) (va width : ℕ) (section : Bool) (result : _) → HasReached p q b b' r kind va width section result → Adding runs p q
  reached p q b b' r kind va width section result (by_one found t over is) = goes_added runs 15 IsOfFill p q fill_neither t.goes
  reached p q b b' r kind va width section result (by_two mid between found first t over second) =
      then_added runs p mid q (goes_added runs 15 IsOfFill p mid fill_neither t.goes) (goes_added runs 15 IsOfFill mid q fill_neither second.translates.goes)

  placed : (p q : Shown) (b b' : Book) (r : Regime) (kind : Kind) (va : ℕ) (wide : Bool) (result : Result ℕ Got) → HasPlaced p q b b' r kind va wide result → Adding runs p q
  placed p q b b' r kind va wide result (atomics.at_none mis same book) = none_added runs p q same
  placed p q b b' r kind va wide result (atomics.in_ram mis t) = goes_added runs 15 IsOfFill p q fill_neither t.goes
  placed p q b b' r kind va wide result (atomics.on_device mis t) = goes_added runs 15 IsOfFill p q fill_neither t.goes
  placed p q b b' r kind va wide result (atomics.faults mis t) = goes_added runs 15 IsOfFill p q fill_neither t.goes
  placed p q b b' r kind va wide result (atomics.is_busy mis t) = goes_added runs 15 IsOfFill p q fill_neither t.goes

  byte_put : (byte : ℕ) (p q : Shown) → HasPut byte p q → Adding runs p q
  byte_put byte p q x = then_added runs p x.mid q (made_added runs p x.mid Cons _ _ _ x.draws tt (λ y ne. subst (λ b. (if b then y else overflow y) ≢ beyond) (sym (below x.place x.less)) ne)) (made_added runs x.mid q (Console x.place) _ _ _ x.stores tt (λ y ne. ne))

  pub set_stop : (reason stands : Reason) (p q : Shown) → HasSetStop reason stands p q → Adding runs p q
  set_stop reason stands p q x = made_added runs p q Stop _ _ _ x.exchanges tt (λ y ne. said_not y)

  -- a place beyond the last is drawn, and STOP exchanged
  ran_out : (place : ℕ) (reason stands : Reason) (p mid q : Shown) → HasFoundFull place p mid → HasSetStop reason stands mid q → Adding runs p q
  ran_out place reason stands p mid q x y = let d = x.draws in let e = y.exchanges in record {
    added = step_of mid.own.actor e.word (Exchange 0) (reason_word reason) y.found ∷ step_of p.own.actor d.word Add 1 place ∷ [];
    is = ap (λ (z : Shown). z.own.steps) e.step ∙ ap (λ (z : List Step). step_of mid.own.actor e.word (Exchange 0) (reason_word reason) y.found ∷ z) (ap (λ (z : Shown). z.own.steps) d.step);
    all = (subst (λ v. IsOrdinary runs v (Exchange 0) (reason_word reason)) (sym e.name) tt, (subst (λ v. IsOrdinary runs v Add 1) (sym d.name) tt, tt));
    full = λ ne. subst (λ z. z ≢ beyond) (sym (fold_adds filled_next within mid q e.word (reason_word reason) y.found (Exchange 0) Stop e.step e.name)) (said_not (filled mid.own.steps));
  }

  printed : (byte : ℕ) (p q : Shown) → HasPrinted byte p q → Adding runs p q
  printed byte p q (put x) = byte_put byte p q x
  printed byte p q (full {mid} place stands x y) = ran_out place Reason.OutFull stands p mid q x y

  stored_on : (pa width value : ℕ) (said_so : Option (Unit {0})) (p q : Shown) → HasStoredOn pa width value said_so p q → Adding runs p q
  stored_on pa width value said_so p q (puts_byte byte is x) = printed byte p q x
  stored_on pa width value said_so p q (ends reason stands is x) = set_stop reason stands p q x
  stored_on pa width value said_so p q (ignores is same) = none_added runs p q same
  stored_on pa width value said_so p q (outside is same) = none_added runs p q same

  exchanged : (pa seen new found : ℕ) (p q : Shown) → HasExchanged pa seen new found p q → Adding runs p q
  exchanged pa seen new found p q x = then_added runs p x.mid q (stepped p x.mid _ pa 0 seen x.loads) (stepped x.mid q _ pa new found x.exchanges)

  stored_in : (pa width value : ℕ) (p q : Shown) (got : Got) → HasStoredIn pa width value p q got → Adding runs p q
  stored_in pa width value p q got (storing.whole eight x is) = stepped p q _ pa _ _ x
  stored_in pa width value p q got (storing.part less x found is) = exchanged pa _ _ _ p q x
  stored_in pa width value p q got (storing.lost less x found is) = exchanged pa _ _ _ p q x

  loaded : (p q : Shown) (b b' : Book) (r : Regime) (va width : ℕ) (sign section : Bool) (got : Got) → HasLoaded p q b b' r va width sign section got → Adding runs p q
  loaded p q b b' r va width sign section got (loading.in_word {mid} at x is) = then_added runs p mid q (reached p mid b b' r _ va width section _ at) (stepped mid q _ _ _ _ x)
  loaded p q b b' r va width sign section got (loading.over_words {mid} {next} at x y is) = then_added runs p next q (then_added runs p mid next (reached p mid b b' r _ va width section _ at) (stepped mid next _ _ _ _ x)) (stepped next q _ _ _ _ y)
  loaded p q b b' r va width sign section got (loading.on_device at is) = reached p q b b' r _ va width section _ at
  loaded p q b b' r va width sign section got (loading.unreached at) = reached p q b b' r _ va width section _ at

  stored : (p q : Shown) (b b' : Book) (r : Regime) (va width value : ℕ) (section : Bool) (got : Got) → HasStored p q b b' r va width value section got → Adding runs p q
  stored p q b b' r va width value section got (storing.in_word {mid} at x) = then_added runs p mid q (reached p mid b b' r _ va width section _ at) (stored_in _ width value mid q got x)
  stored p q b b' r va width value section got (storing.over_words {mid} at x is) = then_added runs p mid q (reached p mid b b' r _ va width section _ at)
      (then_added runs mid x.two q (then_added runs mid x.one x.two (stepped mid x.one _ _ _ _ x.loads_first) (stepped x.one x.two _ _ _ _ x.loads_second)) (then_added runs x.two x.three q (stepped x.two x.three _ _ _ _ x.stores_first) (stepped x.three q _ _ _ _ x.stores_second)))
  stored p q b b' r va width value section got (storing.on_device {mid} at x is) = then_added runs p mid q (reached p mid b b' r _ va width section _ at) (stored_on _ width value _ mid q x)
  stored p q b b' r va width value section got (storing.unreached at) = reached p q b b' r _ va width section _ at

  exchanged_for : (op : AmoOp) (pa : ℕ) (wide : Bool) (value : ℕ) (p q : Shown) (got : Got) → HasExchangedFor op pa wide value p q got → Adding runs p q
  exchanged_for op pa wide value p q got (atomics.done x found is) = exchanged pa _ _ _ p q x
  exchanged_for op pa wide value p q got (atomics.lost x found is) = exchanged pa _ _ _ p q x

  operated_on : (op : AmoOp) (pa : ℕ) (wide : Bool) (value : ℕ) (p q : Shown) (got : Got) → HasOperatedOn op pa wide value p q got → Adding runs p q
  operated_on op pa wide value p q got (atomics.whole is by x gives) = stepped p q _ pa _ _ x
  operated_on op pa wide value p q got (atomics.exchanged none x) = exchanged_for op pa wide value p q got x

  operated : (p q : Shown) (b b' : Book) (r : Regime) (va : ℕ) (op : AmoOp) (wide : Bool) (value : ℕ) (got : Got) → HasOperatedAt p q b b' r va op wide value got → Adding runs p q
  operated p q b b' r va op wide value got (atomics.on_word {mid} at x) = then_added runs p mid q (placed p mid b b' r _ va wide _ at) (operated_on op _ wide value mid q got x)
  operated p q b b' r va op wide value got (atomics.on_none at) = placed p q b b' r _ va wide _ at

  reserved : (p q : Shown) (b b' : Book) (r : Regime) (va : ℕ) (wide : Bool) (got : Got) → HasReserved p q b b' r va wide got → Adding runs p q
  reserved p q b b' r va wide got (atomics.on_word {mid} at x is) = then_added runs p mid q (placed p mid b b' r _ va wide _ at) (stepped mid q _ _ _ _ x)
  reserved p q b b' r va wide got (atomics.on_none at) = placed p q b b' r _ va wide _ at

  conditional : (p q : Shown) (b b' : Book) (r : Regime) (va : ℕ) (hold : Option Hold) (wide : Bool) (value : ℕ) (got : Got) → HasConditional p q b b' r va hold wide value got → Adding runs p q
  conditional p q b b' r va hold wide value got (atomics.with_hold {mid} at held x is) = then_added runs p mid q (placed p mid b b' r _ va wide _ at) (stepped mid q _ _ _ _ x)
  conditional p q b b' r va hold wide value got (atomics.without_hold at held is) = placed p q b b' r _ va wide _ at
  conditional p q b b' r va hold wide value got (atomics.on_none at) = placed p q b b' r _ va wide _ at

  -- calls that print bytes of RAM
  loaded_if : (must : Bool) (finds : Memory) (pa : ℕ) (p q : Shown) → HasLoadedIf must finds pa p q → Adding runs p q
  loaded_if true finds pa p q x = step_added runs p q _ _ _ _ (Ram x.index) x.step x.name tt (λ y ne. ne)
  loaded_if false finds pa p q x = none_added runs p q x

  copied_byte : (finds : Memory) (from i : ℕ) (p q : Shown) → HasCopiedByte finds from i p q → Adding runs p q
  copied_byte finds from i p q x = then_added runs p x.mid q (loaded_if _ finds _ p x.mid x.loads) (byte_put _ x.mid q x.puts)

  copied : (finds : Memory) (from n : ℕ) (p q : Shown) → HasCopied finds from n p q → Adding runs p q
  copied finds from zero p q x = none_added runs p q x
  copied finds from (suc n) p q x = then_added runs p x.0 q (copied finds from n p x.0 x.1) (copied_byte finds from n x.0 q x.2)

  written : (p q : Shown) (from count : ℕ) (call : SbiEnd) (section : Bool) → HasWritten p q from count call section → Adding runs p q
  written p q from count call section (called.no_byte none same) = none_added runs p q same
  written p q from count call section (called.needs_section some same) = none_added runs p q same
  written p q from count call section (called.all_put finds some x) = copied finds from count p q x
  written p q from count call section (called.fills finds mid stands x y) =
      then_added runs p x.stops.mid q (then_added runs p x.mid x.stops.mid (copied finds from x.put p x.mid x.copies) (loaded_if _ finds _ x.mid x.stops.mid x.stops.loads))
      (ran_out x.stops.place Reason.OutFull stands x.stops.mid mid q x.stops.draws y)

  written_byte : (p q : Shown) (byte : ℕ) (answer call : SbiEnd) → HasWrittenByte p q byte answer call → Adding runs p q
  written_byte p q byte answer call (called.put x) = byte_put byte p q x
  written_byte p q byte answer call (called.found_full place mid stands x y) = ran_out place Reason.OutFull stands p mid q x y

no_one : 1 ≡ minus_one → ⊥
no_one e = omega (arith, e)

true_not : false ≡ true → ⊥
true_not e = cc

called_is : (p q : Shown) (section : Bool) (asked : Asked) (call : SbiEnd) → HasDone p q section asked call → Adding (runs_behind call) p q
called_is p q section (Asked.Gives error value) call x = none_added (runs_behind call) p q x.1
called_is p q section (Asked.GivesOne error) call x = none_added (runs_behind call) p q x.1
called_is p q section (Asked.Sends mask) call x = made_added (runs_behind call) p q Ipi _ _ _ x.1.1 tt (λ y ne. ne)
called_is p q section (Asked.Fences harts span) call x = none_added (runs_behind call) p q x.1
called_is p q section (Asked.Starts target at opaque) call (called.started other x) =
    let t = true in
    then_added t p x.counted q
    (then_added t p x.handed x.counted (then_added t p x.placed x.handed (then_added t p x.taken x.placed (made_added t p x.taken (Hsm target) _ _ _ x.takes tt (λ y ne. ne)) (made_added t x.taken x.placed (Start target) _ _ _ x.places tt (λ y ne. ne))) (made_added t x.placed x.handed (Opaque target) _ _ _ x.hands tt (λ y ne. ne)))
    (made_added t x.handed x.counted Live _ _ _ x.counts (λ r. no_one) (λ y ne. ne)))
    (made_added t x.counted q (Hsm target) _ _ _ x.lets tt (λ y ne. ne))
called_is p q section (Asked.Starts target at opaque) call (called.refused found other ne x) = made_added true p q (Hsm target) _ _ _ x tt (λ y ne. ne)
called_is p q section (Asked.Starts target at opaque) call (called.is_own own same) = none_added true p q same
called_is p q section (Asked.TellsState target) call x = made_added (runs_behind call) p q (Hsm target) _ _ _ x.2 tt (λ y ne. ne)
called_is p q section Asked.Leaves call (called.stopped left ne x) = then_added false p x.stopped q (made_added false p x.stopped (Hsm p.own.actor) _ _ _ x.stops tt (λ y ne. ne)) (made_added false x.stopped q Live _ _ _ x.takes (λ e. absurd (true_not e)) (λ y ne. ne))
called_is p q section Asked.Leaves call (called.stopped_last mid stands x y) =
    then_added false p mid q (then_added false p x.stopped mid (made_added false p x.stopped (Hsm p.own.actor) _ _ _ x.stops tt (λ y ne. ne)) (made_added false x.stopped mid Live _ _ _ x.takes (λ e. absurd (true_not e)) (λ y ne. ne))) (set_stop false Reason.AllStopped stands mid q y)
called_is p q section (Asked.Ends reason) call x = set_stop (runs_behind call) reason x.1.0 p q x.1.1
called_is p q section (Asked.Prints from count) call x = written (runs_behind call) p q from count call section x
called_is p q section (Asked.PrintsByte byte) call x = written_byte (runs_behind call) p q byte _ call x
called_is p q section (Asked.PrintsOne byte) call x = written_byte (runs_behind call) p q byte _ call x

runs_alike : (call : SbiEnd) → runs_behind call ≡ runs_on (end_of_call call)
runs_alike (SbiEnd.Pair error value) = refl
runs_alike (SbiEnd.Single value) = refl
runs_alike (SbiEnd.Fence harts span) = refl
runs_alike SbiEnd.NeedsSection = refl
runs_alike SbiEnd.HartStopped = refl
runs_alike (SbiEnd.Over Reason.Pass) = refl
runs_alike (SbiEnd.Over (Reason.Fail code)) = refl
runs_alike (SbiEnd.Over (Reason.Limit hart)) = refl
runs_alike (SbiEnd.Over Reason.OutFull) = refl
runs_alike (SbiEnd.Over Reason.AllStopped) = refl
runs_alike (SbiEnd.Over Reason.Stopped) = refl

flushed_is : (p q : Shown) (b b' : Book) (what : FlushOf) (end : NeedEnd) (runs : Bool) → HasFlushedOne p q b b' what end → Adding runs p q
flushed_is p q b b' what end runs (serving.flushes x goes) = goes_added runs _ IsOfTable p q table_neither goes
flushed_is p q b b' what end runs (serving.held busy x) = made_added runs p q (Lock b.hart) _ _ _ x.found.1 tt (λ y ne. ne)

-- the steps by which a need was served
pub served_is : (p q : Shown) (b b' : Book) (c : Arch) (section : Bool) (n : Need) (end : NeedEnd) → HasServed p q b b' c section n end → Adding (runs_on end) p q
served_is p q b b' c section Need.Nothing end x = none_added (runs_on end) p q x.1.0
served_is p q b b' c section (Need.Trap cause tval) end x = none_added (runs_on end) p q x.1.0
served_is p q b b' c section (Need.Ipi op) end x = made_added (runs_on end) p q Ipi _ _ _ x.1.1 tt (λ y ne. ne)
served_is p q b b' c section (Need.Flush what) end x = flushed_is p q b b' what end (runs_on end) x
served_is p q b b' c section Need.Sbi end x = subst (λ r. Adding r p q) (runs_alike x.0 ∙ ap runs_on (sym x.3)) (called_is p q section x.1.0 x.0 x.1.2)
served_is p q b b' c section (Need.Load va width sign) end x = loaded (runs_on end) p q b b' (regime c) va width sign section x.0 x.1
served_is p q b b' c section (Need.Store va width value) end x = stored (runs_on end) p q b b' (regime c) va width value section x.0 x.1
served_is p q b b' c section (Need.Amo va op wide value) end x = operated (runs_on end) p q b b' (regime c) va op wide value x.0 x.1
served_is p q b b' c section (Need.Lr va wide) end x = reserved (runs_on end) p q b b' (regime c) va wide x.0 x.1
served_is p q b b' c section (Need.Sc va wide value) end x = conditional (runs_on end) p q b b' (regime c) va c.hold wide value x.0 x.1

counts_is : (runs : Bool) (w : Word) (op : WordOp) (arg : ℕ) → runs ≡ true → IsOrdinary runs w op arg → IsUncount w op arg → ⊥
counts_is runs Live Add arg on x un = x on un
counts_is runs w op arg on x un = un

-- where the hart runs on none is taken from LIVE
pub all_counts : (runs : Bool) (r : List Step) → runs ≡ true → AreOrdinary runs r → AreCounts r
all_counts runs [] on all = tt
all_counts runs (s ∷ r) on all = (counts_is runs (name_of s.word) s.op s.arg on all.0, all_counts runs r on all.1)
