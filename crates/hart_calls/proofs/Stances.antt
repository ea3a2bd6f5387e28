-- What a call leaves of its hart's state: whether it runs, the start that it makes, and whether it is to take itself from LIVE.
use Rattle.std.proofs.Common.{◌≡◌, ◌≢◌, ℕ, zero, suc, ◌+◌, Bool, true, false, List, [], ◌∷◌, refl, sym, ap, subst, ◌∙◌}
use Rattle.std.specs.Prelude.{◌==◌, if◌then◌else◌}
use Rattle.std.proofs.lemmas.Bool.{eq-eqb, ne_eqb, eqb-true}
use Rattle.step_laws.specs.declared.steps.Step.{Step}
use Rattle.step_laws.specs.declared.steps.WordOp.{WordOp}
use Rattle.step_laws.specs.declared.steps.WordOp.TheVariants.{Load, Store, Add, Exchange}
use Rattle.step_laws.specs.Map.{Word, Stop, Live, Cons, Ipi, Hsm, Start, Opaque, Console, Ram, name_of}
use Rattle.step_laws.specs.Words.{ram_word}
use Rattle.step_laws.specs.Discipline.{minus_one}
use Rattle.step_laws.specs.Harts.{Opening, closed, opened, placed, handed, counted, opening, opening_next, is_owing, is_owing_next, is_running, is_running_next}
use Rattle.machine_model.specs.declared.reason.Reason.{Reason}
use Rattle.machine_model.specs.Memory.{Memory}
use Rattle.guest_ram.specs.Ports.{Shown, Adds, Made}
use Rattle.guest_ram.proofs.Moves.{fold_adds}
use Rattle.guest_devices.specs.Output.{HasFoundFull, HasPut, HasSetStop}
use Rattle.hart_calls.specs.declared.asking.Asked.{Asked}
use Rattle.hart_calls.specs.declared.outcomes.SbiEnd.{SbiEnd}
use Rattle.hart_calls.specs.Asked.{IsGuestReason}
use Rattle.hart_calls.specs.Called.{HasDone, HasLeft, HasTried, HasWritten, HasWrittenByte, HasNamed, all_put, fills, found_full, is_own, needs_section, no_byte, none_named, put, refused, some_named, started, stopped, stopped_last}
use Rattle.hart_calls.specs.Ends.{runs_on, succeeds}
use Rattle.hart_calls.specs.Printing.{HasCopied, HasLoadedIf, HasRunOut, begins_word}
use Rattle.hart_calls.specs.States.{HasStarted, HasStopped, IsRunner}

pub record Stance (runs : Bool) (start : Opening) (owes : Bool) (p : Shown) : Type 0 where
  pub running : is_running p.own.actor p.own.runs p.own.steps ≡ runs
  pub start_is : opening p.own.steps ≡ start
  pub owing : is_owing p.own.actor p.own.steps ≡ owes

module _ (r r' : Bool) (o o' : Opening) (b b' : Bool) (p q : Shown) where
  -- by one step
  pub moved : (word arg answer : ℕ) (op : WordOp) (w : Word) → Adds p q word op arg answer → name_of word ≡ w
      → is_running_next p.own.actor w op arg answer r ≡ r' → opening_next w op arg answer o ≡ o' → is_owing_next p.own.actor w op arg answer b ≡ b' → Stance r o b p → Stance r' o' b' q
  moved word arg answer op w made e runs start owes s = record {
    running = ap (λ (x : Shown). is_running x.own.actor x.own.runs q.own.steps) made ∙ fold_adds (is_running_next p.own.actor) p.own.runs p q word arg answer op w made e ∙ ap (is_running_next p.own.actor w op arg answer) s.running ∙ runs;
    start_is = fold_adds opening_next closed p q word arg answer op w made e ∙ ap (opening_next w op arg answer) s.start_is ∙ start;
    owing = ap (λ (x : Shown). is_owing x.own.actor q.own.steps) made ∙ fold_adds (is_owing_next p.own.actor) false p q word arg answer op w made e ∙ ap (is_owing_next p.own.actor w op arg answer) s.owing ∙ owes;
  }

  pub moved_by : (arg answer : ℕ) (op : WordOp) (w : Word) → Made p q w op arg answer
      → is_running_next p.own.actor w op arg answer r ≡ r' → opening_next w op arg answer o ≡ o' → is_owing_next p.own.actor w op arg answer b ≡ b' → Stance r o b p → Stance r' o' b' q
  moved_by arg answer op w m runs start owes s = moved m.word arg answer op w m.step m.name runs start owes s

-- a hart that runs owes nothing
owes_not : (a : ℕ) (w : Word) (op : WordOp) (arg answer : ℕ) (r b : Bool) → (r ≡ true → b ≡ false) → is_running_next a w op arg answer r ≡ true → is_owing_next a w op arg answer b ≡ false
owes_not a (Hsm h) Store arg answer r b f e = go (h == a) e
  where
    go : (t : Bool) → (if t then arg == 0 else r) ≡ true → (if t then arg == 1 else b) ≡ false
    go true is = let none : arg ≡ 0 = eqb-true arg 0 is in ne_eqb arg 1 (λ one. absurd (cc (one, none)))
    go false is = f is
owes_not a (Hsm h) op arg answer r b f e = f e
owes_not a Live Add arg answer r b f e = refl
owes_not a Live op arg answer r b f e = f e
owes_not a w op arg answer r b f e = f e

runner_owes : (a : ℕ) (runs : Bool) (r : List Step) → is_running a runs r ≡ true → is_owing a r ≡ false
runner_owes a runs [] e = refl
runner_owes a runs (s ∷ r) e = owes_not a (name_of s.word) s.op s.arg s.answer (is_running a runs r) (is_owing a r) (runner_owes a runs r) e

abbrev pub Ready : Shown → Type 0
Ready p = Stance true closed false p

pub runner_stance : (p : Shown) → IsRunner p → Ready p
runner_stance p r = record { running = r.runs; start_is = r.free; owing = runner_owes p.own.actor p.own.runs p.own.steps r.runs }

same_stance : (runs : Bool) (p q : Shown) → q ≡ p → Stance runs closed false p → Stance runs closed false q
same_stance runs p q same s = subst (Stance runs closed false) (sym same) s

stop_stance : (runs : Bool) (reason stands : Reason) (p q : Shown) → HasSetStop reason stands p q → Stance runs closed false p → Stance runs closed false q
stop_stance runs reason stands p q x s = moved_by runs runs closed closed false false p q _ _ _ Stop x.exchanges refl refl refl s

put_stance : (byte : ℕ) (p q : Shown) → HasPut byte p q → Ready p → Ready q
put_stance byte p q x s = moved_by true true closed closed false false x.mid q _ _ _ (Console x.place) x.stores refl refl refl (moved_by true true closed closed false false p x.mid _ _ _ Cons x.draws refl refl refl s)

full_stance : (place : ℕ) (p q : Shown) → HasFoundFull place p q → Ready p → Ready q
full_stance place p q x s = moved_by true true closed closed false false p q _ _ _ Cons x.draws refl refl refl s

load_stance : (b : Bool) (finds : Memory) (pa : ℕ) (p q : Shown) → HasLoadedIf b finds pa p q → Ready p → Ready q
load_stance true finds pa p q x s = moved true true closed closed false false p q (ram_word pa) 0 (finds (ram_word pa)) Load (Ram x.index) x.step x.name refl refl refl s
load_stance false finds pa p q same s = same_stance true p q same s

copied_stance : (finds : Memory) (from n : ℕ) (p q : Shown) → HasCopied finds from n p q → Ready p → Ready q
copied_stance finds from zero p q same s = same_stance true p q same s
copied_stance finds from (suc n) p q x s = let b = x.2 in
    put_stance _ b.mid q b.puts (load_stance (begins_word from n) finds (from + n) x.0 b.mid b.loads (copied_stance finds from n p x.0 x.1 s))

ran_stance : (finds : Memory) (from count : ℕ) (p q : Shown) → HasRunOut finds from count p q → Ready p → Ready q
ran_stance finds from count p q x s = let b = x.stops in
    full_stance b.place b.mid q b.draws (load_stance (begins_word from x.put) finds (from + x.put) x.mid b.mid b.loads (copied_stance finds from x.put p x.mid x.copies s))

-- the store of a hart's HSM by another
other_state : (h a arg : ℕ) (b c : Bool) → h ≢ a → (if h == a then c else b) ≡ b
other_state h a arg b c ne = ap (λ (t : Bool). if t then c else b) (ne_eqb h a ne)

own_state : (a : ℕ) (b c : Bool) → (if a == a then c else b) ≡ c
own_state a b c = ap (λ (t : Bool). if t then c else b) (eq-eqb a a refl)

started_stance : (target at opaque : ℕ) (p q : Shown) → target ≢ p.own.actor → HasStarted target at opaque p q → Ready p → Ready q
started_stance target at opaque p q other x s = moved_by true true (counted target) closed false false x.counted q 2 0 Store (Hsm target) x.lets
    (other_state target x.counted.own.actor 2 true false apart) refl (other_state target x.counted.own.actor 2 false false apart)
    (moved_by true true (handed target) (counted target) false false x.handed x.counted 1 x.live Add Live x.counts refl refl refl
    (moved_by true true (placed target) (handed target) false false x.placed x.handed opaque 0 Store (Opaque target) x.hands refl refl refl
    (moved_by true true (opened target) (placed target) false false x.taken x.placed at 0 Store (Start target) x.places refl refl refl
    (moved_by true true closed (opened target) false false p x.taken 3 1 (Exchange 1) (Hsm target) x.takes refl refl refl s))))
  where
    same : x.counted.own.actor ≡ p.own.actor
    same = ap (λ (y : Shown). y.own.actor) x.counts.step ∙ ap (λ (y : Shown). y.own.actor) x.hands.step ∙ ap (λ (y : Shown). y.own.actor) x.places.step ∙ ap (λ (y : Shown). y.own.actor) x.takes.step

    apart : target ≢ x.counted.own.actor
    apart = λ e. other (e ∙ same)

-- a start that found its hart in another state
found_closed : (h n : ℕ) → n ≢ 1 → opening_next (Hsm h) (Exchange 1) 3 n closed ≡ closed
found_closed h zero ne = refl
found_closed h (suc zero) ne = absurd (ne refl)
found_closed h (suc (suc n)) ne = refl

stopped_stance : (left : ℕ) (p q : Shown) → HasStopped left p q → Ready p → Stance false closed false q
stopped_stance left p q x s = moved_by false false closed closed true false x.stopped q minus_one left Add Live x.takes refl refl refl
    (moved_by true false closed closed false true p x.stopped 1 0 Store (Hsm p.own.actor) x.stops (own_state p.own.actor true false) refl (own_state p.own.actor false true) s)

tried_stance : (p q : Shown) (target at opaque : ℕ) (end : SbiEnd) → HasTried p q target at opaque end → Ready p → Stance (runs_on end) closed false q
tried_stance p q target at opaque end (started other x) s = started_stance target at opaque p q other x s
tried_stance p q target at opaque end (refused found other ne x) s = moved_by true true closed closed false false p q 3 found (Exchange 1) (Hsm target) x refl (found_closed target found ne) refl s
tried_stance p q target at opaque end (is_own own same) s = same_stance true p q same s

left_stance : (p q : Shown) (end : SbiEnd) → HasLeft p q end → Ready p → Stance (runs_on end) closed false q
left_stance p q end (stopped left ne x) s = stopped_stance left p q x s
left_stance p q end (stopped_last mid stands x y) s = stop_stance false Reason.AllStopped stands mid q y (stopped_stance 1 p mid x s)

written_stance : (p q : Shown) (from count : ℕ) (end : SbiEnd) (section : Bool) → HasWritten p q from count end section → Ready p → Stance (runs_on end) closed false q
written_stance p q from count end section (no_byte none same) s = same_stance true p q same s
written_stance p q from count end section (needs_section some same) s = same_stance true p q same s
written_stance p q from count end section (all_put finds some x) s = copied_stance finds from count p q x s
written_stance p q from count end section (fills finds mid stands x y) s = stop_stance true Reason.OutFull stands mid q y (ran_stance finds from count p mid x s)

byte_stance : (p q : Shown) (byte : ℕ) (answer end : SbiEnd) → runs_on answer ≡ true → HasWrittenByte p q byte answer end → Ready p → Stance (runs_on end) closed false q
byte_stance p q byte answer end on (put x) s = subst (λ b. Stance b closed false q) (sym on) (put_stance byte p q x s)
byte_stance p q byte answer end on (found_full place mid stands x y) s = stop_stance true Reason.OutFull stands mid q y (full_stance place p mid x s)

named_stance : (harts : ℕ) (end e : SbiEnd) (p q : Shown) → runs_on end ≡ true → HasNamed p q harts end e → Ready q → Stance (runs_on e) closed false q
named_stance harts end e p q on (some_named some) s = subst (λ b. Stance b closed false q) (sym on) s
named_stance harts end e p q on (none_named none) s = s

guest_runs : (reason : Reason) → IsGuestReason reason → runs_on (SbiEnd.Over reason) ≡ true
guest_runs Reason.Pass is = refl
guest_runs (Reason.Fail code) is = refl
guest_runs reason is = absurd is

with_end : (end e : SbiEnd) (q : Shown) → e ≡ end → runs_on end ≡ true → Ready q → Stance (runs_on e) closed false q
with_end end e q is on s = subst (λ b. Stance b closed false q) (sym (ap runs_on is ∙ on)) s

-- the hart runs on, or has stopped; it makes no start and owes nothing
pub done_stance : (p q : Shown) (section : Bool) (asked : Asked) (end : SbiEnd) → ((reason : Reason) → asked ≡ Asked.Ends reason → IsGuestReason reason) → HasDone p q section asked end → Ready p → Stance (runs_on end) closed false q
done_stance p q section (Asked.Gives error value) end guest x s = with_end _ end q x.0 refl (same_stance true p q x.1 s)
done_stance p q section (Asked.GivesOne error) end guest x s = with_end _ end q x.0 refl (same_stance true p q x.1 s)
done_stance p q section (Asked.Sends mask) end guest x s = with_end _ end q x.0 refl (moved_by true true closed closed false false p q _ _ _ Ipi x.1.1 refl refl refl s)
done_stance p q section (Asked.Fences harts span) end guest x s = named_stance harts (SbiEnd.Fence harts span) end p q refl x.0 (same_stance true p q x.1 s)
done_stance p q section (Asked.Starts target at opaque) end guest x s = tried_stance p q target at opaque end x s
done_stance p q section (Asked.TellsState target) end guest x s = with_end _ end q x.1 refl (moved_by true true closed closed false false p q _ _ _ (Hsm target) x.2 refl refl refl s)
done_stance p q section Asked.Leaves end guest x s = left_stance p q end x s
done_stance p q section (Asked.Ends reason) end guest x s = with_end _ end q x.0 (guest_runs reason (guest reason refl)) (stop_stance true reason x.1.0 p q x.1.1 s)
done_stance p q section (Asked.Prints from count) end guest x s = written_stance p q from count end section x s
done_stance p q section (Asked.PrintsByte byte) end guest x s = byte_stance p q byte (succeeds 0) end refl x s
done_stance p q section (Asked.PrintsOne byte) end guest x s = byte_stance p q byte (SbiEnd.Single 0) end refl x s
