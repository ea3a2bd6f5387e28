-- What steps on other words leave of what goes with a hart.
use Rattle.std.proofs.Common.{◌<◌, ◌≡◌, ℕ, Bool, false, ◌++◌, refl, sym, ap, subst, ◌∙◌}
use Rattle.step_laws.specs.declared.steps.WordOp.{WordOp}
use Rattle.step_laws.specs.Map.{Word, Dirty, Kick, Pend, Ram, Run, Stop}
use Rattle.step_laws.specs.Output.{has_set_stop, has_set_stop_next, has_touched, has_touched_next}
use Rattle.guest_ram.specs.Areas.{IsAside}
use Rattle.guest_ram.specs.Ports.{GoesBy, IsActing, Made, Shown, StandsAs, layout_of}
use Rattle.guest_ram.proofs.Moves.{actor_goes, fold_adds, fold_goes, stands_goes}
use Rattle.walk_laws.specs.KeptWalks.{made_all}
use Rattle.tlb_entry.specs.declared.books.Book.{Book}
use Rattle.tlb_table.proofs.Aside.{IsOffTable}
use Rattle.tlb_fill.proofs.Marking.{same_goes}
use Rattle.kept_fills.proofs.Staying.{fills_stay}
use Rattle.work_queue.proofs.Ringed.{IsNoPlace, sent_goes, served_goes}
use Rattle.guest_access.specs.Reaching.{KnowsFills}
use Rattle.hart_calls.specs.Asked.{AreHarts, IsAsked}
use Rattle.hart_calls.specs.declared.asking.Asked.{Asked}
use Rattle.sbi_calls.proofs.Fenced.{fence_goes}
use Rattle.work_queue.specs.declared.rings.Sent.{Sent}
use Rattle.rv64_priv.specs.Csr.{regime}
use Rattle.rv64_priv.specs.State.{Arch}
use Rattle.rv64_priv.specs.declared.state.Regime.{Regime}
use Rattle.hart_signals.proofs.Aside.{IsOffLock, IsOffStates, beside_goes, opening_goes, owing_goes, running_goes}
use Rattle.exclusive.specs.Claims.{IsOfClaims}
use Rattle.guest_ram.specs.Areas.{IsOfSection}
use Rattle.signal_pieces.specs.Signalling.{IsOfSides}
use Rattle.signal_pieces.proofs.Single.{goes_one}
use Rattle.hart_turn.specs.declared.hart.Call.{Call}
use Rattle.hart_turn.specs.declared.hart.Hart.{Hart}
use Rattle.hart_turn.specs.Harts.{GoesWith, IsCallOf, IsStill, StandsBy}

-- words by which sections are entered and claimed
pub section_sides : (w : Word) → IsOfSection w → IsOfSides w
section_sides Pend t = tt
section_sides (Run a) t = tt
section_sides w t = absurd t

pub claims_sides : (w : Word) → IsOfClaims w → IsOfSides w
claims_sides Pend t = tt
claims_sides (Kick h) t = tt
claims_sides w t = absurd t

pub sides_off_states : (w : Word) → IsOfSides w → IsOffStates w
sides_off_states Pend t = tt
sides_off_states (Run a) t = tt
sides_off_states (Kick h) t = tt
sides_off_states w t = absurd t

pub sides_no_place : (w : Word) → IsOfSides w → IsNoPlace w
sides_no_place Pend t = tt
sides_no_place (Run a) t = tt
sides_no_place (Kick h) t = tt
sides_no_place w t = absurd t

-- words other than STOP
abbrev pub IsNoEnd : Word → Type 0
IsNoEnd Stop = ⊥
IsNoEnd w = Unit {0}

pub sides_no_end : (w : Word) → IsOfSides w → IsNoEnd w
sides_no_end Pend t = tt
sides_no_end (Run a) t = tt
sides_no_end (Kick h) t = tt
sides_no_end w t = absurd t

stop_aside : (w : Word) (op : WordOp) (arg answer : ℕ) (b : Bool) → IsNoEnd w → has_set_stop_next w op arg answer b ≡ b
stop_aside Stop op arg answer b off = absurd off
stop_aside w op arg answer b off = refl

pub stop_goes : (n : ℕ) (A : Word → Type 0) (p q : Shown) → ((w : Word) → A w → IsNoEnd w) → GoesBy n A p q → has_set_stop q.own.steps ≡ has_set_stop p.own.steps
stop_goes n A p q aside goes = fold_goes has_set_stop_next false n A p q (λ w op arg answer b t. stop_aside w op arg answer b (aside w t)) goes

-- neither STOP, nor RAM with its dirty words
abbrev pub IsNoRam : Word → Type 0
IsNoRam Stop = ⊥
IsNoRam (Ram i) = ⊥
IsNoRam (Dirty i) = ⊥
IsNoRam w = Unit {0}

pub sides_no_ram : (w : Word) → IsOfSides w → IsNoRam w
sides_no_ram Pend t = tt
sides_no_ram (Run a) t = tt
sides_no_ram (Kick h) t = tt
sides_no_ram w t = absurd t

touch_aside : (w : Word) (op : WordOp) (arg answer : ℕ) (b : Bool) → IsNoRam w → has_touched_next w op arg answer b ≡ b
touch_aside Stop op arg answer b off = absurd off
touch_aside (Ram i) op arg answer b off = absurd off
touch_aside (Dirty i) op arg answer b off = absurd off
touch_aside w op arg answer b off = refl

pub untouched_goes : (n : ℕ) (A : Word → Type 0) (p q : Shown) → ((w : Word) → A w → IsNoRam w) → GoesBy n A p q → has_touched p.own.steps ≡ false → has_touched q.own.steps ≡ false
untouched_goes n A p q aside goes e = fold_goes has_touched_next false n A p q (λ w op arg answer b t. touch_aside w op arg answer b (aside w t)) goes ∙ e

-- the entries of a table that no step is on
pub fills_goes : (b : Book) (r : Regime) (n : ℕ) (A : Word → Type 0) (p q : Shown) → ((w : Word) → A w → IsOffTable w) → GoesBy n A p q → KnowsFills b r p → KnowsFills b r q
fills_goes b r n A p q off goes f = record {
  items = made_all goes.added ++ f.items;
  fills = f.fills;
  goes = fills_stay p q b r f.items f.fills goes.added (ap (λ (x : Shown). x.own.steps) goes.grown) (same_goes n A p q off goes) f.goes;
}

-- a call in progress
pub call_goes : (n : ℕ) (A : Word → Type 0) (call : Call) (sent : Sent) (c : Arch) (p q : Shown) → GoesBy n A p q → IsCallOf call sent c p → IsCallOf call sent c q
call_goes n A Call.Nothing sent c p q goes x = tt
call_goes n A (Call.Fence harts span fence) sent c p q goes x = record {
  asked = subst (λ (y : Shown). IsAsked (layout_of y) c (Asked.Fences harts span)) (sym goes.grown) x.asked;
  are_harts = subst (λ (y : Shown). AreHarts (layout_of y).harts harts) (sym goes.grown) x.are_harts;
  is_span = x.is_span;
  fencing = (x.fencing.0, fence_goes n A harts span sent fence x.fencing.0 p q goes x.fencing.1);
}

-- steps that leave its table and lock, its state, its rings and STOP
module _ (n : ℕ) (A : Word → Type 0) (h k : Hart) (p q : Shown) (lock : (w : Word) → A w → IsOffLock w) (table : (w : Word) → A w → IsOffTable w) (states : (w : Word) → A w → IsOffStates w) (places : (w : Word) → A w → IsNoPlace w) where
  pub with_goes : GoesBy n A p q → (has_set_stop q.own.steps ≡ false → h.count < h.limit) → IsActing q → IsStill h k → StandsBy k q → GoesWith h p → GoesWith k q
  with_goes goes below acting still stands can = subst (λ (z : Hart). GoesWith z q) (sym still) (record {
    beside = beside_goes h.book n A p q lock goes acting can.beside;
    fills = fills_goes h.book (regime h.arch) n A p q table goes can.fills;
    number = can.number ∙ sym (actor_goes n A p q goes);
    runs = running_goes n A p q states goes ∙ can.runs;
    free = opening_goes n A p q states goes ∙ can.free;
    paid = owing_goes n A p q states goes ∙ can.paid;
    stands = subst (λ (z : Hart). StandsBy z q) still stands;
    sent = sent_goes n A p q places goes h.sent can.sent;
    served = served_goes n A p q places goes h.served can.served;
    below = below;
    call = call_goes n A h.call h.sent h.arch p q goes can.call;
    stopped = can.stopped;
  })

pub stand_as : (h : Hart) (p q : Shown) → StandsBy h p → StandsAs p q → StandsBy h q
stand_as h p q x s = record { phase_is = s.phase ∙ x.phase_is; claim_is = s.claim ∙ x.claim_is; quantum = x.quantum }

-- one step on such a word
module _ (h : Hart) (p q : Shown) (w : Word) (op : WordOp) (arg answer : ℕ) (m : Made p q w op arg answer) (lock : IsOffLock w) (table : IsOffTable w) (states : IsOffStates w) (place : IsNoPlace w) (aside : IsAside w) where
  said : has_set_stop q.own.steps ≡ has_set_stop_next w op arg answer (has_set_stop p.own.steps)
  said = fold_adds has_set_stop_next false p q m.word arg answer op w m.step m.name

  pub with_one : (has_set_stop q.own.steps ≡ false → h.count < h.limit) → IsActing q → GoesWith h p → GoesWith h q
  with_one below acting can =
      let goes = goes_one p q w op arg answer m in with_goes 1 (λ v. v ≡ w) h h p q (λ v e. subst IsOffLock (sym e) lock) (λ v e. subst IsOffTable (sym e) table) (λ v e. subst IsOffStates (sym e) states) (λ v e. subst IsNoPlace (sym e) place)
      goes below acting refl (stand_as h p q can.stands (stands_goes 1 (λ v. v ≡ w) p q (λ v e. subst IsAside (sym e) aside) goes)) can

  pub with_step : has_set_stop_next w op arg answer (has_set_stop p.own.steps) ≡ has_set_stop p.own.steps → IsActing q → GoesWith h p → GoesWith h q
  with_step same acting can = with_one (λ unsaid. can.below (sym (said ∙ same) ∙ unsaid)) acting can

-- another count below the limit
pub with_count : (h : Hart) (count : ℕ) (q : Shown) → (has_set_stop q.own.steps ≡ false → count < h.limit) → GoesWith h q → GoesWith (record h { count = count }) q
with_count h count q below can = record {
  beside = can.beside;
  fills = can.fills;
  number = can.number;
  runs = can.runs;
  free = can.free;
  paid = can.paid;
  stands = record { phase_is = can.stands.phase_is; claim_is = can.stands.claim_is; quantum = can.stands.quantum };
  sent = can.sent;
  served = can.served;
  below = below;
  call = can.call;
  stopped = can.stopped;
}
