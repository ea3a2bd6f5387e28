-- A hart that has entered can have its needs served, and it can behind each that doesn't stop it; one that looked at its state stays stopped.
use Rattle.std.proofs.Common.{◌≡◌, true, false, [], ap, subst, ◌∙◌, refl}
use Rattle.std.specs.Prelude.{IfNone, Option, None}
use Rattle.rv64_priv.specs.State.{Arch}
use Rattle.rv64_priv.specs.Csr.{regime}
use Rattle.rv64_priv.specs.declared.state.Regime.{Regime}
use Rattle.rv64_exec.specs.declared.needs.FlushOf.{FlushOf}
use Rattle.rv64_exec.specs.declared.needs.Need.{Need}
use Rattle.step_laws.specs.declared.steps.WordOp.TheVariants.{Load}
use Rattle.step_laws.specs.Harts.{is_owing, is_owing_next, is_running, is_running_next, opening}
use Rattle.step_laws.specs.Map.{Word, Hsm, Pend, Run}
use Rattle.step_laws.specs.Sections.{MayTouch}
use Rattle.guest_ram.specs.Areas.{IsOfSection}
use Rattle.guest_ram.specs.Ports.{Shown, IsActing, GoesBy, layout_of}
use Rattle.guest_ram.proofs.Moves.{fold_adds}
use Rattle.tlb_entry.specs.declared.books.Book.{Book}
use Rattle.tlb_table.proofs.Aside.{IsOffTable}
use Rattle.kept_fills.specs.Beside.{IsBeside}
use Rattle.kept_fills.proofs.Staying.{new_book_goes}
use Rattle.guest_access.proofs.Fills.{knows_on, on_aside}
use Rattle.hart_signals.proofs.Aside.{IsOffLock, IsOffStates, beside_goes, opening_goes, running_goes}
use Rattle.hart_signals.specs.Starts.{HasFoundStopped}
use Rattle.hart_signals.specs.declared.starts.Start.{Start}
use Rattle.need_serving.specs.declared.ends.NeedEnd.{NeedEnd}
use Rattle.need_serving.specs.declared.ends.NeedEnd.TheVariants as ends
use Rattle.need_serving.specs.Ends.{MayHaveAfter, runs_on}
use Rattle.need_serving.specs.Serving.{IsServed}
use Rattle.need_rows.specs.Ready.{IsHalted, IsReady}

section_off : (w : Word) → IsOfSection w → IsOffStates w
section_off Pend t = tt
section_off (Run a) t = tt
section_off w t = absurd t

section_off_lock : (w : Word) → IsOfSection w → IsOffLock w
section_off_lock Pend t = tt
section_off_lock (Run a) t = tt
section_off_lock w t = absurd t

section_off_table : (w : Word) → IsOfSection w → IsOffTable w
section_off_table Pend t = tt
section_off_table (Run a) t = tt
section_off_table w t = absurd t

pub ready_entered : (b : Book) (a : Arch) (p q : Shown) → IsBeside b p → p.own.steps ≡ [] → p.own.runs ≡ true → b.large ≡ false → GoesBy 3 IsOfSection p q → IsActing q → MayTouch (layout_of q) q.own.actor q.own.steps → IsReady b a q
ready_entered b a p q beside none runs large goes acting touch = let k : IsBeside b q = beside_goes b 3 IsOfSection p q section_off_lock goes acting beside in record {
  access = record { beside = k; touch = touch };
  fills = knows_on p q b b (regime a) (on_aside 3 IsOfSection b (regime a) p q section_off_table goes) (record { items = []; fills = []; goes = new_book_goes p b (regime a) none large });
  runner = record {
    acting = acting;
    hart = k.hart;
    runs = running_goes 3 IsOfSection p q section_off goes ∙ ap (is_running p.own.actor p.own.runs) none ∙ runs;
    free = opening_goes 3 IsOfSection p q section_off goes ∙ ap opening none;
  };
}

-- the same regime may be had behind any need
same_after : (need : Need) (end : NeedEnd) (r : Regime) → MayHaveAfter need end r r
same_after (Need.Flush FlushOf.All) (ends.Done answer) r = tt
same_after need end r = refl

pub ready_served : (b b' : Book) (a : Arch) (p q : Shown) (need : Need) (end : NeedEnd) → IsServed p q b b' a false need end → runs_on end ≡ true → IsReady b' a q
ready_served b b' a p q need end s on = record {
  access = s.remains.access;
  fills = s.fills (regime a) (same_after need end (regime a));
  runner = record {
    acting = s.remains.access.beside.acting;
    hart = s.remains.access.beside.hart;
    runs = s.remains.running ∙ on;
    free = s.remains.free;
  };
}

pub halted_still : (b b' : Book) (p q : Shown) (taken : Option Start) → taken ≡ None → IfNone taken (HasFoundStopped p q b b') → IsBeside b' q → IsHalted b p → IsHalted b' q
halted_still b b' p q taken none found beside k = let h : HasFoundStopped p q b b' = subst (λ (t : Option Start). IfNone t (HasFoundStopped p q b b')) none found in let m = h.finds in record {
  beside = beside;
  stopped = ap (λ (x : Shown). is_running x.own.actor x.own.runs q.own.steps) m.step ∙ fold_adds (is_running_next p.own.actor) p.own.runs p q m.word 0 h.found Load (Hsm p.own.actor) m.step m.name ∙ k.stopped;
  paid = ap (λ (x : Shown). is_owing x.own.actor q.own.steps) m.step ∙ fold_adds (is_owing_next p.own.actor) false p q m.word 0 h.found Load (Hsm p.own.actor) m.step m.name ∙ k.paid;
}
