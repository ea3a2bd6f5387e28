-- A hart that has entered, or is in its section, can make accesses; and it can behind each.
use Rattle.std.proofs.Common.{◌≡◌, ℕ, ◌<◌, Bool, List, [], ◌∷◌, ◌++◌, false, refl, ap, subst, sym, ◌∙◌}
use Rattle.step_laws.specs.declared.map.TlbField.{TlbField}
use Rattle.step_laws.specs.declared.steps.Step.{Step}
use Rattle.step_laws.specs.declared.steps.WordOp.{WordOp}
use Rattle.step_laws.specs.Map.{Word, Pend, Run, name_of}
use Rattle.step_laws.specs.Tables.{held_lock_next, is_clear_due, is_clear_due_next}
use Rattle.step_laws.specs.Sections.{MayTouch}
use Rattle.rv64_priv.specs.State.{Arch}
use Rattle.rv64_priv.specs.Csr.{regime}
use Rattle.rv64_priv.specs.declared.state.Regime.{Regime}
use Rattle.guest_ram.specs.Areas.{IsOfSection}
use Rattle.guest_ram.specs.Ports.{Shown, IsActing, AreAllowed, GoesBy, layout_of}
use Rattle.guest_ram.proofs.Moves.{machine_goes, actor_goes, fold_goes}
use Rattle.guest_ram_cases.specs.Tours.{IsSameSeat}
use Rattle.tlb_entry.specs.declared.books.Book.{Book}
use Rattle.tlb_table.proofs.Aside.{IsOffTable, book_goes}
use Rattle.kept_fills.specs.Beside.{IsBeside}
use Rattle.kept_fills.proofs.Staying.{new_book_goes}
use Rattle.guest_access.specs.Reaching.{CanAccess, GoesOn, KnowsFills}
use Rattle.guest_access.proofs.Fills.{knows_on, on_aside}
use Rattle.access_rows.specs.Ready.{IsReady}

off_table : (w : Word) → IsOfSection w → IsOffTable w
off_table Pend t = tt
off_table (Run a) t = tt
off_table w t = absurd t

held_aside : (w : Word) (op : WordOp) (arg answer n : ℕ) → IsOfSection w → held_lock_next w op arg answer n ≡ n
held_aside Pend op arg answer n t = refl
held_aside (Run a) op arg answer n t = refl
held_aside w op arg answer n t = absurd t

due_aside : (a j : ℕ) (f : TlbField) (w : Word) (op : WordOp) (arg size : ℕ) (b : Bool) → IsOfSection w → is_clear_due_next a j f w op arg size b ≡ b
due_aside a j f Pend op arg size b t = refl
due_aside a j f (Run h) op arg size b t = refl
due_aside a j f w op arg size b t = absurd t

due_behind : (p : Shown) (a j : ℕ) (f : TlbField) (added r : List Step) → AreAllowed IsOfSection p added → is_clear_due a j f (added ++ r) ≡ is_clear_due a j f r
due_behind p a j f [] r all = refl
due_behind p a j f (s ∷ added) r all = due_aside a j f (name_of s.word) s.op s.arg _ (is_clear_due a j f (added ++ r)) all.0.0 ∙ due_behind p a j f added r all.1

beside_entered : (b : Book) (n : ℕ) (p q : Shown) → IsBeside b p → GoesBy n IsOfSection p q → IsActing q → IsBeside b q
beside_entered b n p q k goes acting = record {
  acting = acting;
  hart = subst (λ (x : Shown). x.own.actor < x.machine.layout.harts) (sym goes.grown) k.hart;
  book = book_goes b n IsOfSection p q off_table goes k.book;
  free = fold_goes held_lock_next 0 n IsOfSection p q (λ w op arg answer x t. held_aside w op arg answer x t) goes ∙ k.free;
  owes = λ j f c. ap (λ (x : Shown). is_clear_due x.own.actor j f x.own.steps) goes.grown ∙ due_behind p p.own.actor j f goes.added p.own.steps goes.allowed ∙ k.owes j f c;
}

pub ready_entered : (b : Book) (a : Arch) (n : ℕ) (p q : Shown) → IsBeside b p → p.own.steps ≡ [] → b.large ≡ false → GoesBy n IsOfSection p q → IsActing q → MayTouch (layout_of q) q.own.actor q.own.steps → IsReady b a q
ready_entered b a n p q beside none large goes acting touch = record {
  access = record { beside = beside_entered b n p q beside goes acting; touch = touch };
  fills = knows_on p q b b (regime a) (on_aside n IsOfSection b (regime a) p q off_table goes) (record { items = []; fills = []; goes = new_book_goes p b (regime a) none large });
}

pub ready_on : (b b' : Book) (a a' : Arch) (p q : Shown) → regime a' ≡ regime a → CanAccess b' q → GoesOn p q b b' (regime a) → KnowsFills b (regime a) p → IsReady b' a' q
ready_on b b' a a' p q same access on fills = record { access = access; fills = subst (λ (r : Regime). KnowsFills b' r q) (sym same) (knows_on p q b b' (regime a) on fills) }

pub seat_goes : (n : ℕ) (A : Word → Type 0) (p q : Shown) → GoesBy n A p q → IsSameSeat p q
seat_goes n A p q goes = record { machine = machine_goes n A p q goes; actor = actor_goes n A p q goes }
