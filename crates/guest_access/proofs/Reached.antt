-- What translations and devices keep of a hart that accesses.
use Rattle.std.proofs.Common.{◌≡◌, ℕ, ◌+◌, ◌*◌, ◌<◌, Bool, List, [], ◌∷◌, ◌++◌, refl, sym, ap, subst, ◌∙◌}
use Rattle.step_laws.specs.declared.map.TlbField.{TlbField}
use Rattle.step_laws.specs.declared.steps.Step.{Step}
use Rattle.step_laws.specs.declared.steps.WordOp.{WordOp}
use Rattle.step_laws.specs.Map.{Word, Stop, Cons, Console, name_of}
use Rattle.step_laws.specs.Tables.{held_lock, is_clear_due, is_clear_due_next, size_of}
use Rattle.guest_ram.specs.Ports.{Shown, Machine, AreAllowed, IsActing, GoesBy, StandsAs}
use Rattle.guest_ram.proofs.Moves.{armed_goes, machine_goes, stands_goes, touch_stands}
use Rattle.tlb_entry.specs.declared.books.Book.{Book}
use Rattle.tlb_table.proofs.Aside.{book_goes}
use Rattle.kept_fills.specs.Beside.{IsBeside}
use Rattle.tlb_fill.specs.Stepping.{IsArmedAt, IsOfFill}
use Rattle.guest_devices.specs.Stores.{IsOfDevices}
use Rattle.guest_access.specs.Reaching.{CanAccess}
use Rattle.guest_access.specs.Stepping.{IsIn}
use Rattle.guest_access.proofs.Areas.{devices_off, fill_aside, fill_steady}

-- over translations
pub can_translated : (n : ℕ) (b b' : Book) (p q : Shown) → GoesBy n IsOfFill p q → IsBeside b' q → CanAccess b p → CanAccess b' q
can_translated n b b' p q goes beside k = record { beside = beside; touch = touch_stands n IsOfFill p q goes (stands_goes n IsOfFill p q fill_aside goes) k.touch }

pub in_goes : (n : ℕ) (A : Word → Type 0) (pa : ℕ) (p q : Shown) → GoesBy n A p q → IsIn pa p → IsIn pa q
in_goes n A pa p q goes i = record { above = i.above; below = subst (λ (m : Machine). pa < 2147483648 + 4096 * m.layout.pages) (sym (machine_goes n A p q goes)) i.below }

pub armed_translated : (n : ℕ) (pa : ℕ) (p q : Shown) → GoesBy n IsOfFill p q → IsArmedAt pa p → IsArmedAt pa q
armed_translated n pa p q goes a page less is = armed_goes n IsOfFill p q page fill_steady goes (a page (subst (λ (m : Machine). page < m.layout.pages) (machine_goes n IsOfFill p q goes) less) is)

-- over a store on a device
due_aside : (a j : ℕ) (f : TlbField) (w : Word) (op : WordOp) (arg size : ℕ) (b : Bool) → IsOfDevices w → is_clear_due_next a j f w op arg size b ≡ b
due_aside a j f Stop op arg size b t = refl
due_aside a j f Cons op arg size b t = refl
due_aside a j f (Console i) op arg size b t = refl
due_aside a j f w op arg size b t = absurd t

due_behind : (p : Shown) (a j : ℕ) (f : TlbField) (added r : List Step) → AreAllowed IsOfDevices p added → is_clear_due a j f (added ++ r) ≡ is_clear_due a j f r
due_behind p a j f [] r all = refl
due_behind p a j f (s ∷ added) r all = due_aside a j f (name_of s.word) s.op s.arg (size_of a (added ++ r)) (is_clear_due a j f (added ++ r)) all.0.0 ∙ due_behind p a j f added r all.1

pub can_device : (n : ℕ) (b : Book) (p q : Shown) → GoesBy n IsOfDevices p q → StandsAs p q → held_lock q.own.steps ≡ held_lock p.own.steps → IsActing q → CanAccess b p → CanAccess b q
can_device n b p q goes stands held acting k = record {
  beside = record {
    acting = acting;
    hart = subst (λ (x : Shown). x.own.actor < x.machine.layout.harts) (sym goes.grown) k.beside.hart;
    book = book_goes b n IsOfDevices p q devices_off goes k.beside.book;
    free = held ∙ k.beside.free;
    owes = λ j f c. ap (λ (x : Shown). is_clear_due x.own.actor j f x.own.steps) goes.grown ∙ due_behind p p.own.actor j f goes.added p.own.steps goes.allowed ∙ k.beside.owes j f c;
  };
  touch = touch_stands n IsOfDevices p q goes stands k.touch;
}
