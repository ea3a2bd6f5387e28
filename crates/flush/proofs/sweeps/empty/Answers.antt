use Rattle.std.proofs.Common.{◌≡◌, ◌+◌, ◌*◌, ◌∙◌, ⊎_elim, inl, inr, true, false, arith}
use Rattle.guest_ram.specs.Areas.{IsOfTable}
use Rattle.guest_ram.proofs.Moves.{goes_then, goes_at_most}
use Rattle.step_laws.specs.Tables.{is_compare, is_swept}
use Rattle.tlb_table.proofs.Sizes.{size_some}
use Rattle.flush.proofs.Clears.{swept_slot, slot_swept, not_both, either}
use Rattle.flush.proofs.sweeps.empty.Goals as goal

pub clear_slots-requires-clause-size : goal.clear_slots-requires-clause-size
clear_slots-requires-clause-size g c = (size_some c.args.book.now.size c.requires.inside.book.sized).1

pub returns-clause-invalid : goal.returns-clause-invalid
returns-clause-invalid g c = λ j f compare due. c.clear_slots.ensures.cleared.invalid j f (swept_slot c.args.book.now.size j (size_some c.args.book.now.size c.requires.inside.book.sized).0 due) compare

pub returns-clause-left : goal.returns-clause-left
returns-clause-left g c = λ j f off. c.clear_slots.ensures.cleared.left j f
    (⊎_elim (λ (e : is_compare f ≡ false). inl e) (λ (e : is_swept c.args.book.now.size 64 j ≡ false). inr (λ s. not_both (is_swept c.args.book.now.size 64 j) (slot_swept c.args.book.now.size j s) e)) off)
    ∙ c.begin_anew.ensures.left j f

pub returns-clause-owes : goal.returns-clause-owes
returns-clause-owes g c = λ j f compare paid. c.clear_slots.ensures.cleared.owes j f compare
    (⊎_elim (λ (e : is_swept c.args.book.now.size 64 j ≡ true). inl (swept_slot c.args.book.now.size j (size_some c.args.book.now.size c.requires.inside.book.sized).0 e))
    (λ (e : is_swept c.args.book.now.size 64 j ≡ false). inr (c.begin_anew.ensures.owes j f compare e paid)) (either (is_swept c.args.book.now.size 64 j)))

pub returns-clause-goes : goal.returns-clause-goes
returns-clause-goes g c = goes_at_most (1 + (3 * c.args.book.now.size + 24)) _ IsOfTable _ _ (omega arith) (goes_then 1 (3 * c.args.book.now.size + 24) IsOfTable _ _ _ c.begin_anew.ensures.goes c.clear_slots.ensures.goes)
