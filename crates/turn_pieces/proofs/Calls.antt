-- A console call of several bytes in section: a byte at a time, then one event.
use Rattle.std.proofs.Common.{◌≡◌, ◌<◌, ◌+◌, ◌-◌, ℕ, suc, Bool, true, false, List, [], ◌∷◌, ◌++◌, None, refl, sym, ap, subst, ◌∙◌, arith, length}
use Rattle.std.specs.Prelude.{if◌then◌else◌}
use Rattle.step_laws.specs.declared.steps.Step.{Step}
use Rattle.step_laws.specs.declared.steps.WordOp.{WordOp}
use Rattle.step_laws.specs.declared.steps.WordOp.TheVariants.{Store, Add}
use Rattle.step_laws.specs.Map.{Word, Cons, Console, name_of}
use Rattle.step_laws.specs.Sections.{IsInSection}
use Rattle.machine_model.specs.State.{Setup}
use Rattle.step_laws.specs.Words.{console_places}
use Rattle.turn_pieces.specs.Folds.{drawn_next, stored_next, unstored_next}
use Rattle.turn_pieces.proofs.Sections.{plain_section, Plain}
use Rattle.turn_pieces.specs.Log.{made, did, Log, steps_of}
use Rattle.turn_pieces.specs.Kept.{places, bytes, ends_call}
use Rattle.turn_pieces.specs.Owed.{Owed, nothing, paid, owes_byte, owed, unstored, Books, books, Rests}
use Rattle.turn_pieces.specs.Grows.{Grows, IsClear}
use Rattle.turn_pieces.specs.Writers.{InCall}
use Rattle.turn_pieces.specs.Draws.{may_draw}
use Rattle.turn_pieces.proofs.Writers.{owed_named, grows_then}
use Rattle.turn_pieces.proofs.Offers.{draw_in_call, store_in_call, draw_owes}

clear_rests : (u : Setup) (a : ℕ) (b : Books) (o : Owed) → IsClear o → Rests u a b o
clear_rests u a b nothing c = tt
clear_rests u a b paid c = tt
clear_rests u a b o c = absurd c

-- no bytes are stored where no place is drawn
drawn_bytes : (w : Word) (op : WordOp) (arg answer : ℕ) (ds bs : List ℕ) → drawn_next w op answer ds ≡ [] → stored_next w op arg ds bs ≡ []
drawn_bytes Cons Add arg answer ds bs e = absurd (cc (e))
drawn_bytes w op arg answer [] bs e = refl
drawn_bytes w op arg answer (d ∷ ds) bs e = absurd (cc (e))

none_left : (b : Bool) (ds bs : List ℕ) → (ds ≡ [] → bs ≡ []) → (if b then [] else ds) ≡ [] → (if b then [] else bs) ≡ []
none_left true ds bs f k = refl
none_left false ds bs f k = f k

pub no_bytes : (l : Log) → places l ≡ [] → bytes l ≡ []
no_bytes [] e = refl
no_bytes (made s ∷ l) e = drawn_bytes (name_of s.word) s.op s.arg s.answer (places l) (bytes l) e
no_bytes (did e ∷ l) k = none_left (ends_call e) (places l) (bytes l) (no_bytes l) k

-- a call begins
pub call_begins : (u : Setup) (a : ℕ) (l : Log) → IsClear (owed l) → places l ≡ [] → unstored l ≡ None → IsInSection u.layout a (steps_of l) → InCall u a [] [] l
call_begins u a l c p k inside = record {
  rests = clear_rests u a (books l) (owed l) c;
  drawn = p;
  stored = no_bytes l p;
  none = k;
  inside = inside;
}

stored_none : (ds bs : List ℕ) → length ds ≡ length bs → stored_next Cons Add 1 ds bs ≡ bs
stored_none [] [] e = refl
stored_none [] (b ∷ bs) e = absurd (cc (e))
stored_none (d ∷ ds) bs e = refl

module _ (u : Setup) (a : ℕ) (l : Log) (ds bs : List ℕ) (c : InCall u a ds bs l) (even : length ds ≡ length bs) (s : Step) (n : name_of s.word ≡ Cons) (o : s.op ≡ Add) (one : s.arg ≡ 1) (may : may_draw (steps_of l) ≡ true) where
  drawn_is : places (made s ∷ l) ≡ s.answer ∷ ds
  drawn_is = λ i. drawn_next (n i) (o i) s.answer (c.drawn i)

  stored_is : bytes (made s ∷ l) ≡ bs
  stored_is = (λ i. stored_next (n i) (o i) (one i) (c.drawn i) (c.stored i)) ∙ stored_none ds bs even

  none_is : unstored (made s ∷ l) ≡ None
  none_is = λ i. unstored_next (n i) (o i) s.answer [] (c.none i)

  inside_is : IsInSection u.layout a (steps_of (made s ∷ l))
  inside_is = plain_section u a s (steps_of l) (subst (λ w. Plain w s.op) (sym n) tt) c.inside

  drawn_grows : Grows u a l (made s ∷ l)
  drawn_grows = draw_in_call u a l s n o one may c.rests

  -- one more byte
  pub call_byte : (t : Step) (byte : ℕ) → s.answer < console_places → name_of t.word ≡ Console s.answer → t.op ≡ Store → t.arg ≡ byte + 256 → Grows u a l (made t ∷ made s ∷ l)
  call_byte t byte lt n' o' arg = grows_then u a l (made s ∷ l) drawn_grows
      (store_in_call u a (made s ∷ l) t s.answer s.answer ds (draw_owes u a l s n o lt) drawn_is n' o' (let e = arg in omega (arith, e))
      (ap (λ x. suc (length x)) stored_is ∙ (ap suc (sym even) ∙ sym (ap length drawn_is))) none_is inside_is)

  pub call_goes : (t : Step) (byte : ℕ) → name_of t.word ≡ Console s.answer → t.op ≡ Store → t.arg ≡ byte + 256 → InCall u a (s.answer ∷ ds) (bs ++ byte ∷ []) (made t ∷ made s ∷ l)
  call_goes t byte n' o' arg = record {
    rests = subst (Rests u a (books (made t ∷ made s ∷ l))) (sym (owed_named (made s ∷ l) t (Console s.answer) Store n' o' ∙ ap owes_byte none_is)) tt;
    drawn = (λ i. drawn_next (n' i) (o' i) t.answer (drawn_is i));
    stored = (λ i. stored_next (n' i) (o' i) (arg i) (drawn_is i) (stored_is i)) ∙ ap (λ b. bs ++ b ∷ []) (let e : byte + 256 - 256 ≡ byte = omega arith in e);
    none = λ i. unstored_next (n' i) (o' i) t.answer [] (none_is i);
    inside = plain_section u a t (steps_of (made s ∷ l)) (subst (λ w. Plain w t.op) (sym n') tt) inside_is;
  }
