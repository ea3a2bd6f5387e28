-- The execution of an accepted fence in its hart's log.
use Rattle.std.proofs.Common.{◌≡◌, ◌≢◌, ℕ, Bool, true, List, [], ◌∷◌, Some, refl, sym, ap, subst, ◌∙◌, arith}
use Rattle.std.specs.Prelude.{bit_or, ◌^◌, pos}
use Rattle.std.specs.List.{AllByRecursion}
use Rattle.std.specs.Int.{bit_at}
use Rattle.std.proofs.lemmas.Bool.{eq-eqb, eqb-true}
use Rattle.std.proofs.lemmas.Nat.Bits.{bit_at_or, bit_at-lt, bit_at-pow_same}
use Rattle.rv64_priv.specs.State.{Arch}
use Rattle.rv64_priv.specs.declared.state.Regime.{Regime}
use Rattle.rv64_priv.specs.Walk.{Walked, PageFault}
use Rattle.rv64_exec.specs.declared.needs.Answer.{Answer}
use Rattle.rv64_exec.specs.declared.needs.Need.{Need}
use Rattle.machine_model.specs.Event.{only}
use Rattle.machine_model.specs.Lawful.{flushing, flushing_of_call}
use Rattle.machine_model.specs.Own.{Own}
use Rattle.machine_model.specs.Perform.{Surroundings, call_outcome, perform}
use Rattle.machine_model.specs.Sbi.{Call, arg, bits_of, named, sbi_of}
use Rattle.machine_model.specs.State.{Setup}
use Rattle.machine_model.specs.Walks.{access_of}
use Rattle.guest_ram.specs.Ports.{Shown, layout_of}
use Rattle.tlb_entry.specs.declared.books.Book.{Book}
use Rattle.hart_calls.specs.Asked.{IsAsked}
use Rattle.hart_calls.specs.Spans.{flush_of}
use Rattle.hart_calls.specs.declared.asking.Asked.{Asked}
use Rattle.hart_calls.specs.declared.spans.Span.{Span}
use Rattle.sbi_calls.specs.Fences.{IsAnsweredAt}
use Rattle.sbi_calls.specs.Spans.{is_named}
use Rattle.turn_pieces.specs.Doing.{IsQuiet}
use Rattle.turn_pieces.specs.Grows.{stays}
use Rattle.turn_pieces.specs.Log.{Log, events_of, steps_of}
use Rattle.turn_pieces.specs.Right.{AreFenced, IsExec, MayBe, SeenFor}
use Rattle.turn_pieces.proofs.Unmarked.{unmarked_did}
use Rattle.access_pieces.specs.Serving.{Rests, Wants}
use Rattle.access_pieces.proofs.Counting.{counted_did}
use Rattle.call_pieces.proofs.Placing.{flush_as, rested}
use Rattle.fence_pieces.specs.Behind.{IsBehind}
use Rattle.fence_pieces.specs.Ending.{AreAllDone, FencesAreDone, executed}
use Rattle.fence_pieces.specs.Owning.{ArePiecesFlushed}
use Rattle.fence_pieces.proofs.Owning.{fences_stand}

-- THE HARTS OF A MASK

named_first : (h bits : ℕ) → is_named (bit_or (2 ^ h) bits) h ≡ true
named_first h bits =
    let one : bit_at (bit_or (2 ^ h) bits) h ≡ 1 = omega (arith, bit_at_or (2 ^ h) bits h, bit_at-pow_same h, bit_at-lt bits h) in
    eq-eqb (bit_at (bit_or (2 ^ h) bits) h) 1 one

named_later : (h t bits : ℕ) → is_named bits t ≡ true → is_named (bit_or (2 ^ h) bits) t ≡ true
named_later h t bits set =
    let was : bit_at bits t ≡ 1 = eqb-true (bit_at bits t) 1 set in
    let one : bit_at (bit_or (2 ^ h) bits) t ≡ 1 = omega (arith, bit_at_or (2 ^ h) bits t, bit_at-lt (2 ^ h) t, was) in
    eq-eqb (bit_at (bit_or (2 ^ h) bits) t) 1 one

-- what holds of each hart named holds of each of the list
all_listed : (P : ℕ → Type 0) (harts : List ℕ) → ((t : ℕ) → is_named (bits_of harts) t ≡ true → P t) → AllByRecursion P harts
all_listed P [] f = tt
all_listed P (h ∷ harts) f = (f h (named_first h (bits_of harts)), all_listed P harts (λ t set. f t (named_later h t (bits_of harts) set)))

-- THE REFERENCE MACHINE'S CALL

call_done : (w : Surroundings) (h : ℕ) (c : Arch) (walk second : Walked) → call_outcome w.memory w.room (sbi_of w.layout w.modes w.memory c) ≡ perform w h c walk second Need.Sbi
unfolding perform
call_done w h c walk second = refl

quiet_call : (a : ℕ) → IsQuiet (executed a)
quiet_call a = record { does = record { entry_is = refl; bytes_are = refl; reason_is = refl; starts_is = refl; stops_is = refl }; begins_not = refl }

module _ (others : ℕ → Bool) (o : Own) (q : Shown) (b : Book) (r : Regime) (c : Arch) (harts : ℕ) (span : Span) (u : Setup) (a : ℕ) (base l : Log) (x : Rests others o q b r u a l) (wants : Wants o c Need.Sbi)
    (asked : IsAsked (layout_of q) c (Asked.Fences harts span)) (behind : IsBehind a base l) (done : AreAllDone harts span q a base l) where
  called : (w : Surroundings) → MayBe u a l w → sbi_of w.layout w.modes w.memory c ≡ Call.Fences (named (layout_of q).harts (arg c 0) (arg c 1)) (flush_of span)
  called w m = ap (λ k. sbi_of k w.modes w.memory c) (m.layout ∙ x.tells.tells.stands.layout) ∙ sym (asked.is w.modes w.memory)

  stand : AreFenced a l (Some (record { harts = named (layout_of q).harts (arg c 0) (arg c 1); what = flush_of span }))
  stand = fences_stand span q a base l (named (layout_of q).harts (arg c 0) (arg c 1)) x.tells.tells.stands.actor x.tells.tells.stands.is behind
      (all_listed (λ t. (t ≡ a → ArePiecesFlushed span a a (events_of l)) × (t ≢ a → IsAnsweredAt span t (steps_of base) q)) (named (layout_of q).harts (arg c 0) (arg c 1))
      (λ t set. done t (ap (λ n. is_named n t) (sym asked.sound.0) ∙ set)))

  fenced : (w : Surroundings) → MayBe u a l w → AreFenced a l (flushing w a c Need.Sbi)
  fenced w m = subst (AreFenced a l) (sym (flush_as w a c ∙ ap flushing_of_call (called w m))) stand

  right : (w : Surroundings) → MayBe u a l w → only (Answer.Pair (pos 0) 0) ≡ perform w a c PageFault PageFault Need.Sbi
  right w m = sym (ap (call_outcome w.memory w.room) (called w m)) ∙ call_done w a c PageFault PageFault

  fit : IsExec u a l PageFault PageFault (only (Answer.Pair (pos 0) 0)) o
  fit = record {
    holds = wants.holds;
    shown = subst (λ (n : Need). SeenFor u.layout.pages a o.arch (access_of n) PageFault PageFault l) (sym wants.need_is) tt;
    flushed = λ w m. subst (AreFenced a l) (sym (λ i. flushing w a (wants.arch_is i) (wants.need_is i))) (fenced w m);
    right = λ w m. right w m ∙ sym (λ i. perform w a (wants.arch_is i) PageFault PageFault (wants.need_is i));
  }

pub fences_are_done : FencesAreDone
fences_are_done others o q b r c harts span u a base l x hart wants asked behind done =
    let k = rested o b r (only (Answer.Pair (pos 0) 0)) u a q l l (record { grows = stays; tells = x.tells }) x.idle hart (fit others o q b r c harts span u a base l x wants asked behind done) (quiet_call a) in record {
      grows = k.grows;
      settles = record { tells = k.tells; settled = λ page free. unmarked_did u a page l (executed a) (x.settled page free) };
      counts = counted_did a l (executed a) refl refl;
    }
