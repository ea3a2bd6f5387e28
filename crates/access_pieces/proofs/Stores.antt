-- Stores are served.
use Rattle.rv64_exec.specs.declared.needs.Need.{Need}
use Rattle.std.specs.Prelude.{◌<◌, ◌^◌, true, IsTrue}
use Rattle.rv64_exec.specs.Widths.{is_width}
use Rattle.std.proofs.Common.{◌≡◌, ℕ, Bool, false, List, Ok, Err, Result, refl, sym, ap, subst, ◌∙◌}
use Rattle.rv64_priv.specs.State.{Arch}
use Rattle.rv64_priv.specs.Csr.{regime}
use Rattle.rv64_priv.specs.declared.state.Kind.{Kind}
use Rattle.step_laws.specs.declared.steps.Step.{Step}
use Rattle.step_laws.specs.declared.steps.WordOp.{WordOp}
use Rattle.step_laws.specs.Map.{Word, Ram, Dirty, Lock, Size, Tlb}
use Rattle.guest_ram.specs.Ports.{Shown, GoesBy}
use Rattle.guest_ram.proofs.Moves.{fold_goes}
use Rattle.tlb_entry.specs.declared.books.Book.{Book}
use Rattle.tlb_fill.specs.Stepping.{IsOfFill}
use Rattle.turn_pieces.specs.Draws.{may_draw, may_draw_next}
use Rattle.turn_pieces.specs.Grows.{Ends}
use Rattle.guest_access.specs.declared.outcomes.Got.{Got}
use Rattle.guest_access.specs.declared.reaching.Place.{Place}
use Rattle.guest_access.specs.declared.reaching.Place.TheVariants as at
use Rattle.guest_access.specs.Reaching.{HasReached, by_one, by_two}
use Rattle.guest_access.specs.Reaching.{CanAccess}
use Rattle.guest_access.specs.Storing.{HasStored, in_word, on_device, over_words, unreached}
use Rattle.access_pieces.specs.Laws.{IsTold, StoresServe}
use Rattle.access_pieces.specs.Serving.{ServesBut, Served}
use Rattle.access_pieces.proofs.Arrived.{arrived}
use Rattle.access_pieces.proofs.Loads.{reach_ends}
use Rattle.access_pieces.proofs.Sections.{section_reached, word_within, words_sectioned}
use Rattle.access_pieces.proofs.StoresInRam.{store_unreached, word_stored, words_stored}
use Rattle.access_pieces.proofs.StoresOnDevices.{device_stored_on}

-- whatever pages may wait for a store before
module _ (others : ℕ → Bool) where
  draw_aside : (w : Word) (op : WordOp) (arg answer : ℕ) (x : Bool) → IsOfFill w → may_draw_next w op arg answer x ≡ x
  draw_aside (Ram i) op arg answer x t = refl
  draw_aside (Dirty i) op arg answer x t = refl
  draw_aside (Lock h) op arg answer x t = refl
  draw_aside (Size h) op arg answer x t = refl
  draw_aside (Tlb h j f) op arg answer x t = refl
  draw_aside w op arg answer x t = absurd t

  draw_goes : (p q : Shown) → GoesBy 15 IsOfFill p q → may_draw q.own.steps ≡ may_draw p.own.steps
  draw_goes p q goes = fold_goes may_draw_next false 15 IsOfFill p q draw_aside goes

  draw_reached : (p m : Shown) (b b' : Book) (c : Arch) (kind : Kind) (va width : ℕ) (section : Bool) (x : Result Place Got) → HasReached p m b b' (regime c) kind va width section x → may_draw m.own.steps ≡ may_draw p.own.steps
  draw_reached p m b b' c kind va width section x (by_one t call none e) = draw_goes p m call.goes
  draw_reached p m b b' c kind va width section x (by_two mid between t first call some y) = draw_goes mid m y.translates.goes ∙ draw_goes p mid call.goes

  stores_serve_but : (p q : Shown) (b b' : Book) (c : Arch) (va width value : ℕ) (section : Bool) (got : Got) → IsTrue (is_width width) → value < 2 ^ 64 → CanAccess b p → IsTold section p → may_draw p.own.steps ≡ true → HasStored p q b b' (regime c) va width value section got → ServesBut others p q b b' c (Need.Store va width value) got
  stores_serve_but p q b b' c va width value section got w few can told may (in_word {mid} {pa} reached x) = λ o wants u a l rests.
      word_stored others o p mid q b b' c va width pa value u a l can wants rests.tells few (word_within p mid b b' c Kind.Store va width pa section reached)
      (arrived others o p mid b b' c Kind.Store va width section (Ok (at.Word pa)) u a l w can.beside rests.tells rests.settled reached) got x
  stores_serve_but p q b b' c va width value section got w few can told may (over_words {mid} {first} {second} reached x e) = λ o wants u a l rests.
      subst (λ (g : Got). Ends u a l (Served others o g q b' (regime c) u a)) (sym e)
      (words_stored others o p mid q b b' c va width first second value u a l can wants rests.tells (arrived others o p mid b b' c Kind.Store va width section (Ok (at.Words first second)) u a l w can.beside rests.tells rests.settled reached) x
      (section_reached p mid b b' c Kind.Store va width section (Ok (at.Words first second)) reached (told (words_sectioned p mid b b' c Kind.Store va width first second section reached))))
  stores_serve_but p q b b' c va width value section got w few can told may (on_device {mid} {pa} {done} reached x e) = λ o wants u a l rests.
      let ar = arrived others o p mid b b' c Kind.Store va width section (Ok (at.Device pa)) u a l w can.beside rests.tells rests.settled reached in
      subst (λ (g : Got). Ends u a l (Served others o g q b' (regime c) u a)) (sym e)
      (device_stored_on others o p mid b b' c va width pa value u a l can wants rests.tells ar done q
      (ap (λ (r : List Step). may_draw r) ar.tells.tells.stands.is ∙ draw_reached p mid b b' c Kind.Store va width section (Ok (at.Device pa)) reached ∙ may) x)
  stores_serve_but p q b b' c va width value section got w few can told may (unreached reached) = λ o wants u a l rests.
      store_unreached others o p q b b' c va width value got u a l can wants rests.tells (reach_ends others p q b b' c Kind.Store va width section (Err got) reached)
      (arrived others o p q b b' c Kind.Store va width section (Err got) u a l w can.beside rests.tells rests.settled reached)

pub stores_serve : StoresServe
stores_serve p q b b' c va width value section got w few can told may x = λ others. stores_serve_but others p q b b' c va width value section got w few can told may x
