-- Bytes of RAM that a call prints in its section are one execution.
use Rattle.std.proofs.Common.{◌≡◌, ◌≢◌, ℕ, zero, suc, ◌+◌, ◌<◌, ◌≤◌, ◌^◌, Bool, true, false, List, [], ◌∷◌, Some, None, refl, sym, ap, subst, ◌∙◌, arith, length}
use Rattle.std.specs.Prelude.{◌-◌, ◌/◌, nat_lt, if◌then◌else◌}
use Rattle.rv64_priv.specs.State.{Arch}
use Rattle.rv64_priv.specs.Csr.{regime}
use Rattle.rv64_priv.specs.Walk.{PageFault}
use Rattle.rv64_exec.specs.declared.needs.Need.{Need}
use Rattle.step_laws.specs.declared.words.Layout.{Layout}
use Rattle.step_laws.specs.declared.steps.Step.{Step}
use Rattle.step_laws.specs.declared.steps.WordOp.TheVariants.{Add, Exchange}
use Rattle.step_laws.specs.Map.{Cons, Stop, name_of}
use Rattle.step_laws.specs.Sections.{IsInSection}
use Rattle.step_laws.specs.Words.{console_places, ram_word}
use Rattle.step_laws.proofs.Numbered.{named_ram}
use Rattle.machine_model.specs.declared.reason.Reason.{Reason}
use Rattle.machine_model.specs.Event.{Exec}
use Rattle.machine_model.specs.Lawful.{flushing, flushing_of_call}
use Rattle.machine_model.specs.Memory.{Memory}
use Rattle.machine_model.specs.Own.{Own, own_executed}
use Rattle.machine_model.specs.Perform.{Surroundings}
use Rattle.machine_model.specs.Sbi.{bytes_from, sbi_of}
use Rattle.machine_model.specs.State.{Setup}
use Rattle.guest_ram.specs.Plays.{step_of}
use Rattle.guest_ram.specs.Ports.{Shown, layout_of}
use Rattle.guest_ram.proofs.Moves.{goes_made}
use Rattle.guest_devices.specs.Output.{HasSetStop}
use Rattle.tlb_entry.specs.declared.books.Book.{Book}
use Rattle.kept_fills.proofs.Staying.{fills_stay}
use Rattle.tlb_fill.proofs.Marking.{same_goes}
use Rattle.turn_pieces.specs.Doing.{AreFollowing, HasRoom, IsCutShort, first_drawn}
use Rattle.turn_pieces.specs.Draws.{may_draw}
use Rattle.turn_pieces.specs.Folds.{are_some, drawn_next, known_word_next, stored_next, unstored_next}
use Rattle.turn_pieces.specs.Kept.{bytes, known_word, places}
use Rattle.turn_pieces.specs.KeptWalks.{flushes_in}
use Rattle.turn_pieces.specs.Log.{made, did, Log, steps_of}
use Rattle.turn_pieces.specs.Owed.{PaysFor, books, draws, gives, nothing, owed, unstored, unstored_did}
use Rattle.turn_pieces.specs.Right.{IsExec, IsFit, MayBe}
use Rattle.turn_pieces.specs.Grows.{Ends, IsClear, Part, does, makes, stays}
use Rattle.turn_pieces.specs.Shared.{IsShared}
use Rattle.turn_pieces.proofs.Accesses.{step_stands}
use Rattle.turn_pieces.proofs.Calls.{call_begins}
use Rattle.turn_pieces.proofs.Following.{first_there}
use Rattle.turn_pieces.proofs.Offers.{draw_in_call, free, print_all}
use Rattle.turn_pieces.proofs.Sections.{Plain, plain_section}
use Rattle.turn_pieces.proofs.Writers.{grows_then, owed_named, tells_did}
use Rattle.access_pieces.specs.Serving.{Wants, view}
use Rattle.access_pieces.proofs.Counting.{counted_did}
use Rattle.call_pieces.specs.Idle.{Called, Idles}
use Rattle.hart_calls.specs.declared.asking.Asked.{Asked}
use Rattle.hart_calls.specs.declared.outcomes.SbiEnd.{SbiEnd}
use Rattle.hart_calls.specs.Asked.{IsAsked}
use Rattle.hart_calls.specs.Called.{HasWritten, IsOfHartCalls, all_put, fills, no_byte}
use Rattle.hart_calls.specs.Ends.{succeeds}
use Rattle.hart_calls.specs.Printing.{HasCopied, HasRunOut, begins_word}
use Rattle.hart_calls.specs.States.{IsRunner}
use Rattle.call_laws.specs.Did.{did_writing}
use Rattle.call_laws.specs.Found.{IsFoundFrom, IsFoundWriting}
use Rattle.call_pieces.specs.Printing.{BytesAreServed}
use Rattle.call_pieces.proofs.Copying.{Copying, bytes_many, copied, ready}
use Rattle.call_pieces.proofs.Room.{AreWithin, cut_there, room_left, room_there}
use Rattle.call_pieces.proofs.Placing.{calls_off, did_is, exec_fit, flush_as}
use Rattle.call_pieces.proofs.Served.{calls_served}

some_bytes : (finds : Memory) (from count : ℕ) → count ≢ 0 → are_some (bytes_from finds from count) ≡ true
some_bytes finds from zero some = absurd (some refl)
some_bytes finds from (suc n) some = refl

stored_add : (ds bs : List ℕ) → length ds ≡ length bs → stored_next Cons Add 1 ds bs ≡ bs
stored_add [] [] e = refl
stored_add [] (b ∷ bs) e = absurd (cc (e))
stored_add (d ∷ ds) bs e = refl

not_below : (n : ℕ) → console_places ≤ n → nat_lt n console_places ≡ false
not_below n le = grind (arith, le)

-- a word of RAM is the reference machine's too
ram_shared : (pa : ℕ) → IsShared (name_of (ram_word pa))
ram_shared pa = subst IsShared (sym (named_ram ((pa - 2 ^ 31) / 8))) tt

module _ (p q : Shown) (b : Book) (c : Arch) (from count : ℕ) (runner : IsRunner p) (may : may_draw p.own.steps ≡ true) (is : IsAsked (layout_of p) c (Asked.Prints from count)) (inside : IsInSection (layout_of p) p.own.actor p.own.steps)
    (some : count ≢ 0) (o : Own) (wants : Wants o c Need.Sbi) (u : Setup) (a : ℕ) (l : Log) (t : Idles o p b (regime c) u a l) where
  layout_is : u.layout ≡ layout_of p
  layout_is = t.tells.tells.stands.layout

  there : a < u.layout.harts
  there = subst (λ n. n < u.layout.harts) (sym t.tells.tells.stands.actor) (subst (λ (y : Layout). p.own.actor < y.harts) (sym layout_is) runner.hart)

  inside_there : IsInSection u.layout a (steps_of l)
  inside_there = subst (λ (y : Layout). IsInSection y a (steps_of l)) (sym layout_is) (subst (λ n. IsInSection (layout_of p) n (steps_of l)) (sym t.tells.tells.stands.actor) (subst (λ (r : List Step). IsInSection (layout_of p) p.own.actor r) (sym t.tells.tells.stands.is) inside))

  above : 2 ^ 31 ≤ from
  above = let x = is.sound.1 some in x.0

  begins : (finds : Memory) → Copying o b (regime c) u a t.tells.fills finds from 0 p l l
  begins finds = record {
    grows = stays;
    stands = t.tells.tells.stands;
    drawn = [];
    call = call_begins u a l t.tells.tells.clear t.tells.tells.none_drawn t.tells.tells.none_left inside_there;
    many = refl;
    owes = λ z. absurd (z refl);
    last = tt;
    may = subst (λ (r : List Step). may_draw r ≡ true) (sym t.tells.tells.stands.is) may;
    known = λ i less. absurd (omega (arith, less));
    goes = t.tells.goes;
  }

  calm_call : (w : Surroundings) → w.layout ≡ layout_of p → flushing w a c Need.Sbi ≡ None
  calm_call w same = flush_as w a c ∙ ap (λ z. flushing_of_call (sbi_of z w.modes w.memory c)) same ∙ ap flushing_of_call (sym (is.is w.modes w.memory))

  fits : (end : SbiEnd) (done : HasWritten p q from count end true) (k : Log) → ((w : Surroundings) → MayBe u a k w → IsFoundWriting w p q from count end true done) → IsExec u a k PageFault PageFault (did_writing p q from count end true done) o
  fits end done k found = exec_fit o c (did_writing p q from count end true done) u a k wants (λ w m. calm_call w (m.layout ∙ layout_is))
      (λ w m. did_is p q c true (Asked.Prints from count) end done is w a PageFault PageFault (m.layout ∙ layout_is) (found w m))

  memory_found : (finds : Memory) (n : ℕ) (k : Log) (w : Surroundings) → n ≤ count → MayBe u a k w → IsInSection u.layout a (steps_of k) → ((i : ℕ) → i < n → known_word (ram_word (from + i)) k ≡ Some (finds (ram_word (from + i)))) → IsFoundFrom w.memory finds from n
  memory_found finds n k w few m sect known = λ i less. m.section sect (ram_word (from + i)) (finds (ram_word (from + i))) (ram_shared (from + i)) (known i less)

  -- all find a place: the execution stands at the last store
  pub all_served : (finds : Memory) (x : HasCopied finds from count p q) → Ends u a l (Called (own_executed (did_writing p q from count (succeeds count) true (all_put finds some x)) o) q b (regime c) u a)
  all_served finds x =
      let z = copied o b (regime c) u a t.tells.fills finds from count p q l above (begins finds) x in
      let k = z.0 in
      let y = z.1 in
      let out = did_writing p q from count (succeeds count) true (all_put finds some x) in
      let e = Exec a PageFault PageFault out in
      let size : length (places k) ≡ count = ap length y.call.drawn ∙ y.many in
      let room : AreFollowing (places k) → HasRoom (places k) = room_there (places k) (λ none. some (sym size ∙ none)) (subst AreWithin (sym y.call.drawn) y.last) in
      let fit = fits (succeeds count) (all_put finds some x) k (λ w m. (memory_found finds count k w (omega arith) m y.call.inside y.known, enough w m (room m.follow) size)) in record {
        late = did e ∷ k;
        grows = grows_then u a l k y.grows (print_all u a k e (y.owes some) room refl (subst (IsFit u a k e) (sym y.stands.part_is) (there, fit))
            (record { does = record { entry_is = refl; bytes_are = sym y.call.stored; reason_is = refl; starts_is = refl; stops_is = refl }; begins_not = refl }));
        holds = record {
          tells = record {
            tells = tells_did o (view q) u a k e y.stands refl (ap (λ (g : Bool). if g then [] else places k) (some_bytes finds from count some)) (λ i. unstored_did (y.owes some i) (bytes_from finds from count) (y.call.none i));
            fills = t.tells.fills;
            goes = y.goes;
          };
          counts = counted_did a k e refl refl;
        };
      }
    where
      enough : {k : Log} (w : Surroundings) → MayBe u a k w → HasRoom (places k) → length (places k) ≡ count → count ≤ w.room
      enough w m room size = let free = m.room room.first room.first_is in let fit = room.fits in omega (arith, free, fit, size)

  -- one finds none: STOP is exchanged, and the execution stands there
  pub short_served : (finds : Memory) (mid : Shown) (stands : Reason) (x : HasRunOut finds from count p mid) (y : HasSetStop Reason.OutFull stands mid q)
      → Ends u a l (Called (own_executed (did_writing p q from count (SbiEnd.Over Reason.OutFull) true (fills finds mid stands x y)) o) q b (regime c) u a)
  short_served finds mid stands x y =
      let n = x.put in
      let f = x.stops in
      let z = copied o b (regime c) u a t.tells.fills finds from n p x.mid l above (begins finds) x.copies in
      let g = ready o b (regime c) u a t.tells.fills finds from n x.mid f.mid l z.0 above z.1 (begins_word from n) refl f.loads in
      let k = g.0 in
      let j = g.1 in
      let s = step_of f.mid.own.actor f.draws.draws.word Add 1 f.place in
      let d = step_of mid.own.actor y.exchanges.word (Exchange 0) 4 y.found in
      let k1 = made s ∷ k in
      let k2 = made d ∷ k1 in
      let out = did_writing p q from count (SbiEnd.Over Reason.OutFull) true (fills finds mid stands x y) in
      let e = Exec a PageFault PageFault out in
      let fewer = x.fewer in
      let beyond = f.draws.beyond in
      let even : length j.drawn ≡ length (bytes_from finds from n) = j.many ∙ sym (bytes_many o b (regime c) u a t.tells.fills finds from n) in
      let drawn1 : places k1 ≡ f.place ∷ j.drawn = ap (λ w. drawn_next w Add f.place (places k)) f.draws.draws.name ∙ ap (λ ds. f.place ∷ ds) j.call.drawn in
      let drawn : places k2 ≡ f.place ∷ j.drawn = ap (λ w. drawn_next w (Exchange 0) y.found (places k1)) y.exchanges.name ∙ drawn1 in
      let stored1 : bytes k1 ≡ bytes_from finds from n = (λ i. stored_next (f.draws.draws.name i) Add 1 (j.call.drawn i) (j.call.stored i)) ∙ stored_add j.drawn (bytes_from finds from n) even in
      let stored : bytes k2 ≡ bytes_from finds from n = λ i. stored_next (y.exchanges.name i) (Exchange 0) 4 (drawn1 i) (stored1 i) in
      let left1 : unstored k1 ≡ None = ap (λ w. unstored_next w Add f.place [] (unstored k)) f.draws.draws.name ∙ j.call.none in
      let left : unstored k2 ≡ None = ap (λ w. unstored_next w (Exchange 0) y.found [] (unstored k1)) y.exchanges.name ∙ left1 in
      let idle : owed k1 ≡ nothing = owed_named k s Cons Add f.draws.draws.name refl ∙ ap (λ (v : Bool). if v then draws f.place else nothing) (not_below f.place f.draws.beyond) in
      let clear : IsClear (owed k1) = subst IsClear (sym idle) tt in
      let due : owed k2 ≡ gives 4 = owed_named k1 d Stop (Exchange 0) y.exchanges.name refl in
      let st = step_stands o (view mid) (view q) u a k1 d (ap view y.exchanges.step) (step_stands o (view f.mid) (view mid) u a k s (ap view f.draws.draws.step) j.stands) in
      let opened = first_there f.place j.drawn in
      let filled : AreFollowing (places k2) → console_places - opened.0 ≡ n = λ follow. room_left f.place j.drawn j.last beyond (subst AreFollowing drawn follow) opened.0 opened.1 ∙ j.many in
      let within : IsInSection u.layout a (steps_of k2) = plain_section u a d (steps_of k1) (subst (λ w. Plain w (Exchange 0)) (sym y.exchanges.name) tt) (plain_section u a s (steps_of k) (subst (λ w. Plain w Add) (sym f.draws.draws.name) tt) j.call.inside) in
      let known : (i : ℕ) → i < n → known_word (ram_word (from + i)) k2 ≡ Some (finds (ram_word (from + i))) = λ i less. ap (λ w. known_word_next (ram_word (from + i)) w (Exchange 0) y.exchanges.word y.found (known_word (ram_word (from + i)) k1)) y.exchanges.name
      ∙ ap (λ w. known_word_next (ram_word (from + i)) w Add f.draws.draws.word f.place (known_word (ram_word (from + i)) k)) f.draws.draws.name ∙ j.known i (omega (arith, less)) in
      let fit = fits (SbiEnd.Over Reason.OutFull) (fills finds mid stands x y) k2 (λ w m. (memory_found finds n k2 w (omega (arith, fewer)) m within known, m.room opened.0 (ap first_drawn drawn ∙ opened.1) ∙ filled m.follow)) in record {
        late = did e ∷ k2;
        grows = does e (makes d (grows_then u a l k j.grows (draw_in_call u a k s f.draws.draws.name refl refl j.may j.call.rests)) (free u a k1 clear d Stop (Exchange 0) y.exchanges.name refl refl tt tt)) (record {
          own = refl;
          fit = subst (IsFit u a k2 e) (sym st.part_is) (there, fit);
          pays = subst (λ v. PaysFor a (books k2) v e) (sym due) (record {
            reason = Reason.OutFull;
            is = refl;
            pays = record { does = record { entry_is = refl; bytes_are = sym stored; reason_is = refl; starts_is = refl; stops_is = refl }; begins_not = refl };
            fills_it = λ follow. subst (λ ds. IsCutShort ds (bytes k2)) (sym drawn) (subst (IsCutShort (f.place ∷ j.drawn)) (sym stored)
                (cut_there f.place j.drawn (bytes_from finds from n) j.last beyond (sym even) (subst AreFollowing drawn follow)));
          });
        });
        holds = record {
          tells = record {
            tells = tells_did o (view q) u a k2 e st refl refl (λ i. unstored_did (due i) (bytes_from finds from n) (left i));
            fills = t.tells.fills;
            goes = fills_stay mid q b (regime c) (flushes_in a k1) t.tells.fills (d ∷ []) (ap (λ (v : Shown). v.own.steps) y.exchanges.step) (same_goes 1 IsOfHartCalls mid q calls_off (goes_made IsOfHartCalls mid q Stop (Exchange 0) 4 y.found y.exchanges tt))
                (fills_stay f.mid mid b (regime c) (flushes_in a k) t.tells.fills (s ∷ []) (ap (λ (v : Shown). v.own.steps) f.draws.draws.step) (same_goes 1 IsOfHartCalls f.mid mid calls_off (goes_made IsOfHartCalls f.mid mid Cons Add 1 f.place f.draws.draws tt)) j.goes);
          };
          counts = counted_did a k2 e refl refl;
        };
      }

none_served : (p q : Shown) (b : Book) (c : Arch) (from count : ℕ) (end : SbiEnd) (done : HasWritten p q from count end true) → IsRunner p → may_draw p.own.steps ≡ true → IsAsked (layout_of p) c (Asked.Prints from count) → count ≡ 0
    → (o : Own) → Wants o c Need.Sbi → Part (Idles o p b (regime c)) (Called (own_executed (did_writing p q from count end true done) o) q b (regime c))
none_served p q b c from count end done runner may is none o wants = calls_served p q b c true (Asked.Prints from count) end done runner may is none o wants

pub bytes_served : BytesAreServed
bytes_served p q b c from count end (no_byte none same) runner may is inside o wants = none_served p q b c from count end (no_byte none same) runner may is none o wants
bytes_served p q b c from count end (all_put finds some x) runner may is inside o wants = λ u a l t. all_served p q b c from count runner may is inside some o wants u a l t finds x
bytes_served p q b c from count end (fills finds mid stands x y) runner may is inside o wants =
    let fewer = x.fewer in
    let some : count ≢ 0 = λ e. omega (arith, fewer, e) in
    λ u a l t. short_served p q b c from count runner may is inside some o wants u a l t finds mid stands x y
