-- A stopped hart's start, in its log: its look at HSM, the flush with its event, its looks at START and OPAQUE, and the store in HSM with its event.
use Rattle.std.proofs.Common.{◌≡◌, ℕ, ◌+◌, ◌<◌, Bool, true, false, [], ◌∷◌, Some, refl, sym, ap, subst, ◌∙◌, arith, inr}
use Rattle.std.specs.Prelude.{◌==◌, ◌||◌, if◌then◌else◌}
use Rattle.std.proofs.lemmas.Bool.{eq-eqb}
use Rattle.rv64_priv.specs.Flush.{Full}
use Rattle.step_laws.specs.declared.words.Layout.{Layout}
use Rattle.step_laws.specs.declared.steps.WordOp.TheVariants.{Exchange, Load, Store}
use Rattle.step_laws.specs.Harts.{call_of, idle, taking, taking_next}
use Rattle.step_laws.specs.Map.{Hsm, Lock, Opaque, Start as StartWord, name_of}
use Rattle.step_laws.proofs.Named.{same_refl}
use Rattle.machine_model.specs.Event.{Flushes, Start as Begin}
use Rattle.guest_ram.specs.Ports.{Made, Shown}
use Rattle.guest_ram.proofs.Moves.{acting_adds, fold_adds}
use Rattle.tlb_entry.specs.declared.books.Book.{Book}
use Rattle.kept_fills.specs.Beside.{IsBeside}
use Rattle.flush.specs.Flushed.{full_steps}
use Rattle.turn_pieces.specs.Folds.{drawn_next, flushed_all_next, handed_on_next, is_waiting, unstored_next}
use Rattle.turn_pieces.specs.Kept.{handed_on, has_flushed_all, places}
use Rattle.turn_pieces.specs.Log.{did, made, steps_of}
use Rattle.turn_pieces.specs.Owed.{begun, unstored}
use Rattle.turn_pieces.specs.Writers.{quietly}
use Rattle.turn_pieces.proofs.Offers.{free}
use Rattle.turn_pieces.proofs.Writers.{grows_then, owed_named}
use Rattle.table_pieces.specs.Flushing.{IsNotDue}
use Rattle.table_pieces.proofs.Placing.{full_is_placed}
use Rattle.fence_pieces.specs.Asking.{HasPassed}
use Rattle.hart_signals.proofs.Aside.{IsOffLock, beside_goes}
use Rattle.signal_pieces.specs.Laws.{HeldStartsPass, StartsStand, StoppedPass}
use Rattle.signal_pieces.proofs.Single.{goes_one, one_passes, one_stands, passed, step_at, uncounted}

own_test : {A : Type 0} (a : ℕ) (x y : A) → (if a == a then x else y) ≡ x
own_test a x y = ap (λ (b : Bool). if b then x else y) (eq-eqb a a refl)

-- behind its look at HSM, which was 2, the hart waits for its start
waits : (p q : Shown) (m : Made p q (Hsm p.own.actor) Load 0 2) → is_waiting (taking p.own.actor q.own.steps) ≡ true
waits p q m = ap is_waiting (fold_adds (taking_next p.own.actor) idle p q m.word 0 2 Load (Hsm p.own.actor) m.step m.name ∙ own_test p.own.actor (call_of 2) (taking p.own.actor p.own.steps))

beside_called : (b : Book) (p q : Shown) (m : Made p q (Hsm p.own.actor) Load 0 2) → IsBeside b p → IsBeside b q
beside_called b p q m can = beside_goes b 1 (λ v. v ≡ Hsm p.own.actor) p q (λ v e. subst IsOffLock (sym e) tt) (goes_one p q (Hsm p.own.actor) Load 0 2 m)
    (acting_adds p q m.word 0 2 Load (Hsm p.own.actor) m.step m.name (λ z. refl) can.acting) can

pub starts_stand : StartsStand
starts_stand start p q b b' r later can x others o u a l rest still =
    let own : p.own.actor ≡ a = sym rest.tells.tells.stands.actor in
    let h = p.own.actor in
    let s1 = step_at p x.finds.word Load 0 2 in
    let l1 = made s1 ∷ l in
    let y1 = one_passes p x.called (Hsm h) Load 0 2 x.finds tt refl tt (λ n. tt) b r others o u a l rest in
    let wait : is_waiting (taking a (steps_of l1)) ≡ true = (λ i. is_waiting (taking (sym own i) (y1.rests.tells.tells.stands.is i))) ∙ waits p x.called x.finds in
    let f = full_is_placed x.called x.flushed b b' r later (full_steps b.size) (beside_called b p x.called x.finds can) x.flushes x.goes others o u a l1 y1.rests still in
    let l2 = did (Flushes a Full) ∷ quietly f.added l1 in
    let s3 = step_at x.flushed x.places.word Load 0 start.at in
    let y3 = one_passes x.flushed x.placed (StartWord h) Load 0 start.at x.places tt refl tt (λ n. tt) b' later others o u a l2 f.rests in
    let l3 = made s3 ∷ l2 in
    let s4 = step_at x.placed x.hands.word Load 0 start.opaque in
    let y4 = one_passes x.placed x.handed (Opaque h) Load 0 start.opaque x.hands tt refl tt (λ n. tt) b' later others o u a l3 y3.rests in
    let l4 = made s4 ∷ l3 in
    let m = x.begins in
    let s5 = step_at x.handed m.word Store 0 0 in
    let actor : x.handed.own.actor ≡ a = sym y4.rests.tells.tells.stands.actor in
    let name5 : name_of m.word ≡ Hsm a = m.name ∙ ap Hsm own in
    let name3 : name_of x.places.word ≡ StartWord a = x.places.name ∙ ap StartWord own in
    let name4 : name_of x.hands.word ≡ Opaque a = x.hands.name ∙ ap Opaque own in
    let at3 : handed_on a (StartWord a) l3 ≡ Some start.at = ap (λ v. handed_on_next a (StartWord a) v Load start.at (handed_on a (StartWord a) l2)) name3 ∙ ap (λ (t : Bool). if t then Some start.at else handed_on a (StartWord a) l2) (same_refl (StartWord a)) in
    let at4 : handed_on a (StartWord a) l4 ≡ Some start.at = ap (λ v. handed_on_next a (StartWord a) v Load start.opaque (handed_on a (StartWord a) l3)) name4 ∙ at3 in
    let opaque4 : handed_on a (Opaque a) l4 ≡ Some start.opaque = ap (λ v. handed_on_next a (Opaque a) v Load start.opaque (handed_on a (Opaque a) l3)) name4 ∙ ap (λ (t : Bool). if t then Some start.opaque else handed_on a (Opaque a) l3) (same_refl (Opaque a)) in
    let flushed2 : has_flushed_all a l2 ≡ true = f.begins refl wait in
    let flushed3 : has_flushed_all a l3 ≡ true = ap (λ v. flushed_all_next a v Load false (has_flushed_all a l2)) name3 ∙ ap (λ (t : Bool). t || false) flushed2 in
    let flushed4 : has_flushed_all a l4 ≡ true = ap (λ v. flushed_all_next a v Load false (has_flushed_all a l3)) name4 ∙ ap (λ (t : Bool). t || false) flushed3 in
    let not_due4 : IsNotDue o u a l4 = uncounted u a (quietly f.added l1) (Flushes a Full) o.count refl refl in
    let less : a < u.layout.harts = subst (λ n. n < u.layout.harts) own (subst (λ (z : Layout). h < z.harts) (sym rest.tells.tells.stands.layout) can.hart) in
    let g = one_stands x.handed q (Hsm h) Store 0 0 m tt refl b' later others o u a l4 (Begin a start.at start.opaque) begun (record { tells = y4.rests.tells; settled = y4.rests.settled })
    (free u a l4 y4.rests.tells.tells.clear s5 (Hsm a) Store name5 refl (inr (refl, omega arith)) tt tt) (owed_named l4 s5 (Hsm a) Store name5 refl)
    (ap (λ v. drawn_next v Store 0 (places l4)) name5 ∙ y4.rests.tells.tells.none_drawn) (ap (λ v. unstored_next v Store 0 [] (unstored l4)) name5 ∙ y4.rests.tells.tells.none_left) (λ bs. refl) refl
    (less, record { not_due = not_due4; stored = (name5, refl, refl); at_is = at4; opaque_is = opaque4; flushed_all = flushed4 })
    (start.at, start.opaque, refl) refl (λ items. refl) in record {
      late = g.late;
      grows = grows_then u a l l1 {n = g.late} y1.grows (grows_then u a l1 l2 {n = g.late} f.grows (grows_then u a l2 l3 {n = g.late} y3.grows (grows_then u a l3 l4 {n = g.late} y4.grows g.grows)));
      settles = g.settles;
      not_due = g.not_due;
    }

pub stopped_pass : StoppedPass
stopped_pass p q b b' r x others o u a l rest still =
    subst (λ (z : Book). HasPassed others o p q z r u a l) (sym x.book)
    (passed p q b r (step_at p x.finds.word Load 0 x.found ∷ []) others o u a l (ap (λ (y : Shown). y.own.steps) x.finds.step) still
    (one_passes p q (Hsm p.own.actor) Load 0 x.found x.finds tt refl tt (λ n. tt) b r others o u a l rest))

pub held_starts_pass : HeldStartsPass
held_starts_pass holder p q b b' r x others o u a l rest still =
    let s1 = step_at p x.finds.word Load 0 2 in
    let y1 = one_passes p x.called (Hsm p.own.actor) Load 0 2 x.finds tt refl tt (λ n. tt) b r others o u a l rest in
    let m = x.busy.found.1 in
    let s2 = step_at x.called m.word (Exchange 0) (x.called.own.actor + 1) holder in
    let y2 = one_passes x.called q (Lock b.hart) (Exchange 0) (x.called.own.actor + 1) holder m tt refl tt (λ n. tt) b r others o u a (made s1 ∷ l) y1.rests in
    subst (λ (z : Book). HasPassed others o p q z r u a l) (sym x.busy.book)
    (passed p q b r (s2 ∷ s1 ∷ []) others o u a l (ap (λ (y : Shown). y.own.steps) m.step ∙ ap (λ (y : Shown). s2 ∷ y.own.steps) x.finds.step) still
    (record { grows = grows_then u a l (made s1 ∷ l) y1.grows y2.grows; rests = y2.rests }))
