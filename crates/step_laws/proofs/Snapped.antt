-- The law of snapshots, from the facts on marks.
use Rattle.std.proofs.Common.{◌≡◌, ◌≢◌, ℕ, zero, suc, ◌+◌, ◌*◌, ◌/◌, ◌<◌, ◌≤◌, Bool, true, false, true≢false, List, [], ◌∷◌, ◌++◌, refl, sym, ap, subst, ◌∙◌, inl, inr, arith, ⊎_elim}
use Rattle.std.specs.Prelude.{◌==◌, ◌⊎◌, ◌&&◌, if◌then◌else◌}
use Rattle.std.proofs.lemmas.Bool.{cases_eq, cases_Bool, eq-eqb}
use Rattle.step_laws.specs.Words.{most_harts}
use Rattle.step_laws.specs.declared.words.Layout.{Layout}
use Rattle.step_laws.specs.declared.map.TlbField.TheVariants.{Page}
use Rattle.step_laws.specs.declared.steps.Step.{Step}
use Rattle.step_laws.specs.declared.steps.WordOp.{WordOp}
use Rattle.step_laws.specs.declared.steps.WordOp.TheVariants.{Load, Store, Swap}
use Rattle.step_laws.specs.Map.{Word, Lock, Place, Dirty, Ram, name_of, number_of, monitor}
use Rattle.step_laws.specs.WordValues.{word_value, value_next}
use Rattle.step_laws.specs.Steps.{own_steps, answer_of, IsConsistent}
use Rattle.step_laws.specs.Words.{first_ram_word}
use Rattle.step_laws.proofs.Named.{one_to_one}
use Rattle.step_laws.specs.Fields.{request_kind}
use Rattle.step_laws.specs.Marks.{Stage, swapping, passing, draining, awaiting, is_page, stage, stage_next, is_taken, is_taken_next, last_place, is_armed, dirty_words}
use Rattle.step_laws.specs.Discipline.{IsPermitted, ActorMay, LoaderMay, Writes, by_loader, by_actor as by_kind, boot_live, boot_hsm, boot_size, boot_slot, boot_ram, load_first, load_more, read_ram, write_ram, unlock, mark, take, poll, post, fetch, ack}
use Rattle.step_laws.specs.SnapshotLaws.{IsUnacked, IsOn, IsFine, IsSafe, IsMarked, IsSnapEnd, IsSnapped, MarkFacts, ArmedLaw, SnapshotLaw}
use Rattle.step_laws.proofs.Woven.{Woven, IsLawful, woven, woven_before, acts, acts_of, own_here, own_other, IsAct}
use Rattle.step_laws.proofs.Along.{act_of}
use Rattle.step_laws.proofs.Apart.{actor_off}
use Rattle.step_laws.proofs.Slots.{by_bool}
use Rattle.step_laws.proofs.Marked.{marks, on_map, mark_keeps, take_keeps, fine_else}

abbrev Runs : Stage → Type 0
Runs g = g ≢ swapping 0

idle_or : (g : Stage) → (g ≡ swapping 0) ⊎ Runs g
idle_or (swapping zero) = inl refl
idle_or (swapping (suc i)) = inr (λ e. apart e)
  where
    apart : {n : ℕ} → swapping (suc n) ≡ swapping 0 → ⊥
    apart e = cc
idle_or (passing k) = inr (λ e. cc)
idle_or (draining k) = inr (λ e. cc)
idle_or (awaiting k) = inr (λ e. cc)

at_passing : (k : ℕ) → Runs (passing k)
at_passing k e = cc

at_draining : (k : ℕ) → Runs (draining k)
at_draining k e = cc

at_awaiting : (k : ℕ) → Runs (awaiting k)
at_awaiting k e = cc

at_swapping : (k : ℕ) → Runs (swapping (suc k))
at_swapping k e = cc

swap_runs : (layout : Layout) (place : ℕ → ℕ) (i arg answer : ℕ) → Runs (stage_next layout place (Dirty i) Swap arg answer (swapping i))
swap_runs layout place i arg answer = ⊎_elim (λ (e : (i == i) ≡ true). subst (λ t. Runs (if t then (if suc i == dirty_words layout then passing 0 else swapping (suc i)) else swapping i)) (sym e)
    (by_bool (suc i == dirty_words layout) (λ t. Runs (if t then passing 0 else swapping (suc i))) (at_passing 0) (at_swapping i)))
    (λ (ne : (i == i) ≡ false). absurd (other ne)) (cases_Bool (i == i))
  where
    other : (i == i) ≡ false → ⊥
    other e = true≢false (sym (eq-eqb i i refl) ∙ e)

unlock_runs : (layout : Layout) (place : ℕ → ℕ) (x arg answer : ℕ) (g : Stage) → Runs g → Runs (stage_next layout place (Lock x) Store arg answer g)
unlock_runs layout place x arg answer (swapping k) u = u
unlock_runs layout place x arg answer (passing k) u = by_bool (x == k) (λ t. Runs (if t then (if suc k == layout.harts then draining 0 else passing (suc k)) else passing k))
    (by_bool (suc k == layout.harts) (λ t. Runs (if t then draining 0 else passing (suc k))) (at_draining 0) (at_passing (suc k))) u
unlock_runs layout place x arg answer (draining k) u = u
unlock_runs layout place x arg answer (awaiting k) u = u

post_runs : (layout : Layout) (place : ℕ → ℕ) (t s n arg answer : ℕ) (g : Stage) → Runs g → Runs (stage_next layout place (Place t s n) Store arg answer g)
post_runs layout place t s n arg answer (swapping k) u = u
post_runs layout place t s n arg answer (passing k) u = u
post_runs layout place t s n arg answer (draining k) u = by_bool ((t == k) && (request_kind arg == 3)) (λ t. Runs (if t then (if suc k == layout.harts then awaiting 0 else draining (suc k)) else draining k))
    (by_bool (suc k == layout.harts) (λ t. Runs (if t then awaiting 0 else draining (suc k))) (at_awaiting 0) (at_draining (suc k))) u
post_runs layout place t s n arg answer (awaiting k) u = u

-- what becomes of a marked page at the monitor's step
abbrev Goes : (n p : ℕ) (b : Bool) (op : WordOp) (answer : ℕ) (old new : Stage) (was : Bool) → Type 0
Goes n p b op answer old new was = IsOn n p b (Runs new) ⊎ ((op ≡ Load) × (answer ≡ 0) × Runs old × (new ≡ swapping 0) × (was ≡ true))

polled : (layout : Layout) (place : ℕ → ℕ) (n p t s k arg answer : ℕ) (b : Bool) (g : Stage) → IsOn n p b (Runs g) → Goes n p b Load answer g (stage_next layout place (Place t s k) Load arg answer g) b
polled layout place n p t s k arg zero b g (inl e) = inl (inl e)
polled layout place n p t s k arg zero b g (inr e) = ⊎_elim (λ (z : stage_next layout place (Place t s k) Load arg 0 g ≡ swapping 0). inr (refl, refl, e.1, z, e.0))
    (λ (u : Runs (stage_next layout place (Place t s k) Load arg 0 g)). inl (inr (e.0, u))) (idle_or (stage_next layout place (Place t s k) Load arg 0 g))
polled layout place n p t s k arg (suc m) b g old = inl old

module _ (layout : Layout) (few : layout.harts ≤ most_harts) (c : ℕ) (runs : Bool) (r : List Step) where
  monitor_goes : (words : Word → ℕ) (p : ℕ) (w : Word) (op : WordOp) (arg answer : ℕ) → ActorMay layout c runs r w op arg → answer ≡ answer_of op (words w) → IsOn (words (Dirty (p / 64))) p (is_taken p r) (Runs (stage layout r))
      → Goes (value_next (Dirty (p / 64)) w op (words (Dirty (p / 64))) arg) p (is_taken_next p w op arg answer (is_taken p r)) op answer (stage layout r) (stage_next layout (λ t. last_place t r) w op arg answer (stage layout r)) (is_taken p r)
  monitor_goes words p w op arg answer (take {i} z at) e old = inl (take_keeps (words (Dirty (p / 64))) p i answer (is_taken p r) (Runs (stage layout r)) (Runs (stage_next layout (λ t. last_place t r) (Dirty i) Swap 0 answer (stage layout r)))
      (λ d. e ∙ ap (λ x. words (Dirty x)) (sym d)) (λ o z. o (at ∙ ap (λ x. swapping x) z))
      (subst (λ g. Runs (stage_next layout (λ t. last_place t r) (Dirty i) Swap 0 answer g)) (sym at) (swap_runs layout (λ t. last_place t r) i 0 answer)) old)
  monitor_goes words p w op arg answer (mark {i} x y a b) e old = inl (mark_keeps (words (Dirty (p / 64))) arg p i (is_taken p r) (Runs (stage layout r)) old)
  monitor_goes words p w op arg answer (unlock {h = x} q d sw) e old = inl (on_map (words (Dirty (p / 64))) p (is_taken p r) (unlock_runs layout (λ t. last_place t r) x 0 answer (stage layout r)) old)
  monitor_goes words p w op arg answer (post {t} {q} {k} x y a b d) e old = inl (on_map (words (Dirty (p / 64))) p (is_taken p r) (post_runs layout (λ t. last_place t r) t c k q answer (stage layout r)) old)
  monitor_goes words p w op arg answer (ack {s} {q} {k} x y a b d z v) e old = inl (on_map (words (Dirty (p / 64))) p (is_taken p r) (post_runs layout (λ t. last_place t r) c s k 0 answer (stage layout r)) old)
  monitor_goes words p w op arg answer (poll {t} {k} x) e old = polled layout (λ t. last_place t r) (words (Dirty (p / 64))) p t c k arg answer (is_taken p r) (stage layout r) old
  monitor_goes words p w op arg answer (fetch {s} {k} x y a b) e old = polled layout (λ t. last_place t r) (words (Dirty (p / 64))) p c s k arg answer (is_taken p r) (stage layout r) old
  monitor_goes words p w op arg answer m e old = inl old

  writes_armed : (i : ℕ) (w : Word) (op : WordOp) (arg : ℕ) → ActorMay layout c runs r w op arg → w ≡ Ram i → Writes op → (c < layout.harts) × (is_armed c (i / 512) r ≡ true)
  writes_armed i w op arg (write_ram {i = x} a m) e u = (m.1, subst (λ y. is_armed c (y / 512) r ≡ true) (same_ram e) m.2)
    where
      same_ram : {x y : ℕ} → Ram x ≡ Ram y → x ≡ y
      same_ram e = cc
  writes_armed i w op arg (read_ram x) e u = absurd u
  writes_armed i w op arg m e u = absurd (cc)

loader_still : (layout : Layout) (r : List Step) (n q : ℕ) (w : Word) (op : WordOp) (arg : ℕ) → LoaderMay layout r w op arg → value_next (Dirty q) w op n arg ≡ n
loader_still layout r n q w op arg (boot_live a) = refl
loader_still layout r n q w op arg (boot_hsm a b c) = refl
loader_still layout r n q w op arg (boot_size a b) = refl
loader_still layout r n q w op arg (boot_slot a b c d) = refl
loader_still layout r n q w op arg (boot_ram a) = refl
loader_still layout r n q w op arg (load_first a) = refl
loader_still layout r n q w op arg (load_more a) = refl

marked_step : (layout : Layout) (runs : ℕ → Bool) (p : ℕ) (x : Step) (h : List Step) → layout.harts ≤ most_harts → IsLawful layout runs x h → IsMarked layout p h → IsMarked layout p (x ∷ h) ⊎ (IsSnapEnd layout x h × (is_taken p (own_steps monitor h) ≡ true))
marked_step layout runs p x h few o old = ⊎_elim mine other (cases_eq x.actor monitor)
  where
    mine : x.actor ≡ monitor → IsMarked layout p (x ∷ h) ⊎ (IsSnapEnd layout x h × (is_taken p (own_steps monitor h) ≡ true))
    mine z = go o.permitted
      where
        finish : Goes (word_value (Dirty (p / 64)) (x ∷ h)) p (is_taken p (x ∷ own_steps monitor h)) x.op x.answer (stage layout (own_steps monitor h)) (stage layout (x ∷ own_steps monitor h)) (is_taken p (own_steps monitor h))
            → IsMarked layout p (x ∷ h) ⊎ (IsSnapEnd layout x h × (is_taken p (own_steps monitor h) ≡ true))
        finish (inl e) = inl (subst (λ r. IsOn (word_value (Dirty (p / 64)) (x ∷ h)) p (is_taken p r) (Runs (stage layout r))) (sym (own_here x h monitor (sym z))) e)
        finish (inr e) = inr ((z, e.0, e.1, e.2, e.3), e.4)

        go : IsPermitted layout x.actor (runs x.actor) (own_steps x.actor h) (name_of x.word) x.op x.arg → IsMarked layout p (x ∷ h) ⊎ (IsSnapEnd layout x h × (is_taken p (own_steps monitor h) ≡ true))
        go (by_loader e m) = absurd (omega (arith, e, z))
        go (by_kind who f m) = finish (monitor_goes layout few x.actor (runs x.actor) (own_steps monitor h) (λ w. word_value w h) p (name_of x.word) x.op x.arg x.answer
            (subst (λ a. ActorMay layout x.actor (runs x.actor) (own_steps a h) (name_of x.word) x.op x.arg) z m) o.answered old)

    other : x.actor ≢ monitor → IsMarked layout p (x ∷ h) ⊎ (IsSnapEnd layout x h × (is_taken p (own_steps monitor h) ≡ true))
    other ne = inl (subst (λ r. IsOn (word_value (Dirty (p / 64)) (x ∷ h)) p (is_taken p r) (Runs (stage layout r))) (sym (own_other x h monitor (λ e. ne (sym e)))) (go o.permitted))
      where
        go : IsPermitted layout x.actor (runs x.actor) (own_steps x.actor h) (name_of x.word) x.op x.arg → IsOn (word_value (Dirty (p / 64)) (x ∷ h)) p (is_taken p (own_steps monitor h)) (Runs (stage layout (own_steps monitor h)))
        go (by_loader e m) = subst (λ n. IsOn n p (is_taken p (own_steps monitor h)) (Runs (stage layout (own_steps monitor h)))) (sym (loader_still layout (own_steps x.actor h) (word_value (Dirty (p / 64)) h) (p / 64) (name_of x.word) x.op x.arg m)) old
        go (by_kind who f m) = fine_else layout few x.actor (runs x.actor) (own_steps x.actor h) (word_value (Dirty (p / 64)) h) p (is_taken p (own_steps monitor h)) (Runs (stage layout (own_steps monitor h))) (name_of x.word) x.op x.arg ne m old

unacked_runs : (n h : ℕ) (g : Stage) → IsUnacked n h g → Runs g
unacked_runs n h (swapping zero) u = absurd u
unacked_runs n h (swapping (suc i)) u = at_swapping i
unacked_runs n h (passing k) u = at_passing k
unacked_runs n h (draining k) u = at_draining k
unacked_runs n h (awaiting k) u = at_awaiting k

monitor_acts : (h : List Step) → acts h monitor ≡ own_steps monitor h
monitor_acts h = acts_of h monitor (λ e. omega arith)

pub mark_facts : MarkFacts
mark_facts layout runs hs h j p i k l lp = let f = marks layout runs i.limits hs (woven layout runs hs i) k in let at : acts hs h ≡ own_steps h hs = acts_of hs h (actor_off layout h i.limits.harts (inl l)) in (
  λ page clear. subst (λ r. IsFine layout (λ w. word_value w hs) r h p) (monitor_acts hs) (f.1.valid h j p l lp (ap (is_page p) (sym (f.0.last h j Page l)) ∙ page) clear),
  λ a. subst (λ r. IsSafe layout (λ w. word_value w hs) r h p) (monitor_acts hs) (f.1.arms h p l lp (ap (is_armed h p) at ∙ a)),
)

module _ (layout : Layout) (runs : ℕ → Bool) (base : List Step) (p : ℕ) (few : layout.harts ≤ most_harts) (first : IsMarked layout p base) where
  snapped : (later : List Step) → Woven layout runs (later ++ base) → IsMarked layout p (later ++ base) ⊎ IsSnapped layout p base later
  snapped [] w = inl first
  snapped (x ∷ later) w = ⊎_elim
      (λ (m : IsMarked layout p (later ++ base)). ⊎_elim (λ (n : IsMarked layout p (x ∷ (later ++ base))). inl n)
      (λ (e : IsSnapEnd layout x (later ++ base) × (is_taken p (own_steps monitor (later ++ base)) ≡ true)). inr (inl e))
      (marked_step layout runs p x (later ++ base) few w.0 m))
      (λ (e : IsSnapped layout p base later). inr (inr e))
      (snapped later w.1)

safe_marked : (layout : Layout) (h p : ℕ) (hs : List Step) → IsSafe layout (λ w. word_value w hs) (own_steps monitor hs) h p → IsMarked layout p hs
safe_marked layout h p hs safe = on_map (word_value (Dirty (p / 64)) hs) p (is_taken p (own_steps monitor hs)) (unacked_runs (word_value (Place h monitor (last_place h (own_steps monitor hs))) hs) h (stage layout (own_steps monitor hs))) safe

pub armed_law : ArmedLaw
armed_law layout runs later base h p hist begun l lp a =
    let all : Woven layout runs (later ++ base) = woven layout runs (later ++ base) hist in
    let f = marks layout runs hist.limits base (woven_before layout runs later base all) begun in
    let at : acts base h ≡ own_steps h base = acts_of base h (actor_off layout h hist.limits.harts (inl l)) in
    let safe : IsSafe layout (λ w. word_value w base) (own_steps monitor base) h p = subst (λ r. IsSafe layout (λ w. word_value w base) r h p) (monitor_acts base) (f.1.arms h p l lp (ap (is_armed h p) at ∙ a)) in
    snapped layout runs base p hist.limits.harts (safe_marked layout h p base safe) later all

consistent_at : (layout : Layout) (later before : List Step) (s : Step) → IsConsistent layout (later ++ (s ∷ before)) → s.word < first_ram_word + 512 * layout.pages
consistent_at layout [] before s c = c.1
consistent_at layout (x ∷ later) before s c = consistent_at layout later before s c.3

pub snapshot_law : SnapshotLaw
snapshot_law layout runs later before s i hist ne name writes =
    let number : first_ram_word + i ≡ s.word = sym (ap number_of name) ∙ (one_to_one.names s.word).0 in
    let bound : s.word < first_ram_word + 512 * layout.pages = consistent_at layout later before s hist.consistent in
    let few = hist.limits.harts in
    let all : Woven layout runs (later ++ (s ∷ before)) = woven layout runs (later ++ (s ∷ before)) hist in
    let v : Woven layout runs (s ∷ before) = woven_before layout runs later (s ∷ before) all in
    let f = marks layout runs hist.limits before v.1 (v.0.begun ne) in
    let o : IsAct layout runs (λ w. word_value w before) (acts before) s = act_of layout runs s before few ne v.0 in
    let q = writes_armed layout few s.actor (runs s.actor) (acts before s.actor) i (name_of s.word) s.op s.arg o.may name writes in
    let lp : i / 512 < layout.pages = omega arith in
    let safe = f.1.arms s.actor (i / 512) q.0 lp q.1 in
    let old : IsMarked layout (i / 512) before = subst (λ r. IsOn (word_value (Dirty (i / 512 / 64)) before) (i / 512) (is_taken (i / 512) r) (Runs (stage layout r))) (monitor_acts before)
    (on_map (word_value (Dirty (i / 512 / 64)) before) (i / 512) (is_taken (i / 512) (acts before monitor)) (unacked_runs (word_value (Place s.actor monitor (last_place s.actor (acts before monitor))) before) s.actor (stage layout (acts before monitor))) safe) in
    ⊎_elim (λ (m : IsMarked layout (i / 512) (s ∷ before)). snapped layout runs (s ∷ before) (i / 512) few m later all)
    (λ (e : IsSnapEnd layout s before × (is_taken (i / 512) (own_steps monitor before) ≡ true)). absurd (subst Writes e.0.1 writes))
    (marked_step layout runs (i / 512) s before few v.0 old)
