-- Each stored page is marked or in a snapshot that finished later: from the laws of steps to the merged log.
use Rattle.std.proofs.Common.{◌≡◌, ◌≢◌, ◌<◌, ◌+◌, ◌/◌, ℕ, Bool, List, [], ◌∷◌, ◌++◌, refl, sym, ap, subst, ◌∙◌, inl, inr, arith, eq-eqb, ⊎_elim, append_assoc, append-nil}
use Rattle.std.specs.Prelude.{if◌then◌else◌}
use Rattle.step_laws.specs.declared.words.Layout.{Layout}
use Rattle.step_laws.specs.declared.steps.Step.{Step}
use Rattle.step_laws.specs.Words.{monitor, loader, first_ram_word}
use Rattle.step_laws.specs.Map.{number_of}
use Rattle.step_laws.specs.Steps.{own_steps, words_of, IsConsistent}
use Rattle.step_laws.specs.Layout.{IsInLimits}
use Rattle.step_laws.specs.Marks.{stage, is_taken}
use Rattle.step_laws.specs.Discipline.{IsDisciplined}
use Rattle.step_laws.specs.Histories.{IsHistory}
use Rattle.step_laws.specs.SnapshotLaws.{IsSnapped, IsMarked}
use Rattle.step_laws.proofs.Named.{by_test, number_name}
use Rattle.step_laws.proofs.Snapped.{snapshot_law}
use Rattle.step_laws.proofs.Histories.{joined_law}
use Rattle.machine_model.specs.Event.{actor_of}
use Rattle.machine_model.specs.State.{Setup}
use Rattle.turn_pieces.specs.Log.{made, did, Log, steps_of}
use Rattle.turn_pieces.specs.Snapshots.{is_begun}
use Rattle.turn_pieces.specs.Grows.{IsChain}
use Rattle.turn_pieces.proofs.Chains.{chain_grows}
use Rattle.run_laws.specs.Read.{own_items}
use Rattle.run_laws.specs.Parts.{HasSnapshot, StoredPagesAreKept}
use Rattle.run_laws.proofs.Snapped.{going_stage, Finishes, finished, chain_done}

steps_append : (x y : Log) → steps_of (x ++ y) ≡ steps_of x ++ steps_of y
steps_append [] y = refl
steps_append (made s ∷ x) y = ap (λ r. s ∷ r) (steps_append x y)
steps_append (did e ∷ x) y = steps_append x y

pub own_of_steps : (a : ℕ) (l : Log) → steps_of (own_items a l) ≡ own_steps a (steps_of l)
own_of_steps a [] = refl
own_of_steps a (made s ∷ l) = by_test a s.actor (λ b. steps_of (if b then made s ∷ own_items a l else own_items a l) ≡ (if b then s ∷ own_steps a (steps_of l) else own_steps a (steps_of l)))
    (λ _. ap (λ r. s ∷ r) (own_of_steps a l)) (λ _. own_of_steps a l)
own_of_steps a (did e ∷ l) = by_test a (actor_of e) (λ b. steps_of (if b then did e ∷ own_items a l else own_items a l) ≡ own_steps a (steps_of l))
    (λ _. own_of_steps a l) (λ _. own_of_steps a l)

own_append : (a : ℕ) (x y : Log) → own_items a (x ++ y) ≡ own_items a x ++ own_items a y
own_append a [] y = refl
own_append a (made s ∷ x) y = by_test a s.actor (λ b. (if b then made s ∷ own_items a (x ++ y) else own_items a (x ++ y)) ≡ (if b then made s ∷ own_items a x else own_items a x) ++ own_items a y)
    (λ _. ap (λ r. made s ∷ r) (own_append a x y)) (λ _. own_append a x y)
own_append a (did e ∷ x) y = by_test a (actor_of e) (λ b. (if b then did e ∷ own_items a (x ++ y) else own_items a (x ++ y)) ≡ (if b then did e ∷ own_items a x else own_items a x) ++ own_items a y)
    (λ _. ap (λ r. did e ∷ r) (own_append a x y)) (λ _. own_append a x y)

own_steps_append : (a : ℕ) (x y : List Step) → own_steps a (x ++ y) ≡ own_steps a x ++ own_steps a y
own_steps_append a [] y = refl
own_steps_append a (s ∷ x) y = by_test a s.actor (λ b. (if b then s ∷ own_steps a (x ++ y) else own_steps a (x ++ y)) ≡ (if b then s ∷ own_steps a x else own_steps a x) ++ own_steps a y)
    (λ _. ap (λ r. s ∷ r) (own_steps_append a x y)) (λ _. own_steps_append a x y)

back : (page a : ℕ) (l : Log) → HasSnapshot page (own_items a l) → HasSnapshot page l
back page a [] h = h
back page a (made s ∷ l) h = by_test a s.actor (λ b. HasSnapshot page (if b then made s ∷ own_items a l else own_items a l) → HasSnapshot page (made s ∷ l))
    (λ _ k. ⊎_elim (λ (x : ⊥). inl x) (λ (x : HasSnapshot page (own_items a l)). inr (back page a l x)) k) (λ _ k. inr (back page a l k)) h
back page a (did e ∷ l) h = by_test a (actor_of e) (λ b. HasSnapshot page (if b then did e ∷ own_items a l else own_items a l) → HasSnapshot page (did e ∷ l))
    (λ _ k. ⊎_elim (λ (x : Rattle.run_laws.specs.Parts.Lists page (did e)). inl x) (λ (x : HasSnapshot page (own_items a l)). inr (back page a l x)) k) (λ _ k. inr (back page a l k)) h

module _ (u : Setup) (limits : IsInLimits u.layout) (page : ℕ) (base : List Step) (own : Log) (is : own_steps monitor base ≡ steps_of own) where
  same_own : (l : Log) → own_steps monitor (steps_of l ++ base) ≡ steps_of (own_items monitor l ++ own)
  same_own l = own_steps_append monitor (steps_of l) base ∙ (ap (λ x. x ++ own_steps monitor base) (sym (own_of_steps monitor l)) ∙ (ap (λ x. steps_of (own_items monitor l) ++ x) is ∙ sym (steps_append (own_items monitor l) own)))

  finishes : (l : Log) → IsSnapped u.layout page base (steps_of l) → Finishes u limits page own (own_items monitor l)
  finishes [] k = k
  finishes (made x ∷ l) (inl k) = subst (λ b. Finishes u limits page own (if b then made x ∷ own_items monitor l else own_items monitor l)) (sym (eq-eqb monitor x.actor (sym k.0.0)))
      (inl (
        k.0.1,
        going_stage (stage u.layout (steps_of (own_items monitor l ++ own))) (λ e. k.0.3 (ap (stage u.layout) (same_own l) ∙ e)),
        ap is_begun (ap (λ r. stage u.layout (x ∷ r)) (sym (same_own l)) ∙ k.0.4),
        ap (is_taken page) (sym (same_own l)) ∙ k.1,
      ))
  finishes (made x ∷ l) (inr k) = by_test monitor x.actor (λ b. Finishes u limits page own (if b then made x ∷ own_items monitor l else own_items monitor l)) (λ _. inr (finishes l k)) (λ _. finishes l k)
  finishes (did e ∷ l) k = by_test monitor (actor_of e) (λ b. Finishes u limits page own (if b then did e ∷ own_items monitor l else own_items monitor l)) (λ _. finishes l k) (λ _. finishes l k)

word_there : (layout : Layout) (x y : List Step) (s : Step) → IsConsistent layout (x ++ s ∷ y) → s.word < words_of layout
word_there layout [] y s k = k.1
word_there layout (t ∷ x) y s k = word_there layout x y s k.3

pub stored_pages_are_kept : StoredPagesAreKept
stored_pages_are_kept u words records turns logs run limits j t read k r e is newer older s i split ne name writes =
    ⊎_elim (λ (m : IsMarked u.layout (i / 512) (steps_of newer ++ s ∷ (steps_of older ++ read.stores))). inl (subst (IsMarked u.layout (i / 512)) (sym steps_are) m))
    (λ (m : IsSnapped u.layout (i / 512) (s ∷ (steps_of older ++ read.stores)) (steps_of newer)). inr (back (i / 512) monitor newer (listed m)))
    (snapshot_law u.layout base.0 (steps_of newer) (steps_of older ++ read.stores) s i history ne name writes)
  where
    base : (runs : ℕ → Bool) × IsHistory u.layout runs j.steps
    base = joined_law u.layout words records limits j

    steps_are : j.steps ≡ steps_of newer ++ s ∷ (steps_of older ++ read.stores)
    steps_are = read.order ∙ (ap (λ l. steps_of l ++ read.stores) split ∙ (ap (λ x. x ++ read.stores) (steps_append newer (made s ∷ older)) ∙ append_assoc (steps_of newer) (s ∷ steps_of older) read.stores))

    history : IsHistory u.layout base.0 (steps_of newer ++ s ∷ (steps_of older ++ read.stores))
    history = subst (IsHistory u.layout base.0) steps_are base.1

    not_loader : r.actor ≢ loader
    not_loader z = omega (arith, z, is)

    own : Log
    own = own_items monitor (made s ∷ older)

    parts : own_items monitor newer ++ own ≡ logs monitor
    parts = sym (own_append monitor newer (made s ∷ older)) ∙ (ap (own_items monitor) (sym split) ∙ subst (λ b. own_items b read.all ≡ logs b) is (read.own k r e not_loader))

    chain : IsChain u monitor (turns monitor) (own_items monitor newer ++ own)
    chain = subst (IsChain u monitor (turns monitor)) (sym parts) (subst (λ b. IsChain u b (turns b) (logs b)) is (t.each k r e not_loader).chain)

    base_is : own_steps monitor (s ∷ (steps_of older ++ read.stores)) ≡ steps_of own
    base_is = own_steps_append monitor (s ∷ steps_of older) read.stores ∙ (ap (λ x. own_steps monitor (s ∷ steps_of older) ++ x) (read.loaders monitor (λ z. omega (arith, z))) ∙ (append-nil (own_steps monitor (s ∷ steps_of older)) ∙ sym (own_of_steps monitor (made s ∷ older))))

    disciplined : IsDisciplined u.layout monitor (base.0 monitor) (steps_of (own_items monitor newer ++ own))
    disciplined = subst (IsDisciplined u.layout monitor (base.0 monitor)) (ap (own_steps monitor) steps_are ∙ same_own u limits (i / 512) (s ∷ (steps_of older ++ read.stores)) own base_is newer) (base.1.disciplined monitor)

    page_there : i / 512 < u.layout.pages
    page_there = let lt = word_there u.layout (steps_of newer) (steps_of older ++ read.stores) s history.consistent in let n : s.word ≡ first_ram_word + i = sym (number_name s.word) ∙ ap number_of name in omega (arith, lt, n)

    listed : IsSnapped u.layout (i / 512) (s ∷ (steps_of older ++ read.stores)) (steps_of newer) → HasSnapshot (i / 512) (own_items monitor newer)
    listed m = ⊎_elim (λ (h : HasSnapshot (i / 512) (own_items monitor newer)). h) (λ d. absurd (chain_done u limits (i / 512) chain d))
        (finished u limits (i / 512) (base.0 monitor) page_there (own_items monitor newer) own (chain_grows u monitor chain) disciplined
        (finishes u limits (i / 512) (s ∷ (steps_of older ++ read.stores)) own base_is newer m))
