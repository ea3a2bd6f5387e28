-- Facts of words and records along a history: they hold when the machine begins, and each step of a hart or the monitor keeps them.
use Rattle.std.proofs.Common.{◌≡◌, ◌≢◌, ℕ, ◌<◌, ◌≤◌, Bool, true, false, true≢false, List, [], ◌∷◌, refl, sym, ap, subst, ◌∙◌, arith, ⊎_elim}
use Rattle.std.specs.Prelude.{◌==◌, ◌&&◌, if◌then◌else◌}
use Rattle.std.proofs.lemmas.Bool.{cases_eq, cases_Bool, and_from, ne_eqb}
use Rattle.step_laws.specs.Words.{most_harts}
use Rattle.step_laws.specs.declared.words.Layout.{Layout}
use Rattle.step_laws.specs.declared.map.TlbField.{TlbField}
use Rattle.step_laws.specs.declared.steps.Step.{Step}
use Rattle.step_laws.specs.declared.steps.WordOp.{WordOp}
use Rattle.step_laws.specs.declared.steps.WordOp.TheVariants.{Load, Store}
use Rattle.step_laws.specs.Layout.{IsInLimits}
use Rattle.step_laws.specs.Map.{Word, Zero, Pend, Stop, Live, Run, Lock, Size, Hsm, Start, Opaque, Place, Dirty, Tlb, Ram, name_of, same, loader}
use Rattle.step_laws.specs.Steps.{own_steps}
use Rattle.step_laws.specs.WordValues.{word_value, value_next}
use Rattle.step_laws.specs.Tables.{is_first_slot, is_compare}
use Rattle.step_laws.specs.Loader.{IsBooted, boot_value, is_stored, is_stored_next}
use Rattle.step_laws.specs.Discipline.{IsPermitted, ActorMay, LoaderMay, by_loader, by_actor, boot_live, boot_hsm, boot_size, boot_slot, boot_ram, load_first, load_more}
use Rattle.step_laws.specs.Histories.{IsBegun}
use Rattle.step_laws.specs.Past.{Each}
use Rattle.step_laws.proofs.Named.{by_test, same_true}
use Rattle.step_laws.proofs.Woven.{Woven, IsLawful, moved_same, loader_op, acting, own_here, own_other, begins_rest, Begins, acts, acts_of, put, move, IsAct, IsStart}

-- whether a word is another, by cases
pub by_same : (v w : Word) (P : Bool → Type 0) → (v ≡ w → P true) → P false → P (same v w)
by_same v w P one two = ⊎_elim (λ (t : same v w ≡ true). subst P (sym t) (one (same_true v w t))) (λ (f : same v w ≡ false). subst P (sym f) two) (cases_Bool (same v w))

abbrev pub OffRam : Word → Type 0
OffRam (Ram i) = ⊥
OffRam _ = Unit {0}

-- all actors but the loader are silent
abbrev pub IsSilent : List Step → Type 0
IsSilent h = (a : ℕ) → a ≢ loader → own_steps a h ≡ []

slot_value : (h j : ℕ) (f : TlbField) → is_first_slot j ≡ true → is_compare f ≡ true → 1 ≡ boot_value (Tlb h j f)
slot_value h j f p q = sym (ap (λ (t : Bool). if t then 1 else 0) (and_from (is_first_slot j) (is_compare f) p q))

loader_value : (layout : Layout) (r : List Step) (w v : Word) (op : WordOp) (arg : ℕ) → OffRam w → w ≡ v → op ≡ Store → LoaderMay layout r v op arg → arg ≡ boot_value v
loader_value layout r w v op arg off e f (boot_live p) = refl
loader_value layout r w v op arg off e f (boot_hsm p a b) = refl
loader_value layout r w v op arg off e f (boot_size p a) = refl
loader_value layout r w v op arg off e f (boot_slot {h} {j} {f = g} p a b c) = slot_value h j g b c
loader_value layout r w v op arg off e f (boot_ram p) = absurd (subst OffRam e off)
loader_value layout r w v op arg off e f (load_first p) = absurd (cc)
loader_value layout r w v op arg off e f (load_more p) = absurd (cc)

abbrev pub Booted : Word → ℕ → List Step → Type 0
Booted w n r = n ≡ (if is_stored w r then boot_value w else 0)

loaded_word : (w v : Word) (op : WordOp) (arg answer n : ℕ) (r : List Step) → op ≡ Load → Booted w n r → value_next w v op n arg ≡ (if is_stored_next w v op arg answer (is_stored w r) then boot_value w else 0)
loaded_word w v op arg answer n r e old = ap (λ o. value_next w v o n arg) e ∙ moved_same w v Load n arg ∙ kept (same w v) ∙ old ∙ ap (λ o. if is_stored_next w v o arg answer (is_stored w r) then boot_value w else 0) (sym e)
  where
    kept : (t : Bool) → (if t then n else n) ≡ n
    kept true = refl
    kept false = refl

stored_word : (w v : Word) (op : WordOp) (arg answer n : ℕ) (r : List Step) → op ≡ Store → (w ≡ v → arg ≡ boot_value v) → Booted w n r → value_next w v op n arg ≡ (if is_stored_next w v op arg answer (is_stored w r) then boot_value w else 0)
stored_word w v op arg answer n r e given old = ap (λ o. value_next w v o n arg) e ∙ moved_same w v Store n arg
    ∙ by_same w v (λ t. (if t then arg else n) ≡ (if (if t then true else is_stored w r) then boot_value w else 0)) (λ is. given is ∙ ap boot_value (sym is)) old
    ∙ ap (λ o. if is_stored_next w v o arg answer (is_stored w r) then boot_value w else 0) (sym e)

silent_rest : (s : Step) (h : List Step) → IsSilent (s ∷ h) → (s.actor ≡ loader) × IsSilent h
silent_rest s h q = (
  ⊎_elim (λ (x : s.actor ≡ loader). x) (λ (x : s.actor ≢ loader). absurd (filled (own_here s h s.actor refl) (q s.actor x))) (cases_eq s.actor loader),
  λ a ne. by_test a s.actor (λ t. (if t then s ∷ own_steps a h else own_steps a h) ≡ [] → own_steps a h ≡ []) (λ _ e. absurd (filled refl e)) (λ _ e. e) (q a ne),
)
  where
    filled : {xs ys : List Step} → ys ≡ s ∷ xs → ys ≡ [] → ⊥
    filled e f = cc

pub permits_loader : (layout : Layout) (a : ℕ) (runs : Bool) (r : List Step) (w : Word) (op : WordOp) (arg : ℕ) → layout.harts ≤ most_harts → a ≡ loader → IsPermitted layout a runs r w op arg → LoaderMay layout r w op arg
permits_loader layout a runs r w op arg p e (by_loader _ m) = m
permits_loader layout a runs r w op arg p e (by_actor who f m) = absurd (acting layout a p who e)

-- before any other actor's step the words are what the loader stored
pub booted_word : (layout : Layout) (runs : ℕ → Bool) (h : List Step) → layout.harts ≤ most_harts → Woven layout runs h → IsSilent h → (w : Word) → OffRam w → Booted w (word_value w h) (own_steps loader h)
booted_word layout runs [] p o q w off = refl
booted_word layout runs (s ∷ h) p o q w off = let k = silent_rest s h q in
    subst (Booted w (word_value w (s ∷ h))) (sym (own_here s h loader (sym k.0)))
    (⊎_elim (λ (x : s.op ≡ Store). stored_word w (name_of s.word) s.op s.arg s.answer (word_value w h) (own_steps loader h) x (λ e. loader_value layout (own_steps s.actor h) w (name_of s.word) s.op s.arg off e x (may k.0)) (booted_word layout runs h p o.1 k.1 w off))
    (λ (x : (name_of s.word ≡ Zero) × (s.op ≡ Load)). loaded_word w (name_of s.word) s.op s.arg s.answer (word_value w h) (own_steps loader h) x.1 (booted_word layout runs h p o.1 k.1 w off))
    (loader_op layout (own_steps s.actor h) (name_of s.word) s.op s.arg (may k.0)))
  where
    may : s.actor ≡ loader → LoaderMay layout (own_steps s.actor h) (name_of s.word) s.op s.arg
    may e = permits_loader layout s.actor (runs s.actor) (own_steps s.actor h) (name_of s.word) s.op s.arg p e o.0.permitted

first_kept : (layout : Layout) (r : List Step) (v : Word) (op : WordOp) (arg answer : ℕ) (b : Bool) → LoaderMay layout r v op arg → b ≡ false → is_stored_next (Hsm 0) v op arg answer b ≡ false
first_kept layout r v op arg answer b (boot_hsm {h} p x y) e = by_test 0 h (λ t. (if t then true else b) ≡ false) (λ z. absurd (omega arith)) (λ _. e)
first_kept layout r v op arg answer b (boot_live p) e = e
first_kept layout r v op arg answer b m e = e

-- the loader leaves HSM of hart 0
first_free : (layout : Layout) (runs : ℕ → Bool) (h : List Step) → layout.harts ≤ most_harts → Woven layout runs h → IsSilent h → is_stored (Hsm 0) (own_steps loader h) ≡ false
first_free layout runs [] p o q = refl
first_free layout runs (s ∷ h) p o q = let k = silent_rest s h q in
    ap (is_stored (Hsm 0)) (own_here s h loader (sym k.0))
    ∙ first_kept layout (own_steps s.actor h) (name_of s.word) s.op s.arg s.answer (is_stored (Hsm 0) (own_steps loader h))
    (permits_loader layout s.actor (runs s.actor) (own_steps s.actor h) (name_of s.word) s.op s.arg p k.0 o.0.permitted) (first_free layout runs h p o.1 k.1)

none_anyway : (t : Bool) → (let n : ℕ = 0 in (if t then n else n) ≡ n)
none_anyway true = refl
none_anyway false = refl

first_slots : (layout : Layout) (r : List Step) (h j : ℕ) (f : TlbField) (t : Bool) → (is_first_slot j && is_compare f) ≡ t → IsBooted layout r → h < layout.harts
    → (if is_stored (Tlb h j f) r then boot_value (Tlb h j f) else 0) ≡ boot_value (Tlb h j f)
first_slots layout r h j f true e b p = let q = parts (is_first_slot j) (is_compare f) e in ap (λ (t : Bool). if t then boot_value (Tlb h j f) else 0) (b.slots h j f p q.0 q.1)
  where
    parts : (x y : Bool) → (x && y) ≡ true → (x ≡ true) × (y ≡ true)
    parts true true e = (refl, refl)
    parts x y e = absurd (cc)
first_slots layout r h j f false e b p = let none : boot_value (Tlb h j f) ≡ 0 = ap (λ (t : Bool). if t then 1 else 0) e in
    ap (λ n. if is_stored (Tlb h j f) r then n else 0) none ∙ none_anyway (is_stored (Tlb h j f) r) ∙ sym none

pub silent_own : (h : List Step) → IsSilent h → own_steps loader h ≡ h
silent_own [] q = refl
silent_own (s ∷ h) q = let k = silent_rest s h q in own_here s h loader (sym k.0) ∙ ap (λ r. s ∷ r) (silent_own h k.1)

few_or : (t : Bool) (n : ℕ) → n ≡ (if t then 1 else 0) → n ≤ 1
few_or true n e = omega arith
few_or false n e = omega arith

pub start_of : (layout : Layout) (runs : ℕ → Bool) (h : List Step) → IsInLimits layout → Woven layout runs h → IsSilent h → IsBegun layout runs h → IsStart layout runs (λ w. word_value w h)
start_of layout runs h l o q b = let at : (w : Word) → OffRam w → Booted w (word_value w h) (own_steps loader h) = booted_word layout runs h l.harts o q in record {
  live = at Live tt ∙ ap (λ (t : Bool). if t then 1 else 0) b.booted.live;
  first = at (Hsm 0) tt ∙ ap (λ (t : Bool). if t then 1 else 0) (first_free layout runs h l.harts o q);
  others = λ a x y. at (Hsm a) tt ∙ ap (λ (t : Bool). if t then 1 else 0) (b.booted.states a x y);
  ran = λ a x. b.ran a x ∙ ap (λ r. word_value (Hsm a) r == 0) (silent_own h q);
  low = λ a. few_or (is_stored (Hsm a) (own_steps loader h)) (word_value (Hsm a) h) (at (Hsm a) tt);
  sizes = λ a x. at (Size a) tt ∙ ap (λ (t : Bool). if t then 64 else 0) (b.booted.sizes a x);
  slots = λ a j f x. at (Tlb a j f) tt ∙ first_slots layout (own_steps loader h) a j f (is_first_slot j && is_compare f) refl b.booted x;
  pend = at Pend tt ∙ none_anyway (is_stored Pend (own_steps loader h));
  stop = at Stop tt ∙ none_anyway (is_stored Stop (own_steps loader h));
  outs = λ a. at (Run a) tt ∙ none_anyway (is_stored (Run a) (own_steps loader h));
  locks = λ a. at (Lock a) tt ∙ none_anyway (is_stored (Lock a) (own_steps loader h));
  places = λ t s k. at (Place t s k) tt ∙ none_anyway (is_stored (Place t s k) (own_steps loader h));
  starts = λ a. at (Start a) tt ∙ none_anyway (is_stored (Start a) (own_steps loader h));
  opaques = λ a. at (Opaque a) tt ∙ none_anyway (is_stored (Opaque a) (own_steps loader h));
  dirty = λ i. at (Dirty i) tt ∙ none_anyway (is_stored (Dirty i) (own_steps loader h));
}

acts_silent : (h : List Step) → IsSilent h → (a : ℕ) → acts h a ≡ []
acts_silent h q a = by_test a loader (λ t. (if t then [] else own_steps a h) ≡ []) (λ _. refl) (λ ne. q a ne)

acts_quiet : (s : Step) (h : List Step) → s.actor ≡ loader → (a : ℕ) → acts h a ≡ acts (s ∷ h) a
acts_quiet s h e a = by_test a loader (λ t. (if t then [] else own_steps a h) ≡ (if t then [] else own_steps a (s ∷ h))) (λ _. refl) (λ ne. sym (own_other s h a (λ is. ne (is ∙ e))))

acts_put : (s : Step) (h : List Step) → s.actor ≢ loader → (a : ℕ) → put s (acts h) a ≡ acts (s ∷ h) a
acts_put s h ne a = by_test a loader (λ t. (if a == s.actor then s ∷ (if t then [] else own_steps a h) else (if t then [] else own_steps a h)) ≡ (if t then [] else own_steps a (s ∷ h)))
    (λ e. ap (λ (t : Bool). if t then s ∷ [] else []) (ne_eqb a s.actor (λ is. ne (sym is ∙ e)))) (λ _. refl)

-- the step of a hart or the monitor, as one after the words and records
pub act_of : (layout : Layout) (runs : ℕ → Bool) (s : Step) (h : List Step) → layout.harts ≤ most_harts → s.actor ≢ loader → IsLawful layout runs s h → IsAct layout runs (λ w. word_value w h) (acts h) s
act_of layout runs s h p ne o = go o.permitted
  where
    go : IsPermitted layout s.actor (runs s.actor) (own_steps s.actor h) (name_of s.word) s.op s.arg → IsAct layout runs (λ w. word_value w h) (acts h) s
    go (by_loader e m) = absurd (ne e)
    go (by_actor who f m) = record {
      actor = who;
      answered = o.answered;
      may = subst (λ r. ActorMay layout s.actor (runs s.actor) r (name_of s.word) s.op s.arg) (sym (acts_of h s.actor ne)) m;
      arg = o.arg;
    }

all_loader : (h : List Step) → IsSilent h → Each (λ s. s.actor ≡ loader) h
all_loader [] q = tt
all_loader (s ∷ h) q = let k = silent_rest s h q in (k.0, all_loader h k.1)

-- a load of word 0
abbrev pub IsCalm : Step → Type 0
IsCalm s = (name_of s.word ≡ Zero) × (s.op ≡ Load)

abbrev pub Facts : Type 1
Facts = List Step → (Word → ℕ) → (ℕ → List Step) → Type 0

module _ (layout : Layout) (runs : ℕ → Bool) (F : Facts) (limits : IsInLimits layout)
    (start : (h : List Step) (words : Word → ℕ) → IsStart layout runs words → Each (λ s. s.actor ≡ loader) h → F h words (λ _. []))
    (quiet : (s : Step) (h : List Step) (words : Word → ℕ) (own : ℕ → List Step) → (s.actor ≡ loader) × IsCalm s → F h words own → F (s ∷ h) words own)
    (step : (s : Step) (h : List Step) (words : Word → ℕ) (own : ℕ → List Step) → IsAct layout runs words own s → F h words own → F (s ∷ h) (move s words) (put s own)) where
  pub facts_along : (h : List Step) → Woven layout runs h → IsBegun layout runs h → F h (λ w. word_value w h) (acts h)
  facts_along [] o b = absurd (true≢false (sym b.booted.live))
  facts_along (s ∷ h) o b = ⊎_elim
      (λ (e : s.actor ≡ loader). ⊎_elim
      (λ (x : s.op ≡ Store). let q : IsSilent (s ∷ h) = (λ a ne. own_other s h a (λ is. ne (is ∙ e)) ∙ o.0.led e x a ne) in
      subst (F (s ∷ h) (λ w. word_value w (s ∷ h))) (λ i a. sym (acts_silent (s ∷ h) q a) i) (start (s ∷ h) (λ w. word_value w (s ∷ h)) (start_of layout runs (s ∷ h) limits o q b) (all_loader (s ∷ h) q)))
      (λ (x : (name_of s.word ≡ Zero) × (s.op ≡ Load)). let k : Begins layout runs (own_steps loader h) = begins_rest layout runs s (own_steps loader h) x.0 x.1 (subst (Begins layout runs) (own_here s h loader (sym e)) (b.booted, b.ran)) in
      subst (F (s ∷ h) (λ w. word_value w (s ∷ h))) (λ i a. acts_quiet s h e a i)
      (subst (λ (f : Word → ℕ). F (s ∷ h) f (acts h)) (λ i w. still x.0 x.1 w i) (quiet s h (λ w. word_value w h) (acts h) (e, x) (facts_along h o.1 (record { booted = k.0; ran = k.1 })))))
      (loader_op layout (own_steps s.actor h) (name_of s.word) s.op s.arg (permits_loader layout s.actor (runs s.actor) (own_steps s.actor h) (name_of s.word) s.op s.arg limits.harts e o.0.permitted)))
      (λ (ne : s.actor ≢ loader). subst (F (s ∷ h) (λ w. word_value w (s ∷ h))) (λ i a. acts_put s h ne a i)
      (step s h (λ w. word_value w h) (acts h) (act_of layout runs s h limits.harts ne o.0) (facts_along h o.1 (o.0.begun ne))))
      (cases_eq s.actor loader)
    where
      still : name_of s.word ≡ Zero → s.op ≡ Load → (w : Word) → word_value w h ≡ word_value w (s ∷ h)
      still e f w = still_at w ∙ sym (λ i. value_next w (e i) (f i) (word_value w h) s.arg)
        where
          keeps : (t : Bool) (n : ℕ) → n ≡ (if t then n else n)
          keeps true n = refl
          keeps false n = refl

          still_at : (w : Word) → word_value w h ≡ value_next w Zero Load (word_value w h) s.arg
          still_at w = keeps (same w Zero) (word_value w h) ∙ sym (moved_same w Zero Load (word_value w h) s.arg)
