-- What the loader's record leaves in the machine's words.
use Rattle.std.proofs.Common.{◌≡◌, ℕ, ◌+◌, ◌-◌, ◌*◌, ◌^◌, ◌<◌, ◌≤◌, Bool, true, false, true≢false, List, [], ◌∷◌, ◌⊎◌, inl, inr, ⊎_elim, refl, sym, ap, subst, ◌∙◌, arith}
use Rattle.std.specs.Prelude.{nat_lt, ◌==◌, ◌&&◌, if◌then◌else◌}
use Rattle.std.proofs.lemmas.Bool.{and_from, and_parts, cases_lt, lt-ltb, ltb-true}
use Rattle.elf_load.specs.declared.image.Part.{Part}
use Rattle.elf_load.specs.Contents.{contents_word}
use Rattle.elf_load.specs.Loaded.{Loaded}
use Rattle.elf_load.specs.ImageOf.{IsImageOf}
use Rattle.step_laws.specs.declared.words.Layout.{Layout}
use Rattle.step_laws.specs.declared.map.TlbField.{TlbField}
use Rattle.step_laws.specs.declared.steps.Step.{Step}
use Rattle.step_laws.specs.declared.steps.WordOp.{WordOp}
use Rattle.step_laws.specs.declared.steps.WordOp.TheVariants.{Load, Store}
use Rattle.step_laws.specs.Words.{most_harts, first_ram_word}
use Rattle.step_laws.specs.Map.{Word, Zero, Live, Size, Hsm, Tlb, Ram, name_of, number_of, same, loader}
use Rattle.step_laws.specs.Layout.{IsInLimits}
use Rattle.step_laws.specs.Loader.{IsBooted, boot_value, is_stored, is_stored_next}
use Rattle.step_laws.specs.Steps.{value_at, new_of}
use Rattle.step_laws.specs.Tables.{is_first_slot, is_compare, boot_entry}
use Rattle.step_laws.specs.WordValues.{word_value, value_next}
use Rattle.step_laws.specs.Discipline.{IsDisciplined, LoaderMay, boot_live, boot_hsm, boot_size, boot_slot, boot_ram, load_first, load_more}
use Rattle.step_laws.proofs.Along.{by_same, permits_loader, OffRam}
use Rattle.step_laws.proofs.Named.{number_name}
use Rattle.step_laws.proofs.Numbered.{named_ram}
use Rattle.step_laws.proofs.Woven.{held_at, moved_same}
use Rattle.machine_model.specs.Memory.{Memory}
use Rattle.machine_model.specs.Image.{image_memory}
use Rattle.machine_model.specs.State.{Setup}
use Rattle.run_laws.specs.Boot.{IsBoot, first_word, image_word}
use Rattle.guest_boot.specs.Stored.{IsLoaded, LoadsKeep}
use Rattle.guest_boot.proofs.Beyond.{word_beyond}

-- the words in which the loader may store
abbrev IsOfBegin : Layout → Word → Type 0
IsOfBegin l Live = Unit {0}
IsOfBegin l (Hsm h) = (1 ≤ h) × (h < l.harts)
IsOfBegin l (Size h) = h < l.harts
IsOfBegin l (Tlb h j f) = (h < l.harts) × (is_first_slot j ≡ true) × (is_compare f ≡ true)
IsOfBegin l (Ram i) = Unit {0}
IsOfBegin l _ = ⊥

here : (l : Layout) (w v : Word) (b : Bool) → IsOfBegin l v → (b ≡ true → IsOfBegin l w) → (if same w v then true else b) ≡ true → IsOfBegin l w
here l w v b may old = by_same w v (λ t. (if t then true else b) ≡ true → IsOfBegin l w) (λ is _. subst (IsOfBegin l) (sym is) may) old

may_store : (l : Layout) (r : List Step) (v : Word) (op : WordOp) (arg answer : ℕ) (b : Bool) (w : Word) → LoaderMay l r v op arg → (b ≡ true → IsOfBegin l w) → is_stored_next w v op arg answer b ≡ true → IsOfBegin l w
may_store l r v op arg answer b w (boot_live p) old e = here l w Live b tt old e
may_store l r v op arg answer b w (boot_hsm {h} p x y) old e = here l w (Hsm h) b (x, y) old e
may_store l r v op arg answer b w (boot_size {h} p x) old e = here l w (Size h) b x old e
may_store l r v op arg answer b w (boot_slot {h} {j} {f} p x y z) old e = here l w (Tlb h j f) b (x, y, z) old e
may_store l r v op arg answer b w (boot_ram {i} p) old e = here l w (Ram i) b tt old e
may_store l r v op arg answer b w (load_first p) old e = old e
may_store l r v op arg answer b w (load_more p) old e = old e

stored_may : (l : Layout) (runs : Bool) (r : List Step) → l.harts ≤ most_harts → IsDisciplined l loader runs r → (w : Word) → is_stored w r ≡ true → IsOfBegin l w
stored_may l runs [] few d w e = absurd (true≢false (sym e))
stored_may l runs (s ∷ r) few d w e = may_store l r (name_of s.word) s.op s.arg s.answer (is_stored w r) w
    (permits_loader l loader runs r (name_of s.word) s.op s.arg few refl d.0) (stored_may l runs r few d.1 w) e

-- a word off RAM holds what is stored there, where something is
abbrev Booted : Word → ℕ → Bool → Type 0
Booted w n b = n ≡ (if b then boot_value w else 0)

stores : (w v : Word) (n arg : ℕ) (b : Bool) → (w ≡ v → arg ≡ boot_value w) → Booted w n b → value_next w v Store n arg ≡ (if (if same w v then true else b) then boot_value w else 0)
stores w v n arg b given old = moved_same w v Store n arg ∙ by_same w v (λ t. (if t then arg else n) ≡ (if (if t then true else b) then boot_value w else 0)) given old

loads : (w v : Word) (n arg : ℕ) → value_next w v Load n arg ≡ n
loads w v n arg = moved_same w v Load n arg ∙ either (same w v)
  where
    either : (t : Bool) → (if t then n else n) ≡ n
    either true = refl
    either false = refl

slot_value : (h j : ℕ) (f : TlbField) → is_first_slot j ≡ true → is_compare f ≡ true → 1 ≡ boot_entry j f
slot_value h j f p q = sym (ap (λ (t : Bool). if t then 1 else 0) (and_from (is_first_slot j) (is_compare f) p q))

booted_next : (l : Layout) (r : List Step) (w v : Word) (op : WordOp) (arg answer n : ℕ) (b : Bool) → OffRam w → LoaderMay l r v op arg → Booted w n b → value_next w v op n arg ≡ (if is_stored_next w v op arg answer b then boot_value w else 0)
booted_next l r w v op arg answer n b off (boot_live p) old = stores w Live n 1 b (λ is. ap boot_value (sym is)) old
booted_next l r w v op arg answer n b off (boot_hsm {h} p x y) old = stores w (Hsm h) n 1 b (λ is. ap boot_value (sym is)) old
booted_next l r w v op arg answer n b off (boot_size {h} p x) old = stores w (Size h) n 64 b (λ is. ap boot_value (sym is)) old
booted_next l r w v op arg answer n b off (boot_slot {h} {j} {f} p x y z) old = stores w (Tlb h j f) n 1 b (λ is. slot_value h j f y z ∙ ap boot_value (sym is)) old
booted_next l r w v op arg answer n b off (boot_ram {i} p) old = stores w (Ram i) n arg b (λ is. absurd (subst OffRam is off)) old
booted_next l r w v op arg answer n b off (load_first p) old = loads w Zero n 0 ∙ old
booted_next l r w v op arg answer n b off (load_more p) old = loads w Zero n 0 ∙ old

booted_value : (l : Layout) (runs : Bool) (r : List Step) → l.harts ≤ most_harts → IsDisciplined l loader runs r → (w : Word) → OffRam w → Booted w (word_value w r) (is_stored w r)
booted_value l runs [] few d w off = refl
booted_value l runs (s ∷ r) few d w off = booted_next l r w (name_of s.word) s.op s.arg s.answer (word_value w r) (is_stored w r) off
    (permits_loader l loader runs r (name_of s.word) s.op s.arg few refl d.0) (booted_value l runs r few d.1 w off)

agree : (a b : Bool) → (a ≡ true → b ≡ true) → (b ≡ true → a ≡ true) → a ≡ b
agree true true p q = refl
agree true false p q = sym (p refl)
agree false true p q = q refl
agree false false p q = refl

unless : (a : Bool) → (a ≡ true → ⊥) → a ≡ false
unless true none = absurd (none refl)
unless false none = refl

nothing_stored : (b : Bool) (n : ℕ) → (b ≡ true → ⊥) → (if b then n else 0) ≡ 0
nothing_stored true n none = absurd (none refl)
nothing_stored false n none = refl

-- what a compare word is due
abbrev one_if : Bool → ℕ
one_if c = if c then 1 else 0

-- a compare word: both are what the loader stores there, or nothing is due
slot_agrees : (a b c : Bool) → (a ≡ true → b ≡ true) → (b ≡ true → c ≡ true → a ≡ true) → (if a then one_if c else 0) ≡ (if b then one_if c else 0)
slot_agrees true true c p q = refl
slot_agrees true false c p q = absurd (true≢false (sym (p refl)))
slot_agrees false true true p q = absurd (true≢false (sym (q refl refl)))
slot_agrees false true false p q = refl
slot_agrees false false c p q = refl

off_value : (l : Layout) (runs : Bool) (image : Memory) (r : List Step) → l.harts ≤ most_harts → IsDisciplined l loader runs r → IsBooted l r → (w : Word) (n : ℕ) → OffRam w → word_value w r ≡ first_word l image w n
off_value l runs image r few d b Live n off = booted_value l runs r few d Live tt ∙ ap (λ (t : Bool). if t then 1 else 0) b.live
off_value l runs image r few d b (Hsm h) n off = booted_value l runs r few d (Hsm h) tt ∙ ap (λ (t : Bool). if t then 1 else 0)
    (agree (is_stored (Hsm h) r) (nat_lt 0 h && nat_lt h l.harts)
    (λ e. let m = stored_may l runs r few d (Hsm h) e in and_from _ _ (lt-ltb 0 h (omega (arith, m.0))) (lt-ltb h l.harts m.1))
    (λ e. let m = and_parts (nat_lt 0 h) (nat_lt h l.harts) e in b.states h (omega (arith, ltb-true 0 h m.0)) (ltb-true h l.harts m.1)))
off_value l runs image r few d b (Size h) n off = booted_value l runs r few d (Size h) tt ∙ ap (λ (t : Bool). if t then 64 else 0)
    (agree (is_stored (Size h) r) (nat_lt h l.harts) (λ e. lt-ltb h l.harts (stored_may l runs r few d (Size h) e)) (λ e. b.sizes h (ltb-true h l.harts e)))
off_value l runs image r few d b (Tlb h j f) n off = booted_value l runs r few d (Tlb h j f) tt
    ∙ slot_agrees (is_stored (Tlb h j f) r) (nat_lt h l.harts) (is_first_slot j && is_compare f)
    (λ e. lt-ltb h l.harts (stored_may l runs r few d (Tlb h j f) e).0)
    (λ e g. let m = and_parts (is_first_slot j) (is_compare f) g in b.slots h j f (ltb-true h l.harts e) m.0 m.1)
off_value l runs image r few d b (Ram i) n off = absurd off
off_value l runs image r few d b w n off = booted_value l runs r few d w off ∙ nothing_stored (is_stored w r) (boot_value w) (λ e. stored_may l runs r few d w e)

ram_or : (w : Word) → OffRam w ⊎ ((i : ℕ) × (w ≡ Ram i))
ram_or (Ram i) = inr (i, refl)
ram_or w = inl tt

ram_number : (n i : ℕ) → name_of n ≡ Ram i → n ≡ first_ram_word + i
ram_number n i e = sym (number_name n) ∙ ap number_of e

-- the image's word of RAM
image_at : (file : List ℕ) (parts : List Part) (n i : ℕ) → n ≡ first_ram_word + i → image_memory file parts n ≡ contents_word file parts (2 ^ 31 + 8 * i)
image_at file parts n i e = let test : nat_lt n first_ram_word ≡ false = unless (nat_lt n first_ram_word) (λ t. let less : n < first_ram_word = ltb-true n first_ram_word t in absurd (omega arith)) in
    let place : n - first_ram_word ≡ i = omega (arith, e) in
    ap (λ (t : Bool). if t then 0 else contents_word file parts (2 ^ 31 + 8 * (n - first_ram_word))) test ∙ ap (λ k. contents_word file parts (2 ^ 31 + 8 * k)) place

ram_value : (file : List ℕ) (image : Loaded) (l : Layout) (r : List Step) (memory : Memory) → IsImageOf file l.pages image → IsLoaded file image.parts l r
    → ((n : ℕ) → memory n ≡ image_memory file image.parts n) → (n i : ℕ) → name_of n ≡ Ram i → word_value (Ram i) r ≡ memory n
ram_value file image l r memory accepted loaded is n i e = held ∙ sym (is n ∙ image_at file image.parts n i (ram_number n i e))
  where
    held : word_value (Ram i) r ≡ contents_word file image.parts (2 ^ 31 + 8 * i)
    held = ⊎_elim (λ (less : i < 512 * l.pages). loaded.within i less) (λ (from : 512 * l.pages ≤ i). loaded.behind i from ∙ sym (word_beyond file l.pages image accepted i from)) (cases_lt i (512 * l.pages))

image_off : (memory : Memory) (w : Word) (n : ℕ) → memory n ≡ 0 → memory n ≡ image_word memory w n
image_off memory (Ram i) n e = refl
image_off memory w n e = e

pub begins_so : (file : List ℕ) (image : Loaded) (l : Layout) (runs : Bool) (r : List Step) → IsInLimits l → IsImageOf file l.pages image → IsDisciplined l loader runs r → IsBooted l r → IsLoaded file image.parts l r
    → (u : Setup) → u.layout ≡ l → ((n : ℕ) → u.image n ≡ image_memory file image.parts n) → IsBoot u r
begins_so file image l runs r limits accepted d b loaded u same is = record {
  leaves = λ n. held_at n r ∙ at n (ram_or (name_of n)) ∙ ap (λ (x : Layout). first_word x u.image (name_of n) n) (sym same);
  image = λ n. ⊎_elim (λ (less : n < first_ram_word). image_off u.image (name_of n) n (is n ∙ ap (λ (t : Bool). if t then 0 else contents_word file image.parts (2 ^ 31 + 8 * (n - first_ram_word))) (lt-ltb n first_ram_word less)))
      (λ (from : first_ram_word ≤ n). let number : first_ram_word + (n - first_ram_word) ≡ n = omega (arith, from) in
      sym (ap (λ (w : Word). image_word u.image w n) (ap name_of (sym number) ∙ named_ram (n - first_ram_word)))) (cases_lt n first_ram_word);
}
  where
    at : (n : ℕ) → OffRam (name_of n) ⊎ ((i : ℕ) × (name_of n ≡ Ram i)) → word_value (name_of n) r ≡ first_word l u.image (name_of n) n
    at n (inl off) = off_value l runs u.image r limits.harts d b (name_of n) n off
    at n (inr ram) = ap (λ (w : Word). word_value w r) ram.1 ∙ ram_value file image l r u.image accepted loaded is n ram.0 ram.1 ∙ sym (ap (λ (w : Word). first_word l u.image w n) ram.1)

kept_at : (n : ℕ) (s : Step) (r : List Step) → s.op ≡ Load → value_at n (s ∷ r) ≡ value_at n r
kept_at n s r e = ap (λ o. if n == s.word then new_of o (value_at n r) s.arg else value_at n r) e ∙ either (n == s.word)
  where
    either : (t : Bool) → (if t then value_at n r else value_at n r) ≡ value_at n r
    either true = refl
    either false = refl

pub load_keeps : LoadsKeep
load_keeps u s r e b = record { leaves = λ n. kept_at n s r e ∙ b.leaves n; image = b.image }
