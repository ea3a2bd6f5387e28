-- What the last store in a word of a table left there, by the steps.
use Rattle.std.proofs.Common.{◌≡◌, ◌<◌, ℕ, Bool, List, [], ◌∷◌, refl, sym, ap, subst, ◌∙◌}
use Rattle.std.specs.Prelude.{if◌then◌else◌}
use Rattle.step_laws.specs.declared.words.Layout.{Layout}
use Rattle.step_laws.specs.declared.map.TlbField.TheVariants.{Read}
use Rattle.step_laws.specs.declared.steps.Step.{Step}
use Rattle.step_laws.specs.declared.steps.WordOp.{WordOp}
use Rattle.step_laws.specs.declared.steps.WordOp.TheVariants.{Store}
use Rattle.step_laws.specs.Map.{Word, Size, Tlb, name_of}
use Rattle.step_laws.specs.WordValues.{word_value}
use Rattle.step_laws.specs.Steps.{own_steps}
use Rattle.step_laws.specs.Histories.{IsHistory, IsBegun}
use Rattle.step_laws.specs.Past.{Since, here, past, Anything, Each}
use Rattle.step_laws.specs.Tables.{table_word, table_next, table_boot}
use Rattle.step_laws.specs.TableLaws.{IsOwnTable, IsLastStored, IsTableStore, StoreLaw, BootLaw}
use Rattle.step_laws.proofs.Named.{by_test, same_refl}
use Rattle.step_laws.proofs.Along.{by_same}
use Rattle.step_laws.proofs.Slots.{table_facts}

on_it : (b : ℕ) (w : Word) (arg answer n : ℕ) → IsOwnTable b w → table_next w w Store arg answer n ≡ arg
on_it b (Tlb h j f) arg answer n own = ap (λ (t : Bool). if t then arg else n) (same_refl (Tlb h j f))
on_it b (Size h) arg answer n own = ap (λ (t : Bool). if t then arg else n) (same_refl (Size h))
on_it b w arg answer n own = absurd own

off_it : (w v : Word) (op : WordOp) (arg answer n : ℕ) → ((v ≡ w) × (op ≡ Store) → ⊥) → table_next w v op arg answer n ≡ n
off_it (Tlb h j f) (Tlb i k g) Store arg answer n off = by_same (Tlb h j f) (Tlb i k g) (λ t. (if t then arg else n) ≡ n) (λ e. absurd (off (sym e, refl))) refl
off_it (Size h) (Size i) Store arg answer n off = by_same (Size h) (Size i) (λ t. (if t then arg else n) ≡ n) (λ e. absurd (off (sym e, refl))) refl
off_it w v op arg answer n off = refl

module _ (b : ℕ) (w : Word) where
  skipped : (s : Step) (hs : List Step) → (IsTableStore b w s → ⊥) → table_word w (own_steps b (s ∷ hs)) ≡ table_word w (own_steps b hs)
  skipped s hs no_store = by_test b s.actor (λ t. table_word w (if t then s ∷ own_steps b hs else own_steps b hs) ≡ table_word w (own_steps b hs))
      (λ e. off_it w (name_of s.word) s.op s.arg s.answer (table_word w (own_steps b hs)) (λ x. no_store (sym e, x.0, x.1))) (λ _. refl)

  last_store : (v : ℕ) (hs : List Step) → IsOwnTable b w → Since (λ s. IsTableStore b w s → ⊥) (λ s. IsTableStore b w s × (s.arg ≡ v)) Anything hs → table_word w (own_steps b hs) ≡ v
  last_store v hs own (here {x} {xs} p q) = by_test b x.actor (λ t. table_word w (if t then x ∷ own_steps b xs else own_steps b xs) ≡ v)
      (λ e. ap (λ u. table_next w u x.op x.arg x.answer (table_word w (own_steps b xs))) p.0.1 ∙ ap (λ o. table_next w w o x.arg x.answer (table_word w (own_steps b xs))) p.0.2
      ∙ on_it b w x.arg x.answer (table_word w (own_steps b xs)) own ∙ p.1) (λ ne. absurd (ne (sym p.0.0)))
  last_store v hs own (past {x} {xs} n d) = skipped x xs n ∙ last_store v xs own d

  no_store_left : (hs : List Step) → Each (λ s. IsTableStore b w s → ⊥) hs → table_word w (own_steps b hs) ≡ table_boot w
  no_store_left [] all = refl
  no_store_left (s ∷ hs) all = skipped s hs all.0 ∙ no_store_left hs all.1

-- what its hart's record says of a word of a table holds of it
pub own_word : (layout : Layout) (runs : ℕ → Bool) (hs : List Step) (b : ℕ) (w : Word) → IsHistory layout runs hs → IsBegun layout runs hs → b < layout.harts → IsOwnTable b w
    → IsLastStored w (table_word w (own_steps b hs)) (word_value w hs)
own_word layout runs hs b (Tlb h j f) = λ i k l own. subst (λ x. IsLastStored (Tlb h j f) (table_word (Tlb h j f) (own_steps x hs)) (word_value (Tlb h j f) hs)) own
    (table_facts layout runs hs h j f i k (subst (λ x. x < layout.harts) (sym own) l)).0
own_word layout runs hs b (Size h) = λ i k l own. subst (λ x. word_value (Size h) hs ≡ table_word (Size h) (own_steps x hs)) own
    (table_facts layout runs hs h 0 Read i k (subst (λ x. x < layout.harts) (sym own) l)).1
own_word layout runs hs b w = λ i k l own. absurd own

pub store_law : StoreLaw
store_law layout runs hs b v w i k l own d = subst (λ n. IsLastStored w n (word_value w hs)) (last_store b w v hs own d) (own_word layout runs hs b w i k l own)

pub boot_law : BootLaw
boot_law layout runs hs b w i k l own all = subst (λ n. IsLastStored w n (word_value w hs)) (no_store_left b w hs all) (own_word layout runs hs b w i k l own)
