-- What a store in a word of a slot of the own table does to the record.
use Rattle.std.proofs.Common.{◌≡◌, ◌≢◌, ℕ, suc, ◌%◌, ◌<◌, Bool, true, false, refl, sym, ap, subst, ◌∙◌, inl, inr}
use Rattle.std.specs.Prelude.{◌⊎◌, ◌==◌, ◌&&◌, if◌then◌else◌}
use Rattle.std.proofs.lemmas.Bool.{ne_eqb}
use Rattle.step_laws.specs.declared.map.TlbField.{TlbField}
use Rattle.step_laws.specs.declared.map.TlbField.TheVariants.{Write, Page}
use Rattle.step_laws.specs.declared.steps.WordOp.TheVariants.{Store}
use Rattle.step_laws.specs.Discipline.{IsInUse}
use Rattle.step_laws.specs.Fields.{invalid_bit}
use Rattle.step_laws.specs.Map.{Size, Tlb, name_of, same, same_field}
use Rattle.step_laws.specs.Marks.{MayClear, is_known_dirty, is_known_dirty_next}
use Rattle.step_laws.specs.Tables.{held_lock, is_clear_due, is_clear_due_next, is_compare, size_of, table_word, table_next, table_boot}
use Rattle.step_laws.proofs.Named.{same_refl}
use Rattle.guest_ram.specs.Ports.{Shown, Adds, May, IsActing}
use Rattle.guest_ram.proofs.MaySteps.{may_put_compare, may_put_page}
use Rattle.guest_ram.proofs.Moves.{acting_adds, lock_adds, fold_adds}
use Rattle.tlb_entry.specs.Kept.{used_next, used_of, was_free, word_before, word_before_next}
use Rattle.tlb_table.specs.Changes.{OwesNoMore}

-- a hart that holds the lock of its own table
pub record IsOwning (p : Shown) (own : ℕ) : Type 0 where
  pub acting : IsActing p
  pub own_is : own ≡ p.own.actor
  pub hart : p.own.actor < p.machine.layout.harts
  pub held : held_lock p.own.steps ≡ suc p.own.actor

-- one store in a slot
pub record HasStored (p q : Shown) (own slot : ℕ) (f : TlbField) (arg : ℕ) : Type 0 where
  pub owning : IsOwning q own
  pub machine : q.machine ≡ p.machine
  pub here : table_word (Tlb q.own.actor slot f) q.own.steps ≡ arg
  pub still : (j : ℕ) (g : TlbField) → (j ≢ slot) ⊎ (same_field g f ≡ false) → table_word (Tlb q.own.actor j g) q.own.steps ≡ table_word (Tlb p.own.actor j g) p.own.steps
  pub size : size_of q.own.actor q.own.steps ≡ size_of p.own.actor p.own.steps
  pub owes : OwesNoMore p q
  pub pays : arg ≡ 1 → is_clear_due q.own.actor slot f q.own.steps ≡ false
  pub known : (page : ℕ) → is_known_dirty q.own.actor page q.own.steps ≡ is_known_dirty p.own.actor page p.own.steps
  pub before : word_before (Tlb q.own.actor slot f) q.own.steps ≡ table_word (Tlb p.own.actor slot f) p.own.steps
  pub used : used_of q.own.actor q.own.steps ≡ used_next p.own.actor (Tlb own slot f) Store (λ j. was_free p.own.actor j p.own.steps) (size_of p.own.actor p.own.steps) (used_of p.own.actor p.own.steps)

module _ (p q : Shown) (word own slot arg : ℕ) (f : TlbField) (s : IsOwning p own) (made : Adds p q word Store arg 0) (named : name_of word ≡ Tlb own slot f) where
  e : name_of word ≡ Tlb p.own.actor slot f
  e = named ∙ ap (λ a. Tlb a slot f) s.own_is

  word_adds : (j : ℕ) (g : TlbField) → table_word (Tlb q.own.actor j g) q.own.steps ≡ (if same (Tlb p.own.actor j g) (Tlb p.own.actor slot f) then arg else table_word (Tlb p.own.actor j g) p.own.steps)
  word_adds j g = ap (λ (x : Shown). table_word (Tlb x.own.actor j g) q.own.steps) made ∙ fold_adds (table_next (Tlb p.own.actor j g)) (table_boot (Tlb p.own.actor j g)) p q word arg 0 Store (Tlb p.own.actor slot f) made e

  other : (j : ℕ) (g : TlbField) → (j ≢ slot) ⊎ (same_field g f ≡ false) → same (Tlb p.own.actor j g) (Tlb p.own.actor slot f) ≡ false
  other j g (inl ne) = ap (λ (t : Bool). (p.own.actor == p.own.actor) && (t && same_field g f)) (ne_eqb j slot ne) ∙ by (p.own.actor == p.own.actor)
    where
      by : (t : Bool) → (t && (false && same_field g f)) ≡ false
      by true = refl
      by false = refl
  other j g (inr off) = ap (λ (t : Bool). (p.own.actor == p.own.actor) && ((j == slot) && t)) off ∙ by (p.own.actor == p.own.actor) (j == slot)
    where
      by : (t u : Bool) → (t && (u && false)) ≡ false
      by true true = refl
      by true false = refl
      by false u = refl

  due_after : (j : ℕ) (g : TlbField) → is_clear_due q.own.actor j g q.own.steps ≡ is_clear_due_next p.own.actor j g (Tlb own slot f) Store arg (size_of p.own.actor p.own.steps) (is_clear_due p.own.actor j g p.own.steps)
  due_after j g = ap (λ (x : Shown). is_clear_due x.own.actor j g x.own.steps) made
      ∙ ap (λ v. is_clear_due_next p.own.actor j g v Store arg (size_of p.own.actor p.own.steps) (is_clear_due p.own.actor j g p.own.steps)) named

  due_still : (j : ℕ) (g : TlbField) (b : Bool) → b ≡ false → is_clear_due_next p.own.actor j g (Tlb own slot f) Store arg (size_of p.own.actor p.own.steps) b ≡ false
  due_still j g b e = by ((own == p.own.actor) && ((j == slot) && same_field g f)) (arg == 1)
    where
      by : (t u : Bool) → (if t then (if u then false else b) else b) ≡ false
      by true true = refl
      by true false = e
      by false u = e

  pub has_stored : HasStored p q own slot f arg
  has_stored = record {
    owning = record {
      acting = acting_adds p q word arg 0 Store (Tlb own slot f) made named (λ _. refl) s.acting;
      own_is = s.own_is ∙ ap (λ (x : Shown). x.own.actor) (sym made);
      hart = subst (λ (x : Shown). x.own.actor < x.machine.layout.harts) (sym made) s.hart;
      held = lock_adds p q word arg 0 Store (Tlb own slot f) made named ∙ s.held ∙ ap (λ (x : Shown). suc x.own.actor) (sym made);
    };
    machine = ap (λ (x : Shown). x.machine) made;
    here = word_adds slot f ∙ ap (λ (t : Bool). if t then arg else table_word (Tlb p.own.actor slot f) p.own.steps) (same_refl (Tlb p.own.actor slot f));
    still = λ j g off. word_adds j g ∙ ap (λ (t : Bool). if t then arg else table_word (Tlb p.own.actor j g) p.own.steps) (other j g off);
    size = ap (λ (x : Shown). size_of x.own.actor q.own.steps) made ∙ fold_adds (table_next (Size p.own.actor)) (table_boot (Size p.own.actor)) p q word arg 0 Store (Tlb own slot f) made named;
    owes = λ j g compare paid. due_after j g ∙ due_still j g (is_clear_due p.own.actor j g p.own.steps) paid;
    pays = λ one. due_after slot f ∙ ap (λ (t : Bool). if t then (if arg == 1 then false else is_clear_due p.own.actor slot f p.own.steps) else is_clear_due p.own.actor slot f p.own.steps)
        (ap (λ a. same (Tlb a slot f) (Tlb p.own.actor slot f)) s.own_is ∙ same_refl (Tlb p.own.actor slot f))
        ∙ ap (λ n. if n == 1 then false else is_clear_due p.own.actor slot f p.own.steps) one;
    known = λ page. ap (λ (x : Shown). is_known_dirty x.own.actor page x.own.steps) made
        ∙ ap (λ v. is_known_dirty_next p.own.actor page (λ j. table_word (Tlb p.own.actor j Page) p.own.steps) v Store arg 0 (is_known_dirty p.own.actor page p.own.steps)) named;
    before = ap (λ (x : Shown). word_before (Tlb x.own.actor slot f) x.own.steps) made
        ∙ ap (λ v. word_before_next (Tlb p.own.actor slot f) v Store (table_word (Tlb p.own.actor slot f) p.own.steps) (word_before (Tlb p.own.actor slot f) p.own.steps)) e
        ∙ ap (λ (t : Bool). if t then table_word (Tlb p.own.actor slot f) p.own.steps else word_before (Tlb p.own.actor slot f) p.own.steps) (same_refl (Tlb p.own.actor slot f));
    used = ap (λ (x : Shown). used_of x.own.actor x.own.steps) made
        ∙ ap (λ v. used_next p.own.actor v Store (λ j. was_free p.own.actor j p.own.steps) (size_of p.own.actor p.own.steps) (used_of p.own.actor p.own.steps)) named;
  }

module _ (p : Shown) (word own slot arg : ℕ) (s : IsOwning p own) where
  own_named : (f : TlbField) → name_of word ≡ Tlb own slot f → name_of word ≡ Tlb p.own.actor slot f
  own_named f e = e ∙ ap (λ a. Tlb a slot f) s.own_is

  pub may_compare : (f : TlbField) → is_compare f ≡ true → IsInUse p.own.actor slot p.own.steps ⊎ (arg ≡ 1) → (f ≡ Write → arg % 4 ≡ 0 → MayClear p.machine.layout p.own.actor slot p.own.steps) → name_of word ≡ Tlb own slot f → May p word Store arg
  may_compare f compare used clear e = may_put_compare p word slot arg f (own_named f e) s.acting s.held compare used clear

  pub may_page : IsInUse p.own.actor slot p.own.steps → table_word (Tlb p.own.actor slot Write) p.own.steps ≡ 1 → name_of word ≡ Tlb own slot Page → May p word Store arg
  may_page used invalid e = may_put_page p word slot arg (own_named Page e) s.acting s.held used (ap invalid_bit invalid)
