-- Locks and tables: what a record says of the locks it holds and of the own TLB.
use Rattle.std.specs.Prelude.{◌≡◌, ℕ, zero, suc, ◌+◌, ◌/◌, ◌<◌, ◌≤◌, ◌==◌, ◌⊎◌, ◌&&◌, ◌||◌, Bool, true, false, List, [], ◌∷◌, nat_lt, nat_le, if◌then◌else◌}
use Rattle.step_laws.specs.declared.map.TlbField.{TlbField}
use Rattle.step_laws.specs.declared.map.TlbField.TheVariants.{Page}
use Rattle.step_laws.specs.declared.steps.Step.{Step}
use Rattle.step_laws.specs.declared.steps.WordOp.{WordOp}
use Rattle.step_laws.specs.declared.steps.WordOp.TheVariants.{Store, Exchange}
use Rattle.step_laws.specs.Words.{main_slots, all_slots}
use Rattle.step_laws.specs.Map.{Word, Lock, Size, Tlb, name_of, same_field}
use Rattle.step_laws.specs.Fields.{compare_page, invalid_bit, request_kind, request_count, request_page}
use Rattle.step_laws.specs.Folds.{fold_steps}

abbrev pub held_lock_next : Word → WordOp → ℕ → ℕ → ℕ → ℕ
held_lock_next (Lock h) (Exchange e) arg zero n = suc h
held_lock_next (Lock h) Store arg answer n = 0
held_lock_next _ _ _ _ n = n

-- 0, or the number of the hart whose lock the actor holds, and 1
abbrev pub held_lock : List Step → ℕ
held_lock r = fold_steps held_lock_next 0 r

-- the slots that the loader makes invalid: 64 main slots and the 8 victims
abbrev pub is_victim : ℕ → Bool
is_victim j = nat_le main_slots j && nat_lt j all_slots

abbrev pub is_first_slot : ℕ → Bool
is_first_slot j = nat_lt j 64 || is_victim j

abbrev pub is_compare : TlbField → Bool
is_compare Page = false
is_compare _ = true

-- what the loader stores in a word of a hart's TLB, and 0 where it doesn't
abbrev pub boot_entry : ℕ → TlbField → ℕ
boot_entry j f = if is_first_slot j && is_compare f then 1 else 0

abbrev pub table_boot : Word → ℕ
table_boot (Size h) = 64
table_boot (Tlb h j f) = boot_entry j f
table_boot _ = 0

abbrev pub table_next : Word → Word → WordOp → ℕ → ℕ → ℕ → ℕ
table_next (Tlb h j f) (Tlb i k g) Store arg answer n = if (h == i) && ((j == k) && same_field f g) then arg else n
table_next (Size h) (Size i) Store arg answer n = if h == i then arg else n
table_next _ _ _ _ _ n = n

-- what the last store in a word of the own TLB left there, the loader's where the hart made none
abbrev pub table_word : Word → List Step → ℕ
table_word w r = fold_steps (table_next w) (table_boot w) r

abbrev pub size_of : ℕ → List Step → ℕ
size_of a r = table_word (Size a) r

-- a store of SIZE asks that 1 is stored in the slots below the larger of the old and the new size and in the victims
abbrev pub is_swept : (old new j : ℕ) → Bool
is_swept old new j = nat_lt j old || (nat_lt j new || is_victim j)

abbrev pub is_clear_due_next : (a j : ℕ) → TlbField → Word → WordOp → (arg size : ℕ) → Bool → Bool
is_clear_due_next a j f (Size h) Store arg size b = if h == a then is_swept size arg j || b else b
is_clear_due_next a j f (Tlb h k g) Store arg size b = if (h == a) && ((j == k) && same_field f g) then (if arg == 1 then false else b) else b
is_clear_due_next a j f _ _ _ _ b = b

-- whether a store of SIZE still asks that 1 is stored in this compare word
abbrev pub is_clear_due : (a j : ℕ) → TlbField → List Step → Bool
is_clear_due a j f [] = false
is_clear_due a j f (s ∷ r) = is_clear_due_next a j f (name_of s.word) s.op s.arg (size_of a r) (is_clear_due a j f r)

-- the page lies among those that the request names
abbrev pub IsNamed : (request page : ℕ) → Type 0
IsNamed q page = (request_kind q ≡ 1) ⊎ ((request_kind q ≡ 2) × (request_page q ≤ page / 4096) × (page / 4096 < request_page q + request_count q))

-- no valid entry of a main slot or a victim is on a page that the request names
abbrev pub IsClean : (a request : ℕ) → List Step → Type 0
IsClean a q r = (j : ℕ) (f : TlbField) → is_compare f ≡ true → (j < size_of a r) ⊎ (is_victim j ≡ true)
    → (invalid_bit (table_word (Tlb a j f) r) ≡ 1) ⊎ (IsNamed q (compare_page (table_word (Tlb a j f) r)) → ⊥)
