-- Records that keep to the discipline: a section, a fence at its source and its target, a start at its maker and its hart, and a stop.
use Rattle.std.proofs.Common.{◌≡◌, ℕ, suc, zero, ◌+◌, ◌*◌, ◌-◌, ◌/◌, ◌<◌, ◌≤◌, Bool, true, false, List, [], ◌∷◌, refl, sym, ap, subst, inl, inr, arith, ⊎_elim}
use Rattle.std.specs.Prelude.{◌==◌, ◌⊎◌, ◌&&◌, ◌||◌, nat_lt, nat_le, if◌then◌else◌}
use Rattle.std.proofs.lemmas.Bool.{lt-ltb, ltb-true, leb-true, eqb-true, and_parts}
use Rattle.step_laws.specs.Marks.{is_known_dirty, is_ored, MayClear, IsSwept}
use Rattle.step_laws.specs.declared.words.Layout.{Layout}
use Rattle.step_laws.specs.declared.map.TlbField.{TlbField}
use Rattle.step_laws.specs.declared.map.TlbField.TheVariants.{Write, Page}
use Rattle.step_laws.specs.declared.steps.Step.{Step}
use Rattle.step_laws.specs.declared.steps.WordOp.{WordOp}
use Rattle.step_laws.specs.declared.steps.WordOp.TheVariants.{Load, Store, Swap, Add, Or, Exchange}
use Rattle.step_laws.specs.declared.request.Request.TheVariants.{FlushAll, Drain}
use Rattle.step_laws.specs.Map.{name_of, same_field}
use Rattle.step_laws.specs.Fields.{IsRequestWord, invalid_bit}
use Rattle.step_laws.specs.Past.{here, past}
use Rattle.step_laws.specs.Tables.{is_compare, is_victim, boot_entry, is_first_slot}
use Rattle.step_laws.specs.Discipline.{IsDisciplined, minus_one, by_actor, claim, check, write_ram, mark, release, poll, post, fetch, ack, lock_own, lock_other, unlock, put_compare, put_page, load_other_size, set_clean, take, raise, ask, load_stop, begin_start, set_start, set_opaque, add_live, end_start, load_hsm, load_start, load_opaque, take_start, stop, take_live}

abbrev pub two : Layout
two = record { harts = 2; pages = 256 }

abbrev pub by : ℕ → ℕ → WordOp → ℕ → ℕ → Step
by a w op arg answer = record { actor = a; word = w; op = op; arg = arg; answer = answer }

abbrev section_record : List Step
section_record = by 0 1 Store 0 0 ∷ by 0 1082392 Store 7 0 ∷ by 0 728 Or 1 0 ∷ by 0 136 Load 0 0 ∷ by 0 24 Load 0 0 ∷ by 0 1 (Exchange 0) 1 0 ∷ []

section_kept : IsDisciplined two 0 true section_record
unfolding name_of
section_kept = (
  by_actor (inl (omega arith)) refl (release refl),
  (
    by_actor (inl (omega arith)) refl (write_ram tt (inr (refl, refl), omega arith, refl)),
    (
      by_actor (inl (omega arith)) refl (mark {p = 0} (omega arith) (omega arith) refl refl),
      (
        by_actor (inl (omega arith)) refl (check (λ e. omega arith) refl),
        (
          by_actor (inl (omega arith)) refl (check (λ e. omega arith) refl),
          (by_actor (inl (omega arith)) refl (claim (refl, refl)), tt),
        ),
      ),
    ),
  ),
)

flush_all : IsRequestWord 1
flush_all = (FlushAll, tt, (refl, refl, refl))

abbrev source_record : List Step
source_record = by 0 224 Load 0 0 ∷ by 0 224 Store 1 0 ∷ by 0 224 Load 0 0 ∷ []

source_kept : IsDisciplined two 0 true source_record
unfolding name_of
source_kept = (
  by_actor (inl (omega arith)) refl (poll (λ e. omega arith)),
  (
    by_actor (inl (omega arith)) refl (post (λ e. omega arith) (omega arith) refl flush_all refl),
    (by_actor (inl (omega arith)) refl (poll (λ e. omega arith)), tt),
  ),
)

or_left : (x y : Bool) → x ≡ true → (x || y) ≡ true
or_left true y e = refl
or_left false y e = absurd (cc)

or_right : (x y : Bool) → y ≡ true → (x || y) ≡ true
or_right true y e = refl
or_right false y e = e

empty_boot : (j : ℕ) (f : TlbField) → is_compare f ≡ true → (j < 64) ⊎ (is_victim j ≡ true) → invalid_bit (boot_entry j f) ≡ 1
empty_boot j f cmp used = ap (λ t. invalid_bit (if t then 1 else 0)) (both (is_first_slot j) (is_compare f) (⊎_elim (λ (l : j < 64). or_left (nat_lt j 64) (is_victim j) (lt-ltb j 64 l)) (λ (v : is_victim j ≡ true). or_right (nat_lt j 64) (is_victim j) v) used) cmp)
  where
    both : (x y : Bool) → x ≡ true → y ≡ true → (x && y) ≡ true
    both true y d e = e
    both false y d e = d

abbrev target_record : List Step
target_record = by 1 224 Store 0 0 ∷ by 1 27 Store 0 0 ∷ by 1 27 (Exchange 0) 2 0 ∷ by 1 224 Load 0 1 ∷ []

target_kept : IsDisciplined two 1 false target_record
unfolding name_of
target_kept = (
  by_actor (inl (omega arith)) refl (ack {q = 1} (λ e. omega arith) (omega arith) refl refl flush_all refl
      (inr (here (refl, refl, refl) ((λ j f cmp used. inl (empty_boot j f cmp used)), past (λ e. absurd (cc)) (here (refl, refl, refl) tt))))),
  (
    by_actor (inl (omega arith)) refl (unlock refl (λ _ j f _. refl) (λ ne. absurd (ne refl))),
    (
      by_actor (inl (omega arith)) refl (lock_own refl (omega arith)),
      (by_actor (inl (omega arith)) refl (fetch (λ e. omega arith) (omega arith) refl refl), tt),
    ),
  ),
)

abbrev maker_record : List Step
maker_record = by 0 29 Store 2 0 ∷ by 0 3 Add 1 1 ∷ by 0 31 Store 7 0 ∷ by 0 30 Store 2147483648 0 ∷ by 0 29 (Exchange 1) 3 1 ∷ []

maker_kept : IsDisciplined two 0 true maker_record
unfolding name_of
maker_kept = (
  by_actor (inl (omega arith)) refl (end_start refl),
  (
    by_actor (inl (omega arith)) refl (add_live refl),
    (
      by_actor (inl (omega arith)) refl (set_opaque refl),
      (
        by_actor (inl (omega arith)) refl (set_start refl refl),
        (by_actor (inl (omega arith)) refl (begin_start (omega arith) refl refl (λ e. omega arith) (omega arith)), tt),
      ),
    ),
  ),
)

abbrev started_record : List Step
started_record = by 1 3 Add minus_one 2 ∷ by 1 29 Store 1 0 ∷ by 1 29 Store 0 0 ∷ by 1 31 Load 0 7 ∷ by 1 30 Load 0 2147483648 ∷ by 1 29 Load 0 2 ∷ []

started_kept : IsDisciplined two 1 false started_record
unfolding name_of
started_kept = (
  by_actor (inl (omega arith)) refl (take_live refl),
  (
    by_actor (inl (omega arith)) refl (stop (omega arith) refl refl),
    (
      by_actor (inl (omega arith)) refl (take_start refl refl refl),
      (
        by_actor (inl (omega arith)) refl (load_opaque refl),
        (
          by_actor (inl (omega arith)) refl (load_start refl),
          (by_actor (inl (omega arith)) refl load_hsm, tt),
        ),
      ),
    ),
  ),
)

-- a store's miss: under the lock the page is marked, the slot gets the page and a WRITE word with bits 0 and 1 clear, and the store
-- follows in the same turn
abbrev fill_record : List Step
fill_record = by 0 795 Store 2147483648 0 ∷ by 0 728 Or 1 0 ∷ by 0 11 (Exchange 0) 1 0 ∷ by 0 2 Load 0 0 ∷ []

abbrev store_record : List Step
store_record = by 0 1082392 Store 7 0 ∷ by 0 1 Load 0 0 ∷ by 0 8 Store 1 0 ∷ by 0 11 Store 0 0 ∷ by 0 793 Store 4096 0 ∷ fill_record

may_clear : MayClear two 0 0 fill_record
unfolding name_of
may_clear p l page = let e : 2147483648 / 4096 ≡ 524288 + p = eqb-true (2147483648 / 4096) (524288 + p) page in let z : p ≡ 0 = omega (arith, e) in subst (λ p. is_known_dirty 0 p fill_record ≡ true) (sym z) refl

none_due : (t v : Bool) → (if t then (if v then false else false) else (if v then false else false)) ≡ false
none_due true true = refl
none_due true false = refl
none_due false true = refl
none_due false false = refl

store_kept : IsDisciplined two 0 true store_record
unfolding name_of
store_kept = (
  by_actor (inl (omega arith)) refl (write_ram tt (inl refl, omega arith, refl)),
  (
    by_actor (inl (omega arith)) refl (ask refl),
    (
      by_actor (inl (omega arith)) refl (raise (refl, refl)),
      (
        by_actor (inl (omega arith)) refl (unlock refl (λ _ j f _. none_due ((j == 0) && same_field f Write) ((j == 0) && same_field f Page)) (λ ne. absurd (ne refl))),
        (
          by_actor (inl (omega arith)) refl (put_compare {j = 0} refl refl (inl (inl (omega arith))) (λ _ _. may_clear)),
          (
            by_actor (inl (omega arith)) refl (put_page {j = 0} refl (inl (omega arith)) refl),
            (
              by_actor (inl (omega arith)) refl (mark {p = 0} (omega arith) (omega arith) refl refl),
              (by_actor (inl (omega arith)) refl (lock_own refl (omega arith)), (by_actor (inl (omega arith)) refl load_stop, tt)),
            ),
          ),
        ),
      ),
    ),
  ),
)

abbrev one : Layout
one = record { harts = 1; pages = 256 }

abbrev or_victim : ℕ → Step
or_victim v = by 8 (4889 + 4 * v) Or 2 0

-- a whole snapshot of a machine of one hart, and the first take of the next
abbrev swept_record : List Step
swept_record = or_victim 7 ∷ or_victim 6 ∷ or_victim 5 ∷ or_victim 4 ∷ or_victim 3 ∷ or_victim 2 ∷ or_victim 1 ∷ or_victim 0 ∷ by 8 12 Load 0 0 ∷ by 8 11 (Exchange 0) 9 0
    ∷ by 8 731 Swap 0 0 ∷ by 8 730 Swap 0 0 ∷ by 8 729 Swap 0 0 ∷ by 8 728 Swap 0 1 ∷ []

abbrev snapshot_record : List Step
snapshot_record = by 8 728 Swap 0 0 ∷ by 8 216 Load 0 0 ∷ by 8 216 Store 3 0 ∷ by 8 216 Load 0 0 ∷ by 8 11 Store 0 0 ∷ swept_record

all_victims : (v : ℕ) → v < 8 → is_ored 0 (1024 + v) swept_record ≡ true
unfolding name_of
all_victims zero l = refl
all_victims (suc zero) l = refl
all_victims (suc (suc zero)) l = refl
all_victims (suc (suc (suc zero))) l = refl
all_victims (suc (suc (suc (suc zero)))) l = refl
all_victims (suc (suc (suc (suc (suc zero))))) l = refl
all_victims (suc (suc (suc (suc (suc (suc zero)))))) l = refl
all_victims (suc (suc (suc (suc (suc (suc (suc zero))))))) l = refl
all_victims (suc (suc (suc (suc (suc (suc (suc (suc v)))))))) l = absurd (omega arith)

swept_kept : IsSwept 0 swept_record
unfolding name_of
swept_kept = (
  0,
  refl,
  λ j u. ⊎_elim (λ (x : j < 0). absurd (omega arith))
      (λ (x : is_victim j ≡ true). let q = and_parts (nat_le 1024 j) (nat_lt j 1032) x in let low : 1024 ≤ j = leb-true 1024 j q.0 in let high : j < 1032 = omega (arith, ltb-true j 1032 q.1) in
      let e : 1024 + (j - 1024) ≡ j = omega arith in subst (λ j. is_ored 0 j swept_record ≡ true) e (all_victims (j - 1024) (omega arith))) u,
)

drain_word : IsRequestWord 3
drain_word = (Drain, tt, (refl, refl, refl))

snapshot_kept : IsDisciplined one 8 false snapshot_record
unfolding name_of
snapshot_kept = (
  by_actor (inr refl) refl (take refl refl),
  (
    by_actor (inr refl) refl (poll (λ e. omega arith)),
    (
      by_actor (inr refl) refl (post (λ e. omega arith) (omega arith) refl drain_word refl),
      (
        by_actor (inr refl) refl (poll (λ e. omega arith)),
        (by_actor (inr refl) refl (unlock refl (λ e. absurd (omega arith)) (λ _. swept_kept)), swept_rest),
      ),
    ),
  ),
)
  where
    swept_rest : IsDisciplined one 8 false swept_record
    swept_rest = (by_actor (inr refl) refl (set_clean refl refl), (by_actor (inr refl) refl (set_clean refl refl), (by_actor (inr refl) refl (set_clean refl refl), (by_actor (inr refl) refl (set_clean refl refl), (by_actor (inr refl) refl (set_clean refl refl), (by_actor (inr refl) refl (set_clean refl refl), (by_actor (inr refl) refl (set_clean refl refl), (by_actor (inr refl) refl (set_clean refl refl), (by_actor (inr refl) refl (load_other_size refl refl), (by_actor (inr refl) refl (lock_other refl refl (omega arith) refl), (by_actor (inr refl) refl (take refl refl), (by_actor (inr refl) refl (take refl refl), (by_actor (inr refl) refl (take refl refl), (by_actor (inr refl) refl (take refl refl), tt))))))))))))))
