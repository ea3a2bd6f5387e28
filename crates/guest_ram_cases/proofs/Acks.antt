-- A request at its target: its load, its service and its ack.
use Rattle.std.proofs.Common.{◌≡◌, ◌≢◌, ℕ, zero, suc, ◌+◌, ◌%◌, ◌<◌, Bool, true, false, List, ◌∷◌, length, refl, sym, ap, subst, ◌∙◌, inl, inr, ⊎_elim, arith}
use Rattle.std.specs.Prelude.{◌⊎◌, Some, None, if◌then◌else◌}
use Rattle.step_laws.specs.declared.map.TlbField.{TlbField}
use Rattle.step_laws.specs.declared.request.Request.TheVariants.{Drain}
use Rattle.step_laws.specs.declared.steps.Step.{Step}
use Rattle.step_laws.specs.declared.steps.WordOp.{WordOp}
use Rattle.step_laws.specs.declared.steps.WordOp.TheVariants.{Load, Store, Exchange}
use Rattle.step_laws.specs.Fields.{IsRequestWord, invalid_bit, request_kind}
use Rattle.step_laws.specs.Map.{Lock, Place, Size, Tlb, name_of}
use Rattle.step_laws.specs.Output.{has_touched, has_touched_next, is_finished_next}
use Rattle.step_laws.specs.Past.{Since, here, past, Anything}
use Rattle.step_laws.specs.Places.{last_load, last_load_next, acked_requests, acked_requests_next, ack_place, answer_or_zero}
use Rattle.step_laws.specs.Discipline.{IsServed, IsInUse, IsAway, IsFetch, IsUnlock}
use Rattle.step_laws.specs.Tables.{held_lock, held_lock_next, is_clear_due, is_clear_due_next, is_compare, is_victim, size_of, table_word, table_next, table_boot, IsClean}
use Rattle.step_laws.proofs.Named.{same_refl}
use Rattle.guest_ram.specs.Ports.{Shown, Adds, May, IsActing, IsKnown}
use Rattle.guest_ram.proofs.MaySteps.{may_fetch, may_ack, may_lock_own, may_unlock_own}
use Rattle.guest_ram.proofs.Moves.{acting_adds, fold_adds, found_there, lock_adds}
use Rattle.guest_ram_cases.specs.Entries.{IsPaid}
use Rattle.guest_ram_cases.specs.Requests.{IsServing}
use Rattle.guest_ram_cases.proofs.Filled.{lock_taken}
use Rattle.guest_ram_cases.proofs.Posts.{own_pair}

pub next_few : (t s k : ℕ) (r : List Step) → k ≡ ack_place t s r → k < 8
next_few t s k r e = omega (arith, e)

-- the hart's next place of a source
pub record IsNext (p : Shown) (s k : ℕ) : Type 0 where
  pub acting : IsActing p
  pub hart : p.own.actor < p.machine.layout.harts
  pub other : s ≢ p.own.actor
  pub next : k ≡ ack_place p.own.actor s p.own.steps
  pub untouched : has_touched p.own.steps ≡ false

pub may_fetch_next : (p : Shown) (word a s k : ℕ) → name_of word ≡ Place a s k → a ≡ p.own.actor → IsActing p → s ≢ p.own.actor → p.own.actor < p.machine.layout.harts → k ≡ ack_place p.own.actor s p.own.steps → has_touched p.own.steps ≡ false → May p word Load 0
may_fetch_next p word a s k e is acting ne l at calm = may_fetch p word s k (e ∙ ap (λ x. Place x s k) is) acting ne l at calm

module _ (p q : Shown) (word a s k answer : ℕ) (made : Adds p q word Load 0 answer) (e : name_of word ≡ Place a s k) (is : a ≡ p.own.actor) (n : IsNext p s k) where
  own_place : name_of word ≡ Place p.own.actor s k
  own_place = e ∙ ap (λ x. Place x s k) is

  -- it is still the next once it is loaded, and was loaded as this
  pub loads_next : IsNext q s k
  loads_next = record {
    acting = acting_adds p q word 0 answer Load (Place a s k) made e (λ _. refl) n.acting;
    hart = subst (λ (x : Shown). x.own.actor < x.machine.layout.harts) (sym made) n.hart;
    other = λ x. n.other (x ∙ ap (λ (y : Shown). y.own.actor) made);
    next = n.next ∙ ap (λ xs. length xs % 8) (sym (ap (λ (x : Shown). acked_requests x.own.actor s q.own.steps) made ∙ ap (λ (x : Shown). acked_requests p.own.actor s x.own.steps) made
        ∙ ap (λ v. acked_requests_next p.own.actor s v Load p.own.steps (acked_requests p.own.actor s p.own.steps)) own_place));
    untouched = fold_adds has_touched_next false p q word 0 answer Load (Place a s k) made e ∙ n.untouched;
  }

  pub loaded_as : last_load (Place q.own.actor s k) q.own.steps ≡ Some answer
  loaded_as = ap (λ (x : Shown). last_load (Place x.own.actor s k) q.own.steps) made ∙ fold_adds (last_load_next (Place p.own.actor s k)) None p q word 0 answer Load (Place p.own.actor s k) made own_place
      ∙ ap (λ (t : Bool). if t then Some answer else last_load (Place p.own.actor s k) p.own.steps) (same_refl (Place p.own.actor s k))

  named_q : name_of word ≡ Place q.own.actor s k
  named_q = own_place ∙ ap (λ (x : Shown). Place x.own.actor s k) (sym made)

  pub fetched_since : Since (λ x. name_of x.word ≢ Place q.own.actor s k) (λ x. (name_of x.word ≡ Place q.own.actor s k) × (x.op ≡ Load) × (x.answer ≡ answer)) (λ _. Unit {0}) q.own.steps
  fetched_since = subst (λ (x : Shown). Since (λ y. name_of y.word ≢ Place q.own.actor s k) (λ y. (name_of y.word ≡ Place q.own.actor s k) × (y.op ≡ Load) × (y.answer ≡ answer)) (λ _. Unit {0}) x.own.steps) (sym made)
      (here (named_q, refl, refl) tt)

pub drain_word : IsRequestWord 3
drain_word = (Drain, tt, (refl, refl, refl))

abbrev IsFetched : (a s k q : ℕ) → List Step → Type 0
IsFetched a s k q r = Since (λ x. name_of x.word ≢ Place a s k) (λ x. (name_of x.word ≡ Place a s k) × (x.op ≡ Load) × (x.answer ≡ q)) (λ _. Unit {0}) r

-- a step on a lock acks nothing
still_acked : (p q : Shown) (word arg answer h s : ℕ) (op : WordOp) → Adds p q word op arg answer → name_of word ≡ Lock h → acked_requests q.own.actor s q.own.steps ≡ acked_requests p.own.actor s p.own.steps
still_acked p q word arg answer h s op made e = ap (λ (x : Shown). acked_requests x.own.actor s q.own.steps) made ∙ ap (λ (x : Shown). acked_requests p.own.actor s x.own.steps) made
    ∙ ap (λ v. acked_requests_next p.own.actor s v op p.own.steps (acked_requests p.own.actor s p.own.steps)) e

-- an empty table, and a place that is the next and was loaded as this, behind a step on a lock
pub record IsFlushing (p : Shown) (s k q : ℕ) : Type 0 where
  pub next : IsNext p s k
  pub loaded : last_load (Place p.own.actor s k) p.own.steps ≡ Some q
  pub fetched : IsFetched p.own.actor s k q p.own.steps
  pub paid : IsPaid p
  pub empty : (j : ℕ) (f : TlbField) → is_compare f ≡ true → IsInUse p.own.actor j p.own.steps → invalid_bit (table_word (Tlb p.own.actor j f) p.own.steps) ≡ 1

module _ (p q : Shown) (word arg answer h s k r : ℕ) (op : WordOp) (i : IsFlushing p s k r) (made : Adds p q word op arg answer) (e : name_of word ≡ Lock h) where
  same_actor : q.own.actor ≡ p.own.actor
  same_actor = ap (λ (x : Shown). x.own.actor) made

  off_lock : name_of word ≢ Place q.own.actor s k
  off_lock f = absurd (cc)

  pub flushes_on : ((b : Bool) → is_finished_next (Lock h) op arg answer b ≡ b) → IsFlushing q s k r
  flushes_on not_last = record {
    next = record {
      acting = acting_adds p q word arg answer op (Lock h) made e not_last i.next.acting;
      hart = subst (λ (x : Shown). x.own.actor < x.machine.layout.harts) (sym made) i.next.hart;
      other = λ x. i.next.other (x ∙ same_actor);
      next = i.next.next ∙ ap (λ xs. length xs % 8) (sym (ap (λ a. acked_requests a s q.own.steps) same_actor ∙ ap (λ (x : Shown). acked_requests p.own.actor s x.own.steps) made
          ∙ ap (λ v. acked_requests_next p.own.actor s v op p.own.steps (acked_requests p.own.actor s p.own.steps)) e));
      untouched = fold_adds has_touched_next false p q word arg answer op (Lock h) made e ∙ i.next.untouched;
    };
    loaded = ap (λ a. last_load (Place a s k) q.own.steps) same_actor ∙ fold_adds (last_load_next (Place p.own.actor s k)) None p q word arg answer op (Lock h) made e ∙ i.loaded;
    fetched = subst (λ (x : Shown). IsFetched q.own.actor s k r x.own.steps) (sym made) (past off_lock (subst (λ a. IsFetched a s k r p.own.steps) (sym same_actor) i.fetched));
    paid = λ j f compare. ap (λ a. is_clear_due a j f q.own.steps) same_actor ∙ ap (λ (x : Shown). is_clear_due p.own.actor j f x.own.steps) made
        ∙ ap (λ v. is_clear_due_next p.own.actor j f v op arg (size_of p.own.actor p.own.steps) (is_clear_due p.own.actor j f p.own.steps)) e ∙ i.paid j f compare;
    empty = λ j f compare used. ap (λ a. invalid_bit (table_word (Tlb a j f) q.own.steps)) same_actor
        ∙ ap invalid_bit (fold_adds (table_next (Tlb p.own.actor j f)) (table_boot (Tlb p.own.actor j f)) p q word arg answer op (Lock h) made e)
        ∙ i.empty j f compare (subst (λ n. (j < n) ⊎ (is_victim j ≡ true)) (ap (λ a. size_of a q.own.steps) same_actor ∙ fold_adds (table_next (Size p.own.actor)) (table_boot (Size p.own.actor)) p q word arg answer op (Lock h) made e) used);
  }

-- a step on a place leaves a target serving
module _ (p q : Shown) (word arg answer t u k s : ℕ) (op : WordOp) (made : Adds p q word op arg answer) (e : name_of word ≡ Place t u k) where
  pub serves_on : IsServing p s → IsServing q s
  serves_on i = record {
    acting = acting_adds p q word arg answer op (Place t u k) made e (λ _. refl) i.acting;
    hart = subst (λ (x : Shown). x.own.actor < x.machine.layout.harts) (sym made) i.hart;
    other = λ x. i.other (x ∙ ap (λ (y : Shown). y.own.actor) made);
    untouched = fold_adds has_touched_next false p q word arg answer op (Place t u k) made e ∙ i.untouched;
    table = record {
      free = lock_adds p q word arg answer op (Place t u k) made e ∙ i.table.free;
      paid = λ j f compare. ap (λ (x : Shown). is_clear_due x.own.actor j f q.own.steps) made ∙ ap (λ (x : Shown). is_clear_due p.own.actor j f x.own.steps) made
          ∙ ap (λ v. is_clear_due_next p.own.actor j f v op arg (size_of p.own.actor p.own.steps) (is_clear_due p.own.actor j f p.own.steps)) e ∙ i.table.paid j f compare;
      empty = λ j f compare used. ap (λ (x : Shown). invalid_bit (table_word (Tlb x.own.actor j f) q.own.steps)) made
          ∙ ap invalid_bit (fold_adds (table_next (Tlb p.own.actor j f)) (table_boot (Tlb p.own.actor j f)) p q word arg answer op (Place t u k) made e)
          ∙ i.table.empty j f compare (subst (λ n. (j < n) ⊎ (is_victim j ≡ true)) (ap (λ (x : Shown). size_of x.own.actor q.own.steps) made ∙ fold_adds (table_next (Size p.own.actor)) (table_boot (Size p.own.actor)) p q word arg answer op (Place t u k) made e) used);
    };
  }

  -- a load acks nothing
  pub loads_keep : op ≡ Load → acked_requests q.own.actor s q.own.steps ≡ acked_requests p.own.actor s p.own.steps
  loads_keep is = ap (λ (x : Shown). acked_requests x.own.actor s q.own.steps) made ∙ ap (λ (x : Shown). acked_requests p.own.actor s x.own.steps) made
      ∙ ap (λ v. acked_requests_next p.own.actor s v op p.own.steps (acked_requests p.own.actor s p.own.steps)) e
      ∙ ap (λ o. acked_requests_next p.own.actor s (Place t u k) o p.own.steps (acked_requests p.own.actor s p.own.steps)) is

  -- a store in the own place of this source acks what was loaded there
  pub acks_more : (n : ℕ) → op ≡ Store → t ≡ p.own.actor → u ≡ s → last_load (Place p.own.actor s k) p.own.steps ≡ Some n → acked_requests q.own.actor s q.own.steps ≡ n ∷ acked_requests p.own.actor s p.own.steps
  acks_more n is own from there = ap (λ (x : Shown). acked_requests x.own.actor s q.own.steps) made ∙ ap (λ (x : Shown). acked_requests p.own.actor s x.own.steps) made
      ∙ ap (λ v. acked_requests_next p.own.actor s v op p.own.steps (acked_requests p.own.actor s p.own.steps)) e
      ∙ ap (λ o. acked_requests_next p.own.actor s (Place t u k) o p.own.steps (acked_requests p.own.actor s p.own.steps)) is
      ∙ ap (λ a. acked_requests_next p.own.actor s (Place a u k) Store p.own.steps (acked_requests p.own.actor s p.own.steps)) own
      ∙ ap (λ a. acked_requests_next p.own.actor s (Place p.own.actor a k) Store p.own.steps (acked_requests p.own.actor s p.own.steps)) from
      ∙ ap (λ (b : Bool). if b then answer_or_zero (last_load (Place p.own.actor s k) p.own.steps) ∷ acked_requests p.own.actor s p.own.steps else acked_requests p.own.actor s p.own.steps) (own_pair p.own.actor s)
      ∙ ap (λ o. answer_or_zero o ∷ acked_requests p.own.actor s p.own.steps) there

-- a drain is acked at once
module _ (p q : Shown) (word a s k r : ℕ) (made : Adds p q word Load 0 r) (e : name_of word ≡ Place a s k) (is : a ≡ p.own.actor) (n : IsNext p s k) where
  its_own : a ≡ q.own.actor
  its_own = is ∙ ap (λ (x : Shown). x.own.actor) (sym made)

  pub may_ack_drain : r ≡ 3 → May q word Store 0
  may_ack_drain three = let m : IsNext q s k = loads_next p q word a s k r made e is n in
      may_ack q word s k r (e ∙ ap (λ x. Place x s k) its_own) m.acting m.other m.hart m.next m.untouched (subst IsRequestWord (sym three) drain_word) (loaded_as p q word a s k r made e is n)
      (inl (ap request_kind three, fetched_since p q word a s k r made e is n))

  pub acks_drain : (u : Shown) → Adds q u word Store 0 0 → acked_requests u.own.actor s u.own.steps ≡ r ∷ acked_requests p.own.actor s p.own.steps
  acks_drain u acked = acks_more q u word 0 0 a s k s Store acked e r refl its_own refl (loaded_as p q word a s k r made e is n) ∙ ap (λ xs. r ∷ xs) (loads_keep p q word 0 r a s k s Load made e refl)

next_of : (p : Shown) (s k : ℕ) → IsServing p s → k ≡ ack_place p.own.actor s p.own.steps → IsNext p s k
next_of p s k i at = record { acting = i.acting; hart = i.hart; other = i.other; next = at; untouched = i.untouched }

-- behind the load of a request
module _ (p q : Shown) (word a s k r : ℕ) (made : Adds p q word Load 0 r) (e : name_of word ≡ Place a s k) (is : a ≡ p.own.actor) (i : IsServing p s) (at : k ≡ ack_place p.own.actor s p.own.steps) where
  n : IsNext p s k
  n = next_of p s k i at

  pub served_first : IsServing q s
  served_first = serves_on p q word 0 r a s k s Load made e i

  pub flush_first : IsFlushing q s k r
  flush_first = record {
    next = loads_next p q word a s k r made e is n;
    loaded = loaded_as p q word a s k r made e is n;
    fetched = fetched_since p q word a s k r made e is n;
    paid = served_first.table.paid;
    empty = served_first.table.empty;
  }

  own_is : a ≡ q.own.actor
  own_is = is ∙ ap (λ (x : Shown). x.own.actor) (sym made)

  module _ (lock arg : ℕ) (f : name_of lock ≡ Lock a) (arg_is : arg ≡ a + 1) where
    pub may_flush_lock : May q lock (Exchange 0) arg
    may_flush_lock = may_lock_own q lock arg (f ∙ ap (λ x. Lock x) own_is) (arg_is ∙ ap (λ x. x + 1) own_is) flush_first.next.acting flush_first.next.hart served_first.table.free

    module _ (v : Shown) (answer : ℕ) (locked : Adds q v lock (Exchange 0) arg answer) where
      flush_second : IsFlushing v s k r
      flush_second = flushes_on q v lock arg answer a s k r (Exchange 0) flush_first locked f (λ _. refl)

      own_locked : a ≡ v.own.actor
      own_locked = own_is ∙ ap (λ (x : Shown). x.own.actor) (sym locked)

      served_as : held_lock v.own.steps ≡ 0 → IsServing v s
      served_as free = let m = flush_second.next in record {
        acting = m.acting;
        hart = m.hart;
        other = m.other;
        untouched = m.untouched;
        table = record { free = free; paid = flush_second.paid; empty = flush_second.empty };
      }

      -- another holds the lock
      pub served_locked : answer ≢ 0 → IsServing v s
      served_locked ne = served_as (lock_adds q v lock arg answer (Exchange 0) (Lock a) locked f ∙ go answer ne ∙ served_first.table.free)
        where
          go : (m : ℕ) → m ≢ 0 → held_lock_next (Lock a) (Exchange 0) arg m (held_lock q.own.steps) ≡ held_lock q.own.steps
          go zero ne = absurd (ne refl)
          go (suc m) ne = refl

      module _ (nil : answer ≡ 0) where
        pub may_flush_unlock : May v lock Store 0
        may_flush_unlock = may_unlock_own v lock (f ∙ ap (λ x. Lock x) own_locked) flush_second.next.acting (lock_taken q v lock arg answer a locked f own_is nil) flush_second.paid

        module _ (u : Shown) (freed : Adds v u lock Store 0 0) where
          flush_third : IsFlushing u s k r
          flush_third = flushes_on v u lock 0 0 a s k r Store flush_second freed f (λ _. refl)

          own_freed : a ≡ u.own.actor
          own_freed = own_locked ∙ ap (λ (x : Shown). x.own.actor) (sym freed)

          back : v.own.actor ≡ u.own.actor
          back = ap (λ (x : Shown). x.own.actor) (sym freed)

          is_served : IsServed u.own.actor (Place u.own.actor s k) r u.own.steps
          is_served = inr (subst (λ (x : Shown). Since (IsAway (Place u.own.actor s k)) (IsUnlock u.own.actor) (λ xs. IsClean u.own.actor r xs × Since (IsAway (Place u.own.actor s k)) (IsFetch (Place u.own.actor s k) r) Anything xs) x.own.steps) (sym freed)
              (here (f ∙ ap (λ x. Lock x) own_freed, refl, refl)
              (subst (λ b. IsClean b r v.own.steps) back (λ j g compare used. inl (flush_second.empty j g compare used)), subst (λ b. IsFetched b s k r v.own.steps) back flush_second.fetched)))

          served_third : IsServing u s
          served_third = let m = flush_third.next in record {
            acting = m.acting;
            hart = m.hart;
            other = m.other;
            untouched = m.untouched;
            table = record { free = lock_adds v u lock 0 0 Store (Lock a) freed f; paid = flush_third.paid; empty = flush_third.empty };
          }

          -- what was found in the place is a request, where it isn't 0
          pub may_flush_ack : IsKnown p word r → r ≢ 0 → May u word Store 0
          may_flush_ack known some = let m = flush_third.next in may_ack u word s k r (e ∙ ap (λ x. Place x s k) own_freed) m.acting m.other m.hart m.next m.untouched
              (⊎_elim (λ (z : r ≡ 0). absurd (some z)) (λ (w : IsRequestWord r). w) (found_there p word r (Place a s k) i.acting known e)) flush_third.loaded is_served

          module _ (w : Shown) (acked : Adds u w word Store 0 0) where
            pub served_last : IsServing w s
            served_last = serves_on u w word 0 0 a s k s Store acked e served_third

            pub acks_flush : acked_requests w.own.actor s w.own.steps ≡ r ∷ acked_requests p.own.actor s p.own.steps
            acks_flush = acks_more u w word 0 0 a s k s Store acked e r refl own_freed refl flush_third.loaded
                ∙ ap (λ xs. r ∷ xs) (still_acked v u lock 0 0 a s Store freed f ∙ still_acked q v lock arg answer a s (Exchange 0) locked f ∙ loads_keep p q word 0 r a s k s Load made e refl)
