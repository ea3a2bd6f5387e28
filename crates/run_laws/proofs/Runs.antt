-- The law of one run.
use Rattle.std.proofs.Common.{◌≡◌, ◌≢◌, ◌⊎◌, ◌<◌, ◌≤◌, ℕ, Bool, true, false, List, [], ◌∷◌, ◌++◌, refl, sym, ap, subst, ◌∙◌, inl, inr, arith, ⊎_elim}
use Rattle.std.specs.Prelude.{◌==◌, ◌&&◌, ◌||◌, nat_lt, nat_le, if◌then◌else◌}
use Rattle.std.proofs.lemmas.Bool.{lt-ltb, ltb-true}
use Rattle.step_laws.specs.declared.words.Layout.{Layout}
use Rattle.step_laws.specs.declared.steps.Step.{Step}
use Rattle.step_laws.specs.declared.steps.WordOp.TheVariants.{Load, Store}
use Rattle.step_laws.specs.Words.{loader, most_harts, main_slots, all_slots}
use Rattle.step_laws.specs.Map.{Word, Live, Hsm, Size, Tlb, Ram, Ipi, Zero, name_of, number_of, same, IsWord}
use Rattle.step_laws.specs.Steps.{own_steps, value_at, new_of}
use Rattle.step_laws.specs.Layout.{IsInLimits}
use Rattle.step_laws.specs.Tables.{is_first_slot, is_victim, boot_entry}
use Rattle.step_laws.specs.Loader.{is_stored, is_stored_next, IsBooted}
use Rattle.step_laws.specs.Discipline.{IsDisciplined}
use Rattle.step_laws.specs.Histories.{IsHistory}
use Rattle.step_laws.proofs.Named.{by_test, by_lt, same_refl, name_number}
use Rattle.step_laws.proofs.Woven.{loader_op}
use Rattle.step_laws.proofs.Along.{permits_loader}
use Rattle.step_laws.proofs.Histories.{joined_law}
use Rattle.machine_model.specs.Memory.{Memory}
use Rattle.machine_model.specs.Event.{Event}
use Rattle.machine_model.specs.State.{Setup}
use Rattle.turn_pieces.specs.Shared.{IsShared}
use Rattle.turn_pieces.proofs.Chains.{chain_grows}
use Rattle.run_laws.specs.Boot.{image_word, first_word, IsBoot}
use Rattle.run_laws.specs.Ended.{IsEnded}
use Rattle.run_laws.specs.Read.{IsRead as LogRead}
use Rattle.run_laws.specs.RunLaws.{RunLaw}
use Rattle.run_laws.proofs.Placed.{placed_of}
use Rattle.run_laws.proofs.Ended.{IsRead}
use Rattle.run_laws.proofs.Same.{same_steps}
use Rattle.run_laws.proofs.Turns.{chain_of}
use Rattle.run_laws.proofs.Merged.{log_of, log_steps, log_events, log_again, own_log}
use Rattle.run_laws.proofs.Joining.{joined_composition}

-- a word that the loader left not 0 was stored
stored_by : (n : ℕ) (s : Step) (r : List Step) → (s.op ≡ Store) ⊎ ((name_of s.word ≡ Zero) × (s.op ≡ Load)) → (value_at n r ≢ 0 → is_stored (name_of n) r ≡ true)
    → (if n == s.word then new_of s.op (value_at n r) s.arg else value_at n r) ≢ 0 → is_stored_next (name_of n) (name_of s.word) s.op s.arg s.answer (is_stored (name_of n) r) ≡ true
stored_by n s r (inl o) ih = subst (λ op. (if n == s.word then new_of op (value_at n r) s.arg else value_at n r) ≢ 0 → is_stored_next (name_of n) (name_of s.word) op s.arg s.answer (is_stored (name_of n) r) ≡ true) (sym o)
    (by_test n s.word (λ b. (if b then s.arg else value_at n r) ≢ 0 → (if same (name_of n) (name_of s.word) then true else is_stored (name_of n) r) ≡ true)
    (λ e ne. subst (λ m. (if same (name_of n) (name_of m) then true else is_stored (name_of n) r) ≡ true) e (ap (λ (b : Bool). if b then true else is_stored (name_of n) r) (same_refl (name_of n))))
    (λ _ ne. either_way (same (name_of n) (name_of s.word)) (ih ne)))
  where
    either_way : (b : Bool) {c : Bool} → c ≡ true → (if b then true else c) ≡ true
    either_way true k = refl
    either_way false k = k
stored_by n s r (inr o) ih = subst (λ op. (if n == s.word then new_of op (value_at n r) s.arg else value_at n r) ≢ 0 → is_stored_next (name_of n) (name_of s.word) op s.arg s.answer (is_stored (name_of n) r) ≡ true) (sym o.1)
    (λ ne. ih (λ e. ne (both (n == s.word) ∙ e)))
  where
    both : (b : Bool) → (if b then value_at n r else value_at n r) ≡ value_at n r
    both true = refl
    both false = refl

left_stored : (layout : Layout) (runs : Bool) (r : List Step) → layout.harts ≤ most_harts → IsDisciplined layout loader runs r → (n : ℕ) → value_at n r ≢ 0 → is_stored (name_of n) r ≡ true
left_stored layout runs [] p d n ne = absurd (ne refl)
left_stored layout runs (s ∷ r) p d n ne = stored_by n s r
    (loader_op layout r (name_of s.word) s.op s.arg (permits_loader layout loader runs r (name_of s.word) s.op s.arg p refl d.0)) (left_stored layout runs r p d.1 n) ne

-- the word with this name
named_stored : (u : Setup) (runs : Bool) (r : List Step) → u.layout.harts ≤ most_harts → IsDisciplined u.layout loader runs r → IsBoot u r → (w : Word) → IsWord w
    → first_word u.layout u.image w (number_of w) ≢ 0 → is_stored w r ≡ true
named_stored u runs r p d b w is ne = subst (λ v. is_stored v r ≡ true) (name_number w is) (left_stored u.layout runs r p d (number_of w)
    (λ e. ne (ap (λ v. first_word u.layout u.image v (number_of w)) (sym (name_number w is)) ∙ (sym (b.leaves (number_of w)) ∙ e))))

boot_booted : (u : Setup) (runs : Bool) (r : List Step) → IsInLimits u.layout → IsDisciplined u.layout loader runs r → IsBoot u r → IsBooted u.layout r
boot_booted u runs r limits d b = record {
  live = named_stored u runs r limits.harts d b Live tt (one_not refl);
  states = λ h p q. named_stored u runs r limits.harts d b (Hsm h) (let m = limits.harts in omega (arith, m, q)) (one_not (ap (λ (t : Bool). if t then 1 else 0) (between h p q)));
  sizes = λ h q. named_stored u runs r limits.harts d b (Size h) (let m = limits.harts in omega (arith, m, q)) (some_not (ap (λ (t : Bool). if t then 64 else 0) (lt-ltb h u.layout.harts q)));
  slots = λ h j f q o c. named_stored u runs r limits.harts d b (Tlb h j f) (let m = limits.harts in (omega (arith, m, q), slot_there j o))
      (one_not (ap (λ (t : Bool). if t then boot_entry j f else 0) (lt-ltb h u.layout.harts q) ∙ ap (λ (t : Bool). if t then 1 else 0) (both o c)));
}
  where
    one_not : {n : ℕ} → n ≡ 1 → n ≢ 0
    one_not e z = omega (arith, e, z)

    some_not : {n : ℕ} → n ≡ 64 → n ≢ 0
    some_not e z = omega (arith, e, z)

    both : {x y : Bool} → x ≡ true → y ≡ true → (x && y) ≡ true
    both e f = λ i. e i && f i

    between : (h : ℕ) → 1 ≤ h → h < u.layout.harts → (nat_lt 0 h && nat_lt h u.layout.harts) ≡ true
    between h p q = both (lt-ltb 0 h (omega (arith, p))) (lt-ltb h u.layout.harts q)

    second : (x y : Bool) → (x && y) ≡ true → y ≡ true
    second true y e = e
    second false y e = absurd (cc (e))

    slot_there : (j : ℕ) → is_first_slot j ≡ true → j < all_slots
    slot_there j = by_lt j 64 (λ t. (t || is_victim j) ≡ true → j < all_slots) (λ lt o. omega (arith, lt)) (λ le o. ltb-true j all_slots (second (nat_le main_slots j) (nat_lt j all_slots) o))

-- the image
image_of_shared : (layout : Layout) (image : Memory) (w : Word) (n : ℕ) → IsShared w → first_word layout image w n ≡ image_word image w n
image_of_shared layout image (Ram i) n s = refl
image_of_shared layout image Ipi n s = refl
image_of_shared layout image w n s = absurd s

image_off : (image : Memory) (w : Word) (n : ℕ) → IsShared w ⊎ (image_word image w n ≡ 0)
image_off image (Ram i) n = inl tt
image_off image w n = inr refl

pub run_law : RunLaw
run_law u words records turns logs limits j b t = (c.0, c.1, read)
  where
    base : (runs : ℕ → Bool) × IsHistory u.layout runs j.steps
    base = joined_law u.layout words records limits j

    c : (run : List Event) × IsEnded u words run × IsRead u j.steps records (λ a. placed_of (logs a)) run
    c = joined_composition u words records (λ a. placed_of (logs a)) limits j
        (λ x s. b.leaves x ∙ (image_of_shared u.layout u.image (name_of x) x s ∙ sym (b.image x)))
        (λ x. ⊎_elim (λ s. inl s) (λ (e : image_word u.image (name_of x) x ≡ 0). inr (b.image x ∙ e)) (image_off u.image (name_of x) x))
        (λ k r e ne. let l = t.each k r e ne in record { are = same_steps (logs r.actor) ∙ l.are; turns = chain_of u r.actor l.chain })
        (boot_booted u (base.0 loader) (own_steps loader j.steps) limits (base.1.disciplined loader) b)

    read : LogRead j.steps records logs c.0
    read = record {
      all = log_of c.2.all;
      stores = c.2.boot;
      loaders = c.2.loaders;
      order = c.2.order ∙ ap (λ l. l ++ c.2.boot) (sym (log_steps c.2.all));
      own = λ k r e ne. own_log u r.actor c.2.all c.2.told ∙ (ap log_of (c.2.own k r e ne) ∙ log_again u r.actor (chain_grows u r.actor (t.each k r e ne).chain));
      events = log_events c.2.all ∙ c.2.events;
    }
