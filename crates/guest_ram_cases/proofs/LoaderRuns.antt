-- Which harts run at the beginning, by what the loader stored.
use Rattle.std.proofs.Common.{◌≡◌, ℕ, ◌<◌, ◌≤◌, Bool, true, false, true≢false, List, [], ◌∷◌, refl, sym, ap, subst, ◌∙◌, arith}
use Rattle.std.specs.Prelude.{◌==◌, ◌&&◌, if◌then◌else◌}
use Rattle.std.proofs.lemmas.Bool.{lt-ltb, le-ltb, ne_eqb}
use Rattle.step_laws.specs.declared.words.Layout.{Layout}
use Rattle.step_laws.specs.declared.steps.Step.{Step}
use Rattle.step_laws.specs.declared.steps.WordOp.{WordOp}
use Rattle.step_laws.specs.declared.steps.WordOp.TheVariants.{Load, Store}
use Rattle.step_laws.specs.Discipline.{IsActor, IsDisciplined, IsPermitted, LoaderMay, boot_live, boot_hsm, boot_size, boot_slot, boot_ram, load_first, load_more}
use Rattle.step_laws.specs.Joined.{runs_after}
use Rattle.step_laws.specs.Layout.{IsInLimits}
use Rattle.step_laws.specs.Loader.{is_stored, is_stored_next, IsBooted}
use Rattle.step_laws.specs.Map.{Word, Hsm, Live, Size, Tlb, Zero, name_of, number_of, loader, monitor}
use Rattle.step_laws.specs.WordValues.{value_next, word_value}
use Rattle.step_laws.proofs.Along.{permits_loader}
use Rattle.step_laws.proofs.Numbered.{named_zero}
use Rattle.guest_ram.specs.Areas.{AnyWord}
use Rattle.guest_ram.specs.Ports.{Machine, Shown, May, GoesBy, IsBooting, after_split, split_shown}
use Rattle.guest_ram.specs.Shown.{first_shown}
use Rattle.guest_ram.proofs.Moves.{disciplined_goes}
use Rattle.guest_ram_cases.specs.Tours.{IsFresh, fresh_seat}

-- HSM of hart 0 is never stored
module _ (layout : Layout) (r : List Step) where
  zero_kept : (w : Word) (op : WordOp) (arg n : ℕ) → LoaderMay layout r w op arg → value_next (Hsm 0) w op n arg ≡ n
  zero_kept w op arg n (boot_live x) = refl
  zero_kept w op arg n (boot_hsm {h} x some l) = ap (λ (t : Bool). if t then 1 else n) (ne_eqb 0 h (λ e. omega (arith, e, some)))
  zero_kept w op arg n (boot_size x l) = refl
  zero_kept w op arg n (boot_slot x l i c) = refl
  zero_kept w op arg n (boot_ram x) = refl
  zero_kept w op arg n (load_first x) = refl
  zero_kept w op arg n (load_more x) = refl

  -- HSM of another is 1 once it is stored
  one_kept : (h : ℕ) (w : Word) (op : WordOp) (arg n : ℕ) (b : Bool) → LoaderMay layout r w op arg → (b ≡ true → n ≡ 1) → is_stored_next (Hsm h) w op arg 0 b ≡ true → value_next (Hsm h) w op n arg ≡ 1
  one_kept h w op arg n b (boot_live x) old e = old e
  one_kept h w op arg n b (boot_hsm {h = k} x some l) old e = by (h == k) old e
    where
      by : (t : Bool) → (b ≡ true → n ≡ 1) → (if t then true else b) ≡ true → (if t then 1 else n) ≡ 1
      by true old e = refl
      by false old e = old e
  one_kept h w op arg n b (boot_size x l) old e = old e
  one_kept h w op arg n b (boot_slot x l i c) old e = old e
  one_kept h w op arg n b (boot_ram x) old e = old e
  one_kept h w op arg n b (load_first x) old e = old e
  one_kept h w op arg n b (load_more x) old e = old e

stored_by : (v w : Word) (op : WordOp) (arg answer : ℕ) (b : Bool) → is_stored_next v w op arg answer b ≡ is_stored_next v w op arg 0 b
stored_by v w Store arg answer b = refl
stored_by v w op arg answer b = refl

hsm_zero : (layout : Layout) (runs : Bool) (r : List Step) → IsInLimits layout → IsDisciplined layout loader runs r → word_value (Hsm 0) r ≡ 0
hsm_zero layout runs [] limits d = refl
hsm_zero layout runs (s ∷ r) limits d = zero_kept layout r (name_of s.word) s.op s.arg (word_value (Hsm 0) r) (permits_loader layout loader runs r (name_of s.word) s.op s.arg limits.harts refl d.0) ∙ hsm_zero layout runs r limits d.1

hsm_one : (layout : Layout) (runs : Bool) (r : List Step) (h : ℕ) → IsInLimits layout → IsDisciplined layout loader runs r → is_stored (Hsm h) r ≡ true → word_value (Hsm h) r ≡ 1
hsm_one layout runs [] h limits d e = absurd (true≢false (sym e))
hsm_one layout runs (s ∷ r) h limits d e = one_kept layout r h (name_of s.word) s.op s.arg (word_value (Hsm h) r) (is_stored (Hsm h) r) (permits_loader layout loader runs r (name_of s.word) s.op s.arg limits.harts refl d.0)
    (hsm_one layout runs r h limits d.1) (sym (stored_by (Hsm h) (name_of s.word) s.op s.arg s.answer (is_stored (Hsm h) r)) ∙ e)

-- the loader of a machine that was just made, behind its stores
pub record IsLoaded (p : Shown) : Type 0 where
  pub limits : IsInLimits p.machine.layout
  pub actor : p.own.actor ≡ loader
  pub kept : IsDisciplined p.machine.layout loader p.own.runs p.own.steps
  pub booted : IsBooted p.machine.layout p.own.steps

pub runs_zero : (p : Shown) → IsLoaded p → runs_after p.machine.layout p.own.steps 0 ≡ true
runs_zero p l = let some = l.limits.some_hart in ap (λ (t : Bool). t && (word_value (Hsm 0) p.own.steps == 0)) (lt-ltb 0 p.machine.layout.harts (omega (arith, some)))
    ∙ ap (λ n. n == 0) (hsm_zero p.machine.layout p.own.runs p.own.steps l.limits l.kept)

pub runs_other : (p : Shown) (h : ℕ) → 1 ≤ h → h < p.machine.layout.harts → IsLoaded p → runs_after p.machine.layout p.own.steps h ≡ false
runs_other p h some less l = ap (λ (t : Bool). t && (word_value (Hsm h) p.own.steps == 0)) (lt-ltb h p.machine.layout.harts less)
    ∙ ap (λ n. n == 0) (hsm_one p.machine.layout p.own.runs p.own.steps h l.limits l.kept (l.booted.states h some less))

pub runs_monitor : (p : Shown) → IsLoaded p → runs_after p.machine.layout p.own.steps monitor ≡ false
runs_monitor p l = let few = l.limits.harts in ap (λ (t : Bool). t && (word_value (Hsm monitor) p.own.steps == 0)) (le-ltb monitor p.machine.layout.harts (omega (arith, few)))

pub loaded_first : (m : Machine) (n : ℕ) (q r : Shown) → q ≡ first_shown m → GoesBy n AnyWord q r → IsBooting r → IsBooted r.machine.layout r.own.steps → IsLoaded r
loaded_first m n q r first goes booting booted = record {
  limits = booting.limits;
  actor = booting.actor;
  kept = subst (λ a. IsDisciplined r.machine.layout a r.own.runs r.own.steps) booting.actor
      (disciplined_goes n AnyWord q r goes (subst (λ (x : Shown). IsDisciplined x.machine.layout x.own.actor x.own.runs x.own.steps) (sym first) tt));
  booted = booted;
}

-- a split leaves all that
pub loaded_split : (p q : Shown) (n a : ℕ) → IsLoaded p → May p (number_of Zero) Load 0 → q ≡ after_split p n a → IsLoaded q
loaded_split p q n a l may e = subst IsLoaded (sym e) (record {
  limits = l.limits;
  actor = l.actor;
  kept = (subst (λ b. IsPermitted p.machine.layout b p.own.runs p.own.steps (name_of (number_of Zero)) Load 0) l.actor may, l.kept);
  booted = record {
    live = still Live l.booted.live;
    states = λ h some less. still (Hsm h) (l.booted.states h some less);
    sizes = λ h less. still (Size h) (l.booted.sizes h less);
    slots = λ h j f less first compare. still (Tlb h j f) (l.booted.slots h j f less first compare);
  };
})
  where
    still : (w : Word) → is_stored w p.own.steps ≡ true → is_stored_next w (name_of (number_of Zero)) Load 0 n (is_stored w p.own.steps) ≡ true
    still w x = ap (λ v. is_stored_next w v Load 0 n (is_stored w p.own.steps)) named_zero ∙ x

pub seat_is : (m : Machine) (p : Shown) (a : ℕ) (runs : Bool) → p.machine ≡ m → runs_after p.machine.layout p.own.steps a ≡ runs → split_shown p a ≡ fresh_seat m a runs
seat_is m p a runs e f = λ i. fresh_seat (e i) a (f i)

pub fresh_is : (m : Machine) (p : Shown) (a : ℕ) (runs : Bool) → IsInLimits m.layout → IsActor m.layout a → p ≡ fresh_seat m a runs → IsFresh p
fresh_is m p a runs limits actor e = subst IsFresh (sym e) (record { acting = record { limits = limits; actor = actor; going = refl }; no_step = refl })
