-- The monitor's log within a turn: how it goes on by steps that need no event, and what it knows of words that were read.
use Rattle.std.proofs.Common.{◌≡◌, ◌≢◌, ◌⊎◌, ◌≤◌, ◌<◌, ◌+◌, ◌^◌, ℕ, zero, suc, Bool, true, false, List, [], ◌∷◌, ◌++◌, Option, Some, refl, sym, ap, subst, ◌∙◌, inl, inr, arith}
use Rattle.std.specs.Prelude.{◌-◌, ◌==◌, if◌then◌else◌}
use Rattle.std.proofs.lemmas.Bool.{cases_Bool, cases_lt, eq-eqb, eqb-true}
use Rattle.step_laws.specs.declared.steps.Step.{Step}
use Rattle.step_laws.specs.declared.steps.WordOp.{WordOp}
use Rattle.step_laws.specs.declared.steps.WordOp.TheVariants.{Load}
use Rattle.step_laws.specs.Map.{Word, Kick, Pend, Ram, Run, Stop, monitor, name_of}
use Rattle.step_laws.specs.Words.{ram_word}
use Rattle.machine_model.specs.Event.{Event}
use Rattle.machine_model.specs.Memory.{Memory}
use Rattle.machine_model.specs.Run.{is_snap_begin, last_of, passes}
use Rattle.machine_model.specs.Script.{script_results}
use Rattle.machine_model.specs.State.{Setup}
use Rattle.guest_ram.specs.Plays.{step_of}
use Rattle.guest_ram.specs.Ports.{AreAllowed, GoesBy, Made, Shown, layout_of}
use Rattle.hart_calls.specs.Printing.{HasLoadedIf, begins_word}
use Rattle.hart_calls.proofs.Printed.{beside}
use Rattle.signal_pieces.specs.Signalling.{IsOfSides}
use Rattle.turn_pieces.specs.Folds.{known_word_next, script_of}
use Rattle.turn_pieces.specs.Grows.{Grows, LooksAtStop, look_next, looks_of, stays}
use Rattle.turn_pieces.specs.Kept.{known_word}
use Rattle.turn_pieces.specs.Log.{Log, made}
use Rattle.turn_pieces.specs.Owed.{nothing, owed}
use Rattle.turn_pieces.specs.Writers.{quietly}
use Rattle.turn_pieces.proofs.Writers.{grows_then}
use Rattle.monitor.specs.Logs.{Between}
use Rattle.monitor.specs.Monitors.{Monitor}
use Rattle.monitor.specs.Steps.{HasRead}
use Rattle.monitor.proofs.Silent.{AreSides, IsSide, IsSilent, sides_closed, sides_events, sides_grow, sides_idle, sides_looks, sides_steps, silent_closed, silent_idle}

-- the log went on from that of the turn's look, with no other look; nothing is open in it or owed
pub record Within (m : Monitor) (p : Shown) (u : Setup) (a : ℕ) (base l : Log) : Type 0 where
  pub grows : Grows u a base l
  pub looks : looks_of l ≡ looks_of base
  pub idle : owed l ≡ nothing
  pub holds : Between m p u a l

-- the turn's look at STOP
pub record Looked (m : Monitor) (q : Shown) (u : Setup) (a : ℕ) (l : Log) : Type 0 where
  pub look : Step
  pub looks : LooksAtStop look
  pub once : looks_of (made look ∷ l) ≡ suc (looks_of l)
  pub within : Within m q u a (made look ∷ l) (made look ∷ l)

pub looked : (m : Monitor) (p q : Shown) (found : ℕ) → Made p q Stop Load 0 found → (u : Setup) (a : ℕ) (l : Log) → Between m p u a l → Looked m q u a l
looked m p q found x u a l b =
    let s = step_of p.own.actor x.word Load 0 found in
    let silent : IsSilent (name_of s.word) s.op = subst (λ w. IsSilent w Load) (sym x.name) tt in
    record {
      look = s;
      looks = (x.name, refl);
      once = ap (λ w. look_next w Load (looks_of l)) x.name;
      within = record {
        grows = stays;
        looks = refl;
        idle = silent_idle s l silent;
        holds = record {
          layout = b.layout ∙ ap layout_of (sym x.step);
          actor = b.actor ∙ ap (λ (y : Shown). y.own.actor) (sym x.step);
          is = ap (λ r. s ∷ r) b.is ∙ ap (λ (y : Shown). y.own.steps) (sym x.step);
          closed = silent_closed u a s l silent b.closed;
          none_begun = b.none_begun;
          script = b.script;
          results = b.results;
        };
      };
    }

-- the words of the first n bytes are known as they were found
abbrev pub Known : (finds : Memory) (from n : ℕ) → Log → Type 0
Known finds from n l = (i : ℕ) → i < n → known_word (ram_word (from + i)) l ≡ Some (finds (ram_word (from + i)))

module _ (m : Monitor) (u : Setup) (a : ℕ) (base : Log) where
  -- steps that need no event
  on_sides : (n : ℕ) (A : Word → Type 0) (p q : Shown) (l : Log) (goes : GoesBy n A p q) → AreSides goes.added → Within m p u a base l → Within m q u a base (quietly goes.added l)
  on_sides n A p q l goes sides x = let b = x.holds in record {
    grows = grows_then u a base l {n = quietly goes.added l} x.grows (sides_grow u a goes.added l sides b.closed);
    looks = sides_looks goes.added l sides ∙ x.looks;
    idle = sides_idle goes.added l sides x.idle;
    holds = record {
      layout = b.layout ∙ ap layout_of (sym goes.grown);
      actor = b.actor ∙ ap (λ (y : Shown). y.own.actor) (sym goes.grown);
      is = sides_steps goes.added l ∙ ap (λ r. goes.added ++ r) b.is ∙ ap (λ (y : Shown). y.own.steps) (sym goes.grown);
      closed = sides_closed u a goes.added l sides b.closed;
      none_begun = ap (λ (run : List Event). passes is_snap_begin (last_of monitor run)) (sides_events goes.added l) ∙ b.none_begun;
      script = ap (script_of u.script) (sides_events goes.added l) ∙ b.script;
      results = ap script_results (sides_events goes.added l) ∙ b.results;
    };
  }

  -- on RUN, PEND and KICK
  all_sides : (p : Shown) (r : List Step) → AreAllowed IsOfSides p r → AreSides r
  all_sides p [] k = tt
  all_sides p (s ∷ r) k = (by (name_of s.word) s.op k.0.0, all_sides p r k.1)
    where
      by : (w : Word) (op : WordOp) → IsOfSides w → IsSide w op
      by Pend op t = tt
      by (Run b) op t = tt
      by (Kick h) op t = tt
      by w op t = absurd t

  pub on_section : (n : ℕ) (p q : Shown) (l : Log) → GoesBy n IsOfSides p q → Within m p u a base l → (late : Log) × Within m q u a base late
  on_section n p q l goes x = (_, on_sides n IsOfSides p q l goes (all_sides p goes.added goes.allowed) x)

  -- one step
  pub on_step : (p q : Shown) (w : Word) (op : WordOp) (arg answer : ℕ) (x : Made p q w op arg answer) (l : Log) → IsSide w op → Within m p u a base l → Within m q u a base (made (step_of p.own.actor x.word op arg answer) ∷ l)
  on_step p q w op arg answer x l side y = on_sides 1 (λ v. v ≡ w) p q l
      (record { added = step_of p.own.actor x.word op arg answer ∷ []; few = omega arith; allowed = ((x.name, refl, x.may), tt); grown = x.step })
      (subst (λ v. IsSide v op) (sym x.name) side, tt) y

  module _ (finds : Memory) (from : ℕ) (above : 2 ^ 31 ≤ from) where
    known_load : (at word : ℕ) (w : Word) (i : ℕ) (k : Option ℕ) → w ≡ Ram i → k ≡ Some (finds at) → known_word_next at w Load word (finds word) k ≡ Some (finds at)
    known_load at word w i k e is = (λ j. known_word_next at (e j) Load word (finds word) k) ∙ go (cases_Bool (at == word))
      where
        go : ((at == word) ≡ true) ⊎ ((at == word) ≡ false) → (if at == word then Some (finds word) else k) ≡ Some (finds at)
        go (inl t) = ap (λ (z : Bool). if z then Some (finds word) else k) t ∙ ap (λ n. Some (finds n)) (sym (eqb-true at word t))
        go (inr f) = ap (λ (z : Bool). if z then Some (finds word) else k) f ∙ is

    known_here : (word : ℕ) (w : Word) (i : ℕ) (k : Option ℕ) → w ≡ Ram i → known_word_next word w Load word (finds word) k ≡ Some (finds word)
    known_here word w i k e = (λ j. known_word_next word (e j) Load word (finds word) k) ∙ ap (λ (z : Bool). if z then Some (finds word) else k) (eq-eqb word word refl)

    up_to : (P : ℕ → Type 0) (n : ℕ) → ((i : ℕ) → i < n → P i) → P n → (i : ℕ) → i < suc n → P i
    up_to P n below here i less = go (cases_lt i n)
      where
        go : (i < n) ⊎ (n ≤ i) → P i
        go (inl lower) = below i lower
        go (inr far) = let same : n ≡ i = omega (arith, less, far) in subst P same here

    -- the next byte's word is loaded where it isn't known
    next : (n : ℕ) (p q : Shown) (l : Log) (b : Bool) → begins_word from n ≡ b → HasLoadedIf b finds (from + n) p q → Within m p u a base l → Known finds from n l → (late : Log) × Within m q u a base late × Known finds from (suc n) late
    next n p q l true is x w k =
        let word = ram_word (from + n) in
        let s = step_of p.own.actor word Load 0 (finds word) in (
          made s ∷ l,
          on_step p q (Ram x.index) Load 0 (finds word) (record { word = word; name = x.name; step = x.step; may = x.may }) l tt w,
          up_to (λ i. known_word (ram_word (from + i)) (made s ∷ l) ≡ Some (finds (ram_word (from + i)))) n
              (λ i less. known_load (ram_word (from + i)) word (name_of word) x.index (known_word (ram_word (from + i)) l) x.name (k i less))
              (known_here word (name_of word) x.index (known_word word l) x.name),
        )
    next n p q l false is x w k =
        let y = beside from n above is in
        let some : n ≢ 0 = y.0 in (
          l,
          subst (λ (z : Shown). Within m z u a base l) (sym x) w,
          up_to (λ i. known_word (ram_word (from + i)) l ≡ Some (finds (ram_word (from + i)))) n k (subst (λ at. known_word at l ≡ Some (finds at)) (sym y.1) (k (n - 1) (omega (arith, some)))),
        )

    pub on_read : (n : ℕ) (p q : Shown) (l : Log) → HasRead finds from n p q → Within m p u a base l → (late : Log) × Within m q u a base late × Known finds from n late
    on_read zero p q l x w = (l, subst (λ (z : Shown). Within m z u a base l) (sym x) w, λ i less. absurd (omega (arith, less)))
    on_read (suc n) p q l x w = let y = on_read n p x.0 l x.1 w in next n x.0 q y.0 (begins_word from n) refl x.2 y.1 y.2
