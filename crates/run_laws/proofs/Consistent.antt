-- Whether a list of steps is consistent, and whether the loader's stores stand first in it, as tests that compute.
use Rattle.std.proofs.Common.{◌≡◌, ◌≢◌, ◌^◌, ℕ, Bool, true, false, List, [], ◌∷◌, refl, subst, ◌∙◌, eq-eqb, eqb-true}
use Rattle.std.specs.Prelude.{◌==◌, ◌&&◌, nat_lt, if◌then◌else◌}
use Rattle.std.proofs.lemmas.Bool.{and_parts, ltb-true}
use Rattle.step_laws.specs.declared.words.Layout.{Layout}
use Rattle.step_laws.specs.declared.steps.Step.{Step}
use Rattle.step_laws.specs.declared.steps.WordOp.{WordOp}
use Rattle.step_laws.specs.declared.steps.WordOp.TheVariants.{Load, Store, Swap, Add, And, Or, Xor, Min, Max, Exchange}
use Rattle.step_laws.specs.Map.{loader}
use Rattle.step_laws.specs.Steps.{IsOperation, IsStep, IsConsistent, own_steps, words_of, value_at, answer_of}
use Rattle.step_laws.specs.Histories.{IsLed}

abbrev pub is_operation : WordOp → Bool
is_operation (Exchange expected) = nat_lt expected (2 ^ 64)
is_operation _ = true

abbrev pub is_step : Step → Bool
is_step s = nat_lt s.actor (2 ^ 8) && (nat_lt s.word (2 ^ 32) && (is_operation s.op && (nat_lt s.arg (2 ^ 64) && nat_lt s.answer (2 ^ 64))))

abbrev pub is_consistent : Layout → List Step → Bool
is_consistent layout [] = true
is_consistent layout (s ∷ h) = (is_step s && (nat_lt s.word (words_of layout) && (s.answer == answer_of s.op (value_at s.word h)))) && is_consistent layout h

operation_by : (op : WordOp) → is_operation op ≡ true → IsOperation op
operation_by (Exchange expected) e = ltb-true expected (2 ^ 64) e
operation_by Load e = tt
operation_by Store e = tt
operation_by Swap e = tt
operation_by Add e = tt
operation_by And e = tt
operation_by Or e = tt
operation_by Xor e = tt
operation_by Min e = tt
operation_by Max e = tt

step_by : (s : Step) → is_step s ≡ true → IsStep s
step_by s e =
    let a = and_parts (nat_lt s.actor (2 ^ 8)) (nat_lt s.word (2 ^ 32) && (is_operation s.op && (nat_lt s.arg (2 ^ 64) && nat_lt s.answer (2 ^ 64)))) e in
    let w = and_parts (nat_lt s.word (2 ^ 32)) (is_operation s.op && (nat_lt s.arg (2 ^ 64) && nat_lt s.answer (2 ^ 64))) a.1 in
    let o = and_parts (is_operation s.op) (nat_lt s.arg (2 ^ 64) && nat_lt s.answer (2 ^ 64)) w.1 in
    let n = and_parts (nat_lt s.arg (2 ^ 64)) (nat_lt s.answer (2 ^ 64)) o.1 in
    record {
      actor = ltb-true s.actor (2 ^ 8) a.0;
      word = ltb-true s.word (2 ^ 32) w.0;
      operation = operation_by s.op o.0;
      arg = ltb-true s.arg (2 ^ 64) n.0;
      answer = ltb-true s.answer (2 ^ 64) n.1;
    }

pub consistent_by : (layout : Layout) (h : List Step) → is_consistent layout h ≡ true → IsConsistent layout h
consistent_by layout [] e = tt
consistent_by layout (s ∷ h) e =
    let k = and_parts (is_step s && (nat_lt s.word (words_of layout) && (s.answer == answer_of s.op (value_at s.word h)))) (is_consistent layout h) e in
    let f = and_parts (is_step s) (nat_lt s.word (words_of layout) && (s.answer == answer_of s.op (value_at s.word h))) k.0 in
    let w = and_parts (nat_lt s.word (words_of layout)) (s.answer == answer_of s.op (value_at s.word h)) f.1 in
    (step_by s f.0, ltb-true s.word (words_of layout) w.0, eqb-true s.answer (answer_of s.op (value_at s.word h)) w.1, consistent_by layout h k.1)

abbrev pub are_of : ℕ → List Step → Bool
are_of b [] = true
are_of b (s ∷ h) = (s.actor == b) && are_of b h

none_of : (a b : ℕ) (h : List Step) → a ≢ b → are_of b h ≡ true → own_steps a h ≡ []
none_of a b [] ne e = refl
none_of a b (s ∷ h) ne e = let k = and_parts (s.actor == b) (are_of b h) e in go (eqb-true s.actor b k.0) (none_of a b h ne k.1) (a == s.actor) refl
  where
    go : s.actor ≡ b → own_steps a h ≡ [] → (t : Bool) → (a == s.actor) ≡ t → (if t then s ∷ own_steps a h else own_steps a h) ≡ []
    go is none true same = absurd (ne (eqb-true a s.actor same ∙ is))
    go is none false same = none

abbrev pub is_led : List Step → Bool
is_led [] = true
is_led (s ∷ h) = (if s.actor == loader then are_of loader h else true) && is_led h

pub led_by : (h : List Step) → is_led h ≡ true → IsLed h
led_by [] e = tt
led_by (s ∷ h) e =
    let k = and_parts (if s.actor == loader then are_of loader h else true) (is_led h) e in
    ((λ is _ a ne. none_of a loader h ne (subst (λ (b : Bool). (if b then are_of loader h else true) ≡ true) (eq-eqb s.actor loader is) k.0)), led_by h k.1)
