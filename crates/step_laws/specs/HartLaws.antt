-- The law of hart states: HSM and LIVE, and what START and OPAQUE of a pending hart are.
use Rattle.std.specs.Prelude.{◌≡◌, ◌≢◌, ℕ, zero, suc, ◌+◌, ◌<◌, ◌≤◌, ◌==◌, Bool, true, false, List, ◌∷◌, ◌++◌, if◌then◌else◌}
use Rattle.step_laws.specs.declared.words.Layout.{Layout}
use Rattle.step_laws.specs.declared.steps.Step.{Step}
use Rattle.step_laws.specs.declared.steps.WordOp.{WordOp}
use Rattle.step_laws.specs.declared.steps.WordOp.TheVariants.{Load, Store, Add, Exchange}
use Rattle.step_laws.specs.Map.{Word, Live, Hsm, Start, Opaque, name_of, loader}
use Rattle.step_laws.specs.WordValues.{word_value}
use Rattle.step_laws.specs.Steps.{own_steps}
use Rattle.step_laws.specs.Past.{Earlier, Since, Anything}
use Rattle.step_laws.specs.Harts.{is_running, Opening, closed, opened, placed, handed, counted, opening, idle, taking, is_owing}
use Rattle.step_laws.specs.Discipline.{minus_one}
use Rattle.step_laws.specs.Histories.{IsHistory, IsBegun}

-- whether it is a start of h that is open
abbrev pub opens : Opening → ℕ → Bool
opens closed h = false
opens (opened x) h = x == h
opens (placed x) h = x == h
opens (handed x) h = x == h
opens (counted x) h = x == h

-- 1 for a start that is open, and for one that is still to raise LIVE
abbrev pub open_bit : Opening → ℕ
open_bit closed = 0
open_bit _ = 1

abbrev pub uncounted_bit : Opening → ℕ
uncounted_bit closed = 0
uncounted_bit (counted x) = 0
uncounted_bit _ = 1

abbrev pub bit : Bool → ℕ
bit true = 1
bit false = 0

-- 1 for a hart that isn't stopped
abbrev pub unstopped_bit : ℕ → ℕ
unstopped_bit n = if n == 1 then 0 else 1

-- the sum over the numbers below n
abbrev pub total : (ℕ → ℕ) → ℕ → ℕ
total f zero = 0
total f (suc n) = f n + total f n

-- a's exchange that begins a start of h, its store in START, and its store in OPAQUE
abbrev pub IsBegin : (a h : ℕ) → Step → Type 0
IsBegin a h x = (x.actor ≡ a) × (name_of x.word ≡ Hsm h) × (x.op ≡ Exchange 1) × (x.answer ≡ 1)

abbrev pub IsPlacing : (a h at : ℕ) → Step → Type 0
IsPlacing a h at x = (x.actor ≡ a) × (name_of x.word ≡ Start h) × (x.op ≡ Store) × (x.arg ≡ at)

abbrev pub IsHanding : (a h arg : ℕ) → Step → Type 0
IsHanding a h arg x = (x.actor ≡ a) × (name_of x.word ≡ Opaque h) × (x.op ≡ Store) × (x.arg ≡ arg)

-- the step begins no start of h, and writes neither its START nor its OPAQUE
abbrev pub Spares : ℕ → Word → WordOp → ℕ → Type 0
Spares h w op answer = (w ≡ Hsm h → op ≡ Exchange 1 → answer ≢ 1) × (w ≡ Start h → op ≢ Store) × (w ≡ Opaque h → op ≢ Store)

abbrev pub IsSparing : ℕ → Step → Type 0
IsSparing h x = Spares h (name_of x.word) x.op x.answer

-- the last start of h was begun by a, and nobody wrote its START or OPAQUE since
abbrev pub IsOpened : (a h : ℕ) → List Step → Type 0
IsOpened a h hs = Since (IsSparing h) (IsBegin a h) Anything hs

-- and a stored this START, and nobody wrote either since
abbrev pub IsPlaced : (a h at : ℕ) → List Step → Type 0
IsPlaced a h at hs = Since (IsSparing h) (IsPlacing a h at) (IsOpened a h) hs

-- and then this OPAQUE
abbrev pub IsGiven : (a h at arg : ℕ) → List Step → Type 0
IsGiven a h at arg hs = Since (IsSparing h) (IsHanding a h arg) (IsPlaced a h at) hs

-- what a start in progress has done
abbrev pub IsInProgress : (a : ℕ) → Opening → (Word → ℕ) → List Step → Type 0
IsInProgress a closed words hs = Unit {0}
IsInProgress a (opened h) words hs = IsOpened a h hs
IsInProgress a (placed h) words hs = IsPlaced a h (words (Start h)) hs
IsInProgress a (handed h) words hs = IsGiven a h (words (Start h)) (words (Opaque h)) hs
IsInProgress a (counted h) words hs = IsGiven a h (words (Start h)) (words (Opaque h)) hs

pub record HartStates (layout : Layout) (runs : ℕ → Bool) (hs : List Step) (words : Word → ℕ) (own : ℕ → List Step) : Type 0 where
  pub low : (h : ℕ) → words (Hsm h) ≤ 3
  -- HSM is 0 exactly where the hart runs
  pub run : (h : ℕ) → h < layout.harts → is_running h (runs h) (own h) ≡ (words (Hsm h) == 0)
  -- 3 exactly while a start of it is open, of one actor alone
  pub opens_it : (a h : ℕ) → opens (opening (own a)) h ≡ true → words (Hsm h) ≡ 3
  pub alone : (a b h : ℕ) → a ≢ b → opens (opening (own a)) h ≡ true → opens (opening (own b)) h ≡ true → ⊥
  pub three : (h : ℕ) → words (Hsm h) ≡ 3 → (a : ℕ) × (opens (opening (own a)) h ≡ true)
  -- who makes a start is a hart that runs
  pub opener : (a : ℕ) → open_bit (opening (own a)) ≡ 1 → (a < layout.harts) × (is_running a (runs a) (own a) ≡ true)
  pub opened_hart : (a h : ℕ) → opens (opening (own a)) h ≡ true → h < layout.harts
  -- 2 where it loaded its HSM as 2 and hasn't started
  pub call : (h : ℕ) → taking h (own h) ≢ idle → words (Hsm h) ≡ 2
  pub owes : (a : ℕ) → is_owing a (own a) ≡ true → (a < layout.harts) × (is_running a (runs a) (own a) ≡ false)
  -- START and OPAQUE of a start in progress and of a pending one
  pub progress : (a : ℕ) → IsInProgress a (opening (own a)) words hs
  pub given : (h : ℕ) → words (Hsm h) ≡ 2 → (a : ℕ) × IsGiven a h (words (Start h)) (words (Opaque h)) hs
  -- LIVE is the number of harts that aren't stopped, and of stops that haven't taken theirs, without the starts that haven't added theirs
  pub starts : total (λ h. bit (words (Hsm h) == 3)) layout.harts ≡ total (λ a. open_bit (opening (own a))) layout.harts
  pub live : words Live + total (λ a. uncounted_bit (opening (own a))) layout.harts
      ≡ total (λ h. unstopped_bit (words (Hsm h))) layout.harts + total (λ a. bit (is_owing a (own a))) layout.harts

abbrev pub HartFacts : Type 0
HartFacts = (layout : Layout) (runs : ℕ → Bool) (h : List Step) → IsHistory layout runs h → IsBegun layout runs h
    → (own : ℕ → List Step) × ((a : ℕ) → a < layout.harts → own a ≡ own_steps a h) × HartStates layout runs h (λ w. word_value w h) own

-- how HSM of h may move at a step of the actor c
pub data HsmMove (h c : ℕ) : ℕ → ℕ → Type 0 where
  keeps : {n : ℕ} → HsmMove h c n n
  stops : c ≡ h → HsmMove h c 0 1
  begins : c ≢ h → HsmMove h c 1 3
  ends : c ≢ h → HsmMove h c 3 2
  takes : c ≡ h → HsmMove h c 2 0

-- the take from LIVE
abbrev pub IsTake : Step → Type 0
IsTake s = (name_of s.word ≡ Live) × (s.op ≡ Add) × (s.arg ≡ minus_one)

-- a take from LIVE that answers 1 says that all harts are stopped, then and from then on
abbrev pub StopLaw : Type 0
StopLaw = (layout : Layout) (runs : ℕ → Bool) (later before : List Step) (s : Step) (h : ℕ) → IsHistory layout runs (later ++ (s ∷ before)) → IsTake s → s.answer ≡ 1
    → h < layout.harts → word_value (Hsm h) (later ++ (s ∷ before)) ≡ 1

-- what a hart loads in its START and OPAQUE is what its last start stored there
abbrev pub StartLaw : Type 0
StartLaw = (layout : Layout) (runs : ℕ → Bool) (before : List Step) (s : Step) (h : ℕ) → IsHistory layout runs (s ∷ before) → h < layout.harts → s.actor ≡ h → s.op ≡ Load
    → (name_of s.word ≡ Start h → (a arg : ℕ) × IsGiven a h s.answer arg before) × (name_of s.word ≡ Opaque h → (a at : ℕ) × IsGiven a h at s.answer before)

-- HSM of a hart moves as its states do: 0 to 1 by the hart, 1 to 3 and 3 to 2 by another, 2 to 0 by the hart
abbrev pub MoveLaw : Type 0
MoveLaw = (layout : Layout) (runs : ℕ → Bool) (before : List Step) (s : Step) (h : ℕ) → IsHistory layout runs (s ∷ before) → s.actor ≢ loader → HsmMove h s.actor (word_value (Hsm h) before) (word_value (Hsm h) (s ∷ before))

-- where all harts are stopped and none is still to take itself from LIVE, a take answered 1
abbrev pub SettledLaw : Type 0
SettledLaw = (layout : Layout) (runs : ℕ → Bool) (hs : List Step) → IsHistory layout runs hs → IsBegun layout runs hs
    → ((h : ℕ) → h < layout.harts → word_value (Hsm h) hs ≡ 1) → ((h : ℕ) → h < layout.harts → is_owing h (own_steps h hs) ≡ false) → Earlier (λ s. IsTake s × (s.answer ≡ 1)) Anything hs
