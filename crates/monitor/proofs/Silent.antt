-- Steps of the monitor that need no event: what they leave of a log.
use Rattle.std.proofs.Common.{◌≡◌, ℕ, Bool, true, List, [], ◌∷◌, ◌++◌, refl, sym, ap, subst, ◌∙◌}
use Rattle.std.specs.Prelude.{Option}
use Rattle.step_laws.specs.declared.words.Layout.{Layout}
use Rattle.step_laws.specs.declared.steps.Step.{Step}
use Rattle.step_laws.specs.declared.steps.WordOp.{WordOp}
use Rattle.step_laws.specs.declared.steps.WordOp.TheVariants.{Load}
use Rattle.step_laws.specs.Harts.{is_owing, is_owing_next}
use Rattle.step_laws.specs.Map.{Word, Cons, Console, Dirty, Done, Hsm, Kick, Live, Lock, Pend, Place, Ram, Run, Stop, name_of}
use Rattle.step_laws.specs.Marks.{Stage, last_place, stage, stage_next}
use Rattle.machine_model.specs.State.{Setup}
use Rattle.turn_pieces.specs.Doing.{IsCalm}
use Rattle.turn_pieces.specs.Draws.{Filled, filled, filled_next}
use Rattle.turn_pieces.specs.Folds.{IsUncount, Unstored, drawn_next, unstored_next, was_last, was_last_next}
use Rattle.turn_pieces.specs.Grows.{Grows, IsClear, IsClosed, look_next, looks_of}
use Rattle.turn_pieces.specs.Kept.{places}
use Rattle.turn_pieces.specs.Log.{Log, events_of, made, steps_of}
use Rattle.turn_pieces.specs.Owed.{Owed, nothing, owed, owes, unstored}
use Rattle.turn_pieces.specs.Snapshots.{is_begun}
use Rattle.turn_pieces.specs.Writers.{AreCalm, IsPlain, quietly}
use Rattle.turn_pieces.proofs.Unmarked.{is_other, unmarked_step}
use Rattle.turn_pieces.proofs.Writers.{quietly_grows}

-- a step that no event stands behind, but for a look at STOP
abbrev pub IsSide : Word → WordOp → Type 0
IsSide Pend op = Unit {0}
IsSide (Run a) op = Unit {0}
IsSide (Kick h) op = Unit {0}
IsSide (Done a) op = Unit {0}
IsSide Cons Load = Unit {0}
IsSide (Ram i) Load = Unit {0}
IsSide w op = ⊥

-- or that look
abbrev pub IsSilent : Word → WordOp → Type 0
IsSilent Stop Load = Unit {0}
IsSilent w op = IsSide w op

side_silent : (w : Word) (op : WordOp) → IsSide w op → IsSilent w op
side_silent Stop Load t = tt
side_silent Stop op t = absurd t
side_silent Pend op t = t
side_silent (Run a) op t = t
side_silent (Kick h) op t = t
side_silent (Done a) op t = t
side_silent Cons op t = t
side_silent (Ram i) op t = t
side_silent w op t = absurd t

side_calm : (w : Word) (op : WordOp) (answer : ℕ) → IsSide w op → IsCalm w op answer
side_calm Pend op answer t = tt
side_calm (Run a) op answer t = tt
side_calm (Kick h) op answer t = tt
side_calm (Done a) op answer t = tt
side_calm Cons Load answer t = tt
side_calm Cons op answer t = absurd t
side_calm (Ram i) Load answer t = tt
side_calm (Ram i) op answer t = absurd t
side_calm w op answer t = absurd t

side_plain : (n : ℕ) (w : Word) (op : WordOp) → IsSide w op → IsPlain n w op
side_plain n Pend op t = tt
side_plain n (Run a) op t = tt
side_plain n (Kick h) op t = tt
side_plain n (Done a) op t = tt
side_plain n Cons op t = tt
side_plain n (Ram i) op t = tt
side_plain n w op t = absurd t

silent_owes : (o : Owed) (k : Option Unstored) (w : Word) (op : WordOp) (n arg answer : ℕ) → IsSilent w op → owes o k w op n arg answer ≡ nothing
silent_owes o k Stop Load n arg answer t = refl
silent_owes o k Stop op n arg answer t = absurd t
silent_owes o k Pend op n arg answer t = refl
silent_owes o k (Run a) op n arg answer t = refl
silent_owes o k (Kick h) op n arg answer t = refl
silent_owes o k (Done a) op n arg answer t = refl
silent_owes o k Cons Load n arg answer t = refl
silent_owes o k Cons op n arg answer t = absurd t
silent_owes o k (Ram i) Load n arg answer t = refl
silent_owes o k (Ram i) op n arg answer t = absurd t
silent_owes o k w op n arg answer t = absurd t

silent_drawn : (w : Word) (op : WordOp) (answer : ℕ) (ds : List ℕ) → IsSilent w op → drawn_next w op answer ds ≡ ds
silent_drawn Cons Load answer ds t = refl
silent_drawn Cons op answer ds t = absurd t
silent_drawn w op answer ds t = refl

silent_byte : (w : Word) (op : WordOp) (answer : ℕ) (k : Option Unstored) → IsSilent w op → unstored_next w op answer [] k ≡ k
silent_byte Cons Load answer k t = refl
silent_byte Cons op answer k t = absurd t
silent_byte (Console i) op answer k t = absurd t
silent_byte w op answer k t = refl

silent_last : (a : ℕ) (w : Word) (op : WordOp) (arg answer : ℕ) (b : Bool) → IsSilent w op → was_last_next a w op arg answer b ≡ b
silent_last a (Hsm h) op arg answer b t = absurd t
silent_last a Live op arg answer b t = absurd t
silent_last a w op arg answer b t = refl

silent_counts : (w : Word) (op : WordOp) (arg : ℕ) → IsSilent w op → IsUncount w op arg → ⊥
silent_counts Live op arg t k = absurd t
silent_counts w op arg t k = absurd k

silent_owing : (a : ℕ) (w : Word) (op : WordOp) (arg answer : ℕ) (b : Bool) → IsSilent w op → is_owing_next a w op arg answer b ≡ b
silent_owing a (Hsm h) op arg answer b t = absurd t
silent_owing a Live op arg answer b t = absurd t
silent_owing a w op arg answer b t = refl

silent_filled : (w : Word) (op : WordOp) (arg answer : ℕ) (f : Filled) → IsSilent w op → filled_next w op arg answer f ≡ f
silent_filled Cons Load arg answer f t = refl
silent_filled Cons op arg answer f t = absurd t
silent_filled Stop Load arg answer f t = refl
silent_filled Stop op arg answer f t = absurd t
silent_filled w op arg answer f t = refl

silent_other : (w : Word) (op : WordOp) → IsSilent w op → is_other w ≡ true
silent_other (Dirty i) op t = absurd t
silent_other w op t = refl

silent_stage : (layout : Layout) (place : ℕ → ℕ) (w : Word) (op : WordOp) (arg answer : ℕ) (g : Stage) → IsSilent w op → stage_next layout place w op arg answer g ≡ g
silent_stage layout place (Dirty i) op arg answer g t = absurd t
silent_stage layout place (Lock h) op arg answer g t = absurd t
silent_stage layout place (Place u s k) op arg answer g t = absurd t
silent_stage layout place w op arg answer g t = refl

side_looks : (w : Word) (op : WordOp) (n : ℕ) → IsSide w op → look_next w op n ≡ n
side_looks Stop op n t = absurd t
side_looks w op n t = refl

-- nothing is open behind such a step
pub silent_closed : (u : Setup) (a : ℕ) (s : Step) (l : Log) → IsSilent (name_of s.word) s.op → IsClosed u a l → IsClosed u a (made s ∷ l)
silent_closed u a s l t c = record {
  clear = subst IsClear (sym (silent_owes (owed l) (unstored l) (name_of s.word) s.op s.word s.arg s.answer t)) tt;
  none_drawn = silent_drawn (name_of s.word) s.op s.answer (places l) t ∙ c.none_drawn;
  none_left = silent_byte (name_of s.word) s.op s.answer (unstored l) t ∙ c.none_left;
  stops = c.stops;
  last = λ e. (silent_counts (name_of s.word) s.op s.arg t, c.last (sym (silent_last a (name_of s.word) s.op s.arg s.answer (was_last a (steps_of l)) t) ∙ e));
  left = silent_owing a (name_of s.word) s.op s.arg s.answer (is_owing a (steps_of l)) t ∙ c.left;
  full = λ e. c.full (sym (silent_filled (name_of s.word) s.op s.arg s.answer (filled (steps_of l)) t) ∙ e);
  marks = λ page. unmarked_step u a page l s (silent_other (name_of s.word) s.op t) ∙ c.marks page;
  snapshot = λ e. ap is_begun (silent_stage u.layout (λ n. last_place n (steps_of l)) (name_of s.word) s.op s.arg s.answer (stage u.layout (steps_of l)) t) ∙ c.snapshot e;
}

pub silent_idle : (s : Step) (l : Log) → IsSilent (name_of s.word) s.op → owed (made s ∷ l) ≡ nothing
silent_idle s l t = silent_owes (owed l) (unstored l) (name_of s.word) s.op s.word s.arg s.answer t

-- such steps one behind another
abbrev pub AreSides : List Step → Type 0
AreSides [] = Unit {0}
AreSides (s ∷ r) = IsSide (name_of s.word) s.op × AreSides r

sides_calm : (a : ℕ) (r : List Step) → AreSides r → AreCalm a r
sides_calm a [] t = tt
sides_calm a (s ∷ r) t = (side_calm (name_of s.word) s.op s.answer t.0, side_plain a (name_of s.word) s.op t.0, sides_calm a r t.1)

pub sides_closed : (u : Setup) (a : ℕ) (r : List Step) (l : Log) → AreSides r → IsClosed u a l → IsClosed u a (quietly r l)
sides_closed u a [] l t c = c
sides_closed u a (s ∷ r) l t c = silent_closed u a s (quietly r l) (side_silent (name_of s.word) s.op t.0) (sides_closed u a r l t.1 c)

pub sides_idle : (r : List Step) (l : Log) → AreSides r → owed l ≡ nothing → owed (quietly r l) ≡ nothing
sides_idle [] l t e = e
sides_idle (s ∷ r) l t e = silent_idle s (quietly r l) (side_silent (name_of s.word) s.op t.0)

pub sides_grow : (u : Setup) (a : ℕ) (r : List Step) (l : Log) → AreSides r → IsClosed u a l → Grows u a l (quietly r l)
sides_grow u a r l t c = quietly_grows u a r l (sides_calm a r t) c.clear c.none_drawn

pub sides_looks : (r : List Step) (l : Log) → AreSides r → looks_of (quietly r l) ≡ looks_of l
sides_looks [] l t = refl
sides_looks (s ∷ r) l t = side_looks (name_of s.word) s.op (looks_of (quietly r l)) t.0 ∙ sides_looks r l t.1

pub sides_steps : (r : List Step) (l : Log) → steps_of (quietly r l) ≡ r ++ steps_of l
sides_steps [] l = refl
sides_steps (s ∷ r) l = ap (λ x. s ∷ x) (sides_steps r l)

pub sides_events : (r : List Step) (l : Log) → events_of (quietly r l) ≡ events_of l
sides_events [] l = refl
sides_events (s ∷ r) l = sides_events r l
