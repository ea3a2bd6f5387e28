-- Chains of turns grow by right.
use Rattle.std.proofs.Common.{suc, List, refl, ◌∙◌, ◌≡◌, ◌≢◌, ℕ, [], ◌∷◌}
use Rattle.step_laws.specs.declared.steps.Step.{Step}
use Rattle.step_laws.specs.declared.steps.WordOp.{WordOp}
use Rattle.step_laws.specs.declared.steps.WordOp.TheVariants.{Load}
use Rattle.step_laws.specs.Map.{Word, Stop, name_of}
use Rattle.machine_model.specs.State.{Setup}
use Rattle.turn_pieces.specs.Draws.{filled, beyond}
use Rattle.turn_pieces.specs.Log.{made, Log, steps_of}
use Rattle.turn_pieces.specs.Owed.{owed, books, MayMake}
use Rattle.turn_pieces.specs.Grows.{Grows, stays, makes, Ends, look_next, looks_of, IsClear, IsClosed, LooksAtStop, AreTurns, none, turn, rests, IsChain, whole, looks}
use Rattle.turn_pieces.specs.Writers.{IsPlain, AreCalm, quietly, Turned}
use Rattle.turn_pieces.proofs.Writers.{grows_then, may_named, may_clear}

-- a turn begins where nothing is owed
pub may_look : (u : Setup) (a : ℕ) (l : Log) (s : Step) → IsClear (owed l) → filled (steps_of l) ≢ beyond → LooksAtStop s → MayMake u a l s
may_look u a l s c f k = may_named u a l s Stop Load k.0 k.1 (may_clear u a (books l) (owed l) Stop Load s.word s.arg s.answer c tt) tt f

pub turns_clear : (u : Setup) (a : ℕ) {n : ℕ} {l : Log} → AreTurns u a n l → IsClear (owed l)
turns_clear u a none = tt
turns_clear u a (turn k x) = x.closed.clear
turns_clear u a (rests k i f) = turns_clear u a k

pub turns_full : (u : Setup) (a : ℕ) {n : ℕ} {l : Log} → AreTurns u a n l → filled (steps_of l) ≢ beyond
turns_full u a none = λ e. absurd (cc)
turns_full u a (turn k x) = x.closed.full
turns_full u a (rests k i f) = turns_full u a k

pub turns_grow : (u : Setup) (a : ℕ) {n : ℕ} {l : Log} → AreTurns u a n l → Grows u a [] l
turns_grow u a none = stays
turns_grow u a (turn {l = l} k x) = grows_then u a [] (made x.look ∷ l) (makes x.look (turns_grow u a k) (may_look u a l x.look (turns_clear u a k) (turns_full u a k) x.looks)) x.grows
turns_grow u a (rests k i f) = turns_grow u a k

pub chain_grows : (u : Setup) (a : ℕ) {n : ℕ} {l : Log} → IsChain u a n l → Grows u a [] l
chain_grows u a (whole k) = turns_grow u a k
chain_grows u a (looks {l = l} s k x) = makes s (turns_grow u a k) (may_look u a l s (turns_clear u a k) (turns_full u a k) x)

-- for writers: a load of STOP, and a part behind it that has no other and leaves nothing open, are a turn
pub part_turn : (P Q : Setup → ℕ → Log → Type 0) (look : Step) → LooksAtStop look
    → ((u : Setup) (a : ℕ) (l : Log) → P u a l → Ends u a (made look ∷ l) (λ late. IsClosed u a late × (looks_of late ≡ suc (looks_of l)) × Q u a late)) → Turned P Q
part_turn P Q look is goes = λ u a l p. let e = goes u a l p in
    record { late = e.late; turn = record { look = look; looks = is; grows = e.grows; once = e.holds.1; closed = e.holds.0 }; holds = e.holds.2 }

-- quiet steps have no load of STOP
plain_look : (a : ℕ) (w : Word) (op : WordOp) (n : ℕ) → IsPlain a w op → look_next w op n ≡ n
plain_look a Stop Load n q = absurd q
plain_look a w op n q = refl

pub looks_quietly : (a : ℕ) (r : List Step) (l : Log) → AreCalm a r → looks_of (quietly r l) ≡ looks_of l
looks_quietly a [] l c = refl
looks_quietly a (s ∷ r) l c = plain_look a (name_of s.word) s.op (looks_of (quietly r l)) c.1 ∙ looks_quietly a r l c.2

-- and turns go on by it
pub turns_more : (P Q : Setup → ℕ → Log → Type 0) → Turned P Q → (u : Setup) (a n : ℕ) (l : Log) → AreTurns u a n l → P u a l → (late : Log) × AreTurns u a (suc n) late × Q u a late
turns_more P Q f u a n l k p = let t = f u a l p in (t.late, turn k t.turn, t.holds)
