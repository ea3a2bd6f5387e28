-- A hart that took the last one from LIVE has said that all stopped: that stays so over steps that take none from LIVE, whatever events stand
-- among them.
use Rattle.std.proofs.Common.{◌≡◌, ℕ, Bool, true, false, List, [], ◌∷◌, ◌++◌, refl, sym, ap, subst, ◌∙◌, inr, arith}
use Rattle.std.specs.Prelude.{◌==◌, if◌then◌else◌}
use Rattle.std.proofs.lemmas.List.{append_cancel_right}
use Rattle.step_laws.specs.declared.steps.Step.{Step}
use Rattle.step_laws.specs.declared.steps.WordOp.{WordOp}
use Rattle.step_laws.specs.declared.steps.WordOp.TheVariants.{Store, Add}
use Rattle.step_laws.specs.Map.{Word, Live, Hsm, Stop, name_of}
use Rattle.machine_model.specs.State.{Setup}
use Rattle.guest_ram.specs.Plays.{step_of}
use Rattle.guest_ram.specs.Ports.{AreAllowed, GoesBy, Made, Shown}
use Rattle.turn_pieces.specs.Folds.{IsUncount, was_last, was_last_next}
use Rattle.turn_pieces.specs.Grows.{Grows, LooksAtStop, does, makes, stays}
use Rattle.turn_pieces.specs.Log.{Log, made, steps_of}
use Rattle.call_pieces.specs.Idle.{HasSaidLast}
use Rattle.need_pieces.proofs.Unwaited.{added_are, added_steps}
use Rattle.hart_turn.proofs.Draws.{IsNeither}

abbrev pub IsOffLive : Word → Type 0
IsOffLive Live = ⊥
IsOffLive w = Unit {0}

neither_live : (w : Word) → IsNeither w → IsOffLive w
neither_live Live off = off
neither_live w off = tt

-- none of the steps takes one from LIVE
abbrev pub AreCounts : List Step → Type 0
AreCounts [] = Unit {0}
AreCounts (s ∷ r) = (IsUncount (name_of s.word) s.op s.arg → ⊥) × AreCounts r

own_store : (b before : Bool) → (if b then false else before) ≡ true → before ≡ true
own_store true before e = cc
own_store false before e = e

-- a step that takes none leaves the last one that was taken
last_before : (a : ℕ) (w : Word) (op : WordOp) (arg answer : ℕ) (b : Bool) → (IsUncount w op arg → ⊥) → was_last_next a w op arg answer b ≡ true → b ≡ true
last_before a (Hsm t) Store arg answer b off e = own_store (a == t) b e
last_before a Live Add arg answer b off e = absurd (off (grind (arith, e)))
last_before a w op arg answer b off e = e

said_step : (a : ℕ) (s : Step) (l : Log) → (IsUncount (name_of s.word) s.op s.arg → ⊥) → HasSaidLast a l → HasSaidLast a (made s ∷ l)
said_step a s l off said last = (off, said (last_before a (name_of s.word) s.op s.arg s.answer (was_last a (steps_of l)) off last))

said_on : (u : Setup) (a : ℕ) (l : Log) {late : Log} (g : Grows u a l late) → AreCounts (added_steps u a l g) → HasSaidLast a l → HasSaidLast a late
said_on u a l stays all said = said
said_on u a l (makes {m} s g k) all said = said_step a s m all.0 (said_on u a l g all.1 said)
said_on u a l (does e g k) all said = λ last. inr (said_on u a l g all said last)

-- of these steps, behind those that the log had
pub said_added : (u : Setup) (a : ℕ) (l late : Log) (added r : List Step) → AreCounts added → steps_of l ≡ r → steps_of late ≡ added ++ r → Grows u a l late → HasSaidLast a l → HasSaidLast a late
said_added u a l late added r all before behind g said =
    let same : added_steps u a l g ≡ added = append_cancel_right (added_steps u a l g) added (steps_of l) (sym (added_are u a l g) ∙ behind ∙ ap (λ x. added ++ x) (sym before)) in
    said_on u a l g (subst AreCounts (sym same) all) said

counts_off : (w : Word) (op : WordOp) (arg : ℕ) → IsOffLive w → IsUncount w op arg → ⊥
counts_off Live op arg off un = absurd off
counts_off w op arg off un = un

are_counts : (A : Word → Type 0) (p : Shown) (r : List Step) → ((w : Word) → A w → IsNeither w) → AreAllowed A p r → AreCounts r
are_counts A p [] off all = tt
are_counts A p (s ∷ r) off all = (counts_off (name_of s.word) s.op s.arg (neither_live (name_of s.word) (off (name_of s.word) all.0.0)), are_counts A p r off all.1)

-- over a call that leaves LIVE alone
pub said_goes : (n : ℕ) (A : Word → Type 0) (p q : Shown) (u : Setup) (a : ℕ) (l late : Log) → ((w : Word) → A w → IsNeither w) → GoesBy n A p q → steps_of l ≡ p.own.steps → steps_of late ≡ q.own.steps → Grows u a l late → HasSaidLast a l → HasSaidLast a late
said_goes n A p q u a l late off goes before behind g said = said_added u a l late goes.added p.own.steps (are_counts A p goes.added off goes.allowed) before (behind ∙ ap (λ (y : Shown). y.own.steps) goes.grown) g said

-- and over a step on another word
pub said_made : (p q : Shown) (w : Word) (op : WordOp) (arg answer : ℕ) (u : Setup) (a : ℕ) (l late : Log) → IsOffLive w → Made p q w op arg answer → steps_of l ≡ p.own.steps → steps_of late ≡ q.own.steps → Grows u a l late → HasSaidLast a l → HasSaidLast a late
said_made p q w op arg answer u a l late off m before behind g said =
    said_added u a l late (step_of p.own.actor m.word op arg answer ∷ []) p.own.steps ((λ un. counts_off w op arg off (subst (λ v. IsUncount v op arg) m.name un)), tt) before (behind ∙ ap (λ (y : Shown). y.own.steps) m.step) g said

-- and over a look at STOP
pub said_look : (a : ℕ) (s : Step) (l : Log) → LooksAtStop s → HasSaidLast a l → HasSaidLast a (made s ∷ l)
said_look a s l looks said = said_step a s l (λ un. counts_off Stop s.op s.arg tt (subst (λ v. IsUncount v s.op s.arg) looks.0 un)) said
