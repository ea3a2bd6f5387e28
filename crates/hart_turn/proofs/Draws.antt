-- Words beside STOP, LIVE and CONS: steps on them leave whether a turn may draw console places.
use Rattle.std.proofs.Common.{◌≡◌, ℕ, Bool, false, true, refl, ◌∙◌}
use Rattle.step_laws.specs.declared.steps.WordOp.{WordOp}
use Rattle.step_laws.specs.Map.{Word, Cons, Dirty, Hsm, Ipi, Kick, Live, Lock, Opaque, Pend, Place, Ram, Run, Size, Start as StartWord, Stop, Tlb}
use Rattle.guest_ram.specs.Areas.{IsOfCalls, IsOfTable}
use Rattle.guest_ram.specs.Ports.{GoesBy, Shown}
use Rattle.guest_ram.proofs.Moves.{fold_goes}
use Rattle.tlb_fill.specs.Stepping.{IsOfFill}
use Rattle.turn_pieces.specs.Draws.{may_draw, may_draw_next}
use Rattle.signal_pieces.specs.Signalling.{IsOfSides}
use Rattle.hart_signals.specs.Starts.{IsOfStart}
use Rattle.sbi_calls.specs.Fences.{IsOfFence}
use Rattle.hart_turn.specs.Parts.{IsOfRequests}

-- neither STOP, LIVE nor CONS
abbrev pub IsNeither : Word → Type 0
IsNeither Stop = ⊥
IsNeither Live = ⊥
IsNeither Cons = ⊥
IsNeither w = Unit {0}

pub sides_neither : (w : Word) → IsOfSides w → IsNeither w
sides_neither Pend t = tt
sides_neither (Run a) t = tt
sides_neither (Kick h) t = tt
sides_neither w t = absurd t

pub calls_neither : (w : Word) → IsOfCalls w → IsNeither w
calls_neither Ipi t = tt
calls_neither (Kick h) t = tt
calls_neither w t = absurd t

pub fill_neither : (w : Word) → IsOfFill w → IsNeither w
fill_neither (Ram i) t = tt
fill_neither (Dirty i) t = tt
fill_neither (Lock h) t = tt
fill_neither (Size h) t = tt
fill_neither (Tlb h j f) t = tt
fill_neither w t = absurd t

pub table_neither : (w : Word) → IsOfTable w → IsNeither w
table_neither (Lock h) t = tt
table_neither (Size h) t = tt
table_neither (Tlb h j f) t = tt
table_neither w t = absurd t

pub requests_neither : (w : Word) → IsOfRequests w → IsNeither w
requests_neither (Kick h) t = tt
requests_neither (Place s a k) t = tt
requests_neither (Lock h) t = tt
requests_neither (Size h) t = tt
requests_neither (Tlb h j f) t = tt
requests_neither w t = absurd t

pub start_neither : (w : Word) → IsOfStart w → IsNeither w
start_neither (Hsm h) t = tt
start_neither (StartWord h) t = tt
start_neither (Opaque h) t = tt
start_neither (Lock h) t = tt
start_neither (Size h) t = tt
start_neither (Tlb h j f) t = tt
start_neither w t = absurd t

pub fence_neither : (w : Word) → IsOfFence w → IsNeither w
fence_neither (Place s a k) t = tt
fence_neither (Kick h) t = tt
fence_neither (Lock h) t = tt
fence_neither (Size h) t = tt
fence_neither (Tlb h j f) t = tt
fence_neither w t = absurd t

draw_aside : (w : Word) (op : WordOp) (arg answer : ℕ) (b : Bool) → IsNeither w → may_draw_next w op arg answer b ≡ b
draw_aside Stop op arg answer b off = absurd off
draw_aside Live op arg answer b off = absurd off
draw_aside Cons op arg answer b off = absurd off
draw_aside w op arg answer b off = refl

pub draws_goes : (n : ℕ) (A : Word → Type 0) (p q : Shown) → ((w : Word) → A w → IsNeither w) → GoesBy n A p q → may_draw p.own.steps ≡ true → may_draw q.own.steps ≡ true
draws_goes n A p q aside goes e = fold_goes may_draw_next false n A p q (λ w op arg answer b t. draw_aside w op arg answer b (aside w t)) goes ∙ e
