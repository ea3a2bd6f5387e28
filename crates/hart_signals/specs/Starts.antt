-- A stopped hart that begins (RISC-V SBI, "Hart State Management Extension"). HSM of a hart says its state: 0 it runs, 1 it is stopped, 2 it
-- was started and has not begun, 3 a start of it is being made.
use Rattle.std.specs.Prelude.{◌≡◌, ◌≢◌, ℕ, ◌%◌, true}
use Rattle.step_laws.specs.declared.steps.WordOp.TheVariants.{Load, Store}
use Rattle.step_laws.specs.Harts.{is_running}
use Rattle.step_laws.specs.Map.{Word, Hsm, Lock, Opaque, Size, Start as StartWord, Tlb}
use Rattle.guest_ram.specs.Areas.{IsOfTable}
use Rattle.guest_ram.specs.Ports.{Shown, GoesBy, Made}
use Rattle.tlb_entry.specs.declared.books.Book.{Book}
use Rattle.kept_fills.specs.Beside.{IsBeside}
use Rattle.flush.specs.Flushed.{HasBeenBusy, HasFlushedAll, full_steps}
use Rattle.hart_signals.specs.declared.starts.Start.{Start}

-- a hart's state with what a start hands it, and its TLB with its lock
abbrev pub IsOfStart : Word → Type 0
IsOfStart (Hsm h) = Unit {0}
IsOfStart (StartWord h) = Unit {0}
IsOfStart (Opaque h) = Unit {0}
IsOfStart (Lock h) = Unit {0}
IsOfStart (Size h) = Unit {0}
IsOfStart (Tlb h j f) = Unit {0}
IsOfStart _ = ⊥

-- the own HSM was loaded
abbrev pub HasFoundState : (found : ℕ) → Shown → Shown → Type 0
HasFoundState found p q = Made p q (Hsm p.own.actor) Load 0 found

-- as another value than 2, and nothing else was done
pub record HasFoundStopped (p q : Shown) (b b' : Book) : Type 0 where
  pub found : ℕ
  pub finds : HasFoundState found p q
  pub not_called : found ≢ 2
  pub book : b' ≡ b

-- as 2, and then the own lock was found held
pub record HasFoundHeld (holder : ℕ) (p q : Shown) (b b' : Book) : Type 0 where
  pub called : Shown
  pub finds : HasFoundState 2 p called
  pub busy : HasBeenBusy holder called q b b'

-- It was loaded as 2; then the own TLB was flushed whole, START and OPAQUE loaded, which say where to begin and what with, and 0 stored in the
-- own HSM. The hart runs then
pub record HasBegun (start : Start) (p q : Shown) (b b' : Book) : Type 0 where
  pub called : Shown
  pub flushed : Shown
  pub placed : Shown
  pub handed : Shown
  pub finds : HasFoundState 2 p called
  pub flushes : HasFlushedAll called flushed b b'
  pub goes : GoesBy (full_steps b.size) IsOfTable called flushed
  pub beside : IsBeside b' flushed
  pub places : Made flushed placed (StartWord p.own.actor) Load 0 start.at
  pub hands : Made placed handed (Opaque p.own.actor) Load 0 start.opaque
  pub begins : Made handed q (Hsm p.own.actor) Store 0 0
  pub aligned : start.at % 4 ≡ 0
  pub runs : is_running q.own.actor q.own.runs q.own.steps ≡ true
