-- Definitions computed on small lists of events: what a remote fence asks of other harts, the pages that a store leads to, and what
-- a script came to.
use Rattle.std.proofs.Common.{◌≡◌, refl, ℕ, zero, suc, List, [], ◌∷◌, replicate, Some, pos, false, arith}
use Rattle.rv64_decode.specs.declared.instruction.Instr.{Instr}
use Rattle.rv64_decode.specs.declared.instruction.Instr.TheVariants.{Add, Ld, Sd}
use Rattle.rv64_priv.specs.Flush.{Full, Pages}
use Rattle.rv64_priv.specs.Walk.{Walked, Leaf, PageFault}
use Rattle.rv64_exec.specs.Code.{no_code}
use Rattle.rv64_exec.specs.Plan.{need_of}
use Rattle.rv64_exec.specs.declared.needs.Answer.{Answer}
use Rattle.machine_model.specs.Past.{HasSince, this, before}
use Rattle.machine_model.specs.Event.{Event, Fetch, Exec, GiveUp, Flushes, Await, SnapBegin, SnapEnd, Dump, only}
use Rattle.machine_model.specs.State.{State, initial, hart, reset}
use Rattle.machine_model.specs.Run.{fetches, flushes}
use Rattle.machine_model.specs.Lawful.{Flushed}
use Rattle.machine_model.specs.Now.{no_walk}
use Rattle.machine_model.specs.Script.{script_results, Pages as Listed, Bytes}
use Rattle.machine_model.specs.Stores.{store_pages}
use Rattle.machine_model.proofs.Rows.{code, hello_setup}

-- FENCES

-- hart 0 fetches its call; then hart 1 flushes pages 5 and 6, and page 7
abbrev in_pieces : List Event
in_pieces = Flushes 1 (Pages 7 1) ∷ Flushes 1 (Pages 5 2) ∷ Fetch 0 no_walk no_code ∷ []

-- each page of the range was flushed, though no flush names them all
by_pages : Flushed in_pieces 0 1 (Pages 5 3)
by_pages (suc (suc (suc (suc (suc zero))))) low high = before refl (this refl)
by_pages (suc (suc (suc (suc (suc (suc zero)))))) low high = before refl (this refl)
by_pages (suc (suc (suc (suc (suc (suc (suc zero))))))) low high = this refl
by_pages p low high = absurd (omega (arith, low, high))

by_a_full_flush : Flushed (Flushes 1 Full ∷ Fetch 0 no_walk no_code ∷ []) 0 1 (Pages 5 3)
by_a_full_flush p low high = this refl

none_in : (p : ℕ) (what : Event) → flushes 1 (Pages p 1) what ≡ false → HasSince (fetches 0) (flushes 1 (Pages p 1)) (what ∷ Fetch 0 no_walk no_code ∷ []) → ⊥
none_in p what none (this k) = cc
none_in p what none (before k (this h)) = cc
none_in p what none (before k (before j h)) = cc

-- a page is left out; a flush of pages is none of everything; a flush before the fetch; another hart's
page_left_out : Flushed (Flushes 1 (Pages 6 2) ∷ Fetch 0 no_walk no_code ∷ []) 0 1 (Pages 5 3) → ⊥
page_left_out k = none_in 5 (Flushes 1 (Pages 6 2)) refl (k 5 (omega arith) (omega arith))

another_hart : Flushed (Flushes 2 Full ∷ Fetch 0 no_walk no_code ∷ []) 0 1 (Pages 5 1) → ⊥
another_hart k = none_in 5 (Flushes 2 Full) refl (k 5 (omega arith) (omega arith))

too_early : Flushed (Fetch 0 no_walk no_code ∷ Flushes 1 Full ∷ []) 0 1 Full → ⊥
too_early (this k) = cc
too_early (before k h) = cc

-- PAGES OF STORES

-- hart 0 holds this word, with this in x1
abbrev holding : Instr → (x1 : ℕ) → State
holding i x1 = record (initial hello_setup) { harts = record (hart (initial hello_setup) 0) { arch = record (reset 0x80000000) { x = 0 ∷ x1 ∷ replicate 30 0 }; held = Some (code i) } ∷ [] }

abbrev first_page : Walked
first_page = Leaf 0xcf 0x80020000 0

abbrev far_page : Walked
far_page = Leaf 0xcf 0x80005000 0

abbrev pages_by : Instr → (x1 : ℕ) → (first second : Walked) → List ℕ
pages_by i x1 first second = store_pages (holding i x1) (Exec 0 first second (only Answer.Nothing))

abbrev storing : Instr
storing = Sd 1 2 (pos 0)

a_store : pages_by storing 0x1000 first_page far_page ≡ 0x20 ∷ []
unfolding need_of
a_store = refl

over_two_pages : pages_by storing 0x1ffc first_page far_page ≡ 0x20 ∷ 5 ∷ []
unfolding need_of
over_two_pages = refl

second_page_faults : pages_by storing 0x1ffc first_page PageFault ≡ 0x20 ∷ []
unfolding need_of
second_page_faults = refl

-- where the first page leads to no RAM the second is not walked
on_a_device : pages_by storing 0x1ffc (Leaf 0xcf 0x10000000 0) far_page ≡ []
unfolding need_of
on_a_device = refl

a_load : pages_by (Ld 3 1 (pos 0)) 0x1000 first_page far_page ≡ []
unfolding need_of
a_load = refl

-- an instruction without an access leads nowhere, whatever stands in its event
no_access : pages_by (Add 3 1 2) 0x1000 first_page far_page ≡ []
unfolding need_of
no_access = refl

given_up_at_once : store_pages (holding storing 0x1ffc) (GiveUp 0 []) ≡ []
unfolding need_of
given_up_at_once = refl

given_up_between : store_pages (holding storing 0x1ffc) (GiveUp 0 (first_page ∷ [])) ≡ 0x20 ∷ []
unfolding need_of
given_up_between = refl

given_up_behind : store_pages (holding storing 0x1ffc) (GiveUp 0 (first_page ∷ far_page ∷ [])) ≡ 0x20 ∷ 5 ∷ []
unfolding need_of
given_up_behind = refl

-- SCRIPTS

in_the_scripts_order : script_results (Dump 0x80000000 (79 ∷ []) ∷ SnapEnd (3 ∷ 7 ∷ []) ∷ Flushes 0 Full ∷ SnapBegin ∷ Await 0 ∷ [])
    ≡ Listed (3 ∷ 7 ∷ []) ∷ Bytes 0x80000000 (79 ∷ []) ∷ []
in_the_scripts_order = refl
