-- Dirty marks, as a log tells them: which pages the actor marked, and which of them an event behind the mark stores to.
use Rattle.std.specs.Prelude.{ℕ, Bool, true, false, ◌==◌, if◌then◌else◌, List, [], ◌∷◌}
use Rattle.std.specs.List.{list_any}
use Rattle.step_laws.specs.declared.steps.WordOp.{WordOp}
use Rattle.step_laws.specs.declared.steps.WordOp.TheVariants.{Or}
use Rattle.step_laws.specs.Map.{Word, Dirty, name_of}
use Rattle.step_laws.specs.Marks.{is_mark}
use Rattle.machine_model.specs.Event.{Event, Exec, GiveUp}
use Rattle.machine_model.specs.State.{Setup}
use Rattle.machine_model.specs.Own.{Own}
use Rattle.machine_model.specs.Walks.{need_held, access_of}
use Rattle.machine_model.specs.Stores.{of_store, pages_reached, pages_walked}
use Rattle.turn_pieces.specs.Log.{made, did, Log}
use Rattle.turn_pieces.specs.Kept.{own_part}

-- the pages of RAM to which the event's store walks lead, by what its hart was before it
abbrev pub own_pages : Own → Event → List ℕ
own_pages o (Exec h walk second outcome) = of_store (access_of (need_held o.arch o.held)) (λ w. pages_reached w walk second)
own_pages o (GiveUp h walks) = of_store (access_of (need_held o.arch o.held)) (λ w. pages_walked w walks)
own_pages o _ = []

abbrev pub awaited_next : (page : ℕ) → Word → WordOp → (arg : ℕ) → Bool → Bool
awaited_next page (Dirty i) Or arg b = if is_mark page i arg then true else b
awaited_next page _ _ arg b = b

-- the actor marked the page, and no event behind that has a store walk that gave it
abbrev pub is_awaited : Setup → (a page : ℕ) → Log → Bool
is_awaited u a page [] = false
is_awaited u a page (made s ∷ l) = awaited_next page (name_of s.word) s.op s.arg (is_awaited u a page l)
is_awaited u a page (did e ∷ l) = if list_any (λ given. given == page) (own_pages (own_part u a l) e) then false else is_awaited u a page l
