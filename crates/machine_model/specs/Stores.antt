-- The pages of RAM to which the store walks of an event lead: what a snapshot may list. They are told by the need of the hart that
-- makes the event, since an event may carry a walk that its access doesn't make.
use Rattle.std.specs.Prelude.{ℕ, ◌-◌, ◌/◌, Bool, true, false, ◌&&◌, if◌then◌else◌, List, [], ◌∷◌, ◌++◌, Option, Some, None}
use Rattle.rv64_priv.specs.declared.state.Kind.{Kind}
use Rattle.rv64_priv.specs.Walk.{Walked, ram_base}
use Rattle.machine_model.specs.Event.{Event, Exec, GiveUp}
use Rattle.machine_model.specs.State.{State}
use Rattle.machine_model.specs.Access.{Spot, AtRam, spot_of, crosses_page, second_va, is_at_ram}
use Rattle.machine_model.specs.Walks.{Wanted, need, access_of}

-- a page of RAM by its number, from RAM's first page on
abbrev pub ram_page : (pa : ℕ) → ℕ
ram_page pa = (pa - ram_base) / 4096

abbrev pub page_at : Spot → List ℕ
page_at (AtRam pa) = ram_page pa ∷ []
page_at _ = []

-- by walks with these ends; the second is made where the access crosses pages and the first led to RAM
abbrev pub pages_reached : Wanted → (first second : Walked) → List ℕ
pages_reached w first second =
    page_at (spot_of w.kind w.va first)
    ++ (if crosses_page w.va w.width && is_at_ram (spot_of w.kind w.va first) then page_at (spot_of w.kind (second_va w.va) second) else [])

-- by the walks that were made
abbrev pub pages_walked : Wanted → List Walked → List ℕ
pages_walked w [] = []
pages_walked w (first ∷ []) = page_at (spot_of w.kind w.va first)
pages_walked w (first ∷ second ∷ _) = pages_reached w first second

abbrev pub is_store : Kind → Bool
is_store Kind.Store = true
is_store _ = false

abbrev pub of_store : Option Wanted → (Wanted → List ℕ) → List ℕ
of_store None pages = []
of_store (Some w) pages = if is_store w.kind then pages w else []

-- in the state before the event
abbrev pub store_pages : State → Event → List ℕ
store_pages s (Exec h walk second did) = of_store (access_of (need s h)) (λ w. pages_reached w walk second)
store_pages s (GiveUp h walks) = of_store (access_of (need s h)) (λ w. pages_walked w walks)
store_pages s _ = []
