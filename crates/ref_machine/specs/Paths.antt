-- Walks that led to a page of RAM.
use Rattle.std.specs.Prelude.{◌≡◌, ℕ, ◌+◌, ◌-◌, ◌*◌, ◌/◌, ◌%◌, ◌^◌, ◌≤◌, ◌<◌, true, List, Option, IfSome, slice_index}
use Rattle.rv64_priv.specs.declared.state.Kind.{Kind}
use Rattle.rv64_priv.specs.declared.state.Regime.{Regime}
use Rattle.rv64_priv.specs.Walk.{at_leaf, is_ram, pages_of_level, walk_of}
use Rattle.machine_model.specs.Access.{AtRam, spot_of}
use Rattle.ref_machine.specs.SharedState.{ram_reads}
use Rattle.ref_machine.specs.declared.paths.Entry.{Entry}
use Rattle.ref_machine.specs.declared.paths.Path.{Path}
use Rattle.ref_machine.specs.declared.paths.Paths.{Paths}
use Rattle.ref_machine.specs.declared.paths.Walks.{Walks}

-- where a table's entry of this level stands, for the addresses of a page
abbrev pub place_of : (table page level : ℕ) → ℕ
place_of table page level = table + 8 * (page / pages_of_level level % 512)

-- the entry stands there, in RAM
pub record IsEntry (pages table page level : ℕ) (e : Entry) : Type 0 where
  pub ram : is_ram pages (place_of table page level) ≡ true
  pub at : e.index ≡ (place_of table page level - 2 ^ 31) / 8

-- the entries stand in RAM
pub record AreThere (ram : List ℕ) (p : Path) : Type 0 where
  pub root : slice_index ram p.root.index ≡ p.root.pte
  pub middle : slice_index ram p.middle.index ≡ p.middle.pte
  pub last : slice_index ram p.last.index ≡ p.last.pte

-- a leaf of this level leads the addresses of a page to a page of RAM that begins with this word
pub record IsLeafTo (pages : ℕ) (r : Regime) (kind : Kind) (page level pte base : ℕ) : Type 0 where
  pub inside : base + 512 ≤ 512 * pages
  pub leads : (va : ℕ) → va / 4096 ≡ page → spot_of kind va (at_leaf pages r kind va level pte) ≡ AtRam (2 ^ 31 + 8 * base + va % 4096)

-- where its entries stand, each address of the page leads to its place in the page of RAM
pub record IsPath (pages : ℕ) (r : Regime) (kind : Kind) (p : Path) : Type 0 where
  pub root : p.root.index < 512 * pages
  pub middle : p.middle.index < 512 * pages
  pub last : p.last.index < 512 * pages
  pub base : p.base + 512 ≤ 512 * pages
  pub leads : (ram : List ℕ) (va : ℕ) → va / 4096 ≡ p.page → AreThere ram p → spot_of kind va (walk_of pages r kind (ram_reads ram) va) ≡ AtRam (2 ^ 31 + 8 * p.base + va % 4096)

abbrev pub IsPathIf : (pages : ℕ) → Regime → Kind → Option Path → Type 0
IsPathIf pages r kind path = IfSome path (IsPath pages r kind)

pub record ArePaths (pages : ℕ) (r : Regime) (p : Paths) : Type 0 where
  pub fetch : IsPathIf pages r Kind.Fetch p.fetch
  pub load : IsPathIf pages r Kind.Load p.load
  pub store : IsPathIf pages r Kind.Store p.store

-- a hart's walks are those of its pages and regime
pub record AreWalks (w : Walks) : Type 0 where
  pub paths : ArePaths w.pages w.regime w.paths
