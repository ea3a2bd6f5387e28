-- Words that the proof of the walk needs alone: what is known behind each level.
use Rattle.std.specs.Prelude.{◌≡◌, ◌⊎◌, ℕ, ◌*◌, ◌<◌, ◌^◌, true, false, List, ◌++◌}
use Rattle.rv64_priv.specs.declared.state.Kind.{Kind}
use Rattle.rv64_priv.specs.declared.state.Regime.{Regime}
use Rattle.rv64_priv.specs.Pte.{is_leaf, is_malformed, ppn}
use Rattle.rv64_priv.specs.Walk.{Walked, AccessFault, PageFault, at_leaf, is_ram, pte_address, walk_from}
use Rattle.rv64_priv.specs.Reads.{answering}
use Rattle.step_laws.specs.declared.steps.Step.{Step}
use Rattle.step_laws.specs.declared.steps.WordOp.TheVariants.{Load}
use Rattle.step_laws.specs.Words.{ram_word}
use Rattle.guest_ram.specs.Ports.{Shown, after_step, layout_of}
use Rattle.guest_ram.specs.Rule.{record_of}
use Rattle.walk_laws.specs.WalkLoads.{Found, reads_from}
use Rattle.sv39_walk.specs.declared.tables.Stop.{Stop}
use Rattle.sv39_walk.specs.declared.tables.Stop.TheVariants.{End, Table}
use Rattle.sv39_walk.specs.Walking.{end_of, loads_of}

-- the entry was found so, and the walk ends here or goes on in the table below
abbrev pub StopsAt : (pages : ℕ) → Regime → Kind → (va level pte : ℕ) → Stop → Type 0
StopsAt pages r kind va level pte (End end) = ((is_malformed pte ≡ true) × (end_of end ≡ PageFault))
    ⊎ ((is_malformed pte ≡ false) × (is_leaf pte ≡ true) × (end_of end ≡ at_leaf pages r kind va level pte))
StopsAt pages r kind va level pte (Table table) = (is_malformed pte ≡ false) × (is_leaf pte ≡ false) × (table ≡ ppn pte * 4096)

abbrev pub IsOutside : Stop → Type 0
IsOutside (End end) = end_of end ≡ AccessFault
IsOutside (Table table) = ⊥

-- one level of a walk: the entry lies outside of RAM, or was loaded
pub data HasStepped (r : Regime) (kind : Kind) (va level table : ℕ) (p q : Shown) (stop : Stop) : Type 0 where
  outside : is_ram (layout_of p).pages (pte_address table va level) ≡ false → q ≡ p → IsOutside stop → HasStepped r kind va level table p q stop
  reads : (pte : ℕ) → is_ram (layout_of p).pages (pte_address table va level) ≡ true → q ≡ after_step p (ram_word (pte_address table va level)) Load 0 pte
      → StopsAt (layout_of p).pages r kind va level pte stop → HasStepped r kind va level table p q stop

abbrev pub IsBelow : Stop → Type 0
IsBelow (End end) = Unit {0}
IsBelow (Table table) = table < 2 ^ 56

-- what reads find at the levels below one
abbrev pub AgreeBelow : (levels : ℕ) → (ℕ → ℕ) → (ℕ → ℕ) → Type 0
AgreeBelow levels finds others = (level : ℕ) → level < levels → others level ≡ finds level

-- The walk from a table on has this end: by all words that agree with those that were found, and whichever loads were made before
pub record WalksFrom (r : Regime) (kind : Kind) (va levels table : ℕ) (p q : Shown) (end : Walked) : Type 0 where
  pub finds : ℕ → ℕ
  pub is_end : (others : ℕ → ℕ) → AgreeBelow levels finds others → walk_from (layout_of p).pages r kind (answering others) va levels table ≡ end
  pub loads : (others : ℕ → ℕ) → AgreeBelow levels finds others → (before : List Found) (first : List Step) → p.own.steps ≡ loads_of p.own.actor before ++ first
      → q ≡ record p { own = record_of p.own.actor p.own.runs (loads_of p.own.actor (reads_from (layout_of p).pages va others levels table before) ++ first) }
