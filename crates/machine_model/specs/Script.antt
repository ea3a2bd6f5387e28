-- What a run's script came to.
use Rattle.std.specs.Prelude.{ℕ, List, [], ◌∷◌, ◌++◌}
use Rattle.machine_model.specs.Event.{Event, SnapEnd, Dump}

-- the pages of a finished snapshot, or the bytes of a dump
pub data ScriptResult : Type 0 where
  Pages : (pages : List ℕ) → ScriptResult
  Bytes : (at : ℕ) (bytes : List ℕ) → ScriptResult

-- in the script's order, the first one first
abbrev pub script_results : List Event → List ScriptResult
script_results [] = []
script_results (SnapEnd pages ∷ run) = script_results run ++ Pages pages ∷ []
script_results (Dump at bytes ∷ run) = script_results run ++ Bytes at bytes ∷ []
script_results (_ ∷ run) = script_results run
