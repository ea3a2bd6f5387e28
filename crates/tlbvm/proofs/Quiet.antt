-- A plain run has no script, so that nothing comes of one.
use Rattle.std.proofs.Common.{◌≡◌, refl, ℕ, List, [], ◌∷◌, ◌++◌, map, Option, Some, None, Bool, true, false}
use Rattle.std.specs.Prelude.{◌&&◌, ◌==◌, is_some, if◌then◌else◌}
use Rattle.rv64_priv.specs.Flush.{Flush}
use Rattle.rv64_exec.specs.Code.{Code}
use Rattle.machine_model.specs.declared.reason.Reason.{Reason}
use Rattle.machine_model.specs.declared.mode.Mode.{Mode}
use Rattle.machine_model.specs.declared.mode.Mode.TheVariants.{Started, Halted, Pending}
use Rattle.machine_model.specs.Event.{Event, Fetch, Exec, GiveUp, Interrupt, Flushes, Start, Stop, Await, SnapBegin, SnapEnd, Dump}
use Rattle.machine_model.specs.State.{Setup, State, hart, all_halted}
use Rattle.machine_model.specs.Perform.{surroundings}
use Rattle.machine_model.specs.Walks.{need}
use Rattle.machine_model.specs.Change.{state_after}
use Rattle.machine_model.specs.Run.{state_of, counts, leaves, is_leaf_end}
use Rattle.machine_model.specs.Now.{is_pending_now, fetch_end, fetch_now, exec_now}
use Rattle.machine_model.specs.Lawful.{Flushing, flushing}
use Rattle.machine_model.specs.Plain.{IsPlainRun, none, turn, over, flush_events, stops_behind, with_stops, executing, instruction, running_turn, turn_in, plain_turn}
use Rattle.machine_model.specs.Script.{ScriptResult, Pages, Bytes, script_results}

abbrev IsQuiet : List Event → Type 0
IsQuiet run = script_results run ≡ []

both : (xs ys : List Event) → IsQuiet xs → IsQuiet ys → IsQuiet (xs ++ ys)
both [] ys p q = q
both (Fetch h walk code ∷ xs) ys p q = both xs ys p q
both (Exec h walk second did ∷ xs) ys p q = both xs ys p q
both (GiveUp h walks ∷ xs) ys p q = both xs ys p q
both (Interrupt h ∷ xs) ys p q = both xs ys p q
both (Flushes h what ∷ xs) ys p q = both xs ys p q
both (Start h at opaque ∷ xs) ys p q = both xs ys p q
both (Stop by reason ∷ xs) ys p q = both xs ys p q
both (Await n ∷ xs) ys p q = both xs ys p q
both (SnapBegin ∷ xs) ys p q = both xs ys p q
both (SnapEnd pages ∷ xs) ys p q = absurd (no_end (script_results xs) (Pages pages) p)
  where
    no_end : (l : List ScriptResult) (r : ScriptResult) → l ++ r ∷ [] ≡ [] → ⊥
    no_end [] r e = cc
    no_end (x ∷ l) r e = cc
both (Dump at bytes ∷ xs) ys p q = absurd (no_end (script_results xs) (Bytes at bytes) p)
  where
    no_end : (l : List ScriptResult) (r : ScriptResult) → l ++ r ∷ [] ≡ [] → ⊥
    no_end [] r e = cc
    no_end (x ∷ l) r e = cc

stop_if : (b : Bool) (h : ℕ) (reason : Reason) → IsQuiet (if b then Stop h reason ∷ [] else [])
stop_if true h reason = refl
stop_if false h reason = refl

stops_quiet : (u : Setup) (s : State) (h : ℕ) (e : Event) → IsQuiet (e ∷ []) → IsQuiet (with_stops u s h e)
stops_quiet u s h e q =
    let after = state_after e s in
    let limit = counts e && ((hart after h).count == u.limit) in
    let last = leaves e && all_halted after in
    both (stops_behind u h e after) (e ∷ [])
    (both (if limit then Stop h (Reason.Limit h) ∷ [] else []) (if last then Stop h Reason.AllStopped ∷ [] else []) (stop_if limit h (Reason.Limit h)) (stop_if last h Reason.AllStopped)) q

flushes_quiet : (what : Flush) (harts : List ℕ) → IsQuiet (map (λ t. Flushes t what) harts)
flushes_quiet what [] = refl
flushes_quiet what (t ∷ harts) = flushes_quiet what harts

flush_quiet : (f : Option Flushing) → IsQuiet (flush_events f)
flush_quiet None = refl
flush_quiet (Some f) = flushes_quiet f.what f.harts

exec_quiet : (u : Setup) (s : State) (h : ℕ) → IsQuiet (exec_now u s h ∷ [])
unfolding exec_now
exec_quiet u s h = refl

executing_quiet : (u : Setup) (s : State) (h : ℕ) → IsQuiet (executing u s h)
unfolding executing
executing_quiet u s h =
    let f = flushing (surroundings u s) h (hart s h).arch (need s h) in
    both (with_stops u s h (exec_now u s h)) (flush_events f) (stops_quiet u s h (exec_now u s h) (exec_quiet u s h)) (flush_quiet f)

instruction_quiet : (u : Setup) (s : State) (h : ℕ) (code : Code) → IsQuiet (instruction u s h code)
unfolding instruction
instruction_quiet u s h code = go (is_leaf_end (fetch_end u s h))
  where
    go : (b : Bool) → IsQuiet (if b then executing u (state_after (fetch_now u s h code) s) h ++ fetch_now u s h code ∷ [] else with_stops u s h (fetch_now u s h code))
    go true = both (executing u (state_after (fetch_now u s h code) s) h) (fetch_now u s h code ∷ []) (executing_quiet u (state_after (fetch_now u s h code) s) h) refl
    go false = stops_quiet u s h (fetch_now u s h code) refl

running_quiet : (u : Setup) (s : State) (h : ℕ) (code : Code) → IsQuiet (running_turn u s h code)
running_quiet u s h code = go (is_pending_now u s h)
  where
    go : (b : Bool) → IsQuiet (if b then Interrupt h ∷ [] else instruction u s h code)
    go true = refl
    go false = instruction_quiet u s h code

mode_quiet : (u : Setup) (s : State) (h : ℕ) (code : Code) (mode : Mode) → IsQuiet (turn_in u s h code mode)
mode_quiet u s h code Halted = refl
mode_quiet u s h code Pending = refl
mode_quiet u s h code Started = running_quiet u s h code

turn_quiet : (u : Setup) (s : State) (h : ℕ) (code : Code) → IsQuiet (plain_turn u s h code)
unfolding plain_turn
turn_quiet u s h code = go (is_some s.reason)
  where
    go : (b : Bool) → IsQuiet (if b then [] else turn_in u s h code (hart s h).mode)
    go true = refl
    go false = mode_quiet u s h code (hart s h).mode

pub plain_quiet : (u : Setup) (turns : List ℕ) (run : List Event) → IsPlainRun u turns run → script_results run ≡ []
plain_quiet u _ _ none = refl
plain_quiet u _ _ (turn {order} {run} h code going next p) = both (plain_turn u (state_of u run) h code) run (turn_quiet u (state_of u run) h code) (plain_quiet u order run p)
plain_quiet u _ _ (over {order} {run} h ended p) = plain_quiet u order run p
