-- The monitor's events in its log.
use Rattle.std.proofs.Common.{◌≡◌, ◌≢◌, ℕ, Bool, true, false, List, [], ◌∷◌, ◌++◌, Some, None, refl, sym, ap, ◌∙◌, inr, arith, drop, take, length, map}
use Rattle.std.specs.Prelude.{if◌then◌else◌}
use Rattle.std.specs.List.{AllByRecursion}
use Rattle.std.proofs.lemmas.Bool.{eq-eqb}
use Rattle.std.proofs.lemmas.List.{drop-append-le, length-drop, map-append, take-append-le}
use Rattle.std.proofs.Math.Seq.{drop-append_seam, take-length}
use Rattle.step_laws.specs.Harts.{is_owing}
use Rattle.step_laws.specs.Map.{monitor}
use Rattle.machine_model.specs.Event.{Event, actor_of, did_of}
use Rattle.machine_model.specs.Run.{counts, is_snap_begin, last_of, passes}
use Rattle.machine_model.specs.Script.{ScriptResult, script_results}
use Rattle.machine_model.specs.Script as script
use Rattle.machine_model.specs.State.{Setup}
use Rattle.turn_pieces.specs.Draws.{beyond, filled}
use Rattle.turn_pieces.specs.Folds.{was_last}
use Rattle.turn_pieces.specs.Grows.{IsClosed}
use Rattle.turn_pieces.specs.Kept.{HasSaid, places}
use Rattle.turn_pieces.specs.Log.{Log, did, events_of, steps_of}
use Rattle.turn_pieces.specs.Marks.{is_awaited}
use Rattle.turn_pieces.specs.Owed.{nothing, owed, unstored, unstored_did}
use Rattle.turn_pieces.specs.Snapshots.{is_going}
use Rattle.turn_pieces.proofs.Unmarked.{unmarked_did}
use Rattle.turn_pieces.proofs.Writers.{clear_did, not_due_behind, places_did}
use Rattle.monitor_script.specs.declared.scripts.Command.{Command}
use Rattle.monitor.specs.Monitors.{IsThere, lines_of, result_of}
use Rattle.monitor.specs.declared.monitor.Outcome.{Outcome}
use Rattle.monitor.specs.declared.monitor.Outcome.TheVariants.{Bytes}

-- the monitor's last event
last_behind : (a : ℕ) (e : Event) (run : List Event) → actor_of e ≡ a → last_of a (e ∷ run) ≡ Some e
last_behind a e run own = ap (λ (b : Bool). if b then Some e else last_of a run) (eq-eqb (actor_of e) a own)

pub none_begun_behind : (e : Event) (run : List Event) → actor_of e ≡ monitor → is_snap_begin e ≡ false → passes is_snap_begin (last_of monitor (e ∷ run)) ≡ false
none_begun_behind e run own no_begin = ap (passes is_snap_begin) (last_behind monitor e run own) ∙ no_begin

-- nothing is open behind an event of the monitor that stands at its step
pub event_closed : (u : Setup) (a : ℕ) (e : Event) (l : Log) → actor_of e ≡ a → actor_of e ≡ monitor → counts e ≡ false → is_snap_begin e ≡ false → places l ≡ [] → unstored (did e ∷ l) ≡ None
    → (was_last a (steps_of l) ≡ true → HasSaid l) → is_owing a (steps_of l) ≡ false → filled (steps_of l) ≢ beyond → ((page : ℕ) → is_awaited u a page l ≡ false) → is_going u.layout (steps_of l) ≡ false → IsClosed u a (did e ∷ l)
event_closed u a e l own is uncounts no_begin drawn left said paid full marks still = record {
  clear = clear_did (owed l);
  none_drawn = places_did l e drawn;
  none_left = left;
  stops = not_due_behind u.limit (e ∷ events_of l) a _ e (last_behind a e (events_of l) own) uncounts;
  last = λ x. inr (said x);
  left = paid;
  full = full;
  marks = λ page. unmarked_did u a page l e (marks page);
  snapshot = λ x. still ∙ sym (none_begun_behind e (events_of l) is no_begin);
}

-- where nothing was open before it, and nothing was owed
pub plain_closed : (u : Setup) (a : ℕ) (e : Event) (l : Log) → a ≡ monitor → actor_of e ≡ monitor → counts e ≡ false → is_snap_begin e ≡ false → owed l ≡ nothing → IsClosed u a l → passes is_snap_begin (last_of monitor (events_of l)) ≡ false
    → IsClosed u a (did e ∷ l)
plain_closed u a e l is own uncounts no_begin idle c none = event_closed u a e l (own ∙ sym is) own uncounts no_begin c.none_drawn (ap (λ o. unstored_did o (did_of e).bytes (unstored l)) idle ∙ c.none_left) c.last c.left c.full c.marks (c.snapshot is ∙ none)

-- lines of a script behind its first
pub lines_behind : (commands : List Command) → drop 1 (lines_of commands) ≡ lines_of (drop 1 commands)
lines_behind [] = refl
lines_behind (command ∷ commands) = refl

-- results stay with more bytes behind them
kept_result : (bytes more : List ℕ) (outcome : Outcome) → IsThere (length bytes) outcome → result_of (bytes ++ more) outcome ≡ result_of bytes outcome
kept_result bytes more (Bytes at len from) there =
    let left = length-drop from bytes in
    ap (script.Bytes at) (ap (take len) (drop-append-le from bytes more (omega (arith, there))) ∙ take-append-le len (drop from bytes) more (omega (arith, there, left)))

kept_results : (bytes more : List ℕ) (outcomes : List Outcome) → AllByRecursion (IsThere (length bytes)) outcomes → map (result_of (bytes ++ more)) outcomes ≡ map (result_of bytes) outcomes
kept_results bytes more [] there = refl
kept_results bytes more (outcome ∷ outcomes) there = λ j. kept_result bytes more outcome there.0 j ∷ kept_results bytes more outcomes there.1 j

new_result : (bytes more : List ℕ) (at len : ℕ) → length more ≡ len → result_of (bytes ++ more) (Bytes at len (length bytes)) ≡ script.Bytes at more
new_result bytes more at len many = ap (script.Bytes at) (ap (take len) (drop-append_seam bytes more) ∙ ap (λ n. take n more) (sym many) ∙ take-length more)

pub results_with : (bytes more : List ℕ) (outcomes : List Outcome) (at len : ℕ) → length more ≡ len → AllByRecursion (IsThere (length bytes)) outcomes
    → map (result_of bytes) outcomes ++ script.Bytes at more ∷ [] ≡ map (result_of (bytes ++ more)) (outcomes ++ Bytes at len (length bytes) ∷ [])
results_with bytes more outcomes at len many there = sym (map-append (result_of (bytes ++ more)) outcomes (Bytes at len (length bytes) ∷ []) ∙ (λ j. kept_results bytes more outcomes there j ++ new_result bytes more at len many j ∷ []))
