-- An execution that writes nothing, placed behind a step that needs no event; and loads of RAM.
use Rattle.std.proofs.Common.{◌≡◌, Bool, ◌≢◌, ℕ, ◌<◌, List, [], ◌∷◌, None, refl, sym, ap, subst, ◌∙◌, arith}
use Rattle.rv64_priv.specs.State.{Arch}
use Rattle.rv64_priv.specs.declared.state.Regime.{Regime}
use Rattle.rv64_priv.specs.Walk.{Walked}
use Rattle.rv64_exec.specs.declared.needs.Need.{Need}
use Rattle.rv64_exec.specs.declared.needs.Answer.{Answer}
use Rattle.step_laws.specs.declared.steps.Step.{Step}
use Rattle.step_laws.specs.declared.steps.WordOp.{WordOp}
use Rattle.step_laws.specs.declared.steps.WordOp.TheVariants.{Load, Store, Exchange}
use Rattle.step_laws.specs.Map.{name_of}
use Rattle.step_laws.specs.Words.{ram_word}
use Rattle.machine_model.specs.Event.{Exec, did_of, only}
use Rattle.machine_model.specs.Lawful.{flushing}
use Rattle.machine_model.specs.Own.{Own, own_executed}
use Rattle.machine_model.specs.Perform.{Surroundings, perform}
use Rattle.machine_model.specs.State.{Setup}
use Rattle.machine_model.specs.Walks.{access_of}
use Rattle.guest_ram.specs.Plays.{step_of}
use Rattle.guest_ram.specs.Ports.{Shown}
use Rattle.guest_ram.specs.Areas.{IsOfRam}
use Rattle.tlb_entry.specs.declared.books.Book.{Book}
use Rattle.kept_fills.proofs.Staying.{fills_stay}
use Rattle.tlb_fill.proofs.Marking.{same_goes}
use Rattle.turn_pieces.specs.Doing.{IsCalm, IsQuiet}
use Rattle.turn_pieces.specs.Shared.{IsShared}
use Rattle.turn_pieces.specs.Log.{made, did, Log}
use Rattle.turn_pieces.specs.KeptWalks.{flushes_in}
use Rattle.turn_pieces.specs.Owed.{nothing, owed, unstored, unstored_did, books, PaysFor}
use Rattle.turn_pieces.specs.Right.{AreFenced, IsExec, IsFit, MayBe, SeenFor}
use Rattle.turn_pieces.specs.Grows.{Grows, stays, does, Ends}
use Rattle.turn_pieces.specs.Writers.{IsInner, IsPlain, QuietBy}
use Rattle.turn_pieces.proofs.Unmarked.{is_other}
use Rattle.turn_pieces.proofs.Writers.{calm_owes, places_did, quietly_grows, quietly_tells, tells_did}
use Rattle.guest_access.specs.Stepping.{HasStepped}
use Rattle.guest_access.proofs.Areas.{ram_off}
use Rattle.guest_access.proofs.Keeping.{goes_stepped}
use Rattle.access_pieces.specs.Serving.{Counted, Tells, Wants, view}
use Rattle.access_pieces.proofs.Counting.{counted_did}
use Rattle.access_pieces.proofs.Awaited.{AwaitsBut, awaits_step, exec_pages, exec_paid}

-- whatever pages may wait for a store before
module _ (others : ℕ → Bool) where
  quiet_only : (h : ℕ) (walk second : Walked) (answer : Answer) → IsQuiet (Exec h walk second (only answer))
  quiet_only h walk second answer = record { does = record { entry_is = refl; bytes_are = refl; reason_is = refl; starts_is = refl; stops_is = refl }; begins_not = refl }

  pub quiet_exec : (o : Own) (q : Shown) (b : Book) (r : Regime) (c : Arch) (need : Need) (answer : Answer) (walk second : Walked) (u : Setup) (a : ℕ) (l : Log) → Tells o q b r u a l → owed l ≡ nothing → Wants o c need → a < u.layout.harts
      → SeenFor u.layout.pages a c (access_of need) walk second l → ((w : Surroundings) → flushing w a c need ≡ None) → ((w : Surroundings) → MayBe u a l w → only answer ≡ perform w a c walk second need)
      → AwaitsBut others (exec_pages need walk second) u a l → Ends u a l (Counted others (own_executed (only answer) o) q b r u a)
  quiet_exec o q b r c need answer walk second u a l t none wants hart seen calm right awaits =
      let e = Exec a walk second (only answer) in
      let fit : IsExec u a l walk second (only answer) o = record {
        holds = wants.holds;
        shown = subst (λ (n : Need). SeenFor u.layout.pages a o.arch (access_of n) walk second l) (sym wants.need_is) (subst (λ (y : Arch). SeenFor u.layout.pages a y (access_of need) walk second l) (sym wants.arch_is) seen);
        flushed = λ w m. subst (AreFenced a l) (sym ((λ i. flushing w a (wants.arch_is i) (wants.need_is i)) ∙ calm w)) tt;
        right = λ w m. right w m ∙ sym (λ i. perform w a (wants.arch_is i) walk second (wants.need_is i));
      } in record {
        late = did e ∷ l;
        grows = does e stays (record { own = refl; fit = subst (IsFit u a l e) (sym t.tells.stands.part_is) (hart, fit); pays = subst (λ d. PaysFor a (books l) d e) (sym none) (quiet_only a walk second answer) });
        holds = record {
          settles = record {
            tells = record {
              tells = tells_did o (view q) u a l e t.tells.stands refl (places_did l e t.tells.none_drawn) (ap (λ d. unstored_did d (did_of e).bytes (unstored l)) none ∙ t.tells.none_left);
              fills = t.fills;
              goes = t.goes;
            };
            settled = exec_paid others o c need walk second (only answer) u a l wants t.tells.stands.part_is awaits;
          };
          counts = counted_did a l e refl refl;
        };
      }

  -- the step on the word of an address
  abbrev pub step_at : Shown → (op : WordOp) → (pa arg answer : ℕ) → Step
  step_at m op pa arg answer = step_of m.own.actor (ram_word pa) op arg answer

  -- a step on RAM marks nothing
  pub awaits_stepped : (pages : List ℕ) (u : Setup) (a : ℕ) (l : Log) (m q : Shown) (op : WordOp) (pa arg answer : ℕ) → HasStepped op pa arg answer m q → AwaitsBut others pages u a l → AwaitsBut others pages u a (made (step_at m op pa arg answer) ∷ l)
  awaits_stepped pages u a l m q op pa arg answer x k = awaits_step others pages u a l (step_at m op pa arg answer) (ap is_other x.name) k

  -- behind a load of RAM
  pub record Loaded (o : Own) (q : Shown) (b : Book) (r : Regime) (u : Setup) (a : ℕ) (l : Log) (s : Step) : Type 0 where
    pub grows : Grows u a l (made s ∷ l)
    pub tells : Tells o q b r u a (made s ∷ l)
    pub clear : owed (made s ∷ l) ≡ nothing

  abbrev pub load_of : Shown → (pa word : ℕ) → Step
  load_of m pa word = step_of m.own.actor (ram_word pa) Load 0 word

  pub loaded_in : (o : Own) (m q : Shown) (b : Book) (r : Regime) (pa word : ℕ) (u : Setup) (a : ℕ) (l : Log) → Tells o m b r u a l → HasStepped Load pa 0 word m q → Loaded o q b r u a l (load_of m pa word)
  loaded_in o m q b r pa word u a l t x =
      let s = load_of m pa word in
      let calm : IsCalm (name_of (ram_word pa)) Load word = subst (λ v. IsCalm v Load word) (sym x.name) tt in
      let plain : (n : ℕ) → IsPlain n (name_of (ram_word pa)) Load = λ n. subst (λ v. IsPlain n v Load) (sym x.name) tt in
      let inner : IsInner (name_of (ram_word pa)) = subst IsInner (sym x.name) tt in
      let quiet : QuietBy IsInner 1 (view m) (view q) = record { added = s ∷ []; few = omega arith; grown = ap view x.step; calm = (calm, plain m.own.actor, tt); inner = (inner, tt) } in record {
        grows = quietly_grows u a (s ∷ []) l (calm, plain a, tt) t.tells.clear t.tells.none_drawn;
        tells = record {
          tells = quietly_tells IsInner 1 o (view m) (view q) u a l quiet t.tells;
          fills = t.fills;
          goes = fills_stay m q b r (flushes_in a l) t.fills (s ∷ []) (ap (λ (y : Shown). y.own.steps) x.step) (same_goes 1 IsOfRam m q ram_off (goes_stepped Load pa 0 word m q x)) t.goes;
        };
        clear = calm_owes a (owed l) (unstored l) (name_of (ram_word pa)) Load (ram_word pa) 0 word calm (plain a);
      }

  load_no_store : Load ≢ Store
  load_no_store e = cc

  -- the word of the last load held what it answered
  pub held_here : (u : Setup) (a : ℕ) (l : Log) (m q : Shown) (pa word : ℕ) (w : Surroundings) → HasStepped Load pa 0 word m q → MayBe u a (made (load_of m pa word) ∷ l) w → w.memory (ram_word pa) ≡ word
  held_here u a l m q pa word w x may = may.here.0 (subst IsShared (sym x.name) tt) load_no_store

  -- behind an exchange that found another value
  pub lost_in : (o : Own) (m q : Shown) (b : Book) (r : Regime) (pa seen new found : ℕ) (u : Setup) (a : ℕ) (l : Log) → Tells o m b r u a l → seen ≢ found → HasStepped (Exchange seen) pa new found m q → Loaded o q b r u a l (step_at m (Exchange seen) pa new found)
  lost_in o m q b r pa seen new found u a l t other x =
      let s = step_at m (Exchange seen) pa new found in
      let calm : IsCalm (name_of (ram_word pa)) (Exchange seen) found = subst (λ v. IsCalm v (Exchange seen) found) (sym x.name) other in
      let plain : (n : ℕ) → IsPlain n (name_of (ram_word pa)) (Exchange seen) = λ n. subst (λ v. IsPlain n v (Exchange seen)) (sym x.name) tt in
      let inner : IsInner (name_of (ram_word pa)) = subst IsInner (sym x.name) tt in
      let quiet : QuietBy IsInner 1 (view m) (view q) = record { added = s ∷ []; few = omega arith; grown = ap view x.step; calm = (calm, plain m.own.actor, tt); inner = (inner, tt) } in record {
        grows = quietly_grows u a (s ∷ []) l (calm, plain a, tt) t.tells.clear t.tells.none_drawn;
        tells = record {
          tells = quietly_tells IsInner 1 o (view m) (view q) u a l quiet t.tells;
          fills = t.fills;
          goes = fills_stay m q b r (flushes_in a l) t.fills (s ∷ []) (ap (λ (y : Shown). y.own.steps) x.step) (same_goes 1 IsOfRam m q ram_off (goes_stepped (Exchange seen) pa new found m q x)) t.goes;
        };
        clear = calm_owes a (owed l) (unstored l) (name_of (ram_word pa)) (Exchange seen) (ram_word pa) new found calm (plain a);
      }

  exchange_no_store : (seen : ℕ) → Exchange seen ≢ Store
  exchange_no_store seen e = cc

  pub exchange_held : (u : Setup) (a : ℕ) (l : Log) (m q : Shown) (pa seen new found : ℕ) (w : Surroundings) → HasStepped (Exchange seen) pa new found m q → MayBe u a (made (step_at m (Exchange seen) pa new found) ∷ l) w → w.memory (ram_word pa) ≡ found
  exchange_held u a l m q pa seen new found w x may = may.here.0 (subst IsShared (sym x.name) tt) (exchange_no_store seen)
