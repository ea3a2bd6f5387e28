-- Steps of a call in a log: one that needs no event, and one at which its execution stands.
use Rattle.std.proofs.Common.{◌≡◌, ℕ, ◌<◌, Bool, true, false, List, [], ◌∷◌, None, refl, sym, ap, subst, ◌∙◌, arith}
use Rattle.std.specs.Prelude.{if◌then◌else◌}
use Rattle.rv64_priv.specs.State.{Arch}
use Rattle.rv64_priv.specs.declared.state.Regime.{Regime}
use Rattle.rv64_priv.specs.Walk.{Walked, PageFault}
use Rattle.rv64_exec.specs.declared.needs.Need.{Need}
use Rattle.step_laws.specs.declared.words.Layout.{Layout}
use Rattle.step_laws.specs.declared.steps.Step.{Step}
use Rattle.step_laws.specs.declared.steps.WordOp.{WordOp}
use Rattle.step_laws.specs.Map.{Word, Stop, Live, Cons, Ipi, Hsm, Start, Opaque, Console, Ram, name_of}
use Rattle.machine_model.specs.Event.{Exec, Outcome, did_of}
use Rattle.machine_model.specs.Lawful.{flushing, flushing_of_call}
use Rattle.machine_model.specs.Memory.{Memory}
use Rattle.machine_model.specs.Own.{Own, own_executed}
use Rattle.machine_model.specs.Perform.{Surroundings, call_outcome, perform}
use Rattle.machine_model.specs.Sbi.{Begins, Modes, already_available, fails, sbi_of}
use Rattle.machine_model.specs.State.{Setup, is_halted}
use Rattle.machine_model.specs.Walks.{access_of}
use Rattle.guest_ram.specs.Plays.{step_of}
use Rattle.guest_ram.specs.Ports.{Shown, Made, layout_of}
use Rattle.guest_ram.proofs.Moves.{goes_made}
use Rattle.tlb_entry.specs.declared.books.Book.{Book}
use Rattle.tlb_table.proofs.Aside.{IsOffTable}
use Rattle.kept_fills.proofs.Staying.{fills_stay}
use Rattle.tlb_fill.proofs.Marking.{same_goes}
use Rattle.turn_pieces.specs.Doing.{IsCalm, IsQuiet}
use Rattle.turn_pieces.specs.Log.{made, did, Log}
use Rattle.turn_pieces.specs.Kept.{places}
use Rattle.turn_pieces.specs.KeptWalks.{flushes_in}
use Rattle.turn_pieces.specs.Owed.{Owed, nothing, owed, unstored, unstored_did, books, MayMake, PaysFor}
use Rattle.turn_pieces.specs.Right.{AreFenced, IsExec, IsFit, MayBe, SeenFor}
use Rattle.turn_pieces.specs.Grows.{Grows, IsClear, makes, does}
use Rattle.turn_pieces.specs.Writers.{Anywhere, IsPlain, QuietBy}
use Rattle.turn_pieces.proofs.Accesses.{step_stands}
use Rattle.turn_pieces.proofs.Writers.{calm_owes, places_did, quietly_grows, quietly_tells, grows_then, tells_did}
use Rattle.access_pieces.specs.Serving.{Tells, Wants, view}
use Rattle.hart_calls.specs.declared.asking.Asked.{Asked}
use Rattle.hart_calls.specs.declared.outcomes.SbiEnd.{SbiEnd}
use Rattle.hart_calls.specs.Asked.{IsAsked, call_asked}
use Rattle.hart_calls.specs.Called.{HasDone, IsOfHartCalls}
use Rattle.call_laws.specs.Found.{IsFound}
use Rattle.call_laws.specs.Did.{did_call}
use Rattle.call_laws.proofs.Calls.{calls_are}

pub calls_off : (w : Word) → IsOfHartCalls w → IsOffTable w
calls_off Stop t = tt
calls_off Live t = tt
calls_off Cons t = tt
calls_off Ipi t = tt
calls_off (Hsm h) t = tt
calls_off (Start h) t = tt
calls_off (Opaque h) t = tt
calls_off (Console i) t = tt
calls_off (Ram i) t = tt
calls_off w t = absurd t

pub step_made : (x y : Shown) {w : Word} {op : WordOp} {arg answer : ℕ} → Made x y w op arg answer → Step
step_made x y {w} {op} {arg} {answer} m = step_of x.own.actor m.word op arg answer

module _ (o : Own) (b : Book) (r : Regime) (u : Setup) (a : ℕ) where
  -- a log that tells of this port, and has grown from another
  pub record Behind (y : Shown) (l k : Log) : Type 0 where
    pub grows : Grows u a l k
    pub tells : Tells o y b r u a k

  -- by a step that needs no event
  pub calm : (x y : Shown) (w : Word) (op : WordOp) (arg answer : ℕ) (m : Made x y w op arg answer) → IsOfHartCalls w → IsCalm w op answer → ((n : ℕ) → IsPlain n w op)
      → (l k : Log) → Behind x l k → Behind y l (made (step_of x.own.actor m.word op arg answer) ∷ k)
  calm x y w op arg answer m on calm_is plain_is l k t =
      let s = step_of x.own.actor m.word op arg answer in
      let still : IsCalm (name_of m.word) op answer = subst (λ v. IsCalm v op answer) (sym m.name) calm_is in
      let plain : (n : ℕ) → IsPlain n (name_of m.word) op = λ n. subst (λ v. IsPlain n v op) (sym m.name) (plain_is n) in
      let quiet : QuietBy Anywhere 1 (view x) (view y) = record { added = s ∷ []; few = omega arith; grown = ap view m.step; calm = (still, plain x.own.actor, tt); inner = (tt, tt) } in record {
        grows = grows_then u a l k t.grows (quietly_grows u a (s ∷ []) k (still, plain a, tt) t.tells.tells.clear t.tells.tells.none_drawn);
        tells = record {
          tells = quietly_tells Anywhere 1 o (view x) (view y) u a k quiet t.tells.tells;
          fills = t.tells.fills;
          goes = fills_stay x y b r (flushes_in a k) t.tells.fills (s ∷ []) (ap (λ (z : Shown). z.own.steps) m.step) (same_goes 1 IsOfHartCalls x y calls_off (goes_made IsOfHartCalls x y w op arg answer m on)) t.tells.goes;
        };
      }

  pub calm_idle : (x y : Shown) (w : Word) (op : WordOp) (arg answer : ℕ) (m : Made x y w op arg answer) → IsCalm w op answer → ((n : ℕ) → IsPlain n w op) → (k : Log) → owed (made (step_of x.own.actor m.word op arg answer) ∷ k) ≡ nothing
  calm_idle x y w op arg answer m calm_is plain_is k =
      calm_owes a (owed k) (unstored k) (name_of m.word) op m.word arg answer (subst (λ v. IsCalm v op answer) (sym m.name) calm_is) (subst (λ v. IsPlain a v op) (sym m.name) (plain_is a))

-- the execution of a call at a log
pub exec_fit : (o : Own) (c : Arch) (out : Outcome) (u : Setup) (a : ℕ) (k : Log) → Wants o c Need.Sbi → ((w : Surroundings) → MayBe u a k w → flushing w a c Need.Sbi ≡ None) → ((w : Surroundings) → MayBe u a k w → out ≡ perform w a c PageFault PageFault Need.Sbi)
    → IsExec u a k PageFault PageFault out o
exec_fit o c out u a k wants calm right = record {
  holds = wants.holds;
  shown = subst (λ (n : Need). SeenFor u.layout.pages a o.arch (access_of n) PageFault PageFault k) (sym wants.need_is) tt;
  flushed = λ w m. subst (AreFenced a k) (sym ((λ i. flushing w a (wants.arch_is i) (wants.need_is i)) ∙ calm w m)) tt;
  right = λ w m. right w m ∙ sym (λ i. perform w a (wants.arch_is i) PageFault PageFault (wants.need_is i));
}

-- it stands behind a step that owes nothing
pub rested : (o : Own) (b : Book) (r : Regime) (out : Outcome) (u : Setup) (a : ℕ) (y : Shown) (l k : Log) → Behind o b r u a y l k → owed k ≡ nothing → a < u.layout.harts → IsExec u a k PageFault PageFault out o → IsQuiet (Exec a PageFault PageFault out)
    → Behind (own_executed out o) b r u a y l (did (Exec a PageFault PageFault out) ∷ k)
rested o b r out u a y l k t idle hart fit quiet =
    let e = Exec a PageFault PageFault out in record {
      grows = does e t.grows (record { own = refl; fit = subst (IsFit u a k e) (sym t.tells.tells.stands.part_is) (hart, fit); pays = subst (λ d. PaysFor a (books k) d e) (sym idle) quiet });
      tells = record {
        tells = tells_did o (view y) u a k e t.tells.tells.stands refl (places_did k e t.tells.tells.none_drawn) (ap (λ d. unstored_did d (did_of e).bytes (unstored k)) idle ∙ t.tells.tells.none_left);
        fills = t.tells.fills;
        goes = t.tells.goes;
      };
    }

-- a step that a log may make, and that leaves nothing open
pub plainly : (o : Own) (b : Book) (r : Regime) (u : Setup) (a : ℕ) (x y : Shown) (w : Word) (op : WordOp) (arg answer : ℕ) (m : Made x y w op arg answer) (l k : Log) → IsOfHartCalls w → Behind o b r u a x l k
    → MayMake u a k (step_of x.own.actor m.word op arg answer) → owed (made (step_of x.own.actor m.word op arg answer) ∷ k) ≡ nothing → places (made (step_of x.own.actor m.word op arg answer) ∷ k) ≡ [] → unstored (made (step_of x.own.actor m.word op arg answer) ∷ k) ≡ None
    → Behind o b r u a y l (made (step_of x.own.actor m.word op arg answer) ∷ k)
plainly o b r u a x y w op arg answer m l k on t may idle drawn left =
    let s = step_of x.own.actor m.word op arg answer in record {
      grows = makes s t.grows may;
      tells = record {
        tells = record { stands = step_stands o (view x) (view y) u a k s (ap view m.step) t.tells.tells.stands; clear = subst IsClear (sym idle) tt; none_drawn = drawn; none_left = left };
        fills = t.tells.fills;
        goes = fills_stay x y b r (flushes_in a k) t.tells.fills (s ∷ []) (ap (λ (z : Shown). z.own.steps) m.step) (same_goes 1 IsOfHartCalls x y calls_off (goes_made IsOfHartCalls x y w op arg answer m on)) t.tells.goes;
      };
    }

-- it stands at a step
pub placed : (o : Own) (b : Book) (r : Regime) (out : Outcome) (u : Setup) (a : ℕ) (x y : Shown) (w : Word) (op : WordOp) (arg answer : ℕ) (m : Made x y w op arg answer) (d : Owed) (l k : Log) → IsOfHartCalls w → Behind o b r u a x l k → a < u.layout.harts
    → MayMake u a k (step_of x.own.actor m.word op arg answer) → owed (made (step_of x.own.actor m.word op arg answer) ∷ k) ≡ d → places (made (step_of x.own.actor m.word op arg answer) ∷ k) ≡ [] → unstored (made (step_of x.own.actor m.word op arg answer) ∷ k) ≡ None
    → ((bs : List ℕ) → unstored_did d bs None ≡ None) → IsExec u a (made (step_of x.own.actor m.word op arg answer) ∷ k) PageFault PageFault out o
    → PaysFor a (books (made (step_of x.own.actor m.word op arg answer) ∷ k)) d (Exec a PageFault PageFault out)
    → Behind (own_executed out o) b r u a y l (did (Exec a PageFault PageFault out) ∷ made (step_of x.own.actor m.word op arg answer) ∷ k)
placed o b r out u a x y w op arg answer m d l k on t hart may due drawn left leaves fit pays =
    let s = step_of x.own.actor m.word op arg answer in
    let e = Exec a PageFault PageFault out in
    let st = step_stands o (view x) (view y) u a k s (ap view m.step) t.tells.tells.stands in record {
      grows = does e (makes s t.grows may) (record { own = refl; fit = subst (IsFit u a (made s ∷ k) e) (sym st.part_is) (hart, fit); pays = subst (λ z. PaysFor a (books (made s ∷ k)) z e) (sym due) pays });
      tells = record {
        tells = tells_did o (view y) u a (made s ∷ k) e st refl (places_did (made s ∷ k) e drawn) ((λ i. unstored_did (due i) (did_of e).bytes (left i)) ∙ leaves (did_of e).bytes);
        fills = t.tells.fills;
        goes = fills_stay x y b r (flushes_in a k) t.tells.fills (s ∷ []) (ap (λ (z : Shown). z.own.steps) m.step) (same_goes 1 IsOfHartCalls x y calls_off (goes_made IsOfHartCalls x y w op arg answer m on)) t.tells.goes;
      };
    }

-- the reference machine's call, where it is as the call found it
sbi_as : (w : Surroundings) (h : ℕ) (c : Arch) (walk second : Walked) → call_outcome w.memory w.room (sbi_of w.layout w.modes w.memory c) ≡ perform w h c walk second Need.Sbi
unfolding perform
sbi_as w h c walk second = refl

pub did_is : (p q : Shown) (c : Arch) (section : Bool) (asked : Asked) (end : SbiEnd) (done : HasDone p q section asked end) → IsAsked (layout_of p) c asked → (w : Surroundings) (a : ℕ) (walk second : Walked)
    → w.layout ≡ layout_of p → IsFound w p q section asked end done → did_call p q section asked end done ≡ perform w a c walk second Need.Sbi
did_is p q c section asked end done is w a walk second same found = sym (calls_are w p q c section asked end done same is found) ∙ sbi_as w a c walk second

-- which flushes nothing
halted_flush : (t at opaque : ℕ) (h : Bool) → flushing_of_call (if h then Begins t at opaque else fails already_available) ≡ None
halted_flush t at opaque true = refl
halted_flush t at opaque false = refl

-- it isn't a fence
abbrev pub IsNoFence : Asked → Type 0
IsNoFence (Asked.Fences harts span) = ⊥
IsNoFence asked = Unit {0}

asked_flush : (l : Layout) (c : Arch) (modes : Modes) (m : Memory) (asked : Asked) → IsNoFence asked → flushing_of_call (call_asked l c modes m asked) ≡ None
asked_flush l c modes m (Asked.Fences harts span) s = absurd s
asked_flush l c modes m (Asked.Starts target at opaque) s = halted_flush target at opaque (is_halted (modes target))
asked_flush l c modes m asked s = refl

pub flush_as : (w : Surroundings) (h : ℕ) (c : Arch) → flushing w h c Need.Sbi ≡ flushing_of_call (sbi_of w.layout w.modes w.memory c)
unfolding flushing
flush_as w h c = refl

-- whatever the layout is said to be: only that of the port is asked for
pub no_flush : (p : Shown) (c : Arch) (asked : Asked) → IsAsked (layout_of p) c asked → IsNoFence asked → (w : Surroundings) (a : ℕ) → w.layout ≡ layout_of p → flushing w a c Need.Sbi ≡ None
no_flush p c asked is s w a same = flush_as w a c ∙ ap (λ l. flushing_of_call (sbi_of l w.modes w.memory c)) same ∙ ap flushing_of_call (sym (is.is w.modes w.memory)) ∙ asked_flush (layout_of p) c w.modes w.memory asked s
