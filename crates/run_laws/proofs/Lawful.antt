-- Each event is lawful where its actor's record shows it fit.
use Rattle.std.proofs.Common.{◌≡◌, ◌≢◌, ℕ, suc, ◌<◌, ◌+◌, ◌/◌, ◌%◌, ◌^◌, Bool, true, false, List, [], ◌∷◌, ◌++◌, Option, Some, None, refl, sym, ap, subst, ◌∙◌, inl, inr, arith, ne_eqb, length}
use Rattle.std.specs.Prelude.{◌==◌, ◌&&◌, IsTrue, IsSome}
use Rattle.std.proofs.lemmas.Bool.{cases_eq}
use Rattle.std.specs.List.{AllByRecursion, list_all}
use Rattle.rv64_priv.specs.Csr.{regime}
use Rattle.rv64_priv.specs.Walk.{Walked, Leaf, PageFault, AccessFault}
use Rattle.rv64_priv.specs.Flush.{Flush, Full, Pages}
use Rattle.rv64_priv.specs.declared.state.Kind.{Kind}
use Rattle.rv64_exec.specs.Code.{Code}
use Rattle.step_laws.specs.declared.steps.Step.{Step}
use Rattle.step_laws.specs.declared.steps.WordOp.TheVariants.{Load}
use Rattle.step_laws.specs.Words.{ipi_word, ram_word}
use Rattle.step_laws.specs.Map.{Ipi, Hsm, name_of}
use Rattle.step_laws.specs.Words.{loader, monitor}
use Rattle.step_laws.specs.Histories.{IsHistory}
use Rattle.step_laws.proofs.Named.{name_number}
use Rattle.machine_model.specs.declared.reason.Reason.{Reason}
use Rattle.machine_model.specs.declared.mode.Mode.{Mode}
use Rattle.machine_model.specs.declared.mode.Mode.TheVariants.{Started, Halted, Pending}
use Rattle.machine_model.specs.Past.{HasSince}
use Rattle.machine_model.specs.Event.{Event, Outcome, Fetch, Exec, GiveUp, Interrupt, Flushes, Start as Begin, Stop, Await, SnapBegin, SnapEnd, Dump, actor_of}
use Rattle.machine_model.specs.State.{Setup, Hart, nth, hart, is_halted, memory, is_started, all_halted}
use Rattle.machine_model.specs.Own.{Own, own}
use Rattle.machine_model.specs.Access.{second_va}
use Rattle.machine_model.specs.Walks.{Wanted, need, need_held, access_of}
use Rattle.machine_model.specs.Perform.{surroundings, perform}
use Rattle.machine_model.specs.Lawful.{IsCode, is_pending}
use Rattle.machine_model.specs.Run.{state_of, is_of, starts_hart, counts, fetches, flushes, leaves, is_snap_begin, last_of, passes, is_due, renews}
use Rattle.machine_model.specs.Lawful.{IsAllowed, AllowedFor, WalksMade, Flushing, flushing, Flushed, FlushesDone, IsFetch, IsExec, IsGiveUp, IsInterrupt, IsStart, IsStop, IsLawful}
use Rattle.machine_model.proofs.Uniform.{run_length, has_more}
use Rattle.run_laws.proofs.Asked.{fence_law}
use Rattle.run_laws.proofs.Stepping.{stop_law}
use Rattle.run_laws.proofs.Placed.{Placed, placed, steps, run_of, mine, By}
use Rattle.walk_laws.specs.WalkLoads.{found}
use Rattle.run_laws.proofs.Shown.{IsShown, ShownFor, ShownMade}
use Rattle.walk_laws.specs.WalkLoads.{reads_of}
use Rattle.run_laws.proofs.Kept.{part_at}
use Rattle.turn_pieces.specs.Folds.{script_of, was_last}
use Rattle.run_laws.proofs.Accounts.{AreQuiet}
use Rattle.turn_pieces.specs.Shared.{IsShared, mode_named}
use Rattle.run_laws.proofs.Fits.{runs_first, Sees, AskedFor, FencesShown, FitsFetch, FitsExec, FitsGiveUp, FitsInterrupt, FitsStart, FitsStop, Fits}
use Rattle.turn_pieces.specs.Right.{FetchedAt}
use Rattle.run_laws.proofs.Beginning.{IsBegun, history}
use Rattle.run_laws.proofs.States.{harts_there, gift, modes_quiet}
use Rattle.run_laws.proofs.Modes.{mode_answered, modes_of, actor_of_step}
use Rattle.run_laws.proofs.Gifts.{quiet_starts, gifts_none, gift_at, value_of}
use Rattle.run_laws.proofs.Waits.{waiting_of, two_of, passes_none}
use Rattle.run_laws.proofs.Output.{follow_now, room_of, await_of}
use Rattle.run_laws.proofs.Weave.{mine_here, behind}
use Rattle.run_laws.proofs.Pieces.{Told}
use Rattle.run_laws.proofs.Shared.{quiet_entry}
use Rattle.run_laws.proofs.Agree.{history_tail, own_history, mem, mem_quiet}
use Rattle.run_laws.proofs.Own.{owned, part_of_run, last_of_run, script_of_run, script_is}
use Rattle.run_laws.proofs.Walks.{shared_reads, ram_shared, chain_allowed}
use Rattle.run_laws.proofs.Stands.{stands, not_of, not_renews, answered_now, has_since_mine}
use Rattle.run_laws.proofs.Sees.{held_here, held_of, mem_small}

started_of : (m : Mode) → is_started m ≡ true → m ≡ Started
started_of Started e = refl
started_of Halted e = absurd (cc)
started_of Pending e = absurd (cc)

-- all harts are stopped where each is
all_of : (hs : List Hart) → ((k : ℕ) → k < length hs → (nth hs k).mode ≡ Halted) → list_all (λ t. is_halted t.mode) hs ≡ true
all_of [] f = refl
all_of (t ∷ hs) f = (λ i. is_halted (f 0 (omega arith) i) && list_all (λ t. is_halted t.mode) hs) ∙ all_of hs (λ k lt. f (suc k) (omega (arith, lt)))

module _ (u : Setup) (boot : List Step) (runs : ℕ → Bool) (begun : IsBegun u boot) (ran : (k : ℕ) → k < u.layout.harts → runs k ≡ runs_first k) where
  module _ (t : Placed) (ts : List Placed) (h : IsHistory u.layout runs (history boot (t ∷ ts))) (d : Told u (t ∷ ts)) (ne : t.step.actor ≢ loader) (es : List Event) (q : AreQuiet es) (b : By t.step.actor es) where
    abbrev c : ℕ
    c = t.step.actor

    abbrev p : List Placed
    p = placed t.step es ∷ mine t.step.actor ts

    abbrev run : List Event
    run = es ++ run_of ts

    tail : IsHistory u.layout runs (history boot ts)
    tail = history_tail u runs t.step (history boot ts) h

    there : c < u.layout.harts → c < length (state_of u run).harts
    there lt = subst (λ n. c < n) (sym (run_length u run ∙ harts_there u begun.limits.some_hart)) lt

    part_here : c < u.layout.harts → part_at u c p ≡ own (hart (state_of u run) c)
    part_here lt = sym (part_of_run u c (placed t.step es ∷ ts) (b, owned u ts d.1) (subst (λ n. c < n) (sym (harts_there u begun.limits.some_hart)) lt)
        ∙ ap (part_at u c) (mine_here (placed t.step es) ts))

    last_here : last_of c (run_of p) ≡ last_of c run
    last_here = sym (ap (λ r. last_of c (run_of r)) (mine_here (placed t.step es) ts)) ∙ last_of_run c (placed t.step es ∷ ts) (b, owned u ts d.1)

    due_here : c < u.layout.harts → is_due u.limit (run_of p) c (part_at u c p).count ≡ is_due u.limit run c (hart (state_of u run) c).count
    due_here lt = λ i. passes counts (last_here i) && ((part_here lt i).count == u.limit)

    line_here : c ≡ monitor → script_of u.script (run_of p) ≡ (state_of u run).script
    line_here e = sym (ap (λ r. script_of u.script (run_of r)) (mine_here (placed t.step es) ts))
        ∙ (subst (λ m. script_of u.script (run_of (mine m (placed t.step es ∷ ts))) ≡ script_of u.script run) (sym e) (script_of_run u.script (placed t.step es ∷ ts) (b, owned u ts d.1))
        ∙ sym (script_is u run))

    mem_here : (x : ℕ) → memory u (state_of u run) x ≡ mem u ts x
    mem_here x = mem_quiet u es (run_of ts) x (quiet_entry es q)

    sees : Sees u c t.step p (surroundings u (state_of u run))
    sees = record {
      layout = refl;
      words = λ x. subst (λ y. y < 2 ^ 64) (sym (mem_here x)) (mem_small u boot runs begun ts tail d.1 x);
      here = λ s o. mem_here t.step.word ∙ answered_now u boot runs begun t ts h d s o;
      section = λ i x v s k. mem_here x ∙ (held_here u boot runs begun t ts h d ne (held_of u boot runs begun ts tail d.1) es (quiet_entry es q) i.0 x v s k).1;
      follow = follow_now u boot runs begun t ts h d es q;
      room = λ i k. room_of u boot runs begun t ts h d ne es q i k;
      modes = λ k lt n o. mode_answered u boot runs begun ran t ts h d es q k lt n o;
      started = λ lt e. started_of (hart (state_of u run) c).mode (ap (λ (o : Own). o.runs) (sym (part_here lt)) ∙ e);
    }

    allowed : (kind : Kind) (va : ℕ) (end : Walked) → IsShown u.layout.pages c (hart (state_of u run) c).arch kind va end p → IsAllowed u run c kind va end
    allowed kind va end k = chain_allowed u run c kind va k.finds end k.is_end
        (stands u boot runs begun t ts h d es (renews c va end) (λ e o. not_renews c va end e o) (reads_of u.layout.pages (regime (hart (state_of u run) c).arch) va k.finds)
        (shared_reads u.layout.pages (regime (hart (state_of u run) c).arch) va k.finds) k.stood)

    allowed_for : (w : Option Wanted) (walk second : Walked) → ShownFor u.layout.pages c (hart (state_of u run) c).arch w walk second p → AllowedFor u run c walk second w
    allowed_for None walk second k = tt
    allowed_for (Some w) walk second k = record {
      first_page = allowed w.kind w.va walk k.first_page;
      second_page = λ x y. allowed w.kind (second_va w.va) second (k.second_page x y);
    }

    walks_made : (w : Option Wanted) (walks : List Walked) → ShownMade u.layout.pages c (hart (state_of u run) c).arch w walks p → WalksMade u run c w walks
    walks_made w [] k = tt
    walks_made (Some w) (x ∷ []) k = allowed w.kind w.va x k
    walks_made (Some w) (x ∷ y ∷ []) k = (allowed w.kind w.va x k.0, k.1, k.2, allowed w.kind (second_va w.va) y k.3)
    walks_made (Some w) (x ∷ y ∷ z ∷ zs) k = absurd k
    walks_made None (x ∷ xs) k = absurd k

    answered_here : (x : ℕ) → IsShared (name_of x) → t.step.word ≡ x → t.step.op ≡ Load → memory u (state_of u run) x ≡ t.step.answer
    answered_here x s w o = mem_here x ∙ (ap (mem u ts) (sym w) ∙ answered_now u boot runs begun t ts h d (subst (λ y. IsShared (name_of y)) (sym w) s) (λ k. cc (o, k)))

    code_of : (va : ℕ) (walk : Walked) (code : Code) → FetchedAt t.step va walk code → IsCode (memory u (state_of u run)) va walk code
    code_of va (Leaf pte page level) code k = (
      k.2 ∙ ap (λ x. x / 256 ^ ((page + va % 4096) % 8) % 2 ^ 32) (sym (answered_here (ram_word (page + va % 4096)) (ram_shared (page + va % 4096)) k.0 k.1)),
      k.3,
    )
    code_of va PageFault code k = k
    code_of va AccessFault code k = k

    ipi_shared : IsShared (name_of ipi_word)
    ipi_shared = subst IsShared (sym (name_number Ipi tt)) tt

    fetch : c < u.layout.harts → (walk : Walked) (code : Code) → FitsFetch u c t.step p walk code → IsFetch u run (state_of u run) c walk code
    fetch lt walk code f = record {
      there = there lt;
      started = started_of (hart (state_of u run) c).mode (sym (ap (λ o. o.runs) (part_here lt)) ∙ f.runs);
      holds_none = sym (ap (λ o. o.held) (part_here lt)) ∙ f.holds_none;
      not_due = sym (due_here lt) ∙ f.not_due;
      uninterrupted = let k = stands u boot runs begun t ts h d es (is_of c) (not_of c) (found ipi_word f.ipi ∷ []) (ipi_shared, tt) f.loaded in record {
        moment = k.0;
        past = k.1;
        quiet = ap (λ x. is_pending (hart (state_of u run) c).arch c x) k.2 ∙ subst (λ o. is_pending o.arch c f.ipi ≡ false) (part_here lt) f.quiet;
      };
      allowed = allowed Kind.Fetch (hart (state_of u run) c).arch.pc walk (subst (λ o. IsShown u.layout.pages c o.arch Kind.Fetch o.arch.pc walk p) (part_here lt) f.shown);
      decoded = code_of (hart (state_of u run) c).arch.pc walk code (subst (λ o. FetchedAt t.step o.arch.pc walk code) (part_here lt) f.fetched);
    }

    own_since : (stop test : Event → Bool) → ((e : Event) → actor_of e ≢ c → stop e ≡ false) → HasSince stop test (run_of p) → HasSince stop test run
    own_since stop test f k = has_since_mine c stop test f (placed t.step es ∷ ts) (b, owned u ts d.1) (subst (λ r. HasSince stop test (run_of r)) (sym (mine_here (placed t.step es) ts)) k)

    not_fetches : (e : Event) → actor_of e ≢ c → fetches c e ≡ false
    not_fetches (Fetch g walk code) k = ne_eqb g c k
    not_fetches e k = refl

    own_flushed : (what : Flush) → Flushed (run_of p) c c what → Flushed run c c what
    own_flushed Full k = own_since (fetches c) (flushes c Full) not_fetches k
    own_flushed (Pages page count) k = λ x le lt. own_since (fetches c) (flushes c (Pages x 1)) not_fetches (k x le lt)

    fences_all : (what : Flush) (hs : List ℕ) → AllByRecursion (λ g. (g ≡ c → Flushed (run_of p) c c what) × (g ≢ c → AskedFor c g what p)) hs → AllByRecursion (λ g. Flushed run c g what) hs
    fences_all what [] k = tt
    fences_all what (g ∷ hs) k = (
      elim (cases_eq g c) [ inl e ↦ subst (λ x. Flushed run c x what) (sym e) (own_flushed what (k.0.0 e)) | inr away ↦ (fence_law u boot runs begun).fences t ts h d ne es q g what away (k.0.1 away) ],
      fences_all what hs k.1,
    )

    fences_done : (o : Option Flushing) → FencesShown c p o → FlushesDone run c o
    fences_done None k = tt
    fences_done (Some f) k = fences_all f.what f.harts k

    exec : c < u.layout.harts → (walk second : Walked) (did : Outcome) → FitsExec u c t.step p walk second did → IsExec u run (state_of u run) c walk second did
    exec lt walk second did f = record {
      there = there lt;
      holds = subst (λ o. IsSome o.held) (part_here lt) f.holds;
      allowed = allowed_for (access_of (need (state_of u run) c)) walk second
          (subst (λ o. ShownFor u.layout.pages c o.arch (access_of (need_held o.arch o.held)) walk second p) (part_here lt) f.shown);
      flushed = fences_done (flushing (surroundings u (state_of u run)) c (hart (state_of u run) c).arch (need (state_of u run) c))
          (subst (λ o. FencesShown c p (flushing (surroundings u (state_of u run)) c o.arch (need_held o.arch o.held))) (part_here lt) (f.flushed (surroundings u (state_of u run)) sees));
      right = subst (λ o. did ≡ perform (surroundings u (state_of u run)) c o.arch walk second (need_held o.arch o.held)) (part_here lt) (f.right (surroundings u (state_of u run)) sees);
    }

    give_up : c < u.layout.harts → (walks : List Walked) → FitsGiveUp u c p walks → IsGiveUp u run (state_of u run) c walks
    give_up lt walks f = record {
      there = there lt;
      holds = subst (λ o. IsSome o.held) (part_here lt) f.holds;
      made = walks_made (access_of (need (state_of u run) c)) walks
          (subst (λ o. ShownMade u.layout.pages c o.arch (access_of (need_held o.arch o.held)) walks p) (part_here lt) f.shown);
    }

    interrupt : c < u.layout.harts → FitsInterrupt u c t.step p → IsInterrupt u run (state_of u run) c
    interrupt lt f = record {
      there = there lt;
      started = started_of (hart (state_of u run) c).mode (sym (ap (λ o. o.runs) (part_here lt)) ∙ f.runs);
      holds_none = sym (ap (λ o. o.held) (part_here lt)) ∙ f.holds_none;
      not_due = sym (due_here lt) ∙ f.not_due;
      pending = subst (λ x. IsTrue (is_pending (hart (state_of u run) c).arch c x)) (sym (answered_here ipi_word ipi_shared f.word f.op))
          (subst (λ o. IsTrue (is_pending o.arch c t.step.answer)) (part_here lt) f.pending);
    }

    start : c < u.layout.harts → (at opaque : ℕ) → FitsStart u c t.step p at opaque → IsStart u run (state_of u run) c at opaque
    start lt at opaque f =
        let wait = waiting_of u boot runs begun ran begun.none_pending ts tail d.1 c lt ne in
        let gift_is : gift (hart (state_of u run) c) ≡ gift_at u ts c = gifts_none u es (run_of ts) c (subst (λ n. c < n) (sym (harts_there u begun.limits.some_hart)) lt) (quiet_starts es q) in
        let two : value_of boot ts (Hsm c) ≡ 2 = two_of u boot runs begun ran begun.none_pending ts tail d.1 c lt ne (wait.at at f.at_is).0 in
        let full = wait.flushed f.flushed in record {
          there = there lt;
          pending = modes_quiet u es (run_of ts) c (subst (λ n. c < n) (sym (harts_there u begun.limits.some_hart)) lt) q ∙ (modes_of u boot runs begun ran ts tail d.1 c lt ∙ ap mode_named two);
          not_due = sym (due_here lt) ∙ f.not_due;
          flushed = has_more (starts_hart c) (flushes c Full) es (run_of ts) (passes_none c es (quiet_starts es q)) full.1;
          at_is = (wait.at at f.at_is).1 ∙ ap (λ x. x.at) (sym gift_is);
          opaque_is = (wait.opaque opaque f.opaque_is).1 ∙ ap (λ x. x.opaque) (sym gift_is);
        }

    halted : was_last c (steps (mine c ts)) ≡ true → IsTrue (all_halted (state_of u run))
    halted e = all_of (state_of u run).harts (λ k lt. let small = subst (λ n. k < n) (run_length u run ∙ harts_there u begun.limits.some_hart) lt in
        modes_quiet u es (run_of ts) k (subst (λ n. k < n) (sym (harts_there u begun.limits.some_hart)) small) q
        ∙ (modes_of u boot runs begun ran ts tail d.1 k small
        ∙ ap mode_named (stop_law.lasts u.layout runs (history boot ts) c k begun.limits.harts tail (behind u boot runs begun ran ts d.1) (actor_of_step u boot runs begun ran t.step (history boot ts) h ne) small
        (ap (was_last c) (own_history boot c ts (begun.alone c ne)) ∙ e))))

    stop : (reason : Reason) → FitsStop u c p reason → IsStop u run (state_of u run) c reason
    stop (Reason.Limit g) f = (f.0, sym (due_here f.1) ∙ f.2)
    stop Reason.AllStopped f = (subst (λ o. IsTrue (passes leaves o)) last_here f.0, halted f.1)
    stop Reason.Stopped f = (f.0, (f.1.0, sym (line_here f.0) ∙ f.1.1))
    stop Reason.Pass f = f
    stop (Reason.Fail code) f = f
    stop Reason.OutFull f = f

    pub lawful : (e : Event) → actor_of e ≡ c → Fits u c t.step p e → IsLawful u run e
    lawful (Fetch g walk code) a f = subst (λ x. IsFetch u run (state_of u run) x walk code) (sym a) (fetch f.0 walk code f.1)
    lawful (Exec g walk second did) a f = subst (λ x. IsExec u run (state_of u run) x walk second did) (sym a) (exec f.0 walk second did f.1)
    lawful (GiveUp g walks) a f = subst (λ x. IsGiveUp u run (state_of u run) x walks) (sym a) (give_up f.0 walks f.1)
    lawful (Interrupt g) a f = subst (λ x. IsInterrupt u run (state_of u run) x) (sym a) (interrupt f.0 f.1)
    lawful (Flushes g what) a f = subst (λ x. (x < length (state_of u run).harts) × (is_due u.limit run x (hart (state_of u run) x).count ≡ false)) (sym a) (there f.0, sym (due_here f.0) ∙ f.1)
    lawful (Begin g at opaque) a f = subst (λ x. IsStart u run (state_of u run) x at opaque) (sym a) (start f.0 at opaque f.1)
    lawful (Stop by reason) a f = subst (λ x. IsStop u run (state_of u run) x reason) (sym a) (stop reason f)
    lawful (Await count) a f = ((f.1.line.0, sym (line_here f.0) ∙ f.1.line.1), await_of u boot runs begun t ts h d ne es q count f.1)
    lawful SnapBegin a f = ((f.1.0, sym (line_here f.0) ∙ f.1.1), ap (passes is_snap_begin) (ap (λ x. last_of x run) (sym f.0) ∙ sym last_here) ∙ f.2)
    lawful (SnapEnd pages) a f = ((f.1.0, sym (line_here f.0) ∙ f.1.1), subst (λ o. IsTrue (passes is_snap_begin o)) (last_here ∙ ap (λ x. last_of x run) f.0) f.2)
    lawful (Dump at bytes) a f = ((f.1.0, sym (line_here f.0) ∙ f.1.1), f.2 (surroundings u (state_of u run)) sees)
