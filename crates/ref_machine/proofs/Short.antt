-- Turns of a started hart in a row.
use Rattle.std.proofs.Common.{◌≡◌, ◌≢◌, refl, ℕ, zero, suc, ◌+◌, ◌<◌, [], ◌∷◌, length, length-set, None, true, false, ap, sym, ◌∙◌, subst, arith}
use Rattle.std.specs.Prelude.{Option, Some, if◌then◌else◌, MatchBool, replicate, slice_set, Ok}
use Rattle.std.proofs.Math.ListN.{get_or}
use Rattle.std.proofs.lemmas.Bool.{ne_eqb}
use Rattle.std.proofs.lemmas.List.{set-get_or, get_or-set_same, set-set, get_or_default}
use Rattle.rv64_decode.specs.declared.instruction.Instr.{Instr}
use Rattle.rv64_decode.specs.Encoding.{Decodes}
use Rattle.rv64_priv.specs.State.{Arch}
use Rattle.rv64_priv.specs.declared.state.Kind.{Kind}
use Rattle.rv64_exec.specs.Alone.{KeepsRest, is_alone}
use Rattle.rv64_exec.specs.declared.needs.Need.{Need}
use Rattle.rv64_exec.specs.declared.needs.Answer.{Answer}
use Rattle.rv64_exec.specs.Plan.{need_of}
use Rattle.rv64_exec.specs.Finish.{done, next, retire}
use Rattle.rv64_exec.proofs.Keeping.{alone_keeps}
use Rattle.machine_model.specs.declared.reason.Reason.{Reason}
use Rattle.machine_model.specs.declared.mode.Mode.TheVariants.{Started, Halted}
use Rattle.machine_model.specs.Access.{spot_of}
use Rattle.machine_model.specs.Change.{first_reason}
use Rattle.machine_model.specs.Lawful.{is_pending}
use Rattle.ref_machine.specs.declared.hart.HartSlot.{HartSlot}
use Rattle.ref_machine.specs.SharedState.{Shared}
use Rattle.ref_machine.specs.OneTurn.{Done, Alone, Calls, answers, done_with, after_need, effect_of_need, retired, shared_after, after_done, interrupted, walk_end, IsStep, IsFetched, IsWordDone}
use Rattle.ref_machine.specs.Decoded.{DecodesOnly}
use Rattle.ref_machine.specs.Translation.{IsWord}
use Rattle.ref_machine.proofs.Stepping.{fetched_word}
use Rattle.ref_machine.specs.Given.{Is}
use Rattle.ref_machine.specs.PlainState.{PlainState, slot}
use Rattle.ref_machine.specs.Ran.{Ran}
use Rattle.ref_machine.specs.Shows.{Turned}
use Rattle.ref_machine.specs.Slots.{new_slot}
use Rattle.ref_machine.proofs.Runs.{ran_none, ran_turn}
use Rattle.ref_machine.proofs.Turned.{turned_step}
use Rattle.rv64_priv.specs.Csr.{regime}
use Rattle.ref_machine.specs.declared.paths.Paths.{Paths}
use Rattle.ref_machine.specs.Paths.{ArePaths}
use Rattle.ref_machine.specs.Steps.{IsShort, IsAhead, IsGoingStep, AreSteps}

-- below its limit a hart's count gives no reason
counts : (h : ℕ) (t : HartSlot) (b : Shared) → b.reason ≡ None → t.count + 1 < b.limit → b ≡ shared_after h t b None
counts h t b going below =
    ap (λ r. record b { reason = r }) going
    ∙ sym (ap (λ c. record b { reason = first_reason None (if c then Some (Reason.Limit h) else None) }) (ne_eqb (t.count + 1) b.limit (λ e. omega (arith, below, e))))

pub loaded : (h : ℕ) (t : HartSlot) (b : Shared) (i : Instr) (n : Need) (rd v : ℕ) → b.reason ≡ None → t.count + 1 < b.limit
    → need_of t.arch i ≡ n → done t.arch i (Answer.Value v) ≡ retire t.arch rd v → effect_of_need h t.arch b n ≡ answers b (Answer.Value v)
    → Is (record t { arch = retire t.arch rd v; count = t.count + 1 }) b (retired h t i (effect_of_need h t.arch b (need_of t.arch i)))
loaded h t b i n rd v going below need does effect =
    let e : effect_of_need h t.arch b (need_of t.arch i) ≡ answers b (Answer.Value v) = ap (effect_of_need h t.arch b) need ∙ effect in
    subst (λ x. Is (record t { arch = retire t.arch rd v; count = t.count + 1 }) b (retired h t i x)) (sym e)
    (ap (λ a. record t { arch = a; count = t.count + 1 }) (sym does), counts h t b going below)

pub stored : (h : ℕ) (t : HartSlot) (b b' : Shared) (i : Instr) (n : Need) → b.reason ≡ None → t.count + 1 < b.limit
    → need_of t.arch i ≡ n → done t.arch i Answer.Nothing ≡ next t.arch → effect_of_need h t.arch b n ≡ done_with b' Answer.Nothing None → b' ≡ record b { ram = b'.ram }
    → Is (record t { arch = next t.arch; count = t.count + 1 }) b' (retired h t i (effect_of_need h t.arch b (need_of t.arch i)))
stored h t b b' i n going below need does effect rest =
    let e : effect_of_need h t.arch b (need_of t.arch i) ≡ done_with b' Answer.Nothing None = ap (effect_of_need h t.arch b) need ∙ effect in
    let reason : b'.reason ≡ None = ap (λ (x : Shared). x.reason) rest ∙ going in
    let limit : t.count + 1 < b'.limit = subst (λ n. t.count + 1 < n) (sym (ap (λ (x : Shared). x.limit) rest)) below in
    subst (λ x. Is (record t { arch = next t.arch; count = t.count + 1 }) b' (retired h t i x)) (sym e)
    (ap (λ a. record t { arch = a; count = t.count + 1 }) (sym does), counts h t b' reason limit)

pub computed : (h : ℕ) (t : HartSlot) (b : Shared) (i : Instr) (a : Arch) → b.reason ≡ None → t.count + 1 < b.limit
    → need_of t.arch i ≡ Need.Nothing → a ≡ done t.arch i Answer.Nothing
    → Is (record t { arch = a; count = t.count + 1 }) b (retired h t i (effect_of_need h t.arch b (need_of t.arch i)))
computed h t b i a going below need is =
    subst (λ n. Is (record t { arch = a; count = t.count + 1 }) b (retired h t i (effect_of_need h t.arch b n))) (sym need)
    (ap (λ a. record t { arch = a; count = t.count + 1 }) is, counts h t b going below)

pub short_retire : (t : HartSlot) (b : Shared) (rd v : ℕ) → IsShort t b (record t { arch = retire t.arch rd v; count = t.count + 1 }) b
short_retire t b rd v = record { arch = record { same = refl }; slot = refl; shared = refl }

pub short_store : (t : HartSlot) (b b' : Shared) → b' ≡ record b { ram = b'.ram } → IsShort t b (record t { arch = next t.arch; count = t.count + 1 }) b'
short_store t b b' rest = record { arch = record { same = refl }; slot = refl; shared = rest }

pub short_alone : (t : HartSlot) (b : Shared) (i : Instr) (a : Arch) → is_alone t.arch i ≡ true → a ≡ done t.arch i Answer.Nothing → IsShort t b (record t { arch = a; count = t.count + 1 }) b
short_alone t b i a alone is = record { arch = subst (KeepsRest t.arch) (sym is) (alone_keeps t.arch i Answer.Nothing alone); slot = refl; shared = refl }

-- STEPS IN A ROW

fetched : (h : ℕ) (t : HartSlot) (b : Shared) (d : Done) (word : ℕ) → is_pending t.arch h b.ipi ≡ false
    → IsWord b.ram (spot_of Kind.Fetch t.arch.pc (walk_end t.arch b Kind.Fetch t.arch.pc)) (Ok word) → IsWordDone h t b word d → IsStep h t b d
fetched h t b d word quiet found word_done =
    let spot = spot_of Kind.Fetch t.arch.pc (walk_end t.arch b Kind.Fetch t.arch.pc) in
    subst (λ x. MatchBool x (d ≡ interrupted t b) (IsFetched h t b d spot)) (sym quiet) (fetched_word h t b d spot word found word_done)

-- a word decodes in one way
word_is_done : (h : ℕ) (t : HartSlot) (b : Shared) (word : ℕ) (i : Instr) (d : Done) → DecodesOnly word (Some i) → d ≡ after_need h t b i (need_of t.arch i) → IsWordDone h t b word d
word_is_done h t b word i d k is = record { found = Some i; decodes = k.decodes; only = only; is_done = is }
  where
    only : (other : Option Instr) → Decodes word other → Some i ≡ other
    only None none = absurd (none i k.decodes.0 k.decodes.1)
    only (Some j) e = k.only j e.0 e.1

-- an instruction that is no call is retired
is_retired : (h : ℕ) (t : HartSlot) (b : Shared) (i : Instr) (n : Need) → n ≢ Need.Sbi → after_need h t b i n ≡ retired h t i (effect_of_need h t.arch b n)
is_retired h t b i Need.Sbi other = absurd (other refl)
is_retired h t b i Need.Nothing other = refl
is_retired h t b i (Need.Load va width sign) other = refl
is_retired h t b i (Need.Store va width value) other = refl
is_retired h t b i (Need.Amo va op wide value) other = refl
is_retired h t b i (Need.Lr va wide) other = refl
is_retired h t b i (Need.Sc va wide value) other = refl
is_retired h t b i (Need.Ipi op) other = refl
is_retired h t b i (Need.Flush what) other = refl
is_retired h t b i (Need.Trap cause tval) other = refl

is_done : (t : HartSlot) (b : Shared) (d : Done) → Is t b d → Alone t b ≡ d
is_done t b (Alone t' b') k = ap (λ x. Alone x b) k.0 ∙ ap (λ x. Alone t' x) k.1
is_done t b (Calls i) k = absurd k

pub ahead_none : (h : ℕ) (t : HartSlot) (b : Shared) → IsAhead h 0 t b t b
unfolding AreSteps
ahead_none h t b = record { steps = (refl, refl); count = omega arith; mode = refl; start = refl; layout = refl; limit = refl; reason = refl; regime = refl; quiet = refl }

steps_more : (h n : ℕ) (t : HartSlot) (b : Shared) (m : HartSlot) (c : Shared) (t' : HartSlot) (b' : Shared) → AreSteps h n t b m c → IsGoingStep h m c t' b' → AreSteps h (n + 1) t b t' b'
unfolding AreSteps
steps_more h n t b m c t' b' steps step = subst (λ k. AreSteps h k t b t' b') (let e : suc n ≡ n + 1 = omega arith in e) (m, c, steps, step)

-- interrupts are pending as before
short_quiet : (h : ℕ) (m : HartSlot) (c : Shared) (t' : HartSlot) (b' : Shared) → IsShort m c t' b' → is_pending t'.arch h b'.ipi ≡ is_pending m.arch h c.ipi
short_quiet h m c t' b' short =
    ap (λ (a : Arch). is_pending a h b'.ipi) short.arch.same
    ∙ ap (λ (x : Shared). is_pending m.arch h x.ipi) short.shared

-- one step more
pub ahead_more : (h n : ℕ) (t : HartSlot) (b : Shared) (m : HartSlot) (c : Shared) (t' : HartSlot) (b' : Shared) (word : ℕ) (i : Instr)
    → t.mode ≡ Started → b.reason ≡ None → is_pending t.arch h b.ipi ≡ false → IsAhead h n t b m c
    → IsWord c.ram (spot_of Kind.Fetch m.arch.pc (walk_end m.arch c Kind.Fetch m.arch.pc)) (Ok word) → DecodesOnly word (Some i)
    → Is t' b' (retired h m i (effect_of_need h m.arch c (need_of m.arch i))) → need_of m.arch i ≢ Need.Sbi → IsShort m c t' b'
    → IsAhead h (n + 1) t b t' b'
ahead_more h n t b m c t' b' word i started going quiet ahead found decodes does other short =
    let is : Alone t' b' ≡ after_need h m c i (need_of m.arch i) = is_done t' b' _ does ∙ sym (is_retired h m c i (need_of m.arch i) other) in
    let step : IsGoingStep h m c t' b' = record {
      going = ahead.reason ∙ going;
      started = ahead.mode ∙ started;
      step = fetched h m c (Alone t' b') word (ahead.quiet ∙ quiet) found (word_is_done h m c word i (Alone t' b') decodes is);
    } in
    let one : t'.count ≡ m.count + 1 = ap (λ (x : HartSlot). x.count) short.slot in
    let before = ahead.count in
    record {
      steps = steps_more h n t b m c t' b' ahead.steps step;
      count = omega (arith, one, before);
      mode = ap (λ (x : HartSlot). x.mode) short.slot ∙ ahead.mode;
      start = ap (λ (x : HartSlot). x.start) short.slot ∙ ahead.start;
      layout = ap (λ (x : Shared). x.layout) short.shared ∙ ahead.layout;
      limit = ap (λ (x : Shared). x.limit) short.shared ∙ ahead.limit;
      reason = ap (λ (x : Shared). x.reason) short.shared ∙ ahead.reason;
      regime = ap regime short.arch.same ∙ ahead.regime;
      quiet = short_quiet h m c t' b' short ∙ ahead.quiet;
    }

-- TURNS IN A ROW

-- behind these steps of a hart the machine has run so many turns of it
pub ran_steps : (h n : ℕ) (p : PlainState) (t : HartSlot) (b : Shared) → h < length p.slots → AreSteps h n (slot p h) p.shared t b → Ran (replicate n h) p (record { slots = slice_set p.slots h t; shared = b })
unfolding AreSteps
ran_steps h zero p t b lt steps =
    let slots : slice_set p.slots h t ≡ p.slots = ap (slice_set p.slots h) steps.0 ∙ set-get_or p.slots h (new_slot Halted 0) in
    subst (λ (q : PlainState). Ran [] p q) (sym (ap (λ s. record { slots = s; shared = b }) slots ∙ ap (λ s. record { slots = p.slots; shared = s }) steps.1)) (ran_none p)
ran_steps h (suc n) p t b lt steps =
    let m = steps.0 in
    let c = steps.1 in
    let last = steps.3 in
    let q : PlainState = record { slots = slice_set p.slots h m; shared = c } in
    let here : slot q h ≡ m = get_or-set_same p.slots h m (new_slot Halted 0) lt in
    let there : h < length q.slots = subst (λ k. h < k) (sym (length-set p.slots h m)) lt in
    let turned : Turned h q (after_done q h (Alone t b))
    = turned_step h q (Alone t b) there last.going (ap (λ (x : HartSlot). x.mode) here ∙ last.started) (subst (λ x. IsStep h x c (Alone t b)) (sym here) last.step) in
    subst (λ s. Ran (h ∷ replicate n h) p (record { slots = s; shared = b })) (set-set p.slots h m t)
    (ran_turn (replicate n h) h p q (after_done q h (Alone t b)) last.going (ran_steps h n p m c lt steps.2) turned)

-- the same, where the hart is read and written by an index, and the machine is seen through its view
pub ran_at : (h i n : ℕ) (p p' : PlainState) (s t : HartSlot) (b : Shared) → p' ≡ p → i ≡ h → i < length p'.slots → s ≡ get_or p'.slots i s → AreSteps h n s p'.shared t b
    → Ran (replicate n h) p (record { slots = slice_set p'.slots i t; shared = b })
ran_at h i n p p' s t b view at lt read steps =
    let here : s ≡ slot p' h = read ∙ get_or_default p'.slots i s (new_slot Halted 0) lt ∙ ap (λ k. slot p' k) at in
    subst (λ q. Ran (replicate n h) q (record { slots = slice_set p'.slots i t; shared = b })) view
    (subst (λ k. Ran (replicate n h) p' (record { slots = slice_set p'.slots k t; shared = b })) (sym at)
    (ran_steps h n p' t b (subst (λ k. k < length p'.slots) at lt) (subst (λ x. AreSteps h n x p'.shared t b) here steps)))

-- a short instruction keeps what walks depend on besides memory
pub paths_short : (t : HartSlot) (b : Shared) (t' : HartSlot) (b' : Shared) (p : Paths) → IsShort t b t' b' → ArePaths b.layout.pages (regime t.arch) p → ArePaths b'.layout.pages (regime t'.arch) p
paths_short t b t' b' p short paths =
    subst (λ n. ArePaths n (regime t'.arch) p) (sym (ap (λ (x : Shared). x.layout.pages) short.shared))
    (subst (λ r. ArePaths b.layout.pages r p) (sym (ap regime short.arch.same)) paths)
