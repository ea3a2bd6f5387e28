-- A fetch in its hart's log: its event, behind the code word's load or the walk that faulted.
use Rattle.std.proofs.Common.{◌≡◌, ℕ, ◌+◌, ◌*◌, ◌%◌, ◌<◌, ◌≤◌, ◌/◌, Bool, true, false, true≢false, List, [], ◌∷◌, ◌++◌, Some, refl, sym, ap, subst, ◌∙◌, arith, eq-eqb}
use Rattle.std.specs.Prelude.{◌==◌, ◌&&◌, ◌||◌, not, nat_le, nat_lt, if◌then◌else◌}
use Rattle.std.proofs.lemmas.Bool.{and_parts, eqb-true}
use Rattle.rv64_decode.specs.Encoding.{Decodes}
use Rattle.rv64_priv.specs.Csr.{regime}
use Rattle.rv64_priv.specs.Reads.{answering}
use Rattle.rv64_priv.specs.State.{Arch}
use Rattle.rv64_priv.specs.Trap.{trapped}
use Rattle.rv64_priv.specs.Walk.{Walked, Leaf, PageFault, AccessFault, is_device, is_ram, walk_of}
use Rattle.rv64_priv.specs.declared.state.Kind.{Kind}
use Rattle.rv64_priv.specs.declared.state.Regime.{Regime}
use Rattle.rv64_exec.specs.Code.{Code, no_code}
use Rattle.step_laws.specs.declared.steps.Step.{Step}
use Rattle.step_laws.specs.declared.steps.WordOp.TheVariants.{Load}
use Rattle.step_laws.specs.Words.{ipi_word, ram_word}
use Rattle.machine_model.specs.Access.{Spot, AtRam, AtDevice, Faults, spot_at, spot_of}
use Rattle.machine_model.specs.Event.{Event, Fetch, did_of}
use Rattle.machine_model.specs.Lawful.{is_pending}
use Rattle.machine_model.specs.Memory.{number_in}
use Rattle.machine_model.specs.Own.{Own, own_fetched}
use Rattle.machine_model.specs.Run.{counts, is_due, is_leaf_end, is_of, last_of, passes}
use Rattle.machine_model.specs.State.{Setup}
use Rattle.walk_laws.specs.WalkLoads.{found}
use Rattle.guest_ram.specs.Ports.{Shown}
use Rattle.tlb_entry.specs.declared.books.Book.{Book}
use Rattle.tlb_fill.specs.declared.translation.Translated.{Translated}
use Rattle.tlb_fill.specs.declared.translation.Translated.TheVariants as gives
use Rattle.tlb_lock.specs.declared.lock.Busy.{Busy}
use Rattle.tlb_fill.proofs.Entering.{good_walk}
use Rattle.guest_access.specs.Stepping.{HasStepped}
use Rattle.turn_pieces.specs.Doing.{IsQuiet}
use Rattle.turn_pieces.specs.Grows.{Grows, does}
use Rattle.turn_pieces.specs.Log.{AtLast, Log, did, events_of, made}
use Rattle.turn_pieces.specs.Owed.{Owed, books, nothing, owed, paid, pays, unstored, unstored_did, PaysFor}
use Rattle.turn_pieces.specs.Right.{FetchedAt, IsFetch, IsFit, IsSeen}
use Rattle.turn_pieces.specs.KeptWalks.{flushes_in}
use Rattle.turn_pieces.specs.Writers.{quietly}
use Rattle.turn_pieces.specs.Writers as writers
use Rattle.turn_pieces.proofs.Unmarked.{unmarked_did}
use Rattle.turn_pieces.proofs.Writers.{grows_then, places_did, seen_quietly, stood_quietly, tells_did}
use Rattle.access_pieces.specs.Serving.{AwaitsAtMost, Tells, view}
use Rattle.access_pieces.specs.Translating.{Led}
use Rattle.access_pieces.proofs.Executing.{awaits_stepped, load_of, loaded_in}
use Rattle.access_pieces.proofs.Led.{led}
use Rattle.access_pieces.proofs.Loads.{hart_there}
use Rattle.code_fetch.specs.Fetching.{word, on_device, faulted, held}
use Rattle.fetch_pieces.specs.Fetching.{HasWaited, IsFetchedIn, IsUnasked, MayFetch}
use Rattle.fetch_pieces.specs.Laws.{FetchesAreLogged}
use Rattle.fetch_pieces.specs.Regimes.{IsAlike}
use Rattle.fetch_pieces.proofs.Regimes.{fills_agree, trap_alike}

-- WHERE A WALK OF A FETCH LEADS

at_ram : Spot → Bool
at_ram (AtRam pa) = true
at_ram s = false

at_device : Spot → Bool
at_device (AtDevice pa) = true
at_device s = false

at_fault : Spot → Bool
at_fault (Faults cause tval) = true
at_fault s = false

address_at : Spot → ℕ
address_at (AtRam pa) = pa
address_at (AtDevice pa) = pa
address_at s = 0

spot_address : (pa : ℕ) → address_at (spot_at pa) ≡ pa
unfolding address_at
spot_address pa = go (is_device pa)
  where
    go : (d : Bool) → address_at (if d then AtDevice pa else AtRam pa) ≡ pa
    go true = refl
    go false = refl

no_fault : (pa : ℕ) → at_fault (spot_at pa) ≡ false
unfolding at_fault
no_fault pa = go (is_device pa)
  where
    go : (d : Bool) → at_fault (if d then AtDevice pa else AtRam pa) ≡ false
    go true = refl
    go false = refl

-- an address in RAM is no device's
ram_no_device : (pages page offset : ℕ) → is_ram pages page ≡ true → is_device (page + offset) ≡ true → ⊥
ram_no_device pages page offset e d = by ((page + offset) / 4096 == 0x10000) refl d
  where
    low : 2147483648 ≤ page
    low = grind (arith, (and_parts (nat_le 2147483648 page) (nat_lt page (2147483648 + 4096 * pages)) e).0)

    by : (b : Bool) → ((page + offset) / 4096 == 0x10000) ≡ b → (b || ((page + offset) / 4096 == 0x100)) ≡ true → ⊥
    by true x k = let y = eqb-true ((page + offset) / 4096) 0x10000 x in omega (arith, low, y)
    by false x k = let y = eqb-true ((page + offset) / 4096) 0x100 k in omega (arith, low, y)

-- a fetch's walk leads to no device
device_leaf : (pages : ℕ) (r : Regime) (va pa : ℕ) (finds : ℕ → ℕ) (walk : Walked) → walk_of pages r Kind.Fetch (answering finds) va ≡ walk → spot_of Kind.Fetch va walk ≡ AtDevice pa → ⊥
unfolding at_device
device_leaf pages r va pa finds (Leaf pte page level) is e = by (is_device (page + va % 4096)) refl e
  where
    by : (d : Bool) → is_device (page + va % 4096) ≡ d → (if d then AtDevice (page + va % 4096) else AtRam (page + va % 4096)) ≡ AtDevice pa → ⊥
    by true d e = ram_no_device pages page (va % 4096) (good_walk pages r Kind.Fetch finds va pte page level is).reached d
    by false d e = true≢false (sym (ap at_device e))
device_leaf pages r va pa finds PageFault is e = true≢false (sym (ap at_device e))
device_leaf pages r va pa finds AccessFault is e = true≢false (sym (ap at_device e))

-- the code word is of what the load found
word_fetched : (s : Step) (pa va value : ℕ) (walk : Walked) (code : Code) → s.word ≡ ram_word pa → s.op ≡ Load → s.answer ≡ value → code.word ≡ number_in value (pa % 8) 4 → Decodes code.word code.instr
    → spot_of Kind.Fetch va walk ≡ AtRam pa → FetchedAt s va walk code
unfolding address_at at_fault
word_fetched s pa va value (Leaf pte page level) code w o v is decodes e =
    let place : page + va % 4096 ≡ pa = sym (spot_address (page + va % 4096)) ∙ ap address_at e in (w ∙ ap ram_word (sym place), o, is ∙ (λ i. number_in (sym v i) (sym place i % 8) 4), decodes)
word_fetched s pa va value PageFault code w o v is decodes e = absurd (true≢false (ap at_fault e))
word_fetched s pa va value AccessFault code w o v is decodes e = absurd (true≢false (ap at_fault e))

-- and there is none where the walk faulted
none_fetched : (s : Step) (va cause tval : ℕ) (walk : Walked) → spot_of Kind.Fetch va walk ≡ Faults cause tval → FetchedAt s va walk no_code
unfolding at_fault
none_fetched s va cause tval (Leaf pte page level) e = absurd (true≢false (sym (ap at_fault e) ∙ no_fault (page + va % 4096)))
none_fetched s va cause tval PageFault e = refl
none_fetched s va cause tval AccessFault e = refl

leaf_in_ram : (va pa : ℕ) (walk : Walked) → spot_of Kind.Fetch va walk ≡ AtRam pa → is_leaf_end walk ≡ true
unfolding at_fault
leaf_in_ram va pa (Leaf pte page level) e = refl
leaf_in_ram va pa PageFault e = absurd (true≢false (ap at_fault e))
leaf_in_ram va pa AccessFault e = absurd (true≢false (ap at_fault e))

no_leaf : (va cause tval : ℕ) (walk : Walked) → spot_of Kind.Fetch va walk ≡ Faults cause tval → is_leaf_end walk ≡ false
unfolding at_fault
no_leaf va cause tval (Leaf pte page level) e = absurd (true≢false (sym (ap at_fault e) ∙ no_fault (page + va % 4096)))
no_leaf va cause tval PageFault e = refl
no_leaf va cause tval AccessFault e = refl

-- THE EVENT

-- a log whose last step owes no event has a step
unpaid : (o : Owed) → pays o ≡ nothing → o ≡ nothing
unpaid nothing e = refl
unpaid o e = let k : paid ≡ nothing = e in cc

last_step : (P : Step → Type 0) → ((s : Step) → P s) → (l : Log) → owed l ≡ nothing → AtLast P l
last_step P f [] e = cc
last_step P f (made s ∷ l) e = f s
last_step P f (did x ∷ l) e = last_step P f l (unpaid (owed l) e)

events_quietly : (r : List Step) (l : Log) → events_of (quietly r l) ≡ events_of l
events_quietly [] l = refl
events_quietly (s ∷ r) l = events_quietly r l

quiet_fetch : (h : ℕ) (walk : Walked) (code : Code) → IsQuiet (Fetch h walk code)
quiet_fetch h walk code = record { does = record { entry_is = refl; bytes_are = refl; reason_is = refl; starts_is = refl; stops_is = refl }; begins_not = refl }

-- behind it a stop is due where a fault brought the count to the limit
due_behind : (limit a count : ℕ) (walk : Walked) (code : Code) (run : List Event) → is_due limit (Fetch a walk code ∷ run) a count ≡ (not (is_leaf_end walk) && (count == limit))
due_behind limit a count walk code run = ap (λ (b : Bool). passes counts (if b then Some (Fetch a walk code) else last_of a run) && (count == limit)) (eq-eqb a a refl)

unasked_quietly : (a : ℕ) (c : Arch) (r : List Step) (l : Log) → IsUnasked a c l → IsUnasked a c (quietly r l)
unasked_quietly a c r l x = record { ipi = x.ipi; loaded = stood_quietly (is_of a) (found ipi_word x.ipi ∷ []) r l x.loaded; quiet = x.quiet }

module _ (others : ℕ → Bool) (o : Own) (p q : Shown) (b b' : Book) (c : Arch) (u : Setup) (a : ℕ) (l : Log) (x : MayFetch others o p b c u a l) (hart : a < u.layout.harts) where
  -- what its event needs, behind its steps
  is_fetch : (r : List Step) (walk : Walked) (code : Code) → IsSeen u.layout.pages a c Kind.Fetch c.pc walk (quietly r l) → AtLast (λ s. FetchedAt s c.pc walk code) (quietly r l) → IsFetch u a (quietly r l) walk code o
  is_fetch r walk code seen at = record {
    runs = x.runs;
    holds_none = x.holds_none;
    not_due = ap (λ run. is_due u.limit run a o.count) (events_quietly r l) ∙ x.not_due;
    ipi = x.unasked.ipi;
    loaded = stood_quietly (is_of a) (found ipi_word x.unasked.ipi ∷ []) r l x.unasked.loaded;
    quiet = subst (λ (y : Arch). is_pending y a x.unasked.ipi ≡ false) (sym x.arch_is) x.unasked.quiet;
    shown = subst (λ (y : Arch). IsSeen u.layout.pages a y Kind.Fetch y.pc walk (quietly r l)) (sym x.arch_is) seen;
    fetched = subst (λ (y : Arch). AtLast (λ s. FetchedAt s y.pc walk code) (quietly r l)) (sym x.arch_is) at;
  }

  -- the event stands behind them
  fetched_in : (r : List Step) (walk : Walked) (code : Code) (s : Spot) (later : Regime) (stops : Bool) → q.own.steps ≡ r ++ p.own.steps → Grows u a l (quietly r l) → Tells o q b' (regime c) u a (quietly r l) → owed (quietly r l) ≡ nothing
      → AwaitsAtMost others u a (quietly r l) → IsSeen u.layout.pages a c Kind.Fetch c.pc walk (quietly r l) → AtLast (λ y. FetchedAt y c.pc walk code) (quietly r l) → spot_of Kind.Fetch c.pc walk ≡ s → IsAlike (regime c) later
      → (not (is_leaf_end walk) && ((own_fetched code o s).count == u.limit)) ≡ stops → IsFetchedIn others code (own_fetched code o s) stops p q b' later u a l
  fetched_in r walk code s later stops steps grows tells idle settled seen at leads alike due =
      let k = quietly r l in
      let e = Fetch a walk code in
      let t = tells.tells in
      let spot_is : spot_of Kind.Fetch o.arch.pc walk ≡ s = ap (λ (y : Arch). spot_of Kind.Fetch y.pc walk) x.arch_is ∙ leads in record {
        added = r;
        steps_are = steps;
        walk = walk;
        grows = does e grows (record {
          own = refl;
          fit = subst (IsFit u a k e) (sym t.stands.part_is) (hart, is_fetch r walk code seen at);
          pays = subst (λ d. PaysFor a (books k) d e) (sym idle) (quiet_fetch a walk code);
        });
        rests = record {
          tells = record {
            tells = subst (λ (y : Own). writers.Tells y (view q) u a (did e ∷ k)) (ap (own_fetched code o) spot_is)
                (tells_did o (view q) u a k e t.stands refl (places_did k e t.none_drawn) (ap (λ d. unstored_did d (did_of e).bytes (unstored k)) idle ∙ t.none_left));
            fills = tells.fills;
            goes = fills_agree q b' (regime c) later (flushes_in a k) tells.fills alike tells.goes;
          };
          idle = ap pays idle;
          settled = λ page free. unmarked_did u a page k e (settled page free);
        };
        due_is = due_behind u.limit a (own_fetched code o s).count walk code (events_of k) ∙ due;
      }

  -- a fetch marks no page
  awaits_led : (m : Shown) (t : Translated) (y : Led o p m b' c Kind.Fetch c.pc t u a l) → AwaitsAtMost others u a (quietly y.added l)
  awaits_led m t y page free = y.marks page refl ∙ x.rests.settled page free

  -- a word was loaded
  word_in : (m : Shown) (pa value : ℕ) (code : Code) → Led o p m b' c Kind.Fetch c.pc (gives.Ram pa) u a l → HasStepped Load pa 0 value m q → code.word ≡ number_in value (pa % 8) 4 → Decodes code.word code.instr
      → IsFetchedIn others code (record o { held = Some code }) false p q b' (regime c) u a l
  word_in m pa value code y step is decodes =
      let k = quietly y.added l in
      let way = y.leads_to tt in
      let s = load_of others m pa value in
      let z = loaded_in others o m q b' (regime c) pa value u a k y.tells step in
      fetched_in (s ∷ y.added) way.walk code (AtRam pa) (regime c) false (ap (λ (v : Shown). v.own.steps) step.step ∙ ap (λ (v : List Step). s ∷ v) y.steps_are) (grows_then u a l k y.grows z.grows) z.tells z.clear
      (λ page free. awaits_stepped others [] u a k m q Load pa 0 value step (λ page free out. awaits_led m (gives.Ram pa) y page free) page free refl)
      (seen_quietly u.layout.pages a c Kind.Fetch c.pc way.walk (s ∷ []) k way.seen) (word_fetched s pa c.pc value way.walk code refl refl refl is decodes way.spot_is) way.spot_is
      (record { satp = refl; sum = refl; mxr = refl }) (ap (λ (v : Bool). not v && (o.count == u.limit)) (leaf_in_ram c.pc pa way.walk way.spot_is))

  -- the walk faulted
  fault_in : (cause tval : ℕ) → Led o p q b' c Kind.Fetch c.pc (gives.Fault cause tval) u a l
      → IsFetchedIn others no_code (own_fetched no_code o (Faults cause tval)) (o.count + 1 == u.limit) p q b' (regime (trapped c cause tval)) u a l
  fault_in cause tval y =
      let k = quietly y.added l in
      let way = y.leads_to tt in
      fetched_in y.added way.walk no_code (Faults cause tval) (regime (trapped c cause tval)) (o.count + 1 == u.limit) y.steps_are y.grows y.tells y.clear (awaits_led q (gives.Fault cause tval) y) way.seen
      (last_step (λ s. FetchedAt s c.pc way.walk no_code) (λ s. none_fetched s c.pc cause tval way.walk way.spot_is) k y.clear) way.spot_is (trap_alike c cause tval)
      (ap (λ (v : Bool). not v && (o.count + 1 == u.limit)) (no_leaf c.pc cause tval way.walk way.spot_is))

  -- the lock was found held
  waited : (busy : Busy) → Led o p q b' c Kind.Fetch c.pc (gives.Busy busy) u a l → HasWaited others o p q b' c u a l
  waited busy y = record {
    added = y.added;
    steps_are = y.steps_are;
    grows = y.grows;
    may = record {
      rests = record { tells = y.tells; idle = y.clear; settled = awaits_led q (gives.Busy busy) y };
      not_due = ap (λ run. is_due u.limit run a o.count) (events_quietly y.added l) ∙ x.not_due;
      arch_is = x.arch_is;
      runs = x.runs;
      holds_none = x.holds_none;
      unasked = unasked_quietly a c y.added l x.unasked;
    };
  }

  no_device : (pa : ℕ) → Led o p q b' c Kind.Fetch c.pc (gives.Device pa) u a l → ⊥
  no_device pa y = let way = y.leads_to tt in device_leaf u.layout.pages (regime c) c.pc pa way.seen.finds way.walk way.seen.is_end way.spot_is

pub fetches_are_logged : FetchesAreLogged
fetches_are_logged p q b b' c f can (word m pa value call step) others o u a l x = λ code is decodes.
    word_in others o p q b b' c u a l x (hart_there others o p b c u a l can x.rests.tells) m pa value code (led o p m b b' c Kind.Fetch c.pc (gives.Ram pa) u a l can.beside call x.rests.tells) step is decodes
fetches_are_logged p q b b' c f can (on_device pa call) others o u a l x =
    absurd (no_device others o p q b b' c u a l x (hart_there others o p b c u a l can x.rests.tells) pa (led o p q b b' c Kind.Fetch c.pc (gives.Device pa) u a l can.beside call x.rests.tells))
fetches_are_logged p q b b' c f can (faulted cause tval call) others o u a l x =
    fault_in others o p q b b' c u a l x (hart_there others o p b c u a l can x.rests.tells) cause tval (led o p q b b' c Kind.Fetch c.pc (gives.Fault cause tval) u a l can.beside call x.rests.tells)
fetches_are_logged p q b b' c f can (held busy call) others o u a l x =
    waited others o p q b b' c u a l x (hart_there others o p b c u a l can x.rests.tells) busy (led o p q b b' c Kind.Fetch c.pc (gives.Busy busy) u a l can.beside call x.rests.tells)
