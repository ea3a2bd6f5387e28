-- Bytes of RAM that a call prints, one after another, in its hart's log.
use Rattle.std.proofs.Common.{◌≡◌, ◌≢◌, ◌⊎◌, ℕ, zero, suc, ◌+◌, ◌<◌, ◌≤◌, ◌^◌, Bool, true, false, List, [], ◌∷◌, ◌++◌, Option, Some, None, refl, sym, ap, subst, ◌∙◌, arith, length, lt-ltb, inl, inr, eq-eqb}
use Rattle.std.specs.Prelude.{◌-◌, ◌==◌, ◌&&◌, nat_lt, if◌then◌else◌}
use Rattle.std.proofs.lemmas.Bool.{cases_Bool, cases_lt, eqb-true}
use Rattle.rv64_priv.specs.declared.state.Regime.{Regime}
use Rattle.step_laws.specs.declared.steps.WordOp.TheVariants.{Load, Store, Add}
use Rattle.step_laws.specs.Map.{Cons, Console, Ram, Word, name_of}
use Rattle.step_laws.specs.Words.{console_places, ram_word}
use Rattle.machine_model.specs.Memory.{Memory}
use Rattle.machine_model.specs.Own.{Own}
use Rattle.machine_model.specs.Sbi.{byte_at, bytes_from}
use Rattle.machine_model.specs.State.{Setup}
use Rattle.guest_ram.specs.Plays.{step_of}
use Rattle.guest_ram.specs.Ports.{Shown}
use Rattle.guest_ram.proofs.Moves.{goes_made, goes_step}
use Rattle.tlb_entry.specs.declared.books.Book.{Book}
use Rattle.kept_fills.specs.Fills.{Fill, GoesWithFills}
use Rattle.kept_fills.proofs.Staying.{fills_stay}
use Rattle.tlb_fill.proofs.Marking.{same_goes}
use Rattle.turn_pieces.specs.Draws.{may_draw, may_draw_next}
use Rattle.turn_pieces.specs.Folds.{drawn_next, known_word_next, stored_next, unstored_next}
use Rattle.turn_pieces.specs.Kept.{known_word, places}
use Rattle.turn_pieces.specs.KeptWalks.{flushes_in}
use Rattle.turn_pieces.specs.Log.{made, Log, steps_of}
use Rattle.turn_pieces.specs.Owed.{MayBehind, Owed, Rests, books, draws, fills, nothing, owed, owes_byte, paid, unstored}
use Rattle.turn_pieces.specs.Grows.{Grows, makes}
use Rattle.turn_pieces.specs.Writers as writers
use Rattle.turn_pieces.proofs.Accesses.{step_stands}
use Rattle.turn_pieces.proofs.Calls.{call_byte, call_goes}
use Rattle.turn_pieces.proofs.Sections.{Plain, plain_section}
use Rattle.turn_pieces.proofs.Writers.{grows_then, may_named, owed_named}
use Rattle.access_pieces.specs.Serving.{view}
use Rattle.guest_devices.specs.Output.{HasPut}
use Rattle.hart_calls.specs.Called.{IsOfHartCalls}
use Rattle.hart_calls.specs.Printing.{HasCopied, HasLoaded, HasLoadedIf, begins_word}
use Rattle.hart_calls.proofs.Printed.{beside}
use Rattle.call_pieces.proofs.Placing.{calls_off}
use Rattle.call_pieces.proofs.Room.{AreWithin}

-- the bytes so far, and one more
pub bytes_snoc : (m : Memory) (from n : ℕ) → bytes_from m from (suc n) ≡ bytes_from m from n ++ byte_at m (from + n) ∷ []
bytes_snoc m from zero = let start : from ≡ from + 0 = omega arith in ap (λ k. byte_at m k ∷ []) start
bytes_snoc m from (suc n) = let next : from + 1 + n ≡ from + suc n = omega arith in
    ap (λ l. byte_at m from ∷ l) (bytes_snoc m (from + 1) n ∙ ap (λ k. bytes_from m (from + 1) n ++ byte_at m k ∷ []) next)

-- a load in a call
load_behind : (u : Setup) (a : ℕ) (l : Log) (i n arg answer : ℕ) (d : Owed) → Rests u a (books l) d → MayBehind u a (books l) d (Ram i) Load n arg answer
load_behind u a l i n arg answer nothing k = (tt, tt)
load_behind u a l i n arg answer paid k = (tt, tt)
load_behind u a l i n arg answer (draws j) k = (k, tt)
load_behind u a l i n arg answer fills k = (tt, tt)
load_behind u a l i n arg answer d k = absurd k

stored_load : (i : ℕ) (ds bs : List ℕ) → length ds ≡ length bs → stored_next (Ram i) Load 0 ds bs ≡ bs
stored_load i [] [] e = refl
stored_load i [] (b ∷ bs) e = absurd (cc (e))
stored_load i (d ∷ ds) bs e = refl

-- the words of the first n bytes are known as they were found
pub AreKnown : (finds : Memory) (from n : ℕ) → Log → Type 0
AreKnown finds from n l = (i : ℕ) → i < n → known_word (ram_word (from + i)) l ≡ Some (finds (ram_word (from + i)))

module _ (o : Own) (b : Book) (r : Regime) (u : Setup) (a : ℕ) (kept : List Fill) (finds : Memory) (from : ℕ) where
  -- so many bytes were put, the last of them in a place that there is
  pub record Copying (n : ℕ) (x : Shown) (l k : Log) : Type 0 where
    pub grows : Grows u a l k
    pub stands : writers.Stands o (view x) u a k
    pub drawn : List ℕ
    pub call : writers.InCall u a drawn (bytes_from finds from n) k
    pub many : length drawn ≡ n
    pub owes : n ≢ 0 → owed k ≡ fills
    pub last : AreWithin drawn
    pub may : may_draw (steps_of k) ≡ true
    pub known : (i : ℕ) → i < n → known_word (ram_word (from + i)) k ≡ Some (finds (ram_word (from + i)))
    pub goes : GoesWithFills x b r (flushes_in a k) kept

  pub bytes_many : (n : ℕ) → length (bytes_from finds from n) ≡ n
  bytes_many n = many_from from n
    where
      many_from : (at m : ℕ) → length (bytes_from finds at m) ≡ m
      many_from at zero = refl
      many_from at (suc m) = ap suc (many_from (at + 1) m)

  -- the next byte's word is known too
  pub record Ready (n : ℕ) (x : Shown) (l k : Log) : Type 0 where
    pub grows : Grows u a l k
    pub stands : writers.Stands o (view x) u a k
    pub drawn : List ℕ
    pub call : writers.InCall u a drawn (bytes_from finds from n) k
    pub many : length drawn ≡ n
    pub last : AreWithin drawn
    pub may : may_draw (steps_of k) ≡ true
    pub known : (i : ℕ) → i < suc n → known_word (ram_word (from + i)) k ≡ Some (finds (ram_word (from + i)))
    pub goes : GoesWithFills x b r (flushes_in a k) kept

  known_load : (at word : ℕ) (w : Word) (i : ℕ) (k : Log) → w ≡ Ram i → known_word at k ≡ Some (finds at) → known_word_next at w Load word (finds word) (known_word at k) ≡ Some (finds at)
  known_load at word w i k e is = (λ j. known_word_next at (e j) Load word (finds word) (known_word at k)) ∙ go (cases_Bool (at == word))
    where
      go : ((at == word) ≡ true) ⊎ ((at == word) ≡ false) → (if at == word then Some (finds word) else known_word at k) ≡ Some (finds at)
      go (inl t) = ap (λ (z : Bool). if z then Some (finds word) else known_word at k) t ∙ ap (λ n. Some (finds n)) (sym (eqb-true at word t))
      go (inr f) = ap (λ (z : Bool). if z then Some (finds word) else known_word at k) f ∙ is

  known_here : (word : ℕ) (w : Word) (i : ℕ) (k : Option ℕ) → w ≡ Ram i → known_word_next word w Load word (finds word) k ≡ Some (finds word)
  known_here word w i k e = (λ j. known_word_next word (e j) Load word (finds word) k) ∙ ap (λ (z : Bool). if z then Some (finds word) else k) (eq-eqb word word refl)

  up_to : (P : ℕ → Type 0) (n : ℕ) → ((i : ℕ) → i < n → P i) → P n → (i : ℕ) → i < suc n → P i
  up_to P n below here i less = go (cases_lt i n)
    where
      go : (i < n) ⊎ (n ≤ i) → P i
      go (inl lower) = below i lower
      go (inr far) = let same : n ≡ i = omega (arith, less, far) in subst P same here

  abbrev KnownAt : Log → ℕ → Type 0
  KnownAt k i = known_word (ram_word (from + i)) k ≡ Some (finds (ram_word (from + i)))

  loaded_ready : (n : ℕ) (x mid : Shown) (l k : Log) → Copying n x l k → (m : HasLoaded finds (from + n) x mid) → Ready n mid l (made (step_of x.own.actor (ram_word (from + n)) Load 0 (finds (ram_word (from + n)))) ∷ k)
  loaded_ready n x mid l k c m =
      let word = ram_word (from + n) in
      let s = step_of x.own.actor word Load 0 (finds word) in
      let even : length c.drawn ≡ length (bytes_from finds from n) = c.many ∙ sym (bytes_many n) in record {
        grows = makes s c.grows (may_named u a k s (Ram m.index) Load m.name refl (load_behind u a k m.index word 0 (finds word) (owed k) c.call.rests) tt tt);
        stands = step_stands o (view x) (view mid) u a k s (ap view m.step) c.stands;
        drawn = c.drawn;
        call = record {
          rests = subst (Rests u a (books (made s ∷ k))) (sym (owed_named k s (Ram m.index) Load m.name refl)) tt;
          drawn = ap (λ w. drawn_next w Load (finds word) (places k)) m.name ∙ c.call.drawn;
          stored = (λ i. stored_next (m.name i) Load 0 (c.call.drawn i) (c.call.stored i)) ∙ stored_load m.index c.drawn (bytes_from finds from n) even;
          none = ap (λ w. unstored_next w Load (finds word) [] (unstored k)) m.name ∙ c.call.none;
          inside = plain_section u a s (steps_of k) (subst (λ w. Plain w Load) (sym m.name) tt) c.call.inside;
        };
        many = c.many;
        last = c.last;
        may = ap (λ w. may_draw_next w Load 0 (finds word) (may_draw (steps_of k))) m.name ∙ c.may;
        known = up_to (KnownAt (made s ∷ k)) n (λ i less. known_load (ram_word (from + i)) word (name_of word) m.index k m.name (c.known i less)) (known_here word (name_of word) m.index (known_word word k) m.name);
        goes = fills_stay x mid b r (flushes_in a k) kept (s ∷ []) (ap (λ (z : Shown). z.own.steps) m.step) (same_goes 1 IsOfHartCalls x mid calls_off (goes_step IsOfHartCalls x mid word 0 (finds word) Load (Ram m.index) m.step m.may m.name tt)) c.goes;
      }

  same_ready : (n : ℕ) (x : Shown) (l k : Log) → 2 ^ 31 ≤ from → begins_word from n ≡ false → Copying n x l k → Ready n x l k
  same_ready n x l k above begins c = record {
    grows = c.grows;
    stands = c.stands;
    drawn = c.drawn;
    call = c.call;
    many = c.many;
    last = c.last;
    may = c.may;
    known = up_to (KnownAt k) n c.known here;
    goes = c.goes;
  }
    where
      here : known_word (ram_word (from + n)) k ≡ Some (finds (ram_word (from + n)))
      here = let x = beside from n above begins in let some : n ≢ 0 = x.0 in subst (λ at. known_word at k ≡ Some (finds at)) (sym x.1) (c.known (n - 1) (omega (arith, some)))

  pub ready : (n : ℕ) (x mid : Shown) (l k : Log) → 2 ^ 31 ≤ from → Copying n x l k → (t : Bool) → begins_word from n ≡ t → HasLoadedIf t finds (from + n) x mid → (late : Log) × Ready n mid l late
  ready n x mid l k above c true begins m = (_, loaded_ready n x mid l k c m)
  ready n x mid l k above c false begins same = (k, subst (λ (y : Shown). Ready n y l k) (sym same) (same_ready n x l k above begins c))

  pub byte_copied : (n : ℕ) (mid y : Shown) (l k : Log) → Ready n mid l k → (m : HasPut (byte_at finds (from + n)) mid y)
      → Copying (suc n) y l (made (step_of m.mid.own.actor m.stores.word Store (byte_at finds (from + n) + 2 ^ 8) 0) ∷ made (step_of mid.own.actor m.draws.word Add 1 m.place) ∷ k)
  byte_copied n mid y l k c m =
      let byte = byte_at finds (from + n) in
      let s = step_of mid.own.actor m.draws.word Add 1 m.place in
      let t = step_of m.mid.own.actor m.stores.word Store (byte + 2 ^ 8) 0 in
      let k1 = made s ∷ k in
      let even : length c.drawn ≡ length (bytes_from finds from n) = c.many ∙ sym (bytes_many n) in
      let left : unstored k1 ≡ None = ap (λ w. unstored_next w Add m.place [] (unstored k)) m.draws.name ∙ c.call.none in
      let went = call_goes u a k c.drawn (bytes_from finds from n) c.call even s m.draws.name refl refl c.may t byte m.stores.name refl refl in record {
        grows = grows_then u a l k c.grows (call_byte u a k c.drawn (bytes_from finds from n) c.call even s m.draws.name refl refl c.may t byte m.less m.stores.name refl refl);
        stands = step_stands o (view m.mid) (view y) u a k1 t (ap view m.stores.step) (step_stands o (view mid) (view m.mid) u a k s (ap view m.draws.step) c.stands);
        drawn = m.place ∷ c.drawn;
        call = subst (λ bs. writers.InCall u a (m.place ∷ c.drawn) bs (made t ∷ k1)) (sym (bytes_snoc finds from n)) went;
        many = ap suc c.many;
        owes = λ some. owed_named k1 t (Console m.place) Store m.stores.name refl ∙ ap owes_byte left;
        last = m.less;
        may = ap (λ w. may_draw_next w Store (byte + 2 ^ 8) 0 (may_draw (steps_of k1))) m.stores.name ∙ ap (λ w. may_draw_next w Add 1 m.place (may_draw (steps_of k))) m.draws.name
            ∙ ap (λ (z : Bool). z && nat_lt m.place console_places) c.may ∙ lt-ltb m.place console_places m.less;
        known = λ i lower. (ap (λ w. known_word_next (ram_word (from + i)) w Store m.stores.word 0 (known_word (ram_word (from + i)) k1)) m.stores.name
            ∙ ap (λ w. known_word_next (ram_word (from + i)) w Add m.draws.word m.place (known_word (ram_word (from + i)) k)) m.draws.name) ∙ c.known i lower;
        goes = fills_stay m.mid y b r (flushes_in a k1) kept (t ∷ []) (ap (λ (z : Shown). z.own.steps) m.stores.step) (same_goes 1 IsOfHartCalls m.mid y calls_off (goes_made IsOfHartCalls m.mid y (Console m.place) Store (byte + 2 ^ 8) 0 m.stores tt))
            (fills_stay mid m.mid b r (flushes_in a k) kept (s ∷ []) (ap (λ (z : Shown). z.own.steps) m.draws.step) (same_goes 1 IsOfHartCalls mid m.mid calls_off (goes_made IsOfHartCalls mid m.mid Cons Add 1 m.place m.draws tt)) c.goes);
      }

  -- all of them
  pub copied : (n : ℕ) (p x : Shown) (l : Log) → 2 ^ 31 ≤ from → Copying 0 p l l → (c : HasCopied finds from n p x) → (late : Log) × Copying n x l late
  copied zero p x l above begin same = (l, subst (λ (y : Shown). Copying 0 y l l) (sym same) begin)
  copied (suc n) p x l above begin c =
      let before = copied n p c.0 l above begin c.1 in
      let at = ready n c.0 c.2.mid l before.0 above before.1 (begins_word from n) refl c.2.loads in
      (_, byte_copied n c.2.mid x l at.0 at.1 c.2.puts)
