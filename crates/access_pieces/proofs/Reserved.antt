-- Load-reserved and store-conditional are served.
use Rattle.std.proofs.Common.{◌≡◌, ◌≢◌, ℕ, ◌%◌, ◌≤◌, ◌^◌, Bool, true, false, [], ◌∷◌, Option, Some, None, refl, sym, ap, subst, ◌∙◌, arith, eqb-true, eq-eqb, ne_eqb, true≢false}
use Rattle.std.specs.Prelude.{◌==◌, ◌&&◌, if◌then◌else◌}
use Rattle.rv64_priv.specs.State.{Arch}
use Rattle.rv64_priv.specs.Csr.{regime}
use Rattle.rv64_priv.specs.declared.state.Hold.{Hold}
use Rattle.rv64_priv.specs.declared.state.Kind.{Kind}
use Rattle.rv64_exec.specs.declared.needs.Need.{Need}
use Rattle.rv64_exec.specs.declared.needs.Answer.{Answer}
use Rattle.step_laws.specs.declared.steps.WordOp.TheVariants.{Load, Exchange}
use Rattle.step_laws.specs.Words.{ram_word}
use Rattle.machine_model.specs.Access.{Reach, InRam}
use Rattle.machine_model.specs.Event.{Outcome, only}
use Rattle.machine_model.specs.Lawful.{flushing}
use Rattle.machine_model.specs.Memory.{Memory, One, replaced}
use Rattle.machine_model.specs.Own.{Own, own_executed}
use Rattle.machine_model.specs.Perform.{extended, hold_stands, lr_outcome, perform, same_width, sc_outcome, span_address, width_of}
use Rattle.machine_model.specs.State.{Setup}
use Rattle.guest_ram.specs.Ports.{Shown}
use Rattle.tlb_entry.specs.declared.books.Book.{Book}
use Rattle.turn_pieces.specs.Log.{made, Log}
use Rattle.turn_pieces.specs.Grows.{Ends}
use Rattle.turn_pieces.proofs.Writers.{ends_then, grows_then, seen_quietly}
use Rattle.guest_access.specs.declared.outcomes.Got.{Got}
use Rattle.guest_access.specs.Atomics.{HasConditional, HasReserved, held_word, old_number, on_none, on_word, with_hold, without_hold}
use Rattle.guest_access.specs.Reaching.{CanAccess}
use Rattle.guest_access.specs.Stepping.{HasStepped}
use Rattle.access_pieces.specs.Laws.{ConditionalsServe, ReservesServe}
use Rattle.access_pieces.specs.Serving.{ServesBut, Served, Counted, Tells, Wants}
use Rattle.access_pieces.proofs.Awaited.{exec_pages}
use Rattle.access_pieces.proofs.Atomic.{Atomic, Come, aligned_seen, come, unplaced_served}
use Rattle.access_pieces.proofs.Executing.{awaits_stepped, exchange_held, held_here, load_of, loaded_in, lost_in, quiet_exec, step_at}
use Rattle.access_pieces.proofs.Loads.{hart_there}
use Rattle.access_pieces.proofs.Writing.{exchange_due, exchange_may, write_exec, wrote}

-- whatever pages may wait for a store before
module _ (others : ℕ → Bool) where
  reserve : (c : Arch) (va : ℕ) (wide : Bool) → Atomic others c (Need.Lr va wide) Kind.Load va wide (λ memory at. lr_outcome memory va wide at)
  unfolding perform flushing
  reserve c va wide = record { wants = refl; calm = λ w h. refl; performs = λ w h walk second. refl; on_devices = λ memory pa. refl; at_faults = λ memory cause tval. refl }

  conditional : (c : Arch) (va : ℕ) (wide : Bool) (value : ℕ) → Atomic others c (Need.Sc va wide value) Kind.Store va wide (λ memory at. sc_outcome memory c va wide value at)
  unfolding perform flushing
  conditional c va wide value = record { wants = refl; calm = λ w h. refl; performs = λ w h walk second. refl; on_devices = λ memory pa. refl; at_faults = λ memory cause tval. refl }

  -- the address that a hold has
  address_of : (pa width : ℕ) → 2 ^ 31 ≤ pa → span_address (One (ram_word pa) (pa % 8) width) ≡ pa
  address_of pa width low = omega (arith, low)

  reserved_as : (memory : Memory) (va pa word : ℕ) (wide : Bool) → 2 ^ 31 ≤ pa → memory (ram_word pa) ≡ word
      → only (Answer.LrValue (extended true (width_of wide) (old_number pa wide word)) (record { pa = pa; wide = wide; word = word })) ≡ lr_outcome memory va wide (InRam (One (ram_word pa) (pa % 8) (width_of wide)))
  reserved_as memory va pa word wide low held = (λ i. only (Answer.LrValue (extended true (width_of wide) (old_number pa wide (sym held i))) (record { pa = sym (address_of pa (width_of wide) low) i; wide = wide; word = sym held i })))

  reserve_served : (o : Own) (p m q : Shown) (b b' : Book) (c : Arch) (va pa word : ℕ) (wide : Bool) (u : Setup) (a : ℕ) (l : Log) → CanAccess b p → Wants o c (Need.Lr va wide) → Tells o p b (regime c) u a l
      → Come others c (Need.Lr va wide) Kind.Load va wide (λ memory at. lr_outcome memory va wide at) (reserve c va wide) o m b' pa u a l → HasStepped Load pa 0 word m q
      → Ends u a l (Counted others (own_executed (only (Answer.LrValue (extended true (width_of wide) (old_number pa wide word)) (record { pa = pa; wide = wide; word = word }))) o) q b' (regime c) u a)
  reserve_served o p m q b b' c va pa word wide u a l can wants t k x =
      let answer = Answer.LrValue (extended true (width_of wide) (old_number pa wide word)) (record { pa = pa; wide = wide; word = word }) in
      let y = loaded_in others o m q b' (regime c) pa word u a k.late k.tells x in
      let late = made (load_of others m pa word) ∷ k.late in
      ends_then u a l late (Counted others (own_executed (only answer) o) q b' (regime c) u a) (grows_then u a l k.late k.grows y.grows)
      (quiet_exec others o q b' (regime c) c (Need.Lr va wide) answer k.walk k.walk u a late y.tells y.clear wants (hart_there others o p b c u a l can t)
      (aligned_seen others c (Need.Lr va wide) Kind.Load va wide (λ memory at. lr_outcome memory va wide at) (reserve c va wide) u.layout.pages a k.walk late k.aligned
      (seen_quietly u.layout.pages a c Kind.Load va k.walk (load_of others m pa word ∷ []) k.late k.seen)) (λ w. (reserve c va wide).calm w a)
      (λ w may. reserved_as w.memory va pa word wide k.above (held_here others u a k.late m q pa word w x may) ∙ sym (k.performed w))
      (awaits_stepped others (exec_pages (Need.Lr va wide) k.walk k.walk) u a k.late m q Load pa 0 word x k.awaits))

  reserves_serve_but : (p q : Shown) (b b' : Book) (c : Arch) (va : ℕ) (wide : Bool) (got : Got) → CanAccess b p → HasReserved p q b b' (regime c) va wide got → ServesBut others p q b b' c (Need.Lr va wide) got
  reserves_serve_but p q b b' c va wide got can (on_word {mid} {pa} {word} placed x e) = λ o wants u a l rests.
      subst (λ (g : Got). Ends u a l (Served others o g q b' (regime c) u a)) (sym e)
      (reserve_served o p mid q b b' c va pa word wide u a l can wants rests.tells
      (come others c (Need.Lr va wide) Kind.Load va wide (λ memory at. lr_outcome memory va wide at) (reserve c va wide) o p mid b b' pa u a l can.beside rests.tells rests.settled placed) x)
  reserves_serve_but p q b b' c va wide got can (on_none placed) = λ o wants u a l rests.
      unplaced_served others c (Need.Lr va wide) Kind.Load va wide (λ memory at. lr_outcome memory va wide at) (reserve c va wide) o p q b b' got u a l can.beside (hart_there others o p b c u a l can rests.tells) wants rests.tells rests.idle rests.settled placed

  -- whether a hold stands
  stands_in : (memory : Memory) (hold : Option Hold) (pa word : ℕ) (wide : Bool) → 2 ^ 31 ≤ pa → held_word hold pa wide ≡ Some word → hold_stands memory (One (ram_word pa) (pa % 8) (width_of wide)) wide hold ≡ (word == memory (ram_word pa))
  stands_in memory None pa word wide low e = cc
  stands_in memory (Some h) pa word wide low e = ap (λ n. (h.pa == n) && same_width h.wide wide && (h.word == memory (ram_word pa))) (address_of pa (width_of wide) low) ∙ by (h.pa == pa) (same_width h.wide wide) e
    where
      or_else : ℕ → Option ℕ → ℕ
      or_else d None = d
      or_else d (Some n) = n

      by : (x y : Bool) → (if x && y then Some h.word else None) ≡ Some word → (x && y && (h.word == memory (ram_word pa))) ≡ (word == memory (ram_word pa))
      by true true k = ap (λ n. n == memory (ram_word pa)) (ap (or_else word) k)
      by true false k = cc
      by false y k = cc

  stands_not : (memory : Memory) (hold : Option Hold) (pa : ℕ) (wide : Bool) → 2 ^ 31 ≤ pa → held_word hold pa wide ≡ None → hold_stands memory (One (ram_word pa) (pa % 8) (width_of wide)) wide hold ≡ false
  stands_not memory None pa wide low e = refl
  stands_not memory (Some h) pa wide low e = ap (λ n. (h.pa == n) && same_width h.wide wide && (h.word == memory (ram_word pa))) (address_of pa (width_of wide) low) ∙ by (h.pa == pa) (same_width h.wide wide) e
    where
      by : (x y : Bool) → (if x && y then Some h.word else None) ≡ None → (x && y && (h.word == memory (ram_word pa))) ≡ false
      by true true k = cc
      by true false k = refl
      by false y k = refl

  abbrev sc_at : Arch → (va : ℕ) → Bool → (value : ℕ) → Memory → Reach → Outcome
  sc_at c va wide value memory at = sc_outcome memory c va wide value at

  stored_as : (memory : Memory) (c : Arch) (va pa word value : ℕ) (wide : Bool) → 2 ^ 31 ≤ pa → held_word c.hold pa wide ≡ Some word → memory (ram_word pa) ≡ word
      → wrote others (ram_word pa) (replaced word (pa % 8) (width_of wide) value) (Answer.Sc true) ≡ sc_outcome memory c va wide value (InRam (One (ram_word pa) (pa % 8) (width_of wide)))
  stored_as memory c va pa word value wide low hold held =
      ap (λ n. wrote others (ram_word pa) (replaced n (pa % 8) (width_of wide) value) (Answer.Sc true)) (sym held)
      ∙ ap (λ (t : Bool). if t then wrote others (ram_word pa) (replaced (memory (ram_word pa)) (pa % 8) (width_of wide) value) (Answer.Sc true) else only (Answer.Sc false))
      (sym (stands_in memory c.hold pa word wide low hold ∙ eq-eqb word (memory (ram_word pa)) (sym held)))

  refused_as : (memory : Memory) (c : Arch) (va pa value : ℕ) (wide : Bool) → hold_stands memory (One (ram_word pa) (pa % 8) (width_of wide)) wide c.hold ≡ false
      → only (Answer.Sc false) ≡ sc_outcome memory c va wide value (InRam (One (ram_word pa) (pa % 8) (width_of wide)))
  refused_as memory c va pa value wide e =
      ap (λ (t : Bool). if t then wrote others (ram_word pa) (replaced (memory (ram_word pa)) (pa % 8) (width_of wide) value) (Answer.Sc true) else only (Answer.Sc false)) (sym e)

  module _ (o : Own) (p m q : Shown) (b b' : Book) (c : Arch) (va pa word value found : ℕ) (wide : Bool) (u : Setup) (a : ℕ) (l : Log) (can : CanAccess b p) (wants : Wants o c (Need.Sc va wide value)) (t : Tells o p b (regime c) u a l)
      (k : Come others c (Need.Sc va wide value) Kind.Store va wide (sc_at c va wide value) (conditional c va wide value) o m b' pa u a l) (hold : held_word c.hold pa wide ≡ Some word)
      (x : HasStepped (Exchange word) pa (replaced word (pa % 8) (width_of wide) value) found m q) where
    exchanged_by : (same : Bool) → (found == word) ≡ same → Ends u a l (Counted others (own_executed (only (Answer.Sc same)) o) q b' (regime c) u a)
    exchanged_by true e =
        let is : found ≡ word = eqb-true found word e in
        let new = replaced word (pa % 8) (width_of wide) value in
        let s = step_at others m (Exchange word) pa new found in
        ends_then u a l k.late (Counted others (own_executed (only (Answer.Sc true)) o) q b' (regime c) u a) k.grows
        (write_exec others o m q b' (regime c) c (Need.Sc va wide value) (Answer.Sc true) k.walk k.walk (Exchange word) pa new found new u a k.late k.tells x (exchange_may others u a k.late m q pa word new found k.tells.tells.clear x)
        (exchange_due others k.late m q pa word new found is x) wants (hart_there others o p b c u a l can t)
        (aligned_seen others c (Need.Sc va wide value) Kind.Store va wide (sc_at c va wide value) (conditional c va wide value) u.layout.pages a k.walk (made s ∷ k.late) k.aligned
        (seen_quietly u.layout.pages a c Kind.Store va k.walk (s ∷ []) k.late k.seen)) (λ w. (conditional c va wide value).calm w a)
        (λ w may. stored_as w.memory c va pa word value wide k.above hold (exchange_held others u a k.late m q pa word new found w x may ∙ is) ∙ sym (k.performed w)) k.awaits)
    exchanged_by false e =
        let other : word ≢ found = λ is. absurd (true≢false (sym (eq-eqb found word (sym is)) ∙ e)) in
        let new = replaced word (pa % 8) (width_of wide) value in
        let s = step_at others m (Exchange word) pa new found in
        let y = lost_in others o m q b' (regime c) pa word new found u a k.late k.tells other x in
        let late = made s ∷ k.late in
        ends_then u a l late (Counted others (own_executed (only (Answer.Sc false)) o) q b' (regime c) u a) (grows_then u a l k.late k.grows y.grows)
        (quiet_exec others o q b' (regime c) c (Need.Sc va wide value) (Answer.Sc false) k.walk k.walk u a late y.tells y.clear wants (hart_there others o p b c u a l can t)
        (aligned_seen others c (Need.Sc va wide value) Kind.Store va wide (sc_at c va wide value) (conditional c va wide value) u.layout.pages a k.walk late k.aligned
        (seen_quietly u.layout.pages a c Kind.Store va k.walk (s ∷ []) k.late k.seen)) (λ w. (conditional c va wide value).calm w a)
        (λ w may. refused_as w.memory c va pa value wide (stands_in w.memory c.hold pa word wide k.above hold
        ∙ ap (λ n. word == n) (exchange_held others u a k.late m q pa word new found w x may) ∙ ne_eqb word found other) ∙ sym (k.performed w))
        (awaits_stepped others (exec_pages (Need.Sc va wide value) k.walk k.walk) u a k.late m q (Exchange word) pa new found x k.awaits))

  refused_served : (o : Own) (p m : Shown) (b b' : Book) (c : Arch) (va pa value : ℕ) (wide : Bool) (u : Setup) (a : ℕ) (l : Log) → CanAccess b p → Wants o c (Need.Sc va wide value) → Tells o p b (regime c) u a l
      → Come others c (Need.Sc va wide value) Kind.Store va wide (sc_at c va wide value) (conditional c va wide value) o m b' pa u a l → held_word c.hold pa wide ≡ None
      → Ends u a l (Counted others (own_executed (only (Answer.Sc false)) o) m b' (regime c) u a)
  refused_served o p m b b' c va pa value wide u a l can wants t k hold =
      ends_then u a l k.late (Counted others (own_executed (only (Answer.Sc false)) o) m b' (regime c) u a) k.grows
      (quiet_exec others o m b' (regime c) c (Need.Sc va wide value) (Answer.Sc false) k.walk k.walk u a k.late k.tells k.clear wants (hart_there others o p b c u a l can t)
      (aligned_seen others c (Need.Sc va wide value) Kind.Store va wide (sc_at c va wide value) (conditional c va wide value) u.layout.pages a k.walk k.late k.aligned k.seen) (λ w. (conditional c va wide value).calm w a)
      (λ w may. refused_as w.memory c va pa value wide (stands_not w.memory c.hold pa wide k.above hold) ∙ sym (k.performed w)) k.awaits)

  conditionals_serve_but : (p q : Shown) (b b' : Book) (c : Arch) (va : ℕ) (wide : Bool) (value : ℕ) (got : Got) → CanAccess b p → HasConditional p q b b' (regime c) va c.hold wide value got → ServesBut others p q b b' c (Need.Sc va wide value) got
  conditionals_serve_but p q b b' c va wide value got can (with_hold {mid} {pa} {word} {found} placed hold x e) = λ o wants u a l rests.
      subst (λ (g : Got). Ends u a l (Served others o g q b' (regime c) u a)) (sym e)
      (exchanged_by o p mid q b b' c va pa word value found wide u a l can wants rests.tells
      (come others c (Need.Sc va wide value) Kind.Store va wide (sc_at c va wide value) (conditional c va wide value) o p mid b b' pa u a l can.beside rests.tells rests.settled placed) hold x (found == word) refl)
  conditionals_serve_but p q b b' c va wide value got can (without_hold {pa} placed hold e) = λ o wants u a l rests.
      subst (λ (g : Got). Ends u a l (Served others o g q b' (regime c) u a)) (sym e)
      (refused_served o p q b b' c va pa value wide u a l can wants rests.tells
      (come others c (Need.Sc va wide value) Kind.Store va wide (sc_at c va wide value) (conditional c va wide value) o p q b b' pa u a l can.beside rests.tells rests.settled placed) hold)
  conditionals_serve_but p q b b' c va wide value got can (on_none placed) = λ o wants u a l rests.
      unplaced_served others c (Need.Sc va wide value) Kind.Store va wide (sc_at c va wide value) (conditional c va wide value) o p q b b' got u a l can.beside (hart_there others o p b c u a l can rests.tells) wants rests.tells rests.idle rests.settled placed

pub reserves_serve : ReservesServe
reserves_serve p q b b' c va wide got can x = λ others. reserves_serve_but others p q b b' c va wide got can x

pub conditionals_serve : ConditionalsServe
conditionals_serve p q b b' c va wide value got can x = λ others. conditionals_serve_but others p q b b' c va wide value got can x
