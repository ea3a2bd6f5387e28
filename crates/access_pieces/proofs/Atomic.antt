-- Atomic accesses in their hart's log.
use Rattle.std.proofs.Common.{◌≡◌, ℕ, ◌+◌, ◌%◌, ◌<◌, ◌≤◌, ◌^◌, Bool, true, false, true≢false, [], ◌∷◌, Option, Some, None, Ok, Err, sym, ap, subst, ◌∙◌, arith, le-leb}
use Rattle.std.specs.Prelude.{if◌then◌else◌}
use Rattle.rv64_priv.specs.State.{Arch}
use Rattle.rv64_priv.specs.Csr.{regime}
use Rattle.rv64_priv.specs.Trap.{access_fault}
use Rattle.rv64_priv.specs.declared.state.Kind.{Kind}
use Rattle.rv64_priv.specs.Walk.{Walked}
use Rattle.rv64_exec.specs.declared.needs.Need.{Need}
use Rattle.rv64_exec.specs.declared.needs.Answer.{Answer}
use Rattle.step_laws.specs.Words.{ram_word}
use Rattle.machine_model.specs.Access.{Reach, InRam, OnDevice, Unreached, Spot, AtRam, AtDevice, Faults, crosses_page, one_page, reach, second_va, spot_of, two_pages}
use Rattle.machine_model.specs.Event.{Outcome, only}
use Rattle.machine_model.specs.Lawful.{flushing}
use Rattle.machine_model.specs.Memory.{Memory, One, Two}
use Rattle.machine_model.specs.Own.{Own, own_executed}
use Rattle.machine_model.specs.Perform.{Surroundings, fault_outcome, is_misaligned, perform, width_of}
use Rattle.machine_model.specs.State.{Setup}
use Rattle.machine_model.specs.Stores.{of_store, pages_reached, pages_walked}
use Rattle.machine_model.specs.Walks.{Wanted, access_of, wanted_aligned}
use Rattle.guest_ram.specs.Ports.{Shown}
use Rattle.kept_fills.specs.Beside.{IsBeside}
use Rattle.tlb_entry.specs.declared.books.Book.{Book}
use Rattle.tlb_fill.specs.declared.translation.Translated.TheVariants as gives
use Rattle.turn_pieces.specs.Log.{Log}
use Rattle.turn_pieces.specs.Owed.{nothing, owed}
use Rattle.turn_pieces.specs.Right.{IsSeen, SeenFor, SeenMade}
use Rattle.turn_pieces.specs.Grows.{Grows, Ends}
use Rattle.turn_pieces.specs.Writers.{quietly}
use Rattle.turn_pieces.proofs.Writers.{ends_then}
use Rattle.guest_access.specs.declared.outcomes.Got.{Got}
use Rattle.guest_access.specs.Atomics.{HasPlaced, at_none, faults, in_ram, is_busy, misaligned, on_device}
use Rattle.access_pieces.specs.Serving.{MayGiveUp, AwaitsAtMost, Served, Counted, Tells, Wants}
use Rattle.access_pieces.proofs.Awaited.{AwaitsBut, exec_pages, given_up_pages, pages_of}
use Rattle.access_pieces.proofs.GivenUp.{give_up}
use Rattle.access_pieces.proofs.Arrived.{one_awaits, placed_led}
use Rattle.access_pieces.proofs.Executing.{quiet_exec}
use Rattle.access_pieces.proofs.Led.{led}

-- whatever pages may wait for a store before
module _ (others : ℕ → Bool) where
  -- an atomic access of the hart with these registers: by what the reference machine does where its bytes are reached
  pub record Atomic (c : Arch) (need : Need) (kind : Kind) (va : ℕ) (wide : Bool) (outcome : Memory → Reach → Outcome) : Type 0 where
    pub wants : access_of need ≡ wanted_aligned kind va wide
    pub calm : (w : Surroundings) (h : ℕ) → flushing w h c need ≡ None
    pub performs : (w : Surroundings) (h : ℕ) (walk second : Walked) → perform w h c walk second need ≡ (if is_misaligned wide va then fault_outcome (misaligned kind) va else outcome w.memory (reach kind va (width_of wide) walk second))
    pub on_devices : (memory : Memory) (pa : ℕ) → outcome memory (OnDevice pa) ≡ fault_outcome (access_fault kind) va
    pub at_faults : (memory : Memory) (cause tval : ℕ) → outcome memory (Unreached cause tval) ≡ fault_outcome cause tval

  one_page_only : (wide : Bool) (va : ℕ) → is_misaligned wide va ≡ false → crosses_page va (width_of wide) ≡ false
  one_page_only true va is = let z : va % 8 ≡ 0 = grind (arith, is) in grind (arith, z)
  one_page_only false va is = let z : va % 4 ≡ 0 = grind (arith, is) in grind (arith, z)

  module _ (c : Arch) (need : Need) (kind : Kind) (va : ℕ) (wide : Bool) (outcome : Memory → Reach → Outcome) (n : Atomic c need kind va wide outcome) where
    -- where the access is aligned
    pub aligned_performs : (w : Surroundings) (h : ℕ) (walk second : Walked) (s : Spot) → is_misaligned wide va ≡ false → spot_of kind va walk ≡ s → perform w h c walk second need ≡ outcome w.memory (one_page (width_of wide) s)
    aligned_performs w h walk second s is e = n.performs w h walk second ∙ ap (λ (t : Bool). if t then fault_outcome (misaligned kind) va else outcome w.memory (reach kind va (width_of wide) walk second)) is
        ∙ ap (λ (t : Bool). outcome w.memory (if t then two_pages kind va (width_of wide) (spot_of kind va walk) (spot_of kind (second_va va) second) else one_page (width_of wide) (spot_of kind va walk))) (one_page_only wide va is)
        ∙ ap (λ x. outcome w.memory (one_page (width_of wide) x)) e

    pub aligned_seen : (pages a : ℕ) (walk : Walked) (l : Log) → is_misaligned wide va ≡ false → IsSeen pages a c kind va walk l → SeenFor pages a c (access_of need) walk walk l
    aligned_seen pages a walk l is seen = subst (λ (x : Option Wanted). SeenFor pages a c x walk walk l) (sym (n.wants ∙ ap (λ (t : Bool). if t then None else Some (record { kind = kind; va = va; width = width_of wide })) is))
        (record { first_page = seen; second_page = λ crosses ram. absurd (true≢false (sym crosses ∙ one_page_only wide va is)) })

    aligned_wants : is_misaligned wide va ≡ false → access_of need ≡ Some (record { kind = kind; va = va; width = width_of wide })
    aligned_wants is = n.wants ∙ ap (λ (t : Bool). if t then None else Some (record { kind = kind; va = va; width = width_of wide })) is

    -- the page that its translation marks is its event's
    pub aligned_awaits : (u : Setup) (a : ℕ) (walk : Walked) (s : Spot) (l : Log) → is_misaligned wide va ≡ false → spot_of kind va walk ≡ s → AwaitsBut others (pages_of kind s) u a l → AwaitsBut others (exec_pages need walk walk) u a l
    aligned_awaits u a walk s l is e k = subst (λ (x : Option Wanted). AwaitsBut others (of_store x (λ w. pages_reached w walk walk)) u a l) (sym (aligned_wants is)) (one_awaits others c kind va (width_of wide) u a l walk s e k)

    -- a fault behind the translation
    fault_served : (o : Own) (p m : Shown) (b b' : Book) (cause tval : ℕ) (s : Spot) (u : Setup) (a : ℕ) (l : Log) → a < u.layout.harts → Wants o c need → is_misaligned wide va ≡ false
        → (late : Log) → Grows u a l late → Tells o m b' (regime c) u a late → owed late ≡ nothing → (walk : Walked) → IsSeen u.layout.pages a c kind va walk late → spot_of kind va walk ≡ s
        → ((memory : Memory) → outcome memory (one_page (width_of wide) s) ≡ fault_outcome cause tval) → AwaitsBut others (pages_of kind s) u a late → Ends u a l (Counted others (own_executed (only (Answer.Fault cause tval)) o) m b' (regime c) u a)
    fault_served o p m b b' cause tval s u a l hart wants is late grows tells clear walk seen e out awaits =
        ends_then u a l late (Counted others (own_executed (only (Answer.Fault cause tval)) o) m b' (regime c) u a) grows
        (quiet_exec others o m b' (regime c) c need (Answer.Fault cause tval) walk walk u a late tells clear wants hart (aligned_seen u.layout.pages a walk late is seen) (λ w. n.calm w a)
        (λ w may. sym (aligned_performs w a walk walk s is e ∙ out w.memory)) (aligned_awaits u a walk s late is e awaits))

    -- the access ended before a word was touched
    pub unplaced_served : (o : Own) (p m : Shown) (b b' : Book) (got : Got) (u : Setup) (a : ℕ) (l : Log) → IsBeside b p → a < u.layout.harts → Wants o c need → Tells o p b (regime c) u a l → owed l ≡ nothing → AwaitsAtMost others u a l
        → HasPlaced p m b b' (regime c) kind va wide (Err got) → Ends u a l (Served others o got m b' (regime c) u a)
    unplaced_served o p m b b' got u a l can hart wants t idle settled (at_none is same book) =
        subst (λ (y : Shown). Ends u a l (Counted others (own_executed (only (Answer.Fault (misaligned kind) va)) o) y b' (regime c) u a)) (sym same)
        (subst (λ (y : Book). Ends u a l (Counted others (own_executed (only (Answer.Fault (misaligned kind) va)) o) p y (regime c) u a)) (sym book)
        (quiet_exec others o p b (regime c) c need (Answer.Fault (misaligned kind) va) Walked.PageFault Walked.PageFault u a l t idle wants hart
        (subst (λ (x : Option Wanted). SeenFor u.layout.pages a c x Walked.PageFault Walked.PageFault l) (sym (n.wants ∙ ap (λ (y : Bool). if y then None else Some (record { kind = kind; va = va; width = width_of wide })) is)) tt)
        (λ w. n.calm w a)
        (λ w may. sym (n.performs w a Walked.PageFault Walked.PageFault ∙ ap (λ (y : Bool). if y then fault_outcome (misaligned kind) va else outcome w.memory (reach kind va (width_of wide) Walked.PageFault Walked.PageFault)) is))
        (λ page free out. settled page free)))
    unplaced_served o p m b b' got u a l can hart wants t idle settled (on_device {pa} is call) =
        let d = led o p m b b' c kind va (gives.Device pa) u a l can call t in
        let to = d.leads_to tt in
        fault_served o p m b b' (access_fault kind) va (AtDevice pa) u a l hart wants is (quietly d.added l) d.grows d.tells d.clear to.walk to.seen to.spot_is (λ memory. n.on_devices memory pa) (λ page free out. d.marks page out ∙ settled page free)
    unplaced_served o p m b b' got u a l can hart wants t idle settled (faults {cause} {tval} is call) =
        let d = led o p m b b' c kind va (gives.Fault cause tval) u a l can call t in
        let to = d.leads_to tt in
        fault_served o p m b b' cause tval (Faults cause tval) u a l hart wants is (quietly d.added l) d.grows d.tells d.clear to.walk to.seen to.spot_is (λ memory. n.at_faults memory cause tval) (λ page free out. d.marks page out ∙ settled page free)
    unplaced_served o p m b b' got u a l can hart wants t idle settled (is_busy {busy} is call) =
        let d = led o p m b b' c kind va (gives.Busy busy) u a l can call t in
        ends_then u a l (quietly d.added l) (MayGiveUp others o m b' (regime c) u a) d.grows
        (give_up others o m b' (regime c) c need [] u a (quietly d.added l) d.tells d.clear wants tt
        (subst (λ (x : Option Wanted). AwaitsBut others (of_store x (λ w. pages_walked w [])) u a (quietly d.added l)) (sym (aligned_wants is)) (λ page free out. d.marks page out ∙ settled page free)))

    -- or its word was found
    pub record Come (o : Own) (m : Shown) (b' : Book) (pa : ℕ) (u : Setup) (a : ℕ) (l : Log) : Type 0 where
      pub late : Log
      pub grows : Grows u a l late
      pub tells : Tells o m b' (regime c) u a late
      pub clear : owed late ≡ nothing
      pub walk : Walked
      pub seen : IsSeen u.layout.pages a c kind va walk late
      pub aligned : is_misaligned wide va ≡ false
      pub within : pa % 8 + width_of wide ≤ 8
      pub above : 2 ^ 31 ≤ pa
      pub awaits : AwaitsBut others (exec_pages need walk walk) u a late
      pub made : SeenMade u.layout.pages a c (access_of need) (walk ∷ []) late
      pub awaits_given : AwaitsBut others (given_up_pages need (walk ∷ [])) u a late
      pub performed : (w : Surroundings) → perform w a c walk walk need ≡ outcome w.memory (InRam (One (ram_word pa) (pa % 8) (width_of wide)))

    aligned_within : (wide : Bool) (pa va : ℕ) → is_misaligned wide va ≡ false → pa % 4096 ≡ va % 4096 → pa % 8 + width_of wide ≤ 8
    aligned_within true pa va is same = let z : va % 8 ≡ 0 = grind (arith, is) in omega (arith, z, same)
    aligned_within false pa va is same = let z : va % 4 ≡ 0 = grind (arith, is) in omega (arith, z, same)

    pub come : (o : Own) (p m : Shown) (b b' : Book) (pa : ℕ) (u : Setup) (a : ℕ) (l : Log) → IsBeside b p → Tells o p b (regime c) u a l → AwaitsAtMost others u a l → HasPlaced p m b b' (regime c) kind va wide (Ok pa) → Come o m b' pa u a l
    come o p m b b' pa u a l can t settled (in_ram is call) =
        let d = led o p m b b' c kind va (gives.Ram pa) u a l can call t in
        let to = d.leads_to tt in
        let placed = placed_led others o p m b b' c kind va (gives.Ram pa) u a l call t in
        let within = aligned_within wide pa va is placed.offset in
        let awaits : AwaitsBut others (pages_of kind (AtRam pa)) u a (quietly d.added l) = λ page free out. d.marks page out ∙ settled page free in record {
          late = quietly d.added l;
          grows = d.grows;
          tells = d.tells;
          clear = d.clear;
          walk = to.walk;
          seen = to.seen;
          aligned = is;
          within = within;
          above = placed.there.above;
          awaits = aligned_awaits u a to.walk (AtRam pa) (quietly d.added l) is to.spot_is awaits;
          made = subst (λ (x : Option Wanted). SeenMade u.layout.pages a c x (to.walk ∷ []) (quietly d.added l)) (sym (aligned_wants is)) to.seen;
          awaits_given = subst (λ (x : Option Wanted). AwaitsBut others (of_store x (λ w. pages_walked w (to.walk ∷ []))) u a (quietly d.added l)) (sym (aligned_wants is))
              (subst (λ (y : Spot). AwaitsBut others (pages_of kind y) u a (quietly d.added l)) (sym to.spot_is) awaits);
          performed = λ w. aligned_performs w a to.walk to.walk (AtRam pa) is to.spot_is
              ∙ ap (λ (le : Bool). outcome w.memory (InRam (if le then One (ram_word pa) (pa % 8) (width_of wide) else Two (ram_word pa) (ram_word pa + 1) (pa % 8) (width_of wide)))) (le-leb (pa % 8 + width_of wide) 8 within);
        }
