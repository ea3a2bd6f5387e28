-- Turns of sources, one behind another.
use Rattle.std.proofs.Common.{◌≡◌, ◌≢◌, ℕ, ◌+◌, ◌*◌, ◌≤◌, ◌⊎◌, Bool, sym, subst, arith}
use Rattle.step_laws.specs.Words.{monitor}
use Rattle.guest_ram.specs.Areas.{IsOfService}
use Rattle.guest_ram.specs.Ports.{Shown, GoesBy}
use Rattle.guest_ram.proofs.Moves.{goes_then, goes_at_most}
use Rattle.tlb_entry.specs.declared.books.Book.{Book}
use Rattle.flush.specs.Flushed.{full_steps}
use Rattle.work_queue.specs.declared.rings.Served.{Served}
use Rattle.work_queue.specs.Acks.{HasFoundNone}
use Rattle.work_queue.specs.Rings.{next_ack}
use Rattle.request_serving.specs.Served.{HasMoved, nobody, idle}

pub moved_idle : (source : ℕ) (s s' : Served) (p q : Shown) (b b' : Book) (any : Bool) → HasFoundNone source (next_ack s source) p q → b' ≡ b → s' ≡ s → HasMoved source s p b any s' q b' any
moved_idle source s s' p q b b' any found same stays = subst (λ (t : Served). HasMoved source s p b any t q b' any) (sym stays) (subst (λ (c : Book). HasMoved source s p b any s q c any) (sym same) (idle found))

pub moved_absent : (source own harts : ℕ) (s : Served) (p : Shown) (b : Book) (any : Bool) → own ≡ p.own.actor → harts ≡ p.machine.layout.harts → (source ≡ own) ⊎ ((harts ≤ source) × (source ≢ monitor)) → HasMoved source s p b any s p b any
moved_absent source own harts s p b any actor few absent = nobody (subst (λ a. (source ≡ a) ⊎ ((p.machine.layout.harts ≤ source) × (source ≢ monitor))) actor (subst (λ h. (source ≡ own) ⊎ ((h ≤ source) × (source ≢ monitor))) few absent))

more_times : (a n : ℕ) → n * a + a ≡ (n + 1) * a
more_times a n = grind arith

-- how many steps so far
pub goes_more : (n size most : ℕ) (p q r : Shown) → size ≤ most → GoesBy (n * (full_steps most + 388)) IsOfService p q → GoesBy (full_steps size + 388) IsOfService q r → GoesBy ((n + 1) * (full_steps most + 388)) IsOfService p r
goes_more n size most p q r le before now = goes_at_most (n * (full_steps most + 388) + (full_steps size + 388)) _ IsOfService _ _ (let e = more_times (full_steps most + 388) n in omega (arith, e, le)) (goes_then _ _ IsOfService _ _ _ before now)

-- at most nine of them
pub goes_all : (n most : ℕ) (p q : Shown) → n ≤ 9 → GoesBy (n * (full_steps most + 388)) IsOfService p q → GoesBy (9 * (full_steps most + 388)) IsOfService p q
goes_all n most p q le goes = goes_at_most (n * (full_steps most + 388)) _ IsOfService _ _ (few n le) goes
  where
    few : (n : ℕ) → n ≤ 9 → n * (full_steps most + 388) ≤ 9 * (full_steps most + 388)
    few n le = grind arith
