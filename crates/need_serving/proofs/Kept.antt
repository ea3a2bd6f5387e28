-- Which walks the own entries are of behind what a need did.
use Rattle.std.proofs.Common.{◌≡◌, ℕ, ◌+◌, Bool, true, false, List, [], ◌++◌, sym, ap, subst}
use Rattle.rv64_priv.specs.declared.state.Regime.{Regime}
use Rattle.rv64_exec.specs.declared.needs.FlushOf.{FlushOf}
use Rattle.rv64_exec.specs.declared.needs.Need.{Need}
use Rattle.rv64_priv.specs.Flush.{Full, Pages}
use Rattle.step_laws.specs.declared.steps.WordOp.TheVariants.{Exchange}
use Rattle.step_laws.specs.declared.steps.Step.{Step}
use Rattle.step_laws.specs.Map.{Word, Stop, Live, Cons, Ipi, Kick, Hsm, Lock, Start, Opaque, Console, Ram}
use Rattle.guest_ram.specs.Areas.{IsOfCalls}
use Rattle.guest_ram.specs.Ports.{Shown, GoesBy}
use Rattle.guest_ram.proofs.Moves.{goes_made}
use Rattle.tlb_entry.specs.declared.books.Book.{Book}
use Rattle.tlb_table.proofs.Aside.{IsOffTable}
use Rattle.tlb_fill.proofs.Marking.{same_goes}
use Rattle.kept_fills.proofs.Staying.{fills_stay}
use Rattle.walk_laws.specs.KeptWalks.{made_all}
use Rattle.flush.specs.Flushed.{HasBeenBusy, HasFlushed, behind_flush}
use Rattle.guest_access.specs.Reaching.{GoesOn, KnowsFills}
use Rattle.hart_calls.specs.Called.{IsOfHartCalls}
use Rattle.need_serving.specs.declared.ends.NeedEnd.{NeedEnd}
use Rattle.need_serving.specs.declared.ends.NeedEnd.TheVariants as ends
use Rattle.need_serving.specs.Ends.{MayHaveAfter}
use Rattle.need_serving.specs.Serving.{HasFlushedOne, flushes, held}

-- over steps on no word of a table
pub fills_goes : (n : ℕ) (A : Word → Type 0) (b : Book) (r : Regime) (p q : Shown) → ((w : Word) → A w → IsOffTable w) → GoesBy n A p q → KnowsFills b r p → KnowsFills b r q
fills_goes n A b r p q aside goes k = record {
  items = made_all goes.added ++ k.items;
  fills = k.fills;
  goes = fills_stay p q b r k.items k.fills goes.added (ap (λ (x : Shown). x.own.steps) goes.grown) (same_goes n A p q aside goes) k.goes;
}

pub fills_still : (b b' : Book) (r : Regime) (p q : Shown) → q ≡ p → b' ≡ b → KnowsFills b r p → KnowsFills b' r q
fills_still b b' r p q same book k = subst (λ (x : Shown). KnowsFills b' r x) (sym same) (subst (λ (c : Book). KnowsFills c r p) (sym book) k)

calls_off : (w : Word) → IsOfCalls w → IsOffTable w
calls_off Ipi t = tt
calls_off (Kick h) t = tt
calls_off w t = absurd t

pub fills_pending : (b : Book) (r : Regime) (p q : Shown) → GoesBy 1 IsOfCalls p q → KnowsFills b r p → KnowsFills b r q
fills_pending b r p q goes k = fills_goes 1 IsOfCalls b r p q calls_off goes k

hart_calls_off : (w : Word) → IsOfHartCalls w → IsOffTable w
hart_calls_off Stop t = tt
hart_calls_off Live t = tt
hart_calls_off Cons t = tt
hart_calls_off Ipi t = tt
hart_calls_off (Hsm h) t = tt
hart_calls_off (Start h) t = tt
hart_calls_off (Opaque h) t = tt
hart_calls_off (Console i) t = tt
hart_calls_off (Ram i) t = tt
hart_calls_off w t = absurd t

pub fills_call : (b : Book) (r : Regime) (p q : Shown) → GoesBy 769 IsOfHartCalls p q → KnowsFills b r p → KnowsFills b r q
fills_call b r p q goes k = fills_goes 769 IsOfHartCalls b r p q hart_calls_off goes k

pub fills_access : (b b' : Book) (r : Regime) (p q : Shown) → GoesOn p q b b' r → KnowsFills b r p → KnowsFills b' r q
fills_access b b' r p q on k = let x = on k.items k.fills k.goes in record { items = made_all x.added ++ k.items; fills = x.more ++ k.fills; goes = x.goes }

-- behind a flush
flushed_as : (large : Bool) (b b' : Book) (r : Regime) (p q : Shown) (page : ℕ) → HasFlushed large p q b b' page 1 → (added : List Step) → q.own.steps ≡ added ++ p.own.steps → KnowsFills b r p → KnowsFills b' r q
flushed_as true b b' r p q page f added is k = record { items = behind_flush Full added k.items; fills = []; goes = f.goes added r r k.items k.fills is k.goes }
flushed_as false b b' r p q page f added is k = record { items = behind_flush (Pages page 1) added k.items; fills = k.fills; goes = f.goes added r k.items k.fills is k.goes }

abbrev IsLockWord : Word → Type 0
IsLockWord (Lock h) = Unit {0}
IsLockWord w = ⊥

pub fills_flush : (what : FlushOf) (end : NeedEnd) (b b' : Book) (r later : Regime) (p q : Shown) → HasFlushedOne p q b b' what end → MayHaveAfter (Need.Flush what) end r later → KnowsFills b r p → KnowsFills b' later q
fills_flush FlushOf.All end b b' r later p q (flushes f goes) any k =
    record { items = behind_flush Full goes.added k.items; fills = []; goes = f.goes goes.added r later k.items k.fills (ap (λ (x : Shown). x.own.steps) goes.grown) k.goes }
fills_flush (FlushOf.Page page) end b b' r later p q (flushes f goes) same k =
    subst (λ (x : Regime). KnowsFills b' x q) (sym same) (flushed_as b.large b b' r p q page f goes.added (ap (λ (x : Shown). x.own.steps) goes.grown) k)
fills_flush what end b b' r later p q (held busy f) same k = subst (λ (x : Regime). KnowsFills b' x q) (sym (stays what same)) (subst (λ (c : Book). KnowsFills c r q) (sym f.book) (busy_fills b r p q busy.holder f k))
  where
    stays : (w : FlushOf) → MayHaveAfter (Need.Flush w) (ends.Busy busy) r later → later ≡ r
    stays FlushOf.All e = e
    stays (FlushOf.Page page) e = e

    lock_off : (w : Word) → IsLockWord w → IsOffTable w
    lock_off (Lock h) t = tt
    lock_off w t = absurd t

    busy_fills : (b : Book) (r : Regime) (p q : Shown) (holder : ℕ) → HasBeenBusy holder p q b b' → KnowsFills b r p → KnowsFills b r q
    busy_fills b r p q holder f k = let m = f.found.1 in fills_goes 1 IsLockWord b r p q lock_off (goes_made IsLockWord p q (Lock b.hart) (Exchange 0) (p.own.actor + 1) holder m tt) k
