-- A fetch: what goes with its hart behind it.
use Rattle.std.proofs.Common.{◌≡◌, ℕ, ◌++◌, None, sym, ◌∙◌}
use Rattle.rv64_priv.specs.Csr.{regime}
use Rattle.rv64_priv.specs.Trap.{trapped}
use Rattle.step_laws.specs.Map.{Word, Dirty, Lock, Ram, Size, Tlb}
use Rattle.guest_ram.specs.Areas.{IsAside}
use Rattle.guest_ram.specs.Ports.{GoesBy, Shown}
use Rattle.guest_ram.proofs.Moves.{actor_goes, stands_goes}
use Rattle.walk_laws.specs.KeptWalks.{made_all}
use Rattle.tlb_entry.specs.declared.books.Book.{Book}
use Rattle.tlb_lock.specs.declared.lock.Busy.{Busy}
use Rattle.tlb_fill.specs.Stepping.{IsOfFill}
use Rattle.guest_access.specs.Reaching.{CanAccess, GoesOn, KnowsFills}
use Rattle.code_fetch.specs.Fetching.{HasFetched}
use Rattle.code_fetch.specs.declared.fetching.Fetched.TheVariants as comes
use Rattle.work_queue.proofs.Ringed.{IsNoPlace, sent_goes, served_goes}
use Rattle.hart_signals.proofs.Aside.{IsOffStates, opening_goes, owing_goes, running_goes}
use Rattle.turn_pieces.specs.Writers.{quietly}
use Rattle.fetch_pieces.proofs.Fetching.{fetches_are_logged}
use Rattle.signal_pieces.specs.Signalling.{nobody}
use Rattle.hart_turn.specs.declared.hart.Call.{Call}
use Rattle.hart_turn.specs.declared.hart.Hart.{Hart}
use Rattle.hart_turn.specs.Harts.{GoesWith, own_of}
use Rattle.hart_turn.specs.Executing.{FetchesOn}
use Rattle.hart_turn.proofs.Aside.{IsNoEnd, call_goes, stand_as, stop_goes}
use Rattle.hart_turn.proofs.Looks.{call_none}
use Rattle.hart_turn.proofs.Draws.{fill_neither}
use Rattle.hart_turn.proofs.Said.{said_goes}

fill_aside : (w : Word) → IsOfFill w → IsAside w
fill_aside (Ram i) t = tt
fill_aside (Dirty i) t = tt
fill_aside (Lock h) t = tt
fill_aside (Size h) t = tt
fill_aside (Tlb h j f) t = tt
fill_aside w t = absurd t

fill_states : (w : Word) → IsOfFill w → IsOffStates w
fill_states (Ram i) t = tt
fill_states (Dirty i) t = tt
fill_states (Lock h) t = tt
fill_states (Size h) t = tt
fill_states (Tlb h j f) t = tt
fill_states w t = absurd t

fill_no_place : (w : Word) → IsOfFill w → IsNoPlace w
fill_no_place (Ram i) t = tt
fill_no_place (Dirty i) t = tt
fill_no_place (Lock h) t = tt
fill_no_place (Size h) t = tt
fill_no_place (Tlb h j f) t = tt
fill_no_place w t = absurd t

fill_no_end : (w : Word) → IsOfFill w → IsNoEnd w
fill_no_end (Ram i) t = tt
fill_no_end (Dirty i) t = tt
fill_no_end (Lock h) t = tt
fill_no_end (Size h) t = tt
fill_no_end (Tlb h j f) t = tt
fill_no_end w t = absurd t

-- by whatever fills the book went with the record
pub knows_on : (p q : Shown) (b b' : Book) (h : Hart) → GoesOn p q b b' (regime h.arch) → KnowsFills b (regime h.arch) p → KnowsFills b' (regime h.arch) q
knows_on p q b b' h on k = let x = on k.items k.fills k.goes in record { items = made_all x.added ++ k.items; fills = x.more ++ k.fills; goes = x.goes }

module _ (h : Hart) (book : Book) (p q : Shown) (can : GoesWith h p) where
  pub with_fetch : CanAccess book q → GoesOn p q h.book book (regime h.arch) → GoesBy 16 IsOfFill p q → GoesWith (record h { book = book }) q
  with_fetch access on goes = record {
    beside = access.beside;
    fills = knows_on p q h.book book h on can.fills;
    number = can.number ∙ sym (actor_goes 16 IsOfFill p q goes);
    runs = running_goes 16 IsOfFill p q fill_states goes ∙ can.runs;
    free = opening_goes 16 IsOfFill p q fill_states goes ∙ can.free;
    paid = owing_goes 16 IsOfFill p q fill_states goes ∙ can.paid;
    stands = (let x = stand_as h p q can.stands (stands_goes 16 IsOfFill p q fill_aside goes) in record { phase_is = x.phase_is; claim_is = x.claim_is; quantum = x.quantum });
    sent = sent_goes 16 IsOfFill p q fill_no_place goes h.sent can.sent;
    served = served_goes 16 IsOfFill p q fill_no_place goes h.served can.served;
    below = λ unsaid. can.below (sym (stop_goes 16 IsOfFill p q fill_no_end goes) ∙ unsaid);
    call = call_goes 16 IsOfFill h.call h.sent h.arch p q goes can.call;
    stopped = can.stopped;
  }

module _ (h : Hart) (book : Book) (p q : Shown) (access : CanAccess h.book p) (goes : GoesBy 16 IsOfFill p q) where
  pub word_works : (word : ℕ) → HasFetched p q h.book book (regime h.arch) h.arch.pc (comes.Word word) → FetchesOn (comes.Word word) h (record h { book = book }) p q
  word_works word fetched code is decodes u a l x =
      let y = fetches_are_logged p q h.book book h.arch (comes.Word word) access fetched nobody (own_of h None) u a l x.may code is decodes in record {
        late = _;
        grows = y.grows;
        holds = record { limit_is = x.limit_is; rests = y.rests; not_due = y.due_is; said = said_goes 16 IsOfFill p q u a l _ fill_neither goes x.may.rests.tells.tells.stands.is y.rests.tells.tells.stands.is y.grows x.said };
      }

  pub fault_works : (cause tval : ℕ) → HasFetched p q h.book book (regime h.arch) h.arch.pc (comes.Fault cause tval) → h.call ≡ Call.Nothing → FetchesOn (comes.Fault cause tval) h (record h { arch = trapped h.arch cause tval; book = book }) p q
  fault_works cause tval fetched free u a l x =
      let y = fetches_are_logged p q h.book book h.arch (comes.Fault cause tval) access fetched nobody (own_of h None) u a l x.may in record {
        late = _;
        grows = y.grows;
        holds = record { limit_is = x.limit_is; settles = record { tells = y.rests.tells; settled = y.rests.settled }; due_is = y.due_is; free = free; said = said_goes 16 IsOfFill p q u a l _ fill_neither goes x.may.rests.tells.tells.stands.is y.rests.tells.tells.stands.is y.grows x.said };
      }

  pub held_fetch : (busy : Busy) → HasFetched p q h.book book (regime h.arch) h.arch.pc (comes.Busy busy) → h.call ≡ Call.Nothing → FetchesOn (comes.Busy busy) h (record h { book = book }) p q
  held_fetch busy fetched free u a l x =
      let y = fetches_are_logged p q h.book book h.arch (comes.Busy busy) access fetched nobody (own_of h None) u a l x.may in record {
        late = quietly y.added l;
        grows = y.grows;
        holds = record {
          limit_is = x.limit_is;
          held = None;
          settles = record { tells = y.may.rests.tells; settled = y.may.rests.settled };
          not_due = y.may.not_due;
          said = said_goes 16 IsOfFill p q u a l (quietly y.added l) fill_neither goes x.may.rests.tells.tells.stands.is y.may.rests.tells.tells.stands.is y.grows x.said;
          call = call_none h.call h.sent h.arch q a (quietly y.added l) free;
        };
      }
