-- Laws of a hart's own table: what flushes are to its log, and when it hits.
use Rattle.std.specs.Prelude.{◌≡◌, ◌≢◌, ℕ, ◌<◌, Bool, true, false, Result}
use Rattle.rv64_priv.specs.declared.state.Kind.{Kind}
use Rattle.rv64_priv.specs.declared.state.Regime.{Regime}
use Rattle.rv64_priv.specs.Flush.{Full}
use Rattle.step_laws.specs.declared.map.TlbField.{TlbField}
use Rattle.step_laws.specs.Map.{Tlb}
use Rattle.step_laws.specs.Discipline.{IsDisciplined}
use Rattle.step_laws.specs.Layout.{IsInLimits}
use Rattle.step_laws.specs.Tables.{held_lock, size_of, table_word}
use Rattle.machine_model.specs.Own.{Own}
use Rattle.machine_model.specs.State.{Setup}
use Rattle.guest_ram.specs.Areas.{IsOfTable}
use Rattle.guest_ram.specs.Ports.{Shown, GoesBy, layout_of}
use Rattle.tlb_entry.specs.declared.books.Book.{Book}
use Rattle.tlb_entry.specs.Compare.{field_of, hit}
use Rattle.tlb_entry.specs.Kept.{kept}
use Rattle.tlb_table.specs.Lookups.{slot}
use Rattle.kept_fills.specs.Beside.{IsBeside, OwesNothing}
use Rattle.kept_fills.specs.Fills.{HasSameTable}
use Rattle.machine_model.specs.Access.{crosses_page, second_va}
use Rattle.guest_access.specs.Atomics.{HasPlaced}
use Rattle.guest_access.specs.Reaching.{HasReached}
use Rattle.guest_access.specs.declared.outcomes.Got.{Got}
use Rattle.guest_access.specs.declared.reaching.Place.{Place}
use Rattle.flush.specs.Flushed.{HasBeenBusy, HasFlushed, HasFlushedAll}
use Rattle.tlb_fill.specs.Answered.{HitsKept, HitsNow}
use Rattle.tlb_fill.specs.Stepping.{HasTranslated, IsOfHit}
use Rattle.tlb_fill.specs.declared.translation.Translated.{Translated}
use Rattle.turn_pieces.specs.Grows.{Part}
use Rattle.turn_pieces.specs.Log.{Log}
use Rattle.access_pieces.specs.Serving.{Rests}
use Rattle.table_pieces.specs.Flushing.{IsNotDue, IsPlaced, flush_made}
use Rattle.table_pieces.specs.Hitting.{HasHitTable, HasMissedTable}

-- a flush of everything is in each log that told of the port before, whatever regime comes behind it
abbrev pub FullIsPlaced : Type 0
FullIsPlaced = (p q : Shown) (b b' : Book) (r later : Regime) (most : ℕ) → IsBeside b p → HasFlushedAll p q b b' → GoesBy most IsOfTable p q
    → (others : ℕ → Bool) (o : Own) (u : Setup) (a : ℕ) (l : Log) → Rests others o p b r u a l → IsNotDue o u a l → IsPlaced others o p q b' later Full u a l

-- a flush of pages, which may have been made full
abbrev pub PagesArePlaced : Type 0
PagesArePlaced = (p q : Shown) (b b' : Book) (r : Regime) (page count most : ℕ) → IsBeside b p → HasFlushed b.large p q b b' page count → GoesBy most IsOfTable p q
    → (others : ℕ → Bool) (o : Own) (u : Setup) (a : ℕ) (l : Log) → Rests others o p b r u a l → IsNotDue o u a l → IsPlaced others o p q b' r (flush_made b.large page count) u a l

-- one that found the lock held
abbrev pub BusyRests : Type 0
BusyRests = (p q : Shown) (b b' : Book) (r : Regime) (holder : ℕ) → IsBeside b p → HasBeenBusy holder p q b b' → (others : ℕ → Bool) (o : Own) → Part (Rests others o p b r) (Rests others o q b' r)

-- where it hits for each page of an access, no step on RAM is made before the access's own, and the table is as it was
abbrev pub AccessesHit : Type 0
AccessesHit = (p q : Shown) (b b' : Book) (r : Regime) (kind : Kind) (va width : ℕ) (section : Bool) (x : Result Place Got) → HasReached p q b b' r kind va width section x → HitsKept p b.size r va kind
    → (crosses_page va width ≡ true → HitsKept p b.size r (second_va va) kind) → GoesBy 12 IsOfHit p q × HasSameTable p q × (b' ≡ b)

-- so of atomic accesses, which lie within a page
abbrev pub AtomicsHit : Type 0
AtomicsHit = (p q : Shown) (b b' : Book) (r : Regime) (kind : Kind) (va : ℕ) (wide : Bool) (x : Result ℕ Got) → HasPlaced p q b b' r kind va wide x → HitsKept p b.size r va kind
    → GoesBy 6 IsOfHit p q × HasSameTable p q × (b' ≡ b)

-- a hart whose whole record keeps to the discipline owes no words to clear while it holds no lock
abbrev pub DisciplineClears : Type 0
DisciplineClears = (p : Shown) → p.own.actor < (layout_of p).harts → IsInLimits (layout_of p) → IsDisciplined (layout_of p) p.own.actor p.own.runs p.own.steps → held_lock p.own.steps ≡ 0 → OwesNothing p

-- behind an answer the table hits
abbrev pub AnswersHit : Type 0
AnswersHit = (p q : Shown) (b b' : Book) (r : Regime) (va : ℕ) (kind : Kind) (t : Translated) → IsBeside b p → HasTranslated p q b b' r va kind t → HitsNow q b.size r va kind t

-- no slot changes but the address's own, and the table has as many as before
abbrev pub OthersStay : Type 0
OthersStay = (p q : Shown) (b b' : Book) (r : Regime) (va : ℕ) (kind : Kind) (t : Translated) → IsBeside b p → HasTranslated p q b b' r va kind t
    → (size_of q.own.actor q.own.steps ≡ size_of p.own.actor p.own.steps)
    × ((other : ℕ) (field : TlbField) → other ≢ slot va b.size → table_word (Tlb q.own.actor other field) q.own.steps ≡ table_word (Tlb p.own.actor other field) p.own.steps)

-- the table as the hart's own stores left it hits, or doesn't
abbrev pub HitsAreLoads : Type 0
HitsAreLoads = (p q : Shown) (b b' : Book) (r : Regime) (va : ℕ) (kind : Kind) (t : Translated) → HitsKept p b.size r va kind → HasTranslated p q b b' r va kind t → HasHitTable p q b b' va kind t

abbrev pub MissesWalk : Type 0
MissesWalk = (p q : Shown) (b b' : Book) (r : Regime) (va : ℕ) (kind : Kind) (t : Translated) → hit (kept p.own.actor (slot va b.size) (field_of kind) p.own.steps) va r.user ≡ false
    → HasTranslated p q b b' r va kind t → HasMissedTable p q b b' r va kind t
