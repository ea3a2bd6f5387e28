-- A request that was loaded and flushed for may be acked.
use Rattle.std.proofs.Common.{◌≡◌, ℕ, ◌+◌, ◌<◌, ◌⊎◌, inl, inr, ⊎_elim, Bool, true, false, List, [], ◌∷◌, ◌++◌, refl, sym, ap, subst, ◌∙◌, arith}
use Rattle.rv64_priv.specs.Flush.{Full, Pages}
use Rattle.step_laws.specs.declared.request.Request.{Request}
use Rattle.step_laws.specs.declared.request.Request.TheVariants.{FlushAll, FlushPages, Drain}
use Rattle.step_laws.specs.declared.steps.Step.{Step}
use Rattle.step_laws.specs.declared.steps.WordOp.{WordOp}
use Rattle.step_laws.specs.declared.steps.WordOp.TheVariants.{Store, Exchange}
use Rattle.step_laws.specs.Discipline.{IsAway, IsFetch, IsUnlock}
use Rattle.step_laws.specs.Fields.{IsRequest, compare_page, invalid_bit}
use Rattle.step_laws.specs.Map.{Word, Lock, Place, Size, Tlb, name_of}
use Rattle.step_laws.specs.Past.{Anything, Since, here, past}
use Rattle.step_laws.specs.Tables.{IsClean, IsNamed, is_victim, size_of, table_next, table_word}
use Rattle.guest_ram.specs.Areas.{IsOfTable}
use Rattle.guest_ram.specs.Ports.{Shown, Made, GoesBy}
use Rattle.tlb_entry.specs.declared.books.Book.{Book}
use Rattle.tlb_lock.specs.Locking.{HasFreed}
use Rattle.kept_fills.specs.Fills.{HasSameTable}
use Rattle.kept_fills.proofs.Staying.{fills_stay}
use Rattle.walk_laws.specs.KeptWalks.{made_all}
use Rattle.flush.specs.Flushed.{HasBeenBusy, HasFlushed, HasFlushedAll, HasFlushedPages, behind_flush}
use Rattle.work_queue.specs.Acks.{IsLoaded, MayAck}
use Rattle.work_queue.proofs.Acked.{drain_served}
use Rattle.request_serving.specs.Served.{HasFills, HasFlushedFor}
use Rattle.request_serving.proofs.Aside.{loaded_goes}

-- a step on a lock leaves each word of a table
lock_aside : (v w : Word) (h : ℕ) (op : WordOp) (arg answer n : ℕ) → w ≡ Lock h → table_next v w op arg answer n ≡ n
lock_aside v w h op arg answer n e = ap (λ x. table_next v x op arg answer n) e ∙ off v
  where
    off : (v : Word) → table_next v (Lock h) op arg answer n ≡ n
    off (Tlb i j f) = refl
    off (Size i) = refl
    off v = refl

word_before : (p q : Shown) (h : ℕ) (v : Word) → HasFreed h p q → table_word v q.own.steps ≡ table_word v p.own.steps
word_before p q h v freed = ap (λ (x : Shown). table_word v x.own.steps) freed.step ∙ lock_aside v (name_of freed.word) h Store 0 0 (table_word v p.own.steps) freed.name

-- what is clean once the lock is freed was clean before
clean_before : (p q : Shown) (h a request : ℕ) → HasFreed h p q → IsClean a request q.own.steps → IsClean a request p.own.steps
clean_before p q h a request freed clean j f compare within =
    subst (λ n. (invalid_bit n ≡ 1) ⊎ (IsNamed request (compare_page n) → ⊥)) (word_before p q h (Tlb a j f) freed)
    (clean j f compare (⊎_elim (λ (less : j < size_of a p.own.steps). inl (subst (λ n. j < n) (sym (word_before p q h (Size a) freed)) less)) (λ (victim : is_victim j ≡ true). inr victim) within))

-- a load of a place stands before the step that freed the lock
since_before : (p q : Shown) (h a s k n : ℕ) → HasFreed h p q → Since (IsAway (Place a s k)) (IsFetch (Place a s k) n) Anything q.own.steps → Since (IsAway (Place a s k)) (IsFetch (Place a s k) n) Anything p.own.steps
since_before p q h a s k n freed since = rest _ freed.name (subst (λ (x : Shown). Since (IsAway (Place a s k)) (IsFetch (Place a s k) n) Anything x.own.steps) freed.step since)
  where
    rest : (x : Step) → name_of x.word ≡ Lock h → Since (IsAway (Place a s k)) (IsFetch (Place a s k) n) Anything (x ∷ p.own.steps) → Since (IsAway (Place a s k)) (IsFetch (Place a s k) n) Anything p.own.steps
    rest x e (here f all) = absurd (subst IsOfTable (sym e ∙ f.0) tt)
    rest x e (past away more) = more

-- the request was served by a section of the own lock
flush_served : (p q : Shown) (request : Request) (h s k : ℕ) → IsRequest request → (l : IsLoaded request s k q) → h ≡ q.own.actor → HasFreed h p q → IsClean q.own.actor l.word q.own.steps → MayAck s k q
flush_served p q request h s k is l own freed clean = record {
  word = l.word;
  is_word = (request, is, l.is_word);
  loaded = l.loaded;
  served = inr (subst (λ (x : Shown). Since (IsAway (Place q.own.actor s k)) (IsUnlock q.own.actor) (λ xs. IsClean q.own.actor l.word xs × Since (IsAway (Place q.own.actor s k)) (IsFetch (Place q.own.actor s k) l.word) Anything xs) x.own.steps) (sym freed.step)
      (here (freed.name ∙ ap (λ a. Lock a) own, refl, refl) (clean_before p q h q.own.actor l.word freed clean, since_before p q h q.own.actor s k l.word freed l.since)));
}

all_served : (p q : Shown) (b b' : Book) (request : Request) (s k : ℕ) → b.hart ≡ q.own.actor → IsRequest request → IsLoaded request s k q → HasFlushedAll p q b b' → MayAck s k q
all_served p q b b' request s k own is l f = flush_served f.ended.0 q request b.hart s k is l own f.ended.1 (f.clean l.word)

pages_served : (p q : Shown) (b b' : Book) (page count s k : ℕ) → b.hart ≡ q.own.actor → IsRequest (FlushPages page count) → IsLoaded (FlushPages page count) s k q → HasFills b p → HasFlushedPages p q b b' page count → MayAck s k q
pages_served p q b b' page count s k own is l fills f = let word = l.is_word in
    flush_served f.ended.0 q (FlushPages page count) b.hart s k is l own f.ended.1 (f.clean fills.0 fills.1 fills.2 l.word fills.3 (word.0, omega (arith, word.2), omega (arith, word.1, word.2)))

either_served : (p q : Shown) (b b' : Book) (page count s k : ℕ) (large : Bool) → b.hart ≡ q.own.actor → IsRequest (FlushPages page count) → IsLoaded (FlushPages page count) s k q → HasFills b p → HasFlushed large p q b b' page count → MayAck s k q
either_served p q b b' page count s k true own is l fills f = all_served p q b b' (FlushPages page count) s k own is l f
either_served p q b b' page count s k false own is l fills f = pages_served p q b b' page count s k own is l fills f

pub served : (n : ℕ) (p q : Shown) (b b' : Book) (request : Request) (s k : ℕ) → b.hart ≡ p.own.actor → IsRequest request → IsLoaded request s k p → HasFills b p → GoesBy n IsOfTable p q → HasFlushedFor request p q b b' → MayAck s k q
served n p q b b' FlushAll s k own is l fills goes f = all_served p q b b' FlushAll s k (own ∙ ap (λ (x : Shown). x.own.actor) (sym goes.grown)) is (loaded_goes n FlushAll s k p q goes l) f
served n p q b b' (FlushPages page count) s k own is l fills goes f = either_served p q b b' page count s k b.large (own ∙ ap (λ (x : Shown). x.own.actor) (sym goes.grown)) is (loaded_goes n (FlushPages page count) s k p q goes l) fills f
served n p q b b' Drain s k own is l fills goes f = drain_served q s k (loaded_goes n Drain s k p q goes l)

either_filled : (p q : Shown) (b b' : Book) (page count : ℕ) (large : Bool) (added : List Step) → q.own.steps ≡ added ++ p.own.steps → HasFills b p → HasFlushed large p q b b' page count → HasFills b' q
either_filled p q b b' page count true added e fills f = (fills.0, behind_flush Full added fills.1, [], f.goes added fills.0 fills.0 fills.1 fills.2 e fills.3)
either_filled p q b b' page count false added e fills f = (fills.0, behind_flush (Pages page count) added fills.1, fills.2, f.goes added fills.0 fills.1 fills.2 e fills.3)

-- and its entries are of some fills still
pub filled : (n : ℕ) (p q : Shown) (b b' : Book) (request : Request) → HasFills b p → GoesBy n IsOfTable p q → HasFlushedFor request p q b b' → HasFills b' q
filled n p q b b' FlushAll fills goes f = either_filled p q b b' 0 0 true goes.added (ap (λ (x : Shown). x.own.steps) goes.grown) fills f
filled n p q b b' (FlushPages page count) fills goes f = either_filled p q b b' page count b.large goes.added (ap (λ (x : Shown). x.own.steps) goes.grown) fills f
filled n p q b b' Drain fills goes f = subst (λ (c : Book). HasFills c q) (sym f.1) (subst (λ (x : Shown). HasFills b x) (sym f.0) fills)

-- so they are where the lock was found held
pub held_filled : (holder : ℕ) (p q : Shown) (b b' : Book) → HasFills b p → HasBeenBusy holder p q b b' → HasFills b' q
held_filled holder p q b b' fills busy = subst (λ (c : Book). HasFills c q) (sym busy.book) (fills.0, made_all (step ∷ []) ++ fills.1, fills.2, fills_stay p q b fills.0 fills.1 fills.2 (step ∷ []) (ap (λ (x : Shown). x.own.steps) made.step) same fills.3)
  where
    made : Made p q (Lock b.hart) (Exchange 0) (p.own.actor + 1) holder
    made = busy.found.1

    step : Step
    step = record { actor = p.own.actor; word = made.word; op = Exchange 0; arg = p.own.actor + 1; answer = holder }

    word : (v : Word) → table_word v q.own.steps ≡ table_word v p.own.steps
    word v = ap (λ (x : Shown). table_word v x.own.steps) made.step ∙ lock_aside v (name_of made.word) b.hart (Exchange 0) (p.own.actor + 1) holder (table_word v p.own.steps) made.name

    actor : q.own.actor ≡ p.own.actor
    actor = ap (λ (x : Shown). x.own.actor) made.step

    same : HasSameTable p q
    same = record {
      machine = ap (λ (x : Shown). x.machine) made.step;
      actor = actor;
      size = ap (λ a. size_of a q.own.steps) actor ∙ word (Size p.own.actor);
      words = λ slot field. ap (λ a. table_word (Tlb a slot field) q.own.steps) actor ∙ word (Tlb p.own.actor slot field);
    }
