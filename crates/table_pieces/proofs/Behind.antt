-- What a translation leaves of its hart's table: the entry of its address, and the other slots as they were.
use Rattle.std.proofs.Common.{◌≡◌, ◌≢◌, ℕ, suc, ◌+◌, ◌/◌, ◌%◌, ◌^◌, ◌<◌, ◌≤◌, Bool, true, false, List, [], ◌∷◌, ◌++◌, refl, sym, ap, subst, ◌∙◌, arith}
use Rattle.std.specs.Prelude.{◌-◌}
use Rattle.rv64_priv.specs.declared.state.Kind.{Kind}
use Rattle.rv64_priv.specs.declared.state.Kind.TheVariants as kinds
use Rattle.rv64_priv.specs.declared.state.Regime.{Regime}
use Rattle.rv64_priv.specs.Reads.{answering}
use Rattle.rv64_priv.specs.Walk.{Walked, Leaf, is_device, walk_of}
use Rattle.step_laws.specs.declared.map.TlbField.{TlbField}
use Rattle.step_laws.specs.declared.map.TlbField.TheVariants.{Read, Write, Code, Page}
use Rattle.step_laws.specs.declared.steps.Step.{Step}
use Rattle.step_laws.specs.declared.steps.WordOp.{WordOp}
use Rattle.step_laws.specs.declared.steps.WordOp.TheVariants.{And, Exchange, Load, Or, Store}
use Rattle.step_laws.specs.Map.{Word, Dirty, Lock, Size, Tlb}
use Rattle.step_laws.specs.Output.{is_finished_next}
use Rattle.step_laws.specs.Tables.{held_lock, held_lock_next, size_of, table_boot, table_next, table_word}
use Rattle.step_laws.specs.Words.{all_slots, most_harts}
use Rattle.step_laws.proofs.Numbered.{named_tlb}
use Rattle.guest_ram.specs.Ports.{Machine, Shown, Made, IsActing}
use Rattle.guest_ram.proofs.Moves.{acting_adds, fold_adds, lock_adds}
use Rattle.sv39_walk.specs.Walking.{HasWalked, loads_of}
use Rattle.walk_laws.specs.WalkLoads.{AreOfRam, Found, reads_of}
use Rattle.walk_laws.proofs.Loaded.{reads_are_of_ram}
use Rattle.tlb_entry.specs.declared.books.Book.{Book}
use Rattle.tlb_entry.specs.declared.books.Hit.{Hit}
use Rattle.tlb_entry.specs.declared.entries.Entry.{Entry}
use Rattle.tlb_entry.specs.Compare.{field_of, hit}
use Rattle.tlb_entry.specs.Kept.{kept_word}
use Rattle.tlb_table.specs.Changes.{HasPut, loaded, stored}
use Rattle.tlb_table.specs.Lookups.{HasHit, slot}
use Rattle.tlb_table.proofs.Puts.{IsFilled, fill_done}
use Rattle.tlb_table.proofs.Sizes.{size_some, slot_below}
use Rattle.tlb_table.proofs.Stores.{HasStored, IsOwning, has_stored}
use Rattle.kept_fills.specs.Beside.{IsBeside}
use Rattle.kept_fills.specs.Fills.{HasSameTable}
use Rattle.tlb_fill.specs.Answered.{HitsKept, HitsNow}
use Rattle.tlb_fill.specs.Outcomes.{HasEntry}
use Rattle.tlb_fill.specs.Stepping.{HasMarkedAt, HasMarkedFor, HasPutLeaf, HasTranslated, IsEntered, IsServed, IsWalkedFor, answer, at_once, barred, elsewhere, entered, faulted, hits, kept_out, marks, misses, reached, settled}
use Rattle.tlb_fill.specs.declared.translation.Translated.{Translated}
use Rattle.tlb_fill.proofs.Allowed.{entry_hits}
use Rattle.tlb_fill.proofs.Marking.{same_none, same_then}
use Rattle.table_pieces.specs.Laws.{AnswersHit, OthersStay}
use Rattle.table_pieces.proofs.Kept.{last_hits}

-- a step that is no store in the hart's table
pub same_step : (p q : Shown) (w : Word) (op : WordOp) (arg answer : ℕ) → Made p q w op arg answer → ((j : ℕ) (f : TlbField) (n : ℕ) → table_next (Tlb p.own.actor j f) w op arg answer n ≡ n)
    → ((n : ℕ) → table_next (Size p.own.actor) w op arg answer n ≡ n) → HasSameTable p q
same_step p q w op arg answer m words size = record {
  machine = ap (λ (x : Shown). x.machine) m.step;
  actor = ap (λ (x : Shown). x.own.actor) m.step;
  size = ap (λ (x : Shown). size_of x.own.actor q.own.steps) m.step ∙ fold_adds (table_next (Size p.own.actor)) (table_boot (Size p.own.actor)) p q m.word arg answer op w m.step m.name ∙ size (size_of p.own.actor p.own.steps);
  words = λ j f. ap (λ (x : Shown). table_word (Tlb x.own.actor j f) q.own.steps) m.step
      ∙ fold_adds (table_next (Tlb p.own.actor j f)) (table_boot (Tlb p.own.actor j f)) p q m.word arg answer op w m.step m.name ∙ words j f (table_word (Tlb p.own.actor j f) p.own.steps);
}

same_marked : (address : ℕ) (p q : Shown) → HasMarkedAt address p q → HasSameTable p q
same_marked address p q (marks page less is m) = same_step p q (Dirty (page / 64)) Or (2 ^ (page % 64)) m.0 m.1 (λ j f n. refl) (λ n. refl)
same_marked address p q (elsewhere none e) = subst (HasSameTable p) (sym e) (same_none p)

same_marked_for : (kind : Kind) (address : ℕ) (p q : Shown) → HasMarkedFor kind address p q → HasSameTable p q
same_marked_for kinds.Store address p q m = same_marked address p q m
same_marked_for kinds.Load address p q e = subst (HasSameTable p) (sym e) (same_none p)
same_marked_for kinds.Fetch address p q e = subst (HasSameTable p) (sym e) (same_none p)

pub same_served : (p q : Shown) (va : ℕ) (kind : Kind) (found : Hit) (t : Translated) → IsServed p q va kind found t → HasSameTable p q
same_served p q va kind found t (at_once w e is) = subst (HasSameTable p) (sym e) (same_none p)
same_served p q va kind found t (settled w x is) = same_then p x.clear q (same_then p x.marked x.clear (same_then p x.locked x.marked
    (same_step p x.locked (Lock p.own.actor) (Exchange 0) (p.own.actor + 1) 0 x.takes (λ j f n. refl) (λ n. refl)) (same_marked found.page x.locked x.marked x.marks))
    (same_step x.marked x.clear (Tlb p.own.actor found.slot Write) And (2 ^ 64 - 3) x.found x.clears (λ j f n. refl) (λ n. refl)))
    (same_step x.clear q (Lock p.own.actor) Store 0 0 x.frees (λ j f n. refl) (λ n. refl))
same_served p q va kind found t (barred holder w x is) = same_step p q (Lock p.own.actor) (Exchange 0) (p.own.actor + 1) holder x.1 (λ j f n. refl) (λ n. refl)

-- loads of RAM
word_loads : (a b j : ℕ) (f : TlbField) (xs : List Found) (r : List Step) → AreOfRam xs → table_word (Tlb a j f) (loads_of b xs ++ r) ≡ table_word (Tlb a j f) r
word_loads a b j f [] r k = refl
word_loads a b j f (x ∷ xs) r k = ap (λ v. table_next (Tlb a j f) v Load 0 x.value (table_word (Tlb a j f) (loads_of b xs ++ r))) k.0.1 ∙ word_loads a b j f xs r k.1

size_loads : (a b : ℕ) (xs : List Found) (r : List Step) → AreOfRam xs → size_of a (loads_of b xs ++ r) ≡ size_of a r
size_loads a b [] r k = refl
size_loads a b (x ∷ xs) r k = ap (λ v. table_next (Size a) v Load 0 x.value (size_of a (loads_of b xs ++ r))) k.0.1 ∙ size_loads a b xs r k.1

lock_loads : (b : ℕ) (xs : List Found) (r : List Step) → AreOfRam xs → held_lock (loads_of b xs ++ r) ≡ held_lock r
lock_loads b [] r k = refl
lock_loads b (x ∷ xs) r k = ap (λ v. held_lock_next v Load 0 x.value (held_lock (loads_of b xs ++ r))) k.0.1 ∙ lock_loads b xs r k.1

same_walked : (r : Regime) (kind : Kind) (va : ℕ) (p q : Shown) (end : Walked) → HasWalked r kind va p q end → HasSameTable p q
same_walked r kind va p q end x = let xs = reads_of p.machine.layout.pages r va x.finds in let k = reads_are_of_ram p.machine.layout.pages r va x.finds in record {
  machine = ap (λ (y : Shown). y.machine) x.loads;
  actor = ap (λ (y : Shown). y.own.actor) x.loads;
  size = ap (λ (y : Shown). size_of y.own.actor y.own.steps) x.loads ∙ size_loads p.own.actor p.own.actor xs p.own.steps k;
  words = λ j f. ap (λ (y : Shown). table_word (Tlb y.own.actor j f) y.own.steps) x.loads ∙ word_loads p.own.actor p.own.actor j f xs p.own.steps k;
}

-- the own lock is held over a step off it
owning_made : (p q : Shown) (own : ℕ) (w : Word) (op : WordOp) (arg answer : ℕ) → Made p q w op arg answer → ((b : Bool) → is_finished_next w op arg answer b ≡ b) → ((n : ℕ) → held_lock_next w op arg answer n ≡ n)
    → IsOwning p own → IsOwning q own
owning_made p q own w op arg answer m going lock s = record {
  acting = acting_adds p q m.word arg answer op w m.step m.name going s.acting;
  own_is = s.own_is ∙ ap (λ (x : Shown). x.own.actor) (sym m.step);
  hart = subst (λ (x : Shown). x.own.actor < x.machine.layout.harts) (sym m.step) s.hart;
  held = lock_adds p q m.word arg answer op w m.step m.name ∙ lock (held_lock p.own.steps) ∙ s.held ∙ ap (λ (x : Shown). suc x.own.actor) (sym m.step);
}

owning_marked : (kind : Kind) (address : ℕ) (p q : Shown) (own : ℕ) → HasMarkedFor kind address p q → IsOwning p own → IsOwning q own
owning_marked kinds.Store address p q own (marks page less is m) s = owning_made p q own (Dirty (page / 64)) Or (2 ^ (page % 64)) m.0 m.1 (λ b. refl) (λ n. refl) s
owning_marked kinds.Store address p q own (elsewhere none e) s = subst (λ x. IsOwning x own) (sym e) s
owning_marked kinds.Load address p q own e s = subst (λ x. IsOwning x own) (sym e) s
owning_marked kinds.Fetch address p q own e s = subst (λ x. IsOwning x own) (sym e) s

few_harts : (p : Shown) (own : ℕ) → IsOwning p own → own < most_harts
few_harts p own s = let hart = s.hart in let few : p.machine.layout.harts ≤ 8 = s.acting.limits.harts in let is = s.own_is in omega (arith, hart, few, is)

-- a load of a slot of the own table
own_load : (p : Shown) (own j : ℕ) (f : TlbField) (found : ℕ) → j < all_slots → IsOwning p own → IsOwning (loaded p j f found) own × HasSameTable p (loaded p j f found)
own_load p own j f found few s =
    let named = named_tlb p.own.actor j f (subst (λ n. n < most_harts) s.own_is (few_harts p own s)) few in (
      record {
        acting = acting_adds p (loaded p j f found) _ 0 found Load (Tlb p.own.actor j f) refl named (λ b. refl) s.acting;
        own_is = s.own_is;
        hart = s.hart;
        held = lock_adds p (loaded p j f found) _ 0 found Load (Tlb p.own.actor j f) refl named ∙ s.held;
      },
      record {
        machine = refl;
        actor = refl;
        size = fold_adds (table_next (Size p.own.actor)) (table_boot (Size p.own.actor)) p (loaded p j f found) _ 0 found Load (Tlb p.own.actor j f) refl named;
        words = λ i g. fold_adds (table_next (Tlb p.own.actor i g)) (table_boot (Tlb p.own.actor i g)) p (loaded p j f found) _ 0 found Load (Tlb p.own.actor j f) refl named;
      },
    )

own_store : (p : Shown) (own j : ℕ) (f : TlbField) (value : ℕ) → j < all_slots → IsOwning p own → HasStored p (stored p j f value) own j f value
own_store p own j f value few s =
    has_stored p (stored p j f value) _ own j value f s refl (named_tlb p.own.actor j f (subst (λ n. n < most_harts) s.own_is (few_harts p own s)) few ∙ ap (λ a. Tlb a j f) (sym s.own_is))

-- the slot that was put
pub record Filled (p q : Shown) (j : ℕ) (e : Entry) : Type 0 where
  pub machine : q.machine ≡ p.machine
  pub actor : q.own.actor ≡ p.own.actor
  pub size : size_of q.own.actor q.own.steps ≡ size_of p.own.actor p.own.steps
  pub is : IsFilled p q p.own.actor j e

filled : (p : Shown) (own j : ℕ) (e : Entry) → j < 1024 → IsOwning p own → Filled p (stored (stored (stored (stored (stored p j Write 1) j Page e.page) j Read e.read) j Code e.code) j Write e.write) j e
filled p own j e less s =
    let few : j < all_slots = omega (arith, less) in
    let c = stored p j Write 1 in
    let d = stored c j Page e.page in
    let g = stored d j Read e.read in
    let h = stored g j Code e.code in
    let k = stored h j Write e.write in
    let a1 = own_store p own j Write 1 few s in
    let a2 = own_store c own j Page e.page few a1.owning in
    let a3 = own_store d own j Read e.read few a2.owning in
    let a4 = own_store g own j Code e.code few a3.owning in
    let a5 = own_store h own j Write e.write few a4.owning in
    let x = fill_done p c d g h own j e a1 a2 a3 a4 k a5 less in record { machine = refl; actor = refl; size = x.size; is = subst (λ n. IsFilled p k n j e) s.own_is x }

put_filled : (j : ℕ) (e : Entry) (p q : Shown) (own : ℕ) → j < 1024 → IsOwning p own → HasPut j e p q → (b : Shown) × HasSameTable p b × Filled b q j e
put_filled j e p q own less s x =
    let few : j < all_slots = omega (arith, less) in
    let p1 = loaded p j Read x.looked.read in
    let p2 = loaded p1 j Write x.looked.write in
    let p3 = loaded p2 j Code x.looked.code in
    let l1 = own_load p own j Read x.looked.read few s in
    let l2 = own_load p1 own j Write x.looked.write few l1.0 in
    let l3 = own_load p2 own j Code x.looked.code few l2.0 in
    let b = x.between in
    let at : IsOwning b own = subst (λ y. IsOwning y own) (sym x.looked.steps) l3.0 in
    let same : HasSameTable p b = subst (HasSameTable p) (sym x.looked.steps) (same_then p p2 p3 (same_then p p1 p2 l1.1 l2.1) l3.1) in
    (b, same, subst (λ y. Filled b y j e) (sym x.filled) (filled b own j e less at))

-- the entry of a leaf stands in the slot of its address
put_entry : (p q : Shown) (size : ℕ) (r : Regime) (va : ℕ) (kind : Kind) (pte page : ℕ) → IsActing p → p.own.actor < p.machine.layout.harts → slot va size < 1024 → HasPutLeaf p q size r va kind pte page
    → HasEntry p q (slot va size) r va pte page
put_entry p q size r va kind pte page acting hart less x =
    let j = slot va size in
    let own = p.own.actor in
    let first = same_step p x.locked (Lock own) (Exchange 0) (own + 1) 0 x.takes (λ j f n. refl) (λ n. refl) in
    let at : IsOwning x.locked own = record {
      acting = acting_adds p x.locked x.takes.word (own + 1) 0 (Exchange 0) (Lock own) x.takes.step x.takes.name (λ b. refl) acting;
      own_is = ap (λ (y : Shown). y.own.actor) (sym x.takes.step);
      hart = subst (λ (y : Shown). y.own.actor < y.machine.layout.harts) (sym x.takes.step) hart;
      held = lock_adds p x.locked x.takes.word (own + 1) 0 (Exchange 0) (Lock own) x.takes.step x.takes.name ∙ ap (λ (y : Shown). suc y.own.actor) (sym x.takes.step);
    } in
    let marked = same_then p x.locked x.marked first (same_marked_for kind page x.locked x.marked x.marks) in
    let put = put_filled j x.entry x.marked x.filled own less (owning_marked kind page x.locked x.marked own x.marks at) x.puts in
    let b = put.0 in
    let before = same_then p x.marked b marked put.1 in
    let f = put.2 in
    let last = same_step x.filled q (Lock own) Store 0 0 x.frees (λ j f n. refl) (λ n. refl) in record {
      machine = last.machine ∙ f.machine ∙ before.machine;
      actor = last.actor ∙ f.actor ∙ before.actor;
      size = last.size ∙ f.size ∙ before.size;
      words = λ k. ap (kept_word (field_of k)) (last.words j (field_of k) ∙ f.is.words (field_of k)) ∙ x.fits.words k;
      page_is = last.words j Page ∙ f.is.words Page ∙ x.fits.page_is;
      others = λ other g ne. last.words other g ∙ f.is.others other g ne ∙ before.words other g;
    }

-- slots but one are as they were
pub record KeepsOthers (j : ℕ) (p q : Shown) : Type 0 where
  pub size : size_of q.own.actor q.own.steps ≡ size_of p.own.actor p.own.steps
  pub words : (other : ℕ) (field : TlbField) → other ≢ j → table_word (Tlb q.own.actor other field) q.own.steps ≡ table_word (Tlb p.own.actor other field) p.own.steps

same_others : (j : ℕ) (p q : Shown) → HasSameTable p q → KeepsOthers j p q
same_others j p q s = record { size = s.size; words = λ other f ne. s.words other f }

others_then : (j : ℕ) (p m q : Shown) → HasSameTable p m → KeepsOthers j m q → KeepsOthers j p q
others_then j p m q s k = record { size = k.size ∙ s.size; words = λ other f ne. k.words other f ne ∙ s.words other f }

-- the acting hart behind the lookup and the walk
acting_walked : (r : Regime) (kind : Kind) (va : ℕ) (p q : Shown) (end : Walked) → HasWalked r kind va p q end → IsActing p → IsActing q
acting_walked r kind va p q end x acting = subst IsActing (sym x.loads) (record {
  limits = acting.limits;
  actor = acting.actor;
  going = going (reads_of p.machine.layout.pages r va x.finds) (reads_are_of_ram p.machine.layout.pages r va x.finds) ∙ acting.going;
})
  where
    going : (xs : List Found) → AreOfRam xs → Rattle.step_laws.specs.Output.is_finished (loads_of p.own.actor xs ++ p.own.steps) ≡ Rattle.step_laws.specs.Output.is_finished p.own.steps
    going [] k = refl
    going (y ∷ xs) k = ap (λ v. is_finished_next v Load 0 y.value (Rattle.step_laws.specs.Output.is_finished (loads_of p.own.actor xs ++ p.own.steps))) k.0.1 ∙ going xs k.1

module _ (b b' : Book) (r : Regime) (va : ℕ) (kind : Kind) (t : Translated) (less : slot va b.size < 1024) where
  now_at : (q : Shown) (d : Bool) (page : ℕ) → HitsKept q b.size r va kind → HitsNow q b.size r va kind (answer d page va)
  now_at q true page k = k
  now_at q false page k = k

  served_now : (p m q : Shown) (found : Hit) → HasHit p m (slot va b.size) va r.user kind found → IsServed m q va kind found t → HitsKept q b.size r va kind → HitsNow q b.size r va kind t
  served_now p m q found x (at_once w e is) k = subst (HitsNow q b.size r va kind) (sym is) (now_at q found.device found.page k)
  served_now p m q found x (settled w s is) k = subst (HitsNow q b.size r va kind) (sym is) (now_at q found.device found.page k)
  served_now p m q found x (barred holder w f is) k = subst (HitsNow q b.size r va kind) (sym is) tt

  -- what a miss comes to behind its lookup
  entered_now : (m q : Shown) (finds : ℕ → ℕ) (pte page level : ℕ) → IsActing m → m.own.actor < m.machine.layout.harts → walk_of m.machine.layout.pages r kind (answering finds) va ≡ Leaf pte page level
      → IsEntered m q b b' r va kind pte page level t → HitsNow q b.size r va kind t × KeepsOthers (slot va b.size) m q
  entered_now m q finds pte page level acting hart ends (entered x large is) =
      let e = put_entry m q b.size r va kind pte page acting hart less x in
      (subst (HitsNow q b.size r va kind) (sym is) (now_at q (is_device page) page (entry_hits m q b.size r va kind finds pte page level e ends)), record { size = e.size; words = e.others })
  entered_now m q finds pte page level acting hart ends (kept_out holder x same is) =
      (subst (HitsNow q b.size r va kind) (sym is) tt, same_others (slot va b.size) m q (same_step m q (Lock m.own.actor) (Exchange 0) (m.own.actor + 1) holder x.1 (λ j f n. refl) (λ n. refl)))

  walked_now : (m q : Shown) → IsActing m → m.own.actor < m.machine.layout.harts → IsWalkedFor m q b b' r va kind t → HitsNow q b.size r va kind t × KeepsOthers (slot va b.size) m q
  walked_now m q acting hart (faulted end cause x is same e) = (subst (HitsNow q b.size r va kind) (sym e) tt, same_others (slot va b.size) m q (same_walked r kind va m q end x))
  walked_now m q acting hart (reached n pte page level x y) =
      let s = same_walked r kind va m n (Leaf pte page level) x in
      let k = entered_now n q x.finds pte page level (acting_walked r kind va m n (Leaf pte page level) x acting) (subst (λ (z : Shown). z.own.actor < z.machine.layout.harts) (sym x.loads) hart)
      (subst (λ (z : Machine). walk_of z.layout.pages r kind (answering x.finds) va ≡ Leaf pte page level) (sym s.machine) x.is_end) y in
      (k.0, others_then (slot va b.size) m n q s k.1)

  translated_now : (p q : Shown) → IsActing p → p.own.actor < p.machine.layout.harts → HasTranslated p q b b' r va kind t → HitsNow q b.size r va kind t × KeepsOthers (slot va b.size) p q
  translated_now p q acting hart (hits m found x y same) =
      let first = same_step p x.between (Tlb p.own.actor (slot va b.size) (field_of kind)) Load 0 x.compare x.compared.made (λ j f n. refl) (λ n. refl) in
      let second = same_step x.between m (Tlb x.between.own.actor (slot va b.size) Page) Load 0 found.page x.loaded (λ j f n. refl) (λ n. refl) in
      let all = same_then p m q (same_then p x.between m first second) (same_served m q va kind found t y) in (
        served_now p m q found x y (ap (λ n. hit (kept_word (field_of kind) n) va r.user) (all.words (slot va b.size) (field_of kind))
            ∙ sym (last_hits (field_of kind) (table_word (Tlb p.own.actor (slot va b.size) (field_of kind)) p.own.steps) x.compare va r.user x.compared.last) ∙ x.hits),
        same_others (slot va b.size) p q all,
      )
  translated_now p q acting hart (misses m x y) =
      let first = same_step p m (Tlb p.own.actor (slot va b.size) (field_of kind)) Load 0 x.compare x.compared.made (λ j f n. refl) (λ n. refl) in
      let k = walked_now m q (acting_adds p m x.compared.made.word 0 x.compare Load (Tlb p.own.actor (slot va b.size) (field_of kind)) x.compared.made.step x.compared.made.name (λ b. refl) acting)
      (subst (λ (z : Shown). z.own.actor < z.machine.layout.harts) (sym x.compared.made.step) hart) y in
      (k.0, others_then (slot va b.size) p m q first k.1)

slot_main : (b : Book) (p : Shown) (va : ℕ) → IsBeside b p → slot va b.size < 1024
slot_main b p va can = let e = size_some b.size can.book.sized in let few = e.1 in let below : va / 4096 % b.size < b.size = slot_below (va / 4096) b.size can.book.sized in omega (arith, few, below)

pub answers_hit : AnswersHit
answers_hit p q b b' r va kind t can x = (translated_now b b' r va kind t (slot_main b p va can) p q can.acting can.hart x).0

pub others_stay : OthersStay
others_stay p q b b' r va kind t can x = let k = (translated_now b b' r va kind t (slot_main b p va can) p q can.acting can.hart x).1 in (k.size, k.words)
