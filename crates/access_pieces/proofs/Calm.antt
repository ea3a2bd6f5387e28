-- The steps of a translation need no event.
use Rattle.std.proofs.Common.{◌≡◌, ℕ, zero, suc, ◌+◌, ◌/◌, ◌%◌, ◌<◌, ◌≤◌, ◌^◌, List, [], ◌∷◌, ◌++◌, refl, sym, ap, subst, ◌∙◌, append_assoc, arith, inl, inr}
use Rattle.std.specs.Prelude.{◌-◌}
use Rattle.rv64_priv.specs.declared.state.Kind.{Kind}
use Rattle.rv64_priv.specs.declared.state.Kind.TheVariants as kinds
use Rattle.rv64_priv.specs.declared.state.Regime.{Regime}
use Rattle.rv64_priv.specs.Walk.{Walked}
use Rattle.step_laws.specs.declared.map.TlbField.{TlbField}
use Rattle.step_laws.specs.declared.map.TlbField.TheVariants.{Read, Write, Code, Page}
use Rattle.step_laws.specs.declared.steps.Step.{Step}
use Rattle.step_laws.specs.declared.steps.WordOp.{WordOp}
use Rattle.step_laws.specs.declared.steps.WordOp.TheVariants.{Load, Store, And, Or, Exchange}
use Rattle.step_laws.specs.Fields.{IsSize}
use Rattle.step_laws.specs.Map.{Word, Lock, Tlb, Dirty, name_of, number_of}
use Rattle.step_laws.specs.Words.{most_harts, all_slots}
use Rattle.step_laws.proofs.Numbered.{named_tlb}
use Rattle.guest_ram.specs.Plays.{step_of}
use Rattle.guest_ram.specs.Ports.{Shown, Made, after_step}
use Rattle.guest_ram.specs.Rule.{record_of}
use Rattle.walk_laws.specs.WalkLoads.{Found, AreOfRam, reads_of}
use Rattle.walk_laws.proofs.Loaded.{reads_are_of_ram}
use Rattle.sv39_walk.specs.Walking.{HasWalked, loads_of}
use Rattle.tlb_entry.specs.declared.books.Book.{Book}
use Rattle.tlb_entry.specs.declared.books.Hit.{Hit}
use Rattle.tlb_entry.specs.declared.entries.Entry.{Entry}
use Rattle.tlb_table.specs.Changes.{HasPut, loaded, stored}
use Rattle.tlb_entry.specs.Compare.{field_of}
use Rattle.tlb_table.specs.Lookups.{slot}
use Rattle.kept_fills.specs.Beside.{IsBeside}
use Rattle.tlb_fill.specs.declared.translation.Translated.{Translated}
use Rattle.tlb_fill.specs.Stepping.{HasMarkedAt, HasMarkedFor, HasSettled, HasPutLeaf, HasTranslated, IsEntered, IsServed, IsWalkedFor, marks, elsewhere, at_once, settled, barred, entered, kept_out, faulted, reached, hits, misses}
use Rattle.rv64_priv.specs.Walk.{is_device}
use Rattle.access_pieces.proofs.Awaited.{AreGiven, AreMarksOf, GivesPages, IsMarkOf, mark_of, store_waits}
use Rattle.turn_pieces.specs.Doing.{IsCalm}
use Rattle.turn_pieces.specs.Writers.{AreCalm, AreOn, IsInner, IsPlain}

calm_append : (a : ℕ) (r q : List Step) → AreCalm a r → AreCalm a q → AreCalm a (q ++ r)
calm_append a r [] x y = x
calm_append a r (s ∷ q) x y = (y.0, y.1, calm_append a r q x y.2)

on_append : (touch : Word → Type 0) (r q : List Step) → AreOn touch r → AreOn touch q → AreOn touch (q ++ r)
on_append touch r [] x y = x
on_append touch r (s ∷ q) x y = (y.0, on_append touch r q x y.1)

-- some step was made
abbrev pub IsStepped : List Step → Type 0
IsStepped [] = ⊥
IsStepped (s ∷ r) = Unit {0}

stepped_append : (r q : List Step) → IsStepped r → IsStepped (q ++ r)
stepped_append r [] k = k
stepped_append r (s ∷ q) k = tt

slot_few : (va size : ℕ) → IsSize size → slot va size < all_slots
slot_few va size (inl e) = omega (arith, e)
slot_few va size (inr (inl e)) = omega (arith, e)
slot_few va size (inr (inr (inl e))) = omega (arith, e)
slot_few va size (inr (inr (inr (inl e)))) = omega (arith, e)
slot_few va size (inr (inr (inr (inr e)))) = omega (arith, e)

marks_append : (pages : List ℕ) (r q : List Step) → AreMarksOf pages r → AreMarksOf pages q → AreMarksOf pages (q ++ r)
marks_append pages r [] x y = x
marks_append pages r (s ∷ q) x y = (y.0, marks_append pages r q x y.1)

module _ (pages : List ℕ) where
  -- steps that need no event, on words that a turn inside touches, which mark these pages alone
  pub record Calmly (p q : Shown) : Type 0 where
    pub added : List Step
    pub grown : q ≡ record p { own = record_of p.own.actor p.own.runs (added ++ p.own.steps) }
    pub calm : AreCalm p.own.actor added
    pub inner : AreOn IsInner added
    pub marks : AreMarksOf pages added

  pub calmly_none : (p : Shown) → Calmly p p
  calmly_none p = record { added = []; grown = refl; calm = tt; inner = tt; marks = tt }

  pub calmly_then : (p q r : Shown) → Calmly p q → Calmly q r → Calmly p r
  calmly_then p q r a b = record {
    added = b.added ++ a.added;
    grown = b.grown ∙ (ap (λ (x : Shown). record x { own = record_of x.own.actor x.own.runs (b.added ++ x.own.steps) }) a.grown
        ∙ ap (λ (l : List Step). record p { own = record_of p.own.actor p.own.runs l }) (sym (append_assoc b.added a.added p.own.steps)));
    calm = calm_append p.own.actor a.added b.added a.calm (subst (λ (x : ℕ). AreCalm x b.added) (ap (λ (x : Shown). x.own.actor) a.grown) b.calm);
    inner = on_append IsInner a.added b.added a.inner b.inner;
    marks = marks_append pages a.added b.added a.marks b.marks;
  }

  calmly_step : (p q : Shown) (word arg answer : ℕ) (op : WordOp) (w : Word) → q ≡ after_step p word op arg answer → name_of word ≡ w → IsCalm w op answer → IsPlain p.own.actor w op → IsInner w → IsMarkOf pages w op arg → Calmly p q
  calmly_step p q word arg answer op w made e calm plain inner only = record {
    added = step_of p.own.actor word op arg answer ∷ [];
    grown = made;
    calm = (subst (λ v. IsCalm v op answer) (sym e) calm, subst (λ v. IsPlain p.own.actor v op) (sym e) plain, tt);
    inner = (subst IsInner (sym e) inner, tt);
    marks = (subst (λ v. IsMarkOf pages v op arg) (sym e) only, tt);
  }

  pub calmly_made : (p q : Shown) (w : Word) (op : WordOp) (arg answer : ℕ) → Made p q w op arg answer → IsCalm w op answer → IsPlain p.own.actor w op → IsInner w → IsMarkOf pages w op arg → Calmly p q
  calmly_made p q w op arg answer m calm plain inner only = calmly_step p q m.word arg answer op w m.step m.name calm plain inner only

  calmly_actor : (p q : Shown) → Calmly p q → q.own.actor ≡ p.own.actor
  calmly_actor p q k = ap (λ (x : Shown). x.own.actor) k.grown

  -- the parts of a translation
  plain_mark : (a i : ℕ) → IsPlain a (Dirty i) Or
  plain_mark a zero = tt
  plain_mark a (suc i) = tt

  marked_calmly : (address : ℕ) (p q : Shown) → AreGiven pages address → HasMarkedAt address p q → Calmly p q
  marked_calmly address p q given (marks page less is m) = calmly_made p q (Dirty (page / 64)) Or (2 ^ (page % 64)) m.0 m.1 tt (plain_mark p.own.actor (page / 64)) tt (mark_of page pages (given page is))
  marked_calmly address p q given (elsewhere none e) = subst (Calmly p) (sym e) (calmly_none p)

  marked_for_calmly : (kind : Kind) (address : ℕ) (p q : Shown) → (kind ≡ kinds.Store → AreGiven pages address) → HasMarkedFor kind address p q → Calmly p q
  marked_for_calmly kinds.Store address p q given m = marked_calmly address p q (given refl) m
  marked_for_calmly kinds.Load address p q given e = subst (Calmly p) (sym e) (calmly_none p)
  marked_for_calmly kinds.Fetch address p q given e = subst (Calmly p) (sym e) (calmly_none p)

  slot_calmly : (p : Shown) (j : ℕ) (f : TlbField) (op : WordOp) (arg answer : ℕ) → p.own.actor < most_harts → j < all_slots → IsCalm (Tlb p.own.actor j f) op answer → IsPlain p.own.actor (Tlb p.own.actor j f) op
      → Calmly p (after_step p (number_of (Tlb p.own.actor j f)) op arg answer)
  slot_calmly p j f op arg answer hart few calm plain = calmly_step p (after_step p (number_of (Tlb p.own.actor j f)) op arg answer) (number_of (Tlb p.own.actor j f)) arg answer op (Tlb p.own.actor j f) refl
      (named_tlb p.own.actor j f hart few) calm plain tt (λ n x out. refl)

  load_calmly : (p : Shown) (j : ℕ) (f : TlbField) (found : ℕ) → p.own.actor < most_harts → j < all_slots → Calmly p (loaded p j f found)
  load_calmly p j f found hart few = slot_calmly p j f Load 0 found hart few tt tt

  store_calmly : (p : Shown) (j : ℕ) (f : TlbField) (value : ℕ) → p.own.actor < most_harts → j < all_slots → Calmly p (stored p j f value)
  store_calmly p j f value hart few = slot_calmly p j f Store value 0 hart few tt tt

  put_calmly : (j : ℕ) (e : Entry) (p q : Shown) → p.own.actor < most_harts → j < all_slots → HasPut j e p q → Calmly p q
  put_calmly j e p q hart few x =
      let one = loaded p j Read x.looked.read in
      let two = loaded one j Write x.looked.write in
      let three = loaded two j Code x.looked.code in
      let looks : Calmly p three = calmly_then p two three (calmly_then p one two (load_calmly p j Read x.looked.read hart few) (load_calmly one j Write x.looked.write hart few)) (load_calmly two j Code x.looked.code hart few) in
      let b = x.between in
      let looked : Calmly p b = subst (Calmly p) (sym x.looked.steps) looks in
      let own : b.own.actor < most_harts = subst (λ n. n < most_harts) (sym (calmly_actor p b looked)) hart in
      let c = stored b j Write 1 in
      let d = stored c j Page e.page in
      let g = stored d j Read e.read in
      let h = stored g j Code e.code in
      let k = stored h j Write e.write in
      let fills : Calmly b k = calmly_then b h k (calmly_then b g h (calmly_then b d g (calmly_then b c d (store_calmly b j Write 1 own few) (store_calmly c j Page e.page own few)) (store_calmly d j Read e.read own few))
      (store_calmly g j Code e.code own few)) (store_calmly h j Write e.write own few) in
      calmly_then p b q looked (subst (Calmly b) (sym x.filled) fills)

  settled_calmly : (j address : ℕ) (p q : Shown) → AreGiven pages address → HasSettled j address p q → Calmly p q
  settled_calmly j address p q given x = calmly_then p x.clear q (calmly_then p x.marked x.clear (calmly_then p x.locked x.marked
      (calmly_made p x.locked (Lock p.own.actor) (Exchange 0) (p.own.actor + 1) 0 x.takes tt tt tt (λ n x out. refl)) (marked_calmly address x.locked x.marked given x.marks))
      (calmly_made x.marked x.clear (Tlb p.own.actor j Write) And (2 ^ 64 - 3) x.found x.clears tt tt tt (λ n x out. refl)))
      (calmly_made x.clear q (Lock p.own.actor) Store 0 0 x.frees tt tt tt (λ n x out. refl))

  served_calmly : (p q : Shown) (va : ℕ) (kind : Kind) (found : Hit) (t : Translated) → GivesPages pages kind va t → IsServed p q va kind found t → Calmly p q
  served_calmly p q va kind found t given (at_once w e is) = subst (Calmly p) (sym e) (calmly_none p)
  served_calmly p q va kind found t given (settled w x is) = settled_calmly found.slot found.page p q (given (store_waits kind found.not_dirty w) found.device found.page is) x
  served_calmly p q va kind found t given (barred holder w x is) = calmly_made p q (Lock p.own.actor) (Exchange 0) (p.own.actor + 1) holder x.1 tt tt tt (λ n x out. refl)

  put_leaf_calmly : (p q : Shown) (size : ℕ) (r : Regime) (va : ℕ) (kind : Kind) (pte page : ℕ) → p.own.actor < most_harts → slot va size < all_slots → (kind ≡ kinds.Store → AreGiven pages page) → HasPutLeaf p q size r va kind pte page → Calmly p q
  put_leaf_calmly p q size r va kind pte page hart few given x =
      let before = calmly_then p x.locked x.marked (calmly_made p x.locked (Lock p.own.actor) (Exchange 0) (p.own.actor + 1) 0 x.takes tt tt tt (λ n x out. refl)) (marked_for_calmly kind page x.locked x.marked given x.marks) in
      let own : x.marked.own.actor < most_harts = subst (λ n. n < most_harts) (sym (calmly_actor p x.marked before)) hart in
      calmly_then p x.filled q (calmly_then p x.marked x.filled before (put_calmly (slot va size) x.entry x.marked x.filled own few x.puts)) (calmly_made x.filled q (Lock p.own.actor) Store 0 0 x.frees tt tt tt (λ n x out. refl))

  entered_calmly : (p q : Shown) (b b' : Book) (r : Regime) (va : ℕ) (kind : Kind) (pte page level : ℕ) (t : Translated) → p.own.actor < most_harts → slot va b.size < all_slots
      → GivesPages pages kind va t → IsEntered p q b b' r va kind pte page level t → Calmly p q
  entered_calmly p q b b' r va kind pte page level t hart few given (entered x large is) = put_leaf_calmly p q b.size r va kind pte page hart few (λ store. given store (is_device page) page is) x
  entered_calmly p q b b' r va kind pte page level t hart few given (kept_out holder x same is) = calmly_made p q (Lock p.own.actor) (Exchange 0) (p.own.actor + 1) holder x.1 tt tt tt (λ n x out. refl)

  loads_calm : (a : ℕ) (xs : List Found) → AreOfRam xs → AreCalm a (loads_of a xs)
  loads_calm a [] k = tt
  loads_calm a (x ∷ xs) k = (subst (λ v. IsCalm v Load x.value) (sym k.0.1) tt, subst (λ v. IsPlain a v Load) (sym k.0.1) tt, loads_calm a xs k.1)

  loads_inner : (a : ℕ) (xs : List Found) → AreOfRam xs → AreOn IsInner (loads_of a xs)
  loads_inner a [] k = tt
  loads_inner a (x ∷ xs) k = (subst IsInner (sym k.0.1) tt, loads_inner a xs k.1)

  loads_marks : (a : ℕ) (xs : List Found) → AreOfRam xs → AreMarksOf pages (loads_of a xs)
  loads_marks a [] k = tt
  loads_marks a (x ∷ xs) k = (subst (λ v. IsMarkOf pages v Load 0) (sym k.0.1) (λ n x out. refl), loads_marks a xs k.1)

  walked_calmly : (r : Regime) (kind : Kind) (va : ℕ) (p q : Shown) (end : Walked) → HasWalked r kind va p q end → Calmly p q
  walked_calmly r kind va p q end x = let xs = reads_of p.machine.layout.pages r va x.finds in let k = reads_are_of_ram p.machine.layout.pages r va x.finds in
      record { added = loads_of p.own.actor xs; grown = x.loads; calm = loads_calm p.own.actor xs k; inner = loads_inner p.own.actor xs k; marks = loads_marks p.own.actor xs k }

  walked_for_calmly : (p q : Shown) (b b' : Book) (r : Regime) (va : ℕ) (kind : Kind) (t : Translated) → p.own.actor < most_harts → slot va b.size < all_slots → GivesPages pages kind va t → IsWalkedFor p q b b' r va kind t → Calmly p q
  walked_for_calmly p q b b' r va kind t hart few given (faulted end cause x is same e) = walked_calmly r kind va p q end x
  walked_for_calmly p q b b' r va kind t hart few given (reached m pte page level x y) =
      let before = walked_calmly r kind va p m (Walked.Leaf pte page level) x in
      calmly_then p m q before (entered_calmly m q b b' r va kind pte page level t (subst (λ n. n < most_harts) (sym (calmly_actor p m before)) hart) few given y)

  pub record Stepped (p q : Shown) : Type 0 where
    pub calmly : Calmly p q
    pub some : IsStepped calmly.added

  stepped_then : (p m q : Shown) → Stepped p m → Calmly m q → Stepped p q
  unfolding calmly_then
  stepped_then p m q a b = record { calmly = calmly_then p m q a.calmly b; some = stepped_append a.calmly.added b.added a.some }

  stepped_made : (p q : Shown) (w : Word) (op : WordOp) (arg answer : ℕ) → Made p q w op arg answer → IsCalm w op answer → IsPlain p.own.actor w op → IsInner w → IsMarkOf pages w op arg → Stepped p q
  stepped_made p q w op arg answer m calm plain inner only = record {
    calmly = record {
      added = step_of p.own.actor m.word op arg answer ∷ [];
      grown = m.step;
      calm = (subst (λ v. IsCalm v op answer) (sym m.name) calm, subst (λ v. IsPlain p.own.actor v op) (sym m.name) plain, tt);
      inner = (subst IsInner (sym m.name) inner, tt);
      marks = (subst (λ v. IsMarkOf pages v op arg) (sym m.name) only, tt);
    };
    some = tt;
  }

  translated_by : (p q : Shown) (b b' : Book) (r : Regime) (va : ℕ) (kind : Kind) (t : Translated) → p.own.actor < most_harts → slot va b.size < all_slots → GivesPages pages kind va t → HasTranslated p q b b' r va kind t → Stepped p q
  translated_by p q b b' r va kind t hart few given (hits m found x y same) =
      stepped_then p x.between q (stepped_made p x.between (Tlb p.own.actor (slot va b.size) (field_of kind)) Load 0 x.compare x.compared.made tt tt tt (λ n x out. refl))
      (calmly_then x.between m q (calmly_made x.between m (Tlb x.between.own.actor (slot va b.size) Page) Load 0 found.page x.loaded tt tt tt (λ n x out. refl)) (served_calmly m q va kind found t given y))
  translated_by p q b b' r va kind t hart few given (misses m x y) =
      let before = stepped_made p m (Tlb p.own.actor (slot va b.size) (field_of kind)) Load 0 x.compare x.compared.made tt tt tt (λ n x out. refl) in
      stepped_then p m q before (walked_for_calmly m q b b' r va kind t (subst (λ n. n < most_harts) (sym (calmly_actor p m before.calmly)) hart) few given y)

  pub translated_calmly : (p q : Shown) (b b' : Book) (r : Regime) (va : ℕ) (kind : Kind) (t : Translated) → IsBeside b p → GivesPages pages kind va t → HasTranslated p q b b' r va kind t → Stepped p q
  translated_calmly p q b b' r va kind t k given x = let hart = k.hart in let few : p.machine.layout.harts ≤ 8 = k.acting.limits.harts in
      translated_by p q b b' r va kind t (omega (arith, hart, few)) (slot_few va b.size k.book.sized) given x
