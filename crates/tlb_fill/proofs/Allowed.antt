-- Answers are allowed, and the table hits behind them.
use Rattle.std.proofs.Common.{◌≡◌, ◌≢◌, ℕ, ◌+◌, ◌*◌, ◌/◌, ◌%◌, ◌<◌, ◌≤◌, Bool, true, false, true≢false, List, [], ◌∷◌, ◌++◌, refl, sym, ap, subst, ◌∙◌, inl, inr, ⊎_elim, append_assoc, arith}
use Rattle.std.specs.Prelude.{◌==◌, ◌&&◌, ◌||◌, not, max, min, nat_lt, nat_le, if◌then◌else◌}
use Rattle.std.proofs.lemmas.Bool.{and_parts, cases_eq, eqb-true}
use Rattle.rv64_priv.specs.declared.state.Kind.{Kind}
use Rattle.rv64_priv.specs.declared.state.Kind.TheVariants as kinds
use Rattle.rv64_priv.specs.declared.state.Regime.{Regime}
use Rattle.rv64_priv.specs.Flush.{Flush, Full, Pages, covers}
use Rattle.rv64_priv.specs.Pte.{has_a_and_d, permits}
use Rattle.rv64_priv.specs.Walk.{Walked, Leaf, is_device, pages_of_level, walk_of}
use Rattle.rv64_priv.specs.Reads.{answering}
use Rattle.step_laws.specs.declared.map.TlbField.{TlbField}
use Rattle.step_laws.specs.declared.map.TlbField.TheVariants.{Read, Write, Code, Page}
use Rattle.step_laws.specs.declared.steps.Step.{Step}
use Rattle.step_laws.specs.Fields.{IsSize, invalid_bit, compare_page, user_bit}
use Rattle.step_laws.specs.Map.{Tlb}
use Rattle.step_laws.specs.TableLaws.{IsLastField}
use Rattle.step_laws.specs.Tables.{is_victim, size_of, table_word}
use Rattle.guest_ram.specs.Ports.{Shown, Machine}
use Rattle.walk_laws.specs.WalkLoads.{Found, AreLoaded, reads_of}
use Rattle.walk_laws.specs.KeptWalks.{Item, made, flushed, HasStood, IsKept, made_all}
use Rattle.tlb_entry.specs.declared.books.Book.{Book}
use Rattle.tlb_entry.specs.Compare.{compare_word, field_of, hit, is_for_device}
use Rattle.tlb_entry.specs.Filled.{is_open, serves, waits_for_mark}
use Rattle.tlb_entry.specs.Kept.{kept, kept_word}
use Rattle.tlb_entry.proofs.ValidWords.{entry_words}
use Rattle.tlb_entry.specs.declared.books.Hit.{Hit}
use Rattle.tlb_table.specs.Lookups.{HasHit, slot}
use Rattle.tlb_table.proofs.Sizes.{size_some, slot_below}
use Rattle.sv39_walk.proofs.SameWalk.{leaf_serves, page_walks}
use Rattle.kept_fills.specs.Fills.{Fill, in_mode, IsAmong, IsWalkOf, IsBacked, Ends, GoesWithFills, HasSameTable}
use Rattle.kept_fills.proofs.Staying.{steps_behind, stood_more, walk_more, fills_stay}
use Rattle.walk_laws.proofs.Kept.{stays_over_steps}
use Rattle.sv39_walk.specs.Walking.{ShowsWalk}
use Rattle.tlb_fill.specs.Answered.{AnswersAllowed, IsAllowed, IsLeafAt, HitsKept, HitsNow, LeavesAll}
use Rattle.tlb_fill.specs.Outcomes.{Changes, Fills, HasEntry}
use Rattle.tlb_fill.specs.Stepping.{answer, place_in, IsCause, IsEntered, IsServed, at_once, barred, entered, kept_out, settled}
use Rattle.tlb_fill.specs.declared.translation.Translated.{Translated}
use Rattle.tlb_fill.specs.declared.translation.Translated.TheVariants as gives
use Rattle.tlb_fill.proofs.Marking.{same_then}
use Rattle.tlb_fill.proofs.Entering.{good_walk, good_serves, serves_reaches}

pub made_append : (a b : List Step) (items : List Item) → made_all (a ++ b) ++ items ≡ made_all a ++ (made_all b ++ items)
made_append [] b items = refl
made_append (s ∷ a) b items = ap (λ l. made s ∷ l) (made_append a b items)

-- words for a mode, as an entry of bare mode has them
abbrev bare : Bool → Regime
bare u = record { satp = 0; user = u; sum = false; mxr = false }

key_hits : (a va : ℕ) (d u user : Bool) → hit (compare_word a false d u) va user ≡ true → (va / 4096 ≡ a / 4096) × (user ≡ u)
key_hits a va d u user e = let x = (entry_words.hits 0xcf a va d (bare u) kinds.Load user).0 e in (x.1, x.2)

pub key_hit : (va : ℕ) (d u : Bool) → hit (compare_word va false d u) va u ≡ true
key_hit va d u = (entry_words.hits 0xcf va va d (bare u) kinds.Load u).1 (refl, refl, refl)

key_device : (a : ℕ) (d u : Bool) → is_for_device (compare_word a false d u) ≡ d
key_device a d u = (entry_words.says 0xcf a d (bare u) kinds.Load refl).1

-- bit 1 of a WRITE word apart, what is kept of a word of an entry
kept_for : (va : ℕ) (k : Kind) (d u s : Bool) → kept_word (field_of k) (if s then compare_word va (waits_for_mark d k) d u else 1) ≡ (if s then compare_word va false d u else 1)
kept_for va kinds.Load d u s = refl
kept_for va kinds.Fetch d u s = refl
kept_for va kinds.Store d u false = refl
kept_for va kinds.Store true true true = omega arith
kept_for va kinds.Store true false true = omega arith
kept_for va kinds.Store false true true = omega arith
kept_for va kinds.Store false false true = omega arith

not_invalid : (s : Bool) (n : ℕ) → invalid_bit (if s then n else 1) ≡ 0 → s ≡ true
not_invalid true n e = refl
not_invalid false n e = absurd (let x : 1 ≡ 0 = e in omega (arith, x))

-- a flush covers by pages
covers_page : (what : Flush) (va other level : ℕ) → other / 4096 ≡ va / 4096 → covers what other level ≡ covers what va level
covers_page Full va other level e = refl
covers_page (Pages first count) va other level e = ap (λ n. nat_lt (max first (n / pages_of_level level * pages_of_level level)) (min (first + count) (n / pages_of_level level * pages_of_level level + pages_of_level level))) e

stood_page : (va other level : ℕ) → other / 4096 ≡ va / 4096 → (xs : List Found) (items : List Item) → HasStood other level xs items → HasStood va level xs items
stood_page va other level e [] items k = tt
stood_page va other level e (x ∷ xs) [] k = k
stood_page va other level e (x ∷ xs) (made s ∷ items) (inl k) = inl (k.0, stood_page va other level e xs items k.1)
stood_page va other level e (x ∷ xs) (made s ∷ items) (inr k) = inr (stood_page va other level e (x ∷ xs) items k)
stood_page va other level e (x ∷ xs) (flushed what ∷ items) k = (sym (covers_page what va other level e) ∙ k.0, stood_page va other level e (x ∷ xs) items k.1)

module _ (m q : Shown) (b b' : Book) (r : Regime) (va : ℕ) (kind : Kind) (finds : ℕ → ℕ) (pte page level : ℕ) (items : List Item) (fills : List Fill) (added : List Step)
    (steps : q.own.steps ≡ added ++ m.own.steps) (g : GoesWithFills m b r items fills) (c : HasEntry m q (slot va b.size) r va pte page) (large : b'.large ≡ (not (level == 0) || b.large))
    (sized : IsSize b.size) (size_is : b.size ≡ size_of m.own.actor m.own.steps) (ends : walk_of m.machine.layout.pages r kind (answering finds) va ≡ Leaf pte page level)
    (loaded : AreLoaded (reads_of m.machine.layout.pages r va finds) m.own.steps) (stood : HasStood va level (reads_of m.machine.layout.pages r va finds) items) where
  abbrev pub new : Fill
  new = record { va = va; user = r.user; finds = finds; pte = pte; address = page; level = level }

  at_below : slot va b.size < b.size
  at_below = slot_below (va / 4096) b.size sized

  word_of : (k : Kind) → kept q.own.actor (slot va b.size) (field_of k) q.own.steps ≡ (if serves pte (is_device page) r k then compare_word va false (is_device page) r.user else 1)
  word_of k = c.words k ∙ kept_for va k (is_device page) r.user (serves pte (is_device page) r k)

  ends_for : (k : Kind) → serves pte (is_device page) r k ≡ true → walk_of m.machine.layout.pages r k (answering finds) va ≡ Leaf pte page level
  ends_for k s = let all = and_parts (permits pte k r && has_a_and_d pte k) (is_open (is_device page) k) s in let two = and_parts (permits pte k r) (has_a_and_d pte k) all.0 in
      leaf_serves m.machine.layout.pages r kind k finds va pte page level ends two.0 two.1
      (serves_reaches m.machine.layout.pages r kind k pte page (good_walk m.machine.layout.pages r kind finds va pte page level ends).reached all.1)

  entry_backed : (j : ℕ) (k : Kind) → j ≡ slot va b.size → invalid_bit (kept q.own.actor j (field_of k) q.own.steps) ≡ 0 → IsBacked q r (made_all added ++ items) (new ∷ fills) j k
  entry_backed j k is valid = let served : serves pte (is_device page) r k ≡ true = not_invalid (serves pte (is_device page) r k) _ (ap invalid_bit (sym (word_of k)) ∙ ap (λ i. invalid_bit (kept q.own.actor i (field_of k) q.own.steps)) (sym is) ∙ valid) in record {
    fill = new;
    among = inl refl;
    slot_is = ap (λ n. va / 4096 % n) (c.size ∙ sym size_is) ∙ sym is;
    is_of = record {
      key = ap (λ i. kept q.own.actor i (field_of k) q.own.steps) is ∙ word_of k ∙ ap (λ (t : Bool). if t then compare_word va false (is_device page) r.user else 1) served;
      page_is = ap (λ i. table_word (Tlb q.own.actor i Page) q.own.steps) is ∙ c.page_is;
      ends = subst (λ (x : Machine). walk_of x.layout.pages r k (answering finds) va ≡ Leaf pte page level) (sym c.machine) (ends_for k served);
    };
    stood = subst (λ (x : Machine). HasStood va level (reads_of x.layout.pages r va finds) (made_all added ++ items)) (sym c.machine)
        (stood_more va level (reads_of m.machine.layout.pages r va finds) added items stood);
  }

  kept_other : (j : ℕ) (f : TlbField) → j ≢ slot va b.size → kept q.own.actor j f q.own.steps ≡ kept m.own.actor j f m.own.steps
  kept_other j f ne = ap (kept_word f) (c.others j f ne)

  other_backed : (j : ℕ) (k : Kind) → j ≢ slot va b.size → IsBacked m r items fills j k → IsBacked q r (made_all added ++ items) (new ∷ fills) j k
  other_backed j k ne x = record {
    fill = x.fill;
    among = inr x.among;
    slot_is = ap (λ n. x.fill.va / 4096 % n) c.size ∙ x.slot_is;
    is_of = record {
      key = kept_other j (field_of k) ne ∙ x.is_of.key;
      page_is = c.others j Page ne ∙ x.is_of.page_is;
      ends = subst (λ (y : Machine). Ends y.layout.pages r k x.fill) (sym c.machine) x.is_of.ends;
    };
    stood = subst (λ (y : Machine). HasStood x.fill.va x.fill.level (reads_of y.layout.pages (in_mode r x.fill.user) x.fill.va x.fill.finds) (made_all added ++ items)) (sym c.machine)
        (stood_more x.fill.va x.fill.level (reads_of m.machine.layout.pages (in_mode r x.fill.user) x.fill.va x.fill.finds) added items x.stood);
  }

  victim_other : (j : ℕ) → is_victim j ≡ true → j ≢ slot va b.size
  victim_other j v e = let lo : 1024 ≤ j = grind (arith, (and_parts (nat_le 1024 j) (nat_lt j 1032) v).0) in let few = size_some b.size sized in let x = at_below in omega (arith, lo, few.1, x, e)

  new_walked : (f : Fill) → f ≡ new → IsWalkOf q.machine.layout.pages r f q.own.steps
  new_walked f e = walk_more m q r f added steps c.machine (subst (λ (h : Fill). IsWalkOf m.machine.layout.pages r h m.own.steps) (sym e) (record { kind = kind; ends = ends; loaded = loaded }))

  pub fills_enter : GoesWithFills q b' r (made_all added ++ items) (new ∷ fills)
  fills_enter = record {
    steps_are = steps_behind added items ∙ ap (λ l. added ++ l) g.steps_are ∙ sym steps;
    large = large ∙ ap (λ (t : Bool). not (level == 0) || t) g.large;
    walked = λ f a. ⊎_elim (λ (e : f ≡ new). new_walked f e) (λ (i : IsAmong f fills). walk_more m q r f added steps c.machine (g.walked f i)) a;
    backed = λ j k less valid. ⊎_elim (λ (e : j ≡ slot va b.size). entry_backed j k e valid)
        (λ (ne : j ≢ slot va b.size). other_backed j k ne (g.backed j k (subst (λ n. j < n) c.size less) (ap invalid_bit (sym (kept_other j (field_of k) ne)) ∙ valid))) (cases_eq j (slot va b.size));
    victims = λ j f v cmp. ap invalid_bit (c.others j f (victim_other j v)) ∙ g.victims j f v cmp;
  }

-- behind the put the table hits
pub entry_hits : (m q : Shown) (size : ℕ) (r : Regime) (va : ℕ) (kind : Kind) (finds : ℕ → ℕ) (pte page level : ℕ) → HasEntry m q (slot va size) r va pte page
    → walk_of m.machine.layout.pages r kind (answering finds) va ≡ Leaf pte page level → HitsKept q size r va kind
entry_hits m q size r va kind finds pte page level c ends = ap (λ n. hit n va r.user) (c.words kind ∙ kept_for va kind (is_device page) r.user (serves pte (is_device page) r kind)
    ∙ ap (λ (t : Bool). if t then compare_word va false (is_device page) r.user else 1) (good_serves m.machine.layout.pages r kind pte page (good_walk m.machine.layout.pages r kind finds va pte page level ends)))
    ∙ key_hit va (is_device page) r.user

-- a hit is of a fill
last_device : (f : TlbField) (last found : ℕ) → IsLastField f last found → is_for_device found ≡ is_for_device (kept_word f last)
last_device Read last found e = ap is_for_device e
last_device Code last found e = ap is_for_device e
last_device Page last found e = ap is_for_device e
last_device Write last found e = let x = e.0 in let y : found / 4 % 2 ≡ (last / 4 * 4 + last % 2) / 4 % 2 = omega (arith, x) in ap (λ n. n == 1) y

hit_valid : (n va : ℕ) (user : Bool) → hit n va user ≡ true → invalid_bit n ≡ 0
hit_valid n va user e = eqb-true (invalid_bit n) 0 (and_parts (invalid_bit n == 0) ((compare_page n == compare_page va) && (user_bit n == (if user then 1 else 0))) e).0

module _ (p : Shown) (b : Book) (r : Regime) (va : ℕ) (kind : Kind) (items : List Item) (fills : List Fill) (added : List Step) (g : GoesWithFills p b r items fills)
    (sized : IsSize b.size) (size_is : b.size ≡ size_of p.own.actor p.own.steps) (hits : HitsKept p b.size r va kind) where
  hit_leaf_of : IsBacked p r items fills (slot va b.size) kind → (device : Bool) (page : ℕ) → device ≡ is_for_device (kept p.own.actor (slot va b.size) (field_of kind) p.own.steps)
      → page ≡ table_word (Tlb p.own.actor (slot va b.size) Page) p.own.steps → IsLeafAt p.machine.layout.pages r kind va device (place_in page va) (made_all added ++ items)
  hit_leaf_of x device page d e = let same = key_hits x.fill.va va (is_device x.fill.address) x.fill.user r.user (ap (λ n. hit n va r.user) (sym x.is_of.key) ∙ hits) in
      let user : x.fill.user ≡ r.user = sym same.1 in
      let at : x.fill.va / 4096 ≡ va / 4096 = sym same.0 in
      let walks = page_walks p.machine.layout.pages r kind x.fill.finds va x.fill.va at in
      record {
        pte = x.fill.pte;
        address = x.fill.address;
        level = x.fill.level;
        kept = record {
          finds = x.fill.finds;
          is_end = sym walks.0 ∙ subst (λ u. walk_of p.machine.layout.pages (in_mode r u) kind (answering x.fill.finds) x.fill.va ≡ Leaf x.fill.pte x.fill.address x.fill.level) user x.is_of.ends;
          stood = stood_more va x.fill.level (reads_of p.machine.layout.pages r va x.fill.finds) added items
              (subst (λ (l : List Found). HasStood va x.fill.level l items) walks.1 (stood_page va x.fill.va x.fill.level at (reads_of p.machine.layout.pages r x.fill.va x.fill.finds) items
              (subst (λ u. HasStood x.fill.va x.fill.level (reads_of p.machine.layout.pages (in_mode r u) x.fill.va x.fill.finds) items) user x.stood)));
        };
        device_is = sym (d ∙ ap is_for_device x.is_of.key ∙ key_device x.fill.va (is_device x.fill.address) x.fill.user);
        at_is = ap (λ n. place_in n va) (e ∙ x.is_of.page_is);
      }

  pub hit_leaf : (device : Bool) (page compare : ℕ) → device ≡ is_for_device compare → IsLastField (field_of kind) (table_word (Tlb p.own.actor (slot va b.size) (field_of kind)) p.own.steps) compare
      → page ≡ table_word (Tlb p.own.actor (slot va b.size) Page) p.own.steps → IsLeafAt p.machine.layout.pages r kind va device (place_in page va) (made_all added ++ items)
  hit_leaf device page compare d last e = hit_leaf_of
      (g.backed (slot va b.size) kind (subst (λ n. slot va b.size < n) size_is (slot_below (va / 4096) b.size sized)) (hit_valid _ va r.user hits))
      device page (d ∙ last_device (field_of kind) (table_word (Tlb p.own.actor (slot va b.size) (field_of kind)) p.own.steps) compare last) e

pub loaded_before : (xs : List Found) (a r : List Step) → AreLoaded xs a → AreLoaded xs (a ++ r)
loaded_before [] a r k = tt
loaded_before (x ∷ xs) [] r k = absurd k
loaded_before (x ∷ xs) (s ∷ a) r (inl k) = inl (k.0, loaded_before xs a r k.1)
loaded_before (x ∷ xs) (s ∷ a) r (inr k) = inr (loaded_before (x ∷ xs) a r k)

loaded_stood : (va level : ℕ) (xs : List Found) (r : List Step) (items : List Item) → AreLoaded xs r → HasStood va level xs (made_all r ++ items)
loaded_stood va level [] r items k = tt
loaded_stood va level (x ∷ xs) [] items k = absurd k
loaded_stood va level (x ∷ xs) (s ∷ r) items (inl k) = inl (k.0, loaded_stood va level xs r items k.1)
loaded_stood va level (x ∷ xs) (s ∷ r) items (inr k) = inr (loaded_stood va level (x ∷ xs) r items k)

pub leaves_all : (p q : Shown) (b b' : Book) (result : Translated) → HasSameTable p q → b' ≡ b → LeavesAll p q b b' result
leaves_all p q b b' (gives.Ram at) s e = tt
leaves_all p q b b' (gives.Device at) s e = tt
leaves_all p q b b' (gives.Fault cause tval) s e = (s, e)
leaves_all p q b b' (gives.Busy busy) s e = (s, e)

-- where the table stays
pub same_fills : (p q : Shown) (b b' : Book) (r : Regime) (va : ℕ) (kind : Kind) (result : Translated) (added : List Step) → q.own.steps ≡ added ++ p.own.steps → HasSameTable p q → b' ≡ b
    → ((items : List Item) → IsAllowed p.machine.layout.pages r kind va result added items) → HitsNow q b.size r va kind result → Fills p q b b' r va kind result
same_fills p q b b' r va kind result added steps same e allowed now = record {
  allowed = λ items fills g. record {
    added = added;
    steps_are = steps;
    more = [];
    goes = subst (λ (x : Book). GoesWithFills q x r (made_all added ++ items) fills) (sym e) (fills_stay p q b r items fills added steps same g);
    allowed = allowed items;
  };
  hits_now = now;
  leaves = leaves_all p q b b' result same e;
  others = λ j f ne. same.words j f;
}

module _ (p m q : Shown) (b b' : Book) (r : Regime) (va : ℕ) (kind : Kind) (pte page level : ℕ) (result : Translated) (w : ShowsWalk r kind va p m (Leaf pte page level)) (same : HasSameTable p m)
    (added : List Step) (steps : q.own.steps ≡ added ++ m.own.steps) (sized : IsSize b.size) (size_is : b.size ≡ size_of p.own.actor p.own.steps) where
  walk_steps : m.own.steps ≡ w.added ++ p.own.steps
  walk_steps = ap (λ (x : Shown). x.own.steps) w.grows

  all_steps : q.own.steps ≡ (added ++ w.added) ++ p.own.steps
  all_steps = steps ∙ ap (λ l. added ++ l) walk_steps ∙ sym (append_assoc added w.added p.own.steps)

  ends_there : walk_of m.machine.layout.pages r kind (answering w.walked.finds) va ≡ Leaf pte page level
  ends_there = subst (λ (x : Machine). walk_of x.layout.pages r kind (answering w.walked.finds) va ≡ Leaf pte page level) (sym same.machine) w.walked.is_end

  stood_walk : (items : List Item) → HasStood va level (reads_of p.machine.layout.pages r va w.walked.finds) (made_all w.added ++ items)
  stood_walk items = loaded_stood va level (reads_of p.machine.layout.pages r va w.walked.finds) w.added items w.walked.loaded

  kept_there : (items : List Item) → IsKept p.machine.layout.pages r kind va pte page level (made_all w.added ++ items)
  kept_there items = record { finds = w.walked.finds; is_end = w.walked.is_end; stood = stood_walk items }

  leaf_answer : (d : Bool) (items : List Item) → is_device page ≡ d → IsAllowed p.machine.layout.pages r kind va (answer d page va) (added ++ w.added) items
  leaf_answer true items e = leaf_at true items e
    where
      leaf_at : (d : Bool) (items : List Item) → is_device page ≡ d → IsLeafAt p.machine.layout.pages r kind va d (place_in page va) (made_all (added ++ w.added) ++ items)
      leaf_at d items e = record {
        pte = pte;
        address = page;
        level = level;
        kept = subst (λ (l : List Item). IsKept p.machine.layout.pages r kind va pte page level l) (sym (made_append added w.added items))
            (stays_over_steps p.machine.layout.pages r kind va pte page level added (made_all w.added ++ items) (kept_there items));
        device_is = e;
        at_is = refl;
      }
  leaf_answer false items e = leaf_at false items e
    where
      leaf_at : (d : Bool) (items : List Item) → is_device page ≡ d → IsLeafAt p.machine.layout.pages r kind va d (place_in page va) (made_all (added ++ w.added) ++ items)
      leaf_at d items e = record {
        pte = pte;
        address = page;
        level = level;
        kept = subst (λ (l : List Item). IsKept p.machine.layout.pages r kind va pte page level l) (sym (made_append added w.added items))
            (stays_over_steps p.machine.layout.pages r kind va pte page level added (made_all w.added ++ items) (kept_there items));
        device_is = e;
        at_is = refl;
      }

  change_of : (d : Bool) → Changes m q b b' r va pte page level (answer d page va) → HasEntry m q (slot va b.size) r va pte page × (b'.large ≡ (not (level == 0) || b.large))
  change_of true c = c
  change_of false c = c

  hits_answer : (d : Bool) → HitsKept q b.size r va kind → HitsNow q b.size r va kind (answer d page va)
  hits_answer true h = h
  hits_answer false h = h

  leaves_answer : (d : Bool) → LeavesAll p q b b' (answer d page va)
  leaves_answer true = tt
  leaves_answer false = tt

  entered_fills : result ≡ answer (is_device page) page va → Changes m q b b' r va pte page level result → Fills p q b b' r va kind result
  entered_fills res changes = record {
    allowed = λ items fills g. record {
      added = added ++ w.added;
      steps_are = all_steps;
      more = new m q b b' r va kind w.walked.finds pte page level (made_all w.added ++ items) fills added steps (stay items fills g) change.0 change.1 sized size_there ends_there loaded_there (stood_there items) ∷ [];
      goes = subst (λ (l : List Item). GoesWithFills q b' r l (new m q b b' r va kind w.walked.finds pte page level (made_all w.added ++ items) fills added steps (stay items fills g) change.0 change.1 sized size_there ends_there loaded_there (stood_there items) ∷ fills)) (sym (made_append added w.added items))
          (fills_enter m q b b' r va kind w.walked.finds pte page level (made_all w.added ++ items) fills added steps (stay items fills g) change.0 change.1 sized size_there ends_there loaded_there (stood_there items));
      allowed = subst (λ x. IsAllowed p.machine.layout.pages r kind va x (added ++ w.added) items) (sym res) (leaf_answer (is_device page) items refl);
    };
    hits_now = subst (λ x. HitsNow q b.size r va kind x) (sym res) (hits_answer (is_device page) (entry_hits m q b.size r va kind w.walked.finds pte page level change.0 ends_there));
    leaves = subst (λ x. LeavesAll p q b b' x) (sym res) (leaves_answer (is_device page));
    others = λ j f ne. change.0.others j f ne ∙ same.words j f;
  }
    where
      change : HasEntry m q (slot va b.size) r va pte page × (b'.large ≡ (not (level == 0) || b.large))
      change = change_of (is_device page) (subst (λ x. Changes m q b b' r va pte page level x) res changes)

      stay : (items : List Item) (fills : List Fill) → GoesWithFills p b r items fills → GoesWithFills m b r (made_all w.added ++ items) fills
      stay items fills g = fills_stay p m b r items fills w.added walk_steps same g

      size_there : b.size ≡ size_of m.own.actor m.own.steps
      size_there = size_is ∙ sym same.size

      stood_there : (items : List Item) → HasStood va level (reads_of m.machine.layout.pages r va w.walked.finds) (made_all w.added ++ items)
      stood_there items = subst (λ (x : Machine). HasStood va level (reads_of x.layout.pages r va w.walked.finds) (made_all w.added ++ items)) (sym same.machine) (stood_walk items)

      loaded_there : AreLoaded (reads_of m.machine.layout.pages r va w.walked.finds) m.own.steps
      loaded_there = subst (λ (x : Machine). AreLoaded (reads_of x.layout.pages r va w.walked.finds) m.own.steps) (sym same.machine)
          (subst (λ (l : List Step). AreLoaded (reads_of p.machine.layout.pages r va w.walked.finds) l) (sym walk_steps) (loaded_before (reads_of p.machine.layout.pages r va w.walked.finds) w.added p.own.steps w.walked.loaded))

  pub walked_fills : IsEntered m q b b' r va kind pte page level result → Changes m q b b' r va pte page level result → Fills p q b b' r va kind result
  walked_fills (entered put large res) changes = entered_fills res changes
  walked_fills (kept_out holder found e res) changes = let busy = subst (λ x. Changes m q b b' r va pte page level x) res changes in
      same_fills p q b b' r va kind result (added ++ w.added) all_steps (same_then p m q same busy.0) busy.1
      (λ items. subst (λ x. IsAllowed p.machine.layout.pages r kind va x (added ++ w.added) items) (sym res) tt) (subst (λ x. HitsNow q b.size r va kind x) (sym res) tt)

pub fault_fills : (p q : Shown) (b : Book) (r : Regime) (va : ℕ) (kind : Kind) (end : Walked) (cause : ℕ) → ShowsWalk r kind va p q end → HasSameTable p q → IsCause kind end cause → Fills p q b b r va kind (gives.Fault cause va)
fault_fills p q b r va kind end cause w same is = same_fills p q b b r va kind (gives.Fault cause va) w.added (ap (λ (x : Shown). x.own.steps) w.grows) same refl
    (λ items. record { end = end; walked = w.walked; cause_is = is; tval_is = refl }) tt

-- what a hit's answer is
module _ (p m q : Shown) (b : Book) (r : Regime) (va : ℕ) (kind : Kind) (found : Hit) (result : Translated) (h : HasHit p m (slot va b.size) va r.user kind found) (same : HasSameTable p q)
    (added : List Step) (steps : q.own.steps ≡ added ++ p.own.steps) (sized : IsSize b.size) (size_is : b.size ≡ size_of p.own.actor p.own.steps) (kept_hits : HitsKept p b.size r va kind) where
  still_hits : HitsKept q b.size r va kind
  still_hits = ap (λ n. hit (kept_word (field_of kind) n) va r.user) (same.words (slot va b.size) (field_of kind)) ∙ kept_hits

  allowed_answer : (d : Bool) (items : List Item) → IsLeafAt p.machine.layout.pages r kind va d (place_in found.page va) (made_all added ++ items) → IsAllowed p.machine.layout.pages r kind va (answer d found.page va) added items
  allowed_answer true items x = x
  allowed_answer false items x = x

  now_answer : (d : Bool) → HitsNow q b.size r va kind (answer d found.page va)
  now_answer true = still_hits
  now_answer false = still_hits

  answered : result ≡ answer found.device found.page va → ((items : List Item) (fills : List Fill) → GoesWithFills p b r items fills → IsAllowed p.machine.layout.pages r kind va result added items) × HitsNow q b.size r va kind result
  answered e = (
    λ items fills g. subst (λ x. IsAllowed p.machine.layout.pages r kind va x added items) (sym e)
        (allowed_answer found.device items (hit_leaf p b r va kind items fills added g sized size_is kept_hits found.device found.page h.compare h.device h.compared.last h.page)),
    subst (λ x. HitsNow q b.size r va kind x) (sym e) (now_answer found.device),
  )

  served_facts : IsServed m q va kind found result → ((items : List Item) (fills : List Fill) → GoesWithFills p b r items fills → IsAllowed p.machine.layout.pages r kind va result added items) × HitsNow q b.size r va kind result
  served_facts (at_once w e is) = answered is
  served_facts (settled w s is) = answered is
  served_facts (barred holder w f is) = (λ items fills g. subst (λ x. IsAllowed p.machine.layout.pages r kind va x added items) (sym is) tt, subst (λ x. HitsNow q b.size r va kind x) (sym is) tt)

  pub hit_answers : IsServed m q va kind found result → (items : List Item) (fills : List Fill) → GoesWithFills p b r items fills → AnswersAllowed p q b r va kind result items fills
  hit_answers served items fills g = record { added = added; steps_are = steps; more = []; goes = fills_stay p q b r items fills added steps same g; allowed = (served_facts served).0 items fills g }

  pub hit_now : IsServed m q va kind found result → HitsNow q b.size r va kind result
  hit_now served = (served_facts served).1

pub miss_never : (b : Bool) → false ≡ b → b ≡ true → ⊥
miss_never true e h = true≢false (sym e)
miss_never false e h = true≢false (sym h)
