-- The law of fences: what stands between a post and the source's load of 0.
use Rattle.std.proofs.Common.{◌≡◌, ◌≢◌, ℕ, ◌<◌, ◌≤◌, Bool, false, true≢false, List, [], ◌∷◌, ◌++◌, map, refl, sym, ap, subst, ◌∙◌, inl, inr, arith, ⊎_elim}
use Rattle.std.specs.Prelude.{◌⊎◌, Some, if◌then◌else◌}
use Rattle.step_laws.specs.Words.{most_harts}
use Rattle.step_laws.specs.declared.words.Layout.{Layout}
use Rattle.step_laws.specs.declared.steps.Step.{Step}
use Rattle.step_laws.specs.declared.steps.WordOp.{WordOp}
use Rattle.step_laws.specs.declared.steps.WordOp.TheVariants.{Load, Store}
use Rattle.step_laws.specs.Layout.{IsInLimits}
use Rattle.step_laws.specs.Map.{Word, Place, name_of, same, loader}
use Rattle.step_laws.specs.WordValues.{word_value, value_next}
use Rattle.step_laws.specs.Steps.{own_steps, answer_of}
use Rattle.step_laws.specs.Past.{Earlier, at_head, further, Since, here, past, Anything, Each}
use Rattle.step_laws.specs.Places.{last_load, last_load_next}
use Rattle.step_laws.specs.Tables.{IsClean}
use Rattle.step_laws.specs.Discipline.{IsPermitted, by_loader, by_actor, LoaderMay, boot_live, IsAway, IsFetch, IsUnlock, IsDrain, IsServed}
use Rattle.step_laws.specs.Histories.{IsHistory}
use Rattle.step_laws.specs.RequestLaws.{AlternateLaw, IsPost, IsFreed, IsAck, IsTaken, IsDone, IsAcked, FenceLaw}
use Rattle.step_laws.proofs.Invariants.{Places}
use Rattle.step_laws.specs.PlacedLaws.{PlacedLaw, PlacedAckLaw, PlacedFlushLaw, own_placed}
use Rattle.step_laws.proofs.Named.{by_test, same_refl}
use Rattle.step_laws.proofs.Woven.{Woven, woven, woven_before, acts, acts_of, own_other}
use Rattle.step_laws.proofs.Along.{by_same}
use Rattle.step_laws.proofs.Apart.{actor_off}
use Rattle.step_laws.proofs.Rings.{AtPlace, away, loads, posts_it, acks_it, at_place, places, moved_away, moved_here, loaded_away, loaded_here}

-- what stands since in an own record stands in the history, since the history base or before it
lift : (N P : Step → Type 0) (Q : List Step → Type 0) (t : ℕ) (b base : List Step) → Since N P Q (own_steps t (b ++ base))
    → Earlier (λ x. P x × (x.actor ≡ t)) (λ b'. Q (own_steps t (b' ++ base))) b ⊎ Since N P Q (own_steps t base)
lift N P Q t [] base e = inr e
lift N P Q t (y ∷ b) base e = by_test t y.actor (λ v. Since N P Q (if v then y ∷ own_steps t (b ++ base) else own_steps t (b ++ base)) → Earlier (λ x. P x × (x.actor ≡ t)) (λ b'. Q (own_steps t (b' ++ base))) (y ∷ b) ⊎ Since N P Q (own_steps t base))
    (λ is d. parts is (lift N P Q t b base) d) (λ _ d. more (lift N P Q t b base d)) e
  where
    more : Earlier (λ x. P x × (x.actor ≡ t)) (λ b'. Q (own_steps t (b' ++ base))) b ⊎ Since N P Q (own_steps t base)
        → Earlier (λ x. P x × (x.actor ≡ t)) (λ b'. Q (own_steps t (b' ++ base))) (y ∷ b) ⊎ Since N P Q (own_steps t base)
    more (inl d) = inl (further d)
    more (inr d) = inr d

    parts : t ≡ y.actor → (Since N P Q (own_steps t (b ++ base)) → Earlier (λ x. P x × (x.actor ≡ t)) (λ b'. Q (own_steps t (b' ++ base))) b ⊎ Since N P Q (own_steps t base))
        → Since N P Q (y ∷ own_steps t (b ++ base)) → Earlier (λ x. P x × (x.actor ≡ t)) (λ b'. Q (own_steps t (b' ++ base))) (y ∷ b) ⊎ Since N P Q (own_steps t base)
    parts is ih (here p q) = inl (at_head (p, sym is) q)
    parts is ih (past n d) = more (ih d)

off_same : (w v : Word) → v ≢ w → same w v ≡ false
off_same w v ne = by_same w v (λ t. t ≡ false) (λ e. absurd (ne (sym e))) refl

-- a load with no later step on the word is what the record last loaded
fetched : (w : Word) (q : ℕ) (r : List Step) → Since (IsAway w) (IsFetch w q) Anything r → last_load w r ≡ Some q
fetched w q r (here {x} {xs} p a) = (λ i. last_load_next w (p.0 i) (p.1 i) x.arg (p.2 i) (last_load w xs)) ∙ loaded_here w Load x.arg q (last_load w xs)
fetched w q r (past {x} {xs} n d) = loaded_away w (name_of x.word) x.op x.arg x.answer (last_load w xs) (off_same w (name_of x.word) n) ∙ fetched w q xs d

-- likewise where it was then served
fetched_before : (a t s k q : ℕ) (C : List Step → Type 0) (r : List Step) → Since (IsAway (Place t s k)) (IsUnlock a) (λ xs. C xs × Since (IsAway (Place t s k)) (IsFetch (Place t s k) q) Anything xs) r
    → last_load (Place t s k) r ≡ Some q
fetched_before a t s k q C r (here {x} {xs} p d) = loaded_away (Place t s k) (name_of x.word) x.op x.arg x.answer (last_load (Place t s k) xs) (ap (same (Place t s k)) p.0) ∙ fetched (Place t s k) q xs d.1
fetched_before a t s k q C r (past {x} {xs} n d) = loaded_away (Place t s k) (name_of x.word) x.op x.arg x.answer (last_load (Place t s k) xs) (off_same (Place t s k) (name_of x.word) n) ∙ fetched_before a t s k q C xs d

Earlier-map : {A : Type 0} {P : A → Type 0} {Q R : List A → Type 0} (xs : List A) → ((ys : List A) → Q ys → R ys) → Earlier P Q xs → Earlier P R xs
Earlier-map xs f (at_head {xs = ys} p q) = at_head p (f ys q)
Earlier-map xs f (further {xs = ys} d) = further (Earlier-map ys f d)

-- a service in the target's record, of a request that it hadn't loaded at the base, stands since the base
done_since : (t s k q : ℕ) (b base : List Step) → (last_load (Place t s k) (own_steps t base) ≡ Some q → ⊥) → IsServed t (Place t s k) q (own_steps t (b ++ base)) → IsDone t s k q base b
done_since t s k q b base fresh (inl d) = inl (d.0, is_taken b d.1)
  where
    is_taken : (b : List Step) → Since (IsAway (Place t s k)) (IsFetch (Place t s k) q) Anything (own_steps t (b ++ base)) → Earlier (IsTaken t s k q) Anything b
    is_taken b e = ⊎_elim (λ (l : Earlier (λ x. IsFetch (Place t s k) q x × (x.actor ≡ t)) (λ b'. Anything (own_steps t (b' ++ base))) b). l)
        (λ (l : Since (IsAway (Place t s k)) (IsFetch (Place t s k) q) Anything (own_steps t base)). absurd (fresh (fetched (Place t s k) q (own_steps t base) l)))
        (lift (IsAway (Place t s k)) (IsFetch (Place t s k) q) Anything t b base e)
done_since t s k q b base fresh (inr d) = ⊎_elim
    (λ (l : Earlier (λ x. IsUnlock t x × (x.actor ≡ t)) (λ b'. IsClean t q (own_steps t (b' ++ base)) × Since (IsAway (Place t s k)) (IsFetch (Place t s k) q) Anything (own_steps t (b' ++ base))) b).
    inr (Earlier-map b (λ xs y. (y.0, is_taken xs y.1)) l))
    (λ (l : Since (IsAway (Place t s k)) (IsUnlock t) (λ xs. IsClean t q xs × Since (IsAway (Place t s k)) (IsFetch (Place t s k) q) Anything xs) (own_steps t base)).
    absurd (fresh (fetched_before t t s k q (IsClean t q) (own_steps t base) l)))
    (lift (IsAway (Place t s k)) (IsUnlock t) (λ xs. IsClean t q xs × Since (IsAway (Place t s k)) (IsFetch (Place t s k) q) Anything xs) t b base d)
  where
    is_taken : (b : List Step) → Since (IsAway (Place t s k)) (IsFetch (Place t s k) q) Anything (own_steps t (b ++ base)) → Earlier (IsTaken t s k q) Anything b
    is_taken b e = ⊎_elim (λ (l : Earlier (λ x. IsFetch (Place t s k) q x × (x.actor ≡ t)) (λ b'. Anything (own_steps t (b' ++ base))) b). l)
        (λ (l : Since (IsAway (Place t s k)) (IsFetch (Place t s k) q) Anything (own_steps t base)). absurd (fresh (fetched (Place t s k) q (own_steps t base) l)))
        (lift (IsAway (Place t s k)) (IsFetch (Place t s k) q) Anything t b base e)

-- a step on a place: by an actor, with what it may be, and the facts of places before it
loader_off : (layout : Layout) (r : List Step) (t s k : ℕ) (w : Word) (op : WordOp) (arg : ℕ) → LoaderMay layout r w op arg → same (Place t s k) w ≡ false
loader_off layout r t s k w op arg (boot_live p) = refl
loader_off layout r t s k w op arg m = refl

record Placing (t s k : ℕ) (x : Step) (h : List Step) : Type 0 where
  at : AtPlace t s k x.actor (own_steps x.actor h) (name_of x.word) x.op x.arg
  facts : Places (λ w. word_value w h) (acts h)
  out : x.actor ≢ loader

module _ (layout : Layout) (runs : ℕ → Bool) (limits : IsInLimits layout) (t s k : ℕ) (ne : t ≢ s) where
  placing : (x : Step) (h : List Step) → Woven layout runs (x ∷ h) → (same (Place t s k) (name_of x.word) ≡ false) ⊎ Placing t s k x h
  placing x h o = go o.0.permitted
    where
      go : IsPermitted layout x.actor (runs x.actor) (own_steps x.actor h) (name_of x.word) x.op x.arg → (same (Place t s k) (name_of x.word) ≡ false) ⊎ Placing t s k x h
      go (by_loader e m) = inl (loader_off layout (own_steps x.actor h) t s k (name_of x.word) x.op x.arg m)
      go (by_actor who f m) = let out : x.actor ≢ loader = actor_off layout x.actor limits.harts who in inr (record {
        at = at_place layout t s k x.actor (runs x.actor) (own_steps x.actor h) (name_of x.word) x.op x.arg ne m;
        facts = places layout runs limits h o.1 (o.0.begun out);
        out = out;
      })

  -- while the post isn't acked it stands in its place
  still_there : (q : ℕ) (base b : List Step) → q ≢ 0 → (last_load (Place t s k) (own_steps t base) ≡ Some q → ⊥) → word_value (Place t s k) base ≡ q → Woven layout runs (b ++ base)
      → (word_value (Place t s k) (b ++ base) ≡ q) ⊎ IsAcked t s k q base b
  still_there q base [] nz fresh there o = inl there
  still_there q base (y ∷ b) nz fresh there o = ⊎_elim (λ (old : word_value (Place t s k) (b ++ base) ≡ q). now old (placing y (b ++ base) o)) (λ (d : IsAcked t s k q base b). inr (further d))
      (still_there q base b nz fresh there o.1)
    where
      step : (c : ℕ) (w : Word) (op : WordOp) (arg : ℕ) → c ≡ y.actor → name_of y.word ≡ w → y.op ≡ op → y.arg ≡ arg → AtPlace t s k c (own_steps c (b ++ base)) w op arg → Places (λ w. word_value w (b ++ base)) (acts (b ++ base)) → c ≢ loader
          → word_value (Place t s k) (b ++ base) ≡ q → (value_next (Place t s k) w op (word_value (Place t s k) (b ++ base)) arg ≡ q) ⊎ IsAcked t s k q base (y ∷ b)
      step c w op arg is e g v (away l) f out old = inl (moved_away (Place t s k) w op (word_value (Place t s k) (b ++ base)) arg l ∙ old)
      step c w op arg is e g v loads f out old = inl old
      step c w op arg is e g v (posts_it m x at free) f out old = absurd (nz (sym old ∙ f.frees t s k ne
          (ap (last_load (Place t s k)) (ap (acts (b ++ base)) (sym m) ∙ acts_of (b ++ base) c out) ∙ free)))
      step c w op arg is e g v (acks_it {q = p} m x at l d) f out old =
          let same_request : p ≡ q = sym (f.asks t s k p ne x (ap (last_load (Place t s k)) (ap (acts (b ++ base)) (sym m) ∙ acts_of (b ++ base) c out) ∙ l)) ∙ old in
          inr (at_head (sym is ∙ m, e, g, v) (
            ap (λ a. last_load (Place t s k) (own_steps a (b ++ base))) (sym m) ∙ l ∙ ap (λ n. Some n) same_request,
            done_since t s k q b base fresh (subst (λ x. IsServed t (Place t s k) x (own_steps t (b ++ base))) same_request
                (subst (λ a. IsServed t (Place t s k) p (own_steps a (b ++ base))) m d)),
          ))

      now : word_value (Place t s k) (b ++ base) ≡ q → (same (Place t s k) (name_of y.word) ≡ false) ⊎ Placing t s k y (b ++ base) → (word_value (Place t s k) (y ∷ (b ++ base)) ≡ q) ⊎ IsAcked t s k q base (y ∷ b)
      now old (inl l) = inl (moved_away (Place t s k) (name_of y.word) y.op (word_value (Place t s k) (b ++ base)) y.arg l ∙ old)
      now old (inr p) = step y.actor (name_of y.word) y.op y.arg refl refl refl refl p.at p.facts p.out old

abbrev Alternates : (t s k : ℕ) → Step → List Step → Type 0
Alternates t s k x h = ((q : ℕ) × IsPost t s k q x × (q ≢ 0) × (word_value (Place t s k) h ≡ 0)) ⊎ (IsAck t s k x × (word_value (Place t s k) h ≢ 0))

module _ (layout : Layout) (runs : ℕ → Bool) (limits : IsInLimits layout) (t s k : ℕ) (ne : t ≢ s) where
  alternates : (x : Step) (h : List Step) → Woven layout runs (x ∷ h) → name_of x.word ≡ Place t s k → x.op ≢ Load → Alternates t s k x h
  alternates x h o e no_load = now (placing layout runs limits t s k ne x h o)
    where
      step : (c : ℕ) (w : Word) (op : WordOp) (arg : ℕ) → c ≡ x.actor → name_of x.word ≡ w → x.op ≡ op → x.arg ≡ arg → AtPlace t s k c (own_steps c h) w op arg → Places (λ w. word_value w h) (acts h) → c ≢ loader → Alternates t s k x h
      step c w op arg is d g v (away l) f out = absurd (true≢false (sym (same_refl (Place t s k)) ∙ ap (same (Place t s k)) (sym e ∙ d) ∙ l))
      step c w op arg is d g v loads f out = absurd (no_load g)
      step c w op arg is d g v (posts_it m nz at free) f out = inl (arg, (sym is ∙ m, e, g, v), nz, f.frees t s k ne (ap (last_load (Place t s k)) (ap (acts h) (sym m) ∙ acts_of h c out) ∙ free))
      step c w op arg is d g v (acks_it {q} m nz at l b) f out = inr ((sym is ∙ m, e, g, v), λ z. nz (sym (f.asks t s k q ne nz (ap (last_load (Place t s k)) (ap (acts h) (sym m) ∙ acts_of h c out) ∙ l)) ∙ z))

      now : (same (Place t s k) (name_of x.word) ≡ false) ⊎ Placing t s k x h → Alternates t s k x h
      now (inl l) = absurd (true≢false (sym (same_refl (Place t s k)) ∙ ap (same (Place t s k)) (sym e) ∙ l))
      now (inr p) = step x.actor (name_of x.word) x.op x.arg refl refl refl refl p.at p.facts p.out

  -- a post is over 0, of a request that its target hasn't loaded
  record Posting (q : ℕ) (before : List Step) : Type 0 where
    nonzero : q ≢ 0
    free : word_value (Place t s k) before ≡ 0
    fresh : last_load (Place t s k) (own_steps t before) ≡ Some q → ⊥

  posting : (q : ℕ) (p : Step) (before : List Step) → Woven layout runs (p ∷ before) → IsPost t s k q p → t ≢ loader → Posting q before
  posting q p before o b off = go (alternates p before o b.1 (λ e. store_load (b.2) e))
    where
      store_load : p.op ≡ Store → p.op ≡ Load → ⊥
      store_load e f = cc

      nz : Alternates t s k p before → q ≢ 0
      nz (inl d) z = d.2 (sym (d.1.3) ∙ b.3 ∙ z)
      nz (inr d) z = ne (sym d.0.0 ∙ b.0)

      go : Alternates t s k p before → Posting q before
      go (inl d) = record {
        nonzero = nz (inl d);
        free = d.3;
        fresh = λ l. nz (inl d) (sym ((placed_facts (placing layout runs limits t s k ne p before o)).asks t s k q ne (nz (inl d)) (ap (last_load (Place t s k)) (acts_of before t off) ∙ l)) ∙ d.3);
      }
        where
          placed_facts : (same (Place t s k) (name_of p.word) ≡ false) ⊎ Placing t s k p before → Places (λ w. word_value w before) (acts before)
          placed_facts (inl l) = absurd (true≢false (sym (same_refl (Place t s k)) ∙ ap (same (Place t s k)) (sym b.1) ∙ l))
          placed_facts (inr p) = p.facts
      go (inr d) = absurd (ne (sym d.0.0 ∙ b.0))

  fenced : (q : ℕ) (between before : List Step) (p z : Step) → Woven layout runs (z ∷ (between ++ (p ∷ before))) → t ≢ loader → IsPost t s k q p → IsFreed t s k z → IsAcked t s k q (p ∷ before) between
  fenced q between before p z o off b f = ⊎_elim
      (λ (there : word_value (Place t s k) (between ++ (p ∷ before)) ≡ q). absurd (post.nonzero (sym there ∙ freed)))
      (λ (d : IsAcked t s k q (p ∷ before) between). d)
      (still_there layout runs limits t s k ne q (p ∷ before) between post.nonzero
      (λ l. post.fresh (sym (ap (last_load (Place t s k)) (own_other p before t (λ e. ne (e ∙ b.0)))) ∙ l))
      ((λ i. value_next (Place t s k) (b.1 i) (b.2 i) (word_value (Place t s k) before) p.arg) ∙ moved_here (Place t s k) Store (word_value (Place t s k) before) p.arg ∙ b.3) o.1)
    where
      post : Posting q before
      post = posting q p before (woven_before layout runs between (p ∷ before) o.1) b off

      freed : word_value (Place t s k) (between ++ (p ∷ before)) ≡ 0
      freed = sym ((λ i. answer_of (f.2 i) (word_value (f.1 i) (between ++ (p ∷ before))))) ∙ sym o.0.answered ∙ f.3

pub alternate_law : AlternateLaw
alternate_law layout runs h x t s k i ne e no_load = alternates layout runs i.limits t s k ne x h (woven layout runs (x ∷ h) i) e no_load

hart_off : (layout : Layout) (t : ℕ) → layout.harts ≤ most_harts → t < layout.harts → t ≢ loader
hart_off layout t few l e = omega arith

pub fence_law : FenceLaw
fence_law layout runs later between before p z t s k q i l ne b f = fenced layout runs i.limits t s k ne q between before p z
    (woven_before layout runs later (z ∷ (between ++ (p ∷ before))) (woven layout runs (later ++ (z ∷ (between ++ (p ∷ before)))) i)) (hart_off layout t i.limits.harts l) b f

-- over steps that carry more
module _ {A : Type 0} (step : A → Step) where
  -- what stands since in an own record, by its place in the list
  record Split (N P : A → Type 0) (s : ℕ) (xs : List A) : Type 0 where
    newer : List A
    at : A
    older : List A
    whole : xs ≡ newer ++ (at ∷ older)
    has : P at
    since : Each (λ x. (step x).actor ≡ s → N x) newer

  split_own : (N P : A → Type 0) (s : ℕ) (xs : List A) → Since N P Anything (own_placed step s xs) → Split N P s xs
  split_own N P s [] e = elim e [ ]
  split_own N P s (x ∷ xs) e = by_test s (step x).actor (λ v. Since N P Anything (if v then x ∷ own_placed step s xs else own_placed step s xs) → Split N P s (x ∷ xs))
      (λ is d. parts is (split_own N P s xs) d) (λ ne d. more (λ is. absurd (ne (sym is))) (split_own N P s xs d)) e
    where
      more : ((step x).actor ≡ s → N x) → Split N P s xs → Split N P s (x ∷ xs)
      more n d = record { newer = x ∷ d.newer; at = d.at; older = d.older; whole = ap (λ ys. x ∷ ys) d.whole; has = d.has; since = (n, d.since) }

      parts : s ≡ (step x).actor → (Since N P Anything (own_placed step s xs) → Split N P s xs) → Since N P Anything (x ∷ own_placed step s xs) → Split N P s (x ∷ xs)
      parts is ih (here p q) = record { newer = []; at = x; older = xs; whole = refl; has = p; since = tt }
      parts is ih (past n d) = more (λ _. n) (ih d)

  map_parts : (xs ys : List A) → map step (xs ++ ys) ≡ map step xs ++ map step ys
  map_parts [] ys = refl
  map_parts (x ∷ xs) ys = ap (λ zs. step x ∷ zs) (map_parts xs ys)

  -- what stands earlier in the steps since an element stands since it in the list
  since_of : (N : A → Type 0) (P : Step → Type 0) (Q R : List Step → Type 0) (newer older : List A) → Each N newer
      → ((ys : List Step) → Q ys → R (ys ++ map step older)) → Earlier P Q (map step newer) → Since N (λ x. P (step x)) (λ ys. R (map step ys)) (newer ++ older)
  since_of N P Q R [] older each f e = elim e [ ]
  since_of N P Q R (x ∷ newer) older each f e = parts (since_of N P Q R newer older each.1 f) e
    where
      parts : (Earlier P Q (map step newer) → Since N (λ x. P (step x)) (λ ys. R (map step ys)) (newer ++ older)) → Earlier P Q (step x ∷ map step newer) → Since N (λ x. P (step x)) (λ ys. R (map step ys)) (x ∷ (newer ++ older))
      parts ih (at_head p q) = here p (subst R (sym (map_parts newer older)) (f (map step newer) q))
      parts ih (further d) = past each.0 (ih d)

-- the service that stands before an ack stands by itself
done_before : (t s k q : ℕ) (base b : List Step) → (IsDrain q → ⊥) → IsAcked t s k q base b → Earlier (λ x. IsUnlock t x × (x.actor ≡ t)) (λ xs. IsClean t q (own_steps t (xs ++ base))) b
done_before t s k q base b flush (at_head {xs = ys} p d) = further (by d.1)
  where
    by : IsDone t s k q base ys → Earlier (λ x. IsUnlock t x × (x.actor ≡ t)) (λ xs. IsClean t q (own_steps t (xs ++ base))) ys
    by (inl e) = absurd (flush e.0)
    by (inr e) = Earlier-map ys (λ zs y. y.0) e
done_before t s k q base b flush (further {xs = ys} d) = further (done_before t s k q base ys flush d)

pub placed_law : PlacedLaw
placed_law A step N layout runs xs z t s k q i l ne flush e f =
    let d : Split step N (λ x. IsPost t s k q (step x)) s xs = split_own step N (λ x. IsPost t s k q (step x)) s xs e in
    let whole : map step xs ≡ map step d.newer ++ (step d.at ∷ map step d.older) = ap (map step) d.whole ∙ map_parts step d.newer (d.at ∷ d.older) in
    let acked : IsAcked t s k q (step d.at ∷ map step d.older) (map step d.newer) = fence_law layout runs [] (map step d.newer) (map step d.older) (step d.at) z t s k q
    (subst (λ h. IsHistory layout runs (z ∷ h)) whole i) l ne d.has f in
    subst (Since (λ x. (step x).actor ≡ s → N x) (λ x. IsUnlock t (step x) × ((step x).actor ≡ t)) (λ ys. IsClean t q (own_steps t (map step ys)))) (sym d.whole)
    (since_of step (λ x. (step x).actor ≡ s → N x) (λ x. IsUnlock t x × (x.actor ≡ t)) (λ ys. IsClean t q (own_steps t (ys ++ (step d.at ∷ map step d.older)))) (λ ys. IsClean t q (own_steps t ys))
    d.newer (d.at ∷ d.older) d.since (λ ys y. y) (done_before t s k q (step d.at ∷ map step d.older) (map step d.newer) flush acked))

pub placed_ack_law : PlacedAckLaw
placed_ack_law A step N layout runs xs z t s k q i l ne e f =
    let d : Split step N (λ x. IsPost t s k q (step x)) s xs = split_own step N (λ x. IsPost t s k q (step x)) s xs e in
    let whole : map step xs ≡ map step d.newer ++ (step d.at ∷ map step d.older) = ap (map step) d.whole ∙ map_parts step d.newer (d.at ∷ d.older) in
    let acked : IsAcked t s k q (step d.at ∷ map step d.older) (map step d.newer) = fence_law layout runs [] (map step d.newer) (map step d.older) (step d.at) z t s k q
    (subst (λ h. IsHistory layout runs (z ∷ h)) whole i) l ne d.has f in
    subst (Since (λ x. (step x).actor ≡ s → N x) (λ x. IsAck t s k (step x)) Anything) (sym d.whole)
    (since_of step (λ x. (step x).actor ≡ s → N x) (IsAck t s k) (λ ys. (last_load (Place t s k) (own_steps t (ys ++ (step d.at ∷ map step d.older))) ≡ Some q) × IsDone t s k q (step d.at ∷ map step d.older) ys) Anything d.newer (d.at ∷ d.older) d.since (λ ys y. tt) acked)

-- what the target's own placed record tells
module _ {A : Type 0} (step : A → Step) where
  record Ahead (P : A → Type 0) (Q : List Step → Type 0) (xs : List A) : Type 0 where
    newer : List A
    at : A
    older : List A
    whole : xs ≡ newer ++ (at ∷ older)
    has : P at
    before : Q (map step older)

  ahead : (P : Step → Type 0) (Q : List Step → Type 0) (xs : List A) → Earlier P Q (map step xs) → Ahead (λ x. P (step x)) Q xs
  ahead P Q [] e = elim e [ ]
  ahead P Q (x ∷ xs) e = parts (ahead P Q xs) e
    where
      parts : (Earlier P Q (map step xs) → Ahead (λ x. P (step x)) Q xs) → Earlier P Q (step x ∷ map step xs) → Ahead (λ x. P (step x)) Q (x ∷ xs)
      parts ih (at_head p q) = record { newer = []; at = x; older = xs; whole = refl; has = p; before = q }
      parts ih (further d) = let k = ih d in record { newer = x ∷ k.newer; at = k.at; older = k.older; whole = ap (λ ys. x ∷ ys) k.whole; has = k.has; before = k.before }

  append_parts : (xs ys zs : List A) → (xs ++ ys) ++ zs ≡ xs ++ (ys ++ zs)
  append_parts [] ys zs = refl
  append_parts (x ∷ xs) ys zs = ap (λ ls. x ∷ ls) (append_parts xs ys zs)

  own_mine : (t : ℕ) (xs : List A) → own_steps t (map step xs) ≡ map step (own_placed step t xs)
  own_mine t [] = refl
  own_mine t (x ∷ xs) = by_test t (step x).actor (λ b. (if b then step x ∷ own_steps t (map step xs) else own_steps t (map step xs)) ≡ map step (if b then x ∷ own_placed step t xs else own_placed step t xs))
      (λ _. ap (λ ys. step x ∷ ys) (own_mine t xs)) (λ _. own_mine t xs)

  lift_placed : (N P : A → Type 0) (Q : List A → Type 0) (t : ℕ) (b base : List A) → Since N P Q (own_placed step t (b ++ base)) → Earlier (λ x. P x × ((step x).actor ≡ t)) Anything b ⊎ Since N P Q (own_placed step t base)
  lift_placed N P Q t [] base e = inr e
  lift_placed N P Q t (y ∷ b) base e = by_test t (step y).actor (λ v. Since N P Q (if v then y ∷ own_placed step t (b ++ base) else own_placed step t (b ++ base)) → Earlier (λ x. P x × ((step x).actor ≡ t)) Anything (y ∷ b) ⊎ Since N P Q (own_placed step t base))
      (λ is d. parts is (lift_placed N P Q t b base) d) (λ _ d. more (lift_placed N P Q t b base d)) e
    where
      more : Earlier (λ x. P x × ((step x).actor ≡ t)) Anything b ⊎ Since N P Q (own_placed step t base) → Earlier (λ x. P x × ((step x).actor ≡ t)) Anything (y ∷ b) ⊎ Since N P Q (own_placed step t base)
      more (inl d) = inl (further d)
      more (inr d) = inr d

      parts : t ≡ (step y).actor → (Since N P Q (own_placed step t (b ++ base)) → Earlier (λ x. P x × ((step x).actor ≡ t)) Anything b ⊎ Since N P Q (own_placed step t base))
          → Since N P Q (y ∷ own_placed step t (b ++ base)) → Earlier (λ x. P x × ((step x).actor ≡ t)) Anything (y ∷ b) ⊎ Since N P Q (own_placed step t base)
      parts is ih (here p q) = inl (at_head (p, sym is) tt)
      parts is ih (past n d) = more (ih d)

  fetched_mine : (w : Word) (q : ℕ) (l : List A) → Since (λ y. IsAway w (step y)) (λ y. IsFetch w q (step y)) Anything l → last_load w (map step l) ≡ Some q
  fetched_mine w q l (here {x} {xs} p a) = fetched w q (step x ∷ map step xs) (here p tt)
  fetched_mine w q l (past {x} {xs} n d) = loaded_away w (name_of (step x).word) (step x).op (step x).arg (step x).answer (last_load w (map step xs)) (off_same w (name_of (step x).word) n) ∙ fetched_mine w q xs d

  marked_mine : (M : A → Type 0) (w : Word) (q : ℕ) (l : List A) → Since (λ y. IsAway w (step y)) (λ y. M y × IsAway w (step y)) (λ ys. Since (λ y. IsAway w (step y)) (λ y. IsFetch w q (step y)) Anything ys) l → last_load w (map step l) ≡ Some q
  marked_mine M w q l (here {x} {xs} p d) = loaded_away w (name_of (step x).word) (step x).op (step x).arg (step x).answer (last_load w (map step xs)) (off_same w (name_of (step x).word) p.1) ∙ fetched_mine w q xs d
  marked_mine M w q l (past {x} {xs} n d) = loaded_away w (name_of (step x).word) (step x).op (step x).arg (step x).answer (last_load w (map step xs)) (off_same w (name_of (step x).word) n) ∙ marked_mine M w q xs d

  earlier_in : (P : A → Type 0) (newer : List A) (y : A) (older : List A) → Earlier P Anything older → Earlier P Anything (newer ++ (y ∷ older))
  earlier_in P [] y older e = further e
  earlier_in P (x ∷ newer) y older e = further (earlier_in P newer y older e)

  since_list : (N P : A → Type 0) (newer rest : List A) → Each N newer → Earlier P Anything newer → Since N P Anything (newer ++ rest)
  since_list N P [] rest each e = elim e [ ]
  since_list N P (x ∷ newer) rest each e = parts (since_list N P newer rest each.1) e
    where
      parts : (Earlier P Anything newer → Since N P Anything (newer ++ rest)) → Earlier P Anything (x ∷ newer) → Since N P Anything (x ∷ (newer ++ rest))
      parts ih (at_head p q) = here p tt
      parts ih (further d) = past each.0 (ih d)

  earlier_first : (P R : A → Type 0) (xs : List A) → ((x : A) → P x → R x) → Earlier P Anything xs → Earlier R Anything xs
  earlier_first P R xs f (at_head {x} p q) = at_head (f x p) tt
  earlier_first P R xs f (further {xs = ys} d) = further (earlier_first P R ys f d)

pub placed_flush_law : PlacedFlushLaw
placed_flush_law A step N M layout runs xs z t s k q i l ne told e f =
    let w : Word = Place t s k in
    let d : Split step N (λ x. IsPost t s k q (step x)) s xs = split_own step N (λ x. IsPost t s k q (step x)) s xs e in
    let whole : map step xs ≡ map step d.newer ++ (step d.at ∷ map step d.older) = ap (map step) d.whole ∙ map_parts step d.newer (d.at ∷ d.older) in
    let history : IsHistory layout runs (z ∷ (map step d.newer ++ (step d.at ∷ map step d.older))) = subst (λ h. IsHistory layout runs (z ∷ h)) whole i in
    let acked : IsAcked t s k q (step d.at ∷ map step d.older) (map step d.newer) = fence_law layout runs [] (map step d.newer) (map step d.older) (step d.at) z t s k q history l ne d.has f in
    let a : Ahead step (λ x. IsAck t s k (step x)) (λ ys. (last_load w (own_steps t (ys ++ (step d.at ∷ map step d.older))) ≡ Some q) × IsDone t s k q (step d.at ∷ map step d.older) ys) d.newer
    = ahead step (IsAck t s k) (λ ys. (last_load w (own_steps t (ys ++ (step d.at ∷ map step d.older))) ≡ Some q) × IsDone t s k q (step d.at ∷ map step d.older) ys) d.newer acked in
    let split : xs ≡ a.newer ++ (a.at ∷ (a.older ++ (d.at ∷ d.older))) = d.whole ∙ ap (λ ys. ys ++ (d.at ∷ d.older)) a.whole ∙ append_parts step a.newer (a.at ∷ a.older) (d.at ∷ d.older) in
    let was_loaded : last_load w (own_steps t (map step (a.older ++ (d.at ∷ d.older)))) ≡ Some q = ap (λ ys. last_load w (own_steps t ys)) (map_parts step a.older (d.at ∷ d.older)) ∙ a.before.0 in
    let off : t ≢ loader = hart_off layout t i.limits.harts l in
    let o : Woven layout runs (step d.at ∷ map step d.older) = woven_before layout runs (map step d.newer) (step d.at ∷ map step d.older) (woven layout runs (z ∷ (map step d.newer ++ (step d.at ∷ map step d.older))) history).1 in
    let fresh : last_load w (own_steps t (map step (d.at ∷ d.older))) ≡ Some q → ⊥ = (λ x. (posting layout runs i.limits t s k ne q (step d.at) (map step d.older) o d.has off).fresh
    (sym (ap (last_load w) (own_other (step d.at) (map step d.older) t (λ y. ne (y ∙ d.has.0)))) ∙ x)) in
    let stands : Earlier (λ x. (M x × IsAway w (step x)) × ((step x).actor ≡ t)) Anything a.older = ⊎_elim
    (λ (x : Earlier (λ x. (M x × IsAway w (step x)) × ((step x).actor ≡ t)) Anything a.older). x)
    (λ (x : Since (λ y. IsAway w (step y)) (λ y. M y × IsAway w (step y)) (λ ys. Since (λ y. IsAway w (step y)) (λ y. IsFetch w q (step y)) Anything ys) (own_placed step t (d.at ∷ d.older))).
    absurd (fresh (ap (last_load w) (own_mine step t (d.at ∷ d.older)) ∙ marked_mine step M w q (own_placed step t (d.at ∷ d.older)) x)))
    (lift_placed step (λ y. IsAway w (step y)) (λ y. M y × IsAway w (step y)) (λ ys. Since (λ y. IsAway w (step y)) (λ y. IsFetch w q (step y)) Anything ys) t a.older (d.at ∷ d.older)
    (told a.newer (a.older ++ (d.at ∷ d.older)) a.at split a.has was_loaded)) in
    subst (Since (λ x. (step x).actor ≡ s → N x) (λ x. M x × ((step x).actor ≡ t)) Anything) (sym d.whole)
    (since_list step (λ x. (step x).actor ≡ s → N x) (λ x. M x × ((step x).actor ≡ t)) d.newer (d.at ∷ d.older) d.since
    (subst (Earlier (λ x. M x × ((step x).actor ≡ t)) Anything) (sym a.whole) (earlier_in step (λ x. M x × ((step x).actor ≡ t)) a.newer a.at a.older
    (earlier_first step (λ x. (M x × IsAway w (step x)) × ((step x).actor ≡ t)) (λ x. M x × ((step x).actor ≡ t)) a.older (λ x y. (y.0.0, y.1)) stands))))
