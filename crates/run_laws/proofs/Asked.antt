-- A fence that another hart made: where the source asked for it since its Fetch, and found the place free again, it has been done.
use Rattle.std.proofs.Common.{◌≡◌, ◌≢◌, ◌⊎◌, ℕ, ◌+◌, ◌<◌, ◌≤◌, Bool, true, false, true≢false, List, [], ◌∷◌, ◌++◌, Option, Some, None, map, refl, sym, ap, subst, ◌∙◌, inl, inr, arith, eq-eqb, ne_eqb}
use Rattle.std.specs.Prelude.{◌==◌, ◌&&◌, ◌||◌, nat_le, if◌then◌else◌}
use Rattle.std.specs.List.{list_any}
use Rattle.std.proofs.lemmas.Bool.{cases_eq, and_parts}
use Rattle.std.proofs.lemmas.Bool.Decides.{nat_tests}
use Rattle.rv64_priv.specs.Flush.{Flush, Full, Pages}
use Rattle.step_laws.specs.declared.words.Layout.{Layout}
use Rattle.step_laws.specs.declared.steps.Step.{Step}
use Rattle.step_laws.specs.declared.steps.WordOp.{WordOp}
use Rattle.step_laws.specs.declared.steps.WordOp.TheVariants.{Load, Store}
use Rattle.step_laws.specs.Map.{Word, Place, name_of}
use Rattle.step_laws.specs.Words.{loader}
use Rattle.step_laws.specs.Fields.{request_kind, request_count, request_page}
use Rattle.step_laws.specs.Past.{Since, here, past, Anything}
use Rattle.step_laws.specs.Places.{last_load}
use Rattle.step_laws.specs.Steps.{own_steps}
use Rattle.step_laws.specs.Discipline.{IsPermitted, IsDisciplined, IsDrain, by_loader, by_actor, ActorMay, post, ack}
use Rattle.step_laws.specs.Histories.{IsHistory}
use Rattle.step_laws.specs.RequestLaws.{IsPost, IsFreed, IsAck}
use Rattle.step_laws.specs.PlacedLaws.{own_placed as mine_in}
use Rattle.step_laws.proofs.Named.{by_test}
use Rattle.step_laws.proofs.Fenced.{placed_flush_law}
use Rattle.machine_model.specs.Past.{HasSince}
use Rattle.machine_model.specs.Event.{Event, Fetch, Flushes, actor_of}
use Rattle.machine_model.specs.State.{Setup}
use Rattle.machine_model.specs.Run.{fetches, flushes, includes}
use Rattle.machine_model.specs.Lawful.{Flushed}
use Rattle.machine_model.proofs.Uniform.{has_more}
use Rattle.run_laws.proofs.Placed.{Placed, placed, steps, run_of, mine, Spares}
use Rattle.turn_pieces.specs.Requests.{Names}
use Rattle.run_laws.proofs.Fits.{Posted, Answered, AskedFor}
use Rattle.turn_pieces.specs.Requests.{flush_of}
use Rattle.run_laws.proofs.Acks.{Makes, IsFlushed, Acks}
use Rattle.run_laws.proofs.Pieces.{Told}
use Rattle.run_laws.proofs.Beginning.{IsBegun, history}
use Rattle.run_laws.proofs.Used.{FenceLaw}
use Rattle.run_laws.proofs.Weave.{by_mine}
use Rattle.run_laws.proofs.Own.{by_fit}
use Rattle.run_laws.proofs.Walks.{passing}
use Rattle.run_laws.proofs.Stands.{others_pass}
use Rattle.run_laws.proofs.Agree.{history_tail, own_history}
use Rattle.run_laws.proofs.Waits.{any_since}

-- what a request names its flush includes
includes_part : (made : Flush) (page count p : ℕ) → includes made (Pages page count) ≡ true → page ≤ p → p < page + count → includes made (Pages p 1) ≡ true
includes_part Full page count p e le lt = refl
includes_part (Pages first many) page count p e le lt = let k = and_parts (nat_le first page) (nat_le (page + count) (first + many)) e in grind (arith, nat_tests, k.0, k.1, le, lt)

abbrev flush_at : Option ℕ → Flush
flush_at None = Full
flush_at (Some p) = Pages p 1

full_part : (made : Flush) (p : ℕ) → includes made Full ≡ true → includes made (Pages p 1) ≡ true
full_part Full p e = refl
full_part (Pages first many) p e = absurd (true≢false (sym e))

all_of_it : (q : ℕ) → request_kind q ≡ 1 → flush_of q ≡ Full
all_of_it q e = ap (λ (b : Bool). if b then Full else Pages (request_page q) (request_count q)) (eq-eqb (request_kind q) 1 e)

its_pages : (q : ℕ) → request_kind q ≡ 2 → flush_of q ≡ Pages (request_page q) (request_count q)
its_pages q e = ap (λ (b : Bool). if b then Full else Pages (request_page q) (request_count q)) (ne_eqb (request_kind q) 1 (λ k. omega (arith, e, k)))

named_flush : (q : ℕ) (page : Option ℕ) → Names q page → (made : Flush) → includes made (flush_of q) ≡ true → includes made (flush_at page) ≡ true
named_flush q None n made e = ap (includes made) (sym (all_of_it q n)) ∙ e
named_flush q (Some p) (inl n) made e = full_part made p (ap (includes made) (sym (all_of_it q n)) ∙ e)
named_flush q (Some p) (inr n) made e = includes_part made (request_page q) (request_count q) p (ap (includes made) (sym (its_pages q n.0)) ∙ e) n.1 n.2

no_drain : (q : ℕ) (page : Option ℕ) → Names q page → IsDrain q → ⊥
no_drain q None n d = omega (arith, n, d)
no_drain q (Some p) (inl n) d = omega (arith, n, d)
no_drain q (Some p) (inr n) d = let k = n.0 in omega (arith, k, d)

flushes_named : (t q : ℕ) (page : Option ℕ) → Names q page → (e : Event) → flushes t (flush_of q) e ≡ true → flushes t (flush_at page) e ≡ true
flushes_named t q page n (Flushes g made) e = let k = and_parts (g == t) (includes made (flush_of q)) e in
    (λ i. k.0 i && includes made (flush_at page)) ∙ named_flush q page n made k.1
flushes_named t q page n e k = absurd (true≢false (sym k))

any_named : (t q : ℕ) (page : Option ℕ) → Names q page → (es : List Event) → list_any (flushes t (flush_of q)) es ≡ true → list_any (flushes t (flush_at page)) es ≡ true
any_named t q page n es k = any_more (flushes t (flush_of q)) (flushes t (flush_at page)) (flushes_named t q page n) es k
  where
    any_more : (f g : Event → Bool) → ((e : Event) → f e ≡ true → g e ≡ true) → (es : List Event) → list_any f es ≡ true → list_any g es ≡ true
    any_more f g h [] k = absurd (true≢false (sym k))
    any_more f g h (e ∷ es) k = go (f e) (g e) (h e) k (any_more f g h es)
      where
        go : (a b : Bool) → (a ≡ true → b ≡ true) → (a || list_any f es) ≡ true → (list_any f es ≡ true → list_any g es ≡ true) → (b || list_any g es) ≡ true
        go true b i k ih = ap (λ (x : Bool). x || list_any g es) (i refl)
        go false true i k ih = refl
        go false false i k ih = ih k

not_fetches : (a : ℕ) (e : Event) → actor_of e ≢ a → fetches a e ≡ false
not_fetches a (Fetch g walk code) k = ne_eqb g a k
not_fetches a e k = refl

-- the loader's steps, with no events
abbrev bare : List Step → List Placed
bare [] = []
bare (s ∷ h) = placed s [] ∷ bare h

abbrev whole_list : List Step → List Placed → List Placed
whole_list boot [] = bare boot
whole_list boot (t ∷ ts) = t ∷ whole_list boot ts

abbrev step_of : Placed → Step
step_of x = x.step

bare_steps : (boot : List Step) → map step_of (bare boot) ≡ boot
bare_steps [] = refl
bare_steps (s ∷ h) = ap (λ r. s ∷ r) (bare_steps h)

whole_steps : (boot : List Step) (ts : List Placed) → map step_of (whole_list boot ts) ≡ history boot ts
whole_steps boot [] = bare_steps boot
whole_steps boot (t ∷ ts) = ap (λ r. t.step ∷ r) (whole_steps boot ts)

bare_mine : (a : ℕ) (boot : List Step) → own_steps a boot ≡ [] → mine_in step_of a (bare boot) ≡ []
bare_mine a [] e = refl
bare_mine a (s ∷ h) e = by_test a s.actor (λ v. (if v then s ∷ own_steps a h else own_steps a h) ≡ [] → (if v then placed s [] ∷ mine_in step_of a (bare h) else mine_in step_of a (bare h)) ≡ [])
    (λ _ k. absurd (filled k)) (λ _ k. bare_mine a h k) e
  where
    filled : {xs : List Step} → (s ∷ xs) ≡ [] → ⊥
    filled k = cc (k)

whole_mine : (a : ℕ) (boot : List Step) → own_steps a boot ≡ [] → (ts : List Placed) → mine_in step_of a (whole_list boot ts) ≡ mine a ts
whole_mine a boot e [] = bare_mine a boot e
whole_mine a boot e (t ∷ ts) = by_test a t.step.actor (λ v. (if v then t ∷ mine_in step_of a (whole_list boot ts) else mine_in step_of a (whole_list boot ts)) ≡ (if v then t ∷ mine a ts else mine a ts))
    (λ _. ap (λ r. t ∷ r) (whole_mine a boot e ts)) (λ _. whole_mine a boot e ts)

own_in : (a : ℕ) (xs : List Placed) → steps (mine_in step_of a xs) ≡ own_steps a (map step_of xs)
own_in a [] = refl
own_in a (x ∷ xs) = by_test a x.step.actor (λ v. steps (if v then x ∷ mine_in step_of a xs else mine_in step_of a xs) ≡ (if v then x.step ∷ own_steps a (map step_of xs) else own_steps a (map step_of xs)))
    (λ _. ap (λ r. x.step ∷ r) (own_in a xs)) (λ _. own_in a xs)

-- a step of the target in the list stands in its record, with its condition
bare_none : (a : ℕ) (boot : List Step) → own_steps a boot ≡ [] → (newer older : List Placed) (x : Placed) → bare boot ≡ newer ++ (x ∷ older) → x.step.actor ≡ a → ⊥
bare_none a [] e newer older x is who = go newer is
  where
    go : (newer : List Placed) → [] ≡ newer ++ (x ∷ older) → ⊥
    go [] k = cc (k)
    go (y ∷ newer) k = cc (k)
bare_none a (s ∷ h) e [] older x is who = no_own (sym who ∙ sym (ap (λ (y : Placed). y.step.actor) first))
  where
    first : placed s [] ≡ x
    first = cc (is)

    no_own : a ≡ s.actor → ⊥
    no_own k = filled (sym (ap (λ (b : Bool). if b then s ∷ own_steps a h else own_steps a h) (eq-eqb a s.actor k)) ∙ e)
      where
        filled : {xs : List Step} → (s ∷ xs) ≡ [] → ⊥
        filled k = cc (k)
bare_none a (s ∷ h) e (y ∷ newer) older x is who = bare_none a h (by_test a s.actor (λ v. (if v then s ∷ own_steps a h else own_steps a h) ≡ [] → own_steps a h ≡ []) (λ _ k. absurd (filled k)) (λ _ k. k) e) newer older x (cc (is)) who
  where
    filled : {xs : List Step} → (s ∷ xs) ≡ [] → ⊥
    filled k = cc (k)

acked : (u : Setup) (boot : List Step) (a : ℕ) → own_steps a boot ≡ [] → (ts : List Placed) → Told u ts → (newer older : List Placed) (x : Placed) → whole_list boot ts ≡ newer ++ (x ∷ older) → x.step.actor ≡ a
    → Acks a (mine_in step_of a older) (name_of x.step.word) x.step.op
acked u boot a e [] d newer older x is who = absurd (bare_none a boot e newer older x is who)
acked u boot a e (t ∷ ts) d [] older x is who = subst (λ (y : Placed). Acks a (mine_in step_of a older) (name_of y.step.word) y.step.op) first
    (subst (λ l. Acks a (mine_in step_of a l) (name_of t.step.word) t.step.op) rest
    (subst (λ l. Acks a l (name_of t.step.word) t.step.op) (sym (whole_mine a boot e ts))
    (subst (λ c. Acks c (mine c ts) (name_of t.step.word) t.step.op) (ap (λ (y : Placed). y.step.actor) first ∙ who) d.0.right.acks)))
  where
    first : t ≡ x
    first = cc (is)

    rest : whole_list boot ts ≡ older
    rest = cc (is)
acked u boot a e (t ∷ ts) d (y ∷ newer) older x is who = acked u boot a e ts d.1 newer older x (cc (is)) who

-- the source's post
record Asking (a h k : ℕ) (page : Option ℕ) (p : List Placed) : Type 0 where
  q : ℕ
  names : Names q page
  since : Since (λ x. Spares (fetches a) x.events) (λ x. IsPost h a k q x.step) Anything p

abbrev OfActor : ℕ → List Placed → Type 0
OfActor a [] = Unit {0}
OfActor a (x ∷ p) = (x.step.actor ≡ a) × OfActor a p

mine_of : (a : ℕ) (ts : List Placed) → OfActor a (mine a ts)
mine_of a [] = tt
mine_of a (t ∷ ts) = by_test a t.step.actor (λ v. OfActor a (if v then t ∷ mine a ts else mine a ts)) (λ e. (sym e, mine_of a ts)) (λ _. mine_of a ts)

asking : (a h k : ℕ) (page : Option ℕ) (p : List Placed) → OfActor a p → Posted a h k page p → Asking a h k page p
asking a h k page [] o e = absurd e
asking a h k page (x ∷ p) o e = go e.1 (asking a h k page p o.1)
  where
    go : ((name_of x.step.word ≡ Place h a k) × (x.step.op ≡ Store) × Names x.step.arg page) ⊎ Posted a h k page p → (Posted a h k page p → Asking a h k page p) → Asking a h k page (x ∷ p)
    go (inl m) ih = record { q = x.step.arg; names = m.2; since = here (o.0, m.0, m.1, refl) tt }
    go (inr m) ih = let i = ih m in record { q = i.q; names = i.names; since = past e.0 i.since }

-- who is asked is a hart of the machine
may_hart : (l : Layout) (a h k : ℕ) (runs : Bool) (r : List Step) (w : Word) (op : WordOp) (arg : ℕ) → ActorMay l a runs r w op arg → w ≡ Place h a k → op ≡ Store → h ≢ a → h < l.harts
may_hart l a h k runs r w op arg (post {t = x} ne lt at is free) e o away = subst (λ n. n < l.harts) (cc (e)) lt
may_hart l a h k runs r w op arg (ack ne lt at f is ld s) e o away = absurd (away (cc (e)))
may_hart l a h k runs r w op arg m e o away = absurd (cc (e, o))

asked_hart : (u : Setup) (a h k : ℕ) (page : Option ℕ) (runs : Bool) → a ≢ loader → h ≢ a → (p : List Placed) → IsDisciplined u.layout a runs (steps p) → Posted a h k page p → h < u.layout.harts
asked_hart u a h k page runs ne away [] d e = absurd e
asked_hart u a h k page runs ne away (x ∷ p) d e = go e.1 d.0 (asked_hart u a h k page runs ne away p d.1)
  where
    go : ((name_of x.step.word ≡ Place h a k) × (x.step.op ≡ Store) × Names x.step.arg page) ⊎ Posted a h k page p → IsPermitted u.layout a runs (steps p) (name_of x.step.word) x.step.op x.step.arg
        → (Posted a h k page p → h < u.layout.harts) → h < u.layout.harts
    go (inr m) i ih = ih m
    go (inl m) (by_loader e i) ih = absurd (ne e)
    go (inl m) (by_actor w f i) ih = may_hart u.layout a h k runs (steps p) (name_of x.step.word) x.step.op x.step.arg i m.0 m.1 away

-- and the run has what the list has
since_run : (a h q : ℕ) (page : Option ℕ) → Names q page → h ≢ a → (boot : List Step) (u : Setup) (ts : List Placed) → Told u ts
    → Since (λ x. x.step.actor ≡ a → Spares (fetches a) x.events) (λ x. Makes h q x × (x.step.actor ≡ h)) Anything (whole_list boot ts) → HasSince (fetches a) (flushes h (flush_at page)) (run_of ts)
since_run a h q page n away boot u [] d e = absurd (bare_makes boot e)
  where
    bare_makes : (boot : List Step) → Since (λ x. x.step.actor ≡ a → Spares (fetches a) x.events) (λ x. Makes h q x × (x.step.actor ≡ h)) Anything (bare boot) → ⊥
    bare_makes [] e = elim e [ ]
    bare_makes (s ∷ r) e = go e (bare_makes r)
      where
        go : Since (λ x. x.step.actor ≡ a → Spares (fetches a) x.events) (λ x. Makes h q x × (x.step.actor ≡ h)) Anything (placed s [] ∷ bare r)
            → (Since (λ x. x.step.actor ≡ a → Spares (fetches a) x.events) (λ x. Makes h q x × (x.step.actor ≡ h)) Anything (bare r) → ⊥) → ⊥
        go (here p t) ih = true≢false (sym p.0)
        go (past m k) ih = ih k
since_run a h q page n away boot u (t ∷ ts) d e = go e (since_run a h q page n away boot u ts d.1)
  where
    go : Since (λ x. x.step.actor ≡ a → Spares (fetches a) x.events) (λ x. Makes h q x × (x.step.actor ≡ h)) Anything (t ∷ whole_list boot ts)
        → (Since (λ x. x.step.actor ≡ a → Spares (fetches a) x.events) (λ x. Makes h q x × (x.step.actor ≡ h)) Anything (whole_list boot ts) → HasSince (fetches a) (flushes h (flush_at page)) (run_of ts))
        → HasSince (fetches a) (flushes h (flush_at page)) (t.events ++ run_of ts)
    go (here p z) ih = any_since (fetches a) (flushes h (flush_at page)) t.events (run_of ts)
        (others_pass a t.step.actor (fetches a) t.events (not_fetches a) (λ k. away (sym p.1 ∙ sym k)) (by_fit u t.step.actor t.step (mine t.step.actor ts) t.events d.0.right.fit)) (any_named h q page n t.events p.0)
    go (past m k) ih = has_more (fetches a) (flushes h (flush_at page)) t.events (run_of ts) (elim (cases_eq a t.step.actor) [
      | inl is ↦ passing (fetches a) t.events (m (sym is))
      | inr ne ↦ others_pass a t.step.actor (fetches a) t.events (not_fetches a) ne (by_fit u t.step.actor t.step (mine t.step.actor ts) t.events d.0.right.fit)
    ]) (ih k)

module _ (u : Setup) (boot : List Step) (runs : ℕ → Bool) (begun : IsBegun u boot) (a : ℕ) (na : a ≢ loader) (h : ℕ) (away : h ≢ a) where
  -- where the source loads its place as 0
  freed : (page : Option ℕ) (k : ℕ) (z : Step) (ts : List Placed) → IsHistory u.layout runs (z ∷ history boot ts) → Told u ts → IsFreed h a k z → Posted a h k page (mine a ts)
      → HasSince (fetches a) (flushes h (flush_at page)) (run_of ts)
  freed page k z ts i d f e =
      let ask = asking a h k page (mine a ts) (mine_of a ts) e in
      let tail = history_tail u runs z (history boot ts) i in
      let lt : h < u.layout.harts = asked_hart u a h k page (runs a) na away (mine a ts) (subst (IsDisciplined u.layout a (runs a)) (own_history boot a ts (begun.alone a na)) (tail.disciplined a)) e in
      let small = begun.limits.harts in
      let nh : h ≢ loader = (λ z. omega (arith, z, lt, small)) in
      since_run a h ask.q page ask.names away boot u ts d
      (placed_flush_law Placed step_of (λ x. Spares (fetches a) x.events) (Makes h ask.q) u.layout runs (whole_list boot ts) z h a k ask.q
      (subst (λ l. IsHistory u.layout runs (z ∷ l)) (sym (whole_steps boot ts)) i) lt away
      (λ newer older x is it ld. flushed_at ask.q nh newer older x is it ld (no_drain ask.q page ask.names))
      (subst (Since (λ x. Spares (fetches a) x.events) (λ x. IsPost h a k ask.q x.step) Anything) (sym (whole_mine a boot (begun.alone a na) ts)) ask.since) f)
    where
      flushed_at : (q : ℕ) → h ≢ loader → (newer older : List Placed) (x : Placed) → whole_list boot ts ≡ newer ++ (x ∷ older) → IsAck h a k x.step → last_load (Place h a k) (own_steps h (map step_of older)) ≡ Some q
          → (IsDrain q → ⊥) → IsFlushed h (Place h a k) q (mine_in step_of h older)
      flushed_at q nh newer older x is it ld nd =
          subst (λ o. Acks h (mine_in step_of h older) (Place h a k) o) it.2
          (subst (λ w. Acks h (mine_in step_of h older) w x.step.op) it.1 (acked u boot h (begun.alone h nh) ts d newer older x is it.0))
          refl q (ap (last_load (Place h a k)) (own_in h older) ∙ ld) nd

  answered : (page : Option ℕ) (k : ℕ) (ts : List Placed) → IsHistory u.layout runs (history boot ts) → Told u ts → Answered a h k page (mine a ts) → HasSince (fetches a) (flushes h (flush_at page)) (run_of ts)
  answered page k [] i d e = absurd e
  answered page k (t ∷ ts) i d e = by_mine (λ b r. b ≡ a → Answered a h k page r → HasSince (fetches a) (flushes h (flush_at page)) (t.events ++ run_of ts)) a t ts
      (λ is e. here_step is e (answered page k ts (history_tail u runs t.step (history boot ts) i) d.1))
      (λ ne is e. has_more (fetches a) (flushes h (flush_at page)) t.events (run_of ts)
      (others_pass a t.step.actor (fetches a) t.events (not_fetches a) ne (by_fit u t.step.actor t.step (mine t.step.actor ts) t.events d.0.right.fit))
      (answered page k ts (history_tail u runs t.step (history boot ts) i) d.1 e)) refl e
    where
      here_step : t.step.actor ≡ a → Answered a h k page (t ∷ mine t.step.actor ts) → (Answered a h k page (mine a ts) → HasSince (fetches a) (flushes h (flush_at page)) (run_of ts))
          → HasSince (fetches a) (flushes h (flush_at page)) (t.events ++ run_of ts)
      here_step is e ih = has_more (fetches a) (flushes h (flush_at page)) t.events (run_of ts) (passing (fetches a) t.events e.0) (go e.1)
        where
          go : ((name_of t.step.word ≡ Place h a k) × (t.step.op ≡ Load) × (t.step.answer ≡ 0) × Posted a h k page (mine t.step.actor ts)) ⊎ Answered a h k page (mine t.step.actor ts)
              → HasSince (fetches a) (flushes h (flush_at page)) (run_of ts)
          go (inl m) = freed page k t.step ts i d.1 (is, m.0, m.1, m.2) (subst (λ c. Posted a h k page (mine c ts)) is m.3)
          go (inr m) = ih (subst (λ c. Answered a h k page (mine c ts)) is m)

pub fence_law : (u : Setup) (boot : List Step) (runs : ℕ → Bool) → IsBegun u boot → FenceLaw u boot runs
fence_law u boot runs begun = record { fences = λ t ts i d ne es q h what away asked. done t ts i d ne es h what away asked }
  where
    one : (t : Placed) (ts : List Placed) → IsHistory u.layout runs (history boot (t ∷ ts)) → Told u (t ∷ ts) → t.step.actor ≢ loader → (es : List Event) → (h : ℕ) → h ≢ t.step.actor → (page : Option ℕ) (k : ℕ)
        → Answered t.step.actor h k page (placed t.step es ∷ mine t.step.actor ts) → HasSince (fetches t.step.actor) (flushes h (flush_at page)) (es ++ run_of ts)
    one t ts i d ne es h away page k e = has_more (fetches t.step.actor) (flushes h (flush_at page)) es (run_of ts) (passing (fetches t.step.actor) es e.0) (go e.1)
      where
        go : ((name_of t.step.word ≡ Place h t.step.actor k) × (t.step.op ≡ Load) × (t.step.answer ≡ 0) × Posted t.step.actor h k page (mine t.step.actor ts)) ⊎ Answered t.step.actor h k page (mine t.step.actor ts)
            → HasSince (fetches t.step.actor) (flushes h (flush_at page)) (run_of ts)
        go (inl m) = freed u boot runs begun t.step.actor ne h away page k t.step ts i d.1 (refl, m.0, m.1, m.2) m.3
        go (inr m) = answered u boot runs begun t.step.actor ne h away page k ts (history_tail u runs t.step (history boot ts) i) d.1 m

    done : (t : Placed) (ts : List Placed) → IsHistory u.layout runs (history boot (t ∷ ts)) → Told u (t ∷ ts) → t.step.actor ≢ loader → (es : List Event) → (h : ℕ) (what : Flush) → h ≢ t.step.actor
        → AskedFor t.step.actor h what (placed t.step es ∷ mine t.step.actor ts) → Flushed (es ++ run_of ts) t.step.actor h what
    done t ts i d ne es h Full away e = one t ts i d ne es h away None e.0 e.1
    done t ts i d ne es h (Pages page count) away e = λ p le lt. let k = e p le lt in one t ts i d ne es h away (Some p) k.0 k.1
