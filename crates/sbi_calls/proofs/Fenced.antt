-- What is kept of a fence, behind what is done at one hart.
use Rattle.std.proofs.Common.{◌≡◌, ◌≢◌, ℕ, ◌<◌, ◌≤◌, List, length, sym, ap, subst, ◌∙◌, arith, ⊎_elim}
use Rattle.std.specs.Prelude.{Option, Some, None, IfNone, IfSome, slice_index, slice_set}
use Rattle.std.proofs.lemmas.Bool.{cases_eq}
use Rattle.std.proofs.lemmas.List.{get_or-set_same, get_or-set_other}
use Rattle.step_laws.specs.declared.steps.Step.{Step}
use Rattle.step_laws.specs.Map.{Word}
use Rattle.guest_ram.specs.Ports.{Shown, GoesBy}
use Rattle.work_queue.specs.declared.rings.Sent.{Sent}
use Rattle.work_queue.specs.Rings.{next_post}
use Rattle.sbi_calls.specs.declared.spans.Fence.{Fence}
use Rattle.hart_calls.specs.declared.spans.Span.{Span}
use Rattle.sbi_calls.specs.Fences.{GoesWithFence, IsFenceAt, IsTarget}
use Rattle.sbi_calls.specs.Spans.{pieces_of}
use Rattle.sbi_calls.proofs.Asked.{at_goes}

pub none_map : {A P Q : Type 0} (o : Option A) → (P → Q) → IfNone o P → IfNone o Q
none_map None f x = f x
none_map (Some a) f x = tt

pub some_map : {A : Type 0} {P Q : A → Type 0} (o : Option A) → ((a : A) → P a → Q a) → IfSome o P → IfSome o Q
some_map None f x = tt
some_map (Some a) f x = f a x

same_actor : (n : ℕ) (A : Word → Type 0) (p q : Shown) → GoesBy n A p q → q.own.actor ≡ p.own.actor
same_actor n A p q goes = ap (λ (x : Shown). x.own.actor) goes.grown

pub target_back : (n : ℕ) (A : Word → Type 0) (harts t : ℕ) (p q : Shown) → GoesBy n A p q → IsTarget harts q t → IsTarget harts p t
target_back n A harts t p q goes i = (i.0, i.1, λ e. i.2 (e ∙ sym (same_actor n A p q goes)))

pub target_on : (n : ℕ) (A : Word → Type 0) (harts t : ℕ) (p q : Shown) → GoesBy n A p q → IsTarget harts p t → IsTarget harts q t
target_on n A harts t p q goes i = (i.0, i.1, λ e. i.2 (e ∙ same_actor n A p q goes))

-- at one hart so many are posted now
pub fence_posted : (n : ℕ) (A : Word → Type 0) (harts : ℕ) (span : Span) (sent now : Sent) (fence : Fence) (base : List Step) (p q : Shown) (hart posted : ℕ) → GoesBy n A p q → length fence.posted ≡ 16 → hart < 16
    → (IsFenceAt span (next_post sent hart) hart (slice_index fence.posted hart) (slice_index fence.acked hart) base p → IsFenceAt span (next_post now hart) hart posted (slice_index fence.acked hart) base q)
    → ((t : ℕ) → t ≢ hart → next_post now t ≡ next_post sent t)
    → GoesWithFence harts span sent fence base p → GoesWithFence harts span now (record { posted = slice_set fence.posted hart posted; acked = fence.acked }) base q
fence_posted n A harts span sent now fence base p q hart posted goes wide few here others f = record {
  at = λ t i. ⊎_elim (λ (e : t ≡ hart). subst (λ u. IsFenceAt span (next_post now u) u (slice_index (slice_set fence.posted hart posted) u) (slice_index fence.acked u) base q) (sym e)
      (subst (λ m. IsFenceAt span (next_post now hart) hart m (slice_index fence.acked hart) base q) (sym (get_or-set_same fence.posted hart posted 0 (omega (arith, wide))))
      (here (f.at hart (target_back n A harts hart p q goes (subst (λ u. IsTarget harts q u) e i))))))
      (λ (ne : t ≢ hart). subst (λ m. IsFenceAt span m t (slice_index (slice_set fence.posted hart posted) t) (slice_index fence.acked t) base q) (sym (others t ne))
      (subst (λ m. IsFenceAt span (next_post sent t) t m (slice_index fence.acked t) base q) (sym (get_or-set_other fence.posted hart t posted 0 ne))
      (at_goes n A p q span (next_post sent t) t (slice_index fence.posted t) (slice_index fence.acked t) base goes (f.at t (target_back n A harts t p q goes i))))) (cases_eq t hart);
  own = subst (λ a. slice_index fence.acked a ≤ pieces_of span) (sym (same_actor n A p q goes)) f.own;
}

-- so many answered
pub fence_acked : (n : ℕ) (A : Word → Type 0) (harts : ℕ) (span : Span) (sent : Sent) (fence : Fence) (base : List Step) (p q : Shown) (hart acked : ℕ) → GoesBy n A p q → length fence.acked ≡ 16 → hart < 16 → hart ≢ p.own.actor
    → (IsFenceAt span (next_post sent hart) hart (slice_index fence.posted hart) (slice_index fence.acked hart) base p → IsFenceAt span (next_post sent hart) hart (slice_index fence.posted hart) acked base q)
    → GoesWithFence harts span sent fence base p → GoesWithFence harts span sent (record { posted = fence.posted; acked = slice_set fence.acked hart acked }) base q
fence_acked n A harts span sent fence base p q hart acked goes wide few other here f = record {
  at = λ t i. ⊎_elim (λ (e : t ≡ hart). subst (λ u. IsFenceAt span (next_post sent u) u (slice_index fence.posted u) (slice_index (slice_set fence.acked hart acked) u) base q) (sym e)
      (subst (λ m. IsFenceAt span (next_post sent hart) hart (slice_index fence.posted hart) m base q) (sym (get_or-set_same fence.acked hart acked 0 (omega (arith, wide))))
      (here (f.at hart (target_back n A harts hart p q goes (subst (λ u. IsTarget harts q u) e i))))))
      (λ (ne : t ≢ hart). subst (λ m. IsFenceAt span (next_post sent t) t (slice_index fence.posted t) m base q) (sym (get_or-set_other fence.acked hart t acked 0 ne))
      (at_goes n A p q span (next_post sent t) t (slice_index fence.posted t) (slice_index fence.acked t) base goes (f.at t (target_back n A harts t p q goes i)))) (cases_eq t hart);
  own = subst (λ a. slice_index (slice_set fence.acked hart acked) a ≤ pieces_of span) (sym (same_actor n A p q goes))
      (subst (λ m. m ≤ pieces_of span) (sym (get_or-set_other fence.acked hart p.own.actor acked 0 (λ e. other (sym e)))) f.own);
}

-- so many of the own ones are flushed
pub fence_flushed : (n : ℕ) (A : Word → Type 0) (harts : ℕ) (span : Span) (sent : Sent) (fence : Fence) (base : List Step) (p q : Shown) (own flushed : ℕ) → GoesBy n A p q → length fence.acked ≡ 16 → own < 16 → own ≡ p.own.actor → flushed ≤ pieces_of span
    → GoesWithFence harts span sent fence base p → GoesWithFence harts span sent (record { posted = fence.posted; acked = slice_set fence.acked own flushed }) base q
fence_flushed n A harts span sent fence base p q own flushed goes wide few is most f = record {
  at = λ t i. subst (λ m. IsFenceAt span (next_post sent t) t (slice_index fence.posted t) m base q) (sym (get_or-set_other fence.acked own t flushed 0 (λ e. i.2 (e ∙ is ∙ sym (same_actor n A p q goes)))))
      (at_goes n A p q span (next_post sent t) t (slice_index fence.posted t) (slice_index fence.acked t) base goes (f.at t (target_back n A harts t p q goes i)));
  own = subst (λ a. slice_index (slice_set fence.acked own flushed) a ≤ pieces_of span) (is ∙ sym (same_actor n A p q goes)) (subst (λ m. m ≤ pieces_of span) (sym (get_or-set_same fence.acked own flushed 0 (omega (arith, wide)))) most);
}

-- nothing is done at it
pub fence_goes : (n : ℕ) (A : Word → Type 0) (harts : ℕ) (span : Span) (sent : Sent) (fence : Fence) (base : List Step) (p q : Shown) → GoesBy n A p q → GoesWithFence harts span sent fence base p → GoesWithFence harts span sent fence base q
fence_goes n A harts span sent fence base p q goes f = record {
  at = λ t i. at_goes n A p q span (next_post sent t) t (slice_index fence.posted t) (slice_index fence.acked t) base goes (f.at t (target_back n A harts t p q goes i));
  own = subst (λ a. slice_index fence.acked a ≤ pieces_of span) (sym (same_actor n A p q goes)) f.own;
}

pub own_acked : (n : ℕ) (A : Word → Type 0) (fence : Fence) (p q : Shown) (hart acked : ℕ) → GoesBy n A p q → hart ≢ p.own.actor → slice_index (slice_set fence.acked hart acked) q.own.actor ≡ slice_index fence.acked p.own.actor
own_acked n A fence p q hart acked goes other = ap (slice_index (slice_set fence.acked hart acked)) (same_actor n A p q goes) ∙ get_or-set_other fence.acked hart p.own.actor acked 0 (λ e. other (sym e))
