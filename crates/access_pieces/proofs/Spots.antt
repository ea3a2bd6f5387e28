-- What a log shows of the walks of an access.
use Rattle.std.proofs.Common.{◌≡◌, ℕ, zero, suc, ◌+◌, ◌*◌, ◌/◌, ◌%◌, ◌^◌, Bool, true, false, true≢false, List, [], ◌∷◌, ◌++◌, refl, sym, ap, subst, ◌∙◌, arith, inl, inr}
use Rattle.std.specs.Prelude.{◌==◌, ◌||◌, not, if◌then◌else◌}
use Rattle.rv64_priv.specs.State.{Arch}
use Rattle.rv64_priv.specs.Csr.{regime}
use Rattle.rv64_priv.specs.Bits.{aligned}
use Rattle.rv64_priv.specs.Pte.{is_bare, is_malformed, is_leaf, ppn}
use Rattle.rv64_priv.specs.Reads.{answering}
use Rattle.rv64_priv.specs.declared.state.Kind.{Kind}
use Rattle.rv64_priv.specs.declared.state.Regime.{Regime}
use Rattle.rv64_priv.specs.Walk.{Walked, Leaf, PageFault, AccessFault, at_leaf, is_canonical, is_device, is_ram, is_reachable, is_usable, leaf_address, pages_of_level, pte_address, reachable_leaf, walk_from, walk_of}
use Rattle.step_laws.specs.declared.steps.Step.{Step}
use Rattle.machine_model.specs.Access.{AtRam, AtDevice, Faults, spot_at, spot_of}
use Rattle.machine_model.specs.Event.{Event}
use Rattle.machine_model.specs.Run.{renews}
use Rattle.walk_laws.specs.WalkLoads.{Found, AreLoaded, reads_of}
use Rattle.walk_laws.specs.KeptWalks.{made, made_all, IsKept}
use Rattle.tlb_fill.specs.Answered.{IsAllowed, IsLeafAt}
use Rattle.tlb_fill.specs.Stepping.{IsCause, place_in}
use Rattle.tlb_fill.specs.declared.translation.Translated.{Translated}
use Rattle.tlb_fill.specs.declared.translation.Translated.TheVariants as gives
use Rattle.turn_pieces.specs.Log.{Log, HasStood}
use Rattle.turn_pieces.specs.KeptWalks.{flushes_in}
use Rattle.turn_pieces.specs.Writers.{quietly}
use Rattle.turn_pieces.proofs.KeptWalks.{kept_is_seen}
use Rattle.access_pieces.specs.Translating.{IsLed, LeadsTo, spot}

pub flushes_quietly : (a : ℕ) (r : List Step) (l : Log) → flushes_in a (quietly r l) ≡ made_all r ++ flushes_in a l
flushes_quietly a [] l = refl
flushes_quietly a (s ∷ r) l = ap (λ x. made s ∷ x) (flushes_quietly a r l)

loaded_stood : (stop : Event → Bool) (xs : List Found) (r : List Step) (l : Log) → AreLoaded xs r → HasStood stop xs (quietly r l)
loaded_stood stop [] r l k = tt
loaded_stood stop (x ∷ xs) [] l k = absurd k
loaded_stood stop (x ∷ xs) (s ∷ r) l (inl k) = inl (k.0, loaded_stood stop xs r l k.1)
loaded_stood stop (x ∷ xs) (s ∷ r) l (inr k) = inr (loaded_stood stop (x ∷ xs) r l k)

-- the page of a leaf begins at a page's address
is_end : Walked → Bool
is_end (Leaf p a l) = true
is_end w = false

address_in : Walked → ℕ
address_in (Leaf p a l) = a
address_in w = 0

reach_aligned : (pages : ℕ) (kind : Kind) (p a l pte page level : ℕ) → a % 4096 ≡ 0 → reachable_leaf pages kind p a l ≡ Leaf pte page level → page % 4096 ≡ 0
unfolding is_end address_in
reach_aligned pages kind p a l pte page level z = go (is_reachable pages kind a)
  where
    go : (b : Bool) → (if b then Leaf p a l else AccessFault) ≡ Leaf pte page level → page % 4096 ≡ 0
    go false e = absurd (true≢false (sym (ap is_end e)))
    go true e = ap (λ n. n % 4096) (sym (ap address_in e)) ∙ z

at_aligned : (pages : ℕ) (r : Regime) (kind : Kind) (va at p pte page level : ℕ) → at_leaf pages r kind va at p ≡ Leaf pte page level → page % 4096 ≡ 0
unfolding is_end
at_aligned pages r kind va at p pte page level = go (is_usable r kind at p)
  where
    whole : (n : ℕ) → n * 4096 % 4096 ≡ 0
    whole n = omega arith

    go : (b : Bool) → (if b then reachable_leaf pages kind p (leaf_address p va at) at else PageFault) ≡ Leaf pte page level → page % 4096 ≡ 0
    go false e = absurd (true≢false (sym (ap is_end e)))
    go true e = reach_aligned pages kind p (leaf_address p va at) at pte page level (whole (ppn p + va / 4096 % pages_of_level at)) e

module _ (pages : ℕ) (r : Regime) (kind : Kind) (finds : ℕ → ℕ) (va pte page level : ℕ) where
  level_aligned : (ram malformed leaf : Bool) (at p : ℕ) (x : Walked) → (x ≡ Leaf pte page level → page % 4096 ≡ 0)
      → (if not ram then AccessFault else if malformed then PageFault else if leaf then at_leaf pages r kind va at p else x) ≡ Leaf pte page level → page % 4096 ≡ 0
  unfolding is_end
  level_aligned false m l at p x k e = absurd (true≢false (sym (ap is_end e)))
  level_aligned true true l at p x k e = absurd (true≢false (sym (ap is_end e)))
  level_aligned true false true at p x k e = at_aligned pages r kind va at p pte page level e
  level_aligned true false false at p x k e = k e

  from_aligned : (levels table : ℕ) → walk_from pages r kind (answering finds) va levels table ≡ Leaf pte page level → page % 4096 ≡ 0
  unfolding is_end
  from_aligned zero table e = absurd (true≢false (sym (ap is_end e)))
  from_aligned (suc at) table e = level_aligned (is_ram pages (pte_address table va at)) (is_malformed (finds at)) (is_leaf (finds at)) at (finds at)
      (walk_from pages r kind (answering finds) va at (ppn (finds at) * 4096)) (from_aligned at (ppn (finds at) * 4096)) e

  pub leaf_aligned : walk_of pages r kind (answering finds) va ≡ Leaf pte page level → page % 4096 ≡ 0
  unfolding walk_of is_end
  leaf_aligned e = go (is_bare r) (is_canonical va) e
    where
      page_aligned : (n : ℕ) → aligned 12 n % 4096 ≡ 0
      page_aligned n = omega arith

      go : (b c : Bool) → (if b then reachable_leaf pages kind 0xcf (aligned 12 va) 0 else if c then walk_from pages r kind (answering finds) va 3 (r.satp % 2 ^ 44 * 4096) else PageFault) ≡ Leaf pte page level → page % 4096 ≡ 0
      go true c e = reach_aligned pages kind 0xcf (aligned 12 va) 0 pte page level (page_aligned va) e
      go false true e = from_aligned 3 (r.satp % 2 ^ 44 * 4096) e
      go false false e = absurd (true≢false (sym (ap is_end e)))

leaf_spot : (address va at : ℕ) (device : Bool) → address % 4096 ≡ 0 → is_device address ≡ device → at ≡ place_in address va → spot_at (address + va % 4096) ≡ (if device then AtDevice at else AtRam at)
leaf_spot address va at device z d is = ap (λ n. spot_at n) place ∙ ap (λ (t : Bool). if t then AtDevice at else AtRam at) (ap (λ n. (n == 0x10000) || (n == 0x100)) same ∙ d)
  where
    place : address + va % 4096 ≡ at
    place = let e : at ≡ address / 4096 * 4096 + va % 4096 = is in omega (arith, z, e)

    same : at / 4096 ≡ address / 4096
    same = let e : at ≡ address / 4096 * 4096 + va % 4096 = is in omega (arith, e)

leaf_leads : (pages a : ℕ) (c : Arch) (kind : Kind) (va at : ℕ) (device : Bool) (added : List Step) (l : Log) → IsLeafAt pages (regime c) kind va device at (made_all added ++ flushes_in a l)
    → LeadsTo pages a c kind va (if device then AtDevice at else AtRam at) (quietly added l)
leaf_leads pages a c kind va at device added l x = record {
  walk = Leaf x.pte x.address x.level;
  seen = kept_is_seen pages a c kind va x.pte x.address x.level (quietly added l) (subst (IsKept pages (regime c) kind va x.pte x.address x.level) (sym (flushes_quietly a added l)) x.kept);
  spot_is = leaf_spot x.address va at device (leaf_aligned pages (regime c) kind x.kept.finds va x.pte x.address x.level x.kept.is_end) x.device_is x.at_is;
}

fault_spot : (kind : Kind) (va cause tval : ℕ) (end : Walked) → IsCause kind end cause → tval ≡ va → spot_of kind va end ≡ Faults cause tval
fault_spot kind va cause tval (Leaf p a l) k e = absurd k
fault_spot kind va cause tval PageFault k e = λ i. Faults (sym k i) (sym e i)
fault_spot kind va cause tval AccessFault k e = λ i. Faults (sym k i) (sym e i)

pub leads : (pages a : ℕ) (c : Arch) (kind : Kind) (va : ℕ) (t : Translated) (added : List Step) (l : Log) → IsLed t → IsAllowed pages (regime c) kind va t added (flushes_in a l) → LeadsTo pages a c kind va (spot t) (quietly added l)
leads pages a c kind va (gives.Ram at) added l k x = leaf_leads pages a c kind va at false added l x
leads pages a c kind va (gives.Device at) added l k x = leaf_leads pages a c kind va at true added l x
leads pages a c kind va (gives.Fault cause tval) added l k x = record {
  walk = x.end;
  seen = record { finds = x.walked.finds; is_end = x.walked.is_end; stood = loaded_stood (renews a va x.end) (reads_of pages (regime c) va x.walked.finds) added l x.walked.loaded };
  spot_is = fault_spot kind va cause tval x.end x.cause_is x.tval_is;
}
leads pages a c kind va (gives.Busy busy) added l k x = absurd k
