-- Harts are called out, one after another.
use Rattle.std.proofs.Common.{◌≡◌, ◌≢◌, ℕ, ◌+◌, ◌<◌, refl, sym, ap, subst, ◌∙◌, arith}
use Rattle.step_laws.specs.declared.steps.WordOp.TheVariants.{Store, Exchange}
use Rattle.step_laws.specs.Map.{Word, Kick, Pend, name_of, number_of}
use Rattle.step_laws.proofs.Named.{number_name}
use Rattle.guest_ram.specs.Areas.{IsAside}
use Rattle.guest_ram.specs.Ports.{Shown, Adds, Made, May, IsActing, GoesBy, StandsAs, layout_of}
use Rattle.guest_ram.proofs.Moves.{goes_made, goes_none, goes_then, goes_at_most, stands_goes}
use Rattle.exclusive.specs.Claims.{HasKicked, HasKickedOthers, IsKick, IsOfClaims}
use Rattle.exclusive.specs.Others.{HasMadeAll, others_below}
use Rattle.exclusive.proofs.Pairs.{hart_is_other, made_none, made_next, made_past}

-- the harts below a number were called out
pub record IsCalling (p q : Shown) (own harts hart : ℕ) : Type 0 where
  pub kicked : HasMadeAll Kick Store 1 (others_below (layout_of p) p.own.actor hart) p q
  pub acting : IsActing q
  pub own_is : own ≡ p.own.actor
  pub harts_are : harts ≡ (layout_of p).harts
  pub goes : GoesBy hart IsKick p q

pub calling_first : (p : Shown) (own harts : ℕ) → IsActing p → own ≡ p.own.actor → harts ≡ (layout_of p).harts → IsCalling p p own harts 0
calling_first p own harts a o h = record { kicked = made_none Kick Store 1 p p.machine.layout p.own.actor; acting = a; own_is = o; harts_are = h; goes = goes_none IsKick p }

pub calling_hart : (p q r : Shown) (own harts hart : ℕ) → IsCalling p q own harts hart → hart < harts → hart ≢ own → HasKicked hart q r → IsActing r → IsCalling p r own harts (hart + 1)
calling_hart p q r own harts hart i l ne k acting = record {
  kicked = made_next Kick Store 1 p q r (layout_of p) p.own.actor hart k.word 0 i.kicked (hart_is_other (layout_of p) p.own.actor hart (omega (arith, i.harts_are)) (λ e. ne (e ∙ sym i.own_is))) k.step (sym (number_name k.word) ∙ ap number_of k.name) refl;
  acting = acting;
  own_is = i.own_is;
  harts_are = i.harts_are;
  goes = goes_then hart 1 IsKick p q r i.goes (goes_made IsKick q r (Kick hart) Store 1 0 k tt);
}

pub calling_own : (p q : Shown) (own harts hart : ℕ) → IsCalling p q own harts hart → hart ≡ own → IsCalling p q own harts (hart + 1)
calling_own p q own harts hart i e = record {
  kicked = made_past Kick Store 1 p q (layout_of p) p.own.actor hart i.kicked (e ∙ i.own_is);
  acting = i.acting;
  own_is = i.own_is;
  harts_are = i.harts_are;
  goes = goes_at_most hart (hart + 1) IsKick p q (omega arith) i.goes;
}

pub calling_last : (p q : Shown) (own harts hart : ℕ) → IsCalling p q own harts hart → hart ≡ harts → HasKickedOthers p q
calling_last p q own harts hart i e = subst (λ n. HasMadeAll Kick Store 1 (others_below (layout_of p) p.own.actor n) p q) (e ∙ i.harts_are) i.kicked

-- as another shows it, of the same machine and actor
pub calling_other : (p q : Shown) (own harts hart : ℕ) → IsCalling p q own harts hart → hart < harts → hart ≢ own → hart < (layout_of q).harts
calling_other p q own harts hart i l ne = subst (λ (x : Shown). hart < (layout_of x).harts) (sym i.goes.grown) (omega (arith, i.harts_are))

pub calling_not_own : (p q : Shown) (own harts hart : ℕ) → IsCalling p q own harts hart → hart ≢ own → hart ≢ q.own.actor
calling_not_own p q own harts hart i ne e = ne (e ∙ ap (λ (x : Shown). x.own.actor) i.goes.grown ∙ sym i.own_is)

kick_aside : (w : Word) → IsKick w → IsAside w
kick_aside (Kick h) x = tt
kick_aside w x = absurd x

pub kick_claims : (w : Word) → IsKick w → IsOfClaims w
kick_claims (Kick h) x = tt
kick_claims w x = absurd x

-- who calls others out stands where it stood
pub stands_calling : (n : ℕ) (p q : Shown) → GoesBy n IsKick p q → StandsAs p q
stands_calling n p q goes = stands_goes n IsKick p q kick_aside goes

-- the exchange of a claim, by the actor's number as the body has it, and by what it answered
pub made_claim : (p q : Shown) (word own answer n : ℕ) → name_of word ≡ Pend → own ≡ p.own.actor → answer ≡ n → Adds p q word (Exchange 0) (own + 1) answer → May p word (Exchange 0) (own + 1) → Made p q Pend (Exchange 0) (p.own.actor + 1) n
made_claim p q word own answer n e own_is is step may = subst (λ m. Made p q Pend (Exchange 0) (p.own.actor + 1) m) is
    (subst (λ a. Made p q Pend (Exchange 0) (a + 1) answer) own_is (record { word = word; name = e; step = step; may = may }))
