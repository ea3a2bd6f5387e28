-- What a load answers.
use Rattle.std.proofs.Common.{◌≡◌, ℕ, Bool, Option, Some, None, Ok, sym, ap, subst, ◌∙◌}
use Rattle.rv64_priv.specs.declared.state.Kind.{Kind}
use Rattle.rv64_priv.specs.declared.state.Regime.{Regime}
use Rattle.rv64_priv.specs.Trap.{access_fault}
use Rattle.rv64_exec.specs.declared.needs.Answer.{Answer}
use Rattle.machine_model.specs.Device.{device_value}
use Rattle.machine_model.specs.Perform.{extended}
use Rattle.guest_ram.specs.Ports.{Shown}
use Rattle.tlb_entry.specs.declared.books.Book.{Book}
use Rattle.guest_access.specs.declared.outcomes.Got.TheVariants as gets
use Rattle.guest_access.specs.declared.reaching.Place.TheVariants as at
use Rattle.guest_access.specs.Loading.{HasLoaded, gives_number, gives_register, on_device}
use Rattle.guest_access.specs.Reaching.{HasReached}

pub gives : (sign : Bool) (width value number n : ℕ) → value ≡ extended sign width number → number ≡ n → gets.Done (Answer.Value value) ≡ gives_number sign width n
gives sign width value number n e is = ap (λ v. gets.Done (Answer.Value v)) (e ∙ ap (extended sign width) is)

module _ (p m q : Shown) (b b' : Book) (r : Regime) (va width pa : ℕ) (sign section : Bool) (found : Option ℕ) where
  pub register_some : (value v : ℕ) → HasReached p m b b' r Kind.Load va width section (Ok (at.Device pa)) → q ≡ m → found ≡ device_value pa width → found ≡ Some v → value ≡ extended sign width v
      → HasLoaded p q b b' r va width sign section (gets.Done (Answer.Value value))
  register_some value v reached still is some e = on_device (subst (λ (y : Shown). HasReached p y b b' r Kind.Load va width section (Ok (at.Device pa))) (sym still) reached)
      (ap (λ n. gets.Done (Answer.Value n)) e ∙ ap (gives_register va width sign) (sym some ∙ is))

  pub register_none : (cause : ℕ) → HasReached p m b b' r Kind.Load va width section (Ok (at.Device pa)) → q ≡ m → found ≡ device_value pa width → found ≡ None → cause ≡ access_fault Kind.Load
      → HasLoaded p q b b' r va width sign section (gets.Fault cause va)
  register_none cause reached still is none e = on_device (subst (λ (y : Shown). HasReached p y b b' r Kind.Load va width section (Ok (at.Device pa))) (sym still) reached)
      (ap (λ n. gets.Fault n va) e ∙ ap (gives_register va width sign) (sym none ∙ is))
