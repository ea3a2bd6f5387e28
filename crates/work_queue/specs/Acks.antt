-- Loads and acks, at the target of requests.
use Rattle.std.specs.Prelude.{◌≡◌, ℕ, Some}
use Rattle.step_laws.specs.declared.request.Request.{Request}
use Rattle.step_laws.specs.declared.steps.WordOp.TheVariants.{Load, Store}
use Rattle.step_laws.specs.Discipline.{IsAway, IsFetch, IsServed}
use Rattle.step_laws.specs.Fields.{IsRequestWord, IsWordOf}
use Rattle.step_laws.specs.Map.{Place}
use Rattle.step_laws.specs.Past.{Anything, Since}
use Rattle.step_laws.specs.Places.{last_load}
use Rattle.guest_ram.specs.Ports.{Shown, Made}

-- the place was loaded as 0
abbrev pub HasFoundNone : (source place : ℕ) → Shown → Shown → Type 0
HasFoundNone s k p q = Made p q (Place p.own.actor s k) Load 0 0

-- it was loaded as the request's word
pub record HasFoundRequest (request : Request) (source place : ℕ) (p q : Shown) : Type 0 where
  pub word : ℕ
  pub is_word : IsWordOf request word
  pub finds : Made p q (Place p.own.actor source place) Load 0 word

-- since it was loaded as the request's word no step was made on it
pub record IsLoaded (request : Request) (source place : ℕ) (p : Shown) : Type 0 where
  pub word : ℕ
  pub is_word : IsWordOf request word
  pub loaded : last_load (Place p.own.actor source place) p.own.steps ≡ Some word
  pub since : Since (IsAway (Place p.own.actor source place)) (IsFetch (Place p.own.actor source place) word) Anything p.own.steps

-- the last step on it was the load of a request, which was served since: a drain at once, a flush by a section of the own lock, at whose end
-- no valid entry was left on a page that it names
pub record MayAck (source place : ℕ) (p : Shown) : Type 0 where
  pub word : ℕ
  pub is_word : IsRequestWord word
  pub loaded : last_load (Place p.own.actor source place) p.own.steps ≡ Some word
  pub served : IsServed p.own.actor (Place p.own.actor source place) word p.own.steps

-- 0 was stored there
abbrev pub HasAcked : (source place : ℕ) → Shown → Shown → Type 0
HasAcked s k p q = Made p q (Place p.own.actor s k) Store 0 0
