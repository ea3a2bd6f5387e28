-- Posts and polls, at the source of requests.
use Rattle.std.specs.Prelude.{◌≡◌, ◌≢◌, ℕ}
use Rattle.step_laws.specs.declared.request.Request.{Request}
use Rattle.step_laws.specs.declared.steps.WordOp.TheVariants.{Load, Store}
use Rattle.step_laws.specs.Fields.{IsWordOf}
use Rattle.step_laws.specs.Map.{Word, Kick, Place, number_of}
use Rattle.guest_ram.specs.declared.port.Seen.{Seen}
use Rattle.guest_ram.specs.Ports.{Shown, Made}

-- the words of posts: places, and KICK of the target
abbrev pub IsOfPosts : Word → Type 0
IsOfPosts (Place t s k) = Unit {0}
IsOfPosts (Kick h) = Unit {0}
IsOfPosts _ = ⊥

-- the place was loaded as 0
abbrev pub HasFoundFree : (target place : ℕ) → Shown → Shown → Type 0
HasFoundFree t k p q = Made p q (Place t p.own.actor k) Load 0 0

-- it was loaded as what was seen, which isn't 0
pub record HasFoundTaken (seen : Seen) (target place : ℕ) (p q : Shown) : Type 0 where
  pub finds : Made p q (Place target p.own.actor place) Load 0 seen.value
  pub word : seen.word ≡ number_of (Place target p.own.actor place)
  pub stands : seen.value ≢ 0

-- the place was loaded as 0, then the request's word stored there, and then 1 in the target's KICK
pub record HasPosted (request : Request) (target place : ℕ) (p q : Shown) : Type 0 where
  pub word : ℕ
  pub is_word : IsWordOf request word
  pub found : Shown
  pub stored : Shown
  pub finds : HasFoundFree target place p found
  pub stores : Made found stored (Place target p.own.actor place) Store word 0
  pub kicks : Made stored q (Kick target) Store 1 0
