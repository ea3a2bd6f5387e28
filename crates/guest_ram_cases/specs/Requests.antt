-- The steps on places for requests.
use Rattle.std.specs.Prelude.{◌≡◌, ◌≢◌, ◌<◌, ℕ, ◌+◌, true, false, length}
use Rattle.step_laws.specs.declared.steps.WordOp.TheVariants.{Load, Store, Exchange}
use Rattle.step_laws.specs.declared.map.TlbField.{TlbField}
use Rattle.step_laws.specs.Fields.{invalid_bit}
use Rattle.step_laws.specs.Map.{Lock, Place, Tlb, number_of}
use Rattle.step_laws.specs.Tables.{held_lock, is_compare, table_word}
use Rattle.step_laws.specs.Discipline.{IsInUse}
use Rattle.step_laws.specs.Output.{has_touched}
use Rattle.step_laws.specs.Places.{posts}
use Rattle.guest_ram_cases.specs.Entries.{HasFoundLock, IsPaid}
use Rattle.guest_ram.specs.Ports.{Shown, IsActing, after_step}

-- the place of a source at a target was loaded
abbrev pub place_loaded : Shown → (target source place found : ℕ) → Shown
place_loaded p t s k found = after_step p (number_of (Place t s k)) Load 0 found

-- it was found free, and the request stored there
abbrev pub HasPosted : Shown → (target place request : ℕ) → Shown → Type 0
HasPosted p t k request q = q ≡ after_step (place_loaded p t p.own.actor k 0) (number_of (Place t p.own.actor k)) Store request 0

-- it was acked
abbrev pub place_acked : Shown → (source place : ℕ) → Shown
place_acked p s k = after_step p (number_of (Place p.own.actor s k)) Store 0 0

-- a drain was found there and acked
abbrev pub HasDrained : Shown → (source place : ℕ) → Shown → Type 0
HasDrained p s k q = q ≡ place_acked (place_loaded p p.own.actor s k 3) s k

-- the request was found there, the lock taken and freed, and the request acked
abbrev pub HasFlushed : Shown → (source place request : ℕ) → Shown → Type 0
HasFlushed p s k n q = q ≡ place_acked (after_step (after_step (place_loaded p p.own.actor s k n) (number_of (Lock p.own.actor)) (Exchange 0) (p.own.actor + 1) 0) (number_of (Lock p.own.actor)) Store 0 0) s k

-- a request was found there, and another holds the lock
abbrev pub HasFoundBoth : Shown → (source place holder : ℕ) → Shown → Type 0
HasFoundBoth p s k holder q = (n : ℕ) × (n ≢ 0) × HasFoundLock (place_loaded p p.own.actor s k n) p.own.actor holder q

-- the lock of the own table is free, no store of SIZE asks for anything, and each compare word in use is invalid
pub record IsEmptyTable (p : Shown) : Type 0 where
  pub free : held_lock p.own.steps ≡ 0
  pub paid : IsPaid p
  pub empty : (j : ℕ) (f : TlbField) → is_compare f ≡ true → IsInUse p.own.actor j p.own.steps → invalid_bit (table_word (Tlb p.own.actor j f) p.own.steps) ≡ 1

-- a hart with an empty table, that may load and ack what this source posts
pub record IsServing (p : Shown) (source : ℕ) : Type 0 where
  pub acting : IsActing p
  pub hart : p.own.actor < p.machine.layout.harts
  pub other : source ≢ p.own.actor
  pub untouched : has_touched p.own.steps ≡ false
  pub table : IsEmptyTable p

-- a source that has posted so many requests at this hart
pub record IsPosting (p : Shown) (target count : ℕ) : Type 0 where
  pub acting : IsActing p
  pub hart : target < p.machine.layout.harts
  pub other : target ≢ p.own.actor
  pub posted : length (posts target p.own.actor p.own.steps) ≡ count
