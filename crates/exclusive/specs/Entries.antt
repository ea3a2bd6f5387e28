-- Entering and leaving: an actor's RUN says that it is about to enter or inside, and PEND whether another claims the section.
use Rattle.std.specs.Prelude.{◌≡◌, ◌≢◌}
use Rattle.step_laws.specs.declared.steps.WordOp.TheVariants.{Load, Store}
use Rattle.step_laws.specs.Map.{Pend, Run, number_of}
use Rattle.guest_ram.specs.declared.port.Seen.{Seen}
use Rattle.guest_ram.specs.Ports.{Shown, Made}

-- 1 was stored in the own RUN, and then PEND loaded as 0
pub record HasEntered (p q : Shown) : Type 0 where
  pub raised : Shown
  pub raises : Made p raised (Run p.own.actor) Store 1 0
  pub asks : Made raised q Pend Load 0 0

-- 1 was stored in the own RUN, then PEND loaded as what was seen, which isn't 0, and then 0 stored in the own RUN
pub record HasTurnedBack (seen : Seen) (p q : Shown) : Type 0 where
  pub raised : Shown
  pub asked : Shown
  pub raises : Made p raised (Run p.own.actor) Store 1 0
  pub asks : Made raised asked Pend Load 0 seen.value
  pub lowers : Made asked q (Run p.own.actor) Store 0 0
  pub word : seen.word ≡ number_of Pend
  pub claimed : seen.value ≢ 0

abbrev pub HasLeft : Shown → Shown → Type 0
HasLeft p q = Made p q (Run p.own.actor) Store 0 0
