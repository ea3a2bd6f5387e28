-- A turn's first step, calls to leave, and an actor's last step.
use Rattle.std.specs.Prelude.{ℕ}
use Rattle.step_laws.specs.declared.steps.WordOp.TheVariants.{Load, Store}
use Rattle.step_laws.specs.Map.{Done, Kick, Stop}
use Rattle.machine_model.specs.declared.reason.Reason.{Reason}
use Rattle.machine_model.specs.ReasonWords.{reason_word}
use Rattle.guest_ram.specs.Ports.{Shown, Made}

-- STOP was loaded as 0
abbrev pub HasFoundNoReason : Shown → Shown → Type 0
HasFoundNoReason p q = Made p q Stop Load 0 0

-- it was loaded as this reason's word
abbrev pub HasFoundReason : Reason → Shown → Shown → Type 0
HasFoundReason reason p q = Made p q Stop Load 0 (reason_word reason)

-- 1 was stored in the own DONE
abbrev pub HasSignedOff : Shown → Shown → Type 0
HasSignedOff p q = Made p q (Done p.own.actor) Store 1 0

-- the own KICK was loaded
abbrev pub HasFoundKick : (found : ℕ) → Shown → Shown → Type 0
HasFoundKick found p q = Made p q (Kick p.own.actor) Load 0 found

-- 0 was stored there
abbrev pub HasClearedKick : Shown → Shown → Type 0
HasClearedKick p q = Made p q (Kick p.own.actor) Store 0 0
