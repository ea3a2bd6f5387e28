-- The monitor with a snapshot.
use Rattle.std.specs.Prelude.{◌≡◌, ◌≢◌, ℕ, suc, ◌==◌, [], if◌then◌else◌}
use Rattle.step_laws.specs.Words.{monitor}
use Rattle.step_laws.specs.Marks.{Stage, swapping, passing, draining, awaiting, stage, last_place}
use Rattle.step_laws.specs.Places.{posts}
use Rattle.step_laws.specs.Tables.{held_lock}
use Rattle.guest_ram.specs.Ports.{Shown, IsActing}

-- the monitor at this stage of a snapshot, with no lock
pub record IsAtStage (p : Shown) (at : Stage) : Type 0 where
  pub acting : IsActing p
  pub monitor_is : p.own.actor ≡ monitor
  pub free : held_lock p.own.steps ≡ 0
  pub stage_is : stage p.machine.layout p.own.steps ≡ at

-- the stage behind the pass over a hart's table
abbrev pub after_pass : Shown → (hart : ℕ) → Stage
after_pass p h = if suc h == p.machine.layout.harts then draining 0 else passing (suc h)

-- behind the drain that was posted at a hart
abbrev pub after_drain : Shown → (hart : ℕ) → Stage
after_drain p h = if suc h == p.machine.layout.harts then awaiting 0 else draining (suc h)

-- and behind the load that found it acked: with the last the snapshot is finished
abbrev pub after_wait : Shown → (hart : ℕ) → Stage
after_wait p h = if suc h == p.machine.layout.harts then swapping 0 else awaiting (suc h)

-- a post was made in this place at this hart, and at no other
pub record HasPlaced (p q : Shown) (hart place : ℕ) : Type 0 where
  pub others : (t : ℕ) → t ≢ hart → posts t q.own.actor q.own.steps ≡ posts t p.own.actor p.own.steps
  pub last : (t : ℕ) → last_place t q.own.steps ≡ (if t == hart then place else last_place t p.own.steps)

-- the actor has posted nowhere
pub record HasNoPost (p : Shown) : Type 0 where
  pub posts_none : (t : ℕ) → posts t p.own.actor p.own.steps ≡ []
  pub no_last : (t : ℕ) → last_place t p.own.steps ≡ 0

-- the next hart that the monitor waits for, and none where the snapshot is finished
abbrev pub waiting_stage : Shown → (hart : ℕ) → Stage
waiting_stage p h = if h == p.machine.layout.harts then swapping 0 else awaiting h
