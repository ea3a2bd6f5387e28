-- Hart 1 beside another, over its steps.
use Rattle.std.proofs.Common.{◌≡◌, ◌≤◌, ◌<◌, ℕ, true, inl, sym, subst, ap, ◌∙◌, arith}
use Rattle.step_laws.specs.declared.steps.WordOp.TheVariants.{Store}
use Rattle.step_laws.specs.Map.{Ram, name_of}
use Rattle.step_laws.specs.Marks.{is_armed}
use Rattle.step_laws.specs.Sections.{phase, inside}
use Rattle.guest_ram.specs.Areas.{IsOfRam, IsOfSection}
use Rattle.guest_ram.specs.Ports.{Shown, Adds, May, IsActing, GoesBy, layout_of}
use Rattle.guest_ram.proofs.AreaLemmas.{section_steady}
use Rattle.guest_ram.proofs.Moves.{actor_goes, armed_goes}
use Rattle.guest_ram_cases.specs.Operations.{IsWriting}
use Rattle.guest_ram_cases.proofs.Writes.{may_write, writes_on}
use Rattle.access_rows.specs.Ready.{IsRival}

rival_hart : (p : Shown) → IsRival p → p.own.actor < (layout_of p).harts
rival_hart p k = let one : p.own.actor ≡ 1 = k.one in let two : 2 ≤ p.machine.layout.harts = k.harts in omega (arith, one, two)

pub rival_writes : (p : Shown) → IsRival p → IsWriting p 16384
rival_writes p k = record { acting = record { limits = k.limits; actor = inl (rival_hart p k); going = k.going }; hart = rival_hart p k; stands = k.stands; armed = k.armed }

pub writing_rival : (p : Shown) → IsWriting p 16384 → p.own.actor ≡ 1 → 2 ≤ (layout_of p).harts → IsRival p
writing_rival p w one two = record { limits = w.acting.limits; one = one; harts = two; going = w.acting.going; stands = w.stands; armed = w.armed }

pub rival_may : (p : Shown) (word value : ℕ) → IsRival p → name_of word ≡ Ram 16384 → May p word Store value
rival_may p word value k e = may_write p word 16384 value Store tt (rival_writes p k) e

pub rival_on : (p q : Shown) (word value : ℕ) → IsRival p → Adds p q word Store value 0 → name_of word ≡ Ram 16384 → IsRival q
rival_on p q word value k made e = writing_rival q (writes_on p q word 16384 value 0 Store (rival_writes p k) made e) (ap (λ (x : Shown). x.own.actor) made ∙ k.one)
    (subst (λ (x : Shown). 2 ≤ x.machine.layout.harts) (sym made) k.harts)

rival_entered : (p q : Shown) → is_armed p.own.actor 32 p.own.steps ≡ true → GoesBy 3 IsOfSection p q → phase q.own.steps ≡ inside → IsActing q → p.own.actor ≡ 1 → 2 ≤ (layout_of p).harts → IsRival q
rival_entered p q armed goes is acting one two = record {
  limits = acting.limits;
  one = actor_goes 3 IsOfSection p q goes ∙ one;
  harts = subst (λ (x : Shown). 2 ≤ x.machine.layout.harts) (sym goes.grown) two;
  going = acting.going;
  stands = is;
  armed = armed_goes 3 IsOfSection p q 32 section_steady goes armed;
}

pub rival_armed : (p m q : Shown) → is_armed m.own.actor 32 m.own.steps ≡ true → GoesBy 1 IsOfRam p m → GoesBy 3 IsOfSection m q → phase q.own.steps ≡ inside → IsActing q → p.own.actor ≡ 1 → 2 ≤ (layout_of p).harts → IsRival q
rival_armed p m q armed marks goes is acting one two = rival_entered m q armed goes is acting (actor_goes 1 IsOfRam p m marks ∙ one) (subst (λ (x : Shown). 2 ≤ x.machine.layout.harts) (sym marks.grown) two)
