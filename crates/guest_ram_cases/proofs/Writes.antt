-- A hart that stays inside and armed while it works on a word of RAM.
use Rattle.std.proofs.Common.{◌≡◌, ℕ, ◌<◌, refl, sym, subst, ◌∙◌, inl}
use Rattle.step_laws.specs.declared.steps.WordOp.{WordOp}
use Rattle.step_laws.specs.declared.steps.WordOp.TheVariants.{Load}
use Rattle.step_laws.specs.Discipline.{Writes}
use Rattle.step_laws.specs.Map.{Ram, name_of}
use Rattle.guest_ram.specs.Ports.{Shown, Adds, May}
use Rattle.guest_ram.proofs.MaySteps.{may_read_ram, may_write_ram}
use Rattle.guest_ram.proofs.Moves.{acting_adds, phase_adds, armed_keeps}
use Rattle.guest_ram_cases.specs.Operations.{IsWriting}

pub may_write : (p : Shown) (word i arg : ℕ) (op : WordOp) → Writes op → IsWriting p i → name_of word ≡ Ram i → May p word op arg
may_write p word i arg op writes s e = may_write_ram p word i arg op e s.acting writes (inl s.stands, s.hart, s.armed)

pub may_read : (p : Shown) (word i : ℕ) → IsWriting p i → name_of word ≡ Ram i → May p word Load 0
may_read p word i s e = may_read_ram p word i e s.acting (inl s.stands)

pub writes_on : (p q : Shown) (word i arg answer : ℕ) (op : WordOp) → IsWriting p i → Adds p q word op arg answer → name_of word ≡ Ram i → IsWriting q i
writes_on p q word i arg answer op s made e = record {
  acting = acting_adds p q word arg answer op (Ram i) made e (λ _. refl) s.acting;
  hart = subst (λ (x : Shown). x.own.actor < x.machine.layout.harts) (sym made) s.hart;
  stands = phase_adds p q word arg answer op (Ram i) made e ∙ s.stands;
  armed = armed_keeps p q word arg answer _ op (Ram i) made e tt s.armed;
}
