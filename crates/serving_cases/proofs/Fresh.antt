-- What holds of a hart that has made no step.
use Rattle.std.proofs.Common.{◌≡◌, ◌<◌, ◌≤◌, false, List, [], sym, ap, subst, ◌∙◌, arith}
use Rattle.std.specs.Prelude.{replicate}
use Rattle.std.proofs.lemmas.List.{get_or-replicate}
use Rattle.rv64_priv.specs.declared.state.Regime.{Regime}
use Rattle.step_laws.specs.declared.steps.Step.{Step}
use Rattle.step_laws.specs.Output.{has_touched}
use Rattle.step_laws.specs.Places.{ack_place, post_place}
use Rattle.step_laws.specs.Tables.{held_lock, is_clear_due}
use Rattle.guest_ram.specs.Ports.{Shown}
use Rattle.guest_ram_cases.specs.Tours.{IsFresh}
use Rattle.tlb_entry.specs.declared.books.Book.{Book}
use Rattle.tlb_entry.specs.Books.{GoesWith}
use Rattle.kept_fills.specs.Beside.{IsBeside}
use Rattle.kept_fills.proofs.Staying.{new_book_goes}
use Rattle.hart_calls.specs.declared.spans.Span.{Span}
use Rattle.turn_cases.proofs.Begun.{fence_begins, named_few}
use Rattle.serving_cases.specs.Sides.{IsFencer, IsServer}

fresh_beside : (b : Book) (p : Shown) → IsFresh p → GoesWith b p.own.actor [] → p.own.actor < p.machine.layout.harts → IsBeside b p
fresh_beside b p f goes less = record {
  acting = f.acting;
  hart = less;
  book = subst (λ (r : List Step). GoesWith b p.own.actor r) (sym f.no_step) goes;
  free = ap held_lock f.no_step;
  owes = λ j field c. ap (λ (r : List Step). is_clear_due p.own.actor j field r) f.no_step;
}

pub fresh_fencer : (span : Span) (b : Book) (p : Shown) → IsFresh p → GoesWith b p.own.actor [] → p.own.actor ≡ 0 → 2 ≤ p.machine.layout.harts
    → IsFencer span b (record { next = replicate 16 0 }) (record { posted = replicate 16 0; acked = replicate 16 0 }) p
fresh_fencer span b p f goes own two = record {
  beside = fresh_beside b p f goes (omega (arith, own, two));
  sent_by = λ t l. get_or-replicate 16 t 0 0 l ∙ sym (ap (λ (r : List Step). post_place t p.own.actor r) f.no_step);
  fencing = (p.own.steps, fence_begins 2 span (record { next = replicate 16 0 }) p (omega (arith, own)));
  harts = λ t n. let few : t < 2 = named_few 2 t (omega arith) n in omega (arith, few, two);
}

pub fresh_server : (b : Book) (p : Shown) → IsFresh p → GoesWith b p.own.actor [] → b.large ≡ false → p.own.actor ≡ 1 → 2 ≤ p.machine.layout.harts → IsServer b (record { next = replicate 17 0 }) p
fresh_server b p f goes small own two = record {
  beside = fresh_beside b p f goes (omega (arith, own, two));
  fills = (none, [], [], new_book_goes p b none f.no_step small);
  ring = λ s l. get_or-replicate 17 s 0 0 l ∙ sym (ap (λ (r : List Step). ack_place p.own.actor s r) f.no_step);
  untouched = ap has_touched f.no_step;
  actor = own;
}
  where
    none : Regime
    none = record { satp = 0; user = false; sum = false; mxr = false }
