-- A hart with which a machine begins goes with its seat, which has made no step.
use Rattle.std.proofs.Common.{◌≡◌, ◌<◌, ℕ, false, [], refl, sym, subst, inl}
use Rattle.std.specs.Prelude.{◌==◌}
use Rattle.std.proofs.lemmas.List.{get_or-replicate}
use Rattle.rv64_priv.specs.Csr.{regime}
use Rattle.rv64_priv.specs.State.{Arch}
use Rattle.step_laws.specs.Layout.{IsInLimits}
use Rattle.guest_ram.specs.Ports.{Machine, Shown}
use Rattle.guest_ram_cases.specs.Tours.{fresh_seat}
use Rattle.kept_fills.proofs.Staying.{new_book_goes}
use Rattle.hart_turn.specs.declared.hart.Hart.{Hart}
use Rattle.hart_turn.specs.Harts.{GoesWith, first_hart}
use Rattle.hart_turn.proofs.Moving.{not_both}

-- whatever its registers are
pub first_goes : (m : Machine) (number limit : ℕ) (c : Arch) (p : Shown) → p ≡ fresh_seat m number (number == 0) → IsInLimits m.layout → number < m.layout.harts → 0 < limit → GoesWith (record (first_hart number 0 limit) { arch = c }) p
first_goes m number limit c p e limits few positive = subst (λ (x : Shown). GoesWith first x) (sym e) (record {
  beside = record {
    acting = record { limits = limits; actor = inl few; going = refl };
    hart = few;
    book = record { number = refl; sized = inl refl; size = refl; used = refl };
    free = refl;
    owes = λ j field k. refl;
  };
  fills = record { items = []; fills = []; goes = new_book_goes seat first.book (regime c) refl refl };
  number = refl;
  runs = refl;
  free = refl;
  paid = refl;
  stands = record { phase_is = refl; claim_is = refl; quantum = λ there. absurd (not_both false refl there) };
  sent = λ t l. get_or-replicate 16 t 0 0 l;
  served = λ s l. get_or-replicate 17 s 0 0 l;
  below = λ unsaid. positive;
  call = tt;
  stopped = λ still. refl;
})
  where
    first : Hart
    first = record (first_hart number 0 limit) { arch = c }

    seat : Shown
    seat = fresh_seat m number (number == 0)
