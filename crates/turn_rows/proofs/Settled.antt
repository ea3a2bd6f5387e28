-- A hart with which a machine begins is between turns.
use Rattle.std.proofs.Common.{◌≡◌, ◌<◌, ℕ, false, true, [], refl, sym, subst, inl}
use Rattle.std.specs.Prelude.{◌==◌}
use Rattle.std.proofs.lemmas.List.{get_or-replicate}
use Rattle.rv64_priv.specs.Csr.{regime}
use Rattle.step_laws.specs.Layout.{IsInLimits}
use Rattle.guest_ram.specs.Ports.{Machine, Shown}
use Rattle.guest_ram_cases.specs.Tours.{fresh_seat}
use Rattle.kept_fills.proofs.Staying.{new_book_goes}
use Rattle.hart_turn.specs.declared.hart.Hart.{Hart}
use Rattle.hart_turn.specs.Harts.{IsSettled, first_hart}

never : false ≡ true → ⊥
never e = cc

-- whatever its seat, of which no step was made
pub new_settled : (m : Machine) (number start limit : ℕ) (h : Hart) (p : Shown) → h ≡ first_hart number start limit → p ≡ fresh_seat m number (number == 0) → IsInLimits m.layout → number < m.layout.harts → 0 < limit → IsSettled h p
new_settled m number start limit h p is e limits few positive = subst (λ (k : Hart). IsSettled k p) (sym is) (subst (λ (x : Shown). IsSettled first x) (sym e) (record {
  with = record {
    beside = record {
      acting = record { limits = limits; actor = inl few; going = refl };
      hart = few;
      book = record { number = refl; sized = inl refl; size = refl; used = refl };
      free = refl;
      owes = λ j field k. refl;
    };
    fills = record { items = []; fills = []; goes = new_book_goes seat first.book (regime first.arch) refl refl };
    number = refl;
    runs = refl;
    free = refl;
    paid = refl;
    stands = record { phase_is = refl; claim_is = refl; quantum = λ there. absurd (never there) };
    sent = λ t l. get_or-replicate 16 t 0 0 l;
    served = λ s l. get_or-replicate 17 s 0 0 l;
    below = λ unsaid. positive;
    call = tt;
    stopped = λ still. refl;
  };
  works = λ there. absurd (never there);
}))
  where
    first : Hart
    first = first_hart number start limit

    seat : Shown
    seat = fresh_seat m number (number == 0)
