-- A hart as it is made is between turns at a port that has made no step, and with the empty log.
use Rattle.std.proofs.Common.{◌≡◌, ◌<◌, ℕ, zero, suc, Bool, true≢false, [], refl, sym, ap, subst, ◌∙◌, inl, None, ne_eqb}
use Rattle.std.specs.Prelude.{◌-◌, if◌then◌else◌, replicate, slice_index_or}
use Rattle.std.proofs.lemmas.List.{get_or-replicate}
use Rattle.rv64_priv.specs.Csr.{regime}
use Rattle.step_laws.specs.Harts.{is_owing, is_running, opening}
use Rattle.step_laws.specs.Output.{is_finished}
use Rattle.step_laws.specs.Places.{ack_place, post_place}
use Rattle.step_laws.specs.Sections.{is_claimant, phase}
use Rattle.step_laws.specs.Tables.{held_lock, is_clear_due, size_of}
use Rattle.tlb_entry.specs.Kept.{used_of}
use Rattle.kept_fills.proofs.Staying.{new_book_goes}
use Rattle.machine_model.specs.Own.{own}
use Rattle.machine_model.specs.declared.mode.Mode.TheVariants.{Halted}
use Rattle.machine_model.specs.State.{Setup, hart, initial, new_hart, reset}
use Rattle.hart_turn.specs.Harts.{first_hart, own_of}
use Rattle.hart_turn.specs.Laws.{NewHartsAreBetween, NewHartsAreSettled}

pub first_settled : NewHartsAreSettled
first_settled number start limit p new positive = record {
  with = record {
    beside = record {
      acting = record { limits = new.limits; actor = inl there; going = ap is_finished new.none };
      hart = there;
      book = record { number = sym new.number_is; sized = inl refl; size = sym (ap (size_of p.own.actor) new.none); used = sym (ap (used_of p.own.actor) new.none) };
      free = ap held_lock new.none;
      owes = λ slot field k. ap (is_clear_due p.own.actor slot field) new.none;
    };
    fills = record { items = []; fills = []; goes = new_book_goes p (first_hart number start limit).book (regime (first_hart number start limit).arch) new.none refl };
    number = sym new.number_is;
    runs = ap (is_running p.own.actor p.own.runs) new.none ∙ new.runs;
    free = ap opening new.none;
    paid = ap (is_owing p.own.actor) new.none;
    stands = record { phase_is = ap phase new.none; claim_is = ap is_claimant new.none; quantum = λ inside. absurd (true≢false (sym inside)) };
    sent = λ t l. get_or-replicate 16 t 0 0 l ∙ sym (ap (post_place t p.own.actor) new.none);
    served = λ s l. get_or-replicate 17 s 0 0 l ∙ sym (ap (ack_place p.own.actor s) new.none);
    below = λ unsaid. positive;
    call = tt;
    stopped = λ still. refl;
  };
  works = λ inside. absurd (true≢false (sym inside));
}
  where
    there : p.own.actor < p.machine.layout.harts
    there = subst (λ n. n < p.machine.layout.harts) (sym new.number_is) new.there

-- in a list of one thing it stands at each place, and behind the last
all_same : {A : Type 0} (n i : ℕ) (x : A) → slice_index_or (replicate n x) i x ≡ x
all_same zero i x = refl
all_same (suc n) zero x = refl
all_same (suc n) (suc i) x = all_same n i x

-- every hart but the first is stopped
part_of : (u : Setup) (n : ℕ) → own (hart (initial u) n) ≡ own_of (first_hart n u.start u.limit) None
part_of u zero = refl
part_of u (suc n) = ap own (all_same (u.layout.harts - 1) n (new_hart Halted 0))
    ∙ ap (λ (first : Bool). record { arch = reset (if first then u.start else 0); held = None; count = 0; runs = first }) (sym (ne_eqb (suc n) 0 (λ e. cc)))

pub first_between : NewHartsAreBetween
first_between number limit p u new layout limit_is = record {
  at_end = record {
    limit_is = limit_is;
    held = None;
    settles = record {
      tells = record {
        tells = record {
          stands = record { layout = layout; actor = sym new.number_is; is = sym new.none; part_is = part_of u number };
          clear = tt;
          none_drawn = refl;
          none_left = refl;
        };
        fills = [];
        goes = new_book_goes p (first_hart number u.start limit).book (regime (first_hart number u.start limit).arch) new.none refl;
      };
      settled = λ page free. refl;
    };
    not_due = refl;
    said = λ last. absurd (true≢false (sym last));
    call = refl;
  };
  full = λ e. cc;
}
