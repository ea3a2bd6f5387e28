-- A fence of which nothing was done yet.
use Rattle.std.proofs.Common.{◌≡◌, ℕ, ◌<◌, ◌≤◌, ◌/◌, ◌%◌, ◌∙◌, true, false, [], refl, sym, ap, arith}
use Rattle.std.specs.Prelude.{◌^◌, ◌==◌, replicate, slice_index}
use Rattle.std.proofs.Math.Nat.{div-eq_of_lt}
use Rattle.std.proofs.Math.Pow.{pow_mono}
use Rattle.step_laws.proofs.Named.{by_lt}
use Rattle.std.proofs.lemmas.List.{get_or-replicate}
use Rattle.guest_ram.specs.Ports.{Shown}
use Rattle.work_queue.specs.declared.rings.Sent.{Sent}
use Rattle.hart_calls.specs.declared.spans.Span.{Span}
use Rattle.sbi_calls.specs.Fences.{GoesWithFence}
use Rattle.sbi_calls.specs.Spans.{is_named}

none_yet : (t : ℕ) → t < 16 → slice_index (replicate 16 0) t ≡ 0
none_yet t l = get_or-replicate 16 t 0 0 l

pub fence_begins : (harts : ℕ) (span : Span) (sent : Sent) (p : Shown) → p.own.actor < 16 → GoesWithFence harts span sent (record { posted = replicate 16 0; acked = replicate 16 0 }) p.own.steps p
fence_begins harts span sent p few = record {
  at = λ t i. record {
    since = [];
    is = refl;
    most = let e = none_yet t i.0 in omega (arith, e);
    few = let e = none_yet t i.0 in omega (arith, e);
    asked = λ n l. absurd (let e = none_yet t i.0 in omega (arith, e, l));
    answered = λ n l. absurd (let e = none_yet t i.0 in omega (arith, e, l));
  };
  own = let e = none_yet p.own.actor few in omega (arith, e);
}

-- a mask below 4 names harts 0 and 1 at most
pub named_few : (harts t : ℕ) → harts < 4 → is_named harts t ≡ true → t < 2
named_few harts t few named = by_lt t 2 (λ _. t < 2) (λ l. l) (λ (le : 2 ≤ t).
    let big : 2 ^ 2 ≤ 2 ^ t = pow_mono le in
    let none : harts / 2 ^ t ≡ 0 = div-eq_of_lt (omega (arith, big, few)) in
    absurd (let e : false ≡ true = ap (λ n. n % 2 == 1) (sym none) ∙ named in cc))
