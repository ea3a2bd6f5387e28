-- Lines of a report, piece by piece.
use Rattle.std.proofs.Common.{◌≡◌, refl, ℕ, zero, suc, ◌<◌, ◌≤◌, ◌+◌, ◌-◌, ◌++◌, List, [], ◌∷◌, length, take, drop, map, arith, ap, sym, ◌∙◌}
use Rattle.std.specs.Prelude.{codes, slice_index}
use Rattle.std.proofs.lemmas.List.{append_assoc, length-map}
use Rattle.std.proofs.Math.ListN.{get_or-map}
use Rattle.std.proofs.Math.Seq.{take-length}
use Rattle.machine_model.specs.declared.mode.Mode.TheVariants.{Halted}
use Rattle.ref_machine.specs.declared.hart.HartSlot.{HartSlot}
use Rattle.machine_model.specs.State.{Hart, nth}
use Rattle.ref_machine.specs.Slots.{new_slot, slot_at}
use Rattle.ref_machine.specs.Shows.{resting}
use Rattle.tlbvm.specs.Report.{hex, registers, hart_line, hart_lines}

-- a piece more
pub appended : (old done piece text text' : List ℕ) → text ≡ old ++ done → text' ≡ text ++ piece → text' ≡ old ++ (done ++ piece)
appended old done piece text text' e more = more ∙ ap (λ (x : List ℕ). x ++ piece) e ∙ append_assoc old done piece

pub registers_at : (values : List ℕ) → 1 ≤ length values → registers values ≡ codes " " ++ hex 16 (slice_index values 0) ++ registers (take (length values - 1) (drop 1 values))
registers_at [] le = absurd (omega (arith, le))
registers_at (x ∷ xs) le =
    let e : suc (length xs) - 1 ≡ length xs = omega arith in
    ap (λ (ys : List ℕ). codes " " ++ hex 16 x ++ registers ys) (sym (ap (λ n. take n xs) e ∙ take-length xs))

lines_suc : (h i : ℕ) (harts : List Hart) → i < length harts → hart_lines h (drop i harts) ≡ hart_line h (nth harts i).count (nth harts i).arch ++ hart_lines (h + 1) (drop (suc i) harts)
lines_suc h i [] lt = absurd (omega (arith, lt))
lines_suc h zero (t ∷ harts) lt = refl
lines_suc h (suc i) (t ∷ harts) lt = lines_suc h i harts (omega (arith, lt))

lines_end_of : (h i : ℕ) (harts : List Hart) → length harts ≤ i → hart_lines h (drop i harts) ≡ []
lines_end_of h zero [] le = refl
lines_end_of h (suc i) [] le = refl
lines_end_of h zero (t ∷ harts) le = absurd (omega (arith, le))
lines_end_of h (suc i) (t ∷ harts) le = lines_end_of h i harts (omega (arith, le))

-- the lines from a hart on, as the machine keeps the harts
pub lines_at : (h : ℕ) (ts : List HartSlot) → h < length ts
    → hart_lines h (drop h (map resting ts)) ≡ hart_line h (slot_at ts h).count (slot_at ts h).arch ++ hart_lines (h + 1) (drop (h + 1) (map resting ts))
lines_at h ts lt =
    let size = length-map ts resting in
    let e : suc h ≡ h + 1 = omega arith in
    lines_suc h h (map resting ts) (omega (arith, lt, size))
    ∙ ap (λ (t : Hart). hart_line h t.count t.arch ++ hart_lines (h + 1) (drop (suc h) (map resting ts))) (get_or-map resting ts h (new_slot Halted 0))
    ∙ ap (λ n. hart_line h (slot_at ts h).count (slot_at ts h).arch ++ hart_lines (h + 1) (drop n (map resting ts))) e

pub lines_end : (h : ℕ) (ts : List HartSlot) → length ts ≤ h → hart_lines h (drop h (map resting ts)) ≡ []
lines_end h ts le = let size = length-map ts resting in lines_end_of h h (map resting ts) (omega (arith, le, size))
