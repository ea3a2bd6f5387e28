-- Calls on the harts that a mask names, by the registers that hold it.
use Rattle.std.proofs.Common.{◌≡◌, ◌≢◌, refl, sym, ap, ◌∙◌, ℕ, ◌≤◌, Bool, true, false, List, ◌⊎◌, inl, inr}
use Rattle.std.specs.Prelude.{nat_le, Option, Some, None, if◌then◌else◌}
use Rattle.std.specs.Option.{is_some, option_map}
use Rattle.std.proofs.lemmas.Bool.{cases_eq, le-leb, eq-eqb, ne_eqb}
use Rattle.rv64_priv.specs.State.{Arch}
use Rattle.machine_model.specs.Sbi.{Call, Sends, arg, named, are_there, bits_of, with_named, fails, succeeds, not_supported, invalid_parameter, fence_over, fence_range, ipi_call, rfence_call}
use Rattle.hart_calls.specs.declared.spans.Span.{Span}
use Rattle.hart_calls.specs.Asked.{bits_if_there}
use Rattle.hart_calls.specs.Spans.{flush_of}

abbrev pub harts_of : ℕ → Arch → List ℕ
harts_of harts a = named harts (arg a 0) (arg a 1)

pub at_registers : (harts : ℕ) (a : Arch) (mask base : ℕ) (bits : Option ℕ) → bits ≡ bits_if_there harts (named harts mask base) → mask ≡ arg a 0 → base ≡ arg a 1 → bits ≡ bits_if_there harts (harts_of harts a)
at_registers harts a mask base bits e p q =
    e ∙ ap (λ k. bits_if_there harts (named harts k base)) p ∙ ap (λ k. bits_if_there harts (named harts (arg a 0) k)) q

some_if : (b : Bool) (n : ℕ) → is_some (if b then Some n else None) ≡ b
some_if true n = refl
some_if false n = refl

-- what an answer of bits says
there_is : (harts : ℕ) (hs : List ℕ) (bits : Option ℕ) (b : Bool) → bits ≡ bits_if_there harts hs → is_some bits ≡ b → are_there harts hs ≡ b
there_is harts hs bits b e some = sym (some_if (are_there harts hs) (bits_of hs)) ∙ sym (ap is_some e) ∙ some

pub bits_are : (harts : ℕ) (hs : List ℕ) (mask : ℕ) → Some mask ≡ bits_if_there harts hs → bits_of hs ≡ mask
bits_are harts hs mask e =
    let there = there_is harts hs (Some mask) true e refl in
    let known : bits_if_there harts hs ≡ Some (bits_of hs) = ap (λ b. if b then Some (bits_of hs) else None) there in
    cc

with_there : (harts : ℕ) (a : Arch) (then_do : List ℕ → Call) (b : Bool) → are_there harts (harts_of harts a) ≡ b → with_named harts a then_do ≡ (if b then then_do (harts_of harts a) else fails invalid_parameter)
with_there harts a then_do b e = ap (λ t. if t then then_do (harts_of harts a) else fails invalid_parameter) e

-- inter-processor interrupts
ipi_is : (harts : ℕ) (a : Arch) (fid : ℕ) → fid ≡ 0 → ipi_call harts a fid ≡ with_named harts a (λ hs. Sends (bits_of hs))
ipi_is harts a fid e = ap (λ b. if b then with_named harts a (λ hs. Sends (bits_of hs)) else fails not_supported) (eq-eqb fid 0 e)

pub ipi_sends : (harts : ℕ) (a : Arch) (fid mask : ℕ) → fid ≡ 0 → Some mask ≡ bits_if_there harts (harts_of harts a) → Sends mask ≡ ipi_call harts a fid
ipi_sends harts a fid mask e some =
    sym (ipi_is harts a fid e
    ∙ with_there harts a (λ hs. Sends (bits_of hs)) true (there_is harts (harts_of harts a) (Some mask) true some refl)
    ∙ ap Sends (bits_are harts (harts_of harts a) mask some))

pub ipi_refused : (harts : ℕ) (a : Arch) (fid : ℕ) → fid ≡ 0 → None ≡ bits_if_there harts (harts_of harts a) → fails invalid_parameter ≡ ipi_call harts a fid
ipi_refused harts a fid e none =
    sym (ipi_is harts a fid e ∙ with_there harts a (λ hs. Sends (bits_of hs)) false (there_is harts (harts_of harts a) None false none refl))

-- remote fences
over_range : Arch → List ℕ → Call
over_range a hs = fence_over hs (fence_range (arg a 2) (arg a 3))

fetch_fence : (harts : ℕ) (a : Arch) (fid : ℕ) → fid ≡ 0 → rfence_call harts a fid ≡ with_named harts a (λ hs. succeeds 0)
unfolding over_range
fetch_fence harts a fid e =
    ap (λ b. if b then with_named harts a (λ hs. succeeds 0) else (if nat_le fid 2 then with_named harts a (over_range a) else fails not_supported)) (eq-eqb fid 0 e)

page_fence : (harts : ℕ) (a : Arch) (fid : ℕ) → fid ≢ 0 → fid ≤ 2 → rfence_call harts a fid ≡ with_named harts a (over_range a)
unfolding over_range
page_fence harts a fid e few =
    ap (λ b. if b then with_named harts a (λ hs. succeeds 0) else (if nat_le fid 2 then with_named harts a (over_range a) else fails not_supported)) (ne_eqb fid 0 e)
    ∙ ap (λ b. if b then with_named harts a (over_range a) else fails not_supported) (le-leb fid 2 few)

pub fence_refused : (harts : ℕ) (a : Arch) (fid : ℕ) → fid ≤ 2 → None ≡ bits_if_there harts (harts_of harts a) → fails invalid_parameter ≡ rfence_call harts a fid
fence_refused harts a fid few none = go (there_is harts (harts_of harts a) None false none refl) (cases_eq fid 0)
  where
    go : are_there harts (harts_of harts a) ≡ false → (fid ≡ 0) ⊎ (fid ≡ 0 → ⊥) → fails invalid_parameter ≡ rfence_call harts a fid
    go f (inl e) = sym (fetch_fence harts a fid e ∙ with_there harts a (λ hs. succeeds 0) false f)
    go f (inr e) = sym (page_fence harts a fid e few ∙ with_there harts a (over_range a) false f)

pub fetch_fence_done : (harts : ℕ) (a : Arch) (fid mask : ℕ) → fid ≡ 0 → Some mask ≡ bits_if_there harts (harts_of harts a) → succeeds 0 ≡ rfence_call harts a fid
fetch_fence_done harts a fid mask e some = sym (fetch_fence harts a fid e ∙ with_there harts a (λ hs. succeeds 0) true (there_is harts (harts_of harts a) (Some mask) true some refl))

range_is : (a : Arch) (start size : ℕ) (span : Option Span) → option_map flush_of span ≡ fence_range start size → start ≡ arg a 2 → size ≡ arg a 3 → fence_range (arg a 2) (arg a 3) ≡ option_map flush_of span
range_is a start size span e p q = sym (e ∙ ap (λ k. fence_range k size) p ∙ ap (fence_range (arg a 2)) q)

-- a range as it was found
pub page_fence_done : (harts : ℕ) (a : Arch) (fid mask start size : ℕ) (span : Option Span) → fid ≢ 0 → fid ≤ 2 → Some mask ≡ bits_if_there harts (harts_of harts a)
    → option_map flush_of span ≡ fence_range start size → start ≡ arg a 2 → size ≡ arg a 3 → fence_over (harts_of harts a) (option_map flush_of span) ≡ rfence_call harts a fid
unfolding over_range
page_fence_done harts a fid mask start size span e few some range p q =
    sym (page_fence harts a fid e few ∙ with_there harts a (over_range a) true (there_is harts (harts_of harts a) (Some mask) true some refl)
    ∙ ap (fence_over (harts_of harts a)) (range_is a start size span range p q))
