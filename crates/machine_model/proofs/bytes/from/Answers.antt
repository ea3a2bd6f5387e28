-- Each byte is eight bits.
use Rattle.std.proofs.Common.{◌≡◌, refl, ℕ, zero, suc, ◌+◌, ◌*◌, ◌/◌, ◌^◌, arith, ap, pow-suc, ◌∙◌, sym}
use Rattle.std.proofs.lemmas.Nat.{pow-add}
use Rattle.machine_model.proofs.bytes.from.Goals as goal

byte_bits : (n : ℕ) → 2 ^ (8 * n) ≡ 256 ^ n
byte_bits zero = refl
byte_bits (suc n) =
    ap (λ k. 2 ^ k) (let e : 8 * suc n ≡ 8 * n + 8 = omega arith in e)
    ∙ pow-add 2 (8 * n) 8
    ∙ ap (λ m. m * 2 ^ 8) (byte_bits n)
    ∙ sym (pow-suc 256 n)

pub returns : goal.returns
returns c = ap (λ d. c.args.word / d) (byte_bits c.args.offset)
