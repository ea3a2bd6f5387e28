-- The harts of the bits so far are there.
use Rattle.std.proofs.Common.{◌≡◌}
use Rattle.std.specs.Prelude.{Some}
use Rattle.hart_calls.specs.Asked.{bits_if_there}
use Rattle.hart_calls.proofs.Named.{NoneFrom, part}
use Rattle.hart_calls.proofs.masks.named_bits.Given as goal

abbrev pub invariant-loop-i : goal.invariant-loop-i
invariant-loop-i l = record { named_are : bits_if_there l.harts (part l.mask l.base l.i) ≡ Some l.bits; none_from : NoneFrom l.harts l.bits }
