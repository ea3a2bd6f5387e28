-- The harts of the bits so far are there.
use Rattle.std.proofs.Common.{◌≡◌}
use Rattle.std.specs.Prelude.{Some}
use Rattle.ref_machine.specs.Calls.{bits_if_there}
use Rattle.ref_machine.proofs.Masks.{part}
use Rattle.ref_machine.proofs.calls.masks.named_bits.Given as goal

abbrev pub invariant-loop-i : goal.invariant-loop-i
invariant-loop-i l = bits_if_there l.harts (part l.mask l.base l.i) ≡ Some l.bits
