use Rattle.std.proofs.Common.{◌≡◌, ℕ, ◌≤◌, ◌-◌, List, length, take, vec_len, IfSome}
use Rattle.vm_io.proofs.read.read_all.Given as goal

-- what was read are the first bytes of the file, told bytes stay told, and no count fell
abbrev pub invariant-loop-file : goal.invariant-loop-file
invariant-loop-file g l = record {
  within : vec_len l.file ≤ 67108864;
  room : length l.piece ≡ 65536;
  front : IfSome (g.F.Images.told l.initial.images l.name) (λ bytes. l.file.items ≡ take (vec_len l.file) bytes);
  grows : (other : List ℕ) → g.F.Images.faults l.initial.images other ≤ g.F.Images.faults l.images other;
  same : (other : List ℕ) → g.F.Images.told l.images other ≡ g.F.Images.told l.initial.images other;
}

abbrev pub decreases-loop-file : goal.decreases-loop-file
decreases-loop-file g l = 67108864 - vec_len l.file
