-- A load leaves its word.
use Rattle.guest_boot.proofs.Begun.{load_keeps}
use Rattle.guest_boot.proofs.laws.law_splits.Goals as goal

pub returns : goal.returns
returns c = load_keeps
