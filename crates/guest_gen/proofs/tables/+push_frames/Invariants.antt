use Rattle.guest_gen.proofs.tables.+push_frames.Given as goal

abbrev pub decreases-push_frames : goal.decreases-push_frames
decreases-push_frames l = l.count
