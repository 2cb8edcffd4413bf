use Rattle.convoy_library_tests.proofs.boards.+share_after_splits.Given as goal

abbrev pub decreases-share_after_splits : goal.decreases-share_after_splits
decreases-share_after_splits g l = l.times
