use Rattle.ts_transform.proofs.rousing.+mark_error_passed.Given as goal

-- the place
abbrev pub decreases-mark_error_passed : goal.decreases-mark_error_passed
decreases-mark_error_passed l = l.at
