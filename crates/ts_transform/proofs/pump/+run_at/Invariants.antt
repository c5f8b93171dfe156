use Rattle.ts_transform.proofs.pump.+run_at.Given as goal

-- the place
abbrev pub decreases-run_at : goal.decreases-run_at
decreases-run_at g l = l.at
