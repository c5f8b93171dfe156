use Rattle.ts_transform.proofs.stages.+pause_at.Given as goal

-- the place
abbrev pub decreases-pause_at : goal.decreases-pause_at
decreases-pause_at g l = l.at
