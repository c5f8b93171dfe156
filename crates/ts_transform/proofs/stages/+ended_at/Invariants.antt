use Rattle.ts_transform.proofs.stages.+ended_at.Given as goal

-- the place
abbrev pub decreases-ended_at : goal.decreases-ended_at
decreases-ended_at g l = l.at
