use Rattle.ts_transform.proofs.rousing.+take_at.Given as goal

-- the place
abbrev pub decreases-take_at : goal.decreases-take_at
decreases-take_at l = l.at
