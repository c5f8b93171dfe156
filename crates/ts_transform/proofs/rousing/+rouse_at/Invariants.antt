use Rattle.ts_transform.proofs.rousing.+rouse_at.Given as goal

-- the place
abbrev pub decreases-rouse_at : goal.decreases-rouse_at
decreases-rouse_at l = l.at
