use Rattle.ts_transform.proofs.rousing.+unrouse_at.Given as goal

-- the place
abbrev pub decreases-unrouse_at : goal.decreases-unrouse_at
decreases-unrouse_at l = l.at
