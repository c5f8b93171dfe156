use Rattle.ts_transform.proofs.handler.+rouse_below.Given as goal

-- how many are left
abbrev pub decreases-rouse_below : goal.decreases-rouse_below
decreases-rouse_below g l = l.count
