use Rattle.ts_transform.proofs.stages.+must_pump.Given as goal

-- the place
abbrev pub decreases-must_pump : goal.decreases-must_pump
decreases-must_pump g l = l.at
