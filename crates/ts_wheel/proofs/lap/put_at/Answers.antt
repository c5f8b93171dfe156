use Rattle.ts_wheel.proofs.Spread.{spread-put}
use Rattle.ts_wheel.proofs.lap.put_at.Goals as goal

pub returns-clause-put : goal.returns-clause-put
returns-clause-put g c = λ start all. spread-put start c.args.rows.now.items c.args.place c.args.row
    c.requires all
