use Rattle.ts_wheel.proofs.Spread.{spread-set_push, spread-set_same}
use Rattle.ts_lists.proofs.Results.{on_err_any}
use Rattle.ts_wheel.proofs.lap.push_at.Goals as goal

pub returns-in_err-push_back-clause-err : goal.returns-in_err-push_back-clause-err
returns-in_err-push_back-clause-err g c = on_err_any c.from_residual.result
    (λ start. spread-set_same start c.args.rows.now.items c.args.place c.index_mut.result.now
    c.push_back.new.self c.index_mut.ensures.value c.in_err-push_back.ensures.items)

pub returns-clause-ok : goal.returns-clause-ok
returns-clause-ok g c =
    λ start. spread-set_push start c.args.rows.now.items c.args.place c.index_mut.result.now
    c.push_back.new.self c.args.token c.requires c.index_mut.ensures.value c.in_ok-push_back.ensures.items
