-- The status and what out took are those of what the task came to.
use Rattle.ts_proxy.specs.Words.{Over, Transform}
use Rattle.ts_proxy.proofs.Ending.{cause_is, status_is, takes_is}
use Rattle.ts_proxy.proofs.top.run_transform.Goals as goal

pub returns-clause-status : goal.returns-clause-status
returns-clause-status g c =
    let task = Over Transform c.in-Some.task.config.now c.in-Some.task.body.now in
    status_is _ g.S.Shelf.tells _ _ _ _ _ _ task _ _ _ c.in-Some.ensures c.end-2.ensures.status
    c.perform_transform-performed.ensures

pub returns-clause-takes : goal.returns-clause-takes
returns-clause-takes g c =
    let task = Over Transform c.in-Some.task.config.now c.in-Some.task.body.now in
    takes_is g.S.Shelf.tells g.K.Sink.tells _ _ _ _ _ task _ _ _ c.in-Some.ensures c.end-2.ensures.status
    c.perform_transform-performed.ensures

pub returns-clause-cause : goal.returns-clause-cause
returns-clause-cause g c =
    let task = Over Transform c.in-Some.task.config.now c.in-Some.task.body.now in
    cause_is g.S.Shelf.tells g.K.Sink.tells _ _ _ _ _ task _ _ _ c.in-Some.ensures c.end-2.ensures.status
    c.perform_transform-performed.ensures
