-- The status and what out took are those of what the task came to.
use Rattle.std.proofs.Common.{◌≡◌, Some}
use Rattle.ts_proxy.specs.Words.{task_of, threaded_task}
use Rattle.ts_proxy.proofs.Ending.{cause_is, status_is, takes_is}
use Rattle.ts_proxy.proofs.top.run.Goals as goal

pub returns-clause-status : goal.returns-clause-status
returns-clause-status g c =
    let asked : task_of c.args.words.now ≡ Some (threaded_task c.in-Ok-Some.task) =
    rw c.in-Ok-Some.field-0-is at c.in-Ok-Some.ensures.task in
    status_is _ g.S.Shelf.tells _ _ _ _ _ _ (threaded_task c.in-Ok-Some.task) _ _ _ asked
    c.end-2.ensures.status c.perform-performed.ensures.performed

pub returns-clause-takes : goal.returns-clause-takes
returns-clause-takes g c =
    let asked : task_of c.args.words.now ≡ Some (threaded_task c.in-Ok-Some.task) =
    rw c.in-Ok-Some.field-0-is at c.in-Ok-Some.ensures.task in
    takes_is g.S.Shelf.tells g.K.Sink.tells _ _ _ _ _ (threaded_task c.in-Ok-Some.task) _ _ _ asked
    c.end-2.ensures.status c.perform-performed.ensures.performed

pub returns-clause-cause : goal.returns-clause-cause
returns-clause-cause g c =
    let asked : task_of c.args.words.now ≡ Some (threaded_task c.in-Ok-Some.task) =
    rw c.in-Ok-Some.field-0-is at c.in-Ok-Some.ensures.task in
    cause_is g.S.Shelf.tells g.K.Sink.tells _ _ _ _ _ (threaded_task c.in-Ok-Some.task) _ _ _ asked
    c.end-2.ensures.status c.perform-performed.ensures.performed
