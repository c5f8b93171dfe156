-- The turn was taken at the moment at which the clock stood.
use Rattle.ts_lists.proofs.Results.{on_err_any}
use Rattle.ts_serve.proofs.worker.work_once.Goals as goal

pub returns-in_err-did-clause-err : goal.returns-in_err-did-clause-err
returns-in_err-did-clause-err g c =
    on_err_any c.from_residual.result
    (record { moment = c.now-moment.result; loses = c.in_err-did.ensures.err })

pub returns-in-Idle-clause-did : goal.returns-in-Idle-clause-did
returns-in-Idle-clause-did g c = record {
  moment = c.now-moment.result;
  answer = c.in_ok-did.did;
  did = c.in_ok-did.ensures.did;
}

pub returns-in_default-clause-did : goal.returns-in_default-clause-did
returns-in_default-clause-did g c = record {
  moment = c.now-moment.result;
  answer = c.in_ok-did.did;
  did = c.in_ok-did.ensures.did;
}
