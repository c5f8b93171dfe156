use Rattle.ts_wire.proofs.Refusals.{refuses_so}
use Rattle.ts_wire.proofs.check.check_request.Goals as goal

pub returns-then-eq-clause-refusals : goal.returns-then-eq-clause-refusals
returns-then-eq-clause-refusals c = refuses_so

pub returns-then-has_wrong_hosts-clause-refusals : goal.returns-then-has_wrong_hosts-clause-refusals
returns-then-has_wrong_hosts-clause-refusals c = refuses_so

pub returns-in_err-target-clause-refusals : goal.returns-in_err-target-clause-refusals
returns-in_err-target-clause-refusals c = refuses_so

pub returns-in_default-clause-refusals : goal.returns-in_default-clause-refusals
returns-in_default-clause-refusals c = refuses_so

pub returns-in-Some-refusal_by-clause-refusals : goal.returns-in-Some-refusal_by-clause-refusals
returns-in-Some-refusal_by-clause-refusals c = refuses_so

pub returns-in-None-clause-refusals : goal.returns-in-None-clause-refusals
returns-in-None-clause-refusals c = refuses_so
