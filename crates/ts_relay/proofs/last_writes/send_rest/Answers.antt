-- Each answer of one of the last writes: where it leads, what it does with the links, and what it lowers.
use Rattle.ts_hooks.specs.declared.txn_end.TxnEnd.TheVariants as E
use Rattle.ts_relay.proofs.BodyLinks.{sends_all, sends_lacks, sends_late, sends_left, sends_some}
use Rattle.ts_relay.proofs.Finished.{finish_failed, finish_lacks, finished, finishing_on}
use Rattle.ts_relay.proofs.LoweringRest.{rest_closes, rest_goes, rest_lacks, rest_waits}
use Rattle.ts_relay.proofs.last_writes.send_rest.Goals as goal

pub returns-in-Some-clause-leads : goal.returns-in-Some-clause-leads
returns-in-Some-clause-leads g c = λ told also.
    finishing_on _ _ _ _ _ _ c.args.end told (c.requires.fact told also) c.in-Some.ensures.writes

pub returns-in-Some-clause-links : goal.returns-in-Some-clause-links
returns-in-Some-clause-links g c = sends_some _ _ _ _ _ c.in-Some.ensures.writes

pub returns-in-Some-clause-falls : goal.returns-in-Some-clause-falls
returns-in-Some-clause-falls g c =
    rest_goes g.C.Link.tells g.O.Link.tells _ _ _ c.in-Some.ensures.writes

pub returns-in-Nothing-clause-leads : goal.returns-in-Nothing-clause-leads
returns-in-Nothing-clause-leads g c = λ told also.
    finished _ _ _ _ _ c.args.end told (c.requires.fact told also) c.in-Nothing.ensures.writes

pub returns-in-Nothing-clause-links : goal.returns-in-Nothing-clause-links
returns-in-Nothing-clause-links g c = sends_all _ _ _ _ c.in-Nothing.ensures.writes

pub returns-in-Nothing-clause-falls : goal.returns-in-Nothing-clause-falls
returns-in-Nothing-clause-falls g c =
    rest_closes g.C.Link.tells g.O.Link.tells _ _ _ c.args.end c.in-Nothing.ensures.writes

pub returns-in-Again-clause-leads : goal.returns-in-Again-clause-leads
returns-in-Again-clause-leads g c = λ told also.
    finishing_on _ _ _ _ _ _ c.args.end told (c.requires.fact told also) c.in-Again.ensures.writes

pub returns-in-Again-clause-links : goal.returns-in-Again-clause-links
returns-in-Again-clause-links g c = sends_late _ _ _ _ c.in-Again.ensures.writes

pub returns-in-Again-clause-falls : goal.returns-in-Again-clause-falls
returns-in-Again-clause-falls g c =
    rest_waits g.C.Link.tells g.O.Link.tells _ _ c.in-Again.ensures.writes

pub returns-in-Failed-clause-leads : goal.returns-in-Failed-clause-leads
returns-in-Failed-clause-leads g c = λ told also.
    finish_failed _ _ _ _ _ c.args.end told (c.requires.fact told also) c.in-Failed.ensures.writes

pub returns-in-Failed-clause-links : goal.returns-in-Failed-clause-links
returns-in-Failed-clause-links g c = sends_left _ _ _ _ c.in-Failed.ensures.writes

pub returns-in-Failed-clause-falls : goal.returns-in-Failed-clause-falls
returns-in-Failed-clause-falls g c =
    rest_closes g.C.Link.tells g.O.Link.tells _ _ _ E.ClientFault c.in-Failed.ensures.writes

pub returns-in-NoMemory-clause-leads : goal.returns-in-NoMemory-clause-leads
returns-in-NoMemory-clause-leads g c = λ told also.
    finish_lacks _ _ _ _ _ c.args.end told (c.requires.fact told also) c.in-NoMemory.ensures.writes

pub returns-in-NoMemory-clause-links : goal.returns-in-NoMemory-clause-links
returns-in-NoMemory-clause-links g c = sends_lacks _ _ _ _ c.in-NoMemory.ensures.writes

pub returns-in-NoMemory-clause-falls : goal.returns-in-NoMemory-clause-falls
returns-in-NoMemory-clause-falls g c =
    rest_lacks g.C.Link.tells g.O.Link.tells _ _ _ c.in-NoMemory.ensures.writes
