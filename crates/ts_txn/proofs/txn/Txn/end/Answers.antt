-- A transaction that has ended stands as its end says, and one at rest has ended.
use Rattle.std.proofs.Common.{sym, ◌∙◌}
use Rattle.ts_txn.proofs.Handling.{at_rest}
use Rattle.ts_txn.proofs.Resting.{ended_for_cause, ended_so, rests_with_block}
use Rattle.ts_txn.proofs.Sending.{sends_once, sends_request_first}
use Rattle.ts_txn.proofs.txn.Txn.end.Goals as goal

pub returns-clause-rests : goal.returns-clause-rests
returns-clause-rests g c = λ none started next roles sound.
    at_rest g.C.Link g.O.Link g.O.Upstream g.P.Transform c.args.self.now next roles started
    (sym c.end_of_course.ensures ∙ none) sound

pub returns-clause-law : goal.returns-clause-law
returns-clause-law g c = λ end is pending next roles sound.
    ended_so g.C.Link g.O.Link g.O.Upstream g.P.Transform c.args.self.now pending next roles end
    (sym c.end_of_course.ensures ∙ is) sound

pub returns-clause-causes : goal.returns-clause-causes
returns-clause-causes g c = λ end is pending next roles sound.
    ended_for_cause g.C.Link g.O.Link g.O.Upstream g.P.Transform c.args.self.now pending next roles end
    (sym c.end_of_course.ensures ∙ is) sound

pub returns-clause-block : goal.returns-clause-block
returns-clause-block g c = λ next roles sound.
    rests_with_block g.C.Link g.O.Link g.O.Upstream g.P.Transform c.args.self.now next roles sound

pub returns-clause-once : goal.returns-clause-once
returns-clause-once g c = λ pending next roles sound.
    sends_once g.C.Link g.O.Link g.O.Upstream g.P.Transform c.args.self.now pending next roles sound

pub returns-clause-first : goal.returns-clause-first
returns-clause-first g c = λ pending next roles sound.
    sends_request_first g.C.Link g.O.Link g.O.Upstream g.P.Transform c.args.self.now pending next roles sound
