-- An event lowers the number of its transaction, and leads it on its course.
use Rattle.std.proofs.Common.{◌≡◌, subst}
use Rattle.std.specs.Prelude.{⊤}
use Rattle.ts_group.specs.Answers.{MatchWant}
use Rattle.ts_txn.proofs.Events.{takes_event}
use Rattle.ts_txn.proofs.LoweringCourse.{transaction_falls}
use Rattle.ts_txn.proofs.txn.TxnWorld.handle.Goals as goal

pub returns-clause-keeps : goal.returns-clause-keeps
returns-clause-keeps g c = c.advance.ensures.owes.keeps

pub returns-clause-takes : goal.returns-clause-takes
returns-clause-takes g c =
    takes_event g.C.Link g.O.Link g.O.Upstream c.args.self.now.core c.advance.new.core c.args.cx.now
    c.advance.new.cx c.args.role c.args.self.now.main c.args.self.now.course c.advance.new.course
    c.advance.ensures.owes.handles

-- the event that was handled is pending no more, and those that were set are paid
pub returns-clause-lowers : goal.returns-clause-lowers
returns-clause-lowers g c = λ call.
    transaction_falls g.C.Link g.O.Link g.O.Upstream g.P.Transform c.args.self.now.core c.advance.new.core
    c.args.self.now.course c.advance.new.course
    call.before.pending c.args.cx.now.log.state.pending c.advance.new.cx.log.state.pending
    c.advance.ensures.owes.handles.keeps.setup (call.has.fewer call.sound.covered.plain)
    c.advance.ensures.pays

-- an event that asks sets none
pub returns-clause-rests : goal.returns-clause-rests
returns-clause-rests g c = λ group question asks.
    subst (λ want. MatchWant want ⊤ (λ group question. c.advance.new.cx ≡ c.args.cx.now)) asks
    c.advance.ensures.owes.rests
