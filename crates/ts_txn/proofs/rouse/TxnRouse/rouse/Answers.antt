-- A transaction that was roused is the same, and each of its duties has its event.
use Rattle.std.proofs.Common.{arith, refl}
use Rattle.ts_txn.proofs.Forward.{work_falls, work_sound}
use Rattle.ts_txn.proofs.Promises.{promises_core}
use Rattle.ts_txn.proofs.rouse.TxnRouse.rouse.Goals as goal

pub returns-clause-sound : goal.returns-clause-sound
returns-clause-sound g c =
    work_sound g.C.Link g.O.Link g.O.Upstream g.P.Transform 2 c.args.self.now c.args.cx.now c.rouse_on.new.cx
    c.rouse_on.ensures.keeps c.requires.sound

pub returns-clause-falls : goal.returns-clause-falls
returns-clause-falls g c =
    work_falls g.C.Link g.O.Link g.O.Upstream g.P.Transform 2 c.args.self.now c.args.cx.now c.rouse_on.new.cx
    c.rouse_on.ensures.keeps

pub returns-clause-promises : goal.returns-clause-promises
returns-clause-promises g c =
    promises_core g.C.Link g.O.Link g.O.Upstream c.args.self.now c.args.self.now refl (λ was. was)

pub returns-clause-few : goal.returns-clause-few
returns-clause-few g c = λ tag fits. let few = c.rouse_on.ensures.keeps.few in omega (arith, few)

pub returns-clause-roused : goal.returns-clause-roused
returns-clause-roused g c = record { same = refl; on = c.rouse_on.ensures.rouses }
