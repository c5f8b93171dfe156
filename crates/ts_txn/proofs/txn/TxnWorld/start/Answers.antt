-- A transaction that was started is sound, and nothing is done where it was before.
use Rattle.std.proofs.Common.{refl, sym, ◌∙◌}
use Rattle.ts_transform.proofs.Kept.{acts_none}
use Rattle.ts_txn.proofs.Coverage.{fresh_none}
use Rattle.ts_txn.proofs.Handling.{sound_begun}
use Rattle.ts_txn.proofs.Seating.{due_rests}
use Rattle.ts_txn.proofs.txn.TxnWorld.start.Goals as goal

pub returns-clause-sound : goal.returns-clause-sound
returns-clause-sound g c =
    sound_begun g.C.Link g.O.Link g.O.Upstream g.P.Transform c.args.self.now
    (record { core = c.args.self.now.core; main = c.begin.new.main; course = c.begin.result }) c.args.cx.now
    c.begin.new.cx c.requires.sound refl
    (sym c.is_fresh.ensures ∙ c.if-not-is_fresh.false) c.begin.ensures.course c.begin.ensures.covered

pub begin-requires-clause-none : goal.begin-requires-clause-none
begin-requires-clause-none g c =
    fresh_none c.args.self.now.course c.args.self.now.main (sym c.is_fresh.ensures ∙ c.if-not-is_fresh.false)
    c.requires.sound.covered.idles

pub returns-then-not-is_fresh-clause-within : goal.returns-then-not-is_fresh-clause-within
returns-then-not-is_fresh-clause-within g c = acts_none 1 c.args.cx.now c.requires.turn

pub returns-then-not-is_fresh-clause-due : goal.returns-then-not-is_fresh-clause-due
returns-then-not-is_fresh-clause-due g c = due_rests c.args.cx.now 0
