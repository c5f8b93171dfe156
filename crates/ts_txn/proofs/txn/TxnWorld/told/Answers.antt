-- A transaction is told what came of its question, and stands again.
use Rattle.std.proofs.Common.{refl, sym, ◌∙◌}
use Rattle.ts_txn.proofs.Told.{asks_phased, asks_told, room_told, told_due, told_led, hears_falls, told_sound}
use Rattle.ts_txn.proofs.Told.{told_started, told_within}
use Rattle.ts_txn.proofs.txn.TxnWorld.told.Goals as goal

pub unreachable-requires : goal.unreachable-requires
unreachable-requires g c =
    asks_phased g.C.Link g.O.Link g.O.Upstream g.P.Transform c.args.self.now.core c.args.self.now.main
    c.args.self.now.course c.args.cx.now c.args.asked c.requires.asking
    (λ p is. c.in_default.not-Phased p (c.replace-was.ensures.value ∙ is))

pub told_step-step-requires : goal.told_step-step-requires
told_step-step-requires g c = record {
  asks = asks_told g.C.Link g.O.Link g.O.Upstream g.P.Transform c.args.self.now.core c.args.self.now.main
      c.args.self.now.course c.args.cx.now c.args.asked c.requires.asking c.in-Phased.phase
      (sym c.replace-was.ensures.value ∙ c.in-Phased.is);
  room = room_told g.C.Link g.O.Link g.O.Upstream g.P.Transform c.args.self.now.core c.args.self.now.main
      c.args.self.now.course c.args.cx.now c.args.asked c.requires.asking c.in-Phased.phase
      (sym c.replace-was.ensures.value ∙ c.in-Phased.is);
}

pub returns-clause-sound : goal.returns-clause-sound
returns-clause-sound g c =
    told_sound g.C.Link g.O.Link g.O.Upstream g.P.Transform c.args.self.now.core c.args.self.now.main
    c.args.self.now.course c.args.cx.now c.args.asked c.requires.asking c.in-Phased.phase
    (sym c.replace-was.ensures.value ∙ c.in-Phased.is) c.told_step-step.result c.told_step-step.ensures
    c.after_step.result c.after_step.ensures.course c.after_step.new.main c.after_step.new.cx
    c.after_step.ensures.covered

pub returns-clause-within : goal.returns-clause-within
returns-clause-within g c =
    told_within c.told_step-step.result.next c.args.cx.now c.after_step.new.cx c.requires.turn
    c.after_step.ensures.within

pub returns-clause-hears : goal.returns-clause-hears
returns-clause-hears g c = record {
  heard = record {
    core = refl;
    led = told_led g.C.Link g.O.Link g.O.Upstream g.P.Transform c.args.self.now.core c.args.self.now.main
        c.args.self.now.course c.args.cx.now c.args.asked c.requires.asking c.in-Phased.phase
        (sym c.replace-was.ensures.value ∙ c.in-Phased.is) c.told_step-step.result c.told_step-step.ensures
        c.after_step.result c.after_step.ensures.course c.after_step.new.main c.after_step.new.cx;
    started = told_started g.C.Link g.O.Link g.O.Upstream g.P.Transform c.args.self.now.core
        c.args.self.now.main c.args.self.now.course c.args.cx.now c.args.asked c.requires.asking
        c.in-Phased.phase (sym c.replace-was.ensures.value ∙ c.in-Phased.is) c.told_step-step.result
        c.told_step-step.ensures c.after_step.result c.after_step.ensures.course c.after_step.new.main
        c.after_step.new.cx;
  };
  falls = hears_falls g.C.Link g.O.Link g.O.Upstream g.P.Transform c.args.self.now.core c.args.self.now.main
      c.args.self.now.course c.args.cx.now c.args.asked c.requires.asking c.in-Phased.phase
      (sym c.replace-was.ensures.value ∙ c.in-Phased.is) c.told_step-step.result c.told_step-step.ensures
      c.after_step.result c.after_step.ensures.course c.after_step.new.main c.after_step.new.cx
      c.after_step.ensures.within;
}

pub returns-clause-due : goal.returns-clause-due
returns-clause-due g c =
    told_due g.C.Link g.O.Link g.O.Upstream g.P.Transform c.args.self.now.core c.args.self.now.main
    c.args.self.now.course c.args.cx.now c.args.asked c.requires.asking c.in-Phased.phase
    (sym c.replace-was.ensures.value ∙ c.in-Phased.is) c.told_step-step.result c.told_step-step.ensures
    c.after_step.result c.after_step.ensures.course c.after_step.new.main c.after_step.new.cx
    c.after_step.ensures.due
