use Rattle.std.proofs.Common.{ap, sym, subst}
use Rattle.ts_slot.specs.Words.{tags_of}
use Rattle.ts_thread.specs.Ran.{TellsRun}
use Rattle.ts_thread.proofs.Ran.{tells_alone}
use Rattle.ts_thread.proofs.run.run_thread.Goals as goal

pub returns-clause-ran : goal.returns-clause-ran
returns-clause-ran g c =
    let back = c.into_parts-seat.result in
    let tags = tags_of c.args.shared.now.slots.now in
    subst
    (λ b. TellsRun g.W.Slotted.fits g.W.World.asking g.W.World.answers g.W.World.called
    g.W.World.heard g.W.World.left tags c.args.budget b
    c.args.seat c.args.pass back.0 back.1)
    (sym c.is_ok.ensures.value)
    (tells_alone g.W.Slotted.fits g.W.World.asking g.W.World.answers g.W.World.called g.W.World.heard
    g.W.World.left tags c.args.budget
    (tags_of c.in-Ok.thread.slots.now) (ap (λ s. tags_of s.now) c.in-Ok.ensures.tables.0)
    c.run-ended.result c.in-Ok.thread.desk c.run-ended.new.self.desk c.args.seat back.0 c.args.pass back.1
    c.in-Ok.ensures.desk
    (sym c.into_parts-seat.ensures.same.0, sym c.into_parts-seat.ensures.same.1)
    c.run-ended.ensures.ran c.run-ended.ensures.err)
