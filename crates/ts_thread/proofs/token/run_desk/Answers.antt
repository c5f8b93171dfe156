use Rattle.std.proofs.Common.{Some, sym, ap, ◌∙◌, ◌*◌, ◌+◌, arith}
use Rattle.ts_lists.proofs.Results.{on_err_any}
use Rattle.ts_slot.specs.Words.{tags_of}
use Rattle.ts_thread.specs.declared.did.Did.TheVariants as did
use Rattle.ts_thread.proofs.Uses.{keeps_desk, first_none, not_idle, turns_more, counts_on, did_counts}
use Rattle.ts_thread.proofs.token.run_desk.Goals as goal
use Rattle.ts_thread.proofs.token.run_desk.Goals.{in-Idle+in-Some, in_default}

pub returns-in_err-did-clause-keeps : goal.returns-in_err-did-clause-keeps
returns-in_err-did-clause-keeps g c =
    let low = c.turns-test.true in
    keeps_desk c.args.desk.now c.turns.desk c.turn_desk.new.desk (2 * c.turns.made) 2 (2 * c.args.budget)
    (omega arith) c.turns.invariant.1 c.turn_desk.ensures.keeps

pub returns-in_err-did-clause-err : goal.returns-in_err-did-clause-err
returns-in_err-did-clause-err g c =
    let low = c.turns-test.true in
    on_err_any c.from_residual.result (
      c.turns.made,
      omega arith,
      c.turns.desk,
      c.turns.moment,
      c.turns.invariant.3,
      c.in_err-did.ensures.err,
    )

pub returns-in_default-next_due-clause-ran : goal.returns-in_default-next_due-clause-ran
returns-in_default-next_due-clause-ran g c =
    let low = c.turns-test.true in
    let idle = rw c.in-Idle.is at c.in_ok-did.ensures.did in (
      c.turns.made,
      omega arith,
      c.turns.desk,
      c.turns.moment,
      c.turns.invariant.3,
      idle,
      first_none c.turn_desk.new.desk.wheel (sym c.in_default-next_due.ensures),
    )

pub turns-preserved : goal.turns-preserved
turns-preserved g c =
    let low = c.turns-test.true in
    let desk = c.turn_desk.ensures in (
      desk.desk,
      keeps_desk c.args.desk.now c.turns.desk c.turn_desk.new.desk (2 * c.turns.made) 2
          (2 * (c.turns.made + 1)) (omega arith) c.turns.invariant.1 desk.keeps,
      omega arith,
      elim c.match-did.branch [
        | in-Idle+in-Some w ↦
            let idle = rw w.in-Idle.is at c.in_ok-did.ensures.did in
            turns_more g.W.Slotted.fits g.W.World.asking g.W.World.answers g.W.World.called g.W.World.heard
            g.W.World.left (tags_of c.args.shared.now.slots.now) c.turns.made c.args.desk.now c.turns.desk
            c.turn_desk.new.desk c.turns.moment c.match-did.moment did.Idle c.turns.invariant.3 idle
            (sym w.next_due.ensures ∙ w.in-Some.is ∙ ap Some (sym w.moment-is))
        | in_default w ↦
            turns_more g.W.Slotted.fits g.W.World.asking g.W.World.answers g.W.World.called g.W.World.heard
            g.W.World.left (tags_of c.args.shared.now.slots.now) c.turns.made c.args.desk.now c.turns.desk
            c.turn_desk.new.desk c.turns.moment c.match-did.moment c.in_ok-did.did c.turns.invariant.3
            c.in_ok-did.ensures.did
            (not_idle c.in_ok-did.did c.turn_desk.new.desk.wheel c.turns.moment c.match-did.moment
            w.in_default.not-Idle w.moment-is)
      ],
      counts_on g.W.Slotted.fits g.W.World.asking g.W.World.answers g.W.World.called g.W.World.heard
          g.W.World.left (tags_of c.args.shared.now.slots.now) c.turns.made c.args.desk.now c.turns.desk
          c.turn_desk.new.desk c.turns.invariant.4
          (did_counts g.W.Slotted.fits g.W.World.asking g.W.World.answers g.W.World.called g.W.World.heard
          g.W.World.left (tags_of c.args.shared.now.slots.now) c.turns.moment c.turns.desk c.turn_desk.new.desk
          c.in_ok-did.did c.in_ok-did.ensures.did),
    )
