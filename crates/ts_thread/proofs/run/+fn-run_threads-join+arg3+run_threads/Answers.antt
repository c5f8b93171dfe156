use Rattle.std.proofs.Common.{subst, ap, ◌∙◌, ◌+◌, ◌*◌, ◌-◌, arith}
use Rattle.ts_queue.specs.declared.view.PassView.{PassView as Known}
use Rattle.ts_queue.specs.Passes.{pass_view}
use Rattle.ts_slot.specs.Words.{tags_of, view}
use Rattle.ts_thread.specs.Seats.{KeepsSeat}
use Rattle.ts_thread.proofs.Ran.{one_more, none_split}
use Rattle.ts_thread.proofs.Joins.{joined_keeps, joined_share, one_and_rest, le_of}
use Rattle.ts_thread.proofs.run.+fn-run_threads-join+arg3+run_threads.Goals as goal

pub returns-clause-back : goal.returns-clause-back
returns-clause-back g t c =
    let share = c.requires.ready.splits.seat_share in
    let pass_share = c.requires.ready.splits.pass_share in
    let some = c.requires.ready.some in
    let first = c.join-one.ensures.first.0 in
    let second = c.join-one.ensures.second.0 in
    let one = view c.join-one.result.0.0 in
    let rest = view c.join-one.result.1.0 in
    record {
      pair = record { of_slots = c.join.ensures.seat; of_queue = c.join-2.ensures.pass.0 };
      keeps = joined_keeps (view c.args.seat) one rest (view c.join.new.into)
          ((c.args.threads - 1) * (2 * c.args.budget)) (2 * c.args.budget)
          (c.args.threads * (2 * c.args.budget)) (omega arith)
          (le_of (2 * c.args.budget + (c.args.threads - 1) * (2 * c.args.budget))
          (c.args.threads * (2 * c.args.budget))
          (one_and_rest c.args.threads (2 * c.args.budget) (omega arith)))
          (subst (λ v. KeepsSeat v one (2 * c.args.budget)) c.split-other_seat.ensures.right first.keeps)
          (subst (λ v. KeepsSeat v rest ((c.args.threads - 1) * (2 * c.args.budget)))
          c.split-other_seat.ensures.left second.keeps)
          c.join.ensures.both;
      share = joined_share (pass_view c.args.pass) (pass_view c.join-one.result.0.1)
          (pass_view c.join-one.result.1.1) (pass_view c.join-2.new.into) (omega arith)
          (first.share ∙ ap (λ (v : Known). v.share) c.in-Ok.ensures.split.1)
          (second.share ∙ ap (λ (v : Known). v.share) c.in-Ok.ensures.kept)
          c.join-2.ensures.both;
    }

pub returns-in_default-clause-ran : goal.returns-in_default-clause-ran
returns-in_default-clause-ran g t c =
    let some = c.requires.ready.some in
    let many = c.if-threads-eq1.false in
    none_split g.W.Slotted.fits g.W.World.asking g.W.World.answers g.W.World.called g.W.World.heard
    g.W.World.left (tags_of c.args.shared.now.slots.now) c.args.budget c.args.threads (omega arith)
    c.args.seat c.args.pass c.split.new.pass c.in_default.ensures.err

pub returns-clause-ran : goal.returns-clause-ran
returns-clause-ran g t c =
    let some = c.requires.ready.some in
    one_more g.W.Slotted.fits g.W.World.asking g.W.World.answers g.W.World.called g.W.World.heard
    g.W.World.left
    (tags_of c.args.shared.now.slots.now) c.args.budget c.args.threads (omega arith)
    c.join-one.result.0.2 c.join-one.result.1.2
    c.args.seat c.join.new.into _ c.join-one.result.0.0 _ c.join-one.result.1.0
    c.args.pass c.join-2.new.into _ c.join-one.result.0.1 _ c.join-one.result.1.1
    (record {
      one_seat = c.split-other_seat.ensures.right;
      rest_seat = c.split-other_seat.ensures.left;
      one_part = c.in-Ok.ensures.split.1;
      rest_part = c.in-Ok.ensures.kept;
    })
    (record { seats = c.join.ensures.both; passes = c.join-2.ensures.both })
    c.join-one.ensures.second.1
    c.join-one.ensures.first.1
