use Rattle.std.proofs.Common.{◌+◌, true, arith}
use Rattle.ts_journal.specs.declared.entry.TheConstants.{GREATEST}
use Rattle.ts_slot.specs.Words.{tags_of, view}
use Rattle.ts_thread.specs.News.{HasPlaceAt}
use Rattle.ts_thread.specs.Started.{IsFirst}
use Rattle.ts_thread.proofs.Starts.{one_more}
use Rattle.ts_thread.proofs.Telling.{place_stays}
use Rattle.ts_thread.proofs.Uses.{keeps_tokens}
use Rattle.ts_thread.proofs.start.start_all.Goals as goal

pub returns-in_err-start_one-clause-keeps : goal.returns-in_err-start_one-clause-keeps
returns-in_err-start_one-clause-keeps g c =
    let low = c.starts-test.true in
    keeps_tokens c.args.desk.now c.starts.desk c.start_one.new.desk c.starts.k 1 c.args.starts (omega arith)
    c.starts.invariant.1 c.start_one.ensures.keeps

pub starts-preserved : goal.starts-preserved
starts-preserved g c =
    let one = c.start_one.ensures in (
      one.desk,
      keeps_tokens c.args.desk.now c.starts.desk c.start_one.new.desk c.starts.k 1 (c.starts.k + 1)
          (omega arith)
          c.starts.invariant.1 one.keeps,
      one_more g.row.W-Question.Denot g.row.W-Reply.Denot g.row.W-Trace.Denot g.W.Slotted.fits
          (IsFirst g.W.World.is_first (tags_of c.args.shared.now.slots.now)) g.W.World.begun g.W.World.sound
          (HasPlaceAt GREATEST c.starts.desk) (HasPlaceAt GREATEST c.start_one.new.desk)
          (view c.starts.desk.seat).known (view c.start_one.new.desk.seat).known c.starts.k
          one.keeps.desk.seat.known
          (λ k p has. place_stays true c.starts.desk c.start_one.new.desk GREATEST k p
          one.keeps.places has)
          c.starts.invariant.2 c.in_ok-start_one.ensures.started,
    )
