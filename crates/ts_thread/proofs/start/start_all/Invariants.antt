use Rattle.ts_journal.specs.declared.entry.TheConstants.{GREATEST}
use Rattle.ts_slot.specs.Words.{tags_of, view}
use Rattle.ts_thread.specs.Desks.{IsDeskOf, KeepsTokens}
use Rattle.ts_thread.specs.News.{HasPlaceAt}
use Rattle.ts_thread.specs.Started.{IsFirst, AllStarted}
use Rattle.ts_thread.proofs.start.start_all.Given as goal

abbrev pub invariant-starts : goal.invariant-starts
invariant-starts g l =
    IsDeskOf l.shared.slots.now l.shared.queue.now l.desk × KeepsTokens l.initial.desk l.desk l.k
    × AllStarted g.row.W-Question.Denot g.row.W-Reply.Denot g.row.W-Trace.Denot g.W.Slotted.fits
    (IsFirst g.W.World.is_first (tags_of l.shared.slots.now)) g.W.World.begun g.W.World.sound
    (HasPlaceAt GREATEST l.desk) (view l.desk.seat).known l.k
