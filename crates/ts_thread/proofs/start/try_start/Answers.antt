use Rattle.std.proofs.Common.{subst}
use Rattle.ts_lists.proofs.Places.{place_below}
use Rattle.ts_journal.specs.declared.entry.TheConstants.{GREATEST}
use Rattle.ts_slot.specs.Words.{tags_of, view}
use Rattle.ts_thread.specs.News.{HasPlaceAt}
use Rattle.ts_thread.specs.Started.{IsFirst, Started}
use Rattle.ts_thread.proofs.Seats.{won_left}
use Rattle.ts_thread.proofs.start.try_start.Goals as goal

pub try_enter-requires-clause-group : goal.try_enter-requires-clause-group
try_enter-requires-clause-group g c = place_below (tags_of c.args.shared.now.slots.now) c.args.k c.requires.tag.0
    c.requires.tag.1

pub returns-in_err-start_won-clause-keeps : goal.returns-in_err-start_won-clause-keeps
returns-in_err-start_won-clause-keeps g c = record {
  desk = record {
    seat = won_left (view c.args.desk.now.seat) (view c.try_enter.new.seat)
        (view c.start_won.new.desk.seat) c.args.k c.in-Ok.turn.number c.in-Ok.turn.boxed.value
        c.in-Ok.ensures.won c.start_won.ensures.leaves.seat;
    share = c.start_won.ensures.leaves.share;
  };
  places = record {
    wheel = c.start_won.ensures.leaves.places.wheel;
    put = c.start_won.ensures.leaves.places.put;
    taken = c.start_won.ensures.leaves.places.taken;
    spent = c.start_won.ensures.leaves.places.spent;
  };
}

pub returns-clause-keeps : goal.returns-clause-keeps
returns-clause-keeps g c = record {
  desk = record {
    seat = won_left (view c.args.desk.now.seat) (view c.try_enter.new.seat)
        (view c.start_won.new.desk.seat) c.args.k c.in-Ok.turn.number c.in-Ok.turn.boxed.value
        c.in-Ok.ensures.won c.start_won.ensures.leaves.seat;
    share = c.start_won.ensures.leaves.share;
  };
  places = record {
    wheel = c.start_won.ensures.leaves.places.wheel;
    put = c.start_won.ensures.leaves.places.put;
    taken = c.start_won.ensures.leaves.places.taken;
    spent = c.start_won.ensures.leaves.places.spent;
  };
}

pub returns-clause-started : goal.returns-clause-started
returns-clause-started g c done = subst (Started g.row.W-Question.Denot
    g.row.W-Reply.Denot g.row.W-Trace.Denot g.W.Slotted.fits
    (IsFirst g.W.World.is_first (tags_of c.args.shared.now.slots.now)) g.W.World.begun g.W.World.sound
    (HasPlaceAt GREATEST c.start_won.new.desk) (view c.start_won.new.desk.seat).known)
    c.in-Ok.ensures.turn.0 c.in_ok-start_won.ensures.started
