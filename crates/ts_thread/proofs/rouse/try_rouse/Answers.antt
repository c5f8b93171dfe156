-- The seat got one turn where it won the group, and what was roused is the group k.
use Rattle.std.proofs.Common.{subst}
use Rattle.ts_lists.proofs.Places.{place_below}
use Rattle.ts_slot.specs.Words.{tags_of, view}
use Rattle.ts_thread.specs.News.{HasPlaceAt}
use Rattle.ts_thread.specs.Started.{IsFirst, Roused}
use Rattle.ts_thread.proofs.Seats.{won_left}
use Rattle.ts_thread.proofs.rouse.try_rouse.Goals as goal

pub try_enter-requires-clause-group : goal.try_enter-requires-clause-group
try_enter-requires-clause-group g c = place_below (tags_of c.args.shared.now.slots.now) c.args.k c.requires.tag.0
    c.requires.tag.1

pub returns-in_err-rouse_won-clause-keeps : goal.returns-in_err-rouse_won-clause-keeps
returns-in_err-rouse_won-clause-keeps g c = record {
  desk = record {
    seat = won_left (view c.args.desk.now.seat) (view c.try_enter.new.seat)
        (view c.rouse_won.new.desk.seat) c.args.k c.in-Ok.turn.number c.in-Ok.turn.boxed.value
        c.in-Ok.ensures.won c.rouse_won.ensures.leaves.seat;
    share = c.rouse_won.ensures.leaves.share;
  };
  places = record {
    wheel = c.rouse_won.ensures.leaves.places.wheel;
    put = c.rouse_won.ensures.leaves.places.put;
    taken = c.rouse_won.ensures.leaves.places.taken;
    spent = c.rouse_won.ensures.leaves.places.spent;
  };
}

pub returns-clause-keeps : goal.returns-clause-keeps
returns-clause-keeps g c = record {
  desk = record {
    seat = won_left (view c.args.desk.now.seat) (view c.try_enter.new.seat)
        (view c.rouse_won.new.desk.seat) c.args.k c.in-Ok.turn.number c.in-Ok.turn.boxed.value
        c.in-Ok.ensures.won c.rouse_won.ensures.leaves.seat;
    share = c.rouse_won.ensures.leaves.share;
  };
  places = record {
    wheel = c.rouse_won.ensures.leaves.places.wheel;
    put = c.rouse_won.ensures.leaves.places.put;
    taken = c.rouse_won.ensures.leaves.places.taken;
    spent = c.rouse_won.ensures.leaves.places.spent;
  };
}

pub returns-clause-roused : goal.returns-clause-roused
returns-clause-roused g c done = subst (Roused g.row.W-Question.Denot
    g.row.W-Reply.Denot g.row.W-Trace.Denot g.W.Slotted.fits
    (IsFirst g.W.World.is_first (tags_of c.args.shared.now.slots.now)) g.W.World.sound
    (HasPlaceAt c.args.moment c.rouse_won.new.desk) (view c.rouse_won.new.desk.seat).known)
    c.in-Ok.ensures.turn.0 c.in_ok-rouse_won.ensures.roused
