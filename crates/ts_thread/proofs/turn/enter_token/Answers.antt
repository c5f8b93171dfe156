use Rattle.std.proofs.Common.{refl, arith}
use Rattle.ts_group.specs.declared.group.Group.{Group}
use Rattle.ts_thread.specs.declared.desk.Desk.{Desk}
use Rattle.ts_slot.specs.Words.{tags_of, view}
use Rattle.ts_thread.specs.declared.TheConstants.{MOST_ENTERED}
use Rattle.ts_thread.specs.Turning.{Serves, Uses}
use Rattle.ts_thread.proofs.Ends.{desk_added}
use Rattle.ts_thread.proofs.Seats.{missed_keeps, won_closed}
use Rattle.ts_thread.proofs.Telling.{keeps_added}
use Rattle.ts_thread.proofs.Uses.{ok_all, uses_of}
use Rattle.ts_thread.proofs.turn.enter_token.Goals as goal

pub returns-in_ok-add-in-Err-clause-desk : goal.returns-in_ok-add-in-Err-clause-desk
returns-in_ok-add-in-Err-clause-desk g c =
    desk_added c.args.shared.now.slots.now c.args.shared.now.queue.now c.args.desk.now
    (record { seat = c.try_enter.new.seat; pass = c.args.desk.now.pass; wheel = c.add.new.self })
    c.args.token c.saturating_add.result c.requires.group c.in-Err.ensures.seat refl
    c.in_ok-add-in-Err.ensures.ok c.requires.desk

pub returns-in_ok-add-in-Err-clause-keeps : goal.returns-in_ok-add-in-Err-clause-keeps
returns-in_ok-add-in-Err-clause-keeps g c =
    record {
      desk = record {
        seat = missed_keeps (view c.args.desk.now.seat) (view c.try_enter.new.seat) c.args.token.group
            c.in-Err.missed.seen MOST_ENTERED c.in-Err.ensures.missed.is;
        share = refl;
      };
      places = keeps_added c.args.desk.now (record
          { seat = c.try_enter.new.seat; pass = c.args.desk.now.pass; wheel = c.add.new.self }) c.args.token
          c.saturating_add.result c.in_ok-add-in-Err.ensures.ok refl;
    }

pub returns-in-Ok-clause-keeps : goal.returns-in-Ok-clause-keeps
returns-in-Ok-clause-keeps g c = record {
  desk = record {
    seat = won_closed (view c.args.desk.now.seat) (view c.try_enter.new.seat)
        (view c.handle_entered.new.desk.seat)
        c.args.token.group c.in-Ok.turn.number 1 2 c.in-Ok.turn.boxed.value (omega arith) c.in-Ok.ensures.won
        c.handle_entered.ensures.closes.seat;
    share = c.handle_entered.ensures.closes.share;
  };
  places = record {
    wheel = c.handle_entered.ensures.closes.places.wheel;
    put =
        c.handle_entered.ensures.closes.places.put;
    taken = c.handle_entered.ensures.closes.places.taken;
    spent = c.handle_entered.ensures.closes.places.spent;
  };
}

pub returns-in-Ok-clause-uses : goal.returns-in-Ok-clause-uses
returns-in-Ok-clause-uses g c =
    let entered : Desk (Group g.row.W.Denot g.row.W-Question.Denot g.row.W-Reply.Denot g.row.W-Tag.Denot
    g.row.W-Trace.Denot) g.row.W-Tag.Denot
    (Group g.row.W.Denot g.row.W-Question.Denot g.row.W-Reply.Denot g.row.W-Tag.Denot g.row.W-Trace.Denot)
    _ = record { seat = c.try_enter.new.seat; pass = c.args.desk.now.pass; wheel = c.args.desk.now.wheel }
    in
    ok_all c.handle_entered.result (Serves g.W.Slotted.fits g.W.World.asking g.W.World.answers
    g.W.World.called
    g.W.World.heard g.W.World.left (tags_of c.args.shared.now.slots.now) c.args.token c.args.moment
    c.in-Ok.turn.number c.in-Ok.turn.found.value entered c.handle_entered.new.desk)
    (Uses g.W.Slotted.fits g.W.World.asking g.W.World.answers g.W.World.called g.W.World.heard
    g.W.World.left (tags_of c.args.shared.now.slots.now) c.args.token c.args.moment c.args.desk.now
    c.handle_entered.new.desk)
    (uses_of g.W.Slotted.fits g.W.World.asking g.W.World.answers g.W.World.called g.W.World.heard
    g.W.World.left (tags_of c.args.shared.now.slots.now) c.args.token c.args.moment c.in-Ok.turn.number
    c.in-Ok.turn.found.value c.in-Ok.turn.boxed.value c.args.desk.now entered c.handle_entered.new.desk
    c.in-Ok.ensures.turn.1 c.in-Ok.ensures.later c.in-Ok.ensures.won refl refl)
    c.handle_entered.ensures.serves
