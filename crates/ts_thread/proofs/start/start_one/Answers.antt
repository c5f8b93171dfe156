use Rattle.std.proofs.Common.{subst, arith}
use Rattle.std.specs.Prelude.{OnOk}
use Rattle.ts_lists.proofs.Places.{place_below}
use Rattle.ts_journal.specs.declared.entry.TheConstants.{GREATEST}
use Rattle.ts_slot.specs.Words.{tags_of, view}
use Rattle.ts_thread.specs.News.{HasPlaceAt}
use Rattle.ts_thread.specs.Started.{IsFirst, Started}
use Rattle.ts_thread.proofs.Starts.{entered_left, entered_won}
use Rattle.ts_thread.proofs.start.start_one.Goals as goal

pub enter_at-turn-requires-clause-group : goal.enter_at-turn-requires-clause-group
enter_at-turn-requires-clause-group g c =
    let tag = c.requires.tags c.args.k (omega arith) in place_below (tags_of c.args.shared.now.slots.now) c.args.k tag.0
    tag.1

pub start_won-requires-clause-won : goal.start_won-requires-clause-won
start_won-requires-clause-won g c = entered_won (tags_of c.args.shared.now.slots.now) c.args.k
    (view c.args.desk.now.seat) (view c.enter_at-turn.new.seat) c.enter_at-turn.result
    c.enter_at-turn.ensures.entered

pub returns-clause-keeps : goal.returns-clause-keeps
returns-clause-keeps g c = record {
  desk = record {
    seat = entered_left (tags_of c.args.shared.now.slots.now) c.args.k (view c.args.desk.now.seat)
        (view c.enter_at-turn.new.seat) (view c.start_won.new.desk.seat) c.enter_at-turn.result
        c.enter_at-turn.ensures.entered c.start_won.ensures.leaves.seat;
    share = c.start_won.ensures.leaves.share;
  };
  places = record {
    wheel = c.start_won.ensures.leaves.places.wheel;
    put = c.start_won.ensures.leaves.places.put;
    taken = c.start_won.ensures.leaves.places.taken;
    spent = c.start_won.ensures.leaves.places.spent;
  };
}

pub returns-clause-started : goal.returns-clause-started
returns-clause-started g c = subst (λ k. OnOk c.start_won.result (Started g.row.W-Question.Denot
    g.row.W-Reply.Denot g.row.W-Trace.Denot g.W.Slotted.fits
    (IsFirst g.W.World.is_first (tags_of c.args.shared.now.slots.now)) g.W.World.begun g.W.World.sound
    (HasPlaceAt GREATEST c.start_won.new.desk) (view c.start_won.new.desk.seat).known k))
    c.enter_at-turn.ensures.entered.group c.start_won.ensures.started
