-- The loop begins with what waits, which was offered, and each step sees and shows a front of the rest.
use Rattle.std.proofs.Common.{[], length, refl}
use Rattle.ts_tap.specs.Taps.{watching_of}
use Rattle.ts_tap.proofs.Showing.{taps_again}
use Rattle.ts_tap.proofs.Writing.{shows_more}
use Rattle.ts_tap.proofs.tapped.show.Goals as goal

pub loop-rest-init : goal.loop-rest-init
loop-rest-init g c =
    let w = c.args.watch.now in
    let x = c.offer_waits.new.self in
    record {
      gone = [];
      whole = refl;
      taps = taps_again g.W.Watcher.took g.W.Watcher.lefts c.args.sent.now (watching_of w) (watching_of x)
          c.offer_waits.ensures.shows;
      counts = c.offer_waits.ensures.counts;
      went = c.offer_waits.ensures.goes;
      room = c.offer_waits.ensures.room (length c.args.taken.now) c.requires;
    }

pub loop-rest-preserved : goal.loop-rest-preserved
loop-rest-preserved g c =
    shows_more g.W.Watcher.took g.W.Watcher.lefts g.W.Watcher.goes c.args.sent.now c.loop-rest.sent
    c.see-seen.new.self c.args.watch.now c.loop-rest.watch c.offer.new.self c.args.taken.now
    c.loop-rest.rest.now c.see-seen.result.body.now c.see-seen.result.rest.now g.met.W.Watcher.goes_on
    c.loop-rest.invariant
    c.see-seen.ensures c.offer.ensures.shows c.offer.ensures.counts c.offer.ensures.goes c.offer.ensures.room
