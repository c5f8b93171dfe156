-- What was tapped, once what waits was offered again.
use Rattle.std.proofs.Common.{subst}
use Rattle.ts_tap.specs.Taps.{HasTapped, Tap, watching_of}
use Rattle.ts_tap.proofs.Showing.{tapped_whole}
use Rattle.ts_tap.proofs.tapped.Tapped.into_parts.Goals as goal

pub returns-clause-tapped : goal.returns-clause-tapped
returns-clause-tapped g c tells =
    let t = c.self.inside in
    let x = c.offer_waits.new.self in
    subst
    (λ (v : Tap g.row.C.Denot g.row.W.Denot). HasTapped g.W.Watcher.took g.W.Watcher.lefts
    (g.C.Link.look v.client).taken v.watch x.watcher)
    c.self.view_is
    (tapped_whole g.W.Watcher.took g.W.Watcher.lefts (g.C.Link.look t.client).taken t.sent
    (watching_of t.watch) (watching_of x) (c.self.invariant.1 tells) c.self.invariant.0
    c.offer_waits.ensures.shows
    c.offer_waits.ensures.counts c.offer_waits.ensures.lost)
