-- Bytes were offered, and what was left of them is kept.
use Rattle.std.proofs.Common.{◌≡◌, [], arith}
use Rattle.std.proofs.lemmas.Grind.{common_steps}
use Rattle.ts_tap.specs.Taps.{watching_of}
use Rattle.ts_tap.specs.Watching.{Watching}
use Rattle.ts_tap.proofs.Showing.{shows_offered}
use Rattle.ts_tap.proofs.watch.Watch.offer.Goals as goal

pub returns-clause-shows : goal.returns-clause-shows
returns-clause-shows g c =
    let w = c.args.self.now in
    let none : w.waits.items ≡ [] =
    grind (arith, common_steps, c.if-not-is_empty.false, c.is_empty-2.ensures, w.waits.ok) in
    let mid : Watching g.row.W.Denot =
    record { watcher = c.offer-taken.new.self; waits = w.waits.items; lost = w.lost } in
    shows_offered g.W.Watcher.took g.W.Watcher.lefts (watching_of w) mid (watching_of c.keep-2.new.self)
    c.args.bytes.now c.split_at.result.1.now c.offer-taken.result c.if-self.false none
    c.offer-taken.ensures.offers
    none c.split_at.ensures.back c.keep-2.ensures.keeps
